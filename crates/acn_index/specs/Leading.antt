-- What a name leads to in a module, and what stands along the chain of a type, as rules without a bound (X.680 clauses 13 and 17).
use Rattle.std.specs.Prelude.{◌≡◌, ℕ, suc, Bool, List, [], ◌∷◌, Some, None}
use Rattle.acn_asn_syntax.specs.Mirror.{Assign}
use Rattle.acn_num.specs.Names.{Name}
use Rattle.acn_index.specs.World.{World}
use Rattle.acn_index.specs.Lookup.{own, imported_from, found}
use Rattle.acn_index.specs.Chains.{Link, next_link, links}
use Rattle.acn_index.specs.declared.sources.TypeId.{TypeId}

-- A name leads in a module to the module's own assignment, else to what it leads to in the module from which it is imported. Here
-- it does by so many imports.
pub data Leads (w : World) (test : Assign → Bool) (name : Name) : ℕ → ℕ → TypeId → Type 0 where
  by_assignment : {k : ℕ} {p : TypeId} → own w test k ≡ Some p → Leads w test name 0 k p
  by_import : {n k j : ℕ} {p : TypeId} → own w test k ≡ None → imported_from w name k ≡ Some j → Leads w test name n j p → Leads w test name (suc n) k p

-- a look-up finds exactly what a name leads to, by however many imports
pub record FindsWhatNamesLeadTo (w : World) (test : Assign → Bool) (name : Name) (k : ℕ) (p : TypeId) : Type 0 where
  pub found_leads : found w test name k ≡ Some p → (n : ℕ) × Leads w test name n k p
  pub leads_found : (n : ℕ) → Leads w test name n k p → found w test name k ≡ Some p

abbrev pub LookupsFindWhatNamesLeadTo : Type 0
LookupsFindWhatNamesLeadTo = (w : World) (test : Assign → Bool) (name : Name) (k : ℕ) (p : TypeId) → FindsWhatNamesLeadTo w test name k p

-- the chain of a type goes from reference to reference up to a type that leads to no other
pub data IsChain (w : World) : Link → List Link → Type 0 where
  ends : {l : Link} → next_link w l ≡ None → IsChain w l (l ∷ [])
  goes_on : {l next : Link} {ls : List Link} → next_link w l ≡ Some next → IsChain w next ls → IsChain w l (l ∷ ls)

-- where a chain ends, its links are all of it
abbrev pub LinksAreTheWholeChain : Type 0
LinksAreTheWholeChain = (w : World) (l : Link) (ls : List Link) → IsChain w l ls → links w l ≡ ls
