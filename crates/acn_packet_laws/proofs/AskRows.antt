-- Values whose conditions and sizes ask for numbers that can't be had.
use Rattle.std.proofs.Common.{◌≡◌, zero, suc, ℤ, pos, negsuc, true, List, [], ◌∷◌, ◌++◌, Some, None, refl, arith}
use Rattle.std.proofs.lemmas.Int.{ints}
use Rattle.std.proofs.lemmas.Bool.Decides.{nat_tests}
use Rattle.acn_num.specs.Ranges.{In}
use Rattle.acn_grammar.specs.Grammar.{Grammar, Data, node, seq, inserted, no_fields, octet_string, record_of, no_places, empty, filled}
use Rattle.acn_grammar.specs.Asks.{Ask, Equal, Avoid, Moment, asks}
use Rattle.acn_grammar.specs.Meets.{conflict}
use Rattle.acn_grammar.specs.Refused.{Refused, CanBeMet, IsAsked, Contradicts}
use Rattle.acn_grammar.specs.Tree.{is_tree}
use Rattle.acn_grammar.specs.declared.node.Presence.TheVariants.{When}
use Rattle.acn_grammar.specs.declared.node.Test.TheVariants.{Equals}
use Rattle.acn_grammar.specs.declared.node.NumCoding.TheVariants.{Range, PosInt}
use Rattle.acn_packet_laws.proofs.Trees.{shared, integer, null_as, one}

-- a list of one has nothing in front of it
pub only : {A : Type 0} (early late : List A) (m x : A) → x ∷ [] ≡ early ++ m ∷ late → (early ≡ []) × (m ≡ x)
only [] late m x e = (refl, cc)
only (y ∷ []) late m x e = cc
only (y ∷ z ∷ early) late m x e = cc

abbrev root : Grammar
root = shared (0 ∷ [])

-- x has one octet and y two, and both ask for len
abbrev uneven : Data
uneven = record_of (filled (octet_string (1 ∷ [])) (filled (octet_string (2 ∷ 3 ∷ [])) no_places))

first_ask : Moment
first_ask = asks (1 ∷ []) (0 ∷ []) 0 (Equal (pos 1))

one_met : CanBeMet root [] (asks (1 ∷ []) (0 ∷ []) 0 (Equal (pos 1)))
one_met = (pos 1, record { permitted = refl; meets = (refl, tt) })

pub uneven_refused : Refused root uneven (record { path = 2 ∷ []; why = conflict (0 ∷ []) (Some (Equal (pos 1))) (Equal (pos 2)) })
uneven_refused = record {
  before = asks (1 ∷ []) (0 ∷ []) 0 (Equal (pos 1)) ∷ [];
  here = asks (2 ∷ []) (0 ∷ []) 0 (Equal (pos 2));
  after = [];
  whole = refl;
  met = λ early late m e.
      let o = only early late m (asks (1 ∷ []) (0 ∷ []) 0 (Equal (pos 1))) e in
      rw (o.0, o.1) one_met;
  unmet = λ h. let p = h.1.meets.0 in let q = h.1.meets.1.0 in omega (arith, ints);
  says = (Some (Equal (pos 1)), (record { early = []; late = []; is = refl }, λ e. cc), refl);
}

-- x from 0 to 1, p NULL OPTIONAL where x is 0, q where x is 1
abbrev either : Grammar
either = node 1 (seq (inserted (120 ∷ []) (integer (pos 0) (pos 1) (PosInt 1)) (Some 0) (one 112 (null_as (Range (pos 0) 0)) (When (Equals 0 (pos 0) ∷ [])) (one 113 (null_as (Range (pos 0) 0)) (When (Equals 0 (pos 1) ∷ [])) no_fields))) (0 ∷ []))

either_is : is_tree either ≡ true
either_is = refl

one_left : CanBeMet either [] (asks (1 ∷ []) (0 ∷ []) 0 (Avoid (pos 0)))
one_left = (pos 1, record { permitted = refl; meets = ((λ e. cc), tt) })

pub none_left : (x : ℤ) → In ((pos 0, pos 1) ∷ []) x → (x ≡ pos 0 → ⊥) → (x ≡ pos 1 → ⊥) → ⊥
none_left (pos zero) h p q = p refl
none_left (pos (suc zero)) h p q = q refl
none_left (pos (suc (suc n))) h p q = grind (arith, ints, nat_tests)
none_left (negsuc n) h p q = grind (arith, ints, nat_tests)

no_contradiction : (a : Ask) → IsAsked (Avoid (pos 0) ∷ []) a → Contradicts a (Avoid (pos 1)) → ⊥
no_contradiction (Equal n) b c = let o = (only b.early b.late (Equal n) (Avoid (pos 0)) b.is).1 in cc
no_contradiction (Avoid n) b c = c

-- neither is there: x is neither 0 nor 1
pub neither : Refused either (record_of (empty (empty no_places))) (record { path = 2 ∷ []; why = conflict (0 ∷ []) None (Avoid (pos 1)) })
neither = record {
  before = asks (1 ∷ []) (0 ∷ []) 0 (Avoid (pos 0)) ∷ [];
  here = asks (2 ∷ []) (0 ∷ []) 0 (Avoid (pos 1));
  after = [];
  whole = refl;
  met = λ early late m e.
      let o = only early late m (asks (1 ∷ []) (0 ∷ []) 0 (Avoid (pos 0))) e in
      rw (o.0, o.1) one_left;
  unmet = λ h. none_left h.0 h.1.permitted (h.1.meets.0) (h.1.meets.1.0);
  says = (None, (λ a b c. no_contradiction a b c), refl);
}
