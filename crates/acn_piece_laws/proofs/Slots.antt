-- Numbers that aren't in the value: their widths, and what is asked of them.
use Rattle.std.proofs.Common.{◌≡◌, ℕ, ℤ, pos, Bool, true, false, ◌||◌, List, [], ◌∷◌, length, Option, Some, refl, sym, ap, ◌∙◌, arith, subst, nat_eq, inl, inr, ◌⊎◌, IsTrue}
use Rattle.std.specs.Prelude.{◌≤ℤ◌, if◌then◌else◌, unwrap_or, option_map}
use Rattle.std.specs.List.{AllByRecursion, zip}
use Rattle.std.proofs.lemmas.Bool.{eqb-true, and_parts}
use Rattle.std.proofs.lemmas.Int.{ints}
use Rattle.acn_num.specs.Ranges.{In}
use Rattle.acn_grammar.specs.Asks.{Ask}
use Rattle.acn_grammar.specs.AsksOn.{LeastAnswer}
use Rattle.acn_grammar.specs.Check.{HasWidth}
use Rattle.acn_grammar.specs.Code.{Mode, Written, Any}
use Rattle.acn_grammar.specs.Env.{Env, at_slot}
use Rattle.acn_grammar.specs.Grammar.{Grammar}
use Rattle.acn_grammar.specs.Leaves.{num_fine, is_range, no_items}
use Rattle.acn_grammar.specs.Length.{num_length, least}
use Rattle.acn_grammar.specs.Slots.{domain_of, slot_leaf}
use Rattle.acn_grammar.specs.Spell.{with_home}
use Rattle.acn_grammar.specs.Tree.{holds}
use Rattle.acn_grammar.specs.declared.node.NumKind.TheVariants.{Null}
use Rattle.acn_grammar.specs.declared.node.NumLeaf.{NumLeaf}
use Rattle.acn_grammar.proofs.FineLeaves.{rules_of}
use Rattle.acn_grammar.proofs.HasImage.{range_within}
use Rattle.acn_grammar.proofs.LeafLengths.{code-length}
use Rattle.acn_packet_laws.specs.Laws.{EachNumberHasACode}
use Rattle.acn_pieces.proofs.CanWalkLaw.{least_in}
use Rattle.acn_piece_laws.specs.Meanings.{wants_here}

-- where all codes have one length, each has that of the least number
pub one_width : EachNumberHasACode → (leaf : NumLeaf) → IsTrue (num_fine leaf) → (w : ℕ) → HasWidth leaf w → (x : ℤ) → In leaf.set x → num_length leaf x ≡ num_length leaf (least leaf.set)
one_width coded leaf fine w h x p = length_is x p ∙ sym (length_is (least leaf.set) (least_in leaf fine))
  where
    length_is : (z : ℤ) → In leaf.set z → num_length leaf z ≡ w
    length_is z q = let c = coded Any leaf fine z q in sym (code-length Any leaf fine z c.0 c.1) ∙ h z c.0 c.1

-- a NULL has the number 0 alone
pub null_width : (leaf : NumLeaf) → IsTrue (num_fine leaf) → leaf.kind ≡ Null → (x : ℤ) → In leaf.set x → num_length leaf x ≡ num_length leaf (least leaf.set)
null_width leaf fine k x p =
    let set = rw k at (rules_of leaf fine).set in
    let f = and_parts (is_range (pos 0) (pos 0) leaf.set) (no_items leaf.items) set in
    let one = range_within (pos 0) (pos 0) leaf.set x f.0 p in
    let two = range_within (pos 0) (pos 0) leaf.set (least leaf.set) f.0 (least_in leaf fine) in
    ap (num_length leaf) (same x (least leaf.set) one.0 one.1 two.0 two.1)
  where
    same : (x y : ℤ) → pos 0 ≤ℤ x → x ≤ℤ pos 0 → pos 0 ≤ℤ y → y ≤ℤ pos 0 → x ≡ y
    same x y a b c d = omega (arith, ints)

-- the number of a slot is that of a slot at home here, or else the one that it had
from_home : (P : ℕ → ℤ → Type 0) (home : List ℕ) (xs : List ℤ) (env : Env) (s : ℕ) (x : ℤ) → length xs ≡ length home → AllByRecursion (λ e. P e.0 e.1) (zip home xs) → at_slot (with_home home xs env) s ≡ Some x
    → ((holds home s ≡ true) × P s x) ⊎ ((holds home s ≡ false) × (at_slot env s ≡ Some x))
from_home P [] xs env s x l h e = inr (refl, e)
from_home P (t ∷ home) [] env s x l h e = absurd (omega arith)
from_home P (t ∷ home) (y ∷ xs) env s x l h e = by (nat_eq t s) refl e (λ q. from_home P home xs env s x (omega arith) h.1 q)
  where
    by : (b : Bool) → nat_eq t s ≡ b → (if b then Some y else at_slot (with_home home xs env) s) ≡ Some x → (at_slot (with_home home xs env) s ≡ Some x → ((holds home s ≡ true) × P s x) ⊎ ((holds home s ≡ false) × (at_slot env s ≡ Some x)))
        → (((b || holds home s) ≡ true) × P s x) ⊎ (((b || holds home s) ≡ false) × (at_slot env s ≡ Some x))
    by true q e rest = (let same : y ≡ x = cc in inl (refl, subst (λ z. P s z) same (subst (λ n. P n y) (eqb-true t s q) h.0)))
    by false q e rest = rest e

module _ (root : Grammar) (mode : Mode) where
  -- where numbers are written, each is the least that meets what is asked of its slot
  abbrev pub AreLeast : (wants : ℕ → List Ask) → Env → Type 0
  AreLeast wants env = mode ≡ Written → (s : ℕ) (x : ℤ) → at_slot env s ≡ Some x → LeastAnswer (domain_of root s) (wants s) x

  pub home_least : (home : List ℕ) (xs : List ℤ) (env : Env) (here wants : ℕ → List Ask) → length xs ≡ length home → (mode ≡ Written → AllByRecursion (λ e. LeastAnswer (domain_of root e.0) (here e.0) e.1) (zip home xs)) → AreLeast wants env → AreLeast (wants_here home here wants) (with_home home xs env)
  home_least home xs env here wants l least old w s x e = by (from_home (λ s x. LeastAnswer (domain_of root s) (here s) x) home xs env s x l (least w) e)
    where
      by : ((holds home s ≡ true) × LeastAnswer (domain_of root s) (here s) x) ⊎ ((holds home s ≡ false) × (at_slot env s ≡ Some x)) → LeastAnswer (domain_of root s) (wants_here home here wants s) x
      by (inl h) = rw h.0 h.1
      by (inr h) = rw h.0 (old w s x h.1)

  pub domain_is : (s : ℕ) (leaf : NumLeaf) → slot_leaf root s ≡ Some leaf → domain_of root s ≡ leaf.set
  domain_is s leaf e = ap (λ (o : Option NumLeaf). unwrap_or (option_map (λ leaf. leaf.set) o) []) e
