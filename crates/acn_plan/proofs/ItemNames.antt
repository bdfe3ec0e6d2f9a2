-- The items by which a CHOICE is told, found by their names.
use Rattle.std.proofs.Common.{◌≡◌, ℕ, suc, ◌+◌, ◌<◌, ◌^◌, ℤ, Bool, true, false, List, [], ◌∷◌, length, Some, cond, Result, Ok, Err, refl, sym, ap, ◌∙◌, arith, nat_eq}
use Rattle.std.specs.Prelude.{if◌then◌else◌}
use Rattle.std.specs.Result.{OkIff, result_ok}
use Rattle.std.specs.Cmp.{both_ways}
use Rattle.std.specs.Str.{bytes_eq}
use Rattle.std.proofs.lemmas.Bool.Decides.{nat_tests}
use Rattle.std.proofs.lemmas.Slice.Eq.{bytes_eq-Decides}
use Rattle.acn_firsts.specs.Placed.{place_of}
use Rattle.acn_grammar.specs.Asks.{same_name}
use Rattle.acn_grammar.specs.Grammar.{Grammar}
use Rattle.acn_grammar.specs.Slots.{items_of}
use Rattle.acn_grammar.specs.declared.node.ChoiceRule.{ChoiceRule}
use Rattle.acn_grammar.specs.declared.node.ChoiceRule.TheVariants.{Index, Tests, Item}
use Rattle.acn_grammar.proofs.Characters.{same_name-is}
use Rattle.acn_plan.specs.Program.{numbered, item_places}
use Rattle.acn_plan.specs.Steps.{item_named, item_for}

same_refl : (xs : List ℕ) → same_name xs xs ≡ true
same_refl [] = refl
same_refl (x ∷ xs) = (let e : nat_eq x x ≡ true = grind (arith, nat_tests) in rw e (same_refl xs))

same_bytes : (a b : List ℕ) → bytes_eq a b ≡ same_name b a
same_bytes a b = both_ways (bytes_eq a b) (same_name b a)
    (λ h. ap (λ x. same_name x a) (sym ((bytes_eq-Decides a b).0 h)) ∙ same_refl a)
    (λ h. (bytes_eq-Decides a b).1 (sym (same_name-is b a h)))

placed : (name : List ℕ) (i : ℕ) (items : List (List ℕ × ℤ)) → place_of name (numbered i items) ≡ item_named name i items
unfolding place_of
placed name i [] = refl
placed name i (item ∷ items) = one (bytes_eq name item.0) refl (placed name (i + 1) items)
  where
    one : (b : Bool) → bytes_eq name item.0 ≡ b → place_of name (numbered (i + 1) items) ≡ item_named name (i + 1) items
        → cond b (Some i) (place_of name (numbered (i + 1) items)) ≡ (if same_name item.0 name then Some i else item_named name (i + 1) items)
    one true e h = rw (sym (same_bytes name item.0) ∙ e) refl
    one false e h = rw (sym (same_bytes name item.0) ∙ e) h

pub found : (root : Grammar) (rule : ChoiceRule) (name : List ℕ) → place_of name (item_places root rule) ≡ item_for root rule name
unfolding place_of
found root (Index width) name = refl
found root Tests name = refl
found root (Item s) name = placed name 0 (items_of root s)

-- an index is one of the items'
below : (name : List ℕ) (i k : ℕ) (items : List (List ℕ × ℤ)) → item_named name i items ≡ Some k → k < i + length items
below name i k [] h = absurd (cc)
below name i k (item ∷ items) h = one (same_name item.0 name) h (below name (i + 1) k items)
  where
    one : (b : Bool) → (if b then Some i else item_named name (i + 1) items) ≡ Some k → (item_named name (i + 1) items ≡ Some k → k < i + 1 + length items) → k < i + suc (length items)
    one true h f = (let e : i ≡ k = cc in omega (arith, e))
    one false h f = (let p = f h in omega (arith, p))

pub item_below : (root : Grammar) (rule : ChoiceRule) (name : List ℕ) (k : ℕ) → ((s : ℕ) → length (items_of root s) < 2 ^ 32) → item_for root rule name ≡ Some k → k < 2 ^ 32
item_below root (Index width) name k few h = absurd (cc)
item_below root Tests name k few h = absurd (cc)
item_below root (Item s) name k few h = (let p = below name 0 k (items_of root s) h in let q = few s in omega (arith, p, q))

-- a number that fits is what it is turned into
pub fits : {E : Type 0} (r : Result ℕ E) (k : ℕ) → OkIff r (k < 2 ^ 32) k → k < 2 ^ 32 → result_ok r ≡ Some k
fits (Ok x) k h small = ap Some h.1
fits (Err e) k h small = absurd (h small)
