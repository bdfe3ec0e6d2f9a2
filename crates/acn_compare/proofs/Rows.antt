-- Worked rows.
use Rattle.std.proofs.Common.{◌≡◌, ℕ, ◌<◌, ℤ, pos, Bool, true, false, ◌&&◌, [], ◌∷◌, Some, None, refl, arith, inl}
use Rattle.std.proofs.lemmas.Bool.{and_parts}
use Rattle.std.proofs.lemmas.Int.{ints}
use Rattle.std.specs.Prelude.{int_le, ◌≤ℤ◌}
use Rattle.acn_num.specs.Ranges.{In}
use Rattle.acn_grammar.specs.Grammar.{node, num, octets}
use Rattle.acn_grammar.proofs.WholeTests.{le_fact, le_test, either}
use Rattle.acn_compare.specs.Accepts.{Agree, IsLost, rank}
use Rattle.acn_compare.specs.declared.answer.Reason.{Reason}
use Rattle.acn_compare.specs.declared.answer.Reason.TheVariants as because
use Rattle.acn_compare.specs.Rows.{with_data, octet_leaf, sized, AGreaterSizeIsAccepted, ASmallerSizeIsNot}

in_range : (high : ℕ) (x : ℤ) → In ((pos 0, pos high) ∷ []) x → (pos 0 ≤ℤ x) × (x ≤ℤ pos high)
in_range high x h = either {F = (pos 0 ≤ℤ x) × (x ≤ℤ pos high)} (int_le (pos 0) x && int_le x (pos high)) false h
    (λ q. let two = and_parts (int_le (pos 0) x) (int_le x (pos high)) q in (le_fact (pos 0) x two.0, le_fact x (pos high) two.1)) (λ q. cc)

is_in : (high : ℕ) (x : ℤ) → pos 0 ≤ℤ x → x ≤ℤ pos high → In ((pos 0, pos high) ∷ []) x
is_in high x a b = rw (le_test (pos 0) x a, le_test x (pos high) b) refl

root_agrees : (a b : ℕ) (r : Reason) → Agree ((0, 0) ∷ []) r (with_data a) (with_data b)
root_agrees a b because.Kind = tt
root_agrees a b because.Align = refl
root_agrees a b because.Coding = tt
root_agrees a b because.Values = tt
root_agrees a b because.Names = (λ h k. cc, (λ h k. refl, tt))
root_agrees a b because.Fields = (refl, (refl, (refl, tt)))
root_agrees a b because.Presence = (tt, (tt, tt))
root_agrees a b because.Determinant = ((refl, tt), ((tt, tt), ((tt, tt), tt)))
root_agrees a b because.Alternatives = tt

length_agrees : (r : Reason) → Agree ((0, 0) ∷ []) r (node 1 (num octet_leaf)) (node 1 (num octet_leaf))
length_agrees because.Kind = refl
length_agrees because.Align = refl
length_agrees because.Coding = record { coding = refl; little = refl; table = refl; values = refl }
length_agrees because.Values = (λ x h. h, tt)
length_agrees because.Names = refl
length_agrees because.Fields = tt
length_agrees because.Presence = tt
length_agrees because.Determinant = tt
length_agrees because.Alternatives = tt

data_agrees : (r : Reason) → Agree ((0, 0) ∷ []) r (node 1 (octets (sized 16))) (node 1 (octets (sized 20)))
data_agrees because.Kind = tt
data_agrees because.Align = refl
data_agrees because.Coding = tt
data_agrees because.Values = (λ x h. (let w = in_range 16 x h in is_in 20 x w.0 (omega (arith, ints, w.1))), tt)
data_agrees because.Names = tt
data_agrees because.Fields = tt
data_agrees because.Presence = tt
data_agrees because.Determinant = refl
data_agrees because.Alternatives = tt

pub a_greater_size_is_accepted : AGreaterSizeIsAccepted
a_greater_size_is_accepted = (root_agrees 16 20, (length_agrees, (data_agrees, tt)))

earlier : (r : Reason) → rank r < 4 → Agree ((0, 0) ∷ []) r (node 1 (octets (sized 20))) (node 1 (octets (sized 16)))
earlier because.Kind l = tt
earlier because.Align l = refl
earlier because.Coding l = tt
earlier because.Values l = absurd (omega arith)
earlier because.Names l = tt
earlier because.Fields l = tt
earlier because.Presence l = tt
earlier because.Determinant l = refl
earlier because.Alternatives l = tt

lost : IsLost ((pos 0, pos 20) ∷ []) ((pos 0, pos 16) ∷ []) (pos 17)
lost = record {
  had = refl;
  lost = λ h. (let w = in_range 16 (pos 17) h in omega (arith, ints, w.1));
  first = λ y h n. above y (in_range 20 y h) n;
}
  where
    above : (y : ℤ) → (pos 0 ≤ℤ y) × (y ≤ℤ pos 20) → (In ((pos 0, pos 16) ∷ []) y → ⊥) → pos 17 ≤ℤ y
    above y w n = by (int_le y (pos 16)) refl
      where
        by : (b : Bool) → int_le y (pos 16) ≡ b → pos 17 ≤ℤ y
        by true e = absurd (n (is_in 16 y w.0 (le_fact y (pos 16) e)))
        by false e = grind (arith, ints, e)

pub a_smaller_size_is_not : ASmallerSizeIsNot
a_smaller_size_is_not = record {
  before = record { path = []; old_slot = None; new_slot = None; old = with_data 20; new = with_data 16 } ∷ record { path = 0 ∷ []; old_slot = Some 0; new_slot = Some 0; old = node 1 (num octet_leaf); new = node 1 (num octet_leaf) } ∷ [];
  here = record { path = 1 ∷ []; old_slot = None; new_slot = None; old = node 1 (octets (sized 20)); new = node 1 (octets (sized 16)) };
  after = [];
  whole = refl;
  agree = (root_agrees 20 16, (length_agrees, tt));
  least = record {
    earlier = earlier;
    differs = λ h. (let w = in_range 16 (pos 17) (h.0 (pos 17) refl) in omega (arith, ints, w.1));
    keeps = inl lost;
  };
  path_is = refl;
}
