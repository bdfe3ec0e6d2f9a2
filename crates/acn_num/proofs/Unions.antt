-- The numbers of unions of many sets.
use Rattle.std.proofs.Common.{◌≡◌, ℕ, Bool, true, false, refl, sym, ap, subst, ◌∙◌, ℤ, pos, [], ◌∷◌, ◌++◌, List, take, drop, length, ◌-◌}
use Rattle.std.proofs.lemmas.List.{take-append-drop, length-drop}
use Rattle.std.proofs.Math.Seq.{take-length}
use Rattle.std.specs.Prelude.{◌-ℤ◌, ◌||◌}
use Rattle.acn_num.specs.Ranges.{Ranges, has, AreRanges, union, outside, bottom}
use Rattle.acn_num.specs.Unions.{unions, one_has, AreAllRanges}
use Rattle.acn_num.proofs.Members.{or_assoc}
use Rattle.acn_num.proofs.Order.{has_union, outside_above, meet_above, same_set}

one_has_append : (a b : List Ranges) (x : ℤ) → one_has (a ++ b) x ≡ (one_has a x || one_has b x)
one_has_append [] b x = refl
one_has_append (s ∷ a) b x = rw (one_has_append a b x) (sym (or_assoc (has s x) (one_has a x) (one_has b x)))

all_append : (a b : List Ranges) → AreAllRanges a → AreAllRanges b → AreAllRanges (a ++ b)
all_append [] b h k = k
all_append (s ∷ a) b h k = (h.0, all_append a b h.1 k)

pub union_ranges : (a b : Ranges) → AreRanges a → AreRanges b → AreRanges (union a b)
unfolding union outside
union_ranges a b h k = outside_above (bottom -ℤ pos 1) _ (meet_above (bottom -ℤ pos 1) (bottom -ℤ pos 1) _ _ (outside_above (bottom -ℤ pos 1) a h) (outside_above (bottom -ℤ pos 1) b k))

pub union_has : (a b : Ranges) (x : ℤ) → AreRanges a → AreRanges b → has (union a b) x ≡ (has a x || has b x)
unfolding union
union_has a b x h k = has_union a b x h k

unions_has : (a : Ranges) (others : List Ranges) (x : ℤ) → AreRanges a → AreAllRanges others → has (unions a others) x ≡ (has a x || one_has others x)
unions_has a [] x h k = sym (or_nothing (has a x))
  where
    or_nothing : (t : Bool) → (t || false) ≡ t
    or_nothing true = refl
    or_nothing false = refl
unions_has a (s ∷ others) x h k =
    unions_has (union a s) others x (union_ranges a s h k.0) k.1
    ∙ (ap (λ (t : Bool). t || one_has others x) (union_has a s x h k.0) ∙ or_assoc (has a x) (has s x) (one_has others x))

unions_ranges : (a : Ranges) (others : List Ranges) → AreRanges a → AreAllRanges others → AreRanges (unions a others)
unions_ranges a [] h k = h
unions_ranges a (s ∷ others) h k = unions_ranges (union a s) others (union_ranges a s h k.0) k.1

-- a set with the numbers of all is what the unions one after the other give
is_unions : (a s : Ranges) (others : List Ranges) → AreRanges a → AreRanges s → AreAllRanges others → ((x : ℤ) → has s x ≡ (has a x || one_has others x)) → s ≡ unions a others
is_unions a s others h l k same = same_set (bottom -ℤ pos 1) s (unions a others) l (unions_ranges a others h k) (λ x. same x ∙ sym (unions_has a others x h k))

pub union_is_unions : (a j : Ranges) (others : List Ranges) → AreRanges a → AreRanges j → AreAllRanges others → ((x : ℤ) → has j x ≡ one_has others x) → union a j ≡ unions a others
union_is_unions a j others h k l same = is_unions a (union a j) others h (union_ranges a j h k) l (λ x. union_has a j x h k ∙ ap (λ (t : Bool). has a x || t) (same x))

-- the two halves of a list of sets
rest_is : (n : ℕ) (sets : List Ranges) → take (length sets - n) (drop n sets) ≡ drop n sets
rest_is n sets = subst (λ (k : ℕ). take k (drop n sets) ≡ drop n sets) (length-drop n sets) (take-length (drop n sets))

pub halves_have : (n : ℕ) (s a b : Ranges) (sets : List Ranges) → ((x : ℤ) → has s x ≡ (has a x || has b x)) → ((x : ℤ) → has a x ≡ one_has (take n sets) x) → ((x : ℤ) → has b x ≡ one_has (take (length sets - n) (drop n sets)) x) → (x : ℤ) → has s x ≡ one_has sets x
halves_have n s a b sets both front back x =
    both x ∙ (ap (λ (t : Bool). t || has b x) (front x) ∙ (ap (λ (t : Bool). one_has (take n sets) x || t) (back x ∙ ap (λ (z : List Ranges). one_has z x) (rest_is n sets))
    ∙ (sym (one_has_append (take n sets) (drop n sets) x) ∙ ap (λ (z : List Ranges). one_has z x) (take-append-drop n sets))))

pub halves_are : (n : ℕ) (sets : List Ranges) → AreAllRanges (take n sets) → AreAllRanges (take (length sets - n) (drop n sets)) → AreAllRanges sets
halves_are n sets h k = subst AreAllRanges (take-append-drop n sets) (all_append (take n sets) (drop n sets) h (subst AreAllRanges (rest_is n sets) k))
