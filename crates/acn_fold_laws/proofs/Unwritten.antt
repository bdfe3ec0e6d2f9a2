-- The whole numbers that no item of an enumeration has written.
use Rattle.std.proofs.Common.{◌≡◌, Bool, true, false, not, ◌&&◌, ◌||◌, refl, ap, ◌∙◌, ℤ, pos, [], ◌∷◌, List, map, filter_map, Option, Some, None, arith}
use Rattle.std.specs.Prelude.{◌≤ℤ◌, int_le}
use Rattle.std.specs.Int.{int_max}
use Rattle.std.specs.List.{AllByRecursion, cons_option}
use Rattle.std.proofs.lemmas.Int.{ints, clamps}
use Rattle.acn_num.specs.Ranges.{Ranges, has, AreRanges, some_range, except, union, among, bottom, top}
use Rattle.acn_num.specs.Unions.{unions}
use Rattle.acn_num.proofs.Members.{or_assoc, and_or, has_except}
use Rattle.acn_codings.proofs.FineFront.{range_ranges, union_ranges, union_has}
use Rattle.acn_codings.specs.Items.{alone}
use Rattle.acn_fold_laws.specs.Free.{IsWithin}

alone_range : (y x : ℤ) → has (some_range (int_max (pos 0) y) y) x ≡ (int_le (pos 0) x && (int_le y x && int_le x y))
alone_range y x = grind (arith, ints, clamps)

from_bottom : (y : ℤ) → bottom ≤ℤ int_max (pos 0) y
from_bottom y = omega (arith, ints, clamps)

alone_ranges : (o : Option ℤ) → IsWithin o → AreRanges (alone o)
alone_ranges None h = tt
alone_ranges (Some y) h = range_ranges (int_max (pos 0) y) y (from_bottom y) h

and_none : (z a : Bool) → a ≡ (a || (z && false))
and_none true true = refl
and_none true false = refl
and_none false true = refl
and_none false false = refl

with_none : (z a m : Bool) → ((a || false) || (z && m)) ≡ (a || (z && m))
with_none z true m = refl
with_none z false m = refl

with_one : (z a o m : Bool) → ((a || (z && o)) || (z && m)) ≡ (a || (z && (o || m)))
with_one z a o m = or_assoc a (z && o) (z && m) ∙ ap (λ t. a || t) (and_or z o m)

-- one item more
one_more : (a : Ranges) (o : Option ℤ) (ms : List ℤ) (x : ℤ) → AreRanges a → IsWithin o → (has (union a (alone o)) x || (int_le (pos 0) x && among ms x)) ≡ (has a x || (int_le (pos 0) x && among (cons_option o ms) x))
one_more a None ms x h w = ap (λ t. t || (int_le (pos 0) x && among ms x)) (union_has a [] x h tt) ∙ with_none (int_le (pos 0) x) (has a x) (among ms x)
one_more a (Some y) ms x h w =
    ap (λ t. t || (int_le (pos 0) x && among ms x)) (union_has a (alone (Some y)) x h (alone_ranges (Some y) w) ∙ ap (λ t. has a x || t) (alone_range y x))
    ∙ with_one (int_le (pos 0) x) (has a x) (int_le y x && int_le x y) (among ms x)

last : (z u m : Bool) → (((z && u) || false) && not (z && m)) ≡ (z && (u && not m))
last true true m = refl
last true false m = refl
last false u m = refl

module _ {M : Type 0} (written : M → Option ℤ) where
  written_ranges : (a : Ranges) (items : List M) → AreRanges a → AllByRecursion (λ i. IsWithin (written i)) items → AreRanges (unions a (map (λ i. alone (written i)) items))
  written_ranges a [] h f = h
  written_ranges a (i ∷ is) h f = written_ranges (union a (alone (written i))) is (union_ranges a (alone (written i)) h (alone_ranges (written i) f.0)) f.1

  written_has : (a : Ranges) (items : List M) (x : ℤ) → AreRanges a → AllByRecursion (λ i. IsWithin (written i)) items
      → has (unions a (map (λ i. alone (written i)) items)) x ≡ (has a x || (int_le (pos 0) x && among (filter_map written items) x))
  written_has a [] x h f = and_none (int_le (pos 0) x) (has a x)
  written_has a (i ∷ is) x h f =
      written_has (union a (alone (written i))) is x (union_ranges a (alone (written i)) h (alone_ranges (written i) f.0)) f.1
      ∙ one_more a (written i) (filter_map written is) x h f.0

  from_zero : AreRanges ((pos 0, top) ∷ [])
  from_zero = (omega (arith, ints), omega (arith, ints), omega (arith, ints), tt)

  pub unwritten : (items : List M) (x : ℤ) → AllByRecursion (λ i. IsWithin (written i)) items
      → has (except ((pos 0, top) ∷ []) (unions [] (map (λ i. alone (written i)) items))) x ≡ (int_le (pos 0) x && (int_le x top && not (among (filter_map written items) x)))
  unfolding except
  unwritten items x f =
      has_except ((pos 0, top) ∷ []) (unions [] (map (λ i. alone (written i)) items)) x from_zero (written_ranges [] items tt f)
      ∙ (ap (λ t. ((int_le (pos 0) x && int_le x top) || false) && not t) (written_has [] items x tt f) ∙ last (int_le (pos 0) x) (int_le x top) (among (filter_map written items) x))
