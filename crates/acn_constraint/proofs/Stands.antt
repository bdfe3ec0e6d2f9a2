-- What stands behind some constraints holds what is inside and isn't to be taken away.
use Rattle.std.proofs.Common.{◌≡◌, Bool, true, false, not, ◌&&◌, ◌||◌, List, [], ◌∷◌, ◌++◌, Option, Some, None, refl, sym, ap, subst, ◌∙◌, ℤ, pos}
use Rattle.std.specs.Prelude.{◌-ℤ◌, Result, Ok, Err, IfOk}
use Rattle.acn_num.specs.Ranges.{Ranges, has, AreRanges, except, bottom}
use Rattle.acn_num.specs.Unions.{one_has, AreAllRanges}
use Rattle.acn_num.proofs.Members.{has_meet, and_false}
use Rattle.acn_num.proofs.Order.{same_set, meet_above}
use Rattle.acn_constraint.specs.Each.{IsWithoutAll}
use Rattle.acn_constraint.specs.Series.{without, within, is_inside, numbers_left, AreInside, AreOrdered, IsKept}
use Rattle.acn_constraint.specs.declared.standing.Standing.{Standing}
use Rattle.acn_constraint.proofs.Permitted.{less_ranges}
use Rattle.acn_constraint.proofs.Shared.{except_has}

pub without_ranges : (s : Ranges) (taken : List Ranges) → AreRanges s → AreAllRanges taken → AreRanges (without s taken)
without_ranges s [] h k = h
without_ranges s (t ∷ rest) h k = without_ranges (except s t) rest (less_ranges s t h k.0) k.1

not_either : (s t u : Bool) → ((s && not t) && not u) ≡ (s && not (t || u))
not_either true true u = refl
not_either true false u = refl
not_either false t u = refl

and_true : (s : Bool) → s ≡ (s && not false)
and_true true = refl
and_true false = refl

without_has : (s : Ranges) (taken : List Ranges) (x : ℤ) → AreRanges s → AreAllRanges taken → has (without s taken) x ≡ (has s x && not (one_has taken x))
without_has s [] x h k = and_true (has s x)
without_has s (t ∷ rest) x h k =
    without_has (except s t) rest x (less_ranges s t h k.0) k.1
    ∙ (ap (λ b. b && not (one_has rest x)) (except_has s t x h k.0) ∙ not_either (has s x) (has t x) (one_has rest x))

-- all of these, taken away at once
pub without_all_is : (s : Ranges) (taken : List Ranges) (t : Ranges) → AreAllRanges taken → IsWithoutAll s taken t → t ≡ without s taken
without_all_is s taken t k h =
    same_set (bottom -ℤ pos 1) t (without s taken) h.ranges (without_ranges s taken h.first k)
    (λ x. h.numbers x ∙ sym (without_has s taken x h.first k))

pub without_append : (s : Ranges) (taken : List Ranges) (t : Ranges) → without s (taken ++ t ∷ []) ≡ except (without s taken) t
without_append s [] t = refl
without_append s (u ∷ taken) t = without_append (except s u) taken t

pub all_append : (a b : List Ranges) → AreAllRanges a → AreAllRanges b → AreAllRanges (a ++ b)
all_append [] b h k = k
all_append (s ∷ a) b h k = (h.0, all_append a b h.1 k)

within_ranges : (inside : Option Ranges) (s : Ranges) → AreRanges s → AreInside inside → AreRanges (within inside s)
within_ranges None s h k = h
within_ranges (Some t) s h k = meet_above (bottom -ℤ pos 1) (bottom -ℤ pos 1) s t h k

and_all : (b : Bool) → b ≡ (b && true)
and_all true = refl
and_all false = refl

within_has : (inside : Option Ranges) (s : Ranges) (x : ℤ) → has (within inside s) x ≡ (has s x && is_inside inside x)
within_has None s x = and_all (has s x)
within_has (Some t) s x = has_meet s t x

pub left_ranges : (s : Standing) → AreOrdered s → AreRanges (numbers_left s)
left_ranges s h = without_ranges (within s.inside s.numbers) s.taken.items (within_ranges s.inside s.numbers h.numbers h.inside) h.taken

left_has : (s : Standing) (x : ℤ) → AreOrdered s → has (numbers_left s) x ≡ ((has s.numbers x && is_inside s.inside x) && not (one_has s.taken.items x))
left_has s x h =
    without_has (within s.inside s.numbers) s.taken.items x (within_ranges s.inside s.numbers h.numbers h.inside) h.taken
    ∙ ap (λ b. b && not (one_has s.taken.items x)) (within_has s.inside s.numbers x)

-- what stands lies in what stood round it
and_first : (a b : Bool) → (a && b) ≡ true → a ≡ true
and_first true b e = refl
and_first false b e = e

pub left_within : (s : Standing) (x : ℤ) → AreOrdered s → has (numbers_left s) x ≡ true → has (within s.inside s.numbers) x ≡ true
left_within s x h there =
    and_first (has (within s.inside s.numbers) x) (not (one_has s.taken.items x))
    (sym (without_has (within s.inside s.numbers) s.taken.items x (within_ranges s.inside s.numbers h.numbers h.inside) h.taken) ∙ there)

-- ---- what is gathered

pub gathered_all : {E : Type 0} (s : Standing) (stood : Ranges) (taken : List Ranges) (answer : Result Ranges E) → stood ≡ within s.inside s.numbers → taken ≡ s.taken.items → IfOk answer (λ t. IsWithoutAll stood taken t) → IfOk answer (λ t. AreOrdered s → t ≡ numbers_left s)
gathered_all s stood taken (Err e) is same h = h
gathered_all s stood taken (Ok t) is same h = λ o.
    without_all_is stood taken t (subst AreAllRanges (sym same) o.taken) h ∙ (ap (λ z. without z taken) is ∙ ap (λ z. without (within s.inside s.numbers) z) same)

-- ---- what is kept

-- n: it stood once, i: it is inside, t: it is taken, l: it is left
inside_left : (n i t l : Bool) → ((n && (l && i)) && not t) ≡ (((n && i) && not t) && l)
inside_left false i t l = refl
inside_left true true t true = and_all (not t)
inside_left true true t false = sym (and_false (not t))
inside_left true false t true = refl
inside_left true false t false = refl

taken_left : (c s l : Bool) → (c ≡ true → s ≡ true) → (c && not (s && not l)) ≡ (c && l)
taken_left false s l a = refl
taken_left true true true a = refl
taken_left true true false a = refl
taken_left true false l a = absurd (let e : false ≡ true = a refl in cc)

pub kept_inside : (before : Standing) (stood left : Ranges) (s : Standing) → AreRanges left → s.numbers ≡ before.numbers → s.inside ≡ Some (within before.inside left) → s.taken.items ≡ before.taken.items → IsKept before stood left s
kept_inside before stood left s ranges numbers inside taken = record {
  ordered = λ o k. ordered o;
  same = λ o around x.
      left_has s x (ordered o)
      ∙ (ap (λ (z : Ranges). (has z x && is_inside s.inside x) && not (one_has s.taken.items x)) numbers
      ∙ (ap (λ (z : Option Ranges). (has before.numbers x && is_inside z x) && not (one_has s.taken.items x)) inside
      ∙ (ap (λ (z : List Ranges). (has before.numbers x && has (within before.inside left) x) && not (one_has z x)) taken
      ∙ (ap (λ b. (has before.numbers x && b) && not (one_has before.taken.items x)) (within_has before.inside left x)
      ∙ (inside_left (has before.numbers x) (is_inside before.inside x) (one_has before.taken.items x) (has left x)
      ∙ ap (λ b. b && has left x) (sym (left_has before x o)))))));
}
  where
    ordered : AreOrdered before → AreOrdered s
    ordered o = record {
      numbers = subst AreRanges (sym numbers) o.numbers;
      inside = subst AreInside (sym inside) (within_ranges before.inside left ranges o.inside);
      taken = subst AreAllRanges (sym taken) o.taken;
    }

pub kept_taken : (before : Standing) (stood left : Ranges) (s : Standing) → AreRanges left → s.numbers ≡ before.numbers → s.inside ≡ before.inside → s.taken.items ≡ before.taken.items ++ except stood left ∷ [] → IsKept before stood left s
kept_taken before stood left s ranges numbers inside taken = record {
  ordered = λ o k. ordered o k;
  same = λ o around x.
      ap (λ (z : Ranges). has z x) alike
      ∙ (except_has (numbers_left before) (except stood left) x (left_ranges before o) (less_ranges stood left around.ordered ranges)
      ∙ (ap (λ b. has (numbers_left before) x && not b) (except_has stood left x around.ordered ranges)
      ∙ taken_left (has (numbers_left before) x) (has stood x) (has left x) (λ there. around.inside x (left_within before x o there))));
}
  where
    ordered : AreOrdered before → AreRanges stood → AreOrdered s
    ordered o k = record {
      numbers = subst AreRanges (sym numbers) o.numbers;
      inside = subst AreInside (sym inside) o.inside;
      taken = subst AreAllRanges (sym taken) (all_append before.taken.items (except stood left ∷ []) o.taken (less_ranges stood left k ranges, tt));
    }

    alike : numbers_left s ≡ except (numbers_left before) (except stood left)
    alike =
        ap (λ (z : Ranges). without (within s.inside z) s.taken.items) numbers
        ∙ (ap (λ (z : Option Ranges). without (within z before.numbers) s.taken.items) inside
        ∙ (ap (λ (z : List Ranges). without (within before.inside before.numbers) z) taken
        ∙ without_append (within before.inside before.numbers) before.taken.items (except stood left)))
