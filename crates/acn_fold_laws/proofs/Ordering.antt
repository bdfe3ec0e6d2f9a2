-- Items in the order of their numbers.
use Rattle.std.proofs.Common.{◌≡◌, Bool, true, false, cond, refl, sym, ap, ◌∙◌, ℤ, [], ◌∷◌, List, arith}
use Rattle.std.specs.Prelude.{◌≤ℤ◌, int_le, filter}
use Rattle.std.specs.List.{AllByRecursion}
use Rattle.std.specs.Ordering.{int_eq}
use Rattle.std.proofs.lemmas.Bool.{true≢false}
use Rattle.std.proofs.lemmas.Int.{ints}
use Rattle.acn_num.proofs.Members.{true_le, false_le, le_true}
use Rattle.acn_grammar.proofs.WholeTests.{eq_fact}
use Rattle.acn_leaves.specs.Ordered.{put, ascending}
use Rattle.acn_fold_laws.specs.Items.{Ascends, IsInOrder}
use Rattle.acn_leaves.specs.Ordered.{Ranked, rank}

abbrev From : Ranked → List Ranked → Type 0
From r rs = AllByRecursion (λ (q : Ranked). rank r ≤ℤ rank q) rs

le_trans : (a b c : ℤ) → a ≤ℤ b → b ≤ℤ c → a ≤ℤ c
le_trans a b c h k = omega (arith, ints, h, k)

lt_le : (a b : ℤ) → int_le a b ≡ false → b ≤ℤ a
lt_le a b e = (let k = false_le a b e in omega (arith, ints, k))

from_weaker : (r q : Ranked) (rs : List Ranked) → rank r ≤ℤ rank q → From q rs → From r rs
from_weaker r q [] h f = tt
from_weaker r q (p ∷ rs) h f = (le_trans (rank r) (rank q) (rank p) h f.0, from_weaker r q rs h f.1)

from_put : (r i : Ranked) (js : List Ranked) → rank r ≤ℤ rank i → From r js → From r (put rank i js)
from_put r i [] h f = (h, tt)
from_put r i (j ∷ js) h f = by (int_le (rank i) (rank j)) (from_put r i js h f.1)
  where
    by : (t : Bool) → From r (put rank i js) → From r (cond t (i ∷ j ∷ js) (j ∷ put rank i js))
    by true g = (h, f)
    by false g = (f.0, g)

put_ascends : (i : Ranked) (js : List Ranked) → Ascends js → Ascends (put rank i js)
put_ascends i [] h = (tt, tt)
put_ascends i (j ∷ js) h = by (int_le (rank i) (rank j)) refl (put_ascends i js h.1)
  where
    by : (t : Bool) → int_le (rank i) (rank j) ≡ t → Ascends (put rank i js) → Ascends (cond t (i ∷ j ∷ js) (j ∷ put rank i js))
    by true e g = (let le = true_le (rank i) (rank j) e in ((le, from_weaker i j js le h.0), h))
    by false e g = (from_put j i js (lt_le (rank i) (rank j) e) h.0, g)

abbrev ranks : ℤ → Ranked → Bool
ranks x r = int_eq x (rank r)

swapped : {A : Type 0} (a b : Bool) (i j : A) (f g : List A) → (a ≡ true → b ≡ true → ⊥) → g ≡ cond a (i ∷ f) f → cond b (j ∷ g) g ≡ cond a (i ∷ cond b (j ∷ f) f) (cond b (j ∷ f) f)
swapped true true i j f g n e = absurd (n refl refl)
swapped true false i j f g n e = e
swapped {A} false true i j f g n e = ap (λ (l : List A). j ∷ l) e
swapped false false i j f g n e = e

one_rank : (x : ℤ) (i j : Ranked) → int_le (rank i) (rank j) ≡ false → ranks x i ≡ true → ranks x j ≡ true → ⊥
one_rank x i j e a b = true≢false (sym (le_true (rank i) (rank j) (same x (rank i) (rank j) (eq_fact x (rank i) a) (eq_fact x (rank j) b))) ∙ e)
  where
    same : (x y z : ℤ) → x ≡ y → x ≡ z → y ≤ℤ z
    same x y z e f = omega (arith, ints, e, f)

put_kept : (x : ℤ) (i : Ranked) (js : List Ranked) → filter (ranks x) (put rank i js) ≡ filter (ranks x) (i ∷ js)
put_kept x i [] = refl
put_kept x i (j ∷ js) = by (int_le (rank i) (rank j)) refl (put_kept x i js)
  where
    by : (t : Bool) → int_le (rank i) (rank j) ≡ t → filter (ranks x) (put rank i js) ≡ filter (ranks x) (i ∷ js) → filter (ranks x) (cond t (i ∷ j ∷ js) (j ∷ put rank i js)) ≡ filter (ranks x) (i ∷ j ∷ js)
    by true e h = refl
    by false e h = swapped (ranks x i) (ranks x j) i j (filter (ranks x) js) (filter (ranks x) (put rank i js)) (one_rank x i j e) h

ascends : (rs : List Ranked) → Ascends (ascending rank rs)
ascends [] = tt
ascends (r ∷ rs) = put_ascends r (ascending rank rs) (ascends rs)

kept : (rs : List Ranked) (x : ℤ) → filter (ranks x) (ascending rank rs) ≡ filter (ranks x) rs
kept [] x = refl
kept (r ∷ rs) x = put_kept x r (ascending rank rs) ∙ ap (λ (l : List Ranked). cond (ranks x r) (r ∷ l) l) (kept rs x)

pub in_order : (rs : List Ranked) → IsInOrder rs (ascending rank rs)
in_order rs = record { ascends = ascends rs; kept = kept rs }
