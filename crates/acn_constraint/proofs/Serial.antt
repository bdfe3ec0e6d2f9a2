-- Each of the constraints in series leaves of what stands what it leaves of what stood before it.
use Rattle.std.proofs.Common.{◌≡◌, ℕ, ◌+◌, ◌<◌, ◌≤◌, Bool, true, false, ◌&&◌, List, [], ◌∷◌, Option, None, length, get_or, drop, drop_of_length-le, Bor, refl, sym, ap, subst, ◌∙◌, pos}
use Rattle.std.proofs.lemmas.List.{drop_more}
use Rattle.std.specs.Prelude.{◌-ℤ◌, Result, Ok, Err, IfOk}
use Rattle.acn_num.specs.Ranges.{Ranges, has, bottom}
use Rattle.acn_num.proofs.Order.{same_set}
use Rattle.acn_asn_syntax.specs.Mirror.{Constraint}
use Rattle.acn_asn_syntax.specs.View.{constraint_view}
use Rattle.acn_asn_syntax.specs.declared.types.Constraint.{Constraint as Written}
use Rattle.acn_world.specs.Chained.{constraints_view}
use Rattle.acn_index.specs.World.{World}
use Rattle.acn_constraint.specs.Sets.{Reading}
use Rattle.acn_constraint.specs.Asks.{asks}
use Rattle.acn_constraint.specs.Constraints.{left_by, met}
use Rattle.acn_constraint.specs.Hull.{SameEnds, IsHull}
use Rattle.acn_constraint.specs.Series.{without, within, numbers_left, AreOrdered, IsWhole, IsReady, IsKept, IsGathered, IsNarrowed}
use Rattle.acn_constraint.specs.declared.standing.Standing.{Standing}
use Rattle.acn_constraint.proofs.Agrees.{constraint_permits, left_holds, left_same}
use Rattle.acn_constraint.proofs.Stands.{left_ranges, left_within}

-- n: it stands; o: it is left of those round what stands; l: it is left of what stands
one_step : (n o l p : Bool) → (n ≡ true → o ≡ l) → l ≡ (n && p) → (n && o) ≡ l
one_step true o l p same left = same refl
one_step false o l p same left = sym left

-- one constraint more, over the numbers round what stands
one_turn : (w : World) (r : Reading) (c : ℕ × Constraint) (before ready s : Standing) (stood left : Ranges) → IsReady c.1 before ready → IsHull (within ready.inside ready.numbers) stood → left ≡ left_by w r c stood → IsKept ready stood left s → IsNarrowed w r c before s
one_turn w r c before ready s stood left settled around is kept = record {
  ordered = λ o. kept.ordered (settled.ordered o) around.ordered;
  same = λ o. alike (settled.ordered o) ∙ ap (λ z. left_by w r c z) (settled.same o);
}
  where
    ends : asks c.1 ≡ true → SameEnds stood (numbers_left ready)
    ends e = subst (λ (ts : List Ranges). SameEnds stood (without (within ready.inside ready.numbers) ts)) (sym (settled.none e)) around.ends

    alike : AreOrdered ready → numbers_left s ≡ left_by w r c (numbers_left ready)
    alike o =
        let now = left_ranges ready o in
        let there = left_holds w r c (numbers_left ready) now in
        same_set (bottom -ℤ pos 1) (numbers_left s) (left_by w r c (numbers_left ready)) (left_ranges s (kept.ordered o around.ordered)) there.0
        (λ x. kept.same o around x
        ∙ one_step (has (numbers_left ready) x) (has left x) (has (left_by w r c (numbers_left ready)) x) (constraint_permits w r c (numbers_left ready) x)
        (λ e. ap (λ (z : Ranges). has z x) is ∙ left_same w r c stood (numbers_left ready) x around.ordered now (around.inside x (left_within ready x o e)) e ends)
        (there.1 x))

-- what is answered for it
pub turn_answered : {E : Type 0} (w : World) (r : Reading) (c : ℕ × Constraint) (before ready : Standing) (stood left : Ranges) (answer : Result Standing E) → IsReady c.1 before ready → IsHull (within ready.inside ready.numbers) stood → left ≡ left_by w r c stood → IfOk answer (λ s. IsKept ready stood left s) → IfOk answer (λ s. IsNarrowed w r c before s)
turn_answered w r c before ready stood left (Err e) settled around is kept = kept
turn_answered w r c before ready stood left (Ok s) settled around is kept = one_turn w r c before ready s stood left settled around is kept

-- one constraint more, over one range of which all stands
pub whole_turn : (w : World) (r : Reading) (c : ℕ × Constraint) (before s : Standing) (left : Ranges) → before.inside ≡ None → before.taken.items ≡ [] → left ≡ left_by w r c before.numbers → IsWhole left s → IsNarrowed w r c before s
whole_turn w r c before s left inside taken is whole = record {
  ordered = λ o. whole.ordered;
  same = λ o. whole.same ∙ (is ∙ ap (λ (z : Ranges). left_by w r c z) (sym all));
}
  where
    all : numbers_left before ≡ before.numbers
    all = ap (λ (z : Option Ranges). without (within z before.numbers) before.taken.items) inside ∙ ap (λ (z : List Ranges). without before.numbers z) taken

-- ---- the walk over constraints

-- the constraints that are left leave of what stands now what all leave of what stood
pub record InSeries (w : World) (r : Reading) (rest all : List (ℕ × Constraint)) (before : Ranges) (s : Standing) : Type 0 where
  pub ordered : AreOrdered s
  pub same : met w r rest (numbers_left s) ≡ met w r all before

pub at_first : (w : World) (r : Reading) (all : List (ℕ × Constraint)) (before : Ranges) (s : Standing) → IsWhole before s → InSeries w r all all before s
at_first w r all before s whole = record { ordered = whole.ordered; same = ap (λ z. met w r all z) whole.same }

next_one : (w : World) (r : Reading) (c : ℕ × Constraint) (rest all : List (ℕ × Constraint)) (before : Ranges) (s next : Standing) → InSeries w r (c ∷ rest) all before s → IsNarrowed w r c s next → InSeries w r rest all before next
next_one w r c rest all before s next is narrowed = record {
  ordered = narrowed.ordered is.ordered;
  same = ap (λ u. met w r rest u) (narrowed.same is.ordered) ∙ is.same;
}

pub next_turn : (w : World) (r : Reading) (cs : List (ℕ × Bor Written)) (i : ℕ) (x : ℕ × Bor Written) (all : List (ℕ × Constraint)) (before : Ranges) (s next : Standing) → i < length cs → x ≡ get_or cs i x → InSeries w r (constraints_view (drop i cs)) all before s → IsNarrowed w r (x.0, constraint_view x.1.now) s next → InSeries w r (constraints_view (drop (i + 1) cs)) all before next
next_turn w r cs i x all before s next lt at is narrowed =
    let ahead : drop i cs ≡ x ∷ drop (i + 1) cs = drop_more cs i x lt ∙ ap (λ y. y ∷ drop (i + 1) cs) (sym at) in
    next_one w r (x.0, constraint_view x.1.now) (constraints_view (drop (i + 1) cs)) all before s next (subst (λ ys. InSeries w r (constraints_view ys) all before s) ahead is) narrowed

at_end : {E : Type 0} (w : World) (r : Reading) (all : List (ℕ × Constraint)) (before : Ranges) (s : Standing) (answer : Result Ranges E) → InSeries w r [] all before s → IfOk answer (λ t. IsGathered s t) → IfOk answer (λ t. t ≡ met w r all before)
at_end w r all before s (Err e) is h = h
at_end w r all before s (Ok t) is h = h is.ordered ∙ is.same

-- what is answered at the end
pub no_more : {E : Type 0} (w : World) (r : Reading) (cs : List (ℕ × Bor Written)) (i : ℕ) (all : List (ℕ × Constraint)) (before : Ranges) (s : Standing) (answer : Result Ranges E) → length cs ≤ i → InSeries w r (constraints_view (drop i cs)) all before s → IfOk answer (λ t. IsGathered s t) → IfOk answer (λ t. t ≡ met w r all before)
no_more w r cs i all before s answer le is h =
    at_end w r all before s answer (subst (λ ys. InSeries w r (constraints_view ys) all before s) (drop_of_length-le cs le) is) h
