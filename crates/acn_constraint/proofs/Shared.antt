-- A meet of many parts is what the first holds outside the numbers that are outside one of the others.
use Rattle.std.proofs.Common.{◌≡◌, ℕ, Bool, true, false, not, ◌&&◌, ◌||◌, List, [], ◌∷◌, length, refl, sym, ap, subst, ◌∙◌, ℤ, pos, arith}
use Rattle.std.proofs.lemmas.Bool.Decides.{nat_tests}
use Rattle.std.proofs.lemmas.Int.{ints}
use Rattle.std.specs.Prelude.{◌≤ℤ◌, ◌-ℤ◌, int_le, Result, Ok, Err, IfOk, map}
use Rattle.acn_num.specs.Ranges.{Ranges, has, AreRanges, except, bottom, top}
use Rattle.acn_num.specs.Unions.{one_has}
use Rattle.acn_num.proofs.Members.{le_true, has_except, in_low, in_high}
use Rattle.acn_num.proofs.Order.{same_set}
use Rattle.acn_asn_syntax.specs.Mirror.{Parts, no_parts, and_part}
use Rattle.acn_asn_syntax.specs.View.{seen_part, part_view, parts_of, meet_view}
use Rattle.acn_asn_syntax.specs.declared.sets.Meet.{Meet}
use Rattle.acn_asn_syntax.specs.declared.sets.Part.{Part}
use Rattle.std.specs.Bool.{◌==◌}
use Rattle.acn_asn_syntax.specs.declared.sets.Element.TheViews.{out-Meet}
use Rattle.acn_asn_syntax.proofs.Views.{open_meet}
use Rattle.acn_index.specs.World.{World}
use Rattle.acn_constraint.specs.Sets.{Reading, meet_in, parts_in, part_in}
use Rattle.acn_constraint.specs.Permits.{all_permit, part_permits}
use Rattle.acn_constraint.specs.Each.{everything, each_outside, IsWithoutAll}
use Rattle.acn_constraint.proofs.Permitted.{part_holds, parts_hold}

pub except_has : (s t : Ranges) (x : ℤ) → AreRanges s → AreRanges t → has (except s t) x ≡ (has s x && not (has t x))
unfolding except
except_has s t x h i = has_except s t x h i

all_ranges : AreRanges everything
all_ranges = (omega (arith, ints), omega (arith, ints), omega (arith, ints), tt)

in_all : (x : ℤ) → bottom ≤ℤ x → x ≤ℤ top → has everything x ≡ true
in_all x low high =
    ap (λ b. (b && int_le x top) || false) (le_true bottom x low) ∙ ap (λ b. (true && b) || false) (le_true x top high)

not_both : (a b : Bool) → (not a || not b) ≡ not (a && b)
not_both true b = refl
not_both false b = refl

module _ (w : World) (k : ℕ) (before : Ranges) (ordered : AreRanges before) (r : Reading) where
  outside_one : (x : ℤ) → has everything x ≡ true → (more : Parts) → one_has (each_outside w k r more before) x ≡ not (all_permit w k before x r more)
  unfolding all_permit
  outside_one x e no_parts = refl
  outside_one x e (and_part word p more) =
      let one = part_holds w k before ordered r p in
      ap (λ b. b || one_has (each_outside w k r more before) x) (except_has everything (part_in w k r p before) x all_ranges one.0 ∙ (ap (λ b. b && not (has (part_in w k r p before) x)) e ∙ ap (λ b. not b) (one.1 x)))
      ∙ (ap (λ b. not (part_permits w k before x r p) || b) (outside_one x e more) ∙ not_both (part_permits w k before x r p) (all_permit w k before x r more))

  both : (x : ℤ) (a : Bool) (more : Parts) → (a ≡ true → has everything x ≡ true) → (a && not (one_has (each_outside w k r more before) x)) ≡ (a && all_permit w k before x r more)
  both x false more inside = refl
  both x true more inside = ap (λ b. not b) (outside_one x (inside refl) more) ∙ twice (all_permit w k before x r more)
    where
      twice : (b : Bool) → not (not b) ≡ b
      twice true = refl
      twice false = refl

  without_all_is : (more : Parts) (found s : Ranges) → IsWithoutAll found (each_outside w k r more before) s → s ≡ parts_in w k r more found before
  without_all_is more found s h =
      let all = parts_hold w k before ordered r more found (λ x. has found x) (h.first, λ x. refl) in
      same_set (bottom -ℤ pos 1) s (parts_in w k r more found before) h.ranges all.0
      (λ x. h.numbers x ∙ (both x (has found x) more (λ there. in_all x (in_low found x h.first there) (in_high found x h.first there)) ∙ sym (all.1 x)))

  opened : (m : Meet) → meet_in w k r (meet_view m) before ≡ parts_in w k r (parts_of (map seen_part (out-Meet m).more)) (part_in w k r (part_view (out-Meet m).first) before) before
  unfolding meet_in
  opened m = ap (λ z. meet_in w k r z before) (open_meet m)

  -- what is answered for a written meet
  pub shared_parts : {E : Type 0} (m : Meet) (found : Ranges) (others : List Ranges) (answer : Result Ranges E) → found ≡ part_in w k r (part_view (out-Meet m).first) before → others ≡ each_outside w k r (parts_of (map seen_part (out-Meet m).more)) before → IfOk answer (λ s. IsWithoutAll found others s) → IfOk answer (λ s. s ≡ meet_in w k r (meet_view m) before)
  shared_parts m found others (Err e) p q h = h
  shared_parts m found others (Ok s) p q h =
      without_all_is (parts_of (map seen_part (out-Meet m).more)) found s (subst (λ (os : List Ranges). IsWithoutAll found os s) q h)
      ∙ (ap (λ z. parts_in w k r (parts_of (map seen_part (out-Meet m).more)) z before) p ∙ sym (opened m))

  alone : (f : Ranges) (all : List (Bool × Part)) → [] ≡ all → f ≡ parts_in w k r (parts_of (map seen_part all)) f before
  unfolding parts_in
  alone f all e = ap (λ (more : List (Bool × Part)). parts_in w k r (parts_of (map seen_part more)) f before) e

  -- what is answered for a meet of one part
  pub only_part : {E : Type 0} (m : Meet) (more : List (Bool × Part)) (answer : Result Ranges E) → more ≡ (out-Meet m).more → true ≡ (length more == 0) → IfOk answer (λ s. s ≡ part_in w k r (part_view (out-Meet m).first) before) → IfOk answer (λ s. s ≡ meet_in w k r (meet_view m) before)
  only_part m more (Err e) p q h = h
  only_part m (x ∷ more) (Ok s) p q h = absurd (grind (arith, nat_tests))
  only_part m [] (Ok s) p q h =
      h ∙ (alone (part_in w k r (part_view (out-Meet m).first) before) (out-Meet m).more p ∙ sym (opened m))
