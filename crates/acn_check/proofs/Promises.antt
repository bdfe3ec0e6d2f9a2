-- What a tree without a first fault promises, and what a refusal says.
use Rattle.std.proofs.Common.{◌≡◌, ℕ, ◌<◌, ◌≤◌, Bool, true, false, nat_lt, Option, Some, None, refl, subst, arith}
use Rattle.std.specs.Prelude.{MatchOption, Err}
use Rattle.std.proofs.lemmas.Bool.Decides.{nat_tests}
use Rattle.acn_grammar.specs.Check.{CheckFault, too_long, FirstFault}
use Rattle.acn_grammar.specs.Faults.{check_fault_of}
use Rattle.acn_grammar.specs.Grammar.{Grammar}
use Rattle.acn_grammar.specs.Interval.{span}
use Rattle.acn_packet_laws.specs.Laws.{IsAccepted, NoFaultWithoutAFirst, WidthsAreLengths, BoundsHold}
use Rattle.acn_grammar.specs.Tree.{IsTree}
use Rattle.acn_grammar.specs.declared.check_fault.CheckFault as program
use Rattle.acn_check.specs.Checked.{HasNoFault, IsFirstFault, PacketsLieWithinBounds}
use Rattle.acn_check.specs.First.{Told}
use Rattle.acn_check.specs.Order.{first_fault}
use Rattle.acn_check.proofs.Whole.{first_is}

module _ (root : Grammar) (tree : IsTree root) (widths : WidthsAreLengths) where
  -- nothing is answered where there is no first fault
  pub sound : first_fault root ≡ None → HasNoFault root
  sound e = subst (λ o. MatchOption o (HasNoFault root) (FirstFault root)) e (first_is root tree widths)

  pub accepted : first_fault root ≡ None → IsAccepted root
  accepted e = record { formed = tree; sound = sound e }

  -- what is answered is the first fault
  pub first_told : (e : program.CheckFault) → Told (first_fault root) (Err e) → IsFirstFault root e
  first_told e t = by (check_fault_of e) t
    where
      by : (c : Option CheckFault) → MatchOption c (Unit {0}) (λ f. first_fault root ≡ Some f) → MatchOption c (Unit {0}) (FirstFault root)
      by None h = tt
      by (Some f) h = subst (λ o. MatchOption o (HasNoFault root) (FirstFault root)) h (first_is root tree widths)

  module _ (no_fault : NoFaultWithoutAFirst) (clean : HasNoFault root) where
    -- the greatest bound is within a packet's limit
    within : (span root).greatest ≤ 524336
    within = by (nat_lt 524336 (span root).greatest) refl
      where
        lt_is : (n : ℕ) → nat_lt 524336 n ≡ true → 524336 < n
        lt_is n h = grind (arith, nat_tests)

        lt_not : (n : ℕ) → nat_lt 524336 n ≡ false → n ≤ 524336
        lt_not n h = grind (arith, nat_tests)

        by : (b : Bool) → nat_lt 524336 (span root).greatest ≡ b → (span root).greatest ≤ 524336
        by true e = absurd (no_fault root clean (too_long (span root).greatest) (record { node = 0; use_here = 0; holds = record { at_root = refl; bits_are = refl; many = lt_is (span root).greatest e } }))
        by false e = lt_not (span root).greatest e

    pub lengths : BoundsHold → PacketsLieWithinBounds root
    lengths bounds mode d bs spelled = bounds root mode d bs tree within spelled
