-- Lengths lie between the bounds of an accepted tree.
use Rattle.std.proofs.Common.{◌≡◌, ℕ, ◌<◌, ◌≤◌, Bool, true, false, nat_lt, List, length, Option, Some, None, refl, sym, ◌∙◌, subst, arith}
use Rattle.std.specs.Prelude.{option_map}
use Rattle.std.proofs.lemmas.Bool.Decides.{nat_tests}
use Rattle.acn_grammar.specs.Check.{too_long, NodeAt}
use Rattle.acn_grammar.specs.Grammar.{Grammar, node}
use Rattle.acn_grammar.specs.Interval.{span}
use Rattle.acn_grammar.specs.Meets.{Meets}
use Rattle.acn_grammar.specs.Paths.{node_at}
use Rattle.acn_grammar.specs.Spell.{Spell}
use Rattle.acn_grammar.specs.Walk.{Stand}
use Rattle.acn_grammar.specs.declared.limits.TheConstants.{MOST_PACKET_BITS}
use Rattle.acn_packet_laws.specs.Laws.{IsAccepted, NoFaultWithoutAFirst, BoundsHold, EachLengthIsTold, EachPathHasItsNumber, ValuesLieWithinBounds, HasNumber}
use Rattle.acn_bounds.specs.Between.{Holds, SpellingsLieBetween, NodeLiesBetween}

module _ (root : Grammar) (accepted : IsAccepted root) where
  -- the greatest bound is within a packet's limit, else that were a fault
  pub short : NoFaultWithoutAFirst → (span root).greatest ≤ MOST_PACKET_BITS
  short none = by (nat_lt MOST_PACKET_BITS (span root).greatest) refl
    where
      lt_is : (n : ℕ) → nat_lt MOST_PACKET_BITS n ≡ true → MOST_PACKET_BITS < n
      lt_is n h = grind (arith, nat_tests)

      lt_not : (n : ℕ) → nat_lt MOST_PACKET_BITS n ≡ false → n ≤ MOST_PACKET_BITS
      lt_not n h = grind (arith, nat_tests)

      by : (b : Bool) → nat_lt MOST_PACKET_BITS (span root).greatest ≡ b → (span root).greatest ≤ MOST_PACKET_BITS
      by true e = absurd (none root accepted.sound (too_long (span root).greatest) record { node = 0; use_here = 0; holds = record { at_root = refl; bits_are = refl; many = lt_is (span root).greatest e } })
      by false e = lt_not (span root).greatest e

  pub spellings_lie : NoFaultWithoutAFirst → BoundsHold → SpellingsLieBetween root (span root)
  spellings_lie none hold mode d bs spelled = hold root mode d bs accepted.formed (short none) spelled

  module _ (told : EachLengthIsTold) (numbered : EachPathHasItsNumber) (within : ValuesLieWithinBounds) where
    node_lies : (path : List ℕ) (g : Grammar) → node_at root path ≡ Some g → NodeLiesBetween root path (span g)
    node_lies path g leads g' mode env d at bs leads' small meets spelled = by (numbered root path g' leads')
      where
        same : g ≡ g'
        same = (let e = sym leads ∙ leads' in cc)

        at_number : (k : ℕ) (here : Stand) → NodeAt root k here → g' ≡ node here.align here.form → Holds (span g) (length bs)
        at_number k here is e =
            let spelled' : Spell root mode (node here.align here.form) env d at bs = subst (λ n. Spell root mode n env d at bs) e spelled in
            let meets' : Meets (node here.align here.form) d = subst (λ n. Meets n d) e meets in
            let small' : (span (node here.align here.form)).greatest ≤ MOST_PACKET_BITS = subst (λ n. (span n).greatest ≤ MOST_PACKET_BITS) (same ∙ e) small in
            subst (λ n. Holds (span n) (length bs)) (sym (same ∙ e))
            (subst (Holds (span (node here.align here.form))) (sym (told root k here mode env d at bs accepted is spelled')) (within root k here d at accepted is small' meets'))

        by : HasNumber root path g' → Holds (span g) (length bs)
        by t = at_number t.number t.here t.stands (sym t.node_is)

    -- the same of the node that was found
    pub found_lies : (path : List ℕ) (o : Option Grammar) → o ≡ node_at root path → Rattle.std.specs.Prelude.IfSome (option_map span o) (NodeLiesBetween root path)
    found_lies path None e = tt
    found_lies path (Some g) e = node_lies path g (sym e)
