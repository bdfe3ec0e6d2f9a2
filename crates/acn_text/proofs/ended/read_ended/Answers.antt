use Rattle.std.proofs.Common.{◌≡◌, ◌∙◌, ◌++◌, refl, ap, sym, arith, length, None}
use Rattle.std.specs.List.{FoldsTo}
use Rattle.acn_num.specs.Bits.{number}
use Rattle.acn_ints.proofs.EndedLemmas.{stays_at}
use Rattle.acn_grammar.specs.ReadFaults.{reason_of}
use Rattle.acn_text.specs.Texts.{PassedText, NoTextAt}
use Rattle.acn_text.proofs.Calls.{folds_append}
use Rattle.acn_text.proofs.EndedReads.{at_start, seen_below, one_further, now_stays, found_wrong, text_found, ran_short, ran_long, no_room, found_at, refused_at}
use Rattle.acn_text.proofs.Fine.{fine_end}
use Rattle.acn_text.proofs.ended.read_ended.Goals as goal
use Rattle.acn_grammar.proofs.TextRules.{text_rules}

pub returns-in-Err-clause-wrong : goal.returns-in-Err-clause-wrong
returns-in-Err-clause-wrong g c =
    let f = fine_end c.args.leaf.now c.args.end.now (text_rules c.args.leaf.now c.requires.fine) c.requires.ended in
    no_room c.args.leaf.now c.args.end.now c.args.cur.now.rest f c.requires.ended (rw c.bits.ensures.same at c.in-Err.ensures.short)

pub loop-n-init : goal.loop-n-init
loop-n-init g c =
    let same = ap length c.bits.ensures.same in
    (c.requires.callable, at_start c.args.leaf.now c.args.end.now (λ cs. FoldsTo (λ p x q. goal.F-step g p x tt q) c.args.each.now cs c.args.each.now) c.args.cur.now c.take.new.self c.in-Ok.v refl (rw c.bits.ensures.same at c.in-Ok.ensures.within) (rw c.bits.ensures.same at c.in-Ok.ensures.moved) (rw c.bits.ensures.same at c.in-Ok.ensures.value))

pub first_octet-requires-clause-low : goal.first_octet-requires-clause-low
first_octet-requires-clause-low g c =
    let f = fine_end c.args.leaf.now c.args.end.now (text_rules c.args.leaf.now c.requires.fine) c.requires.ended in
    let same = ap length c.bits.ensures.same in
    let o = f.octets in
    let s = f.some in
    omega (arith, same, o, s)

pub next_seen-requires-clause-low : goal.next_seen-requires-clause-low
next_seen-requires-clause-low g c =
    let f = fine_end c.args.leaf.now c.args.end.now (text_rules c.args.leaf.now c.requires.fine) c.requires.ended in
    let same = ap length c.bits.ensures.same in
    let o = f.octets in
    let s = f.some in
    omega (arith, same, o, s)

pub first_octet-requires-clause-fits : goal.first_octet-requires-clause-fits
first_octet-requires-clause-fits g c =
    let f = fine_end c.args.leaf.now c.args.end.now (text_rules c.args.leaf.now c.requires.fine) c.requires.ended in
    let b = seen_below c.args.leaf.now c.args.end.now f (λ cs. FoldsTo (λ p x q. goal.F-step g p x tt q) c.args.each.now cs c.loop-n.each) c.args.cur.now c.loop-n.cur c.loop-n.n c.loop-n.seen c.loop-n.fine c.loop-n.invariant.1 in
    rw c.bits.ensures.same b

pub returns-then-seen-mark-clause-read : goal.returns-then-seen-mark-clause-read
returns-then-seen-mark-clause-read g c =
    let f = fine_end c.args.leaf.now c.args.end.now (text_rules c.args.leaf.now c.requires.fine) c.requires.ended in
    let is = c.if-seen-mark.true ∙ (c.pattern_number-mark.ensures ∙ ap number c.bits-2.ensures.same) in
    found_at c.finished.result c.loop-n.n (PassedText c.args.leaf.now None (λ cs. FoldsTo (λ p x q. goal.F-step g p x tt q) c.args.each.now cs c.loop-n.each) c.args.cur.now c.loop-n.cur) c.finished.ensures.size c.finished.ensures.permitted c.finished.ensures.fine
    (text_found c.args.leaf.now c.args.end.now f (λ cs. FoldsTo (λ p x q. goal.F-step g p x tt q) c.args.each.now cs c.loop-n.each) c.args.cur.now c.loop-n.cur c.loop-n.n c.loop-n.seen c.loop-n.fine c.loop-n.invariant.1 c.requires.ended is)

pub returns-then-seen-mark-clause-wrong : goal.returns-then-seen-mark-clause-wrong
returns-then-seen-mark-clause-wrong g c =
    let f = fine_end c.args.leaf.now c.args.end.now (text_rules c.args.leaf.now c.requires.fine) c.requires.ended in
    let is = c.if-seen-mark.true ∙ (c.pattern_number-mark.ensures ∙ ap number c.bits-2.ensures.same) in
    let value = c.most_characters-most.ensures.value in
    let below = c.loop-n-test.true in
    refused_at c.finished.result _ (λ e. NoTextAt c.args.leaf.now None c.args.cur.now.rest (reason_of e)) c.finished.ensures.wrong
    (λ e why. found_wrong c.args.leaf.now c.args.end.now f (λ cs. FoldsTo (λ p x q. goal.F-step g p x tt q) c.args.each.now cs c.loop-n.each) c.args.cur.now c.loop-n.cur c.loop-n.n c.loop-n.seen c.loop-n.fine c.loop-n.invariant.1 (reason_of e) c.requires.ended is (omega (arith, value, below)) why)

pub returns-then-seen-mark-clause-stays : goal.returns-then-seen-mark-clause-stays
returns-then-seen-mark-clause-stays g c =
    let f = fine_end c.args.leaf.now c.args.end.now (text_rules c.args.leaf.now c.requires.fine) c.requires.ended in
    stays_at c.finished.result _ (now_stays c.args.leaf.now c.args.end.now f (λ cs. FoldsTo (λ p x q. goal.F-step g p x tt q) c.args.each.now cs c.loop-n.each) c.args.cur.now c.loop-n.cur c.loop-n.n c.loop-n.seen c.loop-n.fine c.loop-n.invariant.1)

pub returns-in-Err-next_seen-clause-wrong : goal.returns-in-Err-next_seen-clause-wrong
returns-in-Err-next_seen-clause-wrong g c =
    let f = fine_end c.args.leaf.now c.args.end.now (text_rules c.args.leaf.now c.requires.fine) c.requires.ended in
    let mark = c.pattern_number-mark.ensures ∙ ap number c.bits-2.ensures.same in
    let value = c.most_characters-most.ensures.value in
    let below = c.loop-n-test.true in
    rw c.in-Err-next_seen.ensures.reason
    (ran_short c.args.leaf.now c.args.end.now f (λ cs. FoldsTo (λ p x q. goal.F-step g p x tt q) c.args.each.now cs c.loop-n.each) c.args.cur.now c.loop-n.cur c.loop-n.n c.loop-n.seen c.loop-n.fine c.loop-n.invariant.1 c.requires.ended (λ e. c.if-seen-mark.false (e ∙ sym mark)) (omega (arith, value, below)) c.in-Err-next_seen.ensures.short)

pub returns-in-Err-next_seen-clause-stays : goal.returns-in-Err-next_seen-clause-stays
returns-in-Err-next_seen-clause-stays g c =
    let f = fine_end c.args.leaf.now c.args.end.now (text_rules c.args.leaf.now c.requires.fine) c.requires.ended in
    rw c.in-Err-next_seen.ensures.kept (now_stays c.args.leaf.now c.args.end.now f (λ cs. FoldsTo (λ p x q. goal.F-step g p x tt q) c.args.each.now cs c.loop-n.each) c.args.cur.now c.loop-n.cur c.loop-n.n c.loop-n.seen c.loop-n.fine c.loop-n.invariant.1)

pub returns-in-Err-next_seen-clause-given : goal.returns-in-Err-next_seen-clause-given
returns-in-Err-next_seen-clause-given g c =
    let u = c.loop-n.invariant.1 in
    let more = c.give-fine.ensures.given in
    (u.given ++ more.0, folds_append (λ p x q. goal.F-step g p x tt q) c.args.each.now u.given c.loop-n.each more.0 c.give-fine.new.each u.gives more.1)

pub loop-n-preserved : goal.loop-n-preserved
loop-n-preserved g c =
    let f = fine_end c.args.leaf.now c.args.end.now (text_rules c.args.leaf.now c.requires.fine) c.requires.ended in
    let mark = c.pattern_number-mark.ensures ∙ ap number c.bits-2.ensures.same in
    let more = c.give-fine.ensures.given in (
      c.give-fine.ensures.callable,
      one_further c.args.leaf.now c.args.end.now f (λ cs. FoldsTo (λ p x q. goal.F-step g p x tt q) c.args.each.now cs c.loop-n.each) c.args.cur.now c.loop-n.cur c.loop-n.n c.loop-n.seen c.loop-n.fine c.loop-n.invariant.1
          (λ cs. FoldsTo (λ p x q. goal.F-step g p x tt q) c.args.each.now cs c.give-fine.new.each) c.next_seen.new.cur c.first_octet.result c.in-Ok-next_seen.next c.give-fine.result more.0 (λ e. c.if-seen-mark.false (e ∙ sym mark))
          (rw c.bits.ensures.same at c.first_octet.ensures.value) c.give-fine.ensures.fine more.2
          (λ xs h. folds_append (λ p x q. goal.F-step g p x tt q) c.args.each.now xs c.loop-n.each more.0 c.give-fine.new.each h more.1)
          c.in-Ok-next_seen.ensures.within c.in-Ok-next_seen.ensures.moved (rw c.bits.ensures.same at c.in-Ok-next_seen.ensures.seen),
    )

pub returns-then-seen-mark-2-clause-wrong : goal.returns-then-seen-mark-2-clause-wrong
returns-then-seen-mark-2-clause-wrong g c =
    let f = fine_end c.args.leaf.now c.args.end.now (text_rules c.args.leaf.now c.requires.fine) c.requires.ended in
    let mark = c.pattern_number-mark.ensures ∙ ap number c.bits-2.ensures.same in
    let value = c.most_characters-most.ensures.value in
    let over = c.loop-n-test.false in
    let upto = c.loop-n.auto.n-end in
    ran_long c.args.leaf.now c.args.end.now f (λ cs. FoldsTo (λ p x q. goal.F-step g p x tt q) c.args.each.now cs c.loop-n.each) c.args.cur.now c.loop-n.cur c.loop-n.n c.loop-n.seen c.loop-n.fine c.loop-n.invariant.1 c.requires.ended (λ e. c.if-seen-mark-2.true (e ∙ sym mark)) (omega (arith, value, over, upto))

pub returns-then-seen-mark-2-clause-stays : goal.returns-then-seen-mark-2-clause-stays
returns-then-seen-mark-2-clause-stays g c =
    let f = fine_end c.args.leaf.now c.args.end.now (text_rules c.args.leaf.now c.requires.fine) c.requires.ended in
    now_stays c.args.leaf.now c.args.end.now f (λ cs. FoldsTo (λ p x q. goal.F-step g p x tt q) c.args.each.now cs c.loop-n.each) c.args.cur.now c.loop-n.cur c.loop-n.n c.loop-n.seen c.loop-n.fine c.loop-n.invariant.1

pub returns-clause-read : goal.returns-clause-read
returns-clause-read g c =
    let f = fine_end c.args.leaf.now c.args.end.now (text_rules c.args.leaf.now c.requires.fine) c.requires.ended in
    let is = c.if-seen-mark-2.false ∙ (c.pattern_number-mark.ensures ∙ ap number c.bits-2.ensures.same) in
    let over = c.loop-n-test.false in
    let upto = c.loop-n.auto.n-end in
    let same : c.loop-n.n ≡ c.most_characters-most.result = omega (arith, over, upto) in
    found_at c.finished-2.result c.loop-n.n (PassedText c.args.leaf.now None (λ cs. FoldsTo (λ p x q. goal.F-step g p x tt q) c.args.each.now cs c.loop-n.each) c.args.cur.now c.loop-n.cur) (rw (← same) at c.finished-2.ensures.size) (rw (← same) at c.finished-2.ensures.permitted) c.finished-2.ensures.fine
    (text_found c.args.leaf.now c.args.end.now f (λ cs. FoldsTo (λ p x q. goal.F-step g p x tt q) c.args.each.now cs c.loop-n.each) c.args.cur.now c.loop-n.cur c.loop-n.n c.loop-n.seen c.loop-n.fine c.loop-n.invariant.1 c.requires.ended is)

pub returns-clause-wrong : goal.returns-clause-wrong
returns-clause-wrong g c =
    let f = fine_end c.args.leaf.now c.args.end.now (text_rules c.args.leaf.now c.requires.fine) c.requires.ended in
    let is = c.if-seen-mark-2.false ∙ (c.pattern_number-mark.ensures ∙ ap number c.bits-2.ensures.same) in
    let value = c.most_characters-most.ensures.value in
    let over = c.loop-n-test.false in
    let upto = c.loop-n.auto.n-end in
    let same : c.loop-n.n ≡ c.most_characters-most.result = omega (arith, over, upto) in
    refused_at c.finished-2.result _ (λ e. NoTextAt c.args.leaf.now None c.args.cur.now.rest (reason_of e)) (rw (← same) at c.finished-2.ensures.wrong)
    (λ e why. found_wrong c.args.leaf.now c.args.end.now f (λ cs. FoldsTo (λ p x q. goal.F-step g p x tt q) c.args.each.now cs c.loop-n.each) c.args.cur.now c.loop-n.cur c.loop-n.n c.loop-n.seen c.loop-n.fine c.loop-n.invariant.1 (reason_of e) c.requires.ended is (omega (arith, value, same)) why)

pub returns-clause-stays : goal.returns-clause-stays
returns-clause-stays g c =
    let f = fine_end c.args.leaf.now c.args.end.now (text_rules c.args.leaf.now c.requires.fine) c.requires.ended in
    stays_at c.finished-2.result _ (now_stays c.args.leaf.now c.args.end.now f (λ cs. FoldsTo (λ p x q. goal.F-step g p x tt q) c.args.each.now cs c.loop-n.each) c.args.cur.now c.loop-n.cur c.loop-n.n c.loop-n.seen c.loop-n.fine c.loop-n.invariant.1)
