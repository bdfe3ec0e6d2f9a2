use Rattle.std.proofs.Common.{◌≡◌, refl, subst}
use Rattle.acn_grammar.specs.Interval.{span}
use Rattle.acn_grammar.specs.View.{grammar_of}
use Rattle.acn_report.specs.Texts.{empty_line}
use Rattle.acn_tree.specs.declared.tree.Tree.{Tree}
use Rattle.acn_commands.specs.Outside.{Says}
use Rattle.acn_commands.specs.Steps.{never_begun, unplanned, ended}
use Rattle.acn_commands.proofs.Begun.{above, was_begun, failed_so}
use Rattle.acn_commands.proofs.streams.encode.Goals as goal

pub returns-then-bounds-eq0 : goal.returns-then-bounds-eq0
returns-then-bounds-eq0 g c =
    let least : (span (grammar_of c.args.checked.now.tree.root)).least ≡ 0 = rw (← c.bounds.ensures.exact) c.if-bounds-eq0.true in
    let says = subst (λ (t : Tree). Says (empty_line t) (g.E.Sink.taken c.args.err.now, g.E.Sink.faults c.args.err.now) (g.E.Sink.taken c.empty_packet.new.err, g.E.Sink.faults c.empty_packet.new.err)) c.tree.ensures.same c.empty_packet.ensures.says in
    rw c.empty_packet.ensures.status (never_begun least refl refl refl says)

pub returns-in_default : goal.returns-in_default
returns-in_default g c = rw c.no_memory.ensures.status (unplanned refl refl refl c.no_memory.ensures.says)

pub returns : goal.returns
returns g c =
    ended c.encode_all-ended.result c.behind_stream.result (above _ (λ e. c.if-bounds-eq0.false (rw c.bounds.ensures.exact e))) c.encode_all-ended.ensures.ends c.behind_stream.ensures
    (was_begun c.encode_all-ended.result (λ e. c.if-bounds-eq0.false (rw c.bounds.ensures.exact (c.encode_all-ended.ensures.empty.0 e))))
    (failed_so c.encode_all-ended.result _ _ _ _ c.encode_all-ended.ensures.input_fault c.encode_all-ended.ensures.output_fault c.encode_all-ended.ensures.input_stays c.encode_all-ended.ensures.output_stays)
