use Rattle.std.proofs.Common.{◌≡◌, Some, None, refl, subst}
use Rattle.acn_grammar.specs.View.{grammar_of}
use Rattle.acn_tree.specs.declared.tree.Tree.{Tree}
use Rattle.acn_commands.specs.Extremes.{IsExtremesText, extremes_text, unsingle_line}
use Rattle.acn_commands.specs.Outside.{Says}
use Rattle.acn_commands.specs.Steps.{TextEnds, stopped, in_text, not_single}
use Rattle.acn_commands.proofs.Telling.{text_turned}
use Rattle.acn_commands.proofs.Printing.{text_told}
use Rattle.acn_commands.proofs.extremes.ends_of.Goals as goal

pub returns-in-Ok-Some : goal.returns-in-Ok-Some
returns-in-Ok-Some g c =
    let tree = c.args.checked.now.tree in
    let ends = c.in-Ok-Some.ends in
    let said = subst (λ (t : Tree). TextEnds (λ text. text ≡ extremes_text (grammar_of t.root) (Some ends)) (g.O.Sink.taken c.args.out.now, g.O.Sink.faults c.args.out.now) (g.O.Sink.taken c.put_ends.new.out, g.O.Sink.faults c.put_ends.new.out) (g.E.Sink.taken c.args.err.now, g.E.Sink.faults c.args.err.now) (g.E.Sink.taken c.put_ends.new.err, g.E.Sink.faults c.put_ends.new.err) c.put_ends.result) c.tree.ensures.same c.put_ends.ensures in
    in_text c.put_ends.result (text_turned (λ text. text ≡ extremes_text (grammar_of tree.root) (Some ends)) (IsExtremesText tree) (λ text h. record { single = c.in-Ok-Some.ensures.single; found = Some ends; are = rw c.in-Ok-Some.field-0-is at c.in-Ok-Some.ensures.ends; is = h }) _ _ _ _ c.put_ends.result said)

pub returns-in-Ok-None : goal.returns-in-Ok-None
returns-in-Ok-None g c =
    let tree = c.args.checked.now.tree in
    in_text c.behind_text.result
    (text_told (IsExtremesText tree) (extremes_text (grammar_of tree.root) None) _ _ _ _ c.behind_text.result c.put_piece.result (record { single = c.in-Ok-None.ensures.single; found = None; are = rw c.in-Ok-None.field-0-is at c.in-Ok-None.ensures.ends; is = refl }) c.put_piece.ensures
    c.behind_text.ensures.done c.behind_text.ensures.failed)

pub returns-in-Err-NotSingle : goal.returns-in-Err-NotSingle
returns-in-Err-NotSingle g c =
    let heard = rw c.in-Err-NotSingle.field-0-is at c.unsingle.ensures.says in
    let says = subst (λ (t : Tree). Says (unsingle_line t c.in-Err-NotSingle.at c.in-Err-NotSingle.why) (g.E.Sink.taken c.args.err.now, g.E.Sink.faults c.args.err.now) (g.E.Sink.taken c.unsingle.new.err, g.E.Sink.faults c.unsingle.new.err)) c.tree-in-Err-NotSingle.ensures.same heard in
    rw c.unsingle.ensures.status (not_single c.in-Err-NotSingle.at c.in-Err-NotSingle.why (rw c.in-Err-NotSingle.field-0-is at c.in-Err-NotSingle.ensures.fault) refl says)

pub returns-in-Err-NoMemory : goal.returns-in-Err-NoMemory
returns-in-Err-NoMemory g c = rw c.no_memory.ensures.status (in_text _ (stopped refl c.no_memory.ensures.says))
