use Rattle.std.proofs.Common.{refl, subst}
use Rattle.acn_compare.specs.Texts.{answer_line}
use Rattle.acn_grammar.specs.View.{grammar_of}
use Rattle.acn_print.specs.Printing.{Prints}
use Rattle.acn_tree.specs.declared.tree.Tree.{Tree}
use Rattle.acn_commands.specs.Compared.{IsAnswerLine}
use Rattle.acn_commands.specs.Steps.{stopped}
use Rattle.acn_commands.proofs.TwoGrammars.{is_answer}
use Rattle.acn_commands.proofs.Printing.{text_told}
use Rattle.acn_commands.proofs.comparing.comparison.Goals as goal

pub returns-in-Ok : goal.returns-in-Ok
returns-in-Ok g c =
    let old = c.args.old.now.tree in
    let newer = c.args.newer.now.tree in
    let answer = c.in-Ok.answer in
    let is = rw c.in-Ok.is at (is_answer (grammar_of old.root) (grammar_of newer.root) c.compare.result c.compare.ensures.yes c.compare.ensures.no c.compare.ensures.read) in
    let prints = subst (λ (t : Tree). Prints (answer_line t answer) (g.O.Sink.taken c.args.out.now, g.O.Sink.faults c.args.out.now) (g.O.Sink.taken c.put_answer.new.out, g.O.Sink.faults c.put_answer.new.out) c.put_answer.result) c.tree.ensures.same c.put_answer.ensures in
    text_told (IsAnswerLine old newer) (answer_line old answer) _ _ _ _ c.behind_text.result c.put_answer.result (answer, is, refl) prints c.behind_text.ensures.done c.behind_text.ensures.failed

pub returns-in-Err : goal.returns-in-Err
returns-in-Err g c = rw c.no_memory.ensures.status (stopped refl c.no_memory.ensures.says)
