use Rattle.std.proofs.Common.{refl}
use Rattle.acn_grammar.specs.View.{grammar_of}
use Rattle.acn_work.specs.Line.{summary_line}
use Rattle.acn_commands.specs.Steps.{IsSummaryLine, stopped}
use Rattle.acn_commands.proofs.Printing.{text_told}
use Rattle.acn_commands.proofs.answers.summary.Goals as goal

pub returns-in-Ok : goal.returns-in-Ok
returns-in-Ok g c =
    let is = IsSummaryLine (grammar_of c.args.checked.now.tree.root) c.args.start c.args.count in
    text_told is (summary_line c.in-Ok.summary) _ _ _ _ c.behind_text.result c.put_summary.result (c.in-Ok.summary, c.in-Ok.ensures, refl) c.put_summary.ensures c.behind_text.ensures.done c.behind_text.ensures.failed

pub returns-in-Err : goal.returns-in-Err
returns-in-Err g c = rw c.no_memory.ensures.status (stopped refl c.no_memory.ensures.says)
