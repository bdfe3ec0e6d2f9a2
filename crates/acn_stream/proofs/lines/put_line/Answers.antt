use Rattle.std.proofs.Common.{◌∙◌, sym}
use Rattle.acn_grammar.specs.View.{data_of}
use Rattle.acn_plan.specs.Back.{root_of}
use Rattle.acn_stream.specs.Passing.{PutsValue, answered, grammar_by}
use Rattle.acn_stream.proofs.LinesGiving.{puts_line}
use Rattle.acn_stream.proofs.lines.put_line.Goals as goal

pub returns-in-Some : goal.returns-in-Some
returns-in-Some c =
    let old = c.args.space.now.packets.items in
    let said = answered c.put_value-answer.result c.put_value-answer.new.space.why in
    let puts : PutsValue (root_of c.args.by.now.plan.now.steps) (data_of c.in-Some.value) old c.put_value-answer.new.space.packets.items said = c.put_value-answer.ensures in
    let gives = rw c.tree.ensures.same at c.in-Some.ensures.gives in
    let blank = sym c.is_blank.ensures ∙ c.if-is_blank.false in
    puts_line (grammar_by c.args.by.now) c.args.line.now (data_of c.in-Some.value) old _ said blank gives (rw c.requires.can.planned at puts)
