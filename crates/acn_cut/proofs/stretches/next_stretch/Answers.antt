use Rattle.acn_grammar.specs.View.{fields_view}
use Rattle.acn_cut.proofs.Runs.{nothing_begins}
use Rattle.acn_cut.proofs.stretches.next_stretch.Goals as goal

pub returns-then-left-gt0 : goal.returns-then-left-gt0
returns-then-left-gt0 c = nothing_begins (fields_view c.args.fields.now) c.nothing.result c.nothing.ensures.pieces c.nothing.ensures.width

pub returns-then-count-lt2 : goal.returns-then-count-lt2
returns-then-count-lt2 c = nothing_begins (fields_view c.args.fields.now) c.nothing-then-count-lt2.result c.nothing-then-count-lt2.ensures.pieces c.nothing-then-count-lt2.ensures.width
