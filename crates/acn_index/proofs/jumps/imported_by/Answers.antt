use Rattle.acn_index.specs.Steps.{names_view}
use Rattle.acn_index.proofs.Numbered.{numbered_none}
use Rattle.acn_index.proofs.jumps.imported_by.Goals as goal

pub loop-k-init : goal.loop-k-init
loop-k-init c = numbered_none c.new.result (names_view c.new-2.result.items) c.new.ensures
