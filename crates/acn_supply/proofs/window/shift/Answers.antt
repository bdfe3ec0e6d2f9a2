use Rattle.std.proofs.Common.{ap, ◌∙◌, take, ◌-◌}
use Rattle.acn_supply.proofs.Windows.{moved}
use Rattle.acn_supply.proofs.window.shift.Goals as goal

pub returns-clause-moved : goal.returns-clause-moved
returns-clause-moved c =
    ap (take (c.args.end - c.args.start)) c.copy_within.ensures.after ∙ moved c.args.room.now c.args.start c.args.end c.requires.ordered c.requires.within
