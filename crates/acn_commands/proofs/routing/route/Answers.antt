use Rattle.std.proofs.Common.{refl}
use Rattle.acn_commands.specs.Serves.{stopped}
use Rattle.acn_commands.proofs.routing.route.Goals as goal

pub returns-in_default : goal.returns-in_default
returns-in_default g c = λ names told faults faults' read. rw c.no_memory.ensures.status (stopped (record { unread = record { input = refl; faults = refl }; out = refl }) c.no_memory.ensures.says)
