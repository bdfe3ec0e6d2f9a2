use Rattle.std.proofs.Common.{◌+◌, ◌-◌, ◌*◌, length}
use Rattle.acn_step_fields.proofs.locate.+locate.Given as goal

abbrev pub decreases-locate : goal.decreases-locate
decreases-locate l = 5 * (length l.asked.now - l.depth) + 1

abbrev pub decreases-locate_from : goal.decreases-locate_from
decreases-locate_from l = 5 * (length l.asked.now - l.depth) + 4

abbrev pub decreases-locate_inside : goal.decreases-locate_inside
decreases-locate_inside l = 5 * (length l.asked.now - l.depth) + 3

abbrev pub decreases-locate_step : goal.decreases-locate_step
decreases-locate_step l = 5 * (length l.asked.now - l.depth) + 2
