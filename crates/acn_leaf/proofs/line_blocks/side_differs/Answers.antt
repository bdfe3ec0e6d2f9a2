use Rattle.std.proofs.Common.{map, sym, ◌∙◌}
use Rattle.acn_leaf.specs.Sides.{range_of}
use Rattle.acn_leaf.proofs.Rising.{rising_differ}
use Rattle.acn_leaf.proofs.Sides.{ranges_fine}
use Rattle.acn_leaf.proofs.line_blocks.side_differs.Goals as goal

pub returns-then-lines_rise : goal.returns-then-lines_rise
returns-then-lines_rise c =
    sym (rising_differ (map (range_of c.args.side) c.args.lines.now) (record { each = ranges_fine c.args.side c.args.lines.now c.requires; rising = sym c.lines_rise.ensures ∙ c.if-lines_rise.true }))
