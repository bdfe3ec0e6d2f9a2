use Rattle.std.proofs.Common.{ap, ◌∙◌}
use Rattle.std.specs.List.{list_all}
use Rattle.acn_leaf.specs.Sides.{is_range}
use Rattle.acn_leaf.proofs.Sides.{ranges_fine}
use Rattle.acn_leaf.proofs.line_blocks.many_differ.Goals as goal

pub ranges_differ-requires-clause-each : goal.ranges_differ-requires-clause-each
ranges_differ-requires-clause-each c = ap (list_all is_range) (c.as_mut_slice.ensures.value ∙ c.in-Ok.ensures) ∙ ranges_fine c.args.side c.args.lines.now c.requires
