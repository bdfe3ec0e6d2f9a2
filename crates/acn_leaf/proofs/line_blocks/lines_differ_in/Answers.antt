use Rattle.std.proofs.Common.{◌&&◌, ap, sym, ◌∙◌, map}
use Rattle.acn_grammar.specs.Leaves.{all_differ}
use Rattle.acn_leaf.specs.Sides.{range_of, meet}
use Rattle.acn_leaf.specs.declared.line_blocks.Side.TheVariants.{Images}
use Rattle.acn_leaf.proofs.Sides.{both_sides}
use Rattle.acn_leaf.proofs.line_blocks.lines_differ_in.Goals as goal

pub returns-then-side_differs_in : goal.returns-then-side_differs_in
returns-then-side_differs_in c =
    let keys = sym c.side_differs_in.ensures ∙ c.if-side_differs_in.true in
    sym (both_sides c.args.lines.now ∙ (ap (λ b. b && all_differ meet (map (range_of Images) c.args.lines.now)) keys ∙ sym c.side_differs_in-then-side_differs_in.ensures))

pub returns-else-side_differs_in : goal.returns-else-side_differs_in
returns-else-side_differs_in c =
    let keys = sym c.side_differs_in.ensures ∙ c.if-side_differs_in.false in
    c.if-side_differs_in.false ∙ sym (both_sides c.args.lines.now ∙ ap (λ b. b && all_differ meet (map (range_of Images) c.args.lines.now)) keys)
