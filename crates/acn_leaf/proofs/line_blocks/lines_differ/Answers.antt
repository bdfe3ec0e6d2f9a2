use Rattle.std.proofs.Common.{◌&&◌, ap, sym, ◌∙◌, map}
use Rattle.acn_grammar.specs.Leaves.{all_differ}
use Rattle.acn_leaf.specs.Sides.{range_of, meet}
use Rattle.acn_leaf.specs.declared.line_blocks.Side.TheVariants.{Images}
use Rattle.acn_leaf.proofs.Sides.{both_sides}
use Rattle.acn_leaf.proofs.line_blocks.lines_differ.Goals as goal

pub returns-then-side_differs : goal.returns-then-side_differs
returns-then-side_differs c =
    let keys = sym c.side_differs.ensures ∙ c.if-side_differs.true in
    sym (both_sides c.args.lines.now ∙ (ap (λ b. b && all_differ meet (map (range_of Images) c.args.lines.now)) keys ∙ sym c.side_differs-then-side_differs.ensures))

pub returns-else-side_differs : goal.returns-else-side_differs
returns-else-side_differs c =
    let keys = sym c.side_differs.ensures ∙ c.if-side_differs.false in
    c.if-side_differs.false ∙ sym (both_sides c.args.lines.now ∙ ap (λ b. b && all_differ meet (map (range_of Images) c.args.lines.now)) keys)
