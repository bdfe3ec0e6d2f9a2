use Rattle.std.proofs.Common.{sym, ap, ◌∙◌, subst}
use Rattle.std.specs.List.{list_all}
use Rattle.acn_num.specs.Ranges.{AreRanges}
use Rattle.acn_grammar.specs.Leaves.{line_fine}
use Rattle.acn_extreme_numbers.specs.Picked.{AreParts, picked}
use Rattle.acn_extreme_numbers.proofs.Parts.{are_parts}
use Rattle.acn_extreme_numbers.proofs.Picking.{tabled, tabled_tried}
use Rattle.acn_extreme_numbers.proofs.numbers.with_tried.Goals as goal

pub with_ranges-requires-clause-parts : goal.with_ranges-requires-clause-parts
with_ranges-requires-clause-parts c =
    let r = c.ranges-in-None.ensures in
    subst (AreParts c.args.leaf.now.set) (sym r.same) (are_parts c.args.leaf.now.set (subst AreRanges r.same r.ordered))

pub with_images-requires-clause-parts : goal.with_images-requires-clause-parts
with_images-requires-clause-parts c =
    let r = c.ranges-in-Some.ensures in
    subst (AreParts c.args.leaf.now.set) (sym r.same) (are_parts c.args.leaf.now.set (subst AreRanges r.same r.ordered))

pub with_images-requires-clause-lines : goal.with_images-requires-clause-lines
with_images-requires-clause-lines c = ap (list_all line_fine) c.items.ensures ∙ (tabled c.args.leaf.now c.in-Some.table c.requires.fine c.in-Some.is).lines

pub returns-in-Some-clause-number : goal.returns-in-Some-clause-number
returns-in-Some-clause-number c =
    let t = tabled c.args.leaf.now c.in-Some.table c.requires.fine c.in-Some.is in
    c.with_images.ensures.number
    ∙ ap (picked c.args.leaf.now c.args.side c.args.best.number) (tabled_tried c.args.leaf.now c.in-Some.table c.items.result.now c.ranges-in-Some.result.now c.in-Some.is t.origin_is c.items.ensures c.ranges-in-Some.ensures.same)
