use Rattle.std.proofs.Common.{sym, ap, map, ◌∙◌, arith}
use Rattle.std.proofs.lemmas.Grind.{common_steps}
use Rattle.acn_grammar.specs.Interval.{lengths_of}
use Rattle.acn_leaf.proofs.CodeLengths.{alone, from-none, leaf-lines, by-items, by-set, by-table}
use Rattle.acn_leaf.proofs.lengths.code_lengths.Goals as goal

pub with_images-requires-clause-lines : goal.with_images-requires-clause-lines
with_images-requires-clause-lines c =
    let fine = leaf-lines c.args.leaf.now c.in-Some.table c.requires c.in-Some.is in
    grind (arith, common_steps)

pub returns-then-leaf-clause-value : goal.returns-then-leaf-clause-value
returns-then-leaf-clause-value c =
    let coding = c.args.leaf.now.coding in
    c.with_items.ensures.value ∙ (from-none coding _ ∙ ap (lengths_of coding) (ap (map alone) c.items.ensures ∙ sym (by-items c.args.leaf.now c.if-leaf.true)))

pub returns-in-None-clause-value : goal.returns-in-None-clause-value
returns-in-None-clause-value c =
    let is = by-set c.args.leaf.now c.if-leaf.false c.in-None.is in
    grind (arith, common_steps, from-none)

pub returns-in-Some-clause-value : goal.returns-in-Some-clause-value
returns-in-Some-clause-value c =
    let is = by-table c.args.leaf.now c.in-Some.table c.if-leaf.false c.in-Some.is in
    grind (arith, common_steps, from-none)
