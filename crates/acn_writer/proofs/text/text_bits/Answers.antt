use Rattle.std.proofs.Common.{arith}
use Rattle.acn_grammar.proofs.TextRules.{text_rules, size_few}
use Rattle.acn_text.proofs.Fine.{width_few}
use Rattle.acn_writer.proofs.Breaches.{few_bits, meets_size}
use Rattle.acn_writer.proofs.text.text_bits.Goals as goal

pub overflow_mul-characters : goal.overflow_mul-characters
overflow_mul-characters c =
    let f = text_rules c.args.leaf.now c.requires.fine in
    let w = width_few c.args.leaf.now f in
    let n = size_few c.args.leaf.now.sized.sizes _ f.sizes (meets_size c.args.leaf.now c.args.text.now c.requires.meets) in
    let few = few_bits c.from.result _ (omega (arith, w, c.from.ensures)) n in
    omega (arith, few)

pub overflow_add-result : goal.overflow_add-result
overflow_add-result c =
    let f = text_rules c.args.leaf.now c.requires.fine in
    let w = width_few c.args.leaf.now f in
    let n = size_few c.args.leaf.now.sized.sizes _ f.sizes (meets_size c.args.leaf.now c.args.text.now c.requires.meets) in
    let few = few_bits c.from.result _ (omega (arith, w, c.from.ensures)) n in
    omega (arith, few, c.bits.ensures.short)

pub overflow_add-result-in-Prefix : goal.overflow_add-result-in-Prefix
overflow_add-result-in-Prefix c =
    let f = text_rules c.args.leaf.now c.requires.fine in
    let w = width_few c.args.leaf.now f in
    let n = size_few c.args.leaf.now.sized.sizes _ f.sizes (meets_size c.args.leaf.now c.args.text.now c.requires.meets) in
    let few = few_bits c.from.result _ (omega (arith, w, c.from.ensures)) n in
    let narrow = c.from-in-Prefix.type_inv in
    omega (arith, few, c.from-in-Prefix.ensures, narrow)
