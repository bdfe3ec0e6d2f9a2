use Rattle.std.proofs.Common.{◌≡◌, ℕ, ◌-◌, ◌*◌, ◌/◌, ◌%◌, ◌^◌, ap, subst, ◌∙◌, arith}
use Rattle.acn_string_lines.proofs.LetterTexts.{Parted, none_parted, one_parted, all_parted}
use Rattle.acn_string_lines.proofs.letters.put_parts.Goals as goal

pub loop-i-init : goal.loop-i-init
loop-i-init c = none_parted c.args.leaf.now c.args.word c.args.n c.args.text.now.items

pub loop-i-preserved : goal.loop-i-preserved
loop-i-preserved c =
    let leaf = c.args.leaf.now in
    let value = c.part-number.ensures.value ∙ ap (λ (k : ℕ). c.args.word / 2 ^ (k * (c.args.n - 1 - c.loop-i.i)) % 2 ^ leaf.width) c.from.ensures in
    one_parted leaf c.args.letters.now c.args.word c.args.n c.loop-i.i c.part-number.result _ c.loop-i.text.items _ c.requires.letters c.loop-i-test.true value (c.put_letter.ensures c.if-not-put_letter.false) c.loop-i.invariant

pub returns : goal.returns
returns c sure bs long is =
    let over = c.loop-i-test.false in
    let within = c.loop-i.auto.i-end in
    let count : c.loop-i.i ≡ c.args.n = omega (arith, over, within) in
    all_parted c.args.leaf.now c.args.word c.args.n c.args.text.now.items c.loop-i.text.items (subst (λ (k : ℕ). Parted c.args.leaf.now c.args.word c.args.n k c.args.text.now.items c.loop-i.text.items) count c.loop-i.invariant) bs long is
