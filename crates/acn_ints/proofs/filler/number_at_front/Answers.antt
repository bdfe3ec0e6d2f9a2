use Rattle.std.proofs.Common.{◌≡◌, ◌∙◌, ◌*◌, ap, take, length, arith, ℕ}
use Rattle.std.proofs.lemmas.List.{take-take, length-take-le}
use Rattle.acn_num.specs.Bits.{bits, number}
use Rattle.acn_bits.specs.Reading.{Reading}
use Rattle.acn_num.proofs.BitLists.{length-bits}
use Rattle.acn_ints.proofs.filler.number_at_front.Goals as goal

pub returns : goal.returns
returns c = c.in-Ok.ensures.value ∙ ap (λ (r : Reading). number (take c.args.width r.rest)) c.new-bits.ensures ∙ ap number (take-take c.args.width 64 (bits c.args.buf.now) c.requires)

pub unreachable-requires : goal.unreachable-requires
unreachable-requires c =
    let e : length c.new-bits.result.rest ≡ length (take 64 (bits c.args.buf.now)) = ap (λ (r : Reading). length r.rest) c.new-bits.ensures in
    let whole : length (bits c.args.buf.now) ≡ 64 = length-bits c.args.buf.now ∙ ap (λ (k : ℕ). 8 * k) c.told-buf in
    let f : length (take 64 (bits c.args.buf.now)) ≡ 64 = length-take-le 64 (bits c.args.buf.now) (omega arith) in
    let s = c.in-Err.ensures.short in
    omega (arith, e, f, s)
