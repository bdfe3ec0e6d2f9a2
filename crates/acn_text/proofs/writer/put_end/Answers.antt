use Rattle.std.proofs.Common.{◌∙◌, refl, ap, sym, arith, subst, length, Bool, List, ◌+◌}
use Rattle.acn_num.specs.Bits.{number}
use Rattle.acn_bits.specs.Writing.{place_of, Writes}
use Rattle.acn_ints.proofs.PieceLemmas.{bits_low}
use Rattle.acn_text.proofs.writer.put_end.Goals as goal

pub put-requires : goal.put-requires
put-requires g c =
    let is = bits_low c.bits.result.now (length c.bits.result.now) c.pattern_number.result (record { long = refl; small = c.bits.ensures.short; same = c.pattern_number.ensures ∙ ap number (c.bits-2.ensures.same ∙ sym c.bits.ensures.same) }) in
    let same = ap length c.bits.ensures.same in
    let room = c.requires.room in
    (omega arith, (c.bits.ensures.short, (is.0, omega (arith, same, room))))

pub returns : goal.returns
returns g c =
    let is = bits_low c.bits.result.now (length c.bits.result.now) c.pattern_number.result (record { long = refl; small = c.bits.ensures.short; same = c.pattern_number.ensures ∙ ap number (c.bits-2.ensures.same ∙ sym c.bits.ensures.same) }) in
    subst (λ (t : List Bool). Writes c.args.cur.now c.put.new.self (place_of c.args.cur.now) t (place_of c.args.cur.now + length t)) c.bits.ensures.same
    (subst (λ (t : List Bool). Writes c.args.cur.now c.put.new.self (place_of c.args.cur.now) t (place_of c.args.cur.now + length c.bits.result.now)) is.1 c.put.ensures)
