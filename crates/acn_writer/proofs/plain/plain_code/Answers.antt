use Rattle.std.proofs.Common.{rules, ◌≡◌, ◌∷◌, [], ◌≤ℤ◌}
use Rattle.acn_writer.specs.Plain.{IsPlain}
use Rattle.acn_writer.proofs.PlainCodes.{bounded, can_count, inside, leaf_code}
use Rattle.acn_writer.proofs.plain.plain_code.Goals as goal

pub counted-requires : goal.counted-requires
counted-requires c =
    let r = c.in_ok-range.range.now in
    let low : r.0 ≤ℤ c.args.x.now = c.is_in.ensures.low (search rules) in
    let high : c.args.x.now ≤ℤ r.1 = c.is_in.ensures.high (search rules) in
    let set : c.args.leaf.now.set ≡ (r.0, r.1) ∷ [] = search rules in
    let plain : IsPlain c.args.leaf.now = record { values = search rules; little = search rules; table = search rules } in
    let permitted = inside r.0 r.1 c.args.x.now c.args.leaf.now.set set low high in
    record { bounded = bounded r.0 r.1 c.args.x.now c.args.leaf.now.set set (search rules) low high; can = can_count c.args.leaf.now c.args.x.now c.requires permitted plain }

pub returns-in-None : goal.returns-in-None
returns-in-None c =
    let r = c.in_ok-range.range.now in
    let low : r.0 ≤ℤ c.args.x.now = c.is_in.ensures.low (search rules) in
    let high : c.args.x.now ≤ℤ r.1 = c.is_in.ensures.high (search rules) in
    let set : c.args.leaf.now.set ≡ (r.0, r.1) ∷ [] = search rules in
    let plain : IsPlain c.args.leaf.now = record { values = search rules; little = search rules; table = search rules } in
    leaf_code c.args.leaf.now c.counted.result c.args.x.now (inside r.0 r.1 c.args.x.now c.args.leaf.now.set set low high) plain c.counted.ensures
