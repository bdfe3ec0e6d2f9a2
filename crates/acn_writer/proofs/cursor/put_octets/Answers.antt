use Rattle.std.proofs.Common.{◌+◌, ◌*◌, ◌%◌, ◌≤◌, ◌-◌, ◌≡◌, ◌∙◌, ℕ, List, length, take, drop, ap, arith}
use Rattle.acn_writer.proofs.Puts.{octets_start, octets_next, spelled_octets, take_long, part_long}
use Rattle.acn_writer.proofs.cursor.put_octets.Goals as goal

pub put-requires : goal.put-requires
put-requires g c =
    let octets = c.args.octets.now in
    let k = length octets % 8 in
    let room = c.requires in
    (omega arith, (omega arith, ((spelled_octets (take k octets) k c.octets_number.result (take_long k octets (omega arith)) c.octets_number.ensures).0, omega (arith, room))))

pub loop-i-init : goal.loop-i-init
loop-i-init g c =
    let octets = c.args.octets.now in
    let k = length octets % 8 in
    record {
      done = octets_start octets c.args.cursor.now c.put.new.self k (k + 0) c.octets_number.result (omega arith) (omega arith) c.octets_number.ensures c.put.ensures;
      upto = omega arith;
    }

pub put-requires-in-loop-i : goal.put-requires-in-loop-i
put-requires-in-loop-i g c =
    let octets = c.args.octets.now in
    let k = length octets % 8 + 8 * c.loop-i.i in
    let more = c.loop-i-test.true in
    let inside : k + 8 ≤ length octets = omega (arith, more) in
    let part : List ℕ = take (k + 8 - k) (drop k octets) in
    let eight : k + 8 - k ≡ 8 = omega arith in
    let is : part ≡ take 8 (drop k octets) = ap (λ (j : ℕ). take j (drop k octets)) eight in
    let room = c.requires in
    let moved = c.loop-i.invariant.done.moved in
    (omega arith, (omega arith, ((spelled_octets part 8 c.octets_number-in-loop-i.result (ap length is ∙ part_long k 8 octets inside) c.octets_number-in-loop-i.ensures).0, omega (arith, room, moved, more))))

pub loop-i-preserved : goal.loop-i-preserved
loop-i-preserved g c =
    let octets = c.args.octets.now in
    let k = length octets % 8 + 8 * c.loop-i.i in
    let n = length octets % 8 + 8 * (c.loop-i.i + 1) in
    let more = c.loop-i-test.true in
    let inside : k + 8 ≤ length octets = omega (arith, more) in
    let part : List ℕ = take (k + 8 - k) (drop k octets) in
    let eight : k + 8 - k ≡ 8 = omega arith in
    let is : part ≡ take 8 (drop k octets) = ap (λ (j : ℕ). take j (drop k octets)) eight in
    record {
      done = octets_next octets part c.args.cursor.now c.loop-i.cursor c.put-in-loop-i.new.self k 8 n c.octets_number-in-loop-i.result is inside (omega arith) c.octets_number-in-loop-i.ensures c.loop-i.invariant.done c.put-in-loop-i.ensures;
      upto = omega (arith, more);
    }
