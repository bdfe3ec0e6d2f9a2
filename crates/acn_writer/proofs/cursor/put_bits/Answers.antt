use Rattle.std.proofs.Common.{◌+◌, ◌*◌, ◌%◌, ◌≤◌, ◌-◌, ◌≡◌, ◌∙◌, ℕ, Bool, List, length, take, drop, refl, ap, arith}
use Rattle.acn_writer.proofs.Puts.{bits_start, bits_next, spelled_back, take_long, part_long}
use Rattle.acn_writer.proofs.cursor.put_bits.Goals as goal

pub put-requires : goal.put-requires
put-requires g c =
    let list = c.args.list.now in
    let k = length list % 64 in
    let room = c.requires in
    (omega arith, (omega arith, ((spelled_back (take k list) k c.pattern_number.result (take_long k list (omega arith)) c.pattern_number.ensures).0, omega (arith, room))))

pub loop-i-init : goal.loop-i-init
loop-i-init g c =
    let list = c.args.list.now in
    let k = length list % 64 in
    record {
      done = bits_start list (take k list) c.args.cursor.now c.put.new.self k (k + 0) c.pattern_number.result refl (take_long k list (omega arith)) (omega arith) c.pattern_number.ensures c.put.ensures;
      upto = omega arith;
    }

pub loop-i-preserved : goal.loop-i-preserved
loop-i-preserved g c =
    let list = c.args.list.now in
    let k = length list % 64 + 64 * c.loop-i.i in
    let n = length list % 64 + 64 * (c.loop-i.i + 1) in
    let more = c.loop-i-test.true in
    let inside : k + 64 ≤ length list = omega (arith, more) in
    let bs : List Bool = take (k + 64 - k) (drop k list) in
    let word : k + 64 - k ≡ 64 = omega arith in
    let is : bs ≡ take 64 (drop k list) = ap (λ (j : ℕ). take j (drop k list)) word in
    record {
      done = bits_next list bs c.args.cursor.now c.loop-i.cursor c.put-in-loop-i.new.self k 64 n c.pattern_number-in-loop-i.result is (ap length is ∙ part_long k 64 list inside) inside (omega arith) c.pattern_number-in-loop-i.ensures c.loop-i.invariant.done c.put-in-loop-i.ensures;
      upto = omega (arith, more);
    }
