use Rattle.std.proofs.Common.{◌+◌, ◌*◌, ◌≤◌, ◌-◌, ◌≡◌, ◌∙◌, ℕ, List, [], length, take, drop, ap, subst, arith}
use Rattle.acn_bits.specs.Writing.{Writes, place_of}
use Rattle.acn_grammar.proofs.TextRules.{text_rules}
use Rattle.acn_text.specs.Steps.{NumbersFit}
use Rattle.acn_text.proofs.Numbered.{fits_word, next_written, part_fit, part_long, part_room, spelled_back}
use Rattle.acn_text.proofs.writer.put_words.Goals as goal

pub loop-i-init : goal.loop-i-init
loop-i-init g c =
    let w = c.args.leaf.now.width in
    let e : 0 ≡ w * (8 * 0) = omega arith in
    record {
      done = subst (λ (j : ℕ). Writes c.args.cur.now c.put.new.self (place_of c.args.cur.now) [] (place_of c.args.cur.now + j)) e c.put.ensures;
      upto = omega arith;
    }

pub put-requires-in-loop-i : goal.put-requires-in-loop-i
put-requires-in-loop-i g c =
    let text = c.args.text.now in
    let leaf = c.args.leaf.now in
    let k = 8 * c.loop-i.i in
    let more = c.loop-i-test.true in
    let inside : k + 8 ≤ length text = omega (arith, more) in
    let part : List ℕ = take (k + 8 - k) (drop k text) in
    let eight : k + 8 - k ≡ 8 = omega arith in
    let is : part ≡ take 8 (drop k text) = ap (λ (j : ℕ). take j (drop k text)) eight in
    let fit : NumbersFit leaf part = part_fit leaf text k (k + 8 - k) c.requires.fit in
    let width = fits_word leaf.width 8 c.requires.width (omega arith) in
    let word = spelled_back leaf (text_rules leaf c.requires.fine) part 8 c.number_of_all-word.result (ap length is ∙ part_long k 8 text inside) fit c.number_of_all-word.ensures in
    let room = c.requires.room in
    let moved = c.loop-i.invariant.done.moved in
    let within = part_room leaf.width k 8 (length text) inside in
    (omega arith, (width, (word.0, omega (arith, room, moved, within))))

pub loop-i-preserved : goal.loop-i-preserved
loop-i-preserved g c =
    let text = c.args.text.now in
    let leaf = c.args.leaf.now in
    let k = 8 * c.loop-i.i in
    let n = 8 * (c.loop-i.i + 1) in
    let more = c.loop-i-test.true in
    let inside : k + 8 ≤ length text = omega (arith, more) in
    let part : List ℕ = take (k + 8 - k) (drop k text) in
    let eight : k + 8 - k ≡ 8 = omega arith in
    let is : part ≡ take 8 (drop k text) = ap (λ (j : ℕ). take j (drop k text)) eight in
    record {
      done = next_written leaf (text_rules leaf c.requires.fine) text part c.args.cur.now c.loop-i.cur c.put-in-loop-i.new.self k 8 n c.number_of_all-word.result is inside (omega arith) c.requires.fit c.number_of_all-word.ensures c.loop-i.invariant.done c.put-in-loop-i.ensures;
      upto = omega (arith, more);
    }
