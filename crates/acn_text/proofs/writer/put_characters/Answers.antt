use Rattle.std.proofs.Common.{◌-◌, ◌*◌, ◌%◌, ◌≡◌, ℕ, List, length, take, drop, ap, arith}
use Rattle.std.proofs.lemmas.List.{length-take-le, length-drop, take_all}
use Rattle.acn_grammar.proofs.TextRules.{text_rules}
use Rattle.acn_text.proofs.Numbered.{both_written, first_fit, part_fit, part_long, part_room}
use Rattle.acn_text.proofs.writer.put_characters.Goals as goal

pub put_first-requires : goal.put_first-requires
put_first-requires g c =
    let text = c.args.text.now in
    let leaf = c.args.leaf.now in
    let k = length text % 8 in
    let r = c.requires in
    let long = length-take-le k text (omega arith) in
    let within = part_room leaf.width 0 k (length text) (omega arith) in
    let room = r.room in
    let same = ap (λ (j : ℕ). leaf.width * j) long in
    (omega arith, (r.fine, (r.width, (omega (arith, long), (first_fit leaf text k r.fit, (r.narrow, (r.small, omega (arith, room, within, same))))))))

pub put_words-requires : goal.put_words-requires
put_words-requires g c =
    let text = c.args.text.now in
    let leaf = c.args.leaf.now in
    let k = length text % 8 in
    let r = c.requires in
    let part : List ℕ = take (length text - k) (drop k text) in
    let long : length part ≡ length text - k = part_long k (length text - k) text (omega arith) in
    let front = length-take-le k text (omega arith) in
    let first = ap (λ (j : ℕ). leaf.width * j) front in
    let within = part_room leaf.width k (length part) (length text) (omega (arith, long)) in
    let room = r.room in
    let moved = c.put_first.ensures.moved in
    (omega arith, (r.fine, (r.width, (omega (arith, long), (part_fit leaf text k (length text - k) r.fit, omega (arith, room, within, moved, first))))))

pub returns : goal.returns
returns g c =
    let text = c.args.text.now in
    let leaf = c.args.leaf.now in
    let k = length text % 8 in
    let part : List ℕ = take (length text - k) (drop k text) in
    let is : part ≡ drop k text = take_all (length text - k) (drop k text) (omega (arith, length-drop k text)) in
    both_written leaf (text_rules leaf c.requires.fine) text part c.args.size.0 c.args.size.1 k c.args.cur.now c.put_first.new.cur c.put_words.new.cur (omega arith) is c.requires.fit c.put_first.ensures c.put_words.ensures
