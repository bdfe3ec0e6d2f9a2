use Rattle.std.proofs.Common.{◌+◌, ◌*◌, List, Bool, length, subst, arith}
use Rattle.acn_bits.specs.Writing.{Writes, place_of}
use Rattle.acn_grammar.proofs.TextRules.{text_rules}
use Rattle.acn_text.proofs.Numbered.{first_word}
use Rattle.acn_text.proofs.writer.put_first.Goals as goal

pub put-requires : goal.put-requires
put-requires g c =
    let leaf = c.args.leaf.now in
    let r = c.requires in
    let word = first_word leaf (text_rules leaf r.fine) c.args.front.now c.args.size.0 c.args.size.1 c.number_of_all-word.result r.fit r.few r.width r.narrow r.small c.number_of_all-word.ensures in
    let room = r.room in
    (omega arith, (word.0, (word.1, omega (arith, room))))

pub returns : goal.returns
returns g c =
    let leaf = c.args.leaf.now in
    let r = c.requires in
    let word = first_word leaf (text_rules leaf r.fine) c.args.front.now c.args.size.0 c.args.size.1 c.number_of_all-word.result r.fit r.few r.width r.narrow r.small c.number_of_all-word.ensures in
    subst (λ (t : List Bool). Writes c.args.cur.now c.put.new.self (place_of c.args.cur.now) t (place_of c.args.cur.now + (c.args.size.0 + leaf.width * length c.args.front.now))) word.2 c.put.ensures
