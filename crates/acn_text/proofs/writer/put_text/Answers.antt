use Rattle.std.proofs.Common.{◌+◌, ◌*◌, ◌≤◌, ap, sym, arith, subst, List, Bool, length, Option}
use Rattle.acn_bits.specs.Writing.{place_of, Writes}
use Rattle.acn_grammar.specs.Length.{text_length, rule_width}
use Rattle.acn_text.specs.Steps.{character_bits, text_bits}
use Rattle.acn_text.proofs.Fine.{width_few}
use Rattle.acn_text.proofs.Spelled.{meets_text, text_numbers, character_bits_long}
use Rattle.acn_text.proofs.Written.{behind_none, two_writes, text_puts}
use Rattle.acn_text.proofs.writer.put_text.Goals as goal
use Rattle.acn_grammar.proofs.TextRules.{text_rules}

pub put_sized-requires : goal.put_sized-requires
put_sized-requires g c =
    let room = subst (λ (o : Option (List Bool)). place_of c.args.cur.now + text_length o c.args.leaf.now (length c.args.text.now) ≤ 8 * g.row.N) c.in-None.is c.requires.room in
    (omega arith, (c.requires.fine, (c.in-None.is, (c.requires.meets, omega (arith, room)))))

pub put_characters-requires : goal.put_characters-requires
put_characters-requires g c =
    let f = text_rules c.args.leaf.now c.requires.fine in
    let w = width_few c.args.leaf.now f in
    let room = subst (λ (o : Option (List Bool)). place_of c.args.cur.now + text_length o c.args.leaf.now (length c.args.text.now) ≤ 8 * g.row.N) c.in-Some.is c.requires.room in
    (omega arith, (c.requires.fine, (omega (arith, w), (text_numbers c.args.leaf.now f c.args.text.now (meets_text c.args.leaf.now c.args.text.now c.requires.meets), (omega arith, (omega arith, omega (arith, room)))))))

pub returns-in-None-clause-code : goal.returns-in-None-clause-code
returns-in-None-clause-code g c =
    let leaf = c.args.leaf.now in
    let n = length c.args.text.now in
    let f = text_rules leaf c.requires.fine in
    let m = meets_text leaf c.args.text.now c.requires.meets in
    text_puts leaf c.args.text.now c.args.cur.now c.put_sized.new.cur (rule_width leaf.sized.rule + leaf.width * n) f m (ap (λ (o : Option (List Bool)). text_length o leaf n) (sym c.in-None.is))
    (subst (λ (o : Option (List Bool)). Writes c.args.cur.now c.put_sized.new.cur (place_of c.args.cur.now) (text_bits o leaf c.args.text.now) (place_of c.args.cur.now + (rule_width leaf.sized.rule + leaf.width * n))) (sym c.in-None.is) c.put_sized.ensures)

pub returns-in-Some-clause-code : goal.returns-in-Some-clause-code
returns-in-Some-clause-code g c =
    let leaf = c.args.leaf.now in
    let n = length c.args.text.now in
    let f = text_rules leaf c.requires.fine in
    let m = meets_text leaf c.args.text.now c.requires.meets in
    let fit = text_numbers leaf f c.args.text.now m in
    let text = behind_none c.args.cur.now c.put_characters.new.cur (character_bits leaf c.args.text.now) (leaf.width * n) c.put_characters.ensures in
    let both = two_writes c.args.cur.now c.put_characters.new.cur c.put_end.new.cur (character_bits leaf c.args.text.now) c.in-Some.end (leaf.width * n) (length c.in-Some.end) text (sym (character_bits_long leaf f c.args.text.now fit)) c.put_end.ensures in
    text_puts leaf c.args.text.now c.args.cur.now c.put_end.new.cur (leaf.width * n + length c.in-Some.end) f m (ap (λ (o : Option (List Bool)). text_length o leaf n) (sym c.in-Some.is))
    (subst (λ (o : Option (List Bool)). Writes c.args.cur.now c.put_end.new.cur (place_of c.args.cur.now) (text_bits o leaf c.args.text.now) (place_of c.args.cur.now + (leaf.width * n + length c.in-Some.end))) (sym c.in-Some.is) both)
