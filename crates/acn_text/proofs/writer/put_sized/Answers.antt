use Rattle.std.proofs.Common.{◌*◌, sym, arith, length}
use Rattle.acn_grammar.specs.Length.{rule_width}
use Rattle.acn_text.specs.Steps.{size_bits, character_bits}
use Rattle.acn_text.proofs.Fine.{width_few, size_fits}
use Rattle.acn_text.proofs.Spelled.{meets_text, text_numbers, size_bits_long}
use Rattle.acn_text.proofs.Written.{behind_none, two_writes}
use Rattle.acn_text.proofs.writer.put_sized.Goals as goal
use Rattle.acn_grammar.proofs.TextRules.{text_rules}

pub narrow_size-requires : goal.narrow_size-requires
narrow_size-requires g c =
    let leaf = c.args.leaf.now in
    size_fits leaf (length c.args.text.now) (text_rules leaf c.requires.fine) c.requires.sized (meets_text leaf c.args.text.now c.requires.meets).size

pub put_size-requires : goal.put_size-requires
put_size-requires g c =
    let leaf = c.args.leaf.now in
    let room = c.requires.room in
    (omega arith, (size_fits leaf (length c.args.text.now) (text_rules leaf c.requires.fine) c.requires.sized (meets_text leaf c.args.text.now c.requires.meets).size, omega (arith, room)))

pub put_characters-requires : goal.put_characters-requires
put_characters-requires g c =
    let leaf = c.args.leaf.now in
    let f = text_rules leaf c.requires.fine in
    let w = width_few leaf f in
    let room = c.requires.room in
    let size = c.in-Some.ensures in
    let same = size.0 in
    (omega arith, (c.requires.fine, (omega (arith, w), (text_numbers leaf f c.args.text.now (meets_text leaf c.args.text.now c.requires.meets), (size.2, (size.3, omega (arith, room, same)))))))

pub put_characters-requires-in-None : goal.put_characters-requires-in-None
put_characters-requires-in-None g c =
    let leaf = c.args.leaf.now in
    let f = text_rules leaf c.requires.fine in
    let w = width_few leaf f in
    let room = c.requires.room in
    let moved = c.put_size.ensures.moved in
    (omega arith, (c.requires.fine, (omega (arith, w), (text_numbers leaf f c.args.text.now (meets_text leaf c.args.text.now c.requires.meets), (omega arith, (omega arith, omega (arith, room, moved)))))))

pub returns-in-None : goal.returns-in-None
returns-in-None g c =
    let leaf = c.args.leaf.now in
    let n = length c.args.text.now in
    let f = text_rules leaf c.requires.fine in
    let text = behind_none c.put_size.new.cur c.put_characters-in-None.new.cur (character_bits leaf c.args.text.now) (leaf.width * n) c.put_characters-in-None.ensures in
    two_writes c.args.cur.now c.put_size.new.cur c.put_characters-in-None.new.cur (size_bits leaf.sized.rule n) (character_bits leaf c.args.text.now) (rule_width leaf.sized.rule) (leaf.width * n) c.put_size.ensures (sym (size_bits_long leaf f leaf.sized.rule n)) text
