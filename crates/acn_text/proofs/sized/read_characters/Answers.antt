use Rattle.std.proofs.Common.{◌*◌, ◌≤◌, refl, arith, of_calls, length}
use Rattle.std.specs.List.{FoldsTo}
use Rattle.std.proofs.lemmas.Fn.{FoldsTo-push}
use Rattle.acn_text.proofs.Fine.{width_few}
use Rattle.acn_text.proofs.SizedReads.{CharactersCode, no_characters, room_for_one, one_character, bad_at}
use Rattle.acn_text.proofs.sized.read_characters.Goals as goal
use Rattle.acn_grammar.proofs.TextRules.{text_rules}
use Rattle.acn_bits.proofs.Readings.{reads_passed, reads_stay, stays_twice}

pub loop-i-init : goal.loop-i-init
loop-i-init g c =
    let room : c.args.leaf.now.width * c.args.n ≤ length c.args.cur.now.rest = rw (c.left.ensures, c.from.ensures) at c.if-left-from.false in
    (c.requires.callable, no_characters c.args.leaf.now (λ cs. FoldsTo (λ p x q. goal.F-step g p x tt q) c.args.each.now cs c.args.each.now) c.args.cur.now c.args.n refl room)

pub read_character-requires-clause-width : goal.read_character-requires-clause-width
read_character-requires-clause-width g c = let w = width_few c.args.leaf.now (text_rules c.args.leaf.now c.requires.fine) in omega (arith, w)

pub read_character-requires-clause-room : goal.read_character-requires-clause-room
read_character-requires-clause-room g c = room_for_one c.args.leaf.now (λ cs. FoldsTo (λ p x q. goal.F-step g p x tt q) c.args.each.now cs c.loop-i.each) c.args.cur.now c.loop-i.cur c.args.n c.loop-i.i c.loop-i-test.true c.loop-i.invariant.1

pub returns-in-None-clause-wrong : goal.returns-in-None-clause-wrong
returns-in-None-clause-wrong g c = bad_at c.args.leaf.now (λ cs. FoldsTo (λ p x q. goal.F-step g p x tt q) c.args.each.now cs c.loop-i.each) c.args.cur.now c.loop-i.cur c.args.n c.loop-i.i (text_rules c.args.leaf.now c.requires.fine) c.loop-i-test.true c.loop-i.invariant.1 c.in-None.ensures.character

pub returns-in-None-clause-stays : goal.returns-in-None-clause-stays
returns-in-None-clause-stays g c =
    let u = c.loop-i.invariant.1 in
    let room = room_for_one c.args.leaf.now (λ cs. FoldsTo (λ p x q. goal.F-step g p x tt q) c.args.each.now cs c.loop-i.each) c.args.cur.now c.loop-i.cur c.args.n c.loop-i.i c.loop-i-test.true u in
    stays_twice c.args.cur.now c.loop-i.cur c.read_character.new.cur (reads_stay (CharactersCode c.args.leaf.now u.text) c.args.cur.now c.loop-i.cur u.read) (reads_passed (λ _. Unit {0}) c.args.leaf.now.width c.loop-i.cur c.read_character.new.cur room c.in-None.ensures.moved tt)

pub loop-i-preserved : goal.loop-i-preserved
loop-i-preserved g c = (
  search of_calls,
  one_character c.args.leaf.now (λ cs. FoldsTo (λ p x q. goal.F-step g p x tt q) c.args.each.now cs c.loop-i.each) (λ cs. FoldsTo (λ p x q. goal.F-step g p x tt q) c.args.each.now cs c.each.new.self) c.args.cur.now c.loop-i.cur c.read_character.new.cur c.args.n c.loop-i.i c.in-Some.c c.loop-i-test.true c.loop-i.invariant.1 c.in-Some.ensures.character c.in-Some.ensures.moved
      (λ cs f. FoldsTo-push (λ p x q. goal.F-step g p x tt q) c.args.each.now cs c.loop-i.each c.in-Some.c c.each.new.self f c.each.ensures),
)
