use Rattle.acn_string_lines.proofs.LetterTexts.{sized_text, fine_size}
use Rattle.acn_string_lines.proofs.strings.put_sized_text.Goals as goal

pub size-requires-clause-fine : goal.size-requires-clause-fine
size-requires-clause-fine c = fine_size c.args.leaf.now c.requires.fine c.requires.letters.sized

pub returns-in-Some : goal.returns-in-Some
returns-in-Some c = record {
  put = λ e.
      let p = c.put_string.ensures e in
      (p.0, (λ root. sized_text root c.args.leaf.now c.in-Some.n p.0 c.args.slots.now c.args.cur.now c.size.new.cur c.put_string.new.cur c.requires.letters.sized c.in-Some.ensures.read p.1), p.2);
}
