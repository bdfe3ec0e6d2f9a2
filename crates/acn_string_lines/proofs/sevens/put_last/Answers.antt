use Rattle.std.proofs.Common.{ℕ, ◌-◌, ◌≤◌, arith}
use Rattle.std.proofs.lemmas.Bool.Decides.{nat_tests}
use Rattle.acn_string_lines.proofs.LetterTexts.{more_letters, letters_left}
use Rattle.acn_string_lines.proofs.sevens.put_last.Goals as goal

pub put_some-requires-2-clause-there : goal.put_some-requires-2-clause-there
put_some-requires-2-clause-there c =
    let n = c.args.n in
    let many = c.if-n-lt4.false in
    let least : 4 ≤ n = grind (arith, nat_tests) in
    letters_left c.args.leaf.now 4 (n - 4) n c.args.text.now.items c.put_next_four.new.text.items c.args.cur.now c.put_next_four.new.cur (omega (arith, least)) c.requires.there (c.put_next_four.ensures c.if-not-put_next_four.false)

pub returns : goal.returns
returns c sure =
    let n = c.args.n in
    let many = c.if-n-lt4.false in
    let least : 4 ≤ n = grind (arith, nat_tests) in
    more_letters c.args.leaf.now 4 (n - 4) n _ _ _ _ _ _ (omega (arith, least)) (c.put_next_four.ensures c.if-not-put_next_four.false) (c.put_some-2.ensures sure)
