use Rattle.std.proofs.Common.{◌-◌, arith}
use Rattle.std.proofs.lemmas.Result.{on_ok_weaker}
use Rattle.acn_string_lines.proofs.HexTexts.{more_put, room_left}
use Rattle.acn_string_lines.proofs.strings.put_four_first.Goals as goal

pub put_few-requires-clause-there : goal.put_few-requires-clause-there
put_few-requires-clause-there c =
    let least = c.requires.least in
    room_left 4 (c.args.n - 4) c.args.n _ _ c.args.cur.now c.put_four.new.cur (omega (arith, least)) c.requires.there c.in_ok-put_four.ensures

pub returns : goal.returns
returns c =
    let least = c.requires.least in
    on_ok_weaker c.put_few.result (λ p. more_put 4 (c.args.n - 4) c.args.n _ _ _ _ _ _ (omega (arith, least)) c.in_ok-put_four.ensures p) c.put_few.ensures
