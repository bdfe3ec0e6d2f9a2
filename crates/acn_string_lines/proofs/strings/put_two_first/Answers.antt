use Rattle.std.proofs.Common.{◌-◌, arith}
use Rattle.std.proofs.lemmas.Result.{on_ok_weaker}
use Rattle.acn_string_lines.proofs.HexTexts.{more_put, room_left}
use Rattle.acn_string_lines.proofs.strings.put_two_first.Goals as goal

pub put_last-requires-clause-there : goal.put_last-requires-clause-there
put_last-requires-clause-there c =
    let least = c.requires.least in
    room_left 2 (c.args.n - 2) c.args.n _ _ c.args.cur.now c.put_two.new.cur (omega (arith, least)) c.requires.there c.in_ok-put_two.ensures

pub returns : goal.returns
returns c =
    let least = c.requires.least in
    on_ok_weaker c.put_last.result (λ p. more_put 2 (c.args.n - 2) c.args.n _ _ _ _ _ _ (omega (arith, least)) c.in_ok-put_two.ensures p) c.put_last.ensures
