use Rattle.std.proofs.Common.{◌*◌, ◌/◌, ◌%◌, arith}
use Rattle.std.proofs.lemmas.Result.{on_ok_weaker}
use Rattle.acn_string_lines.proofs.HexTexts.{string_put, room_left}
use Rattle.acn_string_lines.proofs.strings.put_hexadecimal.Goals as goal

pub put_rest-requires-clause-there : goal.put_rest-requires-clause-there
put_rest-requires-clause-there c = room_left (8 * (c.args.n / 8)) (c.args.n % 8) c.args.n _ _ c.args.cur.now c.put_words.new.cur (omega arith) c.requires c.in_ok-put_words.ensures

pub returns : goal.returns
returns c = on_ok_weaker c.put_octet-2.result (λ e. string_put (8 * (c.args.n / 8)) (c.args.n % 8) c.args.n _ _ _ _ _ _ _ _ (omega arith) c.in_ok-put_octet.ensures.added c.in_ok-put_words.ensures c.in_ok-put_rest.ensures e) c.put_octet-2.ensures.added
