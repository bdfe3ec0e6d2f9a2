use Rattle.std.proofs.lemmas.Result.{on_ok_weaker}
use Rattle.acn_string_lines.proofs.BinaryTexts.{binary_put}
use Rattle.acn_string_lines.proofs.strings.put_binary.Goals as goal

pub returns : goal.returns
returns c = on_ok_weaker c.put_octet-2.result (λ e. binary_put c.args.n _ _ _ _ _ _ c.in_ok-put_octet.ensures.added c.in_ok-put_each_bit.ensures e) c.put_octet-2.ensures.added
