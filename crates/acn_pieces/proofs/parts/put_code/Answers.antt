use Rattle.acn_pieces.proofs.Calls.{code_done}
use Rattle.acn_pieces.proofs.parts.put_code.Goals as goal

pub returns : goal.returns
returns c =
    code_done c.args.align c.args.leaf.now c.padding_at-pad.result c.code_bits-code.result c.args.walk.now c.put_part.new.walk c.put_part-2.new.walk c.padding_at-pad.ensures c.code_bits-code.ensures.value c.in_ok-put_part.ensures c.in_ok-put_part-2.ensures
