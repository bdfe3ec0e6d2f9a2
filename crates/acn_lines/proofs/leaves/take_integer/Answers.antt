use Rattle.acn_lines.proofs.LeafLaw.{integers_taken}
use Rattle.acn_lines.proofs.leaves.take_integer.Goals as goal

pub returns : goal.returns
returns c items = integers_taken items c.in_ok-digits.digits.now _ _ _ c.in_ok-digits.ensures (rw c.as_bytes.ensures.value at c.whole.ensures)
