use Rattle.std.proofs.Common.{map, sym}
use Rattle.acn_grammar.specs.Leaves.{num_fine}
use Rattle.acn_check.specs.First.{Det}
use Rattle.acn_check.specs.Program.{det_of}
use Rattle.acn_check.proofs.Telling.{all_at}
use Rattle.acn_check.proofs.slots.line_has_width.Goals as goal

pub has_width-requires : goal.has_width-requires
has_width-requires c = all_at (λ (d : Det). num_fine d.leaf) (map det_of c.args.dets.now) c.in-Some.slot (det_of c.in-Some-det_of_slot.det.now) c.requires (sym c.in-Some-det_of_slot.ensures)
