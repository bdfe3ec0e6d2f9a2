use Rattle.acn_extreme_laws.proofs.BestWritten.{best_is_written, short}
use Rattle.acn_extreme_laws.proofs.laws.best_is_written.Goals as goal

pub returns : goal.returns
returns c = best_is_written c.accepted_is_sound.ensures c.each_node_is_sound.ensures c.uses_fit_their_slots.ensures c.values_lie_within_bounds.ensures c.each_number_has_a_code.ensures c.lengths_are_told.ensures c.bounds_hold.ensures c.no_fault_without_a_first.ensures c.parts_are_of_nodes.ensures c.values_are_of_nodes.ensures c.each_path_has_its_number.ensures c.meetable_is_written.ensures (short c.no_fault_without_a_first.ensures c.bounds_hold.ensures)
