use Rattle.std.proofs.Common.{◌≡◌, ℕ, ◌+◌, ◌-◌, ◌*◌, ◌≤◌, List, Option, length}
use Rattle.acn_grammar.specs.Grammar.{Data}
use Rattle.acn_grammar.specs.ItemsNamed.{FieldsItemsNamed}
use Rattle.acn_plan.specs.Back.{root_of, node_at, fields_at}
use Rattle.acn_reads.specs.Decoded.{Turn, RunTurn}
use Rattle.acn_unpack.proofs.read.+read.Given as goal

abbrev pub decreases-read_node : goal.decreases-read_node
decreases-read_node types l = 10 * (length l.steps.now - l.this) + 3

abbrev pub decreases-read_body : goal.decreases-read_body
decreases-read_body types l = 10 * (length l.steps.now - l.this) + 2

abbrev pub decreases-read_seq : goal.decreases-read_seq
decreases-read_seq types l = 10 * (length l.steps.now - l.first) + 9

abbrev pub decreases-read_fields : goal.decreases-read_fields
decreases-read_fields types l = 10 * (length l.steps.now - l.first) + 8

abbrev pub decreases-read_field : goal.decreases-read_field
decreases-read_field types l = 10 * (length l.steps.now - l.this) + 7

abbrev pub decreases-read_component : goal.decreases-read_component
decreases-read_component types l = 10 * (length l.steps.now - l.this) + 6

abbrev pub decreases-read_present : goal.decreases-read_present
decreases-read_present types l = 10 * (length l.steps.now - l.this) + 5

abbrev pub decreases-read_child : goal.decreases-read_child
decreases-read_child types l = 10 * (length l.steps.now - l.this) + 4

abbrev pub decreases-read_choice : goal.decreases-read_choice
decreases-read_choice types l = 10 * (length l.steps.now - l.first) + 9

abbrev pub decreases-read_ended : goal.decreases-read_ended
decreases-read_ended types l = 10 * (length l.steps.now - l.this) + 8

abbrev pub decreases-read_elements : goal.decreases-read_elements
decreases-read_elements types l = 10 * (length l.steps.now - l.this) + 7

abbrev pub decreases-read_list : goal.decreases-read_list
decreases-read_list types l = 10 * (length l.steps.now - l.this) + 9

abbrev pub decreases-read_run : goal.decreases-read_run
decreases-read_run types l = 10 * (length l.steps.now - l.this) + 8

abbrev pub decreases-read_contained : goal.decreases-read_contained
decreases-read_contained types l = 10 * (length l.steps.now - l.this) + 9

abbrev pub invariant-read_fields-loop-this : goal.invariant-read_fields-loop-this
invariant-read_fields-loop-this types l = record {
  from : l.first ≤ l.this;
  few : l.k + l.first ≤ l.this;
  path : l.path ≡ l.fn.path;
  named : FieldsItemsNamed (fields_at l.steps l.this l.end);
  read : (ds : List (Option Data)) × types.K.Keep.places_say l.places ds × ((place : ℕ) → Turn (root_of l.steps) (record { path = l.fn.path; place = place; inside = l.inside }) l.fn.cur.origin 0 l.k (fields_at l.steps l.first l.end) (fields_at l.steps l.this l.end) ds (types.T.SlotTable.env l.fn.slots) (types.T.SlotTable.env l.slots) l.fn.flags.rest l.flags.rest l.fn.cur l.cur);
}

abbrev pub decreases-read_fields-loop-this : goal.decreases-read_fields-loop-this
decreases-read_fields-loop-this types l = l.end - l.this

abbrev pub invariant-read_run-loop-i : goal.invariant-read_run-loop-i
invariant-read_run-loop-i types l = record {
  path : l.path ≡ l.fn.path;
  read : (ds : List Data) × types.K.Keep.elements_say l.elements ds × (length ds ≡ l.i) × ((place : ℕ) → RunTurn (root_of l.steps) (record { path = l.fn.path; place = place; inside = l.inside }) l.fn.cur.origin (node_at l.steps l.this) 0 ds (types.T.SlotTable.env l.fn.slots) (types.T.SlotTable.env l.slots) l.fn.cur l.cur);
}

abbrev pub invariant-read_elements-loop-i : goal.invariant-read_elements-loop-i
invariant-read_elements-loop-i types l = record {
  path : l.path ≡ l.fn.path;
  read : (ds : List Data) × types.K.Keep.elements_say l.elements ds × (length ds ≡ l.i) × ((place : ℕ) → RunTurn (root_of l.steps) (record { path = l.fn.path; place = place; inside = l.inside }) l.fn.cur.origin (node_at l.steps l.this) 0 ds (types.T.SlotTable.env l.fn.slots) (types.T.SlotTable.env l.slots) l.fn.cur l.cur);
}
