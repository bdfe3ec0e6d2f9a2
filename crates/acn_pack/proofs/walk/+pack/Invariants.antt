use Rattle.std.proofs.Common.{◌≡◌, suc, ◌+◌, ◌-◌, ◌*◌, ◌≤◌, ◌∷◌, [], ◌++◌, drop, length}
use Rattle.acn_grammar.specs.View.{elements_view, places_view}
use Rattle.acn_events.specs.Events.{events, field_events, run_events}
use Rattle.acn_plan.specs.Back.{root_of, node_at, fields_at}
use Rattle.acn_pack.specs.Packs.{GoesOn}
use Rattle.acn_pack.specs.Sounds.{FieldsAreSound}
use Rattle.acn_pack.specs.Words.{left_from}
use Rattle.acn_pack.proofs.walk.+pack.Given as goal

abbrev pub decreases-pack_step : goal.decreases-pack_step
decreases-pack_step g l = 10 * (length l.steps.now - l.this) + 3

abbrev pub decreases-pack_body : goal.decreases-pack_body
decreases-pack_body g l = 10 * (length l.steps.now - l.this) + 2

abbrev pub decreases-pack_child : goal.decreases-pack_child
decreases-pack_child g l = 10 * (length l.steps.now - l.this) + 4

abbrev pub decreases-pack_seq : goal.decreases-pack_seq
decreases-pack_seq g l = 10 * (length l.steps.now - l.first) + 11

abbrev pub decreases-pack_places : goal.decreases-pack_places
decreases-pack_places g l = 10 * (length l.steps.now - l.first) + 10

abbrev pub decreases-pack_fields : goal.decreases-pack_fields
decreases-pack_fields g l = 10 * (length l.steps.now - l.first) + 9

abbrev pub decreases-pack_field : goal.decreases-pack_field
decreases-pack_field g l = 10 * (length l.steps.now - l.this) + 8

abbrev pub decreases-pack_component : goal.decreases-pack_component
decreases-pack_component g l = 10 * (length l.steps.now - l.this) + 7

abbrev pub decreases-pack_there : goal.decreases-pack_there
decreases-pack_there g l = 10 * (length l.steps.now - l.this) + 6

abbrev pub decreases-pack_other : goal.decreases-pack_other
decreases-pack_other g l = 10 * (length l.steps.now - l.this) + 5

abbrev pub decreases-pack_inside : goal.decreases-pack_inside
decreases-pack_inside g l = 10 * (length l.steps.now - l.this) + 4

abbrev pub decreases-pack_list : goal.decreases-pack_list
decreases-pack_list g l = 10 * (length l.steps.now - l.this) + 10

abbrev pub decreases-pack_elements : goal.decreases-pack_elements
decreases-pack_elements g l = 10 * (length l.steps.now - l.this) + 9

abbrev pub decreases-pack_run : goal.decreases-pack_run
decreases-pack_run g l = 10 * (length l.steps.now - l.this) + 8

abbrev pub decreases-pack_choice : goal.decreases-pack_choice
decreases-pack_choice g l = 10 * (length l.steps.now - l.this) + 1

abbrev pub decreases-pack_chosen : goal.decreases-pack_chosen
decreases-pack_chosen g l = 10 * (length l.steps.now - l.this)

abbrev pub decreases-pack_case : goal.decreases-pack_case
decreases-pack_case g l = 10 * (length l.steps.now - l.this) + 9

abbrev pub decreases-pack_contained : goal.decreases-pack_contained
decreases-pack_contained g l = 10 * (length l.steps.now - l.this) + 9

abbrev pub invariant-pack_fields-loop-spot : goal.invariant-pack_fields-loop-spot
invariant-pack_fields-loop-spot g l = record {
  from : l.first ≤ l.spot.step;
  few : l.spot.k + l.first ≤ l.spot.step;
  within : l.spot.next ≤ length l.places;
  path : l.trace.path ≡ l.fn.trace.path;
  sound : FieldsAreSound (root_of l.steps) (suc (length l.fn.trace.path)) (fields_at l.steps l.spot.step l.end);
  done : GoesOn (field_events (root_of l.steps) (fields_at l.steps l.first l.end) l.fn.trace.path 0 (places_view l.places)) (left_from l.steps l.spot.step l.end l.fn.trace.path l.spot.k l.places l.spot.next) l.fn.w l.w;
}

abbrev pub decreases-pack_fields-loop-spot : goal.decreases-pack_fields-loop-spot
decreases-pack_fields-loop-spot g l = l.end - l.spot.step

abbrev pub invariant-pack_run-loop-v : goal.invariant-pack_run-loop-v
invariant-pack_run-loop-v g l = record {
  number : l.k ≡ l.v-index;
  path : l.trace.path ≡ l.fn.trace.path;
  done : GoesOn (run_events (λ k d. events (root_of l.steps) (node_at l.steps l.this) (l.fn.trace.path ++ k ∷ []) d) 0 (elements_view l.elements)) (run_events (λ k d. events (root_of l.steps) (node_at l.steps l.this) (l.fn.trace.path ++ k ∷ []) d) l.k (elements_view (drop l.v-index l.elements))) l.fn.w l.w;
}
