use Rattle.std.proofs.Common.{◌≡◌, suc, ◌+◌, ◌-◌, ◌*◌, ◌≤◌, ◌++◌, ◌∷◌, [], length, drop}
use Rattle.acn_grammar.specs.Meets.{breaches, first_of, run_breaches, field_breaches}
use Rattle.acn_grammar.specs.View.{places_view, elements_view}
use Rattle.acn_plan.specs.Back.{node_at, fields_at}
use Rattle.acn_tree.specs.Room.{FieldsHaveRoom}
use Rattle.acn_step_breach.proofs.breach.+meet.Given as goal

abbrev pub decreases-node_meets : goal.decreases-node_meets
decreases-node_meets l = 10 * (length l.steps.now - l.this) + 2

abbrev pub decreases-body_meets : goal.decreases-body_meets
decreases-body_meets l = 10 * (length l.steps.now - l.this) + 1

abbrev pub decreases-child_meets : goal.decreases-child_meets
decreases-child_meets l = 10 * (length l.steps.now - l.this) + 3

abbrev pub decreases-seq_meets : goal.decreases-seq_meets
decreases-seq_meets l = 10 * (length l.steps.now - l.first) + 8

abbrev pub decreases-fields_meet : goal.decreases-fields_meet
decreases-fields_meet l = 10 * (length l.steps.now - l.first) + 6

abbrev pub decreases-place_meets : goal.decreases-place_meets
decreases-place_meets l = 10 * (length l.steps.now - l.this) + 4

abbrev pub decreases-list_meets : goal.decreases-list_meets
decreases-list_meets l = 10 * (length l.steps.now - l.this) + 8

abbrev pub decreases-elements_meet : goal.decreases-elements_meet
decreases-elements_meet l = 10 * (length l.steps.now - l.this) + 7

abbrev pub decreases-run_meets : goal.decreases-run_meets
decreases-run_meets l = 10 * (length l.steps.now - l.this) + 6

abbrev pub decreases-choice_meets : goal.decreases-choice_meets
decreases-choice_meets l = 10 * (length l.steps.now - l.first) + 8

abbrev pub decreases-case_meets : goal.decreases-case_meets
decreases-case_meets l = 10 * (length l.steps.now - l.first) + 6

abbrev pub invariant-fields_meet-loop-place : goal.invariant-fields_meet-loop-place
invariant-fields_meet-loop-place l = record {
  from : l.first ≤ l.this;
  few : l.number ≤ l.this;
  path : l.path ≡ l.fn.path;
  room : FieldsHaveRoom (suc (length l.fn.path)) (fields_at l.steps l.this l.end);
  same : first_of (field_breaches l.fn.path l.number (fields_at l.steps l.this l.end) (places_view (drop l.place-index l.places))) ≡ first_of (field_breaches l.fn.path 0 (fields_at l.steps l.first l.end) (places_view l.places));
}

abbrev pub invariant-run_meets-loop-v : goal.invariant-run_meets-loop-v
invariant-run_meets-loop-v l = record {
  number : l.number ≡ l.v-index;
  path : l.path ≡ l.fn.path;
  same : first_of (run_breaches (λ k d. breaches (l.fn.path ++ k ∷ []) (node_at l.steps l.this) d) l.v-index (elements_view (drop l.v-index l.elements))) ≡ first_of (run_breaches (λ k d. breaches (l.fn.path ++ k ∷ []) (node_at l.steps l.this) d) 0 (elements_view l.elements));
}
