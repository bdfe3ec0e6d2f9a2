use Rattle.std.proofs.Common.{◌≡◌, ◌≤◌, ◌++◌, ◌∷◌, [], length, drop}
use Rattle.acn_grammar.specs.Code.{Written}
use Rattle.acn_grammar.specs.Spell.{FieldsPart, RunPart, Spell}
use Rattle.acn_grammar.specs.View.{elements_view, fields_view, grammar_of, places_view}
use Rattle.acn_plain_write.specs.Adds.{Leads}
use Rattle.acn_plain_write.specs.Ready.{FieldsReady, Ready, RunReady}
use Rattle.acn_plain_write.proofs.write.+write.Given as goal

abbrev pub invariant-write_fields-loop-field : goal.invariant-write_fields-loop-field
invariant-write_fields-loop-field l = record {
  path : l.path ≡ l.fn.path;
  step : l.step ≡ l.field-index;
  within : l.at ≤ length l.places;
  ready : FieldsReady (grammar_of l.root) l.heard (fields_view (drop l.field-index l.fields)) l.slots l.fn.path l.step (places_view (drop l.at l.places));
  leads : Leads (FieldsPart (grammar_of l.root) Written (fields_view (drop l.field-index l.fields)) l.slots (places_view (drop l.at l.places))) (FieldsPart (grammar_of l.root) Written (fields_view l.fields) l.slots (places_view l.places)) l.base l.fn.bits l.bits;
}

abbrev pub invariant-write_run-loop-v : goal.invariant-write_run-loop-v
invariant-write_run-loop-v l = record {
  path : l.path ≡ l.fn.path;
  step : l.step ≡ l.v-index;
  ready : RunReady (λ k d. Ready (grammar_of l.root) l.heard (grammar_of l.element) l.slots (l.fn.path ++ k ∷ []) d) l.step (elements_view (drop l.v-index l.elements));
  leads : Leads (RunPart (Spell (grammar_of l.root) Written (grammar_of l.element) l.slots) (elements_view (drop l.v-index l.elements))) (RunPart (Spell (grammar_of l.root) Written (grammar_of l.element) l.slots) (elements_view l.elements)) l.base l.fn.bits l.bits;
}
