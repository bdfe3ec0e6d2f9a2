use Rattle.std.proofs.Common.{◌≡◌, ◌≤◌, ◌-◌, List, Option, length, drop}
use Rattle.acn_grammar.specs.Fails.{Here}
use Rattle.acn_grammar.specs.Grammar.{Data}
use Rattle.acn_grammar.specs.View.{grammar_of, fields_view}
use Rattle.acn_reads.specs.Decoded.{Turn, RunTurn}
use Rattle.acn_transcode.specs.Puts.{Lays, PutsItems}
use Rattle.acn_transcode.proofs.walk.+put.Given as goal

abbrev pub invariant-put_elements-loop-i : goal.invariant-put_elements-loop-i
invariant-put_elements-loop-i l = record {
  put : (ds : List Data) × (length ds ≡ l.i) × ((here : Here) → RunTurn (grammar_of l.root) here l.fn.cur.origin (grammar_of l.node) 0 ds l.fn.draft.slots.items l.draft.slots.items l.fn.cur l.cur) × PutsItems (grammar_of l.node) ds l.fn.draft l.draft;
}

abbrev pub invariant-put_each_field-loop-k : goal.invariant-put_each_field-loop-k
invariant-put_each_field-loop-k l = record {
  put : (ds : List (Option Data)) × ((here : Here) → Turn (grammar_of l.root) here l.fn.cur.origin 0 l.k (fields_view l.fields) (fields_view (drop l.k l.fields)) ds l.fn.draft.slots.items l.draft.slots.items l.fn.flags.rest l.flags.rest l.fn.cur l.cur) × Lays (fields_view l.fields) (fields_view (drop l.k l.fields)) ds l.fn.draft l.draft;
}

abbrev pub invariant-put_stretches-loop-k : goal.invariant-put_stretches-loop-k
invariant-put_stretches-loop-k l = record {
  within : l.k ≤ length l.fields;
  put : (ds : List (Option Data)) × ((here : Here) → Turn (grammar_of l.root) here l.fn.cur.origin 0 l.k (fields_view l.fields) (fields_view (drop l.k l.fields)) ds l.fn.draft.slots.items l.draft.slots.items l.fn.flags.rest l.flags.rest l.fn.cur l.cur) × Lays (fields_view l.fields) (fields_view (drop l.k l.fields)) ds l.fn.draft l.draft;
}

abbrev pub decreases-put_stretches-loop-k : goal.decreases-put_stretches-loop-k
decreases-put_stretches-loop-k l = length l.fields - l.k

abbrev pub invariant-put_run-loop-i : goal.invariant-put_run-loop-i
invariant-put_run-loop-i l = record {
  put : (ds : List Data) × (length ds ≡ l.i) × ((here : Here) → RunTurn (grammar_of l.root) here l.fn.cur.origin (grammar_of l.node) 0 ds l.fn.draft.slots.items l.draft.slots.items l.fn.cur l.cur) × PutsItems (grammar_of l.node) ds l.fn.draft l.draft;
}
