use Rattle.std.proofs.Common.{◌≡◌, ℕ, length, drop, map}
use Rattle.std.specs.Prelude.{option_map}
use Rattle.acn_grammar.specs.View.{grammar_of, data_of, fields_view}
use Rattle.acn_reads.specs.Decoded.{Turn, RunTurn}
use Rattle.acn_plain_read.proofs.read.+read.Given as goal

abbrev pub invariant-read_fields-loop-field : goal.invariant-read_fields-loop-field
invariant-read_fields-loop-field l = record {
  place : l.k ≡ l.field-index;
  path : l.path ≡ l.fn.path;
  turn : (place : ℕ) → Turn (grammar_of l.root) (record { path = l.fn.path; place = place; inside = l.inside }) l.fn.cur.origin 0 l.k (fields_view l.fields) (fields_view (drop l.field-index l.fields)) (map (option_map data_of) l.places) l.fn.slots l.slots l.fn.flags.rest l.flags.rest l.fn.cur l.cur;
}

abbrev pub invariant-read_run-loop-i : goal.invariant-read_run-loop-i
invariant-read_run-loop-i l = record {
  path : l.path ≡ l.fn.path;
  count : length l.values ≡ l.i;
  turn : (place : ℕ) → RunTurn (grammar_of l.root) (record { path = l.fn.path; place = place; inside = l.inside }) l.fn.cur.origin (grammar_of l.node) 0 (map data_of l.values) l.fn.slots l.slots l.fn.cur l.cur;
}

abbrev pub invariant-read_elements-loop-i : goal.invariant-read_elements-loop-i
invariant-read_elements-loop-i l = record {
  path : l.path ≡ l.fn.path;
  count : length l.values ≡ l.i;
  turn : (place : ℕ) → RunTurn (grammar_of l.root) (record { path = l.fn.path; place = place; inside = l.inside }) l.fn.cur.origin (grammar_of l.node) 0 (map data_of l.values) l.fn.slots l.slots l.fn.cur l.cur;
}
