use Rattle.std.proofs.Common.{◌≡◌, ◌≤◌, drop}
use Rattle.acn_grammar.specs.View.{fields_view}
use Rattle.acn_lines.specs.Order.{place_of}
use Rattle.acn_lines.proofs.OrderLaw.{Noted, AllPlaced}
use Rattle.acn_lines.proofs.turns.spots_of.Given as goal

abbrev pub invariant-loop-k : goal.invariant-loop-k
invariant-loop-k l = record {
  few : l.at ≤ l.k;
  count : l.at ≡ place_of (fields_view l.fields) l.k;
  placed : AllPlaced (fields_view l.fields) l.known.entries;
  noted : Noted (fields_view l.fields) (fields_view (drop l.k l.fields)) l.at l.known.entries;
}
