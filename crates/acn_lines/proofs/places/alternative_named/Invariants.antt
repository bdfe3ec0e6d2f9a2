use Rattle.std.proofs.Common.{◌≡◌, drop}
use Rattle.acn_grammar.specs.View.{alternatives_view}
use Rattle.acn_lines.specs.Taken as taken
use Rattle.acn_lines.proofs.places.alternative_named.Given as goal

abbrev pub invariant-loop-at : goal.invariant-loop-at
invariant-loop-at l = taken.alternative_number l.name l.at (alternatives_view (drop l.at l.alternatives)) ≡ taken.alternative_number l.name 0 (alternatives_view l.alternatives)
