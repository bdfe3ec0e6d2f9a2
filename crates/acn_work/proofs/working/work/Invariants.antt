use Rattle.std.proofs.Common.{◌≡◌, ◌-◌, ◌*◌, ◌≤◌}
use Rattle.acn_grammar.specs.View.{grammar_of}
use Rattle.acn_grammar.specs.declared.limits.TheConstants.{MOST_PACKET_BITS}
use Rattle.acn_work.specs.Summaries.{values_made}
use Rattle.acn_work.proofs.Tallies.{Adds}
use Rattle.acn_work.proofs.working.work.Given as goal

abbrev pub invariant-loop : goal.invariant-loop
invariant-loop g l = record {
  made : l.summary.made ≡ l.counter;
  packed : l.summary.packed ≤ l.counter;
  refused : l.summary.refused ≤ l.counter;
  bits : l.summary.bits ≤ l.counter * MOST_PACKET_BITS;
  adds : Adds (grammar_of l.checked.tree.root) (values_made (grammar_of l.checked.tree.root) l.start l.count) l.summary (values_made (grammar_of l.checked.tree.root) l.draw (l.count - l.counter));
}
