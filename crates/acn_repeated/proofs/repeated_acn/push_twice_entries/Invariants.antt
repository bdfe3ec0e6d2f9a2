use Rattle.std.proofs.Common.{◌≡◌, drop, ◌++◌}
use Rattle.std.specs.Prelude.{map}
use Rattle.acn_acn_syntax.specs.View.{entry_of}
use Rattle.acn_world.specs.Repeated.{twice_entries}
use Rattle.acn_repeated.specs.Named.{names_view}
use Rattle.acn_repeated.proofs.repeated_acn.push_twice_entries.Given as goal

abbrev pub invariant-loop-entry : goal.invariant-loop-entry
invariant-loop-entry l = names_view l.all.items ++ twice_entries l.seen (map entry_of (drop l.entry-index l.entries)) ≡ names_view l.fn.all.items ++ twice_entries l.fn.seen (map entry_of l.entries)
