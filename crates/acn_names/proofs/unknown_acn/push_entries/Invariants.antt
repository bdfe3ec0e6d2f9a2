use Rattle.std.proofs.Common.{◌≡◌, drop, ◌++◌}
use Rattle.acn_index.specs.Views.{index_view}
use Rattle.std.specs.Prelude.{map, flat_map}
use Rattle.acn_repeated.specs.Named.{names_view}
use Rattle.acn_world.specs.Unknown.{entry_unknown}
use Rattle.acn_acn_syntax.specs.View.{entry_of}
use Rattle.acn_names.proofs.unknown_acn.push_entries.Given as goal

abbrev pub invariant-loop-entry : goal.invariant-loop-entry
invariant-loop-entry l = names_view l.all.items ++ flat_map (entry_unknown (index_view l.index) l.owner) (map entry_of (drop l.entry-index l.entries)) ≡ names_view l.fn.all.items ++ flat_map (entry_unknown (index_view l.index) l.owner) (map entry_of l.entries)
