use Rattle.std.proofs.Common.{◌≡◌, drop, ◌++◌}
use Rattle.acn_index.specs.Views.{index_view}
use Rattle.std.specs.Prelude.{map, flat_map}
use Rattle.acn_repeated.specs.Named.{names_view}
use Rattle.acn_world.specs.Cycles.{acn_wrong_in}
use Rattle.acn_acn_syntax.specs.View.{entry_of}
use Rattle.acn_names.proofs.wrong.push_entries.Given as goal

abbrev pub invariant-loop-entry : goal.invariant-loop-entry
invariant-loop-entry l = names_view l.all.items ++ flat_map (acn_wrong_in (index_view l.index) l.owner) (map entry_of (drop l.entry-index l.entries)) ≡ names_view l.fn.all.items ++ flat_map (acn_wrong_in (index_view l.index) l.owner) (map entry_of l.entries)
