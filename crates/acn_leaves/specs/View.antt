-- What the program's own types stand for.
use Rattle.std.specs.Prelude.{ℤ}
use Rattle.acn_leaves.specs.declared.items.Ranked.{Ranked}
use Rattle.acn_leaves.specs.declared.text.Characters.{Characters}
use Rattle.acn_leaves.specs.Ordered as ordered
use Rattle.acn_leaves.specs.Leaves as leaves

abbrev pub ranked_view : Ranked → ordered.Ranked
ranked_view r = (r.number, (r.name.now, r.value))

abbrev pub characters_view : Characters → leaves.Characters
characters_view c = record { width = c.width; indexed = c.indexed }
