-- What a world and a value of it stand for.
use Rattle.std.specs.Prelude.{ℕ}
use Rattle.std.specs.Borrow.{Bor}
use Rattle.acn_asn_syntax.specs.View.{type_view}
use Rattle.acn_asn_syntax.specs.declared.types.AsnType.{AsnType}
use Rattle.acn_asn_syntax.specs.declared.values.AsnValue.{AsnValue}
use Rattle.acn_index.specs.World as plain
use Rattle.acn_index.specs.Views.{index_view}
use Rattle.acn_index.specs.Values.{Worth}
use Rattle.acn_world.specs.declared.world.World.{World}

abbrev pub world_view : World → plain.World
world_view w = index_view w.index

abbrev pub valued_view : ℕ × Bor AsnType × Bor AsnValue → Worth
valued_view v = record { owner = v.0; of = type_view v.1.now; is = v.2.now }
