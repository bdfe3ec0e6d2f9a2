-- A type of the program without tag and constraints.
use Rattle.std.specs.Prelude.{[], None}
use Rattle.acn_asn_syntax.specs.declared.types.AsnType.{AsnType}
use Rattle.acn_asn_syntax.specs.declared.types.AsnBase.{AsnBase}
use Rattle.acn_asn_syntax.specs.declared.types.AsnBase.TheViews.{roll-AsnType}

abbrev pub bare : AsnBase → AsnType
bare b = roll-AsnType (record { tag = None; base = b; constraints = [] })
