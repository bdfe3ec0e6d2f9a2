-- What one use more makes of a slot.
use Rattle.std.specs.Prelude.{cond}
use Rattle.acn_homes.specs.Homes.{Path, same, shared, Slot}

-- a user with this node above uses the field
abbrev pub joined : Path → Path → Slot → Slot
joined field above s = cond (same s.field field) (record { field = s.field; home = shared s.home above }) s
