-- What is left of a number.
use Rattle.std.specs.Prelude.{ℕ, ◌-◌, nat_le, Option, Some, None, if◌then◌else◌}

-- what is left of a number when another is taken from it, where it isn't greater
abbrev pub left_of : (whole taken : ℕ) → Option ℕ
left_of whole taken = if nat_le taken whole then Some (whole - taken) else None
