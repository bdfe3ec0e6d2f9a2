-- The keys of a line of a table, and its images, as ranges. (This profile's own.)
use Rattle.std.specs.Prelude.{Bool, ◌&&◌, ℤ, ◌+ℤ◌, ◌-ℤ◌, int_le}
use Rattle.acn_leaf.specs.declared.line_blocks.Side.{Side}
use Rattle.acn_leaf.specs.declared.line_blocks.Side.TheVariants.{Keys, Images}

-- the first and the last
abbrev pub range_of : Side → ℤ × ℤ × ℤ → ℤ × ℤ
range_of Keys line = (line.0, line.1)
range_of Images line = (line.2, line.2 +ℤ (line.1 -ℤ line.0))

abbrev pub is_range : ℤ × ℤ → Bool
is_range range = int_le range.0 range.1

-- the two have a number in common
abbrev pub meet : ℤ × ℤ → ℤ × ℤ → Bool
meet a b = int_le a.0 b.1 && int_le b.0 a.1

-- the first doesn't end before the second begins
abbrev pub reaches : ℤ × ℤ → ℤ × ℤ → Bool
reaches a b = int_le b.0 a.1
