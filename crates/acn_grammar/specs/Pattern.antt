-- Patterns of bits, which ACN gives as attributes. The limit is this profile's own.
use Rattle.std.specs.Prelude.{◌≡◌, ℕ, ◌<◌, ◌≤◌, List, Bool, length}
use Rattle.acn_num.specs.Bits.{number}
use Rattle.acn_grammar.specs.declared.limits.TheConstants.{MOST_PATTERN_BITS}

-- at least one bit, and no more than the limit, with the number that they spell
pub record IsNumbered (bits : List Bool) (value : ℕ) : Type 0 where
  pub some : 0 < length bits
  pub short : length bits ≤ MOST_PATTERN_BITS
  pub spells : value ≡ number bits
