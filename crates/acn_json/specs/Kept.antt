-- What a buffer holds where a text didn't fit behind what stood there.
use Rattle.std.specs.Prelude.{◌≡◌, ℕ, List, ◌++◌}

-- what stood there still stands in front
pub record Kept (old new : List ℕ) : Type 0 where
  pub behind : List ℕ
  pub same : new ≡ old ++ behind
