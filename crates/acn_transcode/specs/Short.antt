-- Short texts. (This profile's own.)
use Rattle.std.specs.Prelude.{◌≡◌, ℕ, ◌≤◌, List, take}
use Rattle.acn_transcode.specs.declared.short.Short.{Short}

-- the text is that of these octets, of which it has eight at most
pub record IsShort (short : Short) (text : List ℕ) : Type 0 where
  pub few : short.count ≤ 8
  pub shown : take short.count short.octets ≡ text
