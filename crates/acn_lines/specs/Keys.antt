-- Short keys, which are put at once with the comma in front of them. (This profile's own.)
use Rattle.std.specs.Prelude.{◌≡◌, ℕ, suc, ◌≤◌, nat_le, List, [], ◌∷◌, ◌++◌, length, take, drop, replicate, Option, Some, None, IfSome, Bool, true, false}
use Rattle.acn_lines.specs.declared.keys.ShortKey.{ShortKey}
use Rattle.acn_lines.specs.declared.keys.TheConstants.{KEY_ROOM, MOST_KEY}
use Rattle.acn_lines.specs.declared.turns.Turn.{Turn}

-- the octets of a key behind a comma, with zeros up to the size of all
abbrev pub padded : List ℕ → List ℕ
padded key = 44 ∷ (key ++ drop (suc (length key)) (replicate KEY_ROOM 0))

-- what is kept of a key that is short, and of one that isn't
abbrev pub short_if : (long : Bool) → List ℕ → Option ShortKey
short_if true key = None
short_if false key = Some (record { octets = padded key; count = suc (length key) })

abbrev pub short_of : List ℕ → Option ShortKey
short_of key = short_if (nat_le MOST_KEY (length key)) key

-- the short key is this key behind a comma, and has room
pub record IsShortKey (short : ShortKey) (key : List ℕ) : Type 0 where
  pub few : short.count ≤ MOST_KEY
  pub shown : take short.count short.octets ≡ 44 ∷ key

-- the short key of a turn, where it has one, is that of its key
abbrev pub IsShort : Turn → Type 0
IsShort turn = IfSome turn.short (λ short. IsShortKey short turn.key)

abbrev pub AreShort : List Turn → Type 0
AreShort [] = Unit {0}
AreShort (t ∷ ts) = IsShort t × AreShort ts
