-- Space packets one behind another. (CCSDS 133.0-B-2, 4.1: a primary header of 6 octets, whose last two spell one less than how many
-- octets follow it. That version, type, flags and sequence count play no part is this profile's own.)
use Rattle.std.specs.Prelude.{◌≡◌, ℕ, ◌+◌, ◌*◌, ◌%◌, ◌<◌, List, [], ◌∷◌, ◌++◌, length, Option, Some, None}
use Rattle.std.specs.List.{concat, AllByRecursion}

-- how many octets the packet has that begins with these, where they hold its header
abbrev pub packet_length : List ℕ → Option ℕ
packet_length (a ∷ b ∷ c ∷ d ∷ e ∷ f ∷ rest) = Some (7 + (256 * e + f))
packet_length _ = None

-- a whole packet
abbrev pub IsSpacePacket : List ℕ → Type 0
IsSpacePacket packet = packet_length packet ≡ Some (length packet)

-- its application process identifier, the number of its bits 5 to 15
abbrev pub apid_of : List ℕ → ℕ
apid_of (a ∷ b ∷ rest) = 256 * (a % 8) + b
apid_of _ = 0

-- the bytes are these packets joined
pub record Space (bytes : List ℕ) (packets : List (List ℕ)) : Type 0 where
  pub joined : bytes ≡ concat packets
  pub each : AllByRecursion IsSpacePacket packets

-- No whole packet is at the front: the header isn't whole, or it names more octets than there are.
abbrev pub IsUnfinished : List ℕ → Type 0
IsUnfinished bytes = (n : ℕ) → packet_length bytes ≡ Some n → length bytes < n

-- packets, and a rest behind them
pub record Begun (bytes : List ℕ) (packets : List (List ℕ)) (rest : List ℕ) : Type 0 where
  pub front : List ℕ
  pub whole : bytes ≡ front ++ rest
  pub space : Space front packets
