-- Packets that are worked by hand: a packet of telemetry that is cut, and the field that is named for it.
use Rattle.std.specs.Prelude.{ℕ, [], ◌∷◌}
use Rattle.acn_num.specs.Bits.{bits as bits_of}
use Rattle.acn_grammar.specs.Fails.{Refusal}
use Rattle.acn_grammar.specs.Front.{Front}
use Rattle.acn_grammar.specs.Grammar.{Data}
use Rattle.acn_grammar.specs.LeafFails.{short}
use Rattle.acn_packet_laws.specs.WorkedRows.{telemetry}

-- Of 00 64 c0 07 00 02 3e 89 48 one octet ends inside apid, two end before the flags, three inside count, five inside length,
-- and eight inside the three octets of the body, which is named where it begins. No value stands at their front.
pub record ACutIsNamedByItsField : Type 0 where
  pub one : Refusal telemetry (bits_of (0 ∷ [])) (record { path = 3 ∷ []; reason = short; at = 5 }) 8
  pub two : Refusal telemetry (bits_of (0 ∷ 100 ∷ [])) (record { path = 4 ∷ []; reason = short; at = 16 }) 16
  pub three : Refusal telemetry (bits_of (0 ∷ 100 ∷ 192 ∷ [])) (record { path = 5 ∷ []; reason = short; at = 18 }) 24
  pub five : Refusal telemetry (bits_of (0 ∷ 100 ∷ 192 ∷ 7 ∷ 0 ∷ [])) (record { path = 6 ∷ []; reason = short; at = 32 }) 40
  pub eight : Refusal telemetry (bits_of (0 ∷ 100 ∷ 192 ∷ 7 ∷ 0 ∷ 2 ∷ 62 ∷ 137 ∷ [])) (record { path = 7 ∷ []; reason = short; at = 48 }) 64
  pub never : (d : Data) (n : ℕ) → Front telemetry (bits_of (0 ∷ 100 ∷ 192 ∷ 7 ∷ 0 ∷ 2 ∷ 62 ∷ 137 ∷ [])) d n → ⊥
