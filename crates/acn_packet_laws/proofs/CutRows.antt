-- Rows of a packet of telemetry that is cut.
use Rattle.std.proofs.Common.{ℕ, ◌+◌, pos, Bool, true, false, List, [], ◌∷◌, ◌++◌, refl, arith}
use Rattle.acn_num.specs.Bits.{low_bits, bits as bits_of}
use Rattle.acn_grammar.specs.Code.{Any}
use Rattle.acn_grammar.specs.Fails.{Fault, Fails, FieldsFail, Refusal, fails_behind_inserted, fails_behind_padding, fails_behind_presence, fails_behind_size, window_cut, fails_behind_component, fails_at_component, fails_at_inserted}
use Rattle.acn_grammar.specs.Grammar.{Fields, int, no_fields}
use Rattle.acn_grammar.specs.LeafFails.{short, code_cut}
use Rattle.acn_grammar.specs.declared.node.NumCoding.TheVariants.{PosInt}
use Rattle.acn_grammar.specs.declared.node.Presence.TheVariants.{Always}
use Rattle.acn_packet_laws.specs.CutRows.{ACutIsNamedByItsField}
use Rattle.acn_packet_laws.specs.WorkedRows.{integer, field, fixed, in_slot, one_less, body, telemetry}
use Rattle.acn_packet_laws.proofs.WorkedRows.{none, few_bits, fixed_part, LengthCode, in_packet}

-- The fields behind those that are read, from the numbered one on.

abbrev from_length : Fields
from_length = in_slot 108 one_less 0 (field 98 body Always no_fields)

abbrev from_count : Fields
from_count = field 99 (integer (pos 0) (pos 16383) (PosInt 14)) Always from_length

abbrev from_flags : Fields
from_flags = fixed 102 (true ∷ true ∷ []) from_count

abbrev from_apid : Fields
from_apid = field 97 (integer (pos 0) (pos 2047) (PosInt 11)) Always from_flags

abbrev LaterFails : Fields → (k at : ℕ) → List Bool → Fault → ℕ → Type 0
LaterFails fs k at rest fault more = FieldsFail telemetry fs ((0, pos 1) ∷ []) [] (record { path = []; place = 0; inside = false }) 0 k at rest fault more

at_apid : (rest : List Bool) (fault : Fault) (more : ℕ) → LaterFails from_apid 3 5 rest fault more → Refusal telemetry (low_bits 5 0 ++ rest) fault (5 + more)
at_apid rest fault more f = fails_behind_padding (record {
  front = [];
  back = _;
  whole = refl;
  spelled = none Any 0;
  more = 5 + more;
  reaches = omega arith;
  fails = fails_behind_presence (record {
    numbers = pos 1 ∷ [];
    count = refl;
    permitted = (refl, tt);
    behind = record {
      there = omega arith;
      more = 5 + more;
      fails = fails_behind_inserted (record {
        front = false ∷ false ∷ false ∷ [];
        back = _;
        whole = refl;
        spelled = fixed_part telemetry Any ((0, pos 1) ∷ []) (false ∷ false ∷ false ∷ []) 0;
        more = 2 + more;
        reaches = omega arith;
        fails = fails_behind_inserted (record {
          front = false ∷ [];
          back = _;
          whole = refl;
          spelled = fixed_part telemetry Any ((0, pos 1) ∷ []) (false ∷ []) 3;
          more = 1 + more;
          reaches = omega arith;
          fails = fails_behind_inserted (record {
            front = false ∷ [];
            back = rest;
            whole = refl;
            spelled = fixed_part telemetry Any ((0, pos 1) ∷ []) (false ∷ []) 4;
            more = more;
            reaches = omega arith;
            fails = f;
          });
        });
      });
      reaches = omega arith;
    };
  });
})

at_flags : (rest : List Bool) (fault : Fault) (more : ℕ) → LaterFails from_flags 4 16 rest fault more → Refusal telemetry (low_bits 5 0 ++ (low_bits 11 100 ++ rest)) fault (5 + (11 + more))
at_flags rest fault more f =
    at_apid (low_bits 11 100 ++ rest) fault (11 + more) (fails_behind_component (
      tt,
      (
        int (pos 100),
        record {
          front = low_bits 11 100;
          back = rest;
          whole = refl;
          spelled = record { given = tt; spelled = record { front = []; back = _; whole = refl; first = none Any 5; second = (pos 100, refl, record { permitted = refl; image = pos 100; maps = refl; spelled = (refl, refl) }) } };
          more = more;
          reaches = omega arith;
          fails = f;
        },
      ),
    ))

at_count : (rest : List Bool) (fault : Fault) (more : ℕ) → LaterFails from_count 5 18 rest fault more → Refusal telemetry (low_bits 5 0 ++ (low_bits 11 100 ++ (true ∷ true ∷ rest))) fault (5 + (11 + (2 + more)))
at_count rest fault more f =
    at_flags (true ∷ true ∷ rest) fault (2 + more)
    (fails_behind_inserted (record { front = true ∷ true ∷ []; back = rest; whole = refl; spelled = fixed_part telemetry Any ((0, pos 1) ∷ []) (true ∷ true ∷ []) 16; more = more; reaches = omega arith; fails = f }))

at_length : (rest : List Bool) (fault : Fault) (more : ℕ) → LaterFails from_length 6 32 rest fault more
    → Refusal telemetry (low_bits 5 0 ++ (low_bits 11 100 ++ (true ∷ true ∷ (low_bits 14 7 ++ rest)))) fault (5 + (11 + (2 + (14 + more))))
at_length rest fault more f =
    at_count (low_bits 14 7 ++ rest) fault (14 + more) (fails_behind_component (
      tt,
      (
        int (pos 7),
        record {
          front = low_bits 14 7;
          back = rest;
          whole = refl;
          spelled = record { given = tt; spelled = record { front = []; back = _; whole = refl; first = none Any 18; second = (pos 7, refl, record { permitted = refl; image = pos 7; maps = refl; spelled = (refl, refl) }) } };
          more = more;
          reaches = omega arith;
          fails = f;
        },
      ),
    ))

three_octets : LengthCode 2
three_octets = record { permitted = refl; image = pos 2; maps = refl; spelled = (refl, refl) }

two_of_three : Fails telemetry body ((0, pos 3) ∷ []) false 0 (7 ∷ []) 48 (bits_of (62 ∷ 137 ∷ [])) (record { path = 7 ∷ []; reason = short; at = 48 }) 16
two_of_three = fails_behind_padding (record {
  front = [];
  back = _;
  whole = refl;
  spelled = none Any 48;
  more = 16;
  reaches = refl;
  fails = fails_behind_size (record {
    n = 3;
    behind = record { front = []; back = _; whole = refl; spelled = record { given = refl; spelled = (refl, refl) }; more = 16; reaches = refl; fails = window_cut (omega arith, refl, refl) };
  });
})

pub a_cut_is_named_by_its_field_law : ACutIsNamedByItsField
a_cut_is_named_by_its_field_law = record {
  one = at_apid (low_bits 3 0) (record { path = 3 ∷ []; reason = short; at = 5 }) 3
      (fails_at_component (tt, fails_behind_padding (record { front = []; back = _; whole = refl; spelled = none Any 5; more = 3; reaches = refl; fails = record { reason = short; fails = code_cut (omega arith, refl, refl); says = refl } })));
  two = at_flags [] (record { path = 4 ∷ []; reason = short; at = 16 }) 0
      (fails_at_inserted (fails_behind_padding (record { front = []; back = []; whole = refl; spelled = none Any 16; more = 0; reaches = refl; fails = record { reason = short; fails = code_cut (omega arith, refl, refl); says = refl } })));
  three = at_count (low_bits 6 0) (record { path = 5 ∷ []; reason = short; at = 18 }) 6
      (fails_at_component (tt, fails_behind_padding (record { front = []; back = _; whole = refl; spelled = none Any 18; more = 6; reaches = refl; fails = record { reason = short; fails = code_cut (omega arith, refl, refl); says = refl } })));
  five = at_length (low_bits 8 0) (record { path = 6 ∷ []; reason = short; at = 32 }) 8
      (fails_at_inserted (fails_behind_padding (record { front = []; back = _; whole = refl; spelled = none Any 32; more = 8; reaches = refl; fails = record { reason = short; fails = code_cut (omega arith, refl, refl); says = refl } })));
  eight = in_packet 2 three_octets (bits_of (62 ∷ 137 ∷ [])) (record { path = 7 ∷ []; reason = short; at = 48 }) 16 two_of_three;
  never = λ d n. few_bits telemetry refl (omega arith) (bits_of (0 ∷ 100 ∷ 192 ∷ 7 ∷ 0 ∷ 2 ∷ 62 ∷ 137 ∷ [])) (omega arith) d n;
}
