-- Packets that are worked by hand: a packet of telemetry with its contents, and contents that end inside a field.
use Rattle.std.specs.Prelude.{◌≡◌, ◌≢◌, pos, Bool, true, false, List, [], ◌∷◌, ◌++◌, length, take, None}
use Rattle.acn_num.specs.Bits.{bits as bits_of}
use Rattle.acn_grammar.specs.Code.{Any}
use Rattle.acn_grammar.specs.Env.{Env}
use Rattle.acn_grammar.specs.Fails.{Refusal}
use Rattle.acn_grammar.specs.Front.{IsWritten, Front}
use Rattle.acn_grammar.specs.Grammar.{Grammar, Data, node, num, seq, contained, no_fields, component, int, boolean, item, record_of, no_places, filled}
use Rattle.acn_grammar.specs.Interval.{span}
use Rattle.acn_grammar.specs.LeafFails.{bad_pattern, past_content}
use Rattle.acn_grammar.specs.Spell.{Spell}
use Rattle.acn_grammar.specs.Tree.{is_tree}
use Rattle.acn_grammar.specs.declared.node.NumCoding.TheVariants.{Range}
use Rattle.acn_grammar.specs.declared.node.NumKind.TheVariants.{Integer}
use Rattle.acn_grammar.specs.declared.node.Presence.TheVariants.{Always}
use Rattle.acn_grammar.specs.declared.node.SizeRule.TheVariants.{Prefix}
use Rattle.acn_packet_laws.specs.WorkedRows.{integer, truth, field, two, body, telemetry}

-- {"time":1000,"mode":"nominal","temp":1}
abbrev pub warm : Data
warm = record_of (filled (int (pos 1000)) (filled (item 2) (filled (int (pos 1)) no_places)))

-- {"apid":100,"count":7,"body":it}
abbrev pub seventh : Data
seventh = record_of (filled (int (pos 100)) (filled (int (pos 7)) (filled warm no_places)))

-- It is 00 64 c0 07 00 02 3e 89 48: a header that says one octet less than three, and contents of 21 bits. The last three bits
-- fill the third octet; they are read in any way, as in 4f, and written as zeros alone.
pub record AHeaderAndItsContents : Type 0 where
  pub tree : is_tree telemetry ≡ true
  pub bounds : span telemetry ≡ record { least = 72; greatest = 72 }
  pub written : IsWritten telemetry seventh (bits_of (0 ∷ 100 ∷ 192 ∷ 7 ∷ 0 ∷ 2 ∷ 62 ∷ 137 ∷ 72 ∷ []))
  pub read : Front telemetry (bits_of (0 ∷ 100 ∷ 192 ∷ 7 ∷ 0 ∷ 2 ∷ 62 ∷ 137 ∷ 79 ∷ [])) seventh 72
  pub never : IsWritten telemetry seventh (bits_of (0 ∷ 100 ∷ 192 ∷ 7 ∷ 0 ∷ 2 ∷ 62 ∷ 137 ∷ 79 ∷ [])) → ⊥

-- 00 64 c0 07 00 01 3e 89 says two octets, which end inside temp, that begins at bit 62. Where the first octet is 20, the
-- version is another, whatever stands behind. The contents never stand in two octets.
pub record ContentsEndInsideAField : Type 0 where
  pub refused : Refusal telemetry (bits_of (0 ∷ 100 ∷ 192 ∷ 7 ∷ 0 ∷ 1 ∷ 62 ∷ 137 ∷ [])) (record { path = 7 ∷ 0 ∷ 2 ∷ []; reason = past_content; at = 62 }) 64
  pub version : (rest : List Bool) → Refusal telemetry (bits_of (32 ∷ []) ++ rest) (record { path = 0 ∷ []; reason = bad_pattern; at = 0 }) 3
  pub never : (env : Env) (bs : List Bool) → Spell telemetry Any body env warm 48 bs → length bs ≢ 16

-- SEQUENCE { a BOOLEAN, b OCTET STRING (SIZE (0..3)) (CONTAINING SEQUENCE { x INTEGER (0..7), y INTEGER (0..255) }) }, with y
-- aligned to 8 bits
abbrev pub inner : Grammar
inner = node 1 (seq (field 120 (integer (pos 0) (pos 7) (Range (pos 0) 3)) Always (component (121 ∷ []) (node 8 (num (record { kind = Integer; set = (pos 0, pos 255) ∷ []; coding = Range (pos 0) 8; little = false; table = None; items = record { items = []; values = false } }))) Always None None no_fields)) [])

abbrev pub windowed : Grammar
windowed = node 1 (seq (field 97 (truth None None) Always (field 98 (node 1 (contained (record { sizes = (pos 0, pos 3) ∷ []; rule = Prefix 0 2 }) inner)) Always no_fields)) [])

-- {"a":true,"b":{"x":5,"y":1}}
abbrev pub aligned_inside : Data
aligned_inside = two (boolean true) (two (int (pos 5)) (int (pos 1)))

-- It is 19 bits of d4 00 20: y is aligned from the first bit of the contents, and 19 bits of d4 01 00, where it is aligned from
-- that of the packet, are never written. d7 e0 20, with another padding, is read as it. In b4 00 the contents end behind x: what
-- fails is y, at bit 6, where its padding begins.
pub record ContentsBeginAtZero : Type 0 where
  pub tree : is_tree windowed ≡ true
  pub written : IsWritten windowed aligned_inside (take 19 (bits_of (212 ∷ 0 ∷ 32 ∷ [])))
  pub read : Front windowed (bits_of (215 ∷ 224 ∷ 32 ∷ [])) aligned_inside 19
  pub refused : Refusal windowed (bits_of (180 ∷ 0 ∷ [])) (record { path = 1 ∷ 0 ∷ 1 ∷ []; reason = past_content; at = 6 }) 11
  pub never : IsWritten windowed aligned_inside (take 19 (bits_of (212 ∷ 1 ∷ 0 ∷ []))) → ⊥
