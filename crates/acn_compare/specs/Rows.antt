-- Worked rows: SEQUENCE { data OCTET STRING (SIZE (0..16)) } with len INTEGER u8 inserted and data [size len], against the same with SIZE (0..20).
use Rattle.std.specs.Prelude.{ℕ, pos, [], ◌∷◌, false, Some, None}
use Rattle.acn_grammar.specs.Grammar.{Grammar, node, num, octets, seq, component, inserted, no_fields}
use Rattle.acn_grammar.specs.declared.node.NumKind.TheVariants.{Integer}
use Rattle.acn_grammar.specs.declared.node.NumLeaf.{NumLeaf}
use Rattle.acn_grammar.specs.declared.node.NumCoding.TheVariants.{PosInt}
use Rattle.acn_grammar.specs.declared.node.Presence.TheVariants.{Always}
use Rattle.acn_grammar.specs.declared.node.SizeRule.TheVariants.{Slot}
use Rattle.acn_grammar.specs.declared.node.Sizing.{Sizing}
use Rattle.acn_compare.specs.Accepts.{Accepts, FirstDifference}
use Rattle.acn_compare.specs.declared.answer.Reason.TheVariants as because

abbrev pub octet_leaf : NumLeaf
octet_leaf = record { kind = Integer; set = (pos 0, pos 255) ∷ []; coding = PosInt 8; little = false; table = None; items = record { items = []; values = false } }

abbrev pub sized : (most : ℕ) → Sizing
sized most = record { sizes = (pos 0, pos most) ∷ []; rule = Slot 0 }

abbrev pub with_data : (most : ℕ) → Grammar
with_data most = node 1 (seq (inserted (108 ∷ []) (node 1 (num octet_leaf)) (Some 0) (component (100 ∷ []) (node 1 (octets (sized most))) Always None None no_fields)) (0 ∷ []))

-- yes
abbrev pub AGreaterSizeIsAccepted : Type 0
AGreaterSizeIsAccepted = Accepts (with_data 16) (with_data 20)

-- no T.data Values 17
abbrev pub ASmallerSizeIsNot : Type 0
ASmallerSizeIsNot = FirstDifference (with_data 20) (with_data 16) (1 ∷ []) because.Values (Some (pos 17))
