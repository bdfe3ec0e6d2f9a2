-- Packets that are worked by hand: a text that ends in two octets.
use Rattle.std.specs.Prelude.{◌≡◌, pos, Bool, true, false, List, [], ◌∷◌, Some}
use Rattle.acn_num.specs.Bits.{bits as bits_of}
use Rattle.acn_grammar.specs.Fails.{Refusal}
use Rattle.acn_grammar.specs.Front.{IsWritten}
use Rattle.acn_grammar.specs.Grammar.{Grammar, node, text, characters}
use Rattle.acn_grammar.specs.Interval.{span}
use Rattle.acn_grammar.specs.LeafFails.{short, bad_character, size_out_of_range}
use Rattle.acn_grammar.specs.Meets.{breach, terminator_inside}
use Rattle.acn_grammar.specs.Tree.{is_tree}
use Rattle.acn_grammar.specs.declared.node.SizeRule.TheVariants.{Prefix}

-- IA5String (SIZE (1..3)) with 0d 0a at its end
abbrev pub line : Grammar
line = node 1 (text (record { sized = record { sizes = (pos 1, pos 3) ∷ []; rule = Prefix 0 0 }; ended = Some (bits_of (13 ∷ 10 ∷ [])); alphabet = (pos 0, pos 127) ∷ []; width = 8; indexed = false }))

-- The characters 97 and 13 are 61 0d 0d 0a, since the end stands whole first behind them. 0d 0a is a text of no characters,
-- 80 0d 0a has a character beyond 127, and 61 62 has no end. The characters 13 and 10 are never written.
pub record AnEndOfTwoOctets : Type 0 where
  pub tree : is_tree line ≡ true
  pub bounds : span line ≡ record { least = 24; greatest = 40 }
  pub written : IsWritten line (characters (97 ∷ 13 ∷ [])) (bits_of (97 ∷ 13 ∷ 13 ∷ 10 ∷ []))
  pub refused : Refusal line (bits_of (13 ∷ 10 ∷ [])) (record { path = []; reason = size_out_of_range 0; at = 0 }) 16
  pub beyond : Refusal line (bits_of (128 ∷ 13 ∷ 10 ∷ [])) (record { path = []; reason = bad_character; at = 0 }) 24
  pub no_end : Refusal line (bits_of (97 ∷ 98 ∷ [])) (record { path = []; reason = short; at = 0 }) 16
  pub unfit : breach line (characters (13 ∷ 10 ∷ [])) ≡ Some (record { path = []; why = terminator_inside 0 })
  pub never : (bs : List Bool) → IsWritten line (characters (13 ∷ 10 ∷ [])) bs → ⊥
