-- What says the size of a string, a list or contained octets. (X.691, 11.9: the size in front; `size` is ACN's.)
use Rattle.std.specs.Prelude.{ℕ, Bool, List, Option, Some, None}
use Rattle.acn_grammar.specs.Interval.{size_of}
use Rattle.acn_grammar.specs.declared.node.SizeRule.{SizeRule}
use Rattle.acn_grammar.specs.declared.node.SizeRule.TheVariants.{Prefix, Slot, Ended}
use Rattle.acn_grammar.specs.declared.node.Sizing.{Sizing}
use Rattle.acn_grammar.specs.declared.node.TextLeaf.{TextLeaf}
use Rattle.acn_index.specs.World.{World}
use Rattle.acn_leaves.specs.Leaves.{Characters, characters_written, low_end, high_end}
use Rattle.acn_leaves.specs.Widths.{least_width}
use Rattle.acn_num.specs.Ranges.{Ranges, least, distance}
use Rattle.acn_sites.specs.Sites.{Site}
use Rattle.acn_sites.specs.declared.attributes.AttrKind.TheVariants as kind
use Rattle.acn_written.specs.Ends.{ended_by}
use Rattle.acn_written.specs.Sizes.{sizes_at, characters_at}
use Rattle.acn_made.specs.Named.{Slots, determinant_by}

-- the size in front, as a range over the permitted sizes (X.691, 11.5 and 11.9)
abbrev pub in_front : Ranges → SizeRule
in_front sizes = Prefix (size_of (least sizes)) (least_width (distance (low_end sizes) (high_end sizes)))

-- the slot that `size` names, or else the size in front
abbrev pub said_by : Option ℕ → Ranges → SizeRule
said_by (Some slot) sizes = Slot slot
said_by None sizes = in_front sizes

-- A pattern ends a list.
abbrev pub ended_or : Option (List Bool) → SizeRule → SizeRule
ended_or (Some end) rule = Ended end
ended_or None rule = rule

-- A text with a terminator has no size in front.
abbrev pub terminated_or : Option (List Bool) → SizeRule → SizeRule
terminated_or (Some end) rule = Prefix 0 0
terminated_or None rule = rule

abbrev pub rule_at : World → Slots → Site → SizeRule
rule_at w all s = said_by (determinant_by kind.Size w all s) (sizes_at w s)

-- OCTET STRING, contained octets and BIT STRING
abbrev pub sizing_at : World → Slots → Site → Sizing
sizing_at w all s = record { sizes = sizes_at w s; rule = rule_at w all s }

-- SEQUENCE OF
abbrev pub list_sizing_at : World → Slots → Site → Sizing
list_sizing_at w all s = record { sizes = sizes_at w s; rule = ended_or (ended_by s) (rule_at w all s) }

abbrev pub text_sizing : World → Slots → Site → Option (List Bool) → Sizing
text_sizing w all s end = record { sizes = sizes_at w s; rule = terminated_or end (rule_at w all s) }

abbrev pub text_with : Sizing → Option (List Bool) → Ranges → Characters → TextLeaf
text_with sized end alphabet c = record { sized = sized; ended = end; alphabet = alphabet; width = c.width; indexed = c.indexed }

-- IA5String
abbrev pub text_at : World → Slots → Site → TextLeaf
text_at w all s = text_with (text_sizing w all s (ended_by s)) (ended_by s) (characters_at w s) (characters_written s (characters_at w s))
