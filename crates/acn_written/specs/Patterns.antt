-- Patterns that can't stand where they stand. (This profile's own.)
use Rattle.std.specs.Prelude.{Bool, true, false, not, ◌&&◌, ◌||◌, List, Option, Some, None, option_map, option_and_then}
use Rattle.acn_acn_syntax.specs.declared.modules.Literal.{Literal}
use Rattle.acn_codings.specs.Literals.{bits_in, fitting}
use Rattle.acn_grammar.specs.Leaves.{is_terminator, begins_number, flag_patterns_fine}
use Rattle.acn_grammar.specs.Spell.{octet_numbers}
use Rattle.acn_reasons.specs.Classes.{class_of}
use Rattle.acn_reasons.specs.declared.classes.Class.{Class}
use Rattle.acn_reasons.specs.declared.classes.Class.TheVariants as class
use Rattle.acn_sites.specs.Sites.{Site}
use Rattle.acn_sites.specs.declared.attributes.AttrKind.{AttrKind}
use Rattle.acn_sites.specs.declared.attributes.AttrKind.TheVariants as kind
use Rattle.acn_written.specs.Says.{literal_attr}

-- What the nearest attribute of a kind gives, where it is there: its bits, or none where it has none or too many.
abbrev pub pattern_attr : AttrKind → Site → Option (Option (List Bool))
pattern_attr k s = option_map (λ (l : Literal). fitting (bits_in l)) (literal_attr k s)

-- the bits, where there are as many as a pattern has
abbrev pub bits_given : Option (Option (List Bool)) → Option (List Bool)
bits_given p = option_and_then (λ (bits : Option (List Bool)). bits) p

-- no bits, or too many
abbrev pub is_unfit : Option (Option (List Bool)) → Bool
is_unfit None = false
is_unfit (Some None) = true
is_unfit (Some (Some bits)) = false

-- or not what it may be
abbrev pub clashes : (may : List Bool → Bool) → Option (Option (List Bool)) → Bool
clashes may None = false
clashes may (Some None) = true
clashes may (Some (Some bits)) = not (may bits)

-- Two patterns of a BOOLEAN are of one length and differ.
abbrev pub flags_clash : (ones zeros : Option (Option (List Bool))) → Bool
flags_clash ones zeros = is_unfit ones || (is_unfit zeros || not (flag_patterns_fine (bits_given ones) (bits_given zeros)))

-- The end of a number in digits is whole octets, the first of which is no digit and no sign.
abbrev pub ends_number : List Bool → Bool
ends_number end = is_terminator end && not (begins_number (octet_numbers end))

abbrev pub clash_of : Class → Site → Bool
clash_of class.Boolean s = flags_clash (pattern_attr kind.TrueValue s) (pattern_attr kind.FalseValue s)
clash_of class.Null s = is_unfit (pattern_attr kind.Pattern s)
clash_of class.Integer s = clashes ends_number (pattern_attr kind.TerminationPattern s)
clash_of class.Text s = clashes is_terminator (pattern_attr kind.TerminationPattern s)
clash_of class.List s = is_unfit (pattern_attr kind.TerminationPattern s)
clash_of _ s = false

unfoldable pub pattern_clash : Site → Bool
pattern_clash s = clash_of (class_of s) s
