-- The tokens of the program's trees, and which are proper: those of their plain data.
use Rattle.std.specs.Prelude.{Bool, ◌&&◌, ◌∷◌, ◌++◌}
use Rattle.acn_asn_syntax.specs.declared.sets.Element.{Element}
use Rattle.acn_asn_syntax.specs.declared.sets.Set.{Set}
use Rattle.acn_asn_syntax.specs.declared.sets.Meet.{Meet}
use Rattle.acn_asn_syntax.specs.declared.sets.Part.{Part}
use Rattle.acn_asn_syntax.specs.declared.types.AsnType.{AsnType}
use Rattle.acn_asn_syntax.specs.declared.types.AsnBase.{AsnBase}
use Rattle.acn_asn_syntax.specs.declared.types.Constraint.{Constraint}
use Rattle.acn_asn_syntax.specs.declared.types.Component.{Component}
use Rattle.acn_asn_syntax.specs.declared.types.Alternative.{Alternative}
use Rattle.acn_lex.specs.Words.{is_identifier}
use Rattle.acn_asn_syntax.specs.Values.{Tokens, word}
use Rattle.acn_asn_syntax.specs.View.{element_view, set_view, meet_view, part_view, type_view, base_view, constraint_view, component_view, alternative_view}
use Rattle.acn_asn_syntax.specs.Spelling as plain

unfoldable pub element_tokens : Element → Tokens
element_tokens e = plain.element_tokens (element_view e)

unfoldable pub set_tokens : Set → Tokens
set_tokens s = plain.set_tokens (set_view s)

unfoldable pub meet_tokens : Meet → Tokens
meet_tokens m = plain.meet_tokens (meet_view m)

unfoldable pub part_tokens : Part → Tokens
part_tokens p = plain.part_tokens (part_view p)

unfoldable pub element_fits : Element → Bool
element_fits e = plain.element_fits (element_view e)

unfoldable pub set_fits : Set → Bool
set_fits s = plain.set_fits (set_view s)

unfoldable pub meet_fits : Meet → Bool
meet_fits m = plain.meet_fits (meet_view m)

unfoldable pub part_fits : Part → Bool
part_fits p = plain.part_fits (part_view p)

unfoldable pub type_tokens : AsnType → Tokens
type_tokens t = plain.type_tokens (type_view t)

unfoldable pub base_tokens : AsnBase → Tokens
base_tokens b = plain.base_tokens (base_view b)

unfoldable pub constraint_tokens : Constraint → Tokens
constraint_tokens c = plain.constraint_tokens (constraint_view c)

unfoldable pub type_fits : AsnType → Bool
type_fits t = plain.type_fits (type_view t)

unfoldable pub base_fits : AsnBase → Bool
base_fits b = plain.base_fits (base_view b)

-- a constraint may stand behind a type
unfoldable pub outer_fits : Constraint → Bool
outer_fits c = plain.outer_fits (constraint_view c)

-- a constraint may stand between SEQUENCE and OF
unfoldable pub inner_fits : Constraint → Bool
inner_fits c = plain.inner_fits (constraint_view c)

-- SEQUENCE OF
unfoldable pub is_list : AsnBase → Bool
is_list b = plain.is_list (base_view b)

unfoldable pub component_tokens : Component → Tokens
component_tokens c = word (component_view c).name ∷ (plain.type_tokens (component_view c).of ++ plain.rest_tokens (component_view c).rest)

unfoldable pub component_fits : Component → Bool
component_fits c = is_identifier (component_view c).name && plain.type_fits (component_view c).of && plain.rest_fits (component_view c).rest

unfoldable pub alternative_tokens : Alternative → Tokens
alternative_tokens a = word (alternative_view a).name ∷ plain.type_tokens (alternative_view a).of

unfoldable pub alternative_fits : Alternative → Bool
alternative_fits a = is_identifier (alternative_view a).name && plain.type_fits (alternative_view a).of
