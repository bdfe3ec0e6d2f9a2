-- What the nearest attributes of a site say of the way in which it is written. (Attributes are ACN's.)
use Rattle.std.specs.Prelude.{Bool, true, false, Option, Some, None, option_and_then, is_some}
use Rattle.acn_acn_syntax.specs.declared.modules.Attr.{Attr}
use Rattle.acn_acn_syntax.specs.declared.modules.Attr.TheVariants as attr
use Rattle.acn_acn_syntax.specs.declared.modules.Endianness.TheVariants as endianness
use Rattle.acn_acn_syntax.specs.declared.modules.Literal.{Literal}
use Rattle.acn_acn_syntax.specs.declared.maps.MapTable.{MapTable}
use Rattle.acn_index.specs.Lookup.{table_named}
use Rattle.acn_index.specs.World.{World}
use Rattle.acn_sites.specs.Attributes.{Given, nearest}
use Rattle.acn_sites.specs.Sites.{Site}
use Rattle.acn_sites.specs.declared.attributes.AttrKind.{AttrKind}
use Rattle.acn_sites.specs.declared.attributes.AttrKind.TheVariants as kind

abbrev pub literal_in : Attr → Option Literal
literal_in (attr.TrueValue l) = Some l
literal_in (attr.FalseValue l) = Some l
literal_in (attr.Pattern l) = Some l
literal_in (attr.TerminationPattern l) = Some l
literal_in _ = None

-- the literal of the nearest attribute of a kind
abbrev pub literal_attr : AttrKind → Site → Option Literal
literal_attr k s = option_and_then (λ (g : Given). literal_in g.attr) (nearest k s)

abbrev pub table_in : World → Attr → Option MapTable
table_in w (attr.MappingFunction name) = table_named w name
table_in w _ = None

-- the mapping table that the nearest attribute names
abbrev pub table_attr : World → Site → Option MapTable
table_attr w s = option_and_then (λ (g : Given). table_in w g.attr) (nearest kind.MappingFunction s)

abbrev pub says_little : Attr → Bool
says_little (attr.Endianness endianness.Little) = true
says_little _ = false

abbrev pub is_said : (Attr → Bool) → Option Given → Bool
is_said test None = false
is_said test (Some g) = test g.attr

-- the least significant octet stands first
abbrev pub is_little : Site → Bool
is_little s = is_said says_little (nearest kind.Endianness s)

-- the numbers of an enumeration's items are written, and not their indices
abbrev pub has_values : Site → Bool
has_values s = is_some (nearest kind.EncodeValues s)
