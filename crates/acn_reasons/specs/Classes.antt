-- What a type is, as the rules on attributes and braces see it.
use Rattle.std.specs.Prelude.{Bool, true, false, ◌||◌, Option, Some, None, option_and_then}
use Rattle.acn_asn_syntax.specs.Mirror.{AsnBase, boolean, null, integer, enumerated, octet_string, bit_string, ia5_string, sequence, sequence_of, sequence_size, choice, reference}
use Rattle.acn_acn_syntax.specs.declared.modules.Attr.{Attr}
use Rattle.acn_acn_syntax.specs.declared.modules.Attr.TheVariants as attr
use Rattle.acn_acn_syntax.specs.declared.modules.SizeAttr.{SizeAttr}
use Rattle.acn_acn_syntax.specs.declared.modules.SizeAttr.TheVariants as size
use Rattle.acn_acn_syntax.specs.declared.modules.Encoding.{Encoding}
use Rattle.acn_acn_syntax.specs.declared.modules.Encoding.TheVariants as encoding
use Rattle.acn_sites.specs.declared.attributes.AttrKind.TheVariants as kind
use Rattle.acn_sites.specs.Attributes.{Given, nearest}
use Rattle.acn_sites.specs.Sites.{Site, base_of}
use Rattle.acn_reasons.specs.declared.classes.Class.{Class}
use Rattle.acn_reasons.specs.declared.classes.Class.TheVariants as class

abbrev pub class_of_base : AsnBase → Class
class_of_base boolean = class.Boolean
class_of_base null = class.Null
class_of_base (integer ns) = class.Integer
class_of_base (enumerated items) = class.Enumerated
class_of_base octet_string = class.Octets
class_of_base bit_string = class.Bits
class_of_base ia5_string = class.Text
class_of_base (sequence cs) = class.Sequence
class_of_base (sequence_of t) = class.List
class_of_base (sequence_size c t) = class.List
class_of_base (choice more) = class.Choice
class_of_base (reference from name) = class.Reference

abbrev pub class_of : Site → Class
class_of s = class_of_base (base_of s)

-- an INTEGER or an ENUMERATED
abbrev pub is_number : Class → Bool
is_number class.Integer = true
is_number class.Enumerated = true
is_number _ = false

-- what has a size: a string, a list, or contained octets
abbrev pub is_sized : Class → Bool
is_sized class.Octets = true
is_sized class.Bits = true
is_sized class.Text = true
is_sized class.List = true
is_sized _ = false

abbrev pub is_integer : Class → Bool
is_integer class.Integer = true
is_integer _ = false

abbrev pub is_enumerated : Class → Bool
is_enumerated class.Enumerated = true
is_enumerated _ = false

abbrev pub is_boolean : Class → Bool
is_boolean class.Boolean = true
is_boolean _ = false

abbrev pub is_null : Class → Bool
is_null class.Null = true
is_null _ = false

abbrev pub is_text : Class → Bool
is_text class.Text = true
is_text _ = false

abbrev pub is_list : Class → Bool
is_list class.List = true
is_list _ = false

abbrev pub is_choice : Class → Bool
is_choice class.Choice = true
is_choice _ = false

-- ---- what the nearest attributes say

abbrev pub size_in : Attr → Option SizeAttr
size_in (attr.Size s) = Some s
size_in _ = None

abbrev pub encoding_in : Attr → Option Encoding
encoding_in (attr.Encoding e) = Some e
encoding_in _ = None

abbrev pub size_attr : Site → Option SizeAttr
size_attr s = option_and_then (λ (g : Given). size_in g.attr) (nearest kind.Size s)

abbrev pub encoding_attr : Site → Option Encoding
encoding_attr s = option_and_then (λ (g : Given). encoding_in g.attr) (nearest kind.Encoding s)

abbrev pub is_bcd : Option Encoding → Bool
is_bcd (Some encoding.Bcd) = true
is_bcd _ = false

abbrev pub is_ascii : Option Encoding → Bool
is_ascii (Some encoding.Ascii) = true
is_ascii _ = false

-- digits, one by one
abbrev pub is_decimal : Option Encoding → Bool
is_decimal e = is_bcd e || is_ascii e

-- a fixed count of bits
abbrev pub is_binary : Option Encoding → Bool
is_binary (Some encoding.PosInt) = true
is_binary (Some encoding.TwosComplement) = true
is_binary _ = false

abbrev pub is_ended : Option SizeAttr → Bool
is_ended (Some size.NullTerminated) = true
is_ended _ = false
