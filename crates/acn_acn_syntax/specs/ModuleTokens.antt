-- The tokens of ACN modules, and which trees of them are proper. The notation is this profile's own; words, numbers and literals are those of X.680, clause 12
-- (08/2015), and a reference is a typereference there (12.2).
use Rattle.std.specs.Prelude.{◌≡◌, ℕ, ◌^◌, Bool, true, false, not, ◌&&◌, nat_lt, List, [], ◌∷◌, ◌++◌, Option, Some, None, codes}
use Rattle.std.specs.List.{flat_map, list_all, list_any}
use Rattle.std.specs.Fmt.{decimal}
use Rattle.std.specs.Str.{bytes_eq}
use Rattle.acn_lex.specs.declared.Kind.TheVariants.{Word, Number, Mark, Bits, Hex}
use Rattle.acn_lex.specs.Lexeme.{Lexeme}
use Rattle.acn_cursor.specs.Steps.{token}
use Rattle.acn_lex.specs.Words.{is_identifier, is_reference}
use Rattle.acn_acn_syntax.specs.MapTokens.{signed_tokens}
use Rattle.acn_acn_syntax.specs.Mirror.{Field, Braces, Fields, plain, inserted, number, no_braces, braces, no_fields, and_field, Entry, Module}
use Rattle.acn_acn_syntax.specs.View.{modules_of}
use Rattle.acn_acn_syntax.specs.declared.maps.Signed.{Signed}
use Rattle.acn_acn_syntax.specs.declared.modules.AcnModules.{AcnModules}
use Rattle.acn_acn_syntax.specs.declared.modules.AcnPath.{AcnPath}
use Rattle.acn_acn_syntax.specs.declared.modules.Alignment.{Alignment}
use Rattle.acn_acn_syntax.specs.declared.modules.Alignment.TheVariants as align
use Rattle.acn_acn_syntax.specs.declared.modules.Attr.{Attr}
use Rattle.acn_acn_syntax.specs.declared.modules.Attr.TheVariants as attr
use Rattle.acn_acn_syntax.specs.declared.modules.Condition.{Condition}
use Rattle.acn_acn_syntax.specs.declared.modules.Encoding.{Encoding}
use Rattle.acn_acn_syntax.specs.declared.modules.Encoding.TheVariants as encoding
use Rattle.acn_acn_syntax.specs.declared.modules.Endianness.{Endianness}
use Rattle.acn_acn_syntax.specs.declared.modules.Endianness.TheVariants as order
use Rattle.acn_acn_syntax.specs.declared.modules.FieldKind.{FieldKind}
use Rattle.acn_acn_syntax.specs.declared.modules.FieldKind.TheVariants as field
use Rattle.acn_acn_syntax.specs.declared.modules.Literal.{Literal}
use Rattle.acn_acn_syntax.specs.declared.modules.Literal.TheVariants as literal
use Rattle.acn_acn_syntax.specs.declared.modules.Param.{Param}
use Rattle.acn_acn_syntax.specs.declared.modules.ParamKind.{ParamKind}
use Rattle.acn_acn_syntax.specs.declared.modules.ParamKind.TheVariants as parameter
use Rattle.acn_acn_syntax.specs.declared.modules.SizeAttr.{SizeAttr}
use Rattle.acn_acn_syntax.specs.declared.modules.SizeAttr.TheVariants as size

abbrev pub Tokens : Type 0
Tokens = List Lexeme

abbrev pub word : List ℕ → Lexeme
word text = token Word text

abbrev pub mark : List ℕ → Lexeme
mark text = token Mark text

-- the tokens of items, joined by a mark
abbrev pub joined : {A : Type 0} → List ℕ → (A → Tokens) → List A → Tokens
joined text tokens [] = []
joined text tokens (x ∷ xs) = tokens x ++ flat_map (λ y. mark text ∷ tokens y) xs

-- between two marks
abbrev pub between : (opening closing : List ℕ) → Tokens → Tokens
between opening closing ts = mark opening ∷ (ts ++ mark closing ∷ [])

-- ---- paths, conditions and attributes

unfoldable pub path_tokens : AcnPath → Tokens
path_tokens p = joined (codes ".") (λ name. word name ∷ []) p.names

abbrev pub equals_tokens : Option Signed → Tokens
equals_tokens None = []
equals_tokens (Some n) = mark (codes "==") ∷ signed_tokens n

-- one condition of a present-when: a path to a flag, or to a number that it has to equal
unfoldable pub condition_tokens : Condition → Tokens
condition_tokens c = path_tokens c.path ++ equals_tokens c.equals

unfoldable pub size_tokens : SizeAttr → Tokens
size_tokens (size.Number n) = token Number (decimal n) ∷ []
size_tokens size.NullTerminated = word (codes "null-terminated") ∷ []
size_tokens (size.Path p) = path_tokens p

unfoldable pub encoding_word : Encoding → List ℕ
encoding_word encoding.PosInt = codes "pos-int"
encoding_word encoding.TwosComplement = codes "twos-complement"
encoding_word encoding.Bcd = codes "BCD"
encoding_word encoding.Ascii = codes "ASCII"

unfoldable pub order_word : Endianness → List ℕ
order_word order.Big = codes "big"
order_word order.Little = codes "little"

unfoldable pub align_word : Alignment → List ℕ
align_word align.Byte = codes "byte"
align_word align.Word = codes "word"
align_word align.Dword = codes "dword"

unfoldable pub literal_token : Literal → Lexeme
literal_token (literal.Bits text) = token Bits text
literal_token (literal.Hex text) = token Hex text

-- an attribute, by its name and what is written behind it
unfoldable pub attr_tokens : Attr → Tokens
attr_tokens (attr.Size s) = word (codes "size") ∷ size_tokens s
attr_tokens (attr.Encoding e) = word (codes "encoding") ∷ word (encoding_word e) ∷ []
attr_tokens (attr.Endianness e) = word (codes "endianness") ∷ word (order_word e) ∷ []
attr_tokens (attr.AlignToNext a) = word (codes "align-to-next") ∷ word (align_word a) ∷ []
attr_tokens attr.EncodeValues = word (codes "encode-values") ∷ []
attr_tokens (attr.TrueValue l) = word (codes "true-value") ∷ literal_token l ∷ []
attr_tokens (attr.FalseValue l) = word (codes "false-value") ∷ literal_token l ∷ []
attr_tokens (attr.Pattern l) = word (codes "pattern") ∷ literal_token l ∷ []
attr_tokens (attr.TerminationPattern l) = word (codes "termination-pattern") ∷ literal_token l ∷ []
attr_tokens (attr.PresentWhen conditions) = word (codes "present-when") ∷ flat_map condition_tokens conditions
attr_tokens (attr.Determinant p) = word (codes "determinant") ∷ path_tokens p
attr_tokens (attr.MappingFunction name) = word (codes "mapping-function") ∷ word name ∷ []

-- the attributes of an entry or a field
unfoldable pub bracket_tokens : List Attr → Tokens
bracket_tokens attributes = between (codes "[") (codes "]") (joined (codes ",") attr_tokens attributes)

-- ---- fields

unfoldable pub kind_token : FieldKind → Lexeme
kind_token field.Integer = word (codes "INTEGER")
kind_token field.Boolean = word (codes "BOOLEAN")
kind_token field.Null = word (codes "NULL")
kind_token (field.Ref name) = word name

-- arguments, or nothing where there are none
unfoldable pub argument_tokens : List AcnPath → Tokens
argument_tokens [] = []
argument_tokens (p ∷ ps) = between (codes "<") (codes ">") (joined (codes ",") path_tokens (p ∷ ps))

-- A field of the type, a field that is inserted, or the number of an item.
abbrev mutual
  pub field_tokens : Field → Tokens
  field_tokens (plain name arguments attributes fs) = word name ∷ (argument_tokens arguments ++ (bracket_tokens attributes ++ brace_tokens fs))
  field_tokens (inserted name kind attributes) = word name ∷ kind_token kind ∷ bracket_tokens attributes
  field_tokens (number name n) = word name ∷ between (codes "(") (codes ")") (signed_tokens n)

  pub brace_tokens : Braces → Tokens
  brace_tokens no_braces = []
  brace_tokens (braces fs) = between (codes "{") (codes "}") (fields_tokens fs)

  -- joined by commas
  pub fields_tokens : Fields → Tokens
  fields_tokens no_fields = []
  fields_tokens (and_field f fs) = field_tokens f ++ more_tokens fs

  pub more_tokens : Fields → Tokens
  more_tokens no_fields = []
  more_tokens (and_field f fs) = mark (codes ",") ∷ (field_tokens f ++ more_tokens fs)

-- ---- entries and modules

unfoldable pub parameter_kind_token : ParamKind → Lexeme
parameter_kind_token parameter.Integer = word (codes "INTEGER")
parameter_kind_token parameter.Boolean = word (codes "BOOLEAN")
parameter_kind_token (parameter.Ref name) = word name

unfoldable pub parameter_tokens_of : Param → Tokens
parameter_tokens_of p = parameter_kind_token p.kind ∷ mark (codes ":") ∷ word p.name ∷ []

-- parameters, or nothing where there are none
unfoldable pub parameter_tokens : List Param → Tokens
parameter_tokens [] = []
parameter_tokens (p ∷ ps) = between (codes "<") (codes ">") (joined (codes ",") parameter_tokens_of (p ∷ ps))

-- what is said of one type assignment
unfoldable pub entry_tokens : Entry → Tokens
entry_tokens e = word e.name ∷ (parameter_tokens e.parameters ++ (bracket_tokens e.attributes ++ brace_tokens e.fields))

unfoldable pub module_tokens : Module → Tokens
module_tokens m = word m.name ∷ word (codes "DEFINITIONS") ∷ mark (codes "::=") ∷ word (codes "BEGIN") ∷ (flat_map entry_tokens m.entries ++ word (codes "END") ∷ [])

-- the tokens of the modules of a file
abbrev pub tokens_of : List Module → Tokens
tokens_of ms = flat_map module_tokens ms

-- ---- which are proper

-- the names of attributes, and the words behind them
unfoldable pub attribute_words : List (List ℕ)
attribute_words = codes "size" ∷ codes "encoding" ∷ codes "endianness" ∷ codes "align-to-next" ∷ codes "encode-values" ∷ codes "true-value"
    ∷ codes "false-value" ∷ codes "pattern" ∷ codes "termination-pattern" ∷ codes "present-when" ∷ codes "determinant" ∷ codes "mapping-function"
    ∷ codes "null-terminated" ∷ codes "pos-int" ∷ codes "twos-complement" ∷ codes "BCD" ∷ codes "ASCII" ∷ codes "big" ∷ codes "little"
    ∷ codes "byte" ∷ codes "word" ∷ codes "dword" ∷ []

-- an identifier (X.680, 12.3) that is no attribute word
unfoldable pub is_acn_identifier : List ℕ → Bool
is_acn_identifier text = is_identifier text && not (list_any (bytes_eq text) attribute_words)

-- at least one
abbrev pub is_some_of : {A : Type 0} → List A → Bool
is_some_of [] = false
is_some_of (x ∷ xs) = true

abbrev pub is_signed : Signed → Bool
is_signed s = nat_lt s.n (2 ^ 64)

-- at least one name
abbrev pub is_path : AcnPath → Bool
is_path p = is_some_of p.names && list_all is_acn_identifier p.names

abbrev pub is_condition : Condition → Bool
is_condition c = is_path c.path && equals_fine c.equals
  where
    equals_fine : Option Signed → Bool
    equals_fine None = true
    equals_fine (Some n) = is_signed n

abbrev pub is_size : SizeAttr → Bool
is_size (size.Number n) = nat_lt n (2 ^ 64)
is_size size.NullTerminated = true
is_size (size.Path p) = is_path p

-- a present-when has at least one condition
abbrev pub is_attr : Attr → Bool
is_attr (attr.Size s) = is_size s
is_attr (attr.PresentWhen conditions) = is_some_of conditions && list_all is_condition conditions
is_attr (attr.Determinant p) = is_path p
is_attr (attr.MappingFunction name) = is_acn_identifier name
is_attr _ = true

abbrev pub is_field_kind : FieldKind → Bool
is_field_kind (field.Ref name) = is_reference name
is_field_kind _ = true

abbrev mutual
  pub is_field : Field → Bool
  is_field (plain name arguments attributes fs) = is_acn_identifier name && (list_all is_path arguments && (list_all is_attr attributes && are_braces fs))
  is_field (inserted name kind attributes) = is_acn_identifier name && (is_field_kind kind && list_all is_attr attributes)
  is_field (number name n) = is_acn_identifier name && is_signed n

  pub are_braces : Braces → Bool
  are_braces no_braces = true
  are_braces (braces fs) = are_fields fs

  pub are_fields : Fields → Bool
  are_fields no_fields = true
  are_fields (and_field f fs) = is_field f && are_fields fs

abbrev pub is_parameter_kind : ParamKind → Bool
is_parameter_kind (parameter.Ref name) = is_reference name
is_parameter_kind _ = true

abbrev pub is_parameter : Param → Bool
is_parameter p = is_parameter_kind p.kind && is_acn_identifier p.name

abbrev pub is_entry : Entry → Bool
is_entry e = is_reference e.name && (list_all is_parameter e.parameters && (list_all is_attr e.attributes && are_braces e.fields))

abbrev pub is_module : Module → Bool
is_module m = is_reference m.name && list_all is_entry m.entries

-- There is a module; names are references and identifiers, and numbers are below 2 ^ 64.
abbrev pub is_proper : List Module → Bool
is_proper ms = is_some_of ms && list_all is_module ms

-- The same of the trees of the program.

abbrev pub acn_tokens : AcnModules → Tokens
acn_tokens t = tokens_of (modules_of t)

abbrev pub IsProperAcn : AcnModules → Type 0
IsProperAcn t = is_proper (modules_of t) ≡ true
