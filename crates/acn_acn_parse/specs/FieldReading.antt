-- What the parser of fields, entries and modules answers, step by step. A tree is answered as its plain data.
use Rattle.std.specs.Prelude.{◌≡◌, ℕ, zero, suc, Bool, true, false, not, ◌||◌, if◌then◌else◌, List, [], ◌∷◌, length, Result, Ok, Err, codes}
use Rattle.acn_lex.specs.declared.Kind.TheVariants.{Word, Mark}
use Rattle.acn_lex.specs.Lexeme.{Lexeme}
use Rattle.acn_cursor.specs.Steps.{Parser, ◌>>=◌, ◌>>◌, pure, refuse, eat, expect, sees, word, many, Fails, is_whole, token, Outcome}
use Rattle.acn_lex.specs.Words.{is_reference, acn_left_out_words}
use Rattle.acn_cursor.specs.Screens.{tokens_of}
use Rattle.acn_cursor.specs.declared.stop.Stop.{Stop}
use Rattle.acn_acn_syntax.specs.Mirror.{Field, Braces, Fields, plain, inserted, number, no_braces, braces, Entry, Module}
use Rattle.acn_acn_syntax.specs.ModuleTokens.{is_acn_identifier}
use Rattle.acn_acn_syntax.specs.View.{fields_of}
use Rattle.acn_acn_syntax.specs.declared.modules.AcnPath.{AcnPath}
use Rattle.acn_acn_syntax.specs.declared.modules.FieldKind.{FieldKind}
use Rattle.acn_acn_syntax.specs.declared.modules.FieldKind.TheVariants as field
use Rattle.acn_acn_syntax.specs.declared.modules.Param.{Param}
use Rattle.acn_acn_syntax.specs.declared.modules.ParamKind.{ParamKind}
use Rattle.acn_acn_syntax.specs.declared.modules.ParamKind.TheVariants as parameter
use Rattle.acn_acn_parse.specs.AttributeReading.{path, bracket, has_comma}
use Rattle.acn_acn_parse.specs.MapReading.{signed}

-- what a function that parses ensures of a tree that contracts see as other data
abbrev pub ReadsAs : {A B : Type 0} → (B → A) → Outcome A → Result B Stop → List Lexeme → Type 0
ReadsAs view outcome (Ok b) new = outcome ≡ Ok (view b, new)
ReadsAs view outcome (Err e) new = Fails outcome e

-- the same of a parser that has to take all tokens
abbrev pub WholeAs : {A B : Type 0} → (B → A) → Outcome A → Result B Stop → Type 0
WholeAs view outcome (Ok b) = is_whole outcome ≡ Ok (view b)
WholeAs view outcome (Err e) = Fails (is_whole outcome) e

-- the words that are left out of ACN files
unfoldable pub left_out_tokens : List Lexeme
left_out_tokens = tokens_of acn_left_out_words []

-- ---- arguments

unfoldable pub next_path : Parser AcnPath
next_path = do
  expect Mark (codes ",")
  path

abbrev pub arguments_if : Bool → Parser (List AcnPath)
arguments_if true = do
  first ← path
  more ← many has_comma next_path
  expect Mark (codes ">")
  pure (first ∷ more)
arguments_if false = pure []

-- arguments, where they are written
unfoldable pub arguments : Parser (List AcnPath)
arguments = do
  found ← eat Mark (codes "<")
  arguments_if found

-- ---- kinds

abbrev pub null_if : Bool → Parser FieldKind
null_if true = pure field.Null
null_if false = do
  name ← word is_reference
  pure (field.Ref name)

abbrev pub boolean_if : Bool → Parser FieldKind
boolean_if true = pure field.Boolean
boolean_if false = do
  null ← eat Word (codes "NULL")
  null_if null

abbrev pub integer_if : Bool → Parser FieldKind
integer_if true = pure field.Integer
integer_if false = do
  boolean ← eat Word (codes "BOOLEAN")
  boolean_if boolean

-- the type of an inserted field
unfoldable pub field_kind : Parser FieldKind
field_kind = do
  integer ← eat Word (codes "INTEGER")
  integer_if integer

-- ---- fields, of which those between braces are read by a parser that is given

unfoldable pub number_rest : List ℕ → Parser Field
number_rest name = do
  expect Mark (codes "(")
  n ← signed
  expect Mark (codes ")")
  pure (number name n)

unfoldable pub inserted_rest : List ℕ → Parser Field
inserted_rest name = do
  kind ← field_kind
  attributes ← bracket
  pure (inserted name kind attributes)

-- arguments or attributes come next
abbrev pub starts_plain : List Lexeme → Bool
starts_plain ts = sees Mark (codes "<") ts || sees Mark (codes "[") ts

module _ (inner : Parser Field) where
  unfoldable pub next_field : Parser Field
  next_field = do
    expect Mark (codes ",")
    inner

  abbrev pub none_if : Bool → Parser (List Field)
  none_if true = pure []
  none_if false = do
    first ← inner
    more ← many has_comma next_field
    expect Mark (codes "}")
    pure (first ∷ more)

  -- behind the opening brace
  unfoldable pub fields : Parser (List Field)
  fields = do
    none ← eat Mark (codes "}")
    none_if none

  abbrev pub braces_if : Bool → Parser Braces
  braces_if true = do
    fs ← fields
    pure (braces (fields_of fs))
  braces_if false = pure no_braces

  unfoldable pub braces_at : Parser Braces
  braces_at = do
    found ← eat Mark (codes "{")
    braces_if found

  unfoldable pub plain_rest : List ℕ → Parser Field
  plain_rest name = do
    paths ← arguments
    attributes ← bracket
    fs ← braces_at
    pure (plain name paths attributes fs)

  -- behind the name
  unfoldable pub field_rest : List ℕ → Parser Field
  field_rest name = λ ts.
      if sees Mark (codes "(") ts then number_rest name ts
      else (if starts_plain ts then plain_rest name ts else inserted_rest name ts)

  unfoldable pub field_in : Parser Field
  field_in = do
    name ← word is_acn_identifier
    field_rest name

-- a field with at most so many braces in one another
abbrev pub field_at : ℕ → Parser Field
field_at zero = refuse
field_at (suc n) = field_in (field_at n)

-- ---- entries and modules

abbrev pub parameter_boolean_if : Bool → Parser ParamKind
parameter_boolean_if true = pure parameter.Boolean
parameter_boolean_if false = do
  name ← word is_reference
  pure (parameter.Ref name)

abbrev pub parameter_integer_if : Bool → Parser ParamKind
parameter_integer_if true = pure parameter.Integer
parameter_integer_if false = do
  boolean ← eat Word (codes "BOOLEAN")
  parameter_boolean_if boolean

unfoldable pub parameter_kind : Parser ParamKind
parameter_kind = do
  integer ← eat Word (codes "INTEGER")
  parameter_integer_if integer

unfoldable pub one_parameter : Parser Param
one_parameter = do
  kind ← parameter_kind
  expect Mark (codes ":")
  name ← word is_acn_identifier
  pure (record { kind = kind; name = name })

unfoldable pub next_parameter : Parser Param
next_parameter = do
  expect Mark (codes ",")
  one_parameter

abbrev pub parameters_if : Bool → Parser (List Param)
parameters_if true = do
  first ← one_parameter
  more ← many has_comma next_parameter
  expect Mark (codes ">")
  pure (first ∷ more)
parameters_if false = pure []

-- parameters, where they are written
unfoldable pub parameters : Parser (List Param)
parameters = do
  found ← eat Mark (codes "<")
  parameters_if found

-- Each brace takes a token, so that the count of tokens bounds how many stand in one another.
unfoldable pub entry_at : ℕ → Parser Entry
entry_at depth = do
  name ← word is_reference
  ps ← parameters
  attributes ← bracket
  fs ← braces_at (field_at depth)
  pure (record { name = name; parameters = ps; attributes = attributes; fields = fs })

abbrev pub has_entry : List Lexeme → Bool
has_entry ts = not (sees Word (codes "END") ts)

unfoldable pub heading : Parser (Unit {0})
heading = do
  expect Word (codes "DEFINITIONS")
  expect Mark (codes "::=")
  expect Word (codes "BEGIN")

unfoldable pub module_at : ℕ → Parser Module
module_at depth = do
  name ← word is_reference
  heading
  entries ← many has_entry (entry_at depth)
  expect Word (codes "END")
  pure (record { name = name; entries = entries })

abbrev pub has_more : List Lexeme → Bool
has_more [] = false
has_more (t ∷ ts) = true

unfoldable pub modules_at : ℕ → Parser (List Module)
modules_at depth = do
  first ← module_at depth
  more ← many has_more (module_at depth)
  pure (first ∷ more)

-- the modules of a file, in which braces can't stand deeper in one another than there are tokens
abbrev pub modules_in_file : Parser (List Module)
modules_in_file ts = modules_at (length ts) ts
