-- What the parser of modules answers, step by step.
use Rattle.std.specs.Prelude.{ℕ, Bool, true, false, not, if◌then◌else◌, List, [], ◌∷◌, length, Option, Some, None, codes}
use Rattle.acn_lex.specs.declared.Kind.TheVariants.{Word, Mark}
use Rattle.acn_lex.specs.Lexeme.{Lexeme}
use Rattle.acn_cursor.specs.Steps.{Parser, ◌>>=◌, ◌>>◌, pure, expect, sees, text_of, word, with_front, many}
use Rattle.acn_lex.specs.Words.{is_identifier, is_reference}
use Rattle.acn_asn_syntax.specs.declared.modules.Assign.{Assign}
use Rattle.acn_asn_syntax.specs.declared.modules.Assign.TheVariants as assign
use Rattle.acn_asn_syntax.specs.declared.modules.AsnModule.{AsnModule}
use Rattle.acn_asn_syntax.specs.declared.modules.AsnModules.{AsnModules}
use Rattle.acn_asn_syntax.specs.declared.types.AsnType.{AsnType}
use Rattle.acn_asn_syntax.specs.declared.modules.Exports.{Exports}
use Rattle.acn_asn_syntax.specs.declared.modules.Import.{Import}
use Rattle.acn_asn_syntax.specs.declared.values.AsnValue.{AsnValue}
use Rattle.acn_asn_parse.specs.declared.headers.ModuleHead.{ModuleHead}
use Rattle.acn_asn_types.specs.Values.{value_at}
use Rattle.acn_asn_parse.specs.Headers.{head_at, exports_at, imports_at}
use Rattle.acn_asn_types.specs.Types.{type_at}

-- ---- assignments and modules, over a parser of types

abbrev pub is_value_name : Option (List ℕ) → Bool
is_value_name None = false
is_value_name (Some text) = is_identifier text

-- an identifier comes next
unfoldable pub has_identifier : List Lexeme → Bool
has_identifier ts = is_value_name (text_of Word ts)

unfoldable pub has_item : List Lexeme → Bool
has_item ts = not (sees Word (codes "END") ts)

abbrev pub has_more : List Lexeme → Bool
has_more [] = false
has_more (t ∷ ts) = true

unfoldable pub type_is : List ℕ → AsnType → Assign
type_is name t = assign.TypeIs name t

unfoldable pub value_is : List ℕ → AsnType → AsnValue → Assign
value_is name t v = assign.ValueIs name t v

-- the value behind a type
unfoldable pub assigned : Parser AsnValue
assigned = do
  expect Mark (codes "::=")
  value_at

unfoldable pub module_of : ModuleHead → Option Exports → Option (List Import) → List Assign → AsnModule
module_of head exports imports items = record { name = head.name; oid = head.oid; tags = head.tags; exports = exports; imports = imports; items = items }

module _ (inner : Parser AsnType) where
  unfoldable pub type_assign : Parser Assign
  type_assign = do
    name ← word is_reference
    expect Mark (codes "::=")
    t ← inner
    pure (type_is name t)

  unfoldable pub value_assign : Parser Assign
  value_assign = do
    name ← word is_identifier
    t ← inner
    v ← assigned
    pure (value_is name t v)

  unfoldable pub assign_at : Parser Assign
  assign_at = λ ts. if has_identifier ts then value_assign ts else type_assign ts

  unfoldable pub items_at : Parser (List Assign)
  items_at = do
    items ← many has_item assign_at
    expect Word (codes "END")
    pure items

  -- the assignments of a module
  unfoldable pub with_items : ModuleHead → Option Exports → Option (List Import) → Parser AsnModule
  with_items head exports imports = do
    items ← items_at
    pure (module_of head exports imports items)

  -- a module behind BEGIN
  unfoldable pub module_in : ModuleHead → Parser AsnModule
  module_in head = do
    exports ← exports_at
    imports ← imports_at
    with_items head exports imports

  unfoldable pub module_at : Parser AsnModule
  module_at = do
    head ← head_at
    expect Mark (codes "::=")
    expect Word (codes "BEGIN")
    module_in head

  -- the modules behind the first
  unfoldable pub more_modules : AsnModule → Parser (List AsnModule)
  more_modules first = λ ts. with_front (first ∷ []) (many has_more module_at ts)

  unfoldable pub modules_in : Parser AsnModules
  modules_in = do
    first ← module_at
    modules ← more_modules first
    pure (record { modules = modules })

-- the modules of a file
unfoldable pub modules_at : Parser AsnModules
modules_at = λ ts. modules_in (type_at (length ts)) ts
