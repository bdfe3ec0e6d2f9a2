-- The trees of ACN modules as plain data, with no memory behind them. What the trees are is read in ModuleTokens, which says their tokens.
use Rattle.std.specs.Prelude.{ℕ, List, [], ◌∷◌, Option, Some, None}
use Rattle.acn_acn_syntax.specs.declared.maps.Signed.{Signed}
use Rattle.acn_acn_syntax.specs.declared.modules.AcnPath.{AcnPath}
use Rattle.acn_acn_syntax.specs.declared.modules.Attr.{Attr}
use Rattle.acn_acn_syntax.specs.declared.modules.FieldKind.{FieldKind}
use Rattle.acn_acn_syntax.specs.declared.modules.Param.{Param}

mutual
  -- a field between braces
  pub data Field : Type 0 where
    plain : (name : List ℕ) → (arguments : List AcnPath) → (attributes : List Attr) → Braces → Field
    inserted : (name : List ℕ) → FieldKind → (attributes : List Attr) → Field
    number : (name : List ℕ) → Signed → Field

  -- the fields between braces, where these are written
  pub data Braces : Type 0 where
    no_braces : Braces
    braces : Fields → Braces

  pub data Fields : Type 0 where
    no_fields : Fields
    and_field : Field → Fields → Fields

abbrev pub field_list : Fields → List Field
field_list no_fields = []
field_list (and_field f more) = f ∷ field_list more

-- the fields between braces; none where no braces are written
abbrev pub braces_list : Braces → Option (List Field)
braces_list no_braces = None
braces_list (braces fields) = Some (field_list fields)

pub record Entry : Type 0 where
  pub name : List ℕ
  pub parameters : List Param
  pub attributes : List Attr
  pub fields : Braces

pub record Module : Type 0 where
  pub name : List ℕ
  pub entries : List Entry
