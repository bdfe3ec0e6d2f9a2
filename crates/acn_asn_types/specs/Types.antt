-- What the parser of types answers, step by step.
use Rattle.std.specs.Prelude.{ℕ, zero, suc, Bool, true, false, if◌then◌else◌, List, [], ◌∷◌, length, Option, Some, None, codes, Ok}
use Rattle.acn_lex.specs.declared.Kind.TheVariants.{Word, Mark}
use Rattle.acn_lex.specs.Lexeme.{Lexeme}
use Rattle.acn_cursor.specs.Steps.{Parser, ◌>>=◌, ◌>>◌, pure, refuse, eat, expect, sees, word, many}
use Rattle.acn_lex.specs.Words.{is_identifier}
use Rattle.acn_asn_syntax.specs.declared.types.Tag.{Tag}
use Rattle.acn_asn_syntax.specs.declared.types.Rest.{Rest}
use Rattle.acn_asn_syntax.specs.declared.types.AsnBase.{AsnBase}
use Rattle.acn_asn_syntax.specs.declared.types.AsnBase.TheVariants as base
use Rattle.acn_asn_syntax.specs.declared.types.AsnType.{AsnType, roll-AsnType}
use Rattle.acn_asn_syntax.specs.declared.types.Constraint.{Constraint}
use Rattle.acn_asn_syntax.specs.declared.types.Constraint.TheVariants as constraint
use Rattle.acn_asn_syntax.specs.declared.types.Component.{Component, roll-Component}
use Rattle.acn_asn_syntax.specs.declared.types.Alternative.{Alternative, roll-Alternative}
use Rattle.acn_asn_syntax.specs.declared.sets.Set.{Set}
use Rattle.acn_asn_types.specs.declared.heads.ListHead.{ListHead}
use Rattle.acn_asn_types.specs.declared.heads.Step.{Step}
use Rattle.acn_asn_types.specs.declared.heads.Step.TheVariants as step
use Rattle.acn_asn_types.specs.Lists.{listed}
use Rattle.acn_asn_types.specs.Bases.{tag_at, rest_at, simple_base}
use Rattle.acn_asn_types.specs.Sets.{set_at}

unfoldable pub has_paren : List Lexeme → Bool
has_paren ts = sees Mark (codes "(") ts

unfoldable pub typed : Option Tag → AsnBase → List Constraint → AsnType
typed tag b cs = roll-AsnType (record { tag = tag; base = b; constraints = cs })

unfoldable pub component_of : List ℕ → AsnType → Rest → Component
component_of name t r = roll-Component (record { name = name; of = t; rest = r })

unfoldable pub alternative_of : List ℕ → AsnType → Alternative
alternative_of name t = roll-Alternative (record { name = name; of = t })

-- a list type has no constraints of its own
unfoldable pub list_type : ListHead → AsnType → AsnType
list_type h t = typed h.tag (base.SequenceOf h.constraint t) []

-- the type whose heads these are, the outermost first
abbrev pub wrap : List ListHead → AsnType → AsnType
wrap [] t = t
wrap (h ∷ hs) t = list_type h (wrap hs t)

module _ (sets : Parser Set) (inner : Parser AsnType) where
  unfoldable pub containing_at : Parser Constraint
  containing_at = do
    t ← inner
    expect Mark (codes ")")
    pure (constraint.Containing t)

  unfoldable pub set_constraint : Parser Constraint
  set_constraint = do
    s ← sets
    expect Mark (codes ")")
    pure (constraint.Set s)

  abbrev pub content_if : Bool → Parser Constraint
  content_if true = containing_at
  content_if false = set_constraint

  -- in parentheses
  unfoldable pub constraint_at : Parser Constraint
  constraint_at = do
    expect Mark (codes "(")
    has ← eat Word (codes "CONTAINING")
    content_if has

  unfoldable pub size_at : Parser (Option Constraint)
  size_at = do
    expect Mark (codes "(")
    s ← sets
    expect Mark (codes ")")
    pure (Some (constraint.Size s))

  unfoldable pub some_constraint : Parser (Option Constraint)
  some_constraint = do
    c ← constraint_at
    pure (Some c)

  abbrev pub size_if : Bool → Parser (Option Constraint)
  size_if true = size_at
  size_if false = λ ts. if has_paren ts then some_constraint ts else Ok (None, ts)

  -- between SEQUENCE and OF
  unfoldable pub of_constraint : Parser (Option Constraint)
  of_constraint = do
    has ← eat Word (codes "SIZE")
    size_if has

  -- behind SEQUENCE, where no brace comes
  unfoldable pub list_at : Option Tag → Parser Step
  list_at tag = do
    c ← of_constraint
    expect Word (codes "OF")
    pure (step.Head (record { tag = tag; constraint = c }))

  -- the constraints behind a type
  unfoldable pub finish : Option Tag → AsnBase → Parser Step
  finish tag b = do
    cs ← many has_paren constraint_at
    pure (step.Inner (typed tag b cs))

  unfoldable pub component : Parser Component
  component = do
    name ← word is_identifier
    t ← inner
    r ← rest_at
    pure (component_of name t r)

  abbrev pub none_if : Bool → Parser (List Component)
  none_if true = pure []
  none_if false = do
    cs ← listed component
    expect Mark (codes "}")
    pure cs

  -- behind the opening brace
  unfoldable pub components_at : Parser (List Component)
  components_at = do
    has_none ← eat Mark (codes "}")
    none_if has_none

  unfoldable pub alternative : Parser Alternative
  alternative = do
    name ← word is_identifier
    t ← inner
    pure (alternative_of name t)

  -- behind CHOICE
  unfoldable pub choice_at : Parser AsnBase
  choice_at = do
    expect Mark (codes "{")
    more ← listed alternative
    expect Mark (codes "}")
    pure (base.Choice more)

  abbrev pub choice_if : Bool → Parser AsnBase
  choice_if true = choice_at
  choice_if false = simple_base

  unfoldable pub base_at : Parser AsnBase
  base_at = do
    has ← eat Word (codes "CHOICE")
    choice_if has

  abbrev pub brace_if : Option Tag → Bool → Parser Step
  brace_if tag true = do
    cs ← components_at
    finish tag (base.Sequence cs)
  brace_if tag false = list_at tag

  -- behind SEQUENCE
  unfoldable pub sequence_at : Option Tag → Parser Step
  sequence_at tag = do
    has ← eat Mark (codes "{")
    brace_if tag has

  unfoldable pub other_at : Option Tag → Parser Step
  other_at tag = do
    b ← base_at
    finish tag b

  abbrev pub sequence_if : Option Tag → Bool → Parser Step
  sequence_if tag true = sequence_at tag
  sequence_if tag false = other_at tag

  -- a type, or the head of a list type
  unfoldable pub step_at : Parser Step
  step_at = do
    tag ← tag_at
    has ← eat Word (codes "SEQUENCE")
    sequence_if tag has

  abbrev pub chain_if : Parser AsnType → Step → Parser AsnType
  chain_if rest (step.Inner t) = pure t
  chain_if rest (step.Head h) = do
    t ← rest
    pure (list_type h t)

  -- heads of list types, and a type; the number bounds the turns
  abbrev pub chain : ℕ → Parser AsnType
  chain zero = refuse
  chain (suc n) = do
    s ← step_at
    chain_if (chain n) s

  -- each turn takes a token, so that the count of tokens is enough
  unfoldable pub type_in : Parser AsnType
  type_in = λ ts. chain (length ts) ts

-- a type that has at most so many braces and parentheses in one another
abbrev pub type_at : ℕ → Parser AsnType
type_at zero = refuse
type_at (suc n) = type_in (set_at n) (type_at n)
