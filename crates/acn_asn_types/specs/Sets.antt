-- What the parser of sets answers, step by step.
use Rattle.std.specs.Prelude.{ℕ, zero, suc, Bool, true, false, ◌||◌, if◌then◌else◌, List, Option, Some, None, codes}
use Rattle.acn_lex.specs.declared.Kind.TheVariants.{Word, Mark}
use Rattle.acn_lex.specs.Lexeme.{Lexeme}
use Rattle.acn_cursor.specs.Steps.{Parser, ◌>>=◌, ◌>>◌, pure, refuse, eat, expect, sees, many}
use Rattle.acn_asn_syntax.specs.declared.values.AsnValue.{AsnValue}
use Rattle.acn_asn_syntax.specs.declared.sets.Element.{Element}
use Rattle.acn_asn_syntax.specs.declared.sets.Element.TheVariants as element
use Rattle.acn_asn_syntax.specs.declared.sets.Set.{Set}
use Rattle.acn_asn_syntax.specs.declared.sets.Set.TheVariants as set
use Rattle.acn_asn_syntax.specs.declared.sets.Meet.{Meet, roll-Meet}
use Rattle.acn_asn_syntax.specs.declared.sets.Part.{Part, roll-Part}
use Rattle.acn_asn_types.specs.Values.{value_at}

-- ---- values and ranges

abbrev pub end_if : Bool → Parser (Option AsnValue)
end_if true = pure None
end_if false = do
  v ← value_at
  pure (Some v)

unfoldable pub end : List ℕ → Parser (Option AsnValue)
end text = do
  is_none ← eat Word text
  end_if is_none

unfoldable pub range_from : Option AsnValue → Bool → Parser Element
range_from low low_out = do
  high_out ← eat Mark (codes "<")
  high ← end (codes "MAX")
  pure (element.Range (record { low = low; low_out = low_out; high = high; high_out = high_out }))

abbrev pub plain_if : Option AsnValue → Bool → Bool → Parser Element
plain_if low low_out true = range_from low low_out
plain_if (Some v) false false = pure (element.Value v)
plain_if (Some v) true false = refuse
plain_if None low_out false = refuse

unfoldable pub plain : Parser Element
plain = do
  low ← end (codes "MIN")
  low_out ← eat Mark (codes "<")
  dots ← eat Mark (codes "..")
  plain_if low low_out dots

-- ---- sets, over a parser of those in parentheses

-- the mark between two parts, and whether it is a word
abbrev pub mark_if : List ℕ → Bool → Parser Bool
mark_if sign true = pure true
mark_if sign false = do
  expect Mark sign
  pure false

unfoldable pub mark_at : List ℕ → List ℕ → Parser Bool
mark_at sign written = do
  is_word ← eat Word written
  mark_if sign is_word

abbrev pub has_mark : List ℕ → List ℕ → List Lexeme → Bool
has_mark sign written ts = sees Word written ts || sees Mark sign ts

unfoldable pub part_mark : Parser Bool
part_mark = mark_at (codes "^") (codes "INTERSECTION")

unfoldable pub has_part_mark : List Lexeme → Bool
has_part_mark = has_mark (codes "^") (codes "INTERSECTION")

unfoldable pub meet_mark : Parser Bool
meet_mark = mark_at (codes "|") (codes "UNION")

unfoldable pub has_meet_mark : List Lexeme → Bool
has_meet_mark = has_mark (codes "|") (codes "UNION")

module _ (inner : Parser Set) where
  unfoldable pub group : Parser Set
  group = do
    expect Mark (codes "(")
    s ← inner
    expect Mark (codes ")")
    pure s

  unfoldable pub inner_at : Parser Element
  inner_at = do
    s ← group
    pure (element.Inner s)

  abbrev pub from_if : Bool → Parser Element
  from_if true = do
    s ← group
    pure (element.From s)
  from_if false = λ ts. if sees Mark (codes "(") ts then inner_at ts else plain ts

  abbrev pub size_if : Bool → Parser Element
  size_if true = do
    s ← group
    pure (element.SizeOf s)
  size_if false = do
    is_from ← eat Word (codes "FROM")
    from_if is_from

  unfoldable pub element_at : Parser Element
  element_at = do
    is_size ← eat Word (codes "SIZE")
    size_if is_size

  abbrev pub but_if : Bool → Parser (Option Element)
  but_if true = do
    e ← element_at
    pure (Some e)
  but_if false = pure None

  unfoldable pub but_at : Parser (Option Element)
  but_at = do
    has_but ← eat Word (codes "EXCEPT")
    but_if has_but

  unfoldable pub part : Parser Part
  part = do
    e ← element_at
    but ← but_at
    pure (roll-Part (record { element = e; but = but }))

  unfoldable pub next_part : Parser (Bool × Part)
  next_part = do
    is_word ← part_mark
    p ← part
    pure (is_word, p)

  unfoldable pub meet : Parser Meet
  meet = do
    first ← part
    more ← many has_part_mark next_part
    pure (roll-Meet (record { first = first; more = more }))

  unfoldable pub next_meet : Parser (Bool × Meet)
  next_meet = do
    is_word ← meet_mark
    m ← meet
    pure (is_word, m)

  unfoldable pub union : Parser Set
  union = do
    first ← meet
    more ← many has_meet_mark next_meet
    pure (set.Union first more)

  unfoldable pub all_except : Parser Set
  all_except = do
    expect Word (codes "EXCEPT")
    e ← element_at
    pure (set.AllExcept e)

  abbrev pub all_if : Bool → Parser Set
  all_if true = all_except
  all_if false = union

  unfoldable pub set_in : Parser Set
  set_in = do
    is_all ← eat Word (codes "ALL")
    all_if is_all

-- a set that has at most so many sets in one another
abbrev pub set_at : ℕ → Parser Set
set_at zero = refuse
set_at (suc n) = set_in (set_at n)
