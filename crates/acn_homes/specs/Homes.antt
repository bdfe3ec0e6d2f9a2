-- The slots of a tree that is to be made, and the SEQUENCEs in which they are at home, from paths alone: those of the inserted fields
-- that have a slot, and for each use that of the node that uses with that of the field that it names. (This profile's own.)
use Rattle.std.specs.Prelude.{ℕ, Bool, nat_eq, if◌then◌else◌, List, [], ◌∷◌, ◌++◌, map, filter, Option}
use Rattle.std.specs.List.{fold, list_any, position_from, enumerate_from}
use Rattle.std.specs.List.Sorted.{IsStrictlySortedBy}
use Rattle.std.specs.declared.cmp.Ordering.{Ordering}
use Rattle.std.specs.Ordering.{nat_cmp, match_ordering}
use Rattle.std.specs.Cmp.Lexicographic.{slice_cmp, pointwise}
use Rattle.acn_homes.specs.declared.uses.Use.{Use}

abbrev pub Path : Type 0
Path = List ℕ

-- Preorder is the order of words in a dictionary: the first step that differs decides, and a path stands before those that go on
-- from it.
abbrev pub preorder : Path → Path → Ordering
preorder = slice_cmp nat_cmp

-- paths in preorder, each once
abbrev pub Rises : List Path → Type 0
Rises = IsStrictlySortedBy preorder

abbrev pub same : Path → Path → Bool
same = pointwise nat_eq

abbrev pub is_among : Path → List Path → Bool
is_among p = list_any (same p)

-- with one path more, at its place in preorder, unless it is there
abbrev pub put : List Path → Path → List Path
put [] p = p ∷ []
put (q ∷ qs) p = match_ordering (preorder p q) (p ∷ q ∷ qs) (q ∷ qs) (q ∷ put qs p)

-- the inserted fields, and those that a use names
abbrev pub named : List Path → List Use → List Path
named inserted uses = inserted ++ map (λ (u : Use). u.field) uses

-- the fields that have a slot: each of these once, in preorder
abbrev pub fields : List Path → List Use → List Path
fields inserted uses = fold put [] (named inserted uses)

-- the path of the node above
abbrev pub above : Path → Path
above [] = []
above (a ∷ []) = []
above (a ∷ b ∷ p) = a ∷ above (b ∷ p)

-- the steps with which both begin
abbrev pub shared : Path → Path → Path
shared (a ∷ p) (b ∷ q) = if nat_eq a b then a ∷ shared p q else []
shared (a ∷ p) [] = []
shared [] q = []

-- the nodes that use a field
abbrev pub users : List Use → Path → List Path
users uses field = map (λ (u : Use). u.user) (filter (λ (u : Use). same field u.field) uses)

-- the smallest SEQUENCE round a field and all its users
abbrev pub home : List Use → Path → Path
home uses field = fold shared (above field) (map above (users uses field))

pub record Slot : Type 0 where
  pub field : Path
  pub home : Path

abbrev pub slot_of : List Use → Path → Slot
slot_of uses field = record { field = field; home = home uses field }

-- the slots; the number of a slot is its place among them, from 0
abbrev pub slots : List Path → List Use → List Slot
slots inserted uses = map (slot_of uses) (fields inserted uses)

-- the number of the slot whose field has this path
abbrev pub number : List Slot → Path → Option ℕ
number all path = position_from (λ (s : Slot). same s.field path) 0 all

-- the numbers of the slots at home in the SEQUENCE at this path
abbrev pub at_home : List Slot → Path → List ℕ
at_home all path = map (λ s. s.0) (filter (λ (s : ℕ × Slot). same path s.1.home) (enumerate_from 0 all))
