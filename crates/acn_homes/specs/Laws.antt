-- What follows from the definitions of slots and homes alone.
use Rattle.std.specs.Prelude.{ℕ, ◌≡◌, ◌+◌, ◌<◌, ◌≤◌, Bool, true, is_some, nat_eq, List, ◌++◌, length, get_or, filter, filter_map, Some}
use Rattle.std.specs.List.{list_any, range_with_len, AllByRecursion}
use Rattle.std.specs.List.Sorted.{IsStrictlySortedBy}
use Rattle.std.specs.Ordering.{nat_cmp}
use Rattle.acn_homes.specs.declared.uses.Use.{Use}
use Rattle.acn_homes.specs.Homes.{Path, Rises, same, is_among, named, above, users, home, Slot, slot_of, slots, number, at_home}

-- Where nodes are listed in preorder and each field that is inserted or named is one of them, the numbers that the nodes have are
-- all numbers of slots from 0, in order.
abbrev pub NumbersFollowPreorder : Type 0
NumbersFollowPreorder = (inserted : List Path) (uses : List Use) (nodes : List Path) → Rises nodes → ((p : Path) → is_among p (named inserted uses) ≡ true → is_among p nodes ≡ true)
    → filter_map (number (slots inserted uses)) nodes ≡ range_with_len 0 (length (slots inserted uses))

-- There are no more slots than nodes.
abbrev pub SlotsAreNodes : Type 0
SlotsAreNodes = (inserted : List Path) (uses : List Use) (nodes : List Path) → Rises nodes → ((p : Path) → is_among p (named inserted uses) ≡ true → is_among p nodes ≡ true)
    → length (slots inserted uses) ≤ length nodes

-- There are no more slots than paths in the two lists.
abbrev pub SlotsAreNamed : Type 0
SlotsAreNamed = (inserted : List Path) (uses : List Use) → length (slots inserted uses) ≤ length inserted + length uses

-- Exactly the fields that are inserted or named have a number.
abbrev pub NamedFieldsAreNumbered : Type 0
NamedFieldsAreNumbered = (inserted : List Path) (uses : List Use) (p : Path) → is_some (number (slots inserted uses) p) ≡ is_among p (named inserted uses)

-- A number tells its slot: the one at this place has the field, and its home.
abbrev pub NumbersTellSlots : Type 0
NumbersTellSlots = (inserted : List Path) (uses : List Use) (p : Path) (k : ℕ) (d : Slot) → number (slots inserted uses) p ≡ Some k
    → (k < length (slots inserted uses)) × (get_or (slots inserted uses) k d ≡ slot_of uses p)

-- the first path is a front of the second
abbrev pub Begins : Path → Path → Type 0
Begins q p = (rest : Path) × (p ≡ q ++ rest)

-- round the field and all its users, and no longer path is
pub record IsSmallest (field : Path) (users : List Path) (home : Path) : Type 0 where
  pub round_field : Begins home (above field)
  pub round_users : AllByRecursion (λ user. Begins home (above user)) users
  pub smallest : (q : Path) → Begins q (above field) → AllByRecursion (λ user. Begins q (above user)) users → Begins q home

abbrev pub HomesAreSmallest : Type 0
HomesAreSmallest = (uses : List Use) (field : Path) → IsSmallest field (users uses field) (home uses field)

-- The numbers at home at a path are, in order, those of the slots whose home it is, by whichever test tells it.
abbrev pub HomesListTheirSlots : Type 0
HomesListTheirSlots = (all : List Slot) (path : Path) (test : ℕ → Bool) → ((k : ℕ) (d : Slot) → k < length all → test k ≡ same path (get_or all k d).home)
    → at_home all path ≡ filter test (range_with_len 0 (length all))

-- Each slot is at home at one path alone: its home.
abbrev pub EachIsAtHomeOnce : Type 0
EachIsAtHomeOnce = (all : List Slot) (k : ℕ) (d : Slot) → k < length all → (path : Path) → list_any (nat_eq k) (at_home all path) ≡ same path (get_or all k d).home

-- Of the numbers at home at a path each is below all behind it.
abbrev pub NumbersAtHomeAscend : Type 0
NumbersAtHomeAscend = (all : List Slot) (path : Path) → IsStrictlySortedBy nat_cmp (at_home all path)
