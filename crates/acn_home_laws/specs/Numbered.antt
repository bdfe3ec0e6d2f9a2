-- A tree whose slots are numbered by paths: what it keeps of its nodes and of what was noted. (This profile's own.)
use Rattle.std.specs.Prelude.{◌≡◌, ℕ, nat_eq, Bool, true, false, ◌&&◌, ⊤, List, map}
use Rattle.std.specs.List.{AllByRecursion, list_any}
use Rattle.acn_grammar.specs.Grammar.{Grammar, Form, seq}
use Rattle.acn_grammar.specs.Tree.{is_slot, is_seq}
use Rattle.acn_grammar.specs.Walk.{Stand, Role, a_component, nodes_of, slot_here, slot_of, uses}
use Rattle.acn_grammar.specs.declared.node.Presence.{Presence}
use Rattle.acn_grammar.specs.declared.node.Presence.TheVariants.{Always, Bit, When}
use Rattle.acn_homes.specs.declared.uses.Use.{Use}
use Rattle.acn_homes.specs.Homes.{Path, same, is_among, named, Slot, slots, number, at_home}
use Rattle.acn_homes.specs.Laws.{Begins}
use Rattle.acn_home_laws.specs.Laws.{paths, goes_on}

abbrev pub is_component : Role → Bool
is_component (a_component one) = true
is_component _ = false

abbrev pub is_always : Presence → Bool
is_always Always = true
is_always Bit = false
is_always (When ts) = false

-- a component that is always there
abbrev pub always_there : Role → Bool
always_there (a_component one) = is_always one.presence
always_there _ = false

-- a node in whose size, conditions or determinant the slot stands
abbrev pub uses_slot : ℕ → Stand → Bool
uses_slot s at = list_any (nat_eq s) (map slot_of (uses at))

-- It was noted that the node at this path uses the field that has this slot.
abbrev pub is_noted : List Slot → List Use → ℕ → Path → Bool
is_noted all uses s path = list_any (λ (u : Use). same path u.user && is_slot s (number all u.field)) uses

-- a SEQUENCE lists these slots
abbrev pub Lists : List ℕ → Form → Type 0
Lists here (seq fs home) = home ≡ here
Lists here _ = ⊤

-- At a path, on the way down from another, stands a SEQUENCE; below the other it is a component that is always there.
pub record IsPassed (all : List Stand) (from path : Path) : Type 0 where
  pub sequence : list_any (λ (at : Stand). same path at.path && is_seq at.form) all ≡ true
  pub always : goes_on from path ≡ true → list_any (λ (at : Stand). same path at.path && always_there at.role) all ≡ true

-- So it is at each path from the first on, as long as the second goes on from it.
abbrev pub IsWay : List Stand → Path → Path → Type 0
IsWay all from field = (path : Path) → Begins from path → goes_on path field ≡ true → IsPassed all from path

-- There is a SEQUENCE round the user, from which a way goes down to the field.
pub record IsInReach (all : List Stand) (u : Use) : Type 0 where
  pub from : Path
  pub round_user : goes_on from u.user ≡ true
  pub round_field : goes_on from u.field ≡ true
  pub way : IsWay all from u.field

-- The slots of a tree are numbered by two lists: the paths of inserted fields, and for each use the path of the node that uses with
-- that of the field that it names.
pub record IsNumbered (root : Grammar) (fields : List Path) (noted : List Use) : Type 0 where
  -- the slot of a node is the number of its path, and it has none where this has none
  pub numbered : AllByRecursion (λ at. slot_here at.role ≡ number (slots fields noted) at.path) (nodes_of root)
  -- each field of the lists is a node, and so is each user
  pub fields_stand : (path : Path) → is_among path (named fields noted) ≡ true → is_among path (paths (nodes_of root)) ≡ true
  pub users_stand : AllByRecursion (λ (u : Use). is_among u.user (paths (nodes_of root)) ≡ true) noted
  -- no component is listed as an inserted field
  pub listed : AllByRecursion (λ at. is_component at.role ≡ true → is_among at.path fields ≡ false) (nodes_of root)
  -- a node uses a slot exactly where this was noted
  pub uses_noted : (s : ℕ) → AllByRecursion (λ at. uses_slot s at ≡ is_noted (slots fields noted) noted s at.path) (nodes_of root)
  -- each SEQUENCE lists the slots whose home it is
  pub homes : AllByRecursion (λ at. Lists (at_home (slots fields noted) at.path) at.form) (nodes_of root)
  -- each field is in reach of each of its users
  pub in_reach : AllByRecursion (IsInReach (nodes_of root)) noted
  -- no node uses the field that it is
  pub not_own : AllByRecursion (λ (u : Use). same u.user u.field ≡ false) noted
