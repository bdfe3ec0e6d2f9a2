-- The table of open slots, and what it keeps of what was asked of each. (This profile's own.)
use Rattle.std.specs.Prelude.{◌≡◌, ℕ, suc, ◌-◌, ◌<◌, ◌≤◌, length, ℤ, Bool, true, false, not, ◌||◌, nat_eq, if◌then◌else◌, List, [], ◌∷◌, ◌++◌, filter, Option, Some, None, slice_get, is_some, option_map}
use Rattle.acn_bits.specs.Overwrite.{Gap}
use Rattle.acn_num.specs.Ranges.{among}
use Rattle.acn_grammar.specs.Asks.{Ask, Avoid}
use Rattle.acn_grammar.specs.Refused.{IsAsked}
use Rattle.acn_grammar.specs.Tree.{holds}
use Rattle.acn_asks.specs.Kept.{KeepsNumbers, Contradicted}
use Rattle.acn_fill.specs.declared.spot.Spot.{Spot}
use Rattle.acn_fill.specs.declared.spot.TheConstants.{MOST_AVOIDED}
use denote.Bor.{Bor}

-- The spots, the hole of each, and the numbers to avoid, each with its slot.
pub record Table : Type 0 where
  pub spots : List Spot
  pub gaps : List (Option Gap)
  pub avoided : List (ℕ × ℤ)

abbrev pub has_spot : ℕ → List Spot → Bool
has_spot s [] = false
has_spot s (e ∷ es) = nat_eq e.slot s || has_spot s es

-- the place of the slot
abbrev pub place : ℕ → List Spot → ℕ
place s [] = 0
place s (e ∷ es) = if nat_eq e.slot s then 0 else suc (place s es)

abbrev pub spot_of : ℕ → List Spot → Option Spot
spot_of s [] = None
spot_of s (e ∷ es) = if nat_eq e.slot s then Some e else spot_of s es

-- the slot that was begun last
abbrev pub last_slot : List Spot → Option ℕ
last_slot es = option_map (λ e. e.slot) (slice_get es (length es - 1))

-- the table without the slot
abbrev pub without : ℕ → List Spot → List Spot
without s [] = []
without s (e ∷ es) = if nat_eq e.slot s then es else e ∷ without s es

-- the numbers to avoid on a slot
abbrev pub avoided_on : ℕ → List (ℕ × ℤ) → List ℤ
avoided_on s [] = []
avoided_on s (e ∷ es) = if nat_eq e.0 s then e.1 ∷ avoided_on s es else avoided_on s es

abbrev pub purged : ℕ → List (ℕ × ℤ) → List (ℕ × ℤ)
purged s pool = filter (λ e. not (nat_eq e.0 s)) pool

-- the numbers that a spot permits, none where it has its own number
abbrev pub set_of : Option (Bor (List (ℤ × ℤ))) → List (ℤ × ℤ)
set_of None = []
set_of (Some set) = set.now

-- the set of a spot, and a slot with its own number, which is fixed
abbrev pub Permits : Option (Bor (List (ℤ × ℤ))) → Bool → List (ℤ × ℤ) → Type 0
Permits None fixed set = fixed ≡ true
Permits (Some own) fixed set = own.now ≡ set

-- these asks are kept in a spot, of a slot with these numbers
pub record KeepsIn (set : List (ℤ × ℤ)) (wanted : List Ask) (e : Spot) (avoided : List ℤ) : Type 0 where
  pub permits : Permits e.set e.fixed set
  pub keeps : KeepsNumbers set wanted e.fixed e.least avoided

abbrev pub KeepsSpot : (set : List (ℤ × ℤ)) → (wanted : List Ask) → Option Spot → List ℤ → Type 0
KeepsSpot set wanted None avoided = ⊥
KeepsSpot set wanted (Some e) avoided = KeepsIn set wanted e avoided

-- These asks are kept of the slot, which is begun and has these numbers: some number meets them all.
abbrev pub Keeps : (set : List (ℤ × ℤ)) → (wanted : List Ask) → Table → ℕ → Type 0
Keeps set wanted t s = KeepsSpot set wanted (spot_of s t.spots) (avoided_on s t.avoided)

abbrev pub begun : Table → ℕ → Bool
begun t s = has_spot s t.spots

-- the hole of the slot
abbrev pub gap_at : Table → ℕ → Option (Option Gap)
gap_at t s = slice_get t.gaps (place s t.spots)

-- all that is kept of the slot is the same, and its hole
pub record SameAt (s : ℕ) (old new : Table) : Type 0 where
  pub spot : spot_of s new.spots ≡ spot_of s old.spots
  pub avoided : avoided_on s new.avoided ≡ avoided_on s old.avoided

-- the slot is begun as before, and with the same hole
pub record SameSpot (s : ℕ) (old new : Table) : Type 0 where
  pub begun_as : begun new s ≡ begun old s
  pub gap_as : begun old s ≡ true → gap_at new s ≡ gap_at old s

-- the slots and their holes are the same
abbrev pub frames : List Spot → List ℕ
frames [] = []
frames (e ∷ es) = e.slot ∷ frames es

pub record SameHoles (old new : Table) : Type 0 where
  pub slots : frames new.spots ≡ frames old.spots
  pub gaps : new.gaps ≡ old.gaps

-- One ask more of a slot, behind those that were asked before.
pub record OneMore (s : ℕ) (wanted : Ask) (old new : Table) : Type 0 where
  pub kept : (set : List (ℤ × ℤ)) (before : List Ask) → Keeps set before old s → Keeps set (before ++ wanted ∷ []) new s
  pub others : (t : ℕ) → nat_eq t s ≡ false → SameAt t old new
  pub holes : SameHoles old new

-- why no number meets it
abbrev pub Refuses : (s : ℕ) → (wanted : Ask) → Table → (earlier : Option Ask) → Type 0
Refuses s wanted t earlier = (set : List (ℤ × ℤ)) (before : List Ask) → Keeps set before t s → Contradicted set before wanted earlier

-- each slot has one spot
abbrev pub Distinct : List Spot → Type 0
Distinct [] = Unit {0}
Distinct (e ∷ es) = (has_spot e.slot es ≡ false) × Distinct es

-- no numbers are to be avoided on a slot that has no spot
abbrev pub Clean : List Spot → List (ℕ × ℤ) → Type 0
Clean spots pool = (s : ℕ) → has_spot s spots ≡ false → avoided_on s pool ≡ []

-- no number stands twice
abbrev pub NoneTwice : List ℤ → Type 0
NoneTwice [] = Unit {0}
NoneTwice (x ∷ xs) = (among xs x ≡ false) × NoneTwice xs

-- the numbers to avoid on each slot are different, and not too many
abbrev pub AreFew : List (ℕ × ℤ) → Type 0
AreFew pool = (s : ℕ) → NoneTwice (avoided_on s pool) × (length (avoided_on s pool) ≤ MOST_AVOIDED)

-- whether one number was asked of the slot
abbrev pub is_fixed : Option Spot → Bool
is_fixed None = false
is_fixed (Some e) = e.fixed

-- There is room for a number to avoid on the slot, where `most` are kept on all slots. None is wanted where one number was
-- asked of the slot, and where this one is kept already.
abbrev pub HasRoom : (most : ℕ) → Table → (s : ℕ) → (k : ℤ) → Type 0
HasRoom most t s k = is_fixed (spot_of s t.spots) ≡ false → among (avoided_on s t.avoided) k ≡ false → (length t.avoided < most) × (length (avoided_on s t.avoided) < MOST_AVOIDED)

-- so many different numbers are to be avoided that this one more is too many
pub record TooMany (wanted : List Ask) (k : ℤ) : Type 0 where
  pub numbers : List ℤ
  pub differ : NoneTwice (k ∷ numbers)
  pub many : MOST_AVOIDED ≤ length numbers
  pub asked : (x : ℤ) → among numbers x ≡ true → IsAsked wanted (Avoid x)

-- no slot stands twice
abbrev pub NoSlotTwice : List ℕ → Type 0
NoSlotTwice [] = Unit {0}
NoSlotTwice (s ∷ ss) = (holds ss s ≡ false) × NoSlotTwice ss

-- so many slots are begun that one more is too many
pub record AllBegun (most : ℕ) (t : Table) : Type 0 where
  pub slots : List ℕ
  pub differ : NoSlotTwice slots
  pub many : most ≤ length slots
  pub begun_each : (s : ℕ) → holds slots s ≡ true → begun t s ≡ true

-- which of them have a hole
abbrev pub have_holes : List (Option Gap) → List Bool
have_holes [] = []
have_holes (g ∷ gs) = is_some g ∷ have_holes gs

-- which of them were begun with a set
abbrev pub have_sets : List Spot → List Bool
have_sets [] = []
have_sets (e ∷ es) = is_some e.set ∷ have_sets es
