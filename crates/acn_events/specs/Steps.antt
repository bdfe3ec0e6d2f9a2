-- How each event takes one state to the next, or halts in it. (This profile's own.)
use Rattle.std.specs.Prelude.{◌≡◌, ℕ, ◌+◌, ◌-◌, ◌*◌, ◌^◌, ◌<◌, ◌≤◌, ℤ, pos, Bool, true, false, List, [], ◌∷◌, ◌++◌, length, replicate, remove, Option, Some, None, nat_eq, ◌⊎◌}
use Rattle.acn_num.specs.Bits.{low_bits}
use Rattle.acn_num.specs.Ranges.{has}
use Rattle.acn_num.specs.declared.limits.TheConstants.{MOST_STEPS}
use Rattle.acn_bits.specs.Overwrite.{Gap, overwritten}
use Rattle.acn_bits.specs.declared.word.TheConstants.{WORD_BITS}
use Rattle.acn_fill.specs.Table.{Table, Keeps, OneMore, Refuses, SameAt, SameSpot, AllBegun, TooMany, begun, gap_at, place}
use Rattle.acn_fill.specs.declared.spot.TheConstants.{MOST_AVOIDED}
use Rattle.acn_grammar.specs.Asks.{Ask, Equal, Avoid}
use Rattle.acn_grammar.specs.AsksOn.{LeastAnswer}
use Rattle.acn_grammar.specs.Code.{Code, Written}
use Rattle.acn_grammar.specs.Interval.{width_of}
use Rattle.acn_grammar.specs.Length.{num_length, padding, rule_width, text_length}
use Rattle.acn_grammar.specs.Meets.{text_breach}
use Rattle.acn_grammar.specs.declared.node.NumLeaf.{NumLeaf}
use Rattle.acn_grammar.specs.declared.node.SizeRule.{SizeRule}
use Rattle.acn_grammar.specs.declared.node.SizeRule.TheVariants.{Prefix, Slot, Ended}
use Rattle.acn_text.specs.Steps.{size_bits}
use Rattle.acn_text.specs.Texts.{TextCode, given_size}
use Rattle.acn_events.specs.Event.{Event, Frame, State, Halt, aligns, copies, begins, puts, sizes, codes, texts, opens, notes, wants, fills, enters, closes, breaks, unmet, miscounts, full, lost, position, octets_in, leaf_of, leaves_without}

-- Next states.

-- bits are put at the next place
abbrev pub put : List Bool → State → State
put bs m = record { buf = overwritten m.buf m.place bs; place = m.place + length bs; table = m.table; leaves = m.leaves; contents = m.contents }

abbrev pub with_table : Table → State → State
with_table t m = record { buf = m.buf; place = m.place; table = t; leaves = m.leaves; contents = m.contents }

-- so many bits are left for the number of a slot, with this table
abbrev pub opened : (width s : ℕ) → NumLeaf → Table → State → State
opened w s leaf t m =
    record { buf = overwritten m.buf m.place (replicate w false); place = m.place + w; table = t; leaves = (s, leaf) ∷ m.leaves; contents = m.contents }

-- the hole of a slot is filled with bits
abbrev pub filled_in : (s : ℕ) → Gap → List Bool → Table → State → State
filled_in s g cs t m = record { buf = overwritten m.buf g.place cs; place = m.place; table = t; leaves = leaves_without s m.leaves; contents = m.contents }

abbrev pub entered : SizeRule → State → State
entered (Prefix low width) m =
    record {
      buf = overwritten m.buf m.place (replicate width false);
      place = m.place + width;
      table = m.table;
      leaves = m.leaves;
      contents = record { base = m.place + width; gap = Some (record { place = m.place; width = width }) } ∷ m.contents;
    }
entered _ m = record { buf = m.buf; place = m.place; table = m.table; leaves = m.leaves; contents = record { base = m.place; gap = None } ∷ m.contents }

abbrev pub tail_of : List Frame → List Frame
tail_of [] = []
tail_of (f ∷ fs) = fs

-- the contents are ended, with this table
abbrev pub left : Table → State → State
left t m = record { buf = m.buf; place = m.place; table = t; leaves = m.leaves; contents = tail_of m.contents }

-- and bits are filled in where their size stands in front
abbrev pub sized : Gap → List Bool → State → State
sized g cs m = record { buf = overwritten m.buf g.place cs; place = m.place; table = m.table; leaves = m.leaves; contents = tail_of m.contents }

-- Tables.

-- a slot is begun, with a hole or with none
pub record IsBegun (s : ℕ) (gap : Option Gap) (old new : Table) : Type 0 where
  pub others : (t : ℕ) → nat_eq t s ≡ false → SameAt t old new
  pub holes : new.gaps ≡ old.gaps ++ gap ∷ []
  pub is_begun : begun new s ≡ true
  pub own : gap_at new s ≡ Some gap
  pub rest : (t : ℕ) → nat_eq t s ≡ false → SameSpot t old new

-- a slot is ended
pub record Ends (s : ℕ) (old new : Table) : Type 0 where
  pub ended : begun new s ≡ false
  pub others : (t : ℕ) → nat_eq t s ≡ false → SameAt t old new
  pub rest : (t : ℕ) → nat_eq t s ≡ false → SameSpot t old new
  pub gaps : new.gaps ≡ remove old.gaps (place s old.spots)

-- What has to hold where an event comes, else it is lost.

abbrev pub Room : ℕ → State → Type 0
Room n m = m.place + n ≤ length m.buf

-- a size that stands in front has its bits
abbrev pub SizeFits : SizeRule → ℕ → Type 0
SizeFits (Prefix low width) n = (low ≤ n) × (width ≤ WORD_BITS) × (n - low < 2 ^ width)
SizeFits _ n = Unit {0}

-- the hole of a slot can be filled with the least number that meets what was asked of it
pub record HoleFits (s : ℕ) (g : Gap) (m : State) : Type 0 where
  pub leaf : NumLeaf
  pub of_slot : leaf_of s m.leaves ≡ Some leaf
  pub width : width_of leaf ≡ Some g.width
  pub passed : g.place + g.width ≤ m.place
  pub wanted : List Ask
  pub keeps : Keeps leaf.set wanted m.table s

abbrev pub GapFits : (s : ℕ) → Option (Option Gap) → State → Type 0
GapFits s None m = ⊥
GapFits s (Some None) m = Unit {0}
GapFits s (Some (Some g)) m = HoleFits s g m

abbrev pub CanEnter : SizeRule → State → Type 0
CanEnter (Prefix low width) m = (width ≤ WORD_BITS) × Room width m
CanEnter (Slot s) m = Unit {0}
CanEnter (Ended p) m = ⊥

-- the size of contents stands in front in their hole, or is a slot's that is begun
abbrev pub CanClose : SizeRule → (n : ℕ) → (allowed : Bool) → List Frame → State → Type 0
CanClose (Prefix low width) n allowed [] m = ⊥
CanClose (Prefix low width) n allowed (f ∷ fs) m = (g : Gap) × (f.gap ≡ Some g) × (g.width ≡ width) × (g.place + g.width ≤ m.place) × (allowed ≡ true → SizeFits (Prefix low width) n)
CanClose (Slot s) n allowed [] m = ⊥
CanClose (Slot s) n allowed (f ∷ fs) m = (f.gap ≡ None) × (begun m.table s ≡ true)
CanClose (Ended p) n allowed fs m = ⊥

abbrev pub Can : Event → State → Type 0
Can (aligns align) m = (0 < align) × Room (padding align (position m)) m
Can (copies bs) m = Room (length bs) m
Can (begins homes bs) m = Room (length bs) m
Can (puts width n) m = (width ≤ WORD_BITS) × (n < 2 ^ width) × Room width m
Can (sizes sizing n) m = (has sizing.sizes (pos n) ≡ true → SizeFits sizing.rule n) × Room (rule_width sizing.rule) m
Can (codes leaf x) m = Room (num_length leaf x) m
Can (texts leaf cs) m = Room (text_length leaf.ended leaf (length cs)) m
Can (opens s leaf) m = (begun m.table s ≡ false) × (w : ℕ) × (width_of leaf ≡ Some w) × (w ≤ WORD_BITS) × Room w m
Can (notes path s set x) m = begun m.table s ≡ false
Can (wants path s a) m = begun m.table s ≡ true
Can (fills s) m = (begun m.table s ≡ true) × GapFits s (gap_at m.table s) m
Can (enters rule) m = (length m.contents < MOST_STEPS) × CanEnter rule m
Can (closes path sizing n) m = CanClose sizing.rule (octets_in m) (has sizing.sizes (pos (octets_in m))) m.contents m

-- What an event does.

abbrev pub PutsSome : (List Bool → Type 0) → (m n : State) → Type 0
PutsSome Says m n = (bs : List Bool) × Says bs × (n ≡ put bs m)

-- a hole of so many bits is left, and nothing is asked of its slot yet
pub record Opens (s : ℕ) (leaf : NumLeaf) (m n : State) : Type 0 where
  pub width : ℕ
  pub is_width : width_of leaf ≡ Some width
  pub keeps : Keeps leaf.set [] n.table s
  pub begun_so : IsBegun s (Some (record { place = m.place; width = width })) m.table n.table
  pub next : n ≡ opened width s leaf n.table m

pub record Notes (s : ℕ) (set : List (ℤ × ℤ)) (x : ℤ) (m n : State) : Type 0 where
  pub permitted : has set x ≡ true
  pub keeps : Keeps set (Equal x ∷ []) n.table s
  pub begun_so : IsBegun s None m.table n.table
  pub next : n ≡ with_table n.table m

pub record Wants (s : ℕ) (a : Ask) (m n : State) : Type 0 where
  pub more : OneMore s a m.table n.table
  pub next : n ≡ with_table n.table m

-- the code of the least number that meets what was asked stands in the hole
pub record FillsHole (s : ℕ) (g : Gap) (m n : State) : Type 0 where
  pub leaf : NumLeaf
  pub of_slot : leaf_of s m.leaves ≡ Some leaf
  pub number : ℤ
  pub least : (set : List (ℤ × ℤ)) (wanted : List Ask) → Keeps set wanted m.table s → LeastAnswer set wanted number
  pub code : List Bool
  pub codes : Code Written leaf number code
  pub next : n ≡ filled_in s g code n.table m

abbrev pub FillsGap : (s : ℕ) → Option (Option Gap) → (m n : State) → Type 0
FillsGap s None m n = ⊥
FillsGap s (Some None) m n = n ≡ with_table n.table m
FillsGap s (Some (Some g)) m n = FillsHole s g m n

abbrev pub gap_of : List Frame → Option Gap
gap_of [] = None
gap_of (f ∷ fs) = f.gap

abbrev pub Closes : SizeRule → (n : ℕ) → Option Gap → (m m' : State) → Type 0
Closes (Prefix low width) n None m m' = ⊥
Closes (Prefix low width) n (Some g) m m' = m' ≡ sized g (low_bits width (n - low)) m
Closes (Slot s) n g m m' = OneMore s (Equal (pos n)) m.table m'.table × (m' ≡ left m'.table m)
Closes (Ended p) n g m m' = ⊥

abbrev pub Does : Event → (m n : State) → Type 0
Does (aligns align) m n = n ≡ put (replicate (padding align (position m)) false) m
Does (copies bs) m n = n ≡ put bs m
Does (begins homes bs) m n = n ≡ put bs m
Does (puts width k) m n = n ≡ put (low_bits width k) m
Does (sizes sizing k) m n = (has sizing.sizes (pos k) ≡ true) × (n ≡ put (size_bits sizing.rule k) m)
Does (codes leaf x) m n = PutsSome (Code Written leaf x) m n
Does (texts leaf cs) m n = (text_breach leaf cs ≡ []) × PutsSome (TextCode leaf (given_size leaf.sized.rule (length cs)) cs) m n
Does (opens s leaf) m n = Opens s leaf m n
Does (notes path s set x) m n = Notes s set x m n
Does (wants path s a) m n = Wants s a m n
Does (fills s) m n = Ends s m.table n.table × FillsGap s (gap_at m.table s) m n
Does (enters rule) m n = n ≡ entered rule m
Does (closes path sizing k) m n = (has sizing.sizes (pos (octets_in m)) ≡ true) × Closes sizing.rule (octets_in m) (gap_of m.contents) m n

pub record Step (e : Event) (m n : State) : Type 0 where
  pub can : Can e m
  pub does : Does e m n

-- the events take one state to the other
abbrev pub Run : List Event → (m n : State) → Type 0
Run [] m n = n ≡ m
Run (e ∷ es) m n = (next : State) × Step e m next × Run es next n

-- Halts.

-- how many slots a table has room for, as many as contents have, and how many numbers to avoid
pub record Class : Type 0 where
  pub slots : ℕ
  pub avoided : ℕ

abbrev pub Avoids : Class → (s : ℕ) → Ask → State → Type 0
Avoids c s (Equal n) m = ⊥
Avoids c s (Avoid k) m = MOST_AVOIDED * c.slots ≤ c.avoided → (set : List (ℤ × ℤ)) (wanted : List Ask) → Keeps set wanted m.table s → TooMany wanted k

-- a slot is asked what can't be met
pub record AsksInVain (s : ℕ) (a : Ask) (m : State) (earlier : Option Ask) : Type 0 where
  pub is_begun : begun m.table s ≡ true
  pub refuses : Refuses s a m.table earlier

abbrev pub ClosesInVain : SizeRule → (n : ℕ) → (allowed : Bool) → State → (s : ℕ) → (earlier : Option Ask) → (wanted : Ask) → Type 0
ClosesInVain (Slot t) n allowed m s earlier wanted = (s ≡ t) × (wanted ≡ Equal (pos n)) × (allowed ≡ true) × AsksInVain t (Equal (pos n)) m earlier
ClosesInVain _ n allowed m s earlier wanted = ⊥

-- a constraint isn't met
abbrev pub Breaks : Event → Type 0
Breaks (sizes sizing n) = has sizing.sizes (pos n) ≡ false
Breaks (codes leaf x) = has leaf.set x ≡ false
Breaks (texts leaf cs) = text_breach leaf cs ≡ [] → ⊥
Breaks (notes path s set x) = has set x ≡ false
Breaks _ = ⊥

-- an ask can't be met
abbrev pub Unmeets : Event → State → (path : List ℕ) → (slot : ℕ) → (earlier : Option Ask) → (wanted : Ask) → Type 0
Unmeets (wants path s a) m at t earlier wanted = (at ≡ path) × (t ≡ s) × (wanted ≡ a) × AsksInVain s a m earlier
Unmeets (closes path sizing n) m at t earlier wanted = (at ≡ path) × ClosesInVain sizing.rule (octets_in m) (has sizing.sizes (pos (octets_in m))) m t earlier wanted
Unmeets _ m at t earlier wanted = ⊥

-- contents have no permitted size
abbrev pub Miscounts : Event → State → (path : List ℕ) → (octets : ℕ) → Type 0
Miscounts (closes path sizing n) m at k = (at ≡ path) × (k ≡ octets_in m) × (has sizing.sizes (pos k) ≡ false)
Miscounts _ m at k = ⊥

-- the table is full, or as many contents are begun as there is room for
abbrev pub Overflows : Class → Event → State → Type 0
Overflows c (opens s leaf) m = AllBegun c.slots m.table
Overflows c (notes path s set x) m = AllBegun c.slots m.table
Overflows c (wants path s a) m = Avoids c s a m
Overflows c (enters rule) m = c.slots ≤ length m.contents
Overflows c _ m = ⊥

module _ (c : Class) where
  -- the event doesn't come to pass, for this reason
  abbrev pub Halts : Event → State → Halt → Type 0
  Halts e m breaks = Breaks e
  Halts e m (unmet path s earlier wanted) = Unmeets e m path s earlier wanted
  Halts e m (miscounts path k) = Miscounts e m path k
  Halts e m full = Overflows c e m
  Halts e m lost = Can e m → ⊥

  -- the events run up to one that halts in the other state
  abbrev pub Stops : List Event → (m n : State) → Halt → Type 0
  Stops [] m n h = ⊥
  Stops (e ∷ es) m n h = ((n ≡ m) × Halts e m h) ⊎ ((next : State) × Step e m next × Stops es next n h)
