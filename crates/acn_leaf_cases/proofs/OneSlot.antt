-- A table of one slot.
use Rattle.std.proofs.Common.{◌≡◌, ℕ, suc, ◌+◌, List, [], ◌∷◌, Option, Some, Result, Ok, Err, OnOk, OnErr, true, false, length, refl, ap, sym, ◌∙◌, arith}
use Rattle.acn_bits.specs.Overwrite.{Gap}
use Rattle.acn_grammar.specs.Asks.{Ask}
use Rattle.acn_fill.specs.Table.{OneMore, Table, begun, frames, gap_at, has_spot, place}
use Rattle.acn_fill.specs.declared.spot.Spot.{Spot}

has_one : (spots : List Spot) → frames spots ≡ 0 ∷ [] → has_spot 0 spots ≡ true
has_one [] e = cc
has_one (s ∷ ss) e = cc

at_front : (spots : List Spot) → frames spots ≡ 0 ∷ [] → place 0 spots ≡ 0
at_front [] e = cc
at_front (s ∷ ss) e = cc

no_more : (spots fewer : List Spot) → frames spots ≡ 0 ∷ [] → length fewer + 1 ≡ length spots → fewer ≡ []
no_more [] fewer e few = cc
no_more (s ∷ []) [] e few = refl
no_more (s ∷ []) (f ∷ fs) e few = absurd (omega (arith, few))
no_more (s ∷ t ∷ ts) fewer e few = cc

pub one_begun : (t : Table) → frames t.spots ≡ 0 ∷ [] → begun t 0 ≡ true
one_begun t e = has_one t.spots e

pub one_gap : (t : Table) (g : Option Gap) → frames t.spots ≡ 0 ∷ [] → t.gaps ≡ g ∷ [] → gap_at t 0 ≡ Some g
one_gap t g e h = rw (at_front t.spots e, h) refl

-- the slot has the hole that it was begun with, and gives it back
pub hole_there : (t : Table) (g : Gap) → frames t.spots ≡ 0 ∷ [] → t.gaps ≡ Some g ∷ [] → (gap : Gap) × (gap_at t 0 ≡ Some (Some gap))
hole_there t g e h = (g, one_gap t (Some g) e h)

one_hole : (g h : Gap) → Some (Some g) ≡ Some (Some h) → h ≡ g
one_hole g h e = cc

pub same_hole : (t : Table) (g h : Gap) → frames t.spots ≡ 0 ∷ [] → t.gaps ≡ Some g ∷ [] → gap_at t 0 ≡ Some (Some h) → h ≡ g
same_hole t g h e at found = one_hole g h (sym (one_gap t (Some g) e at) ∙ found)

pub none_begun : (old new : Table) → frames old.spots ≡ 0 ∷ [] → length new.spots + 1 ≡ length old.spots → (slot : ℕ) → begun new slot ≡ false
none_begun old new e few slot = ap (has_spot slot) (no_more old.spots new.spots e few)

pub same_slots : {T E : Type 0} (r : Result T E) (a : Ask) (old new : Table) → OnOk r (OneMore 0 a old new) → OnErr r (new ≡ old) → frames new.spots ≡ frames old.spots
same_slots (Ok x) a old new more same = more.holes.slots
same_slots (Err x) a old new more same = ap (λ (t : Table). frames t.spots) same

pub same_holes : {T E : Type 0} (r : Result T E) (a : Ask) (old new : Table) → OnOk r (OneMore 0 a old new) → OnErr r (new ≡ old) → new.gaps ≡ old.gaps
same_holes (Ok x) a old new more same = more.holes.gaps
same_holes (Err x) a old new more same = ap (λ (t : Table). t.gaps) same
