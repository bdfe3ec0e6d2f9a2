-- What a table keeps of each slot, whether it is begun or not.
use Rattle.std.proofs.Common.{◌≡◌, ℕ, suc, ℤ, Bool, true, false, List, [], ◌∷◌, ◌++◌, Option, Some, nat_eq, ◌||◌, refl, sym, ap, ◌∙◌, subst, arith, append-nil}
use Rattle.std.specs.Prelude.{None, if◌then◌else◌, slice_get}
use Rattle.std.proofs.lemmas.Bool.{eqb-true}
use Rattle.std.proofs.lemmas.Int.{ints}
use Rattle.acn_grammar.specs.Asks.{Ask}
use Rattle.acn_grammar.specs.AsksOn.{on, LeastAnswer}
use Rattle.acn_bits.specs.Overwrite.{Gap}
use Rattle.acn_fill.specs.Table.{Table, Keeps, KeepsIn, KeepsSpot, OneMore, SameAt, SameHoles, has_spot, place, spot_of, avoided_on, begun, frames, gap_at}
use Rattle.acn_fill.specs.declared.spot.Spot.{Spot}
use Rattle.acn_events.proofs.Small.{truth, eq_turn}
use Rattle.acn_events.specs.Steps.{Ends}

-- nothing was asked of a slot that isn't begun
abbrev pub KeptIn : (set : List (ℤ × ℤ)) → (wanted : List Ask) → Option Spot → (avoided : List ℤ) → Type 0
KeptIn set wanted None avoided = wanted ≡ []
KeptIn set wanted (Some e) avoided = KeepsIn set wanted e avoided

abbrev pub Kept : (set : List (ℤ × ℤ)) → (wanted : List Ask) → Table → ℕ → Type 0
Kept set wanted t s = KeptIn set wanted (spot_of s t.spots) (avoided_on s t.avoided)

on_same : (s t : ℕ) (a : Ask) → nat_eq t s ≡ true → on s t a ≡ a ∷ []
on_same s t a h = ap (λ b. if b then a ∷ [] else []) h

on_other : (s t : ℕ) (a : Ask) → nat_eq t s ≡ false → on s t a ≡ []
on_other s t a h = ap (λ b. if b then a ∷ [] else []) h

-- a slot of which all is the same
pub same_kept : (set : List (ℤ × ℤ)) (wanted : List Ask) (s : ℕ) (old new : Table) → SameAt s old new → Kept set wanted old s → Kept set wanted new s
same_kept set wanted s old new same k =
    subst (λ (z : List ℤ). KeptIn set wanted (spot_of s new.spots) z) (sym same.avoided) (subst (λ (o : Option Spot). KeptIn set wanted o (avoided_on s old.avoided)) (sym same.spot) k)

begun_spot : (s : ℕ) (xs : List Spot) → has_spot s xs ≡ true → (e : Spot) × (spot_of s xs ≡ Some e)
begun_spot s [] h = cc
begun_spot s (e ∷ es) h = go (nat_eq e.slot s) h (begun_spot s es)
  where
    go : (b : Bool) → (b || has_spot s es) ≡ true → (has_spot s es ≡ true → (d : Spot) × (spot_of s es ≡ Some d)) → (d : Spot) × ((if b then Some e else spot_of s es) ≡ Some d)
    go true k f = (e, refl)
    go false k f = f k

no_spot : (s : ℕ) (xs : List Spot) → has_spot s xs ≡ false → spot_of s xs ≡ None
no_spot s [] h = refl
no_spot s (e ∷ es) h = go (nat_eq e.slot s) h (no_spot s es)
  where
    go : (b : Bool) → (b || has_spot s es) ≡ false → (has_spot s es ≡ false → spot_of s es ≡ None) → (if b then Some e else spot_of s es) ≡ None
    go true k f = cc
    go false k f = f k

-- a begun slot keeps what was asked
pub kept_keeps : (set : List (ℤ × ℤ)) (wanted : List Ask) (s : ℕ) (t : Table) → begun t s ≡ true → Kept set wanted t s → Keeps set wanted t s
kept_keeps set wanted s t b k =
    let e = begun_spot s t.spots b in
    subst (λ (o : Option Spot). KeepsSpot set wanted o (avoided_on s t.avoided)) (sym e.1) (subst (λ (o : Option Spot). KeptIn set wanted o (avoided_on s t.avoided)) e.1 k)

pub keeps_kept : (set : List (ℤ × ℤ)) (wanted : List Ask) (s : ℕ) (t : Table) → Keeps set wanted t s → Kept set wanted t s
keeps_kept set wanted s t k = by (spot_of s t.spots) k
  where
    by : (o : Option Spot) → KeepsSpot set wanted o (avoided_on s t.avoided) → KeptIn set wanted o (avoided_on s t.avoided)
    by None k = absurd k
    by (Some e) k = k

pub kept_none : (set : List (ℤ × ℤ)) (wanted : List Ask) (s : ℕ) (t : Table) → begun t s ≡ false → Kept set wanted t s → wanted ≡ []
kept_none set wanted s t b k = subst (λ (o : Option Spot). KeptIn set wanted o (avoided_on s t.avoided)) (no_spot s t.spots b) k

pub none_kept : (set : List (ℤ × ℤ)) (s : ℕ) (t : Table) → begun t s ≡ false → Kept set [] t s
none_kept set s t b = subst (λ (o : Option Spot). KeptIn set [] o (avoided_on s t.avoided)) (sym (no_spot s t.spots b)) refl

-- An ask of a begun slot.
pub kept_one : (domain : ℕ → List (ℤ × ℤ)) (t : ℕ) (a : Ask) (old new : Table) → begun old t ≡ true → OneMore t a old new → (s : ℕ) (wanted : List Ask) → Kept (domain s) wanted old s → Kept (domain s) (wanted ++ on s t a) new s
kept_one domain t a old new b m s wanted k = truth {F = Kept (domain s) (wanted ++ on s t a) new s} (nat_eq t s)
    (λ e. subst (λ (z : List Ask). Kept (domain s) (wanted ++ z) new s) (sym (on_same s t a e))
    (subst (λ (z : ℕ). Kept (domain z) wanted old z → Kept (domain z) (wanted ++ a ∷ []) new z) (eqb-true t s e)
    (λ q. keeps_kept (domain t) (wanted ++ a ∷ []) t new (m.kept (domain t) wanted (kept_keeps (domain t) wanted t old b q))) k))
    (λ n. subst (λ (z : List Ask). Kept (domain s) (wanted ++ z) new s) (sym (on_other s t a n))
    (subst (λ (z : List Ask). Kept (domain s) z new s) (sym (append-nil wanted)) (same_kept (domain s) wanted s old new (m.others s (eq_turn t s n)) k)))

-- A slot that is begun, with a first ask.
pub kept_noted : (domain : ℕ → List (ℤ × ℤ)) (t : ℕ) (a : Ask) (old new : Table) → begun old t ≡ false → Keeps (domain t) (a ∷ []) new t → ((s : ℕ) → nat_eq s t ≡ false → SameAt s old new) → (s : ℕ) (wanted : List Ask) → Kept (domain s) wanted old s → Kept (domain s) (wanted ++ on s t a) new s
kept_noted domain t a old new b k others s wanted w = truth {F = Kept (domain s) (wanted ++ on s t a) new s} (nat_eq t s)
    (λ e. subst (λ (z : List Ask). Kept (domain s) (wanted ++ z) new s) (sym (on_same s t a e))
    (subst (λ (z : ℕ). Kept (domain z) wanted old z → Kept (domain z) (wanted ++ a ∷ []) new z) (eqb-true t s e)
    (λ q. subst (λ (z : List Ask). Kept (domain t) (z ++ a ∷ []) new t) (sym (kept_none (domain t) wanted t old b q)) (keeps_kept (domain t) (a ∷ []) t new k)) w))
    (λ n. subst (λ (z : List Ask). Kept (domain s) (wanted ++ z) new s) (sym (on_other s t a n))
    (subst (λ (z : List Ask). Kept (domain s) z new s) (sym (append-nil wanted)) (same_kept (domain s) wanted s old new (others s (eq_turn t s n)) w)))

-- A slot that is begun, with none.
pub kept_opened : (domain : ℕ → List (ℤ × ℤ)) (t : ℕ) (old new : Table) → begun old t ≡ false → Keeps (domain t) [] new t → ((s : ℕ) → nat_eq s t ≡ false → SameAt s old new) → (s : ℕ) (wanted : List Ask) → Kept (domain s) wanted old s → Kept (domain s) wanted new s
kept_opened domain t old new b k others s wanted w = truth {F = Kept (domain s) wanted new s} (nat_eq t s)
    (λ e. subst (λ (z : ℕ). Kept (domain z) wanted old z → Kept (domain z) wanted new z) (eqb-true t s e)
    (λ q. subst (λ (z : List Ask). Kept (domain t) z new t) (sym (kept_none (domain t) wanted t old b q)) (keeps_kept (domain t) [] t new k)) w)
    (λ n. same_kept (domain s) wanted s old new (others s (eq_turn t s n)) w)

-- A slot that is ended.
pub kept_ended : (domain : ℕ → List (ℤ × ℤ)) (t : ℕ) (old new : Table) → Ends t old new → (s : ℕ) (wanted : List Ask) → Kept (domain s) wanted old s → Kept (domain s) (if nat_eq t s then [] else wanted) new s
kept_ended domain t old new e s wanted w = truth {F = Kept (domain s) (if nat_eq t s then [] else wanted) new s} (nat_eq t s)
    (λ y. subst (λ (z : List Ask). Kept (domain s) z new s) (sym (ap (λ b. if b then [] else wanted) y)) (none_kept (domain s) s new (ap (begun new) (sym (eqb-true t s y)) ∙ e.ended)))
    (λ n. subst (λ (z : List Ask). Kept (domain s) z new s) (sym (ap (λ b. if b then [] else wanted) n)) (same_kept (domain s) wanted s old new (e.others s (eq_turn t s n)) w))

-- The least number is one.
pub least_one : (set : List (ℤ × ℤ)) (wanted : List Ask) (x y : ℤ) → LeastAnswer set wanted x → LeastAnswer set wanted y → x ≡ y
least_one set wanted x y a b = let p = a.first y b.answers in let q = b.first x a.answers in omega (arith, ints, p, q)

-- Where the slots are the same, so are the places of their holes.

abbrev has_in : ℕ → List ℕ → Bool
has_in s [] = false
has_in s (t ∷ ts) = nat_eq t s || has_in s ts

abbrev place_in : ℕ → List ℕ → ℕ
place_in s [] = 0
place_in s (t ∷ ts) = if nat_eq t s then 0 else suc (place_in s ts)

has_frames : (s : ℕ) (xs : List Spot) → has_spot s xs ≡ has_in s (frames xs)
has_frames s [] = refl
has_frames s (e ∷ es) = ap (λ b. nat_eq e.slot s || b) (has_frames s es)

place_frames : (s : ℕ) (xs : List Spot) → place s xs ≡ place_in s (frames xs)
place_frames s [] = refl
place_frames s (e ∷ es) = ap (λ (n : ℕ). if nat_eq e.slot s then 0 else suc n) (place_frames s es)

pub same_begun : (s : ℕ) (old new : Table) → SameHoles old new → begun new s ≡ begun old s
same_begun s old new h = has_frames s new.spots ∙ (ap (has_in s) h.slots ∙ sym (has_frames s old.spots))

pub same_gap : (s : ℕ) (old new : Table) → SameHoles old new → gap_at new s ≡ gap_at old s
same_gap s old new h =
    let at : place s new.spots ≡ place s old.spots = place_frames s new.spots ∙ (ap (place_in s) h.slots ∙ sym (place_frames s old.spots)) in
    ap (λ (z : List (Option Gap)). slice_get z (place s new.spots)) h.gaps ∙ ap (slice_get old.gaps) at
