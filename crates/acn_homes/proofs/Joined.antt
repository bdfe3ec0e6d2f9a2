-- One use more.
use Rattle.std.proofs.Common.{◌≡◌, ℕ, zero, suc, ◌<◌, ◌+◌, Bool, true, false, true≢false, cond, List, [], ◌∷◌, ◌++◌, map, filter, fold, length, get_or, set, take, Bor, Some, None, is_some, refl, sym, ap, subst, ◌∙◌, arith, Less}
use Rattle.std.specs.List.{position_from}
use Rattle.std.specs.List.Sorted.{IsStrictlySortedBy}
use Rattle.acn_homes.specs.declared.uses.Use.{Use}
use Rattle.acn_homes.specs.Homes.{Path, Rises, preorder, same, above, shared, home, Slot, slot_of}
use Rattle.acn_homes.specs.Joined.{joined}
use Rattle.acn_homes.specs.View.{slot_fields, slot_view, slots_view}
use Rattle.acn_homes.specs.declared.slots.Slot as program
use Rattle.std.proofs.lemmas.List.{take_more, length-map, map-set, get_or-map}
use Rattle.acn_homes.proofs.Order.{Behind, same_is, differs, differs_back}

module _ (u : Use) (f : Path) where
  -- what the users make of a home
  abbrev made : Path → List Use → Path
  made a us = fold shared a (map above (map (λ (v : Use). v.user) (filter (λ (v : Use). same f v.field) us)))

  made_more : (a : Path) (us : List Use) → made a (us ++ u ∷ []) ≡ cond (same f u.field) (shared (made a us) (above u.user)) (made a us)
  made_more a [] = by (same f u.field)
    where
      by : (t : Bool) → fold shared a (map above (map (λ (v : Use). v.user) (cond t (u ∷ []) []))) ≡ cond t (shared a (above u.user)) a
      by true = refl
      by false = refl
  made_more a (v ∷ us) = by (same f v.field) (made_more (shared a (above v.user)) us) (made_more a us)
    where
      rest : List Use
      rest = filter (λ (w : Use). same f w.field) (us ++ u ∷ [])

      old : List Use
      old = filter (λ (w : Use). same f w.field) us

      by : (t : Bool) → made (shared a (above v.user)) (us ++ u ∷ []) ≡ cond (same f u.field) (shared (made (shared a (above v.user)) us) (above u.user)) (made (shared a (above v.user)) us)
          → made a (us ++ u ∷ []) ≡ cond (same f u.field) (shared (made a us) (above u.user)) (made a us)
          → fold shared a (map above (map (λ (w : Use). w.user) (cond t (v ∷ rest) rest))) ≡ cond (same f u.field) (shared (fold shared a (map above (map (λ (w : Use). w.user) (cond t (v ∷ old) old)))) (above u.user)) (fold shared a (map above (map (λ (w : Use). w.user) (cond t (v ∷ old) old))))
      by true h k = h
      by false h k = k

  slot_more : (us : List Use) → slot_of (us ++ u ∷ []) f ≡ joined u.field (above u.user) (slot_of us f)
  slot_more us = ap (λ (h : Path). record { field = f; home = h }) (made_more (above f) us) ∙ by (same f u.field)
    where
      by : (t : Bool) → ◌≡◌ {A = Slot} (record { field = f; home = cond t (shared (home us f) (above u.user)) (home us f) }) (cond t (record { field = f; home = shared (home us f) (above u.user) }) (slot_of us f))
      by true = refl
      by false = refl

pub slots_more : (u : Use) (us : List Use) (fs : List Path) → map (slot_of (us ++ u ∷ [])) fs ≡ map (joined u.field (above u.user)) (map (slot_of us) fs)
slots_more u us [] = refl
slots_more u us (f ∷ fs) = ap (λ (s : Slot). s ∷ map (slot_of (us ++ u ∷ [])) fs) (slot_more u f us) ∙ ap (λ (all : List Slot). joined u.field (above u.user) (slot_of us f) ∷ all) (slots_more u us fs)

-- ---- where the field stands among the slots

other : (f a : Path) (s : Slot) → same s.field f ≡ false → joined f a s ≡ s
other f a s h = ap (λ (t : Bool). cond t (record { field = s.field; home = shared s.home a }) s) h

behind_stay : (f a : Path) (all : List Slot) → Behind f (slot_fields all) → map (joined f a) all ≡ all
behind_stay f a [] h = refl
behind_stay f a (s ∷ all) h = ap (λ (x : Slot). x ∷ map (joined f a) all) (other f a s (differs_back f s.field h.0)) ∙ ap (λ (xs : List Slot). s ∷ xs) (behind_stay f a all h.1)

behind_at : (p : Path) (all : List Slot) (i : ℕ) (d : Slot) → Behind p (slot_fields all) → i < length all → preorder p (get_or all i d).field ≡ Less
behind_at p [] i d b h = absurd (omega (arith, h))
behind_at p (s ∷ all) zero d b h = b.0
behind_at p (s ∷ all) (suc i) d b h = behind_at p all i d b.1 (omega (arith, h))

-- the field of a slot further behind isn't that of the first
pub not_first : (s : Slot) (all : List Slot) (i : ℕ) (d : Slot) (f : Path) → Behind s.field (slot_fields all) → i < length all → same (get_or all i d).field f ≡ true → same s.field f ≡ false
not_first s all i d f b h e = subst (λ (z : Path). same s.field z ≡ false) (same_is (get_or all i d).field f e) (differs s.field (get_or all i d).field (behind_at s.field all i d b h))

pub joined_at : (f a : Path) (all : List Slot) (i : ℕ) (d : Slot) → Rises (slot_fields all) → i < length all → same (get_or all i d).field f ≡ true → map (joined f a) all ≡ set all i (record { field = (get_or all i d).field; home = shared (get_or all i d).home a })
unfolding IsStrictlySortedBy
joined_at f a [] i d r h e = absurd (omega (arith, h))
joined_at f a (s ∷ all) zero d r h e =
    ap (λ (x : Slot). x ∷ map (joined f a) all) (ap (λ (t : Bool). cond t (record { field = s.field; home = shared s.home a }) s) e)
    ∙ ap (λ (xs : List Slot). record { field = s.field; home = shared s.home a } ∷ xs) (behind_stay f a all (subst (λ (z : Path). Behind z (slot_fields all)) (same_is s.field f e) r.0))
joined_at f a (s ∷ all) (suc i) d r h e =
    ap (λ (x : Slot). x ∷ map (joined f a) all) (other f a s (not_first s all i d f r.0 (omega (arith, h)) e))
    ∙ ap (λ (xs : List Slot). s ∷ xs) (joined_at f a all i d r.1 (omega (arith, h)) e)

-- no slot has the field
pub none_joined : (f a : Path) (n : ℕ) (all : List Slot) → position_from (λ (s : Slot). same s.field f) n all ≡ None → map (joined f a) all ≡ all
none_joined f a n [] h = refl
none_joined f a n (s ∷ all) h = by (same s.field f) refl h (none_joined f a (n + 1) all)
  where
    by : (t : Bool) → same s.field f ≡ t → cond t (Some n) (position_from (λ (z : Slot). same z.field f) (n + 1) all) ≡ None
        → (position_from (λ (z : Slot). same z.field f) (n + 1) all ≡ None → map (joined f a) all ≡ all) → map (joined f a) (s ∷ all) ≡ s ∷ all
    by true e k rest = absurd (true≢false (ap is_some k))
    by false e k rest = ap (λ (x : Slot). x ∷ map (joined f a) all) (other f a s e) ∙ ap (λ (xs : List Slot). s ∷ xs) (rest k)

-- where it stands, by its number
pub fields_kept : (us : List Use) (fs : List Path) → slot_fields (map (slot_of us) fs) ≡ fs
fields_kept us [] = refl
fields_kept us (f ∷ fs) = ap (λ (zs : List Path). f ∷ zs) (fields_kept us fs)

-- the next use
pub use_more : (uses : List Use) (i : ℕ) (u : Use) (fs : List Path) → i < length uses → u ≡ get_or uses i u → map (joined u.field (above u.user)) (map (slot_of (take i uses)) fs) ≡ map (slot_of (take (i + 1) uses)) fs
use_more uses i u fs h is =
    sym (slots_more u (take i uses) fs)
    ∙ ap (λ (us : List Use). map (slot_of us) fs) (ap (λ (z : Use). take i uses ++ z ∷ []) is ∙ sym (take_more uses i u h))

-- the slot whose field is used, with a wider home
pub set_joined : (f a : Path) (xs : List program.Slot) (i : ℕ) (d : program.Slot) (h : Bor (List ℕ)) → Rises (slot_fields (slots_view xs)) → i < length xs → ((e : Slot) → same (get_or (slots_view xs) i e).field f ≡ true)
    → h.now ≡ shared (get_or xs i d).home.now a → slots_view (set xs i (record { field = (get_or xs i d).field; home = h })) ≡ map (joined f a) (slots_view xs)
set_joined f a xs i d h r l e is =
    map-set slot_view xs i (record { field = (get_or xs i d).field; home = h })
    ∙ (ap (λ (z : Path). set (slots_view xs) i (record { field = (get_or xs i d).field.now; home = z })) is
    ∙ (ap (λ (s : Slot). set (slots_view xs) i (record { field = s.field; home = shared s.home a })) (sym (get_or-map slot_view xs i d (slot_view d) l))
    ∙ sym (joined_at f a (slots_view xs) i (slot_view d) r (subst (λ (n : ℕ). i < n) (sym (length-map xs slot_view)) l) (e (slot_view d)))))
