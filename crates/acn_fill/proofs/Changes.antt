-- Changes of the table.
use Rattle.std.proofs.Common.{◌≡◌, ℕ, suc, ◌+◌, ◌<◌, ℤ, Bool, true, false, List, [], ◌∷◌, ◌++◌, length, get_or, set, remove, Option, Some, nat_eq, ◌||◌, refl, sym, ap, ◌∙◌, subst, arith, length-append}
use Rattle.std.specs.Prelude.{slice_get, is_some}
use Rattle.acn_bits.specs.Overwrite.{Gap}
use Rattle.std.specs.Prelude.{None}
use Rattle.acn_num.specs.Ranges.{has, among, IsLeastExcept}
use Rattle.acn_grammar.specs.Asks.{Ask, Equal, Avoid}
use Rattle.acn_asks.proofs.Steps.{turned, avoid_other, avoid_fixed, avoid_again, avoid_more, avoid_least, avoid_last}
use Rattle.acn_fill.specs.Table.{set_of}
use Rattle.acn_fill.proofs.Spots.{permits_is}
use Rattle.acn_fill.specs.declared.spot.Spot.{Spot}
use Rattle.acn_fill.specs.declared.spot.TheConstants.{MOST_AVOIDED}
use Rattle.acn_asks.specs.Kept.{Contradicted}
use Rattle.acn_fill.specs.Table.{Table, KeepsIn, KeepsSpot, has_spot, place, spot_of, without, purged, frames, avoided_on, Distinct, Clean, AreFew, is_fixed, HasRoom, have_holes, have_sets, SameAt, SameSpot, OneMore, Refuses}
use Rattle.acn_fill.proofs.Few.{few-purged, few-push}
use Rattle.acn_fill.proofs.Tied.{tied-push, tied-remove, sets-set}
use Rattle.acn_fill.proofs.Spots.{eq_self, eq_not, not_eq, same_distinct, same_length, distinct-push, spot_of-push, spot_of-push_other, frames-push, clean-push, spot-here, slot-here, spot_of-set, spot_of-set_other, frames-set, remove-place, has_spot-without, has_spot-without_other, distinct-without, spot_of-without_other, gap-without_other, length-without, has_spot-last, has_spot-other, gap-last, gap-front, avoided_on-push, avoided_on-push_other, avoided_on-purged_other, clean-without, clean-pool, clean-same, keeps_at, kept_at}

-- What a table always keeps.

abbrev pub Whole : (gaps : List (Option Gap)) → List Spot → List (ℕ × ℤ) → Type 0
Whole gaps xs pool = (length gaps ≡ length xs) × Distinct xs × Clean xs pool × AreFew pool × (have_holes gaps ≡ have_sets xs)

-- One slot more.

pub whole_push : (gaps gaps' : List (Option Gap)) (g : Option Gap) (xs xs' : List Spot) (e : Spot) (pool : List (ℕ × ℤ)) → gaps' ≡ gaps ++ g ∷ [] → xs' ≡ xs ++ e ∷ [] → Whole gaps xs pool → has_spot e.slot xs ≡ false → is_some g ≡ is_some e.set → Whole gaps' xs' pool
whole_push gaps gaps' g xs xs' e pool p q w h k =
    subst (λ (z : List (Option Gap)). Whole z xs' pool) (sym p) (subst (λ (z : List Spot). Whole (gaps ++ g ∷ []) z pool) (sym q)
    (length-append gaps (g ∷ []) ∙ (ap (λ n. n + 1) w.0 ∙ sym (length-append xs (e ∷ []))), distinct-push xs e w.1 h, clean-push xs e pool w.2, w.3, tied-push gaps g xs e w.4 k))

pub has_of : (s t : ℕ) (xs : List Spot) → s ≡ t → has_spot t xs ≡ false → has_spot s xs ≡ false
has_of s t xs e h = ap (λ z. has_spot z xs) e ∙ h

pub keeps_push : (set : List (ℤ × ℤ)) (wanted : List Ask) (s : ℕ) (xs xs' : List Spot) (pool : List (ℕ × ℤ)) (e : Spot) → xs' ≡ xs ++ e ∷ [] → has_spot s xs ≡ false → e.slot ≡ s → Clean xs pool → KeepsIn set wanted e []
    → KeepsSpot set wanted (spot_of s xs') (avoided_on s pool)
keeps_push set wanted s xs xs' pool e q h k c w = keeps_at set wanted s xs' pool e [] (ap (spot_of s) q ∙ spot_of-push s xs e h k) (c s h) w

pub push_others : (old new : Table) (e : Spot) (s : ℕ) → new.spots ≡ old.spots ++ e ∷ [] → new.avoided ≡ old.avoided → e.slot ≡ s → (t : ℕ) → nat_eq t s ≡ false → SameAt t old new
push_others old new e s p q k t n = record {
  spot = ap (spot_of t) p ∙ spot_of-push_other t old.spots e (eq_not e.slot t (λ z. not_eq t s n (sym z ∙ k)));
  avoided = ap (avoided_on t) q;
}

pub push_slots : (xs xs' : List Spot) (e : Spot) (s : ℕ) → xs' ≡ xs ++ e ∷ [] → e.slot ≡ s → frames xs' ≡ frames xs ++ s ∷ []
push_slots xs xs' e s p k = ap frames p ∙ (frames-push xs e ∙ ap (λ z. frames xs ++ z ∷ []) k)

-- One ask more.

pub whole_set : (gaps : List (Option Gap)) (xs xs' : List Spot) (pool pool' : List (ℕ × ℤ)) (s i : ℕ) (e e' : Spot) → Whole gaps xs pool → has_spot s xs ≡ true → i ≡ place s xs → spot_of s xs ≡ Some e → xs' ≡ set xs i e' → e'.slot ≡ e.slot → is_some e'.set ≡ is_some e.set → Clean xs pool' → AreFew pool' → Whole gaps xs' pool'
whole_set gaps xs xs' pool pool' s i e e' w b p h q k o c few =
    let slot : e'.slot ≡ s = k ∙ slot-here s xs e h in
    let f : frames xs' ≡ frames xs = ap frames (q ∙ ap (λ j. set xs j e') p) ∙ frames-set s xs e' b slot in
    (w.0 ∙ sym (same_length xs' xs f), same_distinct xs xs' (sym f) w.1, clean-same xs xs' pool' (sym f) c, few, w.4 ∙ sym (ap have_sets (q ∙ ap (λ j. set xs j e') p) ∙ sets-set s xs e e' h o))

pub more_set : (old new : Table) (s i : ℕ) (e e' : Spot) (a : Ask) → has_spot s old.spots ≡ true → i ≡ place s old.spots → spot_of s old.spots ≡ Some e → new.spots ≡ set old.spots i e' → e'.slot ≡ e.slot → new.gaps ≡ old.gaps
    → ((t : ℕ) → nat_eq t s ≡ false → avoided_on t new.avoided ≡ avoided_on t old.avoided)
    → ((set' : List (ℤ × ℤ)) (before : List Ask) → KeepsIn set' before e (avoided_on s old.avoided) → KeepsIn set' (before ++ a ∷ []) e' (avoided_on s new.avoided))
    → OneMore s a old new
more_set old new s i e e' a b p h q k g others keep =
    let slot : e'.slot ≡ s = k ∙ slot-here s old.spots e h in
    let r : new.spots ≡ set old.spots (place s old.spots) e' = q ∙ ap (λ j. set old.spots j e') p in
    record {
      kept = λ set' before w. keeps_at set' (before ++ a ∷ []) s new.spots new.avoided e' (avoided_on s new.avoided) (ap (spot_of s) r ∙ spot_of-set s old.spots e' b slot) refl
          (keep set' before (kept_at set' before s old.spots old.avoided e h w));
      others = λ t n. record { spot = ap (spot_of t) r ∙ spot_of-set_other s t old.spots e' b slot n; avoided = others t n };
      holes = record { slots = ap frames r ∙ frames-set s old.spots e' b slot; gaps = g };
    }

pub more_same : (old new : Table) (s : ℕ) (e : Spot) (a : Ask) → spot_of s old.spots ≡ Some e → new.spots ≡ old.spots → new.gaps ≡ old.gaps
    → ((t : ℕ) → nat_eq t s ≡ false → avoided_on t new.avoided ≡ avoided_on t old.avoided)
    → ((set' : List (ℤ × ℤ)) (before : List Ask) → KeepsIn set' before e (avoided_on s old.avoided) → KeepsIn set' (before ++ a ∷ []) e (avoided_on s new.avoided))
    → OneMore s a old new
more_same old new s e a h q g others keep = record {
  kept = λ set' before w. keeps_at set' (before ++ a ∷ []) s new.spots new.avoided e (avoided_on s new.avoided) (ap (spot_of s) q ∙ h) refl
      (keep set' before (kept_at set' before s old.spots old.avoided e h w));
  others = λ t n. record { spot = ap (spot_of t) q; avoided = others t n };
  holes = record { slots = ap frames q; gaps = g };
}

pub pool_others : (s : ℕ) (pool pool' : List (ℕ × ℤ)) (k : ℤ) → pool' ≡ pool ++ (s, k) ∷ [] → (t : ℕ) → nat_eq t s ≡ false → avoided_on t pool' ≡ avoided_on t pool
pool_others s pool pool' k p t n = ap (avoided_on t) p ∙ avoided_on-push_other t s pool k n

pub pool_own : (s : ℕ) (pool pool' : List (ℕ × ℤ)) (k : ℤ) → pool' ≡ pool ++ (s, k) ∷ [] → avoided_on s pool' ≡ avoided_on s pool ++ k ∷ []
pool_own s pool pool' k p = ap (avoided_on s) p ∙ avoided_on-push s pool k

pub pool_clean : (s : ℕ) (xs : List Spot) (pool pool' : List (ℕ × ℤ)) (k : ℤ) → has_spot s xs ≡ true → Clean xs pool → pool' ≡ pool ++ (s, k) ∷ [] → Clean xs pool'
pool_clean s xs pool pool' k b c p = subst (λ (z : List (ℕ × ℤ)). Clean xs z) (sym p) (clean-pool s xs pool k b c)

pub pool_few : (s : ℕ) (pool pool' : List (ℕ × ℤ)) (k : ℤ) → AreFew pool → among (avoided_on s pool) k ≡ false → length (avoided_on s pool) < MOST_AVOIDED → pool' ≡ pool ++ (s, k) ∷ [] → AreFew pool'
pool_few s pool pool' k few n l p = subst AreFew (sym p) (few-push s pool k few n l)

-- the room that a number wants that is kept anew
pub room_at : (most : ℕ) (t : Table) (s i : ℕ) (e : Spot) (k : ℤ) (xs : List Spot) (pool asked : List (ℕ × ℤ)) → xs ≡ t.spots → pool ≡ t.avoided → has_spot s t.spots ≡ true → i ≡ place s xs → e ≡ get_or xs i e → e.fixed ≡ false
    → asked ≡ pool → among (avoided_on s asked) k ≡ false → HasRoom most t s k → (among (avoided_on s pool) k ≡ false) × (length pool < most) × (length (avoided_on s pool) < MOST_AVOIDED)
room_at most t s i e k xs pool asked p q b f g x a n h =
    let here : spot_of s t.spots ≡ Some e = spot-here s t.spots i e b (f ∙ ap (place s) p) (g ∙ ap (λ z. get_or z i e) p) in
    let free : among (avoided_on s pool) k ≡ false = ap (λ z. among (avoided_on s z) k) (sym a) ∙ n in
    let r = h (ap is_fixed here ∙ x) (ap (λ z. among (avoided_on s z) k) (sym q) ∙ free) in
    (free, subst (λ z. length z < most) (sym q) r.0, subst (λ z. length (avoided_on s z) < MOST_AVOIDED) (sym q) r.1)

pub refuses_at : (old : Table) (s : ℕ) (e : Spot) (a : Ask) (earlier : Option Ask) → spot_of s old.spots ≡ Some e → ((set' : List (ℤ × ℤ)) (before : List Ask) → KeepsIn set' before e (avoided_on s old.avoided) → Contradicted set' before a earlier) → Refuses s a old earlier
refuses_at old s e a earlier h f = λ set' before w. f set' before (kept_at set' before s old.spots old.avoided e h w)

-- One slot less.

pub whole_less : (gaps gaps' : List (Option Gap)) (xs xs' : List Spot) (pool pool' : List (ℕ × ℤ)) (s i : ℕ) → Whole gaps xs pool → has_spot s xs ≡ true → i ≡ place s xs → xs' ≡ remove xs i → gaps' ≡ remove gaps i → pool' ≡ purged s pool
    → suc (length gaps') ≡ length gaps → Whole gaps' xs' pool'
whole_less gaps gaps' xs xs' pool pool' s i w b p q g r l =
    let is : xs' ≡ without s xs = q ∙ (ap (remove xs) p ∙ remove-place s xs b) in
    let n : length (without s xs) + 1 ≡ length xs = length-without s xs b in
    let m : length xs' ≡ length (without s xs) = ap length is in (
      omega (arith, w.0, l, n, m),
      subst (λ (z : List Spot). Distinct z) (sym is) (distinct-without s xs w.1),
      subst (λ (z : List Spot). Clean z pool') (sym is) (subst (λ (z : List (ℕ × ℤ)). Clean (without s xs) z) (sym r) (clean-without s xs pool w.2)),
      subst AreFew (sym r) (few-purged s pool w.3),
      tied-remove gaps gaps' xs xs' i w.4 g q,
    )

pub less_ended : (xs xs' : List Spot) (s i : ℕ) → Distinct xs → has_spot s xs ≡ true → i ≡ place s xs → xs' ≡ remove xs i → has_spot s xs' ≡ false
less_ended xs xs' s i d b p q = ap (has_spot s) (q ∙ (ap (remove xs) p ∙ remove-place s xs b)) ∙ has_spot-without s xs d

pub less_slots : (xs xs' : List Spot) (s i : ℕ) → has_spot s xs ≡ true → i ≡ place s xs → xs' ≡ remove xs i → xs' ≡ without s xs
less_slots xs xs' s i b p q = q ∙ (ap (remove xs) p ∙ remove-place s xs b)

pub less_few : (xs xs' : List Spot) (s i : ℕ) → has_spot s xs ≡ true → i ≡ place s xs → xs' ≡ remove xs i → length xs' + 1 ≡ length xs
less_few xs xs' s i b p q = ap (λ z. length z + 1) (q ∙ (ap (remove xs) p ∙ remove-place s xs b)) ∙ length-without s xs b

pub less_others : (old new : Table) (s i : ℕ) → has_spot s old.spots ≡ true → i ≡ place s old.spots → new.spots ≡ remove old.spots i → new.avoided ≡ purged s old.avoided → (t : ℕ) → nat_eq t s ≡ false → SameAt t old new
less_others old new s i b p q r t n =
    let is : new.spots ≡ without s old.spots = q ∙ (ap (remove old.spots) p ∙ remove-place s old.spots b) in
    record { spot = ap (spot_of t) is ∙ spot_of-without_other s t old.spots n; avoided = ap (avoided_on t) r ∙ avoided_on-purged_other t s old.avoided n }

pub less_rest : (old new : Table) (s i : ℕ) → length old.gaps ≡ length old.spots → has_spot s old.spots ≡ true → i ≡ place s old.spots → new.spots ≡ remove old.spots i → new.gaps ≡ remove old.gaps i → (t : ℕ) → nat_eq t s ≡ false → SameSpot t old new
less_rest old new s i l b p q g t n =
    let is : new.spots ≡ without s old.spots = q ∙ (ap (remove old.spots) p ∙ remove-place s old.spots b) in
    let gs : new.gaps ≡ remove old.gaps (place s old.spots) = g ∙ ap (remove old.gaps) p in
    record {
      begun_as = ap (has_spot t) is ∙ has_spot-without_other s t old.spots n;
      gap_as = λ h. ap (λ z. slice_get z (place t new.spots)) gs ∙ (ap (λ z. slice_get (remove old.gaps (place s old.spots)) (place t z)) is ∙ gap-without_other s t old.spots old.gaps l b n);
    }

-- One more, by its hole.

pub push_own : (old new : Table) (e : Spot) (s : ℕ) (g : Option Gap) → length old.gaps ≡ length old.spots → has_spot s old.spots ≡ false → new.spots ≡ old.spots ++ e ∷ [] → new.gaps ≡ old.gaps ++ g ∷ [] → e.slot ≡ s
    → (has_spot s new.spots ≡ true) × (slice_get new.gaps (place s new.spots) ≡ Some g)
push_own old new e s g l h p q k = (
  ap (has_spot s) p ∙ has_spot-last s old.spots e k,
  ap (λ z. slice_get z (place s new.spots)) q ∙ (ap (λ z. slice_get (old.gaps ++ g ∷ []) (place s z)) p ∙ gap-last s old.spots e old.gaps g l h k),
)

pub push_rest : (old new : Table) (e : Spot) (s : ℕ) (g : Option Gap) → length old.gaps ≡ length old.spots → new.spots ≡ old.spots ++ e ∷ [] → new.gaps ≡ old.gaps ++ g ∷ [] → e.slot ≡ s → (t : ℕ) → nat_eq t s ≡ false → SameSpot t old new
push_rest old new e s g l p q k t n =
    let other : nat_eq e.slot t ≡ false = eq_not e.slot t (λ z. not_eq t s n (sym z ∙ k)) in
    record {
      begun_as = ap (has_spot t) p ∙ has_spot-other t old.spots e other;
      gap_as = λ h. ap (λ z. slice_get z (place t new.spots)) q ∙ (ap (λ z. slice_get (old.gaps ++ g ∷ []) (place t z)) p ∙ gap-front t old.spots e old.gaps g l h);
    }

-- What an ask to avoid a number does to one spot.

module _ (set' : List (ℤ × ℤ)) (before : List Ask) (e : Spot) (k : ℤ) (av : List ℤ) where
  pub fixed_other : e.fixed ≡ true → (e.least ≡ k → ⊥) → KeepsIn set' before e av → KeepsIn set' (before ++ Avoid k ∷ []) e av
  fixed_other f n h = record { permits = h.permits; keeps = turned true e.fixed (sym f) (avoid_other set' before e.least k av (turned e.fixed true f h.keeps) n) }

  pub fixed_same : e.fixed ≡ true → e.least ≡ k → KeepsIn set' before e av → Contradicted set' before (Avoid k) (Some (Equal e.least))
  fixed_same f p h = avoid_fixed set' before e.least k av (turned e.fixed true f h.keeps) p

  pub avoided_again : e.fixed ≡ false → among av k ≡ true → KeepsIn set' before e av → KeepsIn set' (before ++ Avoid k ∷ []) e av
  avoided_again f a h =
      let w = turned e.fixed false f h.keeps in
      record { permits = h.permits; keeps = turned false e.fixed (sym f) (avoid_again set' before av w.fixes e.least k w.answer a) }

  pub avoided_more : e.fixed ≡ false → (e.least ≡ k → ⊥) → KeepsIn set' before e av → KeepsIn set' (before ++ Avoid k ∷ []) e (av ++ k ∷ [])
  avoided_more f n h =
      let w = turned e.fixed false f h.keeps in
      record { permits = h.permits; keeps = turned false e.fixed (sym f) (avoid_more set' before av w.fixes e.least k w.answer n) }

  pub avoided_least : (x : ℤ) → e.fixed ≡ false → IsLeastExcept (set_of e.set) (av ++ k ∷ []) x → KeepsIn set' before e av → KeepsIn set' (before ++ Avoid k ∷ []) (record e { least = x }) (av ++ k ∷ [])
  avoided_least x f l h =
      let w = turned e.fixed false f h.keeps in
      let l' : IsLeastExcept set' (av ++ k ∷ []) x = subst (λ (z : List (ℤ × ℤ)). IsLeastExcept z (av ++ k ∷ []) x) (permits_is e.set e.fixed set' h.permits f) l in
      record { permits = h.permits; keeps = turned false e.fixed (sym f) (avoid_least set' before av w.fixes x k l') }

  pub avoided_last : e.fixed ≡ false → ((x : ℤ) → has (set_of e.set) x ≡ true → among (av ++ k ∷ []) x ≡ true) → KeepsIn set' before e av → Contradicted set' before (Avoid k) None
  avoided_last f all h =
      avoid_last set' before av (turned e.fixed false f h.keeps).fixes k (subst (λ (z : List (ℤ × ℤ)). (x : ℤ) → has z x ≡ true → among (av ++ k ∷ []) x ≡ true) (permits_is e.set e.fixed set' h.permits f) all)

pub with_number : (e : Spot) (x y : ℤ) → x ≡ y → record e { least = x } ≡ record e { least = y }
with_number e x y p = cc

-- the same under another name of the slot and of the pool
pub at_own : (set' : List (ℤ × ℤ)) (wanted : List Ask) (e : Spot) (s t : ℕ) (pool pool' : List (ℕ × ℤ)) → s ≡ t → pool ≡ pool' → KeepsIn set' wanted e (avoided_on s pool) → KeepsIn set' wanted e (avoided_on t pool')
at_own set' wanted e s t pool pool' p q k = subst (λ (z : List (ℕ × ℤ)). KeepsIn set' wanted e (avoided_on t z)) q (subst (λ (z : ℕ). KeepsIn set' wanted e (avoided_on z pool)) p k)

-- where no slot is begun, no hole is kept
pub none_kept : (gaps : List (Option Gap)) (xs : List Spot) → length gaps ≡ length xs → ((s : ℕ) → has_spot s xs ≡ false) → gaps ≡ []
none_kept [] xs l h = refl
none_kept (g ∷ gs) [] l h = cc
none_kept (g ∷ gs) (e ∷ es) l h = absurd (by (nat_eq e.slot e.slot) (eq_self e.slot e.slot refl) (h e.slot))
  where
    by : (b : Bool) → b ≡ true → (b || has_spot e.slot es) ≡ false → ⊥
    by true p q = cc
    by false p q = cc
