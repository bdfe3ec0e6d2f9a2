-- How many numbers to avoid there are.
use Rattle.std.proofs.Common.{rules, ◌≡◌, ℕ, suc, ◌+◌, ◌*◌, ◌<◌, ◌≤◌, ℤ, Bool, true, false, List, [], ◌∷◌, ◌++◌, length, not, nat_eq, ◌||◌, if◌then◌else◌, refl, sym, ap, ◌∙◌, subst, arith, inl, inr, length-append}
use Rattle.std.proofs.lemmas.Bool.Decides.{nat_tests}
use Rattle.std.specs.Prelude.{nat_lt, ◌⊎◌, Some, int_le, ◌&&◌}
use Rattle.acn_num.specs.Ranges.{among}
use Rattle.acn_grammar.specs.Asks.{Ask}
use Rattle.acn_grammar.specs.Tree.{holds}
use Rattle.acn_asks.proofs.Lists.{among_either}
use Rattle.acn_asks.proofs.Steps.{turned}
use Rattle.acn_fill.specs.declared.spot.Spot.{Spot}
use Rattle.acn_fill.specs.declared.spot.TheConstants.{MOST_AVOIDED}
use Rattle.acn_fill.specs.Table.{Table, Keeps, has_spot, spot_of, without, purged, avoided_on, frames, Distinct, Clean, NoneTwice, AreFew, is_fixed, HasRoom, TooMany, NoSlotTwice, AllBegun}
use Rattle.acn_fill.proofs.Spots.{eq_true, eq_self, eq_not, not_eq, avoided_on-push, avoided_on-push_other, avoided_on-purged, avoided_on-purged_other, length-without, clean-without, kept_at}

abbrev same_as : ℤ → ℤ → Bool
same_as y x = int_le y x && int_le x y

false_of : (b : Bool) → (b ≡ true → ⊥) → b ≡ false
false_of true h = absurd (h refl)
false_of false h = refl

not_both : (b : Bool) → b ≡ true → b ≡ false → ⊥
not_both b h g = cc

-- One more number.

pub twice-push : (xs : List ℤ) (k : ℤ) → NoneTwice xs → among xs k ≡ false → NoneTwice (xs ++ k ∷ [])
twice-push [] k d h = (refl, tt)
twice-push (x ∷ xs) k d h =
    let o = parts (same_as x k) (among xs k) h in
    (false_of (among (xs ++ k ∷ []) x) (λ t. other (among_either xs k x t)), twice-push xs k d.1 o.1)
  where
    parts : (a b : Bool) → (a || b) ≡ false → (a ≡ false) × (b ≡ false)
    parts true b h = cc
    parts false b h = (refl, h)

    other : (x ≡ k) ⊎ (among xs x ≡ true) → ⊥
    other (inl e) = not_both (among (x ∷ xs) k) (subst (λ z. among (x ∷ xs) z ≡ true) e (ap (λ z. z || among xs x) (self x))) h
      where
        self : (x : ℤ) → same_as x x ≡ true
        self x = search rules
    other (inr t) = not_both (among xs x) t d.0

decided : {F : Type 0} (b : Bool) → (b ≡ true → F) → (b ≡ false → F) → F
decided true f g = f refl
decided false f g = g refl

pub few-push : (s : ℕ) (pool : List (ℕ × ℤ)) (k : ℤ) → AreFew pool → among (avoided_on s pool) k ≡ false → length (avoided_on s pool) < MOST_AVOIDED → AreFew (pool ++ (s, k) ∷ [])
few-push s pool k few h l t = decided (nat_eq t s)
    (λ e. subst (λ z. NoneTwice (avoided_on z (pool ++ (s, k) ∷ [])) × (length (avoided_on z (pool ++ (s, k) ∷ [])) ≤ MOST_AVOIDED)) (sym (eq_true t s e)) here)
    (λ n. subst (λ z. NoneTwice z × (length z ≤ MOST_AVOIDED)) (sym (avoided_on-push_other t s pool k n)) (few t))
  where
    here : NoneTwice (avoided_on s (pool ++ (s, k) ∷ [])) × (length (avoided_on s (pool ++ (s, k) ∷ [])) ≤ MOST_AVOIDED)
    here = subst (λ z. NoneTwice z × (length z ≤ MOST_AVOIDED)) (sym (avoided_on-push s pool k))
        (twice-push (avoided_on s pool) k (few s).0 h, (let n = length-append (avoided_on s pool) (k ∷ []) in omega (arith, n, l)))

pub few-purged : (s : ℕ) (pool : List (ℕ × ℤ)) → AreFew pool → AreFew (purged s pool)
few-purged s pool few t = decided (nat_eq t s)
    (λ e. subst (λ z. NoneTwice z × (length z ≤ MOST_AVOIDED)) (sym (ap (λ z. avoided_on z (purged s pool)) (eq_true t s e) ∙ avoided_on-purged s pool)) (tt, search rules))
    (λ n. subst (λ z. NoneTwice z × (length z ≤ MOST_AVOIDED)) (sym (avoided_on-purged_other t s pool n)) (few t))

-- How many there are in all.

length-purged : (s : ℕ) (pool : List (ℕ × ℤ)) → length pool ≡ length (avoided_on s pool) + length (purged s pool)
length-purged s [] = refl
length-purged s (e ∷ es) = go (nat_eq e.0 s) (length-purged s es)
  where
    go : (b : Bool) → length es ≡ length (avoided_on s es) + length (purged s es) → suc (length es) ≡ length (if b then e.1 ∷ avoided_on s es else avoided_on s es) + length (if not b then e ∷ purged s es else purged s es)
    go true f = omega (arith, f)
    go false f = omega (arith, f)

none_at_all : (pool : List (ℕ × ℤ)) → ((s : ℕ) → avoided_on s pool ≡ []) → length pool ≡ 0
none_at_all [] h = refl
none_at_all (e ∷ es) h = absurd (by (nat_eq e.0 e.0) (eq_self e.0 e.0 refl) (h e.0))
  where
    by : (b : Bool) → b ≡ true → (if b then e.1 ∷ avoided_on e.0 es else avoided_on e.0 es) ≡ [] → ⊥
    by true p q = cc
    by false p q = cc

clean_tail : (e : Spot) (es : List Spot) (pool : List (ℕ × ℤ)) → Clean (e ∷ es) pool → Clean es (purged e.slot pool)
clean_tail e es pool c t h = decided (nat_eq t e.slot)
    (λ q. ap (λ z. avoided_on z (purged e.slot pool)) (eq_true t e.slot q) ∙ avoided_on-purged e.slot pool)
    (λ n. avoided_on-purged_other t e.slot pool n ∙ c t (both (nat_eq e.slot t) (has_spot t es) (eq_not e.slot t (λ z. not_eq t e.slot n (sym z))) h))
  where
    both : (a b : Bool) → a ≡ false → b ≡ false → (a || b) ≡ false
    both a b p q = cc

pub few_in_all : (xs : List Spot) (pool : List (ℕ × ℤ)) → Clean xs pool → AreFew pool → length pool ≤ MOST_AVOIDED * length xs
few_in_all [] pool c few = let n = none_at_all pool (λ s. c s refl) in omega (arith, n)
few_in_all (e ∷ es) pool c few =
    let r = few_in_all es (purged e.slot pool) (clean_tail e es pool c) (few-purged e.slot pool few) in
    let l = length-purged e.slot pool in
    let m = (few e.slot).1 in
    omega (arith, r, l, m)

pub fewer_in_all : (s : ℕ) (xs : List Spot) (pool : List (ℕ × ℤ)) (most room : ℕ) → has_spot s xs ≡ true → Clean xs pool → AreFew pool → length (avoided_on s pool) < MOST_AVOIDED → length xs ≤ most → MOST_AVOIDED * most ≤ room → length pool < room
fewer_in_all s xs pool most room b c few l w r =
    let n = length-without s xs b in
    let m = few_in_all (without s xs) (purged s pool) (clean-without s xs pool c) (few-purged s pool few) in
    let p = length-purged s pool in
    omega (arith, n, m, p, l, w, r)

pub at_most_all : (s : ℕ) (pool : List (ℕ × ℤ)) → length (avoided_on s pool) ≤ length pool
at_most_all s pool = let l = length-purged s pool in omega (arith, l)

-- The slots that are begun.

pub holds_frames : (s : ℕ) (xs : List Spot) → holds (frames xs) s ≡ has_spot s xs
holds_frames s [] = refl
holds_frames s (e ∷ es) = ap (λ z. nat_eq e.slot s || z) (holds_frames s es)

pub frames_differ : (xs : List Spot) → Distinct xs → NoSlotTwice (frames xs)
frames_differ [] d = tt
frames_differ (e ∷ es) d = (holds_frames e.slot es ∙ d.0, frames_differ es d.1)

pub length-frames : (xs : List Spot) → length (frames xs) ≡ length xs
length-frames [] = refl
length-frames (e ∷ es) = ap suc (length-frames es)

pub all_begun : (t : Table) (most : ℕ) → Distinct t.spots → most ≤ length t.spots → AllBegun most t
all_begun t most d h = record {
  slots = frames t.spots;
  differ = frames_differ t.spots d;
  many = (let l = length-frames t.spots in omega (arith, l, h));
  begun_each = λ s k. sym (holds_frames s t.spots) ∙ k;
}

-- One too many.

pub too_many : (t : Table) (s : ℕ) (k : ℤ) (e : Spot) → spot_of s t.spots ≡ Some e → e.fixed ≡ false → AreFew t.avoided → among (avoided_on s t.avoided) k ≡ false → MOST_AVOIDED ≤ length (avoided_on s t.avoided)
    → (set : List (ℤ × ℤ)) (wanted : List Ask) → Keeps set wanted t s → TooMany wanted k
too_many t s k e h f few n m set wanted w = record {
  numbers = avoided_on s t.avoided;
  differ = (n, (few s).0);
  many = m;
  asked = λ x i. (turned e.fixed false f (kept_at set wanted s t.spots t.avoided e h w).keeps).fixes.asked x i;
}

-- Room for one more.

module _ (most : ℕ) (t : Table) (s : ℕ) (k : ℤ) where
  pub room_short : (pool : List (ℕ × ℤ)) → pool ≡ t.avoided → length pool < most → length pool < MOST_AVOIDED → HasRoom most t s k
  room_short pool p a b f n = (
    subst (λ z. length z < most) p a,
    (let m = at_most_all s t.avoided in let l : length pool ≡ length t.avoided = ap length p in omega (arith, m, l, b)),
  )

  pub room_fixed : (e : Spot) → spot_of s t.spots ≡ Some e → e.fixed ≡ true → HasRoom most t s k
  room_fixed e h f n = absurd (not_both (is_fixed (spot_of s t.spots)) (ap is_fixed h ∙ f) n)

  pub room_kept : (pool : List (ℕ × ℤ)) → pool ≡ t.avoided → among (avoided_on s pool) k ≡ true → HasRoom most t s k
  room_kept pool p h f n = absurd (not_both (among (avoided_on s t.avoided) k) (ap (λ z. among (avoided_on s z) k) (sym p) ∙ h) n)

  module _ (e : Spot) (h : spot_of s t.spots ≡ Some e) (f : e.fixed ≡ false) (few : AreFew t.avoided) (pool : List (ℕ × ℤ)) (p : pool ≡ t.avoided) (n : among (avoided_on s pool) k ≡ false) where
    -- there is none where so many are kept
    pub no_room : (length pool < most → length (avoided_on s pool) < MOST_AVOIDED → ⊥) → HasRoom most t s k → ⊥
    no_room full r =
        let room = r (ap is_fixed h ∙ f) (ap (λ z. among (avoided_on s z) k) (sym p) ∙ n) in
        full (subst (λ z. length z < most) (sym p) room.0) (subst (λ z. length (avoided_on s z) < MOST_AVOIDED) (sym p) room.1)

    pub no_room_here : (count : ℕ) → count ≡ length (avoided_on s pool) → nat_lt count 64 ≡ false → HasRoom most t s k → ⊥
    no_room_here count c l = no_room (λ _ few. not_below few)
      where
        not_below : length (avoided_on s pool) < MOST_AVOIDED → ⊥
        not_below few = grind (arith, nat_tests)

    pub no_room_at_all : nat_lt (length pool) most ≡ false → HasRoom most t s k → ⊥
    no_room_at_all l = no_room (λ short _. not_below short)
      where
        not_below : length pool < most → ⊥
        not_below short = grind (arith, nat_tests)

    pub full_here : (count : ℕ) → count ≡ length (avoided_on s pool) → nat_lt count 64 ≡ false → (set : List (ℤ × ℤ)) (wanted : List Ask) → Keeps set wanted t s → TooMany wanted k
    full_here count c l = too_many t s k e h f few (ap (λ z. among (avoided_on s z) k) (sym p) ∙ n) (many count c l)
      where
        many : (count : ℕ) → count ≡ length (avoided_on s pool) → nat_lt count 64 ≡ false → MOST_AVOIDED ≤ length (avoided_on s t.avoided)
        many count c l =
            let m : length (avoided_on s pool) ≡ length (avoided_on s t.avoided) = ap (λ z. length (avoided_on s z)) p in
            grind (arith, nat_tests)

    pub full_all : (slots : ℕ) → has_spot s t.spots ≡ true → Clean t.spots t.avoided → length t.spots ≤ slots → nat_lt (length pool) most ≡ false → MOST_AVOIDED * slots ≤ most → (set : List (ℤ × ℤ)) (wanted : List Ask) → Keeps set wanted t s → TooMany wanted k
    full_all slots b c w l r = decided (nat_lt (length (avoided_on s t.avoided)) 64)
        (λ q. absurd (less (fewer_in_all s t.spots t.avoided slots most b c few (short q) w r)))
        (λ q. too_many t s k e h f few (ap (λ z. among (avoided_on s z) k) (sym p) ∙ n) (long q))
      where
        short : nat_lt (length (avoided_on s t.avoided)) 64 ≡ true → length (avoided_on s t.avoided) < MOST_AVOIDED
        short q = grind (arith, nat_tests)

        long : nat_lt (length (avoided_on s t.avoided)) 64 ≡ false → MOST_AVOIDED ≤ length (avoided_on s t.avoided)
        long q = grind (arith, nat_tests)

        less : length t.avoided < most → ⊥
        less q = let m : length pool ≡ length t.avoided = ap length p in grind (arith, nat_tests)
