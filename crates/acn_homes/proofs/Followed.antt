-- The numbers of slots along all nodes.
use Rattle.std.proofs.Common.{◌≡◌, ℕ, zero, suc, ◌<◌, ◌≤◌, ◌+◌, Bool, true, false, true≢false, ◌||◌, cond, List, [], ◌∷◌, map, filter_map, fold, length, get_or, Option, Some, None, is_some, refl, sym, ap, subst, ◌∙◌, arith, Ordering, Less, Equal, Greater}
use Rattle.std.specs.Ordering.{match_ordering}
use Rattle.acn_homes.specs.declared.homes.TheConstants.{MOST_SLOTS}
use Rattle.std.specs.List.{position_from, cons_option, range_with_len}
use Rattle.std.specs.List.Sorted.{IsStrictlySortedBy}
use Rattle.std.proofs.lemmas.Cmp.{nat_list_eq_equiv}
use Rattle.std.proofs.lemmas.List.{length-map, length-append}
use Rattle.std.proofs.lemmas.List.FromFn.{length-range_with_len}
use Rattle.acn_homes.specs.declared.uses.Use.{Use}
use Rattle.acn_homes.specs.Homes.{Path, Rises, preorder, same, is_among, named, fields, put, Slot, slot_of, slots, number}
use Rattle.acn_homes.proofs.Order.{Behind, behind_more, same_is, same_itself, same_from, differs, differs_back, turned, not_among, head_among, no_first}
use Rattle.acn_homes.proofs.Placed.{all_rise, all_among, nothing_rises}
use Rattle.acn_homes.proofs.Numbered.{number_here}

-- the place of a field among fields
abbrev place : ℕ → List Path → Path → Option ℕ
place n fs p = position_from (λ f. same f p) n fs

slot_place : (us : List Use) (n : ℕ) (fs : List Path) (p : Path) → position_from (λ (s : Slot). same s.field p) n (map (slot_of us) fs) ≡ place n fs p
slot_place us n [] p = refl
slot_place us n (f ∷ fs) p = ap (λ (o : Option ℕ). cond (same f p) (Some n) o) (slot_place us (n + 1) fs p)

alike : {A B : Type 0} (f g : A → Option B) → ((x : A) → f x ≡ g x) → (xs : List A) → filter_map f xs ≡ filter_map g xs
alike f g h [] = refl
alike {A} {B} f g h (x ∷ xs) = ap (λ (o : Option B). cons_option o (filter_map f xs)) (h x) ∙ ap (λ (zs : List B). cons_option (g x) zs) (alike f g h xs)

none_there : (n : ℕ) (fs : List Path) (m : Path) → Behind m fs → place n fs m ≡ None
none_there n [] m b = refl
none_there n (f ∷ fs) m b = ap (λ (t : Bool). cond t (Some n) (place (n + 1) fs m)) (differs_back m f b.0) ∙ none_there (n + 1) fs m b.1

past : (n : ℕ) (f : Path) (fs ms : List Path) → Behind f ms → filter_map (place n (f ∷ fs)) ms ≡ filter_map (place (n + 1) fs) ms
past n f fs [] b = refl
past n f fs (m ∷ ms) b =
    ap (λ (t : Bool). cons_option (cond t (Some n) (place (n + 1) fs m)) (filter_map (place n (f ∷ fs)) ms)) (differs f m b.0)
    ∙ ap (λ (zs : List ℕ). cons_option (place (n + 1) fs m) zs) (past n f fs ms b.1)

apart : (p m : Path) (fs : List Path) → Behind m fs → is_among p fs ≡ true → same p m ≡ false
apart p m fs b h = by (same p m) refl
  where
    by : (t : Bool) → same p m ≡ t → same p m ≡ false
    by true e = absurd (true≢false (sym (subst (λ (z : Path). is_among z fs ≡ true) (same_is p m e) h) ∙ not_among m fs b))
    by false e = e

either : (a b : Bool) → b ≡ true → (a || b) ≡ true
either true b h = refl
either false b h = h

nothing_among : (p : Path) (nodes : List Path) → is_among p [] ≡ true → is_among p nodes ≡ true
nothing_among p nodes e = absurd (true≢false (sym e))

-- each of these fields is one of these nodes
abbrev Within : List Path → List Path → Type 0
Within fs nodes = (p : Path) → is_among p fs ≡ true → is_among p nodes ≡ true

step : (m f : Path) (ms fs : List Path) (n : ℕ) → Behind m ms → Behind f fs → Within (f ∷ fs) (m ∷ ms)
    → (Within fs ms → filter_map (place (n + 1) fs) ms ≡ range_with_len (n + 1) (length fs))
    → (Within (f ∷ fs) ms → filter_map (place n (f ∷ fs)) ms ≡ range_with_len n (length (f ∷ fs)))
    → filter_map (place n (f ∷ fs)) (m ∷ ms) ≡ range_with_len n (length (f ∷ fs))
step m f ms fs n b a h both one = by (preorder m f) refl
  where
    together : m ≡ f → filter_map (place n (f ∷ fs)) (m ∷ ms) ≡ range_with_len n (length (f ∷ fs))
    together e =
        let b' : Behind f ms = subst (λ (z : Path). Behind z ms) e b in
        let here : same f m ≡ true = subst (λ (z : Path). same f z ≡ true) (sym e) (same_itself f) in
        ap (λ (t : Bool). cons_option (cond t (Some n) (place (n + 1) fs m)) (filter_map (place n (f ∷ fs)) ms)) here
        ∙ ap (λ (zs : List ℕ). n ∷ zs) (past n f fs ms b' ∙ both (λ p t. sym (no_first (same p m) (is_among p ms) (subst (λ (z : Path). same p z ≡ false) (sym e) (apart p f fs a t))) ∙ h p (either (same p f) (is_among p fs) t)))

    alone : preorder m f ≡ Less → filter_map (place n (f ∷ fs)) (m ∷ ms) ≡ range_with_len n (length (f ∷ fs))
    alone e =
        let after : Behind m (f ∷ fs) = (e, behind_more m f fs e a) in
        ap (λ (o : Option ℕ). cons_option o (filter_map (place n (f ∷ fs)) ms)) (none_there n (f ∷ fs) m after)
        ∙ one (λ p t. sym (no_first (same p m) (is_among p ms) (apart p m (f ∷ fs) after t)) ∙ h p t)

    by : (o : Ordering) → preorder m f ≡ o → filter_map (place n (f ∷ fs)) (m ∷ ms) ≡ range_with_len n (length (f ∷ fs))
    by Less e = alone e
    by Equal e = together (same_from m f e)
    by Greater e =
        let less = turned m f e in
        absurd (true≢false (sym (h f (head_among f fs)) ∙ not_among f (m ∷ ms) (less, behind_more f m ms less b)))

follow : (nodes fs : List Path) (n : ℕ) → Rises nodes → Rises fs → Within fs nodes → filter_map (place n fs) nodes ≡ range_with_len n (length fs)
unfolding IsStrictlySortedBy
follow [] [] n r s h = refl
follow [] (f ∷ fs) n r s h = absurd (true≢false (sym (h f (head_among f fs))))
follow (m ∷ ms) [] n r s h = follow ms [] n r.1 s (λ p e. nothing_among p ms e)
follow (m ∷ ms) (f ∷ fs) n r s h = step m f ms fs n r.0 s.0 h (λ w. follow ms fs (n + 1) r.1 s.1 w) (λ w. follow ms (f ∷ fs) n r.1 s w)

named_among : (inserted : List Path) (uses : List Use) (p : Path) → is_among p (fields inserted uses) ≡ is_among p (named inserted uses)
named_among inserted uses p = all_among p (named inserted uses) []

pub numbers_follow : (inserted : List Path) (uses : List Use) (nodes : List Path) → Rises nodes → Within (named inserted uses) nodes
    → filter_map (number (slots inserted uses)) nodes ≡ range_with_len 0 (length (slots inserted uses))
numbers_follow inserted uses nodes r h =
    alike (number (slots inserted uses)) (place 0 (fields inserted uses)) (λ p. slot_place uses 0 (fields inserted uses) p) nodes
    ∙ (follow nodes (fields inserted uses) 0 r (all_rise (named inserted uses) [] nothing_rises) (λ p e. h p (sym (named_among inserted uses p) ∙ e))
    ∙ ap (range_with_len 0) (sym (length-map (fields inserted uses) (slot_of uses))))

few : {A B : Type 0} (f : A → Option B) (xs : List A) → length (filter_map f xs) ≤ length xs
few f [] = omega arith
few {A} {B} f (x ∷ xs) = by (f x) (few f xs)
  where
    by : (o : Option B) → length (filter_map f xs) ≤ length xs → length (cons_option o (filter_map f xs)) ≤ length (x ∷ xs)
    by None h = omega (arith, h)
    by (Some y) h = omega (arith, h)

pub slots_few : (inserted : List Path) (uses : List Use) (nodes : List Path) → Rises nodes → Within (named inserted uses) nodes → length (slots inserted uses) ≤ length nodes
slots_few inserted uses nodes r h =
    let all = ap length (numbers_follow inserted uses nodes r h) in
    let long = length-range_with_len 0 (length (slots inserted uses)) in
    let most = few (number (slots inserted uses)) nodes in
    omega (arith, all, long, most)

place_is : (n : ℕ) (fs : List Path) (p : Path) → is_some (place n fs p) ≡ is_among p fs
place_is n [] p = refl
place_is n (f ∷ fs) p = by (same f p) (place_is (n + 1) fs p) ∙ ap (λ (t : Bool). t || is_among p fs) (nat_list_eq_equiv.symm f p)
  where
    by : (t : Bool) → is_some (place (n + 1) fs p) ≡ is_among p fs → is_some (cond t (Some n) (place (n + 1) fs p)) ≡ (t || is_among p fs)
    by true h = refl
    by false h = h

pub named_numbered : (inserted : List Path) (uses : List Use) (p : Path) → is_some (number (slots inserted uses) p) ≡ is_among p (named inserted uses)
named_numbered inserted uses p = ap is_some (slot_place uses 0 (fields inserted uses) p) ∙ (place_is 0 (fields inserted uses) p ∙ named_among inserted uses p)

made_at : (us : List Use) (fs : List Path) (k : ℕ) (d : Slot) → k < length (map (slot_of us) fs) → get_or (map (slot_of us) fs) k d ≡ slot_of us (get_or (map (slot_of us) fs) k d).field
made_at us [] k d h = absurd (omega (arith, h))
made_at us (f ∷ fs) zero d h = refl
made_at us (f ∷ fs) (suc k) d h = made_at us fs k d (omega (arith, h))

pub number_tells : (inserted : List Path) (uses : List Use) (p : Path) (k : ℕ) (d : Slot) → number (slots inserted uses) p ≡ Some k
    → (k < length (slots inserted uses)) × (get_or (slots inserted uses) k d ≡ slot_of uses p)
number_tells inserted uses p k d h =
    let at = number_here (slots inserted uses) p k h in
    (at.0, made_at uses (fields inserted uses) k d at.0 ∙ ap (slot_of uses) (same_is (get_or (slots inserted uses) k d).field p (at.1 d)))

-- ---- no more slots than are named

put_few : (qs : List Path) (p : Path) → length (put qs p) ≤ suc (length qs)
put_few [] p = omega arith
put_few (q ∷ qs) p = by (preorder p q) (put_few qs p)
  where
    by : (o : Ordering) → length (put qs p) ≤ suc (length qs) → length (match_ordering o (p ∷ q ∷ qs) (q ∷ qs) (q ∷ put qs p)) ≤ suc (suc (length qs))
    by Less h = omega arith
    by Equal h = omega arith
    by Greater h = omega (arith, h)

all_few : (xs qs : List Path) → length (fold put qs xs) ≤ length qs + length xs
all_few [] qs = omega arith
all_few (x ∷ xs) qs = (let h = all_few xs (put qs x) in let k = put_few qs x in omega (arith, h, k))

pub slots_named : (inserted : List Path) (uses : List Use) → length (slots inserted uses) ≤ length inserted + length uses
slots_named inserted uses =
    let made = length-map (fields inserted uses) (slot_of uses) in
    let most = all_few (named inserted uses) [] in
    let both = length-append inserted (map (λ (u : Use). u.field) uses) in
    let used = length-map uses (λ (u : Use). u.field) in
    omega (arith, made, most, both, used)

pub few_here : (inserted : List Path) (uses : List Use) → length inserted ≤ 100 → length uses ≤ 100 → length (slots inserted uses) ≤ MOST_SLOTS
few_here inserted uses h k = (let most = slots_named inserted uses in omega (arith, h, k, most))
