-- Octets that are at most 127, some at once.
use Rattle.std.proofs.Common.{◌≡◌, ℕ, zero, suc, ◌+◌, ◌-◌, ◌*◌, ◌/◌, ◌%◌, ◌^◌, ◌<◌, ◌≤◌, Bool, true, List, [], ◌∷◌, length, take, drop, get_or, refl, sym, ap, ◌∙◌, subst, arith, bit_and, nat_eq, Fits}
use Rattle.std.specs.Prelude.{nat_le}
use Rattle.std.specs.Int.{w8, w32, w64, from_be_bytes}
use Rattle.std.specs.List.{list_all}
use Rattle.std.proofs.lemmas.Bool.{and_parts, eqb-true}
use Rattle.std.proofs.lemmas.Bool.Decides.{nat_tests}
use Rattle.std.proofs.lemmas.List.{length-take-le, length-drop, take_all, drop-drop, get_or-take}
use Rattle.std.proofs.lemmas.Nat.{and_block}
use Rattle.std.proofs.lemmas.Nat.Bits.{and_pow}

abbrev low : ℕ → Bool
low c = nat_le c 127

low_sure : (c : ℕ) → c ≤ 127 → low c ≡ true
low_sure c h = grind (arith, nat_tests)

-- An octet whose top bit isn't set, and what stands in front of it.
top_unset : (h : ℕ) → h < 256 → bit_and h 128 ≡ 0 → h ≤ 127
top_unset h below is = let e : bit_and h 128 ≡ h / 2 ^ 7 % 2 * 2 ^ 7 = and_pow h 7 in omega (arith, e, is, below)

one_low : (a m h : ℕ) → h < 256 → bit_and (a * 2 ^ 8 + h) (m * 2 ^ 8 + 128) ≡ 0 → (bit_and a m ≡ 0) × (h ≤ 127)
one_low a m h below is =
    let e = and_block 8 a m h 128 below (omega arith) in
    (omega (arith, e, is), top_unset h below (omega (arith, e, is)))

four_low : (a b c d : ℕ) → a < 256 → b < 256 → c < 256 → d < 256 → (v : ℕ) → v ≡ from_be_bytes w32 (a ∷ b ∷ c ∷ d ∷ []) → bit_and v 2155905152 ≡ 0 → list_all low (a ∷ b ∷ c ∷ d ∷ []) ≡ true
four_low a b c d ha hb hc hd v is none =
    let e : v ≡ ((a * 2 ^ 8 + b) * 2 ^ 8 + c) * 2 ^ 8 + d = omega (arith, is) in
    let sd = one_low ((a * 2 ^ 8 + b) * 2 ^ 8 + c) 8421504 d hd (sym (ap (λ (n : ℕ). bit_and n 2155905152) e) ∙ none) in
    let sc = one_low (a * 2 ^ 8 + b) 32896 c hc sd.0 in
    let sb = one_low a 128 b hb sc.0 in
    rw (low_sure a (top_unset a ha sb.0), low_sure b sb.1, low_sure c sc.1, low_sure d sd.1) refl

eight_low : (a b c d e f g h : ℕ) → a < 256 → b < 256 → c < 256 → d < 256 → e < 256 → f < 256 → g < 256 → h < 256 → (v : ℕ) → v ≡ from_be_bytes w64 (a ∷ b ∷ c ∷ d ∷ e ∷ f ∷ g ∷ h ∷ []) → bit_and v 9259542123273814144 ≡ 0
    → list_all low (a ∷ b ∷ c ∷ d ∷ e ∷ f ∷ g ∷ h ∷ []) ≡ true
eight_low a b c d e f g h ha hb hc hd he hf hg hh v is none =
    let four = ((a * 2 ^ 8 + b) * 2 ^ 8 + c) * 2 ^ 8 + d in
    let whole : v ≡ (((four * 2 ^ 8 + e) * 2 ^ 8 + f) * 2 ^ 8 + g) * 2 ^ 8 + h = omega (arith, is) in
    let sh = one_low (((four * 2 ^ 8 + e) * 2 ^ 8 + f) * 2 ^ 8 + g) 36170086419038336 h hh (sym (ap (λ (n : ℕ). bit_and n 9259542123273814144) whole) ∙ none) in
    let sg = one_low ((four * 2 ^ 8 + e) * 2 ^ 8 + f) 141289400074368 g hg sh.0 in
    let sf = one_low (four * 2 ^ 8 + e) 551911719040 f hf sg.0 in
    let se = one_low four 2155905152 e he sf.0 in
    let sd = one_low ((a * 2 ^ 8 + b) * 2 ^ 8 + c) 8421504 d hd se.0 in
    let sc = one_low (a * 2 ^ 8 + b) 32896 c hc sd.0 in
    let sb = one_low a 128 b hb sc.0 in
    rw (low_sure a (top_unset a ha sb.0), low_sure b sb.1, low_sure c sc.1, low_sure d sd.1, low_sure e se.1, low_sure f sf.1, low_sure g sg.1, low_sure h sh.1) refl

four_of : (xs : List ℕ) → length xs ≡ 4 → ((k : ℕ) → k < 4 → get_or xs k 0 < 256) → bit_and (from_be_bytes w32 xs) 2155905152 ≡ 0 → list_all low xs ≡ true
four_of (a ∷ b ∷ c ∷ d ∷ []) long each none = four_low a b c d (each 0 (omega arith)) (each 1 (omega arith)) (each 2 (omega arith)) (each 3 (omega arith)) _ refl none
four_of _ long each none = absurd (omega arith)

eight_of : (xs : List ℕ) → length xs ≡ 8 → ((k : ℕ) → k < 8 → get_or xs k 0 < 256) → bit_and (from_be_bytes w64 xs) 9259542123273814144 ≡ 0 → list_all low xs ≡ true
eight_of (a ∷ b ∷ c ∷ d ∷ e ∷ f ∷ g ∷ h ∷ []) long each none = eight_low a b c d e f g h (each 0 (omega arith)) (each 1 (omega arith)) (each 2 (omega arith)) (each 3 (omega arith)) (each 4 (omega arith)) (each 5 (omega arith)) (each 6 (omega arith)) (each 7 (omega arith)) _ refl none
eight_of _ long each none = absurd (omega arith)

small_in : (n : ℕ) (xs octets : List ℕ) → octets ≡ take n xs → ((k : ℕ) → Fits w8 (get_or xs k 0)) → (k : ℕ) → k < n → get_or octets k 0 < 256
small_in n xs octets is each k h = subst (λ (t : List ℕ). get_or t k 0 < 256) (sym is) (rw (get_or-take n xs k 0 h) (each k).fits)

-- the first four or eight octets of a text
pub first_four_low : (xs octets : List ℕ) (v : ℕ) → 4 ≤ length xs → octets ≡ take 4 xs → ((k : ℕ) → Fits w8 (get_or xs k 0)) → v ≡ from_be_bytes w32 octets → nat_eq (bit_and v 2155905152) 0 ≡ true → list_all low (take 4 xs) ≡ true
first_four_low xs octets v enough is each value none =
    subst (λ (t : List ℕ). list_all low t ≡ true) is (four_of octets (ap length is ∙ length-take-le 4 xs enough) (small_in 4 xs octets is each) (sym (ap (λ (n : ℕ). bit_and n 2155905152) value) ∙ eqb-true (bit_and v 2155905152) 0 none))

pub first_eight_low : (xs octets : List ℕ) (v : ℕ) → 8 ≤ length xs → octets ≡ take 8 xs → ((k : ℕ) → Fits w8 (get_or xs k 0)) → v ≡ from_be_bytes w64 octets → nat_eq (bit_and v 9259542123273814144) 0 ≡ true → list_all low (take 8 xs) ≡ true
first_eight_low xs octets v enough is each value none =
    subst (λ (t : List ℕ). list_all low t ≡ true) is (eight_of octets (ap length is ∙ length-take-le 8 xs enough) (small_in 8 xs octets is each) (sym (ap (λ (n : ℕ). bit_and n 9259542123273814144) value) ∙ eqb-true (bit_and v 9259542123273814144) 0 none))

-- Two runs that may overlap.

all_drop : (j : ℕ) (zs : List ℕ) → list_all low zs ≡ true → list_all low (drop j zs) ≡ true
all_drop zero zs h = h
all_drop (suc j) [] h = refl
all_drop (suc j) (z ∷ zs) h = all_drop j zs (and_parts (low z) (list_all low zs) h).1

all_join : (k : ℕ) (xs : List ℕ) → list_all low (take k xs) ≡ true → list_all low (drop k xs) ≡ true → list_all low xs ≡ true
all_join zero xs front back = back
all_join (suc k) [] front back = refl
all_join (suc k) (x ∷ xs) front back = let q = and_parts (low x) (list_all low (take k xs)) front in rw q.0 (all_join k xs q.1 back)

pub two_runs : (n : ℕ) (xs ys : List ℕ) → n ≤ length xs → length xs ≤ n + n → ys ≡ take (length xs - (length xs - n)) (drop (length xs - n) xs) → list_all low (take n xs) ≡ true → list_all low (take n ys) ≡ true → list_all low xs ≡ true
two_runs n xs ys enough few is front back =
    let at = length xs - n in
    let rest : length (drop at xs) ≡ n = length-drop at xs ∙ omega (arith, enough) in
    let whole : ys ≡ drop at xs = is ∙ take_all (length xs - at) (drop at xs) (omega (arith, rest, enough)) in
    let end : take n ys ≡ drop at xs = ap (λ (t : List ℕ). take n t) whole ∙ take_all n (drop at xs) (omega (arith, rest)) in
    let back' : list_all low (drop at xs) ≡ true = subst (λ (t : List ℕ). list_all low t ≡ true) end back in
    let place : at + (n - at) ≡ n = omega (arith, few) in
    let same : drop (n - at) (drop at xs) ≡ drop n xs = drop-drop (n - at) at xs ∙ ap (λ (k : ℕ). drop k xs) place in
    all_join n xs front (subst (λ (t : List ℕ). list_all low t ≡ true) same (all_drop (n - at) (drop at xs) back'))
