-- What a header says of the packet that it begins.
use Rattle.std.proofs.Common.{◌≡◌, ℕ, zero, suc, ◌+◌, ◌*◌, ◌%◌, ◌<◌, ◌≤◌, List, [], ◌∷◌, length, take, get_or, Option, None, Some, refl, sym, ap, ◌∙◌, arith, length-take}
use Rattle.acn_route.specs.Space.{packet_length, IsSpacePacket, IsUnfinished, apid_of}
use Rattle.acn_supply.specs.declared.window.TheConstants.{MOST_IN_HAND}

pub long_header : (bs : List ℕ) → 6 ≤ length bs → packet_length bs ≡ Some (7 + (256 * get_or bs 4 0 + get_or bs 5 0))
long_header (a ∷ b ∷ c ∷ d ∷ e ∷ f ∷ bs) h = refl
long_header [] h = absurd (omega arith)
long_header (a ∷ []) h = absurd (omega arith)
long_header (a ∷ b ∷ []) h = absurd (omega arith)
long_header (a ∷ b ∷ c ∷ []) h = absurd (omega arith)
long_header (a ∷ b ∷ c ∷ d ∷ []) h = absurd (omega arith)
long_header (a ∷ b ∷ c ∷ d ∷ e ∷ []) h = absurd (omega arith)

pub short_header : (bs : List ℕ) → length bs < 6 → packet_length bs ≡ None
short_header (a ∷ b ∷ c ∷ d ∷ e ∷ f ∷ bs) h = absurd (omega arith)
short_header [] h = refl
short_header (a ∷ []) h = refl
short_header (a ∷ b ∷ []) h = refl
short_header (a ∷ b ∷ c ∷ []) h = refl
short_header (a ∷ b ∷ c ∷ d ∷ []) h = refl
short_header (a ∷ b ∷ c ∷ d ∷ e ∷ []) h = refl

-- what a length comes from
told : (bs : List ℕ) (n : ℕ) → packet_length bs ≡ Some n → (6 ≤ length bs) × (7 ≤ n)
told (a ∷ b ∷ c ∷ d ∷ e ∷ f ∷ bs) n h = (omega arith, omega (arith, some_one _ n h))
  where
    some_one : (m n : ℕ) → Some m ≡ Some n → m ≡ n
    some_one m n e = cc
told [] n h = absurd cc
told (a ∷ []) n h = absurd cc
told (a ∷ b ∷ []) n h = absurd cc
told (a ∷ b ∷ c ∷ []) n h = absurd cc
told (a ∷ b ∷ c ∷ d ∷ []) n h = absurd cc
told (a ∷ b ∷ c ∷ d ∷ e ∷ []) n h = absurd cc

-- the header of a front
front_tells : (n : ℕ) (bs : List ℕ) → 6 ≤ n → 6 ≤ length bs → packet_length (take n bs) ≡ packet_length bs
front_tells (suc (suc (suc (suc (suc (suc n)))))) (a ∷ b ∷ c ∷ d ∷ e ∷ f ∷ bs) h k = refl
front_tells (suc (suc (suc (suc (suc (suc n)))))) [] h k = absurd (omega arith)
front_tells (suc (suc (suc (suc (suc (suc n)))))) (a ∷ []) h k = absurd (omega arith)
front_tells (suc (suc (suc (suc (suc (suc n)))))) (a ∷ b ∷ []) h k = absurd (omega arith)
front_tells (suc (suc (suc (suc (suc (suc n)))))) (a ∷ b ∷ c ∷ []) h k = absurd (omega arith)
front_tells (suc (suc (suc (suc (suc (suc n)))))) (a ∷ b ∷ c ∷ d ∷ []) h k = absurd (omega arith)
front_tells (suc (suc (suc (suc (suc (suc n)))))) (a ∷ b ∷ c ∷ d ∷ e ∷ []) h k = absurd (omega arith)
front_tells zero bs h k = absurd (omega arith)
front_tells (suc zero) bs h k = absurd (omega arith)
front_tells (suc (suc zero)) bs h k = absurd (omega arith)
front_tells (suc (suc (suc zero))) bs h k = absurd (omega arith)
front_tells (suc (suc (suc (suc zero)))) bs h k = absurd (omega arith)
front_tells (suc (suc (suc (suc (suc zero))))) bs h k = absurd (omega arith)

pub whole_there : (bs : List ℕ) (n : ℕ) → packet_length bs ≡ Some n → n ≤ length bs → (0 < n) × IsSpacePacket (take n bs)
whole_there bs n h within =
    let t = told bs n h in
    let long : length (take n bs) ≡ n = simp length-take (omega (arith, within)) in
    (omega (arith, t.1), front_tells n bs (omega (arith, t.1)) t.0 ∙ h ∙ ap (λ (k : ℕ). Some k) (sym long))

pub none_whole : (bs : List ℕ) → packet_length bs ≡ None → IsUnfinished bs × (length bs < MOST_IN_HAND)
none_whole (a ∷ b ∷ c ∷ d ∷ e ∷ f ∷ bs) h = absurd cc
none_whole [] h = ((λ n e. absurd (cc e)), omega arith)
none_whole (a ∷ []) h = ((λ n e. absurd (cc e)), omega arith)
none_whole (a ∷ b ∷ []) h = ((λ n e. absurd (cc e)), omega arith)
none_whole (a ∷ b ∷ c ∷ []) h = ((λ n e. absurd (cc e)), omega arith)
none_whole (a ∷ b ∷ c ∷ d ∷ []) h = ((λ n e. absurd (cc e)), omega arith)
none_whole (a ∷ b ∷ c ∷ d ∷ e ∷ []) h = ((λ n e. absurd (cc e)), omega arith)

pub not_whole : (bs : List ℕ) (n : ℕ) → packet_length bs ≡ Some n → n ≤ 65542 → length bs < n → IsUnfinished bs × (length bs < MOST_IN_HAND)
not_whole bs n h most less = ((λ k e. omega (arith, less, one n k (sym h ∙ e))), omega (arith, most, less))
  where
    one : (m k : ℕ) → Some m ≡ Some k → m ≡ k
    one m k e = cc

pub long_apid : (bs : List ℕ) → 2 ≤ length bs → apid_of bs ≡ 256 * (get_or bs 0 0 % 8) + get_or bs 1 0
long_apid (a ∷ b ∷ bs) h = refl
long_apid [] h = absurd (omega arith)
long_apid (a ∷ []) h = absurd (omega arith)

pub short_apid : (bs : List ℕ) → length bs < 2 → apid_of bs ≡ 0
short_apid (a ∷ b ∷ bs) h = absurd (omega arith)
short_apid [] h = refl
short_apid (a ∷ []) h = refl
