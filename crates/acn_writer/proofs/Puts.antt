-- Bits that are put in parts.
use Rattle.std.proofs.Common.{◌≡◌, ℕ, zero, suc, ◌+◌, ◌*◌, ◌%◌, ◌^◌, ◌<◌, ◌≤◌, Bool, false, List, [], ◌∷◌, ◌++◌, length, take, drop, get_or, replicate, refl, sym, ap, ◌∙◌, subst, arith, bit_or, Fits}
use Rattle.std.specs.Int.{w8, w64, from_be_bytes}
use Rattle.std.proofs.lemmas.List.{length-replicate, take_more, take_all}
use Rattle.std.proofs.lemmas.Nat.{shl_whole, or_shifted}
use Rattle.acn_num.specs.Bits.{bits, low_bits, number}
use Rattle.acn_num.proofs.BitLists.{length-bits, low_bits-number, number_below, bits-append}
use Rattle.acn_bits.proofs.Loads.{eight, number-bits_push}
use Rattle.acn_bits.proofs.Parts.{low_bits-zero}
use Rattle.acn_bits.specs.Writing.{Writes, place_of}
use Rattle.acn_bits.specs.declared.write_cursor.WriteCursor.{WriteCursor}
use Rattle.acn_ints.proofs.Writings.{writes_twice}

-- two writings, the second where the first ends
pub two_writes : {N : ℕ} (old mid new : WriteCursor N) (a b : List Bool) (n m : ℕ) → Writes old mid (place_of old) a (place_of old + n) → n ≡ length a → Writes mid new (place_of mid) b (place_of mid + m) → Writes old new (place_of old) (a ++ b) (place_of old + (n + m))
two_writes old mid new a b n m x e y =
    let at = x.moved in
    let y' : Writes mid new (place_of old + n) b (place_of mid + m) = subst (λ (k : ℕ). Writes mid new k b (place_of mid + m)) at y in
    let end : place_of mid + m ≡ place_of old + (n + m) = omega (arith, at) in
    subst (λ (k : ℕ). Writes old new (place_of old) (a ++ b) k) end (writes_twice old mid new (place_of old) (place_of old + n) (place_of mid + m) a b x (ap (λ (k : ℕ). place_of old + k) e) y')

-- Zeros.

zeros_join : (a b : ℕ) → replicate a false ++ replicate b false ≡ replicate (a + b) false
zeros_join zero b = (let e : b ≡ 0 + b = omega arith in ap (λ (k : ℕ). replicate k false) e)
zeros_join (suc a) b = (let e : suc (a + b) ≡ suc a + b = omega arith in ap (λ z. false ∷ z) (zeros_join a b) ∙ ap (λ (k : ℕ). replicate k false) e)

pub zeros_first : {N : ℕ} (old new : WriteCursor N) (k : ℕ) → Writes old new (place_of old) (low_bits k 0) (place_of old + k) → Writes old new (place_of old) (replicate k false) (place_of old + k)
zeros_first old new k w = subst (λ (bs : List Bool). Writes old new (place_of old) bs (place_of old + k)) (low_bits-zero k) w

pub zeros_start : {N : ℕ} (old new : WriteCursor N) (k n : ℕ) → k ≡ n → Writes old new (place_of old) (low_bits k 0) (place_of old + k) → Writes old new (place_of old) (replicate n false) (place_of old + n)
zeros_start old new k n e w = subst (λ (j : ℕ). Writes old new (place_of old) (replicate j false) (place_of old + j)) e (zeros_first old new k w)

pub zeros_next : {N : ℕ} (old mid new : WriteCursor N) (k m n : ℕ) → k + m ≡ n → Writes old mid (place_of old) (replicate k false) (place_of old + k) → Writes mid new (place_of mid) (low_bits m 0) (place_of mid + m) → Writes old new (place_of old) (replicate n false) (place_of old + n)
zeros_next old mid new k m n e x y =
    let z = two_writes old mid new (replicate k false) (replicate m false) k m x (sym (length-replicate k false)) (zeros_first mid new m y) in
    let w : Writes old new (place_of old) (replicate (k + m) false) (place_of old + (k + m)) = subst (λ (bs : List Bool). Writes old new (place_of old) bs (place_of old + (k + m))) (zeros_join k m) z in
    subst (λ (j : ℕ). Writes old new (place_of old) (replicate j false) (place_of old + j)) e w

-- Octets.

-- the number of eight octets, the most significant first
pub eight_octets : (octets word : List ℕ) (v : ℕ) → length octets ≤ 8 → 8 ≤ length octets → word ≡ take 8 octets → ((k : ℕ) → Fits w8 (get_or octets k 0)) → v ≡ from_be_bytes w64 word → v ≡ number (bits octets)
eight_octets octets word v few enough same each is = is ∙ (ap (from_be_bytes w64) (same ∙ take_all 8 octets few) ∙ eight octets (omega (arith, few, enough)) (λ k h. (each k).fits))

-- Lists of bits.

take_none : {A : Type 0} (n : ℕ) (xs : List A) → xs ≡ [] → take n xs ≡ []
take_none zero xs e = refl
take_none (suc n) [] e = refl
take_none (suc n) (x ∷ xs) e = cc

take_join : {A : Type 0} (k n : ℕ) (xs : List A) → take k xs ++ take n (drop k xs) ≡ take (k + n) xs
take_join zero n xs = (let e : n ≡ 0 + n = omega arith in ap (λ (j : ℕ). take j xs) e)
take_join (suc k) n [] = take_none n [] refl ∙ sym (take_none (suc k + n) [] refl)
take_join (suc k) n (x ∷ xs) = (let e : suc (k + n) ≡ suc k + n = omega arith in ap (λ z. x ∷ z) (take_join k n xs) ∙ ap (λ (j : ℕ). take j (x ∷ xs)) e)

pub take_long : {A : Type 0} (n : ℕ) (xs : List A) → n ≤ length xs → length (take n xs) ≡ n
take_long zero xs h = refl
take_long (suc n) [] h = absurd (omega arith)
take_long (suc n) (x ∷ xs) h = ap suc (take_long n xs (omega arith))

pub part_long : {A : Type 0} (k n : ℕ) (xs : List A) → k + n ≤ length xs → length (take n (drop k xs)) ≡ n
part_long zero n xs h = take_long n xs (omega (arith, h))
part_long (suc k) n [] h = absurd (omega (arith, h))
part_long (suc k) n (x ∷ xs) h = part_long k n xs (omega (arith, h))

-- the number of some bits spells them
pub spelled_back : (bs : List Bool) (n v : ℕ) → length bs ≡ n → v ≡ number bs → (v < 2 ^ n) × (low_bits n v ≡ bs)
spelled_back bs n v l e =
    (subst (λ (k : ℕ). v < 2 ^ k) l (subst (λ (k : ℕ). k < 2 ^ length bs) (sym e) (number_below bs)), ap (λ (k : ℕ). low_bits k v) (sym l) ∙ (ap (low_bits (length bs)) e ∙ low_bits-number bs))

pub bits_next : {N : ℕ} (list bs : List Bool) (old mid new : WriteCursor N) (k m n v : ℕ) → bs ≡ take m (drop k list) → length bs ≡ m → k + m ≤ length list → k + m ≡ n → v ≡ number bs
    → Writes old mid (place_of old) (take k list) (place_of old + k) → Writes mid new (place_of mid) (low_bits m v) (place_of mid + m) → Writes old new (place_of old) (take n list) (place_of old + n)
bits_next list bs old mid new k m n v is long within e value x y =
    let y' : Writes mid new (place_of mid) (take m (drop k list)) (place_of mid + m) = subst (λ (t : List Bool). Writes mid new (place_of mid) t (place_of mid + m)) ((spelled_back bs m v long value).1 ∙ is) y in
    let z = two_writes old mid new (take k list) (take m (drop k list)) k m x (sym (take_long k list (omega (arith, within)))) y' in
    let w : Writes old new (place_of old) (take (k + m) list) (place_of old + (k + m)) = subst (λ (t : List Bool). Writes old new (place_of old) t (place_of old + (k + m))) (take_join k m list) z in
    subst (λ (j : ℕ). Writes old new (place_of old) (take j list) (place_of old + j)) e w

pub bits_start : {N : ℕ} (list bs : List Bool) (old new : WriteCursor N) (k n v : ℕ) → bs ≡ take k list → length bs ≡ k → k ≡ n → v ≡ number bs → Writes old new (place_of old) (low_bits k v) (place_of old + k) → Writes old new (place_of old) (take n list) (place_of old + n)
bits_start list bs old new k n v is long e value w =
    subst (λ (j : ℕ). Writes old new (place_of old) (take j list) (place_of old + j)) e (subst (λ (t : List Bool). Writes old new (place_of old) t (place_of old + k)) ((spelled_back bs k v long value).1 ∙ is) w)

-- Octets.

front_long : (i : ℕ) (xs : List ℕ) → i ≤ length xs → length (bits (take i xs)) ≡ 8 * i
front_long i xs h = length-bits (take i xs) ∙ ap (λ (k : ℕ). 8 * k) (take_long i xs h)

-- one octet more in a word
pub octet_pushed : (octets : List ℕ) (i b all : ℕ) → i < length octets → length octets ≤ 8 → b < 256 → b ≡ get_or octets i 0 → all ≡ number (bits (take i octets)) → bit_or (all * 2 ^ 8 % 2 ^ 64) b ≡ number (bits (take (i + 1) octets))
octet_pushed octets i b all inside few byte is so_far =
    let width : length (bits (take i octets)) ≡ 8 * i = front_long i octets (omega (arith, inside)) in
    let below : all < 2 ^ (8 * i) = subst (λ (k : ℕ). all < 2 ^ k) width (subst (λ (k : ℕ). k < 2 ^ length (bits (take i octets))) (sym so_far) (number_below (bits (take i octets)))) in
    let whole = shl_whole all (8 * i) 8 64 below (omega (arith, inside, few)) in
    let or = or_shifted all 8 b byte in
    let next : take (i + 1) octets ≡ take i octets ++ b ∷ [] = take_more octets i 0 inside ∙ ap (λ (k : ℕ). take i octets ++ k ∷ []) (sym is) in
    ap (λ (k : ℕ). bit_or k b) whole ∙ (or ∙ (ap (λ (k : ℕ). k * 2 ^ 8 + b) so_far ∙ (sym (number-bits_push (take i octets) b byte) ∙ sym (ap (λ (t : List ℕ). number (bits t)) next))))

-- the number of some octets spells their bits
pub spelled_octets : (octets : List ℕ) (n v : ℕ) → length octets ≡ n → v ≡ number (bits octets) → (v < 2 ^ (8 * n)) × (low_bits (8 * n) v ≡ bits octets)
spelled_octets octets n v long e = spelled_back (bits octets) (8 * n) v (length-bits octets ∙ ap (λ (k : ℕ). 8 * k) long) e

pub octets_start : {N : ℕ} (octets : List ℕ) (old new : WriteCursor N) (k n v : ℕ) → k ≤ length octets → k ≡ n → v ≡ number (bits (take k octets)) → Writes old new (place_of old) (low_bits (8 * k) v) (place_of old + 8 * k)
    → Writes old new (place_of old) (bits (take n octets)) (place_of old + 8 * n)
octets_start octets old new k n v h same e w =
    subst (λ (j : ℕ). Writes old new (place_of old) (bits (take j octets)) (place_of old + 8 * j)) same (subst (λ (t : List Bool). Writes old new (place_of old) t (place_of old + 8 * k)) (spelled_octets (take k octets) k v (take_long k octets h) e).1 w)

pub octets_next : {N : ℕ} (octets part : List ℕ) (old mid new : WriteCursor N) (k m n v : ℕ) → part ≡ take m (drop k octets) → k + m ≤ length octets → k + m ≡ n → v ≡ number (bits part) → Writes old mid (place_of old) (bits (take k octets)) (place_of old + 8 * k)
    → Writes mid new (place_of mid) (low_bits (8 * m) v) (place_of mid + 8 * m) → Writes old new (place_of old) (bits (take n octets)) (place_of old + 8 * n)
octets_next octets part old mid new k m n v is within e value x y =
    let long : length part ≡ m = ap length is ∙ part_long k m octets within in
    let y' : Writes mid new (place_of mid) (bits part) (place_of mid + 8 * m) = subst (λ (t : List Bool). Writes mid new (place_of mid) t (place_of mid + 8 * m)) (spelled_octets part m v long value).1 y in
    let z = two_writes old mid new (bits (take k octets)) (bits part) (8 * k) (8 * m) x (sym (front_long k octets (omega (arith, within)))) y' in
    let all : bits (take k octets) ++ bits part ≡ bits (take n octets) =
    sym (bits-append (take k octets) part) ∙ (ap (λ (t : List ℕ). bits (take k octets ++ t)) is ∙ (ap bits (take_join k m octets) ∙ ap (λ (j : ℕ). bits (take j octets)) e)) in
    let end : 8 * k + 8 * m ≡ 8 * n = omega (arith, e) in
    subst (λ (j : ℕ). Writes old new (place_of old) (bits (take n octets)) (place_of old + j)) end (subst (λ (t : List Bool). Writes old new (place_of old) t (place_of old + (8 * k + 8 * m))) all z)
