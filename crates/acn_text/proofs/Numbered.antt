-- Characters whose bits are written as one number.
use Rattle.std.proofs.Common.{◌≡◌, ℕ, zero, suc, ◌+◌, ◌-◌, ◌*◌, ◌%◌, ◌^◌, ◌<◌, ◌≤◌, Bool, List, [], ◌∷◌, ◌++◌, length, take, drop, get_or, refl, sym, ap, ◌∙◌, subst, arith, bit_or, length-append, append_assoc, take-append-drop}
use Rattle.std.proofs.lemmas.List.{length-take-le, length-drop}
use Rattle.std.proofs.lemmas.Nat.{mul-le, shl_whole, or_shifted}
use Rattle.acn_num.specs.Bits.{low_bits, number}
use Rattle.acn_num.proofs.BitLists.{length-low_bits, low_bits-number, number-append, number-low_bits, number_below}
use Rattle.acn_bits.specs.Writing.{Writes, place_of}
use Rattle.acn_bits.specs.declared.write_cursor.WriteCursor.{WriteCursor}
use Rattle.acn_bits.proofs.Loads.{small}
use Rattle.acn_grammar.specs.Spell.{character_number}
use Rattle.acn_grammar.specs.declared.node.TextLeaf.{TextLeaf}
use Rattle.acn_grammar.proofs.TextRules.{TextRules}
use Rattle.acn_text.specs.Steps.{NumbersFit, character_bits}
use Rattle.acn_text.proofs.Listing.{character_bits-append, fit_at, one_more}
use Rattle.acn_text.proofs.Spelled.{character_bits_long, front_long}
use Rattle.acn_text.proofs.Written.{two_writes}

-- the bits of at most eight narrow characters fit a word
pub fits_word : (width n : ℕ) → width ≤ 8 → n ≤ 8 → width * n ≤ 64
fits_word width n narrow few = mul-le width n 8 8 narrow few

-- and those of a part lie within those of the text
pub part_room : (width k m n : ℕ) → k + m ≤ n → width * k + width * m ≤ width * n
part_room width k m n h = (let up = mul-le width (k + m) width n (omega arith) h in omega (arith, up))

-- one character more in a word
pub push_character : (leaf : TextLeaf) (f : TextRules leaf) (cs : List ℕ) (i n all : ℕ) → i < length cs → length cs ≤ 8 → leaf.width ≤ 8 → NumbersFit leaf cs → n ≡ character_number leaf (get_or cs i 0) → all ≡ number (character_bits leaf (take i cs))
    → bit_or (all * 2 ^ leaf.width % 2 ^ 64) n ≡ number (character_bits leaf (take (i + 1) cs))
push_character leaf f cs i n all inside few narrow fit is so_far =
    let w = leaf.width in
    let front = character_bits leaf (take i cs) in
    let below_n : n < 2 ^ w = subst (λ (k : ℕ). k < 2 ^ w) (sym is) (fit_at leaf cs i inside fit).1 in
    let long : length front ≡ w * i = front_long leaf f cs i inside fit in
    let below : all < 2 ^ (w * i) = subst (λ (k : ℕ). all < 2 ^ k) long (subst (λ (k : ℕ). k < 2 ^ length front) (sym so_far) (number_below front)) in
    let room : w * (i + 1) ≤ 64 = fits_word w (i + 1) narrow (omega (arith, inside, few)) in
    let sum : w * i + w ≤ 64 = omega (arith, room) in
    let whole = shl_whole all (w * i) w 64 below sum in
    let or = or_shifted all w n below_n in
    let piece : number (low_bits w n) ≡ n = number-low_bits w n ∙ small n (2 ^ w) below_n in
    let joined : number (front ++ low_bits w n) ≡ all * 2 ^ w + n =
    number-append front (low_bits w n) ∙ (ap (λ (k : ℕ). number front * 2 ^ k + number (low_bits w n)) (length-low_bits w n) ∙ (ap (λ (k : ℕ). number front * 2 ^ w + k) piece ∙ ap (λ (k : ℕ). k * 2 ^ w + n) (sym so_far))) in
    let next : character_bits leaf (take (i + 1) cs) ≡ front ++ low_bits w n = one_more leaf cs i inside ∙ ap (λ (k : ℕ). front ++ low_bits w k) (sym is) in
    ap (λ (k : ℕ). bit_or k n) whole ∙ (or ∙ (sym joined ∙ sym (ap number next)))

-- Parts of a text.

take_none : (n : ℕ) (xs : List ℕ) → xs ≡ [] → take n xs ≡ []
take_none zero xs e = refl
take_none (suc n) [] e = refl
take_none (suc n) (x ∷ xs) e = cc

take_join : (k n : ℕ) (xs : List ℕ) → take k xs ++ take n (drop k xs) ≡ take (k + n) xs
take_join zero n xs = (let e : n ≡ 0 + n = omega arith in ap (λ (j : ℕ). take j xs) e)
take_join (suc k) n [] = take_none n [] refl ∙ sym (take_none (suc k + n) [] refl)
take_join (suc k) n (x ∷ xs) = (let e : suc (k + n) ≡ suc k + n = omega arith in ap (λ z. x ∷ z) (take_join k n xs) ∙ ap (λ (j : ℕ). take j (x ∷ xs)) e)

pub first_fit : (leaf : TextLeaf) (cs : List ℕ) (n : ℕ) → NumbersFit leaf cs → NumbersFit leaf (take n cs)
first_fit leaf cs zero h = tt
first_fit leaf [] (suc n) h = tt
first_fit leaf (c ∷ cs) (suc n) h = (h.0, first_fit leaf cs n h.1)

rest_fit : (leaf : TextLeaf) (cs : List ℕ) (k : ℕ) → NumbersFit leaf cs → NumbersFit leaf (drop k cs)
rest_fit leaf cs zero h = h
rest_fit leaf [] (suc k) h = tt
rest_fit leaf (c ∷ cs) (suc k) h = rest_fit leaf cs k h.1

pub part_fit : (leaf : TextLeaf) (cs : List ℕ) (k n : ℕ) → NumbersFit leaf cs → NumbersFit leaf (take n (drop k cs))
part_fit leaf cs k n h = first_fit leaf (drop k cs) n (rest_fit leaf cs k h)

pub part_long : (k n : ℕ) (xs : List ℕ) → k + n ≤ length xs → length (take n (drop k xs)) ≡ n
part_long k n xs h = let l = length-drop k xs in length-take-le n (drop k xs) (omega (arith, h, l))

-- the number of some characters spells their bits
pub spelled_back : (leaf : TextLeaf) (f : TextRules leaf) (cs : List ℕ) (n v : ℕ) → length cs ≡ n → NumbersFit leaf cs → v ≡ number (character_bits leaf cs) → (v < 2 ^ (leaf.width * n)) × (low_bits (leaf.width * n) v ≡ character_bits leaf cs)
spelled_back leaf f cs n v l fit e =
    let bs = character_bits leaf cs in
    let long : length bs ≡ leaf.width * n = character_bits_long leaf f cs fit ∙ ap (λ (k : ℕ). leaf.width * k) l in
    (subst (λ (k : ℕ). v < 2 ^ k) long (subst (λ (k : ℕ). k < 2 ^ length bs) (sym e) (number_below bs)), ap (λ (k : ℕ). low_bits k v) (sym long) ∙ (ap (low_bits (length bs)) e ∙ low_bits-number bs))

pub next_written : {N : ℕ} (leaf : TextLeaf) (f : TextRules leaf) (cs ds : List ℕ) (old mid new : WriteCursor N) (k m n v : ℕ) → ds ≡ take m (drop k cs) → k + m ≤ length cs → k + m ≡ n → NumbersFit leaf cs → v ≡ number (character_bits leaf ds)
    → Writes old mid (place_of old) (character_bits leaf (take k cs)) (place_of old + leaf.width * k) → Writes mid new (place_of mid) (low_bits (leaf.width * m) v) (place_of mid + leaf.width * m)
    → Writes old new (place_of old) (character_bits leaf (take n cs)) (place_of old + leaf.width * n)
next_written leaf f cs ds old mid new k m n v is within e fit value x y =
    let w = leaf.width in
    let part = take m (drop k cs) in
    let value' : v ≡ number (character_bits leaf part) = value ∙ ap (λ (t : List ℕ). number (character_bits leaf t)) is in
    let bits : low_bits (w * m) v ≡ character_bits leaf part = (spelled_back leaf f part m v (part_long k m cs within) (part_fit leaf cs k m fit) value').1 in
    let y' : Writes mid new (place_of mid) (character_bits leaf part) (place_of mid + w * m) = subst (λ (t : List Bool). Writes mid new (place_of mid) t (place_of mid + w * m)) bits y in
    let long : length (character_bits leaf (take k cs)) ≡ w * k = character_bits_long leaf f (take k cs) (first_fit leaf cs k fit) ∙ ap (λ (j : ℕ). w * j) (length-take-le k cs (omega (arith, within))) in
    let both = two_writes old mid new (character_bits leaf (take k cs)) (character_bits leaf part) (w * k) (w * m) x (sym long) y' in
    let all : character_bits leaf (take k cs) ++ character_bits leaf part ≡ character_bits leaf (take n cs) =
    sym (character_bits-append leaf (take k cs) part) ∙ (ap (character_bits leaf) (take_join k m cs) ∙ ap (λ (j : ℕ). character_bits leaf (take j cs)) e) in
    let end : w * k + w * m ≡ w * n = times w k m ∙ ap (λ (j : ℕ). w * j) e in
    subst (λ (j : ℕ). Writes old new (place_of old) (character_bits leaf (take n cs)) (place_of old + j)) end (subst (λ (t : List Bool). Writes old new (place_of old) t (place_of old + (w * k + w * m))) all both)
  where
    times : (w k m : ℕ) → w * k + w * m ≡ w * (k + m)
    times w k m = omega arith

-- a number of few bits and the characters behind it, as one number
pub first_word : (leaf : TextLeaf) (f : TextRules leaf) (cs : List ℕ) (a s v : ℕ) → NumbersFit leaf cs → length cs < 8 → leaf.width ≤ 8 → a ≤ 8 → s < 2 ^ a → v ≡ number (character_bits leaf cs)
    → (a + leaf.width * length cs ≤ 64) × (bit_or (s * 2 ^ (leaf.width * length cs) % 2 ^ 64) v < 2 ^ (a + leaf.width * length cs)) × (low_bits (a + leaf.width * length cs) (bit_or (s * 2 ^ (leaf.width * length cs) % 2 ^ 64) v) ≡ low_bits a s ++ character_bits leaf cs)
first_word leaf f cs a s v fit few narrow first below is =
    let k = leaf.width * length cs in
    let chars = character_bits leaf cs in
    let bs = low_bits a s ++ chars in
    let most = mul-le leaf.width (length cs) 8 7 narrow (omega (arith, few)) in
    let room : a + k ≤ 64 = omega (arith, most, first) in
    let chars_long : length chars ≡ k = character_bits_long leaf f cs fit in
    let v_below : v < 2 ^ k = subst (λ (j : ℕ). v < 2 ^ j) chars_long (subst (λ (j : ℕ). j < 2 ^ length chars) (sym is) (number_below chars)) in
    let long : length bs ≡ a + k = length-append (low_bits a s) chars ∙ (ap (λ (j : ℕ). j + length chars) (length-low_bits a s) ∙ ap (λ (j : ℕ). a + j) chars_long) in
    let word : bit_or (s * 2 ^ k % 2 ^ 64) v ≡ s * 2 ^ k + v = ap (λ (j : ℕ). bit_or j v) (shl_whole s a k 64 below room) ∙ or_shifted s k v v_below in
    let value : number bs ≡ s * 2 ^ k + v =
    number-append (low_bits a s) chars ∙ (ap (λ (j : ℕ). number (low_bits a s) * 2 ^ j + number chars) chars_long ∙ (ap (λ (j : ℕ). j * 2 ^ k + number chars) (number-low_bits a s ∙ small s (2 ^ a) below) ∙ ap (λ (j : ℕ). s * 2 ^ k + j) (sym is))) in
    let whole : bit_or (s * 2 ^ k % 2 ^ 64) v ≡ number bs = word ∙ sym value in
    (room, subst (λ (j : ℕ). bit_or (s * 2 ^ k % 2 ^ 64) v < 2 ^ j) long (subst (λ (j : ℕ). j < 2 ^ length bs) (sym whole) (number_below bs)), ap (λ (j : ℕ). low_bits j (bit_or (s * 2 ^ k % 2 ^ 64) v)) (sym long) ∙ (ap (low_bits (length bs)) whole ∙ low_bits-number bs))

-- a number, some characters behind it, and the others behind these
pub both_written : {N : ℕ} (leaf : TextLeaf) (f : TextRules leaf) (cs ds : List ℕ) (a s k : ℕ) (old mid new : WriteCursor N) → k ≤ length cs → ds ≡ drop k cs → NumbersFit leaf cs
    → Writes old mid (place_of old) (low_bits a s ++ character_bits leaf (take k cs)) (place_of old + (a + leaf.width * length (take k cs)))
    → Writes mid new (place_of mid) (character_bits leaf ds) (place_of mid + leaf.width * length ds)
    → Writes old new (place_of old) (low_bits a s ++ character_bits leaf cs) (place_of old + (a + leaf.width * length cs))
both_written leaf f cs ds a s k old mid new inside is fit x y =
    let w = leaf.width in
    let front = take k cs in
    let rest = drop k cs in
    let long : length (low_bits a s ++ character_bits leaf front) ≡ a + w * length front = length-append (low_bits a s) (character_bits leaf front) ∙ (ap (λ (j : ℕ). j + length (character_bits leaf front)) (length-low_bits a s) ∙ ap (λ (j : ℕ). a + j) (character_bits_long leaf f front (first_fit leaf cs k fit))) in
    let both = two_writes old mid new (low_bits a s ++ character_bits leaf front) (character_bits leaf rest) (a + w * length front) (w * length rest) x (sym long) (subst (λ (t : List ℕ). Writes mid new (place_of mid) (character_bits leaf t) (place_of mid + w * length t)) is y) in
    let all : (low_bits a s ++ character_bits leaf front) ++ character_bits leaf rest ≡ low_bits a s ++ character_bits leaf cs =
    append_assoc (low_bits a s) (character_bits leaf front) (character_bits leaf rest) ∙ ap (λ (t : List Bool). low_bits a s ++ t) (sym (character_bits-append leaf front rest) ∙ ap (character_bits leaf) (take-append-drop k cs)) in
    let sizes : length front + length rest ≡ length cs = sum (length front) (length rest) (length cs) k (length-take-le k cs inside) (length-drop k cs) inside in
    let end : (a + w * length front) + w * length rest ≡ a + w * length cs = times a w (length front) (length rest) ∙ ap (λ (j : ℕ). a + w * j) sizes in
    subst (λ (j : ℕ). Writes old new (place_of old) (low_bits a s ++ character_bits leaf cs) (place_of old + j)) end (subst (λ (t : List Bool). Writes old new (place_of old) t (place_of old + ((a + w * length front) + w * length rest))) all both)
  where
    sum : (x y n k : ℕ) → x ≡ k → y ≡ n - k → k ≤ n → x + y ≡ n
    sum x y n k p q h = omega (arith, p, q, h)

    times : (a w x y : ℕ) → (a + w * x) + w * y ≡ a + w * (x + y)
    times a w x y = omega arith
