-- Characters that were read out of words, and put as they stand in a string.
use Rattle.std.proofs.Common.{◌≡◌, ℕ, zero, suc, ◌+◌, ◌-◌, ◌*◌, ◌/◌, ◌%◌, ◌^◌, ◌<◌, ◌≤◌, ℤ, pos, Bool, true, false, List, [], ◌∷◌, ◌++◌, length, take, drop, Option, Some, None, if◌then◌else◌, refl, sym, ap, ◌∙◌, subst, arith, IsTrue, append-nil, append_assoc, length-append, take-append-drop}
use Rattle.std.specs.Prelude.{int_le, nat_abs, ◌-ℤ◌, IfSome}
use Rattle.std.proofs.lemmas.Int.{ints}
use Rattle.std.proofs.lemmas.Bool.{and_parts}
use Rattle.std.proofs.lemmas.Bool.Decides.{nat_tests}
use Rattle.std.proofs.lemmas.List.{length-take-le, take_all}
use Rattle.std.proofs.lemmas.List.Concat.{flat_map-append}
use Rattle.std.proofs.Math.Nat.{mul-le-mul_left}
use Rattle.json.specs.Print.{escape, escape_byte, quoted}
use Rattle.acn_num.specs.Bits.{number}
use Rattle.acn_num.specs.Ranges.{In, has}
use Rattle.acn_num.proofs.BitLists.{number-take, number-drop}
use Rattle.acn_bits.specs.Reading.{Reading, Reads, passed}
use Rattle.acn_bits.proofs.Readings.{reads_passed, reads_join}
use Rattle.acn_grammar.specs.Code.{Any}
use Rattle.acn_grammar.specs.Env.{Env}
use Rattle.acn_grammar.specs.Grammar.{Grammar, text, characters}
use Rattle.acn_grammar.specs.Leaves.{text_fine, rule_fine, width_fine, end_fine, sizing_fine}
use Rattle.acn_grammar.specs.Spell.{CharactersPart, SizePart, FormPart, EndedPart, character_number}
use Rattle.acn_grammar.specs.declared.node.TextLeaf.{TextLeaf}
use Rattle.acn_grammar.proofs.Characters.{characters_long}
use Rattle.acn_grammar.proofs.TextRules.{text_rules}
use Rattle.acn_reads.specs.Decoded.{Follows, Passes}
use Rattle.acn_text.proofs.Fine.{width_few}
use Rattle.acn_string_lines.specs.Letters.{AreLetters, AreCharacters, PutsCharacters}
use Rattle.acn_string_lines.specs.declared.letters.Letters.{Letters}

-- Letters.

-- the letters of an alphabet that is one range
letters_are : (leaf : TextLeaf) (l : Letters) (range : ℤ × ℤ) → IsTrue (text_fine leaf) → leaf.ended ≡ None → leaf.alphabet ≡ range ∷ [] → (range.0 ≡ pos l.low) × (range.1 ≡ pos l.high) → (l.high ≤ 127) × (l.ahead ≤ 127) → l.ahead ≡ (if leaf.indexed then l.low else 0) → AreLetters l leaf
letters_are leaf l range fine none one ends few ahead = record {
  sized = none;
  narrow = width_few leaf (text_rules leaf fine);
  few = few.0;
  near = few.1;
  each = λ c n from to is. (
    subst (λ rs. In rs (pos c)) (sym whole) (inside l.low l.high c from to),
    by leaf.indexed refl c n from to is,
  );
}
  where
    pair : (r : ℤ × ℤ) (a z : ℤ) → r.0 ≡ a → r.1 ≡ z → r ≡ (a, z)
    pair (x, y) a z p q = ap (λ (i : ℤ). (i, y)) p ∙ ap (λ (i : ℤ). (a, i)) q

    whole : leaf.alphabet ≡ (pos l.low, pos l.high) ∷ []
    whole = one ∙ ap (λ (x : ℤ × ℤ). x ∷ []) (pair range (pos l.low) (pos l.high) ends.0 ends.1)

    inside : (a z c : ℕ) → a ≤ c → c ≤ z → has ((pos a, pos z) ∷ []) (pos c) ≡ true
    inside a z c p q = grind (arith, ints, nat_tests)

    far : (a z c : ℕ) → a ≤ c → c ≤ z → (if int_le (pos c) (pos z) then nat_abs (pos c -ℤ pos a) else nat_abs (pos z -ℤ pos a) + 1 + 0) ≡ c - a
    far a z c p q = grind (arith, ints, nat_tests)

    by : (b : Bool) → leaf.indexed ≡ b → (c n : ℕ) → l.low ≤ c → c ≤ l.high → c ≡ n + l.ahead → character_number leaf c ≡ n
    by true b c n from to is = let e : l.ahead ≡ l.low = ahead ∙ ap (λ x. if x then l.low else 0) b in rw (b, whole, far l.low l.high c from to) (omega (arith, is, e))
    by false b c n from to is = let e : l.ahead ≡ 0 = ahead ∙ ap (λ x. if x then l.low else 0) b in rw b (omega (arith, is, e))

pub if_letters : (leaf : TextLeaf) (o : Option Letters) (range : ℤ × ℤ) → IsTrue (text_fine leaf) → leaf.ended ≡ None → leaf.alphabet ≡ range ∷ [] → IfSome o (λ l. (range.0 ≡ pos l.low) × (range.1 ≡ pos l.high)) → IfSome o (λ l. (l.high ≤ 127) × (l.ahead ≤ 127)) → IfSome o (λ l. l.ahead ≡ (if leaf.indexed then l.low else 0)) → IfSome o (λ l. AreLetters l leaf)
if_letters leaf None range fine none one ends few ahead = tt
if_letters leaf (Some l) range fine none one ends few ahead = letters_are leaf l range fine none one ends few ahead

-- Parts of a word.

-- the characters so far of those that a word spells
abbrev pub Parted : TextLeaf → (word n i : ℕ) → (old new : List ℕ) → Type 0
Parted leaf word n i old new = (bs : List Bool) → length bs ≡ leaf.width * n → word ≡ number bs → (cs : List ℕ) × AreCharacters leaf i cs (take (leaf.width * i) bs) × (new ≡ old ++ escape cs)

take_none : (k : ℕ) (bs : List Bool) → k ≡ 0 → take k bs ≡ []
take_none k bs e = ap (λ n. take n bs) e

pub none_parted : (leaf : TextLeaf) (word n : ℕ) (old : List ℕ) → Parted leaf word n 0 old old
none_parted leaf word n old bs long is = ([], record { size = refl; spelled = λ at. take_none (leaf.width * 0) bs (omega arith) }, sym (append-nil old))

-- characters, and more of them
behind : (leaf : TextLeaf) (cs ds : List ℕ) (at : ℕ) (a b : List Bool) → CharactersPart leaf cs at a → ((at : ℕ) → CharactersPart leaf ds at b) → CharactersPart leaf (cs ++ ds) at (a ++ b)
behind leaf [] ds at a b p q = subst (λ x. CharactersPart leaf ds at (x ++ b)) (sym p) (q at)
behind leaf (c ∷ cs) ds at a b p q = record {
  front = p.front;
  back = p.back ++ b;
  whole = ap (λ x. x ++ b) p.whole ∙ append_assoc p.front p.back b;
  first = p.first;
  second = behind leaf cs ds (at + length p.front) p.back b p.second q;
}

one : (leaf : TextLeaf) (c : ℕ) (b : List Bool) → In leaf.alphabet (pos c) → length b ≡ leaf.width → number b ≡ character_number leaf c → (at : ℕ) → CharactersPart leaf (c ∷ []) at b
one leaf c b p l v at = record { front = b; back = []; whole = sym (append-nil b); first = record { given = p; spelled = record { width = l; value = v } }; second = refl }

longer : (n m : ℕ) (cs ds : List ℕ) (leaf : TextLeaf) (a b : List Bool) → AreCharacters leaf n cs a → AreCharacters leaf m ds b → AreCharacters leaf (n + m) (cs ++ ds) (a ++ b)
longer n m cs ds leaf a b p q = record {
  size = length-append cs ds ∙ (ap (λ k. k + length ds) p.size ∙ ap (λ k. n + k) q.size);
  spelled = λ at. behind leaf cs ds at a b (p.spelled at) q.spelled;
}

escape_more : (a b : List ℕ) → escape (a ++ b) ≡ escape a ++ escape b
escape_more a b = flat_map-append escape_byte a b

escape_one : (c : ℕ) → escape (c ∷ []) ≡ escape_byte c
escape_one c = append-nil (escape_byte c)

-- the bits of a part of a word
abbrev between : (k w : ℕ) (bs : List Bool) → List Bool
between k w bs = drop k (take (k + w) bs)

split_at : (k w : ℕ) (bs : List Bool) → k + w ≤ length bs → take (k + w) bs ≡ take k bs ++ between k w bs
split_at k w bs h =
    sym (take-append-drop k (take (k + w) bs))
    ∙ ap (λ x. x ++ between k w bs) (shorter k w bs)
  where
    empty : (n : ℕ) → take {A = Bool} n [] ≡ []
    empty zero = refl
    empty (suc n) = refl

    shorter : (k w : ℕ) (bs : List Bool) → take k (take (k + w) bs) ≡ take k bs
    shorter zero w bs = refl
    shorter (suc k) w [] = ap (take (suc k)) (empty (suc k + w))
    shorter (suc k) w (x ∷ bs) = (let e : suc k + w ≡ suc (k + w) = omega arith in ap (λ n. take (suc k) (take n (x ∷ bs))) e ∙ ap (λ t. x ∷ t) (shorter k w bs))

between_long : (k w : ℕ) (bs : List Bool) → k + w ≤ length bs → length (between k w bs) ≡ w
between_long k w bs h =
    let l = length-append (take k bs) (between k w bs) in
    let e = ap length (split_at k w bs h) in
    let a = length-take-le (k + w) bs h in
    let b = length-take-le k bs (omega (arith, h)) in
    omega (arith, l, e, a, b)

between_number : (k w left : ℕ) (bs : List Bool) → k + w + left ≡ length bs → number (between k w bs) ≡ number bs / 2 ^ left % 2 ^ w
between_number k w left bs e =
    let h : k + w ≤ length bs = omega (arith, e) in
    let long = length-take-le (k + w) bs h in
    let a : length (take (k + w) bs) - k ≡ w = omega (arith, long) in
    let b : length bs - (k + w) ≡ left = omega (arith, e) in
    number-drop k (take (k + w) bs) ∙ (ap (λ m. number (take (k + w) bs) % 2 ^ m) a ∙ ap (λ x. x % 2 ^ w) (number-take (k + w) bs h ∙ ap (λ m. number bs / 2 ^ m) b))

places : (w n i : ℕ) → i < n → w * i + w + w * (n - 1 - i) ≡ w * n
places w n i h = let e : n ≡ i + 1 + (n - 1 - i) = omega (arith, h) in spread w i (n - 1 - i) ∙ ap (λ k. w * k) (sym e)
  where
    spread : (w i j : ℕ) → w * i + w + w * j ≡ w * (i + 1 + j)
    spread w i j = omega arith

pub one_parted : (leaf : TextLeaf) (l : Letters) (word n i v : ℕ) (s t u : List ℕ) → AreLetters l leaf → i < n → v ≡ word / 2 ^ (leaf.width * (n - 1 - i)) % 2 ^ leaf.width
    → (l.low ≤ v + l.ahead) × (v + l.ahead ≤ l.high) × (u ≡ t ++ escape_byte (v + l.ahead)) → Parted leaf word n i s t → Parted leaf word n (i + 1) s u
one_parted leaf l word n i v s t u are h is put p bs long same =
    let q = p bs long same in
    let w = leaf.width in
    let c = v + l.ahead in
    let at = places w n i h in
    let room : w * i + w ≤ length bs = omega (arith, at, long) in
    let b = between (w * i) w bs in
    let character = are.each c v put.0 put.1 refl in
    let value : number b ≡ v = between_number (w * i) w (w * (n - 1 - i)) bs (at ∙ sym long) ∙ (ap (λ x. x / 2 ^ (w * (n - 1 - i)) % 2 ^ w) (sym same) ∙ sym is) in
    let more : AreCharacters leaf 1 (c ∷ []) b = record { size = refl; spelled = one leaf c b character.0 (between_long (w * i) w bs room) (value ∙ sym character.1) } in
    let whole : take (w * (i + 1)) bs ≡ take (w * i) bs ++ b = ap (λ k. take k bs) (step w i) ∙ split_at (w * i) w bs room in (
      q.0 ++ c ∷ [],
      subst (AreCharacters leaf (i + 1) (q.0 ++ c ∷ [])) (sym whole) (longer i 1 q.0 (c ∷ []) leaf (take (w * i) bs) b q.1 more),
      put.2 ∙ (ap (λ x. x ++ escape_byte c) q.2 ∙ (append_assoc s (escape q.0) (escape_byte c) ∙ ap (λ x. s ++ x) (ap (λ x. escape q.0 ++ x) (sym (escape_one c)) ∙ sym (escape_more q.0 (c ∷ []))))),
    )
  where
    step : (w i : ℕ) → w * (i + 1) ≡ w * i + w
    step w i = omega arith

pub all_parted : (leaf : TextLeaf) (word n : ℕ) (s t : List ℕ) → Parted leaf word n n s t → (bs : List Bool) → length bs ≡ leaf.width * n → word ≡ number bs → (cs : List ℕ) × AreCharacters leaf n cs bs × (t ≡ s ++ escape cs)
all_parted leaf word n s t p bs long same =
    let q = p bs long same in (q.0, subst (AreCharacters leaf n q.0) (take_all (leaf.width * n) bs (omega (arith, long))) q.1, q.2)

-- Readings.

pub word_letters : (leaf : TextLeaf) (n k word : ℕ) (s t : List ℕ) (a b : Reading) → k ≡ leaf.width * n → leaf.width * n ≤ length a.rest → word ≡ number (take k a.rest) → b ≡ passed k a
    → ((bs : List Bool) → length bs ≡ leaf.width * n → word ≡ number bs → (cs : List ℕ) × AreCharacters leaf n cs bs × (t ≡ s ++ escape cs)) → PutsCharacters leaf n s t a b
word_letters leaf n k word s t a b is room value moved p =
    let there : k ≤ length a.rest = omega (arith, is, room) in
    let q = p (take k a.rest) (length-take-le k a.rest there ∙ is) value in
    (q.0, reads_passed (AreCharacters leaf n q.0) k a b there moved q.1, q.2)

pub more_letters : (leaf : TextLeaf) (n m k : ℕ) (s t u : List ℕ) (a b c : Reading) → k ≡ n + m → PutsCharacters leaf n s t a b → PutsCharacters leaf m t u b c → PutsCharacters leaf k s u a c
more_letters leaf n m k s t u a b c is p q = (
  p.0 ++ q.0,
  reads_join (AreCharacters leaf n p.0) (AreCharacters leaf m q.0) (AreCharacters leaf k (p.0 ++ q.0)) a b c
      (λ x y f g. subst (λ j. AreCharacters leaf j (p.0 ++ q.0) (x ++ y)) (sym is) (longer n m p.0 q.0 leaf x y f g)) p.1 q.1,
  q.2 ∙ (ap (λ r. r ++ escape q.0) p.2 ∙ (append_assoc s (escape p.0) (escape q.0) ∙ ap (λ r. s ++ r) (sym (escape_more p.0 q.0)))),
)

-- the bits of the characters that are left are there
pub letters_left : (leaf : TextLeaf) (n m k : ℕ) (s t : List ℕ) (a b : Reading) → n + m ≤ k → leaf.width * k ≤ length a.rest → PutsCharacters leaf n s t a b → leaf.width * m ≤ length b.rest
letters_left leaf n m k s t a b h room p =
    let w = leaf.width in
    let l = ap length p.1.split ∙ length-append p.1.front b.rest in
    let f = characters_long leaf p.0 0 p.1.front (p.1.holds.spelled 0) ∙ ap (λ (i : ℕ). w * i) p.1.holds.size in
    let g = mul-le-mul_left {m = n + m} {n = k} w h in
    let d = spread w n m in
    omega (arith, l, f, g, d, room)
  where
    spread : (w n m : ℕ) → w * (n + m) ≡ w * n + w * m
    spread w n m = omega arith

-- the string of so many characters, with its quotes
pub letters_put : (leaf : TextLeaf) (n : ℕ) (s t u v : List ℕ) (a b : Reading) → t ≡ s ++ 34 ∷ [] → PutsCharacters leaf n t u a b → v ≡ u ++ 34 ∷ [] → (cs : List ℕ) × Reads (AreCharacters leaf n cs) a b × (v ≡ s ++ quoted cs)
letters_put leaf n s t u v a b begun p ended = (
  p.0,
  p.1,
  ended ∙ (ap (λ x. x ++ 34 ∷ []) (p.2 ∙ ap (λ x. x ++ escape p.0) begun) ∙ (append_assoc (s ++ 34 ∷ []) (escape p.0) (34 ∷ []) ∙ append_assoc s (34 ∷ []) (escape p.0 ++ 34 ∷ []))),
)

-- A text behind its size.

pub sized_text : (root : Grammar) (leaf : TextLeaf) (n : ℕ) (cs : List ℕ) (t : Env) (a b c : Reading) → leaf.ended ≡ None → Passes (λ env. SizePart leaf.sized env n) t a b → Reads (AreCharacters leaf n cs) b c → Passes (λ env. FormPart root Any (text leaf) env (characters cs)) t a c
sized_text root leaf n cs t a b c none p q = reads_join (λ bs. (env : Env) → Follows t env → SizePart leaf.sized env n a.at bs) (AreCharacters leaf n cs) (λ bs. (env : Env) → Follows t env → FormPart root Any (text leaf) env (characters cs) a.at bs) a b c
    (λ x y s o env f. subst (λ e. EndedPart e leaf env cs a.at (x ++ y)) (sym none) (record { front = x; back = y; whole = refl; first = subst (λ (m : ℕ). SizePart leaf.sized env m a.at x) (sym o.size) (s env f); second = o.spelled (a.at + length x) })) p q

pub fine_size : (leaf : TextLeaf) → IsTrue (text_fine leaf) → leaf.ended ≡ None → IsTrue (sizing_fine leaf.sized)
fine_size leaf fine none =
    let r = text_rules leaf fine in
    let e = ap (λ o. end_fine o leaf) (sym none) ∙ r.end in
    rw (r.sizes, (and_parts (rule_fine leaf.sized.sizes leaf.sized.rule) (width_fine leaf) e).0) refl
