-- Characters of seven bits that a word spells, put at once.
use Rattle.std.proofs.Common.{◌≡◌, ℕ, zero, suc, ◌+◌, ◌-◌, ◌*◌, ◌/◌, ◌%◌, ◌^◌, ◌<◌, ◌≤◌, Bool, true, false, List, [], ◌∷◌, ◌++◌, length, get_or, ◌&&◌, ◌==◌, if◌then◌else◌, inl, inr, refl, sym, ap, ◌∙◌, subst, arith}
use Rattle.std.specs.Prelude.{not, nat_lt}
use Rattle.std.proofs.lemmas.Bool.{and_parts, cases_lt}
use Rattle.std.proofs.lemmas.Bool.Decides.{nat_tests}
use Rattle.json.specs.Print.{escape, escape_byte}
use Rattle.json.proofs.Printed.Strings.{escape_byte_plain}
use Rattle.acn_num.specs.Bits.{number}
use Rattle.acn_grammar.specs.declared.node.TextLeaf.{TextLeaf}
use Rattle.acn_string_lines.specs.Letters.{AreLetters, AreCharacters, AreSevens}
use Rattle.acn_string_lines.specs.declared.letters.Letters.{Letters}
use Rattle.acn_string_lines.proofs.LetterTexts.{Parted, none_parted, one_parted, all_parted}

-- The table of octets that stand for themselves.

abbrev pub plain_octets : List ℕ
plain_octets = 0 ∷ 0 ∷ 0 ∷ 0 ∷ 0 ∷ 0 ∷ 0 ∷ 0 ∷ 0 ∷ 0 ∷ 0 ∷ 0 ∷ 0 ∷ 0 ∷ 0 ∷ 0 ∷ 0 ∷ 0 ∷ 0 ∷ 0 ∷ 0 ∷ 0 ∷ 0 ∷ 0 ∷ 0 ∷ 0 ∷ 0 ∷ 0 ∷ 0 ∷ 0 ∷ 0 ∷ 0 ∷ 1 ∷ 1 ∷ 0 ∷ 1 ∷ 1 ∷ 1 ∷ 1 ∷ 1 ∷ 1 ∷ 1 ∷ 1 ∷ 1 ∷ 1 ∷ 1 ∷ 1 ∷ 1 ∷ 1 ∷ 1 ∷ 1 ∷ 1 ∷ 1 ∷ 1 ∷ 1 ∷ 1 ∷ 1 ∷ 1 ∷ 1 ∷ 1 ∷ 1 ∷ 1 ∷ 1 ∷ 1 ∷ 1 ∷ 1 ∷ 1 ∷ 1 ∷ 1 ∷ 1 ∷ 1 ∷ 1 ∷ 1 ∷ 1 ∷ 1 ∷ 1 ∷ 1 ∷ 1 ∷ 1 ∷ 1 ∷ 1 ∷ 1 ∷ 1 ∷ 1 ∷ 1 ∷ 1 ∷ 1 ∷ 1 ∷ 1 ∷ 1 ∷ 1 ∷ 1 ∷ 0 ∷ 1 ∷ 1 ∷ 1 ∷ 1 ∷ 1 ∷ 1 ∷ 1 ∷ 1 ∷ 1 ∷ 1 ∷ 1 ∷ 1 ∷ 1 ∷ 1 ∷ 1 ∷ 1 ∷ 1 ∷ 1 ∷ 1 ∷ 1 ∷ 1 ∷ 1 ∷ 1 ∷ 1 ∷ 1 ∷ 1 ∷ 1 ∷ 1 ∷ 1 ∷ 1 ∷ 1 ∷ 1 ∷ 1 ∷ 1 ∷ 1 ∷ 0 ∷ 0 ∷ 0 ∷ 0 ∷ 0 ∷ 0 ∷ 0 ∷ 0 ∷ 0 ∷ 0 ∷ 0 ∷ 0 ∷ 0 ∷ 0 ∷ 0 ∷ 0 ∷ 0 ∷ 0 ∷ 0 ∷ 0 ∷ 0 ∷ 0 ∷ 0 ∷ 0 ∷ 0 ∷ 0 ∷ 0 ∷ 0 ∷ 0 ∷ 0 ∷ 0 ∷ 0 ∷ 0 ∷ 0 ∷ 0 ∷ 0 ∷ 0 ∷ 0 ∷ 0 ∷ 0 ∷ 0 ∷ 0 ∷ 0 ∷ 0 ∷ 0 ∷ 0 ∷ 0 ∷ 0 ∷ 0 ∷ 0 ∷ 0 ∷ 0 ∷ 0 ∷ 0 ∷ 0 ∷ 0 ∷ 0 ∷ 0 ∷ 0 ∷ 0 ∷ 0 ∷ 0 ∷ 0 ∷ 0 ∷ 0 ∷ 0 ∷ 0 ∷ 0 ∷ 0 ∷ 0 ∷ 0 ∷ 0 ∷ 0 ∷ 0 ∷ 0 ∷ 0 ∷ 0 ∷ 0 ∷ 0 ∷ 0 ∷ 0 ∷ 0 ∷ 0 ∷ 0 ∷ 0 ∷ 0 ∷ 0 ∷ 0 ∷ 0 ∷ 0 ∷ 0 ∷ 0 ∷ 0 ∷ 0 ∷ 0 ∷ 0 ∷ 0 ∷ 0 ∷ 0 ∷ 0 ∷ 0 ∷ 0 ∷ 0 ∷ 0 ∷ 0 ∷ 0 ∷ 0 ∷ 0 ∷ 0 ∷ 0 ∷ 0 ∷ 0 ∷ 0 ∷ 0 ∷ 0 ∷ 0 ∷ 0 ∷ 0 ∷ 0 ∷ 0 ∷ 0 ∷ 0 ∷ 0 ∷ 0 ∷ 0 ∷ 0 ∷ 0 ∷ 0 ∷ []

abbrev stands : ℕ → Bool
stands o = nat_lt 31 o && (not (o == 34) && not (o == 92))

abbrev known : ℕ → Bool
known o = if get_or plain_octets o 0 == 1 then stands o else true

abbrev all_known : ℕ → Bool
all_known zero = true
all_known (suc n) = known n && all_known n

known_at : (n k : ℕ) → all_known n ≡ true → k < n → known k ≡ true
known_at zero k h lt = absurd (omega arith)
known_at (suc n) k h lt =
    let parts = and_parts (known n) (all_known n) h in
    elim (cases_lt k n) [
      | inl below ↦ known_at n k parts.1 below
      | inr top ↦
          let e : k ≡ n = omega arith in
          rw e parts.0
    ]

stands_plain : (o : ℕ) → stands o ≡ true → escape_byte o ≡ o ∷ []
stands_plain o h =
    let p = and_parts (nat_lt 31 o) (not (o == 34) && not (o == 92)) h in
    let q = and_parts (not (o == 34)) (not (o == 92)) p.1 in
    let a = p.0 in
    let b = q.0 in
    let d = q.1 in
    let above : 32 ≤ o = grind (arith, nat_tests) in
    let one : o ≡ 34 → ⊥ = (λ e. grind (arith, nat_tests)) in
    let two : o ≡ 92 → ⊥ = (λ e. grind (arith, nat_tests)) in
    escape_byte_plain o one two above

pub plain_octet : (o : ℕ) → o < 256 → (get_or plain_octets o 0 == 1) ≡ true → escape_byte o ≡ o ∷ []
plain_octet o h is =
    let k : known o ≡ true = known_at 256 o refl h in
    stands_plain o (sym (ap (λ b. if b then stands o else true) is) ∙ k)

-- Characters of a word.

-- seven bits of a word, which are an octet that stands for itself
abbrev pub IsSeven : (word left v : ℕ) → Type 0
IsSeven word left v = (v ≡ word / 2 ^ left % 2 ^ 7) × (v ≤ 127) × (escape_byte v ≡ v ∷ [])

seven_parted : (leaf : TextLeaf) (l : Letters) (word n i left v : ℕ) (s t : List ℕ) → AreLetters l leaf → AreSevens l leaf → i < n → left ≡ 7 * (n - 1 - i) → IsSeven word left v → Parted leaf word n i s t → Parted leaf word n (i + 1) s (t ++ v ∷ [])
seven_parted leaf l word n i left v s t are sevens h place is p =
    let low = sevens.low in
    let high = sevens.high in
    let ahead = sevens.ahead in
    let small = is.1 in
    let same : v + l.ahead ≡ v = omega (arith, ahead) in
    let value : v ≡ word / 2 ^ (7 * (n - 1 - i)) % 2 ^ 7 = is.0 ∙ ap (λ k. word / 2 ^ k % 2 ^ 7) place in
    one_parted leaf l word n i v s t (t ++ v ∷ []) are h (subst (λ w. v ≡ word / 2 ^ (w * (n - 1 - i)) % 2 ^ w) (sym sevens.width) value)
    (omega (arith, low), omega (arith, high, ahead, small), ap (λ x. t ++ x) (sym (ap escape_byte same ∙ is.2))) p

joined_four : (s : List ℕ) (a b c d : ℕ) → (((s ++ a ∷ []) ++ b ∷ []) ++ c ∷ []) ++ d ∷ [] ≡ s ++ a ∷ b ∷ c ∷ d ∷ []
joined_four [] a b c d = refl
joined_four (x ∷ s) a b c d = ap (λ t. x ∷ t) (joined_four s a b c d)

joined_eight : (s : List ℕ) (a b c d e f g h : ℕ) → (((((((s ++ a ∷ []) ++ b ∷ []) ++ c ∷ []) ++ d ∷ []) ++ e ∷ []) ++ f ∷ []) ++ g ∷ []) ++ h ∷ [] ≡ s ++ a ∷ b ∷ c ∷ d ∷ e ∷ f ∷ g ∷ h ∷ []
joined_eight [] a b c d e f g h = refl
joined_eight (x ∷ s) a b c d e f g h = ap (λ t. x ∷ t) (joined_eight s a b c d e f g h)

-- the characters that the bits of a word spell were put
abbrev pub WordPut : TextLeaf → (word n : ℕ) → (old new : List ℕ) → Type 0
WordPut leaf word n old new = (bs : List Bool) → length bs ≡ leaf.width * n → word ≡ number bs → (cs : List ℕ) × AreCharacters leaf n cs bs × (new ≡ old ++ escape cs)

pub four_put : (leaf : TextLeaf) (l : Letters) (word a b c d : ℕ) (old new : List ℕ) → AreLetters l leaf → AreSevens l leaf → IsSeven word 21 a → IsSeven word 14 b → IsSeven word 7 c → IsSeven word 0 d → new ≡ old ++ a ∷ b ∷ c ∷ d ∷ [] → WordPut leaf word 4 old new
four_put leaf l word a b c d old new are sevens ha hb hc hd added =
    let t1 = old ++ a ∷ [] in
    let t2 = t1 ++ b ∷ [] in
    let t3 = t2 ++ c ∷ [] in
    let p1 = seven_parted leaf l word 4 0 21 a old old are sevens (omega arith) refl ha (none_parted leaf word 4 old) in
    let p2 = seven_parted leaf l word 4 1 14 b old t1 are sevens (omega arith) refl hb p1 in
    let p3 = seven_parted leaf l word 4 2 7 c old t2 are sevens (omega arith) refl hc p2 in
    let p4 = seven_parted leaf l word 4 3 0 d old t3 are sevens (omega arith) refl hd p3 in
    all_parted leaf word 4 old new (subst (λ t. Parted leaf word 4 4 old t) (joined_four old a b c d ∙ sym added) p4)

pub eight_put : (leaf : TextLeaf) (l : Letters) (word a b c d e f g h : ℕ) (old new : List ℕ) → AreLetters l leaf → AreSevens l leaf
    → IsSeven word 49 a → IsSeven word 42 b → IsSeven word 35 c → IsSeven word 28 d → IsSeven word 21 e → IsSeven word 14 f → IsSeven word 7 g → IsSeven word 0 h
    → new ≡ old ++ a ∷ b ∷ c ∷ d ∷ e ∷ f ∷ g ∷ h ∷ [] → WordPut leaf word 8 old new
eight_put leaf l word a b c d e f g h old new are sevens ha hb hc hd he hf hg hh added =
    let t1 = old ++ a ∷ [] in
    let t2 = t1 ++ b ∷ [] in
    let t3 = t2 ++ c ∷ [] in
    let t4 = t3 ++ d ∷ [] in
    let t5 = t4 ++ e ∷ [] in
    let t6 = t5 ++ f ∷ [] in
    let t7 = t6 ++ g ∷ [] in
    let p1 = seven_parted leaf l word 8 0 49 a old old are sevens (omega arith) refl ha (none_parted leaf word 8 old) in
    let p2 = seven_parted leaf l word 8 1 42 b old t1 are sevens (omega arith) refl hb p1 in
    let p3 = seven_parted leaf l word 8 2 35 c old t2 are sevens (omega arith) refl hc p2 in
    let p4 = seven_parted leaf l word 8 3 28 d old t3 are sevens (omega arith) refl hd p3 in
    let p5 = seven_parted leaf l word 8 4 21 e old t4 are sevens (omega arith) refl he p4 in
    let p6 = seven_parted leaf l word 8 5 14 f old t5 are sevens (omega arith) refl hf p5 in
    let p7 = seven_parted leaf l word 8 6 7 g old t6 are sevens (omega arith) refl hg p6 in
    let p8 = seven_parted leaf l word 8 7 0 h old t7 are sevens (omega arith) refl hh p7 in
    all_parted leaf word 8 old new (subst (λ t. Parted leaf word 8 8 old t) (joined_eight old a b c d e f g h ∙ sym added) p8)
