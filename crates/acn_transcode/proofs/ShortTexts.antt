-- Short texts of the values of numbers.
use Rattle.std.proofs.Common.{◌≡◌, ℕ, ℤ, zero, suc, pos, ◌+◌, ◌<◌, ◌≤◌, List, [], ◌∷◌, ◌++◌, length, take, set, Option, Some, None, refl, sym, ap, subst, ◌∙◌, arith}
use Rattle.std.specs.Prelude.{IfSome, neg_ℤ}
use Rattle.std.specs.Fmt.{decimal, signed_decimal}
use Rattle.std.proofs.lemmas.List.{take_more_set}
use Rattle.json.specs.Print.{escape, quoted}
use Rattle.serde_json.specs.Written.{compact_text}
use Rattle.acn_grammar.specs.Code.{NumberOf}
use Rattle.acn_grammar.specs.Grammar.{Data}
use Rattle.acn_grammar.specs.declared.node.NumKind.TheVariants.{Integer}
use Rattle.acn_grammar.specs.declared.node.NumLeaf.{NumLeaf}
use Rattle.acn_json.specs.Lines.{num_json}
use Rattle.acn_transcode.specs.Short.{IsShort}
use Rattle.acn_transcode.specs.declared.short.Short.{Short}
use Rattle.acn_transcode.proofs.NumberTexts.{Said, integer_said}

-- the short text of the value of a number
abbrev pub ShortSaid : NumLeaf → ℤ → Short → Type 0
ShortSaid leaf x s = (d : Data) × NumberOf leaf.kind d x × IsShort s (compact_text (num_json leaf.kind leaf.items.items d))

pub short_said : (leaf : NumLeaf) (x : ℤ) (s : Short) (t : List ℕ) → IsShort s t → Said leaf.kind leaf.items.items x [] t → ShortSaid leaf x s
short_said leaf x s t is said = (said.0, said.1, record { few = is.few; shown = is.shown ∙ said.2 })

pub integer_short : (leaf : NumLeaf) (x : ℤ) (o : Option Short) → leaf.kind ≡ Integer → IfSome o (λ s. IsShort s (signed_decimal x)) → IfSome o (λ s. ShortSaid leaf x s)
integer_short leaf x None is h = tt
integer_short leaf x (Some s) is h = short_said leaf x s (signed_decimal x) h (integer_said leaf x [] (signed_decimal x) is refl)

-- a short text was put
pub short_put : (short : Short) (text old new : List ℕ) → IsShort short text → new ≡ old ++ take short.count short.octets → new ≡ old ++ text
short_put short text old new is put = put ∙ ap (λ t. old ++ t) is.shown

-- Texts behind a sign.

signed : (x : ℤ) (n : ℕ) → 0 < n → x ≡ neg_ℤ (pos n) → 45 ∷ decimal n ≡ signed_decimal x
signed x zero some e = absurd (omega (arith, some))
signed x (suc n) some e = ap signed_decimal (sym e)

pub negative_short : (x : ℤ) (n : ℕ) (o : Option Short) → 0 < n → x ≡ neg_ℤ (pos n) → IfSome o (λ s. IsShort s (45 ∷ decimal n)) → IfSome o (λ s. IsShort s (signed_decimal x))
negative_short x n None some e h = tt
negative_short x n (Some s) some e h = record { few = h.few; shown = h.shown ∙ signed x n some e }

-- a text that goes for each text goes for this one
pub behind_one : (o : Option Short) (front : Short) (t : List ℕ) → IsShort front t → IfSome o (λ s. (text : List ℕ) → IsShort front text → IsShort s (45 ∷ text)) → IfSome o (λ s. IsShort s (45 ∷ t))
behind_one None front t is h = tt
behind_one (Some s) front t is h = h t is

taken_inside : (xs ys : List ℕ) (n : ℕ) → n ≤ length xs → take n (xs ++ ys) ≡ take n xs
taken_inside xs ys zero h = refl
taken_inside [] ys (suc n) h = absurd (omega arith)
taken_inside (x ∷ xs) ys (suc n) h = ap (λ zs. x ∷ zs) (taken_inside xs ys n (omega arith))

taken_first : (xs : List ℕ) (n k : ℕ) → n ≤ k → take n (take k xs) ≡ take n xs
taken_first xs zero k h = refl
taken_first [] (suc n) zero h = absurd (omega arith)
taken_first (x ∷ xs) (suc n) zero h = absurd (omega arith)
taken_first [] (suc n) (suc k) h = refl
taken_first (x ∷ xs) (suc n) (suc k) h = ap (λ zs. x ∷ zs) (taken_first xs n k (omega arith))

length_taken : (xs : List ℕ) (n : ℕ) → n ≤ length xs → length (take n xs) ≡ n
length_taken xs zero h = refl
length_taken [] (suc n) h = absurd (omega arith)
length_taken (x ∷ xs) (suc n) h = ap suc (length_taken xs n (omega arith))

-- octets behind a minus sign
pub minus_put : (octets over text zeros : List ℕ) (count : ℕ) → 7 ≤ length octets → count ≤ 7 → take count octets ≡ text → over ≡ (45 ∷ []) ++ take 7 octets ++ zeros → take (count + 1) over ≡ 45 ∷ text
minus_put octets over text zeros count long few shown put =
    let one : count + 1 ≡ suc count = omega arith in
    let room : count ≤ length (take 7 octets) = subst (λ (k : ℕ). count ≤ k) (sym (length_taken octets 7 long)) few in
    ap (λ k. take k over) one ∙ (ap (λ t. take (suc count) t) put ∙ ap (λ t. 45 ∷ t) (taken_inside (take 7 octets) zeros count room ∙ (taken_first octets count 7 few ∙ shown)))

front_taken : (a b : List ℕ) → take (length a) (a ++ b) ≡ a
front_taken [] b = refl
front_taken (x ∷ a) b = ap (λ t. x ∷ t) (front_taken a b)

-- octets that need no escape, between quotes
pub name_put : (name over new zeros : List ℕ) (at : ℕ) → escape name ≡ name → at ≡ 1 + length name → over ≡ (34 ∷ []) ++ name ++ zeros → at < length over → new ≡ set over at 34 → take (length name + 2) new ≡ quoted name
name_put name over new zeros at plain is put inside closed =
    let count : length name + 2 ≡ at + 1 = omega (arith, is) in
    let front : at ≡ suc (length name) = omega (arith, is) in
    ap (λ k. take k new) count
    ∙ (ap (λ t. take (at + 1) t) closed
    ∙ (take_more_set over at 34 inside
    ∙ (ap (λ t. t ++ 34 ∷ []) (ap (λ k. take k over) front ∙ (ap (λ t. take (suc (length name)) t) put ∙ ap (λ t. 34 ∷ t) (front_taken name zeros)))
    ∙ ap (λ t. 34 ∷ (t ++ 34 ∷ [])) (sym plain))))
