-- Characters and bits that stand for themselves in a string.
use Rattle.std.proofs.Common.{◌≡◌, ℕ, suc, ◌+◌, ◌<◌, Bool, true, not, ◌&&◌, ◌==◌, nat_lt, List, [], ◌∷◌, ◌++◌, length, take, get_or, set, refl, sym, ap, subst, ◌∙◌, arith}
use Rattle.std.specs.Prelude.{map}
use Rattle.std.specs.List.{list_all}
use Rattle.std.proofs.lemmas.Bool.{and_parts}
use Rattle.std.proofs.lemmas.List.{take_more, take_more_set, map-append}
use Rattle.std.proofs.lemmas.Bool.Decides.{nat_tests}
use Rattle.json.specs.Print.{escape, quoted}
use Rattle.acn_grammar.specs.Shaped.{are_octets}
use Rattle.acn_json.specs.Lines.{bit_digit}
use Rattle.acn_printed.proofs.Strings.{quoted-end}

abbrev plain : ℕ → Bool
plain c = nat_lt 31 c && (not (c == 34) && not (c == 92))

pub both-all : (s : List ℕ) → list_all (λ c. nat_lt c 128 && plain c) s ≡ true → (list_all (λ c. nat_lt c 128) s ≡ true) × (list_all plain s ≡ true)
both-all [] h = (refl, refl)
both-all (c ∷ s) h =
    let a = and_parts (nat_lt c 128 && plain c) (list_all (λ c. nat_lt c 128 && plain c) s) h in
    let b = and_parts (nat_lt c 128) (plain c) a.0 in
    let r = both-all s a.1 in
    (rw (b.0, r.0) refl, rw (b.1, r.1) refl)

all_more : (s : List ℕ) (c : ℕ) → list_all (λ c. nat_lt c 128 && plain c) s ≡ true → (nat_lt c 128 && plain c) ≡ true → list_all (λ c. nat_lt c 128 && plain c) (s ++ c ∷ []) ≡ true
all_more [] c h k = rw k refl
all_more (x ∷ s) c h k =
    let a = and_parts (nat_lt x 128 && plain x) (list_all (λ c. nat_lt c 128 && plain c) s) h in
    rw (a.0, all_more s c a.1 k) refl

-- one character more that stands for itself
pub plain-more : (s : List ℕ) (at : ℕ) → at < length s → (nat_lt (get_or s at 0) 128 && plain (get_or s at 0)) ≡ true → list_all (λ c. nat_lt c 128 && plain c) (take at s) ≡ true → list_all (λ c. nat_lt c 128 && plain c) (take (at + 1) s) ≡ true
plain-more s at h k so_far = subst (λ t. list_all (λ c. nat_lt c 128 && plain c) t ≡ true) (sym (take_more s at 0 h)) (all_more (take at s) (get_or s at 0) so_far k)

-- one bit more, of the next digit
pub bit-more : (digits : List ℕ) (bits : List Bool) (at : ℕ) (b : Bool) → at < length bits → at < length digits → get_or digits at 0 ≡ bit_digit b → map bit_digit (take at bits) ≡ take at digits → map bit_digit (take (at + 1) (set bits at b)) ≡ take (at + 1) digits
bit-more digits bits at b h k is so_far =
    ap (map bit_digit) (take_more_set bits at b h)
    ∙ (map-append bit_digit (take at bits) (b ∷ [])
    ∙ (ap (λ r. r ++ bit_digit b ∷ []) so_far
    ∙ (ap (λ (c : ℕ). take at digits ++ c ∷ []) (sym is) ∙ sym (take_more digits at 0 k))))

-- what stands between the quotes
pub plain-text : (s text end inside : List ℕ) → inside ≡ escape s → text ≡ 34 ∷ (inside ++ 34 ∷ end) → text ≡ quoted s ++ end
plain-text s text end inside e h = quoted-end s text end (h ∙ ap (λ t. 34 ∷ (t ++ 34 ∷ end)) e)

below_test : (x : ℕ) → x < 256 → nat_lt x 256 ≡ true
below_test x h = grind (arith, nat_tests)

pub octets-are : (xs : List ℕ) → ((i : ℕ) → get_or xs i 0 < 256) → are_octets xs ≡ true
octets-are [] h = refl
octets-are (x ∷ xs) h = rw (below_test x (h 0)) (octets-are xs (λ i. h (suc i)))
