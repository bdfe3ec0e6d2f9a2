-- When a text meets its leaf.
use Rattle.std.proofs.Common.{◌≡◌, ℕ, ℤ, ◌*◌, ◌≤◌, pos, not, ◌&&◌, nat_le, nat_lt, Bool, true, false, List, [], ◌∷◌, ◌++◌, length, Option, Some, None, refl, ap, ◌∙◌, arith}
use Rattle.std.specs.Prelude.{cond, position}
use Rattle.std.specs.List.{list_all, position_or_len}
use Rattle.std.proofs.lemmas.Bool.{and_parts}
use Rattle.std.proofs.lemmas.Bool.Decides.{nat_tests}
use Rattle.std.proofs.lemmas.Nat.{mul-le}
use Rattle.acn_num.specs.Ranges.{has}
use Rattle.acn_num.specs.declared.limits.TheConstants.{MOST_SIZE}
use Rattle.acn_grammar.specs.Meets.{Why, bad_character, end_breach, size_breach, size_out_of_range, text_breach, unless, where_found}
use Rattle.acn_grammar.specs.declared.node.TextLeaf.{TextLeaf}

first_none : (a b : List Why) → a ++ b ≡ [] → a ≡ []
first_none [] b e = refl
first_none (x ∷ a) b e = cc

pub meets_size : (leaf : TextLeaf) (cs : List ℕ) → text_breach leaf cs ≡ [] → has leaf.sized.sizes (pos (length cs)) ≡ true
meets_size leaf cs h = by (has leaf.sized.sizes (pos (length cs))) (first_none (size_breach leaf.sized (length cs)) (where_found (position (λ c. not (has leaf.alphabet (pos c))) cs) bad_character) (first_none (size_breach leaf.sized (length cs) ++ where_found (position (λ c. not (has leaf.alphabet (pos c))) cs) bad_character) (end_breach leaf.ended cs) h))
  where
    by : (b : Bool) → unless b (size_out_of_range (length cs)) ≡ [] → b ≡ true
    by true e = refl
    by false e = cc

-- a permitted size times a narrow width is small
pub few_bits : (width n : ℕ) → width ≤ 8 → n ≤ MOST_SIZE → width * n ≤ 8 * MOST_SIZE
few_bits width n h k = mul-le width n 8 MOST_SIZE h k

-- where all characters pass a test that permitted ones pass, none is wrong
passed_by_all : (wrong test : ℕ → Bool) (cs : List ℕ) → ((c : ℕ) → test c ≡ true → wrong c ≡ false) → list_all test cs ≡ true → position_or_len wrong cs ≡ length cs
passed_by_all wrong test [] h e = refl
passed_by_all wrong test (c ∷ cs) h e =
    let parts = and_parts (test c) (list_all test cs) e in
    let right = h c parts.0 in
    let more = passed_by_all wrong test cs h parts.1 in
    rw (right, more) (omega arith)

pub none_wrong : (alphabet : List (ℤ × ℤ)) (low high : ℕ) (cs : List ℕ) → ((c : ℕ) → (nat_le low c && nat_le c high) ≡ true → has alphabet (pos c) ≡ true) → list_all (λ c. nat_le low c && nat_le c high) cs ≡ true → position (λ c. not (has alphabet (pos c))) cs ≡ None
none_wrong alphabet low high cs h e =
    let wrong : ℕ → Bool = λ c. not (has alphabet (pos c)) in
    let all = passed_by_all wrong (λ c. nat_le low c && nat_le c high) cs (λ c t. ap not (h c t)) e in
    by (position_or_len wrong cs) (length cs) all
  where
    not_less : (n : ℕ) → nat_lt n n ≡ false
    not_less n = grind (arith, nat_tests)

    by : (i n : ℕ) → i ≡ n → ◌≡◌ {A = Option ℕ} (cond (nat_lt i n) (Some i) None) None
    by i n same = let l : nat_lt i n ≡ false = ap (λ k. nat_lt k n) same ∙ not_less n in rw l refl
