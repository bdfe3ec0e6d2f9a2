-- Characters and their places in the alphabet.
use Rattle.std.proofs.Common.{◌≡◌, ℕ, ◌+◌, ◌-◌, ◌^◌, ◌<◌, ◌≤◌, ℤ, pos, negsuc, ◌+ℤ◌, ◌≤ℤ◌, Bool, true, false, List, [], ◌∷◌, length, drop, get_or, Option, Some, None, refl, sym, ap, ◌∙◌, subst, arith, ◌&&◌}
use Rattle.std.specs.Prelude.{◌-ℤ◌, ◌<ℤ◌, int_le, nat_lt, nat_abs}
use Rattle.std.proofs.lemmas.Int.{ints}
use Rattle.std.proofs.lemmas.Bool.Decides.{nat_tests}
use Rattle.std.proofs.lemmas.List.{drop_more, drop_all}
use Rattle.acn_num.specs.Ranges.{has, Above, count, nth, size_of, distance, all_within, are_ranges, are_ranges_above}
use Rattle.acn_num.proofs.Nth.{nth_in, at}
use Rattle.acn_grammar.specs.Spell.{place_in, character_number}
use Rattle.acn_grammar.specs.declared.node.TextLeaf.{TextLeaf}
use Rattle.acn_text.specs.Steps.{IsSmall, IsCharacter, NoCharacter}
use Rattle.acn_text.proofs.Fine.{alphabet_above, count_few}
use Rattle.std.proofs.lemmas.Bool.{and_parts}
use Rattle.acn_grammar.proofs.WholeTests.{either, le_fact}
use Rattle.acn_grammar.proofs.TextRules.{TextRules, character_fits}
use Rattle.acn_grammar.proofs.RangeEnds.{lies_within, first_in}

-- the place of the number that stands at a place
pub place_of_nth : (b : ℤ) (rs : List (ℤ × ℤ)) (n : ℕ) (x : ℤ) → Above b rs → nth rs n ≡ Some x → place_in rs x ≡ n
place_of_nth b [] n x h e = cc
place_of_nth b (r ∷ rs) n x h e = by (nat_lt n (size_of r)) refl (λ later. place_of_nth (r.1 +ℤ pos 1) rs (n - size_of r) x h.3 later)
  where
    some_same : (a c : ℤ) → ◌≡◌ {A = Option ℤ} (Some a) (Some c) → a ≡ c
    some_same a c e = cc

    here_test : n < size_of r → r.0 ≤ℤ r.1 → x ≡ (r.0 +ℤ pos n) → (int_le x r.1 ≡ true) × (nat_abs (x -ℤ r.0) ≡ n)
    here_test l o is = (grind (arith, ints, nat_tests), omega (arith, ints))

    over_test : (r.1 +ℤ pos 1) <ℤ x → int_le x r.1 ≡ false
    over_test o = grind (arith, ints, nat_tests)

    is_below : nat_lt n (size_of r) ≡ true → n < size_of r
    is_below t = grind (arith, nat_tests)

    not_below : nat_lt n (size_of r) ≡ false → size_of r ≤ n
    not_below t = grind (arith, nat_tests)

    size_sum : size_of r ≤ n → nat_abs (r.1 -ℤ r.0) + 1 + (n - size_of r) ≡ n
    size_sum l = omega arith

    by : (t : Bool) → nat_lt n (size_of r) ≡ t → (nth rs (n - size_of r) ≡ Some x → place_in rs x ≡ n - size_of r) → place_in (r ∷ rs) x ≡ n
    by true t more =
        let is = some_same (r.0 +ℤ pos n) x (rw t at e) in
        let k = here_test (is_below t) h.1 (sym is) in
        rw k.0 k.1
    by false t more =
        let later : nth rs (n - size_of r) ≡ Some x = rw t at e in
        let over = (nth_in (r.1 +ℤ pos 1) rs (n - size_of r) x h.3 later).1 in
        let rest = more later in
        rw (over_test over, rest) (size_sum (not_below t))

-- each number stands at its place
pub nth_of_place : (b : ℤ) (rs : List (ℤ × ℤ)) (x : ℤ) → Above b rs → has rs x ≡ true → (nth rs (place_in rs x) ≡ Some x) × (place_in rs x < count rs)
nth_of_place b rs x h p =
    let a = at b rs x h p in
    let e = place_of_nth b rs a.place x h a.is in
    let u = a.under in
    (ap (nth rs) e ∙ a.is, omega (arith, e, u))

-- A walk along the ranges.

pub above_again : (b : ℤ) (rs : List (ℤ × ℤ)) → Above b rs → all_within (pos 0) (pos 127) rs ≡ true → Above (negsuc 0) rs
above_again b [] h w = tt
above_again b (r ∷ rs) h w =
    let v = and_parts (int_le (pos 0) r.0) (int_le r.1 (pos 127) && all_within (pos 0) (pos 127) rs) w in
    let low = le_fact (pos 0) r.0 v.0 in
    (omega (arith, ints), h.1, h.2, h.3)

-- the place in what is left and what was passed
pub record PlacesLeft (rs : List (ℤ × ℤ)) (x : ℤ) (i below : ℕ) : Type 0 where
  pub whole : below + place_in (drop i rs) x ≡ place_in rs x
  pub inside : has (drop i rs) x ≡ true
  pub bound : ℤ
  pub above : Above bound (drop i rs)
  pub within : all_within (pos 0) (pos 127) (drop i rs) ≡ true

pub places_start : (b : ℤ) (rs : List (ℤ × ℤ)) (x : ℤ) → Above b rs → all_within (pos 0) (pos 127) rs ≡ true → has rs x ≡ true → PlacesLeft rs x 0 0
places_start b rs x h w p = record { whole = omega arith; inside = p; bound = b; above = h; within = w }

pub places_few : (b : ℤ) (rs : List (ℤ × ℤ)) (x : ℤ) (i below : ℕ) → Above b rs → all_within (pos 0) (pos 127) rs ≡ true → has rs x ≡ true → PlacesLeft rs x i below → below ≤ 129
places_few b rs x i below h w p l =
    let again = above_again b rs h w in
    let few = count_few (negsuc 0) rs again w (omega (arith, ints)) (omega (arith, ints)) in
    let under = (nth_of_place (negsuc 0) rs x again p).1 in
    let whole = l.whole in
    few_of below (place_in (drop i rs) x) (place_in rs x) (count rs) whole under few
  where
    few_of : (a c n m : ℕ) → a + c ≡ n → n < m → pos m ≤ℤ (pos 128 -ℤ negsuc 0) → a ≤ 129
    few_of a c n m e l f = omega (arith, ints)

-- the range that is next
pub record AtRange (rs : List (ℤ × ℤ)) (x : ℤ) (i below : ℕ) (r : ℤ × ℤ) : Type 0 where
  pub order : r.0 ≤ℤ r.1
  pub low : IsSmall r.0
  pub high : IsSmall r.1
  pub here : int_le x r.1 ≡ true → (r.0 ≤ℤ x) × IsSmall x × (below + distance r.0 x ≡ place_in rs x)
  pub later : int_le x r.1 ≡ false → PlacesLeft rs x (i + 1) (below + (distance r.0 r.1 + 1))

pub at_range : (rs : List (ℤ × ℤ)) (x : ℤ) (i below : ℕ) (d : ℤ × ℤ) → i < length rs → PlacesLeft rs x i below → AtRange rs x i below (get_or rs i d)
at_range rs x i below d inside l =
    let e = drop_more rs i d inside in
    let r = get_or rs i d in
    let rest = drop (i + 1) rs in
    let h : Above l.bound (r ∷ rest) = subst (λ (t : List (ℤ × ℤ)). Above l.bound t) e l.above in
    let w : all_within (pos 0) (pos 127) (r ∷ rest) ≡ true = subst (λ (t : List (ℤ × ℤ)). all_within (pos 0) (pos 127) t ≡ true) e l.within in
    let p : has (r ∷ rest) x ≡ true = subst (λ (t : List (ℤ × ℤ)). has t x ≡ true) e l.inside in
    let whole : below + place_in (r ∷ rest) x ≡ place_in rs x = subst (λ (t : List (ℤ × ℤ)). below + place_in t x ≡ place_in rs x) e l.whole in
    let v = and_parts (int_le (pos 0) r.0) (int_le r.1 (pos 127) && all_within (pos 0) (pos 127) rest) w in
    let u = and_parts (int_le r.1 (pos 127)) (all_within (pos 0) (pos 127) rest) v.1 in
    let a = le_fact (pos 0) r.0 v.0 in
    let c = le_fact r.1 (pos 127) u.0 in
    let o = h.1 in
    record {
      order = h.1;
      low = (a, omega (arith, ints));
      high = (omega (arith, ints), omega (arith, ints));
      here = λ t.
          let f = low_of r rest l.bound h p t in
          let g = le_fact x r.1 t in
          (f, (omega (arith, ints), omega (arith, ints)), rw t at whole);
      later = λ t. record {
        whole = sums below (distance r.0 r.1) (place_in rest x) (place_in rs x) (rw t at whole);
        inside = behind_of r rest p t;
        bound = r.1 +ℤ pos 1;
        above = h.3;
        within = u.1;
      };
    }
  where
    sums : (a b c n : ℕ) → a + (b + 1 + c) ≡ n → a + (b + 1) + c ≡ n
    sums a b c n e = omega (arith, e)

    no_more : (r : ℤ × ℤ) (rest : List (ℤ × ℤ)) → Above (r.1 +ℤ pos 1) rest → has rest x ≡ true → r.1 <ℤ x
    no_more r rest h p =
        let k = at (r.1 +ℤ pos 1) rest x h p in
        let n = (nth_in (r.1 +ℤ pos 1) rest k.place x h k.is).1 in
        omega (arith, ints)

    low_of : (r : ℤ × ℤ) (rest : List (ℤ × ℤ)) (b : ℤ) → Above b (r ∷ rest) → has (r ∷ rest) x ≡ true → int_le x r.1 ≡ true → r.0 ≤ℤ x
    low_of r rest b h p t =
        let g = le_fact x r.1 t in
        either {F = r.0 ≤ℤ x} (int_le r.0 x && int_le x r.1) (has rest x) p
        (λ q. le_fact r.0 x (and_parts (int_le r.0 x) (int_le x r.1) q).0)
        (λ q. let n = no_more r rest h.3 q in absurd (omega (arith, ints)))

    behind_of : (r : ℤ × ℤ) (rest : List (ℤ × ℤ)) → has (r ∷ rest) x ≡ true → int_le x r.1 ≡ false → has rest x ≡ true
    behind_of r rest p t =
        either {F = has rest x ≡ true} (int_le r.0 x && int_le x r.1) (has rest x) p
        (λ q. let z = (and_parts (int_le r.0 x) (int_le x r.1) q).1 in cc)
        (λ q. q)

pub distance_few : (a b : ℤ) → IsSmall a → IsSmall b → distance a b ≤ 255
distance_few a b p q =
    let x = p.0 in
    let y = p.1 in
    let z = q.0 in
    let w = q.1 in
    omega (arith, ints)

-- the walk ends before the ranges do
pub places_over : (rs : List (ℤ × ℤ)) (x : ℤ) (i below : ℕ) → length rs ≤ i → PlacesLeft rs x i below → ⊥
places_over rs x i below over l =
    let e = drop_all i rs over in
    let p = rw e at l.inside in
    cc

-- Which character a number stands for.

module _ (leaf : TextLeaf) (f : TextRules leaf) where
  pub by_place : (v : ℕ) (x : ℤ) → leaf.indexed ≡ true → nth leaf.alphabet v ≡ Some x → (c : ℕ) × (x ≡ pos c) × (c < 256) × IsCharacter leaf c v
  by_place v x i e =
      let h = alphabet_above leaf f in
      let p = nth_in (negsuc 0) leaf.alphabet v x h e in
      let w = lies_within leaf.alphabet (pos 0) (pos 127) x f.small p.0 in
      let z = place_of_nth (negsuc 0) leaf.alphabet v x h e in
      by x w.0 w.1 p.0 z
    where
      by : (x : ℤ) → pos 0 ≤ℤ x → x ≤ℤ pos 127 → has leaf.alphabet x ≡ true → place_in leaf.alphabet x ≡ v → (c : ℕ) × (x ≡ pos c) × (c < 256) × IsCharacter leaf c v
      by (pos c) low high p z = (c, refl, omega (arith, ints), (p, rw i z))
      by (negsuc n) low high p z = absurd (omega (arith, ints))

  pub no_place : (v : ℕ) → leaf.indexed ≡ true → nth leaf.alphabet v ≡ None → NoCharacter leaf v
  no_place v i e c p n =
      let k = nth_of_place (negsuc 0) leaf.alphabet (pos c) (alphabet_above leaf f) p in
      let z : place_in leaf.alphabet (pos c) ≡ v = rw i at n in
      let s = sym k.0 ∙ (ap (nth leaf.alphabet) z ∙ e) in
      cc

  pub by_number : (v : ℕ) → leaf.indexed ≡ false → has leaf.alphabet (pos v) ≡ true → (v < 256) × IsCharacter leaf v v
  by_number v i p =
      let w = lies_within leaf.alphabet (pos 0) (pos 127) (pos v) f.small p in
      let high = w.1 in
      (omega (arith, ints), (p, rw i refl))

  pub no_number : (v : ℕ) → leaf.indexed ≡ false → has leaf.alphabet (pos v) ≡ false → NoCharacter leaf v
  no_number v i e c p n =
      let z : c ≡ v = rw i at n in
      let s : has leaf.alphabet (pos v) ≡ true = ap (λ k. has leaf.alphabet (pos k)) (sym z) ∙ p in
      cc

-- the number of a character fits the width
pub character_below : (leaf : TextLeaf) → TextRules leaf → (c : ℕ) → has leaf.alphabet (pos c) ≡ true → character_number leaf c < 2 ^ leaf.width
character_below leaf f = character_fits leaf f leaf.ended f.end

-- there is a character
pub some_character : (leaf : TextLeaf) → TextRules leaf → (c : ℕ) × (has leaf.alphabet (pos c) ≡ true)
some_character leaf f = by leaf.alphabet f.some f.ranges f.small
  where
    natural : (x : ℤ) → pos 0 ≤ℤ x → (c : ℕ) × (x ≡ pos c)
    natural (pos c) h = (c, refl)
    natural (negsuc n) h = absurd (omega (arith, ints))

    by : (rs : List (ℤ × ℤ)) → 0 < length rs → are_ranges rs ≡ true → all_within (pos 0) (pos 127) rs ≡ true → (c : ℕ) × (has rs (pos c) ≡ true)
    by [] l o w = absurd (omega (arith, l))
    by (r ∷ rs) l o w =
        let g = and_parts (int_le r.0 r.1) (are_ranges_above (r.1 +ℤ pos 1) rs) o in
        let v = and_parts (int_le (pos 0) r.0) (int_le r.1 (pos 127) && all_within (pos 0) (pos 127) rs) w in
        let c = natural r.0 (le_fact (pos 0) r.0 v.0) in
        (c.0, ap (has (r ∷ rs)) (sym c.1) ∙ first_in r rs (le_fact r.0 r.1 g.0))
