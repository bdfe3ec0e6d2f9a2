-- The first place at which a terminator stands.
use Rattle.std.proofs.Common.{◌≡◌, ℕ, zero, suc, ◌+◌, ◌*◌, ◌<◌, ◌≤◌, Bool, false, List, ◌++◌, length, take, drop, Some, None, refl, sym, ap, ◌∙◌, arith, length-drop, inl, inr, subst}
use Rattle.std.specs.Prelude.{◌⊎◌}
use Rattle.std.proofs.lemmas.List.{take-take, length-take, drop-take, length-take-le}
use Rattle.std.proofs.Math.Seq.{take-add}
use Rattle.acn_grammar.specs.Asks.{same_name}
use Rattle.acn_grammar.specs.Fails.{found_end}
use Rattle.acn_grammar.specs.LeafFails.{octet_values}
use Rattle.acn_grammar.specs.Spell.{octet_numbers, EndsFirst}
use Rattle.acn_grammar.proofs.Characters.{same_name-is, same_name-refl}
use Rattle.std.proofs.lemmas.Bool.{false_from_ne_true}
use Rattle.acn_grammar.proofs.Octets.{octets_few, octets_most, octets_count, octets-take, octets-drop, octets_tell}
use Rattle.acn_grammar.proofs.FirstPlaces.{find_first, find_none}

-- The end at a place of the bits, and of their octets.

module _ (end : List Bool) (e : ℕ) (whole : length end ≡ 8 * e) (some : 1 ≤ e) where
  pub end_long : length (octet_numbers end) ≡ e
  end_long = octets_count e end whole

  -- the octets at a place
  octets_at : (rest : List Bool) (j : ℕ) → octet_values (take (length end) (drop (8 * j) rest)) ≡ take e (drop j (octet_values rest))
  octets_at rest j = ap (λ k. octet_values (take k (drop (8 * j) rest))) whole ∙ (octets-take e (drop (8 * j) rest) ∙ ap (take e) (octets-drop j rest))

  -- the first octets hold the same window
  same_at : (m j : ℕ) (os : List ℕ) → j + e ≤ m → take e (drop j (take m os)) ≡ take e (drop j os)
  same_at m j os h =
      let f : j + e ≤ m = h in
      sym (drop-take j e (take m os)) ∙ (ap (drop j) (take-take (j + e) m os f) ∙ drop-take j e os)

  -- where the octets of the end stand, its bits do
  bits_stand : (rest : List Bool) (j : ℕ) → 8 * j + length end ≤ length rest → take (length (octet_numbers end)) (drop j (octet_values rest)) ≡ octet_numbers end → take (length end) (drop (8 * j) rest) ≡ end
  bits_stand rest j inside h =
      let d = length-drop (8 * j) rest in
      let long : length (take (length end) (drop (8 * j) rest)) ≡ 8 * e = length-take-le (length end) (drop (8 * j) rest) (omega arith) ∙ whole in
      octets_tell e (take (length end) (drop (8 * j) rest)) end long whole (octets_at rest j ∙ (ap (λ k. take k (drop j (octet_values rest))) (sym end_long) ∙ h))

  octets_stand : (rest : List Bool) (j : ℕ) → take (length end) (drop (8 * j) rest) ≡ end → take (length (octet_numbers end)) (drop j (octet_values rest)) ≡ octet_numbers end
  octets_stand rest j h = ap (λ k. take k (drop j (octet_values rest))) end_long ∙ (sym (octets_at rest j) ∙ ap octet_values h)

  -- where the end's octets stand within the first octets, there is room for them
  inside_of : (rest : List Bool) (m j : ℕ) → take (length (octet_numbers end)) (drop j (take m (octet_values rest))) ≡ octet_numbers end → (j + e ≤ m) × (8 * j + length end ≤ length rest)
  inside_of rest m j is =
      let n = ap length is in
      let a = length-take (length (octet_numbers end)) (drop j (take m (octet_values rest))) in
      let b = length-drop j (take m (octet_values rest)) in
      let c = length-take m (octet_values rest) in
      let f = octets_few rest in
      let l = end_long in
      (omega (arith, n, a, b, c, f, l, some, whole), omega (arith, n, a, b, c, f, l, some, whole))

  -- a place that isn't the end's
  is_not : (rest : List Bool) (m j : ℕ) → (j + e ≤ m → 8 * j + length end ≤ length rest → take (length end) (drop (8 * j) rest) ≡ end → ⊥) → same_name (take (length (octet_numbers end)) (drop j (take m (octet_values rest)))) (octet_numbers end) ≡ false
  is_not rest m j differs = false_from_ne_true (same_name (take (length (octet_numbers end)) (drop j (take m (octet_values rest)))) (octet_numbers end)) (λ h.
      let is = same_name-is (take (length (octet_numbers end)) (drop j (take m (octet_values rest)))) (octet_numbers end) h in
      let room = inside_of rest m j is in
      let near : take (length (octet_numbers end)) (drop j (octet_values rest)) ≡ octet_numbers end =
      ap (λ k. take k (drop j (octet_values rest))) end_long ∙ (sym (same_at m j (octet_values rest) room.0) ∙ (ap (λ k. take k (drop j (take m (octet_values rest)))) (sym end_long) ∙ is)) in
      differs room.0 room.1 (bits_stand rest j room.1 near))

  abbrev NotBefore : List Bool → ℕ → Type 0
  NotBefore rest k = (j : ℕ) → j < k → take (length end) (drop (8 * j) rest) ≡ end → ⊥

  -- nowhere among the first octets
  pub end_not_found : (rest : List Bool) (m k : ℕ) → NotBefore rest k → (8 * k + length end ≤ length rest → take (length end) (drop (8 * k) rest) ≡ end → ⊥) → length (take m (octet_values rest)) ≤ k + e → found_end (octet_numbers end) (take m (octet_values rest)) ≡ None
  end_not_found rest m k before here few =
      find_none (λ i. same_name (take (length (octet_numbers end)) (drop i (take m (octet_values rest)))) (octet_numbers end)) (length (take m (octet_values rest))) (λ j l. is_not rest m j (at j (compare j k)))
    where
      compare : (j k : ℕ) → (j < k) ⊎ ((j ≡ k) ⊎ (k < j))
      compare zero zero = inr (inl refl)
      compare zero (suc k) = inl (omega arith)
      compare (suc j) zero = inr (inr (omega arith))
      compare (suc j) (suc k) = elim (compare j k) [ inl h ↦ inl (omega arith) | inr g ↦ elim g [ inl h ↦ inr (inl (ap suc h)) | inr h ↦ inr (inr (omega arith)) ] ]

      at : (j : ℕ) → (j < k) ⊎ ((j ≡ k) ⊎ (k < j)) → j + e ≤ m → 8 * j + length end ≤ length rest → take (length end) (drop (8 * j) rest) ≡ end → ⊥
      at j (inl h) near inside is = before j h is
      at j (inr (inl h)) near inside is = here (subst (λ (i : ℕ). 8 * i + length end ≤ length rest) h inside) (subst (λ (i : ℕ). take (length end) (drop (8 * i) rest) ≡ end) h is)
      at j (inr (inr h)) near inside is =
          let c = length-take m (octet_values rest) in
          let f = octets_most rest in
          omega (arith, c, f, few, h, near, inside, whole)

  -- at this place first
  pub end_found : (rest : List Bool) (m k : ℕ) → NotBefore rest k → 8 * k + length end ≤ length rest → k + e ≤ m → take (length end) (drop (8 * k) rest) ≡ end → found_end (octet_numbers end) (take m (octet_values rest)) ≡ Some k
  end_found rest m k before inside near is =
      let c = length-take m (octet_values rest) in
      let f = octets_most rest in
      let p : ℕ → Bool = λ i. same_name (take (length (octet_numbers end)) (drop i (take m (octet_values rest)))) (octet_numbers end) in
      let stands : take (length (octet_numbers end)) (drop k (take m (octet_values rest))) ≡ octet_numbers end =
      ap (λ i. take i (drop k (take m (octet_values rest)))) end_long ∙ (same_at m k (octet_values rest) near ∙ (ap (λ i. take i (drop k (octet_values rest))) (sym end_long) ∙ octets_stand rest k is)) in
      find_first p (length (take m (octet_values rest))) k (omega (arith, c, f, near, inside, whole, some)) (ap (λ t. same_name t (octet_numbers end)) stands ∙ same_name-refl (octet_numbers end)) (λ j h. is_not rest m j (λ _ _ g. before j h g))

  -- and so it ends the text before it
  pub ends_first : (rest : List Bool) (k : ℕ) → NotBefore rest k → 8 * k + length end ≤ length rest → take (length end) (drop (8 * k) rest) ≡ end → EndsFirst (octet_numbers end) (take k (octet_values rest))
  ends_first rest k before inside is i h = by (order i k)
    where
      order : (i k : ℕ) → (i < k) ⊎ (k ≤ i)
      order i zero = inr (omega arith)
      order zero (suc k) = inl (omega arith)
      order (suc i) (suc k) = elim (order i k) [ inl g ↦ inl (omega arith) | inr g ↦ inr (omega arith) ]

      os : List ℕ
      os = octet_values rest

      joined : take k os ++ octet_numbers end ≡ take (k + e) os
      joined = ap (λ t. take k os ++ t) (sym (octets_stand rest k is) ∙ ap (λ n. take n (drop k os)) end_long) ∙ sym (take-add k e os)

      short : length (take k os) ≤ k
      short = let c = length-take k os in omega (arith, c)

      by : (i < k) ⊎ (k ≤ i) → length (take k os) ≤ i
      by (inr g) = omega (arith, short, g)
      by (inl g) =
          let near : i + e ≤ k + e = omega (arith, g) in
          let there : take (length (octet_numbers end)) (drop i os) ≡ octet_numbers end =
          ap (λ n. take n (drop i os)) end_long ∙ (sym (same_at (k + e) i os near) ∙ (ap (λ t. take e (drop i t)) (sym joined) ∙ (ap (λ n. take n (drop i (take k os ++ octet_numbers end))) (sym end_long) ∙ h))) in
          absurd (before i g (bits_stand rest i (omega (arith, g, inside)) there))
