-- The failures of texts depend on the bits alone on which they rest.
use Rattle.std.proofs.Common.{◌≡◌, ℕ, zero, suc, ◌+◌, ◌*◌, ◌<◌, ◌≤◌, Bool, true, false, List, length, take, drop, Option, Some, None, refl, sym, ap, ◌∙◌, arith, IsTrue}
use Rattle.std.specs.Prelude.{if◌then◌else◌}
use Rattle.std.specs.List.{find, range_with_len}
use Rattle.std.proofs.lemmas.List.{take-take, length-take, length-drop, drop-take}
use Rattle.acn_num.specs.Ranges.{greatest}
use Rattle.acn_grammar.specs.Asks.{same_name}
use Rattle.acn_grammar.specs.Env.{Env}
use Rattle.acn_grammar.specs.Fails.{Fault, CharactersFail, input_ended, end_too_late, length_not_permitted, character_not_permitted, FoundFails, TextFails, found_end, characters_cut, characters_not_permitted}
use Rattle.acn_grammar.specs.Interval.{size_of}
use Rattle.acn_grammar.specs.LeafFails.{short, octet_values}
use Rattle.acn_grammar.specs.Leaves.{text_fine, end_fine}
use Rattle.acn_grammar.specs.Spell.{octet_numbers}
use Rattle.acn_grammar.specs.declared.node.TextLeaf.{TextLeaf}
use Rattle.acn_packet_laws.proofs.Reaches.{Steady, TextSteady, out, size_steady, same_within, long_enough}
use Rattle.acn_grammar.proofs.Octets.{octets_few, octets_most, octets-take, octets_whole}
use Rattle.acn_grammar.proofs.Characters.{same_name-is}
use Rattle.acn_grammar.proofs.FirstPlaces.{find_back}
use Rattle.acn_grammar.proofs.TextRules.{text_rules, end_rules}

octets_same : (m : ℕ) (a b : List Bool) → take (8 * m) a ≡ take (8 * m) b → take m (octet_values a) ≡ take m (octet_values b)
octets_same m a b e = sym (octets-take m a) ∙ (ap octet_values e ∙ octets-take m b)

-- The first place that passes, found in two lists that agree up to there.

if_cases : {F : Type 0} (t : Bool) (v i : ℕ) (rest : Option ℕ) → (if t then Some v else rest) ≡ Some i → (t ≡ true → v ≡ i → F) → (t ≡ false → rest ≡ Some i → F) → F
if_cases true v i rest q f g = f refl cc
if_cases false v i rest q f g = g refl q

find_too : (p q : ℕ → Bool) (a n m i : ℕ) → ((j : ℕ) → j ≤ i → q j ≡ p j) → i < a + m → find p (range_with_len a n) ≡ Some i → find q (range_with_len a m) ≡ Some i
find_too p q a zero m i h l e = cc
find_too p q a (suc n) zero i h l e = let f = find_back p a (suc n) i e in let low = f.from in absurd (omega arith)
find_too p q a (suc n) (suc m) i h l e =
    let f = find_back p a (suc n) i e in
    let same = h a f.from in
    if_cases {F = find q (range_with_len a (suc m)) ≡ Some i} (p a) a i (find p (range_with_len (a + 1) n)) e
    (λ t v. rw (same, t) (ap Some v))
    (λ t r. rw (same, t) (find_too p q (a + 1) n m i h (omega arith) r))

nearer : {A : Type 0} (m n : ℕ) (a b : List A) → n ≤ m → take m a ≡ take m b → take n a ≡ take n b
nearer m n a b h e = sym (take-take n m a h) ∙ (ap (take n) e ∙ take-take n m b h)

far_enough : (m : ℕ) (a b : List ℕ) → m ≤ length b → take m a ≡ take m b → m ≤ length a
far_enough m a b h e = omega (arith, length-take m a, length-take m b, ap length e)

window_same : (j e m : ℕ) (a b : List ℕ) → j + e ≤ m → take m a ≡ take m b → take e (drop j a) ≡ take e (drop j b)
window_same j e m a b h s = sym (drop-take j e a) ∙ (ap (drop j) (nearer m (j + e) a b h s) ∙ drop-take j e b)

module _ (path : List ℕ) (place : ℕ) (leaf : TextLeaf) (end : List Bool) (whole : length end ≡ 8 * length (octet_numbers end)) (some : 0 < length (octet_numbers end)) (most : ℕ) where
  abbrev front : List Bool → List ℕ
  front rest = take most (octet_values rest)

  abbrev FoundIn : List Bool → List Bool → Option ℕ → Fault → ℕ → Type 0
  FoundIn all rest found fault reach = FoundFails (out path place) leaf (length end) most (length (octet_values all)) rest found fault reach

  found_steady : (rest : List Bool) (fault : Fault) (reach : ℕ) (found : Option ℕ) → found_end (octet_numbers end) (front rest) ≡ found → FoundIn rest rest found fault reach → (fault.reason ≡ short → ⊥)
      → (other : List Bool) → take reach other ≡ take reach rest → FoundIn other other (found_end (octet_numbers end) (front other)) fault reach
  found_steady rest fault reach None is (input_ended t) r = absurd (r (ap (λ f. f.reason) t.1))
  found_steady rest fault reach None is (end_too_late t) r =
      let all = t.0 in
      let n = t.2 in
      let l = octets_few rest in
      λ other e.
      let bits : take (8 * most) other ≡ take (8 * most) rest = rw (← n) e in
      let same = octets_same most other rest bits in
      let far = long_enough (8 * most) other rest (omega arith) bits in
      let long = octets_most other in
      let none : found_end (octet_numbers end) (front other) ≡ None = ap (found_end (octet_numbers end)) same ∙ is in
      rw none (end_too_late (omega arith, t.1, t.2))
  found_steady rest fault reach (Some i) is t r =
      let f = find_back (λ j. same_name (take (length (octet_numbers end)) (drop j (front rest))) (octet_numbers end)) 0 (length (front rest)) i is in
      let stands = ap length (same_name-is (take (length (octet_numbers end)) (drop i (front rest))) (octet_numbers end) f.passes) in
      let n = reach_is t in
      let here = length-take (length (octet_numbers end)) (drop i (front rest)) in
      let behind = length-drop i (front rest) in
      let kept = length-take most (octet_values rest) in
      let l = octets_few rest in
      let place_in : i + length (octet_numbers end) ≤ length (front rest) = omega arith in
      λ other e.
      let k = i + length (octet_numbers end) in
      let bits : take (8 * (i + length (octet_numbers end))) other ≡ take (8 * (i + length (octet_numbers end))) rest = same_within reach (8 * (i + length (octet_numbers end))) other rest (omega arith) e in
      let octets = octets_same (i + length (octet_numbers end)) other rest bits in
      let few : i + length (octet_numbers end) ≤ most = omega arith in
      let same : take (i + length (octet_numbers end)) (front other) ≡ take (i + length (octet_numbers end)) (front rest) =
      take-take (i + length (octet_numbers end)) most (octet_values other) few ∙ (octets ∙ sym (take-take (i + length (octet_numbers end)) most (octet_values rest) few)) in
      let far = far_enough (i + length (octet_numbers end)) (front other) (front rest) place_in same in
      let found : found_end (octet_numbers end) (front other) ≡ Some i =
      find_too (λ j. same_name (take (length (octet_numbers end)) (drop j (front rest))) (octet_numbers end)) (λ j. same_name (take (length (octet_numbers end)) (drop j (front other))) (octet_numbers end)) 0 (length (front rest)) (length (front other)) i
      (λ j h. ap (λ w. same_name w (octet_numbers end)) (window_same j (length (octet_numbers end)) (i + length (octet_numbers end)) (front other) (front rest) (omega arith) same)) (omega arith) is in
      let text : take (8 * i) other ≡ take (8 * i) rest = same_within reach (8 * i) other rest (omega arith) e in
      rw found (moved other t text)
    where
      reach_is : FoundIn rest rest (Some i) fault reach → reach ≡ 8 * i + length end
      reach_is (length_not_permitted t) = t.2
      reach_is (character_not_permitted t) = t.3

      moved : (other : List Bool) → FoundIn rest rest (Some i) fault reach → take (8 * i) other ≡ take (8 * i) rest → FoundIn other other (Some i) fault reach
      moved other (length_not_permitted t) e = length_not_permitted t
      moved other (character_not_permitted t) e = character_not_permitted (t.0, rw e t.1, t.2, t.3)

characters_steady : (path : List ℕ) (place : ℕ) (leaf : TextLeaf) (n : ℕ) → Steady (CharactersFail (out path place) leaf n)
characters_steady path place leaf n at rest fault reach (characters_cut t) r = absurd (r (ap (λ f. f.reason) t.1))
characters_steady path place leaf n at rest fault reach (characters_not_permitted t) r =
    λ other e.
    let is = t.3 in
    let same = same_within reach (leaf.width * n) other rest (omega arith) e in
    let far = long_enough (leaf.width * n) other rest t.0 same in
    characters_not_permitted (far, rw same t.1, t.2, t.3)

by_end : (end : Option (List Bool)) (leaf : TextLeaf) → end_fine end leaf ≡ true → (path : List ℕ) (place : ℕ) (env : Env) → Steady (TextFails (out path place) end leaf env)
by_end None leaf f path place env at rest fault reach t r =
    size_steady path place leaf.sized env (CharactersFail (out path place) leaf) (characters_steady path place leaf) at rest fault reach t r
by_end (Some end) leaf f path place env at rest fault reach t r =
    let q = end_rules leaf end f in
    let w = octets_whole end (omega (arith, q.octets)) in
    found_steady path place leaf end w (omega (arith, w, q.octets, q.some)) (size_of (greatest leaf.sized.sizes) + length (octet_numbers end)) rest fault reach _ refl t r

pub text_steady : (leaf : TextLeaf) → IsTrue (text_fine leaf) → TextSteady leaf
text_steady leaf h path place env = by_end leaf.ended leaf (text_rules leaf h).end path place env
