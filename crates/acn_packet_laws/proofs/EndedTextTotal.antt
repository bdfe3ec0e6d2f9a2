-- The same of texts with a terminator, and of all texts.
use Rattle.std.proofs.Common.{◌≡◌, ℕ, zero, suc, ◌+◌, ◌*◌, ◌/◌, ◌%◌, ◌<◌, ◌≤◌, pos, Bool, true, false, not, ◌&&◌, List, [], ◌∷◌, ◌++◌, length, take, drop, Option, Some, None, refl, sym, ap, ◌∙◌, arith, append_assoc, length-append, take-append-drop, inl, inr, ◌⊎◌, nat_eq, nat_lt, subst}
use Rattle.std.proofs.lemmas.List.{take-append-le, drop-append-le, length-drop, length-take, length-take-le}
use Rattle.std.proofs.Math.Seq.{take-append_seam, drop-append_seam}
use Rattle.acn_num.specs.Bits.{bits}
use Rattle.acn_num.specs.Ranges.{In, are_ranges, all_within, greatest}
use Rattle.acn_grammar.specs.Asks.{same_name}
use Rattle.acn_grammar.specs.Env.{Env}
use Rattle.acn_grammar.specs.Fails.{Here, Fault, NoText, found_end, input_ended, end_too_late, length_not_permitted, character_not_permitted, FoundFails, TextFails}
use Rattle.acn_grammar.specs.Interval.{size_of}
use Rattle.acn_grammar.specs.LeafFails.{short, too_long, bad_character, size_out_of_range, octet_values}
use Rattle.acn_grammar.specs.Leaves.{sizes_fine, end_fine, width_fine, rule_fine, no_size, is_terminator, is_pattern}
use Rattle.acn_grammar.specs.Spell.{CharactersPart, EndsFirst, octet_numbers, EndedPart}
use Rattle.acn_grammar.specs.declared.node.TextLeaf.{TextLeaf}
use Rattle.acn_packet_laws.proofs.Envs.{FrontOf, Stuck, says, in_or_not, size_total}
use Rattle.acn_packet_laws.proofs.LeafTotal.{octets_whole}
use Rattle.acn_packet_laws.proofs.NodeParts.{TextTotal}
use Rattle.acn_packet_laws.proofs.TextLaws.{characters_octets, whole_octets}
use Rattle.acn_packet_laws.proofs.TextTotal.{chars_total, one_char, Result, sized_total}
use Rattle.acn_grammar.proofs.Characters.{same_name-is, same_name-refl}
use Rattle.std.proofs.lemmas.Bool.{and_parts, not-true, eqb-true}
use Rattle.acn_grammar.proofs.Octets.{octets_few}
use Rattle.acn_grammar.proofs.FirstPlaces.{Found, find_back, less_or_not}
use Rattle.acn_grammar.proofs.TextRules.{some_bits}

take_twice : (l m : ℕ) (xs : List ℕ) → l ≤ m → take l (take m xs) ≡ take l xs
take_twice zero m xs h = refl
take_twice (suc l) zero xs h = absurd (omega arith)
take_twice (suc l) (suc m) [] h = refl
take_twice (suc l) (suc m) (x ∷ xs) h = ap (λ z. x ∷ z) (take_twice l m xs (omega arith))

window : (l i m : ℕ) (xs : List ℕ) → i + l ≤ m → take l (drop i (take m xs)) ≡ take l (drop i xs)
window l zero m xs h = take_twice l m xs (omega arith)
window l (suc i) zero xs h = absurd (omega arith)
window l (suc i) (suc m) [] h = refl
window l (suc i) (suc m) (x ∷ xs) h = window l i m xs (omega arith)

module _ (here : Here) (leaf : TextLeaf) (end : List Bool) (eight : leaf.width ≡ 8) (plain : leaf.indexed ≡ false) (within : all_within (pos 0) (pos 127) leaf.alphabet ≡ true) (some : 1 ≤ length end) (whole : length end ≡ 8 * (length end / 8)) (env : Env) (at : ℕ) (rest : List Bool) where
  l_is : length (octet_numbers end) ≡ length end / 8
  l_is = (whole_octets (length end / 8) end [] whole).1

  -- the octets behind some of them
  behind : (i : ℕ) (bs : List Bool) → 8 * i ≤ length bs → drop i (octet_values bs) ≡ octet_values (drop (8 * i) bs)
  behind i bs h =
      let w = whole_octets i (take (8 * i) bs) (drop (8 * i) bs) (length-take-le (8 * i) bs h) in
      ap (λ z. drop i (octet_values z)) (sym (take-append-drop (8 * i) bs)) ∙ (ap (drop i) w.0 ∙ (ap (λ (n : ℕ). drop n (octet_numbers (take (8 * i) bs) ++ octet_values (drop (8 * i) bs))) (sym w.1) ∙ drop-append_seam (octet_numbers (take (8 * i) bs)) (octet_values (drop (8 * i) bs))))

  before : (k : ℕ) (bs : List Bool) → 8 * k ≤ length bs → take k (octet_values bs) ≡ octet_numbers (take (8 * k) bs)
  before k bs h =
      let w = whole_octets k (take (8 * k) bs) (drop (8 * k) bs) (length-take-le (8 * k) bs h) in
      ap (λ z. take k (octet_values z)) (sym (take-append-drop (8 * k) bs)) ∙ (ap (take k) w.0 ∙ (ap (λ (n : ℕ). take n (octet_numbers (take (8 * k) bs) ++ octet_values (drop (8 * k) bs))) (sym w.1) ∙ take-append_seam (octet_numbers (take (8 * k) bs)) (octet_values (drop (8 * k) bs))))

  module _ (most i : ℕ) (found : Found (λ j. same_name (take (length (octet_numbers end)) (drop j (take most (octet_values rest)))) (octet_numbers end)) 0 (length (take most (octet_values rest))) i) where
    stands : take (length (octet_numbers end)) (drop i (take most (octet_values rest))) ≡ octet_numbers end
    stands = same_name-is (take (length (octet_numbers end)) (drop i (take most (octet_values rest)))) (octet_numbers end) found.passes

    fits : i + length (octet_numbers end) ≤ length (take most (octet_values rest))
    fits = omega (arith, ap length stands, length-take (length (octet_numbers end)) (drop i (take most (octet_values rest))), length-drop i (take most (octet_values rest)), found.inside)

    few : i + length (octet_numbers end) ≤ most
    few = omega (arith, fits, length-take most (octet_values rest))

    all : 8 * (i + length (octet_numbers end)) ≤ length rest
    all = omega (arith, fits, length-take most (octet_values rest), octets_few rest)

    left : 8 * i ≤ length rest
    left = omega (arith, all)

    room : 8 * length (octet_numbers end) ≤ length (drop (8 * i) rest)
    room = omega (arith, all, length-drop (8 * i) rest)

    octets_are : octet_numbers (take (8 * length (octet_numbers end)) (drop (8 * i) rest)) ≡ octet_numbers end
    octets_are = sym (before (length (octet_numbers end)) (drop (8 * i) rest) room) ∙ (ap (take (length (octet_numbers end))) (sym (behind i rest left)) ∙ (sym (window (length (octet_numbers end)) i most (octet_values rest) few) ∙ stands))

    long_end : length end ≡ 8 * length (octet_numbers end)
    long_end = whole ∙ ap (λ n. 8 * n) (sym l_is)

    end_is : take (8 * length (octet_numbers end)) (drop (8 * i) rest) ≡ end
    end_is = sym (octets_whole (length (octet_numbers end)) (take (8 * length (octet_numbers end)) (drop (8 * i) rest)) (length-take-le (8 * length (octet_numbers end)) (drop (8 * i) rest) room)) ∙ (ap bits octets_are ∙ octets_whole (length (octet_numbers end)) end long_end)

    parts : rest ≡ (take (8 * i) rest ++ end) ++ drop (8 * length (octet_numbers end)) (drop (8 * i) rest)
    parts = sym (take-append-drop (8 * i) rest) ∙ (ap (λ z. take (8 * i) rest ++ z) (sym (take-append-drop (8 * length (octet_numbers end)) (drop (8 * i) rest)) ∙ ap (λ z. z ++ drop (8 * length (octet_numbers end)) (drop (8 * i) rest)) end_is) ∙ sym (append_assoc (take (8 * i) rest) end (drop (8 * length (octet_numbers end)) (drop (8 * i) rest))))

    more : List ℕ
    more = octet_values (drop (8 * length (octet_numbers end)) (drop (8 * i) rest))

    values : (cs : List ℕ) → CharactersPart leaf cs at (take (8 * i) rest) → octet_values rest ≡ cs ++ (octet_numbers end ++ octet_values (drop (8 * length (octet_numbers end)) (drop (8 * i) rest)))
    values cs t =
        ap octet_values (parts ∙ append_assoc (take (8 * i) rest) end (drop (8 * length (octet_numbers end)) (drop (8 * i) rest)))
        ∙ (characters_octets leaf eight plain cs at (take (8 * i) rest) (end ++ drop (8 * length (octet_numbers end)) (drop (8 * i) rest)) t ∙ ap (λ z. cs ++ z) (whole_octets (length end / 8) end (drop (8 * length (octet_numbers end)) (drop (8 * i) rest)) whole).0)

    -- nor does it stand earlier
    first : (cs : List ℕ) → length cs ≡ i → CharactersPart leaf cs at (take (8 * i) rest) → EndsFirst (octet_numbers end) cs
    first cs l t j e = by (less_or_not j (length cs))
      where
        tail : List ℕ
        tail = octet_values (drop (8 * length (octet_numbers end)) (drop (8 * i) rest))

        early : j < length cs → take (length (octet_numbers end)) (drop j (take most (octet_values rest))) ≡ octet_numbers end
        early v =
            let whole_list : octet_values rest ≡ (cs ++ octet_numbers end) ++ octet_values (drop (8 * length (octet_numbers end)) (drop (8 * i) rest)) = values cs t ∙ sym (append_assoc cs (octet_numbers end) (octet_values (drop (8 * length (octet_numbers end)) (drop (8 * i) rest)))) in
            let long : j ≤ length (cs ++ octet_numbers end) = omega (arith, length-append cs (octet_numbers end)) in
            let wide : length (octet_numbers end) ≤ length (drop j (cs ++ octet_numbers end)) = omega (arith, length-append cs (octet_numbers end), length-drop j (cs ++ octet_numbers end)) in
            window (length (octet_numbers end)) j most (octet_values rest) (omega (arith, few, l))
            ∙ (ap (λ z. take (length (octet_numbers end)) (drop j z)) whole_list
            ∙ (ap (take (length (octet_numbers end))) (drop-append-le j (cs ++ octet_numbers end) (octet_values (drop (8 * length (octet_numbers end)) (drop (8 * i) rest))) long)
            ∙ (take-append-le (length (octet_numbers end)) (drop j (cs ++ octet_numbers end)) (octet_values (drop (8 * length (octet_numbers end)) (drop (8 * i) rest))) wide ∙ e)))

        by : (j < length cs) ⊎ (length cs ≤ j) → length cs ≤ j
        by (inr k) = k
        by (inl k) =
            let no : same_name (take (length (octet_numbers end)) (drop j (take most (octet_values rest)))) (octet_numbers end) ≡ false = found.first j (omega arith) (omega (arith, k, l)) in
            let yes_ : same_name (take (length (octet_numbers end)) (drop j (take most (octet_values rest)))) (octet_numbers end) ≡ true = ap (λ z. same_name z (octet_numbers end)) (early k) ∙ same_name-refl (octet_numbers end) in
            cc

    found_text : In leaf.sized.sizes (pos i) → (cs : List ℕ) → length cs ≡ i → CharactersPart leaf cs at (take (8 * i) rest) → (cs : List ℕ) × FrontOf (EndedPart (Some end) leaf env cs) at rest
    found_text p cs l t = (
      cs,
      record {
        front = take (8 * i) rest ++ end;
        back = drop (8 * length (octet_numbers end)) (drop (8 * i) rest);
        whole = parts;
        spelled = record { given = (subst (λ (n : ℕ). In leaf.sized.sizes (pos n)) (sym l) p, first cs l t); spelled = record { front = take (8 * i) rest; back = end; whole = refl; first = t; second = refl } };
      },
    )

  abbrev Goal : ℕ → Option ℕ → Type 0
  Goal most o = ((cs : List ℕ) × FrontOf (EndedPart (Some end) leaf env cs) at rest) ⊎ ((fault : Fault) × (reach : ℕ) × FoundFails here leaf (length end) most (length (octet_values rest)) rest o fault reach)

  chars : (most i : ℕ) → Found (λ j. same_name (take (length (octet_numbers end)) (drop j (take most (octet_values rest)))) (octet_numbers end)) 0 (length (take most (octet_values rest))) i → In leaf.sized.sizes (pos i)
      → ((cs : List ℕ) × (length cs ≡ i) × ((at' : ℕ) → CharactersPart leaf cs at' (take (8 * i) rest))) ⊎ NoText leaf (take (8 * i) rest) → Goal most (Some i)
  chars most i found p (inl c) = inl (found_text most i found p c.0 c.1 (c.2 at))
  chars most i found p (inr n) = inr (says here bad_character, 8 * i + length end, character_not_permitted (p, n, refl, refl))

  sized : (most i : ℕ) → Found (λ j. same_name (take (length (octet_numbers end)) (drop j (take most (octet_values rest)))) (octet_numbers end)) 0 (length (take most (octet_values rest))) i → In leaf.sized.sizes (pos i) ⊎ (In leaf.sized.sizes (pos i) → ⊥) → Goal most (Some i)
  sized most i found (inr p) = inr (says here (size_out_of_range i), 8 * i + length end, length_not_permitted (p, refl, refl))
  sized most i found (inl p) =
      chars most i found p (chars_total leaf within (λ z. absurd (omega (arith, eight, z))) i (take (8 * i) rest) (length-take-le (8 * i) rest (left most i found) ∙ ap (λ (w : ℕ). w * i) (sym eight)))

  by_found : (most : ℕ) (o : Option ℕ) → found_end (octet_numbers end) (take most (octet_values rest)) ≡ o → Goal most o
  by_found most (Some i) e = sized most i (find_back (λ j. same_name (take (length (octet_numbers end)) (drop j (take most (octet_values rest)))) (octet_numbers end)) 0 (length (take most (octet_values rest))) i e) (in_or_not leaf.sized.sizes (pos i))
  by_found most None e = by (less_or_not (length (octet_values rest)) most)
    where
      by : (length (octet_values rest) < most) ⊎ (most ≤ length (octet_values rest)) → Goal most None
      by (inl h) = inr (says here short, length rest, input_ended (h, refl, refl))
      by (inr h) = inr (says here too_long, 8 * most, end_too_late (h, refl, refl))

  pub ended_total : Result here (Some end) leaf env at rest
  ended_total = by_found (size_of (greatest leaf.sized.sizes) + length (octet_numbers end)) (found_end (octet_numbers end) (take (size_of (greatest leaf.sized.sizes) + length (octet_numbers end)) (octet_values rest))) refl

pub text_total : TextTotal
text_total root here leaf fine ks keys known within env good at rest = by leaf.ended refl
  where
    p : (sizes_fine leaf.sized.sizes ≡ true) × ((nat_lt 0 (length leaf.alphabet) && (are_ranges leaf.alphabet && (all_within (pos 0) (pos 127) leaf.alphabet && end_fine leaf.ended leaf))) ≡ true)
    p = and_parts (sizes_fine leaf.sized.sizes) (nat_lt 0 (length leaf.alphabet) && (are_ranges leaf.alphabet && (all_within (pos 0) (pos 127) leaf.alphabet && end_fine leaf.ended leaf))) fine

    q : (nat_lt 0 (length leaf.alphabet) ≡ true) × ((are_ranges leaf.alphabet && (all_within (pos 0) (pos 127) leaf.alphabet && end_fine leaf.ended leaf)) ≡ true)
    q = and_parts (nat_lt 0 (length leaf.alphabet)) (are_ranges leaf.alphabet && (all_within (pos 0) (pos 127) leaf.alphabet && end_fine leaf.ended leaf)) p.1

    s : (are_ranges leaf.alphabet ≡ true) × ((all_within (pos 0) (pos 127) leaf.alphabet && end_fine leaf.ended leaf) ≡ true)
    s = and_parts (are_ranges leaf.alphabet) (all_within (pos 0) (pos 127) leaf.alphabet && end_fine leaf.ended leaf) q.1

    u : (all_within (pos 0) (pos 127) leaf.alphabet ≡ true) × (end_fine leaf.ended leaf ≡ true)
    u = and_parts (all_within (pos 0) (pos 127) leaf.alphabet) (end_fine leaf.ended leaf) s.1

    two : (a b : Bool) → a ≡ true → b ≡ true → (a && b) ≡ true
    two true b h k = k
    two false b h k = cc

    eights : (n : ℕ) → n % 8 ≡ 0 → n ≡ 8 * (n / 8)
    eights n h = omega arith

    by : (end : Option (List Bool)) → leaf.ended ≡ end → ((cs : List ℕ) × FrontOf (EndedPart leaf.ended leaf env cs) at rest) ⊎ Stuck (TextFails here leaf.ended leaf env) at rest
    by None e =
        let v = and_parts (rule_fine leaf.sized.sizes leaf.sized.rule) (width_fine leaf) (ap (λ z. end_fine z leaf) (sym e) ∙ u.1) in
        subst (λ (z : Option (List Bool)). ((cs : List ℕ) × FrontOf (EndedPart z leaf env cs) at rest) ⊎ Stuck (TextFails here z leaf env) at rest) (sym e)
        (sized_total here leaf u.0 (one_char leaf q.0 s.0 u.0 v.1) env at rest (size_total root here leaf.sized (two (sizes_fine leaf.sized.sizes) (rule_fine leaf.sized.sizes leaf.sized.rule) p.0 v.0) ks keys known within env good at rest))
    by (Some end) e =
        let v = and_parts (no_size leaf.sized.rule) (nat_eq leaf.width 8 && (not leaf.indexed && is_terminator end)) (ap (λ z. end_fine z leaf) (sym e) ∙ u.1) in
        let w = and_parts (nat_eq leaf.width 8) (not leaf.indexed && is_terminator end) v.1 in
        let x = and_parts (not leaf.indexed) (is_terminator end) w.1 in
        let y = and_parts (is_pattern end) (nat_eq (length end % 8) 0) x.1 in
        subst (λ (z : Option (List Bool)). ((cs : List ℕ) × FrontOf (EndedPart z leaf env cs) at rest) ⊎ Stuck (TextFails here z leaf env) at rest) (sym e)
        (ended_total here leaf end (eqb-true leaf.width 8 w.0) (not-true leaf.indexed x.0) u.0 (some_bits end y.0) (eights (length end) (eqb-true (length end % 8) 0 y.1)) env at rest)
