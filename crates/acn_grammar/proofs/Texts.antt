-- No spelling of a text begins another.
use Rattle.std.proofs.Common.{◌≡◌, ℕ, suc, ◌+◌, ◌%◌, ◌≤◌, ℤ, pos, ◌+ℤ◌, Bool, true, false, not, List, [], ◌∷◌, ◌++◌, length, take, Option, Some, None, refl, sym, ap, ◌∙◌, arith, append_assoc, nat_eq, nat_lt, ◌&&◌, IsTrue, length-append}
use Rattle.std.specs.Prelude.{◌-ℤ◌, ◌≤ℤ◌, int_le, int_lt, nat_abs, if◌then◌else◌}
use Rattle.std.proofs.lemmas.Int.{ints}
use Rattle.acn_num.specs.Bits.{IsNumber, number}
use Rattle.acn_num.specs.Ranges.{In, has, are_ranges, are_ranges_above, all_within}
use Rattle.acn_grammar.specs.Env.{Env}
use Rattle.acn_grammar.specs.Leaves.{text_fine, sizes_fine, end_fine, no_size, is_terminator, is_pattern}
use Rattle.acn_grammar.specs.Spell.{Part, ◌then◌, Where, place_in, character_number, CharactersPart, EndedPart, TextPart, EndsFirst, octet_numbers, RulePart}
use Rattle.acn_grammar.specs.declared.node.TextLeaf.{TextLeaf}
use Rattle.acn_grammar.proofs.Prefix.{Law, then_law, number_law, same_front}
use Rattle.std.proofs.lemmas.Bool.{and_parts, not-true, eqb-true}
use Rattle.acn_grammar.proofs.WholeTests.{le_fact, either}
use Rattle.acn_grammar.proofs.RangeEnds.{above, ranges_from}

pub given_law : {P Q : Part} {F A B : Type 0} → (A → B → Law P Q F) → Law (Where A P) (Where B Q) F
given_law h at a b r s p q e = h p.given q.given at a b r s p.spelled q.spelled e

-- The place of a character tells it.

-- a number of the first range, or of those behind it
first_or_later : (r : ℤ × ℤ) (rs : List (ℤ × ℤ)) (x : ℤ) → are_ranges_above (r.1 +ℤ pos 1) rs ≡ true → has (r ∷ rs) x ≡ true → int_le x r.1 ≡ true → r.0 ≤ℤ x
first_or_later r rs x h p e =
    either {F = r.0 ≤ℤ x} (int_le r.0 x && int_le x r.1) (has rs x) p
    (λ q. le_fact r.0 x (and_parts (int_le r.0 x) (int_le x r.1) q).0)
    (λ q. let far = above (r.1 +ℤ pos 1) rs x h q in let near = le_fact x r.1 e in absurd (omega (arith, ints)))

later : (r : ℤ × ℤ) (rs : List (ℤ × ℤ)) (x : ℤ) → has (r ∷ rs) x ≡ true → int_le x r.1 ≡ false → has rs x ≡ true
later r rs x p e =
    either {F = has rs x ≡ true} (int_le r.0 x && int_le x r.1) (has rs x) p
    (λ q. let t = (and_parts (int_le r.0 x) (int_le x r.1) q).1 in cc)
    (λ q. q)

place_step : (r : ℤ × ℤ) (x z : ℤ) (m n : ℕ) (s t : Bool) → (s ≡ true → r.0 ≤ℤ x) → (t ≡ true → r.0 ≤ℤ z) → (s ≡ true → x ≤ℤ r.1) → (t ≡ true → z ≤ℤ r.1)
    → (s ≡ false → t ≡ false → m ≡ n → x ≡ z)
    → (if s then nat_abs (x -ℤ r.0) else nat_abs (r.1 -ℤ r.0) + 1 + m) ≡ (if t then nat_abs (z -ℤ r.0) else nat_abs (r.1 -ℤ r.0) + 1 + n) → x ≡ z
place_step r x z m n true true a b c d f e =
    let one = a refl in
    let two = b refl in
    omega (arith, ints)
place_step r x z m n true false a b c d f e =
    let one = a refl in
    let two = c refl in
    absurd (omega (arith, ints))
place_step r x z m n false true a b c d f e =
    let one = b refl in
    let two = d refl in
    absurd (omega (arith, ints))
place_step r x z m n false false a b c d f e = f refl refl (omega arith)

place_one : (b : ℤ) (rs : List (ℤ × ℤ)) (x z : ℤ) → are_ranges_above b rs ≡ true → has rs x ≡ true → has rs z ≡ true → place_in rs x ≡ place_in rs z → x ≡ z
place_one b [] x z h p q e = cc
place_one b (r ∷ rs) x z h p q e =
    let f = and_parts (int_lt b r.0) (int_le r.0 r.1 && are_ranges_above (r.1 +ℤ pos 1) rs) h in
    let g = and_parts (int_le r.0 r.1) (are_ranges_above (r.1 +ℤ pos 1) rs) f.1 in
    place_step r x z (place_in rs x) (place_in rs z) (int_le x r.1) (int_le z r.1) (first_or_later r rs x g.1 p) (first_or_later r rs z g.1 q) (le_fact x r.1) (le_fact z r.1)
    (λ s t w. place_one (r.1 +ℤ pos 1) rs x z g.1 (later r rs x p s) (later r rs z q t) w) e

tell_by : (indexed : Bool) (alphabet : List (ℤ × ℤ)) → are_ranges alphabet ≡ true → (c d : ℕ) → In alphabet (pos c) → In alphabet (pos d)
    → (if indexed then place_in alphabet (pos c) else c) ≡ (if indexed then place_in alphabet (pos d) else d) → c ≡ d
tell_by true alphabet h c d p q e =
    let b = ranges_from alphabet h in
    let x = place_one b.0 alphabet (pos c) (pos d) b.1 p q e in
    cc
tell_by false alphabet h c d p q e = e

characters_law : (leaf : TextLeaf) → ((c d : ℕ) → In leaf.alphabet (pos c) → In leaf.alphabet (pos d) → character_number leaf c ≡ character_number leaf d → c ≡ d)
    → (cs ds : List ℕ) → length cs ≡ length ds → Law (CharactersPart leaf cs) (CharactersPart leaf ds) (cs ≡ ds)
characters_law leaf tell [] [] l at a b r s p q e = (p ∙ sym q, refl)
characters_law leaf tell [] (d ∷ ds) l at a b r s p q e = absurd (omega arith)
characters_law leaf tell (c ∷ cs) [] l at a b r s p q e = absurd (omega arith)
characters_law leaf tell (c ∷ cs) (d ∷ ds) l at a b r s p q e =
    let m : length cs ≡ length ds = omega arith in
    let one = then_law (c ≡ d) (cs ≡ ds)
    (given_law (λ f g at' a' b' r' s' t u e'. let h = number_law leaf.width (character_number leaf c) (character_number leaf d) a' b' r' s' t u e' in (h.0, tell c d f g h.1)))
    (λ _. characters_law leaf tell cs ds m) at a b r s p q e in
    let first = one.1.0 in
    let rest = one.1.1 in
    (one.0, cc)

-- a text with a size
sized_law : (leaf : TextLeaf) → are_ranges leaf.alphabet ≡ true → (env env' : Env) (cs ds : List ℕ)
    → Law (RulePart leaf.sized.rule env (length cs)) (RulePart leaf.sized.rule env' (length ds)) (length cs ≡ length ds)
    → Law (EndedPart None leaf env cs) (EndedPart None leaf env' ds) (cs ≡ ds)
sized_law leaf h env env' cs ds rule at a b r s p q e =
    let one = then_law (length cs ≡ length ds) (cs ≡ ds) (given_law (λ _ _. rule)) (λ l. characters_law leaf (tell_by leaf.indexed leaf.alphabet h) cs ds l) at a b r s p q e in
    (one.0, one.1.1)

-- Texts that end: the octets of a list, one after another.

abbrev Coded : List ℕ → List Bool → Type 0
Coded [] bs = bs ≡ []
Coded (o ∷ os) bs = (a : List Bool) × (c : List Bool) × (bs ≡ a ++ c) × IsNumber 8 o a × Coded os c

coded_end : (end : List Bool) → length end % 8 ≡ 0 → Coded (octet_numbers end) end
coded_end [] h = refl
coded_end (a ∷ b ∷ c ∷ d ∷ e ∷ f ∷ g ∷ x ∷ rest) h = (a ∷ b ∷ c ∷ d ∷ e ∷ f ∷ g ∷ x ∷ [], rest, refl, record { width = refl; value = refl }, coded_end rest (omega arith))
coded_end (a ∷ []) h = absurd (omega arith)
coded_end (a ∷ b ∷ []) h = absurd (omega arith)
coded_end (a ∷ b ∷ c ∷ []) h = absurd (omega arith)
coded_end (a ∷ b ∷ c ∷ d ∷ []) h = absurd (omega arith)
coded_end (a ∷ b ∷ c ∷ d ∷ e ∷ []) h = absurd (omega arith)
coded_end (a ∷ b ∷ c ∷ d ∷ e ∷ f ∷ []) h = absurd (omega arith)
coded_end (a ∷ b ∷ c ∷ d ∷ e ∷ f ∷ g ∷ []) h = absurd (omega arith)

-- where whole octets begin these bits, they begin the octets
starts : (e : List Bool) (os : List ℕ) (x r s : List Bool) → length e % 8 ≡ 0 → Coded os x → e ++ r ≡ x ++ s → length e ≤ length x → take (length (octet_numbers e)) os ≡ octet_numbers e
starts [] os x r s h p q l = refl
starts (a ∷ b ∷ c ∷ d ∷ e ∷ f ∷ g ∷ y ∷ rest) [] x r s h p q l = let n = ap length p in absurd (omega arith)
starts (a ∷ b ∷ c ∷ d ∷ e ∷ f ∷ g ∷ y ∷ rest) (o ∷ os) x r s h p q l =
    let chunk : List Bool = a ∷ b ∷ c ∷ d ∷ e ∷ f ∷ g ∷ y ∷ [] in
    let wide : chunk ++ (rest ++ r) ≡ p.0 ++ (p.1 ++ s) = q ∙ (ap (λ z. z ++ s) p.2 ∙ append_assoc p.0 p.1 s) in
    let w = same_front chunk p.0 (rest ++ r) (p.1 ++ s) (sym p.3.width) wide in
    let n = ap length p.2 ∙ length-append p.0 p.1 in
    let m = p.3.width in
    let more : length rest ≤ length p.1 = omega arith in
    let k : length rest % 8 ≡ 0 = omega arith in
    let is : number chunk ≡ o = ap number w.0 ∙ p.3.value in
    let behind = starts rest os p.1 r s k p.4 w.1 more in
    ends_with o os rest (number chunk) is behind
  where
    ends_with : (o : ℕ) (os : List ℕ) (rest : List Bool) (n : ℕ) → n ≡ o → take (length (octet_numbers rest)) os ≡ octet_numbers rest → take (length (n ∷ octet_numbers rest)) (o ∷ os) ≡ n ∷ octet_numbers rest
    ends_with o os rest n e t = cc
starts (a ∷ []) os x r s h p q l = absurd (omega arith)
starts (a ∷ b ∷ []) os x r s h p q l = absurd (omega arith)
starts (a ∷ b ∷ c ∷ []) os x r s h p q l = absurd (omega arith)
starts (a ∷ b ∷ c ∷ d ∷ []) os x r s h p q l = absurd (omega arith)
starts (a ∷ b ∷ c ∷ d ∷ e ∷ []) os x r s h p q l = absurd (omega arith)
starts (a ∷ b ∷ c ∷ d ∷ e ∷ f ∷ []) os x r s h p q l = absurd (omega arith)
starts (a ∷ b ∷ c ∷ d ∷ e ∷ f ∷ g ∷ []) os x r s h p q l = absurd (omega arith)

module _ (leaf : TextLeaf) (eight : leaf.width ≡ 8) (plain : leaf.indexed ≡ false) where
  eight_bits : (c : ℕ) (bs : List Bool) → IsNumber leaf.width (character_number leaf c) bs → IsNumber 8 c bs
  eight_bits c bs p = record { width = p.width ∙ eight; value = p.value ∙ ap (λ b. if b then place_in leaf.alphabet (pos c) else c) plain }

  coded_text : (cs os : List ℕ) (at : ℕ) (a b : List Bool) → CharactersPart leaf cs at a → Coded os b → Coded (cs ++ os) (a ++ b)
  coded_text [] os at a b p q = rw p q
  coded_text (c ∷ cs) os at a b p q =
      (p.front, p.back ++ b, ap (λ z. z ++ b) p.whole ∙ append_assoc p.front p.back b, eight_bits c p.front p.first.spelled, coded_text cs os (at + length p.front) p.back b p.second q)

  module _ (end : List Bool) (octets : length end % 8 ≡ 0) where
    not_before : (d : ℕ) (ds : List ℕ) (at : ℕ) (b r s : List Bool) → EndsFirst (octet_numbers end) (d ∷ ds) → CharactersPart leaf (d ∷ ds) at b → end ++ r ≡ b ++ (end ++ s) → ⊥
    not_before d ds at b r s first p e =
        let coded = coded_text (d ∷ ds) (octet_numbers end) at b end p (coded_end end octets) in
        let n = length-append b end in
        let found = starts end ((d ∷ ds) ++ octet_numbers end) (b ++ end) r s octets coded (e ∙ sym (append_assoc b end s)) (omega arith) in
        let k = first 0 found in
        omega arith

    end_law : (cs ds : List ℕ) (at at' : ℕ) (a b r s : List Bool) → EndsFirst (octet_numbers end) cs → EndsFirst (octet_numbers end) ds → CharactersPart leaf cs at a → CharactersPart leaf ds at' b
        → a ++ (end ++ r) ≡ b ++ (end ++ s) → (cs ≡ ds) × (a ≡ b)
    end_law [] [] at at' a b r s f g p q e = (refl, p ∙ sym q)
    end_law [] (d ∷ ds) at at' a b r s f g p q e = absurd (not_before d ds at' b r s g q (ap (λ z. z ++ (end ++ r)) (sym p) ∙ e))
    end_law (c ∷ cs) [] at at' a b r s f g p q e = absurd (not_before c cs at a s r f p (ap (λ z. z ++ (end ++ s)) (sym q) ∙ sym e))
    end_law (c ∷ cs) (d ∷ ds) at at' a b r s f g p q e =
        let one = eight_bits c p.front p.first.spelled in
        let two = eight_bits d q.front q.first.spelled in
        let wide : p.front ++ (p.back ++ (end ++ r)) ≡ q.front ++ (q.back ++ (end ++ s)) = sym (append_assoc p.front p.back (end ++ r)) ∙ (ap (λ z. z ++ (end ++ r)) (sym p.whole) ∙ (e ∙ (ap (λ z. z ++ (end ++ s)) q.whole ∙ append_assoc q.front q.back (end ++ s)))) in
        let h = number_law 8 c d p.front q.front (p.back ++ (end ++ r)) (q.back ++ (end ++ s)) one two wide in
        let rest = (same_front p.front q.front (p.back ++ (end ++ r)) (q.back ++ (end ++ s)) (ap length h.0) wide).1 in
        let more = end_law cs ds (at + length p.front) (at' + length q.front) p.back q.back r s (λ i t. omega (arith, f (suc i) t)) (λ i t. omega (arith, g (suc i) t)) p.second q.second rest in
        let front_is = h.0 in
        let c_is = h.1 in
        let back_is = more.1 in
        let rest_is = more.0 in
        let whole = p.whole in
        let whole' = q.whole in
        (cc, cc)

ended_law : (leaf : TextLeaf) (end : List Bool) → leaf.width ≡ 8 → leaf.indexed ≡ false → length end % 8 ≡ 0 → (env env' : Env) (cs ds : List ℕ) → Law (EndedPart (Some end) leaf env cs) (EndedPart (Some end) leaf env' ds) (cs ≡ ds)
ended_law leaf end w i o env env' cs ds at a b r s p q e =
    let t = p.spelled in
    let u = q.spelled in
    let wide : t.front ++ (end ++ r) ≡ u.front ++ (end ++ s) = sym (whole_end a t.front t.back r t.whole t.second) ∙ (e ∙ whole_end b u.front u.back s u.whole u.second) in
    let h = end_law leaf w i end o cs ds at at t.front u.front r s p.given.1 q.given.1 t.first u.first wide in
    let front_is = h.1 in
    let one = t.whole in
    let two = u.whole in
    let three = t.second in
    let four = u.second in
    (cc, h.0)
  where
    whole_end : (a f k r : List Bool) → a ≡ f ++ k → k ≡ end → a ++ r ≡ f ++ (end ++ r)
    whole_end a f k r e g = rw (e, g) (append_assoc f end r)

by_end : (end : Option (List Bool)) (leaf : TextLeaf) → are_ranges leaf.alphabet ≡ true → end_fine end leaf ≡ true → (env env' : Env) (cs ds : List ℕ)
    → Law (RulePart leaf.sized.rule env (length cs)) (RulePart leaf.sized.rule env' (length ds)) (length cs ≡ length ds)
    → Law (EndedPart end leaf env cs) (EndedPart end leaf env' ds) (cs ≡ ds)
by_end None leaf h f env env' cs ds rule = sized_law leaf h env env' cs ds rule
by_end (Some end) leaf h f env env' cs ds rule =
    let a = and_parts (no_size leaf.sized.rule) (nat_eq leaf.width 8 && (not leaf.indexed && is_terminator end)) f in
    let b = and_parts (nat_eq leaf.width 8) (not leaf.indexed && is_terminator end) a.1 in
    let c = and_parts (not leaf.indexed) (is_terminator end) b.1 in
    let d = and_parts (is_pattern end) (nat_eq (length end % 8) 0) c.1 in
    ended_law leaf end (eqb-true leaf.width 8 b.0) (not-true leaf.indexed c.0) (eqb-true (length end % 8) 0 d.1) env env' cs ds

pub text_law : (leaf : TextLeaf) → IsTrue (text_fine leaf) → (env env' : Env) (cs ds : List ℕ)
    → Law (RulePart leaf.sized.rule env (length cs)) (RulePart leaf.sized.rule env' (length ds)) (length cs ≡ length ds)
    → Law (TextPart leaf env cs) (TextPart leaf env' ds) (cs ≡ ds)
text_law leaf h env env' cs ds rule =
    let a = and_parts (sizes_fine leaf.sized.sizes) (nat_lt 0 (length leaf.alphabet) && (are_ranges leaf.alphabet && (all_within (pos 0) (pos 127) leaf.alphabet && end_fine leaf.ended leaf))) h in
    let b = and_parts (nat_lt 0 (length leaf.alphabet)) (are_ranges leaf.alphabet && (all_within (pos 0) (pos 127) leaf.alphabet && end_fine leaf.ended leaf)) a.1 in
    let c = and_parts (are_ranges leaf.alphabet) (all_within (pos 0) (pos 127) leaf.alphabet && end_fine leaf.ended leaf) b.1 in
    let d = and_parts (all_within (pos 0) (pos 127) leaf.alphabet) (end_fine leaf.ended leaf) c.1 in
    by_end leaf.ended leaf c.0 d.1 env env' cs ds rule
