-- An ended text and a failure exclude each other, and two failures are one.
use Rattle.std.proofs.Common.{◌≡◌, ℕ, zero, suc, ◌+◌, ◌-◌, ◌*◌, ◌/◌, ◌<◌, ◌≤◌, pos, Bool, false, List, [], ◌∷◌, ◌++◌, length, take, drop, Option, Some, None, refl, sym, ap, ◌∙◌, arith, append_assoc, length-append, subst}
use Rattle.std.proofs.lemmas.Bool.{false_from_ne_true}
use Rattle.std.proofs.lemmas.List.{take-append-le, drop-append-le, length-drop}
use Rattle.std.proofs.Math.Seq.{take-append_seam, take-append-add, drop-append_seam}
use Rattle.acn_num.specs.Bits.{number}
use Rattle.acn_num.specs.Ranges.{In, greatest}
use Rattle.acn_grammar.specs.Asks.{same_name}
use Rattle.acn_grammar.specs.Fails.{Fault, Here, NoText, found_end, input_ended, end_too_late, length_not_permitted, character_not_permitted, FoundFails}
use Rattle.acn_grammar.specs.Interval.{size_of}
use Rattle.acn_grammar.specs.LeafFails.{octet_values}
use Rattle.acn_grammar.specs.Leaves.{end_fine}
use Rattle.acn_grammar.specs.Spell.{CharactersPart, EndsFirst, octet_numbers}
use Rattle.acn_grammar.specs.declared.node.TextLeaf.{TextLeaf}
use Rattle.acn_packet_laws.proofs.Exclusion.{take_n, whole_of}
use Rattle.acn_packet_laws.proofs.NodeExclusion.{TextExcl, TextSame}
use Rattle.acn_grammar.proofs.SpanLaw.{size_has}
use Rattle.acn_grammar.proofs.Characters.{same_name-is, same_name-refl, characters_long}
use Rattle.acn_grammar.proofs.Octets.{octet_first}
use Rattle.acn_grammar.proofs.FirstPlaces.{find_first}
use Rattle.acn_grammar.proofs.TextRules.{text_rules, end_rules}

found_same : (here : Here) (leaf : TextLeaf) (ending most available : ℕ) (rest : List Bool) (o : Option ℕ) (f g : Fault) (m n : ℕ) → FoundFails here leaf ending most available rest o f m → FoundFails here leaf ending most available rest o g n → (f ≡ g) × (m ≡ n)
found_same here leaf ending most available rest None f g m n (input_ended p) (input_ended q) = (p.1 ∙ sym q.1, p.2 ∙ sym q.2)
found_same here leaf ending most available rest None f g m n (input_ended p) (end_too_late q) = let a = p.0 in let b = q.0 in absurd (omega arith)
found_same here leaf ending most available rest None f g m n (end_too_late p) (input_ended q) = let a = p.0 in let b = q.0 in absurd (omega arith)
found_same here leaf ending most available rest None f g m n (end_too_late p) (end_too_late q) = (p.1 ∙ sym q.1, p.2 ∙ sym q.2)
found_same here leaf ending most available rest (Some i) f g m n (length_not_permitted p) (length_not_permitted q) = (p.1 ∙ sym q.1, p.2 ∙ sym q.2)
found_same here leaf ending most available rest (Some i) f g m n (length_not_permitted p) (character_not_permitted q) = absurd (p.0 q.0)
found_same here leaf ending most available rest (Some i) f g m n (character_not_permitted p) (length_not_permitted q) = absurd (q.0 p.0)
found_same here leaf ending most available rest (Some i) f g m n (character_not_permitted p) (character_not_permitted q) = (p.2 ∙ sym q.2, p.3 ∙ sym q.3)

pub text_same : TextSame
text_same here leaf end env env' at rest f g m n p q =
    let most = size_of (greatest leaf.sized.sizes) + length (octet_numbers end) in
    found_same here leaf (length end) most (length (octet_values rest)) rest (found_end (octet_numbers end) (take most (octet_values rest))) f g m n p q

-- Octets of what is written.

pub characters_octets : (leaf : TextLeaf) → leaf.width ≡ 8 → leaf.indexed ≡ false → (cs : List ℕ) (at : ℕ) (bs rest : List Bool) → CharactersPart leaf cs at bs → octet_values (bs ++ rest) ≡ cs ++ octet_values rest
characters_octets leaf w i [] at bs rest e = ap (λ z. octet_values (z ++ rest)) e
characters_octets leaf w i (c ∷ cs) at bs rest t =
    let value : number t.front ≡ c = t.first.spelled.value ∙ rw i refl in
    ap octet_values (whole_of bs t.front t.back rest t.whole) ∙ (octet_first t.front (t.back ++ rest) (t.first.spelled.width ∙ w)
    ∙ join value (characters_octets leaf w i cs (at + length t.front) t.back rest t.second))
  where
    join : {x y : ℕ} {xs ys : List ℕ} → x ≡ y → xs ≡ ys → x ∷ xs ≡ y ∷ ys
    join e f = cc

pub whole_octets : (k : ℕ) (bs rest : List Bool) → length bs ≡ 8 * k → (octet_values (bs ++ rest) ≡ octet_numbers bs ++ octet_values rest) × (length (octet_numbers bs) ≡ k)
whole_octets zero [] rest l = (refl, refl)
whole_octets zero (x ∷ bs) rest l = absurd (omega arith)
whole_octets (suc k) (a ∷ b ∷ c ∷ d ∷ e ∷ f ∷ g ∷ h ∷ bs) rest l = let r = whole_octets k bs rest (omega arith) in (ap (λ z. number (a ∷ b ∷ c ∷ d ∷ e ∷ f ∷ g ∷ h ∷ []) ∷ z) r.0, ap suc r.1)
whole_octets (suc k) _ rest l = absurd (omega arith)

-- the terminator is found where the text ends
found_at : (end cs more : List ℕ) → 0 < length end → EndsFirst end cs → found_end end (cs ++ (end ++ more)) ≡ Some (length cs)
found_at end cs more some first =
    find_first (λ i. same_name (take (length end) (drop i (cs ++ (end ++ more)))) end) (length (cs ++ (end ++ more))) (length cs) (below (length-append cs (end ++ more)) (length-append end more))
    (ap (λ z. same_name (take (length end) z) end) (drop-append_seam cs (end ++ more)) ∙ (ap (λ z. same_name z end) (take-append_seam end more) ∙ same_name-refl end))
    (λ j v. false_from_ne_true (same_name (take (length end) (drop j (cs ++ (end ++ more)))) end) (λ h.
    let is = same_name-is (take (length end) (drop j (cs ++ (end ++ more)))) end h in
    let late = first j (inside j v ∙ is) in
    omega arith))
  where
    below : length (cs ++ (end ++ more)) ≡ length cs + length (end ++ more) → length (end ++ more) ≡ length end + length more → length cs < length (cs ++ (end ++ more))
    below h k = omega arith

    inside : (j : ℕ) → j < length cs → take (length end) (drop j (cs ++ end)) ≡ take (length end) (drop j (cs ++ (end ++ more)))
    inside j v =
        let all : cs ++ (end ++ more) ≡ (cs ++ end) ++ more = sym (append_assoc cs end more) in
        let long : j ≤ length (cs ++ end) = omega (arith, length-append cs end) in
        let fits : length end ≤ length (drop j (cs ++ end)) = omega (arith, length-append cs end, length-drop j (cs ++ end)) in
        sym (ap (λ z. take (length end) (drop j z)) all ∙ (ap (take (length end)) (drop-append-le j (cs ++ end) more long) ∙ take-append-le (length end) (drop j (cs ++ end)) more fits))

none_chosen : (here : Here) (leaf : TextLeaf) (ending most available : ℕ) (rest : List Bool) (i : ℕ) (o : Option ℕ) (fault : Fault) (reach : ℕ) → o ≡ Some i → In leaf.sized.sizes (pos i) → (NoText leaf (take (8 * i) rest) → ⊥) → FoundFails here leaf ending most available rest o fault reach → ⊥
none_chosen here leaf ending most available rest i o fault reach e p t f = by (subst (λ (z : Option ℕ). FoundFails here leaf ending most available rest z fault reach) e f)
  where
    by : FoundFails here leaf ending most available rest (Some i) fault reach → ⊥
    by (length_not_permitted h) = h.0 p
    by (character_not_permitted h) = t h.1

-- as many octets as the greatest size and the terminator have
taken : (cs end more : List ℕ) (n : ℕ) → length cs ≤ n → (k : ℕ) × (take (n + length end) (cs ++ (end ++ more)) ≡ cs ++ (end ++ take k more))
taken cs end more n h =
    let e : n + length end ≡ length cs + (length end + (n - length cs)) = omega arith in
    (n - length cs, ap (λ z. take z (cs ++ (end ++ more))) e ∙ (take-append-add cs (end ++ more) (length end + (n - length cs)) ∙ ap (λ z. cs ++ z) (take-append-add end more (n - length cs))))

pub text_excl : TextExcl
text_excl here leaf end is fine env env' cs at a r fault reach t f =
    let p = text_rules leaf fine in
    let q = end_rules leaf end (ap (λ z. end_fine z leaf) (sym is) ∙ p.end) in
    let eight = q.width in
    let spelled = t.spelled in
    let octets_end = whole_octets (length end / 8) end r q.octets in
    let most = size_of (greatest leaf.sized.sizes) in
    let few = (size_has leaf.sized.sizes (length cs) p.sizes t.given.0).1 in
    let values : octet_values (a ++ r) ≡ cs ++ (octet_numbers end ++ octet_values r) =
    ap octet_values (whole_of a spelled.front spelled.back r spelled.whole) ∙ (ap (λ z. octet_values (spelled.front ++ (z ++ r))) spelled.second
    ∙ (characters_octets leaf eight q.plain cs at spelled.front (end ++ r) spelled.first ∙ ap (λ z. cs ++ z) octets_end.0)) in
    let cut = taken cs (octet_numbers end) (octet_values r) most few in
    let found : found_end (octet_numbers end) (take (most + length (octet_numbers end)) (octet_values (a ++ r))) ≡ Some (length cs) =
    ap (λ z. found_end (octet_numbers end) (take (most + length (octet_numbers end)) z)) values ∙ (ap (found_end (octet_numbers end)) cut.1 ∙ found_at (octet_numbers end) cs (take cut.0 (octet_values r)) (omega (arith, q.some, octets_end.1)) t.given.1) in
    let long : length spelled.front ≡ 8 * length cs = characters_long leaf cs at spelled.front spelled.first ∙ ap (λ k. k * length cs) eight in
    let text : take (8 * length cs) (a ++ r) ≡ spelled.front = ap (take (8 * length cs)) (whole_of a spelled.front spelled.back r spelled.whole) ∙ take_n (8 * length cs) spelled.front (spelled.back ++ r) long in
    none_chosen here leaf (length end) (most + length (octet_numbers end)) (length (octet_values (a ++ r))) (a ++ r) (length cs) (found_end (octet_numbers end) (take (most + length (octet_numbers end)) (octet_values (a ++ r)))) fault reach found t.given.0
    (λ none. none cs at (subst (λ (z : List Bool). CharactersPart leaf cs at z) (sym text) spelled.first)) f
