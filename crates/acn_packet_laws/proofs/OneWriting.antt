-- A value is written in one way: in mode Written the bits are determined, part by part.
use Rattle.std.proofs.Common.{◌≡◌, ℕ, zero, suc, ◌+◌, ◌-◌, ◌*◌, ◌/◌, ◌^◌, ◌<◌, ℤ, pos, negsuc, ◌+ℤ◌, Bool, true, false, List, [], ◌∷◌, ◌++◌, length, replicate, Option, Some, None, refl, sym, ap, ◌∙◌, arith, inl, inr, IsTrue, length-append}
use Rattle.std.specs.List.{AllByRecursion, zip}
use Rattle.std.proofs.lemmas.Int.{ints}
use Rattle.std.proofs.Math.Nat.{suc-mul}
use Rattle.acn_num.specs.Bits.{number, signed_number, low_bits, IsNumber, IsSigned}
use Rattle.acn_grammar.specs.AsksOn.{LeastAnswer}
use Rattle.acn_grammar.specs.Asks.{Ask}
use Rattle.acn_grammar.specs.Code.{Written, Code, CodingCode, Counted, AreDigits, SignOctet, FlagCode, decimal_number, nibbles, digit_octets, in_order}
use Rattle.acn_grammar.specs.Env.{Env, at_slot}
use Rattle.acn_grammar.specs.Grammar.{Grammar, Form, Fields, Alternatives, Data, Places, Elements, node, num, octets, bits, text, seq, list, choice, contained, no_fields, component, inserted, no_alternatives, alternative, octet_string, bit_string, characters, record_of, list_of, alt, null, no_places, empty, filled, no_elements, element}
use Rattle.acn_grammar.specs.Front.{IsWritten}
use Rattle.acn_grammar.specs.Leaves.{num_fine, implies, can_be_little}
use Rattle.acn_grammar.specs.Length.{ending}
use Rattle.acn_grammar.specs.Spell.{Part, ◌then◌, Padding, Fill, Spell, FormPart, FieldsPart, SlotField, RulePart, SizePart, RunPart, ListPart, CharactersPart, EndedPart, Window, IndexPart, AlternativePart, with_home}
use Rattle.acn_grammar.specs.Tree.{IsTree}
use Rattle.acn_grammar.specs.declared.node.ChoiceRule.{ChoiceRule}
use Rattle.acn_grammar.specs.declared.node.ChoiceRule.TheVariants.{Index, Tests, Item}
use Rattle.acn_grammar.specs.declared.node.NumCoding.{NumCoding}
use Rattle.acn_grammar.specs.declared.node.NumCoding.TheVariants.{Range, CountedFrom, CountedSigned, PosInt, Twos, Bcd, BcdEnded, Ascii, AsciiEnded, Flag, Fixed}
use Rattle.acn_grammar.specs.declared.node.NumLeaf.{NumLeaf}
use Rattle.acn_grammar.specs.declared.node.Sizing.{Sizing}
use Rattle.acn_grammar.specs.declared.node.SizeRule.{SizeRule}
use Rattle.acn_grammar.specs.declared.node.SizeRule.TheVariants.{Prefix, Slot, Ended}
use Rattle.acn_grammar.specs.declared.node.TextLeaf.{TextLeaf}
use Rattle.acn_grammar.proofs.Counts.{digits-below}
use Rattle.acn_grammar.proofs.FineLeaves.{rules_of, implied}
use Rattle.acn_grammar.proofs.LeafLengths.{code-length, nibbles-length, digit_octets-length}
use Rattle.acn_grammar.proofs.SpanLaw.{Fine, FormFine, FieldsFine, AlternativesFine}
use Rattle.acn_grammar.proofs.SpellLength.{Padding-length, NumberOf-number_of}
use Rattle.acn_grammar.proofs.TreeRules.{tree_fine}
use Rattle.acn_packet_laws.proofs.HasCode.{swapped, eight_of}
use Rattle.acn_packet_laws.specs.Laws.{OneWriting}
use Rattle.acn_num.proofs.BitLists.{number_below, number_same}

-- Bits of one length that spell one number.

signed_one : (as' bs : List Bool) → length as' ≡ length bs → signed_number as' ≡ signed_number bs → as' ≡ bs
signed_one [] [] l e = refl
signed_one [] (b ∷ bs) l e = absurd (omega arith)
signed_one (a ∷ as') [] l e = absurd (omega arith)
signed_one (true ∷ as') (true ∷ bs) l e =
    let m : length as' ≡ length bs = omega arith in
    let p : 2 ^ length as' ≡ 2 ^ length bs = ap (λ n. 2 ^ n) m in
    let q : number as' ≡ number bs = omega (arith, ints) in
    ap (λ x. true ∷ x) (number_same as' bs m q)
signed_one (false ∷ as') (false ∷ bs) l e =
    let m : length as' ≡ length bs = omega arith in
    let q : number as' ≡ number bs = omega (arith, ints) in
    ap (λ x. false ∷ x) (number_same as' bs m q)
signed_one (true ∷ as') (false ∷ bs) l e =
    let below = number_below as' in
    absurd (omega (arith, ints))
signed_one (false ∷ as') (true ∷ bs) l e =
    let below = number_below bs in
    absurd (omega (arith, ints))

-- in either order of octets
ordered_one : (little : Bool) (n : ℕ) (as' bs : List Bool) → (little ≡ true → n ≡ 8 * (n / 8)) → length as' ≡ n → length bs ≡ n → (length (in_order little as') ≡ length (in_order little bs)) × (in_order little as' ≡ in_order little bs → as' ≡ bs)
ordered_one false n as' bs h k l = (k ∙ sym l, λ e. e)
ordered_one true n as' bs h k l =
    let v = swapped (n / 8) as' (k ∙ h refl) in
    let w = swapped (n / 8) bs (l ∙ h refl) in
    (v.0 ∙ (k ∙ (sym l ∙ sym w.0)), λ e. sym v.1 ∙ (ap (in_order true) e ∙ w.1))

-- Digits.

times_one : (d e p x y : ℕ) → x < p → y < p → d * p + x ≡ e * p + y → d ≡ e
times_one zero zero p x y h k q = refl
times_one zero (suc e) p x y h k q = absurd (omega (arith, suc-mul e p))
times_one (suc d) zero p x y h k q = absurd (omega (arith, suc-mul d p))
times_one (suc d) (suc e) p x y h k q = ap suc (times_one d e p x y h k (omega (arith, suc-mul d p, suc-mul e p)))

digits_one : (ds es : List ℕ) → AllByRecursion (λ d. d < 10) ds → AllByRecursion (λ d. d < 10) es → length ds ≡ length es → decimal_number ds ≡ decimal_number es → ds ≡ es
digits_one [] [] p q l e = refl
digits_one [] (x ∷ es) p q l e = absurd (omega arith)
digits_one (x ∷ ds) [] p q l e = absurd (omega arith)
digits_one (x ∷ ds) (y ∷ es) p q l e =
    let m : length ds ≡ length es = omega arith in
    let power : 10 ^ length ds ≡ 10 ^ length es = ap (λ n. 10 ^ n) m in
    let b = digits-below ds p.1 in
    let c = digits-below es q.1 in
    let whole : x * 10 ^ length ds + decimal_number ds ≡ y * 10 ^ length ds + decimal_number es = e ∙ ap (λ n. y * n + decimal_number es) (sym power) in
    let first : x ≡ y = times_one x y (10 ^ length ds) (decimal_number ds) (decimal_number es) b (omega arith) whole in
    let rest : decimal_number ds ≡ decimal_number es = omega (arith, ap (λ n. n * 10 ^ length ds) first) in
    let tail = digits_one ds es p.1 q.1 m rest in
    cc

-- as many digits between the same bits
spelled_one : (code : List ℕ → List Bool) (w : ℕ) → 0 < w → ((ds : List ℕ) → length (code ds) ≡ w * length ds) → (k j : ℕ) → k ≡ j → (front end a b : List Bool) → length a ≡ length b → (ds es : List ℕ) → AreDigits k ds → AreDigits j es → a ≡ front ++ (code ds ++ end) → b ≡ front ++ (code es ++ end) → a ≡ b
spelled_one code w some wide k j same front end a b l ds es p q u v =
    let n : length front + (length (code ds) + length end) ≡ length front + (length (code es) + length end) = omega (arith, ap length u, ap length v, length-append front (code ds ++ end), length-append front (code es ++ end), length-append (code ds) end, length-append (code es) end) in
    let m : w * length ds ≡ w * length es = omega (arith, wide ds, wide es) in
    let is = digits_one ds es p.digits q.digits (times_same w (length ds) (length es) some m) (p.value ∙ (same ∙ sym q.value)) in
    u ∙ (ap (λ x. front ++ (code x ++ end)) is ∙ sym v)
  where
    times_same : (w m n : ℕ) → 0 < w → w * m ≡ w * n → m ≡ n
    times_same w m n h e = grind arith

sign_one : (signed : Bool) (y : ℤ) (k j : ℕ) (u v : List Bool) → SignOctet signed y k u → SignOctet signed y j v → (u ≡ v) × (k ≡ j)
sign_one false y k j u v p q = let one = p.0 in let two = q.0 in (p.1 ∙ sym q.1, omega (arith, ints))
sign_one true (pos n) k j u v p q = (p.1 ∙ sym q.1, p.0 ∙ sym q.0)
sign_one true (negsuc n) k j u v p q = (p.1 ∙ sym q.1, p.0 ∙ sym q.0)

-- Codes.

counted_one : (fits : ℕ → List Bool → Type 0) → ((c : ℕ) (s t : List Bool) → fits c s → fits c t → s ≡ t) → (a b : List Bool) → Counted fits a → Counted fits b → a ≡ b
counted_one fits one a b t u =
    let p = t.least u.count u.body u.positive u.spells in
    let q = u.least t.count t.body t.positive t.spells in
    let c : t.count ≡ u.count = omega arith in
    let front : t.front ≡ u.front = number_same t.front u.front (t.counts.width ∙ sym u.counts.width) (t.counts.value ∙ (c ∙ sym u.counts.value)) in
    let moved : fits t.count u.body = rw c u.spells in
    let body : t.body ≡ u.body = one t.count t.body u.body t.spells moved in
    t.whole ∙ (ap (λ x. x ++ t.body) front ∙ (ap (λ x. u.front ++ x) body ∙ sym u.whole))

flag_one : (p q : Option (List Bool)) (y : ℤ) (a b : List Bool) → length a ≡ length b → FlagCode Written p q y a → FlagCode Written p q y b → a ≡ b
flag_one None None y a b l s t =
    let one = s.1 in
    let two = t.1 in
    let k : s.0 ≡ t.0 = omega (arith, ints) in
    number_same a b l (s.2.value ∙ (k ∙ sym t.2.value))
flag_one (Some p) (Some q) y a b l (inl s) (inl t) = s.1 ∙ sym t.1
flag_one (Some p) (Some q) y a b l (inr s) (inr t) = s.1 ∙ sym t.1
flag_one (Some p) (Some q) y a b l (inl s) (inr t) = let one = s.0 in let two = t.0 in absurd (omega (arith, ints))
flag_one (Some p) (Some q) y a b l (inr s) (inl t) = let one = s.0 in let two = t.0 in absurd (omega (arith, ints))
flag_one (Some p) None y a b l (inl s) (inl t) = s.1 ∙ sym t.1
flag_one (Some p) None y a b l (inr s) (inr t) = s.1 ∙ sym t.1
flag_one (Some p) None y a b l (inl s) (inr t) = let one = s.0 in let two = t.0 in absurd (omega (arith, ints))
flag_one (Some p) None y a b l (inr s) (inl t) = let one = s.0 in let two = t.0 in absurd (omega (arith, ints))
flag_one None (Some q) y a b l (inl s) (inl t) = s.1 ∙ sym t.1
flag_one None (Some q) y a b l (inr s) (inr t) = s.1 ∙ sym t.1
flag_one None (Some q) y a b l (inl s) (inr t) = let one = s.0 in let two = t.0 in absurd (omega (arith, ints))
flag_one None (Some q) y a b l (inr s) (inl t) = let one = s.0 in let two = t.0 in absurd (omega (arith, ints))

offset_one : (low y : ℤ) (j k : ℕ) → y ≡ low +ℤ pos j → y ≡ low +ℤ pos k → j ≡ k
offset_one low y j k p q = omega (arith, ints)

pos_one : (y : ℤ) (j k : ℕ) → y ≡ pos j → y ≡ pos k → j ≡ k
pos_one y j k p q = omega (arith, ints)

coding_one : (coding : NumCoding) (little : Bool) (y : ℤ) (a b : List Bool) → implies little (can_be_little coding) ≡ true → length a ≡ length b → CodingCode Written coding little y a → CodingCode Written coding little y b → a ≡ b
coding_one (Range low width) little y a b f l p q = number_same a b l (p.2.value ∙ (offset_one low y p.0 q.0 p.1 q.1 ∙ sym q.2.value))
coding_one (CountedFrom low) little y a b f l p q =
    let k = offset_one low y p.0 q.0 p.1 q.1 in
    let moved : Counted (λ c body. IsNumber (8 * c) p.0 body) b = rw k q.2 in
    counted_one (λ c body. IsNumber (8 * c) p.0 body) (λ c s t u v. number_same s t (u.width ∙ sym v.width) (u.value ∙ sym v.value)) a b p.2 moved
coding_one CountedSigned little y a b f l p q =
    counted_one (λ c body. IsSigned (8 * c) y body) (λ c s t u v. signed_one s t (u.width ∙ sym v.width) (u.value ∙ sym v.value)) a b p q
coding_one (PosInt n) little y a b f l p q =
    let o = ordered_one little n a b (λ e. eight_of n (implied little _ f e)) p.0 q.0 in
    o.1 (number_same (in_order little a) (in_order little b) o.0 (pos_one y _ _ p.1 q.1))
coding_one (Twos n) little y a b f l p q =
    let o = ordered_one little n a b (λ e. eight_of n (implied little _ f e)) p.0 q.0 in
    o.1 (signed_one (in_order little a) (in_order little b) o.0 (sym p.1 ∙ q.1))
coding_one (Bcd n) little y a b f l p q =
    let s = p.3 in
    let t = q.3 in
    spelled_one nibbles 4 (omega arith) nibbles-length p.0 q.0 (pos_one y p.0 q.0 p.1 q.1) [] [] a b l s.digits t.digits s.spell t.spell s.whole t.whole
coding_one BcdEnded little y a b f l p q =
    let s = p.2 in
    let t = q.2 in
    spelled_one nibbles 4 (omega arith) nibbles-length p.0 q.0 (pos_one y p.0 q.0 p.1 q.1) [] (low_bits 4 15) a b l s.digits t.digits s.spell t.spell s.whole t.whole
coding_one (Ascii n signed) little y a b f l p q =
    let s = p.4 in
    let t = q.4 in
    let g = sign_one signed y p.0 q.0 p.1 q.1 p.2 q.2 in
    spelled_one digit_octets 8 (omega arith) digit_octets-length p.0 q.0 g.1 p.1 [] a b l s.digits t.digits s.spell t.spell s.whole (t.whole ∙ ap (λ x. x ++ (digit_octets t.digits ++ [])) (sym g.0))
coding_one (AsciiEnded end signed) little y a b f l p q =
    let s = p.3 in
    let t = q.3 in
    let g = sign_one signed y p.0 q.0 p.1 q.1 p.2 q.2 in
    spelled_one digit_octets 8 (omega arith) digit_octets-length p.0 q.0 g.1 p.1 end a b l s.digits t.digits s.spell t.spell s.whole (t.whole ∙ ap (λ x. x ++ (digit_octets t.digits ++ end)) (sym g.0))
coding_one (Flag u v) little y a b f l p q = flag_one u v y a b l p q
coding_one (Fixed pattern) little y a b f l p q = p.1 ∙ sym q.1

some_one : {A : Type 0} (o : Option A) (x y : A) → o ≡ Some x → o ≡ Some y → x ≡ y
some_one o x y p q = let e = sym p ∙ q in cc

pub code_one : (leaf : NumLeaf) → IsTrue (num_fine leaf) → (x z : ℤ) → x ≡ z → (a b : List Bool) → Code Written leaf x a → Code Written leaf z b → a ≡ b
code_one leaf fine x z same a b p q =
    let moved : Code Written leaf x b = rw same q in
    let l = code-length Written leaf fine x a p ∙ sym (code-length Written leaf fine x b moved) in
    let i = some_one _ p.image moved.image p.maps moved.maps in
    let spelled : CodingCode Written leaf.coding leaf.little p.image b = rw i moved.spelled in
    coding_one leaf.coding leaf.little p.image a b (rules_of leaf fine).little l p.spelled spelled

-- Parts.

abbrev One : Part → Part → Type 0
One P Q = (at : ℕ) (a b : List Bool) → P at a → Q at b → a ≡ b

then_one : {P P' Q Q' : Part} → One P P' → One Q Q' → One (P then Q) (P' then Q')
then_one {P} {P'} {Q} {Q'} one two at a b t u =
    let front : t.front ≡ u.front = one at t.front u.front t.first u.first in
    let moved : Q' (at + length t.front) u.back = rw front u.second in
    let back : t.back ≡ u.back = two (at + length t.front) t.back u.back t.second moved in
    t.whole ∙ (ap (λ x. x ++ t.back) front ∙ (ap (λ x. u.front ++ x) back ∙ sym u.whole))

padding_one : (align : ℕ) → One (Padding Written align) (Padding Written align)
padding_one align at a b p q =
    let l = Padding-length Written align at a p ∙ sym (Padding-length Written align at b q) in
    p.zeros refl ∙ (ap (λ n. replicate n false) l ∙ sym (q.zeros refl))

as_padding : (at : ℕ) (a : List Bool) → Fill Written at a → Padding Written 8 at a
as_padding at a p = record { aligned = p.aligned; fewest = p.few; zeros = p.zeros }

exact_one : (bs : List Bool) → One (λ at a. a ≡ bs) (λ at a. a ≡ bs)
exact_one bs at a b p q = p ∙ sym q

rule_one : (rule : SizeRule) (env : Env) (n m : ℕ) → n ≡ m → One (RulePart rule env n) (RulePart rule env m)
rule_one (Prefix low width) env n m same at a b p q =
    number_same a b (p.spelled.width ∙ sym q.spelled.width) (p.spelled.value ∙ (ap (λ x. x - low) same ∙ sym q.spelled.value))
rule_one (Slot s) env n m same at a b p q = p.1 ∙ sym q.1
rule_one (Ended e) env n m same at a b p q = absurd p.0

size_one : (sizing : Sizing) (env : Env) (n m : ℕ) → n ≡ m → One (SizePart sizing env n) (SizePart sizing env m)
size_one sizing env n m same at a b p q = rule_one sizing.rule env n m same at a b p.spelled q.spelled

characters_one : (leaf : TextLeaf) (cs : List ℕ) → One (CharactersPart leaf cs) (CharactersPart leaf cs)
characters_one leaf [] at a b p q = p ∙ sym q
characters_one leaf (c ∷ cs) at a b t u = then_one (λ at' a' b' p q. number_same a' b' (p.spelled.width ∙ sym q.spelled.width) (p.spelled.value ∙ sym q.spelled.value)) (characters_one leaf cs) at a b t u

text_one : (end : Option (List Bool)) (leaf : TextLeaf) (env : Env) (cs : List ℕ) → One (EndedPart end leaf env cs) (EndedPart end leaf env cs)
text_one None leaf env cs at a b p q = then_one (size_one leaf.sized env (length cs) (length cs) refl) (characters_one leaf cs) at a b p q
text_one (Some end) leaf env cs at a b p q = then_one (characters_one leaf cs) (exact_one end) at a b p.spelled q.spelled

run_one : (each : Data → Part) → ((d : Data) → One (each d) (each d)) → (es : Elements) → One (RunPart each es) (RunPart each es)
run_one each h no_elements at a b p q = p ∙ sym q
run_one each h (element d es) at a b p q = then_one (h d) (run_one each h es) at a b p q

list_one : (end : Option (List Bool)) (sizing : Sizing) (env : Env) (each : Data → Part) → ((d : Data) → One (each d) (each d)) → (es : Elements) → One (ListPart end sizing env each es) (ListPart end sizing env each es)
list_one None sizing env each h es at a b t u = then_one (size_one sizing env _ _ refl) (run_one each h es) at a b t u
list_one (Some p) sizing env each h es at a b t u = then_one (run_one each h es) (exact_one p) at a b t.spelled u.spelled

-- contents, whose count of octets follows from their bits
window_one : (content : Part) (sizing : Sizing) (env : Env) → One content content → (n m : ℕ) → One (SizePart sizing env n then Window content (Fill Written) n) (SizePart sizing env m then Window content (Fill Written) m)
window_one content sizing env h n m at a b t u =
    let inside = then_one h (λ at' a' b' p q. padding_one 8 at' a' b' (as_padding at' a' p) (as_padding at' b' q)) 0 t.back u.back t.second.inside u.second.inside in
    let one = t.second.size in
    let two = u.second.size in
    let long : length t.back ≡ length u.back = ap length inside in
    let same : n ≡ m = omega arith in
    let front : t.front ≡ u.front = size_one sizing env n m same at t.front u.front t.first u.first in
    t.whole ∙ (ap (λ x. x ++ t.back) front ∙ (ap (λ x. u.front ++ x) inside ∙ sym u.whole))

index_one : (root : Grammar) (rule : ChoiceRule) (i : ℕ) → One (IndexPart root rule i) (IndexPart root rule i)
index_one root (Index width) i at a b p q = number_same a b (p.width ∙ sym q.width) (p.value ∙ sym q.value)
index_one root Tests i at a b p q = p ∙ sym q
index_one root (Item s) i at a b p q = p ∙ sym q

-- The least numbers are one.

least_one : (set : List (ℤ × ℤ)) (wanted : List Ask) (x y : ℤ) → LeastAnswer set wanted x → LeastAnswer set wanted y → x ≡ y
least_one set wanted x y p q =
    let one = p.first y q.answers in
    let two = q.first x p.answers in
    omega (arith, ints)

numbers_one : (set : ℕ → List (ℤ × ℤ)) (wanted : ℕ → List Ask) (home : List ℕ) (xs ys : List ℤ) → length xs ≡ length home → length ys ≡ length home
    → AllByRecursion (λ e. LeastAnswer (set e.0) (wanted e.0) e.1) (zip home xs) → AllByRecursion (λ e. LeastAnswer (set e.0) (wanted e.0) e.1) (zip home ys) → xs ≡ ys
numbers_one set wanted [] [] [] k l p q = refl
numbers_one set wanted [] (x ∷ xs) ys k l p q = absurd (omega arith)
numbers_one set wanted [] [] (y ∷ ys) k l p q = absurd (omega arith)
numbers_one set wanted (s ∷ home) [] ys k l p q = absurd (omega arith)
numbers_one set wanted (s ∷ home) (x ∷ xs) [] k l p q = absurd (omega arith)
numbers_one set wanted (s ∷ home) (x ∷ xs) (y ∷ ys) k l p q =
    let first = least_one (set s) (wanted s) x y p.0 q.0 in
    let rest = numbers_one set wanted home xs ys (omega arith) (omega arith) p.1 q.1 in
    cc

-- Nodes.

module _ (root : Grammar) where
  slot_one : (g : Grammar) → Fine g → (env : Env) (s : ℕ) → One (SlotField root Written g env s) (SlotField root Written g env s)
  slot_one (node align (num leaf)) f env s at a b t u =
      let same = some_one (at_slot env s) t.0 u.0 t.1 u.1 in
      then_one (padding_one align) (λ at' a' b' p q. code_one leaf f.1 t.0 u.0 same a' b' p q) at a b t.2 u.2
  slot_one (node align _) f env s at a b t u = absurd t.0

  mutual
    pub node_one : (g : Grammar) → Fine g → (env : Env) (d : Data) → One (Spell root Written g env d) (Spell root Written g env d)
    node_one (node align form) f env d at a b t u = then_one (padding_one align) (form_one form f.1 env d) at a b t u

    form_one : (form : Form) → FormFine form → (env : Env) (d : Data) → One (FormPart root Written form env d) (FormPart root Written form env d)
    form_one (num leaf) f env d at a b t u =
        code_one leaf f t.0 u.0 (NumberOf-number_of leaf.kind d t.0 t.1 ∙ sym (NumberOf-number_of leaf.kind d u.0 u.1)) a b t.2 u.2
    form_one (octets sizing) f env (octet_string os) at a b t u =
        then_one (size_one sizing env _ _ refl) (λ at' a' b' p q. p.spelled ∙ sym q.spelled) at a b t u
    form_one (bits sizing) f env (bit_string cs) at a b t u = then_one (size_one sizing env _ _ refl) (exact_one cs) at a b t u
    form_one (text leaf) f env (characters cs) at a b t u = text_one leaf.ended leaf env cs at a b t u
    form_one (seq fields home) f env (record_of ps) at a b t u =
        let same : t.numbers ≡ u.numbers = numbers_one _ _ home t.numbers u.numbers (t.fine).count (u.fine).count ((t.fine).least refl) ((u.fine).least refl) in
        let v = t.spelled in
        let w = u.spelled in
        let front : v.front ≡ w.front = v.first ∙ sym w.first in
        let moved : FieldsPart root Written fields (with_home home t.numbers env) ps (at + length v.front) w.back = rw (same, front) w.second in
        let back = fields_one fields f (with_home home t.numbers env) ps (at + length v.front) v.back w.back v.second moved in
        v.whole ∙ (ap (λ x. x ++ v.back) front ∙ (ap (λ x. w.front ++ x) back ∙ sym w.whole))
    form_one (list sizing g) f env (list_of es) at a b t u = list_one (ending sizing.rule) sizing env (Spell root Written g env) (λ d. node_one g f.1 env d) es at a b t u
    form_one (choice cases rule) f env (alt i d) at a b t u = then_one (index_one root rule i) (case_one cases f rule env i d) at a b t u
    form_one (contained sizing g) f env d at a b t u = window_one (Spell root Written g env d) sizing env (node_one g f.1 env d) t.some u.some at a b t.spelled u.spelled
    form_one _ f env d at a b t u = absurd t.0

    fields_one : (fs : Fields) → FieldsFine fs → (env : Env) (ps : Places) → One (FieldsPart root Written fs env ps) (FieldsPart root Written fs env ps)
    fields_one no_fields f env no_places at a b t u = t ∙ sym u
    fields_one (component name g presence default own fs) f env (filled d ps) at a b t u =
        then_one (λ at' a' b' p q. node_one g f.0 env d at' a' b' p.spelled q.spelled) (fields_one fs f.1 env ps) at a b t u
    fields_one (component name g presence default own fs) f env (empty ps) at a b t u = fields_one fs f.1 env ps at a b t.spelled u.spelled
    fields_one (inserted name g (Some s) fs) f env ps at a b t u = then_one (slot_one g f.0 env s) (fields_one fs f.1 env ps) at a b t u
    fields_one (inserted name g None fs) f env ps at a b t u = then_one (node_one g f.0 env null) (fields_one fs f.1 env ps) at a b t u
    fields_one _ f env ps at a b t u = absurd t.0

    case_one : (cases : Alternatives) → AlternativesFine cases → (rule : ChoiceRule) (env : Env) (i : ℕ) (d : Data) → One (AlternativePart root Written cases rule env i d) (AlternativePart root Written cases rule env i d)
    case_one (alternative name g tests more) f rule env zero d at a b t u = node_one g f.0 env d at a b t.spelled u.spelled
    case_one (alternative name g tests more) f rule env (suc i) d at a b t u = case_one more f.1 rule env i d at a b t u
    case_one no_alternatives f rule env i d at a b t u = absurd t.0

-- a tree that is well formed writes a value in one way
pub writing_of_a_tree : (root : Grammar) → IsTree root → (d : Data) (a b : List Bool) → IsWritten root d a → IsWritten root d b → a ≡ b
writing_of_a_tree root tree d a b t u = node_one root root (tree_fine root tree) [] d 0 a b t u

pub one_writing : OneWriting
one_writing root d a b accepted t u = writing_of_a_tree root accepted.formed d a b t u
