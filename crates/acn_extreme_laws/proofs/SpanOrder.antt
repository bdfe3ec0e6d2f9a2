-- The least bound of a sound node isn't above the greatest.
use Rattle.std.proofs.Common.{◌≡◌, ℕ, suc, ◌+◌, ◌*◌, ◌≤◌, ℤ, pos, negsuc, true, ◌&&◌, List, [], ◌∷◌, length, map, Option, Some, None, refl, arith, IsTrue, nat_lt}
use Rattle.std.proofs.lemmas.Bool.{and_parts, and_from, or_left}
use Rattle.std.proofs.Math.Nat.{div-add-mod, mod-lt, mul-le-mul_left}
use Rattle.std.specs.Prelude.{int_le, ◌≤ℤ◌}
use Rattle.acn_num.specs.Ranges.{In, Ranges, has, are_ranges, all_within}
use Rattle.acn_grammar.specs.Grammar.{Grammar, Form, Fields, Alternatives, node, num, octets, bits, text, seq, list, choice, contained, no_fields, component, inserted, no_alternatives, alternative}
use Rattle.acn_grammar.specs.Interval.{plus, times, exactly, in_octets, sizes_of, fixed_width, code_lengths, from_one_octet, span_by, num_span, list_around, component_span, span, form_span, fields_span, alternatives_span}
use Rattle.acn_grammar.specs.Leaves.{num_fine, sizes_fine, rule_fine, list_rule_fine}
use Rattle.acn_grammar.specs.Length.{coding_length, ending, rule_width, index_width}
use Rattle.acn_grammar.specs.Scoped.{Known, with_slot, with_own, after, choose_known}
use Rattle.acn_grammar.specs.Sound.{Sound, FormSound, FieldsSound, AlternativesSound}
use Rattle.acn_grammar.specs.Tree.{choice_rule_fine}
use Rattle.acn_grammar.specs.Leaves.{all_differ}
use Rattle.acn_grammar.specs.Asks.{same_name}
use Rattle.acn_grammar.specs.Walk.{conditions_of}
use Rattle.acn_grammar.specs.Images.{images_of}
use Rattle.acn_grammar.specs.declared.bounds.Bounds.{Bounds}
use Rattle.acn_grammar.specs.declared.node.NumCoding.{NumCoding}
use Rattle.acn_grammar.specs.declared.node.NumCoding.TheVariants.{Range, CountedFrom, CountedSigned, PosInt, Twos, Bcd, BcdEnded, Ascii, AsciiEnded, Flag, Fixed}
use Rattle.acn_grammar.specs.declared.node.NumLeaf.{NumLeaf}
use Rattle.acn_grammar.specs.declared.node.Presence.{Presence}
use Rattle.acn_grammar.specs.declared.node.Presence.TheVariants.{Always, Bit, When}
use Rattle.acn_num.specs.declared.limits.TheConstants.{MOST_SIZE}
use Rattle.acn_grammar.proofs.HasImage.{has_image, ordered_ranges, Ordered}
use Rattle.acn_grammar.proofs.Monotone.{Has, lengths_have}
use Rattle.acn_grammar.proofs.SpanLaw.{size_has, varies_if}
use Rattle.acn_grammar.proofs.TextRules.{text_rules}
use Rattle.acn_grammar.proofs.WholeTests.{le_self, le_test}
use Rattle.acn_grammar.proofs.Within.{image_has}
use Rattle.acn_extreme_laws.proofs.Codes.{least_in}
use Rattle.acn_extreme_laws.proofs.Tuples.{first_two, first_four, first_five, second_three, third_four, fourth_five, last_two, last_three, last_four, last_five}
use Rattle.acn_grammar.specs.Length.{least}

abbrev pub InOrder : Bounds → Type 0
InOrder b = b.least ≤ b.greatest

exactly_order : (n : ℕ) → InOrder (exactly n)
exactly_order n = omega arith

plus_order : (a b : Bounds) → InOrder a → InOrder b → InOrder (plus a b)
plus_order a b h k = omega arith

times_order : (a b : Bounds) → InOrder a → InOrder b → InOrder (times a b)
times_order a b h k =
    let one = mul-le-mul_left {m = b.least} {n = b.greatest} a.least k in
    let two = mul-le-mul_left {m = a.least} {n = a.greatest} b.greatest h in
    omega (arith, one, two, swap a.least b.greatest, swap a.greatest b.greatest)
  where
    swap : (x y : ℕ) → y * x ≡ x * y
    swap x y = omega arith

octets_order : (b : Bounds) → InOrder b → InOrder (in_octets b)
octets_order b h =
    let one = div-add-mod (b.least + 7) 8 in
    let two = div-add-mod (b.greatest + 7) 8 in
    let low = mod-lt (b.least + 7) {m = 8} (omega arith) in
    let high = mod-lt (b.greatest + 7) {m = 8} (omega arith) in
    omega arith

-- sizes have a member
some_size : (rs : Ranges) → sizes_fine rs ≡ true → (n : ℕ) × In rs (pos n)
some_size rs h = by rs (and_parts (nat_lt 0 (length rs)) (are_ranges rs && all_within (pos 0) (pos MOST_SIZE) rs) h).0 (ordered_ranges rs (and_parts (are_ranges rs) (all_within (pos 0) (pos MOST_SIZE) rs) a).0) (and_parts (are_ranges rs) (all_within (pos 0) (pos MOST_SIZE) rs) a).1
  where
    a : (are_ranges rs && all_within (pos 0) (pos MOST_SIZE) rs) ≡ true
    a = (and_parts (nat_lt 0 (length rs)) (are_ranges rs && all_within (pos 0) (pos MOST_SIZE) rs) h).1

    here : (x : ℤ) (b : ℤ) (rest : Ranges) → x ≤ℤ b → int_le (pos 0) x ≡ true → (n : ℕ) × In ((x, b) ∷ rest) (pos n)
    here (pos n) b rest o z = (n, or_left (int_le (pos n) (pos n) && int_le (pos n) b) (has rest (pos n)) (and_from (int_le (pos n) (pos n)) (int_le (pos n) b) (le_self (pos n)) (le_test (pos n) b o)))
    here (negsuc n) b rest o z = cc

    by : (rs : Ranges) → nat_lt 0 (length rs) ≡ true → Ordered rs → all_within (pos 0) (pos MOST_SIZE) rs ≡ true → (n : ℕ) × In rs (pos n)
    by [] l o w = cc
    by (r ∷ rs) l o w = here r.0 r.1 rs o.0 (and_parts (int_le (pos 0) r.0) (int_le r.1 (pos MOST_SIZE) && all_within (pos 0) (pos MOST_SIZE) rs) w).0

sizes_order : (rs : Ranges) → sizes_fine rs ≡ true → InOrder (sizes_of rs)
sizes_order rs h = (let n = some_size rs h in let k = size_has rs n.0 h n.1 in let low = k.0 in let high = k.1 in omega arith)

counted_order : (coding : NumCoding) (y : ℤ) (b : Bounds) → Has b (coding_length coding y) → InOrder (from_one_octet coding b)
counted_order (CountedFrom low) y b h = (let high = h.1 in omega arith)
counted_order CountedSigned y b h = (let high = h.1 in omega arith)
counted_order (Range low width) y b h = (let a = h.0 in let c = h.1 in omega arith)
counted_order (PosInt n) y b h = (let a = h.0 in let c = h.1 in omega arith)
counted_order (Twos n) y b h = (let a = h.0 in let c = h.1 in omega arith)
counted_order (Bcd n) y b h = (let a = h.0 in let c = h.1 in omega arith)
counted_order BcdEnded y b h = (let a = h.0 in let c = h.1 in omega arith)
counted_order (Ascii n signed) y b h = (let a = h.0 in let c = h.1 in omega arith)
counted_order (AsciiEnded end signed) y b h = (let a = h.0 in let c = h.1 in omega arith)
counted_order (Flag p q) y b h = (let a = h.0 in let c = h.1 in omega arith)
counted_order (Fixed p) y b h = (let a = h.0 in let c = h.1 in omega arith)

num_order : (leaf : NumLeaf) → IsTrue (num_fine leaf) → InOrder (num_span leaf)
num_order leaf fine = by (fixed_width leaf.coding) refl
  where
    image : (y : ℤ) × (has (images_of leaf) y ≡ true)
    image = (let x = least leaf.set in let y = has_image leaf fine x (least_in leaf fine) in (y.0, image_has leaf x y.0 (least_in leaf fine) y.1))

    by : (o : Option ℕ) → o ≡ fixed_width leaf.coding → InOrder (span_by leaf o)
    by (Some w) e = exactly_order w
    by None e =
        let k = counted_order leaf.coding image.0 (code_lengths leaf) (lengths_have leaf.coding (varies_if leaf.coding e) (images_of leaf) image.0 image.1) in
        omega arith

presence_order : (p : Presence) (b : Bounds) → InOrder b → InOrder (component_span p b)
presence_order Always b h = h
presence_order Bit b h = omega arith
presence_order (When ts) b h = omega arith

module _ (root : Grammar) where
  mutual
    pub span_order : (g : Grammar) (k : ℕ) (around : List ℕ) (ks : Known) → Sound root k around ks g → InOrder (span g)
    span_order (node a form) k around ks sound = (let t = form_order form k around ks (last_three sound) in omega arith)

    form_order : (form : Form) (k : ℕ) (around : List ℕ) (ks : Known) → FormSound root k around ks form → InOrder (form_span form)
    form_order (num l) k around ks sound = num_order l sound
    form_order (octets z) k around ks sound = plus_order (exactly (rule_width z.rule)) (times (sizes_of z.sizes) (exactly 8)) (exactly_order (rule_width z.rule)) (times_order (sizes_of z.sizes) (exactly 8) (sizes_order z.sizes (and_parts (sizes_fine z.sizes) (rule_fine z.sizes z.rule) (first_two sound)).0) (exactly_order 8))
    form_order (bits z) k around ks sound = plus_order (exactly (rule_width z.rule)) (times (sizes_of z.sizes) (exactly 1)) (exactly_order (rule_width z.rule)) (times_order (sizes_of z.sizes) (exactly 1) (sizes_order z.sizes (and_parts (sizes_fine z.sizes) (rule_fine z.sizes z.rule) (first_two sound)).0) (exactly_order 1))
    form_order (text l) k around ks sound = plus_order _ (times (sizes_of l.sized.sizes) (exactly l.width)) (exactly_order _) (times_order (sizes_of l.sized.sizes) (exactly l.width) (sizes_order l.sized.sizes (text_rules l (first_two sound)).sizes) (exactly_order l.width))
    form_order (seq fs home) k around ks sound = fields_order fs (suc k) _ ks (last_two sound)
    form_order (list z g) k around ks sound =
        plus_order (exactly (list_around (ending z.rule) z)) (times (sizes_of z.sizes) (span g)) (exactly_order (list_around (ending z.rule) z))
        (times_order (sizes_of z.sizes) (span g) (sizes_order z.sizes (and_parts (sizes_fine z.sizes) (list_rule_fine (ending z.rule) z) (first_five sound)).0) (span_order g (suc k) around ks (last_five sound)))
    form_order (choice cases rule) k around ks sound =
        plus_order (exactly (index_width rule)) (alternatives_span cases) (exactly_order (index_width rule))
        (cases_order cases (suc k) around ks (and_parts (nat_lt 0 (length (conditions_of cases))) (all_differ same_name (map (λ c. c.0) (conditions_of cases)) && choice_rule_fine (conditions_of cases) rule) (first_four sound)).0 (last_four sound))
    form_order (contained z g) k around ks sound = plus_order (exactly (rule_width z.rule)) (in_octets (span g)) (exactly_order (rule_width z.rule)) (octets_order (span g) (span_order g (suc k) around ks (last_four sound)))

    fields_order : (fs : Fields) (k : ℕ) (around : List ℕ) (ks : Known) → FieldsSound root k around ks fs → InOrder (fields_span fs)
    fields_order no_fields k around ks sound = omega arith
    fields_order (component n g p def own fs) k around ks sound = plus_order (component_span p (span g)) (fields_span fs) (presence_order p (span g) (span_order g k around ks (fourth_five sound))) (fields_order fs k around (choose_known p ks (with_own own (after ks g))) (last_five sound))
    fields_order (inserted n g (Some s) fs) k around ks sound = plus_order (span g) (fields_span fs) (span_order g k around ks (third_four sound)) (fields_order fs k around (with_slot s ks) (last_four sound))
    fields_order (inserted n g None fs) k around ks sound = plus_order (span g) (fields_span fs) (span_order g k around ks (second_three sound)) (fields_order fs k around ks (last_three sound))

    cases_order : (cases : Alternatives) (k : ℕ) (around : List ℕ) (ks : Known) → nat_lt 0 (length (conditions_of cases)) ≡ true → AlternativesSound root k around ks cases → InOrder (alternatives_span cases)
    cases_order no_alternatives k around ks l sound = cc
    cases_order (alternative n g ts more) k around ks l sound = (let h = span_order g k around ks (second_three sound) in omega arith)
