-- Bits are wanting only where there are fewer than the greatest packet and the greatest window have.
use Rattle.std.proofs.Common.{◌≡◌, ℕ, zero, suc, ◌+◌, ◌-◌, ◌*◌, ◌^◌, ◌<◌, ◌≤◌, ℤ, pos, negsuc, Bool, true, false, List, [], ◌∷◌, ◌++◌, length, take, drop, Option, Some, None, refl, sym, ap, ◌∙◌, arith, length-append}
use Rattle.std.proofs.Math.Nat.{mul-le-mul_right, suc-mul}
use Rattle.std.proofs.lemmas.List.{length-drop}
use Rattle.acn_num.specs.Ranges.{In, greatest}
use Rattle.acn_grammar.specs.Check.{too_long as too_long_tree}
use Rattle.acn_grammar.specs.Code.{Any}
use Rattle.acn_grammar.specs.Env.{Env}
use Rattle.acn_grammar.specs.Fails.{Fault, Failing, Behind, Here, Short, Says, seen, RuleFails, PartsFail, CharactersFail, input_ended, end_too_late, length_not_permitted, character_not_permitted, FoundFails, TextFails, RunFails, EndedFails, ListFails, Fails, FormFails, FieldsFail, AlternativeFails, IndexFails, flags_behind, presence_count, SizedFails, ContentFails, ElementFails, InsertedFails, prefix_cut, prefix_not_permitted, fails_at_size, fails_behind_size, characters_cut, characters_not_permitted, fails_at_element, fails_behind_element, pattern_cut, pattern_differs, full_not_permitted, full_not_ended, end_not_permitted, next_element_fails, fails_behind_next, index_cut, index_too_great, fails_at_index, fails_at_alternative, padding_cut, fails_behind_padding, presence_cut, fails_behind_presence, fails_at_component, fails_behind_component, fails_behind_absent, fails_at_inserted, fails_behind_inserted, window_cut, content_fails, content_overlong}
use Rattle.acn_grammar.specs.Grammar.{Grammar, Form, Fields, Alternatives, Data, node, num, octets, bits, text, seq, list, choice, contained, no_fields, component, inserted, no_alternatives, alternative, null}
use Rattle.acn_grammar.specs.Interval.{held, exactly, plus, times, in_octets, span, form_span, fields_span, alternatives_span, num_span, sizes_of, size_of, end_width, list_around, component_span}
use Rattle.acn_grammar.specs.LeafFails.{Reason, short, out_of_range, not_minimal, bad_digit, bad_character, bad_pattern, too_long, size_out_of_range, no_alternative, content_size, past_content, octet_values}
use Rattle.acn_grammar.specs.Leaves.{sizes_fine, rule_fine, list_rule_fine, end_fine}
use Rattle.acn_grammar.specs.Length.{padding, rule_width, index_width, ending, num_length}
use Rattle.acn_grammar.specs.Spell.{Part, Where, Padding, Carries, Spell, SlotField, octet_numbers, with_home}
use Rattle.acn_grammar.specs.declared.bounds.Bounds.{Bounds}
use Rattle.acn_grammar.specs.declared.node.ChoiceRule.{ChoiceRule}
use Rattle.acn_grammar.specs.declared.node.ChoiceRule.TheVariants.{Index, Tests, Item}
use Rattle.acn_grammar.specs.declared.node.Presence.{Presence}
use Rattle.acn_grammar.specs.declared.node.Presence.TheVariants.{Always, Bit, When}
use Rattle.acn_grammar.specs.declared.node.Sizing.{Sizing}
use Rattle.acn_grammar.specs.declared.node.SizeRule.{SizeRule}
use Rattle.acn_grammar.specs.declared.node.SizeRule.TheVariants.{Prefix, Slot, Ended}
use Rattle.acn_grammar.specs.declared.node.TextLeaf.{TextLeaf}
use Rattle.acn_grammar.proofs.LeafLengths.{code-length}
use Rattle.acn_grammar.proofs.SpanLaw.{Fine, FormFine, FieldsFine, AlternativesFine, size_has, span_between, rule_between}
use Rattle.acn_grammar.proofs.SpellLength.{Padding-length, then-length}
use Rattle.acn_grammar.proofs.TreeRules.{tree_fine}
use Rattle.acn_packet_laws.specs.Laws.{IsAccepted, ShortIsNear}
use Rattle.acn_packet_laws.proofs.NodeLaws.{accepted_sound}
use Rattle.acn_packet_laws.proofs.ShortLeaves.{leaf_short}
use Rattle.acn_packet_laws.proofs.Sounding.{at_most}
use Rattle.acn_packet_laws.proofs.ValueLengths.{padding_spans, number_spans}
use Rattle.std.proofs.lemmas.Bool.{and_parts}
use Rattle.acn_packet_laws.proofs.Tuples.{last_two}
use Rattle.acn_grammar.proofs.Octets.{octets_most, octets_whole}
use Rattle.acn_grammar.proofs.Spans.{Between, plus_spans, same_spans, moved_spans}
use Rattle.acn_grammar.proofs.TextRules.{text_rules, end_rules}

-- A reason as it is named: short inside no window alone.

seen_short : (i : Bool) (r : Reason) → seen i r ≡ short → (i ≡ false) × (r ≡ short)
seen_short false short e = (refl, refl)
seen_short true short e = cc
seen_short false (out_of_range x) e = cc
seen_short true (out_of_range x) e = cc
seen_short false not_minimal e = cc
seen_short true not_minimal e = cc
seen_short false bad_digit e = cc
seen_short true bad_digit e = cc
seen_short false bad_character e = cc
seen_short true bad_character e = cc
seen_short false bad_pattern e = cc
seen_short true bad_pattern e = cc
seen_short false too_long e = cc
seen_short true too_long e = cc
seen_short false (size_out_of_range n) e = cc
seen_short true (size_out_of_range n) e = cc
seen_short false no_alternative e = cc
seen_short true no_alternative e = cc
seen_short false (content_size m n) e = cc
seen_short true (content_size m n) e = cc
seen_short false past_content e = cc
seen_short true past_content e = cc

says_short : (here : Here) (r : Reason) (fault : Fault) → Says here r fault → fault.reason ≡ short → (here.inside ≡ false) × (r ≡ short)
says_short here r fault says e = seen_short here.inside r (sym (ap (λ f. f.reason) says) ∙ e)

-- where it names another reason
never : {F : Type 0} (here : Here) (r : Reason) (fault : Fault) → (r ≡ short → ⊥) → Says here r fault → fault.reason ≡ short → F
never here r fault n says e = absurd (n (says_short here r fault says e).1)

abbrev Near : Bool → Bounds → Failing → Type 0
Near inside b F = (at : ℕ) (rest : List Bool) (fault : Fault) (reach : ℕ) → F at rest fault reach → fault.reason ≡ short → (inside ≡ false) × (b.greatest < 2 ^ 40 → length rest < b.greatest + 524288)

behind_near : (inside : Bool) (P : Part) (F : Failing) (a b : Bounds) → ((at : ℕ) (bs : List Bool) → P at bs → Between a (length bs)) → Near inside b F → Near inside (plus a b) (Behind P F)
behind_near inside P F a b p h at rest fault reach t e =
    let n = h (at + length t.front) t.back fault t.more t.fails e in
    let f = p at t.front t.spelled in
    (n.0, λ s. omega (arith, ap length t.whole, length-append t.front t.back, f.high (omega arith), n.1 (omega arith)))

short_near : (here : Here) (n : ℕ) (b : Bounds) → (b.greatest < 2 ^ 40 → n ≤ b.greatest + 524288) → Near here.inside b (Short here n)
short_near here n b h at rest fault reach t e = let a = t.0 in ((says_short here short fault t.1 e).0, λ s. omega (arith, h s))

-- within greater bounds
near_more : (inside : Bool) (b c : Bounds) (F : Failing) → (c.greatest < 2 ^ 40 → b.greatest ≤ c.greatest) → Near inside b F → Near inside c F
near_more inside b c F h n at rest fault reach t e =
    let m = n at rest fault reach t e in
    (m.0, λ s. let l = h s in omega (arith, m.1 (omega arith)))

-- Sizes.

rule_near : (here : Here) (sizing : Sizing) (rule : SizeRule) (env : Env) → Near here.inside (exactly (rule_width rule)) (RuleFails here sizing rule env)
rule_near here sizing (Prefix low width) env at rest fault reach (prefix_cut t) e = short_near here width (exactly width) (λ s. omega arith) at rest fault reach t e
rule_near here sizing (Prefix low width) env at rest fault reach (prefix_not_permitted t) e = never here (size_out_of_range _) fault (λ q. cc) t.2 e
rule_near here sizing (Slot s) env at rest fault reach t e = never here (size_out_of_range _) fault (λ q. cc) t.says e
rule_near here sizing (Ended end) env at rest fault reach t e = absurd t

-- a size in front, and what fails behind it at a permitted size
sized_near : (here : Here) (sizing : Sizing) (env : Env) (b : Bounds) (F : ℕ → Failing) → ((n : ℕ) → In sizing.sizes (pos n) → Near here.inside b (F n)) → Near here.inside (plus (exactly (rule_width sizing.rule)) b) (SizedFails here sizing env F)
sized_near here sizing env b F h at rest fault reach (fails_at_size t) e =
    near_more here.inside (exactly (rule_width sizing.rule)) (plus (exactly (rule_width sizing.rule)) b) (RuleFails here sizing sizing.rule env) (λ s. omega arith) (rule_near here sizing sizing.rule env) at rest fault reach t e
sized_near here sizing env b F h at rest fault reach (fails_behind_size t) e =
    let k = t.behind in
    let n = h t.n k.spelled.given (at + length k.front) k.back fault k.more k.fails e in
    let f = rule_between sizing.rule env t.n at k.front k.spelled.spelled in
    (n.0, λ s. omega (arith, ap length k.whole, length-append k.front k.back, f.high (omega arith), n.1 (omega arith)))

parts_near : (here : Here) (each : ℕ) (sizing : Sizing) (env : Env) → sizes_fine sizing.sizes ≡ true → Near here.inside (plus (exactly (rule_width sizing.rule)) (times (sizes_of sizing.sizes) (exactly each))) (PartsFail here each sizing env)
parts_near here each sizing env f =
    sized_near here sizing env (times (sizes_of sizing.sizes) (exactly each)) (λ n. Short here (each * n)) (λ n p. short_near here (each * n) (times (sizes_of sizing.sizes) (exactly each)) (λ s. let b = same_spans (sizes_of sizing.sizes) n each (each * n) (size_has sizing.sizes n f p) refl in omega (arith, b.high s)))

-- Elements.

-- n more elements, where there are any
abbrev RunNear : Bool → Bounds → (n more : ℕ) → Failing → Type 0
RunNear inside e n more F = (at : ℕ) (rest : List Bool) (fault : Fault) (reach : ℕ) → F at rest fault reach → fault.reason ≡ short → (inside ≡ false) × ((0 < n → e.greatest < 2 ^ 40) → length rest < n * e.greatest + more + 524288)

behind_run : (inside : Bool) (e : Bounds) (n more : ℕ) (P : Part) (F : Failing) → ((at : ℕ) (bs : List Bool) → P at bs → Between e (length bs)) → RunNear inside e n more F → RunNear inside e (suc n) more (Behind P F)
behind_run inside e n more P F p h at rest fault reach t q =
    let m = h (at + length t.front) t.back fault t.more t.fails q in
    let f = p at t.front t.spelled in
    (m.0, λ s. let small = s (omega arith) in let k = suc-mul n e.greatest in omega (arith, ap length t.whole, length-append t.front t.back, f.high small, m.1 (λ z. small)))

one_run : (inside : Bool) (e : Bounds) (n more : ℕ) (F : Failing) → Near inside e F → RunNear inside e (suc n) more F
one_run inside e n more F h at rest fault reach t q =
    let m = h at rest fault reach t q in
    (m.0, λ s. let k = suc-mul n e.greatest in omega (arith, m.1 (s (omega arith))))

run_near : (inside : Bool) (e : Bounds) (each : Data → Part) (fails : ℕ → Failing) → ((d : Data) (at : ℕ) (bs : List Bool) → each d at bs → Between e (length bs)) → ((k : ℕ) → Near inside e (fails k)) → (n k : ℕ) → RunNear inside e n 0 (RunFails each fails n k)
run_near inside e each fails p h zero k at rest fault reach t q = absurd t
run_near inside e each fails p h (suc n) k at rest fault reach (fails_at_element t) q = one_run inside e n 0 (fails k) (h k) at rest fault reach t q
run_near inside e each fails p h (suc n) k at rest fault reach (fails_behind_element t) q = behind_run inside e n 0 (each t.0) (RunFails each fails n (suc k)) (p t.0) (run_near inside e each fails p h n (suc k)) at rest fault reach t.1 q

times_near : (a e : Bounds) (n more l : ℕ) → n ≤ a.greatest → ((0 < n → e.greatest < 2 ^ 40) → l < n * e.greatest + more + 524288) → (times a e).greatest < 2 ^ 40 → l < (times a e).greatest + more + 524288
times_near a e zero more l h k s = let m = k (λ z. absurd (omega arith)) in omega arith
times_near a e (suc n) more l h k s =
    let one = mul-le-mul_right {m = 1} {n = a.greatest} e.greatest (omega arith) in
    let two = mul-le-mul_right {m = suc n} {n = a.greatest} e.greatest h in
    let three = k (λ z. omega arith) in
    omega arith

ended_near : (here : Here) (e : Bounds) (p : List Bool) (sizing : Sizing) (each : Data → Part) (fails : ℕ → Failing) → ((d : Data) (at : ℕ) (bs : List Bool) → each d at bs → Between e (length bs)) → ((k : ℕ) → Near here.inside e (fails k)) → (n k : ℕ) → RunNear here.inside e n (length p) (EndedFails here p sizing each fails n k)
ended_near here e p sizing each fails f h zero k at rest fault reach (full_not_permitted t) q = never here (size_out_of_range k) fault (λ x. cc) t.says q
ended_near here e p sizing each fails f h zero k at rest fault reach (full_not_ended (pattern_cut t)) q = let a = t.0 in ((says_short here short fault t.1 q).0, λ s. omega arith)
ended_near here e p sizing each fails f h zero k at rest fault reach (full_not_ended (pattern_differs t)) q = never here too_long fault (λ x. cc) t.2 q
ended_near here e p sizing each fails f h (suc n) k at rest fault reach (end_not_permitted t) q = never here (size_out_of_range k) fault (λ x. cc) t.says q
ended_near here e p sizing each fails f h (suc n) k at rest fault reach (next_element_fails t) q = one_run here.inside e n (length p) (fails k) (h k) at rest fault t.inner t.fails q
ended_near here e p sizing each fails f h (suc n) k at rest fault reach (fails_behind_next t) q =
    behind_run here.inside e n (length p) (each t.0) (EndedFails here p sizing each fails n (suc k)) (f t.0) (ended_near here e p sizing each fails f h n (suc k)) at rest fault reach t.1 q

list_near : (end : Option (List Bool)) (here : Here) (sizing : Sizing) (env : Env) (e : Bounds) (each : Data → Part) (fails : ℕ → Failing) → sizes_fine sizing.sizes ≡ true → ((d : Data) (at : ℕ) (bs : List Bool) → each d at bs → Between e (length bs)) → ((k : ℕ) → Near here.inside e (fails k))
    → Near here.inside (plus (exactly (list_around end sizing)) (times (sizes_of sizing.sizes) e)) (ListFails end here sizing env each fails)
list_near None here sizing env e each fails f p h at' rest' fault' reach' t' x' =
    sized_near here sizing env (times (sizes_of sizing.sizes) e) (λ n. RunFails each fails n 0) (λ n q at rest fault reach t x.
    let m = run_near here.inside e each fails p h n 0 at rest fault reach t x in
    (m.0, λ s. omega (arith, times_near (sizes_of sizing.sizes) e n 0 (length rest) (size_has sizing.sizes n f q).1 m.1 s))) at' rest' fault' reach' t' x'
list_near (Some p) here sizing env e each fails f g h at rest fault reach t x =
    let n = size_of (greatest sizing.sizes) in
    let m = ended_near here e p sizing each fails g h (size_of (greatest sizing.sizes)) 0 at rest fault reach t x in
    (m.0, λ s. omega (arith, times_near (sizes_of sizing.sizes) e (size_of (greatest sizing.sizes)) (length p) (length rest) (omega arith) m.1 (omega arith)))

size_few : (o : Option ℤ) → size_of o ≤ 65536
size_few None = omega arith
size_few (Some (pos n)) = omega arith
size_few (Some (negsuc n)) = omega arith

-- Texts.

text_near : (end : Option (List Bool)) (here : Here) (leaf : TextLeaf) (env : Env) → sizes_fine leaf.sized.sizes ≡ true → end_fine end leaf ≡ true
    → Near here.inside (plus (exactly (rule_width leaf.sized.rule + end_width end)) (times (sizes_of leaf.sized.sizes) (exactly leaf.width))) (TextFails here end leaf env)
text_near None here leaf env s f at' rest' fault' reach' t' e' =
    near_more here.inside (plus (exactly (rule_width leaf.sized.rule)) (times (sizes_of leaf.sized.sizes) (exactly leaf.width))) (plus (exactly (rule_width leaf.sized.rule + 0)) (times (sizes_of leaf.sized.sizes) (exactly leaf.width))) (TextFails here None leaf env) (λ l. omega arith)
    (sized_near here leaf.sized env (times (sizes_of leaf.sized.sizes) (exactly leaf.width)) (CharactersFail here leaf) (λ n p at rest fault reach t e. characters n p at rest fault reach t e)) at' rest' fault' reach' t' e'
  where
    characters : (n : ℕ) → In leaf.sized.sizes (pos n) → Near here.inside (times (sizes_of leaf.sized.sizes) (exactly leaf.width)) (CharactersFail here leaf n)
    characters n p at rest fault reach (characters_cut t) e =
        short_near here (leaf.width * n) (times (sizes_of leaf.sized.sizes) (exactly leaf.width)) (λ l. let b = same_spans (sizes_of leaf.sized.sizes) n leaf.width (leaf.width * n) (size_has leaf.sized.sizes n s p) refl in omega (arith, b.high l)) at rest fault reach t e
    characters n p at rest fault reach (characters_not_permitted t) e = never here bad_character fault (λ q. cc) t.2 e
text_near (Some end) here leaf env s f at rest fault reach t e = by _ t
  where
    eight : leaf.width ≡ 8
    eight = (end_rules leaf end f).width

    whole : length end ≡ 8 * length (octet_numbers end)
    whole = octets_whole end (omega (arith, (end_rules leaf end f).octets))

    bound : (length (octet_values rest) < size_of (greatest leaf.sized.sizes) + length (octet_numbers end)) → (plus (exactly (rule_width leaf.sized.rule + length end)) (times (sizes_of leaf.sized.sizes) (exactly leaf.width))).greatest < 2 ^ 40
        → length rest < (plus (exactly (rule_width leaf.sized.rule + length end)) (times (sizes_of leaf.sized.sizes) (exactly leaf.width))).greatest + 524288
    bound l small =
        let long = octets_most rest in
        let few = size_few (greatest leaf.sized.sizes) in
        let product : size_of (greatest leaf.sized.sizes) * held leaf.width ≡ size_of (greatest leaf.sized.sizes) * 8 = ap (λ w. size_of (greatest leaf.sized.sizes) * held w) eight in
        omega (arith, whole)

    by : (found : Option ℕ) → FoundFails here leaf (length end) (size_of (greatest leaf.sized.sizes) + length (octet_numbers end)) (length (octet_values rest)) rest found fault reach
        → (here.inside ≡ false) × ((plus (exactly (rule_width leaf.sized.rule + length end)) (times (sizes_of leaf.sized.sizes) (exactly leaf.width))).greatest < 2 ^ 40 → length rest < (plus (exactly (rule_width leaf.sized.rule + length end)) (times (sizes_of leaf.sized.sizes) (exactly leaf.width))).greatest + 524288)
    by None (input_ended u) = ((says_short here short fault u.1 e).0, bound u.0)
    by None (end_too_late u) = never here too_long fault (λ q. cc) u.1 e
    by (Some i) (length_not_permitted u) = never here (size_out_of_range i) fault (λ q. cc) u.1 e
    by (Some i) (character_not_permitted u) = never here bad_character fault (λ q. cc) u.2 e

-- Fields.

abbrev bits_in : Presence → ℕ
bits_in Always = 0
bits_in Bit = 1
bits_in (When ts) = 0

count_is : (name : List ℕ) (g : Grammar) (presence : Presence) (default : Option (List ℕ)) (own : Option ℕ) (fs : Fields) → presence_count (component name g presence default own fs) ≡ bits_in presence + presence_count fs
count_is name g Always default own fs = omega arith
count_is name g Bit default own fs = omega arith
count_is name g (When ts) default own fs = omega arith

more_counts : (presence : Presence) (b c : Bounds) (m : ℕ) → (c.greatest < 2 ^ 40 → m ≤ c.greatest) → (plus (component_span presence b) c).greatest < 2 ^ 40 → bits_in presence + m ≤ (plus (component_span presence b) c).greatest
more_counts Always b c m h s = omega (arith, h (omega arith))
more_counts Bit b c m h s = omega (arith, h (omega arith))
more_counts (When ts) b c m h s = omega (arith, h (omega arith))

counts_fit : (fs : Fields) → (fields_span fs).greatest < 2 ^ 40 → presence_count fs ≤ (fields_span fs).greatest
counts_fit no_fields s = omega arith
counts_fit (component name g presence default own fs) s = omega (arith, count_is name g presence default own fs, more_counts presence (span g) (fields_span fs) (presence_count fs) (counts_fit fs) s)
counts_fit (inserted name g slot fs) s = omega (arith, counts_fit fs (omega arith))

first_fits : (presence : Presence) (b c : Bounds) (l m : ℕ) → (b.greatest < 2 ^ 40 → l < b.greatest + 524288) → (c.greatest < 2 ^ 40 → m ≤ c.greatest) → (plus (component_span presence b) c).greatest < 2 ^ 40 → l + (bits_in presence + m) < (plus (component_span presence b) c).greatest + 524288
first_fits Always b c l m h k s = omega (arith, h (omega arith), k (omega arith))
first_fits Bit b c l m h k s = omega (arith, h (omega arith), k (omega arith))
first_fits (When ts) b c l m h k s = omega (arith, h (omega arith), k (omega arith))

behind_fits : (presence : Presence) (b c : Bounds) (f l m : ℕ) → (b.greatest < 2 ^ 40 → f ≤ b.greatest) → (c.greatest < 2 ^ 40 → l + m < c.greatest + 524288) → (plus (component_span presence b) c).greatest < 2 ^ 40 → (f + l) + (bits_in presence + m) < (plus (component_span presence b) c).greatest + 524288
behind_fits Always b c f l m h k s = omega (arith, h (omega arith), k (omega arith))
behind_fits Bit b c f l m h k s = omega (arith, h (omega arith), k (omega arith))
behind_fits (When ts) b c f l m h k s = omega (arith, h (omega arith), k (omega arith))

absent_fits : (presence : Presence) (b c : Bounds) (l m : ℕ) → (c.greatest < 2 ^ 40 → l + m < c.greatest + 524288) → (plus (component_span presence b) c).greatest < 2 ^ 40 → l + (bits_in presence + m) < (plus (component_span presence b) c).greatest + 524288
absent_fits Always b c l m k s = omega (arith, k (omega arith))
absent_fits Bit b c l m k s = omega (arith, k (omega arith))
absent_fits (When ts) b c l m k s = omega (arith, k (omega arith))

-- with the presence bits in front of the fields
abbrev FieldsNear : Bool → Fields → Failing → Type 0
FieldsNear inside fs F = (at : ℕ) (rest : List Bool) (fault : Fault) (reach : ℕ) → F at rest fault reach → fault.reason ≡ short → (inside ≡ false) × ((fields_span fs).greatest < 2 ^ 40 → length rest + presence_count fs < (fields_span fs).greatest + 524288)

module _ (root : Grammar) where
  slot_spans : (g : Grammar) → Fine g → (env : Env) (s at : ℕ) (bs : List Bool) → SlotField root Any g env s at bs → Between (span g) (length bs)
  slot_spans (node align (num leaf)) f env s at bs t =
      let u = t.2 in
      moved_spans (plus (record { least = 0; greatest = align - 1 }) (num_span leaf)) (length bs) (length u.front + length u.back) (then-length u)
      (plus_spans (record { least = 0; greatest = align - 1 }) (num_span leaf) (length u.front) (length u.back)
      (moved_spans (record { least = 0; greatest = align - 1 }) (length u.front) (padding align at) (Padding-length Any align at u.front u.first) (padding_spans align at f.0))
      (moved_spans (num_span leaf) (length u.back) (num_length leaf t.0) (code-length Any leaf (last_two f) t.0 u.back u.second) (number_spans leaf (last_two f) t.0 u.second.permitted)))
  slot_spans (node align _) f env s at bs t = absurd t.0

  padding_front : (align : ℕ) → 0 < align → (at : ℕ) (bs : List Bool) → Padding Any align at bs → Between (record { least = 0; greatest = align - 1 }) (length bs)
  padding_front align h at bs p = moved_spans (record { least = 0; greatest = align - 1 }) (length bs) (padding align at) (Padding-length Any align at bs p) (padding_spans align at h)

  field_near : (inside : Bool) (presence : Presence) (b : Bounds) (fs : Fields) (P : Part) (F G : Failing) → ((at : ℕ) (bs : List Bool) → P at bs → Between b (length bs)) → Near inside b F → FieldsNear inside fs G → (at : ℕ) (rest : List Bool) (fault : Fault) (reach : ℕ)
      → InsertedFails P F G at rest fault reach → fault.reason ≡ short → (inside ≡ false) × ((plus (component_span presence b) (fields_span fs)).greatest < 2 ^ 40 → length rest + (bits_in presence + presence_count fs) < (plus (component_span presence b) (fields_span fs)).greatest + 524288)
  field_near inside presence b fs P F G p h k at rest fault reach (fails_at_inserted t) e =
      let m = h at rest fault reach t e in
      (m.0, first_fits presence b (fields_span fs) (length rest) (presence_count fs) m.1 (counts_fit fs))
  field_near inside presence b fs P F G p h k at rest fault reach (fails_behind_inserted t) e =
      let m = k (at + length t.front) t.back fault t.more t.fails e in
      let f = p at t.front t.spelled in
      (m.0, λ s. omega (arith, ap length t.whole, length-append t.front t.back, behind_fits presence b (fields_span fs) (length t.front) (length t.back) (presence_count fs) f.high m.1 s))

  component_near : (inside : Bool) (presence : Presence) (b : Bounds) (fs : Fields) (P : Data → Part) (F G : Failing) → ((d : Data) (at : ℕ) (bs : List Bool) → P d at bs → Between b (length bs)) → Near inside b F → FieldsNear inside fs G → (at : ℕ) (rest : List Bool) (fault : Fault) (reach : ℕ)
      → ElementFails P F G at rest fault reach → fault.reason ≡ short → (inside ≡ false) × ((plus (component_span presence b) (fields_span fs)).greatest < 2 ^ 40 → length rest + (bits_in presence + presence_count fs) < (plus (component_span presence b) (fields_span fs)).greatest + 524288)
  component_near inside presence b fs P F G p h k at rest fault reach (fails_at_element t) e = field_near inside presence b fs (P null) F G (p null) h k at rest fault reach (fails_at_inserted t) e
  component_near inside presence b fs P F G p h k at rest fault reach (fails_behind_element t) e = field_near inside presence b fs (P t.0) F G (p t.0) h k at rest fault reach (fails_behind_inserted t.1) e

  mutual
    node_near : (g : Grammar) → Fine g → (env : Env) (inside : Bool) (origin : ℕ) (path : List ℕ) → Near inside (span g) (Fails root g env inside origin path)
    node_near (node align form) f env inside origin path at rest fault reach (padding_cut t) e =
        let here : Here = record { path = path; place = origin + at; inside = inside } in
        let below = padding_spans align at f.0 in
        short_near here (padding align at) (plus (record { least = 0; greatest = align - 1 }) (form_span form)) (λ s. omega (arith, below.high (omega arith))) at rest fault reach t e
    node_near (node align form) f env inside origin path at rest fault reach (fails_behind_padding t) e =
        let here : Here = record { path = path; place = origin + at; inside = inside } in
        behind_near inside (Padding Any align) (FormFails root form env here origin) (record { least = 0; greatest = align - 1 }) (form_span form) (padding_front align f.0) (form_near form (last_two f) env here origin) at rest fault reach t e

    form_near : (form : Form) → FormFine form → (env : Env) (here : Here) (origin : ℕ) → Near here.inside (form_span form) (FormFails root form env here origin)
    form_near (num leaf) f env here origin at rest fault reach t e =
        let r = says_short here t.reason fault t.says e in
        (r.0, λ s. omega (arith, leaf_short leaf f rest t.reason reach t.fails r.1 s))
    form_near (octets sizing) f env here origin at rest fault reach t e = parts_near here 8 sizing env (and_parts (sizes_fine sizing.sizes) (rule_fine sizing.sizes sizing.rule) f).0 at rest fault reach t e
    form_near (bits sizing) f env here origin at rest fault reach t e = parts_near here 1 sizing env (and_parts (sizes_fine sizing.sizes) (rule_fine sizing.sizes sizing.rule) f).0 at rest fault reach t e
    form_near (text leaf) f env here origin at rest fault reach t e = text_near leaf.ended here leaf env (text_rules leaf f).sizes (text_rules leaf f).end at rest fault reach t e
    form_near (seq fields home) f env here origin at rest fault reach (presence_cut t) e =
        short_near here (presence_count fields) (fields_span fields) (λ s. let c = counts_fit fields s in omega arith) at rest fault reach t e
    form_near (seq fields home) f env here origin at rest fault reach (fails_behind_presence t) e =
        let a = t.behind in
        let n = presence_count fields in
        let m = fields_near fields f (with_home home t.numbers env) (take (presence_count fields) rest) here origin 0 (at + presence_count fields) (drop (presence_count fields) rest) fault a.more a.fails e in
        let l = length-drop (presence_count fields) rest in
        let low = a.there in
        (m.0, λ s. omega (arith, m.1 s))
    form_near (list sizing g) f env here origin at rest fault reach t e =
        list_near (ending sizing.rule) here sizing env (span g) (Spell root Any g env) (λ k. Fails root g env here.inside origin (here.path ++ k ∷ [])) (and_parts (sizes_fine sizing.sizes) (list_rule_fine (ending sizing.rule) sizing) f.0).0
        (span_between root Any g (last_two f) env) (λ k. node_near g (last_two f) env here.inside origin (here.path ++ k ∷ [])) at rest fault reach t e
    form_near (choice cases rule) f env here origin at rest fault reach (fails_at_index t) e = index_near rule cases at rest fault reach t e
      where
        index_near : (rule : ChoiceRule) (cases : Alternatives) → Near here.inside (plus (exactly (index_width rule)) (alternatives_span cases)) (IndexFails root here rule cases env)
        index_near (Index width) cases at rest fault reach (index_cut t) e = short_near here width (plus (exactly width) (alternatives_span cases)) (λ s. omega arith) at rest fault reach t e
        index_near (Index width) cases at rest fault reach (index_too_great t) e = never here no_alternative fault (λ q. cc) t.2 e
        index_near Tests cases at rest fault reach t e = never here no_alternative fault (λ q. cc) t.says e
        index_near (Item s) cases at rest fault reach t e = never here no_alternative fault (λ q. cc) t.says e
    form_near (choice cases rule) f env here origin at rest fault reach (fails_at_alternative t) e =
        let a = t.behind in
        let m = case_near cases f rule env here origin t.index t.index (at + index_width rule) (drop (index_width rule) rest) fault a.more a.fails e in
        let l = length-drop (index_width rule) rest in
        let low = a.there in
        (m.0, λ s. omega (arith, m.1 (omega arith)))
    form_near (contained sizing g) f env here origin at rest fault reach t e =
        sized_near here sizing env (in_octets (span g)) _ (λ n p at' back fault' reach' u q.
        let few = size_few (greatest sizing.sizes) in
        let has_n = (size_has sizing.sizes n (and_parts (sizes_fine sizing.sizes) (rule_fine sizing.sizes sizing.rule) f.0).0 p).1 in
        window n at' back fault' reach' few has_n (λ inner x. node_near g (last_two f) env true (origin + at') (here.path ++ 0 ∷ []) 0 (take (8 * n) back) fault' inner x q) u q) at rest fault reach t e
      where
        window : (n at' : ℕ) (back : List Bool) (fault' : Fault) (reach' : ℕ) → size_of (greatest sizing.sizes) ≤ 65536 → n ≤ size_of (greatest sizing.sizes)
            → ((inner : ℕ) → Fails root g env true (origin + at') (here.path ++ 0 ∷ []) 0 (take (8 * n) back) fault' inner → (true ≡ false) × ((span g).greatest < 2 ^ 40 → length (take (8 * n) back) < (span g).greatest + 524288))
            → ContentFails here (Spell root Any g env) (λ place. Fails root g env true (origin + place) (here.path ++ 0 ∷ [])) n at' back fault' reach'
            → fault'.reason ≡ short → (here.inside ≡ false) × ((in_octets (span g)).greatest < 2 ^ 40 → length back < (in_octets (span g)).greatest + 524288)
        window n at' back fault' reach' few has_n inner (window_cut u) q = short_near here (8 * n) (in_octets (span g)) (λ s. omega arith) at' back fault' reach' u q
        window n at' back fault' reach' few has_n inner (content_fails u) q = (let no' = (inner u.1.0 u.1.1).0 in cc)
        window n at' back fault' reach' few has_n inner (content_overlong u) q = never here (content_size n (length u.1.1.used)) fault' (λ z. cc) u.1.1.says q

    fields_near : (fs : Fields) → FieldsFine fs → (env : Env) (flags : List Bool) (here : Here) (origin k : ℕ) → FieldsNear here.inside fs (FieldsFail root fs env flags here origin k)
    fields_near no_fields f env flags here origin k at rest fault reach t e = absurd t
    fields_near (component name g presence default own fs) f env flags here origin k at rest fault reach (fails_at_component t) e =
        let c = count_is name g presence default own fs in
        let m = component_near here.inside presence (span g) fs (λ d. Where (Carries env own d) (Spell root Any g env d)) (Fails root g env here.inside origin (here.path ++ k ∷ [])) (FieldsFail root fs env (flags_behind presence flags) here origin (suc k))
        (λ d at' bs p. span_between root Any g f.0 env d at' bs p.spelled) (node_near g f.0 env here.inside origin (here.path ++ k ∷ [])) (fields_near fs f.1 env (flags_behind presence flags) here origin (suc k)) at rest fault reach (fails_at_element t.1) e in
        (m.0, λ s. omega (arith, m.1 s))
    fields_near (component name g presence default own fs) f env flags here origin k at rest fault reach (fails_behind_component t) e =
        let c = count_is name g presence default own fs in
        let m = component_near here.inside presence (span g) fs (λ d. Where (Carries env own d) (Spell root Any g env d)) (Fails root g env here.inside origin (here.path ++ k ∷ [])) (FieldsFail root fs env (flags_behind presence flags) here origin (suc k))
        (λ d at' bs p. span_between root Any g f.0 env d at' bs p.spelled) (node_near g f.0 env here.inside origin (here.path ++ k ∷ [])) (fields_near fs f.1 env (flags_behind presence flags) here origin (suc k)) at rest fault reach (fails_behind_element t.1) e in
        (m.0, λ s. omega (arith, m.1 s))
    fields_near (component name g presence default own fs) f env flags here origin k at rest fault reach (fails_behind_absent t) e =
        let c = count_is name g presence default own fs in
        let m = fields_near fs f.1 env (flags_behind presence flags) here origin (suc k) at rest fault reach t.1 e in
        (m.0, λ s. omega (arith, absent_fits presence (span g) (fields_span fs) (length rest) (presence_count fs) m.1 s))
    fields_near (inserted name g (Some s) fs) f env flags here origin k at rest fault reach t e =
        let m = field_near here.inside Always (span g) fs (SlotField root Any g env s) (Fails root g env here.inside origin (here.path ++ k ∷ [])) (FieldsFail root fs env flags here origin (suc k)) (slot_spans g f.0 env s) (node_near g f.0 env here.inside origin (here.path ++ k ∷ [])) (fields_near fs f.1 env flags here origin (suc k)) at rest fault reach t e in
        (m.0, λ l. omega (arith, m.1 l))
    fields_near (inserted name g None fs) f env flags here origin k at rest fault reach t e =
        let m = field_near here.inside Always (span g) fs (Spell root Any g env null) (Fails root g env here.inside origin (here.path ++ k ∷ [])) (FieldsFail root fs env flags here origin (suc k)) (span_between root Any g f.0 env null) (node_near g f.0 env here.inside origin (here.path ++ k ∷ [])) (fields_near fs f.1 env flags here origin (suc k)) at rest fault reach t e in
        (m.0, λ l. omega (arith, m.1 l))

    case_near : (cases : Alternatives) → AlternativesFine cases → (rule : ChoiceRule) (env : Env) (here : Here) (origin i j : ℕ) → Near here.inside (alternatives_span cases) (AlternativeFails root cases rule env here origin i j)
    case_near no_alternatives f rule env here origin i j at rest fault reach t e = absurd t
    case_near (alternative name g tests more) f rule env here origin i zero at rest fault reach t e =
        let m = node_near g f.0 env here.inside origin (here.path ++ i ∷ []) at rest fault reach t.1 e in
        (m.0, λ s. omega (arith, m.1 (omega arith)))
    case_near (alternative name g tests more) f rule env here origin i (suc j) at rest fault reach t e =
        let m = case_near more f.1 rule env here origin i j at rest fault reach t e in
        (m.0, λ s. omega (arith, m.1 (omega arith)))

-- the greatest bound of an accepted tree is within a packet's limit
not_long : (root : Grammar) → IsAccepted root → (span root).greatest < 2 ^ 40
not_long root a =
    let m = at_most (span root).greatest 524336 (λ h. accepted_sound root a (too_long_tree (span root).greatest) (record { node = 0; use_here = 0; holds = record { at_root = refl; bits_are = refl; many = h } })) in
    omega arith

pub short_is_near : ShortIsNear
short_is_near root input fault reach a t e =
    let m = node_near root root (tree_fine root a.formed) [] false 0 [] 0 input fault reach t e in
    m.1 (not_long root a)
