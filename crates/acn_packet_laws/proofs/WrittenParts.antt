-- Parts can be written at each position: padding, sizes, texts, elements and contents.
use Rattle.std.proofs.Common.{◌≡◌, ℕ, zero, suc, ◌+◌, ◌-◌, ◌%◌, ◌<◌, ◌≤◌, ℤ, pos, Bool, true, false, not, List, [], ◌∷◌, ◌++◌, length, take, drop, replicate, Option, Some, None, refl, sym, ap, ◌∙◌, arith, inl, inr, ◌⊎◌, ◌&&◌, ◌||◌, nat_eq, nat_lt, subst}
use Rattle.std.specs.Prelude.{cond, position}
use Rattle.std.specs.List.{AllByRecursion, find, range_with_len, prefix_len}
use Rattle.std.proofs.lemmas.List.{length-replicate}
use Rattle.std.proofs.lemmas.Bool.Decides.{nat_tests}
use Rattle.acn_num.specs.Bits.{low_bits, octets as octets_for}
use Rattle.acn_num.specs.Ranges.{has}
use Rattle.acn_grammar.specs.Asks.{same_name}
use Rattle.acn_grammar.specs.Code.{Written}
use Rattle.acn_grammar.specs.Env.{Env, at_slot}
use Rattle.acn_grammar.specs.Grammar.{Grammar, Data, Elements, element_count}
use Rattle.acn_grammar.specs.Leaves.{sizes_fine, rule_fine, list_fine, list_rule_fine, end_fine, width_fine}
use Rattle.acn_grammar.specs.Length.{ending, bit_length}
use Rattle.acn_grammar.specs.Meets.{Why, unless, where_found, at_path, first_end, end_breach, size_breach, text_breach, bad_character, terminator_inside, size_out_of_range}
use Rattle.acn_grammar.specs.Spell.{Part, ◌then◌, Where, Exactly, Padding, Fill, Window, RulePart, SizePart, CharactersPart, EndedPart, EndsFirst, octet_numbers, character_number, RunPart, ListPart, Spell}
use Rattle.acn_grammar.specs.Tree.{is_align}
use Rattle.acn_grammar.specs.declared.node.Sizing.{Sizing}
use Rattle.acn_grammar.specs.declared.node.SizeRule.{SizeRule}
use Rattle.acn_grammar.specs.declared.node.SizeRule.TheVariants.{Prefix, Slot, Ended}
use Rattle.acn_grammar.specs.declared.node.TextLeaf.{TextLeaf}
use Rattle.acn_grammar.proofs.Counts.{number_bits}
use Rattle.acn_grammar.proofs.SpellLength.{Steady, then-length}
use Rattle.acn_packet_laws.proofs.LengthLaw.{length_law}
use Rattle.acn_grammar.proofs.Characters.{same_name-refl}
use Rattle.std.proofs.lemmas.Bool.{and_parts, eqb-true}
use Rattle.acn_grammar.proofs.WholeTests.{either}
use Rattle.acn_grammar.proofs.TextRules.{prefix_fits, TextRules, character_fits}
use Rattle.acn_grammar.proofs.FirstPlaces.{less_or_not}

abbrev pub Writes : Part → Type 0
Writes P = (at : ℕ) → (bs : List Bool) × P at bs

pub then_writes : {P Q : Part} → Writes P → Writes Q → Writes (P then Q)
then_writes {P} {Q} p q at =
    let a = p at in
    let b = q (at + length a.0) in
    (a.0 ++ b.0, record { front = a.0; back = b.0; whole = refl; first = a.1; second = b.1 })

pub where_writes : {fact : Type 0} {P : Part} → fact → Writes P → Writes (Where fact P)
where_writes {fact} {P} f p at = let a = p at in (a.0, record { given = f; spelled = a.1 })

pub exactly_writes : (bs : List Bool) → Writes (Exactly bs)
exactly_writes bs at = (bs, refl)

-- Padding.

zeros : (n : ℕ) → replicate n false ≡ replicate (length (replicate n false)) false
zeros n = ap (λ m. replicate m false) (sym (length-replicate n false))

padded : (align at n : ℕ) → (at + n) % align ≡ 0 → n < align → (bs : List Bool) × Padding Written align at bs
padded align at n a f =
    let l = length-replicate n false in
    (replicate n false, record { aligned = subst (λ m. (at + m) % align ≡ 0) (sym l) a; fewest = subst (λ m. m < align) (sym l) f; zeros = λ e. zeros n })

pub padding_writes : (align : ℕ) → is_align align ≡ true → Writes (Padding Written align)
padding_writes align h at =
    either {F = (bs : List Bool) × Padding Written align at bs} (nat_eq align 1) (nat_eq align 8 || (nat_eq align 16 || nat_eq align 32)) h
    (λ e. to 1 (eqb-true align 1 e) (padded 1 at 0 (omega arith) (omega arith)))
    (λ q. either {F = (bs : List Bool) × Padding Written align at bs} (nat_eq align 8) (nat_eq align 16 || nat_eq align 32) q
    (λ e. to 8 (eqb-true align 8 e) (padded 8 at ((8 - at % 8) % 8) (omega arith) (omega arith)))
    (λ r. either {F = (bs : List Bool) × Padding Written align at bs} (nat_eq align 16) (nat_eq align 32) r
    (λ e. to 16 (eqb-true align 16 e) (padded 16 at ((16 - at % 16) % 16) (omega arith) (omega arith)))
    (λ e. to 32 (eqb-true align 32 e) (padded 32 at ((32 - at % 32) % 32) (omega arith) (omega arith)))))
  where
    to : (n : ℕ) → align ≡ n → (bs : List Bool) × Padding Written n at bs → (bs : List Bool) × Padding Written align at bs
    to n e p = subst (λ a. (bs : List Bool) × Padding Written a at bs) (sym e) p

fill_writes : Writes (Fill Written)
fill_writes at = let p = padded 8 at ((8 - at % 8) % 8) (omega arith) (omega arith) in (p.0, record { aligned = (p.1).aligned; few = (p.1).fewest; zeros = (p.1).zeros })

-- Sizes.

abbrev pub RuleHas : Env → SizeRule → ℕ → Type 0
RuleHas env (Slot t) n = at_slot env t ≡ Some (pos n)
RuleHas env (Prefix low width) n = Unit {0}
RuleHas env (Ended p) n = Unit {0}

rule_writes : (sizes : List (ℤ × ℤ)) → sizes_fine sizes ≡ true → (rule : SizeRule) → rule_fine sizes rule ≡ true → (env : Env) (n : ℕ) → has sizes (pos n) ≡ true → RuleHas env rule n → Writes (RulePart rule env n)
rule_writes sizes s (Slot t) f env n h r at = ([], (r, refl))
rule_writes sizes s (Prefix low width) f env n h r at = let p = prefix_fits sizes low width n s f h in (low_bits width (n - low), record { given = p.0; spelled = number_bits width (n - low) p.1 })
rule_writes sizes s (Ended p) f env n h r at = cc

pub size_writes : (sizing : Sizing) → (sizes_fine sizing.sizes && rule_fine sizing.sizes sizing.rule) ≡ true → (env : Env) (n : ℕ) → has sizing.sizes (pos n) ≡ true → RuleHas env sizing.rule n → Writes (SizePart sizing env n)
size_writes sizing f env n h r = let b = and_parts (sizes_fine sizing.sizes) (rule_fine sizing.sizes sizing.rule) f in where_writes h (rule_writes sizing.sizes b.0 sizing.rule b.1 env n h r)

-- What no breach says.

pub nothing_left : {A : Type 0} (a b : List A) → a ++ b ≡ [] → (a ≡ []) × (b ≡ [])
nothing_left [] b e = (refl, e)
nothing_left (x ∷ a) b e = cc

pub no_breach : (path : List ℕ) (ws : List Why) → at_path path ws ≡ [] → ws ≡ []
no_breach path [] e = refl
no_breach path (w ∷ ws) e = cc

pub passes : (b : Bool) (why : Why) → unless b why ≡ [] → b ≡ true
passes true why e = refl
passes false why e = cc

not_found : (o : Option ℕ) (why : ℕ → Why) → where_found o why ≡ [] → o ≡ None
not_found None why e = refl
not_found (Some i) why e = cc

pass_step : (b : Bool) (n m : ℕ) → suc m ≤ cond b (1 + n) 0 → (b ≡ true) × (m ≤ n)
pass_step true n m h = (refl, omega (arith, h))
pass_step false n m h = absurd (omega (arith, h))

all_pass : (q : ℕ → Bool) (cs : List ℕ) → length cs ≤ prefix_len q cs → AllByRecursion (λ c. q c ≡ true) cs
all_pass q [] h = tt
all_pass q (c ∷ cs) h = let s = pass_step (q c) (prefix_len q cs) (length cs) h in (s.0, all_pass q cs s.1)

stops : (n m : ℕ) → cond (nat_lt n m) (Some n) None ≡ None → m ≤ n
stops n m e = by (nat_lt n m) refl e
  where
    not_less : (n m : ℕ) → nat_lt n m ≡ false → m ≤ n
    not_less n m h = grind (arith, nat_tests)

    by : (b : Bool) → nat_lt n m ≡ b → cond b (Some n) None ≡ None → m ≤ n
    by true h q = cc
    by false h q = not_less n m h

abbrev Permitted : TextLeaf → List ℕ → Type 0
Permitted leaf cs = AllByRecursion (λ c. has leaf.alphabet (pos c) ≡ true) cs

all_permitted : (leaf : TextLeaf) (cs : List ℕ) → AllByRecursion (λ c. not (not (has leaf.alphabet (pos c))) ≡ true) cs → Permitted leaf cs
all_permitted leaf [] h = tt
all_permitted leaf (c ∷ cs) h = (twice (has leaf.alphabet (pos c)) h.0, all_permitted leaf cs h.1)
  where
    twice : (b : Bool) → not (not b) ≡ true → b ≡ true
    twice true e = refl
    twice false e = cc

found_none : (p : ℕ → Bool) (a n : ℕ) → find p (range_with_len a n) ≡ None → (j : ℕ) → a ≤ j → j < a + n → p j ≡ false
found_none p a zero e j h k = absurd (omega arith)
found_none p a (suc n) e j h k = by (p a) refl (λ q i. found_none p (a + 1) n q j i (omega arith)) e (less_or_not a j)
  where
    same : (a j : ℕ) → a ≤ j → j ≤ a → a ≡ j
    same a j h k = omega arith

    by : (b : Bool) → p a ≡ b → (find p (range_with_len (a + 1) n) ≡ None → a + 1 ≤ j → p j ≡ false) → cond b (Some a) (find p (range_with_len (a + 1) n)) ≡ None → (a < j) ⊎ (j ≤ a) → p j ≡ false
    by true q rest e l = cc
    by false q rest e (inl l) = rest e (omega (arith, l))
    by false q rest e (inr l) = ap p (sym (same a j h l)) ∙ q

ends_first : (end cs : List ℕ) → first_end end cs ≡ None → EndsFirst end cs
ends_first end cs e i is = by (less_or_not i (length cs))
  where
    by : (i < length cs) ⊎ (length cs ≤ i) → length cs ≤ i
    by (inr l) = l
    by (inl l) =
        let no = found_none (λ j. same_name (take (length end) (drop j (cs ++ end))) end) 0 (length cs) e i (omega arith) (omega (arith, l)) in
        let yes' = ap (λ x. same_name x end) is ∙ same_name-refl end in
        cc

-- Texts.

chars_write : (leaf : TextLeaf) → TextRules leaf → (cs : List ℕ) → Permitted leaf cs → Writes (CharactersPart leaf cs)
chars_write leaf r [] h = λ at. ([], refl)
chars_write leaf r (c ∷ cs) h =
    then_writes (where_writes h.0 (λ at. (low_bits leaf.width (character_number leaf c), number_bits leaf.width (character_number leaf c) (character_fits leaf r leaf.ended r.end c h.0)))) (chars_write leaf r cs h.1)

text_by : (end : Option (List Bool)) (leaf : TextLeaf) → TextRules leaf → end_fine end leaf ≡ true → (env : Env) (cs : List ℕ) → size_breach leaf.sized (length cs) ≡ [] → Permitted leaf cs → end_breach end cs ≡ [] → (end ≡ None → RuleHas env leaf.sized.rule (length cs)) → Writes (EndedPart end leaf env cs)
text_by None leaf r f env cs s h e u =
    let b = and_parts (rule_fine leaf.sized.sizes leaf.sized.rule) (width_fine leaf) f in
    let has_size = passes (has leaf.sized.sizes (pos (length cs))) (size_out_of_range (length cs)) s in
    then_writes (where_writes has_size (rule_writes leaf.sized.sizes r.sizes leaf.sized.rule b.0 env (length cs) has_size (u refl))) (chars_write leaf r cs h)
text_by (Some end) leaf r f env cs s h e u =
    let has_size = passes (has leaf.sized.sizes (pos (length cs))) (size_out_of_range (length cs)) s in
    where_writes (has_size, ends_first (octet_numbers end) cs (not_found (first_end (octet_numbers end) cs) terminator_inside e)) (then_writes (chars_write leaf r cs h) (exactly_writes end))

pub text_writes : (leaf : TextLeaf) → TextRules leaf → (env : Env) (cs : List ℕ) → text_breach leaf cs ≡ [] → (leaf.ended ≡ None → RuleHas env leaf.sized.rule (length cs)) → Writes (EndedPart leaf.ended leaf env cs)
text_writes leaf r env cs none u =
    let found = position (λ c. not (has leaf.alphabet (pos c))) cs in
    let a = nothing_left (size_breach leaf.sized (length cs) ++ where_found found bad_character) (end_breach leaf.ended cs) none in
    let b = nothing_left (size_breach leaf.sized (length cs)) (where_found found bad_character) a.0 in
    text_by leaf.ended leaf r r.end env cs b.0
    (all_permitted leaf cs (all_pass (λ c. not (not (has leaf.alphabet (pos c)))) cs (stops (prefix_len (λ c. not (not (has leaf.alphabet (pos c)))) cs) (length cs) (not_found (position (λ c. not (has leaf.alphabet (pos c))) cs) bad_character b.1)))) a.1 u

-- Elements and contents.

pub list_writes : (end : Option (List Bool)) (sizing : Sizing) → ending sizing.rule ≡ end → list_fine sizing ≡ true → (env : Env) (each : Data → Part) (es : Elements) → has sizing.sizes (pos (element_count es)) ≡ true → RuleHas env sizing.rule (element_count es) → Writes (RunPart each es) → Writes (ListPart end sizing env each es)
list_writes None sizing e f env each es h r w =
    let b = and_parts (sizes_fine sizing.sizes) (list_rule_fine (ending sizing.rule) sizing) f in
    then_writes (where_writes h (rule_writes sizing.sizes b.0 sizing.rule (ap (λ o. list_rule_fine o sizing) (sym e) ∙ b.1) env (element_count es) h r)) w
list_writes (Some p) sizing e f env each es h r w = where_writes h (then_writes w (exactly_writes p))

pub window_writes : (root : Grammar) (g : Grammar) → Steady g → (env : Env) (d : Data) → Writes (Spell root Written g env d) → Writes (Window (Spell root Written g env d) (Fill Written) (octets_for (bit_length g 0 d)))
window_writes root g w env d content at =
    let t = then_writes {Q = Fill Written} content fill_writes 0 in
    let i = t.1 in
    let l = length_law root Written g w env d 0 i.front i.first in
    (t.0, record { size = omega (arith, then-length i, l, i.second.aligned, i.second.few); inside = i })
