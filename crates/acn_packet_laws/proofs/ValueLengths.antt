-- The length of a value that meets its node lies between the node's bounds, whatever the numbers of slots are.
use Rattle.std.proofs.Common.{◌≡◌, ℕ, zero, suc, ◌+◌, ◌-◌, ◌*◌, ◌%◌, ◌^◌, ◌<◌, ◌≤◌, ℤ, pos, Bool, true, false, not, List, [], ◌∷◌, ◌++◌, length, Option, Some, None, refl, sym, arith, subst, append-nil, IsTrue}
use Rattle.std.proofs.Math.Nat.{mod-lt}
use Rattle.std.specs.Prelude.{position}
use Rattle.acn_num.specs.Bits.{octets as octets_for}
use Rattle.acn_num.specs.Ranges.{In, has}
use Rattle.acn_grammar.specs.Code.{Any, Code}
use Rattle.acn_grammar.specs.Grammar.{Grammar, Form, Fields, Alternatives, Data, Places, Elements, node, num, octets, bits, text, seq, list, choice, contained, no_fields, component, inserted, no_alternatives, alternative, octet_string, bit_string, characters, record_of, list_of, alt, no_places, empty, filled, no_elements, element, element_count}
use Rattle.acn_grammar.specs.Interval.{exactly, plus, times, in_octets, span, form_span, fields_span, alternatives_span, num_span, span_by, fixed_width, sizes_of, end_width, list_around, component_span}
use Rattle.acn_grammar.specs.Leaves.{num_fine, sizes_fine, rule_fine, list_rule_fine, end_fine}
use Rattle.acn_grammar.specs.Length.{padding, bit_length, form_length, fields_length, alternative_length, run_length, list_length, inserted_length, num_length, number_of, least, presence_bits, bit_before, rule_width, index_width, text_length, ending}
use Rattle.acn_grammar.specs.Meets.{where_found, bad_character, end_breach, out_of_range, size_out_of_range, unless, size_breach, text_breach, at_path, run_breaches, breaches, form_breaches, field_breaches, alternative_breaches}
use Rattle.acn_grammar.specs.Shaped.{may_be_absent, each_element, fits, form_fits, fields_fit, alternative_fits}
use Rattle.acn_grammar.specs.Spell.{Padding, Spell, SlotField}
use Rattle.acn_grammar.specs.declared.bounds.Bounds.{Bounds}
use Rattle.acn_grammar.specs.declared.node.NumLeaf.{NumLeaf}
use Rattle.acn_grammar.specs.declared.node.Sizing.{Sizing}
use Rattle.acn_grammar.specs.declared.node.TextLeaf.{TextLeaf}
use Rattle.acn_grammar.proofs.FineLeaves.{rules_of}
use Rattle.acn_grammar.proofs.LeafLengths.{code-length}
use Rattle.acn_grammar.proofs.SpanLaw.{Fine, FormFine, FieldsFine, AlternativesFine, size_has, span_between, bit_before-length}
use Rattle.acn_grammar.proofs.SpellLength.{Steady, SteadyForm, SteadyFields, SteadyAlternatives, SteadyLeaf}
use Rattle.acn_packet_laws.specs.Laws.{ValuesLieWithinBounds}
use Rattle.acn_packet_laws.proofs.Codes.{each_number_has_a_code}
use Rattle.acn_packet_laws.proofs.FineNodes.{fine_at}
use Rattle.acn_packet_laws.proofs.SlotNumbers.{some_number}
use Rattle.acn_packet_laws.proofs.Lengths.{steady_at, least_there}
use Rattle.acn_packet_laws.proofs.WrittenParts.{nothing_left, no_breach, passes}
use Rattle.std.proofs.lemmas.Bool.{and_parts}
use Rattle.acn_packet_laws.proofs.Tuples.{last_two}
use Rattle.acn_grammar.proofs.Spans.{Between, exactly_spans, plus_spans, hull_first, hull_second, times_spans, same_spans, octets_span, there_spans, away_spans, moved_spans}
use Rattle.acn_grammar.proofs.TextRules.{TextRules, text_rules, end_rules, no_width}
use Rattle.acn_grammar.proofs.HasImage.{set_ordered}

-- Numbers: by a code of them.

pub padding_spans : (align at : ℕ) → 0 < align → Between (record { least = 0; greatest = align - 1 }) (padding align at)
padding_spans align at h = let below = mod-lt (align - at % align) {m = align} h in record { low = omega arith; high = λ q. omega arith }

abbrev Every : (Data → Type 0) → Elements → Type 0
Every good no_elements = Unit {0}
Every good (element d es) = good d × Every good es

-- the number alone, in the field of a slot
abbrev alone : NumLeaf → Grammar
alone leaf = node 1 (seq (inserted [] (node 1 (num leaf)) (Some 0) no_fields) [])

by_held : (leaf : NumLeaf) (o : Option ℕ) (n : ℕ)
    → Between (plus (record { least = 0; greatest = 1 - 1 }) (plus (plus (record { least = 0; greatest = 1 - 1 }) (span_by leaf o)) (exactly 0))) n → Between (span_by leaf o) n
by_held leaf (Some w) n p = let low = p.low in record { low = omega arith; high = λ h. omega (arith, p.high (omega arith)) }
by_held leaf None n p = let low = p.low in record { low = omega arith; high = λ h. omega (arith, p.high (omega arith)) }

pub number_spans : (leaf : NumLeaf) → IsTrue (num_fine leaf) → (x : ℤ) → In leaf.set x → Between (num_span leaf) (num_length leaf x)
number_spans leaf fine x h =
    moved_spans (num_span leaf) (num_length leaf x) (length c.0) (sym (code-length Any leaf fine x c.0 c.1)) (by_held leaf (fixed_width leaf.coding) (length c.0) (subst (λ bs. Between (span (alone leaf)) (length bs)) (append-nil c.0) b))
  where
    c : (bs : List Bool) × Code Any leaf x bs
    c = each_number_has_a_code Any leaf fine x h

    none : (at : ℕ) → Padding Any 1 at []
    none at = record { aligned = omega arith; fewest = omega arith; zeros = λ e. refl }

    field : SlotField (alone leaf) Any (node 1 (num leaf)) ((0, x) ∷ []) 0 0 c.0
    field = (x, refl, record { front = []; back = c.0; whole = refl; first = none 0; second = c.1 })

    spelled : Spell (alone leaf) Any (alone leaf) ((0, x) ∷ []) (record_of no_places) 0 (c.0 ++ [])
    spelled = record {
      front = [];
      back = c.0 ++ [];
      whole = refl;
      first = none 0;
      second = record {
        numbers = [];
        fine = record { count = refl; permitted = tt; least = λ e. cc };
        spelled = record { front = []; back = c.0 ++ []; whole = refl; first = refl; second = record { front = c.0; back = []; whole = refl; first = field; second = refl } };
      };
    }

    b : Between (span (alone leaf)) (length (c.0 ++ []))
    b = span_between (alone leaf) Any (alone leaf) (omega arith, ((omega arith, fine), tt)) ((0, x) ∷ []) (record_of no_places) 0 (c.0 ++ []) spelled

-- the length of an inserted field, which all its numbers share
inserted_spans : (g : Grammar) → Fine g → SteadyLeaf g → (at : ℕ) → Between (span g) (inserted_length g at)
inserted_spans (node align (num leaf)) f w at =
    let fine = last_two f in
    let x = some_number leaf fine in
    let there = least_there leaf.set x.0 (set_ordered leaf.kind leaf.coding leaf.items leaf.table leaf.set (rules_of leaf fine).set) x.1 in
    plus_spans (record { least = 0; greatest = align - 1 }) (num_span leaf) (padding align at) (num_length leaf (least leaf.set)) (padding_spans align at f.0) (number_spans leaf fine (least leaf.set) there)
inserted_spans (node align (octets sizing)) f w at = absurd w
inserted_spans (node align (bits sizing)) f w at = absurd w
inserted_spans (node align (text leaf)) f w at = absurd w
inserted_spans (node align (seq _ home)) f w at = absurd w
inserted_spans (node align (list sizing g)) f w at = absurd w
inserted_spans (node align (choice cases rule)) f w at = absurd w
inserted_spans (node align (contained sizing g)) f w at = absurd w

-- Sizes.

has_size : (path : List ℕ) (sizing : Sizing) (n : ℕ) → at_path path (size_breach sizing n) ≡ [] → has sizing.sizes (pos n) ≡ true
has_size path sizing n e = passes (has sizing.sizes (pos n)) (size_out_of_range n) (no_breach path (size_breach sizing n) e)

text_spans : (end : Option (List Bool)) (leaf : TextLeaf) → TextRules leaf → end_fine end leaf ≡ true → (n : ℕ) → has leaf.sized.sizes (pos n) ≡ true → Between (plus (exactly (rule_width leaf.sized.rule + end_width end)) (times (sizes_of leaf.sized.sizes) (exactly leaf.width))) (text_length end leaf n)
text_spans None leaf r f n h =
    let none : rule_width leaf.sized.rule ≡ rule_width leaf.sized.rule + 0 = omega arith in
    plus_spans (exactly (rule_width leaf.sized.rule + 0)) (times (sizes_of leaf.sized.sizes) (exactly leaf.width)) (rule_width leaf.sized.rule) (leaf.width * n) (moved_spans (exactly (rule_width leaf.sized.rule + 0)) (rule_width leaf.sized.rule) (rule_width leaf.sized.rule + 0) none (exactly_spans (rule_width leaf.sized.rule + 0)))
    (same_spans (sizes_of leaf.sized.sizes) n leaf.width (leaf.width * n) (size_has leaf.sized.sizes n r.sizes h) refl)
text_spans (Some end) leaf r f n h =
    let none = no_width leaf.sized.rule (end_rules leaf end f).rule in
    let swap : leaf.width * n + length end ≡ (rule_width leaf.sized.rule + length end) + leaf.width * n = omega arith in
    moved_spans (plus (exactly (rule_width leaf.sized.rule + length end)) (times (sizes_of leaf.sized.sizes) (exactly leaf.width))) (leaf.width * n + length end) ((rule_width leaf.sized.rule + length end) + leaf.width * n) swap
    (plus_spans (exactly (rule_width leaf.sized.rule + length end)) (times (sizes_of leaf.sized.sizes) (exactly leaf.width)) (rule_width leaf.sized.rule + length end) (leaf.width * n) (exactly_spans (rule_width leaf.sized.rule + length end))
    (same_spans (sizes_of leaf.sized.sizes) n leaf.width (leaf.width * n) (size_has leaf.sized.sizes n r.sizes h) refl))

-- Elements.

run_low : (e : Bounds) (each : ℕ → Data → ℕ) (good : Data → Type 0) → ((d : Data) → good d → (at : ℕ) → Between e (each at d)) → (es : Elements) → Every good es → (at : ℕ) → element_count es * e.least ≤ run_length each at es
run_low e each good h no_elements q at = omega arith
run_low e each good h (element d es) q at = omega (arith, (h d q.0 at).low, run_low e each good h es q.1 (at + each at d))

run_high : (e : Bounds) (each : ℕ → Data → ℕ) (good : Data → Type 0) → ((d : Data) → good d → (at : ℕ) → Between e (each at d)) → (es : Elements) → Every good es → (at : ℕ) → e.greatest < 2 ^ 40 → run_length each at es ≤ element_count es * e.greatest
run_high e each good h no_elements q at s = omega arith
run_high e each good h (element d es) q at s = omega (arith, (h d q.0 at).high s, run_high e each good h es q.1 (at + each at d) s)

run_none : (each : ℕ → Data → ℕ) (es : Elements) (at : ℕ) → element_count es ≡ 0 → run_length each at es ≡ 0
run_none each no_elements at z = refl
run_none each (element d es) at z = absurd (omega arith)

list_spans : (end : Option (List Bool)) (sizing : Sizing) (e : Bounds) (each : ℕ → Data → ℕ) (good : Data → Type 0) → sizes_fine sizing.sizes ≡ true → ((d : Data) → good d → (at : ℕ) → Between e (each at d)) → (es : Elements) → Every good es → has sizing.sizes (pos (element_count es)) ≡ true → (at : ℕ)
    → Between (plus (exactly (list_around end sizing)) (times (sizes_of sizing.sizes) e)) (list_length end sizing.rule each at es)
list_spans None sizing e each good f h es q s at =
    plus_spans (exactly (rule_width sizing.rule)) (times (sizes_of sizing.sizes) e) (rule_width sizing.rule) (run_length each (at + rule_width sizing.rule) es) (exactly_spans (rule_width sizing.rule))
    (times_spans (sizes_of sizing.sizes) e (element_count es) (run_length each (at + rule_width sizing.rule) es) (size_has sizing.sizes (element_count es) f s) (run_low e each good h es q (at + rule_width sizing.rule)) (run_high e each good h es q (at + rule_width sizing.rule)) (run_none each es (at + rule_width sizing.rule)))
list_spans (Some p) sizing e each good f h es q s at =
    let swap : run_length each at es + length p ≡ length p + run_length each at es = omega arith in
    moved_spans (plus (exactly (length p)) (times (sizes_of sizing.sizes) e)) (run_length each at es + length p) (length p + run_length each at es) swap
    (plus_spans (exactly (length p)) (times (sizes_of sizing.sizes) e) (length p) (run_length each at es) (exactly_spans (length p))
    (times_spans (sizes_of sizing.sizes) e (element_count es) (run_length each at es) (size_has sizing.sizes (element_count es) f s) (run_low e each good h es q at) (run_high e each good h es q at) (run_none each es at)))

-- Nodes.

-- the value meets the node, at whatever path
abbrev Meeting : Grammar → Data → Type 0
Meeting g d = (fits g d ≡ true) × ((path : List ℕ) × (breaches path g d ≡ []))

every_meets : (g : Grammar) (path : List ℕ) (k : ℕ) (es : Elements) → each_element (fits g) es ≡ true → run_breaches (λ j d. breaches (path ++ j ∷ []) g d) k es ≡ [] → Every (Meeting g) es
every_meets g path k no_elements f n = tt
every_meets g path k (element d es) f n =
    let a = and_parts (fits g d) (each_element (fits g) es) f in
    let b = nothing_left (breaches (path ++ k ∷ []) g d) (run_breaches (λ j d'. breaches (path ++ j ∷ []) g d') (suc k) es) n in
    ((a.0, (path ++ k ∷ [], b.0)), every_meets g path (suc k) es a.1 b.1)

mutual
  pub node_spans : (g : Grammar) → Fine g → Steady g → (d : Data) → fits g d ≡ true → (path : List ℕ) → breaches path g d ≡ [] → (at : ℕ) → Between (span g) (bit_length g at d)
  node_spans (node align form) f w d s path n at =
      plus_spans (record { least = 0; greatest = align - 1 }) (form_span form) (padding align at) (form_length form (at + padding align at) d) (padding_spans align at f.0) (form_spans form (last_two f) w d s path n (at + padding align at))

  form_spans : (form : Form) → FormFine form → SteadyForm form → (d : Data) → form_fits form d ≡ true → (path : List ℕ) → form_breaches path form d ≡ [] → (at : ℕ) → Between (form_span form) (form_length form at d)
  form_spans (num leaf) f w d s path n at =
      number_spans leaf f (number_of d) (passes (has leaf.set (number_of d)) (out_of_range (number_of d)) (no_breach path (unless (has leaf.set (number_of d)) (out_of_range (number_of d))) n))
  form_spans (octets sizing) f w (octet_string os) s path n at =
      plus_spans (exactly (rule_width sizing.rule)) (times (sizes_of sizing.sizes) (exactly 8)) (rule_width sizing.rule) (8 * length os) (exactly_spans (rule_width sizing.rule))
      (same_spans (sizes_of sizing.sizes) (length os) 8 (8 * length os) (size_has sizing.sizes (length os) (and_parts (sizes_fine sizing.sizes) (rule_fine sizing.sizes sizing.rule) f).0 (has_size path sizing (length os) n)) refl)
  form_spans (bits sizing) f w (bit_string cs) s path n at =
      plus_spans (exactly (rule_width sizing.rule)) (times (sizes_of sizing.sizes) (exactly 1)) (rule_width sizing.rule) (length cs) (exactly_spans (rule_width sizing.rule))
      (same_spans (sizes_of sizing.sizes) (length cs) 1 (length cs) (size_has sizing.sizes (length cs) (and_parts (sizes_fine sizing.sizes) (rule_fine sizing.sizes sizing.rule) f).0 (has_size path sizing (length cs) n)) (omega arith))
  form_spans (text leaf) f w (characters cs) s path n at =
      let r = text_rules leaf f in
      let a = nothing_left (size_breach leaf.sized (length cs) ++ where_found (position (λ c. not (has leaf.alphabet (pos c))) cs) bad_character) (end_breach leaf.ended cs) (no_breach path (text_breach leaf cs) n) in
      let b = nothing_left (size_breach leaf.sized (length cs)) (where_found (position (λ c. not (has leaf.alphabet (pos c))) cs) bad_character) a.0 in
      text_spans leaf.ended leaf r r.end (length cs) (passes (has leaf.sized.sizes (pos (length cs))) (size_out_of_range (length cs)) b.0)
  form_spans (seq fields home) f w (record_of ps) s path n at = fields_spans fields f w ps s path 0 n (at + length (presence_bits fields ps))
  form_spans (list sizing g) f w (list_of es) s path n at =
      let b = nothing_left (at_path path (size_breach sizing (element_count es))) (run_breaches (λ j d. breaches (path ++ j ∷ []) g d) 0 es) n in
      list_spans (ending sizing.rule) sizing (span g) (bit_length g) (Meeting g) (and_parts (sizes_fine sizing.sizes) (list_rule_fine (ending sizing.rule) sizing) f.0).0
      (λ d m at'. node_spans g (last_two f) w d m.0 m.1.0 m.1.1 at') es (every_meets g path 0 es s b.1) (has_size path sizing (element_count es) b.0) at
  form_spans (choice cases rule) f w (alt i d) s path n at =
      plus_spans (exactly (index_width rule)) (alternatives_span cases) (index_width rule) (alternative_length cases i (at + index_width rule) d) (exactly_spans (index_width rule)) (case_spans cases f w i i d s path n (at + index_width rule))
  form_spans (contained sizing g) f w d s path n at =
      plus_spans (exactly (rule_width sizing.rule)) (in_octets (span g)) (rule_width sizing.rule) (8 * octets_for (bit_length g 0 d)) (exactly_spans (rule_width sizing.rule)) (octets_span (span g) (bit_length g 0 d) (node_spans g (last_two f) w d s (path ++ 0 ∷ []) n 0))
  form_spans (octets sizing) f w _ s path n at = cc
  form_spans (bits sizing) f w _ s path n at = cc
  form_spans (text leaf) f w _ s path n at = cc
  form_spans (seq fields home) f w _ s path n at = cc
  form_spans (list sizing g) f w _ s path n at = cc
  form_spans (choice cases rule) f w _ s path n at = cc

  -- the fields with their presence bits
  fields_spans : (fs : Fields) → FieldsFine fs → SteadyFields fs → (ps : Places) → fields_fit fs ps ≡ true → (path : List ℕ) (k : ℕ) → field_breaches path k fs ps ≡ [] → (at : ℕ) → Between (fields_span fs) (length (presence_bits fs ps) + fields_length fs at ps)
  fields_spans no_fields f w no_places s path k n at = exactly_spans 0
  fields_spans (component name g presence default own fs) f w (filled d ps) s path k n at =
      let a = and_parts (fits g d) (fields_fit fs ps) s in
      let b = nothing_left (breaches (path ++ k ∷ []) g d) (field_breaches path (suc k) fs ps) n in
      let here = there_spans presence (span g) (bit_length g at d) (node_spans g f.0 w.0 d a.0 (path ++ k ∷ []) b.0 at) in
      let rest = fields_spans fs f.1 w.1 ps a.1 path (suc k) b.1 (at + bit_length g at d) in
      let flags = bit_before-length presence true (presence_bits fs ps) in
      let is : length (bit_before presence true (presence_bits fs ps)) + (bit_length g at d + fields_length fs (at + bit_length g at d) ps) ≡ (length (bit_before presence true []) + bit_length g at d) + (length (presence_bits fs ps) + fields_length fs (at + bit_length g at d) ps) = omega arith in
      moved_spans (plus (component_span presence (span g)) (fields_span fs)) _ _ is (plus_spans (component_span presence (span g)) (fields_span fs) (length (bit_before presence true []) + bit_length g at d) (length (presence_bits fs ps) + fields_length fs (at + bit_length g at d) ps) here rest)
  fields_spans (component name g presence default own fs) f w (empty ps) s path k n at =
      let a = and_parts (may_be_absent presence) (fields_fit fs ps) s in
      let here = away_spans presence (span g) a.0 in
      let rest = fields_spans fs f.1 w.1 ps a.1 path (suc k) n at in
      let flags = bit_before-length presence false (presence_bits fs ps) in
      let is : length (bit_before presence false (presence_bits fs ps)) + fields_length fs at ps ≡ length (bit_before presence false []) + (length (presence_bits fs ps) + fields_length fs at ps) = omega arith in
      moved_spans (plus (component_span presence (span g)) (fields_span fs)) _ _ is (plus_spans (component_span presence (span g)) (fields_span fs) (length (bit_before presence false [])) (length (presence_bits fs ps) + fields_length fs at ps) here rest)
  fields_spans (inserted name g (Some r) fs) f w ps s path k n at =
      let here = inserted_spans g f.0 w.0 at in
      let rest = fields_spans fs f.1 w.1 ps s path (suc k) n (at + inserted_length g at) in
      let is : length (presence_bits fs ps) + (inserted_length g at + fields_length fs (at + inserted_length g at) ps) ≡ inserted_length g at + (length (presence_bits fs ps) + fields_length fs (at + inserted_length g at) ps) = omega arith in
      moved_spans (plus (span g) (fields_span fs)) _ _ is (plus_spans (span g) (fields_span fs) (inserted_length g at) (length (presence_bits fs ps) + fields_length fs (at + inserted_length g at) ps) here rest)
  fields_spans (inserted name g None fs) f w ps s path k n at =
      let here = inserted_spans g f.0 w.0 at in
      let rest = fields_spans fs f.1 w.1 ps s path (suc k) n (at + inserted_length g at) in
      let is : length (presence_bits fs ps) + (inserted_length g at + fields_length fs (at + inserted_length g at) ps) ≡ inserted_length g at + (length (presence_bits fs ps) + fields_length fs (at + inserted_length g at) ps) = omega arith in
      moved_spans (plus (span g) (fields_span fs)) _ _ is (plus_spans (span g) (fields_span fs) (inserted_length g at) (length (presence_bits fs ps) + fields_length fs (at + inserted_length g at) ps) here rest)
  fields_spans no_fields f w _ s path k n at = cc
  fields_spans (component name g presence default own fs) f w no_places s path k n at = cc

  case_spans : (cases : Alternatives) → AlternativesFine cases → SteadyAlternatives cases → (i j : ℕ) (d : Data) → alternative_fits cases j d ≡ true → (path : List ℕ) → alternative_breaches path i cases j d ≡ [] → (at : ℕ) → Between (alternatives_span cases) (alternative_length cases j at d)
  case_spans (alternative name g tests more) f w i zero d s path n at = hull_first (span g) (alternatives_span more) (bit_length g at d) (node_spans g f.0 w.0 d s (path ++ i ∷ []) n at)
  case_spans (alternative name g tests more) f w i (suc j) d s path n at = hull_second (span g) (alternatives_span more) (alternative_length more j at d) (case_spans more f.1 w.1 i j d s path n at)
  case_spans no_alternatives f w i j d s path n at = cc

pub values_lie_within_bounds : ValuesLieWithinBounds
values_lie_within_bounds root k here d at a is small meets =
    let b = node_spans (node here.align here.form) (fine_at root k here a.formed is) (steady_at root k here a is) d meets.shaped [] meets.none at in
    (b.low, b.high (omega arith))
