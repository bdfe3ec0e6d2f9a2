-- Every spelling has a length between the two bounds of its node.
use Rattle.std.proofs.Common.{◌≡◌, ℕ, zero, suc, ◌+◌, ◌-◌, ◌*◌, ◌^◌, ◌<◌, ◌≤◌, ℤ, pos, negsuc, Bool, true, false, List, [], length, Option, Some, None, refl, ap, ◌∙◌, arith, ◌&&◌, IsTrue}
use Rattle.std.specs.Prelude.{◌≤ℤ◌}
use Rattle.std.proofs.lemmas.Int.{ints}
use Rattle.acn_num.specs.Ranges.{In, has, least, greatest}
use Rattle.acn_grammar.specs.Grammar.{Grammar, Form, Fields, Alternatives, Data, Places, Elements, node, num, octets, bits, text, seq, list, choice, contained, no_fields, component, inserted, no_alternatives, alternative, octet_string, bit_string, characters, record_of, list_of, alt, null, no_places, empty, filled, no_elements, element, element_count}
use Rattle.acn_grammar.specs.Code.{Mode, Code}
use Rattle.acn_grammar.specs.Env.{Env, MayBeAway}
use Rattle.acn_grammar.specs.Images.{images_of}
use Rattle.acn_grammar.specs.Interval.{exactly, hold, plus, times, in_octets, size_of, sizes_of, fixed_width, span_by, num_span, from_one_octet, code_lengths, end_width, list_around, component_span, span, form_span, fields_span, alternatives_span}
use Rattle.acn_grammar.specs.Leaves.{num_fine, text_fine, sizing_fine, list_fine, list_rule_fine, sizes_fine, rule_fine, end_fine}
use Rattle.acn_grammar.specs.Length.{coding_length, rule_width, ending, index_width, presence_bits, bit_before}
use Rattle.acn_grammar.specs.Spell.{Part, ◌then◌, Padding, Spell, FormPart, FieldsPart, SlotField, RunPart, RulePart, ListPart, EndedPart, Window, Fill, IndexPart, AlternativePart}
use Rattle.acn_grammar.specs.declared.bounds.Bounds.{Bounds}
use Rattle.acn_grammar.specs.declared.node.NumCoding.{NumCoding}
use Rattle.acn_grammar.specs.declared.node.NumCoding.TheVariants.{Range, CountedFrom, CountedSigned, PosInt, Twos, Bcd, BcdEnded, Ascii, AsciiEnded, Flag, Fixed}
use Rattle.acn_grammar.specs.declared.node.NumLeaf.{NumLeaf}
use Rattle.acn_grammar.specs.declared.node.TextLeaf.{TextLeaf}
use Rattle.acn_grammar.specs.declared.node.Presence.{Presence}
use Rattle.acn_grammar.specs.declared.node.Presence.TheVariants.{Always, Bit, When}
use Rattle.acn_grammar.specs.declared.node.ChoiceRule.{ChoiceRule}
use Rattle.acn_grammar.specs.declared.node.ChoiceRule.TheVariants.{Index, Tests, Item}
use Rattle.acn_grammar.specs.declared.node.Sizing.{Sizing}
use Rattle.acn_grammar.specs.declared.node.SizeRule.{SizeRule}
use Rattle.acn_grammar.specs.declared.node.SizeRule.TheVariants.{Prefix, Slot, Ended}
use Rattle.acn_grammar.proofs.LeafLengths.{limits_of, coding-length}
use Rattle.acn_grammar.proofs.FineLeaves.{rules_of}
use Rattle.acn_grammar.proofs.Monotone.{Has, Varies, lengths_have}
use Rattle.acn_grammar.proofs.SpellLength.{then-length, bits-length}
use Rattle.acn_grammar.proofs.Within.{image_has}
use Rattle.std.proofs.lemmas.Bool.{and_parts}
use Rattle.acn_grammar.proofs.RangeEnds.{ranges_from, from_least, to_greatest, some_greatest}
use Rattle.acn_grammar.proofs.Spans.{Between, exactly_spans, plus_spans, hull_first, hull_second, times_spans, same_spans, there_spans}
use Rattle.acn_grammar.proofs.Characters.{characters_long}
use Rattle.acn_grammar.proofs.TextRules.{text_rules, end_rules, no_width, size_rules, size_few}
use Rattle.acn_num.specs.declared.limits.TheConstants.{MOST_SIZE}
use Rattle.acn_grammar.specs.declared.limits.TheConstants.{MOST_PACKET_BITS}

-- Leaves.

pub fixed_is : (coding : NumCoding) (w : ℕ) (y : ℤ) → Some w ≡ fixed_width coding → coding_length coding y ≡ w
fixed_is (Range low width) w y e = cc
fixed_is (CountedFrom low) w y e = cc
fixed_is CountedSigned w y e = cc
fixed_is (PosInt n) w y e = cc
fixed_is (Twos n) w y e = cc
fixed_is (Bcd n) w y e = cc
fixed_is BcdEnded w y e = cc
fixed_is (Ascii n signed) w y e = cc
fixed_is (AsciiEnded end signed) w y e = cc
fixed_is (Flag p q) w y e = cc
fixed_is (Fixed pattern) w y e = cc

pub varies_if : (coding : NumCoding) → None ≡ fixed_width coding → Varies coding
varies_if (Range low width) e = cc
varies_if (CountedFrom low) e = tt
varies_if CountedSigned e = tt
varies_if (PosInt n) e = cc
varies_if (Twos n) e = cc
varies_if (Bcd n) e = cc
varies_if BcdEnded e = tt
varies_if (Ascii n signed) e = cc
varies_if (AsciiEnded end signed) e = tt
varies_if (Flag p q) e = cc
varies_if (Fixed pattern) e = cc

from_one_has : (coding : NumCoding) (b : Bounds) (y : ℤ) → Has b (coding_length coding y) → Has (from_one_octet coding b) (coding_length coding y)
from_one_has (CountedFrom low) b y h = (omega arith, h.1)
from_one_has CountedSigned b y h = (omega arith, h.1)
from_one_has (Range low width) b y h = h
from_one_has (PosInt n) b y h = h
from_one_has (Twos n) b y h = h
from_one_has (Bcd n) b y h = h
from_one_has BcdEnded b y h = h
from_one_has (Ascii n signed) b y h = h
from_one_has (AsciiEnded end signed) b y h = h
from_one_has (Flag p q) b y h = h
from_one_has (Fixed pattern) b y h = h

hold_between : (b : Bounds) (n : ℕ) → Has b n → Between (hold b) n
hold_between b n h = let one = h.0 in let two = h.1 in record { low = omega arith; high = λ s. omega arith }

by_width : (leaf : NumLeaf) (o : Option ℕ) (y : ℤ) → o ≡ fixed_width leaf.coding → has (images_of leaf) y ≡ true → Between (span_by leaf o) (coding_length leaf.coding y)
by_width leaf (Some w) y e h = rw (fixed_is leaf.coding w y e) (exactly_spans w)
by_width leaf None y e h = hold_between (from_one_octet leaf.coding (code_lengths leaf)) (coding_length leaf.coding y) (from_one_has leaf.coding (code_lengths leaf) y (lengths_have leaf.coding (varies_if leaf.coding e) (images_of leaf) y h))

code_between : (mode : Mode) (leaf : NumLeaf) → IsTrue (num_fine leaf) → (x : ℤ) (bs : List Bool) → Code mode leaf x bs → Between (num_span leaf) (length bs)
code_between mode leaf h x bs c =
    let l = coding-length leaf.coding leaf.little mode c.image bs (rules_of leaf h).coding (limits_of leaf x c.image h c.permitted c.maps) c.spelled in
    rw l (by_width leaf (fixed_width leaf.coding) c.image refl (image_has leaf x c.image c.permitted c.maps))

-- Sizes.

least_size : (o : Option ℤ) (n : ℕ) → ((z : ℤ) → o ≡ Some z → z ≤ℤ pos n) → size_of o ≤ n
least_size None n h = omega arith
least_size (Some (pos k)) n h = let p = h (pos k) refl in omega (arith, ints)
least_size (Some (negsuc k)) n h = omega arith

greatest_size : (rs : List (ℤ × ℤ)) (n : ℕ) → n ≤ MOST_SIZE → has rs (pos n) ≡ true → (o : Option ℤ) → greatest rs ≡ o → ((z : ℤ) → o ≡ Some z → pos n ≤ℤ z) → n ≤ size_of o
greatest_size rs n l p None e h = absurd (some_greatest rs (pos n) e p)
greatest_size rs n l p (Some (pos k)) e h = let q = h (pos k) refl in omega (arith, ints)
greatest_size rs n l p (Some (negsuc k)) e h = let q = h (negsuc k) refl in absurd (omega (arith, ints))

pub size_has : (rs : List (ℤ × ℤ)) (n : ℕ) → sizes_fine rs ≡ true → In rs (pos n) → Has (sizes_of rs) n
size_has rs n h p =
    let c = ranges_from rs (size_rules rs h).ranges in
    (least_size (least rs) n (λ z e. from_least c.0 rs (pos n) z c.1 p e), greatest_size rs n (size_few rs n h p) p (greatest rs) refl (λ z e. to_greatest c.0 rs (pos n) z c.1 p e))

-- What of a node's rules its bounds need, by recursion.
abbrev mutual
  pub Fine : Grammar → Type 0
  Fine (node align form) = (0 < align) × FormFine form

  pub FormFine : Form → Type 0
  FormFine (num leaf) = IsTrue (num_fine leaf)
  FormFine (octets sizing) = IsTrue (sizing_fine sizing)
  FormFine (bits sizing) = IsTrue (sizing_fine sizing)
  FormFine (text leaf) = IsTrue (text_fine leaf)
  FormFine (seq fields home) = FieldsFine fields
  FormFine (list sizing g) = IsTrue (list_fine sizing) × Fine g
  FormFine (choice cases rule) = AlternativesFine cases
  FormFine (contained sizing g) = IsTrue (sizing_fine sizing) × Fine g

  pub FieldsFine : Fields → Type 0
  FieldsFine no_fields = Unit {0}
  FieldsFine (component name g presence default own fs) = Fine g × FieldsFine fs
  FieldsFine (inserted name g slot fs) = Fine g × FieldsFine fs

  pub AlternativesFine : Alternatives → Type 0
  AlternativesFine no_alternatives = Unit {0}
  AlternativesFine (alternative name g tests more) = Fine g × AlternativesFine more

joined : {P Q : Part} {at : ℕ} {bs : List Bool} (t : (P then Q) at bs) (a b : Bounds) → Between a (length t.front) → Between b (length t.back) → Between (plus a b) (length bs)
joined t a b p q = rw (then-length t) (plus_spans a b (length t.front) (length t.back) p q)

padding_between : (mode : Mode) (align at : ℕ) (bs : List Bool) → Padding mode align at bs → Between (record { least = 0; greatest = align - 1 }) (length bs)
padding_between mode align at bs p = let few = p.fewest in record { low = omega arith; high = λ h. omega arith }

pub rule_between : (rule : SizeRule) (env : Env) (n at : ℕ) (bs : List Bool) → RulePart rule env n at bs → Between (exactly (rule_width rule)) (length bs)
rule_between (Prefix low width) env n at bs p = rw p.spelled.width (exactly_spans width)
rule_between (Slot s) env n at bs p = rw p.1 (exactly_spans 0)
rule_between (Ended q) env n at bs p = absurd p.0

sized : (sizes : List (ℤ × ℤ)) (rule : SizeRule) → (sizes_fine sizes && rule_fine sizes rule) ≡ true → sizes_fine sizes ≡ true
sized sizes rule h = (and_parts (sizes_fine sizes) (rule_fine sizes rule) h).0

text_between : (end : Option (List Bool)) (leaf : TextLeaf) (env : Env) (cs : List ℕ) (at : ℕ) (bs : List Bool) → sizes_fine leaf.sized.sizes ≡ true → end_fine end leaf ≡ true → EndedPart end leaf env cs at bs
    → Between (plus (exactly (rule_width leaf.sized.rule + end_width end)) (times (sizes_of leaf.sized.sizes) (exactly leaf.width))) (length bs)
text_between None leaf env cs at bs h f t =
    let none : rule_width leaf.sized.rule + 0 ≡ rule_width leaf.sized.rule = omega arith in
    joined t (exactly (rule_width leaf.sized.rule + 0)) (times (sizes_of leaf.sized.sizes) (exactly leaf.width))
    (rw none (rule_between leaf.sized.rule env (length cs) at t.front t.first.spelled))
    (same_spans (sizes_of leaf.sized.sizes) (length cs) leaf.width (length t.back) (size_has leaf.sized.sizes (length cs) h t.first.given) (characters_long leaf cs (at + length t.front) t.back t.second))
text_between (Some end) leaf env cs at bs h f t =
    let none : rule_width leaf.sized.rule + length end ≡ length end = omega (arith, no_width leaf.sized.rule (end_rules leaf end f).rule) in
    let first = same_spans (sizes_of leaf.sized.sizes) (length cs) leaf.width (length t.spelled.front) (size_has leaf.sized.sizes (length cs) h t.given.0) (characters_long leaf cs at t.spelled.front t.spelled.first) in
    let last : Between (exactly (rule_width leaf.sized.rule + length end)) (length t.spelled.back) = rw (none, t.spelled.second) (exactly_spans (length end)) in
    let whole = then-length t.spelled in
    let swap : length bs ≡ length t.spelled.back + length t.spelled.front = omega arith in
    rw swap (plus_spans (exactly (rule_width leaf.sized.rule + length end)) (times (sizes_of leaf.sized.sizes) (exactly leaf.width)) (length t.spelled.back) (length t.spelled.front) last first)

run_least : (e : Bounds) (each : Data → Part) → ((d : Data) (at : ℕ) (bs : List Bool) → each d at bs → Between e (length bs)) → (es : Elements) (at : ℕ) (bs : List Bool) → RunPart each es at bs → element_count es * e.least ≤ length bs
run_least e each h no_elements at bs t = omega arith
run_least e each h (element d es) at bs t =
    omega (arith, then-length t, (h d at t.front t.first).low, run_least e each h es (at + length t.front) t.back t.second)

run_greatest : (e : Bounds) (each : Data → Part) → ((d : Data) (at : ℕ) (bs : List Bool) → each d at bs → Between e (length bs)) → (es : Elements) (at : ℕ) (bs : List Bool) → RunPart each es at bs → e.greatest < 2 ^ 40 → length bs ≤ element_count es * e.greatest
run_greatest e each h no_elements at bs t s = rw t (omega arith)
run_greatest e each h (element d es) at bs t s =
    omega (arith, then-length t, (h d at t.front t.first).high s, run_greatest e each h es (at + length t.front) t.back t.second s)

run_none : (each : Data → Part) (es : Elements) (at : ℕ) (bs : List Bool) → RunPart each es at bs → element_count es ≡ 0 → length bs ≡ 0
run_none each no_elements at bs t z = ap length t
run_none each (element d es) at bs t z = absurd (omega arith)

list_between : (end : Option (List Bool)) (sizing : Sizing) (env : Env) (e : Bounds) (each : Data → Part) → sizes_fine sizing.sizes ≡ true → ((d : Data) (at : ℕ) (bs : List Bool) → each d at bs → Between e (length bs))
    → (es : Elements) (at : ℕ) (bs : List Bool) → ListPart end sizing env each es at bs → Between (plus (exactly (list_around end sizing)) (times (sizes_of sizing.sizes) e)) (length bs)
list_between None sizing env e each f h es at bs t =
    joined t (exactly (rule_width sizing.rule)) (times (sizes_of sizing.sizes) e) (rule_between sizing.rule env (element_count es) at t.front t.first.spelled)
    (times_spans (sizes_of sizing.sizes) e (element_count es) (length t.back) (size_has sizing.sizes (element_count es) f t.first.given)
    (run_least e each h es (at + length t.front) t.back t.second)
    (run_greatest e each h es (at + length t.front) t.back t.second)
    (run_none each es (at + length t.front) t.back t.second))
list_between (Some p) sizing env e each f h es at bs t =
    let first = times_spans (sizes_of sizing.sizes) e (element_count es) (length t.spelled.front) (size_has sizing.sizes (element_count es) f t.given)
    (run_least e each h es at t.spelled.front t.spelled.first)
    (run_greatest e each h es at t.spelled.front t.spelled.first)
    (run_none each es at t.spelled.front t.spelled.first) in
    let last : Between (exactly (length p)) (length t.spelled.back) = rw t.spelled.second (exactly_spans (length p)) in
    let whole = then-length t.spelled in
    let swap : length bs ≡ length t.spelled.back + length t.spelled.front = omega arith in
    rw swap (plus_spans (exactly (length p)) (times (sizes_of sizing.sizes) e) (length t.spelled.back) (length t.spelled.front) last first)

window_between : (b : Bounds) (content fill : Part) (mode : Mode) (n at : ℕ) (bs : List Bool) → ((cs : List Bool) → content 0 cs → Between b (length cs)) → Window content (Fill mode) n at bs → Between (in_octets b) (length bs)
window_between b content fill mode n at bs h t =
    let i = h t.inside.front t.inside.first in
    let whole = then-length t.inside in
    let size = t.size in
    let few = t.inside.second.few in
    let low = i.low in
    record { low = omega arith; high = λ s. omega (arith, i.high (omega arith)) }

index_between : (root : Grammar) (rule : ChoiceRule) (i at : ℕ) (bs : List Bool) → IndexPart root rule i at bs → Between (exactly (index_width rule)) (length bs)
index_between root (Index width) i at bs p = rw p.width (exactly_spans width)
index_between root Tests i at bs e = rw e (exactly_spans 0)
index_between root (Item s) i at bs e = rw e (exactly_spans 0)

away_between : (env : Env) (presence : Presence) (b : Bounds) → MayBeAway env presence → Between (component_span presence b) (length (bit_before presence false []))
away_between env Always b p = absurd p
away_between env Bit b p = record { low = omega arith; high = λ h. omega arith }
away_between env (When ts) b p = record { low = omega arith; high = λ h. omega arith }

pub bit_before-length : (presence : Presence) (b : Bool) (bs : List Bool) → length (bit_before presence b bs) ≡ length (bit_before presence b []) + length bs
bit_before-length Always b bs = omega arith
bit_before-length Bit b bs = omega arith
bit_before-length (When ts) b bs = omega arith

module _ (root : Grammar) (mode : Mode) where
  slot_between : (g : Grammar) → Fine g → (env : Env) (s at : ℕ) (bs : List Bool) → SlotField root mode g env s at bs → Between (span g) (length bs)
  slot_between (node align (num leaf)) f env s at bs t =
      joined t.2 (record { least = 0; greatest = align - 1 }) (num_span leaf) (padding_between mode align at t.2.front t.2.first) (code_between mode leaf f.1 t.0 t.2.back t.2.second)
  slot_between (node align _) f env s at bs t = absurd t.0

  mutual
    pub span_between : (g : Grammar) → Fine g → (env : Env) (d : Data) (at : ℕ) (bs : List Bool) → Spell root mode g env d at bs → Between (span g) (length bs)
    span_between (node align form) f env d at bs t =
        joined t (record { least = 0; greatest = align - 1 }) (form_span form) (padding_between mode align at t.front t.first) (form_between form f.1 env d (at + length t.front) t.back t.second)

    form_between : (form : Form) → FormFine form → (env : Env) (d : Data) (at : ℕ) (bs : List Bool) → FormPart root mode form env d at bs → Between (form_span form) (length bs)
    form_between (num leaf) f env d at bs t = code_between mode leaf f t.0 bs t.2
    form_between (octets sizing) f env (octet_string os) at bs t =
        joined t (exactly (rule_width sizing.rule)) (times (sizes_of sizing.sizes) (exactly 8)) (rule_between sizing.rule env (length os) at t.front t.first.spelled)
        (same_spans (sizes_of sizing.sizes) (length os) 8 (length t.back) (size_has sizing.sizes (length os) (sized sizing.sizes sizing.rule f) t.first.given) (ap length t.second.spelled ∙ bits-length os))
    form_between (bits sizing) f env (bit_string cs) at bs t =
        joined t (exactly (rule_width sizing.rule)) (times (sizes_of sizing.sizes) (exactly 1)) (rule_between sizing.rule env (length cs) at t.front t.first.spelled)
        (same_spans (sizes_of sizing.sizes) (length cs) 1 (length t.back) (size_has sizing.sizes (length cs) (sized sizing.sizes sizing.rule f) t.first.given) (ap length t.second ∙ omega arith))
    form_between (text leaf) f env (characters cs) at bs t =
        let r = text_rules leaf f in
        text_between leaf.ended leaf env cs at bs r.sizes r.end t
    form_between (seq fields home) f env (record_of ps) at bs t =
        let inside = fields_between fields f _ ps (at + length t.spelled.front) t.spelled.back t.spelled.second in
        let front = ap length t.spelled.first in
        let whole = then-length t.spelled in
        let is : length bs ≡ length (presence_bits fields ps) + length t.spelled.back = omega arith in
        rw is inside
    form_between (list sizing g) f env (list_of es) at bs t =
        list_between (ending sizing.rule) sizing env (span g) (Spell root mode g env) (and_parts (sizes_fine sizing.sizes) (list_rule_fine (ending sizing.rule) sizing) f.0).0 (span_between g f.1 env) es at bs t
    form_between (choice cases rule) f env (alt i d) at bs t =
        joined t (exactly (index_width rule)) (alternatives_span cases) (index_between root rule i at t.front t.first) (alternative_between cases f rule env i d (at + length t.front) t.back t.second)
    form_between (contained sizing g) f env d at bs t =
        joined t.spelled (exactly (rule_width sizing.rule)) (in_octets (span g)) (rule_between sizing.rule env t.some at t.spelled.front t.spelled.first.spelled)
        (window_between (span g) (Spell root mode g env d) (Fill mode) mode t.some _ t.spelled.back (λ cs h. span_between g f.1 env d 0 cs h) t.spelled.second)
    form_between _ f env d at bs t = absurd t.0

    -- the fields with their presence bits
    fields_between : (fs : Fields) → FieldsFine fs → (env : Env) (ps : Places) (at : ℕ) (bs : List Bool) → FieldsPart root mode fs env ps at bs → Between (fields_span fs) (length (presence_bits fs ps) + length bs)
    fields_between no_fields f env no_places at bs t = rw t (exactly_spans 0)
    fields_between (component name g presence default own fs) f env (filled d ps) at bs t =
        let here = there_spans presence (span g) (length t.front) (span_between g f.0 env d at t.front t.first.spelled) in
        let rest = fields_between fs f.1 env ps (at + length t.front) t.back t.second in
        let whole = then-length t in
        let flags = bit_before-length presence true (presence_bits fs ps) in
        let is : length (bit_before presence true (presence_bits fs ps)) + length bs ≡ (length (bit_before presence true []) + length t.front) + (length (presence_bits fs ps) + length t.back) = omega arith in
        rw is (plus_spans (component_span presence (span g)) (fields_span fs) (length (bit_before presence true []) + length t.front) (length (presence_bits fs ps) + length t.back) here rest)
    fields_between (component name g presence default own fs) f env (empty ps) at bs t =
        let here = away_between env presence (span g) t.given in
        let rest = fields_between fs f.1 env ps at bs t.spelled in
        let flags = bit_before-length presence false (presence_bits fs ps) in
        let is : length (bit_before presence false (presence_bits fs ps)) + length bs ≡ length (bit_before presence false []) + (length (presence_bits fs ps) + length bs) = omega arith in
        rw is (plus_spans (component_span presence (span g)) (fields_span fs) (length (bit_before presence false [])) (length (presence_bits fs ps) + length bs) here rest)
    fields_between (inserted name g (Some s) fs) f env ps at bs t =
        let here = slot_between g f.0 env s at t.front t.first in
        let rest = fields_between fs f.1 env ps (at + length t.front) t.back t.second in
        let whole = then-length t in
        let is : length (presence_bits fs ps) + length bs ≡ length t.front + (length (presence_bits fs ps) + length t.back) = omega arith in
        rw is (plus_spans (span g) (fields_span fs) (length t.front) (length (presence_bits fs ps) + length t.back) here rest)
    fields_between (inserted name g None fs) f env ps at bs t =
        let here = span_between g f.0 env null at t.front t.first in
        let rest = fields_between fs f.1 env ps (at + length t.front) t.back t.second in
        let whole = then-length t in
        let is : length (presence_bits fs ps) + length bs ≡ length t.front + (length (presence_bits fs ps) + length t.back) = omega arith in
        rw is (plus_spans (span g) (fields_span fs) (length t.front) (length (presence_bits fs ps) + length t.back) here rest)
    fields_between _ f env ps at bs t = absurd t.0

    alternative_between : (cases : Alternatives) → AlternativesFine cases → (rule : ChoiceRule) (env : Env) (i : ℕ) (d : Data) (at : ℕ) (bs : List Bool) → AlternativePart root mode cases rule env i d at bs → Between (alternatives_span cases) (length bs)
    alternative_between (alternative name g tests more) f rule env zero d at bs t = hull_first (span g) (alternatives_span more) (length bs) (span_between g f.0 env d at bs t.spelled)
    alternative_between (alternative name g tests more) f rule env (suc i) d at bs t = hull_second (span g) (alternatives_span more) (length bs) (alternative_between more f.1 rule env i d at bs t)
    alternative_between no_alternatives f rule env i d at bs t = absurd t.0

  -- in a tree whose greatest bound is within a packet's limit the bounds hold as they stand
  pub within_bounds : Fine root → (span root).greatest ≤ MOST_PACKET_BITS → (d : Data) (bs : List Bool) → Spell root mode root [] d 0 bs → ((span root).least ≤ length bs) × (length bs ≤ (span root).greatest)
  within_bounds f small d bs t =
      let b = span_between root f [] d 0 bs t in
      (b.low, b.high (omega arith))
