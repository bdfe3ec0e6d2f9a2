-- What is spelled ends where the grammar can reach.
use Rattle.std.proofs.Common.{◌≡◌, ℕ, zero, suc, ◌+◌, ◌*◌, ◌<◌, ◌≤◌, pos, Bool, true, false, ◌||◌, List, [], ◌++◌, length, Option, Some, None, refl, sym, ap, ◌∙◌, arith, nat_eq, subst, IsTrue}
use Rattle.std.proofs.lemmas.Bool.{eqb-true}
use Rattle.acn_num.specs.Bits.{octets as octets_for}
use Rattle.acn_num.specs.Ranges.{Ranges, has}
use Rattle.acn_grammar.specs.Code.{Mode}
use Rattle.acn_grammar.specs.Env.{Env}
use Rattle.acn_grammar.specs.Grammar.{Grammar, Form, Fields, Alternatives, Data, Places, Elements, node, num, octets, bits, text, seq, list, choice, contained, no_fields, component, inserted, no_alternatives, alternative, octet_string, bit_string, characters, record_of, list_of, alt, null, no_places, empty, filled, no_elements, element, element_count}
use Rattle.acn_grammar.specs.Images.{ends}
use Rattle.acn_grammar.specs.Length.{padding, presence_bits, rule_width, index_width, ending}
use Rattle.acn_grammar.specs.Scoped.{Known, with_slot, with_own, after, choose_known}
use Rattle.acn_grammar.specs.Sound.{Sound, FormSound, FieldsSound, AlternativesSound, SaysSlot}
use Rattle.acn_grammar.specs.Spell.{Part, Spell, FormPart, FieldsPart, SlotField, RunPart, ListPart, AlternativePart, SizePart, RulePart, IndexPart, EndedPart, with_home}
use Rattle.acn_grammar.specs.Tree.{is_align}
use Rattle.acn_grammar.specs.declared.bounds.Bounds.{Bounds}
use Rattle.acn_grammar.specs.declared.node.ChoiceRule.{ChoiceRule}
use Rattle.acn_grammar.specs.declared.node.ChoiceRule.TheVariants.{Index, Tests, Item}
use Rattle.acn_grammar.specs.declared.node.Presence.TheVariants.{Always, Bit, When}
use Rattle.acn_grammar.specs.declared.node.Sizing.{Sizing}
use Rattle.acn_grammar.specs.declared.node.SizeRule.{SizeRule}
use Rattle.acn_grammar.specs.declared.node.SizeRule.TheVariants.{Prefix, Slot, Ended}
use Rattle.acn_grammar.specs.declared.node.TextLeaf.{TextLeaf}
use Rattle.acn_grammar.proofs.Characters.{characters_long}
use Rattle.acn_grammar.proofs.SpellLength.{then-length, Padding-length, bits-length}
use Rattle.acn_grammar.proofs.TextRules.{text_rules, end_rules}
use Rattle.acn_grammar.proofs.WholeTests.{either}
use Rattle.acn_grammar.specs.Leaves.{text_fine, end_fine, no_size}
use Rattle.acn_packet_laws.specs.Laws.{KnownBehind, AcceptedIsSound}
use Rattle.acn_extreme_laws.specs.Laws.{Reaches, SpellingsLieWithinReach}
use Rattle.acn_extreme_laws.specs.Reach.{from_to, later, padded, or_else, where_can, num_reach, natural, parts_reach, text_around, behind, earliest, furthest, latest, run_by, list_reach, presence_count, sizes_can, can_be_there, can_be_away, can_be_chosen, reach, form_reach, fields_reach, cases_reach}
use Rattle.acn_extreme_laws.proofs.Scopes.{Open, open_inside, open_after, says_open, open_slot, open_own, open_choose}
use Rattle.acn_extreme_laws.proofs.Tuples.{first_two, first_three, first_four, first_five, second_three, second_five, third_four, fourth_five, last_two, last_three, last_four, last_five}
use Rattle.acn_extreme_laws.proofs.Numbers.{Starts, padded_starts, later_starts, reaches_then, reaches_left, reaches_right, reaches_where, code_reaches, counted, parts_reaches, InEnv, in_home, size_can, there_can, away_can, chosen_can, octets_between, octets_reach}

moved : (o : Option Bounds) (n m : ℕ) → n ≡ m → Reaches o n → Reaches o m
moved o n m e h = subst (λ k. Reaches o k) e h

aligned : (a : ℕ) → IsTrue (is_align a) → 0 < a
aligned a h = either {F = 0 < a} (nat_eq a 1) (nat_eq a 8 || (nat_eq a 16 || nat_eq a 32)) h
    (λ q. let e = eqb-true a 1 q in omega arith)
    (λ q. either {F = 0 < a} (nat_eq a 8) (nat_eq a 16 || nat_eq a 32) q
    (λ r. let e = eqb-true a 8 r in omega arith)
    (λ r. either {F = 0 < a} (nat_eq a 16) (nat_eq a 32) r (λ s. let e = eqb-true a 16 s in omega arith) (λ s. let e = eqb-true a 32 s in omega arith)))

rule-length : (rule : SizeRule) (env : Env) (n at : ℕ) (bs : List Bool) → RulePart rule env n at bs → length bs ≡ rule_width rule
rule-length (Prefix low width) env n at bs p = p.spelled.width
rule-length (Slot s) env n at bs p = ap length p.1
rule-length (Ended q) env n at bs p = absurd p.0

-- Elements.

record Lowest (o : Option ℕ) (n : ℕ) : Type 0 where
  low : ℕ
  is : o ≡ Some low
  below : low ≤ n

run_low : (each : Bounds → Option Bounds) (part : Data → Part) → ((b : Bounds) (at : ℕ) (d : Data) (bs : List Bool) → Starts b at → part d at bs → Reaches (each b) (at + length bs))
    → (n : ℕ) (es : Elements) → n ≤ element_count es → (b : Bounds) (at : ℕ) (bs : List Bool) → Starts b at → RunPart part es at bs → Lowest (earliest each n b) (at + length bs)
run_low each part h zero es l b at bs s t = record { low = b.least; is = refl; below = omega (arith, s.0) }
run_low each part h (suc n) no_elements l b at bs s t = absurd (omega arith)
run_low each part h (suc n) (element d es) l b at bs s t =
    let one = h b at d t.front s t.first in
    by (each b) refl one (λ c q. run_low each part h n es (omega arith) c (at + length t.front) t.back q t.second)
  where
    by : (o : Option Bounds) → each b ≡ o → Reaches o (at + length t.front) → ((c : Bounds) → Starts c (at + length t.front) → Lowest (earliest each n c) (at + length t.front + length t.back)) → Lowest (earliest each (suc n) b) (at + length bs)
    by None e r f = absurd r
    by (Some c) e r f =
        let rest = f c r in
        let whole = then-length t in
        record { low = rest.low; is = ap (λ o. behind o (λ c. earliest each n c)) e ∙ rest.is; below = omega (arith, rest.below) }

run_high : (each : Bounds → Option Bounds) (part : Data → Part) → ((b : Bounds) (at : ℕ) (d : Data) (bs : List Bool) → Starts b at → part d at bs → Reaches (each b) (at + length bs))
    → (n : ℕ) (es : Elements) → element_count es ≤ n → (b : Bounds) (at : ℕ) (bs : List Bool) → Starts b at → RunPart part es at bs → at + length bs ≤ latest each n b
run_high each part h zero no_elements l b at bs s t = (let none = ap length t in omega (arith, s.1))
run_high each part h (suc n) no_elements l b at bs s t = by (each b)
  where
    by : (o : Option Bounds) → at + length bs ≤ furthest b.greatest o (λ c. latest each n c)
    by None = (let none = ap length t in omega (arith, s.1))
    by (Some c) = (let none = ap length t in omega (arith, s.1))
run_high each part h zero (element d es) l b at bs s t = absurd (omega arith)
run_high each part h (suc n) (element d es) l b at bs s t =
    let one = h b at d t.front s t.first in
    by (each b) one (λ c q. run_high each part h n es (omega arith) c (at + length t.front) t.back q t.second)
  where
    by : (o : Option Bounds) → Reaches o (at + length t.front) → ((c : Bounds) → Starts c (at + length t.front) → at + length t.front + length t.back ≤ latest each n c) → at + length bs ≤ furthest b.greatest o (λ c. latest each n c)
    by None r f = absurd r
    by (Some c) r f =
        let rest = f c r in
        let whole = then-length t in
        omega arith

run_reaches : (each : Bounds → Option Bounds) (part : Data → Part) → ((b : Bounds) (at : ℕ) (d : Data) (bs : List Bool) → Starts b at → part d at bs → Reaches (each b) (at + length bs))
    → (rs : Ranges) (es : Elements) → has rs (pos (element_count es)) ≡ true → (b : Bounds) (at : ℕ) (bs : List Bool) → Starts b at → RunPart part es at bs → Reaches (run_by each (ends rs) b) (at + length bs)
run_reaches each part h rs es k b at bs s t =
    let c = counted rs (element_count es) k in
    let low = run_low each part h (natural (c.two).0) es c.low b at bs s t in
    let high = run_high each part h (natural (c.two).1) es c.high b at bs s t in
    rw (c.are, low.is) (low.below, high)

list_reaches : (root : Grammar) (env : Env) (o : Option (List Bool)) (sizing : Sizing) (each : Bounds → Option Bounds) (part : Data → Part) → ((b : Bounds) (at : ℕ) (d : Data) (bs : List Bool) → Starts b at → part d at bs → Reaches (each b) (at + length bs))
    → (rs : Ranges) → ((n at : ℕ) (bs : List Bool) → SizePart sizing env n at bs → has rs (pos n) ≡ true) → ((p : List Bool) → o ≡ Some p → rs ≡ sizing.sizes)
    → (es : Elements) (b : Bounds) (at : ℕ) (bs : List Bool) → Starts b at → ListPart o sizing env part es at bs → Reaches (list_reach o sizing.rule each rs b) (at + length bs)
list_reaches root env None sizing each part h rs can ended es b at bs s t =
    let n = rule-length sizing.rule env (element_count es) at t.front (t.first).spelled in
    let whole = then-length t in
    moved _ (at + length t.front + length t.back) (at + length bs) (omega arith)
    (run_reaches each part h rs es (can (element_count es) at t.front t.first) (later (rule_width sizing.rule) b) (at + length t.front) t.back (subst (λ k. Starts (later (rule_width sizing.rule) b) (at + k)) (sym n) (later_starts (rule_width sizing.rule) b at s)) t.second)
list_reaches root env (Some p) sizing each part h rs can ended es b at bs s t =
    let u = t.spelled in
    let whole = then-length u in
    let mark = ap length u.second in
    reaches_then (run_by each (ends rs) b) (λ c. Some (later (length p) c)) (at + length u.front) (at + length bs)
    (run_reaches each part h rs es (rw (ended p refl) t.given) b at u.front s u.first)
    (λ c q. (omega (arith, q.0), omega (arith, q.1)))

text_reaches : (o : Option (List Bool)) (leaf : TextLeaf) (env : Env) (rs : Ranges) → ((n at : ℕ) (bs : List Bool) → SizePart leaf.sized env n at bs → has rs (pos n) ≡ true) → ((p : List Bool) → o ≡ Some p → rs ≡ leaf.sized.sizes)
    → (cs : List ℕ) (b : Bounds) (at : ℕ) (bs : List Bool) → Starts b at → EndedPart o leaf env cs at bs → Reaches (parts_reach rs leaf.width (later (text_around o leaf) b)) (at + length bs)
text_reaches None leaf env rs can ended cs b at bs s t =
    let n = rule-length leaf.sized.rule env (length cs) at t.front (t.first).spelled in
    let m = characters_long leaf cs (at + length t.front) t.back t.second in
    let whole = then-length t in
    moved _ (at + rule_width leaf.sized.rule + leaf.width * length cs) (at + length bs) (omega arith)
    (parts_reaches rs leaf.width (length cs) (can (length cs) at t.front t.first) (later (rule_width leaf.sized.rule) b) (at + rule_width leaf.sized.rule) (later_starts (rule_width leaf.sized.rule) b at s))
text_reaches (Some end) leaf env rs can ended cs b at bs s t =
    let u = t.spelled in
    let m = characters_long leaf cs at u.front u.first in
    let mark = ap length u.second in
    let whole = then-length u in
    moved _ (at + length end + leaf.width * length cs) (at + length bs) (omega arith)
    (parts_reaches rs leaf.width (length cs) (rw (ended end refl) (t.given).0) (later (length end) b) (at + length end) (later_starts (length end) b at s))

string_reaches : (root : Grammar) (env : Env) → (sizing : Sizing) (unit n : ℕ) (b : Bounds) (at : ℕ) (front back : List Bool) → ((m at : ℕ) (bs : List Bool) → SizePart sizing env m at bs → has (sizes_can root sizing) (pos m) ≡ true)
    → Starts b at → SizePart sizing env n at front → length back ≡ unit * n → (bs : List Bool) → length bs ≡ length front + length back → Reaches (parts_reach (sizes_can root sizing) unit (later (rule_width sizing.rule) b)) (at + length bs)
string_reaches root env sizing unit n b at front back can s t l bs whole =
    let w = rule-length sizing.rule env n at front t.spelled in
    moved _ (at + rule_width sizing.rule + unit * n) (at + length bs) (omega arith)
    (parts_reaches (sizes_can root sizing) unit n (can n at front t) (later (rule_width sizing.rule) b) (at + rule_width sizing.rule) (later_starts (rule_width sizing.rule) b at s))

index-length : (root : Grammar) (rule : ChoiceRule) (i at : ℕ) (bs : List Bool) → IndexPart root rule i at bs → length bs ≡ index_width rule
index-length root (Index width) i at bs p = p.width
index-length root Tests i at bs e = ap length e
index-length root (Item s) i at bs e = ap length e

-- sizes of what a pattern or a terminator ends are its own
own_sizes : (root : Grammar) (sizing : Sizing) (p : List Bool) → ending sizing.rule ≡ Some p → sizes_can root sizing ≡ sizing.sizes
own_sizes root sizing p e = by sizing.rule refl
  where
    by : (rule : SizeRule) → sizing.rule ≡ rule → sizes_can root sizing ≡ sizing.sizes
    by (Prefix low width) is = rw is refl
    by (Ended q) is = rw is refl
    by (Slot s) is = (let none = sym (ap ending is) ∙ e in cc)

ended_sizes : (root : Grammar) (leaf : TextLeaf) → IsTrue (text_fine leaf) → (p : List Bool) → leaf.ended ≡ Some p → sizes_can root leaf.sized ≡ leaf.sized.sizes
ended_sizes root leaf fine p e =
    let rules = end_rules leaf p (ap (λ o. end_fine o leaf) (sym e) ∙ (text_rules leaf fine).end) in
    by leaf.sized.rule refl rules.rule
  where
    by : (rule : SizeRule) → leaf.sized.rule ≡ rule → no_size leaf.sized.rule ≡ true → sizes_can root leaf.sized ≡ leaf.sized.sizes
    by (Prefix low width) is n = rw is refl
    by (Ended q) is n = rw is refl
    by (Slot s) is n = (let none = sym (ap no_size is) ∙ n in cc)

module _ (root : Grammar) (mode : Mode) (known_behind : KnownBehind) where
  presence_exact : (fs : Fields) (env : Env) (ps : Places) (at : ℕ) (bs : List Bool) → FieldsPart root mode fs env ps at bs → length (presence_bits fs ps) ≡ presence_count fs
  presence_exact no_fields env no_places at bs t = refl
  presence_exact no_fields env (empty ps) at bs t = absurd t.0
  presence_exact no_fields env (filled d ps) at bs t = absurd t.0
  presence_exact (inserted n g (Some s) fs) env ps at bs t = presence_exact fs env ps (at + length t.front) t.back t.second
  presence_exact (inserted n g None fs) env ps at bs t = presence_exact fs env ps (at + length t.front) t.back t.second
  presence_exact (component n g p def own fs) env no_places at bs t = absurd t.0
  presence_exact (component n g Always def own fs) env (filled d ps) at bs t = presence_exact fs env ps (at + length t.front) t.back t.second
  presence_exact (component n g Always def own fs) env (empty ps) at bs t = absurd t.given
  presence_exact (component n g Bit def own fs) env (filled d ps) at bs t = (let r = presence_exact fs env ps (at + length t.front) t.back t.second in omega arith)
  presence_exact (component n g Bit def own fs) env (empty ps) at bs t = (let r = presence_exact fs env ps at bs t.spelled in omega arith)
  presence_exact (component n g (When ts) def own fs) env (filled d ps) at bs t = presence_exact fs env ps (at + length t.front) t.back t.second
  presence_exact (component n g (When ts) def own fs) env (empty ps) at bs t = presence_exact fs env ps at bs t.spelled

  field_reaches : (k : ℕ) (around : List ℕ) (ks : Known) (s : ℕ) (g : Grammar) → SaysSlot root around ks s g → Sound root k around ks g → (env : Env) (b : Bounds) (at : ℕ) (bs : List Bool) → Starts b at → SlotField root mode g env s at bs → Reaches (reach root g b) (at + length bs)
  field_reaches k around ks s (node a (num l)) says sound env b at bs st t =
      let u = t.2 in
      let p = Padding-length mode a at u.front u.first in
      let whole = then-length u in
      moved (Some (num_reach l (padded a b))) (at + padding a at + length u.back) (at + length bs) (omega arith)
      (code_reaches mode l (last_three sound) t.0 u.back u.second (padded a b) (at + padding a at) (padded_starts a (aligned a (first_three sound)) b at st))
  field_reaches k around ks s (node a _) says sound env b at bs st t = absurd says

  mutual
    node_reaches : (g : Grammar) (k : ℕ) (around : List ℕ) (ks : Known) → Sound root k around ks g → Open root known_behind ks around → (env : Env) → InEnv root around env → (b : Bounds) (at : ℕ) → Starts b at → (d : Data) (bs : List Bool) → Spell root mode g env d at bs → Reaches (reach root g b) (at + length bs)
    node_reaches (node a form) k around ks sound o env e b at s d bs t =
        let p = Padding-length mode a at t.front t.first in
        let whole = then-length t in
        moved (form_reach root form (padded a b)) (at + length t.front + length t.back) (at + length bs) (omega arith)
        (form_reaches form k around ks (last_three sound) o env e (padded a b) (at + length t.front) (subst (λ n. Starts (padded a b) (at + n)) (sym p) (padded_starts a (aligned a (first_three sound)) b at s)) d t.back t.second)

    form_reaches : (form : Form) (k : ℕ) (around : List ℕ) (ks : Known) → FormSound root k around ks form → Open root known_behind ks around → (env : Env) → InEnv root around env → (b : Bounds) (at : ℕ) → Starts b at → (d : Data) (bs : List Bool) → FormPart root mode form env d at bs → Reaches (form_reach root form b) (at + length bs)
    form_reaches (num l) k around ks sound o env e b at s d bs t = code_reaches mode l sound t.0 bs t.2 b at s
    form_reaches (octets z) k around ks sound o env e b at s (octet_string os) bs t =
        string_reaches root env z 8 (length os) b at t.front t.back (size_can root env e.permitted z) s t.first (ap length (t.second).spelled ∙ bits-length os) bs (then-length t)
    form_reaches (bits z) k around ks sound o env e b at s (bit_string cs) bs t =
        string_reaches root env z 1 (length cs) b at t.front t.back (size_can root env e.permitted z) s t.first (let l = ap length t.second in omega arith) bs (then-length t)
    form_reaches (text l) k around ks sound o env e b at s (characters cs) bs t = text_reaches l.ended l env (sizes_can root l.sized) (size_can root env e.permitted l.sized) (ended_sizes root l (first_two sound)) cs b at bs s t
    form_reaches (seq fs home) k around ks sound o env e b at s (record_of ps) bs t =
        let u = t.spelled in
        let n = ap length u.first ∙ presence_exact fs _ ps (at + length u.front) u.back u.second in
        let whole = then-length u in
        moved (fields_reach root fs (later (presence_count fs) b)) (at + length u.front + length u.back) (at + length bs) (omega arith)
        (fields_reaches fs (suc k) (home ++ around) ks (last_two sound) (open_inside root known_behind ks home around o) (with_home home t.numbers env) (in_home root around home t.numbers env (t.fine).count (t.fine).permitted e)
        (later (presence_count fs) b) (at + length u.front) (subst (λ m. Starts (later (presence_count fs) b) (at + m)) (sym n) (later_starts (presence_count fs) b at s)) ps u.back u.second)
    form_reaches (list z g) k around ks sound o env e b at s (list_of es) bs t =
        list_reaches root env (ending z.rule) z (reach root g) (Spell root mode g env) (λ c m d cs q h. node_reaches g (suc k) around ks (last_five sound) o env e c m q d cs h) (sizes_can root z) (size_can root env e.permitted z) (own_sizes root z) es b at bs s t
    form_reaches (choice cases rule) k around ks sound o env e b at s (alt i d) bs t =
        let n = index-length root rule i at t.front t.first in
        let whole = then-length t in
        moved (cases_reach root rule cases (later (index_width rule) b)) (at + length t.front + length t.back) (at + length bs) (omega arith)
        (cases_reaches cases rule (suc k) around ks (last_four sound) o env e (later (index_width rule) b) (at + length t.front) (subst (λ m. Starts (later (index_width rule) b) (at + m)) (sym n) (later_starts (index_width rule) b at s)) i d t.back t.second)
    form_reaches (contained z g) k around ks sound o env e b at s d bs t =
        let u = t.spelled in
        let w = u.second in
        let v = w.inside in
        let n = rule-length z.rule env t.some at u.front (u.first).spelled in
        let inner = node_reaches g (suc k) around ks (last_four sound) o env e (from_to 0 0) 0 (omega arith, omega arith) d v.front v.first in
        let whole = then-length u in
        let parts = then-length v in
        let few = (v.second).few in
        let size = w.size in
        reaches_then (reach root g (from_to 0 0)) (λ c. Some (from_to (b.least + (rule_width z.rule + 8 * octets_for c.least)) (b.greatest + (rule_width z.rule + 8 * octets_for c.greatest)))) (0 + length v.front) (at + length bs) inner
        (λ c q.
        let low = octets_between c.least t.some (length v.front) (omega (arith, q.0)) (omega arith) in
        let high = octets_reach c.greatest t.some (length v.front) (omega (arith, q.1)) (omega arith) in
        (omega (arith, s.0), omega (arith, s.1)))
    form_reaches (octets z) k around ks sound o env e b at s _ bs t = absurd t.0
    form_reaches (bits z) k around ks sound o env e b at s _ bs t = absurd t.0
    form_reaches (text l) k around ks sound o env e b at s _ bs t = absurd t.0
    form_reaches (seq fs home) k around ks sound o env e b at s _ bs t = absurd t.0
    form_reaches (list z g) k around ks sound o env e b at s _ bs t = absurd t.0
    form_reaches (choice cases rule) k around ks sound o env e b at s _ bs t = absurd t.0

    fields_reaches : (fs : Fields) (k : ℕ) (around : List ℕ) (ks : Known) → FieldsSound root k around ks fs → Open root known_behind ks around → (env : Env) → InEnv root around env → (b : Bounds) (at : ℕ) → Starts b at → (ps : Places) (bs : List Bool) → FieldsPart root mode fs env ps at bs → Reaches (fields_reach root fs b) (at + length bs)
    fields_reaches no_fields k around ks sound o env e b at s no_places bs t = (let none = ap length t in (omega (arith, s.0), omega (arith, s.1)))
    fields_reaches no_fields k around ks sound o env e b at s (empty ps) bs t = absurd t.0
    fields_reaches no_fields k around ks sound o env e b at s (filled d ps) bs t = absurd t.0
    fields_reaches (component n g p def own fs) k around ks sound o env e b at s no_places bs t = absurd t.0
    fields_reaches (component n g p def own fs) k around ks sound o env e b at s (filled d ps) bs t =
        let u = t.first in
        let whole = then-length t in
        let there = reaches_where (can_be_there root p) (reach root g b) (at + length t.front) (there_can root env e.permitted p (u.given).0) (node_reaches g k around ks (fourth_five sound) o env e b at s d t.front u.spelled) in
        reaches_then (or_else (where_can (can_be_there root p) (reach root g b)) (where_can (can_be_away root p) (Some b))) (fields_reach root fs) (at + length t.front) (at + length bs)
        (reaches_left (where_can (can_be_there root p) (reach root g b)) (where_can (can_be_away root p) (Some b)) (at + length t.front) there)
        (λ r q. moved (fields_reach root fs r) (at + length t.front + length t.back) (at + length bs) (omega arith)
        (fields_reaches fs k around (choose_known p ks (with_own own (after ks g))) (last_five sound)
        (open_choose root known_behind around p ks (with_own own (after ks g)) o (open_own root known_behind around ks (after ks g) own p g (second_five sound) (open_after root known_behind k around ks g (fourth_five sound) o)))
        env e r (at + length t.front) q ps t.back t.second))
    fields_reaches (component n g p def own fs) k around ks sound o env e b at s (empty ps) bs t =
        let away = reaches_where (can_be_away root p) (Some b) at (away_can root env around ks e o p (first_five sound) t.given) s in
        reaches_then (or_else (where_can (can_be_there root p) (reach root g b)) (where_can (can_be_away root p) (Some b))) (fields_reach root fs) at (at + length bs)
        (reaches_right (where_can (can_be_there root p) (reach root g b)) (where_can (can_be_away root p) (Some b)) at away)
        (λ r q. fields_reaches fs k around (choose_known p ks (with_own own (after ks g))) (last_five sound)
        (open_choose root known_behind around p ks (with_own own (after ks g)) o (open_own root known_behind around ks (after ks g) own p g (second_five sound) (open_after root known_behind k around ks g (fourth_five sound) o)))
        env e r at q ps bs t.spelled)
    fields_reaches (inserted n g (Some u) fs) k around ks sound o env e b at s ps bs t =
        let whole = then-length t in
        reaches_then (reach root g b) (fields_reach root fs) (at + length t.front) (at + length bs) (field_reaches k around ks u g (first_four sound) (third_four sound) env b at t.front s t.first)
        (λ r q. moved (fields_reach root fs r) (at + length t.front + length t.back) (at + length bs) (omega arith)
        (fields_reaches fs k around (with_slot u ks) (last_four sound) (open_slot root known_behind around ks u (says_open root known_behind around ks u g (first_four sound)) o) env e r (at + length t.front) q ps t.back t.second))
    fields_reaches (inserted n g None fs) k around ks sound o env e b at s ps bs t =
        let whole = then-length t in
        reaches_then (reach root g b) (fields_reach root fs) (at + length t.front) (at + length bs) (node_reaches g k around ks (second_three sound) o env e b at s null t.front t.first)
        (λ r q. moved (fields_reach root fs r) (at + length t.front + length t.back) (at + length bs) (omega arith)
        (fields_reaches fs k around ks (last_three sound) o env e r (at + length t.front) q ps t.back t.second))

    cases_reaches : (cases : Alternatives) (rule : ChoiceRule) (k : ℕ) (around : List ℕ) (ks : Known) → AlternativesSound root k around ks cases → Open root known_behind ks around → (env : Env) → InEnv root around env → (b : Bounds) (at : ℕ) → Starts b at → (i : ℕ) (d : Data) (bs : List Bool) → AlternativePart root mode cases rule env i d at bs → Reaches (cases_reach root rule cases b) (at + length bs)
    cases_reaches no_alternatives rule k around ks sound o env e b at s i d bs t = absurd t.0
    cases_reaches (alternative n g ts more) rule k around ks sound o env e b at s zero d bs t =
        reaches_left (where_can (can_be_chosen root rule n ts) (reach root g b)) (cases_reach root rule more b) (at + length bs)
        (reaches_where (can_be_chosen root rule n ts) (reach root g b) (at + length bs) (chosen_can root env e.permitted rule n ts t.given) (node_reaches g k around ks (second_three sound) o env e b at s d bs t.spelled))
    cases_reaches (alternative n g ts more) rule k around ks sound o env e b at s (suc i) d bs t =
        reaches_right (where_can (can_be_chosen root rule n ts) (reach root g b)) (cases_reach root rule more b) (at + length bs)
        (cases_reaches more rule k around ks (last_three sound) o env e b at s i d bs t)

pub spellings_lie_within_reach : AcceptedIsSound → KnownBehind → SpellingsLieWithinReach
spellings_lie_within_reach sound behind root mode d bs accepted t =
    moved (reach root root (from_to 0 0)) (0 + length bs) (length bs) (omega arith) (node_reaches root mode behind root 0 [] (λ s. false) (sound root accepted) (λ s e. cc) [] (record { permitted = tt; have = λ s e. cc }) (from_to 0 0) 0 (omega arith, omega arith) d bs t)
