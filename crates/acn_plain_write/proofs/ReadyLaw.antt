-- A value that can be written is ready to be written, part by part, where its asks were heard.
use Rattle.std.proofs.Common.{◌≡◌, ℕ, zero, suc, ◌+◌, ◌-◌, ◌*◌, ◌^◌, ◌<◌, ◌≤◌, pos, Bool, true, false, List, [], ◌∷◌, ◌++◌, length, Option, Some, None, refl, sym, ap, ◌∙◌, subst, arith, append_assoc, append-nil, length-append, nat_eq}
use Rattle.std.proofs.lemmas.Bool.Decides.{nat_tests}
use Rattle.std.proofs.lemmas.Bool.{or_left, or_right, and_parts}
use Rattle.std.specs.Prelude.{if◌then◌else◌}
use Rattle.std.specs.List.{AllByRecursion}
use Rattle.acn_num.specs.Bits.{octets as octets_for, IsNumber}
use Rattle.acn_num.specs.Ranges.{In}
use Rattle.acn_num.specs.declared.limits.TheConstants.{MOST_STEPS}
use Rattle.acn_num.proofs.BitLists.{number_below}
use Rattle.acn_asks.specs.Heard.{Hears}
use Rattle.acn_asks.specs.Judged.{Judged}
use Rattle.acn_asks.specs.declared.asked.Asked.{Asked}
use Rattle.acn_grammar.specs.Asks.{moments, field_path}
use Rattle.acn_grammar.specs.Code.{Written, NumberOf}
use Rattle.acn_grammar.specs.Env.{Env}
use Rattle.acn_grammar.specs.Grammar.{Grammar, Form, Fields, Alternatives, Data, Places, Elements, node, num, octets, bits, text, seq, list, choice, contained, no_fields, component, inserted, no_alternatives, alternative, null, octet_string, bit_string, characters, record_of, list_of, alt, no_places, empty, filled, no_elements, element, element_count}
use Rattle.acn_grammar.specs.Leaves.{sizes_fine, rule_fine, list_rule_fine, end_fine, no_size}
use Rattle.acn_grammar.specs.Length.{bit_length, ending}
use Rattle.acn_grammar.specs.Meets.{Why, at_path, text_breach, form_breaches}
use Rattle.acn_grammar.specs.PartAt.{Occurrence, occurrence, part_at, field_part, alternative_part, element_part}
use Rattle.acn_grammar.specs.Scoped.{Known, after, choose_known, with_own, with_slot}
use Rattle.acn_grammar.specs.Slots.{domain_of}
use Rattle.acn_grammar.specs.Sound.{Sound, FormSound, FieldsSound, AlternativesSound, IsNull}
use Rattle.acn_grammar.specs.Spell.{Part, ◌then◌, RulePart, SizePart, EndedPart, RunPart, ListPart, IndexPart, AlternativePart, Spell, FormPart, FieldsPart, SlotField, with_home}
use Rattle.acn_grammar.specs.Tree.{holds, is_align}
use Rattle.acn_grammar.specs.declared.node.ChoiceRule.{ChoiceRule}
use Rattle.acn_grammar.specs.declared.node.ChoiceRule.TheVariants.{Index, Tests, Item}
use Rattle.acn_grammar.specs.declared.node.NumKind.{NumKind}
use Rattle.acn_grammar.specs.declared.node.NumKind.TheVariants.{Integer, Boolean, Enumerated, Null}
use Rattle.acn_grammar.specs.declared.node.SizeRule.{SizeRule}
use Rattle.acn_grammar.specs.declared.node.SizeRule.TheVariants.{Prefix, Slot, Ended}
use Rattle.acn_grammar.specs.declared.node.Sizing.{Sizing}
use Rattle.acn_grammar.specs.declared.node.TextLeaf.{TextLeaf}
use Rattle.acn_grammar.proofs.SlotLists.{same_eq}
use Rattle.acn_grammar.proofs.SpellLength.{NumberOf-number_of, then-length}
use Rattle.acn_grammar.proofs.TextRules.{size_few, text_rules}
use Rattle.acn_lengths.specs.Measured.{CanMeasure, CanMeasureForm, CanMeasureFields, CanMeasureEach, CanMeasureCase}
use Rattle.acn_packet_laws.specs.Laws.{IsAccepted, EachOccurrenceAsks, EachLengthIsTold, EachPathHasItsNumber, PartsAreOfNodes, SpellingsHaveNoBreach, TellsSlots, ValuesAreOfNodes}
use Rattle.acn_text.specs.Texts.{SlotSays, given_size}
use Rattle.acn_plain_write.specs.Ready.{RuleReady, SizeReady, CountReady, IndexReady, KindReady, InsertedReady, RunReady, IsHeard, Ready, FormReady, FieldsReady, CaseReady}

-- The parts of tuples whose types are definitions by cases.

first_two : {A B : Type 0} → A × B → A
first_two p = p.0

last_two : {A B : Type 0} → A × B → B
last_two p = p.1

first_three : {A B C : Type 0} → A × B × C → A
first_three p = p.0

second_three : {A B C : Type 0} → A × B × C → B
second_three p = p.1

last_three : {A B C : Type 0} → A × B × C → C
last_three p = p.2

first_four : {A B C D : Type 0} → A × B × C × D → A
first_four p = p.0

third_four : {A B C D : Type 0} → A × B × C × D → C
third_four p = p.2

last_four : {A B C D : Type 0} → A × B × C × D → D
last_four p = p.3

first_five : {A B C D E : Type 0} → A × B × C × D × E → A
first_five p = p.0

fourth_five : {A B C D E : Type 0} → A × B × C × D × E → D
fourth_five p = p.3

last_five : {A B C D E : Type 0} → A × B × C × D × E → E
last_five p = p.4

some_align : (n : ℕ) → is_align n ≡ true → 0 < n
some_align zero h = cc
some_align (suc n) h = omega arith

truth : {F : Type 0} (b : Bool) → (b ≡ true → F) → (b ≡ false → F) → F
truth true f g = f refl
truth false f g = g refl

if_yes : {A : Type 0} (b : Bool) (x y : A) → b ≡ true → (if b then x else y) ≡ x
if_yes true x y h = refl
if_yes false x y h = cc

if_no : {A : Type 0} (b : Bool) (x y : A) → b ≡ false → (if b then x else y) ≡ y
if_no true x y h = cc
if_no false x y h = refl

differs : (m i : ℕ) → suc i ≤ m → nat_eq m i ≡ false
differs m i h = grind (arith, nat_tests)

no_why : (path : List ℕ) (ws : List Why) → at_path path ws ≡ [] → ws ≡ []
no_why path [] e = refl
no_why path (w ∷ ws) e = cc

-- Sizes.

fits_width : (width n : ℕ) (bs : List Bool) → IsNumber width n bs → n < 2 ^ width
fits_width width n bs s = subst (λ w. n < 2 ^ w) s.width (subst (λ m. m < 2 ^ length bs) s.value (number_below bs))

rule_ready : (rule : SizeRule) (env : Env) (n at : ℕ) (bs : List Bool) → RulePart rule env n at bs → RuleReady rule env n
rule_ready (Prefix low width) env n at bs s = (s.given, fits_width width (n - low) bs s.spelled)
rule_ready (Slot t) env n at bs s = s.0
rule_ready (Ended p) env n at bs s = s.0

size_ready : (sizing : Sizing) (env : Env) (n at : ℕ) (bs : List Bool) → SizePart sizing env n at bs → SizeReady sizing env n
size_ready sizing env n at bs s = (s.given, rule_ready sizing.rule env n at bs s.spelled)

index_ready : (root : Grammar) (rule : ChoiceRule) (i at : ℕ) (bs : List Bool) → IndexPart root rule i at bs → IndexReady rule i
index_ready root (Index width) i at bs s = fits_width width i bs s
index_ready root Tests i at bs s = tt
index_ready root (Item t) i at bs s = tt

says_size : (rule : SizeRule) (env : Env) (n : ℕ) → RuleReady rule env n → SlotSays rule (given_size rule n) env
says_size (Prefix low width) env n r = tt
says_size (Slot t) env n r = (n, refl, r)
says_size (Ended p) env n r = tt

no_slot : (rule : SizeRule) (env : Env) (n : ℕ) → no_size rule ≡ true → SlotSays rule (given_size rule n) env
no_slot (Prefix low width) env n h = tt
no_slot (Slot t) env n h = cc
no_slot (Ended p) env n h = tt

text_says : (end : Option (List Bool)) (leaf : TextLeaf) (env : Env) (cs : List ℕ) (at : ℕ) (bs : List Bool) → end_fine end leaf ≡ true → EndedPart end leaf env cs at bs → SlotSays leaf.sized.rule (given_size leaf.sized.rule (length cs)) env
text_says None leaf env cs at bs f t = says_size leaf.sized.rule env (length cs) (size_ready leaf.sized env (length cs) at t.front t.first).1
text_says (Some end) leaf env cs at bs f t = no_slot leaf.sized.rule env (length cs) (and_parts (no_size leaf.sized.rule) _ f).0

count_ready : (end : Option (List Bool)) (sizing : Sizing) (env : Env) (each : Data → Part) (es : Elements) (at : ℕ) (bs : List Bool) → ListPart end sizing env each es at bs → CountReady end sizing env (element_count es)
count_ready None sizing env each es at bs t = size_ready sizing env (element_count es) at t.front t.first
count_ready (Some p) sizing env each es at bs t = t.given

count_in : (end : Option (List Bool)) (sizing : Sizing) (env : Env) (n : ℕ) → CountReady end sizing env n → In sizing.sizes (pos n)
count_in None sizing env n c = c.0
count_in (Some p) sizing env n c = c

run_of : (end : Option (List Bool)) (sizing : Sizing) (env : Env) (each : Data → Part) (es : Elements) (at : ℕ) (bs : List Bool) → ListPart end sizing env each es at bs → (at' : ℕ) × (bs' : List Bool) × RunPart each es at' bs'
run_of None sizing env each es at bs t = (at + length t.front, t.back, t.second)
run_of (Some p) sizing env each es at bs t = (at, (t.spelled).front, (t.spelled).first)

-- the octets of contents are the fewest
octet_count : (n used fill long : ℕ) → used + fill ≡ 8 * n → fill < 8 → used ≡ long → n ≡ octets_for long
octet_count n used fill long e h is = omega (arith, e, h, is)

longer : (p : List ℕ) (j k : ℕ) → length p ≡ k → length (p ++ j ∷ []) ≡ suc k
longer p j k l = omega (arith, l, length-append p (j ∷ []))

longer' : (p : List ℕ) (j k : ℕ) → suc (length p) ≡ k → length (p ++ j ∷ []) ≡ k
longer' p j k l = omega (arith, l, length-append p (j ∷ []))

-- Inserted fields.

null_zero : (kind : NumKind) → kind ≡ Null → KindReady None kind
null_zero Null e = refl
null_zero Integer e = cc
null_zero Boolean e = cc
null_zero Enumerated e = cc

all_holding : (P : ℕ → Type 0) (home : List ℕ) → ((s : ℕ) → holds home s ≡ true → P s) → AllByRecursion P home
all_holding P [] h = tt
all_holding P (s ∷ home) h = (h s (or_left (nat_eq s s) (holds home s) (same_eq s)), all_holding P home (λ t q. h t (or_right (nat_eq s t) (holds home t) q)))

module _ (root : Grammar) (accepted : IsAccepted root) (whole : Data) (heard : List (List ℕ × Asked)) (slot_at : List ℕ → Option ℕ) (tells : TellsSlots root slot_at) (judged : Judged root slot_at (moments root root [] [] whole) heard)
    (occurs : EachOccurrenceAsks) (lengths : EachLengthIsTold) (numbered : EachPathHasItsNumber) (of_nodes : PartsAreOfNodes) (led : ValuesAreOfNodes) (unbroken : SpellingsHaveNoBreach) where
  slot_ready : (g : Grammar) (k : ℕ) (around : List ℕ) (ks : Known) → Sound root k around ks g → (env : Env) (s at : ℕ) (bs : List Bool) → SlotField root Written g env s at bs → InsertedReady (Some s) g env
  slot_ready (node align (num leaf)) k around ks sound env s at bs t = (some_align align (first_three sound), last_three sound, tt, (t.0, t.1, ((t.2).second).permitted))
  slot_ready (node align _) k around ks sound env s at bs t = absurd t.0

  null_ready : (g : Grammar) (k : ℕ) (around : List ℕ) (ks : Known) → Sound root k around ks g → IsNull g → (env : Env) (at : ℕ) (bs : List Bool) → Spell root Written g env null at bs → InsertedReady None g env
  null_ready (node align (num leaf)) k around ks sound n env at bs t =
      (some_align align (first_three sound), last_three sound, null_zero leaf.kind n, ((t.second).0, NumberOf-number_of leaf.kind null (t.second).0 (t.second).1, ((t.second).2).permitted))
  null_ready (node align _) k around ks sound n env at bs t = absurd n

  -- the part of the value at a path
  abbrev Stands : List ℕ → (List ℕ → Option Occurrence) → Type 0
  Stands p find = (r : List ℕ) (o : Occurrence) → find r ≡ Some o → part_at root whole (p ++ r) ≡ Some o

  deeper : (p : List ℕ) (k : ℕ) (find : List ℕ → Option Occurrence) → ((r : List ℕ) (o : Occurrence) → find r ≡ Some o → part_at root whole (p ++ k ∷ r) ≡ Some o) → Stands (p ++ k ∷ []) find
  deeper p k find h r o e = ap (part_at root whole) (append_assoc p (k ∷ []) r) ∙ h r o e

  here : (p : List ℕ) (g : Grammar) (d : Data) → Stands p (part_at g d) → part_at g d [] ≡ Some (occurrence g d) → part_at root whole p ≡ Some (occurrence g d)
  here p g d s e = ap (part_at root whole) (sym (append-nil p)) ∙ s [] (occurrence g d) e

  long : (p : List ℕ) (g : Grammar) (d : Data) → part_at root whole p ≡ Some (occurrence g d) → (env : Env) (bs : List Bool) → Spell root Written g env d 0 bs → length bs ≡ bit_length g 0 d
  long p g d e env bs t =
      let at = led root p g (of_nodes root whole p g d e) in
      let r = numbered root at.0 g at.1 in
      subst (λ (x : Grammar). Spell root Written x env d 0 bs → length bs ≡ bit_length x 0 d) r.node_is (λ u. lengths root r.number r.here Written env d 0 bs accepted r.stands u) t

  whole_here : (g : Grammar) (d : Data) → part_at g d [] ≡ Some (occurrence g d)
  whole_here (node align form) d = refl

  run_ready : (g : Grammar) (p : List ℕ) (env : Env)
      → ((j : ℕ) (d : Data) → Stands (p ++ j ∷ []) (part_at g d) → CanMeasure g d → (at : ℕ) (bs : List Bool) → Spell root Written g env d at bs → Ready root heard g env (p ++ j ∷ []) d)
      → (k : ℕ) (es : Elements) → ((m : ℕ) (r : List ℕ) (o : Occurrence) → k ≤ m → element_part (λ d. part_at g d r) k es m ≡ Some o → part_at root whole (p ++ m ∷ r) ≡ Some o)
      → CanMeasureEach (CanMeasure g) es → (at : ℕ) (bs : List Bool) → RunPart (Spell root Written g env) es at bs → RunReady (λ j d. Ready root heard g env (p ++ j ∷ []) d) k es
  run_ready g p env one k no_elements s m at bs t = tt
  run_ready g p env one k (element d es) s m at bs t = (
    one k d (deeper p k (part_at g d) (λ r o e. s k r o (omega arith) (if_yes (nat_eq k k) (part_at g d r) (element_part (λ d'. part_at g d' r) (suc k) es k) (same_eq k) ∙ e))) m.0 at t.front t.first,
    run_ready g p env one (suc k) es (λ j r o l e. s j r o (omega arith) (if_no (nat_eq j k) (part_at g d r) (element_part (λ d'. part_at g d' r) (suc k) es j) (differs j k l) ∙ e)) m.1 (at + length t.front) t.back t.second,
  )

  mutual
    pub ready_node : (g : Grammar) (k : ℕ) (around : List ℕ) (ks : Known) → Sound root k around ks g → (p : List ℕ) → length p ≡ k → (d : Data) → Stands p (part_at g d) → CanMeasure g d → (env : Env) (at : ℕ) (bs : List Bool) → Spell root Written g env d at bs → Ready root heard g env p d
    ready_node (node align form) k around ks sound p l d s m env at bs t = (
      some_align align (first_three sound),
      subst (λ n. n ≤ MOST_STEPS) (sym l) (second_three sound),
      ready_form form align k around ks (last_three sound) p l d s (last_two m) (unbroken root (node align form) Written p env d at bs t) env (at + length t.front) t.back t.second,
    )

    ready_form : (form : Form) (align k : ℕ) (around : List ℕ) (ks : Known) → FormSound root k around ks form → (p : List ℕ) → length p ≡ k → (d : Data) → Stands p (part_at (node align form) d) → CanMeasureForm form d → form_breaches p form d ≡ [] → (env : Env) (at : ℕ) (bs : List Bool) → FormPart root Written form env d at bs
        → FormReady root heard form env p d
    ready_form (num leaf) align k around ks sound p l d s m none env at bs t =
        let e = NumberOf-number_of leaf.kind d t.0 t.1 in
        (sound, subst (λ x. NumberOf leaf.kind d x) e t.1, subst (λ x. In leaf.set x) e (t.2).permitted)
    ready_form (octets sizing) align k around ks sound p l (octet_string os) s m none env at bs t = (size_ready sizing env (length os) at t.front t.first, (t.second).given)
    ready_form (bits sizing) align k around ks sound p l (bit_string xs) s m none env at bs t = size_ready sizing env (length xs) at t.front t.first
    ready_form (text leaf) align k around ks sound p l (characters cs) s m none env at bs t =
        (first_two sound, no_why p (text_breach leaf cs) none, text_says leaf.ended leaf env cs at bs (text_rules leaf (first_two sound)).end t)
    ready_form (seq fields home) align k around ks sound p l (record_of ps) s m none env at bs t =
        let stands = here p (node align (seq fields home)) (record_of ps) s refl in (
          t.numbers,
          record {
            sound = record { depth = k; around = around; known = ks; sound = sound };
            count = (t.fine).count;
            least = (t.fine).least refl;
            told = all_holding (IsHeard root heard p fields home ps) home (λ r h. subst (λ w. Hears (domain_of root r) w heard (field_path p fields r)) (occurs root whole (record_of ps) p home align r fields accepted.formed stands h) (judged.hears (field_path p fields r) r (tells.at_home whole (record_of ps) p home align r fields stands h)));
          },
          ready_fields fields (suc k) (home ++ around) ks (last_two sound) p (ap suc l) 0 ps (λ j r o e q. s (j ∷ r) o q) m (with_home home t.numbers env) (at + length (t.spelled).front) (t.spelled).back (t.spelled).second,
        )
    ready_form (list sizing g) align k around ks sound p l (list_of es) s m none env at bs t =
        let c = count_ready (ending sizing.rule) sizing env (Spell root Written g env) es at bs t in
        let r = run_of (ending sizing.rule) sizing env (Spell root Written g env) es at bs t in (
          size_few sizing.sizes (element_count es) (and_parts (sizes_fine sizing.sizes) (list_rule_fine (ending sizing.rule) sizing) (first_five sound)).0 (count_in (ending sizing.rule) sizing env (element_count es) c),
          c,
          run_ready g p env (λ j d s' m' at' bs' t'. ready_node g (suc k) around ks (last_five sound) (p ++ j ∷ []) (longer p j k l) d s' m' env at' bs' t') 0 es (λ j r' o e q. s (j ∷ r') o q) m r.0 r.1 r.2,
        )
    ready_form (choice cases rule) align k around ks sound p l (alt i d) s m none env at bs t = (
      index_ready root rule i at t.front t.first,
      ready_case cases rule (suc k) around ks (last_four sound) p (ap suc l) i i d (deeper p i (alternative_part cases i d) (λ r o e. s (i ∷ r) o (if_yes (nat_eq i i) (alternative_part cases i d r) None (same_eq i) ∙ e))) m env (at + length t.front) t.back t.second,
    )
    ready_form (contained sizing g) align k around ks sound p l d s m none env at bs t =
        let w = (t.spelled).second in
        let inside = w.inside in
        let stands = deeper p 0 (part_at g d) (λ r o e. s (0 ∷ r) o e) in
        let told = long (p ++ 0 ∷ []) g d (here (p ++ 0 ∷ []) g d stands (whole_here g d)) env in
        let is = told inside.front inside.first in
        let size = size_ready sizing env t.some at (t.spelled).front (t.spelled).first in
        let same : t.some ≡ octets_for (bit_length g 0 d) = octet_count t.some (length inside.front) (length inside.back) (bit_length g 0 d) (sym (then-length inside) ∙ w.size) (inside.second).few is in (
          size_few sizing.sizes (octets_for (bit_length g 0 d)) (and_parts (sizes_fine sizing.sizes) (rule_fine sizing.sizes sizing.rule) (first_four sound)).0 (subst (λ n. In sizing.sizes (pos n)) same size.0),
          subst (SizeReady sizing env) same size,
          m,
          told,
          ready_node g (suc k) around ks (last_four sound) (p ++ 0 ∷ []) (longer p 0 k l) d stands m env 0 inside.front inside.first,
        )
    ready_form (octets sizing) align k around ks sound p l _ s m none env at bs t = absurd t.0
    ready_form (bits sizing) align k around ks sound p l _ s m none env at bs t = absurd t.0
    ready_form (text leaf) align k around ks sound p l _ s m none env at bs t = absurd t.0
    ready_form (seq _ home) align k around ks sound p l _ s m none env at bs t = absurd t.0
    ready_form (list sizing g) align k around ks sound p l _ s m none env at bs t = absurd t.0
    ready_form (choice cases rule) align k around ks sound p l _ s m none env at bs t = absurd t.0

    ready_fields : (fs : Fields) (k : ℕ) (around : List ℕ) (ks : Known) → FieldsSound root k around ks fs → (p : List ℕ) → suc (length p) ≡ k → (i : ℕ) (ps : Places) → ((m : ℕ) (r : List ℕ) (o : Occurrence) → i ≤ m → field_part fs i ps m r ≡ Some o → part_at root whole (p ++ m ∷ r) ≡ Some o) → CanMeasureFields fs ps
        → (env : Env) (at : ℕ) (bs : List Bool) → FieldsPart root Written fs env ps at bs → FieldsReady root heard fs env p i ps
    ready_fields no_fields k around ks sound p l i no_places s m env at bs t = tt
    ready_fields (component name g presence default o fs) k around ks sound p l i (filled d ps) s m env at bs t = (
      (t.first).given,
      ready_node g k around ks (fourth_five sound) (p ++ i ∷ []) (longer' p i k l) d (deeper p i (part_at g d) (λ r q e. s i r q (omega arith) (if_yes (nat_eq i i) (part_at g d r) (field_part fs (suc i) ps i r) (same_eq i) ∙ e))) m.0 env at t.front (t.first).spelled,
      ready_fields fs k around (choose_known presence ks (with_own o (after ks g))) (last_five sound) p l (suc i) ps (λ j r q h e. s j r q (omega arith) (if_no (nat_eq j i) (part_at g d r) (field_part fs (suc i) ps j r) (differs j i h) ∙ e)) m.1 env (at + length t.front) t.back t.second,
    )
    ready_fields (component name g presence default o fs) k around ks sound p l i (empty ps) s m env at bs t = (
      t.given,
      ready_fields fs k around (choose_known presence ks (with_own o (after ks g))) (last_five sound) p l (suc i) ps (λ j r q h e. s j r q (omega arith) (if_no (nat_eq j i) None (field_part fs (suc i) ps j r) (differs j i h) ∙ e)) m env at bs t.spelled,
    )
    ready_fields (inserted name g (Some r) fs) k around ks sound p l i ps s m env at bs t = (
      slot_ready g k around ks (third_four sound) env r at t.front t.first,
      ready_fields fs k around (with_slot r ks) (last_four sound) p l (suc i) ps (λ j q o h e. s j q o (omega arith) (if_no (nat_eq j i) None (field_part fs (suc i) ps j q) (differs j i h) ∙ e)) m.1 env (at + length t.front) t.back t.second,
    )
    ready_fields (inserted name g None fs) k around ks sound p l i ps s m env at bs t = (
      null_ready g k around ks (second_three sound) (first_three sound) env at t.front t.first,
      ready_fields fs k around ks (last_three sound) p l (suc i) ps (λ j q o h e. s j q o (omega arith) (if_no (nat_eq j i) None (field_part fs (suc i) ps j q) (differs j i h) ∙ e)) m.1 env (at + length t.front) t.back t.second,
    )
    ready_fields no_fields k around ks sound p l i _ s m env at bs t = absurd t.0
    ready_fields (component name g presence default o fs) k around ks sound p l i no_places s m env at bs t = absurd t.0

    ready_case : (cases : Alternatives) (rule : ChoiceRule) (k : ℕ) (around : List ℕ) (ks : Known) → AlternativesSound root k around ks cases → (p : List ℕ) → suc (length p) ≡ k → (i j : ℕ) (d : Data) → Stands (p ++ i ∷ []) (alternative_part cases j d) → CanMeasureCase cases j d
        → (env : Env) (at : ℕ) (bs : List Bool) → AlternativePart root Written cases rule env j d at bs → CaseReady root heard cases rule env p i j d
    ready_case no_alternatives rule k around ks sound p l i j d s m env at bs t = absurd t.0
    ready_case (alternative name g tests more) rule k around ks sound p l i zero d s m env at bs t = (t.given, ready_node g k around ks (second_three sound) (p ++ i ∷ []) (longer' p i k l) d s m env at bs t.spelled)
    ready_case (alternative name g tests more) rule k around ks sound p l i (suc j) d s m env at bs t = ready_case more rule k around ks (last_three sound) p l i j d s m env at bs t
