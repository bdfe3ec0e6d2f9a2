-- A value that is refused has no spelling: what its walk asks is met by the numbers that it is spelled with.
use Rattle.std.proofs.Common.{◌≡◌, ℕ, zero, suc, ◌+◌, ◌≤◌, ℤ, pos, Bool, true, false, List, [], ◌∷◌, ◌++◌, length, map, Option, Some, None, refl, sym, ap, ◌∙◌, arith, append_assoc, append-nil, subst, nat_eq}
use Rattle.std.specs.List.{AllByRecursion}
use Rattle.std.proofs.lemmas.Grind.{flat_map-append}
use Rattle.acn_num.specs.Bits.{octets as octets_for}
use Rattle.acn_num.specs.Ranges.{In}
use Rattle.acn_grammar.specs.Asks.{Ask, Moment, asks, counts, FieldPaths, field_of, field_path, with_fields, test_asks, presence_asks, size_asks, own_asks, rule_asks, run_moments, moments, form_moments, fields_moments, alternative_moments, same_name}
use Rattle.acn_grammar.specs.AsksOn.{MeetsAsk, form_asks_on}
use Rattle.acn_grammar.specs.Code.{Mode}
use Rattle.acn_grammar.specs.Env.{Env}
use Rattle.acn_grammar.specs.Grammar.{Grammar, Form, Fields, Alternatives, Data, Places, Elements, node, num, octets, bits, text, seq, list, choice, contained, no_fields, component, inserted, no_alternatives, alternative, octet_string, bit_string, characters, record_of, list_of, alt, no_places, empty, filled, no_elements, element, element_count}
use Rattle.acn_grammar.specs.Length.{bit_length, ending}
use Rattle.acn_grammar.specs.Meets.{Unfit, breach, breaches, first_of}
use Rattle.acn_grammar.specs.PartAt.{Occurrence, occurrence, part_at, field_part, alternative_part, element_part}
use Rattle.acn_grammar.specs.Refused.{of_field, asks_of, CanBeMet, RefusedAfter}
use Rattle.acn_grammar.specs.Slots.{domain_of}
use Rattle.acn_grammar.specs.Spell.{Part, Spell, FormPart, FieldsPart, AlternativePart, RunPart, ListPart, with_home}
use Rattle.acn_grammar.specs.Tree.{IsTree, holds}
use Rattle.acn_grammar.specs.declared.node.ChoiceRule.{ChoiceRule}
use Rattle.acn_grammar.specs.declared.node.ChoiceRule.TheVariants.{Index, Tests, Item}
use Rattle.acn_grammar.specs.declared.node.Presence.{Presence}
use Rattle.acn_grammar.specs.declared.node.Presence.TheVariants.{Always, Bit, When}
use Rattle.acn_grammar.specs.declared.node.Sizing.{Sizing}
use Rattle.acn_grammar.specs.declared.node.SizeRule.{SizeRule}
use Rattle.acn_grammar.specs.declared.node.SizeRule.TheVariants.{Prefix, Slot, Ended}
use Rattle.acn_grammar.specs.declared.node.Test.{Test}
use Rattle.acn_grammar.specs.declared.node.Test.TheVariants.{Flag, Equals}
use Rattle.acn_grammar.proofs.SpellLength.{Steady, SteadyForm, SteadyFields, SteadyAlternatives}
use Rattle.acn_packet_laws.specs.Laws.{RefusedIsNotSpelled}
use Rattle.acn_packet_laws.proofs.Homes.{truth}
use Rattle.acn_packet_laws.proofs.Answering.{at_home, fields_met}
use Rattle.acn_packet_laws.proofs.AskHomes.{FormHomes, NodeHomes, FieldsHomes, CasesHomes, tree_homes, differs, if_yes, if_no}
use Rattle.acn_packet_laws.proofs.Contents.{content_octets}
use Rattle.acn_packet_laws.proofs.Lengths.{root_steady}
use Rattle.acn_packet_laws.proofs.Occurrences.{field_in, field_out, each_occurrence_asks}
use Rattle.acn_packet_laws.proofs.Placed.{holds_either}
use Rattle.acn_packet_laws.proofs.Unbreached.{unbreached}
use Rattle.acn_packet_laws.proofs.Used.{each_left, each_right, each_both, TestFits, TestsFit, PresenceFits, CaseFits, RuleFits, OwnFits, ChoiceFits, NodeUsed, FormUsed, FieldsUsed, CasesUsed, accepted_used}
use Rattle.acn_grammar.proofs.Characters.{same_name-refl}
use Rattle.acn_packet_laws.proofs.Tuples.{first_four, first_three, first_two, last_four, last_three, last_two, second_four, second_three, third_four}
use Rattle.acn_grammar.proofs.SlotLists.{same_eq}

-- The asks of a field and of the slot whose field it is come from one occurrence of the slot's home, and one number meets them all.
pub record Origin (root : Grammar) (whole : Data) (t : ℕ) (field : List ℕ) : Type 0 where
  pub path : List ℕ
  pub align : ℕ
  pub fields : Fields
  pub home : List ℕ
  pub part : Data
  pub stands : part_at root whole path ≡ Some (occurrence (node align (seq fields home)) part)
  pub mine : holds home t ≡ true
  pub leads : field ≡ field_path path fields t
  pub number : ℤ
  pub permitted : In (domain_of root t) number
  pub meets : AllByRecursion (MeetsAsk number) (form_asks_on root t (seq fields home) part)

module _ (root : Grammar) (tree : IsTree root) (mode : Mode) (whole : Data) where
  abbrev pub Good : Moment → Type 0
  Good (asks path field t a) = Origin root whole t field
  Good (counts path n sizing) = In sizing.sizes (pos n)

  abbrev AllGood : List Moment → Type 0
  AllGood ms = AllByRecursion Good ms

  -- the slots at home round a place
  abbrev Outer : List ℕ → FieldPaths → Type 0
  Outer around paths = (t : ℕ) → holds around t ≡ true → Origin root whole t (field_of paths t)

  -- what stands in a part stands in the whole
  abbrev Stands : List ℕ → (List ℕ → Option Occurrence) → Type 0
  Stands p find = (r : List ℕ) (o : Occurrence) → find r ≡ Some o → part_at root whole (p ++ r) ≡ Some o

  deeper : (p : List ℕ) (k : ℕ) (find : List ℕ → Option Occurrence) → ((r : List ℕ) (o : Occurrence) → find r ≡ Some o → part_at root whole (p ++ k ∷ r) ≡ Some o) → Stands (p ++ k ∷ []) find
  deeper p k find h r o e = ap (part_at root whole) (append_assoc p (k ∷ []) r) ∙ h r o e

  good_test : (around : List ℕ) (paths : FieldPaths) → Outer around paths → (path : List ℕ) (there : Bool) (t : Test) → TestFits root around t → Good (test_asks paths path there t)
  good_test around paths outer path true (Flag t) f = outer t f.0
  good_test around paths outer path false (Flag t) f = outer t f.0
  good_test around paths outer path true (Equals t k) f = outer t f
  good_test around paths outer path false (Equals t k) f = outer t f

  good_tests : (around : List ℕ) (paths : FieldPaths) → Outer around paths → (path : List ℕ) (there : Bool) (ts : List Test) → TestsFit root around ts → AllGood (map (test_asks paths path there) ts)
  good_tests around paths outer path there [] f = tt
  good_tests around paths outer path there (t ∷ ts) f = (good_test around paths outer path there t f.0, good_tests around paths outer path there ts f.1)

  good_presence : (around : List ℕ) (paths : FieldPaths) → Outer around paths → (path : List ℕ) (there : Bool) (presence : Presence) → PresenceFits root around presence → AllGood (presence_asks paths path there presence)
  good_presence around paths outer path there Always f = tt
  good_presence around paths outer path there Bit f = tt
  good_presence around paths outer path there (When ts) f = good_tests around paths outer path there ts f.1

  good_size : (around : List ℕ) (paths : FieldPaths) → Outer around paths → (path : List ℕ) (n : ℕ) (rule : SizeRule) → RuleFits root around rule → AllGood (size_asks paths path n rule)
  good_size around paths outer path n (Slot t) f = (outer t f, tt)
  good_size around paths outer path n (Prefix low width) f = tt
  good_size around paths outer path n (Ended p) f = tt

  good_own : (around : List ℕ) (paths : FieldPaths) → Outer around paths → (path : List ℕ) (o : Option ℕ) (d : Data) → OwnFits root around o → AllGood (own_asks paths path o d)
  good_own around paths outer path None d f = tt
  good_own around paths outer path (Some t) d f = (outer t f, tt)

  good_rule : (around : List ℕ) (paths : FieldPaths) → Outer around paths → (path : List ℕ) (i : ℕ) (rule : ChoiceRule) (name : List ℕ) (tests : List Test) → ChoiceFits root around rule → CaseFits root around rule tests → AllGood (rule_asks root paths path i rule name tests)
  good_rule around paths outer path i (Item t) name tests c f = (outer t c, tt)
  good_rule around paths outer path i Tests name tests c f = good_tests around paths outer (path ++ i ∷ []) true tests f
  good_rule around paths outer path i (Index width) name tests c f = subst (λ ts. AllGood (map (test_asks paths (path ++ i ∷ []) true) ts)) (sym f) tt

  good_run : (each : ℕ → Data → List Moment) (part : Data → Part) (find : Data → List ℕ → Option Occurrence) (p : List ℕ) → ((k : ℕ) (d : Data) (at : ℕ) (bs : List Bool) → part d at bs → Stands (p ++ k ∷ []) (find d) → AllGood (each k d)) → (k : ℕ) (es : Elements) (at : ℕ) (bs : List Bool) → RunPart part es at bs
      → ((m : ℕ) (r : List ℕ) (o : Occurrence) → k ≤ m → element_part (λ d. find d r) k es m ≡ Some o → part_at root whole (p ++ m ∷ r) ≡ Some o) → AllGood (run_moments each k es)
  good_run each part find p h k no_elements at bs t s = tt
  good_run each part find p h k (element d es) at bs t s =
      each_both Good (each k d) (run_moments each (suc k) es)
      (h k d at t.front t.first (deeper p k (find d) (λ r o e. s k r o (omega arith) (if_yes (nat_eq k k) (find d r) (element_part (λ d'. find d' r) (suc k) es k) (same_eq k) ∙ e))))
      (good_run each part find p h (suc k) es (at + length t.front) t.back t.second (λ m r o l e. s m r o (omega arith) (if_no (nat_eq m k) (find d r) (element_part (λ d'. find d' r) (suc k) es m) (differs m k l) ∙ e)))

  good_list : (end : Option (List Bool)) (sizing : Sizing) (env : Env) (each : ℕ → Data → List Moment) (part : Data → Part) (find : Data → List ℕ → Option Occurrence) (p : List ℕ) → ((k : ℕ) (d : Data) (at : ℕ) (bs : List Bool) → part d at bs → Stands (p ++ k ∷ []) (find d) → AllGood (each k d)) → (es : Elements) (at : ℕ) (bs : List Bool) → ListPart end sizing env part es at bs
      → ((m : ℕ) (r : List ℕ) (o : Occurrence) → element_part (λ d. find d r) 0 es m ≡ Some o → part_at root whole (p ++ m ∷ r) ≡ Some o) → AllGood (run_moments each 0 es)
  good_list None sizing env each part find p h es at bs t s = good_run each part find p h 0 es (at + length t.front) t.back t.second (λ m r o l e. s m r o e)
  good_list (Some q) sizing env each part find p h es at bs t s = good_run each part find p h 0 es at t.spelled.front t.spelled.first (λ m r o l e. s m r o e)

  mutual
    good_node : (g : Grammar) → NodeHomes g → Steady g → (around : List ℕ) → NodeUsed root around g → (paths : FieldPaths) → Outer around paths → (p : List ℕ) (env : Env) (d : Data) → Stands p (part_at g d) → (at : ℕ) (bs : List Bool) → Spell root mode g env d at bs → AllGood (moments root g paths p d)
    good_node (node align form) homes w around u paths outer p env d s at bs t = good_form form align homes w around u paths outer p env d s (at + length t.front) t.back t.second

    good_form : (form : Form) (align : ℕ) → FormHomes form → SteadyForm form → (around : List ℕ) → FormUsed root around form → (paths : FieldPaths) → Outer around paths → (p : List ℕ) (env : Env) (d : Data) → Stands p (part_at (node align form) d) → (at : ℕ) (bs : List Bool) → FormPart root mode form env d at bs → AllGood (form_moments root form paths p d)
    good_form (num leaf) align homes w around u paths outer p env d s at bs t = tt
    good_form (octets sizing) align homes w around u paths outer p env (octet_string os) s at bs t = good_size around paths outer p (length os) sizing.rule u
    good_form (bits sizing) align homes w around u paths outer p env (bit_string cs) s at bs t = good_size around paths outer p (length cs) sizing.rule u
    good_form (text leaf) align homes w around u paths outer p env (characters cs) s at bs t = good_size around paths outer p (length cs) leaf.sized.rule (first_two u)
    good_form (seq fields home) align homes w around u paths outer p env (record_of ps) s at bs t =
        good_fields fields homes.1 w (home ++ around) u (with_fields p fields home paths) more p 0 (with_home home t.numbers env) ps (λ m r o l e. s (m ∷ r) o e) (at + length t.spelled.front) t.spelled.back t.spelled.second
      where
        origin : (r : ℕ) → holds home r ≡ true → Origin root whole r (field_path p fields r)
        origin r h =
            let x = at_home (λ n y. In (domain_of root n) y) home t.numbers env r (t.fine).count (t.fine).permitted h in
            record {
              path = p;
              align = align;
              fields = fields;
              home = home;
              part = record_of ps;
              stands = ap (part_at root whole) (sym (append-nil p)) ∙ s [] (occurrence (node align (seq fields home)) (record_of ps)) refl;
              mine = h;
              leads = refl;
              number = x.0;
              permitted = x.2;
              meets = fields_met root tree mode r x.0 x.2 fields (homes.0 r h).1 w (home ++ around) u (with_home home t.numbers env) x.1 ps (at + length t.spelled.front) t.spelled.back t.spelled.second;
            }

        more : Outer (home ++ around) (with_fields p fields home paths)
        more r h = truth {F = Origin root whole r (field_of (with_fields p fields home paths) r)} (holds home r)
            (λ e. subst (λ f. Origin root whole r f) (sym (field_in (field_path p fields) home paths r e)) (origin r e))
            (λ e. subst (λ f. Origin root whole r f) (sym (field_out (field_path p fields) home paths r e)) (outer r (holds_either {F = holds around r ≡ true} home around r h (λ q. cc) (λ q. q))))
    good_form (list sizing g) align homes w around u paths outer p env (list_of es) s at bs t =
        each_both Good (size_asks paths p (element_count es) sizing.rule) (run_moments (λ k d. moments root g paths (p ++ k ∷ []) d) 0 es) (good_size around paths outer p (element_count es) sizing.rule (first_two u))
        (good_list (ending sizing.rule) sizing env (λ k d. moments root g paths (p ++ k ∷ []) d) (Spell root mode g env) (part_at g) p
        (λ k d at' bs' h s'. good_node g homes w around (last_two u) paths outer (p ++ k ∷ []) env d s' at' bs' h) es at bs t (λ m r o e. s (m ∷ r) o e))
    good_form (choice cases rule) align homes w around u paths outer p env (alt i d) s at bs t =
        good_case cases homes w rule around (first_two u) (last_two u) paths outer p i env i d (deeper p i (alternative_part cases i d) (λ r o e. s (i ∷ r) o (if_yes (nat_eq i i) (alternative_part cases i d r) None (same_eq i) ∙ e))) (at + length t.front) t.back t.second
    good_form (contained sizing g) align homes w around u paths outer p env d s at bs t =
        let v = t.spelled in
        let n = content_octets root mode g w env d t.some (at + length v.front) v.back v.second in
        each_both Good (moments root g paths (p ++ 0 ∷ []) d) (counts p (octets_for (bit_length g 0 d)) sizing ∷ size_asks paths p (octets_for (bit_length g 0 d)) sizing.rule)
        (good_node g homes w around (last_two u) paths outer (p ++ 0 ∷ []) env d (deeper p 0 (part_at g d) (λ r o e. s (0 ∷ r) o e)) 0 v.second.inside.front v.second.inside.first)
        (subst (λ m. In sizing.sizes (pos m)) n v.first.given, good_size around paths outer p (octets_for (bit_length g 0 d)) sizing.rule (first_two u))
    good_form _ align homes w around u paths outer p env d s at bs t = absurd t.0

    good_fields : (fs : Fields) → FieldsHomes fs → SteadyFields fs → (around : List ℕ) → FieldsUsed root around fs → (paths : FieldPaths) → Outer around paths → (p : List ℕ) (k : ℕ) (env : Env) (ps : Places)
        → ((m : ℕ) (r : List ℕ) (o : Occurrence) → k ≤ m → field_part fs k ps m r ≡ Some o → part_at root whole (p ++ m ∷ r) ≡ Some o) → (at : ℕ) (bs : List Bool) → FieldsPart root mode fs env ps at bs → AllGood (fields_moments root fs paths p k ps)
    good_fields no_fields homes w around u paths outer p k env no_places s at bs t = tt
    good_fields (component name g presence default o fs) homes w around u paths outer p k env (filled d ps) s at bs t =
        let here = p ++ k ∷ [] in
        each_both Good (own_asks paths here o d ++ presence_asks paths here true presence ++ moments root g paths here d) (fields_moments root fs paths p (suc k) ps)
        (each_both Good (own_asks paths here o d ++ presence_asks paths here true presence) (moments root g paths here d)
        (each_both Good (own_asks paths here o d) (presence_asks paths here true presence) (good_own around paths outer (p ++ k ∷ []) o d (first_four u)) (good_presence around paths outer (p ++ k ∷ []) true presence (second_four u)))
        (good_node g homes.0 w.0 around (third_four u) paths outer (p ++ k ∷ []) env d
        (deeper p k (part_at g d) (λ r x e. s k r x (omega arith) (if_yes (nat_eq k k) (part_at g d r) (field_part fs (suc k) ps k r) (same_eq k) ∙ e))) at t.front t.first.spelled))
        (good_fields fs homes.1 w.1 around (last_four u) paths outer p (suc k) env ps (λ m r x l e. s m r x (omega arith) (if_no (nat_eq m k) (part_at g d r) (field_part fs (suc k) ps m r) (differs m k l) ∙ e)) (at + length t.front) t.back t.second)
    good_fields (component name g presence default o fs) homes w around u paths outer p k env (empty ps) s at bs t =
        each_both Good (presence_asks paths (p ++ k ∷ []) false presence) (fields_moments root fs paths p (suc k) ps) (good_presence around paths outer (p ++ k ∷ []) false presence (second_four u))
        (good_fields fs homes.1 w.1 around (last_four u) paths outer p (suc k) env ps (λ m r x l e. s m r x (omega arith) (if_no (nat_eq m k) None (field_part fs (suc k) ps m r) (differs m k l) ∙ e)) at bs t.spelled)
    good_fields (inserted name g (Some n) fs) homes w around u paths outer p k env ps s at bs t =
        good_fields fs homes w.1 around u paths outer p (suc k) env ps (λ m r x l e. s m r x (omega arith) (if_no (nat_eq m k) None (field_part fs (suc k) ps m r) (differs m k l) ∙ e)) (at + length t.front) t.back t.second
    good_fields (inserted name g None fs) homes w around u paths outer p k env ps s at bs t =
        good_fields fs homes w.1 around u paths outer p (suc k) env ps (λ m r x l e. s m r x (omega arith) (if_no (nat_eq m k) None (field_part fs (suc k) ps m r) (differs m k l) ∙ e)) (at + length t.front) t.back t.second
    good_fields _ homes w around u paths outer p k env ps s at bs t = absurd t.0

    good_case : (cases : Alternatives) → CasesHomes cases → SteadyAlternatives cases → (rule : ChoiceRule) (around : List ℕ) → ChoiceFits root around rule → CasesUsed root around rule cases → (paths : FieldPaths) → Outer around paths → (p : List ℕ) (i : ℕ) (env : Env) (j : ℕ) (d : Data)
        → Stands (p ++ i ∷ []) (alternative_part cases j d) → (at : ℕ) (bs : List Bool) → AlternativePart root mode cases rule env j d at bs → AllGood (alternative_moments root cases rule paths p i j d)
    good_case (alternative name g tests more) homes w rule around c u paths outer p i env zero d s at bs t =
        each_both Good (rule_asks root paths p i rule name tests) (moments root g paths (p ++ i ∷ []) d) (good_rule around paths outer p i rule name tests c (first_three u)) (good_node g homes.0 w.0 around (second_three u) paths outer (p ++ i ∷ []) env d s at bs t.spelled)
    good_case (alternative name g tests more) homes w rule around c u paths outer p i env (suc j) d s at bs t = good_case more homes.1 w.1 rule around c (last_three u) paths outer p i env j d s at bs t
    good_case no_alternatives homes w rule around c u paths outer p i env j d s at bs t = absurd t.0

-- Each moment can be met after those before it.

heard : (f path : List ℕ) (t : ℕ) (a : Ask) (before after : List Moment) → asks_of f (before ++ asks path f t a ∷ after) ≡ (asks_of f before ++ a ∷ []) ++ asks_of f after
heard f path t a before after =
    flat_map-append (of_field f) before (asks path f t a ∷ after)
    ∙ (ap (λ x. asks_of f before ++ (x ++ asks_of f after)) (if_yes (same_name f f) (a ∷ []) [] (same_name-refl f)) ∙ sym (append_assoc (asks_of f before) (a ∷ []) (asks_of f after)))

first_none : (us : List Unfit) → us ≡ [] → first_of us ≡ None
first_none us e = ap first_of e

pub refused_is_not_spelled : RefusedIsNotSpelled
refused_is_not_spelled root mode d u bs a r t = by (breach root d) (first_none (breaches [] root d) (unbreached root mode root [] [] d 0 bs t)) r
  where
    all_good : AllByRecursion (Good root a.formed mode d) (moments root root [] [] d)
    all_good = good_node root a.formed mode d root (tree_homes root a.formed) (root_steady root a) [] (accepted_used root a) [] (λ n h. cc) [] [] d (λ q o e. e) 0 bs t

    can : (before : List Moment) (here : Moment) (after : List Moment) → moments root root [] [] d ≡ before ++ here ∷ after → Good root a.formed mode d here → CanBeMet root before here
    can before (counts path n sizing) after e g = g
    can before (asks path field s w) after e g =
        let is : asks_of field (moments root root [] [] d) ≡ form_asks_on root s (seq g.fields g.home) g.part =
        ap (λ f. asks_of f (moments root root [] [] d)) g.leads ∙ each_occurrence_asks root d g.part g.path g.home g.align s g.fields a.formed g.stands g.mine in
        let all : form_asks_on root s (seq g.fields g.home) g.part ≡ (asks_of field before ++ w ∷ []) ++ asks_of field after = sym is ∙ (ap (asks_of field) e ∙ heard field path s w before after) in
        (g.number, record { permitted = g.permitted; meets = each_left (MeetsAsk g.number) (asks_of field before ++ w ∷ []) (asks_of field after) (subst (AllByRecursion (MeetsAsk g.number)) all g.meets) })

    by : (o : Option Unfit) → o ≡ None → RefusedAfter root o d u → ⊥
    by (Some v) e q = cc
    by None e q =
        let good = subst (AllByRecursion (Good root a.formed mode d)) q.whole all_good in
        q.unmet (can q.before q.here q.after q.whole (each_right (Good root a.formed mode d) q.before (q.here ∷ q.after) good).0)
