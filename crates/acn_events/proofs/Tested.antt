-- The events of a value pass their tests where the value meets its constraints.
use Rattle.std.proofs.Common.{◌≡◌, ℕ, zero, suc, ℤ, pos, Bool, true, false, ◌&&◌, List, [], ◌∷◌, ◌++◌, length, Option, Some, None, IsTrue, refl, sym, ap, ◌∙◌, subst, arith, map}
use Rattle.std.specs.Prelude.{◌≤ℤ◌}
use Rattle.std.specs.List.{list_all}
use Rattle.std.proofs.lemmas.Bool.{and_parts}
use Rattle.std.proofs.lemmas.Int.{ints}
use Rattle.acn_num.specs.Bits.{bits as bits_of, octets as octets_for}
use Rattle.acn_num.specs.Ranges.{has}
use Rattle.acn_grammar.specs.Grammar.{Grammar, Form, Fields, Alternatives, Data, Places, Elements, node, num, octets, bits, text, seq, list, choice, contained, no_fields, component, inserted, no_alternatives, alternative, octet_string, bit_string, characters, record_of, list_of, alt, no_places, empty, filled, no_elements, element, element_count}
use Rattle.acn_grammar.specs.Leaves.{num_fine, is_range, no_items}
use Rattle.acn_grammar.specs.Length.{bit_length, number_of}
use Rattle.acn_grammar.specs.Meets.{Unfit, Why, at_path, unless, out_of_range, size_out_of_range, size_breach, text_breach, run_breaches, breaches, form_breaches, field_breaches, alternative_breaches}
use Rattle.acn_grammar.specs.Scoped.{Known, after, choose_known, with_own, with_slot}
use Rattle.acn_grammar.specs.Sound.{Sound, FormSound, FieldsSound, AlternativesSound}
use Rattle.acn_grammar.specs.declared.node.ChoiceRule.{ChoiceRule}
use Rattle.acn_grammar.specs.declared.node.ChoiceRule.TheVariants.{Index, Tests, Item}
use Rattle.acn_grammar.specs.declared.node.NumKind.TheVariants.{Null}
use Rattle.acn_grammar.specs.declared.node.NumLeaf.{NumLeaf}
use Rattle.acn_grammar.specs.declared.node.Presence.{Presence}
use Rattle.acn_grammar.specs.declared.node.Presence.TheVariants.{Always, Bit, When}
use Rattle.acn_grammar.specs.declared.node.SizeRule.{SizeRule}
use Rattle.acn_grammar.specs.declared.node.SizeRule.TheVariants.{Prefix, Slot, Ended}
use Rattle.acn_grammar.specs.declared.node.Sizing.{Sizing}
use Rattle.acn_grammar.specs.declared.node.Test.{Test}
use Rattle.acn_grammar.specs.declared.node.Test.TheVariants.{Flag, Equals}
use Rattle.acn_grammar.proofs.FineLeaves.{rules_of}
use Rattle.acn_grammar.proofs.HasImage.{range_within}
use Rattle.acn_events.specs.Event.{Event, aligns, copies, sizes, texts, fills, closes}
use Rattle.acn_events.specs.Events.{test_event, presence_events, size_wants, end_events, inserted_events, index_events, run_events, rule_events, events, form_events, field_events, case_events}
use Rattle.acn_events.proofs.Coming.{some_in}
use Rattle.acn_events.proofs.Judging.{is_none, tested}

abbrev pass : List Event → Bool
pass es = list_all tested es

pass_then : (a b : List Event) → pass (a ++ b) ≡ (pass a && pass b)
pass_then [] b = refl
pass_then (e ∷ a) b = ap (λ z. tested e && z) (pass_then a b) ∙ sym (assoc (tested e) (pass a) (pass b))
  where
    assoc : (x y z : Bool) → ((x && y) && z) ≡ (x && (y && z))
    assoc true y z = refl
    assoc false y z = refl

none_then : {A : Type 0} (a b : List A) → is_none (a ++ b) ≡ (is_none a && is_none b)
none_then [] b = refl
none_then (x ∷ a) b = refl

none_path : (path : List ℕ) (whys : List Why) → is_none (at_path path whys) ≡ is_none whys
none_path path [] = refl
none_path path (w ∷ whys) = refl

none_unless : (path : List ℕ) (b : Bool) (why : Why) → is_none (at_path path (unless b why)) ≡ b
none_unless path true why = refl
none_unless path false why = refl

and_true : (b : Bool) → (b && true) ≡ b
and_true true = refl
and_true false = refl

and_twice : (a b c : Bool) → c ≡ a → (a && (c && b)) ≡ (a && b)
and_twice true b c e = ap (λ z. z && b) e
and_twice false b c e = refl

-- both parts
join : (a b : List Event) (x y : Bool) → pass a ≡ x → pass b ≡ y → pass (a ++ b) ≡ (x && y)
join a b x y p q = pass_then a b ∙ (ap (λ z. z && pass b) p ∙ ap (λ z. x && z) q)

test_pass : (path : List ℕ) (there : Bool) (t : Test) → tested (test_event path there t) ≡ true
test_pass path true (Flag s) = refl
test_pass path false (Flag s) = refl
test_pass path true (Equals s k) = refl
test_pass path false (Equals s k) = refl

tests_pass : (path : List ℕ) (there : Bool) (ts : List Test) → pass (map (test_event path there) ts) ≡ true
tests_pass path there [] = refl
tests_pass path there (t ∷ ts) = ap (λ z. z && pass (map (test_event path there) ts)) (test_pass path there t) ∙ tests_pass path there ts

presence_pass : (path : List ℕ) (there : Bool) (presence : Presence) → pass (presence_events path there presence) ≡ true
presence_pass path there Always = refl
presence_pass path there Bit = refl
presence_pass path there (When ts) = tests_pass path there ts

size_pass : (path : List ℕ) (n : ℕ) (rule : SizeRule) → pass (size_wants path n rule) ≡ true
size_pass path n (Slot s) = refl
size_pass path n (Prefix low width) = refl
size_pass path n (Ended p) = refl

end_pass : (rule : SizeRule) → pass (end_events rule) ≡ true
end_pass (Slot s) = refl
end_pass (Prefix low width) = refl
end_pass (Ended p) = refl

index_pass : (rule : ChoiceRule) (i : ℕ) → pass (index_events rule i) ≡ true
index_pass (Index width) i = refl
index_pass Tests i = refl
index_pass (Item s) i = refl

rule_pass : (root : Grammar) (path : List ℕ) (i : ℕ) (rule : ChoiceRule) (name : List ℕ) (ts : List Test) → pass (rule_events root path i rule name ts) ≡ true
rule_pass root path i (Index width) name ts = tests_pass (path ++ i ∷ []) true ts
rule_pass root path i Tests name ts = tests_pass (path ++ i ∷ []) true ts
rule_pass root path i (Item s) name ts = refl

fills_pass : (home : List ℕ) → pass (map fills home) ≡ true
fills_pass [] = refl
fills_pass (s ∷ home) = fills_pass home

string_pass : (path : List ℕ) (sizing : Sizing) (n : ℕ) (bs : List Bool) → pass (sizes sizing n ∷ (size_wants path n sizing.rule ++ copies bs ∷ [])) ≡ has sizing.sizes (pos n)
string_pass path sizing n bs = ap (λ z. has sizing.sizes (pos n) && z) (join (size_wants path n sizing.rule) (copies bs ∷ []) true true (size_pass path n sizing.rule) refl) ∙ and_true (has sizing.sizes (pos n))

zero_in : (leaf : NumLeaf) → IsTrue (num_fine leaf) → leaf.kind ≡ Null → has leaf.set (pos 0) ≡ true
zero_in leaf fine k =
    let set = rw k at (rules_of leaf fine).set in
    let f = and_parts (is_range (pos 0) (pos 0) leaf.set) (no_items leaf.items) set in
    let x = some_in leaf fine in
    let w = range_within (pos 0) (pos 0) leaf.set x.0 f.0 x.1 in
    subst (λ (z : ℤ). has leaf.set z ≡ true) (is x.0 w.0 w.1) x.1
  where
    is : (x : ℤ) → pos 0 ≤ℤ x → x ≤ℤ pos 0 → x ≡ pos 0
    is x a b = omega (arith, ints)

module _ (root : Grammar) where
  run_pass : (each : ℕ → Data → List Event) (bad : ℕ → Data → List Unfit) → ((k : ℕ) (d : Data) → pass (each k d) ≡ is_none (bad k d)) → (k : ℕ) (es : Elements) → pass (run_events each k es) ≡ is_none (run_breaches bad k es)
  run_pass each bad h k no_elements = refl
  run_pass each bad h k (element d es) = join (each k d) (run_events each (suc k) es) (is_none (bad k d)) (is_none (run_breaches bad (suc k) es)) (h k d) (run_pass each bad h (suc k) es) ∙ sym (none_then (bad k d) (run_breaches bad (suc k) es))

  inserted_pass : (k : ℕ) (around : List ℕ) (ks : Known) (own : Option ℕ) (name : List ℕ) (g : Grammar) (fs : Fields) → FieldsSound root k around ks (inserted name g own fs) → pass (inserted_events own g) ≡ true
  inserted_pass k around ks (Some s) name (node align (num leaf)) fs h = refl
  inserted_pass k around ks None name (node align (num leaf)) fs h = ap (λ z. z && true) (zero_in leaf h.1.2 h.0)
  inserted_pass k around ks (Some s) name (node align _) fs h = refl
  inserted_pass k around ks None name (node align _) fs h = refl

  mutual
    pub node_pass : (g : Grammar) (k : ℕ) (around : List ℕ) (ks : Known) → Sound root k around ks g → (path : List ℕ) (d : Data) → pass (events root g path d) ≡ is_none (breaches path g d)
    node_pass (node align form) k around ks s path d = form_pass form k around ks s.2 path d

    form_pass : (form : Form) (k : ℕ) (around : List ℕ) (ks : Known) → FormSound root k around ks form → (path : List ℕ) (d : Data) → pass (form_events root form path d) ≡ is_none (form_breaches path form d)
    form_pass (num leaf) k around ks s path d = and_true (has leaf.set (number_of d)) ∙ sym (none_unless path (has leaf.set (number_of d)) (out_of_range (number_of d)))
    form_pass (octets sizing) k around ks s path (octet_string os) = string_pass path sizing (length os) (bits_of os) ∙ sym (none_unless path (has sizing.sizes (pos (length os))) (size_out_of_range (length os)))
    form_pass (bits sizing) k around ks s path (bit_string bs) = string_pass path sizing (length bs) bs ∙ sym (none_unless path (has sizing.sizes (pos (length bs))) (size_out_of_range (length bs)))
    form_pass (text leaf) k around ks s path (characters cs) =
        join (size_wants path (length cs) leaf.sized.rule) (texts leaf cs ∷ []) true (is_none (text_breach leaf cs)) (size_pass path (length cs) leaf.sized.rule) (and_true (is_none (text_breach leaf cs))) ∙ sym (none_path path (text_breach leaf cs))
    form_pass (seq fields home) k around ks s path (record_of ps) =
        join (field_events root fields path 0 ps) (map fills home) (is_none (field_breaches path 0 fields ps)) true (fields_pass fields (suc k) (home ++ around) ks s.1 path 0 ps) (fills_pass home) ∙ and_true (is_none (field_breaches path 0 fields ps))
    form_pass (list sizing g) k around ks s path (list_of es) =
        let n = element_count es in
        let each : ℕ → Data → List Event = λ j d. events root g (path ++ j ∷ []) d in
        let bad : ℕ → Data → List Unfit = λ j d. breaches (path ++ j ∷ []) g d in
        let run = run_pass each bad (λ j d. node_pass g (suc k) around ks s.4 (path ++ j ∷ []) d) 0 es in
        let rest = is_none (run_breaches bad 0 es) in
        let tail : pass (size_wants path n sizing.rule ++ (run_events each 0 es ++ end_events sizing.rule)) ≡ rest =
        join (size_wants path n sizing.rule) (run_events each 0 es ++ end_events sizing.rule) true rest (size_pass path n sizing.rule) (join (run_events each 0 es) (end_events sizing.rule) rest true run (end_pass sizing.rule) ∙ and_true rest) in
        ap (λ z. has sizing.sizes (pos n) && z) tail
        ∙ (ap (λ z. z && rest) (sym (none_unless path (has sizing.sizes (pos n)) (size_out_of_range n))) ∙ sym (none_then (at_path path (size_breach sizing n)) (run_breaches bad 0 es)))
    form_pass (choice cases rule) k around ks s path (alt i d) = join (index_events rule i) (case_events root cases rule path i i d) true (is_none (alternative_breaches path i cases i d)) (index_pass rule i) (case_pass cases rule (suc k) around ks s.3 path i i d)
    form_pass (contained sizing g) k around ks s path d =
        join (events root g (path ++ 0 ∷ []) d) (aligns 8 ∷ closes path sizing (octets_for (bit_length g 0 d)) ∷ []) (is_none (breaches (path ++ 0 ∷ []) g d)) true (node_pass g (suc k) around ks s.3 (path ++ 0 ∷ []) d) refl ∙ and_true (is_none (breaches (path ++ 0 ∷ []) g d))
    form_pass _ k around ks s path d = refl

    fields_pass : (fs : Fields) (k : ℕ) (around : List ℕ) (ks : Known) → FieldsSound root k around ks fs → (path : List ℕ) (n : ℕ) (ps : Places) → pass (field_events root fs path n ps) ≡ is_none (field_breaches path n fs ps)
    fields_pass (component name g presence default None fs) k around ks s path n (filled d ps) =
        let q = path ++ n ∷ [] in
        let x = is_none (breaches q g d) in
        let y = is_none (field_breaches path (suc n) fs ps) in
        join (presence_events q true presence) (events root g q d ++ field_events root fs path (suc n) ps) true (x && y) (presence_pass q true presence)
        (join (events root g q d) (field_events root fs path (suc n) ps) x y (node_pass g k around ks s.3 q d) (fields_pass fs k around (choose_known presence ks (with_own None (after ks g))) s.4 path (suc n) ps))
        ∙ sym (none_then (breaches q g d) (field_breaches path (suc n) fs ps))
    fields_pass (component name (node align (num leaf)) presence default (Some t) fs) k around ks s path n (filled d ps) =
        let g = node align (num leaf) in
        let q = path ++ n ∷ [] in
        let x = is_none (breaches q g d) in
        let y = is_none (field_breaches path (suc n) fs ps) in
        ap (λ z. has leaf.set (number_of d) && z)
        (join (presence_events q true presence) (events root g q d ++ field_events root fs path (suc n) ps) true (x && y) (presence_pass q true presence)
        (join (events root g q d) (field_events root fs path (suc n) ps) x y (and_true (has leaf.set (number_of d)) ∙ sym (none_unless q (has leaf.set (number_of d)) (out_of_range (number_of d)))) (fields_pass fs k around (choose_known presence ks (with_own (Some t) (after ks g))) s.4 path (suc n) ps)))
        ∙ (and_twice (has leaf.set (number_of d)) y x (none_unless q (has leaf.set (number_of d)) (out_of_range (number_of d)))
        ∙ (ap (λ z. z && y) (sym (none_unless q (has leaf.set (number_of d)) (out_of_range (number_of d)))) ∙ sym (none_then (breaches q g d) (field_breaches path (suc n) fs ps))))
    fields_pass (component name (node align _) presence default (Some t) fs) k around ks s path n (filled d ps) = absurd s.1.1
    fields_pass (component name g presence default own fs) k around ks s path n (empty ps) =
        join (presence_events (path ++ n ∷ []) false presence) (field_events root fs path (suc n) ps) true (is_none (field_breaches path (suc n) fs ps)) (presence_pass (path ++ n ∷ []) false presence)
        (fields_pass fs k around (choose_known presence ks (with_own own (after ks g))) s.4 path (suc n) ps)
    fields_pass (inserted name g (Some t) fs) k around ks s path n ps =
        join (inserted_events (Some t) g) (field_events root fs path (suc n) ps) true (is_none (field_breaches path (suc n) fs ps)) (inserted_pass k around ks (Some t) name g fs s) (fields_pass fs k around (with_slot t ks) s.3 path (suc n) ps)
    fields_pass (inserted name g None fs) k around ks s path n ps =
        join (inserted_events None g) (field_events root fs path (suc n) ps) true (is_none (field_breaches path (suc n) fs ps)) (inserted_pass k around ks None name g fs s) (fields_pass fs k around ks s.2 path (suc n) ps)
    fields_pass no_fields k around ks s path n ps = refl
    fields_pass (component name g presence default own fs) k around ks s path n no_places = refl

    case_pass : (cases : Alternatives) (rule : ChoiceRule) (k : ℕ) (around : List ℕ) (ks : Known) → AlternativesSound root k around ks cases → (path : List ℕ) (i j : ℕ) (d : Data) → pass (case_events root cases rule path i j d) ≡ is_none (alternative_breaches path i cases j d)
    case_pass no_alternatives rule k around ks s path i j d = refl
    case_pass (alternative name g tests more) rule k around ks s path i zero d =
        join (rule_events root path i rule name tests) (events root g (path ++ i ∷ []) d) true (is_none (breaches (path ++ i ∷ []) g d)) (rule_pass root path i rule name tests) (node_pass g k around ks s.1 (path ++ i ∷ []) d)
    case_pass (alternative name g tests more) rule k around ks s path i (suc j) d = case_pass more rule k around ks s.2 path i j d
