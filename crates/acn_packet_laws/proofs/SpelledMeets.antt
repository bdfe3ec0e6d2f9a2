-- A value that has a spelling has the form of the tree; that nothing in it is a breach is a law of its own.
use Rattle.std.proofs.Common.{◌≡◌, ℕ, zero, suc, ◌+◌, ◌-◌, ◌<◌, ℤ, pos, Bool, true, ◌&&◌, List, [], ◌∷◌, length, Option, Some, None, refl, arith, nat_lt, subst}
use Rattle.std.proofs.lemmas.Bool.{and_from, and_parts, ltb-true}
use Rattle.std.specs.Prelude.{◌≤ℤ◌}
use Rattle.std.proofs.lemmas.Int.{ints}
use Rattle.std.proofs.lemmas.Bool.Decides.{nat_tests}
use Rattle.acn_num.specs.Ranges.{has, all_within}
use Rattle.acn_grammar.specs.Code.{Mode, NumberOf}
use Rattle.acn_grammar.specs.Env.{Env, MayBeAway}
use Rattle.acn_grammar.specs.Grammar.{Grammar, Form, Fields, Alternatives, Data, Places, Elements, node, num, octets, bits, text, seq, list, choice, contained, no_fields, component, inserted, no_alternatives, alternative, int, boolean, item, null, octet_string, bit_string, characters, record_of, list_of, alt, no_places, empty, filled, no_elements, element}
use Rattle.acn_grammar.specs.Leaves.{set_fine, is_range, items_fine}
use Rattle.acn_grammar.specs.Length.{ending}
use Rattle.acn_grammar.specs.Shaped.{may_be_absent, num_fits, are_octets, each_element, fits, form_fits, fields_fit, alternative_fits}
use Rattle.acn_grammar.specs.Spell.{Part, CharactersPart, EndedPart, RunPart, ListPart, Spell, FormPart, FieldsPart, AlternativePart}
use Rattle.acn_grammar.specs.declared.node.ChoiceRule.{ChoiceRule}
use Rattle.acn_grammar.specs.declared.node.NumKind.{NumKind}
use Rattle.acn_grammar.specs.declared.node.NumKind.TheVariants.{Integer, Boolean, Enumerated, Null}
use Rattle.acn_grammar.specs.declared.node.NumLeaf.{NumLeaf}
use Rattle.acn_grammar.specs.declared.node.Presence.{Presence}
use Rattle.acn_grammar.specs.declared.node.Presence.TheVariants.{Always, Bit, When}
use Rattle.acn_grammar.specs.declared.node.Sizing.{Sizing}
use Rattle.acn_grammar.specs.declared.node.TextLeaf.{TextLeaf}
use Rattle.acn_grammar.proofs.FineLeaves.{rules_of}
use Rattle.acn_grammar.proofs.SpanLaw.{Fine, FormFine, FieldsFine, AlternativesFine}
use Rattle.acn_grammar.proofs.TreeRules.{tree_fine}
use Rattle.acn_packet_laws.specs.Laws.{SpelledValuesMeet}
use Rattle.acn_packet_laws.proofs.Unbreached.{unbreached}
use Rattle.acn_grammar.proofs.TextRules.{text_rules, small_character}
use Rattle.acn_grammar.proofs.HasImage.{range_within}

-- Numbers.

below : (i n : ℕ) → nat_lt 0 n ≡ true → pos i ≤ℤ pos (n - 1) → nat_lt i n ≡ true
below i n h k = lt i n (omega (arith, ints, ltb-true 0 n h))
  where
    lt : (a b : ℕ) → a < b → nat_lt a b ≡ true
    lt a b h = grind (arith, nat_tests)

shaped_number : (leaf : NumLeaf) (kind : NumKind) (d : Data) (x : ℤ) → set_fine kind leaf.coding leaf.items leaf.table leaf.set ≡ true → NumberOf kind d x → has leaf.set x ≡ true → num_fits kind (length leaf.items.items) d ≡ true
shaped_number leaf Integer (int y) x f h p = refl
shaped_number leaf Boolean (boolean b) x f h p = refl
shaped_number leaf Null null x f h p = refl
shaped_number leaf Enumerated (item i) x f h p =
    let a = and_parts (nat_lt 0 (length leaf.items.items)) (is_range (pos 0) (pos (length leaf.items.items - 1)) leaf.set && items_fine leaf.coding leaf.items) f in
    let r = range_within (pos 0) (pos (length leaf.items.items - 1)) leaf.set x (and_parts (is_range (pos 0) (pos (length leaf.items.items - 1)) leaf.set) (items_fine leaf.coding leaf.items) a.1).0 p in
    below i (length leaf.items.items) a.0 (subst (λ (z : ℤ). z ≤ℤ pos (length leaf.items.items - 1)) h r.1)
shaped_number leaf _ _ x f h p = absurd h

-- Texts.

char_octet : (c : ℕ) → c < 128 → nat_lt c 256 ≡ true
char_octet c h = grind (arith, nat_tests)

chars_octets : (leaf : TextLeaf) → all_within (pos 0) (pos 127) leaf.alphabet ≡ true → (cs : List ℕ) (at : ℕ) (bs : List Bool) → CharactersPart leaf cs at bs → are_octets cs ≡ true
chars_octets leaf w [] at bs t = refl
chars_octets leaf w (c ∷ cs) at bs t = and_from (nat_lt c 256) (are_octets cs) (char_octet c (small_character leaf.alphabet c w t.first.given)) (chars_octets leaf w cs (at + length t.front) t.back t.second)

text_octets : (leaf : TextLeaf) → all_within (pos 0) (pos 127) leaf.alphabet ≡ true → (end : Option (List Bool)) (env : Env) (cs : List ℕ) (at : ℕ) (bs : List Bool) → EndedPart end leaf env cs at bs → are_octets cs ≡ true
text_octets leaf w None env cs at bs t = chars_octets leaf w cs (at + length t.front) t.back t.second
text_octets leaf w (Some end) env cs at bs t = chars_octets leaf w cs at t.spelled.front t.spelled.first

-- Elements.

run_shaped : (g : Grammar) (each : Data → Part) → ((d : Data) (at : ℕ) (bs : List Bool) → each d at bs → fits g d ≡ true) → (es : Elements) (at : ℕ) (bs : List Bool) → RunPart each es at bs → each_element (fits g) es ≡ true
run_shaped g each h no_elements at bs t = refl
run_shaped g each h (element d es) at bs t = and_from (fits g d) (each_element (fits g) es) (h d at t.front t.first) (run_shaped g each h es (at + length t.front) t.back t.second)

list_shaped : (end : Option (List Bool)) (sizing : Sizing) (env : Env) (g : Grammar) (each : Data → Part) → ((d : Data) (at : ℕ) (bs : List Bool) → each d at bs → fits g d ≡ true) → (es : Elements) (at : ℕ) (bs : List Bool) → ListPart end sizing env each es at bs → each_element (fits g) es ≡ true
list_shaped None sizing env g each h es at bs t = run_shaped g each h es (at + length t.front) t.back t.second
list_shaped (Some p) sizing env g each h es at bs t = run_shaped g each h es at t.spelled.front t.spelled.first

away_absent : (env : Env) (presence : Presence) → MayBeAway env presence → may_be_absent presence ≡ true
away_absent env Always h = absurd h
away_absent env Bit h = refl
away_absent env (When ts) h = refl

module _ (root : Grammar) (mode : Mode) where
  mutual
    node_shaped : (g : Grammar) → Fine g → (env : Env) (d : Data) (at : ℕ) (bs : List Bool) → Spell root mode g env d at bs → fits g d ≡ true
    node_shaped (node align form) f env d at bs t = form_shaped form f.1 env d (at + length t.front) t.back t.second

    form_shaped : (form : Form) → FormFine form → (env : Env) (d : Data) (at : ℕ) (bs : List Bool) → FormPart root mode form env d at bs → form_fits form d ≡ true
    form_shaped (num leaf) f env d at bs t = shaped_number leaf leaf.kind d t.0 (rules_of leaf f).set t.1 t.2.permitted
    form_shaped (octets sizing) f env (octet_string os) at bs t = t.second.given
    form_shaped (bits sizing) f env (bit_string cs) at bs t = refl
    form_shaped (text leaf) f env (characters cs) at bs t = text_octets leaf (text_rules leaf f).small leaf.ended env cs at bs t
    form_shaped (seq fields home) f env (record_of ps) at bs t = fields_shaped fields f _ ps (at + length t.spelled.front) t.spelled.back t.spelled.second
    form_shaped (list sizing g) f env (list_of es) at bs t = list_shaped (ending sizing.rule) sizing env g (Spell root mode g env) (node_shaped g f.1 env) es at bs t
    form_shaped (choice cases rule) f env (alt i d) at bs t = case_shaped cases f rule env i d (at + length t.front) t.back t.second
    form_shaped (contained sizing g) f env d at bs t = node_shaped g f.1 env d 0 t.spelled.second.inside.front t.spelled.second.inside.first
    form_shaped _ f env d at bs t = absurd t.0

    fields_shaped : (fs : Fields) → FieldsFine fs → (env : Env) (ps : Places) (at : ℕ) (bs : List Bool) → FieldsPart root mode fs env ps at bs → fields_fit fs ps ≡ true
    fields_shaped no_fields f env no_places at bs t = refl
    fields_shaped (component name g presence default own fs) f env (filled d ps) at bs t =
        and_from (fits g d) (fields_fit fs ps) (node_shaped g f.0 env d at t.front t.first.spelled) (fields_shaped fs f.1 env ps (at + length t.front) t.back t.second)
    fields_shaped (component name g presence default own fs) f env (empty ps) at bs t =
        and_from (may_be_absent presence) (fields_fit fs ps) (away_absent env presence t.given) (fields_shaped fs f.1 env ps at bs t.spelled)
    fields_shaped (inserted name g (Some s) fs) f env ps at bs t = fields_shaped fs f.1 env ps (at + length t.front) t.back t.second
    fields_shaped (inserted name g None fs) f env ps at bs t = fields_shaped fs f.1 env ps (at + length t.front) t.back t.second
    fields_shaped _ f env ps at bs t = absurd t.0

    case_shaped : (cases : Alternatives) → AlternativesFine cases → (rule : ChoiceRule) (env : Env) (i : ℕ) (d : Data) (at : ℕ) (bs : List Bool) → AlternativePart root mode cases rule env i d at bs → alternative_fits cases i d ≡ true
    case_shaped (alternative name g tests more) f rule env zero d at bs t = node_shaped g f.0 env d at bs t.spelled
    case_shaped (alternative name g tests more) f rule env (suc i) d at bs t = case_shaped more f.1 rule env i d at bs t
    case_shaped no_alternatives f rule env i d at bs t = absurd t.0

pub spelled_values_meet : SpelledValuesMeet
spelled_values_meet root mode d bs tree t = record { shaped = node_shaped root mode root (tree_fine root tree) [] d 0 bs t; none = unbreached root mode root [] [] d 0 bs t }
