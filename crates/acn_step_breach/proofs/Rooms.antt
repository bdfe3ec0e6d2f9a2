-- In a tree that can be decoded each path can be written down.
use Rattle.std.proofs.Common.{◌≡◌, ℕ, suc, ◌+◌, pos, List, ◌++◌, length, Some, None, refl, ap, arith, nat_lt, ◌&&◌, IsTrue}
use Rattle.std.proofs.lemmas.Bool.{and_parts}
use Rattle.std.proofs.lemmas.Int.{ints}
use Rattle.acn_num.specs.Ranges.{are_ranges, all_within}
use Rattle.acn_grammar.specs.Grammar.{Grammar, Form, Fields, Alternatives, node, num, octets, bits, text, seq, list, choice, contained, no_fields, component, inserted, no_alternatives, alternative}
use Rattle.acn_grammar.specs.Leaves.{list_fine, list_rule_fine, sizes_fine}
use Rattle.acn_grammar.specs.Length.{ending}
use Rattle.acn_grammar.specs.Scoped.{Known, with_slot, with_own, choose_known, after}
use Rattle.acn_grammar.specs.Sound.{Sound, FormSound, FieldsSound, AlternativesSound}
use Rattle.acn_grammar.specs.Sound as sound
use Rattle.acn_grammar.specs.declared.node.Sizing.{Sizing}
use Rattle.acn_grammar.proofs.RangeEnds.{lies_within}
use Rattle.acn_tree.specs.Room.{HasRoom, FormHasRoom, FieldsHaveRoom, AlternativesHaveRoom, SizesAreSmall, field_count}

small_sizes : (sizing : Sizing) → IsTrue (list_fine sizing) → SizesAreSmall sizing
small_sizes sizing h n m =
    let a = and_parts (sizes_fine sizing.sizes) (list_rule_fine (ending sizing.rule) sizing) h in
    let b = and_parts (nat_lt 0 (length sizing.sizes)) (are_ranges sizing.sizes && all_within (pos 0) (pos 65536) sizing.sizes) a.0 in
    let c = and_parts (are_ranges sizing.sizes) (all_within (pos 0) (pos 65536) sizing.sizes) b.1 in
    let e = (lies_within sizing.sizes (pos 0) (pos 65536) (pos n) c.1 m).1 in
    omega (arith, ints)

count_is : (fs : Fields) → field_count fs ≡ sound.field_count fs
count_is no_fields = refl
count_is (component name g presence default own fs) = ap suc (count_is fs)
count_is (inserted name g slot fs) = ap suc (count_is fs)

-- The parts of tuples, by name.

first_two : {A B : Type 0} → A × B → A
first_two p = p.0

last_two : {A B : Type 0} → A × B → B
last_two p = p.1

second_three : {A B C : Type 0} → A × B × C → B
second_three p = p.1

last_three : {A B C : Type 0} → A × B × C → C
last_three p = p.2

third_four : {A B C D : Type 0} → A × B × C × D → C
third_four p = p.2

last_four : {A B C D : Type 0} → A × B × C × D → D
last_four p = p.3

first_five : {A B C D E : Type 0} → A × B × C × D × E → A
first_five p = p.0

fourth_five : {A B C D E : Type 0} → A × B × C × D × E → D
fourth_five p = p.3

last_five : {A B C D E : Type 0} → A × B × C × D × E → E
last_five p = p.4

module _ (root : Grammar) where
  mutual
    pub room_node : (g : Grammar) (k : ℕ) (around : List ℕ) (ks : Known) → Sound root k around ks g → HasRoom k g
    room_node (node align form) k around ks h = (second_three h, room_form form k around ks (last_three h))

    room_form : (form : Form) (k : ℕ) (around : List ℕ) (ks : Known) → FormSound root k around ks form → FormHasRoom k form
    room_form (num leaf) k around ks h = tt
    room_form (octets sizing) k around ks h = tt
    room_form (bits sizing) k around ks h = tt
    room_form (text leaf) k around ks h = tt
    room_form (seq fields home) k around ks h = (let few = (first_two h).few_fields in let e = count_is fields in omega (arith, few, e), room_fields fields (suc k) (home ++ around) ks (last_two h))
    room_form (list sizing g) k around ks h = (small_sizes sizing (first_five h), room_node g (suc k) around ks (last_five h))
    room_form (choice cases rule) k around ks h = room_cases cases (suc k) around ks (last_four h)
    room_form (contained sizing g) k around ks h = room_node g (suc k) around ks (last_four h)

    room_fields : (fs : Fields) (k : ℕ) (around : List ℕ) (ks : Known) → FieldsSound root k around ks fs → FieldsHaveRoom k fs
    room_fields no_fields k around ks h = tt
    room_fields (component name g presence default own fs) k around ks h = (room_node g k around ks (fourth_five h), room_fields fs k around (choose_known presence ks (with_own own (after ks g))) (last_five h))
    room_fields (inserted name g (Some s) fs) k around ks h = (room_node g k around ks (third_four h), room_fields fs k around (with_slot s ks) (last_four h))
    room_fields (inserted name g None fs) k around ks h = (room_node g k around ks (second_three h), room_fields fs k around ks (last_three h))

    room_cases : (cases : Alternatives) (k : ℕ) (around : List ℕ) (ks : Known) → AlternativesSound root k around ks cases → AlternativesHaveRoom k cases
    room_cases no_alternatives k around ks h = tt
    room_cases (alternative name g tests more) k around ks h = (room_node g k around ks (second_three h), room_cases more k around ks (last_three h))
