-- The rules of a sound tree give all that the walk takes.
use Rattle.std.proofs.Common.{◌≡◌, ℕ, zero, suc, ◌<◌, ◌≤◌, ◌^◌, true, List, ◌++◌, Some, None, arith}
use Rattle.std.proofs.lemmas.Bool.{and_parts}
use Rattle.acn_grammar.specs.Fails.{count_of}
use Rattle.acn_grammar.specs.Grammar.{Grammar, Form, Fields, Alternatives, node, num, octets, bits, text, seq, list, choice, contained, no_fields, component, inserted, no_alternatives, alternative}
use Rattle.acn_grammar.specs.Leaves.{sizes_fine, rule_fine, list_rule_fine}
use Rattle.acn_grammar.specs.Length.{ending}
use Rattle.acn_grammar.specs.Scoped.{Known, with_slot, with_own, after, choose_known}
use Rattle.acn_grammar.specs.Sound.{Sound, FormSound, FieldsSound, AlternativesSound}
use Rattle.acn_grammar.specs.Tree.{is_align}
use Rattle.acn_grammar.specs.declared.limits.TheConstants.{MOST_NODES}
use Rattle.acn_single.proofs.Tuples.{first_two, last_two, first_three, second_three, last_three, second_four, third_four, last_four, first_five, fourth_five, last_five}
use Rattle.acn_extremes.specs.Ways.{CanMake, FormCanMake, FieldsCanMake, AlternativesCanMake}

some_align : (n : ℕ) → is_align n ≡ true → 0 < n
some_align zero h = cc
some_align (suc n) h = omega arith

module _ (root : Grammar) where
  mutual
    pub can_make : (g : Grammar) (k : ℕ) (around : List ℕ) (ks : Known) → Sound root k around ks g → CanMake g
    can_make (node align form) k around ks s = (some_align align (first_three s), form_can_make form k around ks (last_three s))

    form_can_make : (form : Form) (k : ℕ) (around : List ℕ) (ks : Known) → FormSound root k around ks form → FormCanMake form
    form_can_make (num leaf) k around ks s = s
    form_can_make (octets z) k around ks s = (and_parts (sizes_fine z.sizes) (rule_fine z.sizes z.rule) (first_two s)).0
    form_can_make (bits z) k around ks s = (and_parts (sizes_fine z.sizes) (rule_fine z.sizes z.rule) (first_two s)).0
    form_can_make (text leaf) k around ks s = first_two s
    form_can_make (seq fs home) k around ks s = fields_can_make fs (suc k) (home ++ around) ks (last_two s)
    form_can_make (list z g) k around ks s = ((and_parts (sizes_fine z.sizes) (list_rule_fine (ending z.rule) z) (first_five s)).0, can_make g (suc k) around ks (last_five s))
    form_can_make (choice cases rule) k around ks s = (let few = second_four s in few_32 (count_of cases) few, cases_can_make cases (suc k) around ks (last_four s))
      where
        few_32 : (n : ℕ) → n ≤ MOST_NODES → n < 2 ^ 32
        few_32 n h = omega arith
    form_can_make (contained z g) k around ks s = can_make g (suc k) around ks (last_four s)

    fields_can_make : (fs : Fields) (k : ℕ) (around : List ℕ) (ks : Known) → FieldsSound root k around ks fs → FieldsCanMake fs
    fields_can_make no_fields k around ks s = tt
    fields_can_make (component n g p def own fs) k around ks s = (can_make g k around ks (fourth_five s), fields_can_make fs k around (choose_known p ks (with_own own (after ks g))) (last_five s))
    fields_can_make (inserted n g (Some t) fs) k around ks s = (can_make g k around ks (third_four s), fields_can_make fs k around (with_slot t ks) (last_four s))
    fields_can_make (inserted n g None fs) k around ks s = (can_make g k around ks (second_three s), fields_can_make fs k around ks (last_three s))

    cases_can_make : (cases : Alternatives) (k : ℕ) (around : List ℕ) (ks : Known) → AlternativesSound root k around ks cases → AlternativesCanMake cases
    cases_can_make no_alternatives k around ks s = tt
    cases_can_make (alternative n g ts more) k around ks s = (can_make g k around ks (second_three s), cases_can_make more k around ks (last_three s))
