-- Values of sound nodes that meet their constraints can be measured.
use Rattle.std.proofs.Common.{◌≡◌, ℕ, zero, suc, ◌<◌, Bool, true, false, List, [], ◌∷◌, ◌++◌, refl, arith, ◌&&◌}
use Rattle.std.specs.Prelude.{IsTrue, ℤ, ◌≤ℤ◌, Some, None, nat_lt, length}
use Rattle.acn_num.specs.Ranges.{has}
use Rattle.acn_grammar.specs.Grammar.{Grammar, Form, Fields, Alternatives, Data, Places, Elements, node, num, octets, bits, text, seq, list, choice, contained, no_fields, component, inserted, no_alternatives, alternative, record_of, list_of, alt, no_places, empty, filled, no_elements, element, element_count}
use Rattle.acn_grammar.specs.Leaves.{num_fine, set_fine}
use Rattle.acn_grammar.specs.Length.{least, number_of}
use Rattle.acn_grammar.specs.Meets.{Why, Unfit, unless, at_path, size_breach, out_of_range, breaches, form_breaches, field_breaches, alternative_breaches, run_breaches}
use Rattle.acn_grammar.specs.Scoped.{Known}
use Rattle.acn_grammar.specs.Sound.{Sound, FormSound, FieldsSound, AlternativesSound}
use Rattle.acn_grammar.specs.Tree.{is_align}
use Rattle.acn_grammar.specs.declared.node.Items.{Items}
use Rattle.acn_grammar.specs.declared.node.NumCoding.{NumCoding}
use Rattle.acn_grammar.specs.declared.node.NumKind.{NumKind}
use Rattle.acn_grammar.specs.declared.node.NumKind.TheVariants.{Integer, Boolean, Enumerated, Null}
use Rattle.acn_grammar.specs.declared.node.NumLeaf.{NumLeaf}
use Rattle.acn_grammar.specs.declared.node.Table.{Table}
use Rattle.std.specs.Prelude.{Option}
use Rattle.acn_grammar.proofs.FineLeaves.{rules_of}
use Rattle.acn_grammar.proofs.HasImage.{set_ordered, Ordered}
use Rattle.acn_grammar.proofs.RangeEnds.{first_in}
use Rattle.acn_lengths.specs.Measured.{CanMeasure, CanMeasureForm, CanMeasureFields, CanMeasureField, CanMeasureEach, CanMeasureCase, SoundValuesCanBeMeasured}

last_three : {A B C : Type 0} → A × B × C → C
last_three h = h.2

second_three : {A B C : Type 0} → A × B × C → B
second_three h = h.1

last_four : {A B C D : Type 0} → A × B × C × D → D
last_four h = h.3

third_four : {A B C D : Type 0} → A × B × C × D → C
third_four h = h.2

last_five : {A B C D E : Type 0} → A × B × C × D × E → E
last_five h = h.4

fourth_five : {A B C D E : Type 0} → A × B × C × D × E → D
fourth_five h = h.3

first_three : {A B C : Type 0} → A × B × C → A
first_three h = h.0

last_two : {A B : Type 0} → A × B → B
last_two h = h.1

some_align : (n : ℕ) → is_align n ≡ true → 0 < n
some_align zero h = cc
some_align (suc n) h = omega arith

-- a set that keeps its rules has a least number
set_there : (kind : NumKind) (coding : NumCoding) (items : Items) (table : Option Table) (set : List (ℤ × ℤ)) → set_fine kind coding items table set ≡ true → has set (least set) ≡ true
set_there Integer coding items table [] h = cc
set_there Boolean coding items table [] h = cc
set_there Enumerated coding items table [] h = absurd (none (nat_lt 0 (length items.items)) h)
  where
    none : (b : Bool) → (b && false) ≡ true → ⊥
    none true h = cc
    none false h = cc
set_there Null coding items table [] h = cc
set_there kind coding items table (r ∷ rs) h = first_in r rs (below (set_ordered kind coding items table (r ∷ rs) h))
  where
    below : Ordered (r ∷ rs) → r.0 ≤ℤ r.1
    below o = o.0

least_in : (leaf : NumLeaf) → IsTrue (num_fine leaf) → has leaf.set (least leaf.set) ≡ true
least_in leaf fine = set_there leaf.kind leaf.coding leaf.items leaf.table leaf.set (rules_of leaf fine).set

-- Breaches that aren't there.

front_none : (a b : List Unfit) → a ++ b ≡ [] → a ≡ []
front_none [] b e = refl
front_none (x ∷ a) b e = cc

back_none : (a b : List Unfit) → a ++ b ≡ [] → b ≡ []
back_none [] b e = e
back_none (x ∷ a) b e = cc

is_in : (path : List ℕ) (b : Bool) (why : Why) → at_path path (unless b why) ≡ [] → b ≡ true
is_in path true why e = refl
is_in path false why e = cc

module _ (root : Grammar) where
  field_measured : (g : Grammar) (k : ℕ) (around : List ℕ) (ks : Known) → Sound root k around ks g → CanMeasureField g
  field_measured (node align (num leaf)) k around ks s = (some_align align (first_three s), last_three s, least_in leaf (last_three s))
  field_measured (node align (octets sizing)) k around ks s = tt
  field_measured (node align (bits sizing)) k around ks s = tt
  field_measured (node align (text leaf)) k around ks s = tt
  field_measured (node align (seq fields home)) k around ks s = tt
  field_measured (node align (list sizing g)) k around ks s = tt
  field_measured (node align (choice cases rule)) k around ks s = tt
  field_measured (node align (contained sizing g)) k around ks s = tt

  each_measured : (g : Grammar) → ((path : List ℕ) (d : Data) → breaches path g d ≡ [] → CanMeasure g d) → (path : List ℕ) (n : ℕ) (es : Elements) → run_breaches (λ k d. breaches (path ++ k ∷ []) g d) n es ≡ [] → CanMeasureEach (CanMeasure g) es
  each_measured g h path n no_elements e = tt
  each_measured g h path n (element d es) e =
      let here = breaches (path ++ n ∷ []) g d in
      let rest = run_breaches (λ k d. breaches (path ++ k ∷ []) g d) (suc n) es in
      (h (path ++ n ∷ []) d (front_none here rest e), each_measured g h path (suc n) es (back_none here rest e))

  mutual
    pub measured : (g : Grammar) (k : ℕ) (around : List ℕ) (ks : Known) → Sound root k around ks g → (path : List ℕ) (d : Data) → breaches path g d ≡ [] → CanMeasure g d
    measured (node align form) k around ks s path d e = (some_align align (first_three s), form_measured form k around ks (last_three s) path d e)

    form_measured : (form : Form) (k : ℕ) (around : List ℕ) (ks : Known) → FormSound root k around ks form → (path : List ℕ) (d : Data) → form_breaches path form d ≡ [] → CanMeasureForm form d
    form_measured (num leaf) k around ks s path d e = (s, is_in path (has leaf.set (number_of d)) (out_of_range (number_of d)) e)
    form_measured (seq fields home) k around ks s path (record_of ps) e = fields_measured fields (suc k) (home ++ around) ks (last_two s) path 0 ps e
    form_measured (list sizing g) k around ks s path (list_of es) e =
        each_measured g (λ p d b. measured g (suc k) around ks (last_five s) p d b) path 0 es
        (back_none (at_path path (size_breach sizing (element_count es))) (run_breaches (λ n d. breaches (path ++ n ∷ []) g d) 0 es) e)
    form_measured (choice cases rule) k around ks s path (alt i d) e = case_measured cases (suc k) around ks (last_four s) path i i d e
    form_measured (contained sizing g) k around ks s path d e = measured g (suc k) around ks (last_four s) (path ++ 0 ∷ []) d e
    form_measured _ k around ks s path d e = tt

    fields_measured : (fs : Fields) (k : ℕ) (around : List ℕ) (ks : Known) → FieldsSound root k around ks fs → (path : List ℕ) (n : ℕ) (ps : Places) → field_breaches path n fs ps ≡ [] → CanMeasureFields fs ps
    fields_measured no_fields k around ks s path n ps e = tt
    fields_measured (component name g presence default own fs) k around ks s path n (filled d ps) e =
        let here = breaches (path ++ n ∷ []) g d in
        let rest = field_breaches path (suc n) fs ps in
        (measured g k around ks (fourth_five s) (path ++ n ∷ []) d (front_none here rest e), fields_measured fs k around _ (last_five s) path (suc n) ps (back_none here rest e))
    fields_measured (component name g presence default own fs) k around ks s path n (empty ps) e = fields_measured fs k around _ (last_five s) path (suc n) ps e
    fields_measured (component name g presence default own fs) k around ks s path n no_places e = tt
    fields_measured (inserted name g (Some slot) fs) k around ks s path n ps e = (field_measured g k around ks (third_four s), fields_measured fs k around _ (last_four s) path (suc n) ps e)
    fields_measured (inserted name g None fs) k around ks s path n ps e = (field_measured g k around ks (second_three s), fields_measured fs k around _ (last_three s) path (suc n) ps e)

    case_measured : (cases : Alternatives) (k : ℕ) (around : List ℕ) (ks : Known) → AlternativesSound root k around ks cases → (path : List ℕ) (i j : ℕ) (d : Data) → alternative_breaches path i cases j d ≡ [] → CanMeasureCase cases j d
    case_measured (alternative name g tests more) k around ks s path i zero d e = measured g k around ks (second_three s) (path ++ i ∷ []) d e
    case_measured (alternative name g tests more) k around ks s path i (suc j) d e = case_measured more k around ks (last_three s) path i j d e
    case_measured no_alternatives k around ks s path i j d e = tt

pub sound_values_measured : SoundValuesCanBeMeasured
sound_values_measured root k around ks g s d m = measured root g k around ks s [] d m.none
