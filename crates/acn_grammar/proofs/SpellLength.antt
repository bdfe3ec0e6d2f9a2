-- A spelling has the length that the value and the position determine.
use Rattle.std.proofs.Math.Nat.{mod-add-mod, mod-eq_of_lt, add-mod_left, mod_self}
use native.Mathlib.Decide.{dec_lt}
use Rattle.std.proofs.Common.{◌⊎◌, inl, inr, ◌≡◌, ℕ, zero, suc, ◌+◌, ◌-◌, ◌*◌, ◌%◌, ◌<◌, ℤ, Bool, true, false, List, [], ◌∷◌, length, Option, Some, None, refl, sym, ap, ◌∙◌, arith, length-append, IsTrue}
use Rattle.acn_num.specs.Bits.{bits as bits_of, low_bits, octets as octets_for}
use Rattle.acn_num.specs.Ranges.{In}
use Rattle.acn_grammar.specs.Grammar.{Grammar, Form, Fields, Alternatives, Data, Places, Elements, node, num, octets, bits, text, seq, list, choice, contained, no_fields, component, inserted, no_alternatives, alternative, int, boolean, item, null, octet_string, bit_string, characters, record_of, list_of, alt, no_places, empty, filled, no_elements, element, element_count}
use Rattle.acn_grammar.specs.Code.{Mode, Code, NumberOf}
use Rattle.acn_grammar.specs.Env.{Env}
use Rattle.acn_grammar.specs.Length.{padding, bit_length, form_length, fields_length, num_length, number_of, presence_bits, rule_width, inserted_length, run_length, list_length, ending, alternative_length, least, text_length, index_width}
use Rattle.acn_grammar.specs.Leaves.{num_fine}
use Rattle.acn_grammar.specs.Spell.{Part, ◌then◌, Padding, Spell, FormPart, FieldsPart, SlotField, RunPart, RulePart, ListPart, EndedPart, Window, Fill, IndexPart, AlternativePart}
use Rattle.acn_grammar.specs.declared.node.NumKind.{NumKind}
use Rattle.acn_grammar.specs.declared.node.NumKind.TheVariants.{Integer, Boolean, Enumerated, Null}
use Rattle.acn_grammar.specs.declared.node.NumLeaf.{NumLeaf}
use Rattle.acn_grammar.specs.declared.node.TextLeaf.{TextLeaf}
use Rattle.acn_grammar.specs.declared.node.ChoiceRule.{ChoiceRule}
use Rattle.acn_grammar.specs.declared.node.ChoiceRule.TheVariants.{Index, Tests, Item}
use Rattle.acn_grammar.specs.declared.node.Sizing.{Sizing}
use Rattle.acn_grammar.specs.declared.node.SizeRule.{SizeRule}
use Rattle.acn_grammar.specs.declared.node.SizeRule.TheVariants.{Prefix, Slot, Ended}
use Rattle.acn_grammar.proofs.Characters.{characters_long}

pub then-length : {P Q : Part} {at : ℕ} {bs : List Bool} (t : (P then Q) at bs) → length bs ≡ length t.front + length t.back
then-length t = rw t.whole (length-append t.front t.back)

pub NumberOf-number_of : (k : NumKind) (d : Data) (x : ℤ) → NumberOf k d x → x ≡ number_of d
NumberOf-number_of Integer (int y) x h = h
NumberOf-number_of Boolean (boolean true) x h = h
NumberOf-number_of Boolean (boolean false) x h = h
NumberOf-number_of Enumerated (item i) x h = h
NumberOf-number_of Null null x h = h
NumberOf-number_of _ _ x h = absurd h

-- a multiple of a below twice a is 0 or a
multiple_below : (a n : ℕ) → n < a + a → n % a ≡ 0 → (n ≡ 0) ⊎ (n ≡ a)
multiple_below a n below h = elim (dec_lt n a) [
  | yes p ↦ inl (sym (mod-eq_of_lt p) ∙ h)
  | no p ↦
      let over : n ≡ a + (n - a) = omega arith in
      let small : n - a < a = omega arith in
      let rest : n - a ≡ 0 = sym (mod-eq_of_lt small) ∙ (sym (add-mod_left a (n - a)) ∙ (ap (λ x. x % a) (sym over) ∙ h)) in
      inr (omega arith)
]

padding_by : (a r p : ℕ) → r < a → p < a → (r + p ≡ 0) ⊎ (r + p ≡ a) → p ≡ (a - r) % a
padding_by a r p hr hp (inl e) =
    let none : p ≡ 0 = omega arith in
    let whole : a - r ≡ a = omega arith in
    none ∙ sym (ap (λ x. x % a) whole ∙ mod_self a)
padding_by a r p hr hp (inr e) =
    let is : a - r ≡ p = omega arith in
    sym (ap (λ x. x % a) is ∙ mod-eq_of_lt hp)

pub Padding-length : (mode : Mode) (align at : ℕ) (bs : List Bool) → Padding mode align at bs → length bs ≡ padding align at
Padding-length mode align at bs p =
    let r : at % align < align = omega (arith, p.fewest) in
    padding_by align (at % align) (length bs) r p.fewest
    (multiple_below align (at % align + length bs) (omega (arith, p.fewest)) (mod-add-mod at align (length bs) ∙ p.aligned))

pub then_sums : {P Q : Part} {at : ℕ} {bs : List Bool} (t : (P then Q) at bs) (m : ℕ) (f : ℕ → ℕ)
    → length t.front ≡ m → length t.back ≡ f (at + length t.front) → length bs ≡ m + f (at + m)
then_sums t m f a b = rw (← a) (then-length t ∙ ap (λ n. length t.front + n) b)

-- every code of the leaf has one length
abbrev pub OneWidth : NumLeaf → Type 0
OneWidth leaf = (x : ℤ) → In leaf.set x → num_length leaf x ≡ num_length leaf (least leaf.set)

abbrev pub SteadyLeaf : Grammar → Type 0
SteadyLeaf (node align (num leaf)) = IsTrue (num_fine leaf) × OneWidth leaf
SteadyLeaf _ = ⊥

-- every slot's leaf has one width
abbrev mutual
  pub Steady : Grammar → Type 0
  Steady (node align form) = SteadyForm form

  pub SteadyForm : Form → Type 0
  SteadyForm (num leaf) = IsTrue (num_fine leaf)
  SteadyForm (seq fields home) = SteadyFields fields
  SteadyForm (list sizing g) = Steady g
  SteadyForm (choice alternatives rule) = SteadyAlternatives alternatives
  SteadyForm (contained sizing g) = Steady g
  SteadyForm _ = Unit {0}

  pub SteadyFields : Fields → Type 0
  SteadyFields no_fields = Unit {0}
  SteadyFields (component name g presence default own fs) = Steady g × SteadyFields fs
  SteadyFields (inserted name g (Some s) fs) = SteadyLeaf g × SteadyFields fs
  SteadyFields (inserted name g None fs) = SteadyLeaf g × SteadyFields fs

  pub SteadyAlternatives : Alternatives → Type 0
  SteadyAlternatives no_alternatives = Unit {0}
  SteadyAlternatives (alternative name g tests more) = Steady g × SteadyAlternatives more

pub bits-length : (os : List ℕ) → length (bits_of os) ≡ 8 * length os
bits-length [] = refl
bits-length (o ∷ os) = omega (arith, length-append (low_bits 8 o) (bits_of os), bits-length os)

module _ (root : Grammar) (mode : Mode) (code-length : (leaf : NumLeaf) → IsTrue (num_fine leaf) → (x : ℤ) (bs : List Bool) → Code mode leaf x bs → length bs ≡ num_length leaf x) where
  pub rule-length : (rule : SizeRule) (env : Env) (n at : ℕ) (bs : List Bool) → RulePart rule env n at bs → length bs ≡ rule_width rule
  rule-length (Prefix low width) env n at bs p = p.spelled.width
  rule-length (Slot s) env n at bs p = ap length p.1
  rule-length (Ended q) env n at bs p = absurd p.0

  run-length : (each : Data → Part) (f : ℕ → Data → ℕ) → ((d : Data) (at : ℕ) (bs : List Bool) → each d at bs → length bs ≡ f at d)
      → (es : Elements) (at : ℕ) (bs : List Bool) → RunPart each es at bs → length bs ≡ run_length f at es
  run-length each f h no_elements at bs e = ap length e
  run-length each f h (element d es) at bs t =
      then_sums t (f at d) (λ n. run_length f n es) (h d at t.front t.first) (run-length each f h es (at + length t.front) t.back t.second)

  list-length : (end : Option (List Bool)) (sizing : Sizing) (env : Env) (each : Data → Part) (f : ℕ → Data → ℕ) → ((d : Data) (at : ℕ) (bs : List Bool) → each d at bs → length bs ≡ f at d)
      → (es : Elements) (at : ℕ) (bs : List Bool) → ListPart end sizing env each es at bs → length bs ≡ list_length end sizing.rule f at es
  list-length None sizing env each f h es at bs t =
      then_sums t (rule_width sizing.rule) (λ n. run_length f n es) (rule-length sizing.rule env (element_count es) at t.front t.first.spelled) (run-length each f h es (at + length t.front) t.back t.second)
  list-length (Some p) sizing env each f h es at bs t =
      then_sums t.spelled (run_length f at es) (λ n. length p) (run-length each f h es at t.spelled.front t.spelled.first) (ap length t.spelled.second)

  text-length : (end : Option (List Bool)) (leaf : TextLeaf) (env : Env) (cs : List ℕ) (at : ℕ) (bs : List Bool) → EndedPart end leaf env cs at bs → length bs ≡ text_length end leaf (length cs)
  text-length None leaf env cs at bs t =
      then_sums t (rule_width leaf.sized.rule) (λ n. leaf.width * length cs) (rule-length leaf.sized.rule env (length cs) at t.front t.first.spelled) (characters_long leaf cs (at + length t.front) t.back t.second)
  text-length (Some end) leaf env cs at bs t =
      then_sums t.spelled (leaf.width * length cs) (λ n. length end) (characters_long leaf cs at t.spelled.front t.spelled.first) (ap length t.spelled.second)

  num-length : (leaf : NumLeaf) → IsTrue (num_fine leaf) → OneWidth leaf → (align at : ℕ) (x : ℤ) (bs : List Bool) → (Padding mode align then (λ at' cs. Code mode leaf x cs)) at bs → length bs ≡ padding align at + num_length leaf (least leaf.set)
  num-length leaf f w align at x bs t =
      then_sums t (padding align at) (λ n. num_length leaf (least leaf.set)) (Padding-length mode align at t.front t.first) (code-length leaf f x t.back t.second ∙ w x t.second.permitted)

  pub slot-length : (g : Grammar) → SteadyLeaf g → (env : Env) (s at : ℕ) (bs : List Bool) → SlotField root mode g env s at bs → length bs ≡ inserted_length g at
  slot-length (node align (num leaf)) w env s at bs t = num-length leaf w.0 w.1 align at t.0 bs t.2
  slot-length (node align _) w env s at bs t = absurd w

  null-length : (g : Grammar) → SteadyLeaf g → (env : Env) (at : ℕ) (bs : List Bool) → Spell root mode g env null at bs → length bs ≡ inserted_length g at
  null-length (node align (num leaf)) w env at bs t =
      then_sums t (padding align at) (λ n. num_length leaf (least leaf.set)) (Padding-length mode align at t.front t.first) (code-length leaf w.0 t.second.0 t.back t.second.2 ∙ w.1 t.second.0 t.second.2.permitted)
  null-length (node align _) w env at bs t = absurd w

  window-length : (content : Part) (n at m : ℕ) (bs : List Bool) → ((cs : List Bool) → content 0 cs → length cs ≡ m) → Window content (Fill mode) n at bs → length bs ≡ 8 * octets_for m
  window-length content n at m bs h t =
      let l = h t.inside.front t.inside.first in
      omega (arith, t.size, then-length t.inside, l, t.inside.second.aligned, t.inside.second.few)

  index-length : (rule : ChoiceRule) (i at : ℕ) (bs : List Bool) → IndexPart root rule i at bs → length bs ≡ index_width rule
  index-length (Index width) i at bs p = p.width
  index-length Tests i at bs e = ap length e
  index-length (Item s) i at bs e = ap length e

  mutual
    pub spell-length : (g : Grammar) → Steady g → (env : Env) (d : Data) (at : ℕ) (bs : List Bool) → Spell root mode g env d at bs → length bs ≡ bit_length g at d
    spell-length (node align form) w env d at bs t =
        then_sums t (padding align at) (λ n. form_length form n d) (Padding-length mode align at t.front t.first) (form-length form w env d (at + length t.front) t.back t.second)

    form-length : (form : Form) → SteadyForm form → (env : Env) (d : Data) (at : ℕ) (bs : List Bool) → FormPart root mode form env d at bs → length bs ≡ form_length form at d
    form-length (num leaf) w env d at bs t = code-length leaf w t.0 bs t.2 ∙ ap (num_length leaf) (NumberOf-number_of leaf.kind d t.0 t.1)
    form-length (octets sizing) w env (octet_string os) at bs t =
        then_sums t (rule_width sizing.rule) (λ n. 8 * length os) (rule-length sizing.rule env (length os) at t.front t.first.spelled) (ap length t.second.spelled ∙ bits-length os)
    form-length (bits sizing) w env (bit_string cs) at bs t =
        then_sums t (rule_width sizing.rule) (λ n. length cs) (rule-length sizing.rule env (length cs) at t.front t.first.spelled) (ap length t.second)
    form-length (text leaf) w env (characters cs) at bs t = text-length leaf.ended leaf env cs at bs t
    form-length (seq fields home) w env (record_of ps) at bs t =
        then_sums t.spelled (length (presence_bits fields ps)) (λ n. fields_length fields n ps) (ap length t.spelled.first) (fields-length fields w _ ps (at + length t.spelled.front) t.spelled.back t.spelled.second)
    form-length (list sizing g) w env (list_of es) at bs t =
        list-length (ending sizing.rule) sizing env (Spell root mode g env) (bit_length g) (spell-length g w env) es at bs t
    form-length (choice alternatives rule) w env (alt i d) at bs t =
        then_sums t (index_width rule) (λ n. alternative_length alternatives i n d) (index-length rule i at t.front t.first) (alternative-length alternatives w rule env i d (at + length t.front) t.back t.second)
    form-length (contained sizing g) w env d at bs t =
        then_sums t.spelled (rule_width sizing.rule) (λ n. 8 * octets_for (bit_length g 0 d)) (rule-length sizing.rule env t.some at t.spelled.front t.spelled.first.spelled) (window-length (Spell root mode g env d) t.some _ (bit_length g 0 d) t.spelled.back (λ cs h. spell-length g w env d 0 cs h) t.spelled.second)
    form-length _ w env d at bs t = absurd t.0

    fields-length : (fs : Fields) → SteadyFields fs → (env : Env) (ps : Places) (at : ℕ) (bs : List Bool) → FieldsPart root mode fs env ps at bs → length bs ≡ fields_length fs at ps
    fields-length no_fields w env no_places at bs e = ap length e
    fields-length (component name g presence default own fs) w env (filled d ps) at bs t =
        then_sums t (bit_length g at d) (λ n. fields_length fs n ps) (spell-length g w.0 env d at t.front t.first.spelled) (fields-length fs w.1 env ps (at + length t.front) t.back t.second)
    fields-length (component name g presence default own fs) w env (empty ps) at bs t = fields-length fs w.1 env ps at bs t.spelled
    fields-length (inserted name g (Some s) fs) w env ps at bs t =
        then_sums t (inserted_length g at) (λ n. fields_length fs n ps) (slot-length g w.0 env s at t.front t.first) (fields-length fs w.1 env ps (at + length t.front) t.back t.second)
    fields-length (inserted name g None fs) w env ps at bs t =
        then_sums t (inserted_length g at) (λ n. fields_length fs n ps) (null-length g w.0 env at t.front t.first) (fields-length fs w.1 env ps (at + length t.front) t.back t.second)
    fields-length _ w env ps at bs t = absurd t.0

    alternative-length : (as' : Alternatives) → SteadyAlternatives as' → (rule : ChoiceRule) (env : Env) (i : ℕ) (d : Data) (at : ℕ) (bs : List Bool) → AlternativePart root mode as' rule env i d at bs → length bs ≡ alternative_length as' i at d
    alternative-length (alternative name g tests more) w rule env zero d at bs t = spell-length g w.0 env d at bs t.spelled
    alternative-length (alternative name g tests more) w rule env (suc i) d at bs t = alternative-length more w.1 rule env i d at bs t
    alternative-length no_alternatives w rule env i d at bs t = absurd t.0
