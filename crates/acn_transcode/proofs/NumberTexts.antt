-- The texts of the numbers of leaves.
use Rattle.std.proofs.Common.{◌≡◌, ℕ, zero, suc, ◌^◌, ◌-◌, ◌<◌, ℤ, pos, negsuc, Bool, true, false, List, [], ◌++◌, length, Option, refl, sym, ap, ◌∙◌, arith, ◌&&◌, IsTrue, subst}
use Rattle.std.specs.Prelude.{◌≤ℤ◌, ◌<ℤ◌, nat_abs, nat_lt}
use Rattle.std.specs.Ordering.{int_eq}
use Rattle.std.specs.Fmt.{signed_decimal}
use Rattle.std.proofs.lemmas.Int.{ints}
use Rattle.std.proofs.lemmas.Bool.{and_parts}
use Rattle.json.specs.Token as token
use Rattle.json.specs.Print.{quoted, token_text}
use Rattle.serde_json.specs.Written.{compact_text}
use Rattle.acn_num.specs.Ranges.{In}
use Rattle.acn_bits.specs.Reading.{Reading, Reads}
use Rattle.acn_grammar.specs.Code.{Any, Code, NumberOf}
use Rattle.acn_grammar.specs.Grammar.{Data, num, int, boolean, item, null}
use Rattle.acn_grammar.specs.ItemsNamed.{FormItemsNamed}
use Rattle.acn_grammar.specs.Leaves.{num_fine, set_fine, is_range, no_items, items_fine}
use Rattle.acn_grammar.specs.Length.{number_of}
use Rattle.acn_reads.specs.Steps.{noted_by}
use Rattle.acn_transcode.specs.Puts.{Puts}
use Rattle.acn_transcode.specs.declared.draft.Draft.{Draft}
use Rattle.acn_grammar.specs.declared.node.NumKind.{NumKind}
use Rattle.acn_grammar.specs.declared.node.NumKind.TheVariants.{Integer, Boolean, Enumerated, Null}
use Rattle.acn_grammar.specs.declared.node.NumLeaf.{NumLeaf}
use Rattle.acn_grammar.proofs.FineLeaves.{rules_of}
use Rattle.acn_json.specs.Lines.{item_name, num_json}
use Rattle.acn_reads.proofs.Small.{in_range, few_items, null_number, number_is}

-- the text of a value with this number was put
abbrev pub Said : NumKind → List (List ℕ × ℤ) → ℤ → (old new : List ℕ) → Type 0
Said kind items x old new = (d : Data) × NumberOf kind d x × (new ≡ old ++ compact_text (num_json kind items d))

set_rules : (leaf : NumLeaf) (kind : NumKind) → IsTrue (num_fine leaf) → leaf.kind ≡ kind → set_fine kind leaf.coding leaf.items leaf.table leaf.set ≡ true
set_rules leaf kind fine is = subst (λ (k : NumKind). set_fine k leaf.coding leaf.items leaf.table leaf.set ≡ true) is (rules_of leaf fine).set

digits : (x : ℤ) → signed_decimal x ≡ compact_text (num_json Integer [] (int x))
digits (pos n) = refl
digits (negsuc n) = refl

pub integer_said : (leaf : NumLeaf) (x : ℤ) (old new : List ℕ) → leaf.kind ≡ Integer → new ≡ old ++ signed_decimal x → Said leaf.kind leaf.items.items x old new
integer_said leaf x old new is e = subst (λ (k : NumKind). Said k leaf.items.items x old new) (sym is) (int x, refl, e ∙ ap (λ t. old ++ t) (digits x))

truth_number : (x : ℤ) (b : Bool) → int_eq x (pos 1) ≡ b → (pos 0 ≤ℤ x) × (x ≤ℤ pos 1) → NumberOf Boolean (boolean b) x
truth_number (pos zero) true e r = absurd (cc)
truth_number (pos zero) false e r = refl
truth_number (pos (suc zero)) true e r = refl
truth_number (pos (suc zero)) false e r = absurd (cc)
truth_number (pos (suc (suc n))) b e r = (let k = r.1 in absurd (omega (arith, ints)))
truth_number (negsuc n) b e r = (let k = r.0 in absurd (omega (arith, ints)))

pub truth_said : (leaf : NumLeaf) (x : ℤ) (b : Bool) (old new : List ℕ) → IsTrue (num_fine leaf) → In leaf.set x → leaf.kind ≡ Boolean → int_eq x (pos 1) ≡ b → new ≡ old ++ token_text (token.boolean b) → Said leaf.kind leaf.items.items x old new
truth_said leaf x b old new fine p is t e =
    let r = in_range (pos 0) (pos 1) leaf.set x (and_parts (is_range (pos 0) (pos 1) leaf.set) (no_items leaf.items) (set_rules leaf Boolean fine is)).0 p in
    subst (λ (k : NumKind). Said k leaf.items.items x old new) (sym is) (boolean b, truth_number x b t r, e)

-- the number of an item
pub item_small : (leaf : NumLeaf) (x : ℤ) → IsTrue (num_fine leaf) → FormItemsNamed (num leaf) → In leaf.set x → leaf.kind ≡ Enumerated → (pos 0 ≤ℤ x) × (x <ℤ pos (2 ^ 32))
item_small leaf x fine named p is =
    let n = length leaf.items.items in
    let f = and_parts (nat_lt 0 n) (is_range (pos 0) (pos (n - 1)) leaf.set && items_fine leaf.coding leaf.items) (set_rules leaf Enumerated fine is) in
    let r = in_range (pos 0) (pos (n - 1)) leaf.set x (and_parts (is_range (pos 0) (pos (n - 1)) leaf.set) (items_fine leaf.coding leaf.items) f.1).0 p in
    (r.0, below n x (few_items leaf named) r.1)
  where
    below : (n : ℕ) (x : ℤ) → n < 2 ^ 32 → x ≤ℤ pos (n - 1) → x <ℤ pos (2 ^ 32)
    below n x few r = omega (arith, ints)

natural_is : (x : ℤ) → pos 0 ≤ℤ x → x ≡ pos (nat_abs x)
natural_is x h = omega (arith, ints)

pub item_said : (leaf : NumLeaf) (x : ℤ) (old new : List ℕ) → IsTrue (num_fine leaf) → FormItemsNamed (num leaf) → In leaf.set x → leaf.kind ≡ Enumerated → new ≡ old ++ quoted (item_name leaf.items.items (nat_abs x)) → Said leaf.kind leaf.items.items x old new
item_said leaf x old new fine named p is e =
    subst (λ (k : NumKind). Said k leaf.items.items x old new) (sym is) (item (nat_abs x), natural_is x (item_small leaf x fine named p is).0, e)

pub null_said : (leaf : NumLeaf) (x : ℤ) (old new : List ℕ) → IsTrue (num_fine leaf) → In leaf.set x → leaf.kind ≡ Null → new ≡ old ++ token_text token.null → Said leaf.kind leaf.items.items x old new
null_said leaf x old new fine p is e = subst (λ (k : NumKind). Said k leaf.items.items x old new) (sym is) (null, subst (λ (k : NumKind). NumberOf k null x) is (null_number leaf x fine is p), e)

-- the number was read, its value put, and the number noted
abbrev pub LeafPut : NumLeaf → Option ℕ → Reading → Reading → Draft → Draft → Type 0
LeafPut leaf slot cur cur' draft draft' = (d : Data) × Reads (λ bs. (x : ℤ) × NumberOf leaf.kind d x × Code Any leaf x bs) cur cur' × Puts (compact_text (num_json leaf.kind leaf.items.items d)) draft draft' × (draft'.slots.items ≡ noted_by slot (number_of d) draft.slots.items)

pub leaf_put : (leaf : NumLeaf) (slot : Option ℕ) (x : ℤ) (cur cur' : Reading) (draft draft' : Draft) → Reads (Code Any leaf x) cur cur' → Said leaf.kind leaf.items.items x draft.text.items draft'.text.items → draft'.aside ≡ draft.aside → draft'.parts ≡ draft.parts → draft'.slots.items ≡ noted_by slot x draft.slots.items → LeafPut leaf slot cur cur' draft draft'
leaf_put leaf slot x cur cur' draft draft' read said aside parts noted = (
  said.0,
  record { front = read.front; split = read.split; moved = read.moved; window = read.window; holds = (x, said.1, read.holds) },
  record { added = said.2; aside = ap (λ v. v.items) aside; parts = ap (λ v. v.items) parts },
  noted ∙ ap (λ y. noted_by slot y draft.slots.items) (sym (number_is leaf.kind said.0 x said.1)),
)

-- a number was read, so its value was
pub value_read : (leaf : NumLeaf) (d : Data) (x : ℤ) (cur cur' : Reading) → NumberOf leaf.kind d x → Reads (Code Any leaf x) cur cur' → Reads (λ bs. (x : ℤ) × NumberOf leaf.kind d x × Code Any leaf x bs) cur cur'
value_read leaf d x cur cur' is read = record { front = read.front; split = read.split; moved = read.moved; window = read.window; holds = (x, is, read.holds) }

-- the value of a number
abbrev value_of : NumKind → ℤ → Data
value_of Integer x = int x
value_of Boolean x = boolean (int_eq x (pos 1))
value_of Enumerated x = item (nat_abs x)
value_of Null x = null

is_value : (kind : NumKind) (d : Data) (x : ℤ) → NumberOf kind d x → d ≡ value_of kind x
is_value Integer (int y) x h = ap int (sym h)
is_value Boolean (boolean true) x h = ap (λ z. boolean (int_eq z (pos 1))) (sym h)
is_value Boolean (boolean false) x h = ap (λ z. boolean (int_eq z (pos 1))) (sym h)
is_value Enumerated (item i) x h = ap (λ z. item (nat_abs z)) (sym h)
is_value Null null x h = refl
is_value _ _ x h = absurd h

-- only one value has a number
one_value : (kind : NumKind) (d e : Data) (x : ℤ) → NumberOf kind d x → NumberOf kind e x → d ≡ e
one_value kind d e x h k = is_value kind d x h ∙ sym (is_value kind e x k)

-- a leaf's number is that of a value
pub value_there : (leaf : NumLeaf) (x : ℤ) → IsTrue (num_fine leaf) → FormItemsNamed (num leaf) → In leaf.set x → (d : Data) × NumberOf leaf.kind d x
value_there leaf x fine named p = of leaf.kind refl
  where
    said : (kind : NumKind) (d : Data) → leaf.kind ≡ kind → NumberOf kind d x → (d : Data) × NumberOf leaf.kind d x
    said kind d is v = (d, subst (λ (k : NumKind). NumberOf k d x) (sym is) v)

    of : (kind : NumKind) → leaf.kind ≡ kind → (d : Data) × NumberOf leaf.kind d x
    of Integer is = said Integer (int x) is refl
    of Boolean is = said Boolean (boolean (int_eq x (pos 1))) is (truth_number x (int_eq x (pos 1)) refl (in_range (pos 0) (pos 1) leaf.set x (and_parts (is_range (pos 0) (pos 1) leaf.set) (no_items leaf.items) (set_rules leaf Boolean fine is)).0 p))
    of Enumerated is = said Enumerated (item (nat_abs x)) is (natural_is x (item_small leaf x fine named p is).0)
    of Null is = (null, null_number leaf x fine is p)

-- the value of a number was put, and so the one value that has it
pub value_said : (leaf : NumLeaf) (x : ℤ) (d : Data) (old new : List ℕ) → NumberOf leaf.kind d x → Said leaf.kind leaf.items.items x old new → new ≡ old ++ compact_text (num_json leaf.kind leaf.items.items d)
value_said leaf x d old new is said = said.2 ∙ ap (λ v. old ++ compact_text (num_json leaf.kind leaf.items.items v)) (one_value leaf.kind said.0 d x said.1 is)
