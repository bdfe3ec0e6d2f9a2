-- A value is what its data say.
use Rattle.std.proofs.Common.{◌≡◌, ℕ, List, [], ◌∷◌, Option, Some, None, map, refl, sym, ap, ◌∙◌, subst, rules}
use Rattle.acn_grammar.specs.Grammar.{Data, Places, Elements, int, boolean, item, null, octet_string, bit_string, characters, record_of, list_of, alt, no_places, empty, filled, no_elements, element}
use Rattle.acn_grammar.specs.View.{data_of, places_view, elements_view}
use Rattle.acn_grammar.specs.declared.value.Value.{Value, Int, Bool, Item, Null, Octets, Bits, Text, Seq, List as List_value, Alt, the_lemmas, ind-Value, roll-Value, map-Value}
use Rattle.acn_grammar.specs.declared.value.Value.TheOpen.{Value-F}
use Rattle.acn_grammar.specs.declared.value.Value.TheVariants.{rolls-Seq, rolls-List, rolls-Alt}
use Rattle.acn_grammar.proofs.Views.{view_seq}

abbrev mutual
  pub value_of : Data → Value
  value_of (int x) = Int x
  value_of (boolean b) = Bool b
  value_of (item i) = Item i
  value_of null = Null
  value_of (octet_string os) = Octets os
  value_of (bit_string bs) = Bits bs
  value_of (characters cs) = Text cs
  value_of (record_of ps) = Seq (places_list ps)
  value_of (list_of es) = List_value (elements_list es)
  value_of (alt i d) = Alt i (value_of d)

  pub places_list : Places → List (Option Value)
  places_list no_places = []
  places_list (empty ps) = None ∷ places_list ps
  places_list (filled d ps) = Some (value_of d) ∷ places_list ps

  pub elements_list : Elements → List Value
  elements_list no_elements = []
  elements_list (element d es) = value_of d ∷ elements_list es

abbrev Back : Value → Type 0
Back v = value_of (data_of v) ≡ v

abbrev Held : Type 0
Held = (v : Value) × Back v

abbrev bare : Value-F Held → Value-F Value
bare = map-Value Held Value (λ e. e.0)

places_back : (g : Option Held → Option Value) → g None ≡ None → ((e : Held) → g (Some e) ≡ Some e.0) → (ys : List (Option Held)) → places_list (places_view (map g ys)) ≡ map g ys
places_back g n j [] = refl
places_back g n j (None ∷ ys) = rw n (ap (λ vs. None ∷ vs) (places_back g n j ys))
places_back g n j (Some e ∷ ys) = rw (j e, e.1, places_back g n j ys) refl

elements_back : (ys : List Held) → elements_list (elements_view (map (λ e. e.0) ys)) ≡ map (λ e. e.0) ys
elements_back [] = refl
elements_back (e ∷ ys) = rw (e.1, elements_back ys) refl

view_list : (vs : List Value) → data_of (List_value vs) ≡ list_of (elements_view vs)
view_list vs = search (rules, the_lemmas)

view_alt : (i : ℕ) (v : Value) → data_of (Alt i v) ≡ alt i (data_of v)
view_alt i v = search (rules, the_lemmas)

seq_back : (zs : List (Option Value)) → places_list (places_view zs) ≡ zs → Back (roll-Value (Value-F.Seq zs))
seq_back zs h = subst Back (sym (rolls-Seq zs)) (ap value_of (view_seq zs) ∙ ap Seq h)

list_back : (zs : List Value) → elements_list (elements_view zs) ≡ zs → Back (roll-Value (Value-F.List zs))
list_back zs h = subst Back (sym (rolls-List zs)) (ap value_of (view_list zs) ∙ ap List_value h)

alt_back : (i : ℕ) (v : Value) → Back v → Back (roll-Value (Value-F.Alt i v))
alt_back i v h = subst Back (sym (rolls-Alt i v)) (ap value_of (view_alt i v) ∙ ap (Alt i) h)

layer : (y : Value-F Held) → Back (roll-Value (bare y))
layer (Value-F.Int x) = search (rules, the_lemmas)
layer (Value-F.Bool b) = search (rules, the_lemmas)
layer (Value-F.Item i) = search (rules, the_lemmas)
layer Value-F.Null = search (rules, the_lemmas)
layer (Value-F.Octets os) = search (rules, the_lemmas)
layer (Value-F.Bits bs) = search (rules, the_lemmas)
layer (Value-F.Text cs) = search (rules, the_lemmas)
layer (Value-F.Seq ys) = seq_back _ (places_back _ refl (λ e. refl) ys)
layer (Value-F.List ys) = list_back _ (elements_back ys)
layer (Value-F.Alt i e) = alt_back i e.0 e.1

pub back : (v : Value) → Back v
back = ind-Value Back (λ x y is. subst (λ z. Back (roll-Value z)) is (layer y))

-- values with one data are one
pub same_data : (v w : Value) → data_of v ≡ data_of w → v ≡ w
same_data v w e = sym (back v) ∙ (ap value_of e ∙ back w)
