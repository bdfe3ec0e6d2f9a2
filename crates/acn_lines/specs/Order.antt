-- The order in which the members of objects are printed, made once for all values of a tree. (This profile's own.)
use Rattle.std.specs.Prelude.{◌≡◌, IsTrue, ℕ, zero, suc, List, [], ◌∷◌, ◌++◌, Option, Some, None, IfSome}
use Rattle.json.specs.Print.{quoted}
use Rattle.serde_json.specs.Data.{Members, no_members, member}
use Rattle.serde_json.specs.Data as json
use Rattle.acn_grammar.specs.Grammar.{Grammar, Form, Fields, Alternatives, Data, Places, node, num, seq, list, choice, contained, no_fields, component, inserted, no_alternatives, alternative, no_places, empty, filled}
use Rattle.acn_grammar.specs.View.{OneField, a_component, an_inserted}
use Rattle.acn_grammar.specs.declared.node.NumLeaf.{NumLeaf}
use Rattle.acn_cut.specs.Cuts.{IsCut}
use Rattle.acn_cut.specs.Stretches.{AreStretches}
use Rattle.acn_json.specs.Lines.{json_of, fields_json}
use Rattle.acn_grammar.specs.Fails.{presence_count}
use Rattle.acn_lines.specs.Keys.{AreShort}
use Rattle.acn_lines.specs.declared.order.Order.{Order, out-Order}
use Rattle.acn_json.specs.RoundTrip.{HasTextNames}
use Rattle.acn_lines.specs.declared.order.TreeOrder.{TreeOrder}
use Rattle.acn_lines.specs.declared.turns.Turn.{Turn}

-- the field of a number
abbrev pub field_at : Fields → (k : ℕ) → Option OneField
field_at no_fields k = None
field_at (component name g presence default own fs) zero = Some (a_component name g presence default own)
field_at (component name g presence default own fs) (suc k) = field_at fs k
field_at (inserted name g slot fs) zero = Some (an_inserted name g slot)
field_at (inserted name g slot fs) (suc k) = field_at fs k

-- the value in the place of a number, where one is there
abbrev pub place_at : Places → (k : ℕ) → Option Data
place_at no_places k = None
place_at (empty ps) zero = None
place_at (filled d ps) zero = Some d
place_at (empty ps) (suc k) = place_at ps k
place_at (filled d ps) (suc k) = place_at ps k

-- the member of a component that is there, in front of others
abbrev pub member_at : Option OneField → Option Data → Members → Members
member_at (Some (a_component name g presence default own)) (Some d) ms = member name (json_of g d) ms
member_at _ _ ms = ms

-- the members of a record, turn by turn
abbrev pub in_order : Fields → List Turn → Places → Members
in_order fs [] ps = no_members
in_order fs (t ∷ ts) ps = member_at (field_at fs t.field) (place_at ps t.place) (in_order fs ts ps)

-- the text of a key, with its colon
abbrev pub key_text : List ℕ → List ℕ
key_text name = quoted name ++ 58 ∷ []

-- the key of a component
abbrev pub HasKey : Option OneField → List ℕ → Type 0
HasKey (Some (a_component name g presence default own)) key = key ≡ key_text name
HasKey _ key = ⊥

abbrev pub AreKeyed : Fields → List Turn → Type 0
AreKeyed fs [] = Unit {0}
AreKeyed fs (t ∷ ts) = HasKey (field_at fs t.field) t.key × AreKeyed fs ts

-- the number of the place of a component: so many components stand before the field of a number
abbrev pub place_of : Fields → (k : ℕ) → ℕ
place_of no_fields k = zero
place_of (component name g presence default own fs) zero = zero
place_of (component name g presence default own fs) (suc k) = suc (place_of fs k)
place_of (inserted name g slot fs) zero = zero
place_of (inserted name g slot fs) (suc k) = place_of fs k

abbrev pub ArePlaced : Fields → List Turn → Type 0
ArePlaced fs [] = Unit {0}
ArePlaced fs (t ∷ ts) = (t.place ≡ place_of fs t.field) × ArePlaced fs ts

-- none of the turns has this place
abbrev pub Elsewhere : (place : ℕ) → List Turn → Type 0
Elsewhere place [] = Unit {0}
Elsewhere place (t ∷ ts) = (t.place ≡ place → ⊥) × Elsewhere place ts

-- no two turns have a place in common
abbrev pub AreApart : List Turn → Type 0
AreApart [] = Unit {0}
AreApart (t ∷ ts) = Elsewhere t.place ts × AreApart ts

-- each turn has the key and the place of its component, and no other has the place; in turn they give the members of each record; short keys are those of the keys
abbrev pub AreTurns : Fields → List Turn → Type 0
AreTurns fs ts = AreKeyed fs ts × ((ps : Places) → in_order fs ts ps ≡ fields_json no_members fs ps) × ArePlaced fs ts × AreApart ts × AreShort ts

-- the cut is one of the leaf, where there is one
abbrev pub IsLeafOrder : NumLeaf → Order → Type 0
IsLeafOrder leaf o = IfSome (out-Order o).cut (λ cut. IsCut cut leaf)

-- what is kept of a field that ACN inserts
abbrev pub IsInsertedOrder : Grammar → Order → Type 0
IsInsertedOrder (node align (num leaf)) o = IsLeafOrder leaf o
IsInsertedOrder _ o = Unit {0}

abbrev mutual
  -- what is kept of a node; a list and a string that contains a value keep what is kept of the node inside
  pub IsNodeOrder : Grammar → Order → Type 0
  IsNodeOrder (node align form) o = IsFormOrder form o

  pub IsFormOrder : Form → Order → Type 0
  IsFormOrder (num leaf) o = IsLeafOrder leaf o
  IsFormOrder (seq fields home) o = AreTurns fields (out-Order o).turns × AreFieldOrders fields (out-Order o).inside × ((out-Order o).flags ≡ presence_count fields) × AreStretches fields (out-Order o).stretches
  IsFormOrder (list sizing g) o = IsNodeOrder g o
  IsFormOrder (choice cases rule) o = AreAlternativeOrders cases (out-Order o).inside
  IsFormOrder (contained sizing g) o = IsNodeOrder g o
  IsFormOrder _ o = Unit {0}

  -- one for each field
  pub AreFieldOrders : Fields → List Order → Type 0
  AreFieldOrders no_fields os = Unit {0}
  AreFieldOrders (component name g presence default own fs) (o ∷ os) = IsNodeOrder g o × AreFieldOrders fs os
  AreFieldOrders (inserted name g slot fs) (o ∷ os) = IsInsertedOrder g o × AreFieldOrders fs os
  AreFieldOrders _ [] = ⊥

  -- one for each alternative
  pub AreAlternativeOrders : Alternatives → List Order → Type 0
  AreAlternativeOrders no_alternatives os = Unit {0}
  AreAlternativeOrders (alternative name g tests more) (o ∷ os) = IsNodeOrder g o × AreAlternativeOrders more os
  AreAlternativeOrders _ [] = ⊥

-- what is kept of a tree
abbrev pub IsOrder : Grammar → TreeOrder → Type 0
IsOrder g o = IsNodeOrder g o.nodes × (IsTrue o.text_names → HasTextNames g)

-- what is kept of a field
abbrev pub IsFieldOrder : OneField → Order → Type 0
IsFieldOrder (a_component name g presence default own) o = IsNodeOrder g o
IsFieldOrder (an_inserted name g slot) o = IsInsertedOrder g o

-- the JSON of the value of a component
abbrev pub field_json : OneField → Data → json.Data
field_json (a_component name g presence default own) d = json_of g d
field_json (an_inserted name g slot) d = json.null
