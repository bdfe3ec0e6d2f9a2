-- What the walk keeps, as plain data: what was made, and the place behind it.
use Rattle.std.specs.Prelude.{◌≡◌, ℕ, ◌<◌, ◌^◌, ℤ, pos, ◌≤ℤ◌, Bool, true, List, [], ◌∷◌, ◌++◌, length, Option, Some, None, option_map, IsTrue}
use Rattle.acn_num.specs.Ranges.{Ranges, has}
use Rattle.acn_num.specs.declared.limits.TheConstants.{MOST_SIZE}
use Rattle.acn_grammar.specs.Fails.{count_of}
use Rattle.acn_grammar.specs.Grammar.{Grammar, Form, Fields, Alternatives, Data, Places, Elements, node, num, octets, bits, text, seq, list, choice, contained, no_fields, component, inserted, no_alternatives, alternative, alt}
use Rattle.acn_grammar.specs.Leaves.{num_fine, sizes_fine, text_fine}
use Rattle.acn_grammar.specs.Length.{rule_width}
use Rattle.acn_grammar.specs.View.{OneAlternative, OneField, a_component, an_inserted, data_of, places_view, elements_view}
use Rattle.acn_grammar.specs.declared.node.ChoiceRule.{ChoiceRule}
use Rattle.acn_grammar.specs.declared.node.Presence.{Presence}
use Rattle.acn_grammar.specs.declared.node.SizeRule.{SizeRule}
use Rattle.acn_grammar.specs.declared.value.Value.{Value}
use Rattle.acn_extreme_laws.specs.Best.{Way as SpecWay, behind, better, where_way, there_way, alternative_way, best}
use Rattle.acn_extreme_laws.specs.Reach.{can_be_there, can_be_away, can_be_chosen}
use Rattle.acn_extreme_laws.specs.declared.side.Side.{Side}
use Rattle.acn_extremes.specs.declared.ways.Chosen.{Chosen}
use Rattle.acn_extremes.specs.declared.ways.SizeEnds.{SizeEnds}
use Rattle.acn_extremes.specs.declared.ways.Way.{Way}

abbrev pub value_way : Way Value → SpecWay Data
value_way w = (w.end, data_of w.made)

abbrev pub chosen_way : Chosen → SpecWay Data
chosen_way c = (c.end, alt c.index (data_of c.value))

abbrev pub place_way : Way (Option Value) → SpecWay (Option Data)
place_way w = (w.end, option_map data_of w.made)

abbrev pub places_way : Way (List (Option Value)) → SpecWay Places
places_way w = (w.end, places_view w.made)

abbrev pub elements_way : Way (List Value) → SpecWay Elements
elements_way w = (w.end, elements_view w.made)

abbrev pub ends_of : SizeEnds → ℤ × ℤ
ends_of e = (pos e.low, pos e.high)

-- no number is below zero or above the greatest size
abbrev pub AreSizes : Ranges → Type 0
AreSizes rs = (x : ℤ) → has rs x ≡ true → (pos 0 ≤ℤ x) × (x ≤ℤ pos MOST_SIZE)

-- The places of fields, as a list.

abbrev pub place_first : Option (SpecWay (Option Data)) → (ℕ → Option (SpecWay (List (Option Data)))) → Option (SpecWay (List (Option Data)))
place_first None next = None
place_first (Some w) next = option_map (λ v. (v.0, w.1 ∷ v.1)) (next w.0)

abbrev pub pass_first : Option (SpecWay Data) → (ℕ → Option (SpecWay (List (Option Data)))) → Option (SpecWay (List (Option Data)))
pass_first None next = None
pass_first (Some w) next = next w.0

-- these places, and those of what is left
abbrev pub added : List (Option Data) → Option (SpecWay (List (Option Data))) → Option (SpecWay (List (Option Data)))
added done None = None
added done (Some w) = Some (w.0, done ++ w.1)

module _ (root : Grammar) (side : Side) where
  -- the place of a component
  abbrev pub component_way : Grammar → Presence → (at : ℕ) → Option (SpecWay (Option Data))
  component_way g presence at = better side (where_way (can_be_away root presence) (Some (at, None))) (where_way (can_be_there root presence) (there_way (best root side g at)))

  abbrev pub places_left : Fields → (at : ℕ) → Option (SpecWay (List (Option Data)))
  places_left no_fields at = Some (at, [])
  places_left (component name g presence default own fs) at = place_first (component_way g presence at) (places_left fs)
  places_left (inserted name g slot fs) at = pass_first (best root side g at) (places_left fs)

  abbrev pub left_behind : Option ℕ → List (Option Data) → Fields → Option (SpecWay (List (Option Data)))
  left_behind None done fs = None
  left_behind (Some end) done fs = added done (places_left fs end)

-- What the walk takes from the rules of a tree.

abbrev mutual
  pub CanMake : Grammar → Type 0
  CanMake (node align form) = (0 < align) × FormCanMake form

  pub FormCanMake : Form → Type 0
  FormCanMake (num leaf) = IsTrue (num_fine leaf)
  FormCanMake (octets sizing) = IsTrue (sizes_fine sizing.sizes)
  FormCanMake (bits sizing) = IsTrue (sizes_fine sizing.sizes)
  FormCanMake (text leaf) = IsTrue (text_fine leaf)
  FormCanMake (seq fields home) = FieldsCanMake fields
  FormCanMake (list sizing g) = IsTrue (sizes_fine sizing.sizes) × CanMake g
  FormCanMake (choice cases rule) = (count_of cases < 2 ^ 32) × AlternativesCanMake cases
  FormCanMake (contained sizing g) = CanMake g

  pub FieldsCanMake : Fields → Type 0
  FieldsCanMake no_fields = Unit {0}
  FieldsCanMake (component name g presence default own fs) = CanMake g × FieldsCanMake fs
  FieldsCanMake (inserted name g slot fs) = CanMake g × FieldsCanMake fs

  pub AlternativesCanMake : Alternatives → Type 0
  AlternativesCanMake no_alternatives = Unit {0}
  AlternativesCanMake (alternative name g tests more) = CanMake g × AlternativesCanMake more

-- the same of one field
abbrev pub FieldCanMake : OneField → Type 0
FieldCanMake (a_component name g presence default own) = CanMake g
FieldCanMake (an_inserted name g slot) = CanMake g

-- the way to choose one alternative
abbrev pub case_way : Grammar → Side → ChoiceRule → OneAlternative → (i at : ℕ) → Option (SpecWay Data)
case_way root side rule a i at = where_way (can_be_chosen root rule a.name a.tests) (alternative_way i (best root side a.grammar at))

-- the bits of the pattern behind a list's elements
abbrev pub list_ending : Option (List Bool) → ℕ
list_ending None = 0
list_ending (Some p) = length p

-- where a list's elements begin
abbrev pub list_start : Option (List Bool) → SizeRule → (at : ℕ) → ℕ
list_start None rule at = behind at (rule_width rule)
list_start (Some p) rule at = at
