-- The node that a site is made into. (The types are those of X.680; attributes are ACN's; how both are joined is this profile's own.)
use Rattle.std.specs.Prelude.{ℕ, zero, suc, ◌-◌, List, [], ◌∷◌, length, filter_map, Bool, Option, Some, None, if◌then◌else◌}
use Rattle.std.specs.List.{list_any}
use Rattle.acn_acn_syntax.specs.declared.modules.Alignment.{Alignment}
use Rattle.acn_acn_syntax.specs.declared.modules.Alignment.TheVariants as alignment
use Rattle.acn_acn_syntax.specs.declared.modules.Attr.{Attr}
use Rattle.acn_acn_syntax.specs.declared.modules.Attr.TheVariants as attr
use Rattle.acn_grammar.specs.Grammar.{Grammar, Form, node, num, octets, bits, text, seq, list, choice, contained}
use Rattle.acn_grammar.specs.View.{OneField, a_component, an_inserted, fields_of, OneAlternative, alternatives_of}
use Rattle.acn_grammar.specs.declared.node.ChoiceRule.{ChoiceRule}
use Rattle.acn_grammar.specs.declared.node.ChoiceRule.TheVariants.{Index, Tests, Item}
use Rattle.acn_grammar.specs.declared.node.NumLeaf.{NumLeaf}
use Rattle.acn_grammar.specs.declared.node.Sizing.{Sizing}
use Rattle.acn_homes.specs.Homes.{number, at_home}
use Rattle.acn_index.specs.Chains.{has_items}
use Rattle.acn_index.specs.World.{World}
use Rattle.acn_leaves.specs.Leaves.{leaf_at, null_leaf}
use Rattle.acn_leaves.specs.Widths.{least_width}
use Rattle.acn_reasons.specs.Classes.{class_of}
use Rattle.acn_reasons.specs.declared.classes.Class.{Class}
use Rattle.acn_reasons.specs.declared.classes.Class.TheVariants as class
use Rattle.acn_sites.specs.Attributes.{Given, nearest}
use Rattle.acn_sites.specs.Sites as sites
use Rattle.acn_sites.specs.Sites.{Site, Position, sites_below}
use Rattle.acn_sites.specs.declared.attributes.AttrKind.TheVariants as kind
use Rattle.acn_slots.specs.Slots.{default_of}
use Rattle.acn_made.specs.Conditions.{tests_at, presence_of}
use Rattle.acn_made.specs.Named.{Slots, determinant_by}
use Rattle.acn_made.specs.Sized.{sizing_at, list_sizing_at, text_at}
use Rattle.acn_made.specs.Texts.{default_text}

-- ---- alignment

abbrev pub bits_of : Alignment → ℕ
bits_of alignment.Byte = 8
bits_of alignment.Word = 16
bits_of alignment.Dword = 32

abbrev pub alignment_in : Attr → ℕ
alignment_in (attr.AlignToNext a) = bits_of a
alignment_in _ = 1

abbrev pub alignment_by : Option Given → ℕ
alignment_by None = 1
alignment_by (Some g) = alignment_in g.attr

abbrev pub alignment_at : Site → ℕ
alignment_at s = alignment_by (nearest kind.AlignToNext s)

-- ---- leaves

-- Where the constraints leave no numbers, which is a reason against the site, a NULL stands.
abbrev pub number_at : World → Site → NumLeaf
number_at w s = default_of (leaf_at w s) (null_leaf s)

-- a node that can't be made: no sound type has one
abbrev pub nothing : Site → Grammar
nothing s = node 1 (num (null_leaf s))

-- ---- SEQUENCE

-- a site as a field, with its node
abbrev pub field_with : World → Slots → Site → Grammar → Position → Option OneField
field_with w all s g (sites.part name rest) = Some (a_component name g (presence_of rest (tests_at w all s)) (default_text rest) (number all s.path))
field_with w all s g (sites.inserted name k) = Some (an_inserted name g (number all s.path))
field_with w all s g _ = None

abbrev pub field_at : World → Slots → (made : Site → Grammar) → Site → Option OneField
field_at w all made s = field_with w all s (made s) s.position

abbrev pub sequence_at : World → Slots → (made : Site → Grammar) → Site → (below : List Site) → Form
sequence_at w all made s below = seq (fields_of (filter_map (field_at w all made) below)) (at_home all s.path)

-- ---- CHOICE

abbrev pub alternative_with : World → Slots → Site → Grammar → Position → Option OneAlternative
alternative_with w all s g (sites.alternative name) = Some (record { name = name; grammar = g; tests = tests_at w all s })
alternative_with w all s g _ = None

abbrev pub alternative_at : World → Slots → (made : Site → Grammar) → Site → Option OneAlternative
alternative_at w all made s = alternative_with w all s (made s) s.position

abbrev pub has_tests : OneAlternative → Bool
has_tests a = has_items a.tests

-- the slot that `determinant` names; or the conditions of the alternatives; or without both their index in front (X.691 clause 23)
abbrev pub told_by : Option ℕ → List OneAlternative → ChoiceRule
told_by (Some slot) cases = Item slot
told_by None cases = if list_any has_tests cases then Tests else Index (least_width (length cases - 1))

abbrev pub choice_with : Option ℕ → List OneAlternative → Form
choice_with slot cases = choice (alternatives_of cases) (told_by slot cases)

abbrev pub choice_at : World → Slots → (made : Site → Grammar) → Site → (below : List Site) → Form
choice_at w all made s below = choice_with (determinant_by kind.Determinant w all s) (filter_map (alternative_at w all made) below)

-- ---- SEQUENCE OF, and octets, which may contain a type (X.682 clause 11)

abbrev pub first_at : (made : Site → Grammar) → Site → (below : List Site) → Grammar
first_at made s [] = nothing s
first_at made s (element ∷ more) = made element

abbrev pub octets_at : Sizing → (made : Site → Grammar) → (below : List Site) → Form
octets_at sizing made [] = octets sizing
octets_at sizing made (content ∷ more) = contained sizing (made content)

-- ---- all types

-- what a site of this class is, where the sites below it are made so
abbrev pub form_at : World → Slots → (made : Site → Grammar) → Site → Class → Form
form_at w all made s class.Sequence = sequence_at w all made s (sites_below w s)
form_at w all made s class.Choice = choice_at w all made s (sites_below w s)
form_at w all made s class.List = list (list_sizing_at w all s) (first_at made s (sites_below w s))
form_at w all made s class.Octets = octets_at (sizing_at w all s) made (sites_below w s)
form_at w all made s class.Bits = bits (sizing_at w all s)
form_at w all made s class.Text = text (text_at w all s)
form_at w all made s _ = num (number_at w s)

-- The node of a site, with the nodes below it at most so many steps down.
unfoldable pub made : (steps : ℕ) → World → Slots → Site → Grammar
made zero w all s = nothing s
made (suc n) w all s = node (alignment_at s) (form_at w all (made n w all) s (class_of s))
