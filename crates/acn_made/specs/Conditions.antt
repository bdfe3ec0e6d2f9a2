-- The conditions of a component or an alternative. (`present-when` is ACN's; presence bits are those of X.691 clause 19.)
use Rattle.std.specs.Prelude.{ℕ, List, [], filter_map, Option, Some, None, option_map, if◌then◌else◌}
use Rattle.acn_acn_syntax.specs.declared.maps.Signed.{Signed}
use Rattle.acn_acn_syntax.specs.declared.modules.Attr.{Attr}
use Rattle.acn_acn_syntax.specs.declared.modules.Attr.TheVariants as attr
use Rattle.acn_acn_syntax.specs.declared.modules.Condition.{Condition}
use Rattle.acn_asn_syntax.specs.declared.types.Rest.{Rest}
use Rattle.acn_codings.specs.Tables.{number_of}
use Rattle.acn_grammar.specs.declared.node.Presence.{Presence}
use Rattle.acn_grammar.specs.declared.node.Presence.TheVariants.{Always, Bit, When}
use Rattle.acn_grammar.specs.declared.node.Test.{Test}
use Rattle.acn_grammar.specs.declared.node.Test.TheVariants.{Flag, Equals}
use Rattle.acn_index.specs.Chains.{has_items}
use Rattle.acn_index.specs.World.{World}
use Rattle.acn_sites.specs.Attributes.{Given, nearest, scope_of}
use Rattle.acn_sites.specs.Sites.{Site}
use Rattle.acn_sites.specs.declared.attributes.AttrKind.TheVariants as kind
use Rattle.acn_slots.specs.Slots.{Scope, is_optional}
use Rattle.acn_made.specs.Named.{Slots, number_named}

abbrev pub conditions_in : Attr → List Condition
conditions_in (attr.PresentWhen cs) = cs
conditions_in _ = []

-- a slot alone, or a slot with the number behind `==`
abbrev pub test_of : Option Signed → ℕ → Test
test_of None slot = Flag slot
test_of (Some x) slot = Equals slot (number_of x)

-- none where the path leads to no slot
abbrev pub test_in : World → Slots → Scope → Condition → Option Test
test_in w all c one = option_map (test_of one.equals) (number_named w all c one.path.names)

abbrev pub tests_in : World → Slots → Site → Option Given → List Test
tests_in w all s None = []
tests_in w all s (Some g) = filter_map (test_in w all (scope_of w s g)) (conditions_in g.attr)

-- the conditions of the nearest `present-when`, in the order of the text
abbrev pub tests_at : World → Slots → Site → List Test
tests_at w all s = tests_in w all s (nearest kind.PresentWhen s)

-- A component that is OPTIONAL or has a DEFAULT is there where its conditions hold, and without any where its bit in front is 1.
abbrev pub presence_of : Rest → List Test → Presence
presence_of rest ts = if is_optional rest then (if has_items ts then When ts else Bit) else Always
