-- A node that stands in a tree for a site. (This profile's own.)
use Rattle.std.specs.Prelude.{◌≡◌, ℕ}
use Rattle.acn_grammar.specs.Grammar.{Form}
use Rattle.acn_grammar.specs.Walk.{Stand, Role, root_node, component_role, an_inserted, alternative_role, an_element, a_content}
use Rattle.acn_grammar.specs.declared.node.ChoiceRule.{ChoiceRule}
use Rattle.acn_homes.specs.Homes.{number}
use Rattle.acn_index.specs.World.{World}
use Rattle.acn_made.specs.Conditions.{tests_at, presence_of}
use Rattle.acn_made.specs.Made.{made, alignment_at, form_at}
use Rattle.acn_made.specs.Named.{Slots}
use Rattle.acn_made.specs.Texts.{default_text}
use Rattle.acn_reasons.specs.Classes.{class_of}
use Rattle.acn_sites.specs.Sites.{Site, Position, root, part, inserted, alternative, element, content}

-- what the site is in the one above it, said of the node; the rule of a CHOICE is that of the node above
abbrev pub IsRole : World → Slots → Site → Role → Position → Type 0
IsRole w all s role (root owner name) = role ≡ root_node
IsRole w all s role (part name rest) = role ≡ component_role name (presence_of rest (tests_at w all s)) (default_text rest) (number all s.path)
IsRole w all s role (inserted name kind) = role ≡ an_inserted name (number all s.path)
IsRole w all s role (alternative name) = (rule : ChoiceRule) × (role ≡ alternative_role name (tests_at w all s) rule)
IsRole w all s role element = role ≡ an_element
IsRole w all s role content = role ≡ a_content

-- what is made of the site, some steps down
abbrev pub IsForm : World → Slots → Site → Form → Type 0
IsForm w all s form = (steps : ℕ) × (form ≡ form_at w all (made steps w all) s (class_of s))

pub record StandsFor (w : World) (all : Slots) (at : Stand) (s : Site) : Type 0 where
  pub path : at.path ≡ s.path
  pub role : IsRole w all s at.role s.position
  pub align : at.align ≡ alignment_at s
  pub form : IsForm w all s at.form
