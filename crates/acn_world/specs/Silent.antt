-- The links of a chain that say nothing, and what is told by those that are left where they are passed over.
use Rattle.std.specs.Prelude.{◌≡◌, ℕ, ◌<◌, ◌≤◌, ◌-◌, Bool, ◌||◌, cond, is_some, List, ◌++◌, Option, Some, None, option_and_then}
use Rattle.acn_ends.specs.declared.spot.Spot.{Spot}
use Rattle.acn_ends.specs.declared.spot.End.{End}
use Rattle.acn_ends.specs.declared.spot.End.TheVariants as end
use Rattle.acn_index.specs.Linked.{link_view}
use Rattle.acn_index.specs.World.{World}
use Rattle.acn_index.specs.Chains.{Link, assigned_link, next_link, link_entry, links_within, chain_of_links, has_items, constraints_part}
use Rattle.acn_index.specs.Steps.{place_at, link_onward}
use Rattle.acn_world.specs.declared.silent.Ahead.{Ahead}

-- a type says something of its own: a constraint, or an ACN entry of the assignment that it is the type of
abbrev pub says : World → Link → Bool
says w l = has_items (constraints_part l.of) || is_some (link_entry w l)

abbrev pub onward_from : World → Link → Option Spot
onward_from w l = cond (says w l) None (link_onward w l)

-- to the type that a type that says nothing is a reference to
unfoldable pub silent_step : World → Spot → Option Spot
silent_step w s = option_and_then (onward_from w) (assigned_link w (place_at s))

-- So many links from the one on tell what so many from another on tell, whatever stands before them.
abbrev pub TellTheSame : World → ℕ → Link → ℕ → Link → Type 0
TellTheSame w n l m k = (first : Link) (before : List Link) → chain_of_links w first (before ++ links_within n w l) ≡ chain_of_links w first (before ++ links_within m w k)

-- the link at which steps end, where they are fewer than the links that are left
abbrev pub IsAtEnd : World → End → ℕ → Ahead → Type 0
IsAtEnd w (end.At s n) left a = (n < left) × (assigned_link w (place_at s) ≡ Some (link_view a.link)) × (a.left ≡ left - n)
IsAtEnd w end.Never left a = ⊥

-- from a link to which another refers, and so many that are left, one comes to a link with no more that tell the same
pub record Passes (w : World) (next : Link) (left : ℕ) (a : Ahead) : Type 0 where
  pub same : (from : Link) → next_link w from ≡ Some next → TellTheSame w left next a.left (link_view a.link)
  pub few : a.left ≤ left
