-- The steps along the chain of a type, up to one whose entry has parameters. (Parameters are ACN's.)
use Rattle.std.specs.Prelude.{◌≡◌, ℕ, ◌≤◌, Bool, cond, option_to_list, Option, Some, None, option_and_then}
use Rattle.std.specs.List.{list_any}
use Rattle.acn_ends.specs.declared.spot.Spot.{Spot}
use Rattle.acn_ends.specs.declared.spot.End.{End}
use Rattle.acn_ends.specs.declared.spot.End.TheVariants as end
use Rattle.acn_index.specs.World.{World, count}
use Rattle.acn_index.specs.Chains.{Link, assigned_link, link_entry, gives_parameters}
use Rattle.acn_index.specs.Steps.{place_at, link_onward}

-- the entry of a link's assignment has parameters
abbrev pub gives : World → Link → Bool
gives w l = list_any gives_parameters (option_to_list (link_entry w l))

abbrev pub onward_from : World → Link → Option Spot
onward_from w l = cond (gives w l) None (link_onward w l)

-- to the type that a type without parameters of its own is a reference to
unfoldable pub parameter_step : World → Spot → Option Spot
parameter_step w s = option_and_then (onward_from w) (assigned_link w (place_at s))

-- whether the type has parameters at which steps end, where they are no more than there are assignments
pub record GivesAt (w : World) (spot : Spot) (steps : ℕ) (b : Bool) : Type 0 where
  pub last : Link
  pub few : steps ≤ count w
  pub there : assigned_link w (place_at spot) ≡ Some last
  pub says : b ≡ gives w last

abbrev pub GivesAtEnd : World → End → Bool → Type 0
GivesAtEnd w (end.At spot steps) b = GivesAt w spot steps b
GivesAtEnd w end.Never b = ⊥
