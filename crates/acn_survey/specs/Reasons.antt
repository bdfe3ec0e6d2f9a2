-- Why a type can't be made: the reasons of one site in the order in which they are tried, and the first site that has one. The
-- rules are this profile's own.
use Rattle.std.specs.Prelude.{ℕ, suc, Bool, nat_lt, List, [], ◌∷◌, Option, Some, None, option_map, if◌then◌else◌, ℤ}
use Rattle.std.specs.Option.{option_or}
use Rattle.acn_constraint.specs.Constraints as sets
use Rattle.acn_defaults.specs.Defaults.{bad_default}
use Rattle.acn_enum_values.specs.EnumValues.{enum_values}
use Rattle.acn_grammar.specs.declared.limits.TheConstants.{MOST_NODES}
use Rattle.acn_index.specs.World.{World}
use Rattle.acn_num.specs.Names.{Name}
use Rattle.acn_sites.specs.declared.attributes.AttrKind.{AttrKind}
use Rattle.acn_sites.specs.Sites.{Site, Placed}
use Rattle.acn_reasons.specs.declared.paths.PathFault.{PathFault}
use Rattle.acn_reasons.specs.Standing.{is_too_deep, repeated_attribute, attribute_not_here}
use Rattle.acn_reasons.specs.Constrained.{constraint_fault}
use Rattle.acn_reasons.specs.Braced.{has_no_such_field}
use Rattle.acn_reasons.specs.Arguments.{has_wrong_arguments}
use Rattle.acn_reasons.specs.Paths.{bad_path}
use Rattle.acn_written.specs.Mapped.{bad_mapping}
use Rattle.acn_written.specs.Numbers.{too_narrow}
use Rattle.acn_written.specs.Patterns.{pattern_clash}
use Rattle.acn_written.specs.Widths.{bad_size, bad_endianness}

pub data Reason : Type 0 where
  too_deep : Reason
  too_many_nodes : Reason
  repeated : AttrKind → Reason
  not_here : AttrKind → Reason
  constraint : sets.Fault → Reason
  no_such_field : Reason
  arguments : Reason
  path : PathFault → Reason
  mapping : ℤ → Reason
  item_numbers : Name × Name → Reason
  patterns : Reason
  size : Reason
  endianness : Reason
  narrow : ℤ → Reason
  default_value : Reason

abbrev pub given : Bool → Reason → Option Reason
given holds r = if holds then Some r else None

-- the first that is there
abbrev pub first : List (Option Reason) → Option Reason
first [] = None
first (r ∷ rs) = option_or r (first rs)

-- the site's number in preorder, from 1, is over the limit of nodes
abbrev pub is_one_too_many : ℕ → Bool
is_one_too_many number = nat_lt MOST_NODES number

-- The reasons that lie in how a site is written, in the order in which they are tried.
abbrev pub reasons_written : World → Site → List (Option Reason)
reasons_written w s =
    option_map mapping (bad_mapping w s)
    ∷ option_map item_numbers (enum_values s)
    ∷ given (pattern_clash s) patterns
    ∷ given (bad_size w s) size
    ∷ given (bad_endianness w s) endianness
    ∷ option_map narrow (too_narrow w s)
    ∷ given (bad_default w s) default_value
    ∷ []

-- The reasons that hold at a site, in the order in which they are tried.
abbrev pub reasons_at : World → (number : ℕ) → Site → List (Option Reason)
reasons_at w number s =
    given (is_too_deep s) too_deep
    ∷ given (is_one_too_many number) too_many_nodes
    ∷ option_map repeated (repeated_attribute s)
    ∷ option_map not_here (attribute_not_here s)
    ∷ option_map constraint (constraint_fault w s)
    ∷ given (has_no_such_field s) no_such_field
    ∷ given (has_wrong_arguments w s) arguments
    ∷ option_map path (bad_path w s)
    ∷ reasons_written w s

unfoldable pub reason_at : World → (number : ℕ) → Site → Option Reason
reason_at w number s = first (reasons_at w number s)

-- with the text of the path of its node
pub record Fault : Type 0 where
  pub place : List ℕ
  pub reason : Reason

abbrev pub fault_at : World → (number : ℕ) → Placed → Option Fault
fault_at w number p = option_map (λ (r : Reason). record { place = p.text; reason = r }) (reason_at w number p.site)

-- The first reason of the first site that has one, where the first of the sites has this number.
unfoldable pub fault_from : World → (number : ℕ) → List Placed → Option Fault
fault_from w number [] = None
fault_from w number (p ∷ ps) = option_or (fault_at w number p) (fault_from w (suc number) ps)
