-- Paths that lead to no determinant. These rules are this profile's own.
use Rattle.std.specs.Prelude.{ℕ, List, [], ◌∷◌, ◌++◌, map, take, Option, Some, None}
use Rattle.std.specs.List.{enumerate_from}
use Rattle.acn_num.specs.Names.{Name}
use Rattle.acn_acn_syntax.specs.declared.modules.AcnPath.{AcnPath}
use Rattle.acn_acn_syntax.specs.declared.modules.Condition.{Condition}
use Rattle.acn_acn_syntax.specs.declared.modules.SizeAttr.{SizeAttr}
use Rattle.acn_acn_syntax.specs.declared.modules.SizeAttr.TheVariants as size
use Rattle.acn_acn_syntax.specs.declared.modules.Attr.{Attr}
use Rattle.acn_acn_syntax.specs.declared.modules.Attr.TheVariants as attr
use Rattle.acn_index.specs.World.{World}
use Rattle.acn_sites.specs.declared.attributes.AttrKind.{AttrKind}
use Rattle.acn_sites.specs.declared.attributes.AttrKind.TheVariants as kind
use Rattle.acn_slots.specs.declared.slots.Lead.{Lead}
use Rattle.acn_slots.specs.declared.slots.Lead.TheVariants as lead
use Rattle.acn_sites.specs.Places.{Place, argument_place, condition_place, earliest_from, found_there}
use Rattle.acn_slots.specs.Slots.{Scope, leads}
use Rattle.acn_sites.specs.Sites.{Site}
use Rattle.acn_sites.specs.Attributes.{Given, nearest, place_of, scope_of}
use Rattle.acn_reasons.specs.declared.paths.PathFault.{PathFault}
use Rattle.acn_reasons.specs.declared.paths.PathFault.TheVariants as fault
use Rattle.acn_reasons.specs.Arguments.{own_arguments}

-- ---- the paths in an attribute

abbrev pub condition_path : Condition → List Name
condition_path c = c.path.names

abbrev pub size_paths : SizeAttr → List (List Name)
size_paths (size.Number n) = []
size_paths (size.Path p) = p.names ∷ []
size_paths size.NullTerminated = []

abbrev pub paths_in : Attr → List (List Name)
paths_in (attr.Size x) = size_paths x
paths_in (attr.PresentWhen cs) = map condition_path cs
paths_in (attr.Determinant p) = p.names ∷ []
paths_in _ = []

-- ---- the fault of a path

-- each behind a full stop
abbrev pub dotted : List Name → List ℕ
dotted [] = []
dotted (n ∷ ns) = 46 ∷ (n ++ dotted ns)

-- joined by full stops
abbrev pub joined : List Name → List ℕ
joined [] = []
joined (n ∷ ns) = n ++ dotted ns

-- with the names up to the first field that may be absent, joined by full stops
abbrev pub fault_of : Place → List Name → Lead → Option (Place × PathFault)
fault_of at names (lead.Slot x) = None
fault_of at names lead.Nowhere = Some (at, fault.Unknown)
fault_of at names (lead.Absent through x) = Some (at, fault.MayBeAbsent through (joined (take through names)))

abbrev pub argument_fault : World → Site → ℕ × AcnPath → Option (Place × PathFault)
argument_fault w s a = fault_of (argument_place s.at a.0) a.1.names (leads w s.scope a.1.names)

abbrev pub path_fault : World → Place → Scope → ℕ × List Name → Option (Place × PathFault)
path_fault w at c p = fault_of (condition_place at p.0) p.1 (leads w c p.1)

-- that of the nearest attribute of a kind, where it is sooner
abbrev pub sooner_in : World → Site → Option (Place × PathFault) → Option Given → Option (Place × PathFault)
sooner_in w s best None = best
sooner_in w s best (Some g) = earliest_from (path_fault w (place_of s g) (scope_of w s g)) best (enumerate_from 0 (paths_in g.attr))

abbrev pub sooner_of : World → Site → Option (Place × PathFault) → List AttrKind → Option (Place × PathFault)
sooner_of w s best [] = best
sooner_of w s best (k ∷ ks) = sooner_of w s (sooner_in w s best (nearest k s)) ks

abbrev pub kinds_with_paths : List AttrKind
kinds_with_paths = kind.Size ∷ kind.PresentWhen ∷ kind.Determinant ∷ []

-- The first in the text of the faults of the arguments and of the nearest attributes.
unfoldable pub bad_path : World → Site → Option PathFault
bad_path w s = found_there (sooner_of w s (earliest_from (argument_fault w s) None (enumerate_from 0 (own_arguments w s))) kinds_with_paths)
