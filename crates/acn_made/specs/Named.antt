-- The determinants that the attributes of a site name, by the numbers of their slots. (This profile's own.)
use Rattle.std.specs.Prelude.{ℕ, List, Option, Some, None, option_and_then}
use Rattle.acn_acn_syntax.specs.declared.modules.Attr.{Attr}
use Rattle.acn_acn_syntax.specs.declared.modules.Attr.TheVariants as attr
use Rattle.acn_acn_syntax.specs.declared.modules.SizeAttr.{SizeAttr}
use Rattle.acn_acn_syntax.specs.declared.modules.SizeAttr.TheVariants as size
use Rattle.acn_homes.specs.Homes as homes
use Rattle.acn_index.specs.World.{World}
use Rattle.acn_num.specs.Names.{Name}
use Rattle.acn_sites.specs.Attributes.{Given, nearest, scope_of}
use Rattle.acn_sites.specs.Sites.{Site}
use Rattle.acn_sites.specs.declared.attributes.AttrKind.{AttrKind}
use Rattle.acn_slots.specs.Slots.{Scope, leads}
use Rattle.acn_slots.specs.declared.slots.Lead.{Lead}
use Rattle.acn_slots.specs.declared.slots.Lead.TheVariants as lead

-- the slots of the tree, whose numbers are their places
abbrev pub Slots : Type 0
Slots = List homes.Slot

-- the number of the slot to which a path leads, where it leads to one
abbrev pub number_led : Slots → Lead → Option ℕ
number_led all (lead.Slot x) = homes.number all x.path
number_led all lead.Nowhere = None
number_led all (lead.Absent through x) = None

abbrev pub number_named : World → Slots → Scope → List Name → Option ℕ
number_named w all c names = number_led all (leads w c names)

abbrev pub path_of_size : SizeAttr → Option (List Name)
path_of_size (size.Path p) = Some p.names
path_of_size _ = None

-- the one path of `size` or `determinant`
abbrev pub path_in : Attr → Option (List Name)
path_in (attr.Size x) = path_of_size x
path_in (attr.Determinant p) = Some p.names
path_in _ = None

abbrev pub determinant_in : World → Slots → Site → Option Given → Option ℕ
determinant_in w all s None = None
determinant_in w all s (Some g) = option_and_then (number_named w all (scope_of w s g)) (path_in g.attr)

-- the slot that the nearest attribute of this kind names
abbrev pub determinant_by : AttrKind → World → Slots → Site → Option ℕ
determinant_by k w all s = determinant_in w all s (nearest k s)
