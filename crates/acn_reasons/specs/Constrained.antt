-- The fault of a site's constraints.
use Rattle.std.specs.Prelude.{Bool, true, not, ◌&&◌, Option, Some, None, is_some, Result, Ok, Err, if◌then◌else◌}
use Rattle.acn_num.specs.Ranges.{Ranges}
use Rattle.acn_index.specs.World.{World}
use Rattle.acn_constraint.specs.Constraints.{Fault, unbounded, range_of, size_of, text_of}
use Rattle.acn_sites.specs.Sites.{Site, content_of}
use Rattle.acn_reasons.specs.declared.classes.Class.{Class}
use Rattle.acn_reasons.specs.declared.classes.Class.TheVariants as class
use Rattle.acn_reasons.specs.Classes.{class_of, size_attr}

abbrev pub fault_in : {A : Type 0} → Result A Fault → Option Fault
fault_in (Ok x) = None
fault_in (Err f) = Some f

-- Octets that contain a type and have the attribute `size` need no SIZE.
abbrev pub needs_size : Site → Bool
needs_size s = not (is_some (content_of s.chain) && is_some (size_attr s))

abbrev pub size_fault : Bool → Result (Option Ranges) Fault → Option Fault
size_fault needed (Ok None) = if needed then Some unbounded else None
size_fault needed (Ok (Some sizes)) = None
size_fault needed (Err f) = Some f

-- A SIZE that is missing is no bound. On the types without numbers, sizes and characters no constraint may stand.
abbrev pub fault_of_class : World → Site → Class → Option Fault
fault_of_class w s class.Octets = size_fault (needs_size s) (size_of w s.chain)
fault_of_class w s class.Bits = size_fault true (size_of w s.chain)
fault_of_class w s class.List = size_fault true (size_of w s.chain)
fault_of_class w s class.Text = fault_in (text_of w s.chain)
fault_of_class w s _ = fault_in (range_of w s.chain)

unfoldable pub constraint_fault : World → Site → Option Fault
constraint_fault w s = fault_of_class w s (class_of s)
