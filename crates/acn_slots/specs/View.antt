-- What the program's own types stand for.
use Rattle.std.specs.Prelude.{ℕ, List, [], map, Option, Some, None, option_map}
use Rattle.std.specs.Borrow.{Bor}
use Rattle.acn_num.specs.Names.{Name}
use Rattle.acn_asn_syntax.specs.View.{component_view}
use Rattle.acn_acn_syntax.specs.Mirror as acn
use Rattle.acn_acn_syntax.specs.View.{field_of}
use Rattle.acn_acn_syntax.specs.declared.modules.AcnField.{AcnField}
use Rattle.acn_world.specs.Chained.{entry_view}
use Rattle.acn_slots.specs.declared.slots.Slot.{Slot}
use Rattle.acn_slots.specs.declared.fields.Use.{Use}
use Rattle.acn_slots.specs.declared.fields.Field.{Field}
use Rattle.acn_slots.specs.declared.fields.Field.TheVariants as field
use Rattle.acn_slots.specs.declared.frame.Frame.{Frame}
use Rattle.acn_slots.specs.declared.frame.Step.{Step}
use Rattle.acn_slots.specs.declared.scope.Scope.{Scope}
use Rattle.acn_slots.specs.declared.origin.Origin.{Origin}
use Rattle.acn_slots.specs.declared.origin.Origin.TheVariants as origin
use Rattle.acn_slots.specs.Slots as slots

abbrev pub braces_view : Option (Bor (List AcnField)) → Option (List acn.Field)
braces_view fs = option_map (λ (f : Bor (List AcnField)). map field_of f.now) fs

abbrev pub use_view : Use → slots.Use
use_view u = record { arguments = u.arguments.now; attributes = u.attributes.now; braces = braces_view u.braces }

abbrev pub field_view : Field → slots.Field
field_view (field.Component of used) = slots.component (component_view of.now) (use_view used)
field_view (field.Inserted name kind attributes) = slots.extra name.now kind.now attributes.now

abbrev pub numbered_view : ℕ × Field → ℕ × slots.Field
numbered_view f = (f.0, field_view f.1)

abbrev pub frame_view : Frame → slots.Frame
frame_view f = record { owner = f.owner; components = map component_view f.listed.components.now; braces = braces_view f.listed.braces; reader = f.reader; path = f.path }

abbrev pub step_view : Step → slots.Step
step_view s = record { optional = s.optional; slot = s.slot; inside = option_map frame_view s.inside }

abbrev pub bound_view : Bor Name × Slot → Name × Slot
bound_view b = (b.0.now, b.1)

abbrev pub bound_in : Option (List (Bor Name × Slot)) → List (Name × Slot)
bound_in None = []
bound_in (Some bound) = map bound_view bound

abbrev pub scope_view : Scope → slots.Scope
scope_view s = record { frames = map frame_view s.frames; bound = bound_in (option_map (λ b. b.value) s.bound) }

abbrev pub origin_view : Origin → slots.Origin
origin_view origin.Use = slots.at_use
origin_view (origin.Entry e) = slots.at_entry (entry_view e)
