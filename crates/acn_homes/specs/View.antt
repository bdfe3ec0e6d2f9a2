-- What the program's values stand for.
use Rattle.std.specs.Prelude.{ℕ, List, [], map}
use Rattle.std.specs.Cmp.Lexicographic.{slice_cmp}
use Rattle.std.specs.Option.{option_map_or}
use Rattle.std.specs.Ordering.{nat_cmp}
use Rattle.std.specs.BTreeMap.{BTreeMap, get_by}
use Rattle.std.specs.Global.{Vec}
use denote.Ref.{Bor}
use Rattle.acn_homes.specs.Homes as spec
use Rattle.acn_homes.specs.declared.slots.Slot.{Slot}

abbrev pub paths_view : List (Bor (List ℕ)) → List spec.Path
paths_view all = map (λ (p : Bor (List ℕ)). p.now) all

abbrev pub slot_view : Slot → spec.Slot
slot_view s = record { field = s.field.now; home = s.home.now }

abbrev pub slots_view : List Slot → List spec.Slot
slots_view all = map slot_view all

abbrev pub slot_fields : List spec.Slot → List spec.Path
slot_fields all = map (λ (s : spec.Slot). s.field) all

-- the numbers that are noted at a path
abbrev pub found : BTreeMap (Bor (List ℕ)) (Vec ℕ) → spec.Path → List ℕ
found numbers path = option_map_or (λ v. v.items) (get_by (λ k. slice_cmp nat_cmp path k.now) numbers) []
