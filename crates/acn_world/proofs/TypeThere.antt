-- A place of a type has a module and an assignment.
use Rattle.std.proofs.Common.{◌≡◌, Option, Some, None, refl, sym}
use Rattle.std.specs.Prelude.{option_map, slice_get, IsSome}
use Rattle.std.specs.Borrow.{Bor}
use Rattle.acn_asn_syntax.specs.Mirror as plain
use Rattle.acn_asn_syntax.specs.View.{module_view, assign_view}
use Rattle.acn_asn_syntax.specs.declared.modules.AsnModule.{AsnModule}
use Rattle.acn_asn_syntax.specs.declared.modules.Assign.{Assign}
use Rattle.acn_index.specs.World.{World, name_of, assignment, type_at}
use Rattle.acn_world.specs.Faults.{name_at}
use Rattle.acn_index.specs.declared.sources.TypeId.{TypeId}

module _ (w : World) (p : TypeId) where
  pub module_there : (r : Option (Bor AsnModule)) → option_map (λ (m : Bor AsnModule). module_view m.now) r ≡ slice_get w.modules p.module → IsSome (type_at w p) → IsSome r
  unfolding type_at assignment
  module_there None e h = rw (sym e) at h
  module_there (Some m) e h = refl

  pub item_there : (m : plain.AsnModule) (r : Option (Bor Assign)) → Some m ≡ slice_get w.modules p.module → option_map (λ (a : Bor Assign). assign_view a.now) r ≡ slice_get m.items p.item → IsSome (type_at w p) → IsSome r
  unfolding type_at assignment
  item_there m None e f h = rw (sym f) at (rw (sym e) at h)
  item_there m (Some a) e f h = refl

  pub name_there : (m : plain.AsnModule) (a : plain.Assign) → Some m ≡ slice_get w.modules p.module → Some a ≡ slice_get m.items p.item → Some (name_of a) ≡ name_at w p
  unfolding assignment
  name_there m a e f = rw (sym e) (rw (sym f) refl)
