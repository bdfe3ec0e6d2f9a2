-- At the place of an assignment's entry stands that entry.
use Rattle.std.proofs.Common.{◌≡◌, ℕ, Bool, Option, Some, None, refl, sym, ap, ◌∙◌}
use Rattle.std.specs.Prelude.{option_and_then, option_map, slice_get}
use Rattle.std.specs.List.{position_from}
use Rattle.std.specs.Str.{bytes_eq}
use Rattle.acn_num.specs.Names.{Name}
use Rattle.acn_asn_syntax.specs.Mirror.{AsnModule, Assign}
use Rattle.acn_acn_syntax.specs.Mirror.{Entry, Module}
use Rattle.acn_acn_syntax.specs.View.{entry_of}
use Rattle.acn_index.specs.World.{World, name_of}
use Rattle.acn_index.specs.Lookup as spec
use Rattle.acn_index.specs.Lookup.{entry_named, entry_of_assign, entry_at, placed, place_in, place_of_assign, entry_place, entry_in_place, entry_with, placed_entry}
use Rattle.acn_world.specs.Chained.{entry_view}
use Rattle.acn_index.specs.declared.sources.TypeId.{TypeId}
use Rattle.acn_index.specs.declared.sources.EntryPlace.{EntryPlace}
use Rattle.acn_world.specs.declared.entries.EntryAt.{EntryAt}
use Rattle.acn_index.proofs.KeyedLaws.{found_at}
use Rattle.acn_index.proofs.Mapped.{option_regrouped}

alike : {A B : Type 0} (f g : A → Option B) → ((x : A) → f x ≡ g x) → (o : Option A) → option_and_then f o ≡ option_and_then g o
alike f g h None = refl
alike f g h (Some x) = h x

abbrev has_name : Name → Entry → Bool
has_name name e = bytes_eq e.name name

abbrev is_of : Name → Module → Bool
is_of owner m = bytes_eq m.name owner

module _ (w : World) where
  numbered : (k : ℕ) (m : Module) → slice_get w.acn k ≡ Some m → (o : Option ℕ) → option_and_then (entry_in_place w) (option_map (placed k) o) ≡ option_and_then (slice_get m.entries) o
  numbered k m e None = refl
  numbered k m e (Some i) = ap (option_and_then (λ (m : Module). slice_get m.entries i)) e

  in_module : (name : Name) (k : ℕ) (o : Option Module) → slice_get w.acn k ≡ o → option_and_then (entry_in_place w) (option_map (placed k) (option_and_then (λ (m : Module). position_from (has_name name) 0 m.entries) o)) ≡ option_and_then (λ (m : Module). entry_named m name) o
  in_module name k None e = refl
  in_module name k (Some m) e = numbered k m e (position_from (has_name name) 0 m.entries) ∙ found_at (has_name name) m.entries

  of_number : (name : Name) (k : ℕ) → option_and_then (entry_in_place w) (place_in w name k) ≡ option_and_then (λ (m : Module). entry_named m name) (slice_get w.acn k)
  of_number name k = in_module name k (slice_get w.acn k) refl

  of_assign : (owner : Name) (a : Assign) → option_and_then (entry_in_place w) (place_of_assign w owner a) ≡ entry_of_assign w owner a
  of_assign owner a =
      let name = name_of a in
      let at = position_from (is_of owner) 0 w.acn in
      option_regrouped (place_in w name) (entry_in_place w) at
      ∙ (alike (λ (k : ℕ). option_and_then (entry_in_place w) (place_in w name k)) (λ (k : ℕ). option_and_then (λ (m : Module). entry_named m name) (slice_get w.acn k)) (of_number name) at
      ∙ (sym (option_regrouped (slice_get w.acn) (λ (m : Module). entry_named m name) at)
      ∙ ap (option_and_then (λ (m : Module). entry_named m name)) (found_at (is_of owner) w.acn)))

  of_item : (owner : Name) (o : Option Assign) → option_and_then (entry_in_place w) (option_and_then (place_of_assign w owner) o) ≡ option_and_then (entry_of_assign w owner) o
  of_item owner None = refl
  of_item owner (Some a) = of_assign owner a

  of_module : (i : ℕ) (o : Option AsnModule) → option_and_then (entry_in_place w) (option_and_then (λ (m : AsnModule). option_and_then (place_of_assign w m.name) (slice_get m.items i)) o) ≡ option_and_then (λ (m : AsnModule). option_and_then (entry_of_assign w m.name) (slice_get m.items i)) o
  of_module i None = refl
  of_module i (Some m) = of_item m.name (slice_get m.items i)

  pub at_its_place : (p : TypeId) → option_and_then (entry_in_place w) (entry_place w p) ≡ entry_at w p
  unfolding entry_place entry_at
  at_its_place p = of_module p.item (slice_get w.modules p.module)

  -- ---- with its place

  abbrev only : spec.EntryAt → Entry
  only e = e.is

  kept : (p : TypeId) (q : EntryPlace) (o : Option Entry) → option_map only (option_map (λ (e : Entry). record { owner = p.module; acn = q.acn; entry = q.entry; is = e }) o) ≡ o
  kept p q None = refl
  kept p q (Some e) = refl

  without_place : (p : TypeId) (o : Option EntryPlace) → option_map only (option_and_then (entry_with w p) o) ≡ option_and_then (entry_in_place w) o
  without_place p None = refl
  without_place p (Some q) = kept p q (entry_in_place w q)

  pub only_entry : (p : TypeId) → option_map only (placed_entry w p) ≡ entry_at w p
  unfolding placed_entry
  only_entry p = without_place p (entry_place w p) ∙ at_its_place p

  seen_alone : (r : Option EntryAt) → option_map (λ (e : EntryAt). entry_of e.is.now) r ≡ option_map only (option_map entry_view r)
  seen_alone None = refl
  seen_alone (Some e) = refl

  pub entry_placed : (p : TypeId) (r : Option EntryAt) → option_map entry_view r ≡ placed_entry w p → option_map (λ (e : EntryAt). entry_of e.is.now) r ≡ entry_at w p
  entry_placed p r e = seen_alone r ∙ (ap (option_map only) e ∙ only_entry p)
