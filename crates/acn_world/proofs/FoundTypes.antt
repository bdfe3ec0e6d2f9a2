-- What is found by the name of a type, and each root, is the place of a type.
use Rattle.std.proofs.Common.{◌≡◌, ℕ, zero, suc, ◌+◌, Bool, true, false, not, ◌&&◌, List, [], ◌∷◌, length, Option, Some, None, refl, sym, arith}
use Rattle.std.specs.Prelude.{option_and_then, option_map, slice_get, IsSome, IfSome, IfOk, Result, Ok, Err, cond, filter}
use Rattle.std.specs.Global.{Vec}
use Rattle.std.specs.Option.{option_or}
use Rattle.std.specs.List.{position_from, list_any, All, AllByRecursion}
use Rattle.std.proofs.lemmas.List.Elements.{All-from_recursion}
use Rattle.acn_asn_syntax.specs.Mirror.{AsnModule, AsnType, Assign, TypeIs, ValueIs}
use Rattle.acn_num.specs.Names.{Name}
use Rattle.acn_index.specs.World.{World, IsType, place, places, is_same, type_part, assignment, type_at}
use Rattle.acn_index.specs.Lookup.{is_type, own, found, found_within, imported_from, module_named, type_in, type_named}
use Rattle.acn_world.specs.Faults.{is_root, is_without_parameters, referred, roots}
use Rattle.acn_index.specs.declared.sources.TypeId.{TypeId}

-- ---- a type stands so far behind the place where a search began

abbrev Behind : List Assign → ℕ → ℕ → Type 0
Behind xs i n = (d : ℕ) × (n ≡ i + d) × IsSome (option_and_then type_part (slice_get xs d))

step : (b : Bool) (a : Assign) (xs : List Assign) (i : ℕ) (o : Option ℕ) → (b ≡ true → IsSome (type_part a)) → IfSome o (Behind xs (i + 1)) → IfSome (cond b (Some i) o) (Behind (a ∷ xs) i)
step true a xs i o h k = (0, omega arith, h refl)
step false a xs i None h k = tt
step false a xs i (Some n) h k = let e = k.1 in (suc k.0, omega (arith, e), k.2)

typed : (name : Name) (a : Assign) → is_type name a ≡ true → IsSome (type_part a)
typed name (TypeIs other t) e = refl
typed name (ValueIs other t v) e = absurd (cc e)

found_from : (name : Name) (xs : List Assign) (i : ℕ) → IfSome (position_from (is_type name) i xs) (Behind xs i)
found_from name [] i = tt
found_from name (a ∷ xs) i = step (is_type name a) a xs i (position_from (is_type name) (i + 1) xs) (typed name a) (found_from name xs (i + 1))

-- ---- a module's own

placed : (w : World) (m : AsnModule) (k : ℕ) (o : Option ℕ) → Some m ≡ slice_get w.modules k → IfSome o (Behind m.items 0) → IfSome (option_map (place k) o) (IsType w)
unfolding type_at assignment
placed w m k None e h = tt
placed w m k (Some n) e h = let g : n ≡ h.0 = omega (arith, h.1) in rw (sym e) (rw g h.2)

in_module : (w : World) (name : Name) (k : ℕ) (o : Option AsnModule) → o ≡ slice_get w.modules k → IfSome (option_and_then (λ (m : AsnModule). option_map (place k) (position_from (is_type name) 0 m.items)) o) (IsType w)
in_module w name k None e = tt
in_module w name k (Some m) e = placed w m k (position_from (is_type name) 0 m.items) e (found_from name m.items 0)

own_is_type : (w : World) (name : Name) (k : ℕ) → IfSome (own w (is_type name) k) (IsType w)
unfolding own
own_is_type w name k = in_module w name k (slice_get w.modules k) refl

-- ---- over names of modules and imports

module _ (P : TypeId → Type 0) where
  behind : (next : ℕ → Option TypeId) → ((k : ℕ) → IfSome (next k) P) → (o : Option ℕ) → IfSome (option_and_then next o) P
  behind next h None = tt
  behind next h (Some k) = h k

  either : (a b : Option TypeId) → IfSome a P → IfSome b P → IfSome (option_or a b) P
  either None b h k = k
  either (Some p) b h k = h

within_is_type : (n : ℕ) (w : World) (name : Name) (k : ℕ) → IfSome (found_within n w (is_type name) name k) (IsType w)
unfolding found_within
within_is_type zero w name k = tt
within_is_type (suc n) w name k =
    either (IsType w) (own w (is_type name) k) (option_and_then (found_within n w (is_type name) name) (imported_from w name k))
    (own_is_type w name k)
    (behind (IsType w) (found_within n w (is_type name) name) (within_is_type n w name) (imported_from w name k))

pub found_is_type : (w : World) (owner name : Name) → IfSome (type_in w owner name) (IsType w)
unfolding type_in
found_is_type w owner name = behind (IsType w) (own w (is_type name)) (own_is_type w name) (module_named w owner)

pub named_is_type : (w : World) (k : ℕ) (name : Name) → IfSome (type_named w k None name) (IsType w)
unfolding type_named found
named_is_type w k name = within_is_type (length w.modules) w name k

-- ---- roots

kept : {A : Type 0} (P : A → Type 0) (b : Bool) (x : A) (xs : List A) → (b ≡ true → P x) → AllByRecursion P xs → AllByRecursion P (cond b (x ∷ xs) xs)
kept P true x xs h r = (h refl, r)
kept P false x xs h r = r

each_kept : {A : Type 0} (P : A → Type 0) (test : A → Bool) → ((x : A) → test x ≡ true → P x) → (xs : List A) → AllByRecursion P (filter test xs)
each_kept P test h [] = tt
each_kept P test h (x ∷ xs) = kept P (test x) x (filter test xs) (h x) (each_kept P test h xs)

linked : (w : World) (p : TypeId) (o : Option AsnType) (b : Bool) → (is_without_parameters w (option_map (λ (t : AsnType). record { owner = p.module; of = t; assigned = Some p }) o) && b) ≡ true → IsSome o
linked w p None b e = absurd (cc e)
linked w p (Some t) b e = refl

root_is_type : (w : World) (p : TypeId) → is_root w p ≡ true → IsType w p
unfolding is_root
root_is_type w p e = linked w p (type_at w p) (not (list_any (is_same p) (referred w))) e

each_root : (w : World) → All (IsType w) (roots w)
unfolding roots
each_root w = All-from_recursion (IsType w) (roots w) (each_kept (IsType w) (is_root w) (root_is_type w) (places w))

pub roots_are_types : {E : Type 0} (w : World) (r : Result (Vec TypeId) E) → IfOk r (λ all. all.items ≡ roots w) → IfOk r (λ all. All (IsType w) all.items)
roots_are_types w (Ok all) e = rw e (each_root w)
roots_are_types w (Err x) e = tt
