-- What the maps of an index say of its modules and tables.
use Rattle.std.proofs.Common.{◌≡◌, ℕ, ◌<◌, List, [], Option, Some, None, refl, sym, ap, ◌∙◌, arith}
use Rattle.std.proofs.lemmas.Option.{slice_get-map}
use Rattle.std.specs.Prelude.{option_map, option_and_then, slice_get}
use Rattle.std.specs.List.{list_any, position_from}
use Rattle.std.specs.Str.{bytes_eq}
use Rattle.acn_asn_syntax.specs.Mirror.{AsnModule, Assign, TypeIs, ValueIs}
use Rattle.acn_asn_syntax.specs.declared.modules.Import.{Import}
use Rattle.acn_acn_syntax.specs.Mirror.{Module, Entry}
use Rattle.acn_acn_syntax.specs.declared.maps.MapTable.{MapTable}
use Rattle.acn_firsts.specs.Placed.{place_of, noted_all}
use Rattle.acn_num.specs.Names.{Name}
use Rattle.acn_index.specs.World.{World, name_of, IsSmall}
use Rattle.acn_index.specs.Lookup.{module_named, imports_of, imports_name, import_of, entry_number, table_named}
use Rattle.acn_index.specs.Keyed.{keyed, firsts, module_name, own_name, type_name, value_name, import_names, acn_name, entry_name, table_name, own_names, entry_places, maps_of}
use Rattle.acn_index.specs.Sorts.{meant, sorted}
use Rattle.acn_index.specs.declared.lookup.Sort.{Sort}
use Rattle.acn_index.specs.declared.lookup.Sort.TheVariants.{Types, Values, Any}
use Rattle.acn_index.specs.declared.maps.OwnNames.{OwnNames}
use Rattle.acn_index.specs.declared.maps.Maps.{Maps}
use Rattle.acn_index.proofs.KeyedLaws.{first_from, alone, found_at, place_within}
use Rattle.acn_index.proofs.Sizes.{items_small}

-- what is known of an answer of a map
abbrev pub IsFirst : List (Name × ℕ) → Name → Option ℕ → Type 0
IsFirst kept q r = (all : List (Name × ℕ)) → kept ≡ noted_all [] all → r ≡ place_of q all

abbrev by_sort : Sort → Assign → List Name
by_sort Types a = type_name a
by_sort Values a = value_name a
by_sort Any a = own_name a

same_sort : (s : Sort) (q : Name) (a : Assign) → meant s q a ≡ list_any (bytes_eq q) (by_sort s a)
same_sort Types q (TypeIs n t) = alone n q
same_sort Types q (ValueIs n t v) = refl
same_sort Values q (TypeIs n t) = refl
same_sort Values q (ValueIs n t v) = alone n q
same_sort Any q a = alone (name_of a) q

kept_by : (s : Sort) (m : AsnModule) → sorted s (own_names m) ≡ firsts (by_sort s) m.items
kept_by Types m = refl
kept_by Values m = refl
kept_by Any m = refl

-- ---- options that follow one another

pub option_regrouped : {A B C : Type 0} (f : A → Option B) (g : B → Option C) (o : Option A) → option_and_then g (option_and_then f o) ≡ option_and_then (λ a. option_and_then g (f a)) o
option_regrouped f g None = refl
option_regrouped f g (Some x) = refl

pub mapped_inside : {A B C : Type 0} (f : A → Option B) (g : B → C) (o : Option A) → option_map g (option_and_then f o) ≡ option_and_then (λ a. option_map g (f a)) o
mapped_inside f g None = refl
mapped_inside f g (Some x) = refl

module _ (w : World) (maps : Maps) (mapped : maps ≡ maps_of w) where
  pub module_first : (q : Name) (r : Option ℕ) → IsFirst maps.modules q r → r ≡ module_named w q
  unfolding module_named
  module_first q r first =
      first (keyed module_name 0 w.modules) (ap (λ (z : Maps). z.modules) mapped) ∙ first_from module_name (λ (m : AsnModule). bytes_eq m.name q) q (λ (m : AsnModule). alone m.name q) 0 w.modules

  pub acn_first : (q : Name) (r : Option ℕ) → IsFirst maps.acn q r → r ≡ position_from (λ (m : Module). bytes_eq m.name q) 0 w.acn
  acn_first q r first =
      first (keyed acn_name 0 w.acn) (ap (λ (z : Maps). z.acn) mapped) ∙ first_from acn_name (λ (m : Module). bytes_eq m.name q) q (λ (m : Module). alone m.name q) 0 w.acn

  pub table_first : (q : Name) (r : Option ℕ) → IsFirst maps.tables q r → option_and_then (slice_get w.tables) r ≡ table_named w q
  unfolding table_named
  table_first q r first =
      ap (option_and_then (slice_get w.tables)) (first (keyed table_name 0 w.tables) (ap (λ (z : Maps). z.tables) mapped) ∙ first_from table_name (λ (t : MapTable). bytes_eq t.name q) q (λ (t : MapTable). alone t.name q) 0 w.tables)
      ∙ found_at (λ (t : MapTable). bytes_eq t.name q) w.tables

  own_is : (k : ℕ) → slice_get maps.own k ≡ option_map own_names (slice_get w.modules k)
  own_is k = ap (λ (z : Maps). slice_get z.own k) mapped ∙ slice_get-map own_names w.modules k

  entries_are : (k : ℕ) → slice_get maps.entries k ≡ option_map entry_places (slice_get w.acn k)
  entries_are k = ap (λ (z : Maps). slice_get z.entries k) mapped ∙ slice_get-map entry_places w.acn k

  -- the first of a module's own assignments of a sort
  abbrev pub own_place : Sort → Name → ℕ → Option ℕ
  own_place s q k = option_and_then (λ (m : AsnModule). position_from (meant s q) 0 m.items) (slice_get w.modules k)

  own_first_at : (s : Sort) (q : Name) (o : OwnNames) (m : Option AsnModule) → Some o ≡ option_map own_names m → (r : Option ℕ) → IsFirst (sorted s o) q r → r ≡ option_and_then (λ (m : AsnModule). position_from (meant s q) 0 m.items) m
  own_first_at s q o None e r first = absurd (cc e)
  own_first_at s q o (Some m) e r first =
      let same : o ≡ own_names m = cc e in
      first (keyed (by_sort s) 0 m.items) (ap (sorted s) same ∙ kept_by s m) ∙ first_from (by_sort s) (meant s q) q (same_sort s q) 0 m.items

  pub own_first : (s : Sort) (q : Name) (k : ℕ) (o : OwnNames) → Some o ≡ slice_get maps.own k → (r : Option ℕ) → IsFirst (sorted s o) q r → r ≡ own_place s q k
  own_first s q k o e r first = own_first_at s q o (slice_get w.modules k) (e ∙ own_is k) r first

  no_own_at : (s : Sort) (q : Name) (m : Option AsnModule) → None ≡ option_map own_names m → None ≡ option_and_then (λ (m : AsnModule). position_from (meant s q) 0 m.items) m
  no_own_at s q None e = refl
  no_own_at s q (Some m) e = absurd (cc e)

  pub no_own : (s : Sort) (q : Name) (k : ℕ) → None ≡ slice_get maps.own k → None ≡ own_place s q k
  no_own s q k e = no_own_at s q (slice_get w.modules k) (e ∙ own_is k)

  own_small_at : (s : Sort) (q : Name) (k i : ℕ) (m : Option AsnModule) → slice_get w.modules k ≡ m → IsSmall w → Some i ≡ option_and_then (λ (m : AsnModule). position_from (meant s q) 0 m.items) m → i < 4294967296
  own_small_at s q k i None e small h = absurd (cc h)
  own_small_at s q k i (Some m) e small h =
      let a = place_within (meant s q) m.items i (sym h) in
      let b = items_small w k m (sym e) small in
      omega arith

  pub own_small : (s : Sort) (q : Name) (k i : ℕ) → IsSmall w → Some i ≡ own_place s q k → i < 4294967296
  own_small s q k i small h = own_small_at s q k i (slice_get w.modules k) refl small h

  -- the first import that brings a name
  abbrev pub import_at : ℕ → Name → Option Import
  import_at k q = option_and_then (λ (m : AsnModule). import_of m q) (slice_get w.modules k)

  no_import_at : (q : Name) (m : Option AsnModule) → None ≡ option_map own_names m → None ≡ option_and_then (λ (m : AsnModule). import_of m q) m
  no_import_at q None e = refl
  no_import_at q (Some m) e = absurd (cc e)

  pub no_import : (q : Name) (k : ℕ) → None ≡ slice_get maps.own k → None ≡ import_at k q
  no_import q k e = no_import_at q (slice_get w.modules k) (e ∙ own_is k)

  import_first_at : (q : Name) (o : OwnNames) (m : AsnModule) (n : Option AsnModule) → Some m ≡ n → Some o ≡ option_map own_names n → (r : Option ℕ) → IsFirst o.imports q r → option_and_then (slice_get (imports_of m)) r ≡ option_and_then (λ (m : AsnModule). import_of m q) n
  import_first_at q o m None f e r first = absurd (cc f)
  import_first_at q o m (Some n) f e r first =
      let module_is : m ≡ n = cc f in
      let same : o ≡ own_names n = cc e in
      ap (λ (z : AsnModule). option_and_then (slice_get (imports_of z)) r) module_is
      ∙ (ap (option_and_then (slice_get (imports_of n))) (first (keyed import_names 0 (imports_of n)) (ap (λ (z : OwnNames). z.imports) same) ∙ first_from import_names (imports_name q) q (λ (i : Import). refl) 0 (imports_of n))
      ∙ found_at (imports_name q) (imports_of n))

  pub import_first : (q : Name) (k : ℕ) (o : OwnNames) (m : AsnModule) → Some m ≡ slice_get w.modules k → Some o ≡ slice_get maps.own k → (r : Option ℕ) → IsFirst o.imports q r → option_and_then (slice_get (imports_of m)) r ≡ import_at k q
  import_first q k o m f e r first = import_first_at q o m (slice_get w.modules k) f (e ∙ own_is k) r first

  entry_first_at : (q : Name) (o : List (Name × ℕ)) (m : Option Module) → Some o ≡ option_map entry_places m → (r : Option ℕ) → IsFirst o q r → r ≡ option_and_then (λ (m : Module). position_from (λ (e : Entry). bytes_eq e.name q) 0 m.entries) m
  entry_first_at q o None e r first = absurd (cc e)
  entry_first_at q o (Some m) e r first =
      let same : o ≡ entry_places m = cc e in
      first (keyed entry_name 0 m.entries) same ∙ first_from entry_name (λ (e : Entry). bytes_eq e.name q) q (λ (e : Entry). alone e.name q) 0 m.entries

  pub entry_first : (q : Name) (k : ℕ) (o : List (Name × ℕ)) → Some o ≡ slice_get maps.entries k → (r : Option ℕ) → IsFirst o q r → r ≡ entry_number w k q
  entry_first q k o e r first = entry_first_at q o (slice_get w.acn k) (e ∙ entries_are k) r first

  no_entries_at : (q : Name) (m : Option Module) → None ≡ option_map entry_places m → None ≡ option_and_then (λ (m : Module). position_from (λ (e : Entry). bytes_eq e.name q) 0 m.entries) m
  no_entries_at q None e = refl
  no_entries_at q (Some m) e = absurd (cc e)

  pub no_entries : (q : Name) (k : ℕ) → None ≡ slice_get maps.entries k → None ≡ entry_number w k q
  no_entries q k e = no_entries_at q (slice_get w.acn k) (e ∙ entries_are k)
