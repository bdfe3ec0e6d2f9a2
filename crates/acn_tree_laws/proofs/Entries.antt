-- The braces of each entry of a sound world are fine, where their references are read.
use Rattle.std.proofs.Common.{◌≡◌, ℕ, zero, suc, ◌+◌, Bool, true, false, not, cond, List, [], ◌∷◌, ◌++◌, map, find, Option, Some, None, refl, sym, ap, subst, ◌∙◌, arith}
use Rattle.std.specs.Prelude.{option_and_then, slice_get}
use Rattle.std.specs.List.{AllByRecursion, flat_map, enumerate_from, position_from}
use Rattle.std.specs.Str.{bytes_eq}
use Rattle.std.proofs.lemmas.Bool.{or_parts, or_from, false_from_ne_true, true≢false}
use Rattle.std.proofs.lemmas.Slice.Eq.{bytes_eq-Decides}
use Rattle.acn_acn_syntax.specs.Mirror.{Entry, Module}
use Rattle.acn_acn_syntax.specs.declared.modules.Param.{Param}
use Rattle.acn_asn_syntax.specs.Mirror.{AsnModule}
use Rattle.acn_index.specs.Chains.{assigned_link}
use Rattle.acn_index.specs.Lookup.{module_named, type_named, acn_named, entry_named, entry_of_assign, entry_at, EntryAt, entry_place, entry_in_place, entry_with, placed_entry}
use Rattle.acn_index.specs.World.{World, name_of}
use Rattle.acn_index.specs.declared.sources.TypeId.{TypeId}
use Rattle.acn_item_laws.proofs.Lists.{append_left, append_right, map_empty, mapped, all_right, all_found}
use Rattle.acn_item_laws.proofs.Once.{no_repeats, modules_once}
use Rattle.acn_mentions.specs.Mentions.{AcnMention, of_parameter, of_field, to_table, parameter_mentions, attribute_mentions, braces_mentions, entry_mentions}
use Rattle.acn_num.specs.Names.{Name}
use Rattle.acn_world.specs.Cycles.{fits_field, base_fits, kind_fits, is_acn_wrong, wrong_of, wrong_in, acn_wrong_in, wrong_kinds}
use Rattle.acn_world.specs.Faults.{first, IsSound}
use Rattle.acn_world.specs.Laws.{EntriesStandAtTheirPlaces}
use Rattle.acn_world.specs.Repeated.{is_among, when, again, repeated, twice_module, repeats_of, asn_repeats, twice_braces, twice_entry, twice_entries, acn_repeats, table_repeats, repeats}
use Rattle.acn_world.specs.Unknown.{acn_type_named, acn_mention_name}
use Rattle.acn_world.specs.declared.fault.NameFault.TheVariants as fault
use Rattle.acn_tree_laws.proofs.Braces.{MentionFits, AreFine}

-- ---- lists and options

through : {A B : Type 0} (f : A → Option B) (o : Option A) (y : B) → option_and_then f o ≡ Some y → (x : A) × (o ≡ Some x) × (f x ≡ Some y)
through f None y h = cc
through f (Some x) y h = (x, refl, h)

none_first : {A : Type 0} (xs : List A) → first xs ≡ None → xs ≡ []
none_first [] h = refl
none_first (x ∷ xs) h = cc

none_each : {A B : Type 0} (f : A → List B) (xs : List A) → flat_map f xs ≡ [] → AllByRecursion (λ x. f x ≡ []) xs
none_each f [] h = tt
none_each f (x ∷ xs) h = (append_left (f x) (flat_map f xs) h, none_each f xs (append_right (f x) (flat_map f xs) h))

all_weaker : {A : Type 0} (P Q : A → Type 0) (xs : List A) → ((x : A) → P x → Q x) → AllByRecursion P xs → AllByRecursion Q xs
all_weaker P Q [] f h = tt
all_weaker P Q (x ∷ xs) f h = (f x h.0, all_weaker P Q xs f h.1)

found_passes : {A : Type 0} (test : A → Bool) (xs : List A) (x : A) → find test xs ≡ Some x → test x ≡ true
found_passes test [] x h = cc
found_passes test (y ∷ xs) x h = by (test y) refl h (found_passes test xs x)
  where
    by : (t : Bool) → test y ≡ t → cond t (Some y) (find test xs) ≡ Some x → (find test xs ≡ Some x → test x ≡ true) → test x ≡ true
    by true e f rest = (let i : y ≡ x = cc in subst (λ z. test z ≡ true) i e)
    by false e f rest = rest f

when_none : (b : Bool) (name : Name) → when b name ≡ [] → b ≡ false
when_none true name h = cc
when_none false name h = refl

not_wrong : (b : Bool) → not b ≡ false → b ≡ true
not_wrong true h = refl
not_wrong false h = cc

-- ---- the number of a module by its name

among_parts : (name : Name) (seen : List Name) (x : Name) → is_among name (seen ++ x ∷ []) ≡ false → (is_among name seen ≡ false) × (bytes_eq name x ≡ false)
among_parts name [] x h = (refl, (or_parts (bytes_eq name x) false h).0)
among_parts name (y ∷ seen) x h =
    let o = or_parts (bytes_eq name y) (is_among name (seen ++ x ∷ [])) h in
    let rest = among_parts name seen x o.1 in
    (or_from (bytes_eq name y) (is_among name seen) o.0 rest.0, rest.1)

turned : (a b : Name) → bytes_eq a b ≡ false → bytes_eq b a ≡ false
turned a b h = false_from_ne_true (bytes_eq b a) (λ same. true≢false (sym ((bytes_eq-Decides a b).1 (sym ((bytes_eq-Decides b a).0 same))) ∙ h))

abbrev is_called : Name → AsnModule → Bool
is_called name m = bytes_eq m.name name

module_number : (seen : List Name) (ms : List AsnModule) (n k : ℕ) (m : AsnModule) → asn_repeats seen ms ≡ [] → slice_get ms k ≡ Some m → (is_among m.name seen ≡ false) × (position_from (is_called m.name) n ms ≡ Some (n + k))
unfolding asn_repeats
module_number seen [] n k m h e = cc
module_number seen (x ∷ ms) n zero m h e =
    let names = again x.name seen ++ twice_module x in
    let one = map_empty (λ (q : Name). fault.Repeated x.name q) names (append_left (repeats_of x.name names) (asn_repeats (seen ++ x.name ∷ []) ms) h) in
    let new = when_none (is_among x.name seen) x.name (append_left (again x.name seen) (twice_module x) one) in
    let i : x ≡ m = cc in
    let here = ap (λ (t : Bool). cond t (Some n) (position_from (is_called x.name) (n + 1) ms)) ((bytes_eq-Decides x.name x.name).1 refl) in
    let last : n ≡ n + 0 = omega arith in
    subst (λ (z : AsnModule). (is_among z.name seen ≡ false) × (position_from (is_called z.name) n (x ∷ ms) ≡ Some (n + 0))) i (new, here ∙ ap Some last)
module_number seen (x ∷ ms) n (suc k) m h e =
    let rest = module_number (seen ++ x.name ∷ []) ms (n + 1) k m (append_right (repeats_of x.name (again x.name seen ++ twice_module x)) (asn_repeats (seen ++ x.name ∷ []) ms) h) e in
    let a = among_parts m.name seen x.name rest.0 in
    let there = ap (λ (t : Bool). cond t (Some n) (position_from (is_called m.name) (n + 1) ms)) (turned m.name x.name a.1) in
    let last : (n + 1) + k ≡ n + suc k = omega arith in
    (a.0, there ∙ (rest.1 ∙ ap Some last))

-- ---- entries as they are written

-- an entry of an ACN module with this name
record IsEntry (w : World) (owner : Name) (e : Entry) : Type 0 where
  once : twice_entry e ≡ []
  right : AllByRecursion (λ (m : AcnMention). is_acn_wrong w owner m ≡ false) (entry_mentions e)

entries_once : (seen : List Name) (es : List Entry) → twice_entries seen es ≡ [] → AllByRecursion (λ (e : Entry). twice_entry e ≡ []) es
unfolding twice_entries
entries_once seen [] h = tt
entries_once seen (e ∷ es) h = (
  append_right (again e.name seen) (twice_entry e) (append_left (again e.name seen ++ twice_entry e) (twice_entries (seen ++ e.name ∷ []) es) h),
  entries_once (seen ++ e.name ∷ []) es (append_right (again e.name seen ++ twice_entry e) (twice_entries (seen ++ e.name ∷ []) es) h),
)

all_once : (seen : List Name) (ms : List Module) → acn_repeats seen ms ≡ [] → AllByRecursion (λ (m : Module). AllByRecursion (λ (e : Entry). twice_entry e ≡ []) m.entries) ms
unfolding acn_repeats
all_once seen [] h = tt
all_once seen (m ∷ ms) h =
    let names = again m.name seen ++ twice_entries [] m.entries in
    let one = map_empty (λ (q : Name). fault.Repeated m.name q) names (append_left (repeats_of m.name names) (acn_repeats (seen ++ m.name ∷ []) ms) h) in
    (entries_once [] m.entries (append_right (again m.name seen) (twice_entries [] m.entries) one), all_once (seen ++ m.name ∷ []) ms (append_right (repeats_of m.name names) (acn_repeats (seen ++ m.name ∷ []) ms) h))

mentions_right : (w : World) (owner : Name) (e : Entry) → acn_wrong_in w owner e ≡ [] → AllByRecursion (λ (m : AcnMention). is_acn_wrong w owner m ≡ false) (entry_mentions e)
mentions_right w owner e h =
    all_weaker (λ (m : AcnMention). when (is_acn_wrong w owner m) (acn_mention_name m) ≡ []) (λ (m : AcnMention). is_acn_wrong w owner m ≡ false) (entry_mentions e)
    (λ m n. when_none (is_acn_wrong w owner m) (acn_mention_name m) n)
    (none_each (λ (m : AcnMention). when (is_acn_wrong w owner m) (acn_mention_name m)) (entry_mentions e) h)

module _ (w : World) (sound : IsSound w) where
  entries_right : AllByRecursion (λ (m : Module). AllByRecursion (λ (e : Entry). acn_wrong_in w m.name e ≡ []) m.entries) w.acn
  unfolding wrong_kinds
  entries_right =
      let none = none_first (wrong_kinds w) sound.late in
      let acn = append_right (flat_map (λ (m : ℕ × AsnModule). wrong_of m.1.name (flat_map (wrong_in w m.0) m.1.items)) (enumerate_from 0 w.modules)) (flat_map (λ (a : Module). wrong_of a.name (flat_map (acn_wrong_in w a.name) a.entries)) w.acn) none in
      all_weaker (λ (a : Module). wrong_of a.name (flat_map (acn_wrong_in w a.name) a.entries) ≡ []) (λ (a : Module). AllByRecursion (λ (e : Entry). acn_wrong_in w a.name e ≡ []) a.entries) w.acn
      (λ a h. none_each (acn_wrong_in w a.name) a.entries (map_empty (λ (n : Name). fault.WrongKind a.name n) (flat_map (acn_wrong_in w a.name) a.entries) h))
      (none_each (λ (a : Module). wrong_of a.name (flat_map (acn_wrong_in w a.name) a.entries)) w.acn acn)

  entry_written : (a : Module) (e : Entry) (owner : Name) → acn_named w owner ≡ Some a → (test : Entry → Bool) → find test a.entries ≡ Some e → IsEntry w a.name e
  unfolding repeats
  entry_written a e owner f test g =
      let acn = append_left (acn_repeats [] w.acn) (table_repeats w.tables) (append_right (asn_repeats [] w.modules) (acn_repeats [] w.acn ++ table_repeats w.tables) (no_repeats w sound)) in
      let named : Module → Bool = λ (m : Module). bytes_eq m.name owner in
      let once = all_found (λ (m : Module). AllByRecursion (λ (x : Entry). twice_entry x ≡ []) m.entries) named w.acn a (all_once [] w.acn acn) f in
      let right = all_found (λ (m : Module). AllByRecursion (λ (x : Entry). acn_wrong_in w m.name x ≡ []) m.entries) named w.acn a entries_right f in
      record {
        once = all_found (λ (x : Entry). twice_entry x ≡ []) test a.entries e once g;
        right = mentions_right w a.name e (all_found (λ (x : Entry). acn_wrong_in w a.name x ≡ []) test a.entries e right g);
      }

  mention_fits : (owner : Name) (k : ℕ) → module_named w owner ≡ Some k → (m : AcnMention) → is_acn_wrong w owner m ≡ false → MentionFits w k m
  unfolding is_acn_wrong acn_type_named
  mention_fits owner k e (of_parameter name) h = tt
  mention_fits owner k e (of_field name) h =
      subst (λ (o : Option ℕ). base_fits w fits_field (option_and_then (assigned_link w) (option_and_then (λ (j : ℕ). type_named w j None name) o)) ≡ true) e
      (not_wrong (kind_fits w fits_field owner name) h)
  mention_fits owner k e (to_table name) h = tt

  braces_fine : (owner : Name) (k : ℕ) (e : Entry) → module_named w owner ≡ Some k → IsEntry w owner e → AreFine w k e.fields
  unfolding twice_entry entry_mentions
  braces_fine owner k e n h =
      let all = all_weaker (λ (m : AcnMention). is_acn_wrong w owner m ≡ false) (MentionFits w k) (entry_mentions e) (mention_fits owner k n) h.right in
      let inner = all_right (MentionFits w k) (flat_map parameter_mentions e.parameters) (flat_map attribute_mentions e.attributes ++ braces_mentions e.fields) all in
      record {
        once = append_right (repeated [] (map (λ (p : Param). p.name) e.parameters)) (twice_braces e.fields) h.once;
        fit = all_right (MentionFits w k) (flat_map attribute_mentions e.attributes) (braces_mentions e.fields) inner;
      }

  module_has_number : (k : ℕ) (m : AsnModule) → slice_get w.modules k ≡ Some m → module_named w m.name ≡ Some k
  unfolding module_named
  module_has_number k m e = (let last : 0 + k ≡ k = omega arith in (module_number [] w.modules 0 k m (modules_once w sound) e).1 ∙ ap Some last)

  module _ (places : EntriesStandAtTheirPlaces) where
    entry_fine : (p : TypeId) (e : Entry) → entry_at w p ≡ Some e → AreFine w p.module e.fields
    unfolding entry_at
    entry_fine p e h =
        let m = through (λ (m : AsnModule). option_and_then (entry_of_assign w m.name) (slice_get m.items p.item)) (slice_get w.modules p.module) e h in
        let a = through (entry_of_assign w m.0.name) (slice_get m.0.items p.item) e m.2 in
        let b = through (λ (x : Module). entry_named x (name_of a.0)) (acn_named w m.0.name) e a.2 in
        let same = (bytes_eq-Decides b.0.name m.0.name).0 (found_passes (λ (x : Module). bytes_eq x.name m.0.name) w.acn b.0 b.1) in
        braces_fine b.0.name p.module e (ap (module_named w) same ∙ module_has_number p.module m.0 m.1)
        (entry_written b.0 e m.0.name b.1 (λ (x : Entry). bytes_eq x.name (name_of a.0)) b.2)

    pub placed_fine : (p : TypeId) (e : EntryAt) → placed_entry w p ≡ Some e → AreFine w e.owner e.is.fields
    unfolding placed_entry
    placed_fine p e h =
        let q = through (entry_with w p) (entry_place w p) e h in
        let x = mapped (λ (z : Entry). record { owner = p.module; acn = q.0.acn; entry = q.0.entry; is = z }) (entry_in_place w q.0) e q.2 in
        let there = sym (places w p) ∙ (ap (option_and_then (entry_in_place w)) q.1 ∙ x.1) in
        subst (λ (z : EntryAt). AreFine w z.owner z.is.fields) x.2 (entry_fine p x.0 there)
