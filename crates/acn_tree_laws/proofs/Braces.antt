-- What braces of ACN keep in a sound world: no two fields in one place have one name, and the type of each inserted field is one that may stand there.
use Rattle.std.proofs.Common.{◌≡◌, ℕ, true, List, [], ◌∷◌, ◌++◌, map, Option, Some, None, refl, subst}
use Rattle.std.specs.Prelude.{option_and_then}
use Rattle.std.specs.List.{AllByRecursion, flat_map}
use Rattle.acn_acn_syntax.specs.Mirror.{Field, plain, inserted, number, Braces, no_braces, braces, braces_list, Fields, no_fields, and_field, field_list}
use Rattle.acn_grammar.specs.Asks.{same_name}
use Rattle.acn_grammar.specs.Leaves.{all_differ}
use Rattle.acn_index.specs.Chains.{assigned_link}
use Rattle.acn_index.specs.Lookup.{type_named}
use Rattle.acn_index.specs.World.{World}
use Rattle.acn_item_laws.proofs.Lists.{append_left, append_right, all_left, all_right}
use Rattle.acn_leaf_laws.proofs.Repeats.{differ_behind}
use Rattle.acn_mentions.specs.Mentions.{AcnMention, of_parameter, of_field, to_table, kind_mentions, attribute_mentions, field_mentions, braces_mentions, fields_mentions}
use Rattle.acn_num.specs.Names.{Name}
use Rattle.acn_slots.specs.Slots.{name_in_text}
use Rattle.acn_world.specs.Cycles.{fits_field, base_fits}
use Rattle.acn_world.specs.Repeated.{again, repeated, field_name, twice_field, twice_braces, twice_fields}

-- a reference in a module leads to a type that an inserted field may have
abbrev pub NameFits : World → ℕ → Name → Type 0
NameFits w k name = base_fits w fits_field (option_and_then (assigned_link w) (type_named w k None name)) ≡ true

abbrev pub MentionFits : World → ℕ → AcnMention → Type 0
MentionFits w k (of_parameter name) = Unit {0}
MentionFits w k (of_field name) = NameFits w k name
MentionFits w k (to_table name) = Unit {0}

-- braces whose references are read in a module
pub record AreFine (w : World) (k : ℕ) (bs : Braces) : Type 0 where
  pub once : twice_braces bs ≡ []
  pub fit : AllByRecursion (MentionFits w k) (braces_mentions bs)

abbrev pub IsFine : World → ℕ → Field → Type 0
IsFine w k (plain name arguments attributes bs) = AreFine w k bs
IsFine w k (inserted name kind attributes) = AllByRecursion (MentionFits w k) (kind_mentions kind)
IsFine w k (number name n) = Unit {0}

pub record AreFields (w : World) (k : ℕ) (fs : List Field) : Type 0 where
  pub differ : all_differ same_name (map name_in_text fs) ≡ true
  pub each : AllByRecursion (IsFine w k) fs

abbrev pub AreFieldsOf : World → ℕ → Option (List Field) → Type 0
AreFieldsOf w k None = Unit {0}
AreFieldsOf w k (Some fs) = AreFields w k fs

pub both_empty : {A : Type 0} (xs ys : List A) → xs ≡ [] → ys ≡ [] → xs ++ ys ≡ []
both_empty [] ys h k = k
both_empty (x ∷ xs) ys h k = cc

name_is : (f : Field) → field_name f ≡ name_in_text f
name_is (plain name arguments attributes bs) = refl
name_is (inserted name kind attributes) = refl
name_is (number name n) = refl

names_once : (seen : List Name) (fs : Fields) → twice_fields seen fs ≡ [] → repeated seen (map name_in_text (field_list fs)) ≡ []
unfolding twice_fields repeated
names_once seen no_fields h = refl
names_once seen (and_field f more) h =
    let one = append_left (again (field_name f) seen) (twice_field f) (append_left (again (field_name f) seen ++ twice_field f) (twice_fields (seen ++ field_name f ∷ []) more) h) in
    let rest = append_right (again (field_name f) seen ++ twice_field f) (twice_fields (seen ++ field_name f ∷ []) more) h in
    subst (λ (n : Name). again n seen ++ repeated (seen ++ n ∷ []) (map name_in_text (field_list more)) ≡ []) (name_is f)
    (both_empty (again (field_name f) seen) (repeated (seen ++ field_name f ∷ []) (map name_in_text (field_list more))) one (names_once (seen ++ field_name f ∷ []) more rest))

module _ (w : World) (k : ℕ) where
  field_fine : (f : Field) → twice_field f ≡ [] → AllByRecursion (MentionFits w k) (field_mentions f) → IsFine w k f
  unfolding twice_field field_mentions
  field_fine (plain name arguments attributes bs) h m = record { once = h; fit = all_right (MentionFits w k) (flat_map attribute_mentions attributes) (braces_mentions bs) m }
  field_fine (inserted name kind attributes) h m = all_left (MentionFits w k) (kind_mentions kind) (flat_map attribute_mentions attributes) m
  field_fine (number name n) h m = tt

  fields_fine : (seen : List Name) (fs : Fields) → twice_fields seen fs ≡ [] → AllByRecursion (MentionFits w k) (fields_mentions fs) → AllByRecursion (IsFine w k) (field_list fs)
  unfolding twice_fields fields_mentions
  fields_fine seen no_fields h m = tt
  fields_fine seen (and_field f more) h m = (
    field_fine f (append_right (again (field_name f) seen) (twice_field f) (append_left (again (field_name f) seen ++ twice_field f) (twice_fields (seen ++ field_name f ∷ []) more) h)) (all_left (MentionFits w k) (field_mentions f) (fields_mentions more) m),
    fields_fine (seen ++ field_name f ∷ []) more (append_right (again (field_name f) seen ++ twice_field f) (twice_fields (seen ++ field_name f ∷ []) more) h) (all_right (MentionFits w k) (field_mentions f) (fields_mentions more) m),
  )

  pub fields_inside : (bs : Braces) → AreFine w k bs → AreFieldsOf w k (braces_list bs)
  unfolding twice_braces braces_mentions
  fields_inside no_braces h = tt
  fields_inside (braces fs) h = record { differ = differ_behind [] (map name_in_text (field_list fs)) (names_once [] fs h.once); each = fields_fine [] fs h.once h.fit }
