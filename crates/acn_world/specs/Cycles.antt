-- Types and values that reach themselves, and references of the wrong kind.
use Rattle.std.specs.Prelude.{◌≡◌, ℕ, Bool, true, false, not, ◌&&◌, List, [], ◌∷◌, ◌++◌, map, Option, Some, None, option_and_then, flat_map, filter_map}
use Rattle.std.specs.List.{enumerate_from}
use Rattle.acn_asn_syntax.specs.Mirror.{AsnModule, AsnType, AsnBase, boolean, null, integer, enumerated, Assign, TypeIs, ValueIs}
use Rattle.acn_acn_syntax.specs.Mirror.{Entry, Module}
use Rattle.acn_num.specs.Names.{Name}
use Rattle.acn_graph.specs.Graph.{Among}
use Rattle.acn_index.specs.World.{World, assignment, places}
use Rattle.acn_index.specs.Lookup.{type_named, value_named}
use Rattle.acn_index.specs.Values.{leads_to_number}
use Rattle.acn_index.specs.Chains.{Link, written, assigned_link, base_of}
use Rattle.acn_mentions.specs.Mentions.{Mention, to_type, in_constraint, in_assignment, AcnMention, of_parameter, of_field, to_table, mentions, value_mentions, assign_mentions, entry_mentions}
use Rattle.acn_world.specs.Repeated.{is_among, when}
use Rattle.acn_world.specs.Unknown.{governor_names, acn_type_named, mention_name, acn_mention_name}
use Rattle.acn_mentions.specs.declared.mention.Role.{Role}
use Rattle.acn_mentions.specs.declared.mention.Role.TheVariants as role
use Rattle.acn_index.specs.declared.sources.TypeId.{TypeId}
use Rattle.acn_world.specs.declared.fault.NameFault.{NameFault}
use Rattle.acn_world.specs.declared.fault.NameFault.TheVariants as fault

-- ---- cycles: a relation, so that nobody counts steps

-- the types that are mentioned
abbrev pub type_target : World → ℕ → Mention → Option TypeId
type_target w k (to_type from name) = type_named w k from name
type_target w k _ = None

abbrev pub type_targets : World → ℕ → List Mention → List TypeId
type_targets w k ms = filter_map (type_target w k) ms

abbrev pub value_target : World → ℕ → Mention → Option TypeId
value_target w k (in_assignment name) = value_named w k name
value_target w k _ = None

-- A type refers to the types in its text, those of components and contents included; a value to the value that it
-- is. A type doesn't refer to the values in its constraints, nor a value to its type.
unfoldable pub targets_of : World → ℕ → Assign → List TypeId
targets_of w k (TypeIs name t) = type_targets w k (mentions t)
targets_of w k (ValueIs name t v) = filter_map (value_target w k) (value_mentions v)

abbrev pub targets_at : World → ℕ → Option Assign → List TypeId
targets_at w k None = []
targets_at w k (Some a) = targets_of w k a

unfoldable pub targets : World → TypeId → List TypeId
targets w p = targets_at w p.module (assignment w p)

-- from one assignment to another by one reference or more, with those that are passed, the first one included
pub data Reaches (w : World) : TypeId → TypeId → List TypeId → Type 0 where
  once : {p q : TypeId} → Among q (targets w p) → Reaches w p q (p ∷ [])
  more : {p q r : TypeId} {way : List TypeId} → Among q (targets w p) → Reaches w q r way → Reaches w p r (p ∷ way)

-- the first that reaches itself, with a way
pub record IsFirstCycle (w : World) (p : TypeId) (way : List TypeId) : Type 0 where
  pub cyclic : Reaches w p p way
  pub earlier : List TypeId
  pub later : List TypeId
  pub split : places w ≡ (earlier ++ p ∷ later)
  pub none_before : (q : TypeId) (round : List TypeId) → Among q earlier → Reaches w q q round → ⊥

pub record HasNoCycle (w : World) : Type 0 where
  pub none : (q : TypeId) (round : List TypeId) → Reaches w q q round → ⊥

-- ---- the wrong kind: what is used as a number and is none

abbrev pub is_integer : AsnBase → Bool
is_integer (integer ns) = true
is_integer _ = false

abbrev pub is_integer_type : World → ℕ → Option AsnType → Bool
is_integer_type w k None = false
is_integer_type w k (Some t) = is_integer (base_of w (written k t))

abbrev pub is_number_role : World → ℕ → Option AsnType → Role → Bool
is_number_role w k g role.Element = is_integer_type w k g
is_number_role w k g role.Size = true
is_number_role w k g role.Letters = false

-- An identifier of an INTEGER's constraint that isn't one of its named numbers is used as a number, and so is one inside
-- SIZE. What stands inside FROM, or in a constraint of another type, is judged with the constraint.
unfoldable pub is_as_number : World → ℕ → Mention → Bool
is_as_number w k (in_constraint g r name) = is_number_role w k g r && not (is_among name (governor_names w k g))
is_as_number w k _ = false

abbrev pub is_wrong : World → ℕ → Mention → Bool
is_wrong w k m = is_as_number w k m && not (leads_to_number w k (mention_name m))

-- the types of parameters and of inserted fields (this profile's own)
abbrev pub fits_parameter : AsnBase → Bool
fits_parameter (integer ns) = true
fits_parameter boolean = true
fits_parameter (enumerated items) = true
fits_parameter _ = false

abbrev pub fits_field : AsnBase → Bool
fits_field null = true
fits_field b = fits_parameter b

abbrev pub base_fits : World → (AsnBase → Bool) → Option Link → Bool
base_fits w test None = false
base_fits w test (Some l) = test (base_of w l)

abbrev pub kind_fits : World → (AsnBase → Bool) → Name → Name → Bool
kind_fits w test owner name = base_fits w test (option_and_then (assigned_link w) (acn_type_named w owner name))

unfoldable pub is_acn_wrong : World → Name → AcnMention → Bool
is_acn_wrong w owner (of_parameter name) = not (kind_fits w fits_parameter owner name)
is_acn_wrong w owner (of_field name) = not (kind_fits w fits_field owner name)
is_acn_wrong w owner (to_table name) = false

abbrev pub wrong_of : Name → List Name → List NameFault
wrong_of owner names = map (λ (n : Name). fault.WrongKind owner n) names

abbrev pub wrong_in : World → ℕ → Assign → List Name
wrong_in w k a = flat_map (λ (m : Mention). when (is_wrong w k m) (mention_name m)) (assign_mentions a)

abbrev pub acn_wrong_in : World → Name → Entry → List Name
acn_wrong_in w owner e = flat_map (λ (m : AcnMention). when (is_acn_wrong w owner m) (acn_mention_name m)) (entry_mentions e)

unfoldable pub wrong_kinds : World → List NameFault
wrong_kinds w = flat_map (λ (m : ℕ × AsnModule). wrong_of m.1.name (flat_map (wrong_in w m.0) m.1.items)) (enumerate_from 0 w.modules)
    ++ flat_map (λ (a : Module). wrong_of a.name (flat_map (acn_wrong_in w a.name) a.entries)) w.acn
