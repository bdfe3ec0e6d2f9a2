-- The trees of ASN.1 modules as plain data, over which definitions compute. What the trees are is read in Spelling and Modules, which say their tokens; this
-- page only spells the types of src without memory behind them.
use Rattle.std.specs.Prelude.{ℕ, Bool, List, [], ◌∷◌, Option, Some, None}
use Rattle.acn_asn_syntax.specs.declared.values.AsnValue.{AsnValue}
use Rattle.acn_asn_syntax.specs.declared.sets.AsnRange.{AsnRange}
use Rattle.acn_asn_syntax.specs.declared.types.Tag.{Tag}
use Rattle.acn_asn_syntax.specs.declared.types.Named.{Named}
use Rattle.acn_asn_syntax.specs.declared.types.Item.{Item}
use Rattle.acn_asn_syntax.specs.declared.types.Rest.{Rest}
use Rattle.acn_asn_syntax.specs.declared.types.AsnBase.TheOpen.{AsnBase-F, AsnType-F}
use Rattle.acn_asn_syntax.specs.declared.modules.Oid.{Oid}
use Rattle.acn_asn_syntax.specs.declared.modules.Tagging.{Tagging}
use Rattle.acn_asn_syntax.specs.declared.modules.Exports.{Exports}
use Rattle.acn_asn_syntax.specs.declared.modules.Import.{Import}

-- ---- sets

mutual
  pub data Set : Type 0 where
    all_except : Element → Set
    union_of : Meet → Meets → Set

  pub data Meets : Type 0 where
    no_meets : Meets
    and_meet : Bool → Meet → Meets → Meets

  pub data Meet : Type 0 where
    meet_of : Part → Parts → Meet

  pub data Parts : Type 0 where
    no_parts : Parts
    and_part : Bool → Part → Parts → Parts

  pub data Part : Type 0 where
    part_of : Element → Part
    part_but : Element → Element → Part

  pub data Element : Type 0 where
    value_of : AsnValue → Element
    range_of : AsnRange → Element
    size_of : Set → Element
    from_of : Set → Element
    inner_of : Set → Element

-- ---- types

mutual
  pub data AsnType : Type 0 where
    type_of : Option Tag → AsnBase → Constraints → AsnType

  pub data AsnBase : Type 0 where
    boolean : AsnBase
    null : AsnBase
    integer : Option (List Named) → AsnBase
    enumerated : List Item → AsnBase
    octet_string : AsnBase
    bit_string : AsnBase
    ia5_string : AsnBase
    sequence : Components → AsnBase
    sequence_of : AsnType → AsnBase
    sequence_size : Constraint → AsnType → AsnBase
    choice : Alternatives → AsnBase
    reference : Option (List ℕ) → List ℕ → AsnBase

  pub data Constraints : Type 0 where
    no_constraints : Constraints
    and_constraint : Constraint → Constraints → Constraints

  pub data Constraint : Type 0 where
    by_set : Set → Constraint
    by_size : Set → Constraint
    containing : AsnType → Constraint

  pub data Components : Type 0 where
    no_components : Components
    and_component : List ℕ → AsnType → Rest → Components → Components

  pub data Alternatives : Type 0 where
    no_alternatives : Alternatives
    and_alternative : List ℕ → AsnType → Alternatives → Alternatives

pub record Component : Type 0 where
  pub name : List ℕ
  pub of : AsnType
  pub rest : Rest

pub record Alternative : Type 0 where
  pub name : List ℕ
  pub of : AsnType

abbrev pub constraint_list : Constraints → List Constraint
constraint_list no_constraints = []
constraint_list (and_constraint c cs) = c ∷ constraint_list cs

abbrev pub component_list : Components → List Component
component_list no_components = []
component_list (and_component name of rest cs) = record { name = name; of = of; rest = rest } ∷ component_list cs

abbrev pub alternative_list : Alternatives → List Alternative
alternative_list no_alternatives = []
alternative_list (and_alternative name of more) = record { name = name; of = of } ∷ alternative_list more

-- one level of a type
abbrev pub out-AsnBase : AsnBase → AsnBase-F AsnBase Constraint Alternative AsnType Component
out-AsnBase boolean = AsnBase-F.Boolean
out-AsnBase null = AsnBase-F.Null
out-AsnBase (integer ns) = AsnBase-F.Integer ns
out-AsnBase (enumerated items) = AsnBase-F.Enumerated items
out-AsnBase octet_string = AsnBase-F.OctetString
out-AsnBase bit_string = AsnBase-F.BitString
out-AsnBase ia5_string = AsnBase-F.Ia5String
out-AsnBase (sequence cs) = AsnBase-F.Sequence (component_list cs)
out-AsnBase (sequence_of t) = AsnBase-F.SequenceOf None t
out-AsnBase (sequence_size c t) = AsnBase-F.SequenceOf (Some c) t
out-AsnBase (choice more) = AsnBase-F.Choice (alternative_list more)
out-AsnBase (reference from name) = AsnBase-F.Ref from name

abbrev pub out-AsnType : AsnType → AsnType-F AsnBase Constraint Alternative AsnType Component
out-AsnType (type_of tag b cs) = record { tag = tag; base = b; constraints = constraint_list cs }

-- ---- modules

pub data Assign : Type 0 where
  TypeIs : List ℕ → AsnType → Assign
  ValueIs : List ℕ → AsnType → AsnValue → Assign

pub record AsnModule : Type 0 where
  pub name : List ℕ
  pub oid : Option Oid
  pub tags : Option Tagging
  pub exports : Option Exports
  pub imports : Option (List Import)
  pub items : List Assign
