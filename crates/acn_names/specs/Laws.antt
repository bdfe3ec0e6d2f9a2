-- Laws about the values and the types of a sound world.
use Rattle.std.specs.Prelude.{◌≡◌, ℕ, is_some, Option, Some, None}
use Rattle.acn_num.specs.Names.{Name}
use Rattle.acn_asn_syntax.specs.Mirror.{AsnType, type_of, reference, no_constraints}
use Rattle.acn_asn_syntax.specs.declared.types.Tag.{Tag}
use Rattle.acn_index.specs.World.{World}
use Rattle.acn_index.specs.Lookup.{value_named, type_named}
use Rattle.acn_index.specs.Values.{value_of}
use Rattle.acn_index.specs.Chains.{Link, written, assigned_link, base_reference, base_of, chain_of}
use Rattle.acn_world.specs.Faults.{IsSound}
use Rattle.acn_index.specs.declared.sources.TypeId.{TypeId}
use Rattle.acn_names.specs.Standing.{Stands}

-- in a sound world an identifier leads to a value exactly where it names one
abbrev pub EachNamedValueIsFound : Type 0
EachNamedValueIsFound = (w : World) (k : ℕ) (name : Name) → IsSound w → is_some (value_of w k name) ≡ is_some (value_named w k name)

-- in a sound world the chain of each type that stands in it ends at a type that is no reference
abbrev pub EachTypeHasABase : Type 0
EachTypeHasABase = (w : World) (k : ℕ) (t : AsnType) → IsSound w → Stands w k t → base_reference (base_of w (written k t)) ≡ None

-- In a sound world a reference without constraints of its own has the chain of the assigned type to which it leads.
abbrev pub ReferencesHaveTheChainOfTheirType : Type 0
ReferencesHaveTheChainOfTheirType = (w : World) (k : ℕ) (tag : Option Tag) (from : Option Name) (name : Name) (p : TypeId) (l : Link) → IsSound w → type_named w k from name ≡ Some p → assigned_link w p ≡ Some l
    → chain_of w (written k (type_of tag (reference from name) no_constraints)) ≡ chain_of w l
