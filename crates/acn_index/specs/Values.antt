-- What an identifier of a value leads to.
use Rattle.std.specs.Prelude.{ℕ, zero, suc, Bool, true, false, Option, Some, None, option_and_then}
use Rattle.acn_asn_syntax.specs.Mirror.{AsnType, Assign, TypeIs, ValueIs}
use Rattle.acn_asn_syntax.specs.declared.values.AsnValue.{AsnValue}
use Rattle.acn_asn_syntax.specs.declared.values.AsnValue.TheVariants as value
use Rattle.acn_num.specs.Names.{Name}
use Rattle.acn_index.specs.World.{World, assignment, count}
use Rattle.acn_index.specs.Lookup.{value_named}
use Rattle.acn_index.specs.declared.sources.TypeId.{TypeId}

-- the type and the value of a value's assignment, with the number of its module
pub record Worth : Type 0 where
  pub owner : ℕ
  pub of : AsnType
  pub is : AsnValue

abbrev pub worth_of : ℕ → Assign → Option Worth
worth_of k (TypeIs name t) = None
worth_of k (ValueIs name t v) = Some (record { owner = k; of = t; is = v })

abbrev pub worth_at : World → TypeId → Option Worth
worth_at w p = option_and_then (worth_of p.module) (assignment w p)

-- the name to which a value refers, where it is a reference
abbrev pub refers : AsnValue → Option Name
refers (value.Ref name) = Some name
refers _ = None

-- what an identifier leads to by one assignment
unfoldable pub first_worth : World → ℕ → Name → Option Worth
first_worth w k name = option_and_then (worth_at w) (value_named w k name)

-- the value itself, or what comes next where it is a reference
abbrev pub referring : (Worth → Name → Option Worth) → Worth → Option Name → Option Worth
referring next x None = Some x
referring next x (Some other) = next x other

abbrev pub onward : (Worth → Name → Option Worth) → Worth → Option Worth
onward next x = referring next x (refers x.is)

-- over at most so many assignments
unfoldable pub value_within : ℕ → World → ℕ → Name → Option Worth
value_within zero w k name = None
value_within (suc n) w k name = option_and_then (onward (λ x other. value_within n w x.owner other)) (first_worth w k name)

-- what an identifier leads to in the end; a ring of references has no end, and leads to nothing
unfoldable pub value_of : World → ℕ → Name → Option Worth
value_of w k name = value_within (count w) w k name

-- the value at which references end, unless it refers to something that isn't there
abbrev pub unreferring : Worth → Option Name → Option Worth
unreferring x None = Some x
unreferring x (Some name) = None

abbrev pub end_worth : World → TypeId → Option Worth
end_worth w p = option_and_then (λ x. unreferring x (refers x.is)) (worth_at w p)

abbrev pub is_number : AsnValue → Bool
is_number (value.Number negative n) = true
is_number _ = false

abbrev pub is_number_worth : Option Worth → Bool
is_number_worth None = false
is_number_worth (Some x) = is_number x.is

-- whether an identifier leads to a number
unfoldable pub leads_to_number : World → ℕ → Name → Bool
leads_to_number w k name = is_number_worth (value_of w k name)
