-- The value at which the references of an identifier end, as a rule without a bound (X.680 clauses 14 and 17).
use Rattle.std.specs.Prelude.{◌≡◌, ℕ, Some, None}
use Rattle.acn_num.specs.Names.{Name}
use Rattle.acn_index.specs.World.{World}
use Rattle.acn_index.specs.Lookup.{is_value}
use Rattle.acn_index.specs.Values.{Worth, worth_at, refers, value_of}
use Rattle.acn_index.specs.Leading.{Leads}
use Rattle.acn_index.specs.declared.sources.TypeId.{TypeId}

-- An identifier leads, by some imports, to the assignment of a value. It ends at that value where it is no reference, else where
-- the name to which it refers ends in the module of that assignment.
pub data EndsAtValue (w : World) : ℕ → Name → Worth → Type 0 where
  by_value : {n k : ℕ} {name : Name} {p : TypeId} {x : Worth} → Leads w (is_value name) name n k p → worth_at w p ≡ Some x → refers x.is ≡ None → EndsAtValue w k name x
  by_reference : {n k : ℕ} {name other : Name} {p : TypeId} {x y : Worth} → Leads w (is_value name) name n k p → worth_at w p ≡ Some x → refers x.is ≡ Some other → EndsAtValue w x.owner other y → EndsAtValue w k name y

-- what an identifier leads to is exactly the value at which it ends, by however many references
pub record IsFoundWhereReferencesEnd (w : World) (k : ℕ) (name : Name) (x : Worth) : Type 0 where
  pub found_ends : value_of w k name ≡ Some x → EndsAtValue w k name x
  pub ends_found : EndsAtValue w k name x → value_of w k name ≡ Some x

abbrev pub ValuesAreFoundWhereReferencesEnd : Type 0
ValuesAreFoundWhereReferencesEnd = (w : World) (k : ℕ) (name : Name) (x : Worth) → IsFoundWhereReferencesEnd w k name x
