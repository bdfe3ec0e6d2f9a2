-- The fault of a world, from its parts.
use Rattle.std.proofs.Common.{◌≡◌, ℕ, List, Option, Some, None, refl, sym, ap, ◌∙◌, subst}
use Rattle.std.specs.Prelude.{Result, Ok, Err, IfOk, IsSome, MatchOption, option_copied}
use Rattle.std.specs.Borrow.{Bor}
use Rattle.acn_num.specs.declared.memory.NoMemory.{NoMemory}
use Rattle.acn_num.specs.declared.name.Name as num
use Rattle.acn_num.specs.Names.{Name}
use Rattle.acn_index.specs.World.{World}
use Rattle.acn_world.specs.Cycles.{HasNoCycle, IsFirstCycle, wrong_kinds}
use Rattle.acn_world.specs.Faults.{first, early_fault, module_name_at, name_at, names_at, IsFault, early, cyclic, late, IsSound}
use Rattle.acn_index.specs.declared.sources.TypeId.{TypeId}
use Rattle.acn_world.specs.declared.fault.NameFault.{NameFault}
use Rattle.acn_world.specs.declared.fault.NameFault.TheVariants as fault
use Rattle.acn_names.specs.Rounds.{IsCycleFault}

abbrev Tells : World → Option NameFault → Type 0
Tells w found = MatchOption found (IsSound w) (IsFault w)

module _ (w : World) where
  late_tells : early_fault w ≡ None → HasNoCycle w → (found : Option NameFault) → found ≡ first (wrong_kinds w) → Tells w found
  late_tells e none None f = record { early = e; acyclic = none; late = sym f }
  late_tells e none (Some x) f = late e none (sym f)

  pub late_answer : early_fault w ≡ None → HasNoCycle w → (r : Result (Option NameFault) NoMemory) → IfOk r (λ (f : Option NameFault). f ≡ first (wrong_kinds w)) → IfOk r (Tells w)
  late_answer e none (Ok found) f = late_tells e none found f
  late_answer e none (Err x) f = f

  pub cycle_tells : early_fault w ≡ None → (p : TypeId) (way : List TypeId) → IsFirstCycle w p way → (f : NameFault) → IsCycleFault w p way f → IsFault w f
  cycle_tells e p way c f h = subst (IsFault w) (sym h.is) (cyclic e c h.of_module h.own)

  -- the names are those of the first of the cycle, of its module, and of the way
  pub made : (p : TypeId) (way : List TypeId) (owner own : Name) (owners names : Option Name) → owners ≡ module_name_at w p → names ≡ name_at w p → owners ≡ Some owner → names ≡ Some own
      → (m n : Name) (all : List Name) → m ≡ owner → n ≡ own → all ≡ names_at w way → IsCycleFault w p way (fault.Cycle m n all)
  made p way owner own owners names e f g h m n all i j k = record {
    owner = owner;
    name = own;
    of_module = sym e ∙ g;
    own = sym f ∙ h;
    is = ap (λ (x : Name). fault.Cycle x n all) i ∙ (ap (λ (x : Name). fault.Cycle owner x all) j ∙ ap (λ (x : List Name). fault.Cycle owner own x) k);
  }

pub copied_there : (r : Option (Bor num.Name)) (o : Option Name) → option_copied r ≡ o → IsSome o → IsSome r
copied_there None o e h = rw (sym e) at h
copied_there (Some x) o e h = refl
