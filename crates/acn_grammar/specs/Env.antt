-- Numbers of slots, and which conditions hold under them. (`present-when` of ACN.)
use Rattle.std.specs.Prelude.{◌≡◌, ℕ, ℤ, pos, List, [], ◌∷◌, Option, Some, None, nat_eq, if◌then◌else◌}
use Rattle.acn_grammar.specs.declared.node.Presence.{Presence}
use Rattle.acn_grammar.specs.declared.node.Presence.TheVariants.{Always, Bit, When}
use Rattle.acn_grammar.specs.declared.node.Test.{Test}
use Rattle.acn_grammar.specs.declared.node.Test.TheVariants.{Flag, Equals}

-- the numbers of the slots whose homes enclose a place, the innermost home first
abbrev pub Env : Type 0
Env = List (ℕ × ℤ)

abbrev pub at_slot : Env → ℕ → Option ℤ
at_slot [] s = None
at_slot (e ∷ env) s = if nat_eq e.0 s then Some e.1 else at_slot env s

abbrev pub Holds : Env → Test → Type 0
Holds env (Flag s) = at_slot env s ≡ Some (pos 1)
Holds env (Equals s k) = at_slot env s ≡ Some k

abbrev pub AllHold : Env → List Test → Type 0
AllHold env [] = Unit {0}
AllHold env (t ∷ ts) = Holds env t × AllHold env ts

-- a component of this presence may be there
abbrev pub MayBeThere : Env → Presence → Type 0
MayBeThere env Always = Unit {0}
MayBeThere env Bit = Unit {0}
MayBeThere env (When ts) = AllHold env ts

-- a component of this presence may be away
abbrev pub MayBeAway : Env → Presence → Type 0
MayBeAway env Always = ⊥
MayBeAway env Bit = Unit {0}
MayBeAway env (When ts) = AllHold env ts → ⊥
