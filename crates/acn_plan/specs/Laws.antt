-- Laws of steps, as contracts name them.
use Rattle.std.specs.Prelude.{◌≡◌}
use Rattle.acn_grammar.specs.Grammar.{Grammar}
use Rattle.acn_plan.specs.Back.{Nested, Itemed, Listed, root_of}
use Rattle.acn_plan.specs.Steps.{steps_of}

-- the steps of a root, read back, are that root
abbrev pub StepsSayTheirRoot : Type 0
StepsSayTheirRoot = (root : Grammar) → root_of (steps_of root) ≡ root

-- at most one root has a given list of steps
abbrev pub StepsTellTheirRoot : Type 0
StepsTellTheirRoot = (root other : Grammar) → steps_of root ≡ steps_of other → root ≡ other

-- each step ends behind its number and within the list, and what a list or octets hold stands behind it
abbrev pub StepsAreNested : Type 0
StepsAreNested = (root : Grammar) → Nested (steps_of root)

-- where the number of a slot says which alternative is there, each has the item of its name
abbrev pub StepsAreItemed : Type 0
StepsAreItemed = (root : Grammar) → Itemed root (steps_of root)

-- each CHOICE has the numbers of its alternatives' steps
abbrev pub StepsListTheirCases : Type 0
StepsListTheirCases = (root : Grammar) → Listed (steps_of root)
