-- What the program's types stand for.
use Rattle.std.specs.Prelude.{◌≡◌, ℕ, ℤ, ◌<◌, ◌≤◌, ◌^◌, ◌-◌, Bool, true, false, List, [], ◌∷◌, length, Option, Some, None}
use Rattle.acn_grammar.specs.Grammar.{Form, choice}
use Rattle.acn_grammar.specs.View.{alternatives_view}
use Rattle.acn_grammar.specs.declared.node.Alternative.{Alternative}
use Rattle.acn_grammar.specs.declared.node.Test.{Test}
use Rattle.acn_check.specs.Facts.{Facts}
use Rattle.acn_grammar.specs.Walk.{Use, condition, item_of, size_of, conditions_of}
use Rattle.acn_grammar.specs.declared.check_fault.CheckFault.{CheckFault}
use Rattle.acn_grammar.specs.declared.check_fault.CheckFault.TheVariants.{TooManyConditions}
use Rattle.acn_check.specs.First.{Det, Tally}
use Rattle.acn_check.specs.declared.uses.Use as uses
use Rattle.acn_check.specs.declared.uses.Use.TheVariants as uses_variants
use Rattle.acn_check.specs.declared.dets.Det as program
use Rattle.acn_check.specs.declared.tallies.Tally as tallies
use Rattle.acn_grammar.specs.declared.limits.TheConstants.{MOST_NODES}

abbrev pub use_of : uses.Use → Use
use_of (uses_variants.Condition t) = condition t
use_of (uses_variants.Item s) = item_of s
use_of (uses_variants.Size s) = size_of s

abbrev pub det_of : program.Det → Det
det_of d = record { at = d.at; path = d.path; leaf = d.leaf.now }

abbrev pub tally_of : tallies.Tally → Tally
tally_of t = record { used = t.used; equals = t.equals }

-- a count of conditions that is told is below the greatest number of 32 bits, at which counting ends
abbrev pub IsTold : CheckFault → Type 0
IsTold (TooManyConditions det n) = n < 2 ^ 32 - 1
IsTold _ = Unit {0}

-- the alternatives of a CHOICE, each with its conditions
abbrev pub cases_of : List Alternative → List (List ℕ × List Test)
cases_of as' = conditions_of (alternatives_view as')

-- the number of an alternative fits 32 bits
abbrev pub few_in : Form → Type 0
few_in (choice cases rule) = length (conditions_of cases) ≤ MOST_NODES
few_in _ = Unit {0}

abbrev pub AreFew : Facts → Type 0
AreFew f = few_in f.form

abbrev pub FewCases : List Facts → Type 0
FewCases [] = Unit {0}
FewCases (f ∷ fs) = AreFew f × FewCases fs

-- whether it was taken, and what is there then
abbrev pub IsPut : Option (List (ℕ × ℤ)) → Bool → List (ℕ × ℤ) → Type 0
IsPut o true values = o ≡ Some values
IsPut o false values = o ≡ None
