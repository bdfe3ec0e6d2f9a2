-- What the calls on constraints answer.
use Rattle.std.specs.Prelude.{ℕ, List, [], ◌∷◌, Option, Some, None, Result, Ok, Err}
use Rattle.acn_grammar.specs.Faults.{unfit_of}
use Rattle.acn_grammar.specs.Grammar.{Grammar, Data}
use Rattle.acn_grammar.specs.Meets.{Why, out_of_range, size_out_of_range, bad_character, terminator_inside, breaches}
use Rattle.acn_grammar.specs.Meets as meets
use Rattle.acn_tree.specs.declared.breach.Breach.{Breach}
use Rattle.acn_tree.specs.declared.breach.Breach.TheVariants.{OutOfRange, SizeOutOfRange, BadCharacter, TerminatorInside}
use Rattle.acn_grammar.specs.declared.unfit.Unfit.{Unfit}

-- the first of some, if there is one
abbrev pub first : {A : Type 0} → List A → Option A
first [] = None
first (x ∷ xs) = Some x

-- the first place where a value doesn't meet its node, by the answer of `meets`
abbrev pub refusal : {A : Type 0} → Result A Unfit → Option meets.Unfit
refusal (Ok _) = None
refusal (Err u) = Some (unfit_of u)

-- Inside the walk.

abbrev pub why_of : Breach → Why
why_of (OutOfRange x) = out_of_range x
why_of (SizeOutOfRange n) = size_out_of_range n
why_of (BadCharacter i) = bad_character i
why_of (TerminatorInside i) = terminator_inside i

-- why, by the answer at one place
abbrev pub found : {A : Type 0} → Result A Breach → Option Why
found (Ok _) = None
found (Err b) = Some (why_of b)

-- where and why, by the answer and the path that the walk came to
abbrev pub found_at : {A : Type 0} → List ℕ → Result A Breach → Option meets.Unfit
found_at path (Ok _) = None
found_at path (Err b) = Some (record { path = path; why = why_of b })

-- the breaches of a component, if it is there
abbrev pub place_breaches : List ℕ → Grammar → Option Data → List meets.Unfit
place_breaches path g None = []
place_breaches path g (Some d) = breaches path g d
