-- What the call on constraints answers.
use Rattle.std.specs.Prelude.{ℕ, List, [], ◌∷◌, Option, Some, None, Result, Ok, Err}
use Rattle.acn_grammar.specs.Faults.{why_of as why_of_reason}
use Rattle.acn_grammar.specs.Meets.{Why, out_of_range, size_out_of_range, bad_character, terminator_inside}
use Rattle.acn_grammar.specs.Meets as meets
use Rattle.acn_grammar.specs.declared.unfit.UnfitReason.{UnfitReason}
use Rattle.acn_step_breach.specs.declared.leaves.Breach.{Breach}
use Rattle.acn_step_breach.specs.declared.leaves.Breach.TheVariants.{OutOfRange, SizeOutOfRange, BadCharacter, TerminatorInside}

-- the first place where a value doesn't meet its node, by the path and the answer of `breach_of`
abbrev pub refusal : List ℕ → Option UnfitReason → Option meets.Unfit
refusal path None = None
refusal path (Some reason) = Some (record { path = path; why = why_of_reason reason })

-- Inside the walk.

-- the first of some, if there is one
abbrev pub first : {A : Type 0} → List A → Option A
first [] = None
first (x ∷ xs) = Some x

abbrev pub why_of : Breach → Why
why_of (OutOfRange x) = out_of_range x
why_of (SizeOutOfRange n) = size_out_of_range n
why_of (BadCharacter i) = bad_character i
why_of (TerminatorInside i) = terminator_inside i

-- why, by the answer at one place
abbrev pub found : {A : Type 0} → Result A Breach → Option Why
found (Ok _) = None
found (Err b) = Some (why_of b)

-- where and why, by the answer and the path that the walk came to
abbrev pub found_at : {A : Type 0} → List ℕ → Result A Breach → Option meets.Unfit
found_at path (Ok _) = None
found_at path (Err b) = Some (record { path = path; why = why_of b })
