-- What the plain writer answers. (This profile's own.)
use Rattle.std.specs.Prelude.{◌≡◌, ◌≤◌, Bool, List, [], ◌++◌, length, Option, Some, None, option_map, slice_get}
use Rattle.acn_num.specs.declared.limits.TheConstants.{MOST_STEPS}
use Rattle.acn_asks.specs.Moments as moments
use Rattle.acn_asks.specs.declared.moments.Halt.{Halt}
use Rattle.acn_asks.specs.declared.moments.Halt.TheVariants as halt
use Rattle.acn_asks.specs.declared.moments.Moment.{Moment}
use Rattle.acn_asks.specs.declared.moments.Moment.TheVariants as moment
use Rattle.acn_grammar.specs.Code.{Mode}
use Rattle.acn_grammar.specs.Faults.{ask_of, unfit_of}
use Rattle.acn_grammar.specs.Front.{IsWritten}
use Rattle.acn_grammar.specs.Grammar.{Grammar, Data}
use Rattle.acn_grammar.specs.Meets as meets
use Rattle.acn_grammar.specs.Refused.{Refused}
use Rattle.acn_grammar.specs.Spell.{Spell}
use Rattle.acn_plain.specs.declared.encode.PlainFault.{PlainFault}
use Rattle.acn_plain.specs.declared.encode.PlainFault.TheVariants.{Unfit, NoMemory}

-- nothing else is written for the value
abbrev pub OnlyWriting : Grammar → Data → List Bool → Type 0
OnlyWriting root d bs = (other : List Bool) → IsWritten root d other → other ≡ bs

-- the value is refused for this; want of memory says nothing of it
abbrev pub Refuses : Grammar → Data → PlainFault → Type 0
Refuses root d (Unfit unfit) = Refused root d (unfit_of unfit)
Refuses root d NoMemory = Unit {0}

-- it is refused for nothing else, and no bits spell it, neither written nor read
abbrev pub OnlyRefusal : Grammar → Data → PlainFault → Type 0
OnlyRefusal root d (Unfit unfit) = ((other : meets.Unfit) → Refused root d other → other ≡ unfit_of unfit) × ((mode : Mode) (bs : List Bool) → Spell root mode root [] d 0 bs → ⊥)
OnlyRefusal root d NoMemory = Unit {0}

-- Inside the call.

-- the paths of a moment can be kept
abbrev pub HasPaths : Moment → Type 0
HasPaths (moment.Asks path field slot set wanted) = (length path ≤ MOST_STEPS) × (length field ≤ MOST_STEPS)
HasPaths (moment.Counts path octets sizing) = length path ≤ MOST_STEPS

-- so can those of the moment where hearing ended
abbrev pub HasPathsAt : List Moment → Halt → Type 0
HasPathsAt ms (halt.Unmet at earlier) = (m : Moment) × (slice_get ms at ≡ Some m) × HasPaths m
HasPathsAt ms halt.NoMemory = Unit {0}

-- what a value is refused for, by where hearing its moments ended
abbrev pub heard_till : List Moment → Halt → Option meets.Unfit
heard_till ms (halt.Unmet at earlier) = option_map (λ m. moments.unfit_of m (option_map ask_of earlier)) (slice_get ms at)
heard_till ms halt.NoMemory = None

-- by the answer
abbrev pub unfit_in : PlainFault → Option meets.Unfit
unfit_in (Unfit unfit) = Some (unfit_of unfit)
unfit_in NoMemory = None
