-- What the check of a tree promises. (This profile's own.)
use Rattle.std.specs.Prelude.{◌≡◌, ◌≤◌, Bool, false, List, [], ◌++◌, length, MatchOption}
use Rattle.acn_grammar.specs.Check.{FirstFault}
use Rattle.acn_grammar.specs.Check as spec
use Rattle.acn_grammar.specs.Code.{Mode, Any}
use Rattle.acn_grammar.specs.Faults.{check_fault_of}
use Rattle.acn_grammar.specs.Grammar.{Grammar, Data}
use Rattle.acn_grammar.specs.Interval.{span}
use Rattle.acn_grammar.specs.Sound.{Sound}
use Rattle.acn_grammar.specs.Spell.{Spell}
use Rattle.acn_grammar.specs.declared.check_fault.CheckFault.{CheckFault}

-- no fault of decodability comes first, so there is none
abbrev pub HasNoFault : Grammar → Type 0
HasNoFault root = (f : spec.CheckFault) → FirstFault root f → ⊥

-- the fault is the grammar's first, with its evidence; want of memory says nothing of the grammar
abbrev pub IsFirstFault : Grammar → CheckFault → Type 0
IsFirstFault root fault = MatchOption (check_fault_of fault) (Unit {0}) (FirstFault root)

-- no packet begins another, and its bits tell the value
abbrev pub PacketsTellTheirValue : Grammar → Type 0
PacketsTellTheirValue root = (d d' : Data) (a b r s : List Bool) → Spell root Any root [] d 0 a → Spell root Any root [] d' 0 b → a ++ r ≡ b ++ s → (a ≡ b) × (d ≡ d')

-- the length of every packet lies between the two bounds
abbrev pub PacketsLieWithinBounds : Grammar → Type 0
PacketsLieWithinBounds root = (mode : Mode) (d : Data) (bs : List Bool) → Spell root mode root [] d 0 bs → ((span root).least ≤ length bs) × (length bs ≤ (span root).greatest)

-- each node keeps all that a reader, a writer or a compiled plan needs of it; before the root nothing is known, and no slot is at home round it
abbrev pub NodesAreSound : Grammar → Type 0
NodesAreSound root = Sound root 0 [] (λ s. false) root
