-- Laws of the definitions, as contracts name them.
use Rattle.std.specs.Prelude.{◌≡◌, ℕ, ℤ, Option, Bool, List}
use Rattle.acn_grammar.specs.Shaped.{Shaped}
use Rattle.acn_json.specs.Lines.{line_of}
use Rattle.acn_grammar.specs.Front.{Front}
use Rattle.acn_grammar.specs.Grammar.{Grammar, Data}
use Rattle.acn_packet_laws.specs.Laws.{IsAccepted}
use Rattle.acn_compare.specs.Accepts.{Accepts, FirstDifference}
use Rattle.acn_compare.specs.declared.answer.Reason.{Reason}

-- a packet of the old grammar is a packet of the new one, with the same value, whatever follows it
abbrev pub OldPacketsAreRead : Type 0
OldPacketsAreRead =
    (old new : Grammar) (input : List Bool) (d : Data) (n : ℕ) → IsAccepted old → IsAccepted new → Accepts old new → Front old input d n → Front new input d n

-- a value of the old grammar has the same line under the new one
abbrev pub LinesAreAlike : Type 0
LinesAreAlike = (old new : Grammar) (d : Data) → Accepts old new → Shaped old d → line_of old d ≡ line_of new d

-- where there is a first difference the new grammar doesn't accept the old one
abbrev pub DifferencesExclude : Type 0
DifferencesExclude = (old new : Grammar) (path : List ℕ) (reason : Reason) (number : Option ℤ) → FirstDifference old new path reason number → Accepts old new → ⊥

-- the two together: each packet of the old grammar is one of the new one, with the same value and the same line
abbrev pub ReadsAlike : Grammar → Grammar → Type 0
ReadsAlike old new = (input : List Bool) (d : Data) (n : ℕ) → Front old input d n → Front new input d n × (line_of old d ≡ line_of new d)

-- where the new grammar doesn't accept the old one, one difference comes first
abbrev pub OneFirstDifference : Type 0
OneFirstDifference =
    (old new : Grammar) (path path' : List ℕ) (reason reason' : Reason) (number number' : Option ℤ) → FirstDifference old new path reason number → FirstDifference old new path' reason' number'
    → (path ≡ path') × (reason ≡ reason') × (number ≡ number')
