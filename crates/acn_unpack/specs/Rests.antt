-- On which bits an answer rests.
use Rattle.std.specs.Prelude.{◌≡◌, ◌≢◌, ℕ, Bool, List, take}
use Rattle.acn_grammar.specs.Fails.{Fault, Refusal}
use Rattle.acn_grammar.specs.Front.{Front}
use Rattle.acn_grammar.specs.Grammar.{Grammar, Data}
use Rattle.acn_grammar.specs.Faults.{fault_of}
use Rattle.acn_grammar.specs.LeafFails.{short}
use Rattle.acn_grammar.specs.declared.fault.Refuse.{Refuse}
use Rattle.acn_grammar.specs.declared.fault.Refuse.TheVariants.{Bad, NoMemory}
use Rattle.acn_packet_laws.specs.Laws.{IsAccepted}
use Rattle.acn_reads.specs.Answers.{OnlyFront}

-- what is at the front of one input is what is at the front of each other with the same bits, and nothing fails there
abbrev pub ValuesRestOnBits : Type 0
ValuesRestOnBits = (root : Grammar) (input other : List Bool) (d : Data) (n : ℕ) → IsAccepted root → Front root input d n → take n other ≡ take n input → Front root other d n × OnlyFront root other d n

-- a failure other than the want of bits is the only one of each input with the same bits up to where it rests, and no value is at the front there
abbrev pub FaultsRestOnBits : Type 0
FaultsRestOnBits =
    (root : Grammar) (input other : List Bool) (fault : Fault) (reach : ℕ) → IsAccepted root → Refusal root input fault reach → fault.reason ≢ short → take reach other ≡ take reach input
    → Refusal root other fault reach × ((f : Fault) (r : ℕ) → Refusal root other f r → f ≡ fault) × ((d : Data) (n : ℕ) → Front root other d n → ⊥)

-- each input with the bits of the front has the value at its front, and no other, and nothing fails there
abbrev pub FrontRests : Grammar → List Bool → Data → ℕ → Type 0
FrontRests root input d n = (other : List Bool) → take n other ≡ take n input → Front root other d n × OnlyFront root other d n

-- the fault rests on some first bits: unless bits are wanting, it is the only one of each input with these, and no value is at the front there
abbrev pub FaultRests : Grammar → List Bool → Fault → Type 0
FaultRests root input fault = (reach : ℕ) × Refusal root input fault reach
    × (fault.reason ≢ short → (other : List Bool) → take reach other ≡ take reach input
    → Refusal root other fault reach × ((f : Fault) (r : ℕ) → Refusal root other f r → f ≡ fault) × ((d : Data) (n : ℕ) → Front root other d n → ⊥))

-- want of memory says nothing of the input
abbrev pub RefuseRests : Grammar → List Bool → Refuse → Type 0
RefuseRests root input (Bad fault) = FaultRests root input (fault_of fault)
RefuseRests root input NoMemory = Unit {0}
