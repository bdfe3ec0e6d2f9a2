-- What an answer rests on.
use Rattle.std.proofs.Common.{ℕ, List, Bool}
use Rattle.acn_grammar.specs.Fails.{Fault, Refusal}
use Rattle.acn_grammar.specs.Faults.{fault_of}
use Rattle.acn_grammar.specs.Front.{Front}
use Rattle.acn_grammar.specs.Grammar.{Grammar, Data}
use Rattle.acn_grammar.specs.declared.fault.Refuse.{Refuse}
use Rattle.acn_grammar.specs.declared.fault.Refuse.TheVariants.{Bad, NoMemory}
use Rattle.acn_packet_laws.specs.Laws.{IsAccepted}
use Rattle.acn_reads.specs.Answers.{Refuses}
use Rattle.acn_unpack.specs.Rests.{ValuesRestOnBits, FaultsRestOnBits, FrontRests, FaultRests, RefuseRests}

pub front_rests : (root : Grammar) (input : List Bool) (d : Data) (n : ℕ) → ValuesRestOnBits → IsAccepted root → Front root input d n → FrontRests root input d n
front_rests root input d n law accepted front other same = law root input other d n accepted front same

pub fault_rests : (root : Grammar) (input : List Bool) (fault : Fault) → FaultsRestOnBits → IsAccepted root → ((reach : ℕ) × Refusal root input fault reach) → FaultRests root input fault
fault_rests root input fault law accepted r = (r.0, r.1, λ long other same. law root input other fault r.0 accepted r.1 long same)

pub refuse_rests : (root : Grammar) (input : List Bool) (e : Refuse) → FaultsRestOnBits → IsAccepted root → Refuses root input e → RefuseRests root input e
refuse_rests root input (Bad fault) law accepted r = fault_rests root input (fault_of fault) law accepted r
refuse_rests root input NoMemory law accepted r = tt
