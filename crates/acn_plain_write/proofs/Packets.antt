-- A value whose moments can all be met is ready to be written.
use Rattle.std.proofs.Common.{ℕ, List, [], Bool, Option, false, refl, ap, subst, inl, inr, ◌⊎◌}
use Rattle.acn_asks.specs.Judged.{Judged}
use Rattle.acn_asks.specs.declared.asked.Asked.{Asked}
use Rattle.acn_grammar.specs.Asks.{moments}
use Rattle.acn_grammar.specs.Front.{IsWritten}
use Rattle.acn_grammar.specs.Grammar.{Grammar, Data}
use Rattle.acn_grammar.specs.Meets.{Meets, Unfit, first_of}
use Rattle.acn_grammar.specs.Refused.{FirstUnmet, Refused, RefusedAfter}
use Rattle.acn_lengths.specs.Measured.{SoundValuesCanBeMeasured}
use Rattle.acn_packet_laws.specs.Laws.{AcceptedIsSound, EachLengthIsTold, EachOccurrenceAsks, EachPathHasItsNumber, EachValueIsWrittenOrRefused, IsAccepted, PartsAreOfNodes, SpellingsHaveNoBreach, TellsSlots, ValuesAreOfNodes}
use Rattle.acn_plain_write.specs.Ready.{Ready}
use Rattle.acn_plain_write.proofs.ReadyLaw.{ready_node}

pub packet_ready : AcceptedIsSound → EachLengthIsTold → EachOccurrenceAsks → EachPathHasItsNumber → EachValueIsWrittenOrRefused → PartsAreOfNodes → SoundValuesCanBeMeasured → SpellingsHaveNoBreach → ValuesAreOfNodes
    → (root : Grammar) (d : Data) (heard : List (List ℕ × Asked)) (slot_at : List ℕ → Option ℕ) → IsAccepted root → Meets root d → TellsSlots root slot_at → Judged root slot_at (moments root root [] [] d) heard → Ready root heard root [] [] d
packet_ready sound lengths occurs numbered written of_nodes measured unbroken led root d heard slot_at accepted meets tells judged = by (written root d accepted meets.shaped)
  where
    unmet : (u : Unfit) → FirstUnmet root (moments root root [] [] d) u → ⊥
    unmet u f = f.unmet (judged.met f.before f.after f.here f.whole)

    by : ((bs : List Bool) × IsWritten root d bs) ⊎ ((u : Unfit) × Refused root d u) → Ready root heard root [] [] d
    by (inl w) =
        ready_node root accepted d heard slot_at tells judged occurs lengths numbered of_nodes led unbroken root 0 [] (λ s. false) (sound root accepted) [] refl d (λ r o e. e) (measured root 0 [] (λ s. false) root (sound root accepted) d meets) [] 0 w.0 w.1
    by (inr r) = absurd (unmet r.0 (subst (λ o. RefusedAfter root o d r.0) (ap first_of meets.none) r.1))
