-- The events of the whole value, over a writer with nothing begun at the first bit of its buffer.
use Rattle.std.proofs.Common.{◌≡◌, ℕ, false, List, [], length, sym, subst}
use Rattle.acn_grammar.specs.Grammar.{Data}
use Rattle.acn_grammar.specs.Shaped.{Shaped}
use Rattle.acn_packet_laws.specs.Laws.{AcceptedIsSound, IsAccepted}
use Rattle.acn_events.specs.Event.{Event, Halt, State}
use Rattle.acn_events.specs.Events.{events}
use Rattle.acn_events.specs.Laws.{EventsWriteThePacket, RunsAreWritable, StopsKeepWhatIsLater, StopsPassTheirHoles, first_state}
use Rattle.acn_events.specs.Steps.{Run, Stops}
use Rattle.acn_pack.specs.Packs.{Ran, Stopped}
use Rattle.acn_pack.specs.Sounds.{IsSound}
use Rattle.acn_plan.specs.Back.{root_of, node_at}
use Rattle.acn_plan.specs.declared.step.Step.{Step}
use Rattle.acn_writer.specs.Answers.{state_of}
use Rattle.acn_writer.specs.Halts.{class_of}
use Rattle.acn_writer.specs.declared.writer.Writer.{Writer}
use Rattle.acn_packing.specs.Tries.{HaltsWhole, PacksWhole}

pub sound_root : AcceptedIsSound → (steps : List Step) (path : List ℕ) → IsAccepted (root_of steps) → path ≡ [] → IsSound (root_of steps) (length path) (node_at steps 0)
sound_root sound steps path accepted p = subst (λ (x : List ℕ). IsSound (root_of steps) (length x) (node_at steps 0)) (sym p) (record { around = []; known = λ s. false; is = sound (root_of steps) accepted })

-- the events of a walk over steps, as those of the plan's
abbrev walked : List Step → List ℕ → Data → List Event
walked steps path d = events (root_of steps) (node_at steps 0) path d

module _ {N S A : ℕ} (steps whole : List Step) (path : List ℕ) (d : Data) (old new : Writer N S A) (same : steps ≡ whole) (top : path ≡ []) (accepted : IsAccepted (root_of whole)) (shaped : Shaped (root_of whole) d) (fresh : state_of old ≡ first_state (state_of old).buf) where
  turned : (P : List Event → Type 0) → P (walked steps path d) → P (walked whole [] d)
  turned P p = subst (λ (x : List ℕ). P (walked whole x d)) top (subst (λ (x : List Step). P (walked x path d)) same p)

  pub whole_packs : RunsAreWritable → EventsWriteThePacket → length (state_of new).table.gaps ≡ length (state_of new).table.spots → Ran (walked steps path d) old new → PacksWhole (root_of whole) d old new
  whole_packs writable packet paired ran =
      let run = subst (λ (z : State). Run (walked whole [] d) z (state_of new)) fresh (turned (λ es. Run es (state_of old) (state_of new)) ran.runs) in
      let written = writable (root_of whole) d (state_of old).buf (state_of new) accepted shaped run in
      record {
        spelling = written.0;
        written = written.1;
        in_place = packet (root_of whole) d (state_of old).buf written.0 (state_of new) accepted shaped run written.1 paired;
      }

  pub whole_halts : StopsPassTheirHoles → StopsKeepWhatIsLater → (h : Halt) → Stopped (walked steps path d) old new h → HaltsWhole (root_of whole) d h old new
  whole_halts pass keep h stopped =
      let stops = subst (λ (z : State). Stops (class_of S A) (walked whole [] d) z (state_of new) h) fresh (turned (λ es. Stops (class_of S A) es (state_of old) (state_of new) h) stopped.stops) in
      record {
        stops = stops;
        passed = pass (class_of S A) (root_of whole) d (state_of old).buf (state_of new) h accepted shaped stops;
        later = keep (class_of S A) (root_of whole) d (state_of old).buf (state_of new) h accepted shaped stops;
      }
