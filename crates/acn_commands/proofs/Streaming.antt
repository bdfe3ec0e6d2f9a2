-- From how a stream ended to how the request is served.
use Rattle.std.proofs.Common.{◌≡◌, ℕ, ◌<◌, List, [], ◌∷◌, Option, refl, ◌∙◌, subst}
use Rattle.std.specs.Prelude.{Result, Ok, Err, IsTrue}
use Rattle.acn_files.specs.Contents.{Told}
use Rattle.acn_grammar.specs.Interval.{span}
use Rattle.acn_grammar.specs.View.{grammar_of}
use Rattle.acn_index.specs.World.{World}
use Rattle.acn_print.specs.Printing.{Output}
use Rattle.acn_stream.specs.declared.stream_fault.StreamFault.{StreamFault}
use Rattle.acn_stream.specs.declared.stream_fault.StreamFault.TheVariants as stream
use Rattle.acn_tree.specs.declared.tree.Tree.{Tree}
use Rattle.acn_words.specs.Requests.{Request, files_of, types_of, reads_input}
use Rattle.acn_commands.specs.Asked.{HasGrammars, IsWorldOfNames}
use Rattle.acn_outside.specs.Counts.{Stays}
use Rattle.acn_commands.specs.Outside.{Outside, seen, Says, StreamsStay}
use Rattle.acn_commands.specs.Refusals as refusals
use Rattle.acn_commands.specs.Serves.{Serves, converted, refused, unconverted, broken_off, cut, stopped, halted, Converts, StreamEnds}
use Rattle.acn_commands.specs.Steps.{Answers, AnswersStream, EndsStream, never_begun, unplanned, ended, TellsStream, WasBegun, FailedSo}
use Rattle.acn_commands.specs.declared.status.Status.{Status}
use Rattle.acn_commands.proofs.Serving.{grammars_are}

module _ (request : Request) (w : World) (tree : Tree) (answers : Answers w (types_of request) (tree ∷ [])) (ends : (i i' o o' : Option (List ℕ)) → Result ℕ StreamFault → Type 0)
    (converts : (b a : Outside) (result : Result ℕ StreamFault) → ends b.input a.input b.out.0 a.out.0 result → StreamEnds request tree b a result) (reads : IsTrue (reads_input request)) where
  module _ (i i' : Option (List ℕ)) (n n' : ℕ) (o o' err err1 err' : Output) (same : err1 ≡ err) (told : Told) (faults faults' : List ℕ → ℕ) (read : IsWorldOfNames told (files_of request) w) where
    abbrev before : Outside
    before = seen told faults i n o err

    abbrev after : Outside
    after = seen told faults' i' n' o' err'

    has : HasGrammars told request (tree ∷ [])
    has = grammars_are told request w (types_of request) (tree ∷ []) read refl answers

    said : (line : List ℕ) → Says line err1 err' → Says line err err'
    said line h = subst (λ (x : Output). Says line x err') same h

    stay : Stays n n' × Stays o.1 o'.1 → StreamsStay before after
    stay s = record { input = s.0; out = s.1 }

    module _ (some : 0 < (span (grammar_of tree.root)).least) where
      so : (result : Result ℕ StreamFault) → ends i i' o.0 o'.0 result → Converts request tree before after result
      so result e = record { some = some; ends = converts before after result e }

      by_result : (result : Result ℕ StreamFault) (status : Status) → ends i i' o.0 o'.0 result → TellsStream tree result err1 err' status → WasBegun result → FailedSo result n n' o.1 o'.1 → Serves before after request status
      by_result (Ok count) status e t b f = rw t.0 (converted tree count has (so (Ok count) e) (stay f) (t.1 ∙ same))
      by_result (Err (stream.LineTooLong k)) status e t b f = rw t.0 (unconverted tree (stream.LineTooLong k) has refl (so (Err (stream.LineTooLong k)) e) (stay f) (said _ t.1))
      by_result (Err stream.InputTooLong) status e t b f = rw t.0 (unconverted tree stream.InputTooLong has refl (so (Err stream.InputTooLong) e) (stay f) (said _ t.1))
      by_result (Err stream.EmptyPacket) status e t b f = absurd b
      by_result (Err (stream.Packet k fault)) status e t b f = rw t.0 (unconverted tree (stream.Packet k fault) has refl (so (Err (stream.Packet k fault)) e) (stay f) (said _ t.1))
      by_result (Err (stream.BadLine k fault)) status e t b f = rw t.0 (unconverted tree (stream.BadLine k fault) has refl (so (Err (stream.BadLine k fault)) e) (stay f) (said _ t.1))
      by_result (Err (stream.Unfit k fault)) status e t b f = rw t.0 (unconverted tree (stream.Unfit k fault) has refl (so (Err (stream.Unfit k fault)) e) (stay f) (said _ t.1))
      by_result (Err stream.InputFault) status e t b f = rw t.0 (broken_off tree has (so (Err stream.InputFault) e) f (said _ t.1))
      by_result (Err stream.OutputFault) status e t b f = rw t.0 (cut tree has (so (Err stream.OutputFault) e) f (said _ t.1))
      by_result (Err stream.NoMemory) status e t b f = rw t.0 (halted tree has (so (Err stream.NoMemory) e) (stay f) (said _ t.1))

    by_stream : (status : Status) → EndsStream ends tree i i' n n' o o' err1 err' status → Serves before after request status
    by_stream status (never_begun least input faults_are out says) =
        refused _ (refusals.empty tree has reads least) (record { unread = record { input = input; faults = faults_are }; out = out }) (said _ says)
    by_stream status (unplanned input faults_are out says) = stopped (record { unread = record { input = input; faults = faults_are }; out = out }) (said _ says)
    by_stream status (ended result s some e t b f) = by_result some result s e t b f

  pub stream_serves : (i i' : Option (List ℕ)) (n n' : ℕ) (o o' err err1 err' : Output) (status : Status) → err1 ≡ err → EndsStream ends tree i i' n n' o o' err1 err' status → AnswersStream request w i i' n n' o o' err err' status
  stream_serves i i' n n' o o' err err1 err' status same e told faults faults' read = by_stream i i' n n' o o' err err1 err' same told faults faults' read status e
