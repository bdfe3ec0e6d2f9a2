-- A recording in which a packet is refused is refused there, and nowhere else, as are lines of which one is refused. (This program's own.)
use Rattle.std.specs.Prelude.{◌≡◌, ℕ, ◌+◌, ◌≤◌, Bool, true, false, List, [], ◌∷◌, length, Some, Err, IsTrue}
use Rattle.acn_grammar.specs.Fails.{Fault as FailsWith}
use Rattle.acn_grammar.specs.Faults.{fault_of}
use Rattle.acn_grammar.specs.Grammar.{Data}
use Rattle.acn_grammar.specs.View.{grammar_of}
use Rattle.acn_grammar.specs.declared.fault.Fault.{Fault}
use Rattle.acn_report.specs.Texts.{packet_line}
use Rattle.acn_stream.specs.declared.stream_fault.StreamFault.{StreamFault}
use Rattle.acn_stream_laws.specs.Laws.{IsStuckBehind, LineRefusal, IsRefusedBehind, RefusesLine}
use Rattle.acn_tree.specs.declared.tree.Tree.{Tree}
use Rattle.acn_words.specs.Requests.{Request, encode, decode, explain}
use Rattle.acn_commands.specs.Asked.{HasGrammars}
use Rattle.acn_run.specs.Complete.{IsUnrefused, NothingFailed}
use Rattle.acn_commands.specs.Lines.{stream_line}
use Rattle.acn_commands.specs.Outside.{Outside, Says}
use Rattle.acn_commands.specs.Serves.{is_of_input}
use Rattle.acn_commands.specs.declared.streams.TheConstants.{MOST_INPUT_BYTES}

-- whether it reads a recording
abbrev pub reads_recording : Request → Bool
reads_recording (decode of names) = true
reads_recording (explain of names) = true
reads_recording _ = false

-- The input is within the limit, and what stands behind the packets of the values is none: it fails with this.
pub record IsStuckInput (b : Outside) (tree : Tree) : Type 0 where
  pub values : List Data
  pub bytes : List ℕ
  pub fault : FailsWith
  pub is : b.input ≡ Some bytes
  pub within : length bytes ≤ MOST_INPUT_BYTES
  pub stuck : IsStuckBehind (grammar_of tree.root) values bytes fault

module _ (b a : Outside) (request : Request) where
  -- the number with which such a run ends, and what is said
  pub data EndsStuck : ℕ → Type 0 where
    -- 3: the packet behind those of the values is named, with that fault
    at_packet : (tree : Tree) (input : IsStuckInput b tree) (f : Fault) → HasGrammars b.files request (tree ∷ []) → fault_of f ≡ input.fault → Says (packet_line tree (length input.values + 1) f) b.err a.err → EndsStuck 3
    -- 7: memory ran out
    out_of_memory : EndsStuck 7

  -- no reason refuses the sources, no device fails, and by the grammar of the request the input is stuck
  abbrev pub IsStuckRun : ℕ → Type 0
  IsStuckRun code = IsTrue (reads_recording request) → IsUnrefused b.files request → NothingFailed b a → ((tree : Tree) → HasGrammars b.files request (tree ∷ []) → IsStuckInput b tree) → EndsStuck code

-- whether it reads lines
abbrev pub reads_lines : Request → Bool
reads_lines (encode of names) = true
reads_lines _ = false

-- The input is within the limit. It is lines of which none is refused, and behind them one that is.
pub record IsRefusedInput (b : Outside) (tree : Tree) : Type 0 where
  pub ls : List (List ℕ)
  pub bytes : List ℕ
  pub why : LineRefusal
  pub is : b.input ≡ Some bytes
  pub within : length bytes ≤ MOST_INPUT_BYTES
  pub refused : IsRefusedBehind (grammar_of tree.root) ls bytes why

module _ (b a : Outside) (request : Request) where
  -- the number with which such a run ends, and what is said
  pub data EndsAtALine : ℕ → Type 0 where
    -- 3: the line behind those before it is named, with its reason
    at_line : (tree : Tree) (input : IsRefusedInput b tree) (fault : StreamFault) → HasGrammars b.files request (tree ∷ []) → is_of_input fault ≡ true → RefusesLine (length input.ls + 1) input.why (Err fault)
        → Says (stream_line tree fault) b.err a.err → EndsAtALine 3
    -- 7: memory ran out
    line_out_of_memory : EndsAtALine 7

  -- no reason refuses the sources, no device fails, and by the grammar of the request a line of the input is refused
  abbrev pub IsRefusedRun : ℕ → Type 0
  IsRefusedRun code = IsTrue (reads_lines request) → IsUnrefused b.files request → NothingFailed b a → ((tree : Tree) → HasGrammars b.files request (tree ∷ []) → IsRefusedInput b tree) → EndsAtALine code
