-- How a request is served, by the status. (This program's own.)
use Rattle.std.specs.Prelude.{◌≡◌, ◌<◌, ℕ, Bool, true, false, List, [], ◌∷◌, Some, Result, Ok, Err, slice_get}
use Rattle.std.specs.List.{flat_map}
use Rattle.acn_explain.specs.Explaining.{ExplainEnds}
use Rattle.acn_grammar.specs.Interval.{span}
use Rattle.acn_grammar.specs.View.{grammar_of}
use Rattle.acn_layout.specs.Layout.{layout_text}
use Rattle.acn_outside.specs.Counts.{Rose}
use Rattle.acn_outside.specs.Moves.{Gains}
use Rattle.acn_outside.specs.Whole.{GainsFront}
use Rattle.acn_report.specs.CheckTexts.{no_memory_line}
use Rattle.acn_report.specs.Texts.{bounds_line}
use Rattle.acn_route.specs.Routing.{RouteEnds}
use Rattle.acn_route.specs.declared.count.RouteCount.{RouteCount}
use Rattle.acn_route.specs.declared.route_fault.RouteFault.{RouteFault}
use Rattle.acn_route.specs.declared.route_fault.RouteFault.TheVariants as routing
use Rattle.acn_source_report.specs.Texts.{unreadable_line}
use Rattle.acn_stream.specs.Decoding.{DecodeEnds}
use Rattle.acn_stream.specs.Encoding.{EncodeEnds}
use Rattle.acn_stream.specs.declared.stream_fault.StreamFault.{StreamFault}
use Rattle.acn_stream.specs.declared.stream_fault.StreamFault.TheVariants as stream
use Rattle.acn_tree.specs.declared.tree.Tree.{Tree}
use Rattle.acn_words.specs.Requests.{Request, check, bounds, layout, encode, decode, compare, extremes, route, explain, work, files_of}
use Rattle.acn_work.specs.Line.{summary_line}
use Rattle.acn_work.specs.Summaries.{IsSummary}
use Rattle.acn_work.specs.declared.summary.Summary.{Summary}
use Rattle.acn_commands.specs.Asked.{HasGrammars}
use Rattle.acn_commands.specs.Compared.{IsAnswerLine}
use Rattle.acn_commands.specs.Extremes.{IsExtremesText}
use Rattle.acn_commands.specs.Lines.{input_failed_line, output_failed_line, ok_line, stream_line}
use Rattle.acn_commands.specs.Outside.{Outside, Says, IsSilent, IsUnread, IsUntouched, StreamsStay}
use Rattle.acn_commands.specs.Refusals.{Refuses}
use Rattle.acn_commands.specs.Routed.{is_of_packets, listed_by, route_line}
use Rattle.acn_commands.specs.declared.status.Status.{Status}
use Rattle.acn_commands.specs.declared.status.Status.TheVariants.{Done, Usage, NoGrammar, BadInput, FileFailed, InputFailed, OutputFailed, NoMemory}
use Rattle.acn_commands.specs.declared.streams.TheConstants.{MOST_INPUT_BYTES}

-- the number of a status
abbrev pub code_of : Status → ℕ
code_of Done = 0
code_of Usage = 1
code_of NoGrammar = 2
code_of BadInput = 3
code_of FileFailed = 4
code_of InputFailed = 5
code_of OutputFailed = 6
code_of NoMemory = 7

-- a packet, a line or the length of the input is at fault, and no device
abbrev pub is_of_input : StreamFault → Bool
is_of_input (stream.LineTooLong number) = true
is_of_input stream.InputTooLong = true
is_of_input stream.EmptyPacket = false
is_of_input (stream.Packet number fault) = true
is_of_input (stream.BadLine number fault) = true
is_of_input (stream.Unfit number fault) = true
is_of_input stream.InputFault = false
is_of_input stream.OutputFault = false
is_of_input stream.NoMemory = false

-- the text of a command that doesn't read the input
abbrev pub IsText : Request → List Tree → List ℕ → Type 0
IsText (check names) trees text = text ≡ flat_map ok_line trees
IsText (bounds names) trees text = text ≡ flat_map bounds_line trees
IsText (layout of names) trees text = text ≡ flat_map layout_text trees
IsText (encode of names) trees text = ⊥
IsText (decode of names) trees text = ⊥
IsText (compare old new names) (tree ∷ newer ∷ []) text = IsAnswerLine tree newer text
IsText (compare old new names) _ text = ⊥
IsText (extremes of names) (tree ∷ []) text = IsExtremesText tree text
IsText (extremes of names) _ text = ⊥
IsText (route routes names) trees text = ⊥
IsText (explain of names) trees text = ⊥
IsText (work of start count names) (tree ∷ []) text = (s : Summary) × IsSummary (grammar_of tree.root) start count s × (text ≡ summary_line s)
IsText (work of start count names) _ text = ⊥

-- how the stream of a command that reads the input ends
abbrev pub StreamEnds : Request → Tree → (b a : Outside) → Result ℕ StreamFault → Type 0
StreamEnds (encode of names) tree b a result = EncodeEnds (grammar_of tree.root) MOST_INPUT_BYTES b.input a.input b.out.0 a.out.0 result
StreamEnds (decode of names) tree b a result = DecodeEnds (grammar_of tree.root) MOST_INPUT_BYTES b.input a.input b.out.0 a.out.0 result
StreamEnds (explain of names) tree b a result = ExplainEnds tree MOST_INPUT_BYTES b.input a.input b.out.0 a.out.0 result
StreamEnds _ tree b a result = ⊥

-- how a command that reads the input converts it: each packet has a bit, and the stream ends so
pub record Converts (request : Request) (tree : Tree) (b a : Outside) (result : Result ℕ StreamFault) : Type 0 where
  pub some : 0 < (span (grammar_of tree.root)).least
  pub ends : StreamEnds request tree b a result

-- how space packets are routed, each application process by the tree of its type
abbrev pub Routes : Request → List Tree → (b a : Outside) → Result RouteCount RouteFault → Type 0
Routes (route routes names) trees b a result = RouteEnds (listed_by routes trees) MOST_INPUT_BYTES b.input a.input b.out.0 a.out.0 result
Routes _ trees b a result = ⊥

-- What a run did between what it saw first and what it saw last.
module _ (b a : Outside) where
  pub data Serves (request : Request) : Status → Type 0 where
    -- 0: the text of the command was written
    printed : (trees : List Tree) (text : List ℕ) → HasGrammars b.files request trees → IsText request trees text → IsUnread b a → Gains b.out.0 a.out.0 text → IsSilent b.err a.err → Serves request Done
    -- 0: the input was converted to its end
    converted : (tree : Tree) (count : ℕ) → HasGrammars b.files request (tree ∷ []) → Converts request tree b a (Ok count) → StreamsStay b a → IsSilent b.err a.err → Serves request Done
    -- 0: all space packets were routed
    routed : (trees : List Tree) (counts : RouteCount) → HasGrammars b.files request trees → Routes request trees b a (Ok counts) → StreamsStay b a → IsSilent b.err a.err → Serves request Done
    -- 2: the sources are refused
    refused : (line : List ℕ) → Refuses b.files request line → IsUntouched b a → Says line b.err a.err → Serves request NoGrammar
    -- 3: a packet, a line or the length of the input is refused
    unconverted : (tree : Tree) (fault : StreamFault) → HasGrammars b.files request (tree ∷ []) → is_of_input fault ≡ true → Converts request tree b a (Err fault) → StreamsStay b a → Says (stream_line tree fault) b.err a.err → Serves request BadInput
    -- 3: the input ends inside a space packet, or is too long
    unrouted : (trees : List Tree) (fault : RouteFault) → HasGrammars b.files request trees → is_of_packets fault ≡ true → Routes request trees b a (Err fault) → StreamsStay b a → Says (route_line fault) b.err a.err → Serves request BadInput
    -- 4: a file among the words can't be read
    unreadable : (k : ℕ) (name : List ℕ) → slice_get (files_of request) k ≡ Some name → Rose (b.file_faults name) (a.file_faults name) → IsUntouched b a → Says (unreadable_line name) b.err a.err → Serves request FileFailed
    -- 5: the input failed
    broken_off : (tree : Tree) → HasGrammars b.files request (tree ∷ []) → Converts request tree b a (Err stream.InputFault) → Rose b.input_faults a.input_faults → Says input_failed_line b.err a.err → Serves request InputFailed
    -- 5: the input failed while space packets were routed
    route_broken : (trees : List Tree) → HasGrammars b.files request trees → Routes request trees b a (Err routing.InputFault) → Rose b.input_faults a.input_faults → Says input_failed_line b.err a.err → Serves request InputFailed
    -- 6: the output failed within the text of the command
    unwritten : (trees : List Tree) (text : List ℕ) → HasGrammars b.files request trees → IsText request trees text → IsUnread b a → GainsFront b.out.0 a.out.0 text → Rose b.out.1 a.out.1 → Says output_failed_line b.err a.err → Serves request OutputFailed
    -- 6: the output failed within what the input is converted to
    cut : (tree : Tree) → HasGrammars b.files request (tree ∷ []) → Converts request tree b a (Err stream.OutputFault) → Rose b.out.1 a.out.1 → Says output_failed_line b.err a.err → Serves request OutputFailed
    -- 6: the output failed within the lines of space packets
    route_cut : (trees : List Tree) → HasGrammars b.files request trees → Routes request trees b a (Err routing.OutputFault) → Rose b.out.1 a.out.1 → Says output_failed_line b.err a.err → Serves request OutputFailed
    -- 7: memory ran out before anything was read or written
    stopped : IsUntouched b a → Says no_memory_line b.err a.err → Serves request NoMemory
    -- 7: memory ran out while the input was converted
    halted : (tree : Tree) → HasGrammars b.files request (tree ∷ []) → Converts request tree b a (Err stream.NoMemory) → StreamsStay b a → Says no_memory_line b.err a.err → Serves request NoMemory
    -- 7: memory ran out while space packets were routed
    route_halted : (trees : List Tree) → HasGrammars b.files request trees → Routes request trees b a (Err routing.NoMemory) → StreamsStay b a → Says no_memory_line b.err a.err → Serves request NoMemory
