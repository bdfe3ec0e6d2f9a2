-- What the calls inside say of a part of a run. (This program's own.)
use Rattle.std.specs.Prelude.{◌≡◌, ◌<◌, ℕ, List, Option, Some, None, slice_get, Result, Ok, Err}
use Rattle.std.specs.List.{flat_map}
use Rattle.acn_extreme_laws.specs.Single.{FirstUnsingle}
use Rattle.acn_extreme_laws.specs.declared.why.Why.{Why}
use Rattle.acn_files.specs.Contents.{Told, AreWhole}
use Rattle.acn_files.specs.declared.whole.FilesFault.{FilesFault}
use Rattle.acn_front.specs.Grammars.{AreGrammarsOf}
use Rattle.acn_front.specs.Loaded.{IsWorldOf}
use Rattle.acn_front.specs.declared.grammars.TypeFault.{TypeFault}
use Rattle.acn_front.specs.declared.grammars.TypeFault.TheVariants as type_fault
use Rattle.acn_index.specs.World.{World}
use Rattle.acn_index.specs.declared.sources.TypeId.{TypeId}
use Rattle.acn_outside.specs.Moves.{Gains}
use Rattle.acn_outside.specs.Whole.{GainsFront}
use Rattle.acn_outside.specs.declared.whole.WholeFault.TheVariants as whole
use Rattle.acn_grammar.specs.Grammar.{Grammar}
use Rattle.acn_grammar.specs.Interval.{span}
use Rattle.acn_grammar.specs.View.{grammar_of}
use Rattle.acn_outside.specs.Counts.{AllStay, Rose, Stays}
use Rattle.acn_print.specs.Printing.{Output}
use Rattle.acn_report.specs.CheckTexts.{check_line, no_memory_line}
use Rattle.acn_report.specs.Texts.{empty_line}
use Rattle.acn_source_report.specs.Texts.{file_line, long_file_line, refused_line, unreadable_line}
use Rattle.acn_sources.specs.declared.fault.SourcesFault.{SourcesFault}
use Rattle.acn_sources.specs.declared.sources.File.{File}
use Rattle.acn_stream.specs.declared.stream_fault.StreamFault.{StreamFault}
use Rattle.acn_stream.specs.declared.stream_fault.StreamFault.TheVariants as stream
use Rattle.acn_tree.specs.declared.tree.Tree.{Tree}
use Rattle.acn_words.specs.Names.{TypeName}
use Rattle.acn_words.specs.Requests.{Request, files_of, types_of}
use Rattle.acn_work.specs.Line.{summary_line}
use Rattle.acn_work.specs.Summaries.{IsSummary}
use Rattle.acn_work.specs.declared.summary.Summary.{Summary}
use Rattle.acn_commands.specs.Extremes.{IsExtremesText, unsingle_line}
use Rattle.acn_commands.specs.Roots.{root_line}
use Rattle.acn_commands.specs.declared.roots.RootLine.{RootLine}
use Rattle.acn_commands.specs.Asked.{AreRead, AreFilesOf, IsWorldOfNames, types_for}
use Rattle.acn_commands.specs.Lines.{output_failed_line, stream_line}
use Rattle.acn_commands.specs.Outside.{seen, Says, IsSilent}
use Rattle.acn_route.specs.Listed.{Listed}
use Rattle.acn_route.specs.Routing.{RouteEnds}
use Rattle.acn_route.specs.declared.count.RouteCount.{RouteCount}
use Rattle.acn_route.specs.declared.route_fault.RouteFault.{RouteFault}
use Rattle.acn_route.specs.declared.route_fault.RouteFault.TheVariants as routing
use Rattle.acn_commands.specs.Routed.{route_line}
use Rattle.acn_commands.specs.Serves.{Serves}
use Rattle.acn_commands.specs.declared.streams.TheConstants.{MOST_INPUT_BYTES}
use Rattle.acn_commands.specs.declared.status.Status.{Status}
use Rattle.acn_commands.specs.declared.status.Status.TheVariants.{Done, NoGrammar, BadInput, FileFailed, InputFailed, OutputFailed, NoMemory}

-- the run ends with nothing read of the input and nothing written to the output
abbrev pub EndsEarly : (told : Told) → (faults faults' : List ℕ → ℕ) → (err err' : Output) → Request → Status → Type 0
EndsEarly told faults faults' err err' request status = (i : Option (List ℕ)) (n : ℕ) (o : Output) → Serves (seen told faults i n o err) (seen told faults' i n o err') request status

-- so it does for each request with these files, where they say this
abbrev pub EndsForWorld : World → Option (List TypeName) → (err err' : Output) → Status → Type 0
EndsForWorld w named err err' status =
    (told : Told) (faults faults' : List ℕ → ℕ) (request : Request) → IsWorldOfNames told (files_of request) w → types_of request ≡ named → EndsEarly told faults faults' err err' request status

-- these are the grammars of the types in question
pub record Answers (w : World) (named : Option (List TypeName)) (trees : List Tree) : Type 0 where
  pub types : List TypeId
  pub question : types_for w named ≡ Some types
  pub grammars : AreGrammarsOf w types trees

-- these are the lines of all roots
pub record TellsRoots (w : World) (line : RootLine) (text : List ℕ) : Type 0 where
  pub trees : List Tree
  pub answers : Answers w None trees
  pub is : text ≡ flat_map (root_line line) trees

-- so it does for each request with these files, where they were read whole
abbrev pub EndsForFiles : (names contents : List (List ℕ)) → List File → (err err' : Output) → Status → Type 0
EndsForFiles names contents files err err' status =
    (told : Told) (faults faults' : List ℕ → ℕ) (request : Request) → AreRead told names contents files → files_of request ≡ names → EndsEarly told faults faults' err err' request status

-- the same, where the contents alone are known
abbrev pub EndsForContents : (names contents : List (List ℕ)) → (err err' : Output) → Status → Type 0
EndsForContents names contents err err' status =
    (told : Told) (faults faults' : List ℕ → ℕ) (request : Request) → AreWhole told names contents → files_of request ≡ names → EndsEarly told faults faults' err err' request status

-- these contents were read whole, whatever the files tell
abbrev pub WereRead : (names contents : List (List ℕ)) → Type 0
WereRead names contents = (told : Told) × AreWhole told names contents

-- what these contents say
pub record IsWorldOfContents (names contents : List (List ℕ)) (w : World) : Type 0 where
  pub files : List File
  pub files_are : AreFilesOf names contents files
  pub world : IsWorldOf files w

-- a line that names a file
pub record SaysOfName (names : List (List ℕ)) (k : ℕ) (line : List ℕ → List ℕ) (err err' : Output) : Type 0 where
  pub name : List ℕ
  pub named : slice_get names k ≡ Some name
  pub says : Says (line name) err err'

-- a file wasn't read whole: what is said, and the status
abbrev pub IsUnread : (names : List (List ℕ)) → FilesFault → (err err' : Output) → Status → Type 0
IsUnread names f err err' FileFailed = (f.fault ≡ whole.Failed) × SaysOfName names f.file unreadable_line err err'
IsUnread names f err err' NoGrammar = (f.fault ≡ whole.TooLong) × SaysOfName names f.file long_file_line err err'
IsUnread names f err err' NoMemory = (f.fault ≡ whole.NoMemory) × Says no_memory_line err err'
IsUnread names f err err' _ = ⊥

-- unless a file couldn't be read the count of no file changed
abbrev pub FilesStay : (faults faults' : List ℕ → ℕ) → Status → Type 0
FilesStay faults faults' status = (status ≡ FileFailed → ⊥) → AllStay faults faults'

-- the line of a file at fault, with the name and the bytes of that number
pub record SaysOfFile (names : List (List ℕ)) (files : List File) (f : SourcesFault) (err err' : Output) : Type 0 where
  pub name : List ℕ
  pub file : File
  pub named : slice_get names f.file ≡ Some name
  pub stands : slice_get files f.file ≡ Some file
  pub says : Says (file_line name file.bytes.now f.fault) err err'

-- the status with which a stream comes that wasn't converted to its end
abbrev pub status_of : StreamFault → Status
status_of (stream.LineTooLong number) = BadInput
status_of stream.InputTooLong = BadInput
status_of stream.EmptyPacket = NoGrammar
status_of (stream.Packet number fault) = BadInput
status_of (stream.BadLine number fault) = BadInput
status_of (stream.Unfit number fault) = BadInput
status_of stream.InputFault = InputFailed
status_of stream.OutputFault = OutputFailed
status_of stream.NoMemory = NoMemory

-- a type has no grammar: what is said, and the status
abbrev pub TellsTypeFault : TypeFault → (err err' : Output) → Status → Type 0
TellsTypeFault (type_fault.Refused r) err err' status = (status ≡ NoGrammar) × Says (refused_line r) err err'
TellsTypeFault (type_fault.Undecodable tree f) err err' status = (status ≡ NoGrammar) × Says (check_line tree f) err err'
TellsTypeFault type_fault.NoMemory err err' status = (status ≡ NoMemory) × Says no_memory_line err err'

-- the stream was converted to its end, or it is said why not
abbrev pub TellsStream : Tree → Result ℕ StreamFault → (err err' : Output) → Status → Type 0
TellsStream tree (Ok count) err err' status = (status ≡ Done) × IsSilent err err'
TellsStream tree (Err fault) err err' status = (status ≡ status_of fault) × Says (stream_line tree fault) err err'

-- the stream was begun
abbrev pub WasBegun : Result ℕ StreamFault → Type 0
WasBegun (Err stream.EmptyPacket) = ⊥
WasBegun result = Unit {0}

-- where a device failed its count rose, and else both counts stayed
abbrev pub FailedSo : Result ℕ StreamFault → (input input' output output' : ℕ) → Type 0
FailedSo (Err stream.InputFault) n n' m m' = Rose n n'
FailedSo (Err stream.OutputFault) n n' m m' = Rose m m'
FailedSo result n n' m m' = Stays n n' × Stays m m'

-- A stream ended so: it was not begun, since the type is empty or memory ran out; or each packet has a bit, and it ended in this way, which the status and what is said fit, and where a device failed its count rose.
pub data EndsStream (ends : (i i' o o' : Option (List ℕ)) → Result ℕ StreamFault → Type 0) (tree : Tree) (i i' : Option (List ℕ)) (n n' : ℕ) (o o' err err' : Output) : Status → Type 0 where
  never_begun : (span (grammar_of tree.root)).least ≡ 0 → i' ≡ i → n' ≡ n → IsSilent o o' → Says (empty_line tree) err err' → EndsStream ends tree i i' n n' o o' err err' NoGrammar
  -- memory ran out before it was begun
  unplanned : i' ≡ i → n' ≡ n → IsSilent o o' → Says no_memory_line err err' → EndsStream ends tree i i' n n' o o' err err' NoMemory
  ended : (result : Result ℕ StreamFault) (status : Status) → 0 < (span (grammar_of tree.root)).least → ends i i' o.0 o'.0 result → TellsStream tree result err err' status → WasBegun result → FailedSo result n n' o.1 o'.1 → EndsStream ends tree i i' n n' o o' err err' status

-- the status with which space packets come that weren't routed to their end
abbrev pub status_of_routes : RouteFault → Status
status_of_routes (routing.Cut number left) = BadInput
status_of_routes routing.InputTooLong = BadInput
status_of_routes routing.InputFault = InputFailed
status_of_routes routing.OutputFault = OutputFailed
status_of_routes routing.NoMemory = NoMemory

-- space packets were routed to their end, or it is said why not
abbrev pub TellsRoutes : Result RouteCount RouteFault → (err err' : Output) → Status → Type 0
TellsRoutes (Ok counts) err err' status = (status ≡ Done) × IsSilent err err'
TellsRoutes (Err fault) err err' status = (status ≡ status_of_routes fault) × Says (route_line fault) err err'

-- where a device failed its count rose, and else both counts stayed
abbrev pub RoutesFailedSo : Result RouteCount RouteFault → (input input' output output' : ℕ) → Type 0
RoutesFailedSo (Err routing.InputFault) n n' m m' = Rose n n'
RoutesFailedSo (Err routing.OutputFault) n n' m m' = Rose m m'
RoutesFailedSo result n n' m m' = Stays n n' × Stays m m'

-- Routing ended so: it was not begun, since memory ran out; or it ended in this way, which the status and what is said fit, and where a device failed its count rose.
pub data EndsRoutes (routes : List Listed) (i i' : Option (List ℕ)) (n n' : ℕ) (o o' err err' : Output) : Status → Type 0 where
  unready : i' ≡ i → n' ≡ n → IsSilent o o' → Says no_memory_line err err' → EndsRoutes routes i i' n n' o o' err err' NoMemory
  begun : (result : Result RouteCount RouteFault) (status : Status) → RouteEnds routes MOST_INPUT_BYTES i i' o.0 o'.0 result → TellsRoutes result err err' status → RoutesFailedSo result n n' o.1 o'.1 → EndsRoutes routes i i' n n' o o' err err' status

-- what a command does that doesn't read the input, where the files say this
abbrev pub AnswersText : Request → World → (o o' err err' : Output) → Status → Type 0
AnswersText request w o o' err err' status =
    (told : Told) (faults faults' : List ℕ → ℕ) (i : Option (List ℕ)) (n : ℕ) → IsWorldOfNames told (files_of request) w → Serves (seen told faults i n o err) (seen told faults' i n o' err') request status

-- what a command does
abbrev pub AnswersStream : Request → World → (i i' : Option (List ℕ)) → (n n' : ℕ) → (o o' err err' : Output) → Status → Type 0
AnswersStream request w i i' n n' o o' err err' status =
    (told : Told) (faults faults' : List ℕ → ℕ) → IsWorldOfNames told (files_of request) w → Serves (seen told faults i n o err) (seen told faults' i' n' o' err') request status

-- How a command ends that prints a text which is one of those that this says: the text was written, or a front of it, or memory ran out before.
pub data TextEnds (is : List ℕ → Type 0) (o o' err err' : Output) : Status → Type 0 where
  told : (text : List ℕ) → is text → Gains o.0 o'.0 text → IsSilent err err' → TextEnds is o o' err err' Done
  untold : (text : List ℕ) → is text → GainsFront o.0 o'.0 text → Rose o.1 o'.1 → Says output_failed_line err err' → TextEnds is o o' err err' OutputFailed
  stopped : IsSilent o o' → Says no_memory_line err err' → TextEnds is o o' err err' NoMemory

-- How the shortest and the longest packet are told: as a text is, or packets can't be put together part by part.
pub data ExtremesEnd (tree : Tree) (o o' err err' : Output) : Status → Type 0 where
  in_text : (status : Status) → TextEnds (IsExtremesText tree) o o' err err' status → ExtremesEnd tree o o' err err' status
  not_single : (at : List ℕ) (why : Why) → FirstUnsingle (grammar_of tree.root) at why → IsSilent o o' → Says (unsingle_line tree at why) err err' → ExtremesEnd tree o o' err err' NoGrammar

-- the line of what came of the values that are made
abbrev pub IsSummaryLine : Grammar → (start count : ℕ) → List ℕ → Type 0
IsSummaryLine g start count text = (s : Summary) × IsSummary g start count s × (text ≡ summary_line s)
