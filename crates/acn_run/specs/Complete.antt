-- Where nothing is refused and nothing fails, a run does the whole of what was asked, or memory runs out. (This program's own.)
use Rattle.std.specs.Prelude.{◌≡◌, ℕ, ◌≤◌, List, [], ◌∷◌, ◌++◌, length, Option, Some}
use Rattle.std.specs.List.{AllByRecursion}
use Rattle.acn_files.specs.Contents.{Told}
use Rattle.acn_grammar.specs.Grammar.{Grammar, Data}
use Rattle.acn_grammar.specs.View.{grammar_of}
use Rattle.acn_outside.specs.Counts.{AllStay, Rose}
use Rattle.acn_outside.specs.Moves.{Gains}
use Rattle.acn_stream.specs.Encoding.{AreLines, Give, Packets}
use Rattle.acn_route.specs.Routing.{Line, IsLine, packets_of, text_of}
use Rattle.acn_route.specs.Space.{Space}
use Rattle.acn_explain.specs.Texts.{packet_text}
use Rattle.acn_stream.specs.Recording.{Recording, lines, texts}
use Rattle.acn_stream_laws.specs.Laws.{IsNotRefused}
use Rattle.acn_tree.specs.declared.tree.Tree.{Tree}
use Rattle.acn_words.specs.Routes.{Route}
use Rattle.acn_words.specs.Requests.{Request, encode, decode, route, explain}
use Rattle.acn_commands.specs.Asked.{HasGrammars}
use Rattle.acn_commands.specs.Outside.{Outside, StreamsStay}
use Rattle.acn_commands.specs.Refusals.{Refuses}
use Rattle.acn_commands.specs.Routed.{listed_by}
use Rattle.acn_commands.specs.Serves.{IsText}
use Rattle.acn_commands.specs.declared.streams.TheConstants.{MOST_INPUT_BYTES}

-- no count of faults rose: of no file, not of the input, and not of the output
pub record NothingFailed (b a : Outside) : Type 0 where
  pub files : (name : List ℕ) → Rose (b.file_faults name) (a.file_faults name) → ⊥
  pub input : Rose b.input_faults a.input_faults → ⊥
  pub out : Rose b.out.1 a.out.1 → ⊥

-- no count of faults changed: of no file, not of the input, and not of the output
pub record CountsStay (b a : Outside) : Type 0 where
  pub files : AllStay b.file_faults a.file_faults
  pub streams : StreamsStay b a

-- no reason refuses the request for its sources
abbrev pub IsUnrefused : Told → Request → Type 0
IsUnrefused told request = (line : List ℕ) → Refuses told request line → ⊥

-- What the input is, where it can be converted.
module _ (g : Grammar) (input : Option (List ℕ)) where
  -- a recording of the values, within the limit
  pub record IsRecordingOf (values : List Data) : Type 0 where
    pub bytes : List ℕ
    pub is : input ≡ Some bytes
    pub recording : Recording g values bytes
    pub within : length bytes ≤ MOST_INPUT_BYTES

  -- lines within the limit, the last of which may lack its line feed, that give the values, none of which is refused
  pub record IsLinesOf (values : List Data) : Type 0 where
    pub bytes : List ℕ
    pub ls : List (List ℕ)
    pub is : input ≡ Some bytes
    pub lines : AreLines ls (bytes ++ 10 ∷ [])
    pub give : Give g ls values
    pub none_refused : AllByRecursion (IsNotRefused g) values
    pub within : length bytes ≤ MOST_INPUT_BYTES

-- the input holds these values; a command that doesn't read it asks nothing of it
abbrev pub Holds : Request → Grammar → Option (List ℕ) → List Data → Type 0
Holds (encode of names) g input values = IsLinesOf g input values
Holds (decode of names) g input values = IsRecordingOf g input values
Holds (explain of names) g input values = IsRecordingOf g input values
Holds _ g input values = Unit {0}

-- the lines that explain the packets of a recording
pub record AreExplained (tree : Tree) (input : Option (List ℕ)) (values : List Data) (text : List ℕ) : Type 0 where
  pub bytes : List ℕ
  pub is : input ≡ Some bytes
  pub recording : Recording (grammar_of tree.root) values bytes
  pub text_is : text ≡ texts (grammar_of tree.root) (packet_text tree) 1 values bytes recording

-- this is what the input of the values is converted to
abbrev pub AreConverted : Request → Tree → (input : Option (List ℕ)) → List Data → (text : List ℕ) → Type 0
AreConverted (encode of names) tree input values text = Packets (grammar_of tree.root) values text
AreConverted (decode of names) tree input values text = text ≡ lines (grammar_of tree.root) values
AreConverted (explain of names) tree input values text = AreExplained tree input values text
AreConverted _ tree input values text = ⊥

-- the input is these space packets, within the limit
pub record AreSpacePackets (input : Option (List ℕ)) (packets : List (List ℕ)) : Type 0 where
  pub bytes : List ℕ
  pub is : input ≡ Some bytes
  pub space : Space bytes packets
  pub within : length bytes ≤ MOST_INPUT_BYTES

-- the input is space packets, where they are to be routed
abbrev pub CanBeRouted : Request → Option (List ℕ) → Type 0
CanBeRouted (route routes names) input = (packets : List (List ℕ)) × AreSpacePackets input packets
CanBeRouted _ input = Unit {0}

-- these are the lines of the space packets that the input is
pub record AreRouted (request : Request) (trees : List Tree) (input : Option (List ℕ)) (lines : List Line) : Type 0 where
  pub routes : List Route
  pub names : List (List ℕ)
  pub is : request ≡ route routes names
  pub each : AllByRecursion (IsLine (listed_by routes trees)) lines
  pub packets : AreSpacePackets input (packets_of lines)

-- by the grammar of the request the input holds some values, or it is space packets
abbrev pub CanBeConverted : Outside → Request → Type 0
CanBeConverted b request = ((tree : Tree) → HasGrammars b.files request (tree ∷ []) → (values : List Data) × Holds request (grammar_of tree.root) b.input values) × CanBeRouted request b.input

-- The number with which a run ends that did the whole, or ran out of memory.
module _ (b a : Outside) (request : Request) where
  pub data DoesTheWhole : ℕ → Type 0 where
    -- 0: the text of the command was written
    printed : (trees : List Tree) (text : List ℕ) → HasGrammars b.files request trees → IsText request trees text → Gains b.out.0 a.out.0 text → DoesTheWhole 0
    -- 0: the values that the input holds were converted
    converted : (tree : Tree) (values : List Data) (text : List ℕ) → HasGrammars b.files request (tree ∷ []) → Holds request (grammar_of tree.root) b.input values → AreConverted request tree b.input values text
        → Gains b.out.0 a.out.0 text → DoesTheWhole 0
    -- 0: the lines of all space packets were written
    routed : (trees : List Tree) (lines : List Line) → HasGrammars b.files request trees → AreRouted request trees b.input lines → Gains b.out.0 a.out.0 (text_of lines) → DoesTheWhole 0
    -- 7: memory ran out
    out_of_memory : DoesTheWhole 7

  abbrev pub IsComplete : ℕ → Type 0
  IsComplete code = IsUnrefused b.files request → NothingFailed b a → CanBeConverted b request → DoesTheWhole code
