-- Why a request is refused for its sources, with the line that says so. (This program's own, as is the order in which the reasons are tried: text, names, types.)
use Rattle.std.specs.Prelude.{◌≡◌, ℕ, List, [], ◌∷◌, ◌++◌, Some, None, slice_get, codes, IsTrue}
use Rattle.acn_files.specs.Contents.{Told, IsFirstTooLong}
use Rattle.acn_front.specs.Grammars.{IsFirstTypeFault}
use Rattle.acn_front.specs.Loaded.{IsLoadFault}
use Rattle.acn_front.specs.declared.grammars.TypeFault.{TypeFault}
use Rattle.acn_front.specs.declared.grammars.TypeFault.TheVariants as type_fault
use Rattle.acn_front.specs.declared.loading.LoadFault.TheVariants as load_fault
use Rattle.acn_grammar.specs.Interval.{span}
use Rattle.acn_grammar.specs.View.{grammar_of}
use Rattle.acn_grammar.specs.declared.check_fault.CheckFault.{CheckFault}
use Rattle.acn_index.specs.Lookup.{type_in}
use Rattle.acn_index.specs.World.{World}
use Rattle.acn_index.specs.declared.sources.TypeId.{TypeId}
use Rattle.acn_extreme_laws.specs.Single.{FirstUnsingle}
use Rattle.acn_extreme_laws.specs.declared.why.Why.{Why}
use Rattle.acn_report.specs.CheckTexts.{check_line}
use Rattle.acn_report.specs.Texts.{empty_line}
use Rattle.acn_source_report.specs.Texts.{long_file_line, file_line, name_line, name_line_with, refused_line}
use Rattle.acn_sources.specs.declared.fault.SourcesFault.{SourcesFault}
use Rattle.acn_sources.specs.declared.sources.File.{File}
use Rattle.acn_survey.specs.declared.reason.Refused.{Refused}
use Rattle.acn_tree.specs.declared.tree.Tree.{Tree}
use Rattle.acn_words.specs.Names.{TypeName}
use Rattle.acn_words.specs.Requests.{Request, files_of, types_of, reads_input, asks_extremes}
use Rattle.acn_world.specs.declared.fault.NameFault.{NameFault}
use Rattle.acn_commands.specs.Extremes.{unsingle_line}
use Rattle.acn_commands.specs.Asked.{AreRead, IsWorldOfNames, types_named, types_for, HasGrammars}

-- where no type has this name
abbrev pub unknown_line : TypeName → List ℕ
unknown_line of = name_line_with (codes "Unknown") of.module_name of.name

-- the types in question, and why not all of them have a grammar
pub record HasTypeFault (told : Told) (request : Request) (w : World) (f : TypeFault) : Type 0 where
  pub types : List TypeId
  pub read : IsWorldOfNames told (files_of request) w
  pub question : types_for w (types_of request) ≡ Some types
  pub first : IsFirstTypeFault w types f

-- the first of the types that are named which isn't there
pub record IsFirstUnknown (w : World) (names : List TypeName) (of : TypeName) : Type 0 where
  pub front : List TypeName
  pub back : List TypeName
  pub parts : names ≡ front ++ of ∷ back
  pub known : (types : List TypeId) × (types_named w front ≡ Some types)
  pub unknown : type_in w of.module_name of.name ≡ None

module _ (told : Told) (request : Request) where
  pub data Refuses : (line : List ℕ) → Type 0 where
    -- a file has too many bytes
    too_long : (k : ℕ) (name : List ℕ) → slice_get (files_of request) k ≡ Some name → IsFirstTooLong told (files_of request) k → Refuses (long_file_line name)
    -- a file has no tree
    file : (contents : List (List ℕ)) (files : List File) (name bytes : List ℕ) (f : SourcesFault) → AreRead told (files_of request) contents files → IsLoadFault files (load_fault.File f)
        → slice_get (files_of request) f.file ≡ Some name → slice_get contents f.file ≡ Some bytes → Refuses (file_line name bytes f.fault)
    -- a name leads nowhere
    name : (contents : List (List ℕ)) (files : List File) (f : NameFault) → AreRead told (files_of request) contents files → IsLoadFault files (load_fault.Name f) → Refuses (name_line f)
    -- no type has a name in question
    unknown : (w : World) (names : List TypeName) (of : TypeName) → IsWorldOfNames told (files_of request) w → types_of request ≡ Some names → IsFirstUnknown w names of → Refuses (unknown_line of)
    -- a node of a type can't be made
    unmade : (w : World) (r : Refused) → HasTypeFault told request w (type_fault.Refused r) → Refuses (refused_line r)
    -- packets of a type can't be decoded
    undecodable : (w : World) (tree : Tree) (f : CheckFault) → HasTypeFault told request w (type_fault.Undecodable tree f) → Refuses (check_line tree f)
    -- something keeps the packets of a type from being put together part by part
    unsingle : (tree : Tree) (at : List ℕ) (why : Why) → HasGrammars told request (tree ∷ []) → IsTrue (asks_extremes request) → FirstUnsingle (grammar_of tree.root) at why → Refuses (unsingle_line tree at why)
    -- nothing says how many packets there are
    empty : (tree : Tree) → HasGrammars told request (tree ∷ []) → IsTrue (reads_input request) → (span (grammar_of tree.root)).least ≡ 0 → Refuses (empty_line tree)
