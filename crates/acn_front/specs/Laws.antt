-- What holds of what sources say, whoever reads them. (X.680 and this profile's rules on files, names and types.)
use Rattle.std.specs.Prelude.{◌≡◌, List}
use Rattle.acn_grammar.specs.View.{grammar_of}
use Rattle.acn_index.specs.World.{World}
use Rattle.acn_index.specs.declared.sources.TypeId.{TypeId}
use Rattle.acn_sources.specs.Laws.{AreAlike}
use Rattle.acn_sources.specs.declared.sources.File.{File}
use Rattle.acn_tree.specs.declared.tree.Tree.{Tree}
use Rattle.acn_front.specs.Grammars.{IsGrammarOf, AreGrammarsOf, IsFirstTypeFault}
use Rattle.acn_front.specs.Loaded.{IsWorldOf, IsLoadFault}
use Rattle.acn_front.specs.declared.grammars.TypeFault.{TypeFault}
use Rattle.acn_front.specs.declared.grammars.TypeFault.TheVariants as type_fault
use Rattle.acn_front.specs.declared.loading.LoadFault.{LoadFault}
use Rattle.acn_front.specs.declared.loading.LoadFault.TheVariants as load_fault

-- files that hold the same say the same
abbrev pub OneWorld : Type 0
OneWorld = (files others : List File) (w v : World) → AreAlike files others → IsWorldOf files w → IsWorldOf others v → w ≡ v

-- files with a fault, of their own or of a name, say nothing
abbrev pub FaultyFilesHaveNoWorld : Type 0
FaultyFilesHaveNoWorld = (files others : List File) (f : LoadFault) (v : World) → AreAlike files others → IsLoadFault files f → IsWorldOf others v → f ≡ load_fault.NoMemory

-- of types one of which is refused not all have a grammar
abbrev pub RefusedTypesHaveNoGrammars : Type 0
RefusedTypesHaveNoGrammars = (w : World) (types : List TypeId) (f : TypeFault) (trees : List Tree) → IsFirstTypeFault w types f → AreGrammarsOf w types trees → f ≡ type_fault.NoMemory

-- a type has one grammar, and one name
abbrev pub OneGrammar : Type 0
OneGrammar = (w : World) (of : TypeId) (t u : Tree) → IsGrammarOf w of t → IsGrammarOf w of u → (grammar_of u.root ≡ grammar_of t.root) × (u.name ≡ t.name)
