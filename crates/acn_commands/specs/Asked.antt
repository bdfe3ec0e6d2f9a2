-- What a request asks of the sources. (This program's own.)
use Rattle.std.specs.Prelude.{◌≡◌, ℕ, List, [], ◌∷◌, Option, Some, None}
use Rattle.acn_files.specs.Contents.{Told, AreWhole}
use Rattle.acn_front.specs.Grammars.{AreGrammarsOf}
use Rattle.acn_front.specs.Loaded.{IsWorldOf}
use Rattle.acn_index.specs.Lookup.{type_in}
use Rattle.acn_index.specs.World.{World}
use Rattle.acn_index.specs.declared.sources.TypeId.{TypeId}
use Rattle.acn_sources.specs.Names.{kind_of_name}
use Rattle.acn_sources.specs.declared.sources.File.{File}
use Rattle.acn_tree.specs.declared.tree.Tree.{Tree}
use Rattle.acn_words.specs.Names.{TypeName}
use Rattle.acn_words.specs.Requests.{Request, files_of, types_of}
use Rattle.acn_world.specs.Faults.{roots}

-- files of these names with these contents
abbrev pub AreFilesOf : (names contents : List (List ℕ)) → List File → Type 0
AreFilesOf [] [] [] = Unit {0}
AreFilesOf (name ∷ names) (bytes ∷ contents) (file ∷ files) = ((kind_of_name name ≡ Some file.kind) × (file.bytes.now ≡ bytes)) × AreFilesOf names contents files
AreFilesOf _ _ _ = ⊥

-- the files of these names, read whole
pub record AreRead (told : Told) (names contents : List (List ℕ)) (files : List File) : Type 0 where
  pub whole : AreWhole told names contents
  pub files_are : AreFilesOf names contents files

-- what the files of these names say
pub record IsWorldOfNames (told : Told) (names : List (List ℕ)) (w : World) : Type 0 where
  pub contents : List (List ℕ)
  pub files : List File
  pub read : AreRead told names contents files
  pub world : IsWorldOf files w

-- one type more, where it and the others are there
abbrev pub with_type : Option TypeId → Option (List TypeId) → Option (List TypeId)
with_type (Some of) (Some types) = Some (of ∷ types)
with_type _ _ = None

-- the types of these names, where all of them are there
abbrev pub types_named : World → List TypeName → Option (List TypeId)
types_named w [] = Some []
types_named w (of ∷ names) = with_type (type_in w of.module_name of.name) (types_named w names)

-- the types in question: those that are named, or else all roots
abbrev pub types_for : World → Option (List TypeName) → Option (List TypeId)
types_for w None = Some (roots w)
types_for w (Some names) = types_named w names

-- the trees of the types in question, all of which can be decoded
pub record HasGrammars (told : Told) (request : Request) (trees : List Tree) : Type 0 where
  pub world : World
  pub types : List TypeId
  pub read : IsWorldOfNames told (files_of request) world
  pub question : types_for world (types_of request) ≡ Some types
  pub grammars : AreGrammarsOf world types trees
