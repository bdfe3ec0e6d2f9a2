-- What is answered for several files.
use Rattle.std.specs.Prelude.{◌≡◌, ℕ, ◌≤◌, ◌<◌, List, [], ◌∷◌, ◌++◌, length, Some, slice_get, Result, Ok, Err, ◌⊎◌, ◌≢◌}
use Rattle.std.specs.List.{flat_map}
use Rattle.acn_num.specs.declared.limits.TheConstants.{MOST_FILE_BYTES}
use Rattle.acn_index.specs.declared.sources.Sources.{Sources}
use Rattle.acn_sources.specs.Kinds.{IsAsn, IsAsnFault, IsAcn, IsAcnFault, IsMap, IsMapFault}
use Rattle.acn_sources.specs.declared.fault.FileFault.{FileFault}
use Rattle.acn_sources.specs.declared.fault.FileFault.TheVariants.{NoMemory}
use Rattle.acn_sources.specs.declared.fault.SourcesFault.{SourcesFault}
use Rattle.acn_sources.specs.declared.kind.FileKind.{FileKind}
use Rattle.acn_sources.specs.declared.kind.FileKind.TheVariants.{Asn, Acn, Map}
use Rattle.acn_sources.specs.declared.sources.File.{File}

-- the bytes of a file, if it is of the kind
abbrev pub asn_of : File → List (List ℕ)
asn_of f = elim f.kind [ Asn ↦ f.bytes.now ∷ [] | Acn ↦ [] | Map ↦ [] ]

abbrev pub acn_of : File → List (List ℕ)
acn_of f = elim f.kind [ Asn ↦ [] | Acn ↦ f.bytes.now ∷ [] | Map ↦ [] ]

abbrev pub map_of : File → List (List ℕ)
map_of f = elim f.kind [ Asn ↦ [] | Acn ↦ [] | Map ↦ f.bytes.now ∷ [] ]

-- those of the files of one kind, in order
abbrev pub asn_bytes : List File → List (List ℕ)
asn_bytes = flat_map asn_of

abbrev pub acn_bytes : List File → List (List ℕ)
acn_bytes = flat_map acn_of

abbrev pub map_bytes : List File → List (List ℕ)
map_bytes = flat_map map_of

-- one tree of each file
abbrev pub AreTrees : {T : Type 0} → (List ℕ → T → Type 0) → List (List ℕ) → List T → Type 0
AreTrees IsTree [] [] = Unit {0}
AreTrees IsTree (b ∷ bs) (t ∷ ts) = IsTree b t × AreTrees IsTree bs ts
AreTrees IsTree [] (t ∷ ts) = ⊥
AreTrees IsTree (b ∷ bs) [] = ⊥

-- the tree of a file, which has no other
abbrev pub IsOnlyTree : {T : Type 0} → (List ℕ → T → Type 0) → List ℕ → T → Type 0
IsOnlyTree {T} IsTree bytes t = IsTree bytes t × ((u : T) → IsTree bytes u → t ≡ u)

-- the trees of all files, those of each kind in the order of their files
pub record AreSources (files : List File) (s : Sources) : Type 0 where
  pub asn : AreTrees IsAsn (asn_bytes files) s.asn
  pub acn : AreTrees IsAcn (acn_bytes files) s.acn
  pub maps : AreTrees IsMap (map_bytes files) s.maps

-- a file has a tree, or a fault, by its kind
abbrev pub HasTree : File → Type 0
HasTree f = elim f.kind [ Asn ↦ (t : _) × IsAsn f.bytes.now t | Acn ↦ (t : _) × IsAcn f.bytes.now t | Map ↦ (t : _) × IsMap f.bytes.now t ]

abbrev pub HasFault : File → FileFault → Type 0
HasFault f e = elim f.kind [ Asn ↦ IsAsnFault f.bytes.now e | Acn ↦ IsAcnFault f.bytes.now e | Map ↦ IsMapFault f.bytes.now e ]

-- The tree of a file, the only one it has, stands behind the others of its kind.
abbrev pub IsAdded : File → Sources → Sources → Type 0
IsAdded f old new = elim f.kind [
  | Asn ↦ (t : _) × IsOnlyTree IsAsn f.bytes.now t × (new ≡ record old { asn = old.asn ++ t ∷ [] })
  | Acn ↦ (t : _) × IsOnlyTree IsAcn f.bytes.now t × (new ≡ record old { acn = old.acn ++ t ∷ [] })
  | Map ↦ (t : _) × IsOnlyTree IsMap f.bytes.now t × (new ≡ record old { maps = old.maps ++ t ∷ [] })
]

-- a file has this fault, and each before it has a tree
pub record IsFirstFault (files : List File) (e : SourcesFault) : Type 0 where
  pub file : File
  pub stands : slice_get files e.file ≡ Some file
  pub fault : HasFault file e.fault
  pub before : (n : ℕ) (f : File) → n < e.file → slice_get files n ≡ Some f → HasTree f

-- the answer is these trees, unless memory ran out
abbrev pub AnswersSources : Sources → Result Sources SourcesFault → Type 0
AnswersSources s (Ok x) = x ≡ s
AnswersSources s (Err e) = e.fault ≡ NoMemory

-- the answer is this fault, unless memory ran out
abbrev pub AnswersFirst : SourcesFault → Result Sources SourcesFault → Type 0
AnswersFirst e (Ok x) = ⊥
AnswersFirst e (Err f) = (e ≡ f) ⊎ (f.fault ≡ NoMemory)

-- files are as long as they may be
abbrev pub AreShort : List File → Type 0
AreShort files = (n : ℕ) (f : File) → slice_get files n ≡ Some f → length f.bytes.now ≤ MOST_FILE_BYTES
