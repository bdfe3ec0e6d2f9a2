-- The tree that the merge makes of a type of a world as sources give it. (Which trees are well formed is said in Tree of acn_grammar.)
use Rattle.std.specs.Prelude.{◌≡◌, ℕ, ◌<◌, true, length}
use Rattle.acn_asn_syntax.specs.Mirror.{AsnType, Alternatives, alternative_list, choice}
use Rattle.acn_grammar.specs.Tree.{is_tree}
use Rattle.acn_index.specs.Chains.{base_part}
use Rattle.acn_index.specs.World.{World}
use Rattle.acn_index.specs.declared.sources.TypeId.{TypeId}
use Rattle.acn_item_laws.specs.Laws.{EnumerationsAreListed}
use Rattle.acn_made_laws.specs.Laws.{WithoutReason, root_of_type, InsertedFieldsFit, NamesInsideDiffer}
use Rattle.acn_names.specs.Standing.{Stands}
use Rattle.acn_sites.specs.Sites.{Site}
use Rattle.acn_world.specs.Faults.{IsSound}

-- Each CHOICE in the text of a world has an alternative, as its syntax has it (X.680 clause 29).
abbrev pub ChoicesAreListed : World → Type 0
ChoicesAreListed w = (k : ℕ) (t : AsnType) (more : Alternatives) → Stands w k t → base_part t ≡ choice more → 0 < length (alternative_list more)

-- A world as proper sources give it: each name leads where it should, each ENUMERATED has an item and fewer than 2^64, and each CHOICE has an alternative.
pub record IsOfSources (w : World) : Type 0 where
  pub sound : IsSound w
  pub items : EnumerationsAreListed w
  pub alternatives : ChoicesAreListed w

-- ---- laws, a type each

-- In a sound world the type of each inserted field is one that may stand there.
abbrev pub InsertedFieldsOfSourcesFit : Type 0
InsertedFieldsOfSourcesFit = (w : World) (of : TypeId) → IsSound w → InsertedFieldsFit w of

-- In a sound world names in one place differ, and no CHOICE is empty where none in the text is.
abbrev pub NamesInsideOfSourcesDiffer : Type 0
NamesInsideOfSourcesDiffer = (w : World) (of : TypeId) → IsSound w → ChoicesAreListed w → NamesInsideDiffer w of

-- So the tree that is made of a type against which there is no reason is well formed.
abbrev pub MadeTreesAreTrees : Type 0
MadeTreesAreTrees = (w : World) (of : TypeId) (s : Site) → IsOfSources w → WithoutReason w of s → is_tree (root_of_type w of s) ≡ true
