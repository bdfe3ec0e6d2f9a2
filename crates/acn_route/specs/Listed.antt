-- Routes: which tree the packets of an application process identifier have. (This program's own.)
use Rattle.std.specs.Prelude.{ℕ, ◌==◌, Bool, if◌then◌else◌, List, [], ◌∷◌, Option, None, Some, is_some}
use Rattle.acn_tree.specs.declared.tree.Tree.{Tree}

pub record Listed : Type 0 where
  pub apid : ℕ
  pub tree : Tree

-- the tree of an identifier
abbrev pub tree_for : List Listed → (apid : ℕ) → Option Tree
tree_for [] apid = None
tree_for (route ∷ routes) apid = if apid == route.apid then Some route.tree else tree_for routes apid

abbrev pub has_route : List Listed → (apid : ℕ) → Bool
has_route routes apid = is_some (tree_for routes apid)
