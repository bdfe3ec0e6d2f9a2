-- What a search through a graph has reached.
use Rattle.std.specs.Prelude.{ℕ, ◌<◌, Bool, true, false, List, [], ◌∷◌, ◌++◌, length, get_or, set, replicate}
use Rattle.acn_graph.specs.Graph.{Graph, Among, onward}
use Rattle.acn_graph.specs.declared.search.Search.{Search}

-- the nodes that were reached, in order; the place from which each was; and for each node whether it was
pub record State : Type 0 where
  pub order : List ℕ
  pub parents : List ℕ
  pub reached : List Bool

abbrev pub searched : Search → State
searched s = record { order = s.order.items; parents = s.parents.items; reached = s.reached.items }

-- a search that has reached its first node alone
abbrev pub begun : ℕ → ℕ → State
begun count start = record { order = start ∷ []; parents = 0 ∷ []; reached = set (replicate count false) start true }

abbrev pub grow_if : Bool → ℕ → ℕ → State → State
grow_if true at node s = s
grow_if false at node s = record { order = s.order ++ node ∷ []; parents = s.parents ++ at ∷ []; reached = set s.reached node true }

-- with a node that is reached from a place, if it is a node and wasn't reached before
unfoldable pub grow : ℕ → ℕ → State → State
grow at node s = grow_if (get_or s.reached node true) at node s

abbrev pub grow_all : ℕ → List ℕ → State → State
grow_all at [] s = s
grow_all at (node ∷ nodes) s = grow_all at nodes (grow at node s)

-- each place but the first was reached from one before it
pub record IsOrdered (parents : List ℕ) : Type 0 where
  pub before : (k : ℕ) → 0 < k → k < length parents → get_or parents k 0 < k

-- and the node there leads to it
pub record IsTrail (g : Graph) (order parents : List ℕ) : Type 0 where
  pub from : (k : ℕ) → 0 < k → k < length order → Among (get_or order k 0) (onward g (get_or order (get_or parents k 0) 0))
