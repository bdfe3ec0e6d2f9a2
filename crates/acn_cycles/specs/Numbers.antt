-- The assignments of a world by numbers, in the order of the text, and where each leads.
use Rattle.std.specs.Prelude.{ℕ, ◌+◌, ◌<◌, List, [], ◌∷◌, length, get_or, map, slice_get, filter_map}
use Rattle.acn_asn_syntax.specs.Mirror.{AsnModule}
use Rattle.acn_index.specs.World.{World, places}
use Rattle.acn_world.specs.Cycles.{targets}
use Rattle.acn_index.specs.declared.sources.TypeId.{TypeId}
use Rattle.acn_graph.specs.Graph.{Graph}

-- the number of the first assignment of each module
abbrev pub starts_from : ℕ → List AsnModule → List ℕ
starts_from n [] = []
starts_from n (m ∷ ms) = n ∷ starts_from (n + length m.items) ms

unfoldable pub starts : World → List ℕ
starts w = starts_from 0 w.modules

-- the number of an assignment
abbrev pub number_in : List ℕ → TypeId → ℕ
number_in firsts p = get_or firsts p.module 0 + p.item

-- each number is one of 32 bits
abbrev pub AreSmall : List ℕ → Type 0
AreSmall firsts = (k : ℕ) → get_or firsts k 0 < 4294967296

-- the numbers of those to which an assignment refers
abbrev pub row_in : World → List ℕ → TypeId → List ℕ
row_in w firsts p = map (number_in firsts) (targets w p)

abbrev pub rows_in : World → List ℕ → List TypeId → Graph
rows_in w firsts ps = map (row_in w firsts) ps

-- the assignments as a graph
unfoldable pub graph_of : World → Graph
graph_of w = rows_in w (starts w) (places w)

-- the assignments with these numbers
abbrev pub places_at : List TypeId → List ℕ → List TypeId
places_at ps ns = filter_map (slice_get ps) ns
