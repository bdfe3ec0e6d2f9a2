-- What the paths of nodes say.
use Rattle.std.specs.Prelude.{◌≡◌, ℕ, nat_eq, Bool, true, false, not, ◌&&◌, ◌||◌, List, [], ◌∷◌, map, filter}
use Rattle.std.specs.List.{AllByRecursion, list_all}
use Rattle.acn_grammar.specs.Grammar.{Grammar}
use Rattle.acn_grammar.specs.Tree.{is_about, is_seq, encloses}
use Rattle.acn_grammar.specs.Walk.{Stand, nodes_of, inside}
use Rattle.acn_homes.specs.Homes.{Path, Rises}

abbrev pub paths : List Stand → List Path
paths all = map (λ (at : Stand). at.path) all

-- The paths of all nodes in preorder are in the order of words, each once.
abbrev pub NodesRise : Type 0
NodesRise = (root : Grammar) → Rises (paths (nodes_of root))

-- the second path goes on from the first
abbrev pub goes_on : Path → Path → Bool
goes_on [] [] = false
goes_on [] (b ∷ q) = true
goes_on (a ∷ p) [] = false
goes_on (a ∷ p) (b ∷ q) = nat_eq a b && goes_on p q

abbrev pub stands_below : Stand → Stand → Bool
stands_below at x = goes_on at.path x.path

-- The nodes inside a node are, in order, those of the tree whose paths go on from its path.
abbrev pub NodesInsideGoOn : Type 0
NodesInsideGoOn = (root : Grammar) → AllByRecursion (λ at. inside at ≡ filter (stands_below at) (nodes_of root)) (nodes_of root)

-- A SEQUENCE encloses a slot where the paths of all nodes about the slot go on from its path.
abbrev pub EnclosedNodesGoOn : Type 0
EnclosedNodesGoOn = (root : Grammar) (s : ℕ)
    → AllByRecursion (λ at. encloses (nodes_of root) s at ≡ (is_seq at.form && list_all (λ x. not (is_about s x) || stands_below at x) (nodes_of root))) (nodes_of root)
