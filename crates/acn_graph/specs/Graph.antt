-- A graph of numbers: each node has a row of the nodes to which it leads.
use Rattle.std.specs.Prelude.{ℕ, ◌<◌, Bool, true, List, [], ◌∷◌, length, get_or, nat_lt, ◌&&◌, ◌+◌}
use Rattle.std.specs.List.{list_all}

abbrev pub Graph : Type 0
Graph = List (List ℕ)

-- where a node leads; nowhere where there is no such node
abbrev pub onward : Graph → ℕ → List ℕ
onward g n = get_or g n []

pub data Among {A : Type 0} : A → List A → Type 0 where
  here : {x : A} {xs : List A} → Among x (x ∷ xs)
  there : {x y : A} {xs : List A} → Among x xs → Among x (y ∷ xs)

-- from one node to another by one step or more, with the nodes that are passed, the first one included
pub data Leads (g : Graph) : ℕ → ℕ → List ℕ → Type 0 where
  once : {p q : ℕ} → Among q (onward g p) → Leads g p q (p ∷ [])
  more : {p q r : ℕ} {way : List ℕ} → Among q (onward g p) → Leads g q r way → Leads g p r (p ∷ way)

-- the first node that leads to itself, with a way
pub record IsFirstRing (g : Graph) (n : ℕ) (way : List ℕ) : Type 0 where
  pub is_node : n < length g
  pub round : Leads g n n way
  pub none_before : (m : ℕ) (other : List ℕ) → m < n → Leads g m m other → ⊥

pub record HasNoRing (g : Graph) : Type 0 where
  pub none : (n : ℕ) (way : List ℕ) → Leads g n n way → ⊥

-- ---- numbers of parts

-- whether each of the nodes has a number below this one
abbrev pub are_below : List ℕ → ℕ → List ℕ → Bool
are_below numbers number nodes = list_all (λ t. nat_lt (get_or numbers t 0) number) nodes

-- whether no node from a number on leads to one with a greater number
abbrev pub never_rise : List ℕ → ℕ → Graph → Bool
never_rise numbers n [] = true
never_rise numbers n (nodes ∷ g) = are_below numbers (get_or numbers n 0 + 1) nodes && never_rise numbers (n + 1) g
