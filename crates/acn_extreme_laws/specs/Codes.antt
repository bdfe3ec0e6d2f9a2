-- The number of a leaf that has a shortest code, or a longest; of several the least. (This profile's own.)
use Rattle.std.specs.Prelude.{◌≡◌, ◌≤ℤ◌, ℕ, zero, suc, ℤ, pos, ◌+ℤ◌, nat_lt, Bool, false, List, [], ◌∷◌, ◌++◌, if◌then◌else◌}
use Rattle.acn_num.specs.Ranges.{Ranges, In, size_of}
use Rattle.acn_grammar.specs.Length.{least, num_length}
use Rattle.acn_grammar.specs.declared.node.NumLeaf.{NumLeaf}
use Rattle.acn_extreme_laws.specs.declared.side.Side.{Side}
use Rattle.acn_extreme_laws.specs.declared.side.Side.TheVariants.{Shortest, Longest}

-- the first length is nearer to this side than the second
abbrev pub ahead : Side → ℕ → ℕ → Bool
ahead Shortest a b = nat_lt a b
ahead Longest a b = nat_lt b a

-- it is permitted, no permitted number has a code whose length is nearer to this side, and of those with a code of its length it is the least
pub record IsBestNumber (side : Side) (leaf : NumLeaf) (x : ℤ) : Type 0 where
  pub permitted : In leaf.set x
  pub extreme : (y : ℤ) → In leaf.set y → ahead side (num_length leaf y) (num_length leaf x) ≡ false
  pub least : (y : ℤ) → In leaf.set y → num_length leaf y ≡ num_length leaf x → x ≤ℤ y

-- The same as a function.

-- the first of these with a length that none is nearer to this side than
abbrev pub pick : (ℤ → ℕ) → Side → (best : ℤ) → List ℤ → ℤ
pick len side best [] = best
pick len side best (x ∷ xs) = pick len side (if ahead side (len x) (len best) then x else best) xs

-- so many numbers, from this one on
abbrev pub numbers_from : ℤ → ℕ → List ℤ
numbers_from x zero = []
numbers_from x (suc n) = x ∷ numbers_from (x +ℤ pos 1) n

-- all numbers of ranges
abbrev pub numbers_of : Ranges → List ℤ
numbers_of [] = []
numbers_of (r ∷ rs) = numbers_from r.0 (size_of r) ++ numbers_of rs

-- the first of all permitted numbers, from the least on, that has a shortest code, or a longest
unfoldable pub number_at : Side → NumLeaf → ℤ
number_at side leaf = pick (num_length leaf) side (least leaf.set) (numbers_of leaf.set)
