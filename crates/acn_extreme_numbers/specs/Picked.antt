-- What the search for a number with a shortest or a longest code takes.
use Rattle.std.specs.Prelude.{◌≤ℤ◌, ℤ, List, [], ◌∷◌}
use Rattle.acn_num.specs.Ranges.{Ranges, In}
use Rattle.acn_grammar.specs.Length.{num_length}
use Rattle.acn_grammar.specs.declared.node.NumLeaf.{NumLeaf}
use Rattle.acn_extreme_laws.specs.Codes.{pick}
use Rattle.acn_extreme_laws.specs.declared.side.Side.{Side}

-- the range is one of those of a set
pub record IsPart (set : Ranges) (r : ℤ × ℤ) : Type 0 where
  pub order : r.0 ≤ℤ r.1
  pub within : (x : ℤ) → r.0 ≤ℤ x → x ≤ℤ r.1 → In set x

abbrev pub AreParts : Ranges → Ranges → Type 0
AreParts set [] = Unit {0}
AreParts set (r ∷ rs) = IsPart set r × AreParts set rs

-- the number that is picked of these and the best before them
abbrev pub picked : NumLeaf → Side → (best : ℤ) → List ℤ → ℤ
picked leaf side best xs = pick (num_length leaf) side best xs
