-- The numbers that a leaf writes for its permitted ones, as ranges in no order: their images under its table
-- (`mapping-function` of ACN, as this profile has it).
use Rattle.std.specs.Prelude.{ℤ, ◌+ℤ◌, ◌-ℤ◌, int_le, List, [], ◌∷◌, map, Option, Some, None, if◌then◌else◌}
use Rattle.std.specs.Int.{int_min, int_max}
use Rattle.std.specs.List.{flat_map}
use Rattle.acn_grammar.specs.declared.node.NumLeaf.{NumLeaf}
use Rattle.acn_grammar.specs.declared.node.Table.{Table}

-- the images of what a range and the keys of a line share
abbrev pub clipped : (ℤ × ℤ) → (ℤ × ℤ × ℤ) → List (ℤ × ℤ)
clipped r line =
    let low = int_max r.0 line.0 in
    let high = int_min r.1 line.1 in
    if int_le low high then (line.2 +ℤ (low -ℤ line.0), line.2 +ℤ (high -ℤ line.0)) ∷ [] else []

abbrev pub images_by : Option Table → List (ℤ × ℤ) → List (ℤ × ℤ)
images_by None rs = rs
images_by (Some table) rs = flat_map (λ r. flat_map (clipped r) table.lines) rs

-- an item's number where the numbers of the items are written
abbrev pub images_of : NumLeaf → List (ℤ × ℤ)
images_of leaf = if leaf.items.values then map (λ named. (named.1, named.1)) leaf.items.items else images_by leaf.table leaf.set

-- the least and the greatest number of ranges in any order
abbrev pub ends_from : (ℤ × ℤ) → List (ℤ × ℤ) → ℤ × ℤ
ends_from e [] = e
ends_from e (r ∷ rs) = ends_from (int_min e.0 r.0, int_max e.1 r.1) rs

abbrev pub ends : List (ℤ × ℤ) → Option (ℤ × ℤ)
ends [] = None
ends (r ∷ rs) = Some (ends_from r rs)

abbrev pub written_ends : NumLeaf → Option (ℤ × ℤ)
written_ends leaf = ends (images_of leaf)
