-- The leaves of slots that have a hole, the newest first, each with the place where its hole ends.
-- (This profile's own.)
use Rattle.std.specs.Prelude.{◌≡◌, ℕ, suc, Bool, true, false, ◌||◌, List, [], ◌∷◌, Option, Some, None, is_some, nat_eq, if◌then◌else◌}
use Rattle.acn_grammar.specs.declared.node.NumLeaf.{NumLeaf}
use Rattle.acn_writer.specs.declared.leaf.SlotLeaf.{SlotLeaf}
use denote.Bor.{Bor}

abbrev pub with_leaf : ℕ → Option (Bor NumLeaf) → List (ℕ × NumLeaf) → List (ℕ × NumLeaf)
with_leaf s None ls = ls
with_leaf s (Some leaf) ls = (s, leaf.now) ∷ ls

abbrev pub leaves_in : List SlotLeaf → List (ℕ × NumLeaf)
leaves_in [] = []
leaves_in (e ∷ es) = with_leaf e.slot e.leaf (leaves_in es)

-- each has a leaf
abbrev pub AreLeaves : List SlotLeaf → Type 0
AreLeaves [] = Unit {0}
AreLeaves (e ∷ es) = (is_some e.leaf ≡ true) × AreLeaves es

abbrev pub has_leaf : ℕ → List SlotLeaf → Bool
has_leaf s [] = false
has_leaf s (e ∷ es) = nat_eq e.slot s || has_leaf s es

-- the place of the newest one of the slot
abbrev pub leaf_place : ℕ → List SlotLeaf → ℕ
leaf_place s [] = 0
leaf_place s (e ∷ es) = if nat_eq e.slot s then 0 else suc (leaf_place s es)

-- where the hole of the slot ends
abbrev pub end_of : ℕ → List SlotLeaf → ℕ
end_of s [] = 0
end_of s (e ∷ es) = if nat_eq e.slot s then e.end else end_of s es
