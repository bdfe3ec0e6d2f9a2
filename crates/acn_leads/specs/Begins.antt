-- Whether the first bits of an element can be those of a pattern. (Lists that are ended by a pattern are this profile's own.)
use Rattle.std.specs.Prelude.{ℕ, ◌-◌, ◌/◌, ◌^◌, ℤ, pos, neg_ℤ, int_le, int_lt, nat_le, take, Bool, true, false, not, ◌&&◌, ◌||◌, List, [], ◌∷◌, length, Option, Some, None}
use Rattle.std.specs.List.{list_any}
use Rattle.acn_num.specs.Bits.{number}
use Rattle.acn_num.specs.Ranges.{distance}
use Rattle.acn_grammar.specs.Images.{images_of}
use Rattle.acn_grammar.specs.Leaves.{num_fine, same_bits}
use Rattle.acn_grammar.specs.declared.node.NumCoding.{NumCoding}
use Rattle.acn_grammar.specs.declared.node.NumCoding.TheVariants.{Range, PosInt, Twos, Flag as Patterns, Fixed}
use Rattle.acn_grammar.specs.declared.node.NumLeaf.{NumLeaf}

-- some number of the range, less low, has v in front of its k last bits
abbrev pub hits : (low : ℤ) → (k v : ℕ) → ℤ × ℤ → Bool
hits low k v r = int_le low r.1 && (nat_le v (distance low r.1 / 2 ^ k) && (int_lt r.0 low || nat_le (distance low r.0 / 2 ^ k) v))

-- with the first bit turned, so that numbers in two's complement have the order of their bits
abbrev pub turned : List Bool → List Bool
turned [] = []
turned (b ∷ bs) = not b ∷ bs

abbrev pub begins : (p whole : List Bool) → Bool
begins p whole = nat_le (length p) (length whole) && same_bits (take (length p) whole) p

-- some code of these written numbers begins with the pattern
abbrev pub begins_by : List Bool → NumCoding → List (ℤ × ℤ) → Bool
begins_by p (Range low width) rs = list_any (hits low (width - length p) (number p)) rs
begins_by p (PosInt width) rs = list_any (hits (pos 0) (width - length p) (number p)) rs
begins_by p (Twos width) rs = list_any (hits (neg_ℤ (pos (2 ^ (width - 1)))) (width - length p) (number (turned p))) rs
begins_by p (Patterns (Some a) (Some b)) rs = begins p a || begins p b
begins_by p (Patterns _ _) rs = true
begins_by p (Fixed a) rs = begins p a
begins_by p _ rs = false

abbrev pub can_begin : List Bool → NumLeaf → Bool
can_begin p leaf = begins_by p leaf.coding (images_of leaf)

-- there is no lead, or a code of it begins with the pattern
abbrev pub not_told : List Bool → Option NumLeaf → Bool
not_told p None = true
not_told p (Some leaf) = can_begin p leaf

-- a lead keeps the rules of leaves
abbrev pub lead_fine : Option NumLeaf → Bool
lead_fine None = true
lead_fine (Some leaf) = num_fine leaf
