-- What the search tries, for its own functions: the ends of the ranges and what is nearest to where codes grow from, by lines of the
-- table where there is one. Of the numbers with a code of that length the least is the first of a range or of a line, or one whose code
-- has another length than that of the number before it. (That a best number is found so is shown in proofs/.)
use Rattle.std.specs.Prelude.{ℤ, pos, negsuc, ◌+ℤ◌, ◌-ℤ◌, int_le, int_lt, nat_eq, ◌&&◌, List, [], ◌∷◌, ◌++◌, map, Option, Some, None, if◌then◌else◌}
use Rattle.std.specs.Int.{int_max, int_min}
use Rattle.std.specs.List.{flat_map}
use Rattle.acn_num.specs.Ranges.{Ranges, has}
use Rattle.acn_grammar.specs.Interval.{nearest, origin}
use Rattle.acn_grammar.specs.Length.{least, num_length}
use Rattle.acn_grammar.specs.declared.node.NumCoding.{NumCoding}
use Rattle.acn_grammar.specs.declared.node.NumCoding.TheVariants.{CountedFrom, CountedSigned, BcdEnded, AsciiEnded}
use Rattle.acn_grammar.specs.declared.node.NumLeaf.{NumLeaf}
use Rattle.acn_grammar.specs.declared.node.Table.{Table}
use Rattle.acn_extreme_laws.specs.Codes.{pick}
use Rattle.acn_extreme_laws.specs.declared.side.Side.{Side}

-- the image of a key of a line
abbrev pub image_on : (ℤ × ℤ × ℤ) → ℤ → ℤ
image_on line x = line.2 +ℤ (x -ℤ line.0)

-- the key on a line between two others whose image is nearest to a number
abbrev pub nearest_key : ℤ → (ℤ × ℤ × ℤ) → (low high : ℤ) → ℤ
nearest_key x line low high = line.0 +ℤ (nearest x (image_on line low, image_on line high) -ℤ line.2)

abbrev pub tried_on : ℤ → ℤ × ℤ → (ℤ × ℤ × ℤ) → List ℤ
tried_on x r line =
    let low = int_max r.0 line.0 in
    let high = int_min r.1 line.1 in
    if int_le low high then low ∷ nearest_key x line low high ∷ high ∷ [] else []

abbrev pub tried_by : ℤ → Option Table → Ranges → List ℤ
tried_by x None rs = flat_map (λ r. r.0 ∷ nearest x r ∷ r.1 ∷ []) rs
tried_by x (Some table) rs = flat_map (λ r. flat_map (tried_on x r) table.lines) rs

-- The least of the numbers whose codes have one length.

-- the numbers that have another count of digits than the numbers before them
abbrev pub digit_steps : List ℤ
digit_steps = negsuc 999999999999999998 ∷ negsuc 99999999999999998 ∷ negsuc 9999999999999998 ∷ negsuc 999999999999998 ∷ negsuc 99999999999998 ∷ negsuc 9999999999998 ∷ negsuc 999999999998 ∷ negsuc 99999999998 ∷ negsuc 9999999998 ∷ negsuc 999999998 ∷ negsuc 99999998 ∷ negsuc 9999998 ∷ negsuc 999998 ∷ negsuc 99998 ∷ negsuc 9998 ∷ negsuc 998 ∷ negsuc 98 ∷ negsuc 8 ∷ pos 10 ∷ pos 100 ∷ pos 1000 ∷ pos 10000 ∷ pos 100000 ∷ pos 1000000 ∷ pos 10000000 ∷ pos 100000000 ∷ pos 1000000000 ∷ pos 10000000000 ∷ pos 100000000000 ∷ pos 1000000000000 ∷ pos 10000000000000 ∷ pos 100000000000000 ∷ pos 1000000000000000 ∷ pos 10000000000000000 ∷ pos 100000000000000000 ∷ pos 1000000000000000000 ∷ pos 10000000000000000000 ∷ []

-- how far from the origin numbers lie whose codes have other lengths than those of the numbers before them
abbrev pub steps : NumCoding → List ℤ
steps (CountedFrom low) = pos 256 ∷ pos 65536 ∷ pos 16777216 ∷ pos 4294967296 ∷ pos 1099511627776 ∷ pos 281474976710656 ∷ pos 72057594037927936 ∷ []
steps CountedSigned = negsuc 36028797018963967 ∷ negsuc 140737488355327 ∷ negsuc 549755813887 ∷ negsuc 2147483647 ∷ negsuc 8388607 ∷ negsuc 32767 ∷ negsuc 127 ∷ pos 128 ∷ pos 32768 ∷ pos 8388608 ∷ pos 2147483648 ∷ pos 549755813888 ∷ pos 140737488355328 ∷ pos 36028797018963968 ∷ []
steps BcdEnded = digit_steps
steps (AsciiEnded end signed) = digit_steps
steps _ = []

-- the keys whose images are these, where the one key has the one image
abbrev pub keys_from : (key image : ℤ) → List ℤ → List ℤ
keys_from key image ys = map (λ y. key +ℤ (y -ℤ image)) ys

abbrev pub line_keys : List ℤ → (ℤ × ℤ × ℤ) → List ℤ
line_keys ys line = line.0 ∷ keys_from line.0 line.2 ys

abbrev pub firsts_by : ℤ → Option Table → Ranges → List ℤ → List ℤ
firsts_by x None rs ys = keys_from x (pos 0) ys
firsts_by x (Some table) rs ys = map (λ r. r.0) rs ++ flat_map (line_keys ys) table.lines

-- the lesser, where it is permitted and its code has the same length
abbrev pub lesser : NumLeaf → (x best : ℤ) → ℤ
lesser leaf x best = if has leaf.set x && (nat_eq (num_length leaf x) (num_length leaf best) && int_lt x best) then x else best

abbrev pub least_of : NumLeaf → (best : ℤ) → List ℤ → ℤ
least_of leaf best [] = best
least_of leaf best (x ∷ xs) = least_of leaf (lesser leaf x best) xs

abbrev pub picked_of : Side → NumLeaf → ℤ
picked_of side leaf = pick (num_length leaf) side (least leaf.set) (tried_by (origin leaf.coding) leaf.table leaf.set)

abbrev pub firsts_of : NumLeaf → List ℤ
firsts_of leaf = firsts_by (origin leaf.coding) leaf.table leaf.set (steps leaf.coding)

-- what is found where codes have several lengths
abbrev pub tried_of : Side → NumLeaf → ℤ
tried_of side leaf = least_of leaf (picked_of side leaf) (firsts_of leaf)
