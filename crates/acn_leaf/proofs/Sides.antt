-- Lines of a table share a key or an image where their ranges meet on one side.
use Rattle.std.proofs.Common.{◌≡◌, Bool, true, false, not, ◌&&◌, ◌||◌, List, [], ◌∷◌, map, refl, ap, ◌∙◌, arith}
use Rattle.std.specs.Prelude.{ℤ, ◌+ℤ◌, ◌-ℤ◌}
use Rattle.std.specs.List.{list_all, list_any}
use Rattle.std.proofs.lemmas.Bool.{and_parts, and_from}
use Rattle.std.proofs.lemmas.Int.{ints}
use Rattle.acn_grammar.specs.Leaves.{all_differ, share, line_fine}
use Rattle.acn_grammar.proofs.WholeTests.{le_test}
use Rattle.acn_leaf.specs.Sides.{range_of, is_range, meet}
use Rattle.acn_leaf.specs.declared.line_blocks.Side.{Side}
use Rattle.acn_leaf.specs.declared.line_blocks.Side.TheVariants.{Keys, Images}
use Rattle.acn_leaf.proofs.TableRules.{line_facts}

range_fine : (side : Side) (line : ℤ × ℤ × ℤ) → line_fine line ≡ true → is_range (range_of side line) ≡ true
range_fine Keys line h = (let f = line_facts line h in le_test line.0 line.1 f.order)
range_fine Images line h = (let f = line_facts line h in let o = f.order in le_test line.2 (line.2 +ℤ (line.1 -ℤ line.0)) (omega (arith, ints, o)))

pub ranges_fine : (side : Side) (lines : List (ℤ × ℤ × ℤ)) → list_all line_fine lines ≡ true → list_all is_range (map (range_of side) lines) ≡ true
ranges_fine side [] h = refl
ranges_fine side (l ∷ ls) h =
    let f = and_parts (line_fine l) (list_all line_fine ls) h in
    and_from (is_range (range_of side l)) (list_all is_range (map (range_of side) ls)) (range_fine side l f.0) (ranges_fine side ls f.1)

pub of_ranges : (p : ℤ × ℤ → Bool) (side : Side) (lines : List (ℤ × ℤ × ℤ)) → list_all (λ line. p (range_of side line)) lines ≡ list_all p (map (range_of side) lines)
of_ranges p side [] = refl
of_ranges p side (l ∷ ls) = ap (λ b. p (range_of side l) && b) (of_ranges p side ls)

any_side : (a : ℤ × ℤ × ℤ) (lines : List (ℤ × ℤ × ℤ)) → list_any (share a) lines ≡ (list_any (meet (range_of Keys a)) (map (range_of Keys) lines) || list_any (meet (range_of Images a)) (map (range_of Images) lines))
any_side a [] = refl
any_side a (l ∷ ls) =
    ap (λ b. share a l || b) (any_side a ls)
    ∙ four (meet (range_of Keys a) (range_of Keys l)) (meet (range_of Images a) (range_of Images l)) (list_any (meet (range_of Keys a)) (map (range_of Keys) ls)) (list_any (meet (range_of Images a)) (map (range_of Images) ls))
  where
    four : (a b c d : Bool) → ((a || b) || (c || d)) ≡ ((a || c) || (b || d))
    four true b c d = refl
    four false true true d = refl
    four false true false d = refl
    four false false true d = refl
    four false false false d = refl

pub both_sides : (lines : List (ℤ × ℤ × ℤ)) → all_differ share lines ≡ (all_differ meet (map (range_of Keys) lines) && all_differ meet (map (range_of Images) lines))
both_sides [] = refl
both_sides (l ∷ ls) =
    rw (any_side l ls, both_sides ls) (four (list_any (meet (range_of Keys l)) (map (range_of Keys) ls)) (list_any (meet (range_of Images l)) (map (range_of Images) ls)) (all_differ meet (map (range_of Keys) ls)) (all_differ meet (map (range_of Images) ls)))
  where
    four : (a b c d : Bool) → (not (a || b) && (c && d)) ≡ ((not a && c) && (not b && d))
    four true b c d = refl
    four false true true d = refl
    four false true false d = refl
    four false false true d = refl
    four false false false d = refl
