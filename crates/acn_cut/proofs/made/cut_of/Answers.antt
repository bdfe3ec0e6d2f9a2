use Rattle.std.proofs.Common.{rules, ℤ, subst, sym}
use Rattle.std.proofs.lemmas.Int.{to_z-of_z}
use Rattle.std.specs.Int.{w128}
use Rattle.acn_cut.specs.Making.{CountsUp}
use Rattle.acn_cut.proofs.Leaves.{range_cut, unsigned_cut, truth_cut, under_cut}
use Rattle.acn_cut.proofs.made.cut_of.Goals as goal

pub returns-in-Range : goal.returns-in-Range
returns-in-Range c = range_cut c.args.leaf.now c.between.result _ _ _ _ _ (search rules) (subst (λ (y : ℤ). CountsUp c.args.leaf.now.table c.in_ok-range.range.now.0 c.in_ok-range.range.now.1 y) (sym (to_z-of_z w128 c.in_ok-image.image (record { sfits = search rules }))) c.in_ok-image.ensures) (search rules) c.in-Range.is c.between.ensures

pub returns-in-PosInt : goal.returns-in-PosInt
returns-in-PosInt c = unsigned_cut c.args.leaf.now c.between-in-PosInt.result _ _ _ _ (search rules) (subst (λ (y : ℤ). CountsUp c.args.leaf.now.table c.in_ok-range.range.now.0 c.in_ok-range.range.now.1 y) (sym (to_z-of_z w128 c.in_ok-image.image (record { sfits = search rules }))) c.in_ok-image.ensures) (search rules) c.in-PosInt.is c.between-in-PosInt.ensures

pub returns-then-is_none-2 : goal.returns-then-is_none-2
returns-then-is_none-2 c =
    truth_cut c.args.leaf.now c.between-then-is_none-2.result _ _ _ _ _ (search rules) (subst (λ (y : ℤ). CountsUp c.args.leaf.now.table c.in_ok-range.range.now.0 c.in_ok-range.range.now.1 y) (sym (to_z-of_z w128 c.in_ok-image.image (record { sfits = search rules }))) c.in_ok-image.ensures) (search rules) c.in-Flag.is (search rules) (search rules) c.between-then-is_none-2.ensures

pub returns-then-range-ge0 : goal.returns-then-range-ge0
returns-then-range-ge0 c =
    under_cut c.args.leaf.now c.under.result c.in_ok-range.range.now.0 c.in_ok-range.range.now.1 _ (search rules) (search rules) (search rules) c.in-Fixed.is (search rules) (search rules) c.under.ensures
