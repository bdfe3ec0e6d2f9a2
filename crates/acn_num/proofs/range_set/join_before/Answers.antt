use Rattle.std.proofs.Common.{◌≡◌, ℕ, sym, subst, ◌∙◌, take, drop, length, ◌-◌}
use Rattle.std.proofs.lemmas.List.{length-drop}
use Rattle.std.proofs.Math.Seq.{take-length}
use Rattle.acn_num.specs.Ranges.{Ranges}
use Rattle.acn_num.specs.Joining.{JoinsBefore}
use Rattle.acn_num.proofs.Joining.{walk_stops, walk_on}
use Rattle.acn_num.proofs.range_set.join_before.Goals as goal

whole_rest : (n : ℕ) (s : Ranges) → take (length s - n) (drop n s) ≡ drop n s
whole_rest n s = subst (λ (k : ℕ). take k (drop n s) ≡ drop n s) (length-drop n s) (take-length (drop n s))

pub returns-then-begins_from : goal.returns-then-begins_from
returns-then-begins_from c =
    subst (λ (z : Ranges). JoinsBefore c.args.low.now c.args.ranges.now.items c.args.others.now c.loop-i.ranges.items z) (sym (whole_rest c.loop-i.i c.args.others.now))
    (walk_stops c.args.low.now c.args.ranges.now.items c.args.others.now c.loop-i.ranges.items c.loop-i.i c.loop-i-test.true c.loop-i.invariant (sym c.begins_from.ensures ∙ c.if-begins_from.true))

pub loop-i-preserved : goal.loop-i-preserved
loop-i-preserved c =
    walk_on c.args.low.now c.args.ranges.now.items c.args.others.now c.loop-i.ranges.items c.join_range.new.ranges.items c.loop-i.i c.loop-i-test.true c.loop-i.invariant
    (sym c.begins_from.ensures ∙ c.if-begins_from.false) (c.in_ok-join_range.ensures {u = tt})
