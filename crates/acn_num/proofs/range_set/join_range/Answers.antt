use Rattle.std.proofs.Common.{ap, ◌∙◌, ℤ, arith, [], ◌∷◌, ◌++◌}
use Rattle.std.proofs.lemmas.Int.{ints}
use Rattle.acn_num.specs.Ranges.{Ranges, some_range}
use Rattle.acn_num.proofs.Joining.{joins_behind, joins_last}
use Rattle.acn_num.proofs.range_set.join_range.Goals as goal

pub returns-in_ok-push-in-Some-2 : goal.returns-in_ok-push-in-Some-2
returns-in_ok-push-in-Some-2 c =
    joins_behind c.args.next.now c.in-Some.last c.args.ranges.now.items c.pop.new.self.items _ c.requires c.in-Some.ensures.items
    (let lt = c.if-last-next.true in grind (arith, ints))
    ((c.in_ok-push-in-Some-2.ensures {u = tt}).items ∙ ap (λ (z : Ranges). z ++ c.args.next.now ∷ []) (c.in_ok-push-in-Some.ensures {u = tt}).items)

pub returns-in_ok-add-in-Some : goal.returns-in_ok-add-in-Some
returns-in_ok-add-in-Some c =
    joins_last c.args.next.now c.in-Some.last c.args.ranges.now.items c.pop.new.self.items _ c.requires c.in-Some.ensures.items
    (let ge = c.if-last-next.false in grind (arith, ints))
    ((c.in_ok-add-in-Some.ensures {u = tt}) ∙ ap (λ (h : ℤ). c.pop.new.self.items ++ some_range c.in-Some.last.0 h) c.greater.ensures)
