use Rattle.std.proofs.Common.{ap, length, ◌≤◌, subst, sym, ℕ}
use Rattle.acn_check.proofs.Cases.{few_cases}
use Rattle.acn_check.proofs.choices.line_has_items.Goals as goal

pub each_is_item-requires : goal.each_is_item-requires
each_is_item-requires c = subst (λ (n : ℕ). n ≤ 65536) (sym (ap length c.items.ensures)) (few_cases c.args.line.now.body.now c.in-Choice.choice c.in-Choice.is c.requires)
