use Rattle.std.proofs.Common.{ap, length, ◌≤◌, subst, sym, ℕ}
use Rattle.acn_check.proofs.Cases.{few_cases}
use Rattle.acn_check.proofs.overlaps.line_is_apart.Goals as goal

pub all_apart-requires : goal.all_apart-requires
all_apart-requires c = subst (λ (n : ℕ). n ≤ 65536) (sym (ap length c.items.ensures)) (few_cases c.args.line.now.body.now c.in-Choice.choice c.in-Choice.is c.requires)
