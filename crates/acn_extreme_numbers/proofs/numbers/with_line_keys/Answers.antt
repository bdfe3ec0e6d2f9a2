use Rattle.acn_extreme_numbers.proofs.Picking.{line_facts}
use Rattle.acn_extreme_numbers.proofs.numbers.with_line_keys.Goals as goal

pub with_steps-requires-clause-image : goal.with_steps-requires-clause-image
with_steps-requires-clause-image c = (line_facts c.args.line.now c.requires.line).image
