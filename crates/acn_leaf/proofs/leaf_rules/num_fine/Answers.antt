use Rattle.std.proofs.Common.{sym, ◌∙◌}
use Rattle.acn_leaf.proofs.NumParts.{not_coded, not_numbers, as_written, coding_part, table_part}
use Rattle.acn_leaf.proofs.leaf_rules.num_fine.Goals as goal

pub written_fine-requires-clause-coding : goal.written_fine-requires-clause-coding
written_fine-requires-clause-coding c = coding_part c.args.leaf.now (sym c.coded_fine.ensures ∙ c.if-coded_fine.true)

pub written_fine-requires-clause-table : goal.written_fine-requires-clause-table
written_fine-requires-clause-table c = table_part c.args.leaf.now (sym c.numbers_fine.ensures ∙ c.if-numbers_fine.true)

pub returns-then-numbers_fine : goal.returns-then-numbers_fine
returns-then-numbers_fine c = as_written c.args.leaf.now c.written_fine.result (sym c.coded_fine.ensures ∙ c.if-coded_fine.true) (sym c.numbers_fine.ensures ∙ c.if-numbers_fine.true) c.written_fine.ensures

pub returns-else-numbers_fine : goal.returns-else-numbers_fine
returns-else-numbers_fine c = not_numbers c.args.leaf.now (sym c.coded_fine.ensures ∙ c.if-coded_fine.true) (sym c.numbers_fine.ensures ∙ c.if-numbers_fine.false)

pub returns-else-coded_fine : goal.returns-else-coded_fine
returns-else-coded_fine c = not_coded c.args.leaf.now (sym c.coded_fine.ensures ∙ c.if-coded_fine.false)
