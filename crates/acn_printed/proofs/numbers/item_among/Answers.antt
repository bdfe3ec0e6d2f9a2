use Rattle.std.proofs.Common.{sym, ◌∙◌}
use Rattle.acn_grammar.proofs.Characters.{same_name-is}
use Rattle.acn_printed.proofs.Leaves.{item-here}
use Rattle.acn_printed.proofs.numbers.item_among.Goals as goal

pub returns-then-is_same-clause-named : goal.returns-then-is_same-clause-named
returns-then-is_same-clause-named c =
    item-here c.args.items.now c.loop-at.at c.index-items-at.result c.loop-at-test.true c.index-items-at.is
    ∙ (sym c.bytes.ensures ∙ same_name-is _ _ (sym c.is_same.ensures ∙ c.if-is_same.true))
