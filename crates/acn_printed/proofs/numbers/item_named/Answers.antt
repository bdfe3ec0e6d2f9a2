use Rattle.std.proofs.Common.{sym, ap, ◌∙◌, arith}
use Rattle.acn_grammar.proofs.Characters.{same_name-is}
use Rattle.acn_printed.proofs.Leaves.{item-here}
use Rattle.acn_printed.proofs.numbers.item_named.Goals as goal

pub returns-then-is_same-clause-named : goal.returns-then-is_same-clause-named
returns-then-is_same-clause-named c =
    item-here c.args.items.now c.in_ok-at.at c.index-items-at.result (omega arith) c.index-items-at.is
    ∙ (ap (λ p. p.0) c.index-items-at.is ∙ (sym c.bytes.ensures ∙ same_name-is _ _ (sym c.is_same.ensures ∙ c.if-is_same.true)))
