use Rattle.std.proofs.Common.{sym, ◌∙◌, arith}
use Rattle.std.proofs.lemmas.Bool.{eqb-true}
use Rattle.acn_printed.proofs.Runs.{same-fours, same-eights}
use Rattle.acn_printed.proofs.rest.is_same_run.Goals as goal

pub returns-then-first_four : goal.returns-then-first_four
returns-then-first_four c = λ h.
    same-fours c.args.left.now c.args.right.now c.octets_are_small.ensures c.octets_are_small-2.ensures c.requires (omega arith) (omega arith)
    (sym c.first_four.ensures ∙ (c.if-first_four.true ∙ c.first_four-then-size-lt8.ensures))
    (sym c.last_four.ensures ∙ (eqb-true c.last_four.result c.last_four-then-first_four.result h ∙ c.last_four-then-first_four.ensures))

pub returns-then-first_eight : goal.returns-then-first_eight
returns-then-first_eight c = λ h.
    same-eights c.args.left.now c.args.right.now c.octets_are_small.ensures c.octets_are_small-2.ensures c.requires (omega arith) (omega arith)
    (sym c.first_eight.ensures ∙ (c.if-first_eight.true ∙ c.first_eight-else-size-lt8.ensures))
    (sym c.last_eight.ensures ∙ (eqb-true c.last_eight.result c.last_eight-then-first_eight.result h ∙ c.last_eight-then-first_eight.ensures))
