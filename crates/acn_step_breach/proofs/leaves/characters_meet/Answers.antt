use Rattle.std.proofs.Common.{pos, not, Bool, ℕ, ap, arith}
use Rattle.std.specs.List.{position_from}
use Rattle.std.proofs.lemmas.Grind.{common_steps}
use Rattle.std.proofs.lemmas.List.{at_drop_more, drop_all}
use Rattle.std.proofs.lemmas.Iterator.Adapters.{position_from-zero}
use Rattle.acn_num.specs.Ranges.{has}
use Rattle.acn_step_breach.proofs.leaves.characters_meet.Goals as goal

pub returns-then-not-holds_natural : goal.returns-then-not-holds_natural
returns-then-not-holds_natural c =
    let text = c.args.text.now in
    let i = c.loop-c.c-index in
    let bad : ℕ → Bool = λ x. not (has c.args.alphabet.now (pos x)) in
    let whole = position_from-zero bad text in
    let step = at_drop_more (position_from bad i) text i 0 (omega arith) in
    grind (arith, common_steps)

pub returns : goal.returns
returns c =
    let text = c.args.text.now in
    let i = c.loop-c.c-index in
    let bad : ℕ → Bool = λ x. not (has c.args.alphabet.now (pos x)) in
    let whole = position_from-zero bad text in
    let step = ap (position_from bad i) (drop_all i text (omega arith)) in
    grind (arith, common_steps)
