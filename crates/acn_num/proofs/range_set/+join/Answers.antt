use Rattle.std.specs.Prelude.{◌/◌, length}
use Rattle.acn_num.proofs.Turns.{ok_map}
use Rattle.acn_num.proofs.Unions.{halves_have, halves_are}
use Rattle.acn_num.proofs.range_set.+join.Goals as goal

pub returns-clause-numbers : goal.returns-clause-numbers
returns-clause-numbers t c =
    ok_map c.union.result _ _
    (λ s both. halves_have (length c.args.sets.now / 2) s c.in_ok-front.front c.in_ok-back.back c.args.sets.now both (c.in_ok-front.ensures {u = tt}).numbers (c.in_ok-back.ensures {u = tt}).numbers)
    c.union.ensures.numbers

pub returns-clause-each : goal.returns-clause-each
returns-clause-each t c =
    ok_map c.union.result _ _
    (λ s both. halves_are (length c.args.sets.now / 2) c.args.sets.now (c.in_ok-front.ensures {u = tt}).each (c.in_ok-back.ensures {u = tt}).each)
    c.union.ensures.numbers
