use Rattle.std.proofs.Common.{◌++◌, ◌∷◌, [], ◌∙◌, ap, arith, rules, ℤ}
use Rattle.std.proofs.lemmas.Int.{to_z-of_z}
use Rattle.std.specs.Int.{w128}
use Rattle.acn_plain_write.proofs.Homes.{next_at, none_at, one_more, no_more}
use Rattle.acn_plain_write.proofs.home.home_numbers.Goals as goal

pub number_of-requires : goal.number_of-requires
number_of-requires c =
    let r = c.requires in
    let n = next_at c.args.heard.now c.args.path.now c.args.all.now r.0 r.1 c.loop-determinant.determinant-index c.determinant-item.result r.2 c.loop-determinant-test.true c.determinant-item.is in
    (n.number, n.is)

pub loop-determinant-preserved : goal.loop-determinant-preserved
loop-determinant-preserved c home xs a =
    let l = c.loop-determinant in
    let n = next_at c.args.heard.now c.args.path.now c.args.all.now home xs l.determinant-index c.determinant-item.result a c.loop-determinant-test.true c.determinant-item.is in
    one_more l.numbers c.push.new.self _ _ _ _ (c.in_ok-push.ensures.ok ∙ ap (λ (z : ℤ). l.numbers ++ (c.determinant-item.result.slot, z) ∷ []) (to_z-of_z w128 c.in_ok-x.x (record { sfits = search rules }) ∙ c.in_ok-x.ensures n.number n.is)) n.zipped (l.invariant home xs a)

pub returns : goal.returns
returns c home xs a =
    let l = c.loop-determinant in
    let over = c.loop-determinant-test.false in
    no_more l.numbers _ _ (none_at c.args.heard.now c.args.path.now c.args.all.now home xs l.determinant-index a (omega (arith, over))) (l.invariant home xs a)
