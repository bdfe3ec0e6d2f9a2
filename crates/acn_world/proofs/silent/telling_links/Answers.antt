use Rattle.std.proofs.Common.{◌-◌, ◌+◌, ◌∷◌, [], sym, arith}
use Rattle.std.proofs.lemmas.List.{map-append}
use Rattle.std.specs.Prelude.{map}
use Rattle.acn_index.specs.Views.{index_view}
use Rattle.acn_index.specs.Linked.{link_view}
use Rattle.acn_world.proofs.PassedOver.{begun, over, ended, onward}
use Rattle.acn_world.proofs.silent.telling_links.Goals as goal

pub loop-step-init : goal.loop-step-init
loop-step-init c =
    rw c.new-all.ensures.items (begun (index_view c.args.index.now) (link_view c.args.first) (c.count-left.result + 1) _ (omega (arith, c.count-left.ensures)) (omega (arith, c.count-left.ensures, c.count-step-end.ensures)))

pub returns-then-left-eq0 : goal.returns-then-left-eq0
returns-then-left-eq0 c =
    over (index_view c.args.index.now) (link_view c.args.first) (map link_view c.loop-step.all.items) (link_view c.loop-step.link) c.loop-step.left _ c.loop-step.invariant (omega (arith, c.if-left-eq0.true))

pub returns-in-None : goal.returns-in-None
returns-in-None c =
    rw c.in_ok-push.ensures.items (rw (map-append link_view c.loop-step.all.items (c.loop-step.link ∷ []))
    (ended (index_view c.args.index.now) (link_view c.args.first) (map link_view c.loop-step.all.items) (link_view c.loop-step.link) c.loop-step.left _ c.loop-step.invariant (omega (arith, c.if-left-eq0.false)) (sym (c.in-None.ensures {u = tt}))))

pub loop-step-preserved : goal.loop-step-preserved
loop-step-preserved c =
    rw c.in_ok-push.ensures.items (rw (map-append link_view c.loop-step.all.items (c.loop-step.link ∷ []))
    (onward (index_view c.args.index.now) (link_view c.args.first) (map link_view c.loop-step.all.items) (link_view c.loop-step.link) (link_view c.in-Some.next) c.loop-step.left (c.loop-step.left - 1)
    (c.count-step-end.result + 1 - c.loop-step.step) (c.count-step-end.result + 1 - (c.loop-step.step + 1)) c.passed-ahead.result c.loop-step.invariant
    (omega (arith, c.if-left-eq0.false)) (omega (arith, c.loop-step-test.true)) (sym (c.in-Some.ensures {u = tt})) c.passed-ahead.ensures))

pub returns : goal.returns
returns c =
    over (index_view c.args.index.now) (link_view c.args.first) (map link_view c.loop-step.all.items) (link_view c.loop-step.link) c.loop-step.left _ c.loop-step.invariant (omega (arith, c.loop-step.invariant.few, c.loop-step-test.false))
