use Rattle.std.proofs.Common.{◌<◌, get_or, [], ◌∷◌, ◌++◌, ℕ, List, ap, ◌∙◌, arith}
use Rattle.acn_graph.specs.Graph.{once}
use Rattle.acn_graph.proofs.Ways.{one_back}
use Rattle.acn_graph.proofs.search.way_back.Goals as goal

pub loop-place-init : goal.loop-place-init
loop-place-init c =
    let e = c.in_ok-push.ensures.items ∙ ap (λ (xs : List ℕ). xs ++ get_or c.args.order.now c.args.at 0 ∷ []) c.new-way.ensures.items in
    record { in_range = c.requires.there; led = λ g trail led. rw e (once led) }

pub loop-place-preserved : goal.loop-place-preserved
loop-place-preserved c =
    let positive = c.loop-place-test.true in
    let within = c.loop-place.invariant.in_range in
    let same = c.requires.same in
    let below : get_or c.args.parents.now c.loop-place.place 0 < c.loop-place.place = c.requires.ordered.before c.loop-place.place positive (omega arith) in
    record {
      in_range = omega arith;
      led = λ g trail led. rw c.in_ok-push-2.ensures.items (one_back g c.args.order.now c.args.parents.now c.loop-place.way.items (get_or c.args.order.now 0 0) c.loop-place.place trail positive within (c.loop-place.invariant.led g trail led));
    }
