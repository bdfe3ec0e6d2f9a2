-- Sorted: by the numbers in ASN.1.
use Rattle.std.proofs.Common.{rules, ◌∙◌, ap, map}
use Rattle.std.proofs.lemmas.List.Sorted.{answers_always}
use Rattle.acn_leaves.specs.Ordered.{rank}
use Rattle.acn_leaves.specs.View.{ranked_view}
use Rattle.acn_leaves.proofs.Stable.{is_ascending, map-ascending}
use Rattle.acn_leaves.proofs.items.in_order.Goals as goal

pub returns : goal.returns
returns c =
    let keys = answers_always _ _ _ (λ f a r next called. search rules) in
    ap (map ranked_view) (is_ascending (λ r. r.number) _ _ (c.in_ok-sort_by_key.ensures.sorted (λ r. r.number) keys) (c.in_ok-sort_by_key.ensures.stable (λ r. r.number) keys))
    ∙ map-ascending rank ranked_view c.args.all.items
