use Rattle.std.proofs.Common.{◌∙◌, ap, fold, []}
use Rattle.std.proofs.lemmas.List.Filters.{dedup_is}
use Rattle.acn_homes.specs.Homes.{put}
use Rattle.acn_homes.specs.View.{paths_view}
use Rattle.acn_homes.proofs.Sorted.{sorted_keys}
use Rattle.acn_homes.proofs.fields.fields.Goals as goal

pub returns : goal.returns
returns c = ap paths_view (dedup_is _ _ _ c.dedup.ensures.filtered) ∙ (sorted_keys (λ p. p.now) _ _ c.sort_unstable.ensures.permutation c.sort_unstable.ensures.sorted ∙ ap (fold put []) c.in_ok-all.ensures)
