use Rattle.std.proofs.Common.{rules, ap, ◌∙◌}
use Rattle.acn_fill.specs.Table.{Table, has_spot}
use Rattle.acn_fill.proofs.Changes.{none_kept}
use Rattle.acn_fill.proofs.table.Fills.close.Goals as goal

pub close-requires : goal.close-requires
close-requires g c =
    (search rules, none_kept c.self.inside.holes c.self.inside.spots.items c.self.invariant.0 (λ s. ap (λ (z : Table). has_spot s z.spots) c.self.view_is ∙ c.requires s))
