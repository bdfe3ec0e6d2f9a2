use Rattle.std.proofs.Common.{ℕ, is_some, ap, ◌∙◌}
use Rattle.std.specs.Prelude.{map}
use Rattle.acn_num.specs.Names.{Name}
use Rattle.acn_world.specs.Repeated as spec
use Rattle.acn_repeated.specs.Named.{names_view}
use Rattle.acn_repeated.proofs.SeenNames.{found}
use Rattle.acn_repeated.proofs.seen.is_among.Goals as goal

pub returns : goal.returns
returns c =
    let names = names_view c.seen.inside.names.items in
    c.is_some.ensures ∙ (ap is_some (c.get.ensures.first (map (λ (n : Name). (n, 0)) names) c.seen.invariant) ∙ (found c.args.name.now names ∙ ap (spec.is_among c.args.name.now) c.seen.view_is))
