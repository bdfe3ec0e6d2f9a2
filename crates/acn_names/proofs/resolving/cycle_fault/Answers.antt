use Rattle.std.proofs.Common.{◌≡◌, List, ap, ◌∙◌}
use Rattle.std.specs.Prelude.{option_copied}
use Rattle.acn_index.specs.Views.{index_view}
use Rattle.acn_world.specs.Faults.{module_name_at, name_at, names_at}
use Rattle.acn_index.specs.declared.sources.TypeId.{TypeId}
use Rattle.acn_names.proofs.Faulty.{made, copied_there}
use Rattle.acn_names.proofs.Named.{owner_there, own_there}
use Rattle.acn_names.proofs.resolving.cycle_fault.Goals as goal

pub unwrap-owner-requires : goal.unwrap-owner-requires
unwrap-owner-requires c =
    let w = index_view c.args.index.now in
    let p = c.args.round.now.first in
    copied_there c.owner_at.result (module_name_at w p) c.owner_at.ensures (owner_there w p c.requires)

pub unwrap-own-requires : goal.unwrap-own-requires
unwrap-own-requires c =
    let w = index_view c.args.index.now in
    let p = c.args.round.now.first in
    copied_there c.name_at.result (name_at w p) c.name_at.ensures (own_there w p c.requires)

pub returns : goal.returns
returns c =
    let w = index_view c.args.index.now in
    let round = c.args.round.now in
    made w round.first round.way c.unwrap-owner.result.now c.unwrap-own.result.now (option_copied c.owner_at.result) (option_copied c.name_at.result) c.owner_at.ensures c.name_at.ensures
    (ap option_copied c.unwrap-owner.ensures) (ap option_copied c.unwrap-own.ensures) c.in_ok-module.module c.in_ok-name.name c.in_ok-names.names
    (c.in_ok-module.ensures {u = tt} ∙ c.bytes.ensures) (c.in_ok-name.ensures {u = tt} ∙ c.bytes-2.ensures) (c.in_ok-names.ensures {u = tt} ∙ ap (λ (way : List TypeId). names_at w way) c.items.ensures)
