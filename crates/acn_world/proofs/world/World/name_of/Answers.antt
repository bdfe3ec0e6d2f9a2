use Rattle.std.proofs.Common.{sym, ap, ◌∙◌}
use Rattle.std.specs.Prelude.{option_map}
use Rattle.std.specs.Borrow.{Bor}
use Rattle.acn_asn_syntax.specs.View.{module_view, assign_view}
use Rattle.acn_asn_syntax.specs.declared.modules.AsnModule.{AsnModule}
use Rattle.acn_asn_syntax.specs.declared.modules.Assign.{Assign}
use Rattle.acn_world.specs.Viewed.{world_view}
use Rattle.acn_world.proofs.TypeThere.{module_there, item_there, name_there}
use Rattle.acn_world.proofs.world.World.name_of.Goals as goal

pub unwrap-owner-requires : goal.unwrap-owner-requires
unwrap-owner-requires c = module_there (world_view c.args.self.now) c.args.of c.module_at.result c.module_at.ensures c.requires

pub unwrap-item-requires : goal.unwrap-item-requires
unwrap-item-requires c =
    item_there (world_view c.args.self.now) c.args.of (module_view c.unwrap-owner.result.now) c.item_at.result
    (ap (option_map (λ (m : Bor AsnModule). module_view m.now)) (sym c.unwrap-owner.ensures) ∙ c.module_at.ensures) c.item_at.ensures c.requires

pub returns-clause-own : goal.returns-clause-own
returns-clause-own c =
    rw c.name_of.ensures (name_there (world_view c.args.self.now) c.args.of (module_view c.unwrap-owner.result.now) (assign_view c.unwrap-item.result.now)
    (ap (option_map (λ (m : Bor AsnModule). module_view m.now)) (sym c.unwrap-owner.ensures) ∙ c.module_at.ensures)
    (ap (option_map (λ (a : Bor Assign). assign_view a.now)) (sym c.unwrap-item.ensures) ∙ c.item_at.ensures))
