use Rattle.std.proofs.Common.{List, length, ap, subst, ◌∙◌, ◌<◌, sym}
use Rattle.std.specs.Prelude.{map, flat_map}
use Rattle.acn_asn_syntax.specs.Mirror as plain
use Rattle.acn_asn_syntax.specs.View.{module_view}
use Rattle.acn_asn_syntax.specs.declared.modules.AsnModule.{AsnModule}
use Rattle.acn_acn_syntax.specs.declared.modules.AcnModule.{AcnModule}
use Rattle.acn_acn_syntax.specs.declared.maps.MapTable.{MapTable}
use Rattle.acn_index.specs.World.{count, world_from}
use Rattle.acn_index.specs.Keyed.{maps_of}
use Rattle.acn_index.specs.Steps.{value_step, type_step}
use Rattle.acn_index.proofs.Numbered.{nothing_wrong}
use Rattle.acn_index.proofs.Sizes.{few_items}
use Rattle.acn_index.proofs.indexing.bare.Goals as goal

pub items_of-count-requires : goal.items_of-count-requires
items_of-count-requires c = subst (λ (ms : List AsnModule). length (flat_map (λ (m : plain.AsnModule). m.items) (map module_view ms)) < 4294967296) (sym c.items-4.ensures) (few_items (world_from c.args.modules c.args.acn c.args.tables) c.requires)

pub invariant_of-result-clause-mapped : goal.invariant_of-result-clause-mapped
invariant_of-result-clause-mapped c =
    c.in_ok-maps.ensures {u = tt}
    ∙ (ap (λ (ms : List AsnModule). maps_of (world_from ms c.items-2.result.now c.items-3.result.now)) c.items.ensures
    ∙ (ap (λ (ms : List AcnModule). maps_of (world_from c.args.modules ms c.items-3.result.now)) c.items-2.ensures
    ∙ ap (λ (ts : List MapTable). maps_of (world_from c.args.modules c.args.acn ts)) c.items-3.ensures))

pub invariant_of-result-clause-counted : goal.invariant_of-result-clause-counted
unfolding count
invariant_of-result-clause-counted c = c.items_of-count.ensures ∙ ap (λ (ms : List AsnModule). length (flat_map (λ (m : plain.AsnModule). m.items) (map module_view ms))) c.items-4.ensures

pub invariant_of-result-clause-lasting : goal.invariant_of-result-clause-lasting
invariant_of-result-clause-lasting c = nothing_wrong (value_step (world_from c.args.modules c.args.acn c.args.tables)) c.new-3.result c.new-3.ensures

pub invariant_of-result-clause-based : goal.invariant_of-result-clause-based
invariant_of-result-clause-based c = nothing_wrong (type_step (world_from c.args.modules c.args.acn c.args.tables)) c.new-4.result c.new-4.ensures
