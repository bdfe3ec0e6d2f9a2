use Rattle.std.proofs.Common.{◌≡◌, List, min, ap, ◌∙◌}
use Rattle.acn_asn_syntax.specs.declared.modules.AsnModules.{AsnModules}
use Rattle.acn_index.specs.World.{asn_modules, world_of, count}
use Rattle.acn_names.specs.Few.{weight}
use Rattle.acn_names.proofs.Weights.{few_iff}
use Rattle.acn_names.proofs.few.are_few.Goals as goal

pub returns : goal.returns
unfolding world_of count
returns c =
    few_iff (asn_modules c.args.sources.now.asn) c.weigh_all.result
    (c.weigh_all.ensures ∙ ap (λ (files : List AsnModules). min (weight (asn_modules files)) 4294967296) c.items.ensures)
