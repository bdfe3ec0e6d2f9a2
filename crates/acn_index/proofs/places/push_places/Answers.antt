use Rattle.std.proofs.Common.{◌+◌, ◌++◌, List, drop, ap, length, get_or, sym, ◌∙◌, append_assoc, arith}
use Rattle.std.proofs.lemmas.List.{at_drop_more}
use Rattle.std.specs.Prelude.{map, flat_map}
use Rattle.std.specs.List.{enumerate_from}
use Rattle.acn_asn_syntax.specs.View.{module_view, assign_view}
use Rattle.acn_asn_syntax.specs.declared.modules.AsnModule.{AsnModule}
use Rattle.acn_asn_syntax.specs.declared.modules.Assign.{Assign}
use Rattle.acn_index.specs.World.{place, module_places}
use Rattle.acn_index.specs.declared.sources.TypeId.{TypeId}
use Rattle.acn_index.proofs.Sizes.{part_fits}
use Rattle.acn_index.proofs.places.push_places.Goals as goal

pub push_module_places-requires : goal.push_module_places-requires
push_module_places-requires c =
    let all = c.requires.items in
    let h = part_fits c.args.modules.now c.loop-k.k c.index-modules-k.result c.loop-k-test.true in
    let e = ap length (c.items.ensures ∙ ap (λ (m : AsnModule). m.items) c.index-modules-k.is) in
    omega (arith, all, h, e)

pub loop-k-preserved : goal.loop-k-preserved
loop-k-preserved c =
    let all = c.loop-k.all.items in
    let owner = c.index-modules-k.result in
    let rest = flat_map module_places (enumerate_from (c.loop-k.k + 1) (map module_view (drop (c.loop-k.k + 1) c.args.modules.now))) in
    let more = λ (its : List Assign). map (λ a. place c.loop-k.k a.0) (enumerate_from 0 (map assign_view its)) in
    ap (λ (z : List TypeId). z ++ rest) (c.in_ok-push_module_places.ensures {u = tt} ∙ ap (λ (its : List Assign). all ++ more its) (c.items.ensures ∙ ap (λ (m : AsnModule). m.items) c.index-modules-k.is))
    ∙ (append_assoc all (more (get_or c.args.modules.now c.loop-k.k owner).items) rest ∙ (sym (at_drop_more (λ (ms : List AsnModule). all ++ flat_map module_places (enumerate_from c.loop-k.k (map module_view ms))) c.args.modules.now c.loop-k.k owner c.loop-k-test.true) ∙ c.loop-k.invariant))
