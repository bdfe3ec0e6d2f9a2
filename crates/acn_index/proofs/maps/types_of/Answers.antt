use Rattle.std.proofs.Common.{ℕ, ◌+◌, List, drop, get_or, ap, sym, ◌∙◌}
use Rattle.std.proofs.lemmas.List.{at_drop_more}
use Rattle.std.specs.Prelude.{map}
use Rattle.acn_asn_syntax.specs.View.{assign_view}
use Rattle.acn_asn_syntax.specs.declared.modules.Assign.{Assign}
use Rattle.acn_firsts.specs.Placed.{noted_all, noted_at}
use Rattle.acn_num.specs.Names.{Name}
use Rattle.acn_index.specs.Keyed.{keyed, type_name}
use Rattle.acn_index.proofs.KeyedLaws.{one_step}
use Rattle.acn_index.proofs.maps.types_of.Goals as goal

pub loop-i-preserved : goal.loop-i-preserved
loop-i-preserved c =
    let item = c.index-items-i.result in
    let rest = (map assign_view (drop (c.loop-i.i + 1) c.args.items.now)) in
    ap (λ (z : List (Name × ℕ)). noted_all z (keyed type_name (c.loop-i.i + 1) rest)) (c.in_ok-note_type.ensures {u = tt} ∙ ap (λ (a : Assign). noted_at c.loop-i.all (type_name (assign_view a)) c.loop-i.i) c.index-items-i.is)
    ∙ (sym (one_step type_name c.loop-i.all c.loop-i.i (assign_view (get_or c.args.items.now c.loop-i.i item)) rest)
    ∙ (sym (at_drop_more (λ (xs : List Assign). noted_all c.loop-i.all (keyed type_name c.loop-i.i (map assign_view xs))) c.args.items.now c.loop-i.i item c.loop-i-test.true) ∙ c.loop-i.invariant))
