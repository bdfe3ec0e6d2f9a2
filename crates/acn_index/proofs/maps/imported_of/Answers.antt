use Rattle.std.proofs.Common.{ℕ, ◌+◌, List, drop, get_or, ap, sym, ◌∙◌}
use Rattle.std.proofs.lemmas.List.{at_drop_more}
use Rattle.acn_asn_syntax.specs.declared.modules.Import.{Import}
use Rattle.acn_firsts.specs.Placed.{noted_all, noted_at}
use Rattle.acn_num.specs.Names.{Name}
use Rattle.acn_index.specs.Keyed.{keyed, import_names}
use Rattle.acn_index.proofs.KeyedLaws.{one_step}
use Rattle.acn_index.proofs.maps.imported_of.Goals as goal

pub loop-i-preserved : goal.loop-i-preserved
loop-i-preserved c =
    let item = c.index-imports-i.result in
    let rest = (drop (c.loop-i.i + 1) c.args.imports.now) in
    ap (λ (z : List (Name × ℕ)). noted_all z (keyed import_names (c.loop-i.i + 1) rest)) (c.in_ok-note_all.ensures {u = tt} ∙ ap (λ (ns : List Name). noted_at c.loop-i.all ns c.loop-i.i) (c.items.ensures ∙ ap import_names c.index-imports-i.is))
    ∙ (sym (one_step import_names c.loop-i.all c.loop-i.i (get_or c.args.imports.now c.loop-i.i item) rest)
    ∙ (sym (at_drop_more (λ (xs : List Import). noted_all c.loop-i.all (keyed import_names c.loop-i.i xs)) c.args.imports.now c.loop-i.i item c.loop-i-test.true) ∙ c.loop-i.invariant))
