use Rattle.std.proofs.Common.{◌<◌, List, length, sym, ap, subst, ◌∙◌}
use Rattle.acn_cut.specs.declared.stretch.Piece.{Piece}
use Rattle.acn_transcode.proofs.Stretches.{whole_stretch}
use Rattle.acn_transcode.proofs.stretch.whole_of.Goals as goal

pub returns-then-count-fields : goal.returns-then-count-fields
returns-then-count-fields c =
    let item = c.in-Some.ensures.item in
    let same = c.items-count.ensures in
    whole_stretch c.args.fields.now c.args.stretches.now c.in-Some.stretch.now c.requires item.3.0 item.1 (subst (λ (ps : List Piece). 0 < length ps) same c.if-count-gt0.true) (sym (ap length same) ∙ c.if-count-fields.true)
