use Rattle.acn_transcode.proofs.ShortTexts.{negative_short, behind_one}
use Rattle.std.specs.Fmt.{decimal}
use Rattle.acn_transcode.proofs.leaves.short_negative.Goals as goal

pub returns-in-Some : goal.returns-in-Some
returns-in-Some c =
    let size = c.in-Some.size in
    let h = c.in-Some.ensures in
    negative_short c.args.x.now size c.behind_minus.result h.0 h.2 (behind_one c.behind_minus.result _ (decimal size) c.few_digits.ensures c.behind_minus.ensures)
