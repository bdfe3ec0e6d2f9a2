use Rattle.std.proofs.Common.{[], refl, sym, arith}
use Rattle.json.specs.Token as token
use Rattle.json.specs.Print.{token_text}
use Rattle.acn_transcode.proofs.NumberTexts.{truth_said, null_said}
use Rattle.acn_transcode.proofs.ShortTexts.{short_said, integer_short}
use Rattle.acn_transcode.proofs.leaves.short_value.Goals as goal

pub returns-in-Integer : goal.returns-in-Integer
returns-in-Integer c = integer_short c.args.leaf.now c.args.x.now c.short_number.result c.in-Integer.is c.short_number.ensures

pub returns-in-Boolean : goal.returns-in-Boolean
returns-in-Boolean c =
    let leaf = c.args.leaf.now in
    let x = c.args.x.now in
    let truth = c.is_one.result in
    let text = token_text (token.boolean truth) in
    short_said leaf x c.short_truth.result text c.short_truth.ensures (truth_said leaf x truth [] text c.requires.fine c.requires.permitted c.in-Boolean.is (sym c.is_one.ensures) refl)

pub returns-in-Null : goal.returns-in-Null
returns-in-Null c =
    let leaf = c.args.leaf.now in
    let x = c.args.x.now in
    let text = token_text token.null in
    short_said leaf x _ text (record { few = omega arith; shown = refl }) (null_said leaf x [] text c.requires.fine c.requires.permitted c.in-Null.is refl)
