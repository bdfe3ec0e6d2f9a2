use Rattle.acn_explain.proofs.LineTexts.{kept_whole, on_any_err}
use Rattle.acn_explain.proofs.stream.PieceLinesShow.show.Goals as goal

pub returns-in_err-bits-clause-kept : goal.returns-in_err-bits-clause-kept
returns-in_err-bits-clause-kept c = on_any_err c.from_residual.result (kept_whole c.args.text.now.items)

pub returns-in_err-pieces-clause-kept : goal.returns-in_err-pieces-clause-kept
returns-in_err-pieces-clause-kept c = on_any_err c.from_residual-in_err-pieces.result (kept_whole c.args.text.now.items)
