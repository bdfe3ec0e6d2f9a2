use Rattle.std.proofs.lemmas.Result.{err_from_is_err_and}
use Rattle.acn_print.proofs.Joining.{cut, joined}
use Rattle.acn_report.proofs.Overlapping.{overlapping}
use Rattle.acn_report.proofs.check_lines.put_overlap.Goals as goal

pub returns-in_err-put_parts : goal.returns-in_err-put_parts
returns-in_err-put_parts g c =
    let p = err_from_is_err_and c.from_residual.result c.from_residual.ensures.1 in
    rw (p.1, ← overlapping c.args.tree.now c.args.choice.now c.args.both.0 c.args.both.1 c.args.pairs.now) (cut _ _ _ _ c.in_err-put_parts.field-0.0 p.0 c.in_err-put_parts.ensures)

pub returns-in_err-put_pairs : goal.returns-in_err-put_pairs
returns-in_err-put_pairs g c =
    let p = err_from_is_err_and c.from_residual-in_err-put_pairs.result c.from_residual-in_err-put_pairs.ensures.1 in
    rw (p.1, ← overlapping c.args.tree.now c.args.choice.now c.args.both.0 c.args.both.1 c.args.pairs.now) (joined _ _ _ _ _ _ c.in_ok-put_parts.ensures (cut _ _ _ _ c.in_err-put_pairs.field-0.0 p.0 c.in_err-put_pairs.ensures))

pub returns : goal.returns
returns g c =
    rw (← overlapping c.args.tree.now c.args.choice.now c.args.both.0 c.args.both.1 c.args.pairs.now) (joined _ _ _ _ _ _ c.in_ok-put_parts.ensures (joined _ _ _ _ _ _ c.in_ok-put_pairs.ensures c.put_piece.ensures))
