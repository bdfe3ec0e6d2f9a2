use Rattle.std.proofs.Common.{sym, ◌∙◌, arith}
use Rattle.acn_printed.proofs.Characters.{plain-more}
use Rattle.acn_printed.proofs.rest.plain_front.Goals as goal

pub loop-at-preserved : goal.loop-at-preserved
loop-at-preserved c =
    let l = c.loop-at in
    record {
      within = omega arith;
      plain = plain-more c.args.text.now l.at (omega arith) (sym c.is_plain.ensures ∙ c.if-not-is_plain.false) l.invariant.plain;
    }
