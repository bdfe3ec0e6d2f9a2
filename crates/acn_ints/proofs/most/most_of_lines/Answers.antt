use Rattle.std.proofs.Common.{arith, pos}
use Rattle.acn_grammar.specs.Images.{clipped}
use Rattle.acn_ints.proofs.MostLemmas.{most_step}
use Rattle.acn_ints.proofs.most.most_of_lines.Goals as goal

pub loop-line-preserved : goal.loop-line-preserved
loop-line-preserved c =
    let some = c.loop-line.invariant.some in
    let is = c.most_of_line-greatest.ensures.value in
    record {
      value = most_step (clipped c.args.range.now) c.args.lines.now c.loop-line.line-index (pos 0, pos 0, pos 0) c.loop-line.greatest c.most_of_line-greatest.result _ (omega arith) is c.loop-line.invariant.value;
      some = omega (arith, some, is);
      few = c.most_of_line-greatest.ensures.few;
    }
