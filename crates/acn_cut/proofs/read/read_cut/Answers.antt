use Rattle.std.proofs.Common.{arith}
use Rattle.std.proofs.lemmas.Int.{ints}
use Rattle.acn_cut.proofs.Words.{reads_code}
use Rattle.acn_cut.proofs.read.read_cut.Goals as goal

pub returns-then-ahead-cut : goal.returns-then-ahead-cut
returns-then-ahead-cut c = record {
  read = λ leaf is.
      let taken = c.in-Ok.ensures {u = tt} in
      let greatest = is.greatest in
      reads_code c.args.cut.now leaf c.in-Ok.code _ c.args.cur.now c.take.new.self is taken.value taken.within taken.moved (omega arith) c.if-ahead-cut.true (omega (arith, ints));
}
