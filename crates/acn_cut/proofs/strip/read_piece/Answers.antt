use Rattle.std.proofs.Common.{refl, arith}
use Rattle.std.proofs.lemmas.Int.{ints}
use Rattle.acn_cut.proofs.Words.{reads_code}
use Rattle.acn_cut.proofs.Strips.{code_next, strip_left}
use Rattle.acn_cut.proofs.strip.read_piece.Goals as goal

pub returns-then-ahead-cut-clause-read : goal.returns-then-ahead-cut-clause-read
returns-then-ahead-cut-clause-read c leaf is at s =
    let greatest = is.greatest in
    let within = s.within in
    let r = c.requires in
    let h = r.within in
    reads_code c.args.cut.now leaf _ _ at _ is (code_next c.args.strip.now c.args.cut.now.width at r.some r.within r.few s) (omega (arith, within, h)) refl (omega arith) c.if-ahead-cut.true (omega (arith, ints))

pub returns-then-ahead-cut-clause-rest : goal.returns-then-ahead-cut-clause-rest
returns-then-ahead-cut-clause-rest c at s = strip_left c.args.strip.now _ c.args.cut.now.width at c.requires.some c.requires.within c.requires.few refl refl s

pub returns-else-ahead-cut-clause-rest : goal.returns-else-ahead-cut-clause-rest
returns-else-ahead-cut-clause-rest c at s = strip_left c.args.strip.now _ c.args.cut.now.width at c.requires.some c.requires.within c.requires.few refl refl s
