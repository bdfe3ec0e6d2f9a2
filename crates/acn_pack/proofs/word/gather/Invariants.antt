use Rattle.std.proofs.Common.{◌≡◌, ◌+◌, drop}
use Rattle.acn_cut.specs.Stretches.{total}
use Rattle.acn_pack.specs.Words.{IsWord}
use Rattle.acn_pack.proofs.word.gather.Given as goal

abbrev pub invariant-loop-piece : goal.invariant-loop-piece
invariant-loop-piece l = record {
  width : l.word.width + total (drop l.piece-index l.run) ≡ total l.run;
  is : IsWord l.run l.piece-index l.places l.next l.word;
}
