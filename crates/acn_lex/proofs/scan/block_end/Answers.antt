use Rattle.std.proofs.Common.{◌≡◌, ℕ, ◌+◌, ◌<◌, true, false, Bool, List, length, drop, refl, sym, ◌∙◌, add-one, drop-cons, arith}
use Rattle.acn_lex.specs.Scan.{block_end}
use Rattle.acn_lex.proofs.scan.block_end.Goals as goal

-- the byte that is passed over
passes : (skip : Bool) (depth at : ℕ) (bs : List ℕ) (i : ℕ) → skip ≡ true → i < length bs → block_end skip depth at (drop i bs) ≡ block_end false depth (at + 1) (drop (i + 1) bs)
passes true depth at bs i e h = rw (add-one i, drop-cons bs i 0) refl
passes false depth at bs i e h = absurd cc

pub loop-i-preserved-then-skip : goal.loop-i-preserved-then-skip
loop-i-preserved-then-skip c = record {
  few = omega arith;
  rest = sym (passes c.loop-i.skip c.loop-i.depth c.loop-i.i c.args.bytes.now c.loop-i.i c.if-skip.true (omega arith)) ∙ c.loop-i.invariant.rest;
}
