use Rattle.std.proofs.Common.{◌≡◌, ℕ, ◌+◌, ◌<◌, true, false, Bool, List, length, drop, refl, sym, ◌∙◌, add-one, drop-cons, arith}
use Rattle.acn_lex.specs.Scan.{text_from}
use Rattle.acn_lex.proofs.literal.text_step.Goals as goal

-- the byte that is passed over
passes : (skip : Bool) (at : ℕ) (bs : List ℕ) (i : ℕ) → skip ≡ true → i < length bs → text_from skip at (drop i bs) ≡ text_from false (at + 1) (drop (i + 1) bs)
passes true at bs i e h = rw (add-one i, drop-cons bs i 0) refl
passes false at bs i e h = absurd cc

pub loop-i-preserved-then-skip : goal.loop-i-preserved-then-skip
loop-i-preserved-then-skip c = sym (passes c.loop-i.skip c.loop-i.i c.args.bytes.now c.loop-i.i c.if-skip.true (omega arith)) ∙ c.loop-i.invariant
