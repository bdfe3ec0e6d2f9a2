use Rattle.std.specs.List.{FoldsTo}
use Rattle.acn_text.proofs.SizedReads.{UptoCharacter}
use Rattle.acn_text.proofs.sized.read_characters.Given as goal

abbrev pub invariant-loop-i : goal.invariant-loop-i
invariant-loop-i g l = goal.F-IsAlwaysCallable g l.each × UptoCharacter l.leaf (λ cs. FoldsTo (λ p x q. goal.F-step g p x tt q) l.fn.each cs l.each) l.fn.cur l.cur l.n l.i
