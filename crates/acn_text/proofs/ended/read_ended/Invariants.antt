use Rattle.std.specs.List.{FoldsTo}
use Rattle.acn_text.proofs.EndedReads.{UptoEnd}
use Rattle.acn_text.proofs.ended.read_ended.Given as goal

abbrev pub invariant-loop-n : goal.invariant-loop-n
invariant-loop-n g l = goal.F-IsAlwaysCallable g l.each × UptoEnd l.leaf l.end (λ cs. FoldsTo (λ p x q. goal.F-step g p x tt q) l.fn.each cs l.each) l.fn.cur l.cur l.n l.seen l.fine
