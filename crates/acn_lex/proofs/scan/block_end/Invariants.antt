use Rattle.std.proofs.Common.{◌≡◌, ◌≤◌, drop, false}
use Rattle.acn_lex.specs.Scan.{block_end}
use Rattle.acn_lex.proofs.scan.block_end.Given as goal

abbrev pub invariant-loop-i : goal.invariant-loop-i
invariant-loop-i l = record { few : l.depth ≤ l.i; rest : block_end l.skip l.depth l.i (drop l.i l.bytes) ≡ block_end false 0 0 l.bytes }
