use Rattle.std.proofs.Common.{◌≡◌, drop}
use Rattle.acn_stream.specs.Encoding.{is_blank}
use Rattle.acn_stream.proofs.lines.is_blank.Given as goal

abbrev pub invariant-loop-byte : goal.invariant-loop-byte
invariant-loop-byte l = record {
  same : is_blank (drop l.byte-index l.line) ≡ is_blank l.line;
}
