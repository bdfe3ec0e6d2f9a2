use Rattle.std.proofs.Common.{◌≡◌, ◌++◌, drop}
use Rattle.hex.specs.Hex.{encode_lower}
use Rattle.json.specs.Print.{escape}
use Rattle.acn_json.specs.Kept.{Kept}
use Rattle.acn_lines.proofs.put.put_pairs.Given as goal

abbrev pub invariant-loop-octet : goal.invariant-loop-octet
invariant-loop-octet l = record {
  same : l.line.items ++ escape (encode_lower (drop l.octet-index l.octets)) ≡ l.initial.line.items ++ escape (encode_lower l.octets);
  kept : Kept l.initial.line.items l.line.items;
}
