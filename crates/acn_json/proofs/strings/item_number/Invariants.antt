use Rattle.std.proofs.Common.{◌≡◌, drop}
use Rattle.acn_json.specs.Reads.{item_number}
use Rattle.acn_json.proofs.strings.item_number.Given as goal

abbrev pub invariant-loop-at : goal.invariant-loop-at
invariant-loop-at l = item_number l.name l.at (drop l.at l.items) ≡ item_number l.name 0 l.items
