use Rattle.std.proofs.Common.{◌≡◌, drop}
use Rattle.acn_codings.specs.Tables.{fault_behind}
use Rattle.acn_codings.proofs.table.fault_from.Given as goal

abbrev pub invariant-loop-line : goal.invariant-loop-line
invariant-loop-line l = fault_behind l.given_keys l.given_images (drop l.line-index l.lines) ≡ fault_behind l.fn.keys_before l.fn.images_before l.lines
