use Rattle.std.proofs.Common.{rules}
use Rattle.std.proofs.lemmas.Int.{to_z-of_z}
use Rattle.std.specs.Int.{w128}
use Rattle.acn_codings.proofs.Apart.{first_or_above}
use Rattle.acn_codings.proofs.table.keys_between.Goals as goal

pub between-requires-clause-above : goal.between-requires-clause-above
between-requires-clause-above c = rw (to_z-of_z w128 c.greater.result.now (record { sfits = search rules })) (first_or_above c.args.line.now _ _ c.requires.fine c.greater.ensures)
