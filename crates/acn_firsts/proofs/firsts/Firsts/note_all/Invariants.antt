use Rattle.std.proofs.Common.{◌≡◌, drop}
use Rattle.acn_firsts.specs.Placed.{noted_at}
use Rattle.acn_firsts.proofs.firsts.Firsts.note_all.Given as goal

abbrev pub invariant-loop-name : goal.invariant-loop-name
invariant-loop-name l = noted_at l.self (drop l.name-index l.names) l.place ≡ noted_at l.fn.self l.names l.place
