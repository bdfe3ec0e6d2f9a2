use Rattle.std.proofs.Common.{◌≡◌, drop}
use Rattle.acn_hints.specs.Among.{is_named}
use Rattle.acn_hints.proofs.hints.is_along.Given as goal

abbrev pub invariant-loop-one : goal.invariant-loop-one
invariant-loop-one g l = is_named g.T.HasName.name_of l.name (drop l.one-index l.all) ≡ is_named g.T.HasName.name_of l.name l.all
