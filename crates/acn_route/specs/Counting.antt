-- How many lines were counted.
use Rattle.std.specs.Prelude.{ℕ, ◌+◌}
use Rattle.acn_route.specs.declared.count.RouteCount.{RouteCount}

abbrev pub total : RouteCount → ℕ
total c = c.good + c.long + c.bad + c.none
