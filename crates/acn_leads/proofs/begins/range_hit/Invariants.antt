use Rattle.std.proofs.Common.{◌≡◌, drop}
use Rattle.std.specs.List.{list_any}
use Rattle.acn_leads.specs.Begins.{hits}
use Rattle.acn_leads.proofs.begins.range_hit.Given as goal

abbrev pub invariant-loop-range : goal.invariant-loop-range
invariant-loop-range l = list_any (hits l.low l.bits l.wanted) (drop l.range-index l.set) ≡ list_any (hits l.low l.bits l.wanted) l.fn.set
