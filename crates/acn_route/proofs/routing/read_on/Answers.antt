use Rattle.std.proofs.Common.{arith, ap, length, refl, subst, sym, ◌∙◌, Result}
use Rattle.acn_route.specs.Routing.{RouteEnds}
use Rattle.acn_route.specs.Steps.{end_of}
use Rattle.acn_route.specs.declared.count.RouteCount.{RouteCount}
use Rattle.acn_route.specs.declared.route_fault.RouteFault.{RouteFault}
use Rattle.acn_supply.specs.Reading.{Supplied}
use Rattle.acn_route.proofs.Ending.{ended, cut_off, passed, grown, less_ahead}
use Rattle.acn_route.proofs.routing.read_on.Goals as goal

pub at_end-requires : goal.at_end-requires
at_end-requires g c =
    let ends = rw c.in-Ok-End.field-0-is at c.in-Ok-End.ensures.read in
    omega (arith, c.requires.room, ap (λ (s : Supplied). length s.hand) ends.same)

pub returns-in-Ok-Bytes-clause-goes_on : goal.returns-in-Ok-Bytes-clause-goes_on
returns-in-Ok-Bytes-clause-goes_on g c routes limit i o o' so p =
    let more = rw c.in-Ok-Bytes.field-0-is at c.in-Ok-Bytes.ensures.read in
    (grown routes limit i _ o o' _ _ so _ c.more.new.self more, less_ahead _ c.more.new.self _ _ more)

pub returns-in-Ok-End-clause-goes_on : goal.returns-in-Ok-End-clause-goes_on
returns-in-Ok-End-clause-goes_on g c routes limit i o o' so p =
    let ends = rw c.in-Ok-End.field-0-is at c.in-Ok-End.ensures.read in
    subst (λ (r : Result RouteCount RouteFault). RouteEnds routes limit i (g.S.Source.rest c.more.new.input) o o' r) (ap (λ (s : Supplied). end_of s.hand c.args.counts.now) (sym ends.same) ∙ sym c.at_end.ensures)
    (ended routes limit i _ o o' _ _ so _ c.more.new.self p ends)

pub returns-in-Ok-PastLimit-clause-goes_on : goal.returns-in-Ok-PastLimit-clause-goes_on
returns-in-Ok-PastLimit-clause-goes_on g c routes limit i o o' so p =
    passed routes limit i _ o o' _ _ so _ c.more.new.self p (rw c.in-Ok-PastLimit.field-0-is at c.in-Ok-PastLimit.ensures.read)

pub returns-in-Err-clause-goes_on : goal.returns-in-Err-clause-goes_on
returns-in-Err-clause-goes_on g c routes limit i o o' so p = cut_off routes limit i _ o o' _ _ so _ p c.in-Err.ensures.read.1

pub returns-in-Err-clause-stays : goal.returns-in-Err-clause-stays
returns-in-Err-clause-stays g c h = absurd (h refl)
