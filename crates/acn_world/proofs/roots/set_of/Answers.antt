use Rattle.std.proofs.Common.{◌+◌, ◌||◌, List, drop, ap, sym, ◌∙◌, drop_of_length-le}
use Rattle.std.proofs.lemmas.List.{at_drop_more}
use Rattle.std.specs.List.{list_any}
use Rattle.std.specs.HashSet.{contains}
use Rattle.acn_index.specs.World.{is_same}
use Rattle.acn_index.specs.declared.sources.TypeId.{TypeId}
use Rattle.acn_world.proofs.Marks.{one_more, or_false}
use Rattle.acn_world.proofs.roots.set_of.Goals as goal

pub loop-place-init : goal.loop-place-init
loop-place-init c q = ap (λ (keys : List TypeId). list_any (is_same q) keys || list_any (is_same q) c.args.places.now) c.new-set.ensures.empty

pub loop-place-preserved : goal.loop-place-preserved
loop-place-preserved c q =
    let rest = list_any (is_same q) (drop (c.loop-place.place-index + 1) c.args.places.now) in
    let marked = contains is_same c.loop-place.set q in
    ap (λ b. b || rest) ((c.in_ok-insert.ensures {u = tt}).updates.0 q)
    ∙ (one_more _ q marked rest ∙ (sym (at_drop_more (λ (ps : List TypeId). marked || list_any (is_same q) ps) c.args.places.now c.loop-place.place-index _ c.loop-place-test.true) ∙ c.loop-place.invariant q))

pub returns : goal.returns
returns c q =
    let marked = contains is_same c.loop-place.set q in
    or_false marked ∙ (sym (ap (λ (ps : List TypeId). marked || list_any (is_same q) ps) (drop_of_length-le c.args.places.now c.loop-place-test.false)) ∙ c.loop-place.invariant q)
