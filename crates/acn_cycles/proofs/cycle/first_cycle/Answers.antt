use Rattle.std.proofs.Common.{◌≡◌, ◌<◌, ℕ, List, sym, ap, ◌∙◌, subst, arith, refl}
use Rattle.std.specs.Prelude.{slice_get, Some, length}
use Rattle.std.proofs.lemmas.Option.{slice_get_read}
use Rattle.acn_index.specs.Views.{index_view}
use Rattle.acn_index.specs.World.{places}
use Rattle.acn_world.specs.Cycles.{IsFirstCycle}
use Rattle.acn_index.specs.declared.sources.TypeId.{TypeId}
use Rattle.acn_cycles.specs.Numbers.{places_at}
use Rattle.acn_cycles.proofs.Transport.{no_cycle, first_cycle, node_stands, cyclic_there}
use Rattle.acn_cycles.proofs.cycle.first_cycle.Goals as goal

pub ring_of-requires : goal.ring_of-requires
ring_of-requires c = c.as_slice.ensures.value ∙ c.in_ok-places.ensures {u = tt}

pub returns-in-None-clause-exact : goal.returns-in-None-clause-exact
returns-in-None-clause-exact c = no_cycle (index_view c.args.index.now) (rw c.in-None.is at (c.in_ok-ring_of.ensures {u = tt}))

pub index-first-requires : goal.index-first-requires
index-first-requires c =
    let ring = rw c.in-Some.is at (c.in_ok-ring_of.ensures {u = tt}) in
    let within = node_stands (index_view c.args.index.now) c.in-Some.ring.first ring.is_node in
    let all : c.in_ok-places.places.items ≡ places (index_view c.args.index.now) = c.in_ok-places.ensures {u = tt} in
    let size : length c.in_ok-places.places.items ≡ length (places (index_view c.args.index.now)) = ap length all in
    omega (arith, c.in_ok-places.places.ok.0)

pub returns-clause-exact : goal.returns-clause-exact
returns-clause-exact c =
    let w = index_view c.args.index.now in
    let ring = rw c.in-Some.is at (c.in_ok-ring_of.ensures {u = tt}) in
    let all : c.in_ok-places.places.items ≡ places w = c.in_ok-places.ensures {u = tt} in
    let size : length c.in_ok-places.places.items ≡ length (places w) = ap length all in
    let within : c.in-Some.ring.first < length c.in_ok-places.places.items = (let h = node_stands w c.in-Some.ring.first ring.is_node in omega arith) in
    let stands : slice_get (places w) c.in-Some.ring.first ≡ Some c.index-first.result.now =
    ap (λ (ps : List TypeId). slice_get ps c.in-Some.ring.first) (sym all) ∙ slice_get_read c.in_ok-places.places.items (length c.in_ok-places.places.items) c.in-Some.ring.first c.index-first.result.now refl within c.index-first.ensures in
    let way : c.in_ok-way-in-Some.way ≡ places_at (places w) c.in-Some.ring.way =
    c.in_ok-way-in-Some.ensures {u = tt} ∙ (ap (λ (ps : List TypeId). places_at ps c.items.result.now) (c.as_slice-in-Some.ensures.value ∙ all) ∙ ap (λ (ns : List ℕ). places_at (places w) ns) c.items.ensures) in
    subst (λ (ps : List TypeId). IsFirstCycle w c.index-first.result.now ps) (sym way) (first_cycle w c.in-Some.ring.first c.in-Some.ring.way c.index-first.result.now ring stands)

pub returns-clause-there : goal.returns-clause-there
returns-clause-there c = cyclic_there (index_view c.args.index.now) c.index-first.result.now c.in_ok-way-in-Some.way (returns-clause-exact c)
