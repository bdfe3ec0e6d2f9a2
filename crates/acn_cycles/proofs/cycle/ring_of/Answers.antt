use Rattle.std.proofs.Common.{ℕ, List, map, sym, ap, ◌∙◌, subst}
use Rattle.std.specs.Prelude.{IfOk, MatchOption}
use Rattle.acn_asn_syntax.specs.View.{module_view}
use Rattle.acn_asn_syntax.specs.declared.modules.AsnModule.{AsnModule}
use Rattle.acn_index.specs.Views.{index_view}
use Rattle.acn_index.specs.declared.sources.TypeId.{TypeId}
use Rattle.acn_graph.specs.Graph.{Graph, HasNoRing, IsFirstRing}
use Rattle.acn_graph.specs.declared.ring.Ring.{Ring}
use Rattle.acn_cycles.specs.Numbers.{AreSmall, starts, starts_from, rows_in, graph_of}
use Rattle.acn_cycles.proofs.Places.{small_items, small_starts}
use Rattle.acn_cycles.proofs.cycle.ring_of.Goals as goal

pub starts_of-requires : goal.starts_of-requires
starts_of-requires c = rw c.items.ensures (small_items (index_view c.args.index.now) c.args.index.now.small)

pub rows_in-requires : goal.rows_in-requires
unfolding starts
rows_in-requires c =
    let e = c.as_slice.ensures.value ∙ (c.in_ok-firsts.ensures {u = tt} ∙ ap (λ (ms : List AsnModule). starts_from 0 (map module_view ms)) c.items.ensures) in
    subst AreSmall (sym e) (small_starts (index_view c.args.index.now) c.args.index.now.small)

pub returns : goal.returns
unfolding starts graph_of
returns c =
    let w = index_view c.args.index.now in
    let firsts = c.as_slice.ensures.value ∙ (c.in_ok-firsts.ensures {u = tt} ∙ ap (λ (ms : List AsnModule). starts_from 0 (map module_view ms)) c.items.ensures) in
    let rows = c.as_slice-2.ensures.value ∙ (c.in_ok-rows.ensures {u = tt}
    ∙ (ap (λ (ns : List ℕ). rows_in w ns c.args.places.now) firsts ∙ ap (λ (ps : List TypeId). rows_in w (starts w) ps) c.requires)) in
    subst (λ (g : Graph). IfOk c.first_ring.result (λ found. MatchOption found (HasNoRing g) (λ (ring : Ring). IsFirstRing g ring.first ring.way))) rows c.first_ring.ensures
