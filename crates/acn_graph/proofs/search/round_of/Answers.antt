use Rattle.std.proofs.Common.{◌<◌, ◌≤◌, ◌+◌, length, nat_eq, sym, ap, ◌∙◌, subst, arith, List, ℕ}
use Rattle.std.proofs.lemmas.List.{get_or_read}
use Rattle.std.specs.List.{list_any}
use Rattle.acn_graph.specs.Graph.{onward}
use Rattle.acn_graph.specs.Search.{State, searched, grow_all}
use Rattle.acn_graph.proofs.Searches.{IsSearched, begins, goes_on, ended, bounded, closed}
use Rattle.acn_graph.proofs.search.round_of.Goals as goal

pub loop-at-init : goal.loop-at-init
loop-at-init c = subst (λ (s : State). IsSearched c.args.graph.now c.args.start s 0) (sym c.in_ok-search.ensures) (begins c.args.graph.now c.args.start c.requires)

pub returns-then-at-len : goal.returns-then-at-len
returns-then-at-len c = λ way l.
    let end : length c.loop-at.search.order.items ≤ c.loop-at.at = omega arith in
    ended c.args.graph.now c.args.start (searched c.loop-at.search) c.loop-at.at c.loop-at.invariant end l

pub returns-then-holds : goal.returns-then-holds
returns-then-holds c =
    let within : c.loop-at.at < length c.loop-at.search.order.items = omega arith in
    let node = get_or_read c.loop-at.search.order.items _ _ within c.index.ensures 0 in
    let nodes = c.targets-nodes.ensures ∙ ap (λ (n : ℕ). onward c.args.graph.now n) node in
    let hit = ap (λ (ns : List ℕ). list_any (nat_eq c.args.start) ns) (sym nodes) ∙ (sym c.holds.ensures ∙ c.if-holds.true) in
    closed c.args.graph.now c.args.start (searched c.loop-at.search) c.loop-at.at c.loop-at.invariant hit _ _ c.in_ok-way.way c.as_slice.ensures.value c.as_slice-then-holds.ensures.value (c.in_ok-way.ensures {u = tt})

pub loop-at-preserved : goal.loop-at-preserved
loop-at-preserved c =
    let within : c.loop-at.at < length c.loop-at.search.order.items = omega arith in
    let node = get_or_read c.loop-at.search.order.items _ _ within c.index.ensures 0 in
    let nodes = c.targets-nodes.ensures ∙ ap (λ (n : ℕ). onward c.args.graph.now n) node in
    let missed = ap (λ (ns : List ℕ). list_any (nat_eq c.args.start) ns) (sym nodes) ∙ (sym c.holds.ensures ∙ c.if-holds.false) in
    let next = goes_on c.args.graph.now c.args.start (searched c.loop-at.search) c.loop-at.at c.loop-at.invariant within missed in
    subst (λ (s : State). IsSearched c.args.graph.now c.args.start s (c.loop-at.at + 1))
    (sym (c.in_ok-reach_all.ensures {u = tt} ∙ ap (λ (ns : List ℕ). grow_all c.loop-at.at ns (searched c.loop-at.search)) nodes)) next

pub returns : goal.returns
returns c = λ way l.
    let most = bounded c.loop-at.invariant.valid in
    let end : length c.loop-at.search.order.items ≤ c.loop-at.at = omega arith in
    ended c.args.graph.now c.args.start (searched c.loop-at.search) c.loop-at.at c.loop-at.invariant end l
