-- A way over references is a way in the graph of numbers, and the other way round.
use Rattle.std.proofs.Common.{refl, ◌≡◌, ℕ, suc, ◌<◌, List, [], ◌∷◌, length, take, drop, map, sym, ap, subst, ◌∙◌, arith}
use Rattle.std.specs.Prelude.{IsSome, Option, Some, None, slice_get}
use Rattle.std.specs.List.{cons_option}
use Rattle.std.proofs.lemmas.List.{length-map}
use Rattle.acn_index.specs.World.{World, places, assignment}
use Rattle.acn_graph.specs.Graph.{Among}
use Rattle.acn_world.specs.Cycles.{targets, Reaches, once, more, HasNoCycle, IsFirstCycle}
use Rattle.acn_index.specs.declared.sources.TypeId.{TypeId}
use Rattle.acn_graph.specs.Graph as graph
use Rattle.acn_index.proofs.Left.{mapped_in}
use Rattle.acn_cycles.specs.Numbers.{starts, number_in, row_in, graph_of, places_at}
use Rattle.acn_cycles.proofs.Lists.{got_row, row_got, map_among, split_at, within_front}
use Rattle.acn_cycles.proofs.Places.{number_of_place, place_of_number}
use Rattle.acn_cycles.proofs.Assigned.{IsAssigned, target_assigned, source_assigned}

module _ (w : World) where
  abbrev stands : ℕ → TypeId → Type 0
  stands n p = slice_get (places w) n ≡ Some p

  abbrev number : TypeId → ℕ
  number p = number_in (starts w) p

  assigned_stands : (p : TypeId) → IsAssigned w p → stands (number p) p
  assigned_stands p a = place_of_number w p a.0 a.1

  same_place : (n : ℕ) {p q : TypeId} → stands n p → stands n q → p ≡ q
  same_place n e f = let both : Some _ ≡ Some _ = sym e ∙ f in cc both

  row_of : (n : ℕ) (p : TypeId) → stands n p → graph.onward (graph_of w) n ≡ map number (targets w p)
  unfolding graph_of
  row_of n p e = got_row (row_in w (starts w)) (places w) n p e

  stands_where_leads : (n : ℕ) {t : ℕ} → graph.Among t (graph.onward (graph_of w) n) → (p : TypeId) × stands n p
  unfolding graph_of
  stands_where_leads n i = row_got (row_in w (starts w)) (places w) n i

  -- ---- from the world to the graph

  step_to : (n : ℕ) (p q : TypeId) → stands n p → Among q (targets w p) → graph.Among (number q) (graph.onward (graph_of w) n)
  step_to n p q e i = subst (λ (ns : List ℕ). graph.Among (number q) ns) (sym (row_of n p e)) (mapped_in number i)

  leads : {p q : TypeId} {way : List TypeId} → Reaches w p q way → (n : ℕ) → stands n p → (ns : List ℕ) × graph.Leads (graph_of w) n (number q) ns
  leads (once {p} {q} i) n e = (n ∷ [], graph.once (step_to n p q e i))
  leads (more {p} {q} i rest) n e =
      let on = leads rest (number q) (assigned_stands q (target_assigned w p q i)) in
      (n ∷ on.0, graph.more (step_to n p q e i) on.1)

  round : {p : TypeId} {way : List TypeId} → Reaches w p p way → (n : ℕ) → stands n p → (ns : List ℕ) × graph.Leads (graph_of w) n n ns
  round {p} r n e = let h = leads r n e in (h.0, subst (λ (m : ℕ). graph.Leads (graph_of w) n m h.0) (number_of_place w n p e) h.1)

  pub start_assigned : {p q : TypeId} {way : List TypeId} → Reaches w p q way → IsAssigned w p
  start_assigned (once {p} i) = source_assigned w p i
  start_assigned (more {p} i rest) = source_assigned w p i

  pub no_cycle : graph.HasNoRing (graph_of w) → HasNoCycle w
  no_cycle none = record { none = λ q way r. let h = round r (number q) (assigned_stands q (start_assigned r)) in none.none (number q) h.0 h.1 }

  -- ---- from the graph to the world

  step_back : (n m : ℕ) (p q : TypeId) → stands n p → stands m q → graph.Among m (graph.onward (graph_of w) n) → Among q (targets w p)
  step_back n m p q e f i =
      let t = map_among number (targets w p) (subst (λ (ns : List ℕ). graph.Among m ns) (row_of n p e) i) in
      let at_m = subst (λ (k : ℕ). stands k t.0) t.2 (assigned_stands t.0 (target_assigned w p t.0 t.1)) in
      subst (λ (x : TypeId). Among x (targets w p)) (same_place m at_m f) t.1

  led_stands : (n m : ℕ) (p : TypeId) → stands n p → graph.Among m (graph.onward (graph_of w) n) → (q : TypeId) × stands m q
  led_stands n m p e i =
      let t = map_among number (targets w p) (subst (λ (ns : List ℕ). graph.Among m ns) (row_of n p e) i) in
      (t.0, subst (λ (k : ℕ). stands k t.0) t.2 (assigned_stands t.0 (target_assigned w p t.0 t.1)))

  first_of_way : (n : ℕ) (p : TypeId) (ns : List ℕ) → stands n p → p ∷ places_at (places w) ns ≡ places_at (places w) (n ∷ ns)
  first_of_way n p ns e = ap (λ (o : Option TypeId). cons_option o (places_at (places w) ns)) (sym e)

  reaches : {n m : ℕ} {ns : List ℕ} → graph.Leads (graph_of w) n m ns → (p q : TypeId) → stands n p → stands m q → Reaches w p q (places_at (places w) ns)
  reaches (graph.once {p = n} {q = m} i) p q e f = subst (λ (way : List TypeId). Reaches w p q way) (first_of_way n p [] e) (once (step_back n m p q e f i))
  reaches (graph.more {p = n} {q = k} {r = m} {way = ns} i rest) p q e f =
      let next = led_stands n k p e i in
      subst (λ (way : List TypeId). Reaches w p q way) (first_of_way n p ns e) (more (step_back n k p next.0 e next.1 i) (reaches rest next.0 q next.1 f))

  pub first_cycle : (n : ℕ) (ns : List ℕ) (p : TypeId) → graph.IsFirstRing (graph_of w) n ns → stands n p → IsFirstCycle w p (places_at (places w) ns)
  first_cycle n ns p ring e = record {
    cyclic = reaches ring.round p p e e;
    earlier = take n (places w);
    later = drop (suc n) (places w);
    split = split_at (places w) n p e;
    none_before = λ q way i r.
        let at_q = within_front (places w) n i in
        let h = round r at_q.0 at_q.2 in
        ring.none_before at_q.0 h.0 at_q.1 h.1;
  }

  pub node_stands : (n : ℕ) → n < length (graph_of w) → n < length (places w)
  unfolding graph_of
  node_stands n lt = let e = length-map (places w) (row_in w (starts w)) in omega arith

  is_some : {A : Type 0} (o : Option A) (x : A) → o ≡ Some x → IsSome o
  is_some None x e = absurd (cc e)
  is_some (Some y) x e = refl

  -- what reaches itself is an assignment
  pub cyclic_there : (p : TypeId) (way : List TypeId) → IsFirstCycle w p way → IsSome (assignment w p)
  cyclic_there p way h = let a = start_assigned h.cyclic in is_some (assignment w p) a.0 a.1
