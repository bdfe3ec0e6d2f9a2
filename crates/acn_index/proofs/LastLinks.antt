-- The end of references of types.
use Rattle.std.proofs.Common.{◌≡◌, ℕ, zero, suc, ◌<◌, ◌≤◌, Option, Some, None, refl, sym, ap, subst, ◌∙◌, arith, List, ◌∷◌, length}
use Rattle.std.specs.Prelude.{option_map, option_and_then, IfSome}
use Rattle.acn_asn_syntax.specs.Mirror.{AsnType, Assign}
use Rattle.acn_num.specs.Names.{Name}
use Rattle.acn_ends.specs.declared.spot.Spot.{Spot}
use Rattle.acn_ends.specs.Ends.{EndsAt, end_of}
use Rattle.acn_ends.specs.declared.spot.End.{End}
use Rattle.acn_ends.specs.declared.spot.End.TheVariants as end
use Rattle.acn_ends.specs.declared.ends.Ends.{Ends}
use Rattle.acn_ends.proofs.Leading.{Leads, stays, goes, leads}
use Rattle.acn_index.specs.World.{World, count, type_at, type_part, assignment, places}
use Rattle.acn_index.specs.Lookup.{type_named}
use Rattle.acn_index.specs.Chains.{Link, assigned_link, next_link, reference_of, last_within, base_link, links, links_within}
use Rattle.acn_index.specs.Steps.{spot_of, place_at, link_spot, link_onward, type_step, AreBases, IsEndLink}
use Rattle.acn_index.specs.Linked.{link_view}
use Rattle.acn_index.specs.declared.chain.Link as tree
use Rattle.acn_index.specs.declared.sources.TypeId.{TypeId}
use Rattle.acn_index.proofs.ChainSteps.{last_ends, last_goes}
use Rattle.acn_graph.specs.Graph.{Among}
use Rattle.acn_index.specs.Leading.{IsChain, ends, goes_on}
use Rattle.acn_ends.specs.Laws.{EndlessWaysHaveNoEnd}
use Rattle.acn_index.proofs.Left.{is_placed}
use Rattle.acn_index.proofs.Bounded.{fewer_than_all}

pub some_is_one : {A : Type 0} {o : Option A} {x y : A} → o ≡ Some x → o ≡ Some y → x ≡ y
some_is_one {A} {o} {x} {y} e f = let h : Some x ≡ Some y = sym e ∙ f in cc h

module _ (w : World) where
  -- an assigned link is that of its place
  record Placed (l : Link) : Type 0 where
    place : TypeId
    assigned : l.assigned ≡ Some place
    of_it : assigned_link w place ≡ Some l

  by_type : (p : TypeId) (l : Link) (o : Option AsnType) → type_at w p ≡ o → option_map (λ (t : AsnType). record { owner = p.module; of = t; assigned = Some p }) o ≡ Some l → Placed l
  by_type p l None e h = absurd (cc h)
  by_type p l (Some t) e h =
      let same : record { owner = p.module; of = t; assigned = Some p } ≡ l = cc h in
      record { place = p; assigned = ap (λ (z : Link). z.assigned) (sym same); of_it = ap (option_map (λ (t : AsnType). record { owner = p.module; of = t; assigned = Some p })) e ∙ h }

  of_place : (p : TypeId) (l : Link) → assigned_link w p ≡ Some l → Placed l
  of_place p l e = by_type p l (type_at w p) refl e

  by_name : (l : Link) (o : Option TypeId) → option_and_then (assigned_link w) o ≡ Some l → Placed l
  by_name l None e = absurd (cc e)
  by_name l (Some p) e = of_place p l e

  by_reference : (k : ℕ) (l : Link) (o : Option (Option Name × Name)) → option_and_then (λ (r : Option Name × Name). option_and_then (assigned_link w) (type_named w k r.0 r.1)) o ≡ Some l → Placed l
  by_reference k l None e = absurd (cc e)
  by_reference k l (Some r) e = by_name l (type_named w k r.0 r.1) e

  next_placed : (l next : Link) → next_link w l ≡ Some next → Placed next
  unfolding next_link
  next_placed l next e = by_reference l.owner next (reference_of l.of) e

  -- ---- one step

  pub record Step (l : Link) (t : Spot) : Type 0 where
    pub next : Link
    pub onward : next_link w l ≡ Some next
    pub of_it : assigned_link w (place_at t) ≡ Some next

  by_assigned : (l next : Link) (t : Spot) (at : Placed next) → next_link w l ≡ Some next → (o : Option TypeId) → next.assigned ≡ o → option_map spot_of o ≡ Some t → Step l t
  by_assigned l next t at e None f h = absurd (cc h)
  by_assigned l next t at e (Some p) f h =
      let q : at.place ≡ p = some_is_one at.assigned f in
      let s : spot_of p ≡ t = cc h in
      record { next = next; onward = e; of_it = subst (λ (z : TypeId). assigned_link w z ≡ Some next) (q ∙ ap place_at s) at.of_it }

  pub by_next : (l : Link) (t : Spot) (o : Option Link) → next_link w l ≡ o → option_and_then link_spot o ≡ Some t → Step l t
  by_next l t None e h = absurd (cc h)
  by_next l t (Some next) e h = by_assigned l next t (next_placed l next e) e next.assigned refl h

  stepped : (s t : Spot) (l : Link) → assigned_link w (place_at s) ≡ Some l → type_step w s ≡ Some t → Step l t
  unfolding type_step
  stepped s t l e h = by_next l t (next_link w l) refl (ap (option_and_then (link_onward w)) (sym e) ∙ h)

  -- ---- at the end

  pub by_end : (l : Link) (o : Option Link) → next_link w l ≡ o → option_and_then link_spot o ≡ None → next_link w l ≡ None
  by_end l None e h = e
  by_end l (Some next) e h = unplaced next.assigned (next_placed l next e).assigned h
    where
      unplaced : (o : Option TypeId) {p : TypeId} → o ≡ Some p → option_map spot_of o ≡ None → next_link w l ≡ None
      unplaced None f h = absurd (cc f)
      unplaced (Some p) f h = absurd (cc h)

  ends_there : (s : Spot) (l : Link) → assigned_link w (place_at s) ≡ Some l → type_step w s ≡ None → next_link w l ≡ None
  unfolding type_step
  ends_there s l e h = by_end l (next_link w l) refl (ap (option_and_then (link_onward w)) (sym e) ∙ h)

  ended : (n m : ℕ) (s e : Spot) (l last : Link) → n ≤ m → assigned_link w (place_at s) ≡ Some l → assigned_link w (place_at e) ≡ Some last → Leads (type_step w) n s e → type_step w e ≡ None → last_within m w l ≡ last
  ended zero m s e l last le f g stays h = last_ends w m l (ends_there s l f h) ∙ some_is_one f g
  ended (suc n) zero s e l last le f g (goes step way) h = absurd (omega arith)
  ended (suc n) (suc m) s e l last le f g (goes {q = t} step way) h =
      let st = stepped s t l f step in
      last_goes w (suc m) m l st.next refl st.onward ∙ ended n m t e st.next last (omega arith) st.of_it g way h

  by_count : (c n : ℕ) (first next last : Link) (p : TypeId) (e : Spot) → n < c → next_link w first ≡ Some next → assigned_link w p ≡ Some next → assigned_link w (place_at e) ≡ Some last → EndsAt (type_step w) n (spot_of p) e → last ≡ last_within c w first
  by_count zero n first next last p e lt a b g at = absurd (omega arith)
  by_count (suc m) n first next last p e lt a b g at = sym (last_goes w (suc m) m first next refl a ∙ ended n m (spot_of p) e next last (omega arith) b g (leads (type_step w) n (spot_of p) e at.way) at.end)

  pub base_kept : (n : ℕ) (first next last : Link) (p : TypeId) (e : Spot) → next_link w first ≡ Some next → next.assigned ≡ Some p → n < count w → assigned_link w (place_at e) ≡ Some last → EndsAt (type_step w) n (spot_of p) e → last ≡ base_link w first
  unfolding base_link links
  base_kept n first next last p e a b lt g at =
      let there = next_placed first next a in
      by_count (count w) n first next last p e lt a (subst (λ (z : TypeId). assigned_link w z ≡ Some next) (some_is_one there.assigned b) there.of_it) g at

  pub all_kept : (kept : Ends) (first next : Link) (p : TypeId) (s : Spot) (e : End) → AreBases w kept → Some next ≡ next_link w first → next.assigned ≡ Some p → s ≡ spot_of p → Some e ≡ end_of kept s → (l : Link) → IsEndLink w e l → l ≡ base_link w first
  all_kept kept first next p s (end.At at n) right a b same f l h = base_kept n first next l p at (sym a) b h.0 h.1 (subst (λ (z : Spot). EndsAt (type_step w) n z at) same (right.0 s at n (sym f)))
  all_kept kept first next p s end.Never right a b same f l h = absurd h

  pub link_kept : (kept : Ends) (first next : Link) (p : TypeId) (s : Spot) (e : End) → AreBases w kept → Some next ≡ next_link w first → next.assigned ≡ Some p → s ≡ spot_of p → Some e ≡ end_of kept s → (r : Option tree.Link) → IfSome r (λ l. IsEndLink w e (link_view l)) → IfSome r (λ l. link_view l ≡ base_link w first)
  link_kept kept first next p s e right a b same f None h = tt
  link_kept kept first next p s e right a b same f (Some l) h = all_kept kept first next p s e right a b same f (link_view l) h

  -- ---- a chain that ends

  of_assignment : (p : TypeId) (l : Link) → assigned_link w p ≡ Some l → (a : Assign) × (assignment w p ≡ Some a)
  unfolding type_at
  of_assignment p l e = by_assignment (assignment w p) refl e
    where
      by_assignment : (o : Option Assign) → assignment w p ≡ o → option_map (λ (t : AsnType). record { owner = p.module; of = t; assigned = Some p }) (option_and_then type_part o) ≡ Some l → (a : Assign) × (assignment w p ≡ Some a)
      by_assignment None f h = absurd (cc h)
      by_assignment (Some a) f h = (a, f)

  each_placed : (n : ℕ) (s t : Spot) (l : Link) → assigned_link w (place_at s) ≡ Some l → Leads (type_step w) n s t → Among (place_at t) (places w)
  each_placed zero s t l e stays = let a = of_assignment (place_at s) l e in is_placed w (place_at s) a.0 a.1
  each_placed (suc n) s t l e (goes {q = q} step rest) = let st = stepped s q l e step in each_placed n q t st.next st.of_it rest

  step_of : (s : Spot) (l : Link) (o : Option Link) → assigned_link w (place_at s) ≡ Some l → next_link w l ≡ o → type_step w s ≡ option_and_then link_spot o
  unfolding type_step
  step_of s l o e f = ap (option_and_then (link_onward w)) e ∙ ap (option_and_then link_spot) f

  record Ended (ls : List Link) (s : Spot) : Type 0 where
    count : ℕ
    long : length ls ≡ suc count
    at : Spot
    way : Leads (type_step w) count s at
    end : type_step w at ≡ None

  walked : (l : Link) (ls : List Link) (s : Spot) → assigned_link w (place_at s) ≡ Some l → IsChain w l ls → Ended ls s
  walked l ls s e (ends f) = record { count = zero; long = refl; at = s; way = stays; end = step_of s l None e f }
  walked l ls s e (goes_on {next = next} {ls = more} f rest) =
      let at = next_placed l next f in
      let h = walked next more (spot_of at.place) at.of_it rest in
      let step = step_of s l (Some next) e f ∙ ap (option_map spot_of) at.assigned in
      record { count = suc h.count; long = ap suc h.long; at = h.at; way = goes step h.way; end = h.end }

  whole : (l : Link) (ls : List Link) (n : ℕ) → IsChain w l ls → length ls ≤ n → links_within n w l ≡ ls
  unfolding links_within
  whole l ls zero (ends f) le = absurd (omega arith)
  whole l ls (suc n) (ends f) le = rw f refl
  whole l ls zero (goes_on f rest) le = absurd (omega arith)
  whole l ls (suc n) (goes_on {next = next} {ls = more} f rest) le = rw f (ap (λ (z : List Link). l ∷ z) (whole next more n rest (omega arith)))

  short : EndlessWaysHaveNoEnd → (l : Link) (ls : List Link) → IsChain w l ls → length ls ≤ suc (count w)
  short endless l ls (ends f) = omega arith
  short endless l ls (goes_on {next = next} {ls = more} f rest) =
      let at = next_placed l next f in
      let h = walked next more (spot_of at.place) at.of_it rest in
      let less = fewer_than_all endless (type_step w) w h.count (spot_of at.place) h.at h.way h.end (λ m q way. each_placed m (spot_of at.place) q next at.of_it way) in
      let long = h.long in
      omega (arith, less, long)

  pub each_chain : EndlessWaysHaveNoEnd → (l : Link) (ls : List Link) → IsChain w l ls → links w l ≡ ls
  unfolding links
  each_chain endless l ls chain = whole l ls (suc (count w)) chain (short endless l ls chain)
