-- The scope in which the paths of a site are read leads to fields in reach of it alone.
use Rattle.std.proofs.Common.{◌≡◌, inl, inr, ℕ, zero, suc, ◌+◌, true, List, [], ◌∷◌, ◌++◌, length, map, filter_map, find, Option, Some, None, option_to_list, refl, sym, ap, subst, ◌∙◌, arith}
use Rattle.std.specs.List.{AllByRecursion, zip, enumerate_from}
use Rattle.std.specs.Str.{bytes_eq}
use Rattle.acn_acn_syntax.specs.Mirror as acn
use Rattle.acn_acn_syntax.specs.declared.modules.AcnPath.{AcnPath}
use Rattle.acn_acn_syntax.specs.declared.modules.Param.{Param}
use Rattle.acn_asn_syntax.specs.Mirror.{AsnBase, AsnType, Components, component_list, alternative_list, boolean, null, integer, enumerated, octet_string, bit_string, ia5_string, sequence, sequence_of, sequence_size, choice, reference}
use Rattle.acn_grammar.specs.Walk.{Stand}
use Rattle.acn_home_laws.specs.Laws.{goes_on}
use Rattle.acn_home_laws.proofs.Members.{In, each_has, all_have, first_is, was_mapped, was_given}
use Rattle.acn_home_laws.proofs.Onward.{on_by, on_through, begins_on}
use Rattle.acn_homes.specs.Homes.{Path}
use Rattle.acn_index.specs.World.{World}
use Rattle.acn_index.specs.Lookup.{EntryAt}
use Rattle.acn_made.specs.Named.{Slots}
use Rattle.acn_made_laws.proofs.Depth.{FineAll, one_longer, too_long, below_is}
use Rattle.acn_made_laws.proofs.Leading.{Listing, FrameAt, Down, followed}
use Rattle.acn_made_laws.proofs.Listed.{step_below, in_flat, from_flat, part_fine}
use Rattle.acn_made_laws.proofs.Options.{same_some, map_some, found_in}
use Rattle.acn_num.specs.Names.{Name}
use Rattle.acn_sites.specs.Sites.{Site, Placed, base_of, below, Below, in_sequence, field_site, alternative_site, element_site, content_site, content_of, inside_of, sites_in, sites_below, sites, mark, origin_scope, entry_scope, braces_scope, argument_leads, bind}
use Rattle.acn_slots.specs.Slots.{Field, component, extra, fields_of, Frame, Step, Scope, no_scope, Origin, at_use, at_entry, braces_origin, follow, last_slot, up_to_absent, lead_to, lead_of, bound_slot, by_parameter, by_frame, has_field, leads}
use Rattle.acn_slots.specs.declared.slots.Slot.{Slot}
use Rattle.acn_slots.specs.declared.slots.Lead.{Lead}
use Rattle.acn_slots.specs.declared.slots.Lead.TheVariants as lead

same_slot : (a b : Slot) → lead.Slot a ≡ lead.Slot b → a ≡ b
same_slot a b h = cc h

led_to : (o : Option Slot) (t : Option ℕ) (x : Slot) → lead_to o t ≡ lead.Slot x → (o ≡ Some x) × (t ≡ None)
led_to None t x h = absurd (cc h)
led_to (Some y) None x h = (ap (λ (z : Slot). Some z) (same_slot y x h), refl)
led_to (Some y) (Some n) x h = absurd (cc h)

led_of : (o : Option (List Step)) (x : Slot) → lead_of o ≡ lead.Slot x → (steps : List Step) × (o ≡ Some steps) × (last_slot None steps ≡ Some x) × (up_to_absent steps ≡ None)
led_of None x h = absurd (cc h)
led_of (Some steps) x h = (let r = led_to (last_slot None steps) (up_to_absent steps) x h in (steps, refl, r.0, r.1))

zipped : {A B : Type 0} (as' : List A) (bs : List B) (p : A × B) → In p (zip as' bs) → In p.1 bs
zipped [] bs p m = absurd m
zipped (a ∷ as') [] p m = absurd m
zipped {A} {B} (a ∷ as') (b ∷ bs) p (inl e) = inl (ap (λ (q : A × B). q.1) e)
zipped (a ∷ as') (b ∷ bs) p (inr m) = inr (zipped as' bs p m)

bound_to : (a : Param × Lead) (b : Name × Slot) → bind a ≡ Some b → a.1 ≡ lead.Slot b.1
bound_to (p, lead.Slot s) b h = ap (λ (z : Name × Slot). lead.Slot z.1) (same_some (p.name, s) b h)
bound_to (p, lead.Nowhere) b h = absurd (cc h)
bound_to (p, lead.Absent n x) b h = absurd (cc h)

module _ (w : World) (ss : Slots) (ps : List Placed) (all : List Stand) (known : Listing w ss ps all) where
  -- round a node stands a SEQUENCE, from which a way goes down to the field of the slot
  pub record Reach (path : Path) (x : Slot) : Type 0 where
    pub from : Path
    pub round : goes_on from path ≡ true
    pub down : Down w ss ps all known from x

  pub record FrameRound (path : Path) (f : Frame) : Type 0 where
    pub frame : FrameAt w ss ps all known f
    pub round : goes_on f.path path ≡ true

  pub record ScopeRound (path : Path) (c : Scope) : Type 0 where
    pub frames : AllByRecursion (FrameRound path) c.frames
    pub bound : AllByRecursion (λ (b : Name × Slot). Reach path b.1) c.bound

  -- ---- leads

  by_bound : (path : Path) (c : Scope) → ScopeRound path c → (name : Name) (names : List Name) (x : Slot) → by_parameter c.bound name names ≡ lead.Slot x → Reach path x
  by_bound path c s name [] x h =
      let r = led_to (bound_slot c.bound name) None x h in
      let p = map_some (λ (p : Name × Slot). p.1) (find (λ (p : Name × Slot). bytes_eq p.0 name) c.bound) x r.0 in
      subst (Reach path) p.2 (each_has (λ (b : Name × Slot). Reach path b.1) c.bound s.bound p.0 (found_in (λ (p : Name × Slot). bytes_eq p.0 name) c.bound p.0 p.1))
  by_bound path c s name (next ∷ names) x h = absurd (cc h)

  by_frames : (path : Path) (c : Scope) → ScopeRound path c → (name : Name) (names : List Name) (x : Slot) (o : Option Frame) → find (has_field name) c.frames ≡ o → by_frame w c.bound name names o ≡ lead.Slot x → Reach path x
  by_frames path c s name names x None e h = by_bound path c s name names x h
  by_frames path c s name names x (Some f) e h =
      let g = each_has (FrameRound path) c.frames s.frames f (found_in (has_field name) c.frames f e) in
      let r = led_of (follow w (Some f) (name ∷ names)) x h in
      record { from = f.path; round = g.round; down = followed w ss ps all known names name f r.0 None x g.frame r.1 r.3 r.2 }

  pub leads_reach : (path : Path) (c : Scope) → ScopeRound path c → (names : List Name) (x : Slot) → leads w c names ≡ lead.Slot x → Reach path x
  unfolding leads
  leads_reach path c s [] x h = absurd (cc h)
  leads_reach path c s (name ∷ names) x h = by_frames path c s name names x (find (has_field name) c.frames) refl h

  -- ---- scopes further down

  reach_more : (p q : Path) (x : Slot) → goes_on p q ≡ true → Reach p x → Reach q x
  reach_more p q x g r = record { from = r.from; round = on_through r.from p q (begins_on r.from p r.round) g; down = r.down }

  frame_more : (p q : Path) (f : Frame) → goes_on p q ≡ true → FrameRound p f → FrameRound q f
  frame_more p q f g r = record { frame = r.frame; round = on_through f.path p q (begins_on f.path p r.round) g }

  scope_more : (p q : Path) (c : Scope) → goes_on p q ≡ true → ScopeRound p c → ScopeRound q c
  scope_more p q c g s =
      record {
        frames = all_have (FrameRound q) c.frames (λ f m. frame_more p q f g (each_has (FrameRound p) c.frames s.frames f m));
        bound = all_have (λ (b : Name × Slot). Reach q b.1) c.bound (λ b m. reach_more p q b.1 g (each_has (λ (b : Name × Slot). Reach p b.1) c.bound s.bound b m));
      }

  empty_round : (p : Path) → ScopeRound p no_scope
  empty_round p = record { frames = tt; bound = tt }

  entry_round : (s : Site) → ScopeRound s.path s.scope → (e : EntryAt) → ScopeRound s.path (entry_scope w s e)
  entry_round s r e = record { frames = tt; bound = all_have (λ (b : Name × Slot). Reach s.path b.1) (filter_map bind (zip e.is.parameters (argument_leads w s))) here }
    where
      here : (b : Name × Slot) → In b (filter_map bind (zip e.is.parameters (argument_leads w s))) → Reach s.path b.1
      here b m =
          let g = was_given bind (zip e.is.parameters (argument_leads w s)) b m in
          let a = was_mapped (λ (a : AcnPath). leads w s.scope a.names) s.used.arguments g.0.1 (zipped e.is.parameters (argument_leads w s) g.0 g.1) in
          leads_reach s.path s.scope r a.0.names b.1 (sym a.2 ∙ bound_to g.0 b g.2)

  pub origin_round : (s : Site) → ScopeRound s.path s.scope → (o : Origin) → ScopeRound s.path (origin_scope w s o)
  origin_round s r at_use = r
  origin_round s r (at_entry e) = entry_round s r e

  braces_round : (s : Site) → ScopeRound s.path s.scope → (o : Option Origin) → ScopeRound s.path (braces_scope w s o)
  braces_round s r None = empty_round s.path
  braces_round s r (Some o) = origin_round s r o

  below_round : (s : Site) → ScopeRound s.path s.scope → ScopeRound s.path (below w s).scope
  below_round s r = braces_round s r (braces_origin s.chain s.used)

  -- the fields of a SEQUENCE see it too
  entered_round : (p : Placed) → In p ps → (cs : Components) → base_of p.site ≡ sequence cs → (q : Path) → goes_on p.site.path q ≡ true → ScopeRound q (below w p.site).scope → ScopeRound q (in_sequence (component_list cs) (below w p.site)).scope
  entered_round p m cs e q g r =
      record {
        frames = (record { frame = record { place = p; listed = m; components = cs; base = e; same_frame = refl }; round = g }, r.frames);
        bound = r.bound;
      }

  field_scope : (b : Below) (f : ℕ × Field) → (field_site w b f).scope ≡ b.scope
  field_scope b (i, component c u) = refl
  field_scope b (i, extra name kind attributes) = refl

  content_round : (s : Site) (o : Option (ℕ × AsnType)) (x : Site) → In x (map (content_site w s) (option_to_list o)) → ScopeRound x.path s.scope → ScopeRound x.path x.scope
  content_round s None x m r = absurd m
  content_round s (Some t) x m r = first_is (content_site w s t) x m (λ e. subst (ScopeRound x.path) (ap (λ (z : Site). z.scope) (sym e)) r)

  element_round : (s : Site) (t : AsnType) (o : Option (List acn.Field)) (x : Site) → x ≡ element_site w s t (below w s) o → ScopeRound x.path s.scope → ScopeRound x.path (below w s).scope → ScopeRound x.path x.scope
  element_round s t None x e r b = subst (ScopeRound x.path) (ap (λ (z : Site). z.scope) (sym e)) r
  element_round s t (Some fs) x e r b = subst (ScopeRound x.path) (ap (λ (z : Site). z.scope) (sym e)) b

  round_in : (p : Placed) → In p ps → (b : AsnBase) → base_of p.site ≡ b → (x : Site) → In x (sites_in w p.site (inside_of b)) → goes_on p.site.path x.path ≡ true → ScopeRound p.site.path p.site.scope → ScopeRound x.path x.scope
  round_in p m boolean e x k g r = absurd k
  round_in p m null e x k g r = absurd k
  round_in p m (integer ns) e x k g r = absurd k
  round_in p m (enumerated items) e x k g r = absurd k
  round_in p m octet_string e x k g r = content_round p.site (content_of p.site.chain) x k (scope_more p.site.path x.path p.site.scope g r)
  round_in p m bit_string e x k g r = absurd k
  round_in p m ia5_string e x k g r = absurd k
  round_in p m (sequence cs) e x k g r =
      let b = in_sequence (component_list cs) (below w p.site) in
      let f = was_mapped (field_site w b) (fields_of b.braces (component_list cs)) x k in
      subst (ScopeRound x.path) (sym (ap (λ (z : Site). z.scope) f.2 ∙ field_scope b f.0))
      (entered_round p m cs e x.path g (scope_more p.site.path x.path (below w p.site).scope g (below_round p.site r)))
  round_in p m (sequence_of t) e x k g r = first_is (element_site w p.site t (below w p.site) (below w p.site).braces) x k
      (λ i. element_round p.site t (below w p.site).braces x i (scope_more p.site.path x.path p.site.scope g r) (scope_more p.site.path x.path (below w p.site).scope g (below_round p.site r)))
  round_in p m (sequence_size c t) e x k g r = first_is (element_site w p.site t (below w p.site) (below w p.site).braces) x k
      (λ i. element_round p.site t (below w p.site).braces x i (scope_more p.site.path x.path p.site.scope g r) (scope_more p.site.path x.path (below w p.site).scope g (below_round p.site r)))
  round_in p m (choice more) e x k g r =
      let a = was_mapped (alternative_site w (below w p.site)) (enumerate_from 0 (alternative_list more)) x k in
      subst (ScopeRound x.path) (sym (ap (λ (z : Site). z.scope) a.2)) (scope_more p.site.path x.path (below w p.site).scope g (below_round p.site r))
  round_in p m (reference from name) e x k g r = absurd k

  round_below : (p : Placed) → In p ps → (x : Site) → In x (sites_below w p.site) → ScopeRound p.site.path p.site.scope → ScopeRound x.path x.scope
  round_below p m x k r =
      let s = step_below w p.site (known.fine p m) x k in
      round_in p m (base_of p.site) refl x (subst (In x) (below_is w p.site) k) (ap (goes_on p.site.path) s.1 ∙ on_by p.site.path s.0 []) r

  -- ---- all sites

  pub all_round : (n : ℕ) (above : List ℕ) (s : Site) → FineAll w (sites n w above s) → length s.path + n ≡ 65 → ((q : Placed) → In q (sites n w above s) → In q ps) → ScopeRound s.path s.scope → (p : Placed) → In p (sites n w above s) → ScopeRound p.site.path p.site.scope
  unfolding sites
  all_round zero above s f l sub r p m = absurd (too_long (length s.path) zero f.0.shallow l refl)
  all_round (suc n) above s f l sub r p (inl e) = subst (λ (z : Placed). ScopeRound z.site.path z.site.scope) (sym e) r
  all_round (suc n) above s f l sub r p (inr m) =
      let text = above ++ mark s.position in
      let x = from_flat (sites n w text) (sites_below w s) p m in
      let at = step_below w s f.0 x.0 x.1 in
      all_round n text x.0 (part_fine w n text (sites_below w s) x.0 x.1 f.1) (one_longer s.path at.0 n x.0.path at.1 (deeper l))
      (λ q k. sub q (inr (in_flat (sites n w text) (sites_below w s) x.0 q x.1 k)))
      (round_below (record { text = text; site = s }) (sub (record { text = text; site = s }) (inl refl)) x.0 x.1 r) p x.2
    where
      deeper : length s.path + suc n ≡ 65 → suc (length s.path) + n ≡ 65
      deeper h = omega (arith, h)
