-- The type at the end of each site's chain stands in the world, where it isn't one of those that inserted fields have by themselves.
use Rattle.std.proofs.Common.{◌≡◌, ℕ, zero, suc, List, [], ◌∷◌, ◌++◌, map, reverse, Option, Some, None, refl, sym, subst}
use Rattle.std.specs.Prelude.{option_map, option_and_then, option_to_list}
use Rattle.std.specs.List.{AllByRecursion, flat_map, enumerate_from}
use Rattle.std.specs.Str.{bytes_eq}
use Rattle.acn_acn_syntax.specs.Mirror as acn
use Rattle.acn_acn_syntax.specs.declared.modules.FieldKind.{FieldKind}
use Rattle.acn_acn_syntax.specs.declared.modules.FieldKind.TheVariants as kind
use Rattle.acn_asn_syntax.specs.Mirror.{AsnType, type_of, AsnBase, boolean, null, integer, enumerated, octet_string, bit_string, ia5_string, sequence, sequence_of, sequence_size, choice, reference, Constraint, by_set, by_size, containing, Component, component_list, Alternative, alternative_list, constraint_list, Assign, TypeIs, ValueIs}
use Rattle.acn_index.specs.Chains.{base_part, constraints_part, Link, written, assigned_link, reference_of, next_link, more_links, links_within, links, last_link, link_constraints, ChainOf, chain_of_links, chain_of}
use Rattle.acn_index.specs.Lookup.{type_named}
use Rattle.acn_index.specs.World.{World, count, type_part, assignment, type_at}
use Rattle.acn_index.specs.declared.sources.TypeId.{TypeId}
use Rattle.acn_names.specs.Standing.{constraint_parts, base_parts, parts, Stands, assigned, inside}
use Rattle.acn_num.specs.Names.{Name}
use Rattle.acn_sites.specs.Sites.{Site, base_of, Below, below, in_sequence, field_site, alternative_site, element_site, content_among, content_of, content_site, inside_of, sites_in, sites_below, Placed, sites, mark, root_of, root_site, sites_of}
use Rattle.acn_slots.specs.Slots.{default_of, Field, component, extra, component_named, field_in, numbered_field, bare_field, fields_of, plain_type, kind_chain}
use Rattle.acn_item_laws.specs.Laws.{BaseStands, in_text, own}
use Rattle.acn_item_laws.proofs.Lists.{chosen, mapped, all_among, all_append, all_left, all_right, all_reverse, all_flat_map, each_flat_map, all_found, all_numbered, all_listed, all_map, each_map, all_filter_map}

-- what is contained by a constraint in the text of a module stands there
abbrev Content : World → ℕ × Constraint → Type 0
Content w q = AllByRecursion (Stands w q.0) (constraint_parts q.1)

-- what a chain keeps: its base stands in the world; the types inside it, and those that its constraints contain, stand in the world
pub record IsKept (w : World) (c : ChainOf) : Type 0 where
  base : BaseStands w (base_part c.base)
  parts : AllByRecursion (Stands w c.owner) (base_parts (base_part c.base))
  contents : AllByRecursion (Content w) c.constraints

module _ (w : World) where
  -- ---- a type that stands in the world

  base_stands : (k : ℕ) (t : AsnType) → Stands w k t → AllByRecursion (Stands w k) (base_parts (base_part t))
  base_stands k (type_of tag b cs) s = all_left (Stands w k) (base_parts b) (flat_map constraint_parts (constraint_list cs)) (all_among (Stands w k) (parts (type_of tag b cs)) (λ u a. inside a s))

  constraints_stand : (k : ℕ) (t : AsnType) → Stands w k t → AllByRecursion (Content w) (map (λ (c : Constraint). (k, c)) (constraints_part t))
  constraints_stand k (type_of tag b cs) s =
      all_map (λ (c : Constraint). AllByRecursion (Stands w k) (constraint_parts c)) (Content w) (λ (c : Constraint). (k, c)) (constraint_list cs) (λ c h. h)
      (each_flat_map (Stands w k) constraint_parts (constraint_list cs) (all_right (Stands w k) (base_parts b) (flat_map constraint_parts (constraint_list cs)) (all_among (Stands w k) (parts (type_of tag b cs)) (λ u a. inside a s))))

  -- ---- a chain of such types

  abbrev LinkStands : Link → Type 0
  LinkStands l = Stands w l.owner l.of

  type_stands : (p : TypeId) (t : AsnType) → type_at w p ≡ Some t → Stands w p.module t
  unfolding type_at
  type_stands p t e = by (assignment w p) refl e
    where
      by : (o : Option Assign) → assignment w p ≡ o → option_and_then type_part o ≡ Some t → Stands w p.module t
      by None f g = cc
      by (Some (TypeIs name u)) f g = (let i : u ≡ t = cc in subst (Stands w p.module) i (assigned p.item (TypeIs name u) f))
      by (Some (ValueIs name u v)) f g = cc

  assigned_stands : (p : TypeId) (l : Link) → assigned_link w p ≡ Some l → LinkStands l
  assigned_stands p l e = by (type_at w p) refl e
    where
      by : (o : Option AsnType) → type_at w p ≡ o → option_map (λ (t : AsnType). record { owner = p.module; of = t; assigned = Some p }) o ≡ Some l → LinkStands l
      by None f g = cc
      by (Some t) f g = (let i : record { owner = p.module; of = t; assigned = Some p } ≡ l = cc in subst (λ (z : Link). LinkStands z) i (type_stands p t f))

  next_stands : (l next : Link) → next_link w l ≡ Some next → LinkStands next
  unfolding next_link
  next_stands l next e =
      let r = chosen (λ (r : Option Name × Name). option_and_then (assigned_link w) (type_named w l.owner r.0 r.1)) (reference_of l.of) next e in
      let p = chosen (assigned_link w) (type_named w l.owner r.0.0 r.0.1) next r.1 in
      assigned_stands p.0 next p.1

  links_stand : (n : ℕ) (l : Link) → LinkStands l → AllByRecursion LinkStands (links_within n w l)
  unfolding links_within
  links_stand zero l h = tt
  links_stand (suc n) l h = (h, by (next_link w l) (λ next e. links_stand n next (next_stands l next e)))
    where
      by : (o : Option Link) → ((next : Link) → o ≡ Some next → AllByRecursion LinkStands (links_within n w next)) → AllByRecursion LinkStands (more_links (links_within n w) o)
      by None f = tt
      by (Some next) f = f next refl

  last_stands : (l : Link) (ls : List Link) → LinkStands l → AllByRecursion LinkStands ls → LinkStands (last_link l ls)
  last_stands l [] h k = h
  last_stands l (next ∷ more) h k = last_stands next more k.0 k.1

  all_constraints : (ls : List Link) → AllByRecursion LinkStands ls → AllByRecursion (Content w) (flat_map link_constraints ls)
  all_constraints [] h = tt
  all_constraints (l ∷ ls) h = all_append (Content w) (link_constraints l) (flat_map link_constraints ls) (constraints_stand l.owner l.of h.0) (all_constraints ls h.1)

  chain_kept : (l : Link) (ls : List Link) → LinkStands l → AllByRecursion LinkStands ls → IsKept w (chain_of_links w l ls)
  chain_kept l ls h k =
      let last = last_stands l ls h k in
      record {
        base = in_text (last_link l ls).owner (last_link l ls).of last refl;
        parts = base_stands (last_link l ls).owner (last_link l ls).of last;
        contents = all_constraints (reverse ls) (all_reverse LinkStands ls k);
      }

  pub kept : (l : Link) → LinkStands l → IsKept w (chain_of w l)
  unfolding chain_of links
  kept l h = chain_kept l (links_within (suc (count w)) w l) h (links_stand (suc (count w)) l h)

  -- ---- the types of inserted fields

  boolean_kept : (k : ℕ) → IsKept w (chain_of w (written k (plain_type boolean)))
  unfolding chain_of links links_within next_link
  boolean_kept k = record { base = own refl; parts = tt; contents = tt }

  null_kept : (k : ℕ) → IsKept w (chain_of w (written k (plain_type null)))
  unfolding chain_of links links_within next_link
  null_kept k = record { base = own refl; parts = tt; contents = tt }

  integer_kept : (k : ℕ) → IsKept w (chain_of w (written k (plain_type (integer None))))
  unfolding chain_of links links_within next_link
  integer_kept k = record { base = own refl; parts = tt; contents = tt }

  named_kept : (k : ℕ) (o : Option Link) → ((l : Link) → o ≡ Some l → LinkStands l) → IsKept w (default_of (option_map (chain_of w) o) (chain_of w (written k (plain_type null))))
  named_kept k None f = null_kept k
  named_kept k (Some l) f = kept l (f l refl)

  kind_kept : (k : ℕ) (x : FieldKind) → IsKept w (kind_chain w k x)
  kind_kept k kind.Integer = integer_kept k
  kind_kept k kind.Boolean = boolean_kept k
  kind_kept k kind.Null = null_kept k
  kind_kept k (kind.Ref name) =
      named_kept k (option_and_then (assigned_link w) (type_named w k None name))
      (λ l e. let p = chosen (assigned_link w) (type_named w k None name) l e in assigned_stands p.0 l p.1)

  -- ---- the sites below a site

  abbrev SiteKept : Site → Type 0
  SiteKept s = IsKept w s.chain

  -- the type of a component stands in the text of a module
  abbrev FieldStands : ℕ → ℕ × Field → Type 0
  FieldStands k (i, component c u) = Stands w k c.of
  FieldStands k (i, extra name x attributes) = Unit {0}

  abbrev ComponentStands : ℕ → Component → Type 0
  ComponentStands k c = Stands w k c.of

  numbered_stands : (k : ℕ) (cs : List Component) → AllByRecursion (ComponentStands k) cs → (f : ℕ × acn.Field) (y : ℕ × Field) → numbered_field cs f ≡ Some y → FieldStands k y
  numbered_stands k cs h (i, acn.plain name arguments attributes bs) y e =
      let a = mapped (λ (x : Field). (i, x)) (field_in cs (acn.plain name arguments attributes bs)) y e in
      let b = mapped _ (component_named cs name) a.0 a.1 in
      subst (FieldStands k) a.2 (subst (λ (x : Field). FieldStands k (i, x)) b.2 (all_found (ComponentStands k) (λ (c : Component). bytes_eq c.name name) cs b.0 h b.1))
  numbered_stands k cs h (i, acn.inserted name x attributes) y e = (let u : (i, extra name x attributes) ≡ y = cc in subst (FieldStands k) u tt)
  numbered_stands k cs h (i, acn.number name n) y e = cc

  fields_stand : (k : ℕ) (o : Option (List acn.Field)) (cs : List Component) → AllByRecursion (ComponentStands k) cs → AllByRecursion (FieldStands k) (fields_of o cs)
  fields_stand k None cs h = all_map (λ (q : ℕ × Component). ComponentStands k q.1) (FieldStands k) bare_field (enumerate_from 0 cs) (λ q s. s) (all_numbered (ComponentStands k) 0 cs h)
  fields_stand k (Some fs) cs h = all_filter_map (λ (f : ℕ × acn.Field). Unit {0}) (FieldStands k) (numbered_field cs) (enumerate_from 0 fs) (numbered_stands k cs h)

  field_kept : (b : Below) (f : ℕ × Field) → FieldStands b.owner f → SiteKept (field_site w b f)
  field_kept b (i, component c u) h = kept (written b.owner c.of) h
  field_kept b (i, extra name x attributes) h = kind_kept b.reader x

  element_kept : (s : Site) (t : AsnType) (b : Below) (o : Option (List acn.Field)) → b.owner ≡ s.chain.owner → Stands w s.chain.owner t → SiteKept (element_site w s t b o)
  element_kept s t b None e h = kept (written s.chain.owner t) h
  element_kept s t b (Some fs) e h = kept (written b.owner t) (subst (λ (k : ℕ). Stands w k t) (sym e) h)

  -- the first contained type
  contained_stands : (cs : List (ℕ × Constraint)) → AllByRecursion (Content w) cs → (q : ℕ × AsnType) → content_among cs ≡ Some q → Stands w q.0 q.1
  contained_stands [] h q e = cc
  contained_stands ((k, by_set s) ∷ cs) h q e = contained_stands cs h.1 q e
  contained_stands ((k, by_size s) ∷ cs) h q e = contained_stands cs h.1 q e
  contained_stands ((k, containing t) ∷ cs) h q e = (let i : (k, t) ≡ q = cc in subst (λ (z : ℕ × AsnType). Stands w z.0 z.1) i h.0.0)

  inside_kept : (s : Site) → SiteKept s → (b : AsnBase) → base_of s ≡ b → AllByRecursion SiteKept (sites_in w s (inside_of b))
  inside_kept s h boolean e = tt
  inside_kept s h null e = tt
  inside_kept s h (integer ns) e = tt
  inside_kept s h (enumerated items) e = tt
  inside_kept s h octet_string e =
      all_map (λ (q : ℕ × AsnType). Stands w q.0 q.1) SiteKept (content_site w s) (option_to_list (content_of s.chain)) (λ q st. kept (written q.0 q.1) st)
      (all_listed (λ (q : ℕ × AsnType). Stands w q.0 q.1) (content_of s.chain) (contained_stands s.chain.constraints h.contents))
  inside_kept s h bit_string e = tt
  inside_kept s h ia5_string e = tt
  inside_kept s h (sequence cs) e =
      let b = in_sequence (component_list cs) (below w s) in
      let all = subst (λ (z : AsnBase). AllByRecursion (Stands w s.chain.owner) (base_parts z)) e h.parts in
      all_map (FieldStands s.chain.owner) SiteKept (field_site w b) (fields_of b.braces (component_list cs)) (field_kept b)
      (fields_stand s.chain.owner b.braces (component_list cs) (each_map (ComponentStands s.chain.owner) (Stands w s.chain.owner) (λ (c : Component). c.of) (component_list cs) (λ c st. st) all))
  inside_kept s h (sequence_of t) e =
      let all = subst (λ (z : AsnBase). AllByRecursion (Stands w s.chain.owner) (base_parts z)) e h.parts in
      (element_kept s t (below w s) (below w s).braces refl all.0, tt)
  inside_kept s h (sequence_size c t) e =
      let all = subst (λ (z : AsnBase). AllByRecursion (Stands w s.chain.owner) (base_parts z)) e h.parts in
      let last = all_right (Stands w s.chain.owner) (constraint_parts c) (t ∷ []) all in
      (element_kept s t (below w s) (below w s).braces refl last.0, tt)
  inside_kept s h (choice more) e =
      let all = subst (λ (z : AsnBase). AllByRecursion (Stands w s.chain.owner) (base_parts z)) e h.parts in
      all_map (λ (q : ℕ × Alternative). Stands w s.chain.owner q.1.of) SiteKept (alternative_site w (below w s)) (enumerate_from 0 (alternative_list more)) (λ q st. kept (written s.chain.owner q.1.of) st)
      (all_numbered (λ (a : Alternative). Stands w s.chain.owner a.of) 0 (alternative_list more)
      (each_map (λ (a : Alternative). Stands w s.chain.owner a.of) (Stands w s.chain.owner) (λ (a : Alternative). a.of) (alternative_list more) (λ a st. st) all))
  inside_kept s h (reference from name) e = tt

  below_kept : (s : Site) → SiteKept s → AllByRecursion SiteKept (sites_below w s)
  unfolding sites_below
  below_kept s h = inside_kept s h (base_of s) refl

  -- ---- all sites of a type

  abbrev PlacedStands : Placed → Type 0
  PlacedStands p = BaseStands w (base_of p.site)

  sites_kept : (n : ℕ) (above : List ℕ) (s : Site) → SiteKept s → AllByRecursion PlacedStands (sites n w above s)
  unfolding sites
  sites_kept zero above s h = (h.base, tt)
  sites_kept (suc n) above s h = (h.base, all_flat_map PlacedStands (sites n w (above ++ mark s.position)) (sites_below w s) (each (sites_below w s) (below_kept s h) (sites_kept n (above ++ mark s.position))))
    where
      each : (all : List Site) → AllByRecursion SiteKept all → ((x : Site) → SiteKept x → AllByRecursion PlacedStands (sites n w (above ++ mark s.position) x)) → AllByRecursion (λ (x : Site). AllByRecursion PlacedStands (sites n w (above ++ mark s.position) x)) all
      each [] k f = tt
      each (x ∷ all) k f = (f x k.0, each all k.1 f)

  root_kept : (p : TypeId) (s : Site) → root_site w p ≡ Some s → SiteKept s
  unfolding root_site
  root_kept p s e = by (assigned_link w p) refl e
    where
      by : (o : Option Link) → assigned_link w p ≡ o → option_map (root_of w p) (option_map (chain_of w) o) ≡ Some s → SiteKept s
      by None f g = cc
      by (Some l) f g = (let i : root_of w p (chain_of w l) ≡ s = cc in subst SiteKept i (kept l (assigned_stands p l f)))

  pub all_stand : (p : TypeId) → AllByRecursion PlacedStands (sites_of w p)
  unfolding sites_of
  all_stand p = by (root_site w p) (root_kept p)
    where
      by : (o : Option Site) → ((s : Site) → o ≡ Some s → SiteKept s) → AllByRecursion PlacedStands (flat_map (sites 65 w []) (option_to_list o))
      by None f = tt
      by (Some s) f = all_append PlacedStands (sites 65 w [] s) [] (sites_kept 65 [] s (f s refl)) tt
