-- What is kept at each site of a type of a sound world: the braces of its use and of its entries are fine, and an inserted field fits.
use Rattle.std.proofs.Common.{◌≡◌, ℕ, zero, suc, Bool, true, false, List, [], ◌∷◌, ◌++◌, map, filter_map, reverse, find, Option, Some, None, refl, subst}
use Rattle.std.specs.Prelude.{option_map, option_and_then, option_to_list, is_some, if◌then◌else◌}
use Rattle.std.specs.List.{AllByRecursion, flat_map, enumerate_from, cons_option}
use Rattle.std.specs.Option.{option_or}
use Rattle.std.specs.Str.{bytes_eq}
use Rattle.acn_acn_syntax.specs.Mirror as acn
use Rattle.acn_acn_syntax.specs.declared.modules.FieldKind.{FieldKind}
use Rattle.acn_acn_syntax.specs.declared.modules.FieldKind.TheVariants as kind
use Rattle.acn_asn_syntax.specs.Mirror.{AsnType, AsnBase, boolean, null, integer, enumerated, octet_string, bit_string, ia5_string, sequence, sequence_of, sequence_size, choice, reference, Component, component_list, Alternative, alternative_list}
use Rattle.acn_index.specs.Chains.{Link, written, assigned_link, link_entry, links, ChainOf, chain_of}
use Rattle.acn_index.specs.Lookup.{EntryAt, type_named, placed_entry}
use Rattle.acn_index.specs.World.{World}
use Rattle.acn_index.specs.declared.sources.TypeId.{TypeId}
use Rattle.acn_item_laws.proofs.Lists.{chosen, mapped, all_append, all_flat_map, all_found, all_numbered}
use Rattle.acn_mentions.specs.Mentions.{kind_mentions}
use Rattle.acn_num.specs.Names.{Name}
use Rattle.acn_sites.specs.Sites.{Position, Site, base_of, has_parameters, Below, below, in_sequence, field_site, use_named, alternative_site, passed_on, inner_site, first_use, element_site, content_of, content_site, inside_of, sites_in, sites_below, mark, Placed, sites, element, content, root_of, root_site, sites_of}
use Rattle.acn_slots.specs.Slots.{default_of, Use, no_use, use_of, Field, component, extra, name_in_text, component_named, field_in, numbered_field, bare_field, fields_of, plain_type, kind_chain, Origin, at_use, at_entry, has_braces, entry_with_braces, braces_at, braces_module}
use Rattle.acn_survey.specs.Walk.{is_inserted}
use Rattle.acn_world.specs.Cycles.{fits_field}
use Rattle.acn_world.specs.Faults.{IsSound}
use Rattle.acn_world.specs.Laws.{EntriesStandAtTheirPlaces}
use Rattle.acn_tree_laws.proofs.Braces.{MentionFits, AreFine, IsFine, AreFieldsOf, fields_inside}
use Rattle.acn_tree_laws.proofs.Entries.{placed_fine}
use Rattle.acn_tree_laws.proofs.FieldKinds.{kind_fits}

mapped_all : {A B : Type 0} (Q : B → Type 0) (f : A → B) (xs : List A) → ((x : A) → Q (f x)) → AllByRecursion Q (map f xs)
mapped_all Q f [] g = tt
mapped_all Q f (x ∷ xs) g = (g x, mapped_all Q f xs g)

module _ {A B : Type 0} (P : A → Type 0) (Q : B → Type 0) where
  filtered : (f : A → Option B) (xs : List A) → ((x : A) (y : B) → P x → f x ≡ Some y → Q y) → AllByRecursion P xs → AllByRecursion Q (filter_map f xs)
  filtered f [] g h = tt
  filtered f (x ∷ xs) g h = by (f x) refl (filtered f xs g h.1)
    where
      by : (o : Option B) → f x ≡ o → AllByRecursion Q (filter_map f xs) → AllByRecursion Q (cons_option o (filter_map f xs))
      by None e rest = rest
      by (Some y) e rest = (g x y h.0 e, rest)

each_mapped : {A B : Type 0} (P : A → Type 0) (Q : B → Type 0) (f : A → B) (xs : List A) → ((x : A) → P x → Q (f x)) → AllByRecursion P xs → AllByRecursion Q (map f xs)
each_mapped P Q f [] g h = tt
each_mapped P Q f (x ∷ xs) g h = (g x h.0, each_mapped P Q f xs g h.1)

abbrev EntryFine : World → EntryAt → Type 0
EntryFine w e = AreFine w e.owner e.is.fields

record IsKept (w : World) (s : Site) : Type 0 where
  entries : AllByRecursion (EntryFine w) s.chain.entries
  used : AreFieldsOf w s.reader s.used.braces
  fits : is_inserted s.position ≡ true → fits_field (base_of s) ≡ true

-- what this says of the fields of a SEQUENCE, of a CHOICE and of a list, and of the site as a field
abbrev pub IsFit : World → Site → Type 0
IsFit w s = (is_inserted s.position ≡ true → fits_field (base_of s) ≡ true) × AreFieldsOf w (below w s).reader (below w s).braces

-- ---- the braces in which the fields of a site are written

-- those that some place gives
abbrev FieldsAt : World → ℕ → Use → Option Origin → Type 0
FieldsAt w k u o = AreFieldsOf w (braces_module k o) (braces_at u o)

along : (w : World) (k : ℕ) (u : Use) (es : List EntryAt) → AllByRecursion (EntryFine w) es → FieldsAt w k u (entry_with_braces es)
along w k u [] h = tt
along w k u (e ∷ es) h = by (entry_with_braces es) (has_braces e) (along w k u es h.1)
  where
    by : (o : Option Origin) (b : Bool) → FieldsAt w k u o → FieldsAt w k u (option_or o (if b then Some (at_entry e) else None))
    by None true f = fields_inside w e.owner e.is.fields h.0
    by None false f = tt
    by (Some from) b f = f

braces_kept : (w : World) (s : Site) → IsKept w s → AreFieldsOf w (below w s).reader (below w s).braces
braces_kept w s h = by (is_some s.used.braces)
  where
    by : (b : Bool) → FieldsAt w s.reader s.used (if b then Some at_use else entry_with_braces s.chain.entries)
    by true = h.used
    by false = along w s.reader s.used s.chain.entries h.entries

module _ (w : World) (sound : IsSound w) (places : EntriesStandAtTheirPlaces) where
  -- ---- the entries of a chain

  link_fine : (l : Link) (e : EntryAt) → Unit {0} → link_entry w l ≡ Some e → EntryFine w e
  link_fine l e u h = (let p = chosen (placed_entry w) l.assigned e h in placed_fine w sound places p.0 e p.1)

  all_links : (ls : List Link) → AllByRecursion (λ (l : Link). Unit {0}) ls
  all_links [] = tt
  all_links (l ∷ ls) = (tt, all_links ls)

  chain_fine : (l : Link) → AllByRecursion (EntryFine w) (chain_of w l).entries
  unfolding chain_of
  chain_fine l = filtered (λ (l : Link). Unit {0}) (EntryFine w) (link_entry w) (reverse (links w l)) link_fine (all_links (reverse (links w l)))

  named_fine : (o : Option Link) (k : ℕ) → AllByRecursion (EntryFine w) (default_of (option_map (chain_of w) o) (chain_of w (written k (plain_type null)))).entries
  named_fine None k = chain_fine (written k (plain_type null))
  named_fine (Some l) k = chain_fine l

  kind_fine : (k : ℕ) (x : FieldKind) → AllByRecursion (EntryFine w) (kind_chain w k x).entries
  kind_fine k kind.Integer = chain_fine (written k (plain_type (integer None)))
  kind_fine k kind.Boolean = chain_fine (written k (plain_type boolean))
  kind_fine k kind.Null = chain_fine (written k (plain_type null))
  kind_fine k (kind.Ref name) = named_fine (option_and_then (assigned_link w) (type_named w k None name)) k

  -- ---- the fields of a SEQUENCE

  abbrev FieldKept : ℕ → ℕ × Field → Type 0
  FieldKept k (i, component c u) = AreFieldsOf w k u.braces
  FieldKept k (i, extra name x attributes) = AllByRecursion (MentionFits w k) (kind_mentions x)

  numbered_kept : (k : ℕ) (cs : List Component) (f : ℕ × acn.Field) (y : ℕ × Field) → IsFine w k f.1 → numbered_field cs f ≡ Some y → FieldKept k y
  numbered_kept k cs (i, acn.plain name arguments attributes bs) y h e =
      let a = mapped (λ (x : Field). (i, x)) (field_in cs (acn.plain name arguments attributes bs)) y e in
      let b = mapped _ (component_named cs name) a.0 a.1 in
      subst (FieldKept k) a.2 (subst (λ (x : Field). FieldKept k (i, x)) b.2 (fields_inside w k bs h))
  numbered_kept k cs (i, acn.inserted name x attributes) y h e = (let u : (i, extra name x attributes) ≡ y = cc in subst (FieldKept k) u h)
  numbered_kept k cs (i, acn.number name n) y h e = cc

  fields_kept : (k : ℕ) (o : Option (List acn.Field)) (cs : List Component) → AreFieldsOf w k o → AllByRecursion (FieldKept k) (fields_of o cs)
  fields_kept k None cs h = mapped_all (FieldKept k) bare_field (enumerate_from 0 cs) (λ q. tt)
  fields_kept k (Some fs) cs h = filtered (λ (f : ℕ × acn.Field). IsFine w k f.1) (FieldKept k) (numbered_field cs) (enumerate_from 0 fs) (numbered_kept k cs) (all_numbered (IsFine w k) 0 fs h.each)

  field_kept : (b : Below) (f : ℕ × Field) → FieldKept b.reader f → IsKept w (field_site w b f)
  field_kept b (i, component c u) h = record { entries = chain_fine (written b.owner c.of); used = h; fits = λ e. cc }
  field_kept b (i, extra name x attributes) h = record { entries = kind_fine b.reader x; used = tt; fits = λ e. kind_fits w b.reader x h }

  -- ---- the others

  use_kept : (k : ℕ) (o : Option acn.Field) → ((f : acn.Field) → o ≡ Some f → IsFine w k f) → AreFieldsOf w k (default_of (option_and_then use_of o) no_use).braces
  use_kept k None g = tt
  use_kept k (Some (acn.plain name arguments attributes bs)) g = fields_inside w k bs (g (acn.plain name arguments attributes bs) refl)
  use_kept k (Some (acn.inserted name x attributes)) g = tt
  use_kept k (Some (acn.number name n)) g = tt

  named_use_kept : (k : ℕ) (o : Option (List acn.Field)) (name : Name) → AreFieldsOf w k o → AreFieldsOf w k (use_named o name).braces
  named_use_kept k None name h = tt
  named_use_kept k (Some fs) name h =
      let called : acn.Field → Bool = λ (f : acn.Field). bytes_eq (name_in_text f) name in
      use_kept k (find called fs) (λ f e. all_found (IsFine w k) called fs f h.each e)

  alternative_kept : (b : Below) (q : ℕ × Alternative) → AreFieldsOf w b.reader b.braces → IsKept w (alternative_site w b q)
  alternative_kept b (i, a) h = record { entries = chain_fine (written b.owner a.of); used = named_use_kept b.reader b.braces a.name h; fits = λ e. cc }

  passed_kept : (k : ℕ) (s : Site) → AreFieldsOf w k (passed_on s).braces
  passed_kept k s = by (has_parameters s.chain)
    where
      by : (b : Bool) → AreFieldsOf w k (if b then no_use else record { arguments = s.used.arguments; attributes = []; braces = None }).braces
      by true = tt
      by false = tt

  inner_kept : (s : Site) (p : Position) (k : ℕ) (t : AsnType) → is_inserted p ≡ false → IsKept w (inner_site w s p k t)
  inner_kept s p k t outside = record { entries = chain_fine (written k t); used = passed_kept s.reader s; fits = λ e. cc }

  first_kept : (k : ℕ) (fs : List acn.Field) → AllByRecursion (IsFine w k) fs → AreFieldsOf w k (first_use fs).braces
  first_kept k [] h = tt
  first_kept k (f ∷ fs) h = use_kept k (Some f) (λ x e. (let i : f ≡ x = cc in subst (IsFine w k) i h.0))

  element_kept : (s : Site) (t : AsnType) (b : Below) (o : Option (List acn.Field)) → AreFieldsOf w b.reader o → IsKept w (element_site w s t b o)
  element_kept s t b None h = inner_kept s element s.chain.owner t refl
  element_kept s t b (Some fs) h = record { entries = chain_fine (written b.owner t); used = first_kept b.reader fs h.each; fits = λ e. cc }

  -- ---- the sites below a site

  inside_kept : (s : Site) → IsKept w s → (b : AsnBase) → AllByRecursion (IsKept w) (sites_in w s (inside_of b))
  inside_kept s h boolean = tt
  inside_kept s h null = tt
  inside_kept s h (integer ns) = tt
  inside_kept s h (enumerated items) = tt
  inside_kept s h octet_string = mapped_all (IsKept w) (content_site w s) (option_to_list (content_of s.chain)) (λ q. inner_kept s content q.0 q.1 refl)
  inside_kept s h bit_string = tt
  inside_kept s h ia5_string = tt
  inside_kept s h (sequence cs) =
      let b = in_sequence (component_list cs) (below w s) in
      each_mapped (FieldKept b.reader) (IsKept w) (field_site w b) (fields_of b.braces (component_list cs)) (field_kept b) (fields_kept b.reader b.braces (component_list cs) (braces_kept w s h))
  inside_kept s h (sequence_of t) = (element_kept s t (below w s) (below w s).braces (braces_kept w s h), tt)
  inside_kept s h (sequence_size c t) = (element_kept s t (below w s) (below w s).braces (braces_kept w s h), tt)
  inside_kept s h (choice more) = mapped_all (IsKept w) (alternative_site w (below w s)) (enumerate_from 0 (alternative_list more)) (λ q. alternative_kept (below w s) q (braces_kept w s h))
  inside_kept s h (reference from name) = tt

  below_kept : (s : Site) → IsKept w s → AllByRecursion (IsKept w) (sites_below w s)
  unfolding sites_below
  below_kept s h = inside_kept s h (base_of s)

  -- ---- all sites of a type

  abbrev PlacedFit : Placed → Type 0
  PlacedFit p = IsFit w p.site

  sites_kept : (n : ℕ) (above : List ℕ) (s : Site) → IsKept w s → AllByRecursion PlacedFit (sites n w above s)
  unfolding sites
  sites_kept zero above s h = ((h.fits, braces_kept w s h), tt)
  sites_kept (suc n) above s h = ((h.fits, braces_kept w s h), all_flat_map PlacedFit (sites n w (above ++ mark s.position)) (sites_below w s) (each (sites_below w s) (below_kept s h) (sites_kept n (above ++ mark s.position))))
    where
      each : (all : List Site) → AllByRecursion (IsKept w) all → ((x : Site) → IsKept w x → AllByRecursion PlacedFit (sites n w (above ++ mark s.position) x)) → AllByRecursion (λ (x : Site). AllByRecursion PlacedFit (sites n w (above ++ mark s.position) x)) all
      each [] k f = tt
      each (x ∷ all) k f = (f x k.0, each all k.1 f)

  root_kept : (p : TypeId) (s : Site) → root_site w p ≡ Some s → IsKept w s
  unfolding root_site
  root_kept p s e =
      let c = mapped (root_of w p) (option_map (chain_of w) (assigned_link w p)) s e in
      let l = mapped (chain_of w) (assigned_link w p) c.0 c.1 in
      subst (IsKept w) c.2 (record { entries = subst (λ (z : ChainOf). AllByRecursion (EntryFine w) z.entries) l.2 (chain_fine l.0); used = tt; fits = λ e. cc })

  pub all_fit : (p : TypeId) → AllByRecursion PlacedFit (sites_of w p)
  unfolding sites_of
  all_fit p = by (root_site w p) (root_kept p)
    where
      by : (o : Option Site) → ((s : Site) → o ≡ Some s → IsKept w s) → AllByRecursion PlacedFit (flat_map (sites 65 w []) (option_to_list o))
      by None f = tt
      by (Some s) f = all_append PlacedFit (sites 65 w [] s) [] (sites_kept 65 [] s (f s refl)) tt
