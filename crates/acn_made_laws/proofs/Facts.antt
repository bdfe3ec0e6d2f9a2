-- A made tree has the facts from which the rules on slots follow.
use Rattle.std.proofs.Common.{◌≡◌, inl, ℕ, nat_eq, Bool, true, false, true≢false, not, ◌&&◌, List, [], ◌∷◌, map, Option, Some, None, is_some, if◌then◌else◌, refl, sym, ap, subst, ◌∙◌}
use Rattle.std.specs.List.{AllByRecursion}
use Rattle.acn_asn_syntax.specs.Mirror.{AsnBase, boolean, null, integer, enumerated, octet_string, bit_string, ia5_string, sequence, sequence_of, sequence_size, choice, reference}
use Rattle.acn_grammar.specs.Grammar.{Grammar}
use Rattle.acn_grammar.specs.Tree.{is_slot}
use Rattle.acn_grammar.specs.Walk as walk
use Rattle.acn_grammar.specs.Walk.{Stand, Role, slot_here, slot_of}
use Rattle.acn_home_laws.specs.Laws.{paths, goes_on}
use Rattle.acn_home_laws.specs.Numbered.{is_component, uses_slot, is_noted, Lists, IsWay, IsInReach, IsNumbered}
use Rattle.acn_home_laws.proofs.Members.{In, all_have, some_passes, passes, was_mapped, is_mapped, first_is, in_front, split_in}
use Rattle.acn_home_laws.proofs.Onward.{same_is, is_same, both_true, true_both, is_equal, itself_equal}
use Rattle.acn_homes.specs.Homes.{Path, same, is_among, named, slots, number, at_home}
use Rattle.acn_homes.specs.Laws.{NamedFieldsAreNumbered}
use Rattle.acn_homes.specs.declared.uses.Use.{Use}
use Rattle.acn_index.specs.World.{World}
use Rattle.acn_made.specs.Made.{made, form_at, octets_at}
use Rattle.acn_made.specs.Named.{Slots}
use Rattle.acn_made.specs.Sized.{sizing_at}
use Rattle.acn_grammar.specs.declared.node.Sizing.{Sizing}
use Rattle.acn_made_laws.proofs.Leading.{Listing, stays}
use Rattle.acn_made_laws.proofs.Listed.{in_flat, from_flat}
use Rattle.acn_made_laws.proofs.Reaching.{Reach, ScopeRound, leads_reach, origin_round}
use Rattle.acn_made_laws.proofs.Used.{UsedBy, used_tells, tells_used, uses_numbered, numbered_has, Written, as_size, as_test, as_item, is_written, may_stand}
use Rattle.acn_made_laws.specs.Standing.{StandsFor, IsRole}
use Rattle.acn_reasons.specs.Classes.{class_of_base, is_sized, is_choice}
use Rattle.acn_reasons.specs.Standing.{may_be_missing, stands_here}
use Rattle.acn_sites.specs.Attributes.{scope_of}
use Rattle.acn_sites.specs.Sites.{Site, Position, root, part, inserted, alternative, element, content, Placed, base_of, sites_below}
use Rattle.acn_slots.specs.Slots.{sort_of_base, sort_of}
use Rattle.acn_survey.specs.Walk.{is_inserted, has_number, field_at, inserted_fields, fields_used, uses_at, uses_of}

same_bools : (a b : Bool) → (a ≡ true → b ≡ true) → (b ≡ true → a ≡ true) → a ≡ b
same_bools true true f g = refl
same_bools true false f g = sym (f refl)
same_bools false true f g = g refl
same_bools false false f g = refl

is_false : (b : Bool) → (b ≡ true → ⊥) → b ≡ false
is_false true f = absurd (f refl)
is_false false f = refl

is_none : {A : Type 0} (o : Option A) → is_some o ≡ false → o ≡ None
is_none None h = refl
is_none (Some x) h = absurd (true≢false h)

some_slot : (k : ℕ) (o : Option ℕ) → is_slot k o ≡ true → o ≡ Some k
some_slot k None h = absurd (true≢false (sym h))
some_slot k (Some n) h = ap (λ (z : ℕ). Some z) (is_equal n k h)

slot_some : (k : ℕ) (o : Option ℕ) → o ≡ Some k → is_slot k o ≡ true
slot_some k o e = ap (is_slot k) e ∙ itself_equal k

stays_inserted : (p : Position) → is_inserted p ≡ true → stays p ≡ true
stays_inserted (root owner name) h = absurd (true≢false (sym h))
stays_inserted (part name rest) h = absurd (true≢false (sym h))
stays_inserted (inserted name kind) h = refl
stays_inserted (alternative name) h = absurd (true≢false (sym h))
stays_inserted element h = absurd (true≢false (sym h))
stays_inserted content h = absurd (true≢false (sym h))

-- what has a number of its own has no size and no alternatives
no_sized : (b : AsnBase) → is_sized (class_of_base b) ≡ true → is_some (sort_of_base b) ≡ true → ⊥
no_sized boolean h k = true≢false (sym h)
no_sized null h k = true≢false (sym h)
no_sized (integer ns) h k = true≢false (sym h)
no_sized (enumerated items) h k = true≢false (sym h)
no_sized octet_string h k = true≢false (sym k)
no_sized bit_string h k = true≢false (sym k)
no_sized ia5_string h k = true≢false (sym k)
no_sized (sequence cs) h k = true≢false (sym k)
no_sized (sequence_of t) h k = true≢false (sym k)
no_sized (sequence_size c t) h k = true≢false (sym k)
no_sized (choice more) h k = true≢false (sym k)
no_sized (reference from name) h k = true≢false (sym k)

no_choice : (b : AsnBase) → is_choice (class_of_base b) ≡ true → is_some (sort_of_base b) ≡ true → ⊥
no_choice boolean h k = true≢false (sym h)
no_choice null h k = true≢false (sym h)
no_choice (integer ns) h k = true≢false (sym h)
no_choice (enumerated items) h k = true≢false (sym h)
no_choice octet_string h k = true≢false (sym k)
no_choice bit_string h k = true≢false (sym k)
no_choice ia5_string h k = true≢false (sym k)
no_choice (sequence cs) h k = true≢false (sym k)
no_choice (sequence_of t) h k = true≢false (sym k)
no_choice (sequence_size c t) h k = true≢false (sym k)
no_choice (choice more) h k = true≢false (sym k)
no_choice (reference from name) h k = true≢false (sym k)

-- what may be missing isn't always there
no_missing : (p : Position) → may_be_missing p ≡ true → stays p ≡ true → ⊥
no_missing (root owner name) h k = true≢false (sym h)
no_missing (part name rest) h k = true≢false (sym k ∙ ap not h)
no_missing (inserted name kind) h k = true≢false (sym h)
no_missing (alternative name) h k = true≢false (sym k)
no_missing element h k = true≢false (sym h)
no_missing content h k = true≢false (sym h)

-- a field at a site that is always there, with a number where it is a component
pub record FieldHere (ps : List Placed) (q : Path) : Type 0 where
  pub place : Placed
  pub listed : In place ps
  pub at : q ≡ place.site.path
  pub there : stays place.site.position ≡ true
  pub own_number : is_some (sort_of place.site.chain) ≡ true

abbrev pub the_use : Path → Path → Use
the_use user field = record { user = user; field = field }

module _ (w : World) (ps : List Placed) where
  abbrev inserts : List Path
  inserts = inserted_fields ps

  abbrev noted : List Use
  noted = uses_of w ps

  abbrev ss : Slots
  ss = slots inserts noted

  -- ---- the two lists

  own_field : (s : Site) (b : Bool) (q : Path) → In q (if b then s.path ∷ [] else []) → (b ≡ true) × (q ≡ s.path)
  own_field s true q m = (refl, first_is s.path q m (λ e. e))
  own_field s false q m = absurd m

  inserted_site : (q : Path) → In q inserts → (p : Placed) × In p ps × (q ≡ p.site.path) × (is_inserted p.site.position ≡ true) × (is_some (sort_of p.site.chain) ≡ true)
  unfolding inserted_fields
  inserted_site q m =
      let r = from_flat (λ (p : Placed). field_at p.site) ps q m in
      let o = own_field r.0.site (has_number r.0.site) q r.2 in
      let b = both_true (is_inserted r.0.site.position) (is_some (sort_of r.0.site.chain)) o.0 in
      (r.0, r.1, o.1, b.0, b.1)

  -- an inserted field with a number of its own
  pub inserted_listed : (p : Placed) → In p ps → is_inserted p.site.position ≡ true → is_some (sort_of p.site.chain) ≡ true → is_among p.site.path (named inserts noted) ≡ true
  unfolding inserted_fields
  inserted_listed p m i n =
      let own = subst (λ (b : Bool). In p.site.path (if b then p.site.path ∷ [] else [])) (sym (true_both (is_inserted p.site.position) (is_some (sort_of p.site.chain)) i n)) (inl refl) in
      passes (same p.site.path) (named inserts noted) p.site.path
      (in_front inserts (map (λ (u : Use). u.field) noted) p.site.path (in_flat (λ (p : Placed). field_at p.site) ps p p.site.path m own)) (is_same p.site.path p.site.path refl)

  noted_site : (u : Use) → In u noted → (p : Placed) × In p ps × (u.user ≡ p.site.path) × UsedBy w p.site u.field
  unfolding uses_of
  noted_site u m =
      let r = from_flat (λ (p : Placed). uses_at w p.site) ps u m in
      let f = was_mapped (λ (f : Path). the_use r.0.site.path f) (fields_used w r.0.site) u r.2 in
      (r.0, r.1, ap (λ (z : Use). z.user) f.2, subst (UsedBy w r.0.site) (ap (λ (z : Use). z.field) (sym f.2)) (used_tells w r.0.site f.0 f.1))

  use_listed : (p : Placed) → In p ps → (f : Path) → UsedBy w p.site f → In (the_use p.site.path f) noted
  unfolding uses_of
  use_listed p m f u = in_flat (λ (p : Placed). uses_at w p.site) ps p (the_use p.site.path f) m (is_mapped (λ (f : Path). the_use p.site.path f) (fields_used w p.site) f (tells_used w p.site f u))

  -- ---- with the nodes that stand for the sites

  module _ (root_node : Grammar) (known : Listing w ss ps (walk.nodes_of root_node)) (round : (p : Placed) → In p ps → ScopeRound w ss ps (walk.nodes_of root_node) known p.site.path p.site.scope) where
    abbrev all : List Stand
    all = walk.nodes_of root_node

    reach : (p : Placed) → In p ps → (f : Path) (u : UsedBy w p.site f) → Reach w ss ps all known p.site.path u.slot
    reach p m f u = leads_reach w ss ps all known p.site.path (scope_of w p.site u.given) (origin_round w ss ps all known p.site (round p m) u.given.from) u.names u.slot u.led

    used_here : (p : Placed) → In p ps → (f : Path) → UsedBy w p.site f → FieldHere ps f
    used_here p m f u =
        let d = (reach p m f u).down in
        record { place = d.place; listed = d.listed; at = sym u.field ∙ d.at; there = d.there; own_number = d.numbered }

    pub named_here : (q : Path) → is_among q (named inserts noted) ≡ true → FieldHere ps q
    named_here q h =
        let r = some_passes (same q) (named inserts noted) h in
        subst (FieldHere ps) (sym (same_is q r.0 r.2)) (split_in inserts (map (λ (u : Use). u.field) noted) r.0 r.1 (by_kind r.0) (by_use r.0))
      where
        by_kind : (q : Path) → In q inserts → FieldHere ps q
        by_kind q m = (let i = inserted_site q m in record { place = i.0; listed = i.1; at = i.2; there = stays_inserted i.0.site.position i.3; own_number = i.4 })

        by_use : (q : Path) → In q (map (λ (u : Use). u.field) noted) → FieldHere ps q
        by_use q m =
            let u = was_mapped (λ (u : Use). u.field) noted q m in
            let n = noted_site u.0 u.1 in
            subst (FieldHere ps) (sym u.2) (used_here n.0 n.1 u.0.field n.3)

    node_among : (p : Placed) → In p ps → (q : Path) → q ≡ p.site.path → is_among q (paths all) ≡ true
    node_among p m q e =
        let at = known.node p m in
        passes (same q) (paths all) at.0.path (is_mapped (λ (x : Stand). x.path) all at.0 at.1) (is_same q at.0.path (e ∙ sym at.2.path))

    -- ---- fact by fact

    fields_stand : (q : Path) → is_among q (named inserts noted) ≡ true → is_among q (paths all) ≡ true
    fields_stand q h = (let f = named_here q h in node_among f.place f.listed q f.at)

    users_stand : AllByRecursion (λ (u : Use). is_among u.user (paths all) ≡ true) noted
    users_stand = all_have (λ (u : Use). is_among u.user (paths all) ≡ true) noted (λ u m. (let n = noted_site u m in node_among n.0 n.1 u.user n.2))

    -- the slot of a node
    unnumbered : NamedFieldsAreNumbered → (at : Stand) (p : Placed) → In p ps → at.path ≡ p.site.path → stays p.site.position ≡ false → number ss at.path ≡ None
    unnumbered law at p m e n = is_none (number ss at.path) (is_false (is_some (number ss at.path)) none)
      where
        none : is_some (number ss at.path) ≡ true → ⊥
        none h =
            let f = named_here at.path (sym (law inserts noted at.path) ∙ h) in
            true≢false (sym f.there ∙ (ap (λ (s : Site). stays s.position) (sym (known.one p f.place m f.listed (sym e ∙ f.at))) ∙ n))

    slot_by : NamedFieldsAreNumbered → (at : Stand) (p : Placed) → In p ps → at.path ≡ p.site.path → (o : Position) → p.site.position ≡ o → IsRole w ss p.site at.role o → slot_here at.role ≡ number ss at.path
    slot_by law at p m e (root owner name) i r = ap slot_here r ∙ sym (unnumbered law at p m e (ap stays i))
    slot_by law at p m e (part name rest) i r = ap slot_here r ∙ ap (number ss) (sym e)
    slot_by law at p m e (inserted name kind) i r = ap slot_here r ∙ ap (number ss) (sym e)
    slot_by law at p m e (alternative name) i r = ap slot_here r.1 ∙ sym (unnumbered law at p m e (ap stays i))
    slot_by law at p m e element i r = ap slot_here r ∙ sym (unnumbered law at p m e (ap stays i))
    slot_by law at p m e content i r = ap slot_here r ∙ sym (unnumbered law at p m e (ap stays i))

    numbered : NamedFieldsAreNumbered → AllByRecursion (λ at. slot_here at.role ≡ number ss at.path) all
    numbered law = all_have (λ at. slot_here at.role ≡ number ss at.path) all (λ at m. (let p = known.site at m in slot_by law at p.0 p.1 p.2.path p.0.site.position refl p.2.role))

    -- components aren't listed
    component_by : (s : Site) (role : Role) (o : Position) → IsRole w ss s role o → is_inserted o ≡ true → is_component role ≡ false
    component_by s role (root owner name) r h = absurd (true≢false (sym h))
    component_by s role (part name rest) r h = absurd (true≢false (sym h))
    component_by s role (inserted name kind) r h = ap is_component r
    component_by s role (alternative name) r h = absurd (true≢false (sym h))
    component_by s role element r h = absurd (true≢false (sym h))
    component_by s role content r h = absurd (true≢false (sym h))

    not_listed : (at : Stand) → In at all → is_component at.role ≡ true → is_among at.path inserts ≡ false
    not_listed at m c = is_false (is_among at.path inserts) none
      where
        none : is_among at.path inserts ≡ true → ⊥
        none h =
            let p = known.site at m in
            let r = some_passes (same at.path) inserts h in
            let i = inserted_site r.0 r.1 in
            let e = known.one p.0 i.0 p.1 i.1 (sym p.2.path ∙ (same_is at.path r.0 r.2 ∙ i.2)) in
            true≢false (sym c ∙ component_by p.0.site at.role p.0.site.position p.2.role (ap (λ (s : Site). is_inserted s.position) e ∙ i.3))

    listed : AllByRecursion (λ at. is_component at.role ≡ true → is_among at.path inserts ≡ false) all
    listed = all_have (λ at. is_component at.role ≡ true → is_among at.path inserts ≡ false) all not_listed

    -- the uses of a node
    noted_there : (k : ℕ) (at : Stand) (p : Placed) → In p ps → StandsFor w ss at p.site → uses_slot k at ≡ true → is_noted ss noted k at.path ≡ true
    noted_there k at p m h t =
        let r = some_passes (nat_eq k) (map slot_of (walk.uses at)) t in
        let u = was_mapped slot_of (walk.uses at) r.0 r.1 in
        let n = uses_numbered w ss at p.site h u.0 u.1 in
        let e : slot_of u.0 ≡ k = sym u.2 ∙ sym (is_equal k r.0 r.2) in
        passes (λ (u : Use). same at.path u.user && is_slot k (number ss u.field)) noted (the_use p.site.path n.field) (use_listed p m n.field n.used)
        (true_both (same at.path p.site.path) (is_slot k (number ss n.field)) (is_same at.path p.site.path h.path) (slot_some k (number ss n.field) (n.number ∙ ap (λ (z : ℕ). Some z) e)))

    used_there : (k : ℕ) (at : Stand) (p : Placed) → In p ps → StandsFor w ss at p.site → is_noted ss noted k at.path ≡ true → uses_slot k at ≡ true
    used_there k at p m h t =
        let r = some_passes (λ (u : Use). same at.path u.user && is_slot k (number ss u.field)) noted t in
        let b = both_true (same at.path r.0.user) (is_slot k (number ss r.0.field)) r.2 in
        let n = noted_site r.0 r.1 in
        let e = known.one n.0 p n.1 m (sym n.2 ∙ (sym (same_is at.path r.0.user b.0) ∙ h.path)) in
        let u = subst (λ (s : Site). UsedBy w s r.0.field) e n.3 in
        let v = numbered_has w ss at p.site h (known.fine p m).stands k (record { field = r.0.field; used = u; number = some_slot k (number ss r.0.field) b.1 }) in
        passes (nat_eq k) (map slot_of (walk.uses at)) (slot_of v.0) (is_mapped slot_of (walk.uses at) v.0 v.1) (ap (nat_eq k) v.2 ∙ itself_equal k)

    uses_noted : (k : ℕ) → AllByRecursion (λ at. uses_slot k at ≡ is_noted ss noted k at.path) all
    uses_noted k = all_have (λ at. uses_slot k at ≡ is_noted ss noted k at.path) all
        (λ at m. (let p = known.site at m in same_bools (uses_slot k at) (is_noted ss noted k at.path) (noted_there k at p.0 p.1 p.2) (used_there k at p.0 p.1 p.2)))

    -- the slots that a SEQUENCE lists
    lists_octets : (here : List ℕ) (sizing : Sizing) (m : Site → Grammar) (xs : List Site) → Lists here (octets_at sizing m xs)
    lists_octets here sizing m [] = tt
    lists_octets here sizing m (x ∷ xs) = tt

    lists_by : (at : Stand) (s : Site) (n : ℕ) → at.path ≡ s.path → (b : AsnBase) → Lists (at_home ss at.path) (form_at w ss (made n w ss) s (class_of_base b))
    lists_by at s n e boolean = tt
    lists_by at s n e null = tt
    lists_by at s n e (integer ns) = tt
    lists_by at s n e (enumerated items) = tt
    lists_by at s n e octet_string = lists_octets (at_home ss at.path) (sizing_at w ss s) (made n w ss) (sites_below w s)
    lists_by at s n e bit_string = tt
    lists_by at s n e ia5_string = tt
    lists_by at s n e (sequence cs) = ap (at_home ss) (sym e)
    lists_by at s n e (sequence_of t) = tt
    lists_by at s n e (sequence_size c t) = tt
    lists_by at s n e (choice more) = tt
    lists_by at s n e (reference from name) = tt

    homes : AllByRecursion (λ at. Lists (at_home ss at.path) at.form) all
    homes = all_have (λ at. Lists (at_home ss at.path) at.form) all
        (λ at m. (let p = known.site at m in subst (Lists (at_home ss at.path)) (sym p.2.form.1) (lists_by at p.0.site p.2.form.0 p.2.path (base_of p.0.site))))

    -- fields in reach
    use_reaches : (u : Use) → In u noted → IsInReach all u
    use_reaches u m =
        let n = noted_site u m in
        let r = reach n.0 n.1 u.field n.3 in
        record {
          from = r.from;
          round_user = ap (goes_on r.from) n.2 ∙ r.round;
          round_field = ap (goes_on r.from) (sym n.3.field) ∙ r.down.on;
          way = subst (IsWay all r.from) n.3.field r.down.way;
        }

    in_reach : AllByRecursion (IsInReach all) noted
    in_reach = all_have (IsInReach all) noted use_reaches

    -- no field uses itself
    never_own : (p q : Placed) (f : Path) → In p ps → (u : UsedBy w p.site f) → p.site ≡ q.site → stays q.site.position ≡ true → is_some (sort_of q.site.chain) ≡ true → ⊥
    never_own p q f m u e t n = by (is_written w p.site u.of u.has_paths u.given u.near u.names u.there)
      where
        stands : stands_here p.site u.given.attr ≡ true
        stands = may_stand w p.site (known.fine p m).stands f u

        lasting : stays p.site.position ≡ true
        lasting = ap (λ (s : Site). stays s.position) e ∙ t

        own_number : is_some (sort_of p.site.chain) ≡ true
        own_number = ap (λ (s : Site). is_some (sort_of s.chain)) e ∙ n

        by : Written p.site u.given u.names → ⊥
        by (as_size near x a i) = no_sized (base_of p.site) (ap (stands_here p.site) (sym a) ∙ stands) own_number
        by (as_test near c k o i) = no_missing p.site.position (o ∙ stands) lasting
        by (as_item near x a i) = no_choice (base_of p.site) (ap (stands_here p.site) (sym a) ∙ stands) own_number

    differs : (u : Use) → In u noted → same u.user u.field ≡ false
    differs u m = is_false (same u.user u.field) none
      where
        none : same u.user u.field ≡ true → ⊥
        none h =
            let n = noted_site u m in
            let d = (reach n.0 n.1 u.field n.3).down in
            never_own n.0 d.place u.field n.1 n.3 (known.one n.0 d.place n.1 d.listed (sym n.2 ∙ (same_is u.user u.field h ∙ (sym n.3.field ∙ d.at)))) d.there d.numbered

    not_own : AllByRecursion (λ (u : Use). same u.user u.field ≡ false) noted
    not_own = all_have (λ (u : Use). same u.user u.field ≡ false) noted differs

    pub is_numbered : NamedFieldsAreNumbered → IsNumbered root_node inserts noted
    is_numbered law = record {
      numbered = numbered law;
      fields_stand = fields_stand;
      users_stand = users_stand;
      listed = listed;
      uses_noted = uses_noted;
      homes = homes;
      in_reach = in_reach;
      not_own = not_own;
    }
