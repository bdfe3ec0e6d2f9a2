-- Where the names of a path of ACN lead, one behind the other: from a SEQUENCE down to a field.
use Rattle.std.proofs.Common.{◌≡◌, ℕ, suc, Bool, true, false, true≢false, not, ◌&&◌, List, [], ◌∷◌, ◌++◌, map, find, Option, Some, None, option_map, is_some, if◌then◌else◌, refl, sym, ap, subst, ◌∙◌}
use Rattle.std.specs.List.{enumerate_from}
use Rattle.std.specs.Str.{bytes_eq}
use Rattle.acn_acn_syntax.specs.Mirror as acn
use Rattle.acn_asn_syntax.specs.Mirror.{AsnBase, Component, Components, component_list, boolean, null, integer, enumerated, octet_string, bit_string, ia5_string, sequence, sequence_of, sequence_size, choice, reference}
use Rattle.acn_grammar.specs.Tree.{is_seq}
use Rattle.acn_grammar.specs.Walk.{Stand}
use Rattle.acn_home_laws.specs.Laws.{goes_on}
use Rattle.acn_home_laws.specs.Numbered.{always_there, is_always, IsWay}
use Rattle.acn_home_laws.proofs.Members.{In, passes, is_mapped}
use Rattle.acn_home_laws.proofs.Onward.{is_same, true_both, on_by, on_through, begins_on}
use Rattle.acn_homes.specs.Homes.{Path, same}
use Rattle.acn_index.specs.World.{World}
use Rattle.acn_grammar.specs.declared.node.Presence.TheVariants.{Always, Bit, When}
use Rattle.acn_index.specs.Chains.{base_part, has_items}
use Rattle.acn_made.specs.Conditions.{tests_at}
use Rattle.acn_made.specs.Made.{made, form_at}
use Rattle.acn_made.specs.Named.{Slots}
use Rattle.acn_made_laws.proofs.Depth.{below_is}
use Rattle.acn_made_laws.proofs.Fine.{FineSite}
use Rattle.acn_made_laws.proofs.OnTheWay.{SeqAt, AlwaysAt, way_one, way_more}
use Rattle.acn_made_laws.proofs.Options.{same_some, then_some, map_some, found_in, is_given}
use Rattle.acn_made_laws.specs.Standing.{StandsFor, IsRole}
use Rattle.acn_num.specs.Names.{Name}
use Rattle.acn_reasons.specs.Classes.{class_of_base}
use Rattle.acn_sites.specs.Sites.{Site, Position, root, part, inserted, alternative, element, content, Placed, base_of, below, frame_in, in_sequence, field_site, inside_of, sites_in, sites_below}
use Rattle.acn_slots.specs.Slots.{Field, component, extra, Frame, Step, is_optional, fields_of, field_named, numbered_field, bare_field, name_in_text, components_in, sort_of, slot_at, field_step, step_at, follow, last_slot, up_to_absent}
use Rattle.acn_slots.specs.declared.slots.Sort.{Sort}
use Rattle.acn_slots.specs.declared.slots.Slot.{Slot}

-- a field that is always there
abbrev pub stays : Position → Bool
stays (root owner name) = false
stays (part name rest) = not (is_optional rest)
stays (inserted name kind) = true
stays (alternative name) = false
stays element = false
stays content = false

-- a component that is always there
abbrev pub is_kept : Position → Bool
is_kept (root owner name) = false
is_kept (part name rest) = not (is_optional rest)
is_kept (inserted name kind) = false
is_kept (alternative name) = false
is_kept element = false
is_kept content = false

-- The sites of a type with the nodes that stand for them.
pub record Listing (w : World) (ss : Slots) (ps : List Placed) (all : List Stand) : Type 0 where
  pub fine : (p : Placed) → In p ps → FineSite w p.site
  pub node : (p : Placed) → In p ps → (at : Stand) × In at all × StandsFor w ss at p.site
  pub site : (at : Stand) → In at all → (p : Placed) × In p ps × StandsFor w ss at p.site
  pub below : (p : Placed) → In p ps → (x : Site) → In x (sites_below w p.site) → (q : Placed) × In q ps × (q.site ≡ x)
  pub one : (p q : Placed) → In p ps → In q ps → p.site.path ≡ q.site.path → p.site ≡ q.site

named_field : (o : Option (List acn.Field)) (cs : List Component) (name : Name) (f : ℕ × Field) → field_named o cs name ≡ Some f → In f (fields_of o cs)
named_field None cs name f h =
    let r = map_some bare_field (find (λ (c : ℕ × Component). bytes_eq c.1.name name) (enumerate_from 0 cs)) f h in
    subst (λ (z : ℕ × Field). In z (map bare_field (enumerate_from 0 cs))) r.2 (is_mapped bare_field (enumerate_from 0 cs) r.0 (found_in (λ (c : ℕ × Component). bytes_eq c.1.name name) (enumerate_from 0 cs) r.0 r.1))
named_field (Some fs) cs name f h =
    let r = then_some (numbered_field cs) (find (λ (g : ℕ × acn.Field). bytes_eq (name_in_text g.1) name) (enumerate_from 0 fs)) f h in
    is_given (numbered_field cs) (enumerate_from 0 fs) r.0 f (found_in (λ (g : ℕ × acn.Field). bytes_eq (name_in_text g.1) name) (enumerate_from 0 fs) r.0 r.1) r.2

inside_sequence : (f : List Component → Frame) (b : AsnBase) (g : Frame) → option_map f (components_in b) ≡ Some g → (cs : Components) × (b ≡ sequence cs) × (f (component_list cs) ≡ g)
inside_sequence f boolean g h = absurd (cc h)
inside_sequence f null g h = absurd (cc h)
inside_sequence f (integer ns) g h = absurd (cc h)
inside_sequence f (enumerated items) g h = absurd (cc h)
inside_sequence f octet_string g h = absurd (cc h)
inside_sequence f bit_string g h = absurd (cc h)
inside_sequence f ia5_string g h = absurd (cc h)
inside_sequence f (sequence cs) g h = (cs, refl, same_some (f (component_list cs)) g h)
inside_sequence f (sequence_of t) g h = absurd (cc h)
inside_sequence f (sequence_size c t) g h = absurd (cc h)
inside_sequence f (choice more) g h = absurd (cc h)
inside_sequence f (reference from name) g h = absurd (cc h)

slot_there : (path : Path) (o : Option Sort) (x : Slot) → slot_at path o ≡ Some x → (x.path ≡ path) × (is_some o ≡ true)
slot_there path None x h = absurd (cc h)
slot_there path (Some s) x h = (ap (λ (z : Slot). z.path) (sym (same_some _ x h)), refl)

none_absent : (t : Bool) (o : Option ℕ) → (if t then Some 1 else option_map suc o) ≡ None → (t ≡ false) × (o ≡ None)
none_absent true o h = absurd (cc h)
none_absent false None h = (refl, refl)
none_absent false (Some n) h = absurd (cc h)

not_optional : (b : Bool) → b ≡ false → not b ≡ true
not_optional b e = ap not e

module _ (w : World) (ss : Slots) (ps : List Placed) (all : List Stand) (known : Listing w ss ps all) where
  -- ---- nodes of sites

  seq_form : (s : Site) (n : ℕ) (b : AsnBase) (cs : Components) → b ≡ sequence cs → is_seq (form_at w ss (made n w ss) s (class_of_base b)) ≡ true
  seq_form s n b cs e = ap (λ (z : AsnBase). is_seq (form_at w ss (made n w ss) s (class_of_base z))) e

  pub seq_site : (p : Placed) → In p ps → (cs : Components) → base_of p.site ≡ sequence cs → SeqAt all p.site.path
  seq_site p m cs e =
      let at = known.node p m in
      passes (λ (at : Stand). same p.site.path at.path && is_seq at.form) all at.0 at.1
      (true_both (same p.site.path at.0.path) (is_seq at.0.form) (is_same p.site.path at.0.path (sym at.2.path)) (ap is_seq at.2.form.1 ∙ seq_form p.site at.2.form.0 (base_of p.site) cs e))

  always_role : (at : Stand) (s : Site) (p : Position) → IsRole w ss s at.role p → is_kept p ≡ true → always_there at.role ≡ true
  always_role at s (root owner name) r k = absurd (true≢false (sym k))
  always_role at s (part name rest) r k = ap always_there r ∙ by (is_optional rest) k
    where
      by : (b : Bool) → not b ≡ true → is_always (if b then (if has_items (tests_at w ss s) then When (tests_at w ss s) else Bit) else Always) ≡ true
      by true h = absurd (true≢false (sym h))
      by false h = refl
  always_role at s (inserted name kind) r k = absurd (true≢false (sym k))
  always_role at s (alternative name) r k = absurd (true≢false (sym k))
  always_role at s element r k = absurd (true≢false (sym k))
  always_role at s content r k = absurd (true≢false (sym k))

  always_site : (p : Placed) → In p ps → is_kept p.site.position ≡ true → AlwaysAt all p.site.path
  always_site p m k =
      let at = known.node p m in
      passes (λ (at : Stand). same p.site.path at.path && always_there at.role) all at.0 at.1
      (true_both (same p.site.path at.0.path) (always_there at.0.role) (is_same p.site.path at.0.path (sym at.2.path)) (always_role at.0 p.site p.site.position at.2.role k))

  -- ---- one name

  -- a SEQUENCE that is entered is that of a site
  pub record FrameAt (f : Frame) : Type 0 where
    pub place : Placed
    pub listed : In place ps
    pub components : Components
    pub base : base_of place.site ≡ sequence components
    pub same_frame : f ≡ frame_in (component_list components) (below w place.site)

  -- a field to which a name leads there is that of a site
  pub record Stepped (f : Frame) (st : Step) : Type 0 where
    pub place : Placed
    pub listed : In place ps
    pub number : ℕ
    pub path : place.site.path ≡ f.path ++ number ∷ []
    pub slot : st.slot ≡ slot_at place.site.path (sort_of place.site.chain)
    pub there : st.optional ≡ false → stays place.site.position ≡ true
    pub inside : (g : Frame) → st.inside ≡ Some g → FrameAt g × (g.path ≡ place.site.path) × (st.optional ≡ false → is_kept place.site.position ≡ true)

  field_listed : (p : Placed) → In p ps → (cs : Components) → base_of p.site ≡ sequence cs → (f : ℕ × Field) → In f (fields_of (below w p.site).braces (component_list cs))
      → (q : Placed) × In q ps × (q.site ≡ field_site w (in_sequence (component_list cs) (below w p.site)) f)
  field_listed p m cs e f k =
      known.below p m (field_site w (in_sequence (component_list cs) (below w p.site)) f)
      (subst (In (field_site w (in_sequence (component_list cs) (below w p.site)) f)) (sym (below_is w p.site ∙ ap (λ (b : AsnBase). sites_in w p.site (inside_of b)) e))
      (is_mapped (field_site w (in_sequence (component_list cs) (below w p.site))) (fields_of (below w p.site).braces (component_list cs)) f k))

  field_stepped : (p : Placed) → In p ps → (cs : Components) → base_of p.site ≡ sequence cs → (f : ℕ × Field) → In f (fields_of (below w p.site).braces (component_list cs))
      → Stepped (frame_in (component_list cs) (below w p.site)) (field_step w (frame_in (component_list cs) (below w p.site)) f)
  field_stepped p m cs e (i, component c u) k =
      let q = field_listed p m cs e (i, component c u) k in
      record {
        place = q.0;
        listed = q.1;
        number = i;
        path = ap (λ (z : Site). z.path) q.2;
        slot = ap (λ (z : Site). slot_at z.path (sort_of z.chain)) (sym q.2);
        there = λ o. ap (λ (z : Site). stays z.position) q.2 ∙ ap not o;
        inside = λ g h.
            let x = field_site w (in_sequence (component_list cs) (below w p.site)) (i, component c u) in
            let r = inside_sequence _ (base_part x.chain.base) g h in (
              record { place = q.0; listed = q.1; components = r.0; base = ap (λ (z : Site). base_of z) q.2 ∙ r.1; same_frame = sym r.2 ∙ ap (λ (z : Site). frame_in (component_list r.0) (below w z)) (sym q.2) },
              sym (ap (λ (z : Frame). z.path) r.2) ∙ ap (λ (z : Site). z.path) (sym q.2),
              λ o. ap (λ (z : Site). is_kept z.position) q.2 ∙ ap not o,
            );
      }
  field_stepped p m cs e (i, extra name kind attributes) k =
      let q = field_listed p m cs e (i, extra name kind attributes) k in
      record {
        place = q.0;
        listed = q.1;
        number = i;
        path = ap (λ (z : Site). z.path) q.2;
        slot = ap (λ (z : Site). slot_at z.path (sort_of z.chain)) (sym q.2);
        there = λ o. ap (λ (z : Site). stays z.position) q.2;
        inside = λ g h. absurd (cc h);
      }

  stepped : (f : Frame) (name : Name) (st : Step) → FrameAt f → step_at w f name ≡ Some st → Stepped f st
  unfolding step_at
  stepped f name st a = subst (λ (f : Frame). step_at w f name ≡ Some st → Stepped f st) (sym a.same_frame) here
    where
      home : Frame
      home = frame_in (component_list a.components) (below w a.place.site)

      here : option_map (field_step w home) (field_named home.braces home.components name) ≡ Some st → Stepped home st
      here h =
          let r = map_some (field_step w home) (field_named home.braces home.components name) st h in
          subst (Stepped home) r.2 (field_stepped a.place a.listed a.components a.base r.0 (named_field home.braces home.components name r.0 r.1))

  -- ---- all names

  -- the field of a slot, in reach from a path
  pub record Down (from : Path) (x : Slot) : Type 0 where
    pub place : Placed
    pub listed : In place ps
    pub at : x.path ≡ place.site.path
    pub there : stays place.site.position ≡ true
    pub numbered : is_some (sort_of place.site.chain) ≡ true
    pub on : goes_on from x.path ≡ true
    pub way : IsWay all from x.path

  frame_path : (f : Frame) (a : FrameAt f) → a.place.site.path ≡ f.path
  frame_path f a = ap (λ (z : Frame). z.path) (sym a.same_frame)

  frame_seq : (f : Frame) → FrameAt f → SeqAt all f.path
  frame_seq f a = subst (SeqAt all) (frame_path f a) (seq_site a.place a.listed a.components a.base)

  last_down : (f : Frame) (st : Step) (x : Slot) → FrameAt f → Stepped f st → st.optional ≡ false → st.slot ≡ Some x → Down f.path x
  last_down f st x a s o h =
      let t = slot_there s.place.site.path (sort_of s.place.site.chain) x (sym s.slot ∙ h) in
      record {
        place = s.place;
        listed = s.listed;
        at = t.0;
        there = s.there o;
        numbered = t.1;
        on = ap (goes_on f.path) (t.0 ∙ s.path) ∙ on_by f.path s.number [];
        way = way_one all f.path x.path s.number (t.0 ∙ s.path) (frame_seq f a);
      }

  more_down : (f g : Frame) (st : Step) (x : Slot) → FrameAt f → (s : Stepped f st) → st.optional ≡ false → st.inside ≡ Some g → Down g.path x → Down f.path x
  more_down f g st x a s o i d =
      let t = s.inside g i in
      let e = t.1 ∙ s.path in
      let alive = subst (AlwaysAt all) (sym t.1) (always_site s.place s.listed (t.2 o)) in
      record {
        place = d.place;
        listed = d.listed;
        at = d.at;
        there = d.there;
        numbered = d.numbered;
        on = on_through f.path g.path x.path (begins_on f.path g.path (ap (goes_on f.path) e ∙ on_by f.path s.number [])) d.on;
        way = way_more all f.path g.path x.path s.number e (frame_seq f a) alive d.on d.way;
      }

  go_in : (f : Frame) (st : Step) (x : Slot) → FrameAt f → Stepped f st → st.optional ≡ false → (i : Option Frame) → st.inside ≡ i → (next : Name) (names : List Name) (more : List Step) → follow w i (next ∷ names) ≡ Some more
      → ((g : Frame) → FrameAt g → follow w (Some g) (next ∷ names) ≡ Some more → Down g.path x) → Down f.path x
  go_in f st x a s o None e next names more h rest = absurd (cc h)
  go_in f st x a s o (Some g) e next names more h rest = more_down f g st x a s o e (rest g (s.inside g e).0 h)

  pub followed : (names : List Name) (name : Name) (f : Frame) (steps : List Step) (o : Option Slot) (x : Slot) → FrameAt f → follow w (Some f) (name ∷ names) ≡ Some steps → up_to_absent steps ≡ None → last_slot o steps ≡ Some x → Down f.path x
  followed [] name f steps o x a h n l =
      let r = then_some (λ (s : Step). option_map (λ more. s ∷ more) (follow w s.inside [])) (step_at w f name) steps h in
      let b = map_some (λ more. r.0 ∷ more) (follow w r.0.inside []) steps r.2 in
      let e : steps ≡ r.0 ∷ [] = sym b.2 ∙ ap (λ (more : List Step). r.0 ∷ more) (sym (same_some [] b.0 b.1)) in
      let k = none_absent r.0.optional None (sym (ap up_to_absent e) ∙ n) in
      last_down f r.0 x a (stepped f name r.0 a r.1) k.0 (sym (ap (last_slot o) e) ∙ l)
  followed (next ∷ names) name f steps o x a h n l =
      let r = then_some (λ (s : Step). option_map (λ more. s ∷ more) (follow w s.inside (next ∷ names))) (step_at w f name) steps h in
      let b = map_some (λ more. r.0 ∷ more) (follow w r.0.inside (next ∷ names)) steps r.2 in
      let k = none_absent r.0.optional (up_to_absent b.0) (ap up_to_absent b.2 ∙ n) in
      go_in f r.0 x a (stepped f name r.0 a r.1) k.0 r.0.inside refl next names b.0 b.1
      (λ g c q. followed names next g b.0 r.0.slot x c q k.1 (ap (last_slot o) b.2 ∙ l))
