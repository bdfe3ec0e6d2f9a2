-- The fields that a site uses: what its nearest attributes say, and what its node has of it.
use Rattle.std.proofs.Common.{◌≡◌, ◌⊎◌, inl, inr, ℕ, ◌-◌, length, Bool, true, false, true≢false, List, [], ◌∷◌, map, filter_map, find, Option, Some, None, option_map, option_and_then, if◌then◌else◌, cond, refl, sym, ap, subst, ◌∙◌}
use Rattle.std.specs.List.{list_any, enumerate_from}
use Rattle.std.specs.Option.{option_or}
use Rattle.acn_acn_syntax.specs.declared.maps.Signed.{Signed}
use Rattle.acn_acn_syntax.specs.declared.modules.AcnPath.{AcnPath}
use Rattle.acn_acn_syntax.specs.declared.modules.Attr.{Attr}
use Rattle.acn_acn_syntax.specs.declared.modules.Attr.TheVariants as attr
use Rattle.acn_acn_syntax.specs.declared.modules.Condition.{Condition}
use Rattle.acn_acn_syntax.specs.declared.modules.SizeAttr.TheVariants as size
use Rattle.acn_asn_syntax.specs.Mirror.{AsnBase, boolean, null, integer, enumerated, octet_string, bit_string, ia5_string, sequence, sequence_of, sequence_size, choice, reference}
use Rattle.acn_grammar.specs.Grammar.{Grammar, Form}
use Rattle.acn_grammar.specs.View.{OneAlternative}
use Rattle.acn_grammar.specs.Walk as walk
use Rattle.acn_grammar.specs.Walk.{Role, own_tests, presence_tests, form_uses, rule_uses, choice_uses, condition, item_of, size_of, slot_of, component_role, alternative_role}
use Rattle.acn_grammar.specs.declared.node.ChoiceRule.TheVariants.{Index, Tests}
use Rattle.acn_grammar.specs.declared.node.Presence.TheVariants.{Always, Bit, When}
use Rattle.acn_grammar.specs.declared.node.Sizing.{Sizing}
use Rattle.acn_grammar.specs.declared.node.Test.{Test}
use Rattle.acn_home_laws.proofs.Members.{In, was_mapped, is_mapped, was_given, in_front, in_back, split_in, first_is}
use Rattle.acn_homes.specs.Homes.{Path, number}
use Rattle.acn_index.specs.Chains.{has_items}
use Rattle.acn_index.specs.Lookup.{EntryAt}
use Rattle.acn_index.specs.World.{World}
use Rattle.acn_leaves.specs.Widths.{least_width}
use Rattle.acn_made.specs.Conditions.{conditions_in, test_of, test_in, tests_in, tests_at}
use Rattle.acn_made.specs.Made.{made, form_at, alternative_at, octets_at, told_by, has_tests}
use Rattle.acn_made.specs.Named.{Slots, number_led, number_named, path_in, determinant_in, determinant_by}
use Rattle.acn_made.specs.Sized.{said_by, ended_or, terminated_or, sizing_at}
use Rattle.acn_made_laws.proofs.Listed.{in_flat, from_flat}
use Rattle.acn_made_laws.proofs.Options.{same_some, then_some, map_some, is_given}
use Rattle.acn_made_laws.specs.Standing.{StandsFor, IsRole}
use Rattle.acn_num.specs.Names.{Name}
use Rattle.acn_num.specs.Ranges.{Ranges}
use Rattle.acn_reasons.specs.Classes.{class_of, class_of_base, is_sized, is_choice, size_in, is_ended}
use Rattle.acn_reasons.specs.Paths.{condition_path, paths_in, kinds_with_paths}
use Rattle.acn_reasons.specs.Standing.{may_be_missing, stands_here, stranger, unless_here, all_kinds, attribute_not_here}
use Rattle.acn_sites.specs.Attributes.{is_of, Given, given_at, given_in, given_at_entry, given_along, nearest, place_of, scope_of}
use Rattle.acn_sites.specs.Places.{Place, is_before, sooner, earliest_from, found_there}
use Rattle.acn_sites.specs.Sites.{Site, Position, root, part, inserted, alternative, element, content, sites_below, base_of}
use Rattle.acn_sites.specs.declared.attributes.AttrKind.{AttrKind}
use Rattle.acn_sites.specs.declared.attributes.AttrKind.TheVariants as kind
use Rattle.acn_slots.specs.Slots.{Scope, is_optional, leads, Origin, at_use, at_entry}
use Rattle.acn_slots.specs.declared.slots.Lead.{Lead}
use Rattle.acn_slots.specs.declared.slots.Lead.TheVariants as lead
use Rattle.acn_slots.specs.declared.slots.Slot.{Slot}
use Rattle.acn_survey.specs.Walk.{field_path, named_field, fields_named, fields_used}
use Rattle.acn_written.specs.Ends.{end_of, ended_by}
use Rattle.acn_written.specs.Sizes.{sizes_at}

-- ---- the nearest attribute is of its kind

pub found_test : {X : Type 0} (test : X → Bool) (xs : List X) (x : X) → find test xs ≡ Some x → test x ≡ true
found_test test [] x h = absurd (cc h)
found_test {X} test (y ∷ ys) x h = by (test y) refl h (found_test test ys x)
  where
    by : (b : Bool) → test y ≡ b → cond b (Some y) (find test ys) ≡ Some x → (find test ys ≡ Some x → test x ≡ true) → test x ≡ true
    by true e g rest = ap test (sym (same_some y x g)) ∙ e
    by false e g rest = rest g

in_bracket : (k : AttrKind) (from : Origin) (attributes : List Attr) (g : Given) → given_in k from attributes ≡ Some g → is_of k g.attr ≡ true
in_bracket k from attributes g h =
    let r = map_some (given_at from) (find (λ (a : ℕ × Attr). is_of k a.1) (enumerate_from 0 attributes)) g h in
    ap (λ (z : Given). is_of k z.attr) (sym r.2) ∙ found_test (λ (a : ℕ × Attr). is_of k a.1) (enumerate_from 0 attributes) r.0 r.1

or_either : {A : Type 0} (a b : Option A) (x : A) → option_or a b ≡ Some x → (a ≡ Some x) ⊎ (b ≡ Some x)
or_either None b x h = inr h
or_either (Some y) b x h = inl h

along : (k : AttrKind) (es : List EntryAt) (g : Given) → given_along k es ≡ Some g → is_of k g.attr ≡ true
along k [] g h = absurd (cc h)
along k (e ∷ es) g h = by (or_either (given_along k es) (given_at_entry k e) g h) (along k es g)
  where
    by : (given_along k es ≡ Some g) ⊎ (given_at_entry k e ≡ Some g) → (given_along k es ≡ Some g → is_of k g.attr ≡ true) → is_of k g.attr ≡ true
    by (inl i) rest = rest i
    by (inr i) rest = in_bracket k (at_entry e) e.is.attributes g i

nearest_kind : (k : AttrKind) (s : Site) (g : Given) → nearest k s ≡ Some g → is_of k g.attr ≡ true
unfolding nearest
nearest_kind k s g h = by (or_either (given_in k at_use s.used.attributes) (given_along k s.chain.entries) g h)
  where
    by : (given_in k at_use s.used.attributes ≡ Some g) ⊎ (given_along k s.chain.entries ≡ Some g) → is_of k g.attr ≡ true
    by (inl i) = in_bracket k at_use s.used.attributes g i
    by (inr i) = along k s.chain.entries g i

-- ---- a field that a site uses

led_path : (l : Lead) (f : Path) → field_path l ≡ Some f → (x : Slot) × (l ≡ lead.Slot x) × (x.path ≡ f)
led_path (lead.Slot x) f h = (x, refl, same_some x.path f h)
led_path lead.Nowhere f h = absurd (cc h)
led_path (lead.Absent n x) f h = absurd (cc h)

led_number : (ss : Slots) (l : Lead) (k : ℕ) → number_led ss l ≡ Some k → (x : Slot) × (l ≡ lead.Slot x) × (number ss x.path ≡ Some k)
led_number ss (lead.Slot x) k h = (x, refl, h)
led_number ss lead.Nowhere k h = absurd (cc h)
led_number ss (lead.Absent n x) k h = absurd (cc h)

-- by one of the nearest attributes with paths
pub record UsedBy (w : World) (s : Site) (f : Path) : Type 0 where
  pub of : AttrKind
  pub has_paths : In of kinds_with_paths
  pub given : Given
  pub near : nearest of s ≡ Some given
  pub names : List Name
  pub there : In names (paths_in given.attr)
  pub slot : Slot
  pub led : leads w (scope_of w s given) names ≡ lead.Slot slot
  pub field : slot.path ≡ f

-- which attribute it is
pub data Written (s : Site) (g : Given) (names : List Name) : Type 0 where
  as_size : nearest kind.Size s ≡ Some g → (p : AcnPath) → g.attr ≡ attr.Size (size.Path p) → names ≡ p.names → Written s g names
  as_test : nearest kind.PresentWhen s ≡ Some g → (c : Condition) → In c (conditions_in g.attr) → may_be_missing s.position ≡ stands_here s g.attr → names ≡ c.path.names → Written s g names
  as_item : nearest kind.Determinant s ≡ Some g → (p : AcnPath) → g.attr ≡ attr.Determinant p → names ≡ p.names → Written s g names

module _ (w : World) where
  pub used_tells : (s : Site) (f : Path) → In f (fields_used w s) → UsedBy w s f
  used_tells s f m = by r.0 r.1 (nearest r.0 s) refl r.2
    where
      r : (k : AttrKind) × In k kinds_with_paths × In f (fields_named w s (nearest k s))
      r = from_flat (λ (k : AttrKind). fields_named w s (nearest k s)) kinds_with_paths f m

      by : (k : AttrKind) → In k kinds_with_paths → (o : Option Given) → nearest k s ≡ o → In f (fields_named w s o) → UsedBy w s f
      by k i None e n = absurd n
      by k i (Some g) e n =
          let a = was_given (named_field w (scope_of w s g)) (paths_in g.attr) f n in
          let x = led_path (leads w (scope_of w s g) a.0) f a.2 in
          record { of = k; has_paths = i; given = g; near = e; names = a.0; there = a.1; slot = x.0; led = x.1; field = x.2 }

  pub tells_used : (s : Site) (f : Path) → UsedBy w s f → In f (fields_used w s)
  tells_used s f u =
      in_flat (λ (k : AttrKind). fields_named w s (nearest k s)) kinds_with_paths u.of f u.has_paths
      (subst (λ (o : Option Given). In f (fields_named w s o)) (sym u.near)
      (is_given (named_field w (scope_of w s u.given)) (paths_in u.given.attr) u.names f u.there (ap field_path u.led ∙ ap (λ (p : Path). Some p) u.field)))

  -- ---- what the determinant of an attribute is

  path_there : (a : Attr) (names : List Name) → path_in a ≡ Some names → In names (paths_in a)
  path_there (attr.Size (size.Number n)) names h = absurd (cc h)
  path_there (attr.Size size.NullTerminated) names h = absurd (cc h)
  path_there (attr.Size (size.Path p)) names h = inl (sym (same_some p.names names h))
  path_there (attr.Encoding e) names h = absurd (cc h)
  path_there (attr.Endianness e) names h = absurd (cc h)
  path_there (attr.AlignToNext e) names h = absurd (cc h)
  path_there attr.EncodeValues names h = absurd (cc h)
  path_there (attr.TrueValue l) names h = absurd (cc h)
  path_there (attr.FalseValue l) names h = absurd (cc h)
  path_there (attr.Pattern l) names h = absurd (cc h)
  path_there (attr.TerminationPattern l) names h = absurd (cc h)
  path_there (attr.PresentWhen cs) names h = absurd (cc h)
  path_there (attr.Determinant p) names h = inl (sym (same_some p.names names h))
  path_there (attr.MappingFunction n) names h = absurd (cc h)

  -- the number of a field that a site uses
  pub record Numbered (ss : Slots) (s : Site) (k : ℕ) : Type 0 where
    pub field : Path
    pub used : UsedBy w s field
    pub number : number ss field ≡ Some k

  determinant_used : (ss : Slots) (s : Site) (k : AttrKind) → In k kinds_with_paths → (n : ℕ) (o : Option Given) → nearest k s ≡ o → determinant_in w ss s o ≡ Some n → Numbered ss s n
  determinant_used ss s k i n None e h = absurd (cc h)
  determinant_used ss s k i n (Some g) e h =
      let a = then_some (number_named w ss (scope_of w s g)) (path_in g.attr) n h in
      let x = led_number ss (leads w (scope_of w s g) a.0) n a.2 in
      record { field = x.0.path; used = record { of = k; has_paths = i; given = g; near = e; names = a.0; there = path_there g.attr a.0 a.1; slot = x.0; led = x.1; field = refl }; number = x.2 }

  size_used : (ss : Slots) (s : Site) (n : ℕ) → determinant_by kind.Size w ss s ≡ Some n → Numbered ss s n
  size_used ss s n h = determinant_used ss s kind.Size (inl refl) n (nearest kind.Size s) refl h

  item_used : (ss : Slots) (s : Site) (n : ℕ) → determinant_by kind.Determinant w ss s ≡ Some n → Numbered ss s n
  item_used ss s n h = determinant_used ss s kind.Determinant (inr (inr (inl refl))) n (nearest kind.Determinant s) refl h

  tests_slot : (o : Option Signed) (n : ℕ) → slot_of (condition (test_of o n)) ≡ n
  tests_slot None n = refl
  tests_slot (Some x) n = refl

  condition_there : (a : Attr) (c : Condition) → In c (conditions_in a) → In c.path.names (paths_in a)
  condition_there (attr.Size x) c m = absurd m
  condition_there (attr.Encoding e) c m = absurd m
  condition_there (attr.Endianness e) c m = absurd m
  condition_there (attr.AlignToNext e) c m = absurd m
  condition_there attr.EncodeValues c m = absurd m
  condition_there (attr.TrueValue l) c m = absurd m
  condition_there (attr.FalseValue l) c m = absurd m
  condition_there (attr.Pattern l) c m = absurd m
  condition_there (attr.TerminationPattern l) c m = absurd m
  condition_there (attr.PresentWhen cs) c m = is_mapped condition_path cs c m
  condition_there (attr.Determinant p) c m = absurd m
  condition_there (attr.MappingFunction n) c m = absurd m

  tests_used : (ss : Slots) (s : Site) (t : Test) (o : Option Given) → nearest kind.PresentWhen s ≡ o → In t (tests_in w ss s o) → Numbered ss s (slot_of (condition t))
  tests_used ss s t None e m = absurd m
  tests_used ss s t (Some g) e m =
      let c = was_given (test_in w ss (scope_of w s g)) (conditions_in g.attr) t m in
      let n = map_some (test_of c.0.equals) (number_named w ss (scope_of w s g) c.0.path.names) t c.2 in
      let x = led_number ss (leads w (scope_of w s g) c.0.path.names) n.0 n.1 in
      subst (Numbered ss s) (sym (tests_slot c.0.equals n.0) ∙ ap (λ (z : Test). slot_of (condition z)) n.2)
      (record { field = x.0.path; used = record { of = kind.PresentWhen; has_paths = inr (inl refl); given = g; near = e; names = c.0.path.names; there = condition_there g.attr c.0 c.1; slot = x.0; led = x.1; field = refl }; number = x.2 })

  -- ---- what a node uses is used by its site

  rule_tells : (o : Option ℕ) (sizes : Ranges) (u : walk.Use) → In u (rule_uses (said_by o sizes)) → o ≡ Some (slot_of u)
  rule_tells None sizes u m = absurd m
  rule_tells (Some n) sizes u m = first_is (size_of n) u m (λ e. ap (λ (z : walk.Use). Some (slot_of z)) (sym e))

  ended_tells : (end : Option (List Bool)) (o : Option ℕ) (sizes : Ranges) (u : walk.Use) → In u (rule_uses (ended_or end (said_by o sizes))) → o ≡ Some (slot_of u)
  ended_tells None o sizes u m = rule_tells o sizes u m
  ended_tells (Some end) o sizes u m = absurd m

  terminated_tells : (end : Option (List Bool)) (o : Option ℕ) (sizes : Ranges) (u : walk.Use) → In u (rule_uses (terminated_or end (said_by o sizes))) → o ≡ Some (slot_of u)
  terminated_tells None o sizes u m = rule_tells o sizes u m
  terminated_tells (Some end) o sizes u m = absurd m

  octets_tells : (sizing : Sizing) (m : Site → Grammar) (xs : List Site) (u : walk.Use) → In u (form_uses (octets_at sizing m xs)) → In u (rule_uses sizing.rule)
  octets_tells sizing m [] u k = k
  octets_tells sizing m (x ∷ xs) u k = k

  neither : (b : Bool) (n : ℕ) (u : walk.Use) → In u (choice_uses (if b then Tests else Index n)) → ⊥
  neither true n u k = k
  neither false n u k = k

  told_tells : (o : Option ℕ) (cases : List OneAlternative) (u : walk.Use) → In u (choice_uses (told_by o cases)) → o ≡ Some (slot_of u)
  told_tells (Some n) cases u m = first_is (item_of n) u m (λ e. ap (λ (z : walk.Use). Some (slot_of z)) (sym e))
  told_tells None cases u m = absurd (neither (list_any has_tests cases) (least_width (length cases - 1)) u m)

  form_tells : (ss : Slots) (s : Site) (n : ℕ) (b : AsnBase) (u : walk.Use) → In u (form_uses (form_at w ss (made n w ss) s (class_of_base b))) → Numbered ss s (slot_of u)
  form_tells ss s n boolean u m = absurd m
  form_tells ss s n null u m = absurd m
  form_tells ss s n (integer ns) u m = absurd m
  form_tells ss s n (enumerated items) u m = absurd m
  form_tells ss s n octet_string u m = size_used ss s (slot_of u) (rule_tells (determinant_by kind.Size w ss s) (sizes_at w s) u (octets_tells (sizing_at w ss s) (made n w ss) (sites_below w s) u m))
  form_tells ss s n bit_string u m = size_used ss s (slot_of u) (rule_tells (determinant_by kind.Size w ss s) (sizes_at w s) u m)
  form_tells ss s n ia5_string u m = size_used ss s (slot_of u) (terminated_tells (ended_by s) (determinant_by kind.Size w ss s) (sizes_at w s) u m)
  form_tells ss s n (sequence cs) u m = absurd m
  form_tells ss s n (sequence_of t) u m = size_used ss s (slot_of u) (ended_tells (ended_by s) (determinant_by kind.Size w ss s) (sizes_at w s) u m)
  form_tells ss s n (sequence_size c t) u m = size_used ss s (slot_of u) (ended_tells (ended_by s) (determinant_by kind.Size w ss s) (sizes_at w s) u m)
  form_tells ss s n (choice more) u m = item_used ss s (slot_of u) (told_tells (determinant_by kind.Determinant w ss s) (filter_map (alternative_at w ss (made n w ss)) (sites_below w s)) u m)
  form_tells ss s n (reference from name) u m = absurd m

  presence_tells : (optional : Bool) (ts : List Test) (t : Test) → In t (presence_tests (if optional then (if has_items ts then When ts else Bit) else Always)) → In t ts
  presence_tells true [] t m = absurd m
  presence_tells true (x ∷ ts) t m = m
  presence_tells false ts t m = absurd m

  role_tells : (ss : Slots) (s : Site) (role : Role) (p : Position) → IsRole w ss s role p → (t : Test) → In t (own_tests role) → In t (tests_at w ss s)
  role_tells ss s role (root owner name) r t m = absurd (subst (λ (z : Role). In t (own_tests z)) r m)
  role_tells ss s role (part name rest) r t m = presence_tells (is_optional rest) (tests_at w ss s) t (subst (λ (z : Role). In t (own_tests z)) r m)
  role_tells ss s role (inserted name kind) r t m = absurd (subst (λ (z : Role). In t (own_tests z)) r m)
  role_tells ss s role (alternative name) r t m = subst (λ (z : Role). In t (own_tests z)) r.1 m
  role_tells ss s role element r t m = absurd (subst (λ (z : Role). In t (own_tests z)) r m)
  role_tells ss s role content r t m = absurd (subst (λ (z : Role). In t (own_tests z)) r m)

  -- the number of a slot that a node uses is that of a field that its site uses
  pub uses_numbered : (ss : Slots) (at : walk.Stand) (s : Site) → StandsFor w ss at s → (u : walk.Use) → In u (walk.uses at) → Numbered ss s (slot_of u)
  uses_numbered ss at s h u m = split_in (map condition (own_tests at.role)) (form_uses at.form) u m by_test by_form
    where
      by_test : In u (map condition (own_tests at.role)) → Numbered ss s (slot_of u)
      by_test k =
          let t = was_mapped condition (own_tests at.role) u k in
          subst (λ (z : walk.Use). Numbered ss s (slot_of z)) (sym t.2) (tests_used ss s t.0 (nearest kind.PresentWhen s) refl (role_tells ss s at.role s.position h.role t.0 t.1))

      by_form : In u (form_uses at.form) → Numbered ss s (slot_of u)
      by_form k = form_tells ss s h.form.0 (base_of s) u (subst (λ (z : Form). In u (form_uses z)) h.form.1 k)

  -- ---- what a site uses its node has

  no_sooner : (best x : Option (Place × AttrKind)) → sooner best x ≡ None → (best ≡ None) × (x ≡ None)
  no_sooner None None h = (refl, refl)
  no_sooner (Some b) None h = absurd (cc h)
  no_sooner None (Some x) h = absurd (cc h)
  no_sooner (Some b) (Some x) h = absurd (by (is_before x.0 b.0) h)
    where
      by : (t : Bool) → (if t then Some x else Some b) ≡ None → ⊥
      by true g = cc g
      by false g = cc g

  none_earliest : (f : AttrKind → Option (Place × AttrKind)) (best : Option (Place × AttrKind)) (ks : List AttrKind) → earliest_from f best ks ≡ None → (best ≡ None) × ((k : AttrKind) → In k ks → f k ≡ None)
  none_earliest f best [] h = (h, λ k m. absurd m)
  none_earliest f best (j ∷ ks) h =
      let r = none_earliest f (sooner best (f j)) ks h in
      let s = no_sooner best (f j) r.0 in
      (s.0, λ k m. here k m s.1 r.1)
    where
      here : (k : AttrKind) → (k ≡ j) ⊎ In k ks → f j ≡ None → ((k : AttrKind) → In k ks → f k ≡ None) → f k ≡ None
      here k (inl e) a b = ap f e ∙ a
      here k (inr i) a b = b k i

  nothing_found : (o : Option (Place × AttrKind)) → found_there o ≡ None → o ≡ None
  nothing_found None h = refl
  nothing_found (Some x) h = absurd (cc h)

  no_stranger : (s : Site) → attribute_not_here s ≡ None → (k : AttrKind) → In k all_kinds → stranger s k ≡ None
  unfolding attribute_not_here
  no_stranger s h = (none_earliest (stranger s) None all_kinds (nothing_found (earliest_from (stranger s) None all_kinds) h)).1

  stands_there : (s : Site) (k : AttrKind) (g : Given) (o : Option Given) → o ≡ Some g → unless_here s k o ≡ None → stands_here s g.attr ≡ true
  stands_there s k g None e h = absurd (cc e)
  stands_there s k g (Some f) e h = ap (λ (z : Given). stands_here s z.attr) (sym (same_some f g e)) ∙ by (stands_here s f.attr) (place_of s f, k) h
    where
      by : (b : Bool) (x : Place × AttrKind) → (if b then None else Some x) ≡ None → b ≡ true
      by true x i = refl
      by false x i = absurd (cc i)

  known_kind : (k : AttrKind) → In k kinds_with_paths → In k all_kinds
  known_kind k (inl e) = inl e
  known_kind k (inr (inl e)) = inr (inr (inr (inr (inr (inr (inr (inr (inr (inl e)))))))))
  known_kind k (inr (inr (inl e))) = inr (inr (inr (inr (inr (inr (inr (inr (inr (inr (inl e))))))))))
  known_kind k (inr (inr (inr m))) = absurd m

  pub may_stand : (s : Site) → attribute_not_here s ≡ None → (f : Path) (u : UsedBy w s f) → stands_here s u.given.attr ≡ true
  may_stand s h f u = stands_there s u.of u.given (nearest u.of s) u.near (no_stranger s h u.of (known_kind u.of u.has_paths))

  first_name : (a : List Name) (b : List Name) → In a (b ∷ []) → a ≡ b
  first_name a b m = first_is b a m (λ e. e)

  size_only : (a : Attr) → is_of kind.Size a ≡ true → (names : List Name) → In names (paths_in a) → (p : AcnPath) × (a ≡ attr.Size (size.Path p)) × (names ≡ p.names)
  size_only (attr.Size (size.Number n)) h names m = absurd m
  size_only (attr.Size size.NullTerminated) h names m = absurd m
  size_only (attr.Size (size.Path p)) h names m = (p, refl, first_name names p.names m)
  size_only (attr.Encoding e) h names m = absurd m
  size_only (attr.Endianness e) h names m = absurd m
  size_only (attr.AlignToNext e) h names m = absurd m
  size_only attr.EncodeValues h names m = absurd m
  size_only (attr.TrueValue l) h names m = absurd m
  size_only (attr.FalseValue l) h names m = absurd m
  size_only (attr.Pattern l) h names m = absurd m
  size_only (attr.TerminationPattern l) h names m = absurd m
  size_only (attr.PresentWhen cs) h names m = absurd (true≢false (sym h))
  size_only (attr.Determinant p) h names m = absurd (true≢false (sym h))
  size_only (attr.MappingFunction n) h names m = absurd m

  item_only : (a : Attr) → is_of kind.Determinant a ≡ true → (names : List Name) → In names (paths_in a) → (p : AcnPath) × (a ≡ attr.Determinant p) × (names ≡ p.names)
  item_only (attr.Size x) h names m = absurd (true≢false (sym h))
  item_only (attr.Encoding e) h names m = absurd m
  item_only (attr.Endianness e) h names m = absurd m
  item_only (attr.AlignToNext e) h names m = absurd m
  item_only attr.EncodeValues h names m = absurd m
  item_only (attr.TrueValue l) h names m = absurd m
  item_only (attr.FalseValue l) h names m = absurd m
  item_only (attr.Pattern l) h names m = absurd m
  item_only (attr.TerminationPattern l) h names m = absurd m
  item_only (attr.PresentWhen cs) h names m = absurd (true≢false (sym h))
  item_only (attr.Determinant p) h names m = (p, refl, first_name names p.names m)
  item_only (attr.MappingFunction n) h names m = absurd m

  test_only : (s : Site) (a : Attr) → is_of kind.PresentWhen a ≡ true → (names : List Name) → In names (paths_in a) → (c : Condition) × In c (conditions_in a) × (may_be_missing s.position ≡ stands_here s a) × (names ≡ c.path.names)
  test_only s (attr.Size x) h names m = absurd (true≢false (sym h))
  test_only s (attr.Encoding e) h names m = absurd m
  test_only s (attr.Endianness e) h names m = absurd m
  test_only s (attr.AlignToNext e) h names m = absurd m
  test_only s attr.EncodeValues h names m = absurd m
  test_only s (attr.TrueValue l) h names m = absurd m
  test_only s (attr.FalseValue l) h names m = absurd m
  test_only s (attr.Pattern l) h names m = absurd m
  test_only s (attr.TerminationPattern l) h names m = absurd m
  test_only s (attr.PresentWhen cs) h names m = (let r = was_mapped condition_path cs names m in (r.0, r.1, refl, r.2))
  test_only s (attr.Determinant p) h names m = absurd (true≢false (sym h))
  test_only s (attr.MappingFunction n) h names m = absurd m

  pub is_written : (s : Site) (k : AttrKind) → In k kinds_with_paths → (g : Given) → nearest k s ≡ Some g → (names : List Name) → In names (paths_in g.attr) → Written s g names
  is_written s k (inl e) g near names m =
      let near' = ap (λ (j : AttrKind). nearest j s) (sym e) ∙ near in
      let r = size_only g.attr (nearest_kind kind.Size s g near') names m in
      as_size near' r.0 r.1 r.2
  is_written s k (inr (inl e)) g near names m =
      let near' = ap (λ (j : AttrKind). nearest j s) (sym e) ∙ near in
      let r = test_only s g.attr (nearest_kind kind.PresentWhen s g near') names m in
      as_test near' r.0 r.1 r.2 r.3
  is_written s k (inr (inr (inl e))) g near names m =
      let near' = ap (λ (j : AttrKind). nearest j s) (sym e) ∙ near in
      let r = item_only g.attr (nearest_kind kind.Determinant s g near') names m in
      as_item near' r.0 r.1 r.2
  is_written s k (inr (inr (inr i))) g near names m = absurd i

  -- ---- the use of the node

  abbrev pub Has : Slots → walk.Stand → ℕ → Type 0
  Has ss at k = (u : walk.Use) × In u (walk.uses at) × (slot_of u ≡ k)

  octets_have : (sizing : Sizing) (m : Site → Grammar) (xs : List Site) (u : walk.Use) → In u (rule_uses sizing.rule) → In u (form_uses (octets_at sizing m xs))
  octets_have sizing m [] u k = k
  octets_have sizing m (x ∷ xs) u k = k

  said_has : (o : Option ℕ) (sizes : Ranges) (k : ℕ) → o ≡ Some k → In (size_of k) (rule_uses (said_by o sizes))
  said_has o sizes k e = subst (λ (z : Option ℕ). In (size_of k) (rule_uses (said_by z sizes))) (sym e) (inl refl)

  ended_has : (end : Option (List Bool)) (o : Option ℕ) (sizes : Ranges) (k : ℕ) → end ≡ None → o ≡ Some k → In (size_of k) (rule_uses (ended_or end (said_by o sizes)))
  ended_has end o sizes k n e = subst (λ (z : Option (List Bool)). In (size_of k) (rule_uses (ended_or z (said_by o sizes)))) (sym n) (said_has o sizes k e)

  terminated_has : (end : Option (List Bool)) (o : Option ℕ) (sizes : Ranges) (k : ℕ) → end ≡ None → o ≡ Some k → In (size_of k) (rule_uses (terminated_or end (said_by o sizes)))
  terminated_has end o sizes k n e = subst (λ (z : Option (List Bool)). In (size_of k) (rule_uses (terminated_or z (said_by o sizes)))) (sym n) (said_has o sizes k e)

  told_has : (o : Option ℕ) (cases : List OneAlternative) (k : ℕ) → o ≡ Some k → In (item_of k) (choice_uses (told_by o cases))
  told_has o cases k e = subst (λ (z : Option ℕ). In (item_of k) (choice_uses (told_by z cases))) (sym e) (inl refl)

  sized_has : (ss : Slots) (s : Site) (n : ℕ) (b : AsnBase) (k : ℕ) → is_sized (class_of_base b) ≡ true → determinant_by kind.Size w ss s ≡ Some k → ended_by s ≡ None → In (size_of k) (form_uses (form_at w ss (made n w ss) s (class_of_base b)))
  sized_has ss s n boolean k h d e = absurd (true≢false (sym h))
  sized_has ss s n null k h d e = absurd (true≢false (sym h))
  sized_has ss s n (integer ns) k h d e = absurd (true≢false (sym h))
  sized_has ss s n (enumerated items) k h d e = absurd (true≢false (sym h))
  sized_has ss s n octet_string k h d e = octets_have (sizing_at w ss s) (made n w ss) (sites_below w s) (size_of k) (said_has (determinant_by kind.Size w ss s) (sizes_at w s) k d)
  sized_has ss s n bit_string k h d e = said_has (determinant_by kind.Size w ss s) (sizes_at w s) k d
  sized_has ss s n ia5_string k h d e = terminated_has (ended_by s) (determinant_by kind.Size w ss s) (sizes_at w s) k e d
  sized_has ss s n (sequence cs) k h d e = absurd (true≢false (sym h))
  sized_has ss s n (sequence_of t) k h d e = ended_has (ended_by s) (determinant_by kind.Size w ss s) (sizes_at w s) k e d
  sized_has ss s n (sequence_size c t) k h d e = ended_has (ended_by s) (determinant_by kind.Size w ss s) (sizes_at w s) k e d
  sized_has ss s n (choice more) k h d e = absurd (true≢false (sym h))
  sized_has ss s n (reference from name) k h d e = absurd (true≢false (sym h))

  choice_has : (ss : Slots) (s : Site) (n : ℕ) (b : AsnBase) (k : ℕ) → is_choice (class_of_base b) ≡ true → determinant_by kind.Determinant w ss s ≡ Some k → In (item_of k) (form_uses (form_at w ss (made n w ss) s (class_of_base b)))
  choice_has ss s n boolean k h d = absurd (true≢false (sym h))
  choice_has ss s n null k h d = absurd (true≢false (sym h))
  choice_has ss s n (integer ns) k h d = absurd (true≢false (sym h))
  choice_has ss s n (enumerated items) k h d = absurd (true≢false (sym h))
  choice_has ss s n octet_string k h d = absurd (true≢false (sym h))
  choice_has ss s n bit_string k h d = absurd (true≢false (sym h))
  choice_has ss s n ia5_string k h d = absurd (true≢false (sym h))
  choice_has ss s n (sequence cs) k h d = absurd (true≢false (sym h))
  choice_has ss s n (sequence_of t) k h d = absurd (true≢false (sym h))
  choice_has ss s n (sequence_size c t) k h d = absurd (true≢false (sym h))
  choice_has ss s n (choice more) k h d = told_has (determinant_by kind.Determinant w ss s) (filter_map (alternative_at w ss (made n w ss)) (sites_below w s)) k d
  choice_has ss s n (reference from name) k h d = absurd (true≢false (sym h))

  presence_has : (optional : Bool) (ts : List Test) (t : Test) → optional ≡ true → In t ts → In t (presence_tests (if optional then (if has_items ts then When ts else Bit) else Always))
  presence_has true [] t o m = absurd m
  presence_has true (x ∷ ts) t o m = m
  presence_has false ts t o m = absurd (true≢false (sym o))

  role_has : (ss : Slots) (s : Site) (role : Role) (p : Position) → IsRole w ss s role p → may_be_missing p ≡ true → (t : Test) → In t (tests_at w ss s) → In t (own_tests role)
  role_has ss s role (root owner name) r h t m = absurd (true≢false (sym h))
  role_has ss s role (part name rest) r h t m = subst (λ (z : Role). In t (own_tests z)) (sym r) (presence_has (is_optional rest) (tests_at w ss s) t h m)
  role_has ss s role (inserted name kind) r h t m = absurd (true≢false (sym h))
  role_has ss s role (alternative name) r h t m = subst (λ (z : Role). In t (own_tests z)) (sym r.1) m
  role_has ss s role element r h t m = absurd (true≢false (sym h))
  role_has ss s role content r h t m = absurd (true≢false (sym h))

  -- where the slot of the names has a number
  named_number : (ss : Slots) (c : Scope) (names : List Name) (x : Slot) (f : Path) (k : ℕ) → leads w c names ≡ lead.Slot x → x.path ≡ f → number ss f ≡ Some k → number_named w ss c names ≡ Some k
  named_number ss c names x f k l e n = ap (number_led ss) l ∙ (ap (number ss) e ∙ n)

  determinant_is : (ss : Slots) (s : Site) (j : AttrKind) (g : Given) (names : List Name) (k : ℕ) → nearest j s ≡ Some g → path_in g.attr ≡ Some names → number_named w ss (scope_of w s g) names ≡ Some k → determinant_by j w ss s ≡ Some k
  determinant_is ss s j g names k near p n = ap (determinant_in w ss s) near ∙ (ap (option_and_then (number_named w ss (scope_of w s g))) p ∙ n)

  not_ended : (s : Site) (g : Given) (p : AcnPath) → nearest kind.Size s ≡ Some g → g.attr ≡ attr.Size (size.Path p) → ended_by s ≡ None
  not_ended s g p near a =
      ap (λ (b : Bool). if b then Some (end_of s) else None)
      (ap is_ended (ap (option_and_then (λ (g : Given). size_in g.attr)) near ∙ ap size_in a))

  pub numbered_has : (ss : Slots) (at : walk.Stand) (s : Site) → StandsFor w ss at s → attribute_not_here s ≡ None → (k : ℕ) → Numbered ss s k → Has ss at k
  numbered_has ss at s h here k n = by (is_written s n.used.of n.used.has_paths n.used.given n.used.near n.used.names n.used.there)
    where
      g : Given
      g = n.used.given

      stands : stands_here s g.attr ≡ true
      stands = may_stand s here n.field n.used

      named : (names : List Name) → n.used.names ≡ names → number_named w ss (scope_of w s g) names ≡ Some k
      named names e = subst (λ (z : List Name). number_named w ss (scope_of w s g) z ≡ Some k) e (named_number ss (scope_of w s g) n.used.names n.used.slot n.field k n.used.led n.used.field n.number)

      in_form : (u : walk.Use) → In u (form_uses (form_at w ss (made h.form.0 w ss) s (class_of s))) → In u (walk.uses at)
      in_form u m = in_back (map condition (own_tests at.role)) (form_uses at.form) u (subst (λ (z : Form). In u (form_uses z)) (sym h.form.1) m)

      by : Written s g n.used.names → Has ss at k
      by (as_size near p a e) =
          (size_of k, in_form (size_of k) (sized_has ss s h.form.0 (base_of s) k (ap (stands_here s) (sym a) ∙ stands) (determinant_is ss s kind.Size g p.names k near (ap path_in a) (named p.names e)) (not_ended s g p near a)), refl)
      by (as_test near c m o e) =
          let t = test_of c.equals k in
          let i = is_given (test_in w ss (scope_of w s g)) (conditions_in g.attr) c t m (ap (option_map (test_of c.equals)) (named c.path.names e)) in
          let j = subst (λ (z : Option Given). In t (tests_in w ss s z)) (sym near) i in
          (condition t, in_front (map condition (own_tests at.role)) (form_uses at.form) (condition t) (is_mapped condition (own_tests at.role) t (role_has ss s at.role s.position h.role (o ∙ stands) t j)), tests_slot c.equals k)
      by (as_item near p a e) =
          (item_of k, in_form (item_of k) (choice_has ss s h.form.0 (base_of s) k (ap (stands_here s) (sym a) ∙ stands) (determinant_is ss s kind.Determinant g p.names k near (ap path_in a) (named p.names e))), refl)
