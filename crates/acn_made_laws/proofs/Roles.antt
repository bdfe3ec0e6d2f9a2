-- What stands in a role: a component or an inserted field with a slot is a number that is always there.
use Rattle.std.proofs.Common.{◌≡◌, ℕ, ◌<◌, nat_lt, length, arith, Bool, true, false, true≢false, not, List, [], ◌∷◌, Option, Some, None, option_map, is_some, if◌then◌else◌, refl, sym, ap, ◌∙◌}
use Rattle.std.proofs.lemmas.Bool.Decides.{nat_tests}
use Rattle.std.specs.Prelude.{Result, Ok, Err}
use Rattle.std.specs.List.{AllByRecursion}
use Rattle.acn_asn_syntax.specs.Mirror.{AsnBase, boolean, null, integer, enumerated, octet_string, bit_string, ia5_string, sequence, sequence_of, sequence_size, choice, reference}
use Rattle.acn_constraint.specs.Constraints.{Opened, Fault, range_of}
use Rattle.acn_grammar.specs.Grammar.{Grammar, Form, num}
use Rattle.acn_grammar.specs.Tree.{kind_inserted, inserted_fine, presence_fine, own_fine, role_fine}
use Rattle.acn_grammar.specs.Walk as walk
use Rattle.acn_grammar.specs.Walk.{Stand, Role}
use Rattle.acn_grammar.specs.declared.node.Presence.TheVariants.{Always, Bit, When}
use Rattle.acn_grammar.specs.declared.node.Test.{Test}
use Rattle.acn_home_laws.proofs.Members.{In, each_has, all_have}
use Rattle.acn_home_laws.proofs.Onward.{true_both}
use Rattle.acn_homes.specs.Homes.{number, slots}
use Rattle.acn_homes.specs.Laws.{NamedFieldsAreNumbered}
use Rattle.acn_index.specs.Chains.{has_items}
use Rattle.acn_index.specs.World.{World}
use Rattle.acn_leaves.specs.Leaves.{leaf_at, leaf_of_base, integer_leaf, enumerated_leaf, null_leaf}
use Rattle.acn_made.specs.Conditions.{tests_at, presence_of}
use Rattle.acn_made.specs.Made.{made, form_at, number_at}
use Rattle.acn_made.specs.Named.{Slots}
use Rattle.acn_made_laws.proofs.Facts.{named_here, inserted_listed}
use Rattle.acn_made_laws.proofs.Fine.{FineSite}
use Rattle.acn_made_laws.proofs.Leading.{Listing, stays}
use Rattle.acn_made_laws.proofs.Reaching.{ScopeRound}
use Rattle.acn_made_laws.specs.Standing.{StandsFor, IsRole}
use Rattle.acn_reasons.specs.Classes.{class_of_base}
use Rattle.acn_reasons.specs.Constrained.{constraint_fault, fault_of_class, fault_in}
use Rattle.acn_sites.specs.Sites.{Site, Position, root, part, inserted, alternative, element, content, Placed, base_of}
use Rattle.acn_slots.specs.Slots.{default_of, braces_at, braces_origin, is_optional, sort_of_base, sort_of}
use Rattle.acn_survey.specs.Walk.{is_inserted, inserted_fields, uses_of}
use Rattle.acn_world.specs.Cycles.{fits_field}
use Rattle.acn_written.specs.Numbers.{numbers_at, numbers_of_base, integer_numbers, if_left}

-- ---- leaves

leaf_is : (w : World) (s : Site) → leaf_at w s ≡ leaf_of_base w s (base_of s)
unfolding leaf_at
leaf_is w s = refl

numbers_are : (w : World) (s : Site) → numbers_at w s ≡ numbers_of_base w s (base_of s)
unfolding numbers_at
numbers_are w s = refl

fault_is : (w : World) (s : Site) → constraint_fault w s ≡ fault_of_class w s (class_of_base (base_of s))
unfolding constraint_fault
fault_is w s = refl

integer_kind : (w : World) (s : Site) (k : ℕ) (r : Result Opened Fault) → fault_in r ≡ None → kind_inserted (default_of (option_map (integer_leaf w s) (option_map (integer_numbers w s) (if_left r))) (null_leaf s)).kind (Some k) ≡ true
integer_kind w s k (Ok x) h = refl
integer_kind w s k (Err f) h = absurd (cc h)

-- the number of a site whose base has numbers
kind_by : (w : World) (s : Site) (k : ℕ) (b : AsnBase) → fault_of_class w s (class_of_base b) ≡ None → numbers_at w s ≡ numbers_of_base w s b → is_some (sort_of_base b) ≡ true → kind_inserted (default_of (leaf_of_base w s b) (null_leaf s)).kind (Some k) ≡ true
kind_by w s k boolean c n h = refl
kind_by w s k null c n h = absurd (true≢false (sym h))
kind_by w s k (integer ns) c n h = ap (λ o. kind_inserted (default_of (option_map (integer_leaf w s) o) (null_leaf s)).kind (Some k)) n ∙ integer_kind w s k (range_of w s.chain) c
kind_by w s k (enumerated items) c n h = ap (λ o. kind_inserted (default_of (option_map (enumerated_leaf s items (braces_at s.used (braces_origin s.chain s.used))) o) (null_leaf s)).kind (Some k)) n
kind_by w s k octet_string c n h = absurd (true≢false (sym h))
kind_by w s k bit_string c n h = absurd (true≢false (sym h))
kind_by w s k ia5_string c n h = absurd (true≢false (sym h))
kind_by w s k (sequence cs) c n h = absurd (true≢false (sym h))
kind_by w s k (sequence_of t) c n h = absurd (true≢false (sym h))
kind_by w s k (sequence_size z t) c n h = absurd (true≢false (sym h))
kind_by w s k (choice more) c n h = absurd (true≢false (sym h))
kind_by w s k (reference from name) c n h = absurd (true≢false (sym h))

number_form : (w : World) (ss : Slots) (s : Site) (n : ℕ) (b : AsnBase) → fits_field b ≡ true → form_at w ss (made n w ss) s (class_of_base b) ≡ num (number_at w s)
number_form w ss s n boolean h = refl
number_form w ss s n null h = refl
number_form w ss s n (integer ns) h = refl
number_form w ss s n (enumerated items) h = refl
number_form w ss s n octet_string h = absurd (true≢false (sym h))
number_form w ss s n bit_string h = absurd (true≢false (sym h))
number_form w ss s n ia5_string h = absurd (true≢false (sym h))
number_form w ss s n (sequence cs) h = absurd (true≢false (sym h))
number_form w ss s n (sequence_of t) h = absurd (true≢false (sym h))
number_form w ss s n (sequence_size z t) h = absurd (true≢false (sym h))
number_form w ss s n (choice more) h = absurd (true≢false (sym h))
number_form w ss s n (reference from name) h = absurd (true≢false (sym h))

-- what has numbers fits, and what fits and has none is a NULL
sorted_fits : (b : AsnBase) → is_some (sort_of_base b) ≡ true → fits_field b ≡ true
sorted_fits boolean h = refl
sorted_fits null h = refl
sorted_fits (integer ns) h = refl
sorted_fits (enumerated items) h = refl
sorted_fits octet_string h = absurd (true≢false (sym h))
sorted_fits bit_string h = absurd (true≢false (sym h))
sorted_fits ia5_string h = absurd (true≢false (sym h))
sorted_fits (sequence cs) h = absurd (true≢false (sym h))
sorted_fits (sequence_of t) h = absurd (true≢false (sym h))
sorted_fits (sequence_size z t) h = absurd (true≢false (sym h))
sorted_fits (choice more) h = absurd (true≢false (sym h))
sorted_fits (reference from name) h = absurd (true≢false (sym h))

null_left : (w : World) (s : Site) (b : AsnBase) → fits_field b ≡ true → is_some (sort_of_base b) ≡ false → kind_inserted (default_of (leaf_of_base w s b) (null_leaf s)).kind None ≡ true
null_left w s boolean f h = absurd (true≢false h)
null_left w s null f h = refl
null_left w s (integer ns) f h = absurd (true≢false h)
null_left w s (enumerated items) f h = absurd (true≢false h)
null_left w s octet_string f h = absurd (true≢false (sym f))
null_left w s bit_string f h = absurd (true≢false (sym f))
null_left w s ia5_string f h = absurd (true≢false (sym f))
null_left w s (sequence cs) f h = absurd (true≢false (sym f))
null_left w s (sequence_of t) f h = absurd (true≢false (sym f))
null_left w s (sequence_size z t) f h = absurd (true≢false (sym f))
null_left w s (choice more) f h = absurd (true≢false (sym f))
null_left w s (reference from name) f h = absurd (true≢false (sym f))

-- the node of a site with numbers may have a slot
numbered_form : (w : World) (ss : Slots) (at : Stand) (s : Site) → StandsFor w ss at s → FineSite w s → is_some (sort_of s.chain) ≡ true → (k : ℕ) → inserted_fine (Some k) at.form ≡ true
numbered_form w ss at s h f n k =
    ap (inserted_fine (Some k)) (h.form.1 ∙ number_form w ss s h.form.0 (base_of s) (sorted_fits (base_of s) n))
    ∙ (ap (λ o. kind_inserted (default_of o (null_leaf s)).kind (Some k)) (leaf_is w s)
    ∙ kind_by w s k (base_of s) (sym (fault_is w s) ∙ f.constrained) (numbers_are w s) n)

unnumbered_form : (w : World) (ss : Slots) (at : Stand) (s : Site) → StandsFor w ss at s → fits_field (base_of s) ≡ true → is_some (sort_of s.chain) ≡ false → inserted_fine None at.form ≡ true
unnumbered_form w ss at s h f n =
    ap (inserted_fine None) (h.form.1 ∙ number_form w ss s h.form.0 (base_of s) f)
    ∙ (ap (λ o. kind_inserted (default_of o (null_leaf s)).kind None) (leaf_is w s) ∙ null_left w s (base_of s) f n)

-- ---- roles

some_test : (a b : ℕ) → a < b → nat_lt a b ≡ true
some_test a b h = grind (arith, nat_tests)

presence_there : (optional : Bool) (ts : List Test) → presence_fine (if optional then (if has_items ts then When ts else Bit) else Always) ≡ true
presence_there true [] = refl
presence_there true (t ∷ ts) = some_test 0 (length (t ∷ ts)) (omega arith)
presence_there false ts = refl

kept_presence : (optional : Bool) (ts : List Test) (k : ℕ) (form : Form) → not optional ≡ true → inserted_fine (Some k) form ≡ true → own_fine (Some k) (if optional then (if has_items ts then When ts else Bit) else Always) form ≡ true
kept_presence true ts k form h f = absurd (true≢false (sym h))
kept_presence false ts k form h f = f

none_left : (b : Bool) → (b ≡ true → ⊥) → b ≡ false
none_left true f = absurd (f refl)
none_left false f = refl

module _ (w : World) (ps : List Placed) (root_node : Grammar) (known : Listing w (slots (inserted_fields ps) (uses_of w ps)) ps (walk.nodes_of root_node))
    (round : (p : Placed) → In p ps → ScopeRound w (slots (inserted_fields ps) (uses_of w ps)) ps (walk.nodes_of root_node) known p.site.path p.site.scope)
    (law : NamedFieldsAreNumbered) (fit : AllByRecursion (λ (p : Placed). is_inserted p.site.position ≡ true → fits_field (base_of p.site) ≡ true) ps) where
  abbrev ss : Slots
  ss = slots (inserted_fields ps) (uses_of w ps)

  abbrev all : List Stand
  all = walk.nodes_of root_node

  -- the field of a slot
  slot_here : (p : Placed) → In p ps → (k : ℕ) → number ss p.site.path ≡ Some k → (stays p.site.position ≡ true) × (is_some (sort_of p.site.chain) ≡ true)
  slot_here p m k e =
      let f = named_here w ps root_node known round p.site.path (sym (law (inserted_fields ps) (uses_of w ps) p.site.path) ∙ ap is_some e) in
      let i = known.one p f.place m f.listed f.at in
      (ap (λ (s : Site). stays s.position) i ∙ f.there, ap (λ (s : Site). is_some (sort_of s.chain)) i ∙ f.own_number)

  component_role_fine : (at : Stand) (p : Placed) → In p ps → StandsFor w ss at p.site → (o : Option ℕ) → number ss p.site.path ≡ o → (optional : Bool) (ts : List Test) → (stays p.site.position ≡ true → not optional ≡ true)
      → own_fine o (if optional then (if has_items ts then When ts else Bit) else Always) at.form ≡ true
  component_role_fine at p m h None e optional ts lasting = refl
  component_role_fine at p m h (Some k) e optional ts lasting =
      (let t = slot_here p m k e in kept_presence optional ts k at.form (lasting t.0) (numbered_form w ss at p.site h (known.fine p m) t.1 k))

  inserted_role_fine : (at : Stand) (p : Placed) → In p ps → StandsFor w ss at p.site → is_inserted p.site.position ≡ true → (o : Option ℕ) → number ss p.site.path ≡ o → inserted_fine o at.form ≡ true
  inserted_role_fine at p m h i (Some k) e = numbered_form w ss at p.site h (known.fine p m) (slot_here p m k e).1 k
  inserted_role_fine at p m h i None e =
      unnumbered_form w ss at p.site h (each_has (λ (p : Placed). is_inserted p.site.position ≡ true → fits_field (base_of p.site) ≡ true) ps fit p m i)
      (none_left (is_some (sort_of p.site.chain)) (λ n. true≢false (sym (inserted_listed w ps p m i n) ∙ (sym (law (inserted_fields ps) (uses_of w ps) p.site.path) ∙ ap is_some e))))

  role_by : (at : Stand) (p : Placed) → In p ps → StandsFor w ss at p.site → (o : Position) → p.site.position ≡ o → IsRole w ss p.site at.role o → role_fine at.role at.form ≡ true
  role_by at p m h (root owner name) i r = ap (λ (z : Role). role_fine z at.form) r
  role_by at p m h (part name rest) i r =
      ap (λ (z : Role). role_fine z at.form) r
      ∙ true_both (presence_fine (presence_of rest (tests_at w ss p.site))) (own_fine (number ss p.site.path) (presence_of rest (tests_at w ss p.site)) at.form)
      (presence_there (is_optional rest) (tests_at w ss p.site))
      (component_role_fine at p m h (number ss p.site.path) refl (is_optional rest) (tests_at w ss p.site) (λ t. sym (ap stays i) ∙ t))
  role_by at p m h (inserted name kind) i r = ap (λ (z : Role). role_fine z at.form) r ∙ inserted_role_fine at p m h (ap is_inserted i) (number ss p.site.path) refl
  role_by at p m h (alternative name) i r = ap (λ (z : Role). role_fine z at.form) r.1
  role_by at p m h element i r = ap (λ (z : Role). role_fine z at.form) r
  role_by at p m h content i r = ap (λ (z : Role). role_fine z at.form) r

  pub roles_fine : AllByRecursion (λ at. role_fine at.role at.form ≡ true) all
  roles_fine = all_have (λ at. role_fine at.role at.form ≡ true) all (λ at m. (let p = known.site at m in role_by at p.0 p.1 p.2 p.0.site.position refl p.2.role))
