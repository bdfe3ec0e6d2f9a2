-- What a node's place in the tree says of it: the SEQUENCE above a field, and the slots at home round a node.
use Rattle.std.proofs.Common.{◌≡◌, inl, inr, ℕ, suc, nat_eq, Bool, true, false, true≢false, ◌&&◌, ◌||◌, List, [], ◌∷◌, ◌++◌, Option, Some, None, is_some, refl, sym, ap, subst, ◌∙◌}
use Rattle.std.specs.List.{list_any}
use Rattle.acn_grammar.specs.Grammar.{Grammar, Form, Fields, Alternatives, node, num, octets, bits, text, seq, list, choice, contained, no_fields, component, inserted, no_alternatives, alternative}
use Rattle.acn_grammar.specs.Tree.{holds, is_seq}
use Rattle.acn_grammar.specs.Walk.{Stand, Role, root_node, component_role, an_inserted, alternative_role, an_element, a_content, nodes, nodes_of, form_nodes, field_nodes, alternative_nodes, slot_here}
use Rattle.acn_grammar.specs.declared.node.ChoiceRule.{ChoiceRule}
use Rattle.acn_homes.specs.Homes.{Path, same, above}
use Rattle.acn_home_laws.specs.Laws.{goes_on}
use Rattle.acn_home_laws.proofs.Members.{In, split_in, in_front, in_back, passes}
use Rattle.acn_home_laws.proofs.Onward.{above_step, on_by, on_through, true_both, is_same}

none_some : {A : Type 0} (s : ℕ) → ◌≡◌ {A = Option ℕ} None (Some s) → A
none_some s h = absurd (true≢false (sym (ap is_some h)))

-- ---- the SEQUENCE above

abbrev pub is_seq_at : Path → Stand → Bool
is_seq_at p at = same p at.path && is_seq at.form

-- the node at the path isn't the root, and one above it is a SEQUENCE
abbrev pub Parent : List Stand → Path → Type 0
Parent all p = (goes_on [] p ≡ true) × (list_any (is_seq_at (above p)) all ≡ true)

-- a SEQUENCE stands at the path
abbrev Seq : List Stand → Path → Type 0
Seq all p = list_any (is_seq_at p) all ≡ true

step_parent : (all : List Stand) (path : Path) (k : ℕ) → Seq all path → Parent all (path ++ k ∷ [])
step_parent all path k h = (on_through [] path (path ++ k ∷ []) (path, refl) (on_by path k []), ap (λ (p : Path). list_any (is_seq_at p) all) (above_step path k) ∙ h)

module _ (all : List Stand) where
  mutual
    in_nodes : (role : Role) (path around : List ℕ) (g : Grammar) → ((z : Stand) → In z (nodes role path around g) → In z all) → ((s : ℕ) → slot_here role ≡ Some s → Parent all path)
        → (x : Stand) → In x (nodes role path around g) → (s : ℕ) → slot_here x.role ≡ Some s → Parent all x.path
    in_nodes role path around (node align form) sub own x (inl e) s h = subst (λ (z : Stand). slot_here z.role ≡ Some s → Parent all z.path) (sym e) (own s) h
    in_nodes role path around (node align form) sub own x (inr m) s h =
        let here : Stand = record { path = path; around = around; role = role; align = align; form = form } in
        in_form path around form (λ z k. sub z (inr k))
        (λ q. passes (is_seq_at path) all here (sub here (inl refl)) (true_both (same path path) (is_seq form) (is_same path path refl) q))
        x m s h

    in_form : (path around : List ℕ) (form : Form) → ((z : Stand) → In z (form_nodes path around form) → In z all) → (is_seq form ≡ true → Seq all path)
        → (x : Stand) → In x (form_nodes path around form) → (s : ℕ) → slot_here x.role ≡ Some s → Parent all x.path
    in_form path around (num leaf) sub own x m s h = absurd m
    in_form path around (octets sizing) sub own x m s h = absurd m
    in_form path around (bits sizing) sub own x m s h = absurd m
    in_form path around (text leaf) sub own x m s h = absurd m
    in_form path around (seq fields home) sub own x m s h = in_fields path (home ++ around) 0 fields sub (own refl) x m s h
    in_form path around (list sizing g) sub own x m s h = in_nodes an_element (path ++ 0 ∷ []) around g sub (λ t k. none_some t k) x m s h
    in_form path around (choice alternatives rule) sub own x m s h = in_alternatives rule path around 0 alternatives sub x m s h
    in_form path around (contained sizing g) sub own x m s h = in_nodes a_content (path ++ 0 ∷ []) around g sub (λ t k. none_some t k) x m s h

    in_fields : (path around : List ℕ) (k : ℕ) (fs : Fields) → ((z : Stand) → In z (field_nodes path around k fs) → In z all) → Seq all path
        → (x : Stand) → In x (field_nodes path around k fs) → (s : ℕ) → slot_here x.role ≡ Some s → Parent all x.path
    in_fields path around k no_fields sub own x m s h = absurd m
    in_fields path around k (component name g presence default slot fs) sub own x m s h =
        let one = nodes (component_role name presence default slot) (path ++ k ∷ []) around g in
        let rest = field_nodes path around (suc k) fs in
        split_in one rest x m
        (λ n. in_nodes (component_role name presence default slot) (path ++ k ∷ []) around g (λ z i. sub z (in_front one rest z i)) (λ t e. step_parent all path k own) x n s h)
        (λ n. in_fields path around (suc k) fs (λ z i. sub z (in_back one rest z i)) own x n s h)
    in_fields path around k (inserted name g slot fs) sub own x m s h =
        let one = nodes (an_inserted name slot) (path ++ k ∷ []) around g in
        let rest = field_nodes path around (suc k) fs in
        split_in one rest x m
        (λ n. in_nodes (an_inserted name slot) (path ++ k ∷ []) around g (λ z i. sub z (in_front one rest z i)) (λ t e. step_parent all path k own) x n s h)
        (λ n. in_fields path around (suc k) fs (λ z i. sub z (in_back one rest z i)) own x n s h)

    in_alternatives : (rule : ChoiceRule) (path around : List ℕ) (k : ℕ) (more : Alternatives) → ((z : Stand) → In z (alternative_nodes rule path around k more) → In z all)
        → (x : Stand) → In x (alternative_nodes rule path around k more) → (s : ℕ) → slot_here x.role ≡ Some s → Parent all x.path
    in_alternatives rule path around k no_alternatives sub x m s h = absurd m
    in_alternatives rule path around k (alternative name g tests more) sub x m s h =
        let one = nodes (alternative_role name tests rule) (path ++ k ∷ []) around g in
        let rest = alternative_nodes rule path around (suc k) more in
        split_in one rest x m
        (λ n. in_nodes (alternative_role name tests rule) (path ++ k ∷ []) around g (λ z i. sub z (in_front one rest z i)) (λ t e. none_some t e) x n s h)
        (λ n. in_alternatives rule path around (suc k) more (λ z i. sub z (in_back one rest z i)) x n s h)

-- the field of a slot isn't the root, and the node above it is a SEQUENCE
pub field_parent : (root : Grammar) (x : Stand) → In x (nodes_of root) → (s : ℕ) → slot_here x.role ≡ Some s → Parent (nodes_of root) x.path
field_parent root x m s h = in_nodes (nodes_of root) root_node [] [] root (λ z i. i) (λ t e. none_some t e) x m s h

-- ---- slots at home round a node

or_second : (t b : Bool) → b ≡ true → (t || b) ≡ true
or_second true b h = refl
or_second false b h = h

pub holds_front : (a b : List ℕ) (s : ℕ) → holds a s ≡ true → holds (a ++ b) s ≡ true
holds_front [] b s h = absurd (true≢false (sym h))
holds_front (t ∷ a) b s h = by (nat_eq t s) h (holds_front a b s)
  where
    by : (u : Bool) → (u || holds a s) ≡ true → (holds a s ≡ true → holds (a ++ b) s ≡ true) → (u || holds (a ++ b) s) ≡ true
    by true k rest = refl
    by false k rest = rest k

pub holds_back : (a b : List ℕ) (s : ℕ) → holds b s ≡ true → holds (a ++ b) s ≡ true
holds_back [] b s h = h
holds_back (t ∷ a) b s h = or_second (nat_eq t s) (holds (a ++ b) s) (holds_back a b s h)

module _ (s : ℕ) where
  mutual
    round_nodes : (role : Role) (path around : List ℕ) (g : Grammar) → holds around s ≡ true → (x : Stand) → In x (nodes role path around g) → holds x.around s ≡ true
    round_nodes role path around (node align form) h x (inl e) = ap (λ (z : Stand). holds z.around s) e ∙ h
    round_nodes role path around (node align form) h x (inr m) = round_form path around form h x m

    round_form : (path around : List ℕ) (form : Form) → holds around s ≡ true → (x : Stand) → In x (form_nodes path around form) → holds x.around s ≡ true
    round_form path around (num leaf) h x m = absurd m
    round_form path around (octets sizing) h x m = absurd m
    round_form path around (bits sizing) h x m = absurd m
    round_form path around (text leaf) h x m = absurd m
    round_form path around (seq fields home) h x m = round_fields path (home ++ around) 0 fields (holds_back home around s h) x m
    round_form path around (list sizing g) h x m = round_nodes an_element (path ++ 0 ∷ []) around g h x m
    round_form path around (choice alternatives rule) h x m = round_alternatives rule path around 0 alternatives h x m
    round_form path around (contained sizing g) h x m = round_nodes a_content (path ++ 0 ∷ []) around g h x m

    pub round_fields : (path around : List ℕ) (k : ℕ) (fs : Fields) → holds around s ≡ true → (x : Stand) → In x (field_nodes path around k fs) → holds x.around s ≡ true
    round_fields path around k no_fields h x m = absurd m
    round_fields path around k (component name g presence default slot fs) h x m =
        split_in (nodes (component_role name presence default slot) (path ++ k ∷ []) around g) (field_nodes path around (suc k) fs) x m
        (λ n. round_nodes (component_role name presence default slot) (path ++ k ∷ []) around g h x n)
        (λ n. round_fields path around (suc k) fs h x n)
    round_fields path around k (inserted name g slot fs) h x m =
        split_in (nodes (an_inserted name slot) (path ++ k ∷ []) around g) (field_nodes path around (suc k) fs) x m
        (λ n. round_nodes (an_inserted name slot) (path ++ k ∷ []) around g h x n)
        (λ n. round_fields path around (suc k) fs h x n)

    round_alternatives : (rule : ChoiceRule) (path around : List ℕ) (k : ℕ) (more : Alternatives) → holds around s ≡ true → (x : Stand) → In x (alternative_nodes rule path around k more) → holds x.around s ≡ true
    round_alternatives rule path around k no_alternatives h x m = absurd m
    round_alternatives rule path around k (alternative name g tests more) h x m =
        split_in (nodes (alternative_role name tests rule) (path ++ k ∷ []) around g) (alternative_nodes rule path around (suc k) more) x m
        (λ n. round_nodes (alternative_role name tests rule) (path ++ k ∷ []) around g h x n)
        (λ n. round_alternatives rule path around (suc k) more h x n)
