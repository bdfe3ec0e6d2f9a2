-- The way down from the home of a slot to its field.
use Rattle.std.proofs.Common.{◌≡◌, ◌⊎◌, inl, inr, ℕ, Bool, true, false, true≢false, ◌&&◌, cond, List, [], ◌∷◌, map, filter, Option, Some, None, is_some, refl, sym, ap, subst, ◌∙◌, append-nil, ◌++◌}
use Rattle.std.specs.List.{AllByRecursion, list_any}
use Rattle.acn_grammar.specs.Grammar.{Grammar}
use Rattle.acn_grammar.specs.Tree.{is_slot, is_seq}
use Rattle.acn_grammar.specs.Walk.{Stand, root_node, nodes_of, slot_here}
use Rattle.acn_homes.specs.declared.uses.Use.{Use}
use Rattle.acn_homes.specs.Homes.{Path, same, is_among, above, users, home, Slot, slots, number}
use Rattle.acn_homes.specs.Laws.{Begins}
use Rattle.acn_home_laws.specs.HomeLaws.{HomeLaws}
use Rattle.acn_home_laws.specs.Laws.{paths, goes_on}
use Rattle.acn_home_laws.specs.Numbered.{uses_slot, is_noted, always_there, IsPassed, IsWay, IsInReach, IsNumbered}
use Rattle.acn_home_laws.proofs.Below.{Parent, field_parent}
use Rattle.acn_home_laws.proofs.Members.{In, each_has, some_passes, passes, was_mapped, is_mapped, is_kept}
use Rattle.acn_home_laws.proofs.Onward.{same_is, is_same, both_true, true_both, is_equal, itself_equal, begins_either, begins_through, begins_above, on_through, on_above, not_back, not_root, fronts}
use Rattle.acn_home_laws.proofs.Rising.{nodes_rise}
use Rattle.acn_home_laws.proofs.Unique.{one_there}

-- ---- nodes by their paths

pub node_at : (xs : List Stand) (p : Path) → is_among p (paths xs) ≡ true → (x : Stand) × In x xs × (p ≡ x.path)
node_at xs p h =
    let r = some_passes (same p) (paths xs) h in
    let s = was_mapped (λ (x : Stand). x.path) xs r.0 r.1 in
    (s.0, s.1, same_is p r.0 r.2 ∙ s.2)

-- ---- slots

pub slot_is : (s : ℕ) (o : Option ℕ) → is_slot s o ≡ true → o ≡ Some s
slot_is s None h = absurd (true≢false (sym h))
slot_is s (Some t) h = ap (λ (n : ℕ). Some n) (is_equal t s h)

pub is_its_slot : (s : ℕ) (o : Option ℕ) → o ≡ Some s → is_slot s o ≡ true
is_its_slot s o e = ap (is_slot s) e ∙ itself_equal s

abbrev pub nothing : Slot
nothing = record { field = []; home = [] }

-- ---- ways

way_below : (all : List Stand) (q h p : Path) → IsWay all q p → Begins q h → IsWay all h p
way_below all q h p way b path c g =
    let w = way path (begins_through q h path b c) g in
    record { sequence = w.sequence; always = λ i. w.always (on_through q h path b i) }

-- from the node above the field
short_way : (all : List Stand) (p : Path) → Parent all p → IsWay all (above p) p
short_way all p parent path b g = by (begins_either (above p) path b)
  where
    by : (above p ≡ path) ⊎ (goes_on (above p) path ≡ true) → IsPassed all (above p) path
    by (inl e) = record {
      sequence = ap (λ (q : Path). list_any (λ (at : Stand). same q at.path && is_seq at.form) all) (sym e) ∙ parent.1;
      always = λ i. absurd (not_back (above p) path i (begins_above path p g));
    }
    by (inr i) = absurd (not_back (above p) path i (begins_above path p g))

-- a way to the field from round all of these users
pub record Shortest (all : List Stand) (p : Path) (us : List Use) : Type 0 where
  pub from : Path
  pub round_field : Begins from (above p)
  pub round_users : AllByRecursion (λ user. Begins from (above user)) (users us p)
  pub way : IsWay all from p

all_begin : (q r : Path) (us : List Path) → Begins q r → AllByRecursion (λ user. Begins r (above user)) us → AllByRecursion (λ user. Begins q (above user)) us
all_begin q r [] b h = tt
all_begin q r (u ∷ us) b h = (begins_through q r (above u) b h.0, all_begin q r us b h.1)

one_more : (all : List Stand) (p : Path) (u : Use) (us : List Use) → IsInReach all u → p ≡ u.field → Shortest all p us
    → (q : Path) × Begins q (above p) × Begins q (above u.user) × AllByRecursion (λ user. Begins q (above user)) (users us p) × IsWay all q p
one_more all p u us r e s = by (fronts s.from r.from (above p) s.round_field reach_field)
  where
    reach_field : Begins r.from (above p)
    reach_field = subst (λ (z : Path). Begins r.from (above z)) (sym e) (begins_above r.from u.field r.round_field)

    reach_user : Begins r.from (above u.user)
    reach_user = begins_above r.from u.user r.round_user

    by : Begins s.from r.from ⊎ Begins r.from s.from → (q : Path) × Begins q (above p) × Begins q (above u.user) × AllByRecursion (λ user. Begins q (above user)) (users us p) × IsWay all q p
    by (inl b) = (s.from, s.round_field, begins_through s.from r.from (above u.user) b reach_user, s.round_users, s.way)
    by (inr b) = (r.from, reach_field, reach_user, all_begin r.from s.from (users us p) b s.round_users, subst (λ (z : Path). IsWay all r.from z) (sym e) r.way)

shortest : (all : List Stand) (p : Path) → Parent all p → (us : List Use) → AllByRecursion (IsInReach all) us → Shortest all p us
shortest all p parent [] h = record { from = above p; round_field = ([], above_itself); round_users = tt; way = short_way all p parent }
  where
    above_itself : above p ≡ above p ++ []
    above_itself = sym (append-nil (above p))
shortest all p parent (u ∷ us) h = by (same p u.field) refl (shortest all p parent us h.1)
  where
    by : (t : Bool) → same p u.field ≡ t → Shortest all p us → Shortest all p (u ∷ us)
    by true e s =
        let m = one_more all p u us h.0 (same_is p u.field e) s in
        record {
          from = m.0;
          round_field = m.1;
          round_users = subst (λ (t : Bool). AllByRecursion (λ user. Begins m.0 (above user)) (map (λ (u : Use). u.user) (cond t (u ∷ filter (λ (u : Use). same p u.field) us) (filter (λ (u : Use). same p u.field) us)))) (sym e) (m.2, m.3);
          way = m.4;
        }
    by false e s =
        record {
          from = s.from;
          round_field = s.round_field;
          round_users = subst (λ (t : Bool). AllByRecursion (λ user. Begins s.from (above user)) (map (λ (u : Use). u.user) (cond t (u ∷ filter (λ (u : Use). same p u.field) us) (filter (λ (u : Use). same p u.field) us)))) (sym e) s.round_users;
          way = s.way;
        }

-- ---- of a tree whose slots are numbered by paths

module _ (law : HomeLaws) (root : Grammar) (fields : List Path) (noted : List Use) (n : IsNumbered root fields noted) where
  abbrev all : List Stand
  all = nodes_of root

  abbrev ss : List Slot
  ss = slots fields noted

  pub node_is : (x y : Stand) → In x all → In y all → x.path ≡ y.path → x ≡ y
  node_is x y m k e = one_there (λ (at : Stand). at.path) all (nodes_rise root_node [] [] root) x y m k e

  pub slot_of_node : (x : Stand) → In x all → slot_here x.role ≡ number ss x.path
  slot_of_node x m = each_has (λ at. slot_here at.role ≡ number ss at.path) all n.numbered x m

  pub one_field : (p q : Path) (s : ℕ) → number ss p ≡ Some s → number ss q ≡ Some s → p ≡ q
  one_field p q s h k = ap (λ (z : Slot). z.field) (sym (law.tell_slots fields noted p s nothing h).1 ∙ (law.tell_slots fields noted q s nothing k).1)

  -- the node of a field
  pub field_node : (p : Path) (s : ℕ) → number ss p ≡ Some s → (x : Stand) × In x all × (p ≡ x.path) × (slot_here x.role ≡ Some s)
  field_node p s h =
      let r = node_at all p (n.fields_stand p (sym (law.are_numbered fields noted p) ∙ ap is_some h)) in
      (r.0, r.1, r.2, slot_of_node r.0 r.1 ∙ (ap (number ss) (sym r.2) ∙ h))

  pub field_below : (p : Path) (s : ℕ) → number ss p ≡ Some s → Parent all p
  field_below p s h = (let r = field_node p s h in subst (Parent all) (sym r.2) (field_parent root r.0 r.1 s r.3))

  -- a use that was noted
  pub noted_use : (s : ℕ) (x : Stand) → In x all → uses_slot s x ≡ true → (u : Use) × In u noted × (x.path ≡ u.user) × (number ss u.field ≡ Some s)
  noted_use s x m h =
      let e = each_has (λ at. uses_slot s at ≡ is_noted ss noted s at.path) all (n.uses_noted s) x m in
      let r = some_passes (λ (u : Use). same x.path u.user && is_slot s (number ss u.field)) noted (sym e ∙ h) in
      let b = both_true (same x.path r.0.user) (is_slot s (number ss r.0.field)) r.2 in
      (r.0, r.1, same_is x.path r.0.user b.0, slot_is s (number ss r.0.field) b.1)

  -- the node that uses
  pub user_node : (s : ℕ) (u : Use) → In u noted → number ss u.field ≡ Some s → (x : Stand) × In x all × (u.user ≡ x.path) × (uses_slot s x ≡ true)
  user_node s u m h =
      let r = node_at all u.user (each_has (λ (u : Use). is_among u.user (paths all) ≡ true) noted n.users_stand u m) in
      let e = each_has (λ at. uses_slot s at ≡ is_noted ss noted s at.path) all (n.uses_noted s) r.0 r.1 in
      let t = true_both (same r.0.path u.user) (is_slot s (number ss u.field)) (is_same r.0.path u.user (sym r.2)) (is_its_slot s (number ss u.field) h) in
      (r.0, r.1, r.2, e ∙ passes (λ (u : Use). same r.0.path u.user && is_slot s (number ss u.field)) noted u m t)

  -- from the home down to the field
  pub home_way : (p : Path) (s : ℕ) → number ss p ≡ Some s → IsWay all (home noted p) p
  home_way p s h =
      let f = shortest all p (field_below p s h) noted n.in_reach in
      way_below all f.from (home noted p) p f.way ((law.are_smallest noted p).smallest f.from f.round_field f.round_users)

  pub home_over_field : (p : Path) (s : ℕ) → number ss p ≡ Some s → goes_on (home noted p) p ≡ true
  home_over_field p s h = on_above (home noted p) p (field_below p s h).0 (law.are_smallest noted p).round_field

  is_user : (p : Path) (u : Use) → In u noted → p ≡ u.field → In u.user (users noted p)
  is_user p u m e = is_mapped (λ (u : Use). u.user) (filter (λ (u : Use). same p u.field) noted) u (is_kept (λ (u : Use). same p u.field) noted u m (is_same p u.field e))

  pub home_over_user : (p : Path) (u : Use) → In u noted → p ≡ u.field → goes_on (home noted p) u.user ≡ true
  home_over_user p u m e =
      let r = each_has (IsInReach all) noted n.in_reach u m in
      on_above (home noted p) u.user (not_root r.from u.user r.round_user)
      (each_has (λ user. Begins (home noted p) (above user)) (users noted p) (law.are_smallest noted p).round_users u.user (is_user p u m e))

  -- a node on the way
  pub passed_here : (from : Path) (x : Stand) → In x all → IsPassed all from x.path → (is_seq x.form ≡ true) × (goes_on from x.path ≡ true → always_there x.role ≡ true)
  passed_here from x m w =
      let a = some_passes (λ (at : Stand). same x.path at.path && is_seq at.form) all w.sequence in
      let b = both_true (same x.path a.0.path) (is_seq a.0.form) a.2 in
      (ap (λ (z : Stand). is_seq z.form) (node_is x a.0 m a.1 (same_is x.path a.0.path b.0)) ∙ b.1, still)
    where
      still : goes_on from x.path ≡ true → always_there x.role ≡ true
      still g =
          let a = some_passes (λ (at : Stand). same x.path at.path && always_there at.role) all (w.always g) in
          let b = both_true (same x.path a.0.path) (always_there a.0.role) a.2 in
          ap (λ (z : Stand). always_there z.role) (node_is x a.0 m a.1 (same_is x.path a.0.path b.0)) ∙ b.1

  -- the SEQUENCE that is the home
  pub home_node : (p : Path) (s : ℕ) → number ss p ≡ Some s → (x : Stand) × In x all × (home noted p ≡ x.path) × (is_seq x.form ≡ true)
  home_node p s h =
      let w = home_way p s h (home noted p) ([], sym (append-nil (home noted p))) (home_over_field p s h) in
      let a = some_passes (λ (at : Stand). same (home noted p) at.path && is_seq at.form) all w.sequence in
      let b = both_true (same (home noted p) a.0.path) (is_seq a.0.form) a.2 in
      (a.0, a.1, same_is (home noted p) a.0.path b.0, b.1)
