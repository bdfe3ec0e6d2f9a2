-- Links that say nothing are passed over, and the chain tells the same.
use Rattle.std.proofs.Common.{◌≡◌, ℕ, zero, suc, ◌<◌, ◌≤◌, ◌-◌, Bool, true, false, ◌||◌, cond, List, [], ◌∷◌, ◌++◌, Option, Some, None, refl, sym, ap, subst, ◌∙◌, arith}
use Rattle.std.specs.Prelude.{map, reverse, flat_map, filter_map, is_some, option_map, option_and_then, IfSome}
use mathlib.Core.List.{reverse_aux}
use Rattle.std.proofs.lemmas.List.{append-nil}
use Rattle.std.specs.List.{cons_option}
use Rattle.acn_asn_syntax.specs.Mirror.{Constraint}
use Rattle.acn_ends.specs.declared.spot.Spot.{Spot}
use Rattle.acn_ends.specs.declared.spot.End.{End}
use Rattle.acn_ends.specs.declared.spot.End.TheVariants as end
use Rattle.acn_ends.specs.declared.ends.Ends.{Ends}
use Rattle.acn_ends.specs.Ends.{EndsAt, IsRight, AreRight, end_of}
use Rattle.acn_ends.proofs.Leading.{Leads, stays, leads, right_of}
use Rattle.acn_ends.proofs.Leading as way
use Rattle.acn_index.specs.Linked.{link_view}
use Rattle.acn_index.specs.Lookup.{EntryAt}
use Rattle.acn_index.specs.World.{World, count}
use Rattle.acn_index.specs.Chains.{Link, ChainOf, assigned_link, next_link, more_links, links_within, links, last_link, link_constraints, link_entry, chain_of_links, chain_of, has_items, constraints_part}
use Rattle.acn_index.specs.Steps.{spot_of, place_at, link_onward}
use Rattle.acn_index.specs.declared.sources.TypeId.{TypeId}
use Rattle.acn_index.proofs.ChainSteps.{ends, goes, spent}
use Rattle.acn_index.proofs.LastLinks.{some_is_one, Step, by_next}
use Rattle.acn_world.specs.Silent.{says, onward_from, silent_step, TellTheSame, IsAtEnd, Passes}
use Rattle.acn_world.specs.declared.silent.Ahead.{Ahead}

pub mapped_items : {A B : Type 0} (f : A → B) (xs : List A) → has_items (map f xs) ≡ has_items xs
mapped_items f [] = refl
mapped_items f (x ∷ xs) = refl

-- ---- lists in which one item counts for nothing

module _ {C : Type 0} (h : List Link → C) (l : Link) (same : (front behind : List Link) → h (front ++ l ∷ behind) ≡ h (front ++ behind)) where
  onto : (rest front behind : List Link) → h (reverse_aux rest (front ++ l ∷ behind)) ≡ h (reverse_aux rest (front ++ behind))
  onto [] front behind = same front behind
  onto (r ∷ rest) front behind = onto rest (r ∷ front) behind

  back : (before rest done : List Link) → h (reverse_aux (before ++ l ∷ rest) done) ≡ h (reverse_aux (before ++ rest) done)
  back [] rest done = onto rest [] done
  back (b ∷ before) rest done = back before rest (b ∷ done)

no_constraints : (l : Link) → link_constraints l ≡ [] → (front behind : List Link) → flat_map link_constraints (front ++ l ∷ behind) ≡ flat_map link_constraints (front ++ behind)
no_constraints l e [] behind = ap (λ cs. cs ++ flat_map link_constraints behind) e
no_constraints l e (f ∷ front) behind = ap (λ cs. link_constraints f ++ cs) (no_constraints l e front behind)

last_past : (first : Link) (before : List Link) (l r : Link) (rest : List Link) → last_link first (before ++ l ∷ r ∷ rest) ≡ last_link first (before ++ r ∷ rest)
last_past first [] l r rest = refl
last_past first (b ∷ before) l r rest = last_past b before l r rest

abbrev made : Link → List (ℕ × Constraint) → List EntryAt → ChainOf
made l cs es = record { base = l.of; owner = l.owner; constraints = cs; entries = es }

both_false : (a b : Bool) → (a || b) ≡ false → (a ≡ false) × (b ≡ false)
both_false false b h = (refl, h)
both_false true b h = absurd (cc h)

none_there : {A : Type 0} (o : Option A) → is_some o ≡ false → o ≡ None
none_there None h = refl
none_there (Some x) h = absurd (cc h)

without_items : {A B : Type 0} (f : A → B) (xs : List A) → has_items xs ≡ false → map f xs ≡ []
without_items f [] h = refl
without_items f (x ∷ xs) h = absurd (cc h)

module _ (w : World) where
  no_entry : (l : Link) → link_entry w l ≡ None → (front behind : List Link) → filter_map (link_entry w) (front ++ l ∷ behind) ≡ filter_map (link_entry w) (front ++ behind)
  no_entry l e [] behind = ap (λ o. cons_option o (filter_map (link_entry w) behind)) e
  no_entry l e (f ∷ front) behind = ap (cons_option (link_entry w f)) (no_entry l e front behind)

  by_parts : (first l r : Link) (before rest : List Link) → link_constraints l ≡ [] → link_entry w l ≡ None → chain_of_links w first (before ++ l ∷ r ∷ rest) ≡ chain_of_links w first (before ++ r ∷ rest)
  by_parts first l r before rest c e =
      let long = before ++ l ∷ r ∷ rest in
      let short = before ++ r ∷ rest in
      let last : last_link first long ≡ last_link first short = last_past first before l r rest in
      let cs : flat_map link_constraints (reverse long) ≡ flat_map link_constraints (reverse short) = back (flat_map link_constraints) l (no_constraints l c) before (r ∷ rest) [] in
      let es : filter_map (link_entry w) (reverse long) ≡ filter_map (link_entry w) (reverse short) = back (filter_map (link_entry w)) l (no_entry l e) before (r ∷ rest) [] in
      ap (λ (z : Link). made z (flat_map link_constraints (reverse long)) (filter_map (link_entry w) (reverse long))) last
      ∙ (ap (λ (z : List (ℕ × Constraint)). made (last_link first short) z (filter_map (link_entry w) (reverse long))) cs
      ∙ ap (made (last_link first short) (flat_map link_constraints (reverse short))) es)

  past_one : (first l r : Link) (before rest : List Link) → says w l ≡ false → chain_of_links w first (before ++ l ∷ r ∷ rest) ≡ chain_of_links w first (before ++ r ∷ rest)
  past_one first l r before rest h =
      let parts = both_false (has_items (constraints_part l.of)) (is_some (link_entry w l)) h in
      by_parts first l r before rest (without_items (λ (c : Constraint). (l.owner, c)) (constraints_part l.of) parts.0) (none_there (link_entry w l) parts.1)

  -- ---- one step

  record Passed (l : Link) (t : Spot) : Type 0 where
    silent : says w l ≡ false
    step : Step w l t

  by_says : (l : Link) (t : Spot) (b : Bool) → says w l ≡ b → cond b None (link_onward w l) ≡ Some t → Passed l t
  by_says l t true e h = absurd (cc h)
  by_says l t false e h = record { silent = e; step = by_next w l t (next_link w l) refl h }

  stepped : (s t : Spot) (l : Link) → assigned_link w (place_at s) ≡ Some l → silent_step w s ≡ Some t → Passed l t
  unfolding silent_step
  stepped s t l e h = by_says l t (says w l) refl (ap (option_and_then (onward_from w)) (sym e) ∙ h)

  one_less : (n : ℕ) (l next : Link) → next_link w l ≡ Some next → says w l ≡ false → TellTheSame w (suc (suc n)) l (suc n) next
  unfolding links_within
  one_less n l next e h first before = rw e (past_one first l next before (more_links (links_within n w) (next_link w next)) h)

  along : (n m k : ℕ) (s e : Spot) (l last : Link) → n < m → k ≡ m - n → assigned_link w (place_at s) ≡ Some l → assigned_link w (place_at e) ≡ Some last → Leads (silent_step w) n s e → TellTheSame w m l k last
  along zero m k s e l last lt same f g stays first before =
      let all : m ≡ k = omega (arith, same) in
      ap (λ (z : Link). chain_of_links w first (before ++ links_within m w z)) (some_is_one f g) ∙ ap (λ (z : ℕ). chain_of_links w first (before ++ links_within z w last)) all
  along (suc n) zero k s e l last lt same f g (way.goes step rest) first before = absurd (omega arith)
  along (suc n) (suc zero) k s e l last lt same f g (way.goes step rest) first before = absurd (omega arith)
  along (suc n) (suc (suc m)) k s e l last lt same f g (way.goes {q = t} step rest) first before =
      let p = stepped s t l f step in
      one_less m l p.step.next p.step.onward p.silent first before ∙ along n (suc m) k t e p.step.next last (omega arith) (omega (arith, same)) p.step.of_it g rest first before

  by_step : (left n k : ℕ) (from next last : Link) (p : TypeId) (e : Spot) → (st : Step w from (spot_of p)) → next_link w from ≡ Some next → n < left → k ≡ left - n → assigned_link w (place_at e) ≡ Some last → EndsAt (silent_step w) n (spot_of p) e → TellTheSame w left next k last
  by_step left n k from next last p e st f lt same g at =
      along n left k (spot_of p) e next last lt same (subst (λ (z : Link). assigned_link w (place_at (spot_of p)) ≡ Some z) (some_is_one st.onward f) st.of_it) g (leads (silent_step w) n (spot_of p) e at.way)

  passes : (left n : ℕ) (next : Link) (p : TypeId) (e : Spot) (a : Ahead) → next.assigned ≡ Some p → EndsAt (silent_step w) n (spot_of p) e → IsAtEnd w (end.At e n) left a → Passes w next left a
  passes left n next p e a f at h =
      let less : a.left ≡ left - n = h.2 in
      record {
        same = λ from g. by_step left n a.left from next (link_view a.link) p e (by_next w from (spot_of p) (Some next) g (ap (option_map spot_of) f)) g h.0 less h.1 at;
        few = omega (arith, less);
      }

  by_end : (left : ℕ) (next : Link) (p : TypeId) (e : End) (a : Ahead) → next.assigned ≡ Some p → IsRight (silent_step w) (spot_of p) e → IsAtEnd w e left a → Passes w next left a
  by_end left next p (end.At q n) a f right h = passes left n next p q a f right h
  by_end left next p end.Never a f right h = absurd h

  pub noted : (ends : Ends) (left : ℕ) (next : Link) (p : TypeId) (s : Spot) (e : End) (r : Option Ahead) → AreRight (silent_step w) ends → next.assigned ≡ Some p → s ≡ spot_of p → Some e ≡ end_of ends s → IfSome r (IsAtEnd w e left) → IfSome r (Passes w next left)
  noted ends left next p s e None right f same g h = tt
  noted ends left next p s e (Some a) right f same g h = by_end left next p e a f (subst (λ z. IsRight (silent_step w) z e) same (right_of (silent_step w) ends right s e (sym g))) h

  pub itself : (next : Link) (left : ℕ) (a : Ahead) → link_view a.link ≡ next → a.left ≡ left → Passes w next left a
  itself next left a e f = record {
    same = λ from g first before. ap (λ (z : ℕ). chain_of_links w first (before ++ links_within z w next)) (sym f) ∙ ap (λ (z : Link). chain_of_links w first (before ++ links_within a.left w z)) (sym e);
    few = omega (arith, f);
  }

  -- ---- the loop

  pub record Along (first : Link) (all : List Link) (link : Link) (left most : ℕ) : Type 0 where
    pub told : chain_of_links w first (all ++ links_within left w link) ≡ chain_of w first
    pub few : left ≤ most

  pub begun : (first : Link) (left most : ℕ) → left ≡ suc (count w) → left ≤ most → Along first [] first left most
  unfolding chain_of links
  begun first left most e le = record { told = rw e refl; few = le }

  pub over : (first : Link) (all : List Link) (link : Link) (left most : ℕ) → Along first all link left most → left ≤ 0 → chain_of_links w first all ≡ chain_of w first
  over first all link left most a le = ap (chain_of_links w first) (sym (append-nil all) ∙ sym (spent w all left link le)) ∙ a.told

  pub ended : (first : Link) (all : List Link) (link : Link) (left most : ℕ) → Along first all link left most → 0 < left → next_link w link ≡ None → chain_of_links w first (all ++ link ∷ []) ≡ chain_of w first
  ended first all link left most a lt e = sym (ap (chain_of_links w first) (ends w all left link lt e)) ∙ a.told

  pub onward : (first : Link) (all : List Link) (link next : Link) (left before most most' : ℕ) (a : Ahead) → Along first all link left most → left ≡ suc before → most ≡ suc most' → next_link w link ≡ Some next → Passes w next before a → Along first (all ++ link ∷ []) (link_view a.link) a.left most'
  onward first all link next left before most most' a so_far one less e p =
      let fewer = p.few in
      let le = so_far.few in
      record {
        told = sym (p.same link e first (all ++ link ∷ [])) ∙ (sym (ap (chain_of_links w first) (goes w all left before link next one e)) ∙ so_far.told);
        few = omega (arith, one, less, fewer, le);
      }
