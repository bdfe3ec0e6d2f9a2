-- A jump along imports leads to what the steps lead to.
use Rattle.std.proofs.Common.{◌≡◌, ℕ, zero, suc, ◌+◌, Bool, true, false, cond, is_some, List, [], ◌∷◌, Option, Some, None, refl, sym, ap, subst, ◌∙◌, arith}
use Rattle.std.specs.Prelude.{option_map, option_and_then, slice_get}
use Rattle.std.specs.List.{position_from}
use Rattle.acn_asn_syntax.specs.Mirror.{AsnModule, Assign, TypeIs, ValueIs}
use Rattle.acn_num.specs.Names.{Name}
use Rattle.acn_ends.specs.declared.spot.Spot.{Spot}
use Rattle.acn_ends.specs.declared.spot.End.{End}
use Rattle.acn_ends.specs.declared.spot.End.TheVariants as end
use Rattle.acn_ends.specs.declared.ends.Ends.{Ends}
use Rattle.acn_ends.specs.Ends.{IsEndless, AreRight, IsRight, end_of}
use Rattle.acn_ends.proofs.Leading.{Leads, stays, goes, leads, onward_endless, not_over, right_of}
use Rattle.acn_firsts.specs.Placed.{place_of}
use Rattle.acn_index.specs.World.{World, place}
use Rattle.acn_index.specs.Lookup.{is_named, own, imported_from, found_within}
use Rattle.acn_index.specs.Sorts.{meant}
use Rattle.acn_index.specs.Steps.{spot, import_onward, import_step, AreNumbered, IsJump, JumpsTo, AreJumps}
use Rattle.acn_index.specs.declared.lookup.Sort.{Sort}
use Rattle.acn_index.specs.declared.lookup.Sort.TheVariants.{Types, Values, Any}
use Rattle.acn_index.specs.declared.sources.TypeId.{TypeId}
use Rattle.acn_index.proofs.Following as follow

-- ---- where no assignment has the name, none of a sort has it

unmeant : (s : Sort) (q : Name) (a : Assign) → is_named q a ≡ false → meant s q a ≡ false
unmeant Types q (TypeIs n t) e = e
unmeant Types q (ValueIs n t v) e = refl
unmeant Values q (TypeIs n t) e = refl
unmeant Values q (ValueIs n t v) e = e
unmeant Any q a e = e

module _ (f g : Assign → Bool) (less : (a : Assign) → f a ≡ false → g a ≡ false) where
  none_here : (b c : Bool) (i : ℕ) (o p : Option ℕ) → (b ≡ false → c ≡ false) → cond b (Some i) o ≡ None → (o ≡ None → p ≡ None) → cond c (Some i) p ≡ None
  none_here true c i o p h e k = absurd (cc e)
  none_here false true i o p h e k = absurd (cc (h refl))
  none_here false false i o p h e k = k e

  none_from : (i : ℕ) (xs : List Assign) → position_from f i xs ≡ None → position_from g i xs ≡ None
  none_from i [] e = refl
  none_from i (x ∷ xs) e = none_here (f x) (g x) i (position_from f (i + 1) xs) (position_from g (i + 1) xs) (less x) e (none_from (i + 1) xs)

  unplaced : (k : ℕ) (o p : Option ℕ) → (o ≡ None → p ≡ None) → option_map (place k) o ≡ None → option_map (place k) p ≡ None
  unplaced k None p h e = ap (option_map (place k)) (h refl)
  unplaced k (Some i) p h e = absurd (cc e)

  in_module : (k : ℕ) (o : Option AsnModule) → option_and_then (λ (m : AsnModule). option_map (place k) (position_from f 0 m.items)) o ≡ None → option_and_then (λ (m : AsnModule). option_map (place k) (position_from g 0 m.items)) o ≡ None
  in_module k None e = refl
  in_module k (Some m) e = unplaced k (position_from f 0 m.items) (position_from g 0 m.items) (none_from 0 m.items) e

  pub none_of_it : (w : World) (k : ℕ) → own w f k ≡ None → own w g k ≡ None
  unfolding own
  none_of_it w k e = in_module k (slice_get w.modules k) e

-- ---- one step

module _ (w : World) (q : Name) where
  record Step (s t : Spot) : Type 0 where
    none : own w (is_named q) s.group ≡ None
    next : imported_from w q s.group ≡ Some t.group
    item : t.item ≡ s.item

  by_parts : (s t : Spot) (o : Option TypeId) (i : Option ℕ) → own w (is_named q) s.group ≡ o → imported_from w q s.group ≡ i → cond (is_some o) None (option_map (λ (k : ℕ). spot k s.item) i) ≡ Some t → Step s t
  by_parts s t (Some p) i e f h = absurd (cc h)
  by_parts s t None None e f h = absurd (cc h)
  by_parts s t None (Some k) e f h =
      let same : spot k s.item ≡ t = cc h in
      record { none = e; next = f ∙ ap (λ (z : Spot). Some z.group) same; item = sym (ap (λ (z : Spot). z.item) same) }

  module _ (names : List Name) where
    by_name : (s t : Spot) (o : Option Name) → o ≡ Some q → option_and_then (import_onward w s) o ≡ Some t → Step s t
    by_name s t None e h = absurd (cc e)
    by_name s t (Some r) e h =
        let same : r ≡ q = cc e in
        by_parts s t (own w (is_named q) s.group) (imported_from w q s.group) refl refl (subst (λ (z : Name). import_onward w s z ≡ Some t) same h)

    stepped : (s t : Spot) → slice_get names s.item ≡ Some q → import_step w names s ≡ Some t → Step s t
    unfolding import_step
    stepped s t e h = by_name s t (slice_get names s.item) e h

    over : (sort : Sort) (n : ℕ) (s t : Spot) → Step s t → found_within (suc n) w (meant sort q) q s.group ≡ found_within n w (meant sort q) q t.group
    over sort n s t st = follow.goes w (meant sort q) q (suc n) n s.group t.group refl (none_of_it (is_named q) (meant sort q) (unmeant sort q) w s.group st.none) st.next

    jumped : (sort : Sort) (n m : ℕ) (s e : Spot) → slice_get names s.item ≡ Some q → Leads (import_step w names) n s e → found_within (n + m) w (meant sort q) q s.group ≡ found_within m w (meant sort q) q e.group
    jumped sort zero m s e at stays = ap (λ (k : ℕ). found_within k w (meant sort q) q s.group) (omega arith)
    jumped sort (suc n) m s e at (goes {q = t} step l) =
        let st = stepped s t at step in
        let more : suc n + m ≡ suc (n + m) = omega arith in
        ap (λ (k : ℕ). found_within k w (meant sort q) q s.group) more
        ∙ (over sort (n + m) s t st ∙ jumped sort n m t e (ap (slice_get names) st.item ∙ at) l)

    lost_by : (sort : Sort) (m : ℕ) (s : Spot) (o : Option Spot) → import_step w names s ≡ o → slice_get names s.item ≡ Some q → IsEndless (import_step w names) s
        → ((t : Spot) → slice_get names t.item ≡ Some q → IsEndless (import_step w names) t → found_within m w (meant sort q) q t.group ≡ None)
        → found_within (suc m) w (meant sort q) q s.group ≡ None
    lost_by sort m s None f at e h = absurd (not_over (import_step w names) s f e)
    lost_by sort m s (Some t) f at e h =
        let st = stepped s t at f in
        over sort m s t st ∙ h t (ap (slice_get names) st.item ∙ at) (onward_endless (import_step w names) s t f e)

    lost : (sort : Sort) (m : ℕ) (s : Spot) → slice_get names s.item ≡ Some q → IsEndless (import_step w names) s → found_within m w (meant sort q) q s.group ≡ None
    lost sort zero s at e = follow.spent w (meant sort q) q zero s.group (omega arith)
    lost sort (suc m) s at e = lost_by sort m s (import_step w names s) refl at e (lost sort m)

    right_jump : (k x : ℕ) (e : End) → slice_get names x ≡ Some q → IsRight (import_step w names) (spot k x) e → JumpsTo w q k e
    right_jump k x (end.At s n) at h = λ sort m. jumped sort n m (spot k x) s at (leads (import_step w names) n (spot k x) s h.way)
    right_jump k x end.Never at h = λ sort m. lost sort m (spot k x) at h

pub are_jumps : (w : World) (numbers : List (Name × ℕ)) (names : List Name) (ends : Ends) → AreNumbered numbers names → AreRight (import_step w names) ends → AreJumps w numbers ends
are_jumps w numbers names ends numbered right = (
  λ q x k n s p f. right_jump w q names k x (end.At s n) (numbered q x p) (right_of (import_step w names) ends right (spot k x) (end.At s n) f),
  λ q x k p f. right_jump w q names k x end.Never (numbered q x p) (right_of (import_step w names) ends right (spot k x) end.Never f),
)

pub jump_of : (w : World) (numbers : List (Name × ℕ)) (ends : Ends) → AreJumps w numbers ends → (q : Name) (x k : ℕ) (e : End) → place_of q numbers ≡ Some x → end_of ends (spot k x) ≡ Some e → JumpsTo w q k e
jump_of w numbers ends right q x k (end.At s n) p f = right.0 q x k n s p f
jump_of w numbers ends right q x k end.Never p f = right.1 q x k p f

-- ---- a look-up behind a jump

pub found_behind : (w : World) (q : Name) (k most rest n : ℕ) (s : Spot) (sort : Sort) → IsJump w q n k s.group → most ≡ n + rest → found_within rest w (meant sort q) q s.group ≡ found_within most w (meant sort q) q k
found_behind w q k most rest n s sort jump e = sym (jump sort rest) ∙ ap (λ (m : ℕ). found_within m w (meant sort q) q k) (sym e)
