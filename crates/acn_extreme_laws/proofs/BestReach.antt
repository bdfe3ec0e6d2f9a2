-- The ends of the best values are those of the reach.
use Rattle.std.proofs.Common.{◌≡◌, ℕ, zero, suc, ◌+◌, ◌*◌, ◌^◌, ◌≤◌, ◌<◌, max, ℤ, Bool, true, false, ◌&&◌, ◌||◌, List, length, Option, Some, None, refl, sym, ap, ◌∙◌, arith, inl, inr, ◌⊎◌, nat_eq, nat_lt, subst}
use Rattle.std.proofs.lemmas.Bool.{eqb-true, and_parts}
use Rattle.std.proofs.lemmas.Bool.Decides.{nat_tests}
use Rattle.std.specs.Prelude.{if◌then◌else◌}
use Rattle.acn_num.specs.Bits.{octets as octets_for}
use Rattle.acn_num.specs.Ranges.{Ranges}
use Rattle.acn_grammar.specs.Grammar.{Grammar, Form, Fields, Alternatives, Data, Places, Elements, node, num, octets, bits, text, seq, list, choice, contained, no_fields, component, inserted, no_alternatives, alternative, no_elements, element}
use Rattle.acn_grammar.specs.Images.{ends}
use Rattle.acn_grammar.specs.Interval.{held, hull}
use Rattle.acn_grammar.specs.Leaves.{list_rule_fine, sizes_fine}
use Rattle.acn_grammar.specs.Length.{padding, rule_width, index_width, ending}
use Rattle.acn_grammar.specs.Scoped.{Known, with_slot, with_own, after, choose_known}
use Rattle.acn_grammar.specs.Sound.{Sound, FormSound, FieldsSound, AlternativesSound}
use Rattle.acn_grammar.specs.Tree.{is_align}
use Rattle.acn_grammar.specs.declared.bounds.Bounds.{Bounds}
use Rattle.acn_grammar.specs.declared.node.ChoiceRule.{ChoiceRule}
use Rattle.acn_grammar.specs.declared.node.SizeRule.{SizeRule}
use Rattle.acn_grammar.specs.declared.node.Sizing.{Sizing}
use Rattle.acn_grammar.proofs.WholeTests.{either}
use Rattle.acn_extreme_laws.specs.Best.{Way, side_of, Agree, behind, size_by, side_by, parts_way, better, put_way, where_way, there_way, alternative_way, with_place, past, record_way, element_way, with_element, is_enough, adds_nothing, run_way, or_none, run_by_ends, list_way, elements_way, octets_way, best, form_best, fields_best, cases_best}
use Rattle.acn_extreme_laws.specs.Codes.{ahead}
use Rattle.acn_extreme_laws.specs.Reach.{from_to, later, padded, and_then, or_else, where_can, parts_by, natural, behind as behind_it, earliest, furthest, latest, up_to, run_by, list_reach, presence_count, sizes_can, can_be_there, can_be_away, can_be_chosen, reach, form_reach, fields_reach, cases_reach}
use Rattle.acn_extreme_laws.specs.declared.side.Side.{Side}
use Rattle.acn_extreme_laws.specs.declared.side.Side.TheVariants.{Shortest, Longest}
use Rattle.acn_extreme_laws.proofs.Ready.{true_or_false}
use Rattle.acn_extreme_laws.proofs.Sizes.{low_high, sizes_ordered}
use Rattle.acn_extreme_laws.proofs.Tuples.{first_three, first_five, second_three, third_four, fourth_five, last_two, last_three, last_four, last_five}

-- Whether there is a way doesn't depend on the place.

abbrev pub Same : Option Bounds → Option Bounds → Type 0
Same None None = Unit {0}
Same (Some a) (Some b) = Unit {0}
Same None (Some b) = ⊥
Same (Some a) None = ⊥

same_then : (o o' : Option Bounds) (next : Bounds → Option Bounds) → Same o o' → ((b b' : Bounds) → Same (next b) (next b')) → Same (and_then o next) (and_then o' next)
same_then None None next h f = tt
same_then (Some a) (Some b) next h f = f a b
same_then None (Some b) next h f = absurd h
same_then (Some a) None next h f = absurd h

same_else : (o o' p p' : Option Bounds) → Same o o' → Same p p' → Same (or_else o p) (or_else o' p')
same_else None None p p' h k = k
same_else (Some a) (Some b) None None h k = tt
same_else (Some a) (Some b) (Some c) (Some d) h k = tt
same_else (Some a) (Some b) None (Some d) h k = absurd k
same_else (Some a) (Some b) (Some c) None h k = absurd k
same_else None (Some b) p p' h k = absurd h
same_else (Some a) None p p' h k = absurd h

same_where : (can : Bool) (o o' : Option Bounds) → Same o o' → Same (where_can can o) (where_can can o')
same_where true o o' h = h
same_where false o o' h = tt

same_parts : (o : Option (ℤ × ℤ)) (unit : ℕ) (b b' : Bounds) → Same (parts_by o unit b) (parts_by o unit b')
same_parts None unit b b' = tt
same_parts (Some e) unit b b' = tt

abbrev SameNumbers : Option ℕ → Option ℕ → Type 0
SameNumbers None None = Unit {0}
SameNumbers (Some a) (Some b) = Unit {0}
SameNumbers None (Some b) = ⊥
SameNumbers (Some a) None = ⊥

module _ (each : Bounds → Option Bounds) (same : (b b' : Bounds) → Same (each b) (each b')) where
  same_earliest : (n : ℕ) (b b' : Bounds) → SameNumbers (earliest each n b) (earliest each n b')
  same_earliest zero b b' = tt
  same_earliest (suc n) b b' = by (each b) (each b') (same b b') (λ c c'. same_earliest n c c')
    where
      by : (o o' : Option Bounds) → Same o o' → ((c c' : Bounds) → SameNumbers (earliest each n c) (earliest each n c')) → SameNumbers (behind_it o (λ c. earliest each n c)) (behind_it o' (λ c. earliest each n c))
      by None None h again = tt
      by (Some c) (Some c') h again = again c c'
      by None (Some c') h again = absurd h
      by (Some c) None h again = absurd h

  same_up_to : (o o' : Option ℕ) (h h' : ℕ) → SameNumbers o o' → Same (up_to o h) (up_to o' h')
  same_up_to None None h h' s = tt
  same_up_to (Some a) (Some b) h h' s = tt
  same_up_to None (Some b) h h' s = absurd s
  same_up_to (Some a) None h h' s = absurd s

  same_run : (o : Option (ℤ × ℤ)) (b b' : Bounds) → Same (run_by each o b) (run_by each o b')
  same_run None b b' = tt
  same_run (Some e) b b' = same_up_to (earliest each (natural e.0) b) (earliest each (natural e.0) b') _ _ (same_earliest (natural e.0) b b')

  same_list : (p : Option (List Bool)) (rule : SizeRule) (rs : Ranges) (b b' : Bounds) → Same (list_reach p rule each rs b) (list_reach p rule each rs b')
  same_list None rule rs b b' = same_run (ends rs) _ _
  same_list (Some p) rule rs b b' = same_then (run_by each (ends rs) b) (run_by each (ends rs) b') (λ c. Some (later (length p) c)) (same_run (ends rs) b b') (λ c c'. tt)

module _ (root : Grammar) where
  mutual
    pub same_node : (g : Grammar) (b b' : Bounds) → Same (reach root g b) (reach root g b')
    same_node (node a form) b b' = same_form form (padded a b) (padded a b')

    same_form : (form : Form) (b b' : Bounds) → Same (form_reach root form b) (form_reach root form b')
    same_form (num l) b b' = tt
    same_form (octets z) b b' = same_parts (ends (sizes_can root z)) 8 _ _
    same_form (bits z) b b' = same_parts (ends (sizes_can root z)) 1 _ _
    same_form (text l) b b' = same_parts (ends (sizes_can root l.sized)) l.width _ _
    same_form (seq fs home) b b' = same_fields fs _ _
    same_form (list z g) b b' = same_list (reach root g) (λ c c'. same_node g c c') (ending z.rule) z.rule (sizes_can root z) b b'
    same_form (choice cases rule) b b' = same_cases cases rule _ _
    same_form (contained z g) b b' = content (reach root g (from_to 0 0))
      where
        content : (o : Option Bounds) → Same (and_then o (λ c. Some (from_to (b.least + (rule_width z.rule + 8 * octets_for c.least)) (b.greatest + (rule_width z.rule + 8 * octets_for c.greatest)))))
            (and_then o (λ c. Some (from_to (b'.least + (rule_width z.rule + 8 * octets_for c.least)) (b'.greatest + (rule_width z.rule + 8 * octets_for c.greatest)))))
        content None = tt
        content (Some c) = tt

    same_fields : (fs : Fields) (b b' : Bounds) → Same (fields_reach root fs b) (fields_reach root fs b')
    same_fields no_fields b b' = tt
    same_fields (component n g p def own fs) b b' =
        same_then (or_else (where_can (can_be_there root p) (reach root g b)) (where_can (can_be_away root p) (Some b))) (or_else (where_can (can_be_there root p) (reach root g b')) (where_can (can_be_away root p) (Some b'))) (fields_reach root fs)
        (same_else (where_can (can_be_there root p) (reach root g b)) (where_can (can_be_there root p) (reach root g b')) (where_can (can_be_away root p) (Some b)) (where_can (can_be_away root p) (Some b'))
        (same_where (can_be_there root p) (reach root g b) (reach root g b') (same_node g b b')) (same_where (can_be_away root p) (Some b) (Some b') tt))
        (λ c c'. same_fields fs c c')
    same_fields (inserted n g slot fs) b b' = same_then (reach root g b) (reach root g b') (fields_reach root fs) (same_node g b b') (λ c c'. same_fields fs c c')

    same_cases : (cases : Alternatives) (rule : ChoiceRule) (b b' : Bounds) → Same (cases_reach root rule cases b) (cases_reach root rule cases b')
    same_cases no_alternatives rule b b' = tt
    same_cases (alternative n g ts more) rule b b' =
        same_else (where_can (can_be_chosen root rule n ts) (reach root g b)) (where_can (can_be_chosen root rule n ts) (reach root g b')) (cases_reach root rule more b) (cases_reach root rule more b')
        (same_where (can_be_chosen root rule n ts) (reach root g b) (reach root g b') (same_node g b b')) (same_cases more rule b b')

-- Places.

held_later : (side : Side) (n : ℕ) (b : Bounds) (at : ℕ) → at ≡ held (side_of side b) → behind at n ≡ held (side_of side (later n b))
held_later Shortest n b at e = omega arith
held_later Longest n b at e = omega arith

pub padded_held : (a x at : ℕ) → is_align a ≡ true → at ≡ held x → behind at (padding a at) ≡ held (x + padding a x)
padded_held a x at h e = by (less (2 ^ 40) x)
  where
    less : (m n : ℕ) → (m < n) ⊎ (n ≤ m)
    less m n = test (nat_lt m n) refl
      where
        test : (b : Bool) → nat_lt m n ≡ b → (m < n) ⊎ (n ≤ m)
        test true q = inl (grind (arith, nat_tests, q))
        test false q = inr (grind (arith, nat_tests, q))

    none : padding a (2 ^ 40) ≡ 0
    none = either {F = padding a (2 ^ 40) ≡ 0} (nat_eq a 1) (nat_eq a 8 || (nat_eq a 16 || nat_eq a 32)) h
        (λ q. rw (eqb-true a 1 q) refl)
        (λ q. either {F = padding a (2 ^ 40) ≡ 0} (nat_eq a 8) (nat_eq a 16 || nat_eq a 32) q
        (λ r. rw (eqb-true a 8 r) refl)
        (λ r. either {F = padding a (2 ^ 40) ≡ 0} (nat_eq a 16) (nat_eq a 32) r (λ s. rw (eqb-true a 16 s) refl) (λ s. rw (eqb-true a 32 s) refl)))

    by : ((2 ^ 40) < x) ⊎ (x ≤ 2 ^ 40) → behind at (padding a at) ≡ held (x + padding a x)
    by (inl l) = (let is : at ≡ 2 ^ 40 = omega arith in let p : padding a at ≡ 0 = ap (padding a) is ∙ none in omega arith)
    by (inr l) = (let is : at ≡ x = omega arith in ap (λ y. held (y + padding a y)) is)

held_padded : (side : Side) (a : ℕ) (b : Bounds) (at : ℕ) → is_align a ≡ true → at ≡ held (side_of side b) → behind at (padding a at) ≡ held (side_of side (padded a b))
held_padded Shortest a b at h e = padded_held a b.least at h e
held_padded Longest a b at h e = padded_held a b.greatest at h e

-- Ways.

module _ {A : Type 0} (side : Side) where
  agree_better : (s x : Option Bounds) (p q : Option (Way A)) → Agree side s p → Agree side x q → Agree side (or_else s x) (better side p q)
  agree_better None x None q h k = k
  agree_better (Some r) None (Some w) None h k = h
  agree_better (Some r) (Some t) (Some w) (Some v) h k = by side refl
    where
      by : (z : Side) → side ≡ z → Agree side (Some (hull r t)) (if ahead side v.0 w.0 then Some v else Some w)
      by Shortest e = rw e (test (nat_lt v.0 w.0) refl)
        where
          hs : w.0 ≡ held r.least
          hs = subst (λ z. w.0 ≡ held (side_of z r)) e h

          ks : v.0 ≡ held t.least
          ks = subst (λ z. v.0 ≡ held (side_of z t)) e k

          test : (b : Bool) → nat_lt v.0 w.0 ≡ b → Agree Shortest (Some (hull r t)) (if b then Some v else Some w)
          test true q = (let l : v.0 < w.0 = grind (arith, nat_tests, q) in omega (arith, hs, ks))
          test false q = (let l : w.0 ≤ v.0 = grind (arith, nat_tests, q) in omega (arith, hs, ks))
      by Longest e = rw e (test (nat_lt w.0 v.0) refl)
        where
          hs : w.0 ≡ held r.greatest
          hs = subst (λ z. w.0 ≡ held (side_of z r)) e h

          ks : v.0 ≡ held t.greatest
          ks = subst (λ z. v.0 ≡ held (side_of z t)) e k

          test : (b : Bool) → nat_lt w.0 v.0 ≡ b → Agree Longest (Some (hull r t)) (if b then Some v else Some w)
          test true q = (let l : w.0 < v.0 = grind (arith, nat_tests, q) in omega (arith, hs, ks))
          test false q = (let l : v.0 ≤ w.0 = grind (arith, nat_tests, q) in omega (arith, hs, ks))
  agree_better None x (Some w) q h k = absurd h
  agree_better (Some r) x None q h k = absurd h
  agree_better (Some r) None (Some w) (Some v) h k = absurd k
  agree_better (Some r) (Some t) (Some w) None h k = absurd k

  agree_where : (can : Bool) (o : Option Bounds) (w : Option (Way A)) → Agree side o w → Agree side (where_can can o) (where_way can w)
  agree_where true o w h = h
  agree_where false o w h = tt

  -- hulls in another order
  agree_moved : (o o' : Option Bounds) → ((r r' : Bounds) → o ≡ Some r → o' ≡ Some r' → side_of side r ≡ side_of side r') → Same o o' → (w : Option (Way A)) → Agree side o w → Agree side o' w
  agree_moved None None f h w k = k
  agree_moved (Some r) (Some r') f h (Some w) k = k ∙ ap held (f r r' refl refl)
  agree_moved (Some r) (Some r') f h None k = absurd k
  agree_moved None (Some r') f h w k = absurd h
  agree_moved (Some r) None f h w k = absurd h

  agree_swapped : (a b : Option Bounds) (w : Option (Way A)) → Agree side (or_else a b) w → Agree side (or_else b a) w
  agree_swapped None None w h = h
  agree_swapped None (Some b) w h = h
  agree_swapped (Some a) None w h = h
  agree_swapped (Some a) (Some b) None h = absurd h
  agree_swapped (Some a) (Some b) (Some w) h = h ∙ ap held (by side)
    where
      by : (z : Side) → side_of z (hull a b) ≡ side_of z (hull b a)
      by Shortest = omega arith
      by Longest = omega arith

  agree_grouped : (s x rest : Option Bounds) (w : Option (Way A)) → Agree side (or_else (or_else s x) rest) w → Agree side (or_else s (or_else x rest)) w
  agree_grouped None x rest w h = h
  agree_grouped (Some s) None None w h = h
  agree_grouped (Some s) None (Some c) w h = h
  agree_grouped (Some s) (Some x) None w h = h
  agree_grouped (Some s) (Some x) (Some c) None h = absurd h
  agree_grouped (Some s) (Some x) (Some c) (Some w) h = h ∙ ap held (by side)
    where
      by : (z : Side) → side_of z (hull (hull s x) c) ≡ side_of z (hull s (hull x c))
      by Shortest = omega arith
      by Longest = omega arith

agree_there : (side : Side) (o : Option Bounds) (w : Option (Way Data)) → Agree side o w → Agree side o (there_way w)
agree_there side None None h = tt
agree_there side (Some r) (Some w) h = h
agree_there side None (Some w) h = absurd h
agree_there side (Some r) None h = absurd h

agree_alternative : (side : Side) (i : ℕ) (o : Option Bounds) (w : Option (Way Data)) → Agree side o w → Agree side o (alternative_way i w)
agree_alternative side i None None h = tt
agree_alternative side i (Some r) (Some w) h = h
agree_alternative side i None (Some w) h = absurd h
agree_alternative side i (Some r) None h = absurd h

agree_record : (side : Side) (o : Option Bounds) (w : Option (Way Places)) → Agree side o w → Agree side o (record_way w)
agree_record side None None h = tt
agree_record side (Some r) (Some w) h = h
agree_record side None (Some w) h = absurd h
agree_record side (Some r) None h = absurd h

agree_put : (side : Side) (d : Option Data) (o : Option Bounds) (w : Option (Way Places)) → Agree side o w → Agree side o (put_way d w)
agree_put side d None None h = tt
agree_put side d (Some r) (Some w) h = h
agree_put side d None (Some w) h = absurd h
agree_put side d (Some r) None h = absurd h

agree_place : (side : Side) (o : Option Bounds) (w : Option (Way (Option Data))) (next : Bounds → Option Bounds) (more : ℕ → Option (Way Places)) → Agree side o w → ((b : Bounds) (at : ℕ) → at ≡ held (side_of side b) → Agree side (next b) (more at)) → Agree side (and_then o next) (with_place w more)
agree_place side None None next more h f = tt
agree_place side (Some r) (Some w) next more h f = agree_put side w.1 (next r) (more w.0) (f r w.0 h)
agree_place side None (Some w) next more h f = absurd h
agree_place side (Some r) None next more h f = absurd h

agree_past : (side : Side) (o : Option Bounds) (w : Option (Way Data)) (next : Bounds → Option Bounds) (more : ℕ → Option (Way Places)) → Agree side o w → ((b : Bounds) (at : ℕ) → at ≡ held (side_of side b) → Agree side (next b) (more at)) → Agree side (and_then o next) (past w more)
agree_past side None None next more h f = tt
agree_past side (Some r) (Some w) next more h f = f r w.0 h
agree_past side None (Some w) next more h f = absurd h
agree_past side (Some r) None next more h f = absurd h

agree_parts : (side : Side) (unit : ℕ) (value : ℕ → Data) (o : Option (ℤ × ℤ)) (b : Bounds) (at : ℕ) → at ≡ held (side_of side b) → Agree side (parts_by o unit b) (parts_way unit value at (size_by side o))
agree_parts side unit value None b at e = tt
agree_parts Shortest unit value (Some t) b at e = omega arith
agree_parts Longest unit value (Some t) b at e = omega arith

no_width : (side : Side) (value : ℕ → Data) (t : ℤ × ℤ) (b : Bounds) (at : ℕ) → at ≡ held (side_of side b) → Agree side (parts_by (Some t) 0 b) (parts_way 0 value at (size_by Shortest (Some t)))
no_width Shortest value t b at e = omega arith
no_width Longest value t b at e = omega arith

agree_texts : (side : Side) (unit : ℕ) (value : ℕ → Data) (o : Option (ℤ × ℤ)) (b : Bounds) (at : ℕ) → at ≡ held (side_of side b) → Agree side (parts_by o unit b) (parts_way unit value at (size_by (side_by unit side) o))
agree_texts side unit value None b at e = tt
agree_texts side unit value (Some t) b at e = by (nat_eq unit 0) refl
  where
    by : (zero_wide : Bool) → nat_eq unit 0 ≡ zero_wide → Agree side (parts_by (Some t) unit b) (parts_way unit value at (size_by (if zero_wide then Shortest else side) (Some t)))
    by true is = rw (eqb-true unit 0 is) (no_width side value t b at e)
    by false is = agree_parts side unit value (Some t) b at e

agree_octets : (side : Side) (width : ℕ) (o : Option Bounds) (w : Option (Way Data)) (b : Bounds) (at : ℕ) → at ≡ held (side_of side b) → Agree side o w
    → Agree side (and_then o (λ c. Some (from_to (b.least + (width + 8 * octets_for c.least)) (b.greatest + (width + 8 * octets_for c.greatest))))) (octets_way at width w)
agree_octets side width None None b at e h = tt
agree_octets Shortest width (Some c) (Some w) b at e h = omega (arith, e, h)
agree_octets Longest width (Some c) (Some w) b at e h = omega (arith, e, h)
agree_octets side width None (Some w) b at e h = absurd h
agree_octets side width (Some c) None b at e h = absurd h

-- Elements.

abbrev LowAgree : {A : Type 0} → Option ℕ → Option (Way A) → Type 0
LowAgree None None = Unit {0}
LowAgree (Some n) (Some w) = w.0 ≡ held n
LowAgree None (Some w) = ⊥
LowAgree (Some n) None = ⊥

low_element : (d : Data) (o : Option ℕ) (w : Option (Way Elements)) → LowAgree o w → LowAgree o (element_way d w)
low_element d None None h = tt
low_element d (Some n) (Some w) h = h
low_element d None (Some w) h = absurd h
low_element d (Some n) None h = absurd h

-- so many elements, whose end is this far
record LongRun (sizes : Ranges) (each : ℕ → Option (Way Data)) (n k at end : ℕ) : Type 0 where
  way : Way Elements
  is : run_way (is_enough Longest sizes) each n k at ≡ Some way
  ends_there : way.0 ≡ held end
  later_on : at ≤ way.0

module _ (reaches : Bounds → Option Bounds) (same : (b b' : Bounds) → Same (reaches b) (reaches b')) where
  run_short : (sizes : Ranges) (each : ℕ → Option (Way Data)) → ((b : Bounds) (at : ℕ) → at ≡ held b.least → Agree Shortest (reaches b) (each at))
      → (n k : ℕ) (b : Bounds) (at : ℕ) → at ≡ held b.least → LowAgree (earliest reaches n b) (run_way (is_enough Shortest sizes) each n k at)
  run_short sizes each h zero k b at e = e
  run_short sizes each h (suc n) k b at e = none_early (adds_nothing (each at) at) (by (reaches b) (each at) (h b at e) (λ c m q. run_short sizes each h n (suc k) c m q))
    where
      enough : ℕ → Bool
      enough = is_enough Shortest sizes

      by : (o : Option Bounds) (w : Option (Way Data)) → Agree Shortest o w → ((c : Bounds) (m : ℕ) → m ≡ held c.least → LowAgree (earliest reaches n c) (run_way enough each n (suc k) m)) → LowAgree (behind_it o (λ c. earliest reaches n c)) (with_element w (run_way enough each n (suc k)))
      by None None p again = tt
      by (Some c) (Some w) p again = low_element w.1 (earliest reaches n c) (run_way enough each n (suc k) w.0) (again c w.0 p)
      by None (Some w) p again = absurd p
      by (Some c) None p again = absurd p

      none_early : (t : Bool) → LowAgree (earliest reaches (suc n) b) (with_element (each at) (run_way enough each n (suc k))) → LowAgree (earliest reaches (suc n) b) (if t && false then Some (at, no_elements) else with_element (each at) (run_way enough each n (suc k)))
      none_early true p = p
      none_early false p = p

  module _ (each : ℕ → Option (Way Data)) (h : (b : Bounds) (at : ℕ) → at ≡ held b.greatest → Agree Longest (reaches b) (each at)) (some : (b : Bounds) → reaches b ≡ None → ⊥) where
    -- where one element has no bits, no more of them have
    stays : (at : ℕ) (w : Way Data) → each at ≡ Some w → w.0 ≡ at → (n : ℕ) (b : Bounds) → at ≡ held b.greatest → held (latest reaches n b) ≡ at
    stays at w q same zero b e = sym e
    stays at w q same (suc n) b e = by (reaches b) (subst (Agree Longest (reaches b)) q (h b at e)) (λ c f. stays at w q same n c f)
      where
        by : (o : Option Bounds) → Agree Longest o (Some w) → ((c : Bounds) → at ≡ held c.greatest → held (latest reaches n c) ≡ at) → held (furthest b.greatest o (λ c. latest reaches n c)) ≡ at
        by None agrees again = absurd agrees
        by (Some c) agrees again = (let rest = again c (sym same ∙ agrees) in omega (arith, e, rest))

    run_long : (sizes : Ranges) → ((at : ℕ) (w : Way Data) → at ≡ held at → each at ≡ Some w → at ≤ w.0) → (n k : ℕ) (b : Bounds) (at : ℕ) → at ≡ held b.greatest → LongRun sizes each n k at (latest reaches n b)
    run_long sizes grows zero k b at e = record { way = (at, no_elements); is = refl; ends_there = e; later_on = omega arith }
    run_long sizes grows (suc n) k b at e = by (reaches b) (each at) refl refl (h b at e) (λ c m q. run_long sizes grows n (suc k) c m q)
      where
        enough : ℕ → Bool
        enough = is_enough Longest sizes

        stopped : (w : Way Data) → each at ≡ Some w → (nat_eq w.0 at && enough k) ≡ true → LongRun sizes each (suc n) k at (latest reaches (suc n) b)
        stopped w q t =
            let same = eqb-true w.0 at (and_parts (nat_eq w.0 at) (enough k) t).0 in
            record {
              way = (at, no_elements);
              is = rw (q, t) refl;
              ends_there = sym (stays at w q same (suc n) b e);
              later_on = omega arith;
            }

        goes_on : (c : Bounds) (w : Way Data) → reaches b ≡ Some c → each at ≡ Some w → (nat_eq w.0 at && enough k) ≡ false → LongRun sizes each n (suc k) w.0 (latest reaches n c) → LongRun sizes each (suc n) k at (latest reaches (suc n) b)
        goes_on c w p q t rest =
            let one = grows at w (omega arith) q in
            let two = rest.later_on in
            let three = rest.ends_there in
            let four : latest reaches (suc n) b ≡ max b.greatest (latest reaches n c) = ap (λ o. furthest b.greatest o (λ c. latest reaches n c)) p in
            record {
              way = ((rest.way).0, element w.1 (rest.way).1);
              is = rw (q, t) (ap (element_way w.1) rest.is);
              ends_there = omega arith;
              later_on = omega arith;
            }

        by : (o : Option Bounds) (w : Option (Way Data)) → reaches b ≡ o → each at ≡ w → Agree Longest o w → ((c : Bounds) (m : ℕ) → m ≡ held c.greatest → LongRun sizes each n (suc k) m (latest reaches n c)) → LongRun sizes each (suc n) k at (latest reaches (suc n) b)
        by None w p q agrees again = absurd (some b p)
        by (Some c) None p q agrees again = absurd agrees
        by (Some c) (Some w) p q agrees again =
            true_or_false {F = LongRun sizes each (suc n) k at (latest reaches (suc n) b)} (nat_eq w.0 at && enough k) (λ t. stopped w q t) (λ t. goes_on c w p q t (again c w.0 agrees))

  all_some : (b : Bounds) (c : Bounds) → reaches b ≡ Some c → (b' : Bounds) → reaches b' ≡ None → ⊥
  all_some b c e b' n = by (reaches b) (reaches b') e n (same b b')
    where
      by : (o o' : Option Bounds) → o ≡ Some c → o' ≡ None → Same o o' → ⊥
      by None o' e n s = absurd (differ e)
        where
          differ : None ≡ Some c → ⊥
          differ q = cc
      by (Some x) None e n s = s
      by (Some x) (Some y) e n s = absurd (differ n)
        where
          differ : Some y ≡ None → ⊥
          differ q = cc

  some_earliest : (some : (b : Bounds) → reaches b ≡ None → ⊥) → (n : ℕ) (b : Bounds) → (low : ℕ) × (earliest reaches n b ≡ Some low)
  some_earliest some zero b = (b.least, refl)
  some_earliest some (suc n) b = by (reaches b) refl (λ c. some_earliest some n c)
    where
      by : (o : Option Bounds) → reaches b ≡ o → ((c : Bounds) → (low : ℕ) × (earliest reaches n c ≡ Some low)) → (low : ℕ) × (behind_it o (λ c. earliest reaches n c) ≡ Some low)
      by None e again = absurd (some b e)
      by (Some c) e again = again c

  run_agrees : (side : Side) (sizes : Ranges) (each : ℕ → Option (Way Data)) → ((b : Bounds) (at : ℕ) → at ≡ held (side_of side b) → Agree side (reaches b) (each at)) → ((at : ℕ) (w : Way Data) → at ≡ held at → each at ≡ Some w → at ≤ w.0)
      → (o : Option (ℤ × ℤ)) → ((e : ℤ × ℤ) → o ≡ Some e → natural e.0 ≤ natural e.1) → (b : Bounds) (at : ℕ) → at ≡ held (side_of side b) → Agree side (run_by reaches o b) (run_by_ends side sizes each at o)
  run_agrees side sizes each h grows None le b at e = tt
  run_agrees Shortest sizes each h grows (Some t) le b at e = by (natural t.0)
    where
      other : (m : ℕ) (o : Option ℕ) (w : Option (Way Elements)) → LowAgree o w → Agree Shortest (up_to o (latest reaches (natural t.1) b)) (or_none w (suc m) at)
      other m None None k = tt
      other m (Some n) (Some w) k = k
      other m None (Some w) k = absurd k
      other m (Some n) None k = absurd k

      by : (n : ℕ) → Agree Shortest (up_to (earliest reaches n b) (latest reaches (natural t.1) b)) (or_none (run_way (is_enough Shortest sizes) each n 0 at) n at)
      by zero = e
      by (suc m) = other m (earliest reaches (suc m) b) (run_way (is_enough Shortest sizes) each (suc m) 0 at) (run_short sizes each h (suc m) 0 b at e)
  run_agrees Longest sizes each h grows (Some t) le b at e = by (reaches b) refl
    where
      none : (low high : ℕ) → low ≤ high → reaches b ≡ None → each at ≡ None → Agree Longest (up_to (earliest reaches low b) (latest reaches high b)) (or_none (run_way (is_enough Longest sizes) each high 0 at) low at)
      none zero zero l p q = e
      none (suc m) zero l p q = absurd (omega arith)
      none zero (suc n) l p q = rw (p, q) e
      none (suc m) (suc n) l p q = rw (p, q) tt

      none_each : (o : Option (Way Data)) → Agree Longest None o → o ≡ None
      none_each None k = refl
      none_each (Some w) k = absurd k

      by : (o : Option Bounds) → reaches b ≡ o → Agree Longest (up_to (earliest reaches (natural t.0) b) (latest reaches (natural t.1) b)) (or_none (run_way (is_enough Longest sizes) each (natural t.1) 0 at) (natural t.0) at)
      by None p = none (natural t.0) (natural t.1) (le t refl) p (none_each (each at) (subst (λ (o : Option Bounds). Agree Longest o (each at)) p (h b at e)))
      by (Some c) p =
          let some = all_some b c p in
          let low = some_earliest some (natural t.0) b in
          let run = run_long each h some sizes grows (natural t.1) 0 b at e in
          rw (low.1, run.is) run.ends_there

agree_list : (side : Side) (n : ℕ) (o : Option Bounds) (w : Option (Way Elements)) → Agree side o w → Agree side (and_then o (λ c. Some (later n c))) (list_way n w)
agree_list side n None None h = tt
agree_list Shortest n (Some c) (Some w) h = omega arith
agree_list Longest n (Some c) (Some w) h = omega arith
agree_list side n None (Some w) h = absurd h
agree_list side n (Some c) None h = absurd h

agree_as_it_is : (side : Side) (o : Option Bounds) (w : Option (Way Elements)) → Agree side o w → Agree side o (list_way 0 w)
agree_as_it_is side None None h = tt
agree_as_it_is Shortest (Some c) (Some w) h = omega arith
agree_as_it_is Longest (Some c) (Some w) h = omega arith
agree_as_it_is side None (Some w) h = absurd h
agree_as_it_is side (Some c) None h = absurd h

module _ (root : Grammar) (side : Side) (grows : (k : ℕ) (around : List ℕ) (ks : Known) (g : Grammar) → Sound root k around ks g → (at : ℕ) (w : Way Data) → at ≡ held at → best root side g at ≡ Some w → at ≤ w.0) where
  list_agrees : (z : Sizing) (g : Grammar) → sizes_fine z.sizes ≡ true → ((c : Bounds) (m : ℕ) → m ≡ held (side_of side c) → Agree side (reach root g c) (best root side g m)) → ((m : ℕ) (w : Way Data) → m ≡ held m → best root side g m ≡ Some w → m ≤ w.0)
      → (o : Option (List Bool)) (b : Bounds) (at : ℕ) → at ≡ held (side_of side b) → Agree side (list_reach o z.rule (reach root g) (sizes_can root z) b) (elements_way side o z.rule (best root side g) (sizes_can root z) at)
  list_agrees z g fine h later_on o b at e = by o
    where
      run : (b : Bounds) (at : ℕ) → at ≡ held (side_of side b) → Agree side (run_by (reach root g) (ends (sizes_can root z)) b) (run_by_ends side (sizes_can root z) (best root side g) at (ends (sizes_can root z)))
      run b at e = run_agrees (reach root g) (same_node root g) side (sizes_can root z) (best root side g) h later_on (ends (sizes_can root z)) (low_high (sizes_can root z) (sizes_ordered root z fine)) b at e

      by : (o : Option (List Bool)) → Agree side (list_reach o z.rule (reach root g) (sizes_can root z) b) (elements_way side o z.rule (best root side g) (sizes_can root z) at)
      by None = agree_as_it_is side (run_by (reach root g) (ends (sizes_can root z)) (later (rule_width z.rule) b)) (run_by_ends side (sizes_can root z) (best root side g) (behind at (rule_width z.rule)) (ends (sizes_can root z)))
          (run (later (rule_width z.rule) b) (behind at (rule_width z.rule)) (held_later side (rule_width z.rule) b at e))
      by (Some p) = agree_list side (length p) (run_by (reach root g) (ends (sizes_can root z)) b) (run_by_ends side (sizes_can root z) (best root side g) at (ends (sizes_can root z))) (run b at e)

  mutual
    pub node_agrees : (g : Grammar) (k : ℕ) (around : List ℕ) (ks : Known) → Sound root k around ks g → (b : Bounds) (at : ℕ) → at ≡ held (side_of side b) → Agree side (reach root g b) (best root side g at)
    node_agrees (node a form) k around ks sound b at e = form_agrees form k around ks (last_three sound) (padded a b) (behind at (padding a at)) (held_padded side a b at (first_three sound) e)

    form_agrees : (form : Form) (k : ℕ) (around : List ℕ) (ks : Known) → FormSound root k around ks form → (b : Bounds) (at : ℕ) → at ≡ held (side_of side b) → Agree side (form_reach root form b) (form_best root side form at)
    form_agrees (num l) k around ks sound b at e = by side e
      where
        by : (z : Side) → at ≡ held (side_of z b) → Agree z (form_reach root (num l) b) (form_best root z (num l) at)
        by Shortest e = omega arith
        by Longest e = omega arith
    form_agrees (octets z) k around ks sound b at e = agree_parts side 8 _ (ends (sizes_can root z)) (later (rule_width z.rule) b) (behind at (rule_width z.rule)) (held_later side (rule_width z.rule) b at e)
    form_agrees (bits z) k around ks sound b at e = agree_parts side 1 _ (ends (sizes_can root z)) (later (rule_width z.rule) b) (behind at (rule_width z.rule)) (held_later side (rule_width z.rule) b at e)
    form_agrees (text l) k around ks sound b at e = agree_texts side l.width _ (ends (sizes_can root l.sized)) _ _ (held_later side _ b at e)
    form_agrees (seq fs home) k around ks sound b at e =
        agree_record side (fields_reach root fs (later (presence_count fs) b)) (fields_best root side fs (behind at (presence_count fs)))
        (fields_agree fs (suc k) _ ks (last_two sound) (later (presence_count fs) b) (behind at (presence_count fs)) (held_later side (presence_count fs) b at e))
    form_agrees (list z g) k around ks sound b at e =
        list_agrees z g (and_parts (sizes_fine z.sizes) (list_rule_fine (ending z.rule) z) (first_five sound)).0 (λ c m q. node_agrees g (suc k) around ks (last_five sound) c m q) (grows (suc k) around ks g (last_five sound)) (ending z.rule) b at e
    form_agrees (choice cases rule) k around ks sound b at e =
        cases_agree cases rule (suc k) around ks (last_four sound) 0 (later (index_width rule) b) (behind at (index_width rule)) (held_later side (index_width rule) b at e) None None tt
    form_agrees (contained z g) k around ks sound b at e = agree_octets side (rule_width z.rule) (reach root g (from_to 0 0)) (best root side g 0) b at e (node_agrees g (suc k) around ks (last_four sound) (from_to 0 0) 0 (by side))
      where
        by : (z : Side) → 0 ≡ held (side_of z (from_to 0 0))
        by Shortest = refl
        by Longest = refl

    fields_agree : (fs : Fields) (k : ℕ) (around : List ℕ) (ks : Known) → FieldsSound root k around ks fs → (b : Bounds) (at : ℕ) → at ≡ held (side_of side b) → Agree side (fields_reach root fs b) (fields_best root side fs at)
    fields_agree no_fields k around ks sound b at e = e
    fields_agree (component n g p def own fs) k around ks sound b at e =
        agree_place side (or_else (where_can (can_be_there root p) (reach root g b)) (where_can (can_be_away root p) (Some b)))
        (better side (where_way (can_be_away root p) (Some (at, None))) (where_way (can_be_there root p) (there_way (best root side g at)))) (fields_reach root fs) (fields_best root side fs)
        (agree_swapped side (where_can (can_be_away root p) (Some b)) (where_can (can_be_there root p) (reach root g b)) _
        (agree_better side (where_can (can_be_away root p) (Some b)) (where_can (can_be_there root p) (reach root g b)) (where_way (can_be_away root p) (Some (at, None))) (where_way (can_be_there root p) (there_way (best root side g at)))
        (agree_where side (can_be_away root p) (Some b) (Some (at, None)) e)
        (agree_where side (can_be_there root p) (reach root g b) (there_way (best root side g at)) (agree_there side (reach root g b) (best root side g at) (node_agrees g k around ks (fourth_five sound) b at e)))))
        (λ c m q. fields_agree fs k around (choose_known p ks (with_own own (after ks g))) (last_five sound) c m q)
    fields_agree (inserted n g (Some s) fs) k around ks sound b at e =
        agree_past side (reach root g b) (best root side g at) (fields_reach root fs) (fields_best root side fs) (node_agrees g k around ks (third_four sound) b at e)
        (λ c m q. fields_agree fs k around (with_slot s ks) (last_four sound) c m q)
    fields_agree (inserted n g None fs) k around ks sound b at e =
        agree_past side (reach root g b) (best root side g at) (fields_reach root fs) (fields_best root side fs) (node_agrees g k around ks (second_three sound) b at e)
        (λ c m q. fields_agree fs k around ks (last_three sound) c m q)

    cases_agree : (cases : Alternatives) (rule : ChoiceRule) (k : ℕ) (around : List ℕ) (ks : Known) → AlternativesSound root k around ks cases → (i : ℕ) (b : Bounds) (at : ℕ) → at ≡ held (side_of side b) → (o : Option Bounds) (w : Option (Way Data)) → Agree side o w
        → Agree side (or_else o (cases_reach root rule cases b)) (cases_best root side rule cases i at w)
    cases_agree no_alternatives rule k around ks sound i b at e o w h = by o w h
      where
        by : (o : Option Bounds) (w : Option (Way Data)) → Agree side o w → Agree side (or_else o None) w
        by None w h = h
        by (Some r) w h = h
    cases_agree (alternative n g ts more) rule k around ks sound i b at e o w h =
        agree_grouped side o (where_can (can_be_chosen root rule n ts) (reach root g b)) (cases_reach root rule more b) _
        (cases_agree more rule k around ks (last_three sound) (suc i) b at e (or_else o (where_can (can_be_chosen root rule n ts) (reach root g b))) (better side w (where_way (can_be_chosen root rule n ts) (alternative_way i (best root side g at))))
        (agree_better side o (where_can (can_be_chosen root rule n ts) (reach root g b)) w (where_way (can_be_chosen root rule n ts) (alternative_way i (best root side g at))) h
        (agree_where side (can_be_chosen root rule n ts) (reach root g b) (alternative_way i (best root side g at)) (agree_alternative side i (reach root g b) (best root side g at) (node_agrees g k around ks (second_three sound) b at e)))))
