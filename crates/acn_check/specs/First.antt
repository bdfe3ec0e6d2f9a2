-- The first fault of each kind, computed over the nodes in preorder.
use Rattle.std.specs.Prelude.{◌≡◌, ℕ, zero, suc, ◌+◌, ◌-◌, ◌*◌, ◌%◌, ◌^◌, min, ℤ, pos, int_le, nat_eq, nat_lt, nat_le, Bool, true, false, not, ◌&&◌, ◌||◌, List, [], ◌∷◌, ◌++◌, length, map, Option, Some, None, option_map, if◌then◌else◌, slice_get, slice_set, Result, Ok, Err, MatchOption}
use Rattle.std.specs.List.{list_any, list_all, cons_option}
use Rattle.std.specs.Ordering.{int_eq}
use Rattle.acn_num.specs.Ranges.{has, distance}
use Rattle.acn_grammar.specs.Asks.{same_name}
use Rattle.acn_grammar.specs.Check.{CheckFault, forward, det_kind, det_width, overlap, absent_unclear, unused, no_item, mixed_choice, too_long, too_many_open, too_many_conditions, too_many_values, terminator_ambiguous, lead}
use Rattle.acn_grammar.specs.Faults.{check_fault_of}
use Rattle.acn_grammar.specs.Grammar.{Grammar, Form, num, list, choice}
use Rattle.acn_grammar.specs.Interval.{span, value_count, width_of}
use Rattle.acn_grammar.specs.Leaves.{all_differ}
use Rattle.acn_grammar.specs.Length.{ending}
use Rattle.acn_grammar.specs.Slots.{first_of_two}
use Rattle.acn_grammar.specs.Tree.{has_tests}
use Rattle.acn_grammar.specs.Walk.{Use, condition, item_of, size_of, slot_of, form_uses, conditions_of}
use Rattle.acn_grammar.specs.declared.check_fault.CheckFault as program
use Rattle.acn_grammar.specs.declared.node.NumKind.{NumKind}
use Rattle.acn_grammar.specs.declared.node.NumKind.TheVariants.{Integer, Boolean, Enumerated}
use Rattle.acn_grammar.specs.declared.node.NumLeaf.{NumLeaf}
use Rattle.acn_grammar.specs.declared.node.Test.{Test}
use Rattle.acn_grammar.specs.declared.node.Test.TheVariants.{Flag, Equals}
use Rattle.acn_grammar.specs.declared.node.ChoiceRule.{ChoiceRule}
use Rattle.acn_grammar.specs.declared.node.ChoiceRule.TheVariants.{Tests, Item}
use Rattle.acn_check.specs.Facts.{Facts}
use Rattle.acn_leads.specs.Begins.{not_told, lead_fine}
use Rattle.acn_check.specs.declared.clashes.TheConstants.{MARK_FACTOR, MARK_PRIME}
use Rattle.acn_num.specs.declared.limits.TheConstants.{LEAST_NUMBER, GREATEST_NUMBER}
use Rattle.acn_grammar.specs.declared.limits.TheConstants.{MOST_DETERMINANT_BITS, MOST_PACKET_BITS, MOST_OPEN_SLOTS, MOST_CONDITIONS, MOST_VALUES}

-- the first answer over a list whose elements are numbered from k on
abbrev pub first_of : {A B : Type 0} → (ℕ → A → Option B) → ℕ → List A → Option B
first_of f k [] = None
first_of f k (x ∷ xs) = first_of_two (f k x) (first_of f (suc k) xs)

abbrev pub given : {A B : Type 0} → Option A → (A → Option B) → Option B
given None f = None
given (Some x) f = f x

abbrev pub only_if : {A : Type 0} → Bool → A → Option A
only_if true x = Some x
only_if false x = None

-- an answer of the program: no fault, or this one, or want of memory
abbrev pub Told : Option CheckFault → Result (Unit {0}) program.CheckFault → Type 0
Told o (Ok done) = o ≡ None
Told o (Err e) = MatchOption (check_fault_of e) (Unit {0}) (λ f. o ≡ Some f)

-- The slots, in the order of their numbers.

-- the field of a slot: its number, its path and its leaf
pub record Det : Type 0 where
  pub at : ℕ
  pub path : List ℕ
  pub leaf : NumLeaf

abbrev pub leaf_in : Form → Option NumLeaf
leaf_in (num leaf) = Some leaf
leaf_in _ = None

abbrev pub det_with : ℕ → List ℕ → Option ℕ → Form → Option Det
det_with k path slot form = given slot (λ s. option_map (λ leaf. record { at = k; path = path; leaf = leaf }) (leaf_in form))

abbrev pub det_here : ℕ → Facts → Option Det
det_here k f = det_with k f.path f.tag.slot f.form

abbrev pub dets : ℕ → List Facts → List Det
dets k [] = []
dets k (f ∷ fs) = cons_option (det_here k f) (dets (suc k) fs)

-- what uses say of a slot: whether one names it, and how many conditions compare it with a number, up to the greatest number of 32 bits
pub record Tally : Type 0 where
  pub used : Bool
  pub equals : ℕ

abbrev pub is_equals : Use → Bool
is_equals (condition (Equals s k)) = true
is_equals _ = false

abbrev pub raised : Use → Tally → Tally
raised use' t = record { used = true; equals = if is_equals use' then min (t.equals + 1) (2 ^ 32 - 1) else t.equals }

abbrev pub tallied_at : List Tally → Use → Option Tally → List Tally
tallied_at ts use' None = ts
tallied_at ts use' (Some t) = slice_set ts (slot_of use') (raised use' t)

abbrev pub tallied_one : List Tally → Use → List Tally
tallied_one ts use' = tallied_at ts use' (slice_get ts (slot_of use'))

abbrev pub tallied : List Tally → List Use → List Tally
tallied ts [] = ts
tallied ts (u ∷ us) = tallied (tallied_one ts u) us

abbrev pub no_tallies : ℕ → List Tally
no_tallies zero = []
no_tallies (suc n) = record { used = false; equals = 0 } ∷ no_tallies n

abbrev pub uses_of : Facts → List Use
uses_of f = map condition f.tag.tests ++ form_uses f.form

-- 1. and 2. Uses.

abbrev pub behind_here : ℕ → List ℕ → Det → Option CheckFault
behind_here k path d = only_if (nat_lt k d.at) (forward path d.path)

abbrev pub behind : List Det → ℕ → Facts → Use → Option CheckFault
behind ds k f use' = given (slice_get ds (slot_of use')) (behind_here k f.path)

abbrev pub first_behind : List Det → ℕ → Facts → Option CheckFault
first_behind ds k f = first_of (λ u use'. behind ds k f use') 0 (uses_of f)

abbrev pub fits_kind : Use → NumKind → Bool
fits_kind (condition (Flag s)) Boolean = true
fits_kind (condition (Equals s k)) Integer = true
fits_kind (item_of s) Enumerated = true
fits_kind (size_of s) Integer = true
fits_kind _ _ = false

abbrev pub wrong_kind_here : Use → List ℕ → Det → Option CheckFault
wrong_kind_here use' path d = only_if (not (fits_kind use' d.leaf.kind)) (det_kind path d.path)

abbrev pub wrong_kind : List Det → Facts → Use → Option CheckFault
wrong_kind ds f use' = given (slice_get ds (slot_of use')) (wrong_kind_here use' f.path)

abbrev pub first_wrong_kind : List Det → ℕ → Facts → Option CheckFault
first_wrong_kind ds k f = first_of (λ u use'. wrong_kind ds f use') 0 (uses_of f)

-- 3. Widths.

abbrev pub width_fits : Option ℕ → Bool
width_fits None = false
width_fits (Some w) = nat_le w MOST_DETERMINANT_BITS

-- the width of a component is free
abbrev pub slot_inserted : (component : Bool) → Option ℕ → Option ℕ
slot_inserted true o = None
slot_inserted false o = o

abbrev pub no_width : List Det → ℕ → Facts → Option CheckFault
no_width ds k f = given (slot_inserted f.tag.component f.tag.slot) (λ s. given (slice_get ds s) (λ d. only_if (not (width_fits (width_of d.leaf))) (det_width f.path)))

-- 4. Two alternatives whose conditions can hold together.

abbrev pub asked : Test → ℕ × ℤ
asked (Flag s) = (s, pos 1)
asked (Equals s k) = (s, k)

-- a slot's number among those of other slots, which ascend; none where the slot has another number
abbrev pub put : ℕ → ℤ → List (ℕ × ℤ) → Option (List (ℕ × ℤ))
put s x [] = Some ((s, x) ∷ [])
put s x (e ∷ es) = if nat_lt s e.0 then Some ((s, x) ∷ e ∷ es) else (if nat_eq s e.0 then only_if (int_eq x e.1) (e ∷ es) else option_map (λ more. e ∷ more) (put s x es))

-- how many numbers stand before those of a slot and of greater ones
abbrev pub place_of : ℕ → List (ℕ × ℤ) → ℕ
place_of s [] = 0
place_of s (e ∷ es) = if nat_le s e.0 then 0 else suc (place_of s es)

-- the number at a place, where it is the slot's
abbrev pub number_at : ℕ → ℕ → List (ℕ × ℤ) → Option ℤ
number_at s place es = given (slice_get es place) (λ e. only_if (nat_eq e.0 s) e.1)

abbrev pub gathered : List Test → List (ℕ × ℤ) → Option (List (ℕ × ℤ))
gathered [] es = Some es
gathered (t ∷ ts) es = given (put (asked t).0 (asked t).1 es) (gathered ts)

abbrev pub domain_in : Option Det → List (ℤ × ℤ)
domain_in None = []
domain_in (Some d) = d.leaf.set

abbrev pub permits : List Det → ℕ × ℤ → Bool
permits ds e = has (domain_in (slice_get ds e.0)) e.1

-- the numbers under which all of these conditions hold
abbrev pub common : List Det → List Test → Option (List (ℕ × ℤ))
common ds ts = given (gathered ts []) (λ es. only_if (list_all (permits ds) es) es)

abbrev pub has_some : List Test → Bool
has_some ts = nat_lt 0 (length ts)

abbrev pub both_hold : List Det → List Test → List Test → Option (List (ℕ × ℤ))
both_hold ds ts us = if has_some ts && has_some us then common ds (ts ++ us) else None

-- the number that conditions ask of a slot, by the first of them on it
abbrev pub number_asked : ℕ → List Test → Option ℤ
number_asked s [] = None
number_asked s (t ∷ ts) = if nat_eq (asked t).0 s then Some (asked t).1 else number_asked s ts

abbrev pub is_other : ℤ → Option ℤ → Bool
is_other x None = false
is_other x (Some y) = not (int_eq x y)

-- the conditions ask another number of the condition's slot
abbrev pub disputes : List Test → Test → Bool
disputes us t = is_other (asked t).1 (number_asked (asked t).0 us)

-- so they can't hold together
abbrev pub clash : List Test → List Test → Bool
clash ts us = list_any (disputes us) ts

abbrev pub pair_of : ℕ → ℤ → ℕ × ℤ
pair_of s x = (s, x)

abbrev pub overlapping : List Det → List ℕ → (i : ℕ) → List Test → (j : ℕ) → List Test → Option CheckFault
overlapping ds path i ts j us = option_map (overlap path i j) (both_hold ds ts us)

abbrev pub against : List Det → List ℕ → (i : ℕ) → List Test → ℕ → List (List ℕ × List Test) → Option CheckFault
against ds path i ts j cases = first_of (λ m c. overlapping ds path i ts m c.1) j cases

abbrev pub pairs : List Det → List ℕ → ℕ → List (List ℕ × List Test) → Option CheckFault
pairs ds path i [] = None
pairs ds path i (c ∷ cases) = first_of_two (against ds path i c.1 (suc i) cases) (pairs ds path (suc i) cases)

-- a mark that goes on with a number
abbrev pub mixed : ℕ → ℤ → Option ℕ
mixed m n = if int_le LEAST_NUMBER n && int_le n GREATEST_NUMBER then Some ((m * MARK_FACTOR + distance LEAST_NUMBER n) % MARK_PRIME) else None

-- A mark of the numbers that conditions ask of some slots, where they ask one of each. Who asks the same has the same mark.
abbrev pub mark_from : ℕ → List ℕ → List Test → Option ℕ
mark_from m [] ts = Some m
mark_from m (s ∷ ss) ts = given (given (number_asked s ts) (mixed m)) (λ next. mark_from next ss ts)

abbrev pub mark : List ℕ → List Test → Option ℕ
mark slots ts = mark_from 0 slots ts

-- the marks of alternatives, where each has one
abbrev pub marks_on : List ℕ → List (List ℕ × List Test) → Option (List ℤ)
marks_on slots [] = Some []
marks_on slots (c ∷ cases) = given (mark slots c.1) (λ x. option_map (λ xs. pos x ∷ xs) (marks_on slots cases))

abbrev pub differ_in : Option (List ℤ) → Bool
differ_in None = false
differ_in (Some xs) = all_differ int_eq xs

-- each has a mark of its own
abbrev pub have_own : List ℕ → List (List ℕ × List Test) → Bool
have_own slots cases = differ_in (marks_on slots cases)

abbrev pub NoneMeet : List (List ℕ × List Test) → Type 0
NoneMeet cases = (ds : List Det) (path : List ℕ) → pairs ds path 0 cases ≡ None

abbrev pub overlap_in : List Det → List ℕ → Form → Option CheckFault
overlap_in ds path (choice cases Tests) = pairs ds path 0 (conditions_of cases)
overlap_in ds path _ = None

abbrev pub overlap_at : List Det → ℕ → Facts → Option CheckFault
overlap_at ds k f = overlap_in ds f.path f.form

-- 5. and 6.

abbrev pub unclear : ℕ → Facts → Option CheckFault
unclear k f = only_if (f.tag.component && nat_lt 1 (length f.tag.tests)) (absent_unclear f.path)

abbrev pub no_use : List Tally → ℕ → Facts → Option CheckFault
no_use ts k f = given f.tag.slot (λ s. given (slice_get ts s) (λ t. only_if (not t.used) (unused f.path)))

-- 7. and 8. Alternatives.

abbrev pub items_in : Option Det → List (List ℕ × ℤ)
items_in None = []
items_in (Some d) = d.leaf.items.items

abbrev pub is_item : List (List ℕ × ℤ) → List ℕ → Bool
is_item items name = list_any (λ item. same_name name item.0) items

abbrev pub first_without : List (List ℕ × ℤ) → List ℕ → List (List ℕ × List Test) → Option CheckFault
first_without items path cases = first_of (λ i c. only_if (not (is_item items c.0)) (no_item path i)) 0 cases

abbrev pub without_item : List Det → List ℕ → Form → Option CheckFault
without_item ds path (choice cases (Item s)) = first_without (items_in (slice_get ds s)) path (conditions_of cases)
without_item ds path _ = None

abbrev pub no_item_at : List Det → ℕ → Facts → Option CheckFault
no_item_at ds k f = without_item ds f.path f.form

abbrev pub by_item : ChoiceRule → Bool
by_item (Item s) = true
by_item _ = false

abbrev pub mixed_in : List ℕ → Form → Option CheckFault
mixed_in path (choice cases rule) = only_if (list_any has_tests (conditions_of cases) && (by_item rule || list_any (λ c. not (has_tests c)) (conditions_of cases))) (mixed_choice path)
mixed_in path _ = None

abbrev pub mixed_at : ℕ → Facts → Option CheckFault
mixed_at k f = mixed_in f.path f.form

-- 9. to 12. Limits.

abbrev pub long : Grammar → Option CheckFault
long root = only_if (nat_lt MOST_PACKET_BITS (span root).greatest) (too_long (span root).greatest)

abbrev pub much_open : ℕ → Facts → Option CheckFault
much_open k f = only_if (nat_lt MOST_OPEN_SLOTS f.at_home) (too_many_open f.path f.at_home)

abbrev pub many_conditions : List Tally → ℕ → Facts → Option CheckFault
many_conditions ts k f = given f.tag.slot (λ s. given (slice_get ts s) (λ t. only_if (nat_lt MOST_CONDITIONS t.equals) (too_many_conditions f.path t.equals)))

abbrev pub many_values : Grammar → Option CheckFault
many_values root = only_if (nat_lt MOST_VALUES (value_count root)) (too_many_values (value_count root))

-- 13. Lists that are ended by a pattern.

abbrev pub ambiguous_in : List ℕ → Form → Option CheckFault
ambiguous_in path (list sizing g) = given (ending sizing.rule) (λ p. only_if (not_told p (lead (length p) g)) (terminator_ambiguous path))
ambiguous_in path _ = None

abbrev pub ambiguous_at : ℕ → Facts → Option CheckFault
ambiguous_at k f = ambiguous_in f.path f.form

-- the leads of ended lists keep their rules, and no pattern is too long
abbrev pub end_lead : Option (List Bool) → Grammar → Option NumLeaf
end_lead None g = None
end_lead (Some p) g = lead (length p) g

abbrev pub form_lead_fine : Form → Bool
form_lead_fine (list sizing g) = lead_fine (end_lead (ending sizing.rule) g)
form_lead_fine _ = true

abbrev pub leads_fine : Facts → Bool
leads_fine f = form_lead_fine f.form
