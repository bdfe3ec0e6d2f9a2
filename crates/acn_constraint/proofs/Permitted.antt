-- The set that a constraint is evaluated to holds the numbers that it permits.
use Rattle.std.proofs.Common.{◌≡◌, ℕ, Bool, true, false, not, ◌&&◌, ◌||◌, List, [], ◌∷◌, Option, Some, None, refl, sym, ap, ◌∙◌, ℤ, pos, arith}
use Rattle.std.proofs.lemmas.Int.{ints, clamps}
use Rattle.std.proofs.Math.Bool.{and_assoc, and-true, or-false}
use Rattle.std.specs.Prelude.{int_le, if◌then◌else◌, ◌≤ℤ◌, ◌-ℤ◌}
use Rattle.acn_num.specs.Ranges.{Ranges, has, AreRanges, some_range, meet, union, except, outside, outside_from, bottom, top, least, greatest}
use Rattle.acn_num.proofs.Members.{true_le, has_meet, has_except, or_assoc}
use Rattle.acn_num.proofs.Order.{meet_above, outside_above, has_union}
use Rattle.acn_asn_syntax.specs.Mirror.{Set, all_except, union_of, Meets, no_meets, and_meet, Meet, meet_of, Parts, no_parts, and_part, Part, part_of, part_but, Element, value_of, range_of, size_of, from_of, inner_of}
use Rattle.acn_asn_syntax.specs.declared.sets.AsnRange.{AsnRange}
use Rattle.acn_asn_syntax.specs.declared.values.AsnValue.{AsnValue}
use Rattle.acn_index.specs.World.{World}
use Rattle.acn_set_elements.specs.Written.{number_in, text_in}
use Rattle.acn_constraint.specs.Sets.{nearest, above, below, between, one, ones, end_of, range_in, Reading, numbers, sizes, characters, is_aside, letters_behind, letters_of, value_set, end_number, set_in, meets_in, meet_in, parts_in, part_in, element_in}
use Rattle.acn_constraint.specs.Permits.{permits, any_permits, meet_permits, all_permit, part_permits, element_permits}

-- ---- sets that are made of ranges in order

pub joined_ranges : (a b : Ranges) → AreRanges a → AreRanges b → AreRanges (union a b)
unfolding union outside
joined_ranges a b h k = outside_above (bottom -ℤ pos 1) _ (meet_above (bottom -ℤ pos 1) (bottom -ℤ pos 1) _ _ (outside_above (bottom -ℤ pos 1) a h) (outside_above (bottom -ℤ pos 1) b k))

pub less_ranges : (a b : Ranges) → AreRanges a → AreRanges b → AreRanges (except a b)
unfolding except outside
less_ranges a b h k = meet_above (bottom -ℤ pos 1) (bottom -ℤ pos 1) a (outside_from (bottom -ℤ pos 1) b) h (outside_above (bottom -ℤ pos 1) b k)

by_order : (low high : ℤ) (b : Bool) → int_le low high ≡ b → bottom ≤ℤ low → high ≤ℤ top → AreRanges (if b then (low, high) ∷ [] else [])
by_order low high false e l h = tt
by_order low high true e l h = let o = true_le low high e in (omega (arith, ints, l), o, h, tt)

some_ranges : (low high : ℤ) → bottom ≤ℤ low → high ≤ℤ top → AreRanges (some_range low high)
some_ranges low high l h = by_order low high (int_le low high) refl l h

near_low : (x : ℤ) → bottom ≤ℤ nearest x
near_low x = omega (arith, ints, clamps)

near_high : (x : ℤ) → nearest x ≤ℤ top
near_high x = omega (arith, ints, clamps)

one_ranges : (x : ℤ) → AreRanges (one x)
one_ranges x = some_ranges (nearest x) (nearest x) (near_low x) (near_high x)

ones_ranges : (o : Option ℤ) → AreRanges (ones o)
ones_ranges None = tt
ones_ranges (Some x) = one_ranges x

letters_ranges : (cs : List ℕ) (found : Ranges) → AreRanges found → AreRanges (letters_behind found cs)
letters_ranges [] found h = h
letters_ranges (c ∷ cs) found h = letters_ranges cs (union found (one (pos c))) (joined_ranges found (one (pos c)) h (one_ranges (pos c)))

texts_ranges : (o : Option (List ℕ)) → AreRanges (letters_of o)
texts_ranges None = tt
texts_ranges (Some cs) = letters_ranges cs [] tt

above_low : (out : Bool) (x : ℤ) → bottom ≤ℤ x → bottom ≤ℤ above out x
above_low true x h = omega (arith, ints, h)
above_low false x h = h

below_high : (out : Bool) (x : ℤ) → x ≤ℤ top → below out x ≤ℤ top
below_high true x h = omega (arith, ints, h)
below_high false x h = h

between_ranges : (low : Option ℤ) (low_out : Bool) (high : Option ℤ) (high_out : Bool) → AreRanges (between low low_out high high_out)
between_ranges None low_out high high_out = tt
between_ranges (Some low) low_out None high_out = tt
between_ranges (Some low) low_out (Some high) high_out = some_ranges (above low_out (nearest low)) (below high_out (nearest high)) (above_low low_out (nearest low) (near_low low)) (below_high high_out (nearest high) (near_high high))

-- ---- a set that holds what is permitted

abbrev pub Holds : Ranges → (ℤ → Bool) → Type 0
Holds s p = AreRanges s × ((x : ℤ) → has s x ≡ p x)

less : (s t : Ranges) (p q : ℤ → Bool) → Holds s p → Holds t q → Holds (except s t) (λ x. p x && not (q x))
unfolding except
less s t p q h i = (less_ranges s t h.0 i.0, λ x. has_except s t x h.0 i.0 ∙ (ap (λ (b : Bool). b && not (has t x)) (h.1 x) ∙ ap (λ (b : Bool). p x && not b) (i.1 x)))

joined : (s t : Ranges) (p q : ℤ → Bool) → Holds s p → Holds t q → Holds (union s t) (λ x. p x || q x)
unfolding union
joined s t p q h i = (joined_ranges s t h.0 i.0, λ x. has_union s t x h.0 i.0 ∙ (ap (λ (b : Bool). b || has t x) (h.1 x) ∙ ap (λ (b : Bool). p x || b) (i.1 x)))

shared : (s t : Ranges) (p q : ℤ → Bool) → Holds s p → Holds t q → Holds (meet s t) (λ x. p x && q x)
shared s t p q h i = (meet_above (bottom -ℤ pos 1) (bottom -ℤ pos 1) s t h.0 i.0, λ x. has_meet s t x ∙ (ap (λ (b : Bool). b && has t x) (h.1 x) ∙ ap (λ (b : Bool). p x && b) (i.1 x)))

chosen : (b : Bool) (s t : Ranges) (p q : ℤ → Bool) → Holds s p → Holds t q → Holds (if b then s else t) (λ x. if b then p x else q x)
chosen true s t p q h i = h
chosen false s t p q h i = i

module _ (w : World) (k : ℕ) (before : Ranges) (ordered : AreRanges before) where
  value_ranges : (r : Reading) (v : AsnValue) → AreRanges (value_set w k r v)
  value_ranges (numbers ns) v = ones_ranges (number_in w ns k v)
  value_ranges sizes v = ones_ranges (number_in w [] k v)
  value_ranges characters v = texts_ranges (text_in w k v)

  range_ranges : (r : Reading) (ends : AsnRange) → AreRanges (range_in (end_number w k r) ends before)
  range_ranges r ends = between_ranges (end_of (end_number w k r) (least before) ends.low) ends.low_out (end_of (end_number w k r) (greatest before) ends.high) ends.high_out

  stood : Holds before (λ x. has before x)
  stood = (ordered, λ x. refl)

  mutual
    unfolding set_in meets_in meet_in parts_in part_in element_in permits any_permits meet_permits all_permit part_permits element_permits

    pub set_holds : (r : Reading) (s : Set) → Holds (set_in w k r s before) (λ x. permits w k before x r s)
    set_holds r (all_except e) = less before (element_in w k r e before) (λ x. has before x) (λ x. element_permits w k before x r e) stood (element_holds r e)
    set_holds r (union_of m more) = meets_hold r more (meet_in w k r m before) (λ x. meet_permits w k before x r m) (meet_holds r m)

    meets_hold : (r : Reading) (more : Meets) (found : Ranges) (p : ℤ → Bool) → Holds found p → Holds (meets_in w k r more found before) (λ x. p x || any_permits w k before x r more)
    meets_hold r no_meets found p h = (h.0, λ x. h.1 x ∙ sym (or-false (p x)))
    meets_hold r (and_meet word m more) found p h =
        let all = meets_hold r more (union found (meet_in w k r m before)) (λ x. p x || meet_permits w k before x r m) (joined found (meet_in w k r m before) p (λ x. meet_permits w k before x r m) h (meet_holds r m)) in
        (all.0, λ x. all.1 x ∙ or_assoc (p x) (meet_permits w k before x r m) (any_permits w k before x r more))

    meet_holds : (r : Reading) (m : Meet) → Holds (meet_in w k r m before) (λ x. meet_permits w k before x r m)
    meet_holds r (meet_of p more) = parts_hold r more (part_in w k r p before) (λ x. part_permits w k before x r p) (part_holds r p)

    pub parts_hold : (r : Reading) (more : Parts) (found : Ranges) (p : ℤ → Bool) → Holds found p → Holds (parts_in w k r more found before) (λ x. p x && all_permit w k before x r more)
    parts_hold r no_parts found p h = (h.0, λ x. h.1 x ∙ sym (and-true (p x)))
    parts_hold r (and_part word q more) found p h =
        let all = parts_hold r more (meet found (part_in w k r q before)) (λ x. p x && part_permits w k before x r q) (shared found (part_in w k r q before) p (λ x. part_permits w k before x r q) h (part_holds r q)) in
        (all.0, λ x. all.1 x ∙ and_assoc (p x) (part_permits w k before x r q) (all_permit w k before x r more))

    pub part_holds : (r : Reading) (p : Part) → Holds (part_in w k r p before) (λ x. part_permits w k before x r p)
    part_holds r (part_of e) = element_holds r e
    part_holds r (part_but e but) =
        chosen (is_aside r e) before (except (element_in w k r e before) (element_in w k r but before)) (λ x. has before x) (λ x. element_permits w k before x r e && not (element_permits w k before x r but)) stood
        (less (element_in w k r e before) (element_in w k r but before) (λ x. element_permits w k before x r e) (λ x. element_permits w k before x r but) (element_holds r e) (element_holds r but))

    element_holds : (r : Reading) (e : Element) → Holds (element_in w k r e before) (λ x. element_permits w k before x r e)
    element_holds r (value_of v) = (value_ranges r v, λ x. refl)
    element_holds r (range_of ends) = (range_ranges r ends, λ x. refl)
    element_holds sizes (size_of s) = set_holds sizes s
    element_holds (numbers ns) (size_of s) = stood
    element_holds characters (size_of s) = stood
    element_holds characters (from_of s) = set_holds characters s
    element_holds (numbers ns) (from_of s) = stood
    element_holds sizes (from_of s) = stood
    element_holds r (inner_of s) = set_holds r s

pub held : (w : World) (k : ℕ) (r : Reading) (s : Set) (before : Ranges) (x : ℤ) → AreRanges before → has (set_in w k r s before) x ≡ permits w k before x r s
held w k r s before x ordered = (set_holds w k before ordered r s).1 x
