-- Of a number that stood, a constraint permits the same whatever else stood, but for the ends where it asks for these.
use Rattle.std.proofs.Common.{◌≡◌, ℕ, Bool, true, false, not, ◌&&◌, ◌||◌, Option, Some, None, refl, sym, ap, ◌∙◌, ℤ, pos}
use Rattle.std.specs.Prelude.{if◌then◌else◌, ◌-ℤ◌}
use Rattle.acn_num.specs.Ranges.{Ranges, has, AreRanges, meet, least, greatest, bottom}
use Rattle.acn_num.proofs.Members.{has_meet}
use Rattle.acn_num.proofs.Order.{meet_above}
use Rattle.acn_asn_syntax.specs.Mirror.{Set, all_except, union_of, Meets, no_meets, and_meet, Meet, meet_of, Parts, no_parts, and_part, Part, part_of, part_but, Element, value_of, range_of, size_of, from_of, inner_of, Constraint, by_set, by_size, containing}
use Rattle.acn_asn_syntax.specs.declared.sets.AsnRange.{AsnRange}
use Rattle.acn_asn_syntax.specs.declared.values.AsnValue.{AsnValue}
use Rattle.acn_index.specs.World.{World}
use Rattle.acn_constraint.specs.Sets.{end_of, range_in, Reading, numbers, sizes, characters, is_aside, end_number, set_in}
use Rattle.acn_constraint.specs.Permits.{permits, any_permits, meet_permits, all_permit, part_permits, element_permits}
use Rattle.acn_constraint.specs.Asks.{asks_end, asks_set, asks_meets, asks_meet, asks_parts, asks_part, asks_element, asks}
use Rattle.acn_constraint.specs.Constraints.{left_by}
use Rattle.acn_constraint.specs.Hull.{SameEnds}
use Rattle.acn_constraint.proofs.Hulls.{over, under, between_has, over_least, under_greatest}
use Rattle.acn_constraint.proofs.Permitted.{Holds, set_holds}

and_same : {a b c d : Bool} → a ≡ b → c ≡ d → (a && c) ≡ (b && d)
and_same {a} {b} {c} {d} p q = ap (λ t. t && c) p ∙ ap (λ t. b && t) q

or_same : {a b c d : Bool} → a ≡ b → c ≡ d → (a || c) ≡ (b || d)
or_same {a} {b} {c} {d} p q = ap (λ t. t || c) p ∙ ap (λ t. b || t) q

less_same : {a b c d : Bool} → a ≡ b → c ≡ d → (a && not c) ≡ (b && not d)
less_same {a} {b} {c} {d} p q = and_same p (ap (λ t. not t) q)

if_same : (t : Bool) {a b c d : Bool} → a ≡ b → c ≡ d → (if t then a else c) ≡ (if t then b else d)
if_same true p q = p
if_same false p q = q

or_left : (a b : Bool) → a ≡ true → (a || b) ≡ true
or_left a b e = ap (λ t. t || b) e

or_right : (a b : Bool) → b ≡ true → (a || b) ≡ true
or_right true b e = refl
or_right false b e = e

module _ (w : World) (k : ℕ) (x : ℤ) (a b : Ranges) (ordered : AreRanges a × AreRanges b) (there : (has a x ≡ true) × (has b x ≡ true)) where
  both : has a x ≡ has b x
  both = there.0 ∙ sym there.1

  low_same : (number : AsnValue → Option ℤ) (end : Option AsnValue) (out : Bool) → (asks_end end out ≡ true → SameEnds a b) → over (end_of number (least a) end) out x ≡ over (end_of number (least b) end) out x
  low_same number None false same = over_least a x ordered.0 there.0 ∙ sym (over_least b x ordered.1 there.1)
  low_same number None true same = ap (λ o. over o true x) (same refl).low
  low_same number (Some v) out same = refl

  high_same : (number : AsnValue → Option ℤ) (end : Option AsnValue) (out : Bool) → (asks_end end out ≡ true → SameEnds a b) → under (end_of number (greatest a) end) out x ≡ under (end_of number (greatest b) end) out x
  high_same number None false same = under_greatest a x ordered.0 there.0 ∙ sym (under_greatest b x ordered.1 there.1)
  high_same number None true same = ap (λ o. under o true x) (same refl).high
  high_same number (Some v) out same = refl

  range_same : (number : AsnValue → Option ℤ) (r : AsnRange) → ((asks_end r.low r.low_out || asks_end r.high r.high_out) ≡ true → SameEnds a b) → has (range_in number r a) x ≡ has (range_in number r b) x
  range_same number r same =
      between_has (end_of number (least a) r.low) r.low_out (end_of number (greatest a) r.high) r.high_out x
      ∙ (and_same
      (low_same number r.low r.low_out (λ e. same (or_left (asks_end r.low r.low_out) (asks_end r.high r.high_out) e)))
      (high_same number r.high r.high_out (λ e. same (or_right (asks_end r.low r.low_out) (asks_end r.high r.high_out) e)))
      ∙ sym (between_has (end_of number (least b) r.low) r.low_out (end_of number (greatest b) r.high) r.high_out x))

  mutual
    unfolding permits any_permits meet_permits all_permit part_permits element_permits asks_set asks_meets asks_meet asks_parts asks_part asks_element

    set_same : (r : Reading) (s : Set) → (asks_set s ≡ true → SameEnds a b) → permits w k a x r s ≡ permits w k b x r s
    set_same r (all_except e) same = less_same both (element_same r e same)
    set_same r (union_of m more) same = or_same (meet_same r m (λ e. same (or_left (asks_meet m) (asks_meets more) e))) (meets_same r more (λ e. same (or_right (asks_meet m) (asks_meets more) e)))

    meets_same : (r : Reading) (more : Meets) → (asks_meets more ≡ true → SameEnds a b) → any_permits w k a x r more ≡ any_permits w k b x r more
    meets_same r no_meets same = refl
    meets_same r (and_meet word m more) same = or_same (meet_same r m (λ e. same (or_left (asks_meet m) (asks_meets more) e))) (meets_same r more (λ e. same (or_right (asks_meet m) (asks_meets more) e)))

    meet_same : (r : Reading) (m : Meet) → (asks_meet m ≡ true → SameEnds a b) → meet_permits w k a x r m ≡ meet_permits w k b x r m
    meet_same r (meet_of p more) same = and_same (part_same r p (λ e. same (or_left (asks_part p) (asks_parts more) e))) (parts_same r more (λ e. same (or_right (asks_part p) (asks_parts more) e)))

    parts_same : (r : Reading) (more : Parts) → (asks_parts more ≡ true → SameEnds a b) → all_permit w k a x r more ≡ all_permit w k b x r more
    parts_same r no_parts same = refl
    parts_same r (and_part word p more) same = and_same (part_same r p (λ e. same (or_left (asks_part p) (asks_parts more) e))) (parts_same r more (λ e. same (or_right (asks_part p) (asks_parts more) e)))

    part_same : (r : Reading) (p : Part) → (asks_part p ≡ true → SameEnds a b) → part_permits w k a x r p ≡ part_permits w k b x r p
    part_same r (part_of e) same = element_same r e same
    part_same r (part_but e but) same = if_same (is_aside r e) both (less_same (element_same r e (λ t. same (or_left (asks_element e) (asks_element but) t))) (element_same r but (λ t. same (or_right (asks_element e) (asks_element but) t))))

    element_same : (r : Reading) (e : Element) → (asks_element e ≡ true → SameEnds a b) → element_permits w k a x r e ≡ element_permits w k b x r e
    element_same r (value_of v) same = refl
    element_same r (range_of ends) same = range_same (end_number w k r) ends same
    element_same sizes (size_of s) same = set_same sizes s same
    element_same (numbers ns) (size_of s) same = both
    element_same characters (size_of s) same = both
    element_same characters (from_of s) same = set_same characters s same
    element_same (numbers ns) (from_of s) same = both
    element_same sizes (from_of s) same = both
    element_same r (inner_of s) same = set_same r s same

-- ---- constraints

-- whether a constraint permits a number that stood
abbrev pub constraint_permits : World → Reading → ℕ × Constraint → Ranges → ℤ → Bool
constraint_permits w r (k, by_set s) before x = permits w k before x r s
constraint_permits w sizes (k, by_size s) before x = permits w k before x sizes s
constraint_permits w (numbers ns) (k, by_size s) before x = has before x
constraint_permits w characters (k, by_size s) before x = has before x
constraint_permits w r (k, containing t) before x = has before x

kept : (s t : Ranges) (p : ℤ → Bool) → AreRanges s → Holds t p → Holds (meet s t) (λ x. has s x && p x)
kept s t p h i = (meet_above (bottom -ℤ pos 1) (bottom -ℤ pos 1) s t h i.0, λ x. has_meet s t x ∙ ap (λ b. has s x && b) (i.1 x))

all_kept : (s : Ranges) → AreRanges s → Holds s (λ x. has s x && has s x)
all_kept s h = (h, λ x. twice (has s x))
  where
    twice : (b : Bool) → b ≡ (b && b)
    twice true = refl
    twice false = refl

pub left_holds : (w : World) (r : Reading) (c : ℕ × Constraint) (before : Ranges) → AreRanges before → Holds (left_by w r c before) (λ x. has before x && constraint_permits w r c before x)
left_holds w r (k, by_set s) before h = kept before (set_in w k r s before) (λ x. permits w k before x r s) h (set_holds w k before h r s)
left_holds w sizes (k, by_size s) before h = kept before (set_in w k sizes s before) (λ x. permits w k before x sizes s) h (set_holds w k before h sizes s)
left_holds w (numbers ns) (k, by_size s) before h = all_kept before h
left_holds w characters (k, by_size s) before h = all_kept before h
left_holds w r (k, containing t) before h = all_kept before h

permits_same : (w : World) (r : Reading) (c : ℕ × Constraint) (a b : Ranges) (x : ℤ) → AreRanges a × AreRanges b → (has a x ≡ true) × (has b x ≡ true) → (asks c.1 ≡ true → SameEnds a b) → constraint_permits w r c a x ≡ constraint_permits w r c b x
permits_same w r (k, by_set s) a b x ordered there same = set_same w k x a b ordered there r s same
permits_same w sizes (k, by_size s) a b x ordered there same = set_same w k x a b ordered there sizes s same
permits_same w (numbers ns) (k, by_size s) a b x ordered there same = there.0 ∙ sym there.1
permits_same w characters (k, by_size s) a b x ordered there same = there.0 ∙ sym there.1
permits_same w r (k, containing t) a b x ordered there same = there.0 ∙ sym there.1

-- of a number that both hold, a constraint leaves the same in both
pub left_same : (w : World) (r : Reading) (c : ℕ × Constraint) (a b : Ranges) (x : ℤ) → AreRanges a → AreRanges b → has a x ≡ true → has b x ≡ true → (asks c.1 ≡ true → SameEnds a b) → has (left_by w r c a) x ≡ has (left_by w r c b) x
left_same w r c a b x h k p q same =
    (left_holds w r c a h).1 x
    ∙ (and_same (p ∙ sym q) (permits_same w r c a b x (h, k) (p, q) same)
    ∙ sym ((left_holds w r c b k).1 x))
