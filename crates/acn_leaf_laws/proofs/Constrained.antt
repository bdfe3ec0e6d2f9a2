-- What the constraints of a chain leave.
use Rattle.std.proofs.Common.{◌≡◌, ℕ, Bool, true, false, not, ◌&&◌, ◌||◌, ◌⊎◌, inl, inr, List, [], ◌∷◌, Option, Some, None, refl, sym, subst, ℤ, pos, negsuc, arith}
use Rattle.std.specs.Prelude.{◌-ℤ◌, ◌≤ℤ◌, Result, Ok, Err, if◌then◌else◌, int_lt}
use Rattle.std.proofs.lemmas.Bool.{or_parts}
use Rattle.std.proofs.lemmas.Int.{ints}
use Rattle.acn_num.specs.Ranges.{Ranges, has, AreRanges, bottom, top, least, greatest}
use Rattle.acn_num.specs.declared.limits.TheConstants.{MOST_SIZE}
use Rattle.acn_num.proofs.Order.{meet_above}
use Rattle.acn_asn_syntax.specs.Mirror.{Constraint, by_set, by_size, containing}
use Rattle.acn_index.specs.World.{World}
use Rattle.acn_index.specs.Chains.{ChainOf}
use Rattle.acn_set_elements.specs.Stands.{all_stand}
use Rattle.acn_set_elements.specs.Written.{named_of}
use Rattle.acn_constraint.specs.Constraints.{base_is, constraints_of, left_by, met, numbers_of, sizes_of, characters_of, bounded, starts_negative, within_words, closed, Opened, opened, has_size, Fault, not_here, unbounded, size_limit, unless, unless_low, judged, first_low, is_empty, not_empty, limited, sized, range_left, range_of, size_left, size_of, alphabet_left, alphabet_of, Texts, limited_text, text_left, text_of}
use Rattle.acn_constraint.specs.Sets.{Reading, numbers, sizes, characters, set_in}
use Rattle.acn_constraint.proofs.Permitted.{set_holds}
use Rattle.acn_grammar.proofs.WholeTests.{ge_fact}
use Rattle.acn_leaf_laws.proofs.Sets.{le_trans, meet_ranges, one_range, in_one, in_both, from_zero, greatest_above, some_greatest}

-- ---- each constraint leaves some of what stood before it, in order

module _ (w : World) where
  one_left : (r : Reading) (c : ℕ × Constraint) (before : Ranges) → AreRanges before → AreRanges (left_by w r c before)
  one_left r (k, by_set s) before h = meet_ranges before (set_in w k r s before) h (set_holds w k before h r s).0
  one_left sizes (k, by_size s) before h = meet_ranges before (set_in w k sizes s before) h (set_holds w k before h sizes s).0
  one_left (numbers ns) (k, by_size s) before h = h
  one_left characters (k, by_size s) before h = h
  one_left r (k, containing t) before h = h

  one_inside : (r : Reading) (c : ℕ × Constraint) (before : Ranges) (x : ℤ) → has (left_by w r c before) x ≡ true → has before x ≡ true
  one_inside r (k, by_set s) before x m = (in_both before (set_in w k r s before) x m).0
  one_inside sizes (k, by_size s) before x m = (in_both before (set_in w k sizes s before) x m).0
  one_inside (numbers ns) (k, by_size s) before x m = m
  one_inside characters (k, by_size s) before x m = m
  one_inside r (k, containing t) before x m = m

  all_left : (r : Reading) (cs : List (ℕ × Constraint)) (before : Ranges) → AreRanges before → AreRanges (met w r cs before)
  all_left r [] before h = h
  all_left r (c ∷ cs) before h = all_left r cs (left_by w r c before) (one_left r c before h)

  all_inside : (r : Reading) (cs : List (ℕ × Constraint)) (before : Ranges) (x : ℤ) → has (met w r cs before) x ≡ true → has before x ≡ true
  all_inside r [] before x m = m
  all_inside r (c ∷ cs) before x m = one_inside r c before x (all_inside r cs (left_by w r c before) x m)

  module _ (chain : ChainOf) where
    numbers_ranges : AreRanges (numbers_of w chain)
    unfolding numbers_of
    numbers_ranges = all_left (numbers (named_of (base_is chain))) (constraints_of chain) ((bottom, top) ∷ []) (one_range bottom top (omega (arith, ints)) (omega (arith, ints)) (omega (arith, ints)))

    pub sizes_ranges : AreRanges (sizes_of w chain)
    unfolding sizes_of
    sizes_ranges = all_left sizes (constraints_of chain) ((pos 0, top) ∷ []) (one_range (pos 0) top (omega (arith, ints)) (omega (arith, ints)) (omega (arith, ints)))

    pub sizes_from_zero : (x : ℤ) → has (sizes_of w chain) x ≡ true → pos 0 ≤ℤ x
    unfolding sizes_of
    sizes_from_zero x m = (in_one (pos 0) top x (all_inside sizes (constraints_of chain) ((pos 0, top) ∷ []) x m)).0

    pub characters_ranges : AreRanges (characters_of w chain)
    unfolding characters_of
    characters_ranges = all_left characters (constraints_of chain) ((pos 0, pos 127) ∷ []) (one_range (pos 0) (pos 127) (omega (arith, ints)) (omega (arith, ints)) (omega (arith, ints)))

    pub characters_within : (x : ℤ) → has (characters_of w chain) x ≡ true → (pos 0 ≤ℤ x) × (x ≤ℤ pos 127)
    unfolding characters_of
    characters_within x m = in_one (pos 0) (pos 127) x (all_inside characters (constraints_of chain) ((pos 0, pos 127) ∷ []) x m)

-- ---- an answer without a fault is what the sets say

unless_ok : {A : Type 0} (b : Bool) (f : Fault) (next : Result A Fault) (x : A) → unless b f next ≡ Ok x → (b ≡ true) × (next ≡ Ok x)
unless_ok true f next x h = (refl, h)
unless_ok false f next x h = cc

low_ok : {A : Type 0} (o : Option ℤ) (next : Result A Fault) (x : A) → unless_low o next ≡ Ok x → next ≡ Ok x
low_ok None next x h = h
low_ok (Some y) next x h = cc

empty_ok : {A : Type 0} (s : Ranges) (next : Result A Fault) (x : A) → not_empty s next ≡ Ok x → (is_empty s ≡ false) × (next ≡ Ok x)
empty_ok [] next x h = cc
empty_ok (r ∷ s) next x h = (refl, h)

judged_ok : {A : Type 0} (w : World) (chain : ChainOf) (next : Result A Fault) (x : A) → judged w chain next ≡ Ok x → next ≡ Ok x
unfolding judged
judged_ok w chain next x h = low_ok (first_low w chain) next x (unless_ok (all_stand w (base_is chain) (constraints_of chain)) not_here (unless_low (first_low w chain) next) x h).1

judged_so : {A B : Type 0} (w : World) (chain : ChainOf) (next : Result A Fault) (other : Result B Fault) (x : A) (y : B) → judged w chain next ≡ Ok x → other ≡ Ok y → judged w chain other ≡ Ok y
unfolding judged
judged_so w chain next other x y h e = by (all_stand w (base_is chain) (constraints_of chain)) (first_low w chain) h
  where
    by : (b : Bool) (o : Option ℤ) → unless b not_here (unless_low o next) ≡ Ok x → unless b not_here (unless_low o other) ≡ Ok y
    by true None f = e
    by true (Some z) f = cc
    by false o f = cc

-- ---- the numbers of an INTEGER

-- either the greatest number has a sign of 64 bits, or the set isn't open below and begins at 0 or above
abbrev pub InWords : Opened → Type 0
InWords set = ((x : ℤ) → has set.numbers x ≡ true → x ≤ℤ pos 9223372036854775807) ⊎ ((set.open_below ≡ false) × ((x : ℤ) → has set.numbers x ≡ true → pos 0 ≤ℤ x))

pub record IsBounded (set : Opened) : Type 0 where
  pub ranges : AreRanges set.numbers
  pub some : is_empty set.numbers ≡ false
  pub low : (x : ℤ) → has set.numbers x ≡ true → negsuc 9223372036854775807 ≤ℤ x
  pub high : (x : ℤ) → has set.numbers x ≡ true → x ≤ℤ pos 18446744073709551615
  pub words : InWords set

abbrev kept : Ranges
kept = (negsuc 9223372036854775807, pos 18446744073709551615) ∷ []

abbrev words : Ranges
words = (negsuc 9223372036854775807, pos 9223372036854775807) ∷ []

kept_ranges : AreRanges kept
kept_ranges = one_range (negsuc 9223372036854775807) (pos 18446744073709551615) (omega (arith, ints)) (omega (arith, ints)) (omega (arith, ints))

words_ranges : AreRanges words
words_ranges = one_range (negsuc 9223372036854775807) (pos 9223372036854775807) (omega (arith, ints)) (omega (arith, ints)) (omega (arith, ints))

bounded_ranges : (s : Ranges) → AreRanges s → AreRanges (bounded s)
bounded_ranges s h = meet_above (bottom -ℤ pos 1) (bottom -ℤ pos 1) s kept h kept_ranges

in_kept : (s : Ranges) (x : ℤ) → has (bounded s) x ≡ true → (negsuc 9223372036854775807 ≤ℤ x) × (x ≤ℤ pos 18446744073709551615)
in_kept s x m = in_one (negsuc 9223372036854775807) (pos 18446744073709551615) x (in_both s kept x m).1

closed_bounded : (s : Ranges) → AreRanges s → is_empty (closed s) ≡ false → IsBounded (opened s)
unfolding closed
closed_bounded s h some = by (has s bottom || starts_negative (least (bounded s))) refl some
  where
    by : (t : Bool) → (has s bottom || starts_negative (least (bounded s))) ≡ t → is_empty (within_words t (bounded s)) ≡ false → IsBounded (record { numbers = within_words t (bounded s); open_below = has s bottom; open_above = has s top })
    by false e n =
        let f = or_parts (has s bottom) (starts_negative (least (bounded s))) e in
        record {
          ranges = bounded_ranges s h;
          some = n;
          low = λ x m. (in_kept s x m).0;
          high = λ x m. (in_kept s x m).1;
          words = inr (f.0, λ x m. from_zero (bounded s) (bounded_ranges s h) f.1 x m);
        }
    by true e n =
        record {
          ranges = meet_above (bottom -ℤ pos 1) (bottom -ℤ pos 1) (bounded s) words (bounded_ranges s h) words_ranges;
          some = n;
          low = λ x m. (in_kept s x (in_both (bounded s) words x m).0).0;
          high = λ x m. (in_kept s x (in_both (bounded s) words x m).0).1;
          words = inl (λ x m. (in_one (negsuc 9223372036854775807) (pos 9223372036854775807) x (in_both (bounded s) words x m).1).1);
        }

pub numbers_bounded : (w : World) (chain : ChainOf) (set : Opened) → range_of w chain ≡ Ok set → IsBounded set
unfolding range_of
numbers_bounded w chain set h =
    let left = judged_ok w chain (range_left w chain) set h in
    let e = empty_ok (closed (numbers_of w chain)) (Ok (opened (numbers_of w chain))) set left in
    let same : opened (numbers_of w chain) ≡ set = ok_same (opened (numbers_of w chain)) set e.1 in
    subst IsBounded same (closed_bounded (numbers_of w chain) (numbers_ranges w chain) e.0)
  where
    ok_same : {A : Type 0} (x y : A) → ◌≡◌ {A = Result A Fault} (Ok x) (Ok y) → x ≡ y
    ok_same x y e = cc

-- ---- sizes and characters

-- ranges in order from one number to another, and there is one
pub record AreFrom (low high : ℤ) (s : Ranges) : Type 0 where
  pub ranges : AreRanges s
  pub some : is_empty s ≡ false
  pub inside : (x : ℤ) → has s x ≡ true → (low ≤ℤ x) × (x ≤ℤ high)

-- a set whose greatest number is within the limit
up_to : (s : Ranges) (most : ℤ) → AreRanges s → is_empty s ≡ false → ((g : ℤ) → greatest s ≡ Some g → g ≤ℤ most) → (x : ℤ) → has s x ≡ true → x ≤ℤ most
up_to [] most h some f x m = cc
up_to (r ∷ s) most h some f x m =
    let e = some_greatest r s in
    let one = greatest_above (r ∷ s) x _ h m e in
    let two = f _ e in
    le_trans x _ most one two

if_ok : {A : Type 0} (t : Bool) (f : Fault) (x y : A) → ◌≡◌ {A = Result A Fault} (if t then Err f else Ok x) (Ok y) → (t ≡ false) × (x ≡ y)
if_ok true f x y h = cc
if_ok false f x y h = (refl, cc)

limited_ok : (s : Ranges) (o : Option ℤ) (found : Option Ranges) → limited s o ≡ Ok found → (found ≡ Some s) × ((g : ℤ) → o ≡ Some g → g ≤ℤ pos MOST_SIZE)
limited_ok s None found h = (cc, λ g e. cc)
limited_ok s (Some most) found h =
    let f = if_ok (int_lt (pos MOST_SIZE) most) (size_limit most) (Some s) found h in
    (let e = f.1 in cc, λ g e. subst (λ (z : ℤ). z ≤ℤ pos MOST_SIZE) (some_same most g e) (ge_fact (pos MOST_SIZE) most f.0))
  where
    some_same : (x y : ℤ) → ◌≡◌ {A = Option ℤ} (Some x) (Some y) → x ≡ y
    some_same x y e = cc

sized_ok : (s : Ranges) (b : Bool) (found : Option Ranges) → AreRanges s → ((x : ℤ) → has s x ≡ true → pos 0 ≤ℤ x) → sized b s ≡ Ok found → (t : Ranges) → found ≡ Some t → AreFrom (pos 0) (pos MOST_SIZE) t
sized_ok s false found h low e t f = cc
sized_ok s true found h low e t f =
    let a = empty_ok s (unless (not (has s top)) unbounded (limited s (greatest s))) found e in
    let b = unless_ok (not (has s top)) unbounded (limited s (greatest s)) found a.1 in
    let c = limited_ok s (greatest s) found b.1 in
    let same : s ≡ t = option_same s t (c.0) f in
    subst (AreFrom (pos 0) (pos MOST_SIZE)) same (record { ranges = h; some = a.0; inside = λ x m. (low x m, up_to s (pos MOST_SIZE) h a.0 c.1 x m) })
  where
    option_same : (s t : Ranges) → found ≡ Some s → found ≡ Some t → s ≡ t
    option_same s t e f = cc

-- the sizes that a SIZE leaves
pub sizes_from : (w : World) (chain : ChainOf) (s : Ranges) → size_of w chain ≡ Ok (Some s) → AreFrom (pos 0) (pos MOST_SIZE) s
unfolding size_of
sizes_from w chain s h = sized_ok (sizes_of w chain) (has_size chain) (Some s) (sizes_ranges w chain) (sizes_from_zero w chain) (judged_ok w chain (size_left w chain) (Some s) h) s refl

-- a text without a fault has a SIZE, and characters
pub record HasBoth (w : World) (chain : ChainOf) : Type 0 where
  pub sizes : Ranges
  pub are_sizes : size_of w chain ≡ Ok (Some sizes)
  pub characters : Ranges
  pub are_characters : alphabet_of w chain ≡ Ok characters
  pub inside : AreFrom (pos 0) (pos 127) characters

text_limited : (s cs : Ranges) (o : Option ℤ) (x : Texts) → limited_text s cs o ≡ Ok x → limited s o ≡ Ok (Some s)
text_limited s cs None x h = refl
text_limited s cs (Some most) x h = by (int_lt (pos MOST_SIZE) most) h
  where
    by : (t : Bool) → ◌≡◌ {A = Result Texts Fault} (if t then Err (size_limit most) else Ok (record { sizes = s; characters = cs })) (Ok x) → ◌≡◌ {A = Result (Option Ranges) Fault} (if t then Err (size_limit most) else Ok (Some s)) (Ok (Some s))
    by true e = cc
    by false e = refl

unbounded_so : (b : Bool) (s cs : Ranges) (x : Texts) → unless (b && not (has s top)) unbounded (limited_text s cs (greatest s)) ≡ Ok x → is_empty s ≡ false → sized b s ≡ Ok (Some s)
unbounded_so false s cs x h some = cc
unbounded_so true [] cs x h some = cc
unbounded_so true (r ∷ s) cs x h some =
    let e = unless_ok (not (has (r ∷ s) top)) unbounded (limited_text (r ∷ s) cs (greatest (r ∷ s))) x h in
    subst (λ (t : Bool). unless t unbounded (limited (r ∷ s) (greatest (r ∷ s))) ≡ Ok (Some (r ∷ s))) (sym e.0) (text_limited (r ∷ s) cs (greatest (r ∷ s)) x e.1)

pub text_both : (w : World) (chain : ChainOf) (x : Texts) → text_of w chain ≡ Ok x → HasBoth w chain
unfolding text_of size_of alphabet_of
text_both w chain x h =
    let left = judged_ok w chain (text_left w chain) x h in
    let s = sizes_of w chain in
    let cs = characters_of w chain in
    let a = empty_ok s (not_empty cs (unless (has_size chain && not (has s top)) unbounded (limited_text s cs (greatest s)))) x left in
    let b = empty_ok cs (unless (has_size chain && not (has s top)) unbounded (limited_text s cs (greatest s))) x a.1 in
    record {
      sizes = s;
      are_sizes = judged_so w chain (text_left w chain) (size_left w chain) x (Some s) h (unbounded_so (has_size chain) s cs x b.1 a.0);
      characters = cs;
      are_characters = judged_so w chain (text_left w chain) (alphabet_left w chain) x cs h (alphabet_so cs b.0);
      inside = record { ranges = characters_ranges w chain; some = b.0; inside = characters_within w chain };
    }
  where
    alphabet_so : (cs : Ranges) → is_empty cs ≡ false → ◌≡◌ {A = Result Ranges Fault} (not_empty cs (Ok cs)) (Ok cs)
    alphabet_so [] e = cc
    alphabet_so (r ∷ cs) e = refl
