-- Codes as lists of bits, and how long they are.
use Rattle.std.proofs.Common.{◌≡◌, ℕ, ◌+◌, ◌^◌, ◌<◌, ◌≤◌, ℤ, pos, Bool, true, false, not, List, [], ◌∷◌, ◌++◌, length, take, drop, Option, Some, None, refl, sym, ap, ◌∙◌, arith, length-drop, nat_eq, nat_le, ◌&&◌, get_or}
use Rattle.std.specs.Prelude.{nat_abs, ◌-ℤ◌, unwrap_or}
use Rattle.std.specs.List.{range_with_len}
use Rattle.std.proofs.lemmas.List.{drop-drop, take_more, drop_more, length-take-le}
use Rattle.std.proofs.lemmas.List.Sums.{count_by-le-length}
use Rattle.std.proofs.lemmas.Bool.Decides.{nat_tests}
use Rattle.acn_num.specs.Bits.{bits, number}
use Rattle.acn_num.proofs.BitLists.{length-bits}
use Rattle.acn_bits.specs.Reading.{Reading, passed}
use Rattle.acn_grammar.specs.Code.{image_of}
use Rattle.acn_grammar.specs.Interval.{width_of, fixed_width}
use Rattle.acn_grammar.specs.Leaves.{num_fine, coding_fine, from_to, is_pattern, flag_patterns_fine, same_bits}
use Rattle.acn_grammar.specs.Length.{num_length, coding_length, least_octets, least_signed_octets, digit_count, flag_width, sign_width, fits_octets}
use Rattle.acn_grammar.specs.declared.node.NumCoding.{NumCoding}
use Rattle.acn_grammar.specs.declared.node.NumCoding.TheVariants.{Range, CountedFrom, CountedSigned, PosInt, Twos, Bcd, BcdEnded, Ascii, AsciiEnded, Flag, Fixed}
use Rattle.acn_grammar.specs.declared.node.NumLeaf.{NumLeaf}
use Rattle.acn_grammar.proofs.FineLeaves.{rules_of}
use Rattle.acn_grammar.proofs.WidthLaw.{by_width}
use Rattle.acn_grammar.proofs.Within.{image_has}
use Rattle.acn_ints.specs.Limits.{CodingFits, LeafFits}
use Rattle.acn_ints.specs.Pieces.{CanCode}
use Rattle.std.specs.Prelude.{IsTrue}
use Rattle.std.proofs.lemmas.Bool.{and_parts}

-- the bits that were listed, and those that are left
pub record Listed (buf : List ℕ) (count i : ℕ) (list : List Bool) (cur : Reading) : Type 0 where
  pub front : list ≡ take i (take count (bits buf))
  pub rest : cur.rest ≡ drop i (take count (bits buf))
  pub upto : i ≤ count

-- the width of a leaf is the length of the code of each permitted number
pub width_is_length : (leaf : NumLeaf) (x : ℤ) (w : ℕ) → CanCode leaf x → width_of leaf ≡ Some w → num_length leaf x ≡ w
width_is_length leaf x w c e =
    ap (λ o. coding_length leaf.coding (unwrap_or o (pos 0))) c.maps ∙ by_width leaf (fixed_width leaf.coding) c.image w refl e (image_has leaf x c.image c.permitted c.maps)

few_octets : (k : ℕ) → least_octets k ≤ 8
few_octets k = let h = count_by-le-length (λ c. nat_le (256 ^ c) k) (range_with_len 1 7) in omega (arith, h)

few_signed : (y : ℤ) → least_signed_octets y ≤ 8
few_signed y = let h = count_by-le-length (λ c. not (fits_octets y c)) (range_with_len 1 7) in omega (arith, h)

few_digits : (k : ℕ) → digit_count k ≤ 20
few_digits k = let h = count_by-le-length (λ e. nat_le (10 ^ e) k) (range_with_len 1 19) in omega (arith, h)

at_most : (low high n : ℕ) → from_to low high n ≡ true → n ≤ high
at_most low high n h = le_is n high (and_parts (nat_le low n) (nat_le n high) h).1
  where
    le_is : (a b : ℕ) → nat_le a b ≡ true → a ≤ b
    le_is a b h = grind (arith, nat_tests)

short_flag : (p q : Option (List Bool)) → flag_patterns_fine p q ≡ true → flag_width p q ≤ 64
short_flag None None h = omega arith
short_flag (Some p) None h = at_most 1 64 (length p) h
short_flag None (Some q) h = at_most 1 64 (length q) h
short_flag (Some p) (Some q) h = at_most 1 64 (length p) (and_parts (is_pattern p) (nat_eq (length p) (length q) && not (same_bits p q)) h).0

short_sign : (b : Bool) → sign_width b ≤ 8
short_sign true = omega arith
short_sign false = omega arith

-- no code has more than 256 bits
short_code : (coding : NumCoding) (little : Bool) (y : ℤ) → coding_fine coding ≡ true → CodingFits coding little → coding_length coding y ≤ 256
short_code (Range low width) little y c f = let h = f.1 in omega (arith, h)
short_code (CountedFrom low) little y c f = let h = few_octets (nat_abs (y -ℤ low)) in omega (arith, h)
short_code CountedSigned little y c f = let h = few_signed y in omega (arith, h)
short_code (PosInt n) little y c f = let h = f.1 in omega (arith, h)
short_code (Twos n) little y c f = let h = f.1 in omega (arith, h)
short_code (Bcd n) little y c f = let e = f.1 in let h = f.2 in omega (arith, e, h)
short_code BcdEnded little y c f = let h = few_digits (nat_abs y) in omega (arith, h)
short_code (Ascii n false) little y c f = let e = f.1 in let h = f.2 in omega (arith, e, h)
short_code (Ascii n true) little y c f = let h = f.1 in omega (arith, h)
short_code (AsciiEnded end signed) little y c f = let h = few_digits (nat_abs y) in let s = short_sign signed in let e = f.1 in omega (arith, h, s, e)
short_code (Flag p q) little y c f = let h = short_flag p q c in omega (arith, h)
short_code (Fixed pattern) little y c f = let h = at_most 1 64 (length pattern) c in omega (arith, h)

pub short_num : (leaf : NumLeaf) (x : ℤ) → IsTrue (num_fine leaf) → LeafFits leaf → num_length leaf x ≤ 256
short_num leaf x h f = let r = rules_of leaf h in short_code leaf.coding leaf.little (unwrap_or (image_of leaf x) (pos 0)) r.coding f.coding

-- The bits of a buffer one by one.

listed_long : (buf : List ℕ) (count i : ℕ) (list : List Bool) (cur : Reading) → length buf ≡ 32 → count ≤ 256 → Listed buf count i list cur → length (take count (bits buf)) ≡ count
listed_long buf count i list cur size few l = length-take-le count (bits buf) (let n = length-bits buf in omega (arith, n, size, few))

pub listed_some : (buf : List ℕ) (count i : ℕ) (list : List Bool) (cur : Reading) → length buf ≡ 32 → count ≤ 256 → i < count → Listed buf count i list cur → 1 ≤ length cur.rest
listed_some buf count i list cur size few more l =
    let n = listed_long buf count i list cur size few l in
    let r = ap length l.rest ∙ length-drop i (take count (bits buf)) in
    omega (arith, n, r, more)

value_of_bit : (b : Bool) (v : ℕ) → v ≡ number (b ∷ []) → nat_eq v 1 ≡ b
value_of_bit true v e = rw e refl
value_of_bit false v e = rw e refl

pub listed_next : (buf : List ℕ) (count i v : ℕ) (list list' : List Bool) (b : Bool) (cur new : Reading) → length buf ≡ 32 → count ≤ 256 → i < count → Listed buf count i list cur → v ≡ number (take 1 cur.rest) → new ≡ passed 1 cur → b ≡ nat_eq v 1 → list' ≡ list ++ b ∷ [] → Listed buf count (i + 1) list' new
listed_next buf count i v list list' b cur new size few more l is moved bit grown =
    let xs = take count (bits buf) in
    let n = listed_long buf count i list cur size few l in
    let inside : i < length xs = omega (arith, n, more) in
    let here : cur.rest ≡ get_or xs i false ∷ drop (i + 1) xs = l.rest ∙ drop_more xs i false inside in
    let value : v ≡ number (get_or xs i false ∷ []) = is ∙ ap (λ (t : List Bool). number (take 1 t)) here in
    let same : b ≡ get_or xs i false = bit ∙ value_of_bit (get_or xs i false) v value in
    record {
      front = grown ∙ joined l.front same ∙ sym (take_more xs i false inside);
      rest = ap (λ (r : Reading). r.rest) moved ∙ ap (drop 1) l.rest ∙ drop-drop 1 i xs;
      upto = omega (arith, more);
    }
  where
    joined : {x y : List Bool} {c d : Bool} → x ≡ y → c ≡ d → x ++ c ∷ [] ≡ y ++ d ∷ []
    joined e f = cc
