-- Packets of one number each: what is written, and what can't be read.
use Rattle.std.proofs.Common.{◌≡◌, ℕ, zero, suc, ℤ, pos, ◌*◌, ◌≤◌, ◌<◌, Bool, true, false, List, [], ◌∷◌, ◌++◌, Some, None, refl, arith, inr}
use Rattle.std.specs.Prelude.{neg_ℤ, ◌^◌, ◌-◌}
use Rattle.std.proofs.lemmas.Int.{ints}
use Rattle.acn_num.specs.Bits.{low_bits, bits as bits_of, IsSigned}
use Rattle.acn_grammar.specs.Grammar.{Grammar, Data, node, num, int, boolean}
use Rattle.acn_grammar.specs.Code.{Mode, Written, Any, Code, NumberOf}
use Rattle.acn_grammar.specs.Spell.{Spell, Padding}
use Rattle.acn_grammar.specs.Fails.{Refusal, fails_behind_padding}
use Rattle.acn_grammar.specs.LeafFails.{Reason, LeafFails, bad_digit, bad_pattern, not_minimal, wrong, not_shortest, octets_to_spare, minus_nothing, code_not_permitted}
use Rattle.acn_grammar.specs.Front.{IsWritten}
use Rattle.acn_grammar.specs.Interval.{span}
use Rattle.acn_grammar.specs.Tree.{is_tree}
use Rattle.acn_grammar.specs.declared.node.NumLeaf.{NumLeaf}
use Rattle.acn_grammar.specs.declared.node.NumKind.TheVariants.{Integer, Boolean}
use Rattle.acn_grammar.specs.declared.node.NumCoding.{NumCoding}
use Rattle.acn_grammar.specs.declared.node.NumCoding.TheVariants.{CountedSigned, Bcd, BcdEnded, Ascii, Flag}
use Rattle.acn_grammar.proofs.Numbers.{signed-below}

abbrev pub integer : (low high : ℤ) → NumCoding → NumLeaf
integer low high coding = record { kind = Integer; set = (low, high) ∷ []; coding = coding; little = false; table = None; items = record { items = []; values = false } }

abbrev flag_leaf : NumCoding → NumLeaf
flag_leaf coding = record { kind = Boolean; set = (pos 0, pos 1) ∷ []; coding = coding; little = false; table = None; items = record { items = []; values = false } }

abbrev pub root_of : NumLeaf → Grammar
root_of leaf = node 1 (num leaf)

pub no_padding : (mode : Mode) → Padding mode 1 0 []
no_padding mode = record { aligned = omega arith; fewest = omega arith; zeros = λ _. refl }

-- a packet of one number
pub leaf_spelled : (mode : Mode) (leaf : NumLeaf) (d : Data) (x : ℤ) (bs : List Bool) → NumberOf leaf.kind d x → Code mode leaf x bs → Spell (root_of leaf) mode (root_of leaf) [] d 0 bs
leaf_spelled mode leaf d x bs n c = record { front = []; back = bs; whole = refl; first = no_padding mode; second = (x, n, c) }

pub leaf_fails : (leaf : NumLeaf) (bs : List Bool) (r : Reason) (reach : ℕ) → LeafFails leaf bs r reach → Refusal (root_of leaf) bs (record { path = []; reason = r; at = 0 }) reach
leaf_fails leaf bs r reach f = fails_behind_padding (record { front = []; back = bs; whole = refl; spelled = no_padding Any; more = reach; reaches = omega arith; fails = record { reason = r; fails = f; says = refl } })

-- INTEGER (0..999) in three decimal digits of 4 bits: 42 is 042
abbrev bcd_leaf : NumLeaf
bcd_leaf = integer (pos 0) (pos 999) (Bcd 12)

bcd_is : is_tree (root_of bcd_leaf) ≡ true
bcd_is = refl

bcd_too_narrow : is_tree (root_of (integer (pos 0) (pos 1000) (Bcd 12))) ≡ false
bcd_too_narrow = refl

pub bcd_written : IsWritten (root_of bcd_leaf) (int (pos 42)) (low_bits 4 0 ++ low_bits 4 4 ++ low_bits 4 2)
bcd_written = leaf_spelled Written bcd_leaf (int (pos 42)) (pos 42) _ refl (record {
  permitted = refl;
  image = pos 42;
  maps = refl;
  spelled = (42, refl, refl, record { digits = 0 ∷ 4 ∷ 2 ∷ []; spell = record { digits = (omega arith, (omega arith, (omega arith, tt))); value = refl }; whole = refl });
})

-- 0a 20: the second digit is ten
pub bcd_bad : Refusal (root_of bcd_leaf) (bits_of (10 ∷ 32 ∷ [])) (record { path = []; reason = bad_digit; at = 0 }) 12
bcd_bad = leaf_fails bcd_leaf _ bad_digit 12 (code_not_permitted (omega arith, (wrong bad_digit, inr ((λ h. absurd (omega (arith, h.1.0.1))), refl), refl), refl))

-- INTEGER: 128 is 02 00 80
abbrev free_leaf : NumLeaf
free_leaf = integer (neg_ℤ (pos (2 ^ 63))) (pos (2 ^ 63 - 1)) CountedSigned

pub two_octets_at_least : (c : ℕ) (other : List Bool) → 0 < c → IsSigned (8 * c) (pos 128) other → 2 ≤ c
two_octets_at_least zero other p s = absurd (omega arith)
two_octets_at_least (suc zero) other p s =
    let below = signed-below other 7 s.width in
    let is = s.value in
    absurd (omega (arith, ints))
two_octets_at_least (suc (suc c)) other p s = omega arith

pub counted_written : IsWritten (root_of free_leaf) (int (pos 128)) (bits_of (2 ∷ 0 ∷ 128 ∷ []))
counted_written = leaf_spelled Written free_leaf (int (pos 128)) (pos 128) _ refl (record {
  permitted = refl;
  image = pos 128;
  maps = refl;
  spelled = record { count = 2; front = low_bits 8 2; body = bits_of (0 ∷ 128 ∷ []); whole = refl; counts = record { width = refl; value = refl }; spells = record { width = refl; value = refl }; positive = omega arith; least = two_octets_at_least };
})

-- 02 00 05: one octet would do
pub counted_long : Refusal (root_of free_leaf) (bits_of (2 ∷ 0 ∷ 5 ∷ [])) (record { path = []; reason = not_minimal; at = 0 }) 24
counted_long = leaf_fails free_leaf _ not_minimal 24 (octets_to_spare (omega arith, omega arith, omega arith, omega arith, refl, refl))

-- BOOLEAN with 'A5'H for true: false is its complement, and every other octet is read as false
abbrev a5 : List Bool
a5 = low_bits 8 165

abbrev half : NumLeaf
half = flag_leaf (Flag (Some a5) None)

pub half_written : IsWritten (root_of half) (boolean false) (low_bits 8 90)
half_written = leaf_spelled Written half (boolean false) (pos 0) _ refl (record { permitted = refl; image = pos 0; maps = refl; spelled = inr (refl, refl) })

pub half_read : Spell (root_of half) Any (root_of half) [] (boolean false) 0 (low_bits 8 0)
half_read = leaf_spelled Any half (boolean false) (pos 0) _ refl (record { permitted = refl; image = pos 0; maps = refl; spelled = inr (refl, (refl, λ e. cc)) })

-- with '00'H for false too, 01 is neither
abbrev both : NumLeaf
both = flag_leaf (Flag (Some a5) (Some (low_bits 8 0)))

both_is : is_tree (root_of both) ≡ true
both_is = refl

same_patterns : is_tree (root_of (flag_leaf (Flag (Some a5) (Some a5)))) ≡ false
same_patterns = refl

pub neither : Refusal (root_of both) (low_bits 8 1) (record { path = []; reason = bad_pattern; at = 0 }) 8
neither = leaf_fails both _ bad_pattern 8 (code_not_permitted (omega arith, (wrong bad_pattern, inr ((λ e. cc), inr ((λ e. cc), refl)), refl), refl))

-- INTEGER (-99..99) in three characters: -7 is -07, and -00 is not minimal
abbrev signed_leaf : NumLeaf
signed_leaf = integer (neg_ℤ (pos 99)) (pos 99) (Ascii 24 true)

signed_is : is_tree (root_of signed_leaf) ≡ true
signed_is = refl

pub minus_seven : IsWritten (root_of signed_leaf) (int (neg_ℤ (pos 7))) (bits_of (45 ∷ 48 ∷ 55 ∷ []))
minus_seven = leaf_spelled Written signed_leaf (int (neg_ℤ (pos 7))) (neg_ℤ (pos 7)) _ refl (record {
  permitted = refl;
  image = neg_ℤ (pos 7);
  maps = refl;
  spelled = (7, low_bits 8 45, (refl, refl), refl, record { digits = 0 ∷ 7 ∷ []; spell = record { digits = (omega arith, (omega arith, tt)); value = refl }; whole = refl });
})

pub minus_zero : Refusal (root_of signed_leaf) (bits_of (45 ∷ 48 ∷ 48 ∷ [])) (record { path = []; reason = not_minimal; at = 0 }) 24
minus_zero = leaf_fails signed_leaf _ not_minimal 24 (code_not_permitted (omega arith, (wrong not_minimal, minus_nothing (refl, ((omega arith, omega arith), ((omega arith, omega arith), tt)), refl, refl), refl), refl))

-- INTEGER (0..9999) in decimal digits with an end: 120 is 12 0f, and 0 in front is not minimal
abbrev ended_leaf : NumLeaf
ended_leaf = integer (pos 0) (pos 9999) BcdEnded

pub ended_written : IsWritten (root_of ended_leaf) (int (pos 120)) (bits_of (18 ∷ 15 ∷ []))
ended_written = leaf_spelled Written ended_leaf (int (pos 120)) (pos 120) _ refl (record {
  permitted = refl;
  image = pos 120;
  maps = refl;
  spelled = (120, refl, record { digits = 1 ∷ 2 ∷ 0 ∷ []; spell = record { digits = (omega arith, (omega arith, (omega arith, tt))); value = refl }; minimal = omega arith; whole = refl });
})

pub leading_zero : Refusal (root_of ended_leaf) (bits_of (1 ∷ 47 ∷ [])) (record { path = []; reason = not_minimal; at = 0 }) 16
leading_zero = leaf_fails ended_leaf _ not_minimal 16 (record {
  digits = 0 ∷ 1 ∷ 2 ∷ [];
  behind = low_bits 4 15;
  whole = refl;
  are = (omega arith, (omega arith, (omega arith, tt)));
  few = omega arith;
  more = 4;
  fails = not_shortest (omega arith, refl, omega arith, (λ h. absurd (omega (arith, h.0))), refl, refl);
  reaches = refl;
})

ended_bounds : span (root_of ended_leaf) ≡ record { least = 8; greatest = 20 }
ended_bounds = refl
