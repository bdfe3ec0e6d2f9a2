-- Codings whose codes have one width.
use Rattle.std.proofs.Common.{◌≡◌, ℕ, ◌+◌, ◌≤◌, ℤ, pos, Some, None, refl, sym, ap, ◌∙◌, arith}
use Rattle.std.specs.Prelude.{unwrap_or}
use Rattle.acn_grammar.specs.Code.{image_of}
use Rattle.acn_grammar.specs.Interval.{width_of, width_by, fixed_width}
use Rattle.acn_grammar.specs.Length.{num_length, coding_length}
use Rattle.acn_grammar.specs.declared.node.NumCoding.{NumCoding}
use Rattle.acn_grammar.specs.declared.node.NumCoding.TheVariants.{Range, CountedFrom, CountedSigned, PosInt, Twos, Bcd, BcdEnded, Ascii, AsciiEnded, Flag, Fixed}
use Rattle.acn_grammar.specs.declared.node.NumLeaf.{NumLeaf}

coding_is_fixed : (c : NumCoding) (w : ℕ) (y : ℤ) → Some w ≡ fixed_width c → coding_length c y ≡ w
coding_is_fixed (Range low width) w y e = cc
coding_is_fixed (CountedFrom low) w y e = cc
coding_is_fixed CountedSigned w y e = cc
coding_is_fixed (PosInt n) w y e = cc
coding_is_fixed (Twos n) w y e = cc
coding_is_fixed (Bcd n) w y e = cc
coding_is_fixed BcdEnded w y e = cc
coding_is_fixed (Ascii n signed) w y e = cc
coding_is_fixed (AsciiEnded end signed) w y e = cc
coding_is_fixed (Flag ones zeros) w y e = cc
coding_is_fixed (Fixed pattern) w y e = cc

-- the code of each number is so long
pub length_is_fixed : (leaf : NumLeaf) (w : ℕ) (x : ℤ) → Some w ≡ fixed_width leaf.coding → num_length leaf x ≡ w
length_is_fixed leaf w x e = coding_is_fixed leaf.coding w (unwrap_or (image_of leaf x) (pos 0)) e

-- and the leaf has this width
pub width_is_fixed : (leaf : NumLeaf) (w : ℕ) → Some w ≡ fixed_width leaf.coding → width_of leaf ≡ Some w
width_is_fixed leaf w e = ap (λ o. width_by leaf o) (sym e)
