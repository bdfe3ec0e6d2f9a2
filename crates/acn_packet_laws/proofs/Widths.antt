-- Bounds and widths of leaves of several lengths.
use Rattle.std.proofs.Common.{◌≡◌, ℤ, pos, true, false, [], ◌∷◌, Some, None, refl}
use Rattle.std.specs.Prelude.{neg_ℤ, ◌^◌, ◌-◌}
use Rattle.acn_num.specs.Bits.{low_bits}
use Rattle.acn_grammar.specs.Grammar.{node, num}
use Rattle.acn_grammar.specs.Interval.{span, width_of}
use Rattle.acn_grammar.specs.Leaves.{num_fine}
use Rattle.acn_grammar.specs.declared.node.NumKind.TheVariants.{Integer}
use Rattle.acn_grammar.specs.declared.node.NumLeaf.{NumLeaf}
use Rattle.acn_grammar.specs.declared.node.NumCoding.{NumCoding}
use Rattle.acn_grammar.specs.declared.node.NumCoding.TheVariants.{CountedFrom, CountedSigned, PosInt, BcdEnded, AsciiEnded}

abbrev pub leaf_of : (low high : ℤ) → NumCoding → NumLeaf
leaf_of low high coding = record { kind = Integer; set = (low, high) ∷ []; coding = coding; little = false; table = None; items = record { items = []; values = false } }

-- INTEGER (0..9999) in decimal digits with an end: 8 and 20
ended_bounds : span (node 1 (num (leaf_of (pos 0) (pos 9999) BcdEnded))) ≡ record { least = 8; greatest = 20 }
ended_bounds = refl

-- INTEGER (10..99) so has one width
ended_width : width_of (leaf_of (pos 10) (pos 99) BcdEnded) ≡ Some 12
ended_width = refl

no_width : width_of (leaf_of (pos 9) (pos 99) BcdEnded) ≡ None
no_width = refl

-- INTEGER without bounds: 16 and 72
counted_bounds : span (node 1 (num (leaf_of (neg_ℤ (pos (2 ^ 63))) (pos (2 ^ 63 - 1)) CountedSigned))) ≡ record { least = 16; greatest = 72 }
counted_bounds = refl

counted_fine : num_fine (leaf_of (neg_ℤ (pos (2 ^ 63))) (pos (2 ^ 63 - 1)) CountedSigned) ≡ true
counted_fine = refl

counted_over : num_fine (leaf_of (neg_ℤ (pos (2 ^ 63))) (pos (2 ^ 63)) CountedSigned) ≡ false
counted_over = refl

-- INTEGER (0..MAX): 16 and 72; its least number has to be the low end
counted_from : span (node 1 (num (leaf_of (pos 0) (pos (2 ^ 64 - 1)) (CountedFrom (pos 0))))) ≡ record { least = 16; greatest = 72 }
counted_from = refl

other_low : num_fine (leaf_of (pos 1) (pos (2 ^ 64 - 1)) (CountedFrom (pos 0))) ≡ false
other_low = refl

-- too narrow: 300 in 8 bits
narrow : num_fine (leaf_of (pos 0) (pos 300) (PosInt 8)) ≡ false
narrow = refl

-- a terminator that begins with a digit
digit_end : num_fine (leaf_of (pos 0) (pos 9) (AsciiEnded (low_bits 8 48) false)) ≡ false
digit_end = refl

zero_end : num_fine (leaf_of (pos 0) (pos 9) (AsciiEnded (low_bits 8 0) false)) ≡ true
zero_end = refl

-- a sign exactly where numbers below zero are permitted
no_sign : num_fine (leaf_of (pos 0) (pos 9) (AsciiEnded (low_bits 8 0) true)) ≡ false
no_sign = refl
