-- Which coding `size` and `encoding` give to an INTEGER or an ENUMERATED, and which numbers it can write. (Attributes are ACN's; widths, and that ended
-- numbers have 64 bits, are this profile's own.)
use Rattle.std.specs.Prelude.{ℕ, ◌-◌, ◌^◌, ◌/◌, ◌%◌, nat_le, nat_eq, Bool, true, false, ◌&&◌, if◌then◌else◌, Option, Some, None, ℤ, pos, negsuc, ◌-ℤ◌}
use Rattle.acn_num.specs.Ranges.{bottom, top}
use Rattle.acn_acn_syntax.specs.declared.modules.Encoding.{Encoding}
use Rattle.acn_acn_syntax.specs.declared.modules.Encoding.TheVariants as encoding
use Rattle.acn_acn_syntax.specs.declared.modules.SizeAttr.{SizeAttr}
use Rattle.acn_acn_syntax.specs.declared.modules.SizeAttr.TheVariants as size
use Rattle.acn_codings.specs.declared.coding.Coding.{Coding}
use Rattle.acn_codings.specs.declared.coding.Coding.TheVariants.{Default, PosInt, Twos, Bcd, BcdEnded, Ascii, AsciiEnded}

-- a number of so many bits; without `encoding` it is in two's complement where it has a sign
abbrev pub sized_coding : Bool → ℕ → Option Encoding → Coding
sized_coding sign n (Some encoding.PosInt) = PosInt n
sized_coding sign n (Some encoding.TwosComplement) = Twos n
sized_coding sign n (Some encoding.Bcd) = Bcd n
sized_coding sign n (Some encoding.Ascii) = Ascii n sign
sized_coding sign n None = if sign then Twos n else PosInt n

-- a number that is ended: decimal digits in 4 bits or in octets
abbrev pub ended_coding : Bool → Option Encoding → Coding
ended_coding sign (Some encoding.Bcd) = BcdEnded
ended_coding sign _ = AsciiEnded sign

-- the coding of a number that has a sign or not
abbrev pub coding_of : Bool → Option SizeAttr → Option Encoding → Coding
coding_of sign None e = Default
coding_of sign (Some (size.Number n)) e = sized_coding sign n e
coding_of sign (Some size.NullTerminated) e = ended_coding sign e
coding_of sign (Some (size.Path p)) e = Default

-- from one number to another in steps
abbrev pub is_step : (step low high n : ℕ) → Bool
is_step step low high n = nat_eq (n % step) 0 && nat_le low n && nat_le n high

-- the width is one that the coding has
abbrev pub fits : Coding → Bool
fits Default = true
fits (PosInt n) = is_step 1 1 64 n
fits (Twos n) = is_step 1 1 64 n
fits (Bcd n) = is_step 4 4 76 n
fits BcdEnded = true
fits (Ascii n false) = is_step 8 8 152 n
fits (Ascii n true) = is_step 8 16 152 n
fits (AsciiEnded sign) = true

-- the least and the greatest number that can be written: all numbers between them can
abbrev pub numbers : Coding → ℤ × ℤ
numbers Default = (bottom, top)
numbers (PosInt n) = (pos 0, pos (2 ^ n) -ℤ pos 1)
numbers (Twos n) = (pos 0 -ℤ pos (2 ^ (n - 1)), pos (2 ^ (n - 1)) -ℤ pos 1)
numbers (Bcd n) = (pos 0, pos (10 ^ (n / 4)) -ℤ pos 1)
numbers BcdEnded = (pos 0, pos (2 ^ 64) -ℤ pos 1)
numbers (Ascii n false) = (pos 0, pos (10 ^ (n / 8)) -ℤ pos 1)
numbers (Ascii n true) = (pos 1 -ℤ pos (10 ^ (n / 8 - 1)), pos (10 ^ (n / 8 - 1)) -ℤ pos 1)
numbers (AsciiEnded false) = (pos 0, pos (2 ^ 64) -ℤ pos 1)
numbers (AsciiEnded true) = (negsuc 9223372036854775807, pos 9223372036854775807)
