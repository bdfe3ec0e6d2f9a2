-- A `size` or an order of octets that a type can't have. (These rules are this profile's own.)
use Rattle.std.specs.Prelude.{ℕ, ◌%◌, nat_eq, nat_le, Bool, true, false, not, ◌&&◌, ◌||◌, Option, Some, None, is_some, pos}
use Rattle.acn_num.specs.Ranges.{Ranges, has}
use Rattle.acn_num.specs.declared.limits.TheConstants.{MOST_SIZE}
use Rattle.acn_acn_syntax.specs.declared.modules.SizeAttr.{SizeAttr}
use Rattle.acn_acn_syntax.specs.declared.modules.SizeAttr.TheVariants as size
use Rattle.acn_index.specs.World.{World}
use Rattle.acn_codings.specs.Codings.{fits}
use Rattle.acn_codings.specs.declared.coding.Coding.{Coding}
use Rattle.acn_codings.specs.declared.coding.Coding.TheVariants.{PosInt, Twos}
use Rattle.acn_reasons.specs.Classes.{class_of, is_sized, size_attr, encoding_attr}
use Rattle.acn_sites.specs.Sites.{Site}
use Rattle.acn_written.specs.Numbers.{Numbers, numbers_at}
use Rattle.acn_written.specs.Says.{is_little}
use Rattle.acn_written.specs.Sizes.{written_sizes}

-- ---- BadSize

-- the width is one that the coding has, and a number with an encoding has a size
abbrev pub number_size_fits : Site → Numbers → Bool
number_size_fits s n = fits n.coding && (is_some (size_attr s) || not (is_some (encoding_attr s)))

abbrev pub permits : Option Ranges → ℕ → Bool
permits None n = true
permits (Some sizes) n = has sizes (pos n)

-- the one size is within the limit, and one that a written SIZE permits
abbrev pub one_size_fits : Option Ranges → Option SizeAttr → Bool
one_size_fits written (Some (size.Number n)) = nat_le n MOST_SIZE && permits written n
one_size_fits written _ = true

abbrev pub size_fits : Site → Option Numbers → Option Ranges → Bool
size_fits s (Some n) written = number_size_fits s n
size_fits s None written = not (is_sized (class_of s)) || one_size_fits written (size_attr s)

unfoldable pub bad_size : World → Site → Bool
bad_size w s = not (size_fits s (numbers_at w s) (written_sizes w s))

-- ---- EndianSize

-- a fixed count of whole octets that spell the number in base 2
abbrev pub is_whole_octets : Coding → Bool
is_whole_octets (PosInt n) = nat_eq (n % 8) 0
is_whole_octets (Twos n) = nat_eq (n % 8) 0
is_whole_octets _ = false

abbrev pub little_fits : Option Numbers → Bool
little_fits None = true
little_fits (Some n) = is_whole_octets n.coding

unfoldable pub bad_endianness : World → Site → Bool
bad_endianness w s = is_little s && not (little_fits (numbers_at w s))
