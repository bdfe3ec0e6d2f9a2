-- The sizes and characters of a string, a list or contained octets. (SIZE and FROM: X.680, 51.5 and 51.7; `size` is ACN's.)
use Rattle.std.specs.Prelude.{[], ◌∷◌, Option, Some, None, Result, Ok, Err, pos}
use Rattle.acn_num.specs.Ranges.{Ranges}
use Rattle.acn_num.specs.declared.limits.TheConstants.{MOST_SIZE}
use Rattle.acn_acn_syntax.specs.declared.modules.SizeAttr.{SizeAttr}
use Rattle.acn_acn_syntax.specs.declared.modules.SizeAttr.TheVariants as size
use Rattle.acn_index.specs.World.{World}
use Rattle.acn_constraint.specs.Constraints.{Fault, size_of, alphabet_of}
use Rattle.acn_reasons.specs.Classes.{size_attr}
use Rattle.acn_sites.specs.Sites.{Site}

abbrev pub if_sized : Result (Option Ranges) Fault → Option Ranges
if_sized (Ok sizes) = sizes
if_sized (Err f) = None

-- the sizes that a written SIZE leaves, where it leaves some
unfoldable pub written_sizes : World → Site → Option Ranges
written_sizes w s = if_sized (size_of w s.chain)

-- Octets that contain a type need no SIZE, and have any size up to the limit without one.
abbrev pub or_all : Option Ranges → Ranges
or_all (Some sizes) = sizes
or_all None = (pos 0, pos MOST_SIZE) ∷ []

-- A number as `size` is the one permitted size.
abbrev pub permitted : Option SizeAttr → Option Ranges → Ranges
permitted (Some (size.Number n)) written = (pos n, pos n) ∷ []
permitted _ written = or_all written

unfoldable pub sizes_at : World → Site → Ranges
sizes_at w s = permitted (size_attr s) (written_sizes w s)

abbrev pub if_characters : Result Ranges Fault → Ranges
if_characters (Ok cs) = cs
if_characters (Err f) = []

-- the characters that constraints leave
unfoldable pub characters_at : World → Site → Ranges
characters_at w s = if_characters (alphabet_of w s.chain)
