-- Numbers that are drawn from a set in order, each once.
use Rattle.std.specs.Prelude.{List, [], ◌∷◌, ◌++◌, if◌then◌else◌, ℤ, pos, ◌+ℤ◌, int_lt, Option, Some, None}
use Rattle.std.specs.Option.{option_to_list}
use Rattle.acn_asn_syntax.specs.declared.types.Item.{Item}
use Rattle.acn_num.specs.Ranges.{Ranges}
use Rattle.acn_codings.specs.Items.{written}
use Rattle.acn_codings.specs.declared.drawing.Undrawn.{Undrawn}

-- the range that was begun, and those behind it
abbrev pub undrawn_view : Undrawn → Ranges
undrawn_view u = option_to_list u.begun ++ u.behind.now

-- what a range leaves behind its first number
abbrev pub left_of_range : ℤ × ℤ → Ranges
left_of_range r = if int_lt r.0 r.1 then (r.0 +ℤ pos 1, r.1) ∷ [] else []

-- the least number, or 0 where there is none, and what is left then
abbrev pub drawn : Ranges → ℤ
drawn [] = pos 0
drawn (r ∷ rest) = r.0

abbrev pub left : Ranges → Ranges
left [] = []
left (r ∷ rest) = left_of_range r ++ rest

abbrev pub number_drawn : Ranges → Option ℤ → ℤ
number_drawn unused None = drawn unused
number_drawn unused (Some x) = x

abbrev pub left_behind : Ranges → Option ℤ → Ranges
left_behind unused None = left unused
left_behind unused (Some x) = unused

-- the number of each item, where those without one draw theirs
abbrev pub numbers_drawn : Ranges → List Item → List ℤ
numbers_drawn unused [] = []
numbers_drawn unused (i ∷ is) = number_drawn unused (written i) ∷ numbers_drawn (left_behind unused (written i)) is
