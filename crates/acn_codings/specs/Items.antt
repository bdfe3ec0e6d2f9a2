-- The numbers of an enumeration's items (X.680, 20.1 to 20.3): those without a number take, in the order of the text, the least whole numbers from 0 that
-- no item has written.
use Rattle.std.specs.Prelude.{ℕ, suc, List, [], ◌∷◌, map, Option, Some, None, option_map, ℤ, pos}
use Rattle.std.specs.Int.{int_max}
use Rattle.acn_asn_syntax.specs.declared.types.Item.{Item}
use Rattle.acn_num.specs.Ranges.{Ranges, except, nth, some_range, top}
use Rattle.acn_num.specs.Unions.{unions}
use Rattle.acn_set_elements.specs.Written.{signed}

-- the number that an item has written
abbrev pub written : Item → Option ℤ
written i = option_map (λ p. signed p.0 p.1) i.number

-- that number alone, where it is one from 0
abbrev pub alone : Option ℤ → Ranges
alone None = []
alone (Some x) = some_range (int_max (pos 0) x) x

-- the whole numbers from 0 that no item has written
unfoldable pub free : List Item → Ranges
free items = except ((pos 0, top) ∷ []) (unions [] (map (λ i. alone (written i)) items))

abbrev pub or_zero : Option ℤ → ℤ
or_zero None = pos 0
or_zero (Some x) = x

-- the number of an item behind k others that have none written, and how many have none then
abbrev pub number_at : Ranges → ℕ → Option ℤ → ℤ
number_at unused k None = or_zero (nth unused k)
number_at unused k (Some x) = x

abbrev pub without_at : ℕ → Option ℤ → ℕ
without_at k None = suc k
without_at k (Some x) = k

abbrev pub numbers_behind : Ranges → ℕ → List Item → List ℤ
numbers_behind unused k [] = []
numbers_behind unused k (i ∷ is) = number_at unused k (written i) ∷ numbers_behind unused (without_at k (written i)) is

-- the number of each item
unfoldable pub numbers_of : List Item → List ℤ
numbers_of items = numbers_behind (free items) 0 items
