-- A law on the numbers that items of an enumeration take where they have none written. (X.680, 20.3)
use Rattle.std.specs.Prelude.{◌≡◌, int_le, not, ◌&&◌, ℤ, pos, ◌≤ℤ◌, List, filter_map, Option, Some, None}
use Rattle.std.specs.List.{AllByRecursion}
use Rattle.acn_num.specs.Ranges.{has, among, top}
use Rattle.acn_asn_syntax.specs.declared.types.Item.{Item}
use Rattle.acn_codings.specs.Items.{written, free}

-- no number, or one up to the end of sets
abbrev pub IsWithin : Option ℤ → Type 0
IsWithin None = Unit {0}
IsWithin (Some x) = x ≤ℤ top

-- The free numbers are the whole numbers from 0, up to the end of sets, that no item has written.
abbrev pub FreeNumbersAreUnwritten : Type 0
FreeNumbersAreUnwritten = (items : List Item) (x : ℤ) → AllByRecursion (λ (i : Item). IsWithin (written i)) items
    → has (free items) x ≡ (int_le (pos 0) x && (int_le x top && not (among (filter_map written items) x)))
