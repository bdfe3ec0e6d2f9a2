-- Mapping tables: a line `A..B = C` maps A + i to C + i, and `A = C` is `A..A = C`. (This profile's own.)
use Rattle.std.specs.Prelude.{if◌then◌else◌, List, [], ◌∷◌, map, Option, Some, None, option_map, ℤ, ◌+ℤ◌, ◌-ℤ◌}
use Rattle.std.specs.Int.{int_max, int_min}
use Rattle.acn_num.specs.Ranges.{Ranges, meet, union, some_range, least}
use Rattle.acn_num.specs.Unions.{unions}
use Rattle.acn_acn_syntax.specs.declared.maps.MapLine.{MapLine}
use Rattle.acn_acn_syntax.specs.declared.maps.Signed.{Signed}
use Rattle.acn_grammar.specs.Leaves.{line_fine}
use Rattle.acn_set_elements.specs.Written.{signed}

-- ---- lines

-- the first key, the last key and the image of the first
abbrev pub Line : Type 0
Line = ℤ × ℤ × ℤ

abbrev pub number_of : Signed → ℤ
number_of s = signed s.negative s.n

abbrev pub last_or : ℤ → Option Signed → ℤ
last_or first None = first
last_or first (Some s) = number_of s

abbrev pub line_of : MapLine → Line
line_of l = (number_of l.first, last_or (number_of l.first) l.last, number_of l.image)

-- the image of the last key
abbrev pub last_image : Line → ℤ
last_image l = l.2 +ℤ (l.1 -ℤ l.0)

abbrev pub keys : Line → Ranges
keys l = some_range l.0 l.1

abbrev pub images : Line → Ranges
images l = some_range l.2 (last_image l)

-- ---- a table is one to one: a line that isn't turned round and whose keys and images are numbers has others than the lines before it

abbrev pub lesser : Option ℤ → Option ℤ → Option ℤ
lesser None b = b
lesser (Some x) None = Some x
lesser (Some x) (Some y) = Some (int_min x y)

-- the least key that an earlier line gives, or whose image it gives
abbrev pub taken : (keys_before images_before : Ranges) → Line → Option ℤ
taken keys_before images_before l = lesser (least (meet (keys l) keys_before)) (option_map (λ x. l.0 +ℤ (x -ℤ l.2)) (least (meet (images l) images_before)))

-- the key of a line at which a table is at fault, behind lines that give keys and images
abbrev pub line_fault : (keys_before images_before : Ranges) → Line → Option ℤ
line_fault keys_before images_before l = if line_fine l then taken keys_before images_before l else Some l.0

-- the first fault
abbrev pub or_else : Option ℤ → Option ℤ → Option ℤ
or_else None b = b
or_else (Some x) b = Some x

abbrev pub fault_behind : (keys_before images_before : Ranges) → List Line → Option ℤ
fault_behind keys_before images_before [] = None
fault_behind keys_before images_before (l ∷ ls) = or_else (line_fault keys_before images_before l) (fault_behind (union keys_before (keys l)) (union images_before (images l)) ls)

-- the first key at which the table is at fault
unfoldable pub table_fault : List MapLine → Option ℤ
table_fault ls = fault_behind [] [] (map line_of ls)

-- ---- the keys whose images can be written

-- those of a line, where the numbers from low to high can be written
abbrev pub keys_between : (low high : ℤ) → Line → Ranges
keys_between low high l = some_range (int_max l.0 (l.0 +ℤ (low -ℤ l.2))) (int_min l.1 (l.0 +ℤ (high -ℤ l.2)))

-- a line at fault has none
abbrev pub line_keys : (low high : ℤ) → Line → Ranges
line_keys low high l = if line_fine l then keys_between low high l else []

unfoldable pub keys_to : (low high : ℤ) → List MapLine → Ranges
keys_to low high ls = unions [] (map (λ l. line_keys low high (line_of l)) ls)
