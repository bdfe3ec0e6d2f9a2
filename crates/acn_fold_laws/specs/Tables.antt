-- Laws on mapping tables. (This profile's own.)
use Rattle.std.specs.Prelude.{◌≡◌, ◌↔◌, ◌≤◌, int_le, Bool, true, false, ◌&&◌, ◌||◌, ℤ, ◌+ℤ◌, ◌-ℤ◌, List, ◌∷◌, ◌++◌, map, filter, length, Some, None}
use Rattle.std.specs.List.{list_all, list_any}
use Rattle.acn_acn_syntax.specs.declared.maps.MapLine.{MapLine}
use Rattle.acn_codings.specs.Tables.{Line, line_of, last_image, table_fault, keys_to}
use Rattle.acn_grammar.specs.Leaves.{line_fine}
use Rattle.acn_num.specs.Ranges.{has}
use Rattle.acn_fold_laws.specs.Ends.{IsLeastThat}

-- ---- keys and images

abbrev pub has_key : ℤ → Line → Bool
has_key x l = int_le l.0 x && int_le x l.1

abbrev pub has_image : ℤ → Line → Bool
has_image y l = int_le l.2 y && int_le y (last_image l)

-- the image of a key of a line
abbrev pub image_of : Line → ℤ → ℤ
image_of l x = l.2 +ℤ (x -ℤ l.0)

-- no line is turned round or leaves the numbers, and no number is a key of two lines, or an image of two
pub record IsOneToOne (ls : List Line) : Type 0 where
  pub fine : list_all line_fine ls ≡ true
  pub keys : (x : ℤ) → length (filter (has_key x) ls) ≤ 1
  pub images : (y : ℤ) → length (filter (has_image y) ls) ≤ 1

abbrev pub TablesWithoutFaultAreOneToOne : Type 0
TablesWithoutFaultAreOneToOne = (ls : List MapLine) → (table_fault ls ≡ None) ↔ IsOneToOne (map line_of ls)

-- ---- the first fault

-- a key that a line in front has, or whose image one has
abbrev pub is_taken : (front : List Line) → Line → ℤ → Bool
is_taken front l x = list_any (has_key x) front || list_any (has_image (image_of l x)) front

-- the first key of a line that is turned round or leaves the numbers, else the least of its keys that is taken
abbrev pub IsFaultOf : (fine : Bool) → (front : List Line) → Line → ℤ → Type 0
IsFaultOf false front l x = x ≡ l.0
IsFaultOf true front l x = IsLeastThat (λ k. has_key k l && is_taken front l k) x

-- the fault of the first line that isn't one to one with those in front
pub record IsFirstFault (ls : List Line) (x : ℤ) : Type 0 where
  pub front : List Line
  pub line : Line
  pub behind : List Line
  pub there : ls ≡ front ++ line ∷ behind
  pub before : IsOneToOne front
  pub fault : IsFaultOf (line_fine line) front line x

abbrev pub FaultOfATableIsTheFirst : Type 0
FaultOfATableIsTheFirst = (ls : List MapLine) (x : ℤ) → table_fault ls ≡ Some x → IsFirstFault (map line_of ls) x

-- ---- the keys whose images can be written

-- a key of a line that isn't at fault, whose image lies from one number to another
abbrev pub maps_between : (low high x : ℤ) → Line → Bool
maps_between low high x l = line_fine l && (has_key x l && (int_le low (image_of l x) && int_le (image_of l x) high))

abbrev pub KeysToLeadBetween : Type 0
KeysToLeadBetween = (low high : ℤ) (ls : List MapLine) (x : ℤ) → has (keys_to low high ls) x ≡ list_any (maps_between low high x) (map line_of ls)
