-- What is kept of holes that are to be filled. (This profile's own.)
use Rattle.std.specs.Prelude.{◌≤◌, true, false, Bool, List, Option, Some, None}
use Rattle.std.specs.List.{AllByRecursion}
use Rattle.acn_bits.specs.Overwrite.{Gap}
use Rattle.acn_bits.specs.declared.word.TheConstants.{WORD_BITS}
use Rattle.acn_bits.specs.declared.write_cursor.Kept.{Kept}

-- the place that is to be filled, where there is one
abbrev pub gap_if : Bool → Gap → Option Gap
gap_if true gap = Some gap
gap_if false gap = None

abbrev pub kept_gap : Kept → Option Gap
kept_gap k = gap_if k.hole (record { place = k.place; width = k.width })

-- no hole is wider than a word
abbrev pub AreNarrow : List Kept → Type 0
AreNarrow ks = AllByRecursion (λ k. k.width ≤ WORD_BITS) ks
