-- What comes of values that are made from a number. (This profile's own.)
use Rattle.std.specs.Prelude.{◌≡◌, ℕ, ◌+◌, Bool, List, [], ◌∷◌, length}
use Rattle.acn_grammar.specs.Front.{IsWritten}
use Rattle.acn_grammar.specs.Grammar.{Grammar, Data}
use Rattle.acn_grammar.specs.Meets.{Unfit}
use Rattle.acn_grammar.specs.Refused.{Refused}
use Rattle.acn_packet_laws.specs.Laws.{IsAccepted}
use Rattle.acn_tree.specs.Made.{values}
use Rattle.acn_work.specs.declared.summary.Summary.{Summary}

-- so many of the values are written and so many refused, and what is written has so many bits
pub data Tallied (g : Grammar) : List Data → (packed refused bits : ℕ) → Type 0 where
  none_made : Tallied g [] 0 0 0
  one_written : {d : Data} {ds : List Data} {packed refused bits : ℕ} → (bs : List Bool) → IsWritten g d bs → Tallied g ds packed refused bits → Tallied g (d ∷ ds) (packed + 1) refused (bits + length bs)
  one_refused : {d : Data} {ds : List Data} {packed refused bits : ℕ} → (unfit : Unfit) → Refused g d unfit → Tallied g ds packed refused bits → Tallied g (d ∷ ds) packed (refused + 1) bits

-- so many values that are made from a number, one after the other
abbrev pub values_made : Grammar → (start count : ℕ) → List Data
values_made g start count = (values g count start).value

-- what came of so many values that are made from a number
pub record IsSummary (g : Grammar) (start count : ℕ) (s : Summary) : Type 0 where
  pub made : s.made ≡ count
  pub tallied : Tallied g (values_made g start count) s.packed s.refused s.bits

-- there is no other
abbrev pub OneSummary : Type 0
OneSummary = (g : Grammar) (start count : ℕ) (s other : Summary) → IsAccepted g → IsSummary g start count s → IsSummary g start count other → other ≡ s
