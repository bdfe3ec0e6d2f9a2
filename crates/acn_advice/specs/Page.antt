-- Pages, and what printing one does to an output. (This program's own.)
use Rattle.std.specs.Prelude.{ℕ, suc, ◌==◌, ◌≤◌, List, [], ◌∷◌, if◌then◌else◌, Option}
use Rattle.acn_outside.specs.Whole.{GainsFront}
use Rattle.acn_advice.specs.declared.page.TheConstants.{MOST_LINES}

-- what a page took, and how often it could take nothing more
pub record Written : Type 0 where
  pub text : List ℕ
  pub faults : ℕ

-- how many line feeds there are
abbrev pub feeds : List ℕ → ℕ
feeds [] = 0
feeds (b ∷ rest) = if b == 10 then suc (feeds rest) else feeds rest

-- an output gained at most `MOST_LINES` lines, or a front of them
abbrev pub AddsLines : Option (List ℕ) → Option (List ℕ) → Type 0
AddsLines before after = (text : List ℕ) × (feeds text ≤ MOST_LINES) × GainsFront before after text
