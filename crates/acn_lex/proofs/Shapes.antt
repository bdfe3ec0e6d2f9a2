-- What a step is right about.
use Rattle.std.proofs.Common.{◌≡◌, ℕ, ◌<◌, ◌^◌, false, List, [], ◌++◌, length}
use Rattle.acn_lex.specs.declared.Kind.{Kind}
use Rattle.acn_lex.specs.declared.Kind.TheVariants.{Number, Text}
use Rattle.acn_lex.specs.declared.scan.Step.{Step}
use Rattle.acn_lex.specs.declared.scan.Step.TheVariants as step
use Rattle.acn_lex.specs.Number.{is_unwritten}
use Rattle.acn_lex.specs.Bytes.{starts_with}
use Rattle.acn_lex.specs.Lexes.{IsForm, IsGap, IsUnclosed, IsTooWide, spelled}

-- all that a token is but the longest
pub record Shaped (kind : Kind) (text rest : List ℕ) : Type 0 where
  pub form : IsForm kind text
  pub written : kind ≡ Number → is_unwritten text ≡ false
  pub small : kind ≡ Number → spelled 0 text < 2 ^ 64
  pub closed : kind ≡ Text → starts_with 34 rest ≡ false

abbrev pub Found : List ℕ → Step → Type 0
Found bytes step.End = bytes ≡ []
Found bytes (step.Gap k) = (piece rest : List ℕ) × (piece ++ rest ≡ bytes) × (length piece ≡ k) × IsGap piece rest
Found bytes (step.Token kind k) = (text rest : List ℕ) × (text ++ rest ≡ bytes) × (length text ≡ k) × Shaped kind text rest
Found bytes step.BadByte = Unit {0}
Found bytes step.Unclosed = IsUnclosed bytes
Found bytes step.TooWide = IsTooWide bytes
