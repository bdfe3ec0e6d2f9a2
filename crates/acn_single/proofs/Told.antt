-- What the public call says, from what the pass finds.
use Rattle.std.proofs.Common.{◌≡◌, Option, Some, None, Result, Ok, Err, sym}
use Rattle.std.specs.Prelude.{option_map, IfOk, MatchOption}
use Rattle.acn_grammar.specs.Grammar.{Grammar}
use Rattle.acn_extreme_laws.specs.Facts.{first_unsingle}
use Rattle.acn_extreme_laws.specs.Laws.{PassFindsWhy}
use Rattle.acn_extreme_laws.specs.Single.{Single}
use Rattle.acn_single.specs.Found.{IsFirstReason}
use Rattle.acn_single.specs.Lines.{reason_of}
use Rattle.acn_single.specs.declared.single.Reason.{Reason}

pub told : {E : Type 0} (root : Grammar) → PassFindsWhy root → (r : Result (Option Reason) E) → IfOk r (λ found. option_map reason_of found ≡ first_unsingle root) → IfOk r (λ found. MatchOption found (Single root) (IsFirstReason root))
told root pass (Ok None) is = pass.single (sym is)
told root pass (Ok (Some r)) is = pass.found r.why r.at (sym is)
told root pass (Err e) is = tt
