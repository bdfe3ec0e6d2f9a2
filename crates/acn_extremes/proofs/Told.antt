-- What the public call says, from what the walk and the pass find.
use Rattle.std.proofs.Common.{Option, Some, None, inl, inr}
use Rattle.std.specs.Prelude.{MatchOption}
use Rattle.acn_grammar.specs.Grammar.{Grammar}
use Rattle.acn_grammar.specs.View.{data_of}
use Rattle.acn_packet_laws.specs.Laws.{IsAccepted}
use Rattle.acn_extreme_laws.specs.Laws.{BestIsExtreme, BestIsWritten, NoBestIsRefused}
use Rattle.acn_extreme_laws.specs.Single.{Single}
use Rattle.acn_extreme_laws.specs.declared.side.Side.TheVariants.{Shortest, Longest}
use Rattle.acn_extremes.specs.Extreme.{AreEnds, EachIsRefused}
use Rattle.acn_extremes.specs.Told.{BestEnds}
use Rattle.acn_extremes.specs.declared.answer.Ends.{Ends}

pub told : (root : Grammar) → IsAccepted root → Single root → BestIsExtreme → BestIsWritten → NoBestIsRefused → (o : Option Ends) → BestEnds root o → MatchOption o (EachIsRefused root) (AreEnds root)
told root accepted single extreme written refused None (inl none) = refused root Shortest accepted none
told root accepted single extreme written refused None (inr none) = refused root Longest accepted none
told root accepted single extreme written refused (Some e) both = record {
  shortest = written root Shortest accepted single (e.least, data_of e.least_value) both.0;
  longest = written root Longest accepted single (e.greatest, data_of e.greatest_value) both.1;
  between = λ mode d bs spelled.
      let two = extreme root mode d bs accepted spelled in
      (two.0 (e.least, data_of e.least_value) both.0, two.1 (e.greatest, data_of e.greatest_value) both.1);
}
