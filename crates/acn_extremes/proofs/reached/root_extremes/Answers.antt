use Rattle.std.proofs.Common.{Option, [], false, subst}
use Rattle.std.specs.Prelude.{MatchOption}
use Rattle.acn_grammar.specs.View.{grammar_of}
use Rattle.acn_extreme_laws.specs.Single.{Single}
use Rattle.acn_single.specs.Found.{IsFirstReason}
use Rattle.acn_single.specs.declared.single.Reason.{Reason}
use Rattle.acn_extremes.proofs.Rules.{can_make}
use Rattle.acn_extremes.proofs.Told.{told}
use Rattle.acn_extremes.proofs.reached.root_extremes.Goals as goal

pub best_ends-requires : goal.best_ends-requires
best_ends-requires c =
    let root = grammar_of c.args.root.now in
    can_make root root 0 [] (λ s. false) (c.accepted_is_sound.ensures root c.requires)

pub returns-in_ok-best_ends-in-None-clause-ends : goal.returns-in_ok-best_ends-in-None-clause-ends
returns-in_ok-best_ends-in-None-clause-ends c =
    let root = grammar_of c.args.root.now in
    let single = subst (λ (o : Option Reason). MatchOption o (Single root) (IsFirstReason root)) c.in-None.is c.in_ok-reason.ensures in
    told root c.requires single c.best_is_extreme.ensures c.best_is_written.ensures c.no_best_is_refused.ensures c.in_ok-best_ends-in-None.field-0 c.in_ok-best_ends-in-None.ensures
