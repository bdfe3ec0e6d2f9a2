-- What keeps a grammar from being single, as it is answered.
use Rattle.acn_grammar.specs.Grammar.{Grammar}
use Rattle.acn_extreme_laws.specs.Single.{FirstUnsingle}
use Rattle.acn_single.specs.declared.single.Reason.{Reason}

-- it is the least reason, at the first node that shows it
abbrev pub IsFirstReason : Grammar → Reason → Type 0
IsFirstReason root r = FirstUnsingle root r.at r.why
