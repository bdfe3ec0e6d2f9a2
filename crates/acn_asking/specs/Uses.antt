-- Uses of slots that are at home round a place, beside those of conditions and sizes. (This profile's own.)
use Rattle.std.specs.Prelude.{◌≡◌, ℕ, true, List, Option, Some, None}
use Rattle.acn_grammar.specs.Scoped.{Known, TestsIn}
use Rattle.acn_grammar.specs.declared.node.ChoiceRule.{ChoiceRule}
use Rattle.acn_grammar.specs.declared.node.ChoiceRule.TheVariants.{Item}
use Rattle.acn_grammar.specs.declared.node.Test.{Test}

-- the slot whose number a component says is one of these
abbrev pub OwnIn : Known → Option ℕ → Type 0
OwnIn ks None = Unit {0}
OwnIn ks (Some s) = ks s ≡ true

-- so are those that choose an alternative
abbrev pub CaseIn : Known → ChoiceRule → List Test → Type 0
CaseIn ks (Item s) tests = ks s ≡ true
CaseIn ks _ tests = TestsIn ks tests
