-- What is said of an older type and a newer one. (This program's own.)
use Rattle.std.specs.Prelude.{◌≡◌, ℕ, List}
use Rattle.acn_compare.specs.Accepts.{Accepts, FirstDifference}
use Rattle.acn_compare.specs.Laws.{ReadsAlike}
use Rattle.acn_compare.specs.Texts.{answer_line}
use Rattle.acn_compare.specs.declared.answer.Answer.{Answer}
use Rattle.acn_compare.specs.declared.answer.Answer.TheVariants.{Yes, No}
use Rattle.acn_grammar.specs.Grammar.{Grammar}
use Rattle.acn_grammar.specs.View.{grammar_of}
use Rattle.acn_tree.specs.declared.tree.Tree.{Tree}

-- Yes: the newer grammar accepts the older, so each of its packets is read as the same value, with the same line. No: this difference comes first.
abbrev pub IsAnswer : Grammar → Grammar → Answer → Type 0
IsAnswer old new Yes = Accepts old new × ReadsAlike old new
IsAnswer old new (No at reason number) = FirstDifference old new at reason number

-- the line of such an answer
abbrev pub IsAnswerLine : Tree → Tree → List ℕ → Type 0
IsAnswerLine old new text = (answer : Answer) × IsAnswer (grammar_of old.root) (grammar_of new.root) answer × (text ≡ answer_line old answer)
