-- What is said of the shortest and the longest packet of a type. (This program's own.)
use Rattle.std.specs.Prelude.{◌≡◌, ℕ, List, [], ◌∷◌, Option, Some, None, codes}
use Rattle.std.specs.Fmt.{decimal}
use Rattle.std.specs.List.{concat}
use Rattle.acn_extreme_laws.specs.Single.{Single, rank}
use Rattle.acn_extreme_laws.specs.declared.why.Why.{Why}
use Rattle.acn_extremes.specs.Extreme.{AreEnds, EachIsRefused}
use Rattle.acn_extremes.specs.declared.answer.Ends.{Ends}
use Rattle.acn_grammar.specs.Grammar.{Grammar}
use Rattle.acn_grammar.specs.View.{data_of, grammar_of}
use Rattle.acn_json.specs.Lines.{line_of}
use Rattle.acn_report.specs.Names.{path_text}
use Rattle.acn_tree.specs.declared.tree.Tree.{Tree}

-- None: no value can be written. Some: two values are written in as many bits as is said, and none in fewer or more.
abbrev pub AreExtremes : Grammar → Option Ends → Type 0
AreExtremes root None = EachIsRefused root
AreExtremes root (Some ends) = AreEnds root ends

-- `least N JSON` and `greatest N JSON`, each in a line, or `none`
abbrev pub extremes_text : Grammar → Option Ends → List ℕ
extremes_text root None = codes "none\n"
extremes_text root (Some ends) =
    concat (codes "least " ∷ decimal ends.least ∷ codes " " ∷ line_of root (data_of ends.least_value) ∷ codes "\ngreatest " ∷ decimal ends.greatest ∷ codes " " ∷ line_of root (data_of ends.greatest_value) ∷ codes "\n" ∷ [])

-- the text of such an answer, of a grammar whose packets can be put together part by part
pub record IsExtremesText (tree : Tree) (text : List ℕ) : Type 0 where
  pub single : Single (grammar_of tree.root)
  pub found : Option Ends
  pub are : AreExtremes (grammar_of tree.root) found
  pub is : text ≡ extremes_text (grammar_of tree.root) found

-- what keeps packets from being put together so, with its number
abbrev pub unsingle_line : Tree → (at : List ℕ) → Why → List ℕ
unsingle_line tree at why = concat (codes "acn: " ∷ path_text tree at ∷ codes ": NotSingle " ∷ decimal (rank why) ∷ codes "\n" ∷ [])
