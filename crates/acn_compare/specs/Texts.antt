-- The line of an answer. (This program's own.)
use Rattle.std.specs.Prelude.{ℕ, ℤ, List, [], ◌∷◌, Option, Some, None, codes}
use Rattle.std.specs.Fmt.{signed_decimal}
use Rattle.std.specs.List.{concat}
use Rattle.acn_report.specs.Names.{path_text}
use Rattle.acn_tree.specs.declared.tree.Tree.{Tree}
use Rattle.acn_compare.specs.declared.answer.Answer.{Answer}
use Rattle.acn_compare.specs.declared.answer.Answer.TheVariants.{Yes, No}
use Rattle.acn_compare.specs.declared.answer.Reason.{Reason}
use Rattle.acn_compare.specs.declared.answer.Reason.TheVariants as because

-- a reason by its name
abbrev pub reason_word : Reason → List ℕ
reason_word because.Kind = codes "Kind"
reason_word because.Align = codes "Align"
reason_word because.Coding = codes "Coding"
reason_word because.Values = codes "Values"
reason_word because.Names = codes "Names"
reason_word because.Fields = codes "Fields"
reason_word because.Presence = codes "Presence"
reason_word because.Determinant = codes "Determinant"
reason_word because.Alternatives = codes "Alternatives"

-- the node's path in the older tree, and the reason, with the number that is kept
abbrev pub no_line : Tree → (at : List ℕ) → Reason → (number : Option ℤ) → List ℕ
no_line old at reason None = concat (codes "no " ∷ path_text old at ∷ codes " " ∷ reason_word reason ∷ codes "\n" ∷ [])
no_line old at reason (Some x) = concat (codes "no " ∷ path_text old at ∷ codes " " ∷ reason_word reason ∷ codes " " ∷ signed_decimal x ∷ codes "\n" ∷ [])

abbrev pub answer_line : Tree → Answer → List ℕ
answer_line old Yes = codes "yes\n"
answer_line old (No at reason number) = no_line old at reason number
