-- What the clauses of a comparison say, from what its answer says.
use Rattle.std.specs.Prelude.{◌≡◌, ℕ, ℤ, List, Option, Result, Ok, IfOk}
use Rattle.std.proofs.Common.{subst}
use Rattle.acn_num.specs.declared.memory.NoMemory.{NoMemory}
use Rattle.acn_grammar.specs.Code.{Any}
use Rattle.acn_grammar.specs.Grammar.{Grammar}
use Rattle.acn_grammar.specs.View.{grammar_of}
use Rattle.acn_grammar.specs.declared.node.Node.{Node}
use Rattle.acn_tree.specs.declared.tree.Tree.{Tree}
use Rattle.acn_packet_laws.specs.Laws.{IsAccepted, SpelledValuesMeet}
use Rattle.acn_compare.specs.Accepts.{Accepts, FirstDifference}
use Rattle.acn_compare.specs.Judging.{Says}
use Rattle.acn_compare.specs.Laws.{OldPacketsAreRead, LinesAreAlike, ReadsAlike}
use Rattle.acn_compare.specs.declared.answer.Answer.{Answer}
use Rattle.acn_compare.specs.declared.answer.Answer.TheVariants.{Yes, No}
use Rattle.acn_compare.specs.declared.answer.Reason.{Reason}

-- the nodes that are compared are the roots of the trees
pub of_roots : (first second old new : Node) (result : Result Answer NoMemory) → first ≡ old → second ≡ new → IfOk result (Says (grammar_of first) (grammar_of second)) → IfOk result (Says (grammar_of old) (grammar_of new))
of_roots first second old new result e f says = subst (λ (n : Node). IfOk result (Says (grammar_of old) (grammar_of n))) f (subst (λ (n : Node). IfOk result (Says (grammar_of n) (grammar_of second))) e says)

pub says_yes : (old new : Grammar) (result : Result Answer NoMemory) → IfOk result (Says old new) → result ≡ Ok Yes → Accepts old new
says_yes old new result says e = subst (λ r. IfOk r (Says old new)) e says

pub says_no : (old new : Grammar) (result : Result Answer NoMemory) → IfOk result (Says old new) → (at : List ℕ) (reason : Reason) (number : Option ℤ) → result ≡ Ok (No at reason number) → FirstDifference old new at reason number
says_no old new result says at reason number e = subst (λ r. IfOk r (Says old new)) e says

reads_alike : (old new : Grammar) → IsAccepted old → IsAccepted new → OldPacketsAreRead → LinesAreAlike → SpelledValuesMeet → Accepts old new → ReadsAlike old new
reads_alike old new o n packets lines meet accepts input d k front = (packets old new input d k o n accepts front, lines old new d accepts (meet old Any d _ o.formed front.spelled).shaped)

pub says_read : (old new tree tree' : Tree) → tree ≡ old → tree' ≡ new → IsAccepted (grammar_of tree.root) → IsAccepted (grammar_of tree'.root) → OldPacketsAreRead → LinesAreAlike → SpelledValuesMeet → Accepts (grammar_of old.root) (grammar_of new.root)
    → ReadsAlike (grammar_of old.root) (grammar_of new.root)
says_read old new tree tree' e f o n packets lines meet accepts =
    reads_alike (grammar_of old.root) (grammar_of new.root) (subst (λ (t : Tree). IsAccepted (grammar_of t.root)) e o) (subst (λ (t : Tree). IsAccepted (grammar_of t.root)) f n) packets lines meet accepts
