use Rattle.std.proofs.Common.{◌≡◌, [], Ok, ap, subst, ◌∙◌}
use Rattle.json.specs.Lex.{tokens}
use Rattle.acn_grammar.specs.View.{grammar_of, data_of}
use Rattle.acn_grammar.specs.declared.node.Node.{Node}
use Rattle.acn_json.specs.Reads.{line_gives}
use Rattle.acn_lines.specs.Taken.{IsTaken}
use Rattle.acn_lines.proofs.NamesLaw.{names_differ}
use Rattle.acn_lines.proofs.TakenLaw.{line_taken}
use Rattle.acn_lines.proofs.take.take_line.Goals as goal

pub take_node-requires-clause-names : goal.take_node-requires-clause-names
take_node-requires-clause-names c = names_differ (grammar_of c.root.result.now) c.root.ensures.formed

pub returns-in-None : goal.returns-in-None
returns-in-None c =
    let g = grammar_of c.root.result.now in
    let v = data_of c.in_ok-value.value in
    let line = c.args.line.now in
    let text = c.in-Ok.ensures.cases in
    let old = c.in-Ok-new.ensures.ok ∙ ap tokens text.0 in
    let end = (c.in-None.ensures {u = tt}).value.0 in
    let taken = subst (λ ts. IsTaken g v ts []) old (subst (λ ts. IsTaken g v c.in-Ok-new.reader ts) end (c.in_ok-value.ensures {u = tt})) in
    subst (λ (n : Node). Ok v ≡ line_gives (grammar_of n) line) c.root.ensures.same (line_taken g v line c.root.ensures.formed text.1 taken)
