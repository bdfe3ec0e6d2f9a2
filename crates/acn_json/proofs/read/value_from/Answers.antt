use Rattle.std.proofs.Common.{length, sym, subst}
use Rattle.acn_grammar.specs.View.{grammar_of}
use Rattle.acn_json.specs.Few.{CanRead}
use Rattle.acn_json.proofs.CanReadLaw.{can_read}
use Rattle.acn_json.proofs.read.value_from.Goals as goal

pub node_from-requires-clause-can : goal.node_from-requires-clause-can
node_from-requires-clause-can c =
    let g = grammar_of c.root.result.now in
    subst (λ p. CanRead (length p) g) (sym c.new-path.ensures) (can_read g c.root.ensures.formed)
