use Rattle.std.proofs.Common.{sym, ap, ◌∙◌, arith}
use Rattle.acn_grammar.proofs.Characters.{same_name-is}
use Rattle.acn_lines.proofs.CalledLaw.{alternative_named, number_called, number_among}
use Rattle.acn_lines.proofs.places.alternative_called.Goals as goal

pub returns-then-is_empty-clause-within : goal.returns-then-is_empty-clause-within
returns-then-is_empty-clause-within c = number_among c.args.name.now c.args.alternatives.now c.alternative_named.result c.alternative_named.ensures

pub returns-then-is_empty-clause-named : goal.returns-then-is_empty-clause-named
returns-then-is_empty-clause-named c = number_called c.args.name.now c.args.alternatives.now c.alternative_named.result c.alternative_named.ensures

pub returns-then-is_same-clause-named : goal.returns-then-is_same-clause-named
returns-then-is_same-clause-named c =
    alternative_named c.args.alternatives.now c.in_ok-at.at c.index-alternatives-at.result (omega arith) c.index-alternatives-at.is
    ∙ (ap (λ a. a.name) c.index-alternatives-at.is ∙ (sym c.bytes.ensures ∙ same_name-is _ _ (sym c.is_same.ensures ∙ c.if-is_same.true)))
