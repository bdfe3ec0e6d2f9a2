use Rattle.std.proofs.Common.{sym, ap, subst, ◌∙◌}
use Rattle.acn_grammar.specs.View.{field_of}
use Rattle.acn_grammar.proofs.Views.{view_component}
use Rattle.acn_lines.specs.Filled.{IsFieldRead}
use Rattle.acn_printed.specs.Read.{IsNumberRead}
use Rattle.acn_lines.proofs.read.is_integer.Goals as goal

pub returns-in-Integer : goal.returns-in-Integer
returns-in-Integer c = λ t d old new h.
    let f = c.in-Component in
    let is = ap field_of f.is ∙ view_component f.name f.node f.presence f.default f.slot in
    let leaf = c.in-Some.leaf.now in
    let number = subst (λ k. IsNumberRead k leaf.items.items d old new) (sym c.in-Integer.is) (h leaf.items.items) in
    subst (λ x. IsFieldRead x d old new) (sym is) (c.in-Some.ensures d old new number)
