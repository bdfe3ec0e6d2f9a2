use Rattle.std.proofs.Common.{◌≤◌, sym, ap, ◌∙◌, subst}
use Rattle.acn_grammar.specs.Interval.{span}
use Rattle.acn_grammar.specs.View.{grammar_of}
use Rattle.acn_grammar.specs.declared.bounds.Bounds.{Bounds}
use Rattle.acn_grammar.specs.declared.limits.TheConstants.{MOST_PACKET_BITS}
use Rattle.acn_tree.specs.declared.tree.Tree.{Tree}
use Rattle.acn_bounds.specs.Between.{SpellingsLieBetween}
use Rattle.acn_bounds.proofs.Lying.{short, spellings_lie}
use Rattle.acn_bounds.proofs.interval.bounds.Goals as goal

pub returns-clause-exact : goal.returns-clause-exact
returns-clause-exact c = c.interval.ensures ∙ ap (λ (t : Tree). span (grammar_of t.root)) c.tree.ensures.same

pub returns-clause-between : goal.returns-clause-between
returns-clause-between c =
    let lie = spellings_lie (grammar_of c.tree.result.now.root) c.tree.ensures.accepted c.no_fault_without_a_first.ensures c.bounds_hold.ensures in
    subst (λ (t : Tree). SpellingsLieBetween (grammar_of t.root) c.interval.result) c.tree.ensures.same (subst (SpellingsLieBetween (grammar_of c.tree.result.now.root)) (sym c.interval.ensures) lie)

pub returns-clause-short : goal.returns-clause-short
returns-clause-short c =
    subst (λ (b : Bounds). b.greatest ≤ MOST_PACKET_BITS) (sym c.interval.ensures) (short (grammar_of c.tree.result.now.root) c.tree.ensures.accepted c.no_fault_without_a_first.ensures)
