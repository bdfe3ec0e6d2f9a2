use Rattle.std.proofs.Common.{Some, sym, ap, ◌∙◌, subst}
use Rattle.std.specs.Prelude.{option_map}
use Rattle.acn_grammar.specs.Interval.{span}
use Rattle.acn_grammar.specs.Paths.{node_at}
use Rattle.acn_grammar.specs.View.{grammar_of}
use Rattle.acn_tree.specs.declared.tree.Tree.{Tree}
use Rattle.acn_bounds.specs.Between.{NodeLiesBetween}
use Rattle.acn_bounds.proofs.Lying.{found_lies}
use Rattle.acn_bounds.proofs.interval.bounds_at.Goals as goal

pub returns-in-Some-clause-exact : goal.returns-in-Some-clause-exact
returns-in-Some-clause-exact c =
    ap Some c.node_interval.ensures ∙ (ap (option_map span) c.in-Some.ensures.node ∙ ap (λ (t : Tree). option_map span (node_at (grammar_of t.root) c.args.path.now)) c.tree.ensures.same)

pub returns-in-Some-clause-between : goal.returns-in-Some-clause-between
returns-in-Some-clause-between c =
    let root = grammar_of c.tree.result.now.root in
    let lie = found_lies root c.tree.ensures.accepted c.each_length_is_told.ensures c.each_path_has_its_number.ensures c.values_lie_within_bounds.ensures c.args.path.now (Some (grammar_of c.in-Some.node.now)) c.in-Some.ensures.node in
    subst (λ (t : Tree). NodeLiesBetween (grammar_of t.root) c.args.path.now c.node_interval.result) c.tree.ensures.same (subst (NodeLiesBetween root c.args.path.now) (sym c.node_interval.ensures) lie)

pub returns-in-None-clause-exact : goal.returns-in-None-clause-exact
returns-in-None-clause-exact c =
    ap (option_map span) c.in-None.ensures.node ∙ ap (λ (t : Tree). option_map span (node_at (grammar_of t.root) c.args.path.now)) c.tree.ensures.same
