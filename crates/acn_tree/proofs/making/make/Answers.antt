use Rattle.std.proofs.Common.{subst, sym, ap, ◌∙◌}
use Rattle.acn_grammar.specs.ItemsNamed.{ItemsNamed}
use Rattle.acn_tree.specs.Made.{made}
use Rattle.acn_tree.specs.MadeMeets.{MeetsButForEnds}
use Rattle.acn_grammar.specs.View.{grammar_of}
use Rattle.acn_tree.proofs.CanDrawLaw.{tree_can_draw}
use Rattle.acn_tree.proofs.MadeMeets.{made_meets}
use Rattle.acn_tree.proofs.making.make.Goals as goal

pub make_node-requires : goal.make_node-requires
make_node-requires c = record {
  can = tree_can_draw (grammar_of c.root.result.now) c.root.ensures.formed;
  named = subst (λ n. ItemsNamed (grammar_of n)) (sym c.root.ensures.same) c.requires;
}

pub returns-clause-meets : goal.returns-clause-meets
returns-clause-meets c =
    let root = grammar_of c.args.tree.now.root in
    let is = c.in_ok-value.ensures.value ∙ ap (λ n. (made (grammar_of n) c.copy-next.result).value) c.root.ensures.same in
    subst (MeetsButForEnds root) (sym is) (made_meets root c.copy-next.result c.args.tree.now.formed)
