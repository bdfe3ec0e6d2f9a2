use Rattle.std.proofs.Common.{[], refl}
use Rattle.acn_grammar.specs.View.{grammar_of}
use Rattle.acn_tree.proofs.tree.Tree.root.Goals as goal

pub returns-clause-part : goal.returns-clause-part
returns-clause-part c = record { root = grammar_of c.args.self.now.root; path = []; formed = c.args.self.now.formed; leads = refl }
