use Rattle.std.proofs.Common.{◌∙◌, ap, IfOk, subst}
use Rattle.acn_num.specs.Bits.{bits}
use Rattle.acn_grammar.specs.View.{grammar_of}
use Rattle.acn_grammar.specs.declared.node.Node.{Node}
use Rattle.acn_tree.specs.declared.tree.Tree.{Tree}
use Rattle.acn_grammar.specs.View.{data_of}
use Rattle.acn_reads.specs.Answers.{OnlyFront}
use Rattle.acn_plain.proofs.decode.plain_decode.Goals as goal

-- the root is that of the tree which was checked
pub returns-clause-alone : goal.returns-clause-alone
returns-clause-alone c =
    subst (λ (root : Node). IfOk c.read_packet.result (λ pair. OnlyFront (grammar_of root) (bits c.args.bytes.now) (data_of pair.0) pair.1)) (c.root.ensures.same ∙ ap (λ (t : Tree). t.root) c.tree.ensures.same) c.read_packet.ensures.alone
