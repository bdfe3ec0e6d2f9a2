use Rattle.std.proofs.Common.{[], ap, sym, ◌∙◌}
use Rattle.acn_grammar.specs.View.{grammar_of}
use Rattle.acn_grammar.specs.declared.node.Node.{Node}
use Rattle.acn_report.specs.Walks.{path_in}
use Rattle.acn_report.proofs.Rooms.{walkable}
use Rattle.acn_report.proofs.SlotLaw.{slot_found}
use Rattle.acn_report.proofs.slots.slot_path.Goals as goal

pub in_node-requires : goal.in_node-requires
in_node-requires c = rw c.new.ensures (walkable (grammar_of c.root.result.now) c.root.ensures.formed)

pub returns : goal.returns
returns c =
    c.in_node.ensures
    ∙ (ap (λ p. path_in p (grammar_of c.root.result.now) c.args.slot) c.new.ensures
    ∙ (ap (λ (n : Node). path_in [] (grammar_of n) c.args.slot) c.root.ensures.same
    ∙ sym (slot_found (grammar_of c.args.tree.now.root) c.args.slot)))
