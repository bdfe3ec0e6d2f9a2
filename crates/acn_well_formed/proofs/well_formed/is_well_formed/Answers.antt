use Rattle.std.proofs.Common.{sym, ◌∙◌}
use Rattle.acn_grammar.specs.View.{grammar_of}
use Rattle.acn_well_formed.proofs.HeldRuns.{held_tree}
use Rattle.acn_well_formed.proofs.WellFormed.{none_case, few_slots, not_kept, decided}
use Rattle.acn_well_formed.proofs.well_formed.is_well_formed.Goals as goal

pub returns-in-None : goal.returns-in-None
returns-in-None c = none_case (grammar_of c.args.root.now) (sym c.count_node.ensures ∙ c.in-None.is)

pub slots_kept-requires : goal.slots_kept-requires
slots_kept-requires c = few_slots (grammar_of c.args.root.now) c.in-Some.end (sym c.count_node.ensures ∙ c.in-Some.is)

pub returns-then-not-node_kept : goal.returns-then-not-node_kept
returns-then-not-node_kept c = sym c.if-not-node_kept.true ∙ not_kept (grammar_of c.args.root.now) c.in-Some.end c.node_kept.result (sym c.count_node.ensures ∙ c.in-Some.is) c.node_kept.ensures c.if-not-node_kept.true

pub returns-then-node_held : goal.returns-then-node_held
returns-then-node_held c = c.if-node_held.true ∙ held_tree (grammar_of c.args.root.now) c.in-Some.end c.node_held.result (sym c.count_node.ensures ∙ c.in-Some.is) (sym c.node_kept.ensures ∙ c.if-not-node_kept.false) c.node_held.ensures c.if-node_held.true

pub returns-else-node_held : goal.returns-else-node_held
returns-else-node_held c = decided (grammar_of c.args.root.now) c.in-Some.end c.slots_kept.result (sym c.count_node.ensures ∙ c.in-Some.is) (sym c.node_kept.ensures ∙ c.if-not-node_kept.false) c.slots_kept.ensures
