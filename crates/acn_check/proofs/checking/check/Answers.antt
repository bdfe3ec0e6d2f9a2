use Rattle.acn_grammar.specs.View.{grammar_of}
use Rattle.acn_check.proofs.Promises.{sound, first_told, accepted, lengths}
use Rattle.acn_check.proofs.checking.check.Goals as goal

pub of-requires : goal.of-requires
of-requires c = sound (grammar_of c.args.tree.root) c.args.tree.formed c.widths_are_lengths.ensures c.in-Ok.ensures

pub returns-in-Ok-clause-sound : goal.returns-in-Ok-clause-sound
returns-in-Ok-clause-sound c = accepted (grammar_of c.args.tree.root) c.args.tree.formed c.widths_are_lengths.ensures c.in-Ok.ensures

pub returns-in-Ok-clause-prefix : goal.returns-in-Ok-clause-prefix
returns-in-Ok-clause-prefix c d d' a b r s p q e = c.packets_are_prefix_free.ensures (grammar_of c.args.tree.root) d d' a b r s (accepted (grammar_of c.args.tree.root) c.args.tree.formed c.widths_are_lengths.ensures c.in-Ok.ensures) p q e

pub returns-in-Ok-clause-lengths : goal.returns-in-Ok-clause-lengths
returns-in-Ok-clause-lengths c =
    let root = grammar_of c.args.tree.root in
    lengths root c.args.tree.formed c.widths_are_lengths.ensures c.no_fault_without_a_first.ensures (sound root c.args.tree.formed c.widths_are_lengths.ensures c.in-Ok.ensures) c.bounds_hold.ensures

pub returns-in-Ok-clause-nodes : goal.returns-in-Ok-clause-nodes
returns-in-Ok-clause-nodes c = c.accepted_is_sound.ensures (grammar_of c.args.tree.root) (accepted (grammar_of c.args.tree.root) c.args.tree.formed c.widths_are_lengths.ensures c.in-Ok.ensures)

pub returns-in-Err-clause-fault : goal.returns-in-Err-clause-fault
returns-in-Err-clause-fault c = first_told (grammar_of c.args.tree.root) c.args.tree.formed c.widths_are_lengths.ensures c.in-Err.fault c.in-Err.ensures
