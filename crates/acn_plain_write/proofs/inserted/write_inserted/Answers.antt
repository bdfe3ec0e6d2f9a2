use Rattle.std.proofs.Common.{rules}
use Rattle.std.proofs.lemmas.Int.{to_z-of_z}
use Rattle.std.specs.Int.{w128}
use Rattle.acn_grammar.specs.View.{grammar_of}
use Rattle.acn_plain_write.proofs.Walk.{on_ok, inserted_adds}
use Rattle.acn_plain_write.proofs.inserted.write_inserted.Goals as goal

pub returns : goal.returns
returns c =
    on_ok c.write_number.result (λ a root. inserted_adds root c.args.slot (grammar_of c.args.node.now) c.args.node.now.align c.leaf_of.result.now c.args.slots.now c.number_said.result c.args.base c.args.bits.now c.put_padding.new.bits c.write_number.new.bits c.leaf_of.ensures c.requires c.number_said.ensures c.in_ok-put_padding.ensures a)
    (rw (to_z-of_z w128 c.number_said.result (record { sfits = search rules })) at c.write_number.ensures)
