use Rattle.std.proofs.Common.{◌∙◌, sym}
use Rattle.acn_num.specs.Bits.{bits}
use Rattle.acn_grammar.specs.View.{data_of}
use Rattle.acn_plan.specs.Back.{root_of}
use Rattle.acn_writer.specs.Halts.{class_of}
use Rattle.acn_packing.proofs.Halting.{each_ok, ends_here}
use Rattle.acn_packing.proofs.InFront.{stands_again}
use Rattle.acn_packing.specs.declared.tries.TheConstants.{NO_SLOTS}
use Rattle.acn_packing.proofs.tries.pack_in.Goals as goal

pub returns-then-is_full-clause-packed : goal.returns-then-is_full-clause-packed
returns-then-is_full-clause-packed g c =
    let root = root_of c.args.plan.now.steps in
    let d = data_of c.args.v.now in
    each_ok c.pack_with_slots-then-is_full.result (λ n s. stands_again root d n (bits c.args.buf.now) (bits c.pack_with_none.new.buf) (bits c.pack_with_slots-then-is_full.new.buf) c.args.plan.now.made.accepted c.lengths_are_told.ensures c.in-Err.ensures.halted.later s)
    c.pack_with_slots-then-is_full.ensures.packed

pub returns-else-is_full-clause-ends : goal.returns-else-is_full-clause-ends
returns-else-is_full-clause-ends g c =
    let root = root_of c.args.plan.now.steps in
    let d = data_of c.args.v.now in
    ends_here root d (class_of NO_SLOTS NO_SLOTS) _ c.pack_with_none.new.trace.path c.pack_with_none.new.trace.why (bits c.args.buf.now) (bits c.pack_with_none.new.buf) c.requires.fits (sym c.is_full.ensures ∙ c.if-is_full.false) c.in-Err.ensures.halted
