use Rattle.acn_num.specs.Bits.{bits}
use Rattle.acn_grammar.specs.View.{data_of}
use Rattle.acn_plan.specs.Back.{root_of}
use Rattle.acn_packing.proofs.Packings.{is_packed, packed_read}
use Rattle.acn_packing.proofs.packing.Packer.pack.Goals as goal

pub returns-in-Ok-clause-packed : goal.returns-in-Ok-clause-packed
returns-in-Ok-clause-packed g c =
    is_packed c.one_writing.ensures (root_of c.args.plan.now.steps) (data_of c.args.v.now) c.in-Ok.count (c.args.buf.now) c.pack_in.new.buf c.args.plan.now.made.accepted c.check_octets.ensures c.check_octets-in-Ok.ensures c.in-Ok.ensures.packed

pub returns-in-Ok-clause-read : goal.returns-in-Ok-clause-read
returns-in-Ok-clause-read g c =
    packed_read c.written_is_read.ensures c.one_front.ensures c.fronts_exclude_failures.ensures (root_of c.args.plan.now.steps) (data_of c.args.v.now) c.in-Ok.count (bits c.args.buf.now) c.pack_in.new.buf c.args.plan.now.made.accepted c.in-Ok.ensures.packed
