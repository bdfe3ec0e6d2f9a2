use Rattle.std.proofs.Common.{ap, refl, rules}
use Rattle.acn_grammar.specs.View.{data_of}
use Rattle.acn_events.specs.Event.{State}
use Rattle.acn_plan.specs.Back.{root_of}
use Rattle.acn_writer.specs.Halts.{halt_of}
use Rattle.acn_packing.proofs.InFront.{halted, long_bits, packed, starts}
use Rattle.acn_packing.proofs.tries.write_with_none.Goals as goal

pub new-writer-requires : goal.new-writer-requires
new-writer-requires g c = let long = long_bits g.row.N c.args.cursor.buf.now c.requires.long in search (rules, long)

pub pack_whole-requires : goal.pack_whole-requires
pack_whole-requires g c = let fresh = starts c.new-writer.result c.args.cursor c.new-writer.ensures.state c.requires.front in search (rules, fresh)

pub returns-in-Ok-clause-packed : goal.returns-in-Ok-clause-packed
returns-in-Ok-clause-packed g c =
    packed (root_of c.args.plan.now.steps) (data_of c.args.v.now) c.fill_octet.result c.args.cursor.buf.now c.fill_octet.new.cursor.buf.now c.new-writer.result c.pack_whole.new.writer c.finish-end.result c.fill_octet.new.cursor
    (ap (λ (z : State). z.buf) c.new-writer.ensures.state) c.in-Ok.ensures.packs c.finish-end.ensures.bits c.finish-end.ensures.place c.fill_octet.ensures.count c.fill_octet.ensures.zeros refl

pub returns-in-Err-clause-halted : goal.returns-in-Err-clause-halted
returns-in-Err-clause-halted g c =
    halted (root_of c.args.plan.now.steps) (data_of c.args.v.now) (halt_of c.pack_whole.new.trace.path c.pack_whole.new.trace.why) c.args.cursor.buf.now c.abandon.result.buf.now c.new-writer.result c.pack_whole.new.writer c.abandon.result c.requires.long
    (ap (λ (z : State). z.buf) c.new-writer.ensures.state) c.in-Err.ensures.halts c.abandon.ensures refl
