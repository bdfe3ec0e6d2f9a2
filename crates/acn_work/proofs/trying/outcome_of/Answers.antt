use Rattle.std.proofs.Common.{arith}
use Rattle.acn_grammar.specs.View.{data_of}
use Rattle.acn_plan.specs.Back.{root_of}
use Rattle.acn_work.proofs.Reading.{inside, there, all_read}
use Rattle.acn_work.proofs.trying.outcome_of.Goals as goal

pub read_front-requires-clause-there : goal.read_front-requires-clause-there
read_front-requires-clause-there c = rw c.as_slice.ensures (there (root_of c.args.plan.now.steps) (data_of c.args.value.now) c.in-Ok.field-0 c.args.buffer.now c.pack.new.buf c.in-Ok.ensures.packed c.in-Ok.ensures.read)

pub returns-in_ok-_value-in-Ok-clause-came : goal.returns-in_ok-_value-in-Ok-clause-came
returns-in_ok-_value-in-Ok-clause-came c =
    let root = root_of c.args.plan.now.steps in
    let packed = c.in-Ok.ensures.packed in
    let only = rw c.as_slice.ensures at (c.in_ok-_value-in-Ok.ensures {u = tt}) in
    (packed.spelling, packed.written, all_read root (data_of c.args.value.now) c.in-Ok.field-0 c.args.buffer.now c.pack.new.buf packed c.in-Ok.ensures.read (data_of c.in_ok-_value-in-Ok._value) c.in_ok-_value-in-Ok.used only)

pub returns-in_ok-_value-in-Ok-clause-short : goal.returns-in_ok-_value-in-Ok-clause-short
returns-in_ok-_value-in-Ok-clause-short c =
    let root = root_of c.args.plan.now.steps in
    let packed = c.in-Ok.ensures.packed in
    let only = rw c.as_slice.ensures at (c.in_ok-_value-in-Ok.ensures {u = tt}) in
    let read = all_read root (data_of c.args.value.now) c.in-Ok.field-0 c.args.buffer.now c.pack.new.buf packed c.in-Ok.ensures.read (data_of c.in_ok-_value-in-Ok._value) c.in_ok-_value-in-Ok.used only in
    omega (arith, read, packed.counted, inside root (data_of c.args.value.now) c.in-Ok.field-0 c.args.buffer.now c.pack.new.buf packed, c.pack.array_long)
