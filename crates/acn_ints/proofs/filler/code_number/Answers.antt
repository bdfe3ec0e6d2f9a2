use Rattle.std.proofs.Common.{sym}
use Rattle.std.specs.Int.{w128}
use Rattle.std.proofs.lemmas.Int.{to_z-of_z}
use Rattle.acn_num.specs.Bits.{bits}
use Rattle.acn_grammar.specs.Code.{Code, Written}
use Rattle.acn_grammar.specs.Length.{num_length}
use Rattle.acn_ints.proofs.Writings.{front_code}
use Rattle.acn_ints.proofs.filler.code_number.Goals as goal

pub returns-clause-fits : goal.returns-clause-fits
returns-clause-fits c =
    let plain = to_z-of_z w128 c.args.x c.ranges.x in
    let code = rw plain at c.write_alone-count.ensures.code in
    let long = rw plain at c.write_alone-count.ensures.long in
    (front_code (Code Written c.args.leaf.now c.args.x) c.args.width (num_length c.args.leaf.now c.args.x) c.number_at_front.result (bits c.write_alone-count.new.buf) (sym c.requires.width) code long c.number_at_front.ensures).0

pub returns-clause-code : goal.returns-clause-code
returns-clause-code c =
    let plain = to_z-of_z w128 c.args.x c.ranges.x in
    let code = rw plain at c.write_alone-count.ensures.code in
    let long = rw plain at c.write_alone-count.ensures.long in
    (front_code (Code Written c.args.leaf.now c.args.x) c.args.width (num_length c.args.leaf.now c.args.x) c.number_at_front.result (bits c.write_alone-count.new.buf) (sym c.requires.width) code long c.number_at_front.ensures).1
