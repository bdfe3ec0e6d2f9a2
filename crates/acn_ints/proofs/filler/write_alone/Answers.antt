use Rattle.std.proofs.Common.{rules}
use Rattle.std.specs.Int.{w128}
use Rattle.std.proofs.lemmas.Int.{to_z-of_z}
use Rattle.acn_grammar.specs.Code.{Code, Written}
use Rattle.acn_grammar.specs.Length.{num_length}
use Rattle.acn_ints.proofs.Writings.{alone}
use Rattle.acn_ints.proofs.filler.write_alone.Goals as goal

pub returns-clause-code : goal.returns-clause-code
returns-clause-code g c =
    let plain = to_z-of_z w128 c.args.x c.ranges.x in
    let code = rw plain at c.put_num.ensures.code in
    let long = rw plain at c.put_num.ensures.long in
    (alone (Code Written c.args.leaf.now c.args.x) (num_length c.args.leaf.now c.args.x) c.new-out.result c.put_num.new.cur _ (search rules) c.new-out.ensures.front code long).0

pub returns-clause-long : goal.returns-clause-long
returns-clause-long g c =
    let plain = to_z-of_z w128 c.args.x c.ranges.x in
    let code = rw plain at c.put_num.ensures.code in
    let long = rw plain at c.put_num.ensures.long in
    (alone (Code Written c.args.leaf.now c.args.x) (num_length c.args.leaf.now c.args.x) c.new-out.result c.put_num.new.cur _ (search rules) c.new-out.ensures.front code long).1
