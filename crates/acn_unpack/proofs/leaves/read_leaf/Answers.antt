use Rattle.std.proofs.lemmas.Int.{to_z-of_z}
use Rattle.std.specs.Int.{w128}
use Rattle.std.proofs.Common.{rules, ℤ, subst}
use Rattle.acn_grammar.specs.Code.{NumberOf}
use Rattle.acn_unpack.proofs.Numbers.{leaf_read}
use Rattle.acn_unpack.proofs.leaves.read_leaf.Goals as goal

pub returns-in-Ok-clause-read : goal.returns-in-Ok-clause-read
returns-in-Ok-clause-read types c =
    let k = c.number.ensures in
    (k.0, k.1, leaf_read c.args.leaf.now k.0 c.in-Ok.x c.args.cur.now c.read_num.new.cur (subst (λ (x : ℤ). NumberOf c.args.leaf.now.kind k.0 x) (to_z-of_z w128 c.in-Ok.x (record { sfits = search rules })) k.2) c.in-Ok.ensures.read)
