-- Added: bits of a number, one at a time.
use Rattle.std.proofs.Common.{◌++◌, ◌∷◌, [], ◌∙◌, ap, Bool}
use Rattle.acn_num.proofs.Pushed.{add_bit}
use Rattle.acn_num.proofs.bit_list.BitList.push_number.Goals as goal

pub loop-i-preserved : goal.loop-i-preserved
loop-i-preserved c =
    add_bit c.loop-i.self c.push.new.self _ c.args.width c.loop-i.i c.args.v c.loop-i-test.true (c.in_ok-push.ensures.ok ∙ ap (λ (b : Bool). c.loop-i.self ++ b ∷ []) c.bit_of.ensures) c.loop-i.invariant
