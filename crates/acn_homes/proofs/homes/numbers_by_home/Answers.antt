use Rattle.acn_homes.specs.View.{found}
use Rattle.acn_homes.proofs.AtHome.{found_more}
use Rattle.acn_homes.proofs.homes.numbers_by_home.Goals as goal

pub loop-number-preserved : goal.loop-number-preserved
loop-number-preserved c = λ path. found_more path (found c.loop-number.numbers path) (found c.note.new.numbers path) c.args.slots.now c.loop-number.number _ c.loop-number-test.true (c.loop-number.invariant path) (c.in_ok-note.ensures path)
