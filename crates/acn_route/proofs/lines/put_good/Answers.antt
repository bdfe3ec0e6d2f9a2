use Rattle.acn_route.proofs.Pages.{good_joined}
use Rattle.acn_route.proofs.lines.put_good.Goals as goal

pub put-requires : goal.put-requires
put-requires c = rw c.tree.ensures.same c.requires.ordered

pub returns-clause-added : goal.returns-clause-added
returns-clause-added c = good_joined _ _ _ _ _ _ c.in_ok-begin_good.ensures.added (rw c.tree.ensures.same at c.in_ok-put.ensures.added) c.in_ok-append.ensures.added
