use Rattle.acn_route.proofs.Pages.{gained, front_kept}
use Rattle.acn_route.proofs.page.append.Goals as goal

pub returns-in-Ok-clause-added : goal.returns-in-Ok-clause-added
returns-in-Ok-clause-added c = gained _ _ _ c.in-Ok.ensures.written

pub returns-in-Err-clause-kept : goal.returns-in-Err-clause-kept
returns-in-Err-clause-kept c = front_kept _ _ _ c.in-Err.ensures.front
