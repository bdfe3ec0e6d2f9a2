use Rattle.std.proofs.Common.{refl, sym}
use Rattle.acn_words.specs.View.{request_view}
use Rattle.acn_run.specs.Run.{no_form, served}
use Rattle.acn_run.proofs.top_call.run_words.Goals as goal

pub returns-in-Some-clause-ends : goal.returns-in-Some-clause-ends
returns-in-Some-clause-ends g c = served (request_view c.in-Some.request) c.serve.result (sym c.in-Some.ensures.request) c.serve.ensures.serves

pub returns-in-None-clause-ends : goal.returns-in-None-clause-ends
returns-in-None-clause-ends g c = rw c.usage.ensures.status (no_form (sym c.in-None.ensures.request) (record { unread = record { input = refl; faults = refl }; out = refl }) c.usage.ensures.says)
