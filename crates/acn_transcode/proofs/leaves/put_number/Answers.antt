use Rattle.std.proofs.lemmas.Result.{on_ok_weaker}
use Rattle.acn_transcode.proofs.ShortTexts.{short_put}
use Rattle.acn_transcode.proofs.leaves.put_number.Goals as goal

pub put_short-requires : goal.put_short-requires
put_short-requires c = record { few = c.in-Some.ensures.few }

pub returns-in-Some-clause-added : goal.returns-in-Some-clause-added
returns-in-Some-clause-added c = on_ok_weaker c.put_short.result (λ e. short_put c.in-Some.short _ c.args.text.now.items _ c.in-Some.ensures e) c.put_short.ensures.added
