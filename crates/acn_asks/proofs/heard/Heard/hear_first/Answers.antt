use Rattle.std.proofs.Common.{ap, ◌∙◌}
use Rattle.acn_grammar.specs.Faults.{ask_of}
use Rattle.acn_asks.specs.Heard.{kept_of}
use Rattle.acn_asks.proofs.Fields.{heard_first, others_added, ok_after}
use Rattle.std.proofs.Common.{refl}
use Rattle.acn_asks.proofs.heard.Heard.hear_first.Goals as goal

pub returns-in-Ok-clause-kept : goal.returns-in-Ok-clause-kept
returns-in-Ok-clause-kept c =
    ok_after c.put.result _ refl c.put.ensures.ok (λ e. heard_first c.args.set.now c.args.field.now (ask_of c.args.wanted.now) c.args.self.now _ c.in-Ok.asked c.requires e (c.in-Ok.ensures {u = tt}).kept)

pub returns-in-Ok-clause-others : goal.returns-in-Ok-clause-others
returns-in-Ok-clause-others c =
    ok_after c.put.result _ refl c.put.ensures.ok (λ e other apart. ap (kept_of other) e ∙ others_added c.args.field.now other c.in-Ok.asked c.args.self.now apart)
