use Rattle.std.proofs.Common.{◌∷◌, [], sym, ap, ◌∙◌}
use Rattle.acn_grammar.specs.Faults.{ask_of}
use Rattle.acn_events.specs.Event.{wants}
use Rattle.acn_events.specs.Events.{test_event}
use Rattle.acn_pack.proofs.Ways.{one, packs_as}
use Rattle.acn_pack.proofs.asking.ask_test.Goals as goal

pub returns-in-Flag : goal.returns-in-Flag
returns-in-Flag g c = λ path.
    let ask = ask_of c.flag-ask.result in
    packs_as (wants path c.in-Flag.slot ask ∷ []) (test_event path c.args.there c.args.test.now ∷ []) c.args.w.now c.want.new.self path c.want.new.why c.want.result (ap (λ e. e ∷ []) (sym (ap (test_event path c.args.there) c.in-Flag.is ∙ c.flag-ask.ensures path c.in-Flag.slot)))
    (one (λ p. wants p c.in-Flag.slot ask) c.args.w.now c.want.new.self path c.want.new.why c.want.result c.want.ensures.ran c.want.ensures.halted)

pub returns-in-Equals : goal.returns-in-Equals
returns-in-Equals g c = λ path.
    let ask = ask_of c.compared-ask.result in
    packs_as (wants path c.in-Equals.slot ask ∷ []) (test_event path c.args.there c.args.test.now ∷ []) c.args.w.now c.want-in-Equals.new.self path c.want-in-Equals.new.why c.want-in-Equals.result (ap (λ e. e ∷ []) (sym (ap (test_event path c.args.there) c.in-Equals.is ∙ c.compared-ask.ensures path c.in-Equals.slot)))
    (one (λ p. wants p c.in-Equals.slot ask) c.args.w.now c.want-in-Equals.new.self path c.want-in-Equals.new.why c.want-in-Equals.result c.want-in-Equals.ensures.ran c.want-in-Equals.ensures.halted)
