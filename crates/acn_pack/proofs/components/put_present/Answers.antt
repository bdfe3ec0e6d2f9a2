use Rattle.std.proofs.Common.{true, ◌∷◌, ◌++◌}
use Rattle.acn_grammar.specs.View.{data_of}
use Rattle.acn_events.specs.Event.{aligns}
use Rattle.acn_events.specs.Events.{form_events, presence_events}
use Rattle.acn_plan.specs.Back.{form_in}
use Rattle.acn_pack.proofs.Ways.{begin, failed_one, failed_some, last, then_one, then_some}
use Rattle.acn_pack.proofs.components.put_present.Goals as goal

pub returns-in_err-ask_presence : goal.returns-in_err-ask_presence
returns-in_err-ask_presence g c = λ root next i ms path.
    let s = c.args.step.now in
    let asked = presence_events path true c.args.presence.now in
    let inside = aligns s.align ∷ form_events root (form_in s.act next i ms) path (data_of c.args.v.now) in
    failed_some (asked ++ inside) asked inside path c.args.w.now c.args.w.now c.ask_presence.new.w c.ask_presence.new.why c.in_err-ask_presence.field-0.0 c.from_residual.result c.from_residual.ensures.1 (begin (asked ++ inside) c.args.w.now) (c.in_err-ask_presence.ensures path)

pub returns-in_err-align : goal.returns-in_err-align
returns-in_err-align g c = λ root next i ms path.
    let s = c.args.step.now in
    let asked = presence_events path true c.args.presence.now in
    let body = form_events root (form_in s.act next i ms) path (data_of c.args.v.now) in
    let whole = asked ++ aligns s.align ∷ body in
    failed_one whole body (λ p. aligns s.align) path c.args.w.now c.ask_presence.new.w c.align.new.self c.align.new.why c.in_err-align.field-0.0 c.from_residual-in_err-align.result c.from_residual-in_err-align.ensures.1
    (then_some whole asked (aligns s.align ∷ body) c.args.w.now c.args.w.now c.ask_presence.new.w (begin whole c.args.w.now) (c.in_ok-ask_presence.ensures path)) c.in_err-align.ensures.halted

pub returns : goal.returns
returns g c = λ root next i ms path.
    let s = c.args.step.now in
    let asked = presence_events path true c.args.presence.now in
    let body = form_events root (form_in s.act next i ms) path (data_of c.args.v.now) in
    let whole = asked ++ aligns s.align ∷ body in
    last whole body c.args.w.now c.align.new.self c.put_act.new.w path c.put_act.new.why c.put_act.result
    (then_one whole body (λ p. aligns s.align) path c.args.w.now c.ask_presence.new.w c.align.new.self (then_some whole asked (aligns s.align ∷ body) c.args.w.now c.args.w.now c.ask_presence.new.w (begin whole c.args.w.now) (c.in_ok-ask_presence.ensures path)) c.in_ok-align.ensures.ran)
    (c.put_act.ensures root next i ms path)
