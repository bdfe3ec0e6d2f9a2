use Rattle.std.proofs.Common.{◌∷◌, [], ◌++◌, true, ℕ, List, sym, subst}
use Rattle.acn_grammar.specs.View.{data_of}
use Rattle.acn_events.specs.Event.{aligns}
use Rattle.acn_events.specs.Events.{form_events, presence_events}
use Rattle.acn_plan.specs.Back.{form_in}
use Rattle.acn_writer.specs.Halts.{halt_of}
use Rattle.acn_pack.specs.Packs.{Stopped}
use Rattle.acn_pack.proofs.components.put_string.Goals as goal

pub returns-in-Err-clause-packs : goal.returns-in-Err-clause-packs
returns-in-Err-clause-packs g c = λ root next i ms.
    let q = c.args.trace.now.path ++ c.args.k ∷ [] in
    let s = c.args.step.now in
    let es = presence_events q true c.args.presence.now ++ aligns s.align ∷ form_events root (form_in s.act next i ms) q (data_of c.args.v.now) in
    subst (λ (x : List ℕ). Stopped es c.args.w.now c.put_present.new.w (halt_of x c.put_present.new.why)) (sym c.push.ensures) (c.in-Err.ensures root next i ms q)
