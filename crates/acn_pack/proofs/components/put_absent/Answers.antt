use Rattle.std.proofs.Common.{◌∷◌, [], ◌++◌, ℕ, List, false, sym, subst}
use Rattle.acn_events.specs.Events.{presence_events}
use Rattle.acn_writer.specs.Halts.{halt_of}
use Rattle.acn_pack.specs.Packs.{Stopped}
use Rattle.acn_pack.proofs.components.put_absent.Goals as goal

pub returns-in-Err-clause-packs : goal.returns-in-Err-clause-packs
returns-in-Err-clause-packs g c =
    let q = c.args.trace.now.path ++ c.args.k ∷ [] in
    subst (λ (x : List ℕ). Stopped (presence_events q false c.args.presence.now) c.args.w.now c.ask_presence.new.w (halt_of x c.ask_presence.new.why)) (sym c.push.ensures) (c.in-Err.ensures q)
