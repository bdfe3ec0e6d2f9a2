use Rattle.std.proofs.Common.{◌∷◌, [], ◌++◌, ℕ, List, Some, sym, subst}
use Rattle.acn_grammar.specs.Grammar.{node, num}
use Rattle.acn_grammar.specs.View.{data_of}
use Rattle.acn_writer.specs.Halts.{halt_of}
use Rattle.acn_pack.specs.Packs.{Stopped}
use Rattle.acn_pack.specs.Parts.{place_events}
use Rattle.acn_pack.proofs.components.put_numbered.Goals as goal

pub returns-in-Err-clause-packs : goal.returns-in-Err-clause-packs
returns-in-Err-clause-packs g c = λ root.
    let q = c.args.trace.now.path ++ c.args.k ∷ [] in
    let es = place_events root (node c.args.align (num c.args.leaf.now)) c.args.component.presence.now c.args.component.slot q (Some (data_of c.args.v.now)) in
    subst (λ (x : List ℕ). Stopped es c.args.w.now c.put_own.new.w (halt_of x c.put_own.new.why)) (sym c.push.ensures) (c.in-Err.ensures root q)
