use Rattle.std.proofs.Common.{ℕ, List, sym, subst, ◌≡◌, Some}
use Rattle.std.specs.Prelude.{slice_get}
use Rattle.acn_files.specs.Contents.{IsFirstTooLong}
use Rattle.acn_outside.specs.Counts.{Rose}
use Rattle.acn_commands.specs.Steps.{IsUnread}
use Rattle.acn_commands.proofs.Refusing.{unread_ends, unread_failed, of_ok, of_err}
use Rattle.acn_commands.proofs.sources.read_world.Goals as goal

pub returns-in-Err-clause-fails : goal.returns-in-Err-clause-fails
returns-in-Err-clause-fails g c = λ request is.
    let told = g.F.Files.contents c.args.files.now in
    let faults = g.F.Files.faults c.args.files.now in
    let faults' = g.F.Files.faults c.read_files.new.files in
    let f = c.in-Err.fault in
    unread_ends told faults faults' request _ _ f (λ e. subst (λ (xs : List (List ℕ)). IsFirstTooLong told xs f.file) (sym is) (c.in-Err.ensures.too_long e))
    (λ e. subst (λ (xs : List (List ℕ)). (name : List ℕ) × (slice_get xs f.file ≡ Some name) × Rose (faults name) (faults' name)) (sym is) (c.in-Err.ensures.failed e)) c.unread.result
    (subst (λ (xs : List (List ℕ)). IsUnread xs f (g.E.Sink.taken c.args.err.now, g.E.Sink.faults c.args.err.now) (g.E.Sink.taken c.unread.new.err, g.E.Sink.faults c.unread.new.err) c.unread.result) (sym is) c.unread.ensures)

pub returns-in-Ok-clause-uncounted : goal.returns-in-Ok-clause-uncounted
returns-in-Ok-clause-uncounted g c = of_ok c.world_of_contents.result c.in-Ok.ensures.uncounted

pub returns-in-Ok-clause-told : goal.returns-in-Ok-clause-told
returns-in-Ok-clause-told g c = of_err c.world_of_contents.result _ (λ status not_failed. c.in-Ok.ensures.uncounted)

pub returns-in-Err-clause-told : goal.returns-in-Err-clause-told
returns-in-Err-clause-told g c = λ not_failed. c.in-Err.ensures.told (λ e. not_failed (unread_failed _ _ _ _ c.unread.result c.unread.ensures e))
