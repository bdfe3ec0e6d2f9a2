-- From how a command ended that prints a text to how the request is served.
use Rattle.std.proofs.Common.{◌≡◌, ℕ, List, refl, ◌∙◌, subst}
use Rattle.std.specs.Prelude.{Result, Ok, Err, IfOk, IfErr}
use Rattle.acn_index.specs.World.{World}
use Rattle.acn_outside.specs.declared.traits.Failed.{Failed}
use Rattle.acn_print.specs.Printing.{Output, Prints}
use Rattle.acn_report.specs.CheckTexts.{no_memory_line}
use Rattle.acn_tree.specs.declared.tree.Tree.{Tree}
use Rattle.acn_words.specs.Requests.{Request, types_of}
use Rattle.acn_commands.specs.Lines.{output_failed_line}
use Rattle.acn_commands.specs.Outside.{Says}
use Rattle.acn_commands.specs.Serves as run
use Rattle.acn_commands.specs.Serves.{IsText}
use Rattle.acn_commands.specs.Steps.{Answers, AnswersText, TextEnds, told, untold, stopped}
use Rattle.acn_commands.specs.declared.status.Status.{Status}
use Rattle.acn_commands.specs.declared.status.Status.TheVariants.{Done, OutputFailed}
use Rattle.acn_commands.proofs.Serving.{grammars_are}

-- behind a text the status and what is said fit
pub text_told : (is : List ℕ → Type 0) (text : List ℕ) (o o' err err' : Output) (status : Status) (r : Result (Unit {0}) Failed) → is text → Prints text o o' r → IfOk r (λ u. (status ≡ Done) × (err' ≡ err))
    → IfErr r (λ e. (status ≡ OutputFailed) × Says output_failed_line err err') → TextEnds is o o' err err' status
text_told is text o o' err err' status (Ok u) this p done failed = rw done.0 (told text this p.written done.1)
text_told is text o o' err err' status (Err e) this p done failed = rw failed.0 (untold text this p.front p.failed failed.1)

module _ (request : Request) (w : World) (trees : List Tree) (answers : Answers w (types_of request) trees) (is : List ℕ → Type 0) (each : (text : List ℕ) → is text → IsText request trees text) where
  pub ends_serve : (o o' err err1 err' : Output) (status : Status) → err1 ≡ err → TextEnds is o o' err1 err' status → AnswersText request w o o' err err' status
  ends_serve o o' err err1 err' status same (told text this gains e) files faults faults' i n read =
      run.printed trees text (grammars_are files request w (types_of request) trees read refl answers) (each text this) (record { input = refl; faults = refl }) gains (e ∙ same)
  ends_serve o o' err err1 err' status same (untold text this front rose says) files faults faults' i n read =
      run.unwritten trees text (grammars_are files request w (types_of request) trees read refl answers) (each text this) (record { input = refl; faults = refl }) front rose (subst (λ (x : Output). Says output_failed_line x err') same says)
  ends_serve o o' err err1 err' status same (stopped out says) files faults faults' i n read =
      run.stopped (record { unread = record { input = refl; faults = refl }; out = out }) (subst (λ (x : Output). Says no_memory_line x err') same says)
