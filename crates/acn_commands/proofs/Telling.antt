-- From how the shortest and the longest packet are told to how the request is served.
use Rattle.std.proofs.Common.{◌≡◌, ℕ, List, [], ◌∷◌, Some, refl, subst}
use Rattle.acn_index.specs.World.{World}
use Rattle.acn_print.specs.Printing.{Output}
use Rattle.acn_tree.specs.declared.tree.Tree.{Tree}
use Rattle.acn_words.specs.Names.{TypeName}
use Rattle.acn_words.specs.Requests.{extremes}
use Rattle.acn_commands.specs.Extremes.{IsExtremesText, unsingle_line}
use Rattle.acn_commands.specs.Outside.{Says}
use Rattle.acn_commands.specs.Refusals as refusals
use Rattle.acn_commands.specs.Serves.{refused}
use Rattle.acn_commands.specs.Steps.{Answers, AnswersText, ExtremesEnd, in_text, not_single, TextEnds, told, untold, stopped}
use Rattle.acn_commands.specs.declared.status.Status.{Status}
use Rattle.acn_commands.proofs.Printing.{ends_serve}
use Rattle.acn_commands.proofs.Serving.{grammars_are}

-- what is said of a text, said of it in other words
pub text_turned : (is other : List ℕ → Type 0) → ((text : List ℕ) → is text → other text) → (o o' err err' : Output) (status : Status) → TextEnds is o o' err err' status → TextEnds other o o' err err' status
text_turned is other turn o o' err err' status (told text h gains silent) = told text (turn text h) gains silent
text_turned is other turn o o' err err' status (untold text h front rose says) = untold text (turn text h) front rose says
text_turned is other turn o o' err err' status (stopped out says) = stopped out says

module _ (of : TypeName) (names : List (List ℕ)) (w : World) (tree : Tree) (answers : Answers w (Some (of ∷ [])) (tree ∷ [])) where
  pub extremes_serve : (o o' err err1 err' : Output) (status : Status) → err1 ≡ err → ExtremesEnd tree o o' err1 err' status → AnswersText (extremes of names) w o o' err err' status
  extremes_serve o o' err err1 err' status same (in_text s t) files faults faults' i n read = ends_serve (extremes of names) w (tree ∷ []) answers (IsExtremesText tree) (λ text h. h) o o' err err1 err' s same t files faults faults' i n read
  extremes_serve o o' err err1 err' status same (not_single at why first out says) files faults faults' i n read =
      refused (unsingle_line tree at why) (refusals.unsingle tree at why (grammars_are files (extremes of names) w (Some (of ∷ [])) (tree ∷ []) read refl answers) refl first) (record { unread = record { input = refl; faults = refl }; out = out })
      (subst (λ (x : Output). Says (unsingle_line tree at why) x err') same says)
