-- The status of a run is told by its words, the files and the input. (This program's own.)
use Rattle.std.specs.Prelude.{◌≡◌, ℕ, List, Some}
use Rattle.acn_files.specs.Contents.{Told}
use Rattle.acn_words.specs.Requests.{Request, files_of, request_in}
use Rattle.acn_run.specs.Complete.{NothingFailed}
use Rattle.acn_run.specs.Exactly.{AreTold}
use Rattle.acn_commands.specs.Outside.{Outside}
use Rattle.acn_commands.specs.Serves.{code_of}
use Rattle.acn_run.specs.Run.{EndsWith}
use Rattle.acn_commands.specs.declared.status.Status.TheVariants.{NoMemory}

-- A run of these words sees these files and this input. It ends with the number, no device fails, and memory lasts.
pub record Answers (words : List (List ℕ)) (files : Told) (input : List ℕ) (code : ℕ) : Type 0 where
  pub before : Outside
  pub after : Outside
  pub files_are : before.files ≡ files
  pub input_is : before.input ≡ Some input
  pub ends : EndsWith before after words code
  pub sure : NothingFailed before after
  pub lasts : code ≡ code_of NoMemory → ⊥

-- two such runs end with the same number
abbrev pub OneAnswer : Type 0
OneAnswer =
    (words : List (List ℕ)) (files : Told) (input : List ℕ) (x y : ℕ) → ((request : Request) → request_in words ≡ Some request → AreTold files (files_of request)) → Answers words files input x → Answers words files input y → x ≡ y
