-- From what the parts of a command did to how the request is served.
use Rattle.std.proofs.Common.{◌≡◌, ℕ, List, [], ◌∷◌, ◌++◌, map, Option, refl, ap, ◌∙◌, subst}
use Rattle.std.specs.Prelude.{Result, Ok, Err, IfOk, IfErr}
use Rattle.std.specs.List.{flat_map}
use Rattle.acn_files.specs.Contents.{Told}
use Rattle.acn_index.specs.World.{World}
use Rattle.acn_outside.specs.declared.traits.Failed.{Failed}
use Rattle.acn_print.specs.Printing.{Output, Prints}
use Rattle.acn_tree.specs.declared.tree.Tree.{Tree}
use Rattle.acn_words.specs.Names.{TypeName}
use Rattle.acn_words.specs.Requests.{Request, files_of, types_of}
use Rattle.acn_commands.specs.Asked.{HasGrammars, IsWorldOfNames}
use Rattle.acn_commands.specs.Lines.{output_failed_line}
use Rattle.acn_commands.specs.Outside.{Says}
use Rattle.acn_commands.specs.Serves.{printed, unwritten, IsText}
use Rattle.acn_commands.specs.Steps.{Answers, AnswersText}
use Rattle.acn_commands.specs.declared.status.Status.{Status}
use Rattle.acn_commands.specs.declared.status.Status.TheVariants.{Done, OutputFailed}

-- the texts of trees, and of what holds them
pub text_of_all : {A B C : Type 0} (f : B → List C) (g : A → B) (xs : List A) → flat_map (λ x. f (g x)) xs ≡ flat_map f (map g xs)
text_of_all f g [] = refl
text_of_all f g (x ∷ xs) = ap (λ more. f (g x) ++ more) (text_of_all f g xs)

pub grammars_are : (told : Told) (request : Request) (w : World) (named : Option (List TypeName)) (trees : List Tree) → IsWorldOfNames told (files_of request) w → types_of request ≡ named → Answers w named trees → HasGrammars told request trees
grammars_are told request w named trees read is a = record { world = w; types = a.types; read = read; question = rw is a.question; grammars = a.grammars }

module _ (request : Request) (w : World) (trees : List Tree) (text : List ℕ) (answers : Answers w (types_of request) trees) (is : IsText request trees text) where
  -- behind a text the status and what is said fit
  pub text_serves : (r : Result (Unit {0}) Failed) (status : Status) (o o' err err1 err' : Output) → err1 ≡ err → Prints text o o' r → IfOk r (λ u. (status ≡ Done) × (err' ≡ err1))
      → IfErr r (λ e. (status ≡ OutputFailed) × Says output_failed_line err1 err') → AnswersText request w o o' err err' status
  text_serves (Ok u) status o o' err err1 err' same p done failed told faults faults' i n read =
      rw done.0 (printed trees text (grammars_are told request w (types_of request) trees read refl answers) is (record { input = refl; faults = refl }) p.written (done.1 ∙ same))
  text_serves (Err e) status o o' err err1 err' same p done failed told faults faults' i n read =
      rw failed.0 (unwritten trees text (grammars_are told request w (types_of request) trees read refl answers) is (record { input = refl; faults = refl }) p.front p.failed (subst (λ (x : Output). Says output_failed_line x err') same failed.1))
