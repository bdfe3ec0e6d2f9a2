-- What the end of a run says of its status.
use Rattle.std.proofs.Common.{◌≡◌, ℕ, ◌≤◌, List, [], ◌∷◌, None, refl, arith}
use Rattle.std.specs.Prelude.{◌↔◌}
use Rattle.std.specs.List.{AllByRecursion}
use Rattle.acn_files.specs.Contents.{Told}
use Rattle.acn_front.specs.Grammars.{AreGrammarsOf, IsGrammarOf}
use Rattle.acn_grammar.specs.View.{grammar_of}
use Rattle.acn_index.specs.World.{World}
use Rattle.acn_index.specs.declared.sources.TypeId.{TypeId}
use Rattle.acn_packet_laws.specs.Laws.{IsAccepted}
use Rattle.acn_tree.specs.declared.tree.Tree.{Tree}
use Rattle.acn_words.specs.Requests.{Request, request_in}
use Rattle.acn_commands.specs.Asked.{HasGrammars}
use Rattle.acn_run.specs.Headline.{KeepsItsPromise, EachGrammarKeepsItsPromise}
use Rattle.acn_commands.specs.Outside.{Outside}
use Rattle.acn_commands.specs.Serves.{code_of, Serves}
use Rattle.acn_run.specs.Run.{Ends, no_form, served}
use Rattle.acn_commands.specs.declared.status.Status.{Status}
use Rattle.acn_commands.specs.declared.status.Status.TheVariants.{Done, Usage, NoGrammar, BadInput, FileFailed, InputFailed, OutputFailed, NoMemory}

pub at_most_seven : (status : Status) → code_of status ≤ 7
at_most_seven Done = omega arith
at_most_seven Usage = omega arith
at_most_seven NoGrammar = omega arith
at_most_seven BadInput = omega arith
at_most_seven FileFailed = omega arith
at_most_seven InputFailed = omega arith
at_most_seven OutputFailed = omega arith
at_most_seven NoMemory = omega arith

module _ (b a : Outside) where
  -- words that have a form aren't refused for it
  has_form : (request : Request) (status : Status) → Serves b a request status → code_of status ≡ 1 → ⊥
  has_form request Done s e = cc
  has_form request NoGrammar s e = cc
  has_form request BadInput s e = cc
  has_form request FileFailed s e = cc
  has_form request InputFailed s e = cc
  has_form request OutputFailed s e = cc
  has_form request NoMemory s e = cc
  has_form request Usage s e = elim s [ ]

  pub is_usage : (words : List (List ℕ)) (status : Status) → Ends b a words status → (code_of status ≡ 1) ↔ (request_in words ≡ None)
  is_usage words Usage (no_form none u s) = ((λ e. none), (λ e. refl))
  is_usage words status (served request s is serves) = ((λ e. absurd (has_form request status serves e)), (λ e. cc))

accepted : (w : World) (of : TypeId) (tree : Tree) → IsGrammarOf w of tree → IsAccepted (grammar_of tree.root)
accepted w of tree is = record { formed = tree.formed; sound = is.decodable }

-- the grammar of a request that asks for one is accepted
pub is_accepted : (told : Told) (request : Request) (tree : Tree) → HasGrammars told request (tree ∷ []) → IsAccepted (grammar_of tree.root)
is_accepted told request tree h = by h.types h.grammars
  where
    by : (types : List TypeId) → AreGrammarsOf h.world types (tree ∷ []) → IsAccepted (grammar_of tree.root)
    by (of ∷ types) all = accepted h.world of tree all.0
    by [] all = absurd all

module _ (each : EachGrammarKeepsItsPromise) where
  kept : (w : World) (types : List TypeId) (trees : List Tree) → AreGrammarsOf w types trees → AllByRecursion (λ tree. KeepsItsPromise (grammar_of tree.root)) trees
  kept w [] [] all = tt
  kept w (of ∷ types) (tree ∷ trees) all = (each (grammar_of tree.root) (accepted w of tree all.0), kept w types trees all.1)
  kept w [] (tree ∷ trees) all = absurd all
  kept w (of ∷ types) [] all = absurd all

  -- each grammar of a request keeps its promise
  pub promises : (told : Told) (request : Request) (trees : List Tree) → HasGrammars told request trees → AllByRecursion (λ tree. KeepsItsPromise (grammar_of tree.root)) trees
  promises told request trees h = kept h.world h.types trees h.grammars
