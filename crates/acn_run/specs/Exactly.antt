-- Where sources are refused a run ends with 2, unless a file can't be read or memory runs out; and which statuses don't come where no device fails. (This program's own.)
use Rattle.std.specs.Prelude.{◌≡◌, ◌⊎◌, ℕ, List, IsTrue, is_some}
use Rattle.std.specs.List.{AllByRecursion}
use Rattle.acn_files.specs.Contents.{Told}
use Rattle.acn_words.specs.Requests.{Request, files_of}
use Rattle.acn_commands.specs.Refusals.{Refuses}
use Rattle.acn_commands.specs.Serves.{code_of}
use Rattle.acn_commands.specs.declared.status.Status.TheVariants.{NoGrammar, BadInput, FileFailed, InputFailed, OutputFailed, NoMemory}

-- what each of these files holds is told
abbrev pub AreTold : Told → List (List ℕ) → Type 0
AreTold told names = AllByRecursion (λ name. IsTrue (is_some (told name))) names

abbrev pub EndsRefused : ℕ → Type 0
EndsRefused code = (code ≡ code_of NoGrammar) ⊎ ((code ≡ code_of FileFailed) ⊎ (code ≡ code_of NoMemory))

-- it ends with none of the statuses of devices that fail
abbrev pub EndsUnfailed : ℕ → Type 0
EndsUnfailed code = (code ≡ code_of FileFailed → ⊥) × (code ≡ code_of InputFailed → ⊥) × (code ≡ code_of OutputFailed → ⊥)

-- the sources, a packet, a line or the length of the input is refused
abbrev pub EndsInRefusal : ℕ → Type 0
EndsInRefusal code = (code ≡ code_of NoGrammar) ⊎ (code ≡ code_of BadInput)

-- some reason refuses the request for its sources, and it ends so
abbrev pub IsRefused : Told → Request → ℕ → Type 0
IsRefused told request code = AreTold told (files_of request) → (line : List ℕ) → Refuses told request line → EndsRefused code
