-- What a run sees of the world outside it. (This program's own.)
use Rattle.std.specs.Prelude.{◌≡◌, ℕ, List, Option, Result}
use Rattle.acn_files.specs.Contents.{Told}
use Rattle.acn_outside.specs.Counts.{Stays}
use Rattle.acn_outside.specs.declared.traits.Failed.{Failed}
use Rattle.acn_print.specs.Printing.{Output, Prints}

-- Files are known by their names. Of the input it is known which bytes are left, of an output which it took, where that is told, and of each how often it has failed.
pub record Outside : Type 0 where
  pub files : Told
  pub file_faults : List ℕ → ℕ
  pub input : Option (List ℕ)
  pub input_faults : ℕ
  pub out : Output
  pub err : Output

abbrev pub seen : Told → (List ℕ → ℕ) → Option (List ℕ) → ℕ → (out err : Output) → Outside
seen files file_faults input input_faults out err = record { files = files; file_faults = file_faults; input = input; input_faults = input_faults; out = out; err = err }

-- A line was written: all of it, or a front of it, where the count of faults rose.
pub record Says (line : List ℕ) (before after : Output) : Type 0 where
  pub result : Result (Unit {0}) Failed
  pub prints : Prints line before after result

-- nothing was written, and no write failed
abbrev pub IsSilent : (before after : Output) → Type 0
IsSilent before after = after ≡ before

-- nothing was read of the input
pub record IsUnread (b a : Outside) : Type 0 where
  pub input : a.input ≡ b.input
  pub faults : a.input_faults ≡ b.input_faults

-- the counts of faults of the input and of the output stayed
pub record StreamsStay (b a : Outside) : Type 0 where
  pub input : Stays b.input_faults a.input_faults
  pub out : Stays b.out.1 a.out.1

-- nothing was read of the input, and nothing written
pub record IsUntouched (b a : Outside) : Type 0 where
  pub unread : IsUnread b a
  pub out : IsSilent b.out a.out
