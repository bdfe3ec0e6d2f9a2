-- What the calls answer, as the definitions speak of it.
use Rattle.std.specs.Prelude.{◌≡◌, ℕ, List, Option, Some, None, Result, Ok, Err}
use Rattle.acn_json.specs.Reads.{LineFault, not_json, shape, unknown_member, missing_member}
use Rattle.acn_json.specs.declared.json_fault.JsonFault.{JsonFault}
use Rattle.acn_json.specs.declared.json_fault.JsonFault.TheVariants as fault
use Rattle.acn_json.specs.declared.trouble.Trouble.{Trouble}
use Rattle.acn_json.specs.declared.trouble.Trouble.TheVariants as trouble

-- a fault, with the path that it names. Want of memory says nothing of the line
abbrev pub IsFault : {B : Type 0} → JsonFault → Result B LineFault → Type 0
IsFault fault.NotJson r = Err not_json ≡ r
IsFault (fault.Shape path) r = Err (shape path) ≡ r
IsFault (fault.UnknownMember path k) r = Err (unknown_member path k) ≡ r
IsFault (fault.MissingMember path) r = Err (missing_member path) ≡ r
IsFault fault.NoMemory r = Unit {0}

-- what a line gives, by the answer of a call
abbrev pub Gives : {A B : Type 0} → (A → B) → Result A JsonFault → Result B LineFault → Type 0
Gives f (Ok a) r = Ok (f a) ≡ r
Gives f (Err e) r = IsFault e r

-- the same inside the walk, by the path that it came to
abbrev pub Answers : {A B : Type 0} → (A → B) → List ℕ → Result A Trouble → Result B LineFault → Type 0
Answers f path (Ok a) r = Ok (f a) ≡ r
Answers f path (Err trouble.Shape) r = Err (shape path) ≡ r
Answers f path (Err (trouble.Unknown k)) r = Err (unknown_member path k) ≡ r
Answers f path (Err trouble.Missing) r = Err (missing_member path) ≡ r
Answers f path (Err trouble.NoMemory) r = Unit {0}

-- at a leaf
abbrev pub LeafAnswers : {A B : Type 0} → (A → B) → Result A Trouble → Option B → Type 0
LeafAnswers f (Ok a) o = Some (f a) ≡ o
LeafAnswers f (Err trouble.Shape) o = None ≡ o
LeafAnswers f (Err (trouble.Unknown k)) o = ⊥
LeafAnswers f (Err trouble.Missing) o = ⊥
LeafAnswers f (Err trouble.NoMemory) o = Unit {0}
