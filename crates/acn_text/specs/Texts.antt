-- What reading and writing a text gives.
use Rattle.std.specs.Prelude.{◌≡◌, ℕ, pos, Bool, List, Option, Some, None, length}
use Rattle.acn_bits.specs.Reading.{Reading, Reads}
use Rattle.acn_grammar.specs.Env.{Env, at_slot}
use Rattle.acn_grammar.specs.Fails.{Fault, Here, TextFails, seen}
use Rattle.acn_grammar.specs.LeafFails.{Reason}
use Rattle.acn_grammar.specs.Spell.{SizePart, TextPart}
use Rattle.acn_grammar.specs.declared.node.SizeRule.{SizeRule}
use Rattle.acn_grammar.specs.declared.node.SizeRule.TheVariants.{Prefix, Slot, Ended}
use Rattle.acn_grammar.specs.declared.node.Sizing.{Sizing}
use Rattle.acn_grammar.specs.declared.node.TextLeaf.{TextLeaf}

-- a size is given from elsewhere exactly where the rule is a slot
abbrev pub IsGiven : SizeRule → Option ℕ → Type 0
IsGiven (Prefix low width) given = given ≡ None
IsGiven (Slot s) given = (n : ℕ) × (given ≡ Some n)
IsGiven (Ended p) given = given ≡ None

-- the slot has the given size
abbrev pub SlotSays : SizeRule → Option ℕ → Env → Type 0
SlotSays (Prefix low width) given env = Unit {0}
SlotSays (Slot s) given env = (n : ℕ) × (given ≡ Some n) × (at_slot env s ≡ Some (pos n))
SlotSays (Ended p) given env = Unit {0}

-- the size of a text of n characters that is given from elsewhere
abbrev pub given_size : SizeRule → ℕ → Option ℕ
given_size (Prefix low width) n = None
given_size (Slot s) n = Some n
given_size (Ended p) n = None

-- these bits say the size, wherever the slot has the given one
abbrev pub SizeCode : Sizing → Option ℕ → ℕ → List Bool → Type 0
SizeCode sizing given n bs = (env : Env) (at : ℕ) → SlotSays sizing.rule given env → SizePart sizing env n at bs

-- these bits spell the text, wherever the slot has the given size
abbrev pub TextCode : TextLeaf → Option ℕ → List ℕ → List Bool → Type 0
TextCode leaf given cs bs = (env : Env) (at : ℕ) → SlotSays leaf.sized.rule given env → TextPart leaf env cs at bs

-- a text of n characters was passed, and each was given in order
pub record PassedText (leaf : TextLeaf) (given : Option ℕ) (Gives : List ℕ → Type 0) (old new : Reading) (n : ℕ) : Type 0 where
  pub text : List ℕ
  pub size : length text ≡ n
  pub gives : Gives text
  pub read : Reads (TextCode leaf given text) old new

-- the fault at a node with this reason
abbrev pub fault_here : Here → Reason → Fault
fault_here here r = record { path = here.path; reason = seen here.inside r; at = here.place }

-- the first reason why no text stands at the front of these bits
pub record NoTextAt (leaf : TextLeaf) (given : Option ℕ) (rest : List Bool) (r : Reason) : Type 0 where
  pub reach : ℕ
  pub fails : (here : Here) (env : Env) (at : ℕ) → SlotSays leaf.sized.rule given env → TextFails here leaf.ended leaf env at rest (fault_here here r) reach
