-- What is kept of the asks of one slot, one after another, so that the least number that meets them is at hand. (This
-- profile's own.)
use Rattle.std.specs.Prelude.{◌≡◌, ℤ, Bool, true, false, List, [], ◌∷◌, ◌++◌, Option, option_map}
use Rattle.acn_num.specs.Ranges.{among}
use Rattle.acn_grammar.specs.Asks.{Ask, Equal, Avoid}
use Rattle.acn_grammar.specs.AsksOn.{Meetable, LeastAnswer}
use Rattle.acn_grammar.specs.Faults.{ask_of}
use Rattle.acn_grammar.specs.Refused.{IsAsked, Earlier}
use Rattle.acn_asks.specs.declared.asked.Asked.{Asked}
use Rattle.acn_asks.specs.declared.asked.Unmet.{Unmet}
use Rattle.acn_asks.specs.declared.asked.Unmet.TheVariants.{Conflict, NoMemory}

-- no number was asked, and to avoid these
pub record OnlyAvoids (wanted : List Ask) (avoided : List ℤ) : Type 0 where
  pub no_equal : (n : ℤ) → IsAsked wanted (Equal n) → ⊥
  pub avoids : (k : ℤ) → IsAsked wanted (Avoid k) → among avoided k ≡ true
  pub asked : (k : ℤ) → among avoided k ≡ true → IsAsked wanted (Avoid k)

-- the least number that answers was asked, or only numbers to avoid were
abbrev pub Fixes : (fixed : Bool) → (wanted : List Ask) → (least : ℤ) → (avoided : List ℤ) → Type 0
Fixes true wanted least avoided = IsAsked wanted (Equal least)
Fixes false wanted least avoided = OnlyAvoids wanted avoided

pub record KeepsNumbers (set : List (ℤ × ℤ)) (wanted : List Ask) (fixed : Bool) (least : ℤ) (avoided : List ℤ) : Type 0 where
  pub answer : LeastAnswer set wanted least
  pub fixes : Fixes fixed wanted least avoided

-- These asks are kept, of a slot with these numbers: some number meets them all.
abbrev pub Keeps : (set : List (ℤ × ℤ)) → (wanted : List Ask) → Asked → Type 0
Keeps set wanted kept = KeepsNumbers set wanted kept.fixed kept.least kept.avoided.items

-- no permitted number meets this ask and those before it, and this one before it contradicts it
pub record Contradicted (set : List (ℤ × ℤ)) (before : List Ask) (wanted : Ask) (earlier : Option Ask) : Type 0 where
  pub never : Meetable set (before ++ wanted ∷ []) → ⊥
  pub because : Earlier before wanted earlier

-- why an ask isn't added to those that are kept
abbrev pub Refuses : (set : List (ℤ × ℤ)) → Asked → (wanted : Ask) → Unmet → Type 0
Refuses set kept wanted (Conflict earlier) = (before : List Ask) → Keeps set before kept → Contradicted set before wanted (option_map ask_of earlier)
Refuses set kept wanted NoMemory = Unit {0}
