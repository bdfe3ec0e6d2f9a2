-- What was asked of the fields of a packet, each by its path. (This profile's own.)
use Rattle.std.specs.Prelude.{◌≡◌, ℕ, ℤ, List, [], ◌∷◌, Option, Some, None, cond, option_map}
use Rattle.acn_grammar.specs.Asks.{Ask, same_name}
use Rattle.acn_grammar.specs.Faults.{ask_of}
use Rattle.acn_asks.specs.Kept.{Keeps, Contradicted}
use Rattle.acn_asks.specs.declared.asked.Asked.{Asked}
use Rattle.acn_asks.specs.declared.asked.Unmet.{Unmet}
use Rattle.acn_asks.specs.declared.asked.Unmet.TheVariants.{Conflict, NoMemory}

-- what is kept of the asks of the field at a path
abbrev pub kept_of : (field : List ℕ) → List (List ℕ × Asked) → Option Asked
kept_of field [] = None
kept_of field (e ∷ es) = cond (same_name field e.0) (Some e.1) (kept_of field es)

-- nothing was asked, or the asks are kept
abbrev pub IsKept : (set : List (ℤ × ℤ)) → (wanted : List Ask) → Option Asked → Type 0
IsKept set wanted None = wanted ≡ []
IsKept set wanted (Some kept) = Keeps set wanted kept

-- These were asked of the field, whose slot has these numbers: nothing, or what some number meets.
abbrev pub Hears : (set : List (ℤ × ℤ)) → (wanted : List Ask) → List (List ℕ × Asked) → (field : List ℕ) → Type 0
Hears set wanted heard field = IsKept set wanted (kept_of field heard)

-- why an ask of a field isn't added to those that were heard
abbrev pub Declines : (set : List (ℤ × ℤ)) → List (List ℕ × Asked) → (field : List ℕ) → (wanted : Ask) → Unmet → Type 0
Declines set heard field wanted (Conflict earlier) = (before : List Ask) → Hears set before heard field → Contradicted set before wanted (option_map ask_of earlier)
Declines set heard field wanted NoMemory = Unit {0}

-- why a first ask can't be kept
abbrev pub DeclinesFirst : (set : List (ℤ × ℤ)) → (wanted : Ask) → Unmet → Type 0
DeclinesFirst set wanted (Conflict earlier) = Contradicted set [] wanted (option_map ask_of earlier)
DeclinesFirst set wanted NoMemory = Unit {0}
