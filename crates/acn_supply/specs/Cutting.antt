-- Lines, which end at a line feed, and how far the next one is read. (This profile's own.)
use Rattle.std.specs.Prelude.{◌≡◌, ℕ, ◌+◌, ◌<◌, ◌≤◌, ◌==◌, not, Bool, true, false, IsTrue, List, [], ◌∷◌, ◌++◌, length, Option, Result, Ok, Err}
use Rattle.std.specs.List.{list_all}
use Rattle.acn_outside.specs.Moves.{Takes, IsUsedUp}
use Rattle.acn_supply.specs.Reading.{Supplied}
use Rattle.acn_supply.specs.declared.lines.Line.{Line}
use Rattle.acn_supply.specs.declared.lines.Line.TheVariants as line
use Rattle.acn_supply.specs.declared.lines.NoLine.{NoLine}
use Rattle.acn_supply.specs.declared.lines.NoLine.TheVariants.{TooLong, PastLimit, Failed, NoMemory}
use Rattle.acn_supply.specs.declared.lines.TheConstants.{MOST_LINE_BYTES}
use Rattle.acn_supply.specs.declared.window.TheConstants.{MOST_IN_HAND}

-- no line feed is among the bytes
abbrev pub IsOneLine : List ℕ → Type 0
IsOneLine bytes = IsTrue (list_all (λ b. not (b == 10)) bytes)

-- no more than can be in hand stands behind a front of one line
pub record IsJustAhead (bytes : List ℕ) : Type 0 where
  pub front : List ℕ
  pub behind : List ℕ
  pub whole : bytes ≡ front ++ behind
  pub one : IsOneLine front
  pub near : length behind ≤ MOST_IN_HAND

-- What a step to the next line did: `before` was in hand and `after` is, and of the input `given` was taken.
module _ (before after : Supplied) (i i' : Option (List ℕ)) where
  -- these bytes were taken of the input
  pub record Gets (given : List ℕ) : Type 0 where
    pub taken : Takes i i' given
    pub counted : after.left + length given ≡ before.left

  -- the next line came with its line feed
  pub record IsEnded (bytes : List ℕ) : Type 0 where
    pub given : List ℕ
    pub gets : Gets given
    pub cut : before.hand ++ given ≡ bytes ++ 10 ∷ after.hand
    pub one : IsOneLine bytes
    pub few : length bytes ≤ MOST_LINE_BYTES
    pub near : length after.hand < MOST_IN_HAND

  -- the input ends with these bytes, which may be none
  pub record IsLast (bytes : List ℕ) : Type 0 where
    pub given : List ℕ
    pub gets : Gets given
    pub whole : before.hand ++ given ≡ bytes
    pub none_left : after.hand ≡ []
    pub one : IsOneLine bytes
    pub few : length bytes ≤ MOST_LINE_BYTES
    pub used_up : IsUsedUp i'

  -- more bytes of a line came than a line may have
  pub record IsTooLong : Type 0 where
    pub given : List ℕ
    pub front : List ℕ
    pub back : List ℕ
    pub gets : Gets given
    pub cut : before.hand ++ given ≡ front ++ back
    pub one : IsOneLine front
    pub many : length front ≡ MOST_LINE_BYTES + 1
    pub near : length back ≤ MOST_IN_HAND

  -- the bytes up to the limit end inside a line, or at its end, and one byte more came
  pub record IsPast : Type 0 where
    pub given : List ℕ
    pub byte : ℕ
    pub taken : Takes i i' (given ++ byte ∷ [])
    pub full : length given ≡ before.left
    pub one : IsOneLine (before.hand ++ given)
    pub few : length (before.hand ++ given) ≤ MOST_LINE_BYTES

  -- what came ends inside a line, or at its end
  pub record IsCutOff : Type 0 where
    pub given : List ℕ
    pub gets : Gets given
    pub one : IsOneLine (before.hand ++ given)
    pub few : length (before.hand ++ given) ≤ MOST_LINE_BYTES

  -- some bytes were taken
  pub record GetsSome : Type 0 where
    pub given : List ℕ
    pub gets : Gets given
    pub ahead : IsJustAhead (before.hand ++ given)

  abbrev pub ReadsLine : Result Line NoLine → (bytes : List ℕ) → Type 0
  ReadsLine (Ok line.Ended) bytes = IsEnded bytes
  ReadsLine (Ok line.Last) bytes = IsLast bytes
  ReadsLine (Err TooLong) bytes = IsTooLong
  ReadsLine (Err PastLimit) bytes = IsPast
  ReadsLine (Err Failed) bytes = IsCutOff
  ReadsLine (Err NoMemory) bytes = GetsSome

-- What adding bytes to a line did: it was `old` and is `new`.
abbrev pub Appends : Result (Unit {0}) NoLine → (old bytes new : List ℕ) → Type 0
Appends (Ok x) old bytes new = (new ≡ old ++ bytes) × (length new ≤ MOST_LINE_BYTES)
Appends (Err TooLong) old bytes new = MOST_LINE_BYTES < length old + length bytes
Appends (Err NoMemory) old bytes new = Unit {0}
Appends (Err _) old bytes new = ⊥

-- What a step through what is in hand did: `hand` was in hand, and `left` is; the line was `old` and is `new`.
pub record Finds (hand left old new : List ℕ) : Type 0 where
  pub piece : List ℕ
  pub cut : hand ≡ piece ++ 10 ∷ left
  pub one : IsOneLine piece
  pub added : new ≡ old ++ piece
  pub few : length new ≤ MOST_LINE_BYTES

pub record FindsNone (hand left old new : List ℕ) : Type 0 where
  pub one : IsOneLine hand
  pub none_left : left ≡ []
  pub added : new ≡ old ++ hand
  pub few : length new ≤ MOST_LINE_BYTES

pub record FindsTooMuch (hand old : List ℕ) : Type 0 where
  pub front : List ℕ
  pub back : List ℕ
  pub cut : hand ≡ front ++ back
  pub one : IsOneLine front
  pub many : length (old ++ front) ≡ MOST_LINE_BYTES + 1

abbrev pub StepsOn : Result Bool NoLine → (hand left old new : List ℕ) → Type 0
StepsOn (Ok true) hand left old new = Finds hand left old new
StepsOn (Ok false) hand left old new = FindsNone hand left old new
StepsOn (Err TooLong) hand left old new = FindsTooMuch hand old
StepsOn (Err NoMemory) hand left old new = Unit {0}
StepsOn (Err _) hand left old new = ⊥
