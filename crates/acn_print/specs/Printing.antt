-- The texts of pieces, and what printing a text does to an output. (This program's own.)
use Rattle.std.specs.Prelude.{ℕ, ◌≤◌, List, Option, Result, OnOk, OnErr}
use Rattle.std.specs.Fmt.{decimal, signed_decimal}
use Rattle.acn_outside.specs.Counts.{Rose}
use Rattle.acn_outside.specs.Moves.{Gains}
use Rattle.acn_outside.specs.Whole.{GainsFront}
use Rattle.acn_outside.specs.declared.traits.Failed.{Failed}
use Rattle.acn_print.specs.declared.piece.Piece.{Piece}
use Rattle.acn_print.specs.declared.piece.Piece.TheVariants.{Text, Name, Count, Number}

abbrev pub piece_text : Piece → List ℕ
piece_text (Text text) = text.now
piece_text (Name name) = name.now
piece_text (Count n) = decimal n
piece_text (Number x) = signed_decimal x

-- the bytes that an output took, where they are told, and its count of faults
abbrev pub Output : Type 0
Output = Option (List ℕ) × ℕ

-- A text was printed. On Ok the output gained exactly this text. Where printing failed it gained a front of the text, and the count of faults rose.
pub record Prints (text : List ℕ) (before after : Output) (result : Result (Unit {0}) Failed) : Type 0 where
  pub written : OnOk result (Gains before.0 after.0 text)
  pub front : OnErr result (GainsFront before.0 after.0 text)
  pub failed : OnErr result (Rose before.1 after.1)
  pub count : before.1 ≤ after.1
