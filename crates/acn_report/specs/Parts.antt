-- The parts of printed lines.
use Rattle.std.specs.Prelude.{ℕ, List, [], ◌∷◌, Option, Some, None, codes}
use Rattle.std.specs.Fmt.{decimal, signed_decimal}
use Rattle.std.specs.List.{concat}
use Rattle.acn_grammar.specs.declared.fault.Reason.{Reason}
use Rattle.acn_grammar.specs.declared.fault.Reason.TheVariants.{Short, OutOfRange, NotMinimal, BadDigit, BadCharacter, BadPattern, TooLong, SizeOutOfRange, NoAlternative, ContentSize, PastContent}
use Rattle.acn_grammar.specs.declared.unfit.Ask.{Ask}
use Rattle.acn_grammar.specs.declared.unfit.Ask.TheVariants.{Equal, Avoid}
use Rattle.acn_report.specs.Digits.{bits_text, hex_text}
use Rattle.acn_report.specs.Names.{path_text, place_text, alternative_text}
use Rattle.acn_report.specs.Slots.{slot_text, slot_names}
use Rattle.acn_report.specs.declared.part.Part.{Part}
use Rattle.acn_report.specs.declared.part.Part.TheVariants as part

-- why a node can't be read, with what is kept of it
abbrev pub reason_text : Reason → List ℕ
reason_text Short = codes "Short"
reason_text (OutOfRange x) = concat (codes "OutOfRange " ∷ signed_decimal x ∷ [])
reason_text NotMinimal = codes "NotMinimal"
reason_text BadDigit = codes "BadDigit"
reason_text BadCharacter = codes "BadCharacter"
reason_text BadPattern = codes "BadPattern"
reason_text TooLong = codes "TooLong"
reason_text (SizeOutOfRange n) = concat (codes "SizeOutOfRange " ∷ decimal n ∷ [])
reason_text NoAlternative = codes "NoAlternative"
reason_text (ContentSize octets used) = concat (codes "ContentSize " ∷ decimal octets ∷ codes " " ∷ decimal used ∷ [])
reason_text PastContent = codes "PastContent"

-- what is asked of a determinant
abbrev pub ask_text : Ask → List ℕ
ask_text (Equal n) = concat (codes "=" ∷ signed_decimal n ∷ [])
ask_text (Avoid k) = concat (codes "!=" ∷ signed_decimal k ∷ [])

abbrev pub earlier_text : Option Ask → List ℕ
earlier_text None = codes "-"
earlier_text (Some ask) = ask_text ask

abbrev pub part_text : Part → List ℕ
part_text (part.Text text) = text.now
part_text (part.Name name) = name.now
part_text (part.Count n) = decimal n
part_text (part.Number x) = signed_decimal x.now
part_text (part.Path tree path) = path_text tree.now path.now
part_text (part.Place tree path) = place_text tree.now path.now
part_text (part.Slot tree s) = slot_text tree.now s
part_text (part.SlotNames tree s) = slot_names tree.now s
part_text (part.Alternative tree path k) = alternative_text tree.now path.now k
part_text (part.Bits bits) = bits_text bits.now
part_text (part.Hex bits) = hex_text bits.now
part_text (part.Reason reason) = reason_text reason.now
part_text (part.Earlier ask) = earlier_text ask.now
part_text (part.Asked ask) = ask_text ask.now
