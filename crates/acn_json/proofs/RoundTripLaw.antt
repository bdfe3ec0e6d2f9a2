-- The line of a value gives the value back.
use Rattle.std.proofs.Common.{◌≡◌, ℕ, List, [], Some, IsUtf8, refl, ap, ◌∙◌, arith}
use Rattle.std.proofs.lemmas.Str.{is_utf8-from_IsUtf8}
use Rattle.serde_json.specs.Read.{read}
use Rattle.serde_json.specs.Data as json
use Rattle.serde_json.specs.Written.{compact_text}
use Rattle.acn_json.specs.Lines.{json_of}
use Rattle.acn_json.specs.Reads.{json_in, or_not_json, after, value_from}
use Rattle.acn_json.specs.RoundTrip.{LinesGiveTheValue}
use Rattle.acn_json.proofs.Back.{value_back}
use Rattle.acn_json.proofs.CanReadLaw.{can_read}
use Rattle.acn_json.proofs.DistinctLaw.{distinct}
use Rattle.acn_json.proofs.Plain.{plain-read}
use Rattle.acn_json.proofs.Said.{plain, shallow, text_utf8, is_text}

json-is : (line : List ℕ) (j : json.Data) → IsUtf8 line → read line ≡ Some j → json_in line ≡ Some j
json-is line j u h = rw (is_utf8-from_IsUtf8 line u) h

pub lines_give : LinesGiveTheValue
lines_give g d tree names fit said =
    let j = json_of g d in
    let whole = plain g d said in
    let deep = shallow 0 127 g d (can_read g tree) (omega arith) in
    let utf8 = text_utf8 j whole (is_text g d names said) in
    let read-back = plain-read j whole deep in
    ap (λ o. after (or_not_json o) (value_from [] g)) (json-is (compact_text j) j utf8 read-back) ∙ value_back g (distinct g tree) [] d fit said
