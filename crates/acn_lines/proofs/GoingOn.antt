-- Lines that go on with the text of a value, and then with more.
use Rattle.std.proofs.Common.{◌≡◌, ℕ, Bool, true, false, List, [], ◌∷◌, ◌++◌, Option, Some, refl, sym, ap, ◌∙◌, append_assoc}
use Rattle.json.specs.Print.{quoted}
use Rattle.serde_json.specs.Data.{Members, no_members, member}
use Rattle.serde_json.specs.Data as json
use Rattle.serde_json.specs.Written.{compact_text, comma_if, members_text}
use Rattle.acn_grammar.specs.Grammar.{Data}
use Rattle.acn_grammar.specs.View.{OneField}
use Rattle.acn_lines.specs.Order.{member_at, HasKey, field_json}
use Rattle.acn_lines.proofs.Parts.{turn-text}
use Rattle.acn_printed.proofs.Pieces.{twice}

-- a comma, where one is wanted, a member, and others
pub member-text : (o : Option OneField) (p : Option Data) (x : OneField) (d : Data) (key : List ℕ) (later : Bool) (ms : Members) (text comma inner rest end : List ℕ) → o ≡ Some x → Some d ≡ p → HasKey o key → text ≡ comma_if later ++ comma → comma ≡ key ++ inner → inner ≡ compact_text (field_json x d) ++ rest
    → rest ≡ members_text true ms ++ end → text ≡ members_text later (member_at o p ms) ++ end
member-text o p x d key later ms text comma inner rest end f v k a b c e =
    let keyed = comma_if later ++ key in
    let whole = keyed ++ compact_text (field_json x d) in
    let one : text ≡ keyed ++ inner = twice text (comma_if later) key comma inner a b in
    let two : text ≡ whole ++ rest = twice text keyed (compact_text (field_json x d)) inner rest one c in
    let three : text ≡ (whole ++ members_text true ms) ++ end = twice text whole (members_text true ms) rest end two e in
    three ∙ ap (λ t. t ++ end) (turn-text o p x d key later ms [] (comma_if later) keyed whole f v k refl refl refl)

-- an object of one member
pub alternative-text : (k : List ℕ) (d : json.Data) (text opened key inner end rest : List ℕ) → text ≡ 123 ∷ opened → opened ≡ quoted k ++ key → key ≡ 58 ∷ inner → inner ≡ compact_text d ++ end → end ≡ 125 ∷ rest
    → text ≡ (123 ∷ members_text false (member k d no_members)) ++ rest
alternative-text k d text opened key inner end rest a b c e f =
    let one = compact_text d in
    a ∙ (ap (λ t. 123 ∷ t) (b ∙ ap (λ t. quoted k ++ t) (c ∙ ap (λ t. 58 ∷ t) (e ∙ ap (λ t. one ++ t) f)))
    ∙ sym (ap (λ t. 123 ∷ t) (append_assoc (quoted k) (58 ∷ (one ++ 125 ∷ [])) rest ∙ ap (λ t. quoted k ++ 58 ∷ t) (append_assoc one (125 ∷ []) rest))))
