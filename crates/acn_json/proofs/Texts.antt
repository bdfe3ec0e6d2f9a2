-- The text of an object, one member at a time.
use Rattle.std.proofs.Common.{◌≡◌, ℕ, Bool, true, List, [], ◌∷◌, ◌++◌, ap, ◌∙◌, append_assoc}
use Rattle.serde_json.specs.Data.{Members, member}
use Rattle.serde_json.specs.Data as json
use Rattle.json.specs.Print.{quoted}
use Rattle.serde_json.specs.Written.{compact_text, comma_if, members_text}

pub members-turn : (later : Bool) (k : List ℕ) (j : json.Data) (ms : Members) (out mid keyed new whole : List ℕ) → mid ≡ out ++ comma_if later → keyed ≡ mid ++ (quoted k ++ 58 ∷ []) → new ≡ keyed ++ compact_text j
    → out ++ members_text later (member k j ms) ≡ whole → new ++ members_text true ms ≡ whole
members-turn later k j ms out mid keyed new whole p q r w =
    let rest = members_text true ms in
    let text = compact_text j in
    ap (λ t. t ++ rest) (r ∙ ap (λ t. t ++ text) (q ∙ ap (λ t. t ++ (quoted k ++ 58 ∷ [])) p))
    ∙ (append_assoc ((out ++ comma_if later) ++ (quoted k ++ 58 ∷ [])) text rest
    ∙ (append_assoc (out ++ comma_if later) (quoted k ++ 58 ∷ []) (text ++ rest)
    ∙ (append_assoc out (comma_if later) ((quoted k ++ 58 ∷ []) ++ (text ++ rest))
    ∙ (ap (λ t. out ++ (comma_if later ++ t)) (append_assoc (quoted k) (58 ∷ []) (text ++ rest)) ∙ w))))
