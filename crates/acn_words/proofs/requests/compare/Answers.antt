use Rattle.std.proofs.Common.{rules, ◌≡◌, ℕ, ◌<◌, ◌≤◌, Bool, true, List, [], ◌∷◌, length, drop, map, string_bytes, String, Global, option_map, slice_index_or, refl, ap, subst, ◌∙◌, arith, ◌-◌, take, take_all, length-drop}
use Rattle.acn_words.specs.Names.{TypeName, named, is_type}
use Rattle.acn_words.specs.Requests as spec
use Rattle.acn_words.specs.View.{type_view}
use Rattle.acn_words.proofs.requests.compare.Goals as goal

behind : (ws : List (String Global)) (old : String Global) (t : TypeName) → 1 ≤ length ws → old ≡ slice_index_or ws 0 old → is_type (string_bytes old) ≡ true → t ≡ named (string_bytes old)
    → option_map (λ p. spec.compare t p.0 p.1) (spec.type_and_files (map string_bytes (drop 1 ws))) ≡ spec.with_types (map string_bytes ws)
behind [] old t h is a b = absurd (omega arith)
behind (w ∷ ws) old t h is a b = rw (← is, a, b) refl

whole : (ws : List (String Global)) → take (length ws - 1) (drop 1 ws) ≡ drop 1 ws
whole ws =
    let left = length-drop 1 ws in
    take_all (length ws - 1) (drop 1 ws) (omega (arith, left))

pub returns-in-Some-clause-request : goal.returns-in-Some-clause-request
returns-in-Some-clause-request c =
    let same : c.as_bytes.result.now ≡ string_bytes c.old-item.result = search rules in
    let is_type_name = subst (λ (b : List ℕ). is_type b ≡ true) same c.in-Some.ensures.0 in
    let names = subst (λ (b : List ℕ). type_view c.in-Some.old ≡ named b) same c.in-Some.ensures.1 in
    c.against.ensures.request ∙ (ap (λ (ws : List (String Global)). option_map (λ p. spec.compare (type_view c.in-Some.old) p.0 p.1) (spec.type_and_files (map string_bytes ws))) (whole c.args.rest.now)
    ∙ behind c.args.rest.now c.old-item.result (type_view c.in-Some.old) c.in-len1-up.len_at_least c.old-item.is is_type_name names)
