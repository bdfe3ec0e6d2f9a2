use Rattle.std.proofs.Common.{◌≡◌, ◌<◌, ◌≤◌, List, [], ◌∷◌, length, drop, map, string_bytes, String, Global, None, slice_index_or, refl, ap, ◌∙◌, arith, ◌-◌, take, take_all, length-drop}
use Rattle.acn_words.specs.Requests.{with_work, work_with}
use Rattle.acn_words.proofs.requests.work.Goals as goal

short : (ws : List (String Global)) → length ws < 3 → None ≡ with_work (map string_bytes ws)
short [] h = refl
short (a ∷ []) h = refl
short (a ∷ b ∷ []) h = refl
short (a ∷ b ∷ c ∷ ws) h = absurd (omega arith)

long : (ws : List (String Global)) (of start count : String Global) → 3 ≤ length ws → of ≡ slice_index_or ws 0 of → start ≡ slice_index_or ws 1 start → count ≡ slice_index_or ws 2 count
    → work_with (string_bytes of) (string_bytes start) (string_bytes count) (map string_bytes (drop 3 ws)) ≡ with_work (map string_bytes ws)
long [] of start count h a b c = absurd (omega arith)
long (x ∷ []) of start count h a b c = absurd (omega arith)
long (x ∷ y ∷ []) of start count h a b c = absurd (omega arith)
long (x ∷ y ∷ z ∷ ws) of start count h a b c = rw (a, b, c) refl

pub returns-in_default-clause-request : goal.returns-in_default-clause-request
returns-in_default-clause-request c = short c.args.rest.now c.in_default.len_below

whole : (ws : List (String Global)) → take (length ws - 3) (drop 3 ws) ≡ drop 3 ws
whole ws =
    let left = length-drop 3 ws in
    take_all (length ws - 3) (drop 3 ws) (omega (arith, left))

pub returns-in-len3-up-clause-request : goal.returns-in-len3-up-clause-request
returns-in-len3-up-clause-request c =
    c.work_with.ensures.request ∙ (ap (λ (ws : List (String Global)). work_with (string_bytes c.of-item.result) (string_bytes c.start-item.result) (string_bytes c.count-item.result) (map string_bytes ws)) (whole c.args.rest.now)
    ∙ long c.args.rest.now c.of-item.result c.start-item.result c.count-item.result c.in-len3-up.len_at_least c.of-item.is c.start-item.is c.count-item.is)
