use Rattle.std.proofs.Common.{◌≡◌, ℕ, List, ◌+◌, ◌≤◌, [], ◌∷◌, ◌++◌, length, take, drop, rules, arith}
use Rattle.std.proofs.lemmas.Grind.{common_steps}
use Rattle.acn_transcode.proofs.ShortTexts.{minus_put}
use Rattle.acn_transcode.proofs.short.behind_minus.Goals as goal

pub returns : goal.returns
returns c text is =
    let short = c.args.short.now in
    let few : short.count ≤ 7 = grind (arith, common_steps) in
    let long : 7 ≤ length short.octets = grind (arith, common_steps) in
    let zeros : List ℕ = drop (1 + length (take 7 short.octets)) (45 ∷ 0 ∷ 0 ∷ 0 ∷ 0 ∷ 0 ∷ 0 ∷ 0 ∷ []) in
    let put : c.put_over.new.text ≡ (45 ∷ []) ++ take 7 short.octets ++ zeros = search rules in
    record { few = omega (arith, few); shown = minus_put short.octets c.put_over.new.text text zeros short.count long few is.shown put }
