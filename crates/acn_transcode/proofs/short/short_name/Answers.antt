use Rattle.std.proofs.Common.{◌≡◌, ℕ, List, ◌+◌, ◌<◌, ◌≤◌, [], ◌∷◌, ◌++◌, length, drop, set, refl, sym, ◌∙◌, rules, arith}
use Rattle.std.proofs.lemmas.Grind.{common_steps}
use Rattle.acn_json.proofs.Escapes.{plain-escape}
use Rattle.acn_transcode.proofs.ShortTexts.{name_put}
use Rattle.acn_transcode.proofs.short.short_name.Goals as goal

pub returns : goal.returns
returns c =
    let name = c.args.name.now in
    let over = c.put_over.new.text in
    let few : length name ≤ 6 = grind (arith, common_steps) in
    let zeros : List ℕ = drop (1 + length name) (34 ∷ 0 ∷ 0 ∷ 0 ∷ 0 ∷ 0 ∷ 0 ∷ 0 ∷ []) in
    let put : over ≡ (34 ∷ []) ++ name ++ zeros = search rules in
    let inside : 1 + length name < length over = grind (arith, common_steps) in
    record { few = omega (arith, few); shown = name_put name over (set over (1 + length name) 34) zeros (1 + length name) (plain-escape name (sym c.all_plain.ensures ∙ c.if-not-all_plain.false)) refl put inside refl }
