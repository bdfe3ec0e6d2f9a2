use Rattle.std.proofs.Common.{[], ◌∷◌, ℕ, List, ap, sym, ◌∙◌, Bor}
use Rattle.std.proofs.lemmas.List.{map-append}
use Rattle.acn_firsts.specs.Placed.{noted, noted_at}
use Rattle.acn_num.specs.declared.name.Name as num
use Rattle.acn_num.specs.Names.{Name}
use Rattle.acn_repeated.specs.Named.{names_view}
use Rattle.acn_repeated.proofs.SeenNames.{noted_more}
use Rattle.acn_repeated.proofs.seen.see.Goals as goal

pub invariant_of-seen-in-Ok : goal.invariant_of-seen-in-Ok
invariant_of-seen-in-Ok c =
    let names = c.seen.inside.names.items in
    let name = c.args.name.now in
    let added = ap names_view (c.in_ok-push.ensures {u = tt}).items ∙ map-append (λ (n : Bor num.Name). n.now) names (c.args.name ∷ []) in
    (c.in-Ok.ensures {u = tt}).ok ∙ (ap (λ (n : Name). noted c.seen.inside.firsts n 0) c.bytes.ensures ∙ (ap (λ (all : List (Name × ℕ)). noted all name 0) c.seen.invariant ∙ (sym (noted_more [] (names_view names) name) ∙ ap (λ (all : List Name). noted_at [] all 0) (sym added))))
