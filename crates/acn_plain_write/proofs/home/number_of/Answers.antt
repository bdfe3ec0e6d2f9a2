use Rattle.std.proofs.Common.{◌++◌, ◌∙◌, ap, sym, subst, rules, List, ℕ}
use Rattle.std.proofs.lemmas.Int.{to_z-of_z}
use Rattle.std.specs.Int.{w128}
use Rattle.acn_asks.specs.Heard.{Hears}
use Rattle.acn_plain_write.proofs.Homes.{least_one}
use Rattle.acn_plain_write.proofs.home.number_of.Goals as goal

pub returns : goal.returns
returns c x h =
    let set = c.args.determinant.now.leaf.now.set in
    let here = c.items-2.ensures ∙ (c.in_ok-field.ensures ∙ ap (λ (steps : List ℕ). c.args.path.now ++ steps) c.items.ensures) in
    to_z-of_z w128 c.least_of.result (record { sfits = search rules })
    ∙ least_one set h.wanted c.least_of.result x (c.least_of.ensures h.wanted (subst (λ (f : List ℕ). Hears c.args.determinant.now.leaf.now.set h.wanted c.args.heard.now f) (sym here) h.hears)) h.least
