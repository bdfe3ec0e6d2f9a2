use Rattle.std.proofs.Common.{◌++◌, ◌∙◌, ap, sym, subst, List, ℕ, ℤ}
use Rattle.acn_determinants.specs.declared.homes.Determinant.{Determinant}
use Rattle.acn_grammar.specs.View.{fields_view}
use Rattle.acn_plain_write.specs.Home.{AreLeast}
use Rattle.acn_plain_write.proofs.Homes.{home_least}
use Rattle.acn_plain_write.proofs.home.numbers_at_home.Goals as goal

pub home_numbers-requires : goal.home_numbers-requires
home_numbers-requires c =
    let r = c.requires in (
      c.args.home.now,
      r.2,
      subst (λ (all : List Determinant). AreLeast c.args.heard.now c.args.path.now all c.args.home.now r.2) (sym c.items.ensures)
          (home_least c.args.heard.now c.args.path.now r.0 (fields_view c.args.fields.now) c.args.home.now r.1 r.2 c.in_ok-all.all r.3 c.in_ok-all.ensures.steps c.in_ok-all.ensures.leaves),
    )

pub returns : goal.returns
returns c root ps xs h =
    c.in_ok-add_all.ensures ∙ ap (λ (n : List (ℕ × ℤ)). n ++ c.args.around.now) (c.in_ok-numbers.ensures c.args.home.now xs
    (subst (λ (all : List Determinant). AreLeast c.args.heard.now c.args.path.now all c.args.home.now xs) (sym c.items.ensures)
    (home_least c.args.heard.now c.args.path.now root (fields_view c.args.fields.now) c.args.home.now ps xs c.in_ok-all.all h c.in_ok-all.ensures.steps c.in_ok-all.ensures.leaves)))
