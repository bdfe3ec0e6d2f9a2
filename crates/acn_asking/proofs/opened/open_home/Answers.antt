use Rattle.std.proofs.Common.{sym, ap, subst, ◌∙◌, arith, map}
use Rattle.std.specs.List.{AllByRecursion}
use Rattle.acn_grammar.specs.View.{fields_view}
use Rattle.std.proofs.lemmas.Bool.Decides.{nat_tests}
use Rattle.acn_determinants.specs.Determinants.{IsLeafIn, steps_of}
use Rattle.acn_asking.proofs.Opens.{opened_home, opened_weaker, home_paths, on_ok}
use Rattle.acn_asking.proofs.opened.open_home.Goals as goal

pub returns-then-is_empty : goal.returns-then-is_empty
returns-then-is_empty c = opened_home _ c.args.home.now _ _ (grind (arith, nat_tests))

pub returns : goal.returns
returns c =
    on_ok c.open_all.result c.open_all.ensures (λ x.
    opened_weaker _ _ _ _ _ _ (home_paths c.args.path.now (fields_view c.args.fields.now) c.items.result.now c.args.home.now (ap (map steps_of) c.items.ensures ∙ c.in_ok-dets.ensures.steps))
    (λ root i. subst (λ ds. AllByRecursion (IsLeafIn root) ds) (sym c.items.ensures) (c.in_ok-dets.ensures.leaves root i)) x)
