use Rattle.std.proofs.Common.{List, ap, sym, ◌∙◌, subst}
use Rattle.acn_asking.specs.Gathered.{paths_of, LeavesIn}
use Rattle.acn_asking.specs.declared.opened.Open.{Open}
use Rattle.acn_moments.proofs.Gathering.{opened_leaves, opened_paths}
use Rattle.acn_grammar.specs.Asks.{with_fields}
use Rattle.acn_grammar.specs.View.{fields_view}
use Rattle.acn_moments.proofs.home.with_home.Goals as goal

pub returns-clause-paths : goal.returns-clause-paths
returns-clause-paths c =
    ap paths_of c.from_vec.ensures ∙ (opened_paths _ _ _ _ c.in_ok-open_home.ensures ∙ ap (λ (os : List Open). with_fields c.args.path.now (fields_view c.args.fields.now) c.args.home.now (paths_of os)) c.in_ok-all.ensures)

pub returns-clause-leaves : goal.returns-clause-leaves
returns-clause-leaves c root sound leaves =
    subst (LeavesIn root) (sym c.from_vec.ensures) (opened_leaves root _ _ _ _ c.in_ok-open_home.ensures (subst (LeavesIn root) (sym c.in_ok-all.ensures) leaves) sound)
