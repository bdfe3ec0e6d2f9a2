-- What routes keep.
use Rattle.std.specs.Prelude.{◌≡◌, ℕ, List, map}
use Rattle.std.specs.List.{AllByRecursion}
use Rattle.acn_grammar.specs.View.{grammar_of}
use Rattle.acn_lines.specs.Order.{IsOrder}
use Rattle.acn_plan.specs.Steps.{steps_of}
use Rattle.acn_route.specs.Listed.{Listed}
use Rattle.acn_route.specs.declared.route.Route.{Route}

-- the plan and the order of members are those of the tree
pub record IsReady (route : Route) : Type 0 where
  pub planned : steps_of (grammar_of route.checked.tree.root) ≡ route.plan.steps
  pub ordered : IsOrder (grammar_of route.checked.tree.root) route.lines.order

abbrev pub AreReady : List (ℕ × Route) → Type 0
AreReady entries = AllByRecursion (λ e. IsReady e.1) entries

abbrev pub listed : ℕ × Route → Listed
listed e = record { apid = e.0; tree = e.1.checked.tree }

abbrev pub all_listed : List (ℕ × Route) → List Listed
all_listed entries = map listed entries
