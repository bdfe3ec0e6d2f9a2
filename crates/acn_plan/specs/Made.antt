-- What the steps of a plan keep. (This profile's own.)
use Rattle.std.specs.Prelude.{◌≡◌, ◌≤◌, List, length}
use Rattle.acn_grammar.specs.ItemsNamed.{ItemsNamed}
use Rattle.acn_grammar.specs.declared.limits.TheConstants.{MOST_NODES}
use Rattle.acn_packet_laws.specs.Laws.{IsAccepted}
use Rattle.acn_plan.specs.Back.{root_of}
use Rattle.acn_plan.specs.Steps.{steps_of}
use Rattle.acn_plan.specs.declared.step.Step.{Step}

pub record IsMade (steps : List Step) : Type 0 where
  -- they are the steps of the root that they say
  pub said : steps_of (root_of steps) ≡ steps
  -- which is well formed and can be decoded
  pub accepted : IsAccepted (root_of steps)
  pub named : ItemsNamed (root_of steps)
  pub few : length steps ≤ MOST_NODES
