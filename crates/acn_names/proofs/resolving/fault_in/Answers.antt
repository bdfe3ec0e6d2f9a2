use Rattle.std.proofs.Common.{◌≡◌, sym, ◌∙◌}
use Rattle.acn_world.specs.Faults.{early}
use Rattle.acn_names.proofs.resolving.fault_in.Goals as goal

pub returns-in-Some : goal.returns-in-Some
returns-in-Some c = early (sym (c.in_ok-early_fault.ensures {u = tt}) ∙ c.in-Some.is)
