use Rattle.std.proofs.Common.{ℕ, ℤ, List, map, ap, ◌∙◌}
use Rattle.std.specs.Prelude.{is_some}
use Rattle.acn_check.proofs.ItemNames.{placed}
use Rattle.acn_check.proofs.choices.is_item.Goals as goal

pub returns : goal.returns
returns c = λ items e. c.is_some.ensures ∙ (ap is_some (c.get.ensures.first (map (λ (item : List ℕ × ℤ). (item.0, 0)) items) e) ∙ placed c.args.name.now items)
