use Rattle.std.proofs.Common.{sym, ◌∙◌}
use Rattle.acn_asn_syntax.proofs.Views.{view_Set, view_Size, view_Containing}
use Rattle.acn_set_elements.proofs.Bases.{at_constraint}
use Rattle.acn_constraint.specs.Asks.{asks}
use Rattle.acn_constraint.proofs.asks.asks_for_ends.Goals as goal

pub returns-in-Set : goal.returns-in-Set
returns-in-Set c = c.set_asks.ensures ∙ sym (at_constraint asks c.in-Set.is (view_Set _))

pub returns-in-Size : goal.returns-in-Size
returns-in-Size c = c.set_asks-in-Size.ensures ∙ sym (at_constraint asks c.in-Size.is (view_Size _))

pub returns-in-Containing : goal.returns-in-Containing
returns-in-Containing c = sym (at_constraint asks c.in-Containing.is (view_Containing _))
