use Rattle.std.proofs.Common.{sym}
use Rattle.acn_asn_syntax.proofs.Views.{view_Set, view_Size, view_Containing}
use Rattle.acn_set_elements.proofs.Bases.{at_constraint}
use Rattle.acn_set_elements.specs.Stands.{is_containing}
use Rattle.acn_set_elements.proofs.stand.is_containing.Goals as goal

pub returns-in-Set : goal.returns-in-Set
returns-in-Set c = sym (at_constraint (λ d. is_containing (0, d)) c.in-Set.is (view_Set _))

pub returns-in-Size : goal.returns-in-Size
returns-in-Size c = sym (at_constraint (λ d. is_containing (0, d)) c.in-Size.is (view_Size _))

pub returns-in-Containing : goal.returns-in-Containing
returns-in-Containing c = sym (at_constraint (λ d. is_containing (0, d)) c.in-Containing.is (view_Containing _))
