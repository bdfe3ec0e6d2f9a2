use Rattle.std.proofs.Common.{refl, sym, ◌∙◌}
use Rattle.acn_asn_syntax.proofs.Views.{view_Boolean, view_Null, view_Integer, view_Enumerated, view_OctetString, view_BitString, view_Ia5String, view_Sequence, view_Choice, view_Ref}
use Rattle.acn_set_elements.proofs.Bases.{at_base, at_list}
use Rattle.acn_set_elements.specs.Written.{named_of}
use Rattle.acn_set_elements.proofs.numbers.named_of.Goals as goal

pub returns-in-Boolean : goal.returns-in-Boolean
returns-in-Boolean c = sym (at_base named_of c.in-Boolean.is view_Boolean)

pub returns-in-Null : goal.returns-in-Null
returns-in-Null c = sym (at_base named_of c.in-Null.is view_Null)

pub returns-in-Enumerated : goal.returns-in-Enumerated
returns-in-Enumerated c = sym (at_base named_of c.in-Enumerated.is (view_Enumerated c.in-Enumerated.field-0))

pub returns-in-OctetString : goal.returns-in-OctetString
returns-in-OctetString c = sym (at_base named_of c.in-OctetString.is view_OctetString)

pub returns-in-BitString : goal.returns-in-BitString
returns-in-BitString c = sym (at_base named_of c.in-BitString.is view_BitString)

pub returns-in-Ia5String : goal.returns-in-Ia5String
returns-in-Ia5String c = sym (at_base named_of c.in-Ia5String.is view_Ia5String)

pub returns-in-Sequence : goal.returns-in-Sequence
returns-in-Sequence c = sym (at_base named_of c.in-Sequence.is (view_Sequence c.in-Sequence.field-0))

pub returns-in-SequenceOf : goal.returns-in-SequenceOf
returns-in-SequenceOf c = sym (at_list named_of _ _ c.in-SequenceOf.is (λ t. refl) (λ d t. refl))

pub returns-in-Choice : goal.returns-in-Choice
returns-in-Choice c = sym (at_base named_of c.in-Choice.is (view_Choice c.in-Choice.field-0))

pub returns-in-Ref : goal.returns-in-Ref
returns-in-Ref c = sym (at_base named_of c.in-Ref.is (view_Ref c.in-Ref.field-0 c.in-Ref.field-1))

pub returns-in-Integer : goal.returns-in-Integer
returns-in-Integer c = c.listed.ensures ∙ sym (at_base named_of c.in-Integer.is (view_Integer _))
