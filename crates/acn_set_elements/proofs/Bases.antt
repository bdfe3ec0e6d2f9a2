-- What a definition says of a type or of a constraint whose form is known.
use Rattle.std.proofs.Common.{◌≡◌, Option, Some, None, ap, ◌∙◌}
use Rattle.acn_asn_syntax.specs.Mirror as plain
use Rattle.acn_asn_syntax.specs.View.{base_view, constraint_view, type_view}
use Rattle.acn_asn_syntax.specs.declared.types.AsnType.{AsnType}
use Rattle.acn_asn_syntax.specs.declared.types.AsnBase.{AsnBase}
use Rattle.acn_asn_syntax.specs.declared.types.AsnBase.TheVariants as base
use Rattle.acn_asn_syntax.specs.declared.types.Constraint.{Constraint}
use Rattle.acn_asn_syntax.proofs.Views.{view_Of, view_SizeOf}

pub at_base : {A : Type 0} (f : plain.AsnBase → A) {b c : AsnBase} {d : plain.AsnBase} → b ≡ c → base_view c ≡ d → f (base_view b) ≡ f d
at_base f e v = ap f (ap base_view e ∙ v)

pub of_list : {A : Type 0} (f : plain.AsnBase → A) {x : A} (c : Option Constraint) (t : AsnType) → ((t : plain.AsnType) → f (plain.sequence_of t) ≡ x) → ((d : plain.Constraint) (t : plain.AsnType) → f (plain.sequence_size d t) ≡ x) → f (base_view (base.SequenceOf c t)) ≡ x
of_list f None t bare sized = ap f (view_Of t) ∙ bare (type_view t)
of_list f (Some c) t bare sized = ap f (view_SizeOf c t) ∙ sized (constraint_view c) (type_view t)

pub at_list : {A : Type 0} (f : plain.AsnBase → A) {x : A} {b : AsnBase} (c : Option Constraint) (t : AsnType) → b ≡ base.SequenceOf c t → ((t : plain.AsnType) → f (plain.sequence_of t) ≡ x) → ((d : plain.Constraint) (t : plain.AsnType) → f (plain.sequence_size d t) ≡ x) → f (base_view b) ≡ x
at_list f c t e bare sized = ap (λ b. f (base_view b)) e ∙ of_list f c t bare sized

pub at_constraint : {A : Type 0} (f : plain.Constraint → A) {b c : Constraint} {d : plain.Constraint} → b ≡ c → constraint_view c ≡ d → f (constraint_view b) ≡ f d
at_constraint f e v = ap f (ap constraint_view e ∙ v)
