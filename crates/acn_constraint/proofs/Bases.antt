-- What stands between SEQUENCE and OF, and the base of a type whose form is known.
use Rattle.std.proofs.Common.{◌≡◌, ℕ, Option, Some, None, Result, Ok, Err, sym, ap, ◌∙◌}
use Rattle.std.specs.Prelude.{IfOk, map, option_map}
use Rattle.std.specs.Option.{option_to_list}
use Rattle.acn_asn_syntax.specs.Mirror as plain
use Rattle.acn_asn_syntax.specs.View.{base_view, constraint_view, type_view}
use Rattle.acn_asn_syntax.specs.declared.types.AsnType.{AsnType}
use Rattle.acn_asn_syntax.specs.declared.types.AsnBase.{AsnBase}
use Rattle.acn_asn_syntax.specs.declared.types.AsnBase.TheVariants as base
use Rattle.acn_asn_syntax.specs.declared.types.Constraint.{Constraint}
use Rattle.acn_asn_syntax.specs.declared.types.AsnBase.TheViews.{out-AsnType}
use Rattle.acn_index.specs.Chains.{base_part}
use Rattle.acn_asn_syntax.proofs.Views.{view_Of, view_SizeOf, open_type}
use Rattle.acn_constraint.specs.Constraints.{own_constraint}

-- what stands between SEQUENCE and OF
pub own_between : (k : ℕ) {b : AsnBase} (c : Option Constraint) (t : AsnType) → b ≡ base.SequenceOf c t → own_constraint k (base_view b) ≡ map (λ (d : plain.Constraint). (k, d)) (option_to_list (option_map constraint_view c))
own_between k None t e = ap (λ (x : AsnBase). own_constraint k (base_view x)) e ∙ ap (own_constraint k) (view_Of t)
own_between k (Some d) t e = ap (λ (x : AsnBase). own_constraint k (base_view x)) e ∙ ap (own_constraint k) (view_SizeOf d t)

pub base_level : (t : AsnType) → base_part (type_view t) ≡ base_view (out-AsnType t).base
base_level t = ap base_part (open_type t)

-- a fact about an answer, of equal data
pub if_ok : {A T E R : Type 0} (f : A → T) (view : R → T) (r : Result R E) {d e : A} → e ≡ d → IfOk r (λ s. view s ≡ f d) → IfOk r (λ s. view s ≡ f e)
if_ok f view (Ok v) q h = h ∙ ap f (sym q)
if_ok f view (Err v) q h = h
