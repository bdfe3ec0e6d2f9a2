-- What it says of a site that no reason holds there.
use Rattle.std.proofs.Common.{◌≡◌, ℕ, suc, ◌+◌, ◌≤◌, nat_lt, Bool, true, false, List, [], ◌∷◌, length, Option, Some, None, option_map, refl, arith}
use Rattle.std.specs.List.{AllByRecursion}
use Rattle.std.proofs.lemmas.Bool.Decides.{nat_tests}
use Rattle.std.specs.Option.{option_or}
use Rattle.acn_grammar.specs.declared.limits.TheConstants.{MOST_NODES}
use Rattle.acn_index.specs.World.{World}
use Rattle.acn_reasons.specs.Arguments.{has_wrong_arguments}
use Rattle.acn_reasons.specs.Braced.{has_no_such_field}
use Rattle.acn_reasons.specs.Constrained.{constraint_fault}
use Rattle.acn_reasons.specs.Paths.{bad_path}
use Rattle.acn_reasons.specs.Standing.{is_too_deep, repeated_attribute, attribute_not_here}
use Rattle.acn_sites.specs.Sites.{Site, Placed}
use Rattle.acn_survey.specs.Reasons.{Reason, first, given, too_deep, too_many_nodes, repeated, not_here, constraint, no_such_field, arguments, path, is_one_too_many, reasons_written, reason_at, fault_at, fault_from}

-- the reasons of which the laws speak
pub record FineSite (w : World) (s : Site) : Type 0 where
  pub number : ℕ
  pub none : reason_at w number s ≡ None
  pub shallow : is_too_deep s ≡ false
  pub stands : attribute_not_here s ≡ None
  pub constrained : constraint_fault w s ≡ None
  pub braces : has_no_such_field s ≡ false
  pub leads : bad_path w s ≡ None

pub none_given : {A B : Type 0} (f : A → B) (o : Option A) → option_map f o ≡ None → o ≡ None
none_given f None h = refl
none_given f (Some x) h = absurd (cc h)

pub no_either : {A : Type 0} (a b : Option A) → option_or a b ≡ None → (a ≡ None) × (b ≡ None)
no_either None b h = (refl, h)
no_either (Some x) b h = absurd (cc h)

not_given : (b : Bool) (r : Reason) → given b r ≡ None → b ≡ false
not_given true r h = absurd (cc h)
not_given false r h = refl

six_of : (a b c d e f g p : Option Reason) (rest : List (Option Reason)) → first (a ∷ b ∷ c ∷ d ∷ e ∷ f ∷ g ∷ p ∷ rest) ≡ None → (a ≡ None) × (b ≡ None) × (d ≡ None) × (e ≡ None) × (f ≡ None) × (p ≡ None)
six_of a b c d e f g p rest h =
    let i = no_either a (first (b ∷ c ∷ d ∷ e ∷ f ∷ g ∷ p ∷ rest)) h in
    let j = no_either b (first (c ∷ d ∷ e ∷ f ∷ g ∷ p ∷ rest)) i.1 in
    let k = no_either c (first (d ∷ e ∷ f ∷ g ∷ p ∷ rest)) j.1 in
    let l = no_either d (first (e ∷ f ∷ g ∷ p ∷ rest)) k.1 in
    let m = no_either e (first (f ∷ g ∷ p ∷ rest)) l.1 in
    let n = no_either f (first (g ∷ p ∷ rest)) m.1 in
    let o = no_either g (first (p ∷ rest)) n.1 in
    let q = no_either p (first rest) o.1 in
    (i.0, j.0, l.0, m.0, n.0, q.0)

parts : (w : World) (n : ℕ) (s : Site) → reason_at w n s ≡ None → (is_too_deep s ≡ false) × (is_one_too_many n ≡ false) × (attribute_not_here s ≡ None) × (constraint_fault w s ≡ None) × (has_no_such_field s ≡ false) × (bad_path w s ≡ None)
unfolding reason_at
parts w n s h =
    let r = six_of (given (is_too_deep s) too_deep) (given (is_one_too_many n) too_many_nodes) (option_map repeated (repeated_attribute s)) (option_map not_here (attribute_not_here s)) (option_map constraint (constraint_fault w s)) (given (has_no_such_field s) no_such_field) (given (has_wrong_arguments w s) arguments) (option_map path (bad_path w s)) (reasons_written w s) h in
    (not_given (is_too_deep s) too_deep r.0, not_given (is_one_too_many n) too_many_nodes r.1, none_given not_here (attribute_not_here s) r.2, none_given constraint (constraint_fault w s) r.3, not_given (has_no_such_field s) no_such_field r.4, none_given path (bad_path w s) r.5)

fine_site : (w : World) (n : ℕ) (s : Site) → reason_at w n s ≡ None → FineSite w s
fine_site w n s h = (let r = parts w n s h in record { number = n; none = h; shallow = r.0; stands = r.2; constrained = r.3; braces = r.4; leads = r.5 })

pub all_fine : (w : World) (n : ℕ) (ps : List Placed) → fault_from w n ps ≡ None → AllByRecursion (λ (p : Placed). FineSite w p.site) ps
unfolding fault_from
all_fine w n [] h = tt
all_fine w n (p ∷ ps) h =
    let o = no_either (fault_at w n p) (fault_from w (suc n) ps) h in
    (fine_site w n p.site (none_given _ (reason_at w n p.site) o.0), all_fine w (suc n) ps o.1)

-- no more than the limit of nodes
pub few_sites : (w : World) (n : ℕ) (ps : List Placed) → n ≤ MOST_NODES + 1 → fault_from w n ps ≡ None → n + length ps ≤ MOST_NODES + 1
unfolding fault_from
few_sites w n [] l h = omega (arith, l)
few_sites w n (p ∷ ps) l h =
    let o = no_either (fault_at w n p) (fault_from w (suc n) ps) h in
    let b = below n (parts w n p.site (none_given _ (reason_at w n p.site) o.0)).1 in
    let r = few_sites w (suc n) ps (omega (arith, b)) o.1 in
    omega (arith, r)
  where
    below : (n : ℕ) → nat_lt MOST_NODES n ≡ false → n ≤ MOST_NODES
    below n h = grind (arith, nat_tests)
