-- The first of a list.
use Rattle.std.proofs.Common.{◌≡◌, ℕ, true, false, List, [], ◌∷◌, ◌++◌, Option, Some, None, refl, ap, ◌∙◌}
use Rattle.std.specs.Prelude.{is_some}
use Rattle.std.specs.Option.{option_or}
use Rattle.std.specs.List.{filter_map}
use Rattle.std.proofs.lemmas.List.Elements.{filter_map-append}
use Rattle.acn_asn_syntax.specs.declared.types.Named.{Named}
use Rattle.acn_asn_syntax.specs.declared.values.AsnValue.{AsnValue}
use Rattle.acn_index.specs.World.{World}
use Rattle.acn_constraint.specs.Constraints.{first, low_among, low_number}

pub first_append : {A : Type 0} (xs ys : List A) → first (xs ++ ys) ≡ option_or (first xs) (first ys)
first_append [] ys = refl
first_append (x ∷ xs) ys = refl

-- the same of numbers that are too low
pub low_append : (w : World) (ns : List Named) (k : ℕ) (xs ys : List AsnValue) → low_among w ns k (xs ++ ys) ≡ option_or (low_among w ns k xs) (low_among w ns k ys)
low_append w ns k xs ys = ap first (filter_map-append (low_number w ns k) xs ys) ∙ first_append (filter_map (low_number w ns k) xs) (filter_map (low_number w ns k) ys)

pub option_or_some : {A : Type 0} (o p : Option A) → is_some o ≡ true → option_or o p ≡ o
option_or_some None p h = absurd cc
option_or_some (Some x) p h = refl

pub option_or_none : {A : Type 0} (o p : Option A) → is_some o ≡ false → option_or o p ≡ p
option_or_none None p h = refl
option_or_none (Some x) p h = absurd cc
