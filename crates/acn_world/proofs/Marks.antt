-- What is in a set of places, and in the places that are still to come.
use Rattle.std.proofs.Common.{◌≡◌, Bool, true, false, cond, ◌&&◌, ◌||◌, nat_eq, refl, ◌∙◌, ap}
use Rattle.std.specs.Cmp.{nat_eq_equiv}
use Rattle.acn_index.specs.World.{is_same}
use Rattle.acn_index.specs.declared.sources.TypeId.{TypeId}

moved : (a b c rest : Bool) → a ≡ b → (cond a true c || rest) ≡ (c || (b || rest))
moved true true true rest e = refl
moved true true false rest e = refl
moved false false true rest e = refl
moved false false false rest e = refl
moved true false c rest e = absurd (cc e)
moved false true c rest e = absurd (cc e)

swapped : (p q : TypeId) → is_same p q ≡ is_same q p
swapped p q = ap (λ b. b && nat_eq p.item q.item) (nat_eq_equiv.symm p.module q.module) ∙ ap (λ b. nat_eq q.module p.module && b) (nat_eq_equiv.symm p.item q.item)

pub one_more : (p q : TypeId) (c rest : Bool) → (cond (is_same p q) true c || rest) ≡ (c || (is_same q p || rest))
one_more p q c rest = moved (is_same p q) (is_same q p) c rest (swapped p q)

pub or_false : (b : Bool) → b ≡ (b || false)
or_false true = refl
or_false false = refl
