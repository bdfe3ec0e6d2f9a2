-- Which slots have a hole.
use Rattle.std.proofs.Common.{◌≡◌, ℕ, zero, suc, Bool, true, false, List, [], ◌∷◌, ◌++◌, set, remove, Option, Some, None, nat_eq, if◌then◌else◌, refl, sym, ap, ◌∙◌}
use Rattle.std.specs.Prelude.{slice_get, is_some}
use Rattle.acn_bits.specs.Overwrite.{Gap}
use Rattle.acn_fill.specs.declared.spot.Spot.{Spot}
use Rattle.acn_fill.specs.Table.{place, spot_of, have_holes, have_sets}

holes-push : (gaps : List (Option Gap)) (g : Option Gap) → have_holes (gaps ++ g ∷ []) ≡ have_holes gaps ++ is_some g ∷ []
holes-push [] g = refl
holes-push (x ∷ gaps) g = ap (λ z. is_some x ∷ z) (holes-push gaps g)

sets-push : (xs : List Spot) (e : Spot) → have_sets (xs ++ e ∷ []) ≡ have_sets xs ++ is_some e.set ∷ []
sets-push [] e = refl
sets-push (x ∷ xs) e = ap (λ z. is_some x.set ∷ z) (sets-push xs e)

pub tied-push : (gaps : List (Option Gap)) (g : Option Gap) (xs : List Spot) (e : Spot) → have_holes gaps ≡ have_sets xs → is_some g ≡ is_some e.set → have_holes (gaps ++ g ∷ []) ≡ have_sets (xs ++ e ∷ [])
tied-push gaps g xs e h k = holes-push gaps g ∙ (ap (λ z. z ++ is_some g ∷ []) h ∙ (ap (λ z. have_sets xs ++ z ∷ []) k ∙ sym (sets-push xs e)))

holes-remove : (gaps : List (Option Gap)) (i : ℕ) → have_holes (remove gaps i) ≡ remove (have_holes gaps) i
holes-remove [] zero = refl
holes-remove [] (suc i) = refl
holes-remove (g ∷ gaps) zero = refl
holes-remove (g ∷ gaps) (suc i) = ap (λ z. is_some g ∷ z) (holes-remove gaps i)

sets-remove : (xs : List Spot) (i : ℕ) → have_sets (remove xs i) ≡ remove (have_sets xs) i
sets-remove [] zero = refl
sets-remove [] (suc i) = refl
sets-remove (x ∷ xs) zero = refl
sets-remove (x ∷ xs) (suc i) = ap (λ z. is_some x.set ∷ z) (sets-remove xs i)

pub tied-remove : (gaps gaps' : List (Option Gap)) (xs xs' : List Spot) (i : ℕ) → have_holes gaps ≡ have_sets xs → gaps' ≡ remove gaps i → xs' ≡ remove xs i → have_holes gaps' ≡ have_sets xs'
tied-remove gaps gaps' xs xs' i h p q = ap have_holes p ∙ (holes-remove gaps i ∙ (ap (λ z. remove z i) h ∙ (sym (sets-remove xs i) ∙ sym (ap have_sets q))))

pub sets-set : (s : ℕ) (xs : List Spot) (e e' : Spot) → spot_of s xs ≡ Some e → is_some e'.set ≡ is_some e.set → have_sets (set xs (place s xs) e') ≡ have_sets xs
sets-set s [] e e' h k = cc
sets-set s (x ∷ xs) e e' h k = go (nat_eq x.slot s) h (λ q. sets-set s xs e e' q k)
  where
    go : (b : Bool) → (if b then Some x else spot_of s xs) ≡ Some e → (spot_of s xs ≡ Some e → have_sets (set xs (place s xs) e') ≡ have_sets xs) → have_sets (set (x ∷ xs) (if b then 0 else suc (place s xs)) e') ≡ have_sets (x ∷ xs)
    go true q f = let p : x ≡ e = cc in ap (λ z. z ∷ have_sets xs) (k ∙ ap (λ z. is_some z.set) (sym p))
    go false q f = ap (λ z. is_some x.set ∷ z) (f q)

-- the hole of a slot, if it has one
pub gap-kind : (s : ℕ) (xs : List Spot) (gaps : List (Option Gap)) (e : Spot) → have_holes gaps ≡ have_sets xs → spot_of s xs ≡ Some e → (g : Option Gap) × (slice_get gaps (place s xs) ≡ Some g) × (is_some g ≡ is_some e.set)
gap-kind s [] gaps e t h = cc
gap-kind s (x ∷ xs) [] e t h = cc
gap-kind s (x ∷ xs) (g ∷ gs) e t h = go (nat_eq x.slot s) h (λ q. gap-kind s xs gs e (let r : have_holes gs ≡ have_sets xs = cc in r) q)
  where
    go : (b : Bool) → (if b then Some x else spot_of s xs) ≡ Some e → (spot_of s xs ≡ Some e → (o : Option Gap) × (slice_get gs (place s xs) ≡ Some o) × (is_some o ≡ is_some e.set))
        → (o : Option Gap) × (slice_get (g ∷ gs) (if b then 0 else suc (place s xs)) ≡ Some o) × (is_some o ≡ is_some e.set)
    go true q f = let p : x ≡ e = cc in let r : is_some g ≡ is_some x.set = cc in (g, refl, r ∙ ap (λ z. is_some z.set) p)
    go false q f = f q

pub with_hole : (o : Option (Option Gap)) → (g : Option Gap) × (o ≡ Some g) × (is_some g ≡ true) → (gap : Gap) × (o ≡ Some (Some gap))
with_hole o (None, p, q) = cc
with_hole o (Some gap, p, q) = (gap, p)

pub without_hole : (o : Option (Option Gap)) → (g : Option Gap) × (o ≡ Some g) × (is_some g ≡ false) → o ≡ Some None
without_hole o (None, p, q) = p
without_hole o (Some gap, p, q) = cc
