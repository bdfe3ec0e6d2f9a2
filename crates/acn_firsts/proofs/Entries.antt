-- The entries of a map as names with places.
use Rattle.std.proofs.Common.{◌≡◌, ℕ, true, false, cond, List, [], ◌∷◌, ◌++◌, Option, Some, None, is_some, refl, sym, ap, true≢false}
use Rattle.std.specs.Prelude.{map}
use Rattle.std.specs.Str.{bytes_eq}
use Rattle.std.specs.Map.{lookup}
use Rattle.acn_num.specs.Names.{Name}
use Rattle.acn_firsts.specs.Placed.{place_of, noted}

module _ {K : Type 0} (text : K → Name) where
  abbrev pub placed : List (K × ℕ) → List (Name × ℕ)
  placed es = map (λ (e : K × ℕ). (text e.0, e.1)) es

  pub looked_up : (q : Name) (es : List (K × ℕ)) → lookup (λ k. bytes_eq q (text k)) es ≡ place_of q (placed es)
  unfolding place_of
  looked_up q [] = refl
  looked_up q (e ∷ es) = ap (cond (bytes_eq q (text e.0)) (Some e.1)) (looked_up q es)

  pub one_more : (es : List (K × ℕ)) (k : K) (i : ℕ) → placed (es ++ (k, i) ∷ []) ≡ placed es ++ (text k, i) ∷ []
  one_more [] k i = refl
  one_more (e ∷ es) k i = ap (λ (z : List (Name × ℕ)). (text e.0, e.1) ∷ z) (one_more es k i)

pub there : (es : List (Name × ℕ)) (name : Name) (i : ℕ) → is_some (place_of name es) ≡ true → es ≡ noted es name i
unfolding noted
there es name i h = sym (ap (λ b. cond b es (es ++ (name, i) ∷ [])) h)

pub absent : (es : List (Name × ℕ)) (name : Name) (i : ℕ) → is_some (place_of name es) ≡ false → es ++ (name, i) ∷ [] ≡ noted es name i
unfolding noted
absent es name i h = sym (ap (λ b. cond b es (es ++ (name, i) ∷ [])) h)

pub is_none : {A : Type 0} (x : Option A) → is_some x ≡ false → x ≡ None
is_none None h = refl
is_none (Some x) h = absurd (true≢false h)
