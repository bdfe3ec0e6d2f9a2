-- What is noted in turn keeps the first place of each name.
use Rattle.std.proofs.Common.{◌≡◌, ℕ, Bool, true, false, cond, List, [], ◌∷◌, ◌++◌, Option, Some, None, is_some, refl, sym, ap, subst, ◌∙◌, true≢false}
use Rattle.std.specs.Str.{bytes_eq}
use Rattle.std.specs.Cmp.Lexicographic.{bytes_decides}
use Rattle.acn_num.specs.Names.{Name}
use Rattle.acn_firsts.specs.Placed.{place_of, noted, noted_all}

abbrev or_else : Option ℕ → Option ℕ → Option ℕ
or_else None b = b
or_else (Some x) b = Some x

or_none : (x : Option ℕ) → or_else x None ≡ x
or_none None = refl
or_none (Some x) = refl

chosen : (b : Bool) (i : ℕ) (x y : Option ℕ) → cond b (Some i) (or_else x y) ≡ or_else (cond b (Some i) x) y
chosen true i x y = refl
chosen false i x y = refl

grouped : (x : Option ℕ) (b : Bool) (i : ℕ) (y : Option ℕ) → or_else (or_else x (cond b (Some i) None)) y ≡ or_else x (cond b (Some i) y)
grouped (Some x) b i y = refl
grouped None true i y = refl
grouped None false i y = refl

joined : (q : Name) (xs ys : List (Name × ℕ)) → place_of q (xs ++ ys) ≡ or_else (place_of q xs) (place_of q ys)
unfolding place_of
joined q [] ys = refl
joined q (x ∷ xs) ys = ap (cond (bytes_eq q x.0) (Some x.1)) (joined q xs ys) ∙ chosen (bytes_eq q x.0) x.1 (place_of q xs) (place_of q ys)

there : (x : Option ℕ) (b : Bool) (i : ℕ) → (b ≡ true → is_some x ≡ true) → x ≡ or_else x (cond b (Some i) None)
there (Some x) b i h = refl
there None true i h = absurd (true≢false (sym (h refl)))
there None false i h = refl

-- one name more
added : (b : Bool) (q n : Name) (i : ℕ) (es : List (Name × ℕ)) → is_some (place_of n es) ≡ b → place_of q (cond b es (es ++ (n, i) ∷ [])) ≡ or_else (place_of q es) (cond (bytes_eq q n) (Some i) None)
unfolding place_of
added true q n i es e = there (place_of q es) (bytes_eq q n) i (λ same. subst (λ z. is_some (place_of z es) ≡ true) (sym ((bytes_decides q n).0 same)) e)
added false q n i es e = joined q es ((n, i) ∷ [])

several : (q : Name) (es all : List (Name × ℕ)) → place_of q (noted_all es all) ≡ or_else (place_of q es) (place_of q all)
unfolding place_of noted noted_all
several q es [] = sym (or_none (place_of q es))
several q es (e ∷ more) =
    several q (noted es e.0 e.1) more ∙ (ap (λ z. or_else z (place_of q more)) (added (is_some (place_of e.0 es)) q e.0 e.1 es refl) ∙ grouped (place_of q es) (bytes_eq q e.0) e.1 (place_of q more))

pub kept : (q : Name) (all : List (Name × ℕ)) → place_of q (noted_all [] all) ≡ place_of q all
unfolding place_of
kept q all = several q [] all
