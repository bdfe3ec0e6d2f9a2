-- Names that are numbered in turn.
use Rattle.std.proofs.Common.{◌≡◌, ℕ, zero, suc, Bool, true, false, cond, is_some, List, [], ◌∷◌, ◌++◌, length, Option, Some, None, refl, sym, ap, subst, ◌∙◌, inl, inr}
use Rattle.std.specs.Prelude.{slice_get, ◌⊎◌, OnOk, IfOk, Result, Ok, Err}
use Rattle.std.specs.Borrow.{Bor}
use Rattle.std.specs.Str.{bytes_eq}
use Rattle.std.specs.Cmp.Lexicographic.{bytes_decides}
use Rattle.std.proofs.lemmas.List.{map-append}
use Rattle.acn_firsts.specs.Placed.{place_of, noted}
use Rattle.acn_num.specs.Names.{Name}
use Rattle.acn_num.specs.declared.name.Name as tree
use Rattle.acn_ends.specs.declared.spot.Spot.{Spot}
use Rattle.acn_ends.specs.declared.ends.Ends.{Ends}
use Rattle.acn_ends.specs.Ends.{AreRight, end_of}
use Rattle.acn_index.specs.World.{World}
use Rattle.acn_index.specs.Steps.{names_view, AreNumbered, AreJumps, import_step}
use Rattle.acn_index.proofs.Sizes.{length_map}
use Rattle.acn_index.proofs.ImportJumps.{are_jumps}

-- nothing is noted, so all of it is right
pub nothing_wrong : (next : Spot → Option Spot) (ends : Ends) → ((p : Spot) → end_of ends p ≡ None) → AreRight next ends
nothing_wrong next ends none = (λ p q n f. let h = sym f ∙ none p in absurd (cc h), λ p f. let h = sym f ∙ none p in absurd (cc h))

pub all_jumps : {E : Type 0} (w : World) (numbers : List (Name × ℕ)) (names : List Name) (r : Result Ends E) → AreNumbered numbers names → IfOk r (AreRight (import_step w names)) → IfOk r (AreJumps w numbers)
all_jumps w numbers names (Ok ends) n h = are_jumps w numbers names ends n h
all_jumps w numbers names (Err e) n h = tt

-- ---- one name more

alone : (r q : Name) (i x : ℕ) (b : Bool) → bytes_eq r q ≡ b → cond b (Some i) None ≡ Some x → (bytes_eq r q ≡ true) × (i ≡ x)
alone r q i x true e h = (e, (cc h))
alone r q i x false e h = absurd (cc h)

module _ (r q : Name) (i x : ℕ) where
  either : (es : List (Name × ℕ)) (b : Bool) (n : ℕ) → cond b (Some n) (place_of r (es ++ (q, i) ∷ [])) ≡ Some x
      → (place_of r (es ++ (q, i) ∷ []) ≡ Some x → (place_of r es ≡ Some x) ⊎ ((bytes_eq r q ≡ true) × (i ≡ x)))
      → (cond b (Some n) (place_of r es) ≡ Some x) ⊎ ((bytes_eq r q ≡ true) × (i ≡ x))
  either es true n h more = inl h
  either es false n h more = more h

  placed : (es : List (Name × ℕ)) → place_of r (es ++ (q, i) ∷ []) ≡ Some x → (place_of r es ≡ Some x) ⊎ ((bytes_eq r q ≡ true) × (i ≡ x))
  unfolding place_of
  placed [] h = inr (alone r q i x (bytes_eq r q) refl h)
  placed (e ∷ es) h = either es (bytes_eq r e.0) e.1 h (placed es)

got_first : {A : Type 0} (xs ys : List A) (n : ℕ) (x : A) → slice_get xs n ≡ Some x → slice_get (xs ++ ys) n ≡ Some x
got_first [] ys n x e = absurd (cc e)
got_first (z ∷ xs) ys zero x e = e
got_first (z ∷ xs) ys (suc n) x e = got_first xs ys n x e

got_last : {A : Type 0} (xs : List A) (x : A) → slice_get (xs ++ x ∷ []) (length xs) ≡ Some x
got_last [] x = refl
got_last (z ∷ xs) x = got_last xs x

numbered_more : (es : List (Name × ℕ)) (names : List Name) (q : Name) → AreNumbered es names → AreNumbered (es ++ (q, length names) ∷ []) (names ++ q ∷ [])
numbered_more es names q h = λ r x p. elim (placed r q (length names) x es p) [
  | inl at ↦ got_first names (q ∷ []) x r (h r x at)
  | inr at ↦
      let same : r ≡ q = (bytes_decides r q).0 at.0 in
      subst (λ (n : ℕ). slice_get (names ++ q ∷ []) n ≡ Some r) at.1 (got_last names q ∙ ap Some (sym same))
]

noted_new : (es : List (Name × ℕ)) (q : Name) (i : ℕ) (o : Option ℕ) → None ≡ o → cond (is_some o) es (es ++ (q, i) ∷ []) ≡ es ++ (q, i) ∷ []
noted_new es q i None e = refl
noted_new es q i (Some x) e = absurd (cc e)

by_name : (es : List (Name × ℕ)) (names : List Name) (q : Name) → None ≡ place_of q es → AreNumbered es names → AreNumbered (noted es q (length names)) (names ++ q ∷ [])
unfolding noted
by_name es names q none h = subst (λ (z : List (Name × ℕ)). AreNumbered z (names ++ q ∷ [])) (sym (noted_new es q (length names) (place_of q es) none)) (numbered_more es names q h)

by_view : (es : List (Name × ℕ)) (n : Bor tree.Name) (a b : Name) (i : ℕ) (old more : List (Bor tree.Name)) → a ≡ n.now → b ≡ n.now → None ≡ place_of a es → i ≡ length old → more ≡ old ++ n ∷ [] → AreNumbered es (names_view old) → AreNumbered (noted es b i) (names_view more)
by_view es n a b i old more e f none l m h =
    let none_of : None ≡ place_of n.now es = subst (λ (z : Name). None ≡ place_of z es) e none in
    let long : length (names_view old) ≡ i = length_map (λ (n : Bor tree.Name). n.now) old ∙ sym l in
    let seen : names_view old ++ n.now ∷ [] ≡ names_view more = sym (map-append (λ (n : Bor tree.Name). n.now) old (n ∷ [])) ∙ ap names_view (sym m) in
    subst (λ (z : Name). AreNumbered (noted es z i) (names_view more)) (sym f)
    (subst (λ (k : ℕ). AreNumbered (noted es n.now k) (names_view more)) long
    (subst (λ (z : List Name). AreNumbered (noted es n.now (length (names_view old))) z) seen (by_name es (names_view old) n.now none_of h)))

pub named_more : {A E : Type 0} (r : Result A E) (es new : List (Name × ℕ)) (n : Bor tree.Name) (a b : Name) (i : ℕ) (old more : List (Bor tree.Name)) → a ≡ n.now → b ≡ n.now → None ≡ place_of a es → i ≡ length old → more ≡ old ++ n ∷ [] → AreNumbered es (names_view old)
    → OnOk r (new ≡ noted es b i) → OnOk r (AreNumbered new (names_view more))
named_more (Ok x) es new n a b i old more e f none l m h is = subst (λ (z : List (Name × ℕ)). AreNumbered z (names_view more)) (sym is) (by_view es n a b i old more e f none l m h)
named_more (Err x) es new n a b i old more e f none l m h is = tt

pub numbered_none : (es : List (Name × ℕ)) (names : List Name) → es ≡ [] → AreNumbered es names
unfolding place_of
numbered_none [] names e = λ q x h. absurd (cc h)
numbered_none (x ∷ es) names e = absurd (cc e)
