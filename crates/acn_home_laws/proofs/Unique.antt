-- Of things in preorder of their paths no two have one path.
use Rattle.std.proofs.Common.{◌≡◌, inl, inr, true≢false, List, [], ◌∷◌, map, sym, ap, ◌∙◌, Less, is_eq}
use Rattle.std.specs.Cmp.Lexicographic.{texts_ties}
use Rattle.std.specs.List.Sorted.{IsStrictlySortedBy}
use Rattle.acn_homes.specs.Homes.{Path, Rises, preorder}
use Rattle.acn_home_laws.proofs.Members.{In, each_has, is_mapped}
use Rattle.acn_home_laws.proofs.Onward.{is_same}

never_behind : {A : Type 0} (p q : Path) → p ≡ q → preorder p q ≡ Less → A
never_behind p q e h = absurd (true≢false (sym (is_same p q e) ∙ (texts_ties p q ∙ ap is_eq h)))

pub one_there : {X : Type 0} (path : X → Path) (xs : List X) → Rises (map path xs) → (x y : X) → In x xs → In y xs → path x ≡ path y → x ≡ y
unfolding IsStrictlySortedBy
one_there path [] r x y m k e = absurd m
one_there path (z ∷ xs) r x y (inl a) (inl b) e = a ∙ sym b
one_there path (z ∷ xs) r x y (inl a) (inr k) e = never_behind (path z) (path y) (ap path (sym a) ∙ e) (each_has (λ q. preorder (path z) q ≡ Less) (map path xs) r.0 (path y) (is_mapped path xs y k))
one_there path (z ∷ xs) r x y (inr m) (inl b) e = never_behind (path z) (path x) (ap path (sym b) ∙ sym e) (each_has (λ q. preorder (path z) q ≡ Less) (map path xs) r.0 (path x) (is_mapped path xs x m))
one_there path (z ∷ xs) r x y (inr m) (inr k) e = one_there path xs r.1 x y m k e
