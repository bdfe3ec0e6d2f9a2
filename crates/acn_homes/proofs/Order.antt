-- Lists of paths in preorder are told by what is among them.
use Rattle.std.proofs.Common.{◌≡◌, Bool, true, false, ◌||◌, true≢false, List, [], ◌∷◌, refl, sym, ap, subst, ◌∙◌, Ordering, Less, Equal, Greater, is_eq}
use Rattle.std.specs.Cmp.Lexicographic.{bytes_decides, texts_ties}
use Rattle.std.specs.List.{AllByRecursion}
use Rattle.std.specs.List.Sorted.{IsStrictlySortedBy}
use Rattle.std.specs.Ordering.{ordering_reverse}
use Rattle.std.proofs.lemmas.Bool.{or_from}
use Rattle.std.proofs.lemmas.Cmp.{nat_list_cmp_total}
use Rattle.acn_homes.specs.Homes.{Path, preorder, same, is_among, Rises}

-- each of them stands behind the path
abbrev pub Behind : Path → List Path → Type 0
Behind x ys = AllByRecursion (λ y. preorder x y ≡ Less) ys

pub same_is : (p q : Path) → same p q ≡ true → p ≡ q
same_is p q h = (bytes_decides p q).0 h

pub same_itself : (p : Path) → same p p ≡ true
same_itself p = (bytes_decides p p).1 refl

pub same_from : (p q : Path) → preorder p q ≡ Equal → p ≡ q
same_from p q h = same_is p q (texts_ties p q ∙ ap is_eq h)

pub differs : (p q : Path) → preorder p q ≡ Less → same p q ≡ false
differs p q h = texts_ties p q ∙ ap is_eq h

pub turned : (p q : Path) → preorder p q ≡ Greater → preorder q p ≡ Less
turned p q h = nat_list_cmp_total.antisymm q p ∙ ap ordering_reverse h

pub differs_back : (p q : Path) → preorder p q ≡ Less → same q p ≡ false
differs_back p q h = texts_ties q p ∙ ap is_eq (nat_list_cmp_total.antisymm q p ∙ ap ordering_reverse h)

pub less_than_itself : {A : Type 0} (p : Path) → preorder p p ≡ Less → A
less_than_itself p h = absurd (true≢false (sym (same_itself p) ∙ differs p p h))

pub behind_more : (b x : Path) (ys : List Path) → preorder b x ≡ Less → Behind x ys → Behind b ys
behind_more b x [] h a = tt
behind_more b x (y ∷ ys) h a = (nat_list_cmp_total.trans b x y h a.0, behind_more b x ys h a.1)

pub not_among : (x : Path) (ys : List Path) → Behind x ys → is_among x ys ≡ false
not_among x [] a = refl
not_among x (y ∷ ys) a = or_from (same x y) (is_among x ys) (differs x y a.0) (not_among x ys a.1)

-- ---- two lists in preorder, with the same paths among them

pub first_there : (a b : Bool) → a ≡ true → (a || b) ≡ true
first_there true b h = refl
first_there false b h = absurd (true≢false (sym h))

pub no_first : (a b : Bool) → a ≡ false → (a || b) ≡ b
no_first true b h = absurd (true≢false h)
no_first false b h = refl

pub head_among : (x : Path) (xs : List Path) → is_among x (x ∷ xs) ≡ true
head_among x xs = first_there (same x x) (is_among x xs) (same_itself x)

tails_same : (x : Path) (xs ys : List Path) → Behind x xs → Behind x ys → ((q : Path) → is_among q (x ∷ xs) ≡ is_among q (x ∷ ys)) → (q : Path) → is_among q xs ≡ is_among q ys
tails_same x xs ys a b h q = by (same q x) refl
  where
    by : (t : Bool) → same q x ≡ t → is_among q xs ≡ is_among q ys
    by true e = subst (λ (z : Path). is_among z xs ≡ is_among z ys) (sym (same_is q x e)) (not_among x xs a ∙ sym (not_among x ys b))
    by false e = sym (no_first (same q x) (is_among q xs) e) ∙ (h q ∙ no_first (same q x) (is_among q ys) e)

clash : {A : Type 0} (x y : Path) (xs ys : List Path) → preorder x y ≡ Less → Behind y ys → is_among x (x ∷ xs) ≡ is_among x (y ∷ ys) → A
clash x y xs ys e b h = absurd (true≢false (sym (head_among x xs) ∙ (h ∙ not_among x (y ∷ ys) (e, behind_more x y ys e b))))

heads_same : (x y : Path) (xs ys : List Path) → Behind x xs → Behind y ys → ((q : Path) → is_among q (x ∷ xs) ≡ is_among q (y ∷ ys))
    → (((q : Path) → is_among q xs ≡ is_among q ys) → xs ≡ ys) → ◌≡◌ {A = List Path} (x ∷ xs) (y ∷ ys)
heads_same x y xs ys a b h go = by (preorder x y) refl
  where
    even : x ≡ y → ◌≡◌ {A = List Path} (x ∷ xs) (y ∷ ys)
    even e =
        let b' = subst (λ (z : Path). Behind z ys) (sym e) b in
        let h' = subst (λ (z : Path). (q : Path) → is_among q (x ∷ xs) ≡ is_among q (z ∷ ys)) (sym e) h in
        ap (λ (z : Path). z ∷ xs) e ∙ ap (λ (zs : List Path). y ∷ zs) (go (tails_same x xs ys a b' h'))

    by : (o : Ordering) → preorder x y ≡ o → ◌≡◌ {A = List Path} (x ∷ xs) (y ∷ ys)
    by Less e = clash x y xs ys e b (h x)
    by Equal e = even (same_from x y e)
    by Greater e = clash y x ys xs (turned x y e) a (sym (h y))

pub same_lists : (xs ys : List Path) → Rises xs → Rises ys → ((q : Path) → is_among q xs ≡ is_among q ys) → xs ≡ ys
unfolding IsStrictlySortedBy
same_lists [] [] r s h = refl
same_lists [] (y ∷ ys) r s h = absurd (true≢false (sym (head_among y ys) ∙ sym (h y)))
same_lists (x ∷ xs) [] r s h = absurd (true≢false (sym (head_among x xs) ∙ h x))
same_lists (x ∷ xs) (y ∷ ys) r s h = heads_same x y xs ys r.0 s.0 h (λ g. same_lists xs ys r.1 s.1 g)
