-- Paths that are put into a list at their places.
use Rattle.std.proofs.Common.{◌≡◌, Bool, true, false, ◌||◌, List, [], ◌∷◌, fold, refl, sym, ap, ◌∙◌, Ordering, Less, Equal, Greater}
use Rattle.std.specs.List.Sorted.{IsStrictlySortedBy}
use Rattle.std.specs.Ordering.{match_ordering}
use Rattle.acn_homes.specs.Homes.{Path, preorder, same, is_among, put, Rises}
use Rattle.acn_homes.proofs.Order.{Behind, behind_more, turned, same_from}

put_behind : (b p : Path) (qs : List Path) → preorder b p ≡ Less → Behind b qs → Behind b (put qs p)
put_behind b p [] h a = (h, tt)
put_behind b p (q ∷ qs) h a = by (preorder p q) (put_behind b p qs h a.1)
  where
    by : (o : Ordering) → Behind b (put qs p) → Behind b (match_ordering o (p ∷ q ∷ qs) (q ∷ qs) (q ∷ put qs p))
    by Less k = (h, a)
    by Equal k = a
    by Greater k = (a.0, k)

pub put_rises : (qs : List Path) (p : Path) → Rises qs → Rises (put qs p)
unfolding IsStrictlySortedBy
put_rises [] p r = (tt, tt)
put_rises (q ∷ qs) p r = by (preorder p q) refl (put_rises qs p r.1)
  where
    by : (o : Ordering) → preorder p q ≡ o → Rises (put qs p) → Rises (match_ordering o (p ∷ q ∷ qs) (q ∷ qs) (q ∷ put qs p))
    by Less e k = ((e, behind_more p q qs e r.0), r)
    by Equal e k = r
    by Greater e k = (put_behind q p qs (turned p q e) r.0, k)

twice : (a b : Bool) → (a || b) ≡ (a || (a || b))
twice true b = refl
twice false b = refl

swapped : (a b c : Bool) → (a || (b || c)) ≡ (b || (a || c))
swapped true true c = refl
swapped true false c = refl
swapped false true c = refl
swapped false false c = refl

none_behind : (a : Bool) → a ≡ (a || false)
none_behind true = refl
none_behind false = refl

pub put_among : (q : Path) (qs : List Path) (p : Path) → is_among q (put qs p) ≡ (same q p || is_among q qs)
put_among q [] p = refl
put_among q (r ∷ rs) p = by (preorder p r) refl (put_among q rs p)
  where
    by : (o : Ordering) → preorder p r ≡ o → is_among q (put rs p) ≡ (same q p || is_among q rs) → is_among q (match_ordering o (p ∷ r ∷ rs) (r ∷ rs) (r ∷ put rs p)) ≡ (same q p || (same q r || is_among q rs))
    by Less e k = refl
    by Equal e k = twice (same q r) (is_among q rs) ∙ ap (λ (z : Path). same q z || (same q r || is_among q rs)) (sym (same_from p r e))
    by Greater e k = ap (λ (t : Bool). same q r || t) k ∙ swapped (same q r) (same q p) (is_among q rs)

pub nothing_rises : Rises []
unfolding IsStrictlySortedBy
nothing_rises = tt

pub all_rise : (xs qs : List Path) → Rises qs → Rises (fold put qs xs)
all_rise [] qs r = r
all_rise (x ∷ xs) qs r = all_rise xs (put qs x) (put_rises qs x r)

moved : (a b c : Bool) → ((a || b) || c) ≡ (b || (a || c))
moved true true c = refl
moved true false c = refl
moved false true c = refl
moved false false c = refl

pub all_among : (q : Path) (xs qs : List Path) → is_among q (fold put qs xs) ≡ (is_among q qs || is_among q xs)
all_among q [] qs = none_behind (is_among q qs)
all_among q (x ∷ xs) qs = all_among q xs (put qs x) ∙ (ap (λ (t : Bool). t || is_among q xs) (put_among q qs x) ∙ moved (same q x) (is_among q qs) (is_among q xs))
