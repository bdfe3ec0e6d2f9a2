-- One difference comes first.
use Rattle.std.proofs.Common.{◌≡◌, ℤ, List, [], ◌∷◌, ◌++◌, Option, Some, None, refl, sym, ap, ◌∙◌, arith, subst, inl, inr}
use Rattle.std.proofs.lemmas.Bool.{cases_lt}
use Rattle.std.proofs.lemmas.Int.{ints}
use Rattle.std.specs.Prelude.{◌≤ℤ◌}
use mathlib.Core.Logic.{⊎_elim}
use Rattle.acn_num.specs.Ranges.{Ranges}
use Rattle.acn_grammar.specs.Grammar.{Grammar, node}
use Rattle.acn_compare.specs.Accepts.{Answering, Place, Agree, AllAgree, Differs, Keeps, Lost, IsLost, sets_of, answering, placed, rank}
use Rattle.acn_compare.specs.Laws.{OneFirstDifference}
use Rattle.acn_compare.specs.declared.answer.Reason.{Reason}
use Rattle.acn_compare.specs.declared.answer.Reason.TheVariants as because
use Rattle.acn_compare.proofs.Ranks.{by_rank}

-- the heads and the tails of equal lists
tails : {A : Type 0} {x y : A} {xs ys : List A} → x ∷ xs ≡ y ∷ ys → xs ≡ ys
tails e = cc

heads_same : {A : Type 0} {x y : A} {xs ys : List A} → x ∷ xs ≡ y ∷ ys → x ≡ y
heads_same e = cc

module _ (by : Answering) where
  -- two places of one list before which all agree, and at which something differs
  same_place : (xs ys as' bs : List Place) (p q : Place) (r s : Reason) → xs ++ p ∷ as' ≡ ys ++ q ∷ bs → AllAgree by xs → AllAgree by ys → (Agree by r p.old p.new → ⊥) → (Agree by s q.old q.new → ⊥) → p ≡ q
  same_place [] [] as' bs p q r s e a b d f = heads_same e
  same_place [] (y ∷ ys) as' bs p q r s e a b d f = absurd (d (subst (λ (z : Place). Agree by r z.old z.new) (sym (heads_same e)) (b.0 r)))
  same_place (x ∷ xs) [] as' bs p q r s e a b d f = absurd (f (subst (λ (z : Place). Agree by s z.old z.new) (heads_same e) (a.0 s)))
  same_place (x ∷ xs) (y ∷ ys) as' bs p q r s e a b d f = same_place xs ys as' bs p q r s (tails e) a.1 b.1 d f

  same_reason : (g h : Grammar) (r s : Reason) (m n : Option ℤ) → Differs by g h r m → Differs by g h s n → r ≡ s
  same_reason g h r s m n d f = ⊎_elim (λ l. absurd (d.differs (f.earlier r l))) (λ l. ⊎_elim (λ k. absurd (f.differs (d.earlier s k))) (λ k. by_rank r s (omega arith)) (cases_lt (rank s) (rank r))) (cases_lt (rank r) (rank s))

between : {x y : ℤ} → x ≤ℤ y → y ≤ℤ x → x ≡ y
between a b = omega (arith, ints)

one_lost : (old new : Ranges) (x y : ℤ) → IsLost old new x → IsLost old new y → x ≡ y
one_lost old new x y a b = between (a.first y b.had b.lost) (b.first x a.had a.lost)

same_lost : (olds news : List Ranges) (x y : ℤ) → Lost olds news x → Lost olds news y → x ≡ y
same_lost [] news x y a b = absurd a
same_lost (o ∷ os) [] x y a b = absurd a
same_lost (o ∷ os) (n ∷ ns) x y (inl a) (inl b) = one_lost o n x y a b
same_lost (o ∷ os) (n ∷ ns) x y (inl a) (inr b) = absurd (a.lost (b.0 x a.had))
same_lost (o ∷ os) (n ∷ ns) x y (inr a) (inl b) = absurd (b.lost (a.0 y b.had))
same_lost (o ∷ os) (n ∷ ns) x y (inr a) (inr b) = same_lost os ns x y a.1 b.1

same_number : (r : Reason) (g h : Grammar) (m n : Option ℤ) → Keeps r g h m → Keeps r g h n → m ≡ n
same_number because.Values (node a f) (node b f') (Some x) (Some y) k l = ap Some (same_lost (sets_of f) (sets_of f') x y k l)
same_number because.Values g h None n k l = absurd k
same_number because.Values g h (Some x) None k l = absurd l
same_number _ g h (Some x) n k l = absurd k
same_number _ g h None (Some y) k l = absurd l
same_number _ g h None None k l = refl

pub one_first_difference : OneFirstDifference
one_first_difference old new path path' r s m n d f =
    let by = answering (placed old new) in
    let at = same_place by d.before f.before d.after f.after d.here f.here r s (sym d.whole ∙ f.whole) d.agree f.agree d.least.differs f.least.differs in
    let least : Differs by d.here.old d.here.new s n = subst (λ (z : Place). Differs by z.old z.new s n) (sym at) f.least in
    let why = same_reason by d.here.old d.here.new r s m n d.least least in
    (d.path_is ∙ ap (λ (z : Place). z.path) at ∙ sym f.path_is, why, same_number s d.here.old d.here.new m n (subst (λ z. Keeps z d.here.old d.here.new m) why d.least.keeps) least.keeps)
