-- The name of an alternative that was found.
use Rattle.std.proofs.Common.{◌≡◌, ℕ, zero, suc, ◌+◌, ◌<◌, Bool, true, false, cond, List, [], ◌∷◌, length, get_or, Option, Some, None, refl, sym, ap, subst, ◌∙◌, arith}
use Rattle.std.specs.Prelude.{IfSome}
use Rattle.acn_grammar.specs.Asks.{same_name}
use Rattle.acn_grammar.specs.View.{alternatives_view}
use Rattle.acn_grammar.specs.declared.node.Alternative.{Alternative}
use Rattle.acn_grammar.proofs.Characters.{same_name-is}
use Rattle.acn_lines.specs.Filled.{alternative_name}
use Rattle.acn_lines.specs.Taken.{alternative_number}
use Rattle.acn_lines.proofs.TakenLaw.{number_within, view_alternative}

pub alternative_named : (as' : List Alternative) (i : ℕ) (a : Alternative) → i < length as' → a ≡ get_or as' i a → alternative_name (alternatives_view as') i ≡ a.name
alternative_named [] i a h e = absurd (omega arith)
alternative_named (x ∷ xs) zero a h e = ap (λ c. alternative_name c zero) (view_alternative x xs) ∙ ap (λ y. y.name) (sym e)
alternative_named (x ∷ xs) (suc i) a h e = ap (λ c. alternative_name c (suc i)) (view_alternative x xs) ∙ alternative_named xs i a (omega arith) e

-- the alternative of a number has the name, the alternatives being numbered from k
abbrev Names : List ℕ → ℕ → List Alternative → Option ℕ → Type 0
Names name k as' None = Unit {0}
Names name k as' (Some n) = (i : ℕ) × (n ≡ k + i) × (alternative_name (alternatives_view as') i ≡ name)

names : (name : List ℕ) (k : ℕ) (as' : List Alternative) → Names name k as' (alternative_number name k (alternatives_view as'))
names name k [] = tt
names name k (x ∷ xs) = subst (λ c. Names name k (x ∷ xs) (alternative_number name k c)) (sym (view_alternative x xs)) (go (same_name x.name name) refl (alternative_number name (k + 1) (alternatives_view xs)) (names name (k + 1) xs))
  where
    go : (b : Bool) → same_name x.name name ≡ b → (o : Option ℕ) → Names name (k + 1) xs o → Names name k (x ∷ xs) (cond b (Some k) o)
    go true e o h = (0, omega arith, ap (λ c. alternative_name c 0) (view_alternative x xs) ∙ same_name-is x.name name e)
    go false e None h = tt
    go false e (Some n) h = (suc h.0, (let m = h.1 in omega arith), ap (λ c. alternative_name c (suc h.0)) (view_alternative x xs) ∙ h.2)

pub number_called : (name : List ℕ) (as' : List Alternative) (o : Option ℕ) → o ≡ alternative_number name 0 (alternatives_view as') → IfSome o (λ i. alternative_name (alternatives_view as') i ≡ name)
number_called name as' None e = tt
number_called name as' (Some i) e =
    let l = subst (Names name 0 as') (sym e) (names name 0 as') in
    let at : l.0 ≡ i = (let m = l.1 in omega arith) in
    subst (λ k. alternative_name (alternatives_view as') k ≡ name) at l.2

pub number_among : (name : List ℕ) (as' : List Alternative) (o : Option ℕ) → o ≡ alternative_number name 0 (alternatives_view as') → IfSome o (λ i. i < length as')
number_among name as' None e = tt
number_among name as' (Some i) e = (let w = number_within name 0 i as' e in omega arith)
