-- What an alternative breaks.
use Rattle.std.proofs.Common.{◌≡◌, ℕ, zero, suc, List, [], ◌∷◌, ◌++◌, Some, None, refl, sym, ap}
use Rattle.acn_grammar.specs.Grammar.{Grammar, Alternatives, Data, no_alternatives, alternative}
use Rattle.acn_grammar.specs.Meets.{breaches, alternative_breaches}
use Rattle.acn_grammar.specs.Paths.{alternative_at}
use Rattle.acn_step_breach.proofs.Inners.{some_is}

-- what the alternative of an index breaks
pub case_breaks : (path : List ℕ) (i : ℕ) (cases : Alternatives) (j : ℕ) (g : Grammar) (d : Data) → Some g ≡ alternative_at cases j → alternative_breaches path i cases j d ≡ breaches (path ++ i ∷ []) g d
case_breaks path i no_alternatives j g d e = cc
case_breaks path i (alternative name h tests more) zero g d e = ap (λ (x : Grammar). breaches (path ++ i ∷ []) x d) (sym (some_is g h e))
case_breaks path i (alternative name h tests more) (suc j) g d e = case_breaks path i more j g d e

pub no_case_breaks : (path : List ℕ) (i : ℕ) (cases : Alternatives) (j : ℕ) (d : Data) → None ≡ alternative_at cases j → alternative_breaches path i cases j d ≡ []
no_case_breaks path i no_alternatives j d e = refl
no_case_breaks path i (alternative name h tests more) zero d e = cc
no_case_breaks path i (alternative name h tests more) (suc j) d e = no_case_breaks path i more j d e
