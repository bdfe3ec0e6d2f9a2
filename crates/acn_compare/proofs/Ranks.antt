-- Reasons are told by their ranks.
use Rattle.std.proofs.Common.{◌≡◌, ℕ, suc, ◌<◌, ◌≤◌, refl, arith, subst}
use Rattle.acn_grammar.specs.Grammar.{Grammar}
use Rattle.acn_compare.specs.Accepts.{Answering, rank, Agree}
use Rattle.acn_compare.specs.declared.answer.Reason.{Reason}
use Rattle.acn_compare.specs.declared.answer.Reason.TheVariants as because
use Rattle.std.proofs.lemmas.Bool.{cases_lt}
use mathlib.Core.Logic.{⊎_elim}

pub by_rank : (r q : Reason) → rank r ≡ rank q → r ≡ q
by_rank because.Kind because.Kind e = refl
by_rank because.Align because.Align e = refl
by_rank because.Coding because.Coding e = refl
by_rank because.Values because.Values e = refl
by_rank because.Names because.Names e = refl
by_rank because.Fields because.Fields e = refl
by_rank because.Presence because.Presence e = refl
by_rank because.Determinant because.Determinant e = refl
by_rank because.Alternatives because.Alternatives e = refl
by_rank because.Kind _ e = absurd (omega arith)
by_rank because.Align _ e = absurd (omega arith)
by_rank because.Coding _ e = absurd (omega arith)
by_rank because.Values _ e = absurd (omega arith)
by_rank because.Names _ e = absurd (omega arith)
by_rank because.Fields _ e = absurd (omega arith)
by_rank because.Presence _ e = absurd (omega arith)
by_rank because.Determinant _ e = absurd (omega arith)
by_rank because.Alternatives _ e = absurd (omega arith)

pub at_least : (r : Reason) → 1 ≤ rank r
at_least because.Kind = omega arith
at_least because.Align = omega arith
at_least because.Coding = omega arith
at_least because.Values = omega arith
at_least because.Names = omega arith
at_least because.Fields = omega arith
at_least because.Presence = omega arith
at_least because.Determinant = omega arith
at_least because.Alternatives = omega arith

pub at_most : (r : Reason) → rank r < 10
at_most because.Kind = omega arith
at_most because.Align = omega arith
at_most because.Coding = omega arith
at_most because.Values = omega arith
at_most because.Names = omega arith
at_most because.Fields = omega arith
at_most because.Presence = omega arith
at_most because.Determinant = omega arith
at_most because.Alternatives = omega arith

-- the reasons below a rank don't hold of two nodes
abbrev pub Below : Answering → Grammar → Grammar → ℕ → Type 0
Below by g h n = (r : Reason) → rank r < n → Agree by r g h

module _ (by : Answering) (g h : Grammar) where
  pub below_first : Below by g h 1
  below_first r l = absurd (let m = at_least r in omega arith)

  pub below_next : (r : Reason) → Below by g h (rank r) → Agree by r g h → Below by g h (suc (rank r))
  below_next r b a q l = ⊎_elim (λ m. b q m) (λ m. subst (λ z. Agree by z g h) (by_rank r q (omega arith)) a) (cases_lt (rank q) (rank r))

  pub below_all : Below by g h 10 → (r : Reason) → Agree by r g h
  below_all b r = b r (at_most r)
