-- Texts from place to place of their tokens.
use Rattle.std.proofs.Common.{◌≡◌, ℕ, zero, suc, ◌+◌, ◌<◌, ◌≤◌, List, [], ◌∷◌, length, drop, drop-cons, get_or, refl, sym, ap, ◌∙◌, arith}
use Rattle.std.specs.Prelude.{◌&&◌, if◌then◌else◌}
use Rattle.acn_set_elements.specs.Written.{is_quote, unquoted, unquoted_rest}

abbrev pub after : List ℕ → ℕ → List ℕ
after t at = unquoted_rest (drop at t)

abbrev next : ℕ → ℕ → List ℕ → List ℕ → List ℕ
next a b one two = if is_quote a && is_quote b then a ∷ one else a ∷ unquoted_rest two

-- one character from a place on, which has another behind it
pub after_step : (t : List ℕ) (at : ℕ) → at + 1 < length t → after t at ≡ (if is_quote (get_or t at 0) && is_quote (get_or t (suc at) 0) then get_or t at 0 ∷ after t (suc (suc at)) else get_or t at 0 ∷ after t (suc at))
after_step t at h =
    let e = drop-cons t (suc at) 0 (omega (arith, h)) in
    ap unquoted_rest (drop-cons t at 0 (omega (arith, h)) ∙ ap (λ r. get_or t at 0 ∷ r) e)
    ∙ ap (λ r. next (get_or t at 0) (get_or t (suc at) 0) (after t (suc (suc at))) r) (sym e)

pub after_end : (t : List ℕ) (at : ℕ) → length t ≤ at + 1 → after t at ≡ []
after_end [] zero h = refl
after_end [] (suc at) h = refl
after_end (c ∷ []) zero h = refl
after_end (c ∷ d ∷ cs) zero h = grind arith
after_end (c ∷ cs) (suc at) h = after_end cs at (omega (arith, h))

pub after_first : (t : List ℕ) → after t 1 ≡ unquoted t
after_first [] = refl
after_first (q ∷ cs) = refl
