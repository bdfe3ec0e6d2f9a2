-- The turns of the lexer's loop.
use Rattle.std.proofs.Common.{◌≡◌, ℕ, suc, ◌+◌, ◌-◌, ◌<◌, List, [], ◌∷◌, ◌++◌, drop, Ok, Err, refl, sym, ap, ◌∙◌, append_assoc, arith}
use Rattle.std.proofs.lemmas.List.{append-nil}
use Rattle.acn_lex.specs.declared.scan.Step.{Step}
use Rattle.acn_lex.specs.declared.fault.LexFault.TheVariants as fault
use Rattle.acn_lex.specs.Scan.{step_at}
use Rattle.acn_lex.specs.Lexeme.{Placed}
use Rattle.acn_lex.specs.Lexing.{Outcome, with_front, by_token, by_step, lex_from}

abbrev pub told : List Placed → Outcome
told ts = Ok ts

pub turn : (front : List Placed) (n done room at : ℕ) (bytes : List ℕ) (whole : Outcome) (s : Step) → done < n → step_at bytes ≡ s → with_front front (lex_from (n - done) room at bytes) ≡ whole
    → with_front front (by_step room at bytes (λ k left. lex_from (n - (done + 1)) left (at + k) (drop k bytes)) s) ≡ whole
turn front n done room at bytes whole s lt e h =
    let k : n - done ≡ suc (n - (done + 1)) = omega arith in
    let one : lex_from (n - done) room at bytes ≡ by_step room at bytes (λ k left. lex_from (n - (done + 1)) left (at + k) (drop k bytes)) s = rw (k, e) refl in
    ap (with_front front) (sym one) ∙ h

pub ended : (front : List Placed) (whole : Outcome) → with_front front (Ok []) ≡ whole → whole ≡ Ok front
ended front whole h = sym h ∙ ap (λ (ts : List Placed). told ts) (append-nil front)

regroup : (front : List Placed) (t : Placed) (o : Outcome) → with_front front (with_front (t ∷ []) o) ≡ with_front (front ++ t ∷ []) o
regroup front t (Ok ts) = ap (λ (z : List Placed). told z) (sym (append_assoc front (t ∷ []) ts))
regroup front t (Err e) = refl

-- a token that there is room for
pub taken : (front : List Placed) (most had at : ℕ) (t : Placed) (more : ℕ → Outcome) (whole : Outcome) → had < most → with_front front (by_token at (most - had) t more) ≡ whole
    → with_front (front ++ t ∷ []) (more (most - (had + 1))) ≡ whole
taken front most had at t more whole lt h =
    let k : most - had ≡ suc (most - (had + 1)) = omega arith in
    let one : by_token at (most - had) t more ≡ with_front (t ∷ []) (more (most - (had + 1))) = rw k refl in
    sym (regroup front t (more (most - (had + 1)))) ∙ ap (with_front front) (sym one) ∙ h

-- a token that there is no room for
pub full : (front : List Placed) (most had at : ℕ) (t : Placed) (more : ℕ → Outcome) (whole : Outcome) → had ≡ most → with_front front (by_token at (most - had) t more) ≡ whole
    → whole ≡ Err (fault.TooManyTokens at)
full front most had at t more whole is h =
    let k : most - had ≡ 0 = omega arith in
    let one : by_token at (most - had) t more ≡ Err (fault.TooManyTokens at) = rw k refl in
    sym h ∙ ap (with_front front) one
