-- A loop that reads the heads of list types, beside `chain`.
use Rattle.std.specs.Prelude.{Ok, Err}
use Rattle.std.proofs.Common.{◌≡◌, ℕ, suc, ◌+◌, ◌-◌, ◌<◌, ◌≤◌, List, [], ◌∷◌, ◌++◌, length, refl, sym, ap, ◌∙◌, arith}
use Rattle.acn_lex.specs.Lexeme.{Lexeme}
use Rattle.acn_cursor.specs.Steps.{Parser, and_then, pure, Fails, Outcome}
use Rattle.acn_cursor.specs.declared.stop.Stop.{Stop}
use Rattle.acn_cursor.specs.declared.stop.Stop.TheVariants.{Refused, NoMemory}
use Rattle.acn_asn_syntax.specs.declared.types.AsnType.{AsnType}
use Rattle.acn_asn_syntax.specs.declared.sets.Set.{Set}
use Rattle.acn_asn_types.specs.declared.heads.ListHead.{ListHead}
use Rattle.acn_asn_types.specs.declared.heads.Step.TheVariants as step
use Rattle.acn_asn_types.specs.Types.{list_type, wrap, step_at, chain}

-- the outcome with these heads around it
abbrev pub wrapped : List ListHead → Outcome AsnType → Outcome AsnType
wrapped hs (Err left) = Err left
wrapped hs (Ok p) = Ok (wrap hs p.0, p.1)

pub wrap_more : (hs : List ListHead) (h : ListHead) (t : AsnType) → wrap (hs ++ h ∷ []) t ≡ wrap hs (list_type h t)
wrap_more [] h t = refl
wrap_more (x ∷ hs) h t = ap (list_type x) (wrap_more hs h t)

wrapped_more : (hs : List ListHead) (h : ListHead) (o : Outcome AsnType) → wrapped hs (and_then o (λ t. pure (list_type h t))) ≡ wrapped (hs ++ h ∷ []) o
wrapped_more hs h (Err left) = refl
wrapped_more hs h (Ok p) = ap (λ t. Ok (t, p.1)) (sym (wrap_more hs h p.0))

module _ (sets : Parser Set) (inner : Parser AsnType) where
  abbrev left_of : ℕ → ℕ → List Lexeme → Outcome AsnType
  left_of n at ts = chain sets inner (n - at) ts

  pub one_more : (hs : List ListHead) (n at : ℕ) (ts : List Lexeme) (h : ListHead) (r : List Lexeme) (whole : Outcome AsnType) → at < n → step_at sets inner ts ≡ Ok (step.Head h, r)
      → wrapped hs (left_of n at ts) ≡ whole → wrapped (hs ++ h ∷ []) (left_of n (at + 1) r) ≡ whole
  one_more hs n at ts h r whole lt e i =
      let k : n - at ≡ suc (n - (at + 1)) = omega arith in
      let one : wrapped hs (left_of n at ts) ≡ wrapped (hs ++ h ∷ []) (left_of n (at + 1) r) = rw (k, e) (wrapped_more hs h (left_of n (at + 1) r)) in
      sym one ∙ i

  pub ended : (hs : List ListHead) (n at : ℕ) (ts : List Lexeme) (t : AsnType) (r : List Lexeme) (whole : Outcome AsnType) → at < n → step_at sets inner ts ≡ Ok (step.Inner t, r)
      → wrapped hs (left_of n at ts) ≡ whole → whole ≡ Ok (wrap hs t, r)
  ended hs n at ts t r whole lt e i =
      let k : n - at ≡ suc (n - (at + 1)) = omega arith in
      let one : wrapped hs (left_of n at ts) ≡ Ok (wrap hs t, r) = rw (k, e) refl in
      sym i ∙ one

  none_left : (hs : List ListHead) (n at left : ℕ) (ts : List Lexeme) → at < n → step_at sets inner ts ≡ Err left → wrapped hs (left_of n at ts) ≡ Err left
  none_left hs n at left ts lt e = let k : n - at ≡ suc (n - (at + 1)) = omega arith in rw (k, e) refl

  pub step_fails : (f : Stop) (hs : List ListHead) (n at : ℕ) (ts : List Lexeme) (whole : Outcome AsnType) → at < n → Fails (step_at sets inner ts) f
      → wrapped hs (left_of n at ts) ≡ whole → Fails whole f
  step_fails (Refused left) hs n at ts whole lt e i = sym i ∙ none_left hs n at left ts lt e
  step_fails NoMemory hs n at ts whole lt e i = tt

  pub none_ended : (hs : List ListHead) (n at : ℕ) (ts : List Lexeme) (whole : Outcome AsnType) → n ≤ at → wrapped hs (left_of n at ts) ≡ whole → whole ≡ Err (length ts)
  none_ended hs n at ts whole le i =
      let k : n - at ≡ 0 = omega arith in
      let one : wrapped hs (left_of n at ts) ≡ Err (length ts) = rw k refl in
      sym i ∙ one
