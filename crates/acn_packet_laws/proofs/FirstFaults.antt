-- Where there is a fault one comes first.
use Rattle.std.proofs.Common.{◌≡◌, ℕ, zero, suc, ◌<◌, List, [], ◌∷◌, length, refl, sym, arith, inl, inr, subst}
use Rattle.acn_grammar.specs.Check.{CheckFault, forward, det_kind, det_width, overlap, absent_unclear, unused, no_item, mixed_choice, too_long, too_many_open, too_many_conditions, too_many_values, terminator_ambiguous, Evidence, rank, Before, FirstFault}
use Rattle.acn_grammar.specs.Grammar.{Grammar}
use Rattle.acn_packet_laws.specs.Laws.{NoFaultWithoutAFirst}

-- what holds of a number if it holds of all below it holds of each
below : (P : ℕ → Type 0) → ((n : ℕ) → ((m : ℕ) → m < n → P m) → P n) → (bound n : ℕ) → n < bound → P n
below P step zero n h = absurd (omega arith)
below P step (suc bound) n h = step n (λ m k. below P step bound m (omega arith))

strong : (P : ℕ → Type 0) → ((n : ℕ) → ((m : ℕ) → m < n → P m) → P n) → (n : ℕ) → P n
strong P step n = below P step (suc n) n (omega arith)

module _ (root : Grammar) where
  -- the same over lists of one length, by their first number and then by the rest
  by_rank : (n : ℕ) (P : List ℕ → Type 0) → ((r : List ℕ) → length r ≡ n → ((q : List ℕ) → length q ≡ n → Before root q r → P q) → P r) → (r : List ℕ) → length r ≡ n → P r
  by_rank zero P step [] l = step [] refl (λ q k b. none q k b)
    where
      none : (q : List ℕ) → length q ≡ 0 → Before root q [] → P q
      none [] k b = absurd b
      none (x ∷ q) k b = absurd (omega arith)
  by_rank zero P step (x ∷ r) l = absurd (omega arith)
  by_rank (suc n) P step [] l = absurd (omega arith)
  by_rank (suc n) P step (x ∷ r) l = strong (λ y. (rest : List ℕ) → length rest ≡ n → P (y ∷ rest)) (λ y first. by_rank n (λ rest. P (y ∷ rest)) (λ rest k second. step (y ∷ rest) (omega arith) (λ q m b. earlier y rest first second q m b))) x r (omega arith)
    where
      earlier : (y : ℕ) (rest : List ℕ) → ((m : ℕ) → m < y → (more : List ℕ) → length more ≡ n → P (m ∷ more)) → ((q : List ℕ) → length q ≡ n → Before root q rest → P (y ∷ q)) → (q : List ℕ) → length q ≡ suc n → Before root q (y ∷ rest) → P q
      earlier y rest first second [] m b = absurd b
      earlier y rest first second (z ∷ q) m (inl h) = first z h q (omega arith)
      earlier y rest first second (z ∷ q) m (inr h) = subst (λ w. P (w ∷ q)) (sym h.0) (second q (omega arith) h.1)

  pub five : (f : CheckFault) (k u : ℕ) → length (rank root f k u) ≡ 5
  five (forward user det) k u = refl
  five (det_kind user det) k u = refl
  five (det_width det) k u = refl
  five (overlap path i j values) k u = refl
  five (absent_unclear path) k u = refl
  five (unused det) k u = refl
  five (no_item path i) k u = refl
  five (mixed_choice path) k u = refl
  five (too_long n) k u = refl
  five (too_many_open path n) k u = refl
  five (too_many_conditions det n) k u = refl
  five (too_many_values n) k u = refl
  five (terminator_ambiguous path) k u = refl

  abbrev NoneAt : List ℕ → Type 0
  NoneAt r = (f : CheckFault) (k u : ℕ) → rank root f k u ≡ r → Evidence root f k u → ⊥

  none_at : ((f : CheckFault) → FirstFault root f → ⊥) → (r : List ℕ) → length r ≡ 5 → NoneAt r
  none_at no_first = by_rank 5 NoneAt (λ r l earlier f k u same e. no_first f (record {
    node = k;
    use_here = u;
    holds = e;
    first = λ g k' u' e' b. earlier (rank root g k' u') (five g k' u') (subst (λ w. Before root (rank root g k' u') w) same b) g k' u' refl e';
  }))

pub none_without_first : NoFaultWithoutAFirst
none_without_first root no_first f e = none_at root no_first (rank root f e.node e.use_here) (five root f e.node e.use_here) f e.node e.use_here refl e.holds
