-- From tests of nodes and uses to the first fault of a kind.
use Rattle.std.proofs.Common.{◌≡◌, inl, inr, ℕ, ◌<◌, [], ◌∷◌, Option, Some, None, sym, ap, ◌∙◌, subst, arith}
use Rattle.std.specs.Prelude.{slice_get}
use Rattle.acn_grammar.specs.Check.{CheckFault, Evidence, Before, NodeAt, number_of_fault}
use Rattle.acn_grammar.specs.Grammar.{Grammar}
use Rattle.acn_grammar.specs.Walk.{Stand, Use, uses}
use Rattle.acn_check.specs.Facts.{Facts, seen}
use Rattle.acn_check.specs.First.{first_of, uses_of}
use Rattle.acn_check.proofs.Assembly.{tail, some_inj, FirstHere, NodeLaw}
use Rattle.acn_check.proofs.FirstOf.{Found, first_some, first_none}

module _ (root : Grammar) where
  pub same_node : (k : ℕ) (a b : Stand) → NodeAt root k a → NodeAt root k b → a ≡ b
  same_node k a b e f = some_inj a b (sym e ∙ f)

  -- the use of one rank is before that of the other
  lower : (a b : ℕ) → Before root (a ∷ 0 ∷ 0 ∷ []) (b ∷ 0 ∷ 0 ∷ []) → a < b
  lower a b (inl h) = h
  lower a b (inr (e, inl h)) = absurd (omega arith)
  lower a b (inr (e, inr (e', inl h))) = absurd (omega arith)
  lower a b (inr (e, inr (e', inr h))) = absurd h.1

  pub by_tails : (n : ℕ) → ((f : CheckFault) (u : ℕ) → number_of_fault f ≡ n → tail f u ≡ u ∷ 0 ∷ 0 ∷ []) → (g f : CheckFault) (a b : ℕ) → number_of_fault g ≡ n → number_of_fault f ≡ n → Before root (tail g a) (tail f b) → a < b
  by_tails n plain g f a b is is' h = lower a b (subst (λ r. Before root (a ∷ 0 ∷ 0 ∷ []) r) (plain f b is') (subst (λ r. Before root r (tail f b)) (plain g a is) h))

  -- A test of nodes that answers a fault exactly where there is one of a kind.
  pub record PlainLaw (n : ℕ) (here : ℕ → Facts → Option CheckFault) : Type 0 where
    pub plain : (f : CheckFault) (u : ℕ) → number_of_fault f ≡ n → tail f u ≡ u ∷ 0 ∷ 0 ∷ []
    pub take : (k : ℕ) (at : Stand) (f : CheckFault) → NodeAt root k at → here k (seen at) ≡ Some f → (number_of_fault f ≡ n) × Evidence root f k 0
    pub give : (f : CheckFault) (k u : ℕ) → number_of_fault f ≡ n → Evidence root f k u → (at : Stand) × NodeAt root k at × (here k (seen at) ≡ None → ⊥)

  pub plain_law : (n : ℕ) (here : ℕ → Facts → Option CheckFault) → PlainLaw n here → NodeLaw root n here
  plain_law n here law = record {
    stands = λ f k u is e. (let g = law.give f k u is e in (g.0, g.1));
    found = λ k at f is e.
        let t = law.take k at f is e in
        record { use_here = 0; kind = t.0; holds = t.1; first = λ g u is' e' b. not_below u (by_tails n law.plain g f u 0 is' t.0 b) };
    none = λ k at is e f u is' evidence.
        let g = law.give f k u is' evidence in
        g.2 (ap (λ x. here k (seen x)) (sym (same_node k at g.0 is g.1)) ∙ e);
  }
    where
      not_below : (u : ℕ) → u < 0 → ⊥
      not_below u h = absurd (omega arith)

  -- A test of uses.
  pub record UseLaw (n : ℕ) (one : ℕ → Facts → Use → Option CheckFault) : Type 0 where
    pub plain : (f : CheckFault) (u : ℕ) → number_of_fault f ≡ n → tail f u ≡ u ∷ 0 ∷ 0 ∷ []
    pub take : (k u : ℕ) (at : Stand) (named : Use) (f : CheckFault) → NodeAt root k at → slice_get (uses at) u ≡ Some named → one k (seen at) named ≡ Some f → (number_of_fault f ≡ n) × Evidence root f k u
    pub give : (f : CheckFault) (k u : ℕ) → number_of_fault f ≡ n → Evidence root f k u → (at : Stand) × (named : Use) × NodeAt root k at × (slice_get (uses at) u ≡ Some named) × (one k (seen at) named ≡ None → ⊥)

  abbrev pub each_use : (ℕ → Facts → Use → Option CheckFault) → ℕ → Facts → Option CheckFault
  each_use one k f = first_of (λ u named. one k f named) 0 (uses_of f)

  module _ (n : ℕ) (one : ℕ → Facts → Use → Option CheckFault) (law : UseLaw n one) where
    missing : (k u : ℕ) (at : Stand) (f : CheckFault) → NodeAt root k at → number_of_fault f ≡ n → Evidence root f k u → ((named : Use) → slice_get (uses at) u ≡ Some named → one k (seen at) named ≡ None) → ⊥
    missing k u at f is kind e all =
        let g = law.give f k u kind e in
        let same = same_node k g.0 at g.2 is in
        g.4 (ap (λ x. one k (seen x) g.1) same ∙ all g.1 (ap (λ x. slice_get (uses x) u) (sym same) ∙ g.3))

    found_use : (k : ℕ) (at : Stand) (f : CheckFault) → NodeAt root k at → Found (λ u named. one k (seen at) named) 0 (uses at) f → FirstHere root n f k
    found_use k at f is r =
        let t = law.take k r.place at r.item f is r.is_item r.gives in
        record {
          use_here = r.place;
          kind = t.0;
          holds = t.1;
          first = λ g u is' e' b.
              let less = by_tails n law.plain g f u r.place is' t.0 b in
              missing k u at g is is' e' (λ named h. r.before u u named (omega arith) less h);
        }

    pub use_law : NodeLaw root n (each_use one)
    use_law = record {
      stands = λ f k u is e. (let g = law.give f k u is e in (g.0, g.2));
      found = λ k at f is e. found_use k at f is (first_some (λ u named. one k (seen at) named) 0 (uses at) f e);
      none = λ k at is e f u is' evidence. missing k u at f is is' evidence (λ named h. first_none (λ v x. one k (seen at) x) 0 (uses at) e u u named (omega arith) h);
    }
