-- The first fault, from the first of each kind.
use Rattle.std.proofs.Common.{◌≡◌, ℕ, zero, suc, ◌+◌, ◌<◌, ◌≤◌, List, [], ◌∷◌, map, Option, Some, None, refl, sym, ap, ◌∙◌, arith, ◌⊎◌, inl, inr, subst}
use Rattle.std.specs.Prelude.{slice_get, MatchOption}
use Rattle.acn_grammar.specs.Check.{CheckFault, forward, det_kind, det_width, overlap, absent_unclear, unused, no_item, mixed_choice, too_long, too_many_open, too_many_conditions, too_many_values, terminator_ambiguous, Evidence, rank, Before, FirstFault, NodeAt, number_of_fault}
use Rattle.acn_grammar.specs.Grammar.{Grammar}
use Rattle.acn_grammar.specs.Slots.{first_of_two}
use Rattle.acn_grammar.specs.Walk.{Stand, nodes_of}
use Rattle.acn_check.specs.Facts.{Facts, seen}
use Rattle.acn_check.specs.First.{first_of}
use Rattle.acn_check.proofs.FirstOf.{Found, first_some, first_none}

-- what the rank of a fault has behind its number and its node
abbrev pub tail : CheckFault → ℕ → List ℕ
tail (overlap path i j values) u = 0 ∷ i ∷ j ∷ []
tail (no_item path i) u = 0 ∷ i ∷ 0 ∷ []
tail f u = u ∷ 0 ∷ 0 ∷ []

pub some_inj : {A : Type 0} (x y : A) → Some x ≡ Some y → x ≡ y
some_inj x y e = cc

pub get_map : {A B : Type 0} (f : A → B) (xs : List A) (k : ℕ) (x : A) → slice_get xs k ≡ Some x → slice_get (map f xs) k ≡ Some (f x)
get_map f [] k x e = cc
get_map f (y ∷ xs) zero x e = ap (λ z. Some (f z)) (some_inj y x e)
get_map f (y ∷ xs) (suc k) x e = get_map f xs k x e

pub get_mapped : {A B : Type 0} (f : A → B) (xs : List A) (k : ℕ) (y : B) → slice_get (map f xs) k ≡ Some y → (x : A) × (slice_get xs k ≡ Some x) × (f x ≡ y)
get_mapped f [] k y e = cc
get_mapped f (x ∷ xs) zero y e = (x, refl, some_inj (f x) y e)
get_mapped f (x ∷ xs) (suc k) y e = get_mapped f xs k y e

module _ (root : Grammar) where
  pub rank_is : (f : CheckFault) (k u : ℕ) → rank root f k u ≡ number_of_fault f ∷ k ∷ tail f u
  rank_is (forward user det) k u = refl
  rank_is (det_kind user det) k u = refl
  rank_is (det_width det) k u = refl
  rank_is (overlap path i j values) k u = refl
  rank_is (absent_unclear path) k u = refl
  rank_is (unused det) k u = refl
  rank_is (no_item path i) k u = refl
  rank_is (mixed_choice path) k u = refl
  rank_is (too_long n) k u = refl
  rank_is (too_many_open path n) k u = refl
  rank_is (too_many_conditions det n) k u = refl
  rank_is (too_many_values n) k u = refl
  rank_is (terminator_ambiguous path) k u = refl

  -- where two ranks are in order, by number and then by node
  pub ranked : (f g : CheckFault) (k u k' u' : ℕ) → Before root (rank root g k' u') (rank root f k u)
      → (number_of_fault g < number_of_fault f) ⊎ ((number_of_fault g ≡ number_of_fault f) × ((k' < k) ⊎ ((k' ≡ k) × Before root (tail g u') (tail f u))))
  ranked f g k u k' u' b = subst (λ r. Before root r (number_of_fault f ∷ k ∷ tail f u)) (rank_is g k' u') (subst (λ r. Before root (rank root g k' u') r) (rank_is f k u) b)

  -- no fault of this number
  abbrev pub NoneOfKind : ℕ → Type 0
  NoneOfKind n = (f : CheckFault) (k u : ℕ) → number_of_fault f ≡ n → Evidence root f k u → ⊥

  -- the first fault of its number
  pub record FirstOfKind (n : ℕ) (f : CheckFault) : Type 0 where
    pub node : ℕ
    pub use_here : ℕ
    pub kind : number_of_fault f ≡ n
    pub holds : Evidence root f node use_here
    pub first : (g : CheckFault) (k u : ℕ) → number_of_fault g ≡ n → Evidence root g k u → Before root (rank root g k u) (rank root f node use_here) → ⊥

  pub record KindLaw (n : ℕ) (o : Option CheckFault) : Type 0 where
    pub some : (f : CheckFault) → o ≡ Some f → FirstOfKind n f
    pub none : o ≡ None → NoneOfKind n

  -- the first fault of a number at its node
  pub record FirstHere (n : ℕ) (f : CheckFault) (k : ℕ) : Type 0 where
    pub use_here : ℕ
    pub kind : number_of_fault f ≡ n
    pub holds : Evidence root f k use_here
    pub first : (g : CheckFault) (u : ℕ) → number_of_fault g ≡ n → Evidence root g k u → Before root (tail g u) (tail f use_here) → ⊥

  pub record NodeLaw (n : ℕ) (here : ℕ → Facts → Option CheckFault) : Type 0 where
    pub stands : (f : CheckFault) (k u : ℕ) → number_of_fault f ≡ n → Evidence root f k u → (at : Stand) × NodeAt root k at
    pub found : (k : ℕ) (at : Stand) (f : CheckFault) → NodeAt root k at → here k (seen at) ≡ Some f → FirstHere n f k
    pub none : (k : ℕ) (at : Stand) → NodeAt root k at → here k (seen at) ≡ None → (f : CheckFault) (u : ℕ) → number_of_fault f ≡ n → Evidence root f k u → ⊥

  module _ (n : ℕ) (here : ℕ → Facts → Option CheckFault) (law : NodeLaw n here) where
    earlier : (f g : CheckFault) (k u place use' : ℕ) → ((j m : ℕ) (y : Facts) → m ≡ 0 + j → j < place → slice_get (map seen (nodes_of root)) j ≡ Some y → here m y ≡ None)
        → number_of_fault f ≡ n → number_of_fault g ≡ n → Evidence root g k u → (Evidence root g place u → Before root (tail g u) (tail f use') → ⊥)
        → (number_of_fault g < number_of_fault f) ⊎ ((number_of_fault g ≡ number_of_fault f) × ((k < place) ⊎ ((k ≡ place) × Before root (tail g u) (tail f use')))) → ⊥
    earlier f g k u place use' before kind is e here' (inl l) = absurd (omega arith)
    earlier f g k u place use' before kind is e here' (inr (same', inl l)) =
        let s = law.stands g k u is e in
        law.none k s.0 s.1 (before k k (seen s.0) (omega arith) l (get_map seen (nodes_of root) k s.0 s.1)) g u is e
    earlier f g k u place use' before kind is e here' (inr (same', inr (at, b))) = here' (subst (λ m. Evidence root g m u) at e) b

    found_at : (f : CheckFault) → Found here 0 (map seen (nodes_of root)) f → FirstOfKind n f
    found_at f r =
        let m = get_mapped seen (nodes_of root) r.place r.item r.is_item in
        let same : r.number ≡ r.place = (let c = r.counts in omega arith) in
        let gives : here r.place (seen m.0) ≡ Some f = subst (λ i. here r.place i ≡ Some f) (sym m.2) (subst (λ k. here k r.item ≡ Some f) same r.gives) in
        let h = law.found r.place m.0 f m.1 gives in
        record {
          node = r.place;
          use_here = h.use_here;
          kind = h.kind;
          holds = h.holds;
          first = λ g k u is e b. earlier f g k u r.place h.use_here r.before h.kind is e (λ e'. h.first g u is e') (ranked f g r.place h.use_here k u b);
        }

    pub by_nodes : KindLaw n (first_of here 0 (map seen (nodes_of root)))
    by_nodes = record {
      some = λ f e. found_at f (first_some here 0 (map seen (nodes_of root)) f e);
      none = λ e f k u is evidence.
          let s = law.stands f k u is evidence in
          law.none k s.0 s.1 (first_none here 0 (map seen (nodes_of root)) e k k (seen s.0) (omega arith) (get_map seen (nodes_of root) k s.0 s.1)) f u is evidence;
    }

  -- The faults from a number on.

  pub record FirstFrom (n : ℕ) (f : CheckFault) : Type 0 where
    pub node : ℕ
    pub use_here : ℕ
    pub kind : n ≤ number_of_fault f
    pub holds : Evidence root f node use_here
    pub first : (g : CheckFault) (k u : ℕ) → n ≤ number_of_fault g → Evidence root g k u → Before root (rank root g k u) (rank root f node use_here) → ⊥

  pub record FromLaw (n : ℕ) (o : Option CheckFault) : Type 0 where
    pub some : (f : CheckFault) → o ≡ Some f → FirstFrom n f
    pub none : o ≡ None → (f : CheckFault) (k u : ℕ) → n ≤ number_of_fault f → Evidence root f k u → ⊥

  least_first : (n : ℕ) (f : CheckFault) → FirstOfKind n f → FirstFrom n f
  least_first n f h = record {
    node = h.node;
    use_here = h.use_here;
    kind = (let k = h.kind in omega arith);
    holds = h.holds;
    first = λ g k u le e b. by g k u le e b (ranked f g h.node h.use_here k u b);
  }
    where
      by : (g : CheckFault) (k u : ℕ) → n ≤ number_of_fault g → Evidence root g k u → Before root (rank root g k u) (rank root f h.node h.use_here)
          → (number_of_fault g < number_of_fault f) ⊎ ((number_of_fault g ≡ number_of_fault f) × ((k < h.node) ⊎ ((k ≡ h.node) × Before root (tail g u) (tail f h.use_here)))) → ⊥
      by g k u le e b (inl l) = (let kind = h.kind in absurd (omega arith))
      by g k u le e b (inr q) = h.first g k u (q.0 ∙ h.kind) e b

  or_more : (n m : ℕ) → n ≤ m → (m ≡ n) ⊎ (suc n ≤ m)
  or_more n m le = grind arith

  more_first : (n : ℕ) (f : CheckFault) → NoneOfKind n → FirstFrom (suc n) f → FirstFrom n f
  more_first n f none h = record {
    node = h.node;
    use_here = h.use_here;
    kind = (let k = h.kind in omega arith);
    holds = h.holds;
    first = λ g k u le e b. by g k u e b (or_more n (number_of_fault g) le);
  }
    where
      by : (g : CheckFault) (k u : ℕ) → Evidence root g k u → Before root (rank root g k u) (rank root f h.node h.use_here) → (number_of_fault g ≡ n) ⊎ (suc n ≤ number_of_fault g) → ⊥
      by g k u e b (inl is) = none g k u is e
      by g k u e b (inr le) = h.first g k u le e b

  pub step : (n : ℕ) (o o' : Option CheckFault) → KindLaw n o → FromLaw (suc n) o' → FromLaw n (first_of_two o o')
  step n (Some f) o' a b = record { some = λ g e. least_first n g (a.some g e); none = λ e. cc }
  step n None o' a b = record {
    some = λ f e. more_first n f (a.none refl) (b.some f e);
    none = λ e f k u le evidence. by e f k u evidence (or_more n (number_of_fault f) le);
  }
    where
      by : o' ≡ None → (f : CheckFault) (k u : ℕ) → Evidence root f k u → (number_of_fault f ≡ n) ⊎ (suc n ≤ number_of_fault f) → ⊥
      by e f k u evidence (inl is) = a.none refl f k u is evidence
      by e f k u evidence (inr le) = b.none e f k u le evidence

  at_most : (f : CheckFault) → number_of_fault f ≤ 13
  at_most (forward user det) = omega arith
  at_most (det_kind user det) = omega arith
  at_most (det_width det) = omega arith
  at_most (overlap path i j values) = omega arith
  at_most (absent_unclear path) = omega arith
  at_most (unused det) = omega arith
  at_most (no_item path i) = omega arith
  at_most (mixed_choice path) = omega arith
  at_most (too_long n) = omega arith
  at_most (too_many_open path n) = omega arith
  at_most (too_many_conditions det n) = omega arith
  at_most (too_many_values n) = omega arith
  at_most (terminator_ambiguous path) = omega arith

  at_least : (f : CheckFault) → 1 ≤ number_of_fault f
  at_least (forward user det) = omega arith
  at_least (det_kind user det) = omega arith
  at_least (det_width det) = omega arith
  at_least (overlap path i j values) = omega arith
  at_least (absent_unclear path) = omega arith
  at_least (unused det) = omega arith
  at_least (no_item path i) = omega arith
  at_least (mixed_choice path) = omega arith
  at_least (too_long n) = omega arith
  at_least (too_many_open path n) = omega arith
  at_least (too_many_conditions det n) = omega arith
  at_least (too_many_values n) = omega arith
  at_least (terminator_ambiguous path) = omega arith

  pub no_more : FromLaw 14 None
  no_more = record { some = λ f e. cc; none = λ e f k u le evidence. (let m = at_most f in absurd (omega arith)) }

  pub first_fault : (o : Option CheckFault) → FromLaw 1 o → MatchOption o ((f : CheckFault) → FirstFault root f → ⊥) (FirstFault root)
  first_fault None law = λ f h. law.none refl f h.node h.use_here (at_least f) h.holds
  first_fault (Some f) law =
      let h = law.some f refl in
      record { node = h.node; use_here = h.use_here; holds = h.holds; first = λ g k u e b. h.first g k u (at_least g) e b }
