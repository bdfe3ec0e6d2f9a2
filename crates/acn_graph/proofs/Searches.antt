-- A search reaches what its start leads to, and the start only where it leads to itself.
use Rattle.std.proofs.Common.{◌≡◌, ℕ, suc, ◌+◌, ◌<◌, ◌≤◌, Bool, true, false, List, [], ◌∷◌, ◌++◌, length, get_or, refl, sym, ap, subst, ◌∙◌, arith, inl, inr, replicate, nat_eq, append-nil, append_assoc, length-append, length-set}
use Rattle.std.proofs.lemmas.List.{get_or_append_left, length-replicate}
use Rattle.std.proofs.Math.Seq.{get_or-append_seam}
use Rattle.std.specs.List.{list_any}
use Rattle.acn_graph.specs.Graph.{Graph, Among, here, there, onward, Leads, once, more}
use Rattle.acn_graph.specs.Search.{State, begun, grow_if, grow, grow_all, IsOrdered, IsTrail}
use Rattle.acn_graph.proofs.Lists.{none_in_nothing, among_left, among_right, among_at, place_of, among_one, among_first_or_rest, any_among, none_among, below_or_at, marked, marked-le, marked-set, marked-none, unmarked, set_or_stood}
use Rattle.acn_graph.proofs.Ways.{starts_at_a_node}

pub record IsValid (g : Graph) (s : State) : Type 0 where
  pub same : length s.parents ≡ length s.order
  pub ordered : IsOrdered s.parents
  pub trail : IsTrail g s.order s.parents
  pub size : length s.reached ≡ length g
  pub count : marked s.reached ≡ length s.order
  pub inside : (t : ℕ) → t < length g → get_or s.reached t true ≡ true → Among t s.order

pub bounded : {g : Graph} {s : State} → IsValid g s → length s.order ≤ length g
bounded {g} {s} v = let h = marked-le s.reached in let a = v.size in let b = v.count in omega arith

-- the search after nodes were added: valid, longer, with all of them
pub record Grew (g : Graph) (s next : State) (nodes : List ℕ) : Type 0 where
  pub valid : IsValid g next
  pub extra : List ℕ
  pub longer : next.order ≡ s.order ++ extra
  pub all : (t : ℕ) → Among t nodes → t < length g → Among t next.order

length_more : (xs : List ℕ) (x : ℕ) → length (xs ++ x ∷ []) ≡ suc (length xs)
length_more xs x = let h = length-append xs (x ∷ []) in omega arith

module _ (g : Graph) (s : State) (v : IsValid g s) (at node : ℕ) (there_at : at < length s.order) (led : Among node (onward g (get_or s.order at 0))) where
  ordered_more : IsOrdered (s.parents ++ at ∷ [])
  ordered_more = record {
    before = λ k positive within.
        let more_parents = length_more s.parents at in
        elim (below_or_at k (length s.parents) (omega arith)) [
          | inl lt ↦ subst (λ (p : ℕ). p < k) (sym (get_or_append_left s.parents (at ∷ []) 0 k lt)) (v.ordered.before k positive lt)
          | inr e ↦ subst (λ (n : ℕ). get_or (s.parents ++ at ∷ []) n 0 < n) (sym e) (subst (λ (p : ℕ). p < length s.parents) (sym (get_or-append_seam s.parents at [] 0)) (let a = v.same in omega arith))
        ];
  }

  trail_more : IsTrail g (s.order ++ node ∷ []) (s.parents ++ at ∷ [])
  trail_more = record {
    from = λ k positive within.
        let more_order = length_more s.order node in
        let same = v.same in
        elim (below_or_at k (length s.order) (omega arith)) [
          | inl lt ↦
              let lt_parents : k < length s.parents = omega arith in
              let before : get_or s.parents k 0 < length s.order = (let h = v.ordered.before k positive lt_parents in omega arith) in
              subst (λ (p : ℕ). Among (get_or (s.order ++ node ∷ []) k 0) (onward g (get_or (s.order ++ node ∷ []) p 0))) (sym (get_or_append_left s.parents (at ∷ []) 0 k lt_parents))
              (subst (λ (q : ℕ). Among (get_or (s.order ++ node ∷ []) k 0) (onward g q)) (sym (get_or_append_left s.order (node ∷ []) 0 (get_or s.parents k 0) before))
              (subst (λ (q : ℕ). Among q (onward g (get_or s.order (get_or s.parents k 0) 0))) (sym (get_or_append_left s.order (node ∷ []) 0 k lt)) (v.trail.from k positive lt)))
          | inr e ↦
              let last : get_or (s.parents ++ at ∷ []) k 0 ≡ at = ap (λ (n : ℕ). get_or (s.parents ++ at ∷ []) n 0) (e ∙ sym same) ∙ get_or-append_seam s.parents at [] 0 in
              let seam : get_or (s.order ++ node ∷ []) k 0 ≡ node = ap (λ (n : ℕ). get_or (s.order ++ node ∷ []) n 0) e ∙ get_or-append_seam s.order node [] 0 in
              subst (λ (p : ℕ). Among (get_or (s.order ++ node ∷ []) k 0) (onward g (get_or (s.order ++ node ∷ []) p 0))) (sym last)
              (subst (λ (q : ℕ). Among (get_or (s.order ++ node ∷ []) k 0) (onward g q)) (sym (get_or_append_left s.order (node ∷ []) 0 at there_at))
              (subst (λ (q : ℕ). Among q (onward g (get_or s.order at 0))) (sym seam) led))
        ];
  }

  grew_if : (b : Bool) → get_or s.reached node true ≡ b → Grew g s (grow_if b at node s) (node ∷ [])
  grew_if true e = record {
    valid = v;
    extra = [];
    longer = sym (append-nil s.order);
    all = λ t i lt. let same : t ≡ node = among_one i in v.inside t lt (ap (λ (n : ℕ). get_or s.reached n true) same ∙ e);
  }
  grew_if false e = record {
    valid = record {
      same = (let a = length_more s.parents at in let b = length_more s.order node in let c = v.same in omega arith);
      ordered = ordered_more;
      trail = trail_more;
      size = length-set s.reached node true ∙ v.size;
      count = marked-set s.reached node e ∙ (let b = length_more s.order node in let c = v.count in omega arith);
      inside = λ t lt stands. elim (set_or_stood s.reached node t stands) [
        | inl same ↦ subst (λ (n : ℕ). Among n (s.order ++ node ∷ [])) (sym same) (among_right s.order here)
        | inr stood ↦ among_left (node ∷ []) (v.inside t lt stood)
      ];
    };
    extra = node ∷ [];
    longer = refl;
    all = λ t i lt. subst (λ (n : ℕ). Among n (s.order ++ node ∷ [])) (sym (among_one i)) (among_right s.order here);
  }

  pub grew_one : Grew g s (grow at node s) (node ∷ [])
  unfolding grow
  grew_one = grew_if (get_or s.reached node true) refl

pub grew_all : (g : Graph) (nodes : List ℕ) (s : State) → IsValid g s → (at : ℕ) → at < length s.order
    → ((t : ℕ) → Among t nodes → Among t (onward g (get_or s.order at 0))) → Grew g s (grow_all at nodes s) nodes
grew_all g [] s v at lt led = record { valid = v; extra = []; longer = sym (append-nil s.order); all = λ t i lt. absurd (none_in_nothing i) }
grew_all g (node ∷ nodes) s v at lt led =
    let one = grew_one g s v at node lt (led node here) in
    let lt_next : at < length (grow at node s).order = (let e = ap length one.longer in let f = length-append s.order one.extra in omega arith) in
    let same : get_or (grow at node s).order at 0 ≡ get_or s.order at 0 = ap (λ (o : List ℕ). get_or o at 0) one.longer ∙ get_or_append_left s.order one.extra 0 at lt in
    let rest = grew_all g nodes (grow at node s) one.valid at lt_next (λ t i. subst (λ (q : ℕ). Among t (onward g q)) (sym same) (led t (there i))) in
    record {
      valid = rest.valid;
      extra = one.extra ++ rest.extra;
      longer = rest.longer ∙ (ap (λ (o : List ℕ). o ++ rest.extra) one.longer ∙ append_assoc s.order one.extra rest.extra);
      all = λ t i lt_t. elim (among_first_or_rest i) [
        | inl e ↦ subst (λ (o : List ℕ). Among t o) (sym rest.longer) (among_left rest.extra (one.all t (subst (λ (n : ℕ). Among t (n ∷ [])) e here) lt_t))
        | inr j ↦ rest.all t j lt_t
      ];
    }

-- ---- from a start, over the places before one

pub record IsSearched (g : Graph) (start : ℕ) (s : State) (at : ℕ) : Type 0 where
  pub valid : IsValid g s
  pub some : 0 < length s.order
  pub first : get_or s.order 0 0 ≡ start
  pub at_most : at ≤ length s.order
  pub done : (k t : ℕ) → k < at → Among t (onward g (get_or s.order k 0)) → t < length g → Among t s.order
  pub never : (k : ℕ) → k < at → Among start (onward g (get_or s.order k 0)) → ⊥

pub begins : (g : Graph) (start : ℕ) → start < length g → IsSearched g start (begun (length g) start) 0
begins g start lt = record {
  valid = record {
    same = refl;
    ordered = record { before = λ k positive within. absurd (omega arith) };
    trail = record { from = λ k positive within. absurd (omega arith) };
    size = length-set (replicate (length g) false) start true ∙ length-replicate (length g) false;
    count = marked-set (replicate (length g) false) start (unmarked (length g) start lt) ∙ ap suc (marked-none (length g));
    inside = λ t t_lt stands. elim (set_or_stood (replicate (length g) false) start t stands) [
      | inl e ↦ subst (λ (n : ℕ). Among n (start ∷ [])) (sym e) here
      | inr stood ↦ let not_yet = unmarked (length g) t t_lt in absurd (cc (stood, not_yet))
    ];
  };
  some = omega arith;
  first = refl;
  at_most = omega arith;
  done = λ k t k_lt i t_lt. absurd (omega arith);
  never = λ k k_lt i. absurd (omega arith);
}

pub goes_on : (g : Graph) (start : ℕ) (s : State) (at : ℕ) → IsSearched g start s at → at < length s.order
    → list_any (nat_eq start) (onward g (get_or s.order at 0)) ≡ false
    → IsSearched g start (grow_all at (onward g (get_or s.order at 0)) s) (at + 1)
goes_on g start s at h lt none =
    let grew = grew_all g (onward g (get_or s.order at 0)) s h.valid at lt (λ t i. i) in
    let kept : (k : ℕ) → k < length s.order → get_or (grow_all at (onward g (get_or s.order at 0)) s).order k 0 ≡ get_or s.order k 0
    = λ k k_lt. ap (λ (o : List ℕ). get_or o k 0) grew.longer ∙ get_or_append_left s.order grew.extra 0 k k_lt in
    let size = ap length grew.longer in
    let sum = length-append s.order grew.extra in
    let some = h.some in
    record {
      valid = grew.valid;
      some = omega arith;
      first = kept 0 some ∙ h.first;
      at_most = omega arith;
      done = λ k t k_lt i t_lt. elim (below_or_at k at (omega arith)) [
        | inl before ↦ subst (λ (o : List ℕ). Among t o) (sym grew.longer) (among_left grew.extra (h.done k t before (subst (λ (q : ℕ). Among t (onward g q)) (kept k (omega arith)) i) t_lt))
        | inr e ↦ grew.all t (subst (λ (q : ℕ). Among t (onward g q)) (kept k (omega arith) ∙ ap (λ (n : ℕ). get_or s.order n 0) e) i) t_lt
      ];
      never = λ k k_lt i. elim (below_or_at k at (omega arith)) [
        | inl before ↦ h.never k before (subst (λ (q : ℕ). Among start (onward g q)) (kept k (omega arith)) i)
        | inr e ↦ none_among none (subst (λ (q : ℕ). Among start (onward g q)) (kept k (omega arith) ∙ ap (λ (n : ℕ). get_or s.order n 0) e) i)
      ];
    }

module _ (g : Graph) (start : ℕ) (s : State) (at : ℕ) (h : IsSearched g start s at) (end : length s.order ≤ at) where
  unreached : {p : ℕ} {way : List ℕ} → Among p s.order → Leads g p start way → ⊥
  unreached {p} i (once j) =
      let at_p = place_of i in
      h.never at_p.0 (let lt = at_p.1 in omega arith) (subst (λ (q : ℕ). Among start (onward g q)) (sym at_p.2) j)
  unreached {p} i (more {q = q} j rest) =
      let at_p = place_of i in
      unreached (h.done at_p.0 q (let lt = at_p.1 in omega arith) (subst (λ (n : ℕ). Among q (onward g n)) (sym at_p.2) j) (starts_at_a_node rest)) rest

  pub ended : {way : List ℕ} → Leads g start start way → ⊥
  ended l = unreached (subst (λ (n : ℕ). Among n s.order) h.first (among_at s.order 0 h.some)) l

-- the way back from a place that leads to the start
pub closed : (g : Graph) (start : ℕ) (s : State) (at : ℕ) → IsSearched g start s at → list_any (nat_eq start) (onward g (get_or s.order at 0)) ≡ true
    → (order parents way : List ℕ) → order ≡ s.order → parents ≡ s.parents
    → ((h : Graph) → IsTrail h order parents → Among (get_or order 0 0) (onward h (get_or order at 0)) → Leads h (get_or order 0 0) (get_or order 0 0) way)
    → Leads g start start way
closed g start s at h hit order parents way same_order same_parents made =
    let by_order = subst (λ (o : List ℕ). (x : Graph) → IsTrail x o parents → Among (get_or o 0 0) (onward x (get_or o at 0)) → Leads x (get_or o 0 0) (get_or o 0 0) way) same_order made in
    let by_parents = subst (λ (p : List ℕ). (x : Graph) → IsTrail x s.order p → Among (get_or s.order 0 0) (onward x (get_or s.order at 0)) → Leads x (get_or s.order 0 0) (get_or s.order 0 0) way) same_parents by_order in
    subst (λ (n : ℕ). Among n (onward g (get_or s.order at 0)) → Leads g n n way) h.first (by_parents g h.valid.trail) (any_among start (onward g (get_or s.order at 0)) hit)
