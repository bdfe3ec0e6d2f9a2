-- What came of values, turn by turn of the loop that makes them.
use Rattle.std.proofs.Common.{◌≡◌, ℕ, suc, ◌+◌, ◌-◌, ◌<◌, ◌≤◌, List, [], ◌∷◌, length, refl, sym, ap, subst, arith}
use Rattle.acn_grammar.specs.Grammar.{Grammar, Data}
use Rattle.acn_grammar.specs.declared.limits.TheConstants.{MOST_PACKET_BITS}
use Rattle.acn_tree.specs.Made.{made}
use Rattle.acn_work.specs.Steps.{CameOf, IsShort, counted}
use Rattle.acn_work.specs.Summaries.{Tallied, none_made, one_written, one_refused, values_made}
use Rattle.acn_work.specs.declared.summary.Summary.{Summary}
use Rattle.acn_work.specs.declared.trying.Outcome.{Outcome}
use Rattle.acn_work.specs.declared.trying.Outcome.TheVariants as outcome

-- no count has grown by more than one, nor the bits by more than a packet has
pub record Grows (s t : Summary) : Type 0 where
  pub made : t.made ≡ s.made + 1
  pub packed : t.packed ≤ s.packed + 1
  pub refused : t.refused ≤ s.refused + 1
  pub bits : t.bits ≤ s.bits + MOST_PACKET_BITS

pub grows : (s t : Summary) (what : Outcome) → t ≡ counted s what → IsShort what → Grows s t
grows s t (outcome.Packed n) e short =
    record {
      made = ap (λ (x : Summary). x.made) e;
      packed = omega (arith, ap (λ (x : Summary). x.packed) e);
      refused = omega (arith, ap (λ (x : Summary). x.refused) e);
      bits = omega (arith, ap (λ (x : Summary). x.bits) e, short);
    }
grows s t outcome.Refused e short =
    record {
      made = ap (λ (x : Summary). x.made) e;
      packed = omega (arith, ap (λ (x : Summary). x.packed) e);
      refused = omega (arith, ap (λ (x : Summary). x.refused) e);
      bits = omega (arith, ap (λ (x : Summary). x.bits) e);
    }

-- what is told of the values that are left, added to what was counted, is told of the whole
abbrev pub Adds : Grammar → (whole : List Data) → Summary → (left : List Data) → Type 0
Adds g whole s left = (p r b : ℕ) → Tallied g left p r b → Tallied g whole (s.packed + p) (s.refused + r) (s.bits + b)

module _ (g : Grammar) where
  same : {ds : List Data} {p p' r r' b b' : ℕ} → Tallied g ds p r b → p ≡ p' → r ≡ r' → b ≡ b' → Tallied g ds p' r' b'
  same {ds} {p} {p'} {r} {r'} {b} {b'} t e f h = subst (λ (n : ℕ). Tallied g ds p' r' n) h (subst (λ (n : ℕ). Tallied g ds p' n b) f (subst (λ (n : ℕ). Tallied g ds n r b) e t))

  one_more : (whole : List Data) (s : Summary) (what : Outcome) (d : Data) (ds : List Data) → CameOf g d what → Adds g whole s (d ∷ ds) → Adds g whole (counted s what) ds
  one_more whole s (outcome.Packed n) d ds came all p r b t =
      let long = came.2 in
      same (all (p + 1) r (b + length came.0) (one_written came.0 came.1 t)) (omega arith) refl (omega (arith, long))
  one_more whole s outcome.Refused d ds came all p r b t = same (all p (r + 1) b (one_refused came.0 came.1 t)) refl (omega arith) refl

  next_left : (count k draw next : ℕ) → k < count → next ≡ (made g draw).state → values_made g draw (count - k) ≡ (made g draw).value ∷ values_made g next (count - (k + 1))
  next_left count k draw next h e =
      let left : count - k ≡ suc (count - (k + 1)) = omega arith in
      rw (left, e) refl

  none_left : (count k draw : ℕ) → count ≤ k → values_made g draw (count - k) ≡ []
  none_left count k draw h =
      let left : count - k ≡ 0 = omega arith in
      rw left refl

  pub turn : (whole : List Data) (s : Summary) (what : Outcome) (count k draw next : ℕ) → k < count → CameOf g (made g draw).value what → next ≡ (made g draw).state
      → Adds g whole s (values_made g draw (count - k)) → Adds g whole (counted s what) (values_made g next (count - (k + 1)))
  turn whole s what count k draw next h came e all =
      one_more whole s what (made g draw).value (values_made g next (count - (k + 1))) came (subst (λ (ds : List Data). Adds g whole s ds) (next_left count k draw next h e) all)

  pub begin : (s : Summary) (start count : ℕ) → s.packed ≡ 0 → s.refused ≡ 0 → s.bits ≡ 0 → Adds g (values_made g start count) s (values_made g start (count - 0))
  begin s start count e f h p r b t =
      let left : count - 0 ≡ count = omega arith in
      same (subst (λ (n : ℕ). Tallied g (values_made g start n) p r b) left t) (omega (arith, e)) (omega (arith, f)) (omega (arith, h))

  pub end : (whole : List Data) (s : Summary) (count k draw : ℕ) → count ≤ k → Adds g whole s (values_made g draw (count - k)) → Tallied g whole s.packed s.refused s.bits
  end whole s count k draw h all =
      same (all 0 0 0 (subst (λ (ds : List Data). Tallied g ds 0 0 0) (sym (none_left count k draw h)) none_made)) (omega arith) (omega arith) (omega arith)
