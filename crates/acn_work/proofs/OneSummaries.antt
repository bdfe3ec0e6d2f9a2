-- There is one summary.
use Rattle.std.proofs.Common.{◌≡◌, ℕ, ◌+◌, List, length, refl, ap, arith}
use Rattle.acn_grammar.specs.Code.{Written}
use Rattle.acn_grammar.specs.Grammar.{Grammar, Data}
use Rattle.acn_packet_laws.specs.Laws.{IsAccepted, OneWriting, RefusedIsNotSpelled}
use Rattle.acn_work.specs.Summaries.{Tallied, none_made, one_written, one_refused, IsSummary, OneSummary}
use Rattle.acn_work.specs.declared.summary.Summary.{Summary}

record Same (p r b p' r' b' : ℕ) : Type 0 where
  packed : p' ≡ p
  refused : r' ≡ r
  bits : b' ≡ b

module _ (writing : OneWriting) (never : RefusedIsNotSpelled) (g : Grammar) (accepted : IsAccepted g) where
  one_tally : {ds : List Data} {p r b p' r' b' : ℕ} → Tallied g ds p r b → Tallied g ds p' r' b' → Same p r b p' r' b'
  one_tally none_made none_made = record { packed = refl; refused = refl; bits = refl }
  one_tally (one_written bs w t) (one_written bs' w' t') =
      let same = one_tally t t' in
      record { packed = ap (λ (n : ℕ). n + 1) same.packed; refused = same.refused; bits = omega (arith, same.bits, ap length (writing g _ bs' bs accepted w' w)) }
  one_tally (one_written bs w t) (one_refused unfit u t') = absurd (never g Written _ unfit bs accepted u w)
  one_tally (one_refused unfit u t) (one_written bs w t') = absurd (never g Written _ unfit bs accepted u w)
  one_tally (one_refused unfit u t) (one_refused unfit' u' t') =
      let same = one_tally t t' in
      record { packed = same.packed; refused = ap (λ (n : ℕ). n + 1) same.refused; bits = same.bits }

same_summary : (s o : Summary) → o.made ≡ s.made → Same s.packed s.refused s.bits o.packed o.refused o.bits → o ≡ s
same_summary s o m same = by m same.packed same.refused same.bits
  where
    by : o.made ≡ s.made → o.packed ≡ s.packed → o.refused ≡ s.refused → o.bits ≡ s.bits → o ≡ s
    by m' p r b = rw (m', p, r, b) refl

pub only_one : OneWriting → RefusedIsNotSpelled → OneSummary
only_one writing never g start count s other accepted is too = same_summary s other (omega (arith, is.made, too.made)) (one_tally writing never g accepted is.tallied too.tallied)
