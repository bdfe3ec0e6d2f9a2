-- Fields that are read out of one word.
use Rattle.std.proofs.Common.{◌≡◌, ℕ, ◌+◌, ◌<◌, ◌≤◌, List, [], ◌∷◌, ◌++◌, length, zero, suc, ◌-◌, take, drop, get_or, refl, sym, ap, subst, ◌∙◌, arith, append-nil}
use Rattle.std.proofs.Math.Seq.{take-length}
use Rattle.std.proofs.lemmas.List.{drop_more, length-drop}
use Rattle.acn_grammar.specs.Grammar.{Fields, no_fields, component, inserted}
use Rattle.acn_grammar.specs.View.{OneField, a_component, an_inserted, field_of, fields_view, with_field}
use Rattle.acn_grammar.specs.declared.node.Field.{Field}
use Rattle.acn_cut.specs.Stretches.{IsRun, IsStretch, AreStretches, total}
use Rattle.acn_cut.specs.declared.stretch.Piece.{Piece}
use Rattle.acn_cut.specs.declared.stretch.Stretch.{Stretch}

-- one field more
pub run_more : (fs mid rest : Fields) (ps : List Piece) (p : Piece) → IsRun fs ps mid → IsRun mid (p ∷ []) rest → IsRun fs (ps ++ p ∷ []) rest
run_more fs mid rest [] p r s = subst (λ x. IsRun x (p ∷ []) rest) (sym r) s
run_more no_fields mid rest (q ∷ ps) p r s = absurd r
run_more (component name g presence default slot fs) mid rest (q ∷ ps) p r s = (r.0, r.1, run_more fs mid rest ps p r.2 s)
run_more (inserted name g slot fs) mid rest (q ∷ ps) p r s = (r.0, run_more fs mid rest ps p r.1 s)

-- one field less
pub run_split : (fs rest : Fields) (ps : List Piece) (p : Piece) → IsRun fs (ps ++ p ∷ []) rest → (mid : Fields) × IsRun fs ps mid × IsRun mid (p ∷ []) rest
run_split fs rest [] p r = (fs, refl, r)
run_split no_fields rest (q ∷ ps) p r = absurd r
run_split (component name g presence default slot fs) rest (q ∷ ps) p r = (let s = run_split fs rest ps p r.2 in (s.0, (r.0, r.1, s.1), s.2))
run_split (inserted name g slot fs) rest (q ∷ ps) p r = (let s = run_split fs rest ps p r.1 in (s.0, (r.0, s.1), s.2))

-- the rest is what stands behind so many fields
pub run_rest : (fs : List Field) (ps : List Piece) (rest : Fields) → IsRun (fields_view fs) ps rest → (length ps ≤ length fs) × (fields_view (drop (length ps) fs) ≡ rest)
run_rest fs [] rest r = (omega arith, r)
run_rest [] (p ∷ ps) rest r = absurd r
run_rest (x ∷ xs) (p ∷ ps) rest r = (let s = run_rest xs ps rest (behind (field_of x) r) in (omega (arith, s), s.1))
  where
    behind : (f : OneField) → IsRun (with_field f (fields_view xs)) (p ∷ ps) rest → IsRun (fields_view xs) ps rest
    behind (a_component name g presence default slot) h = h.2
    behind (an_inserted name g slot) h = h.1

pub total_more : (ps : List Piece) (p : Piece) → total (ps ++ p ∷ []) ≡ total ps + p.cut.width
total_more [] p = (let e : p.cut.width + 0 ≡ 0 + p.cut.width = omega arith in e)
total_more (q ∷ ps) p = (let e = total_more ps p in omega (arith, e))

pub field_next : (fs : List Field) (i : ℕ) (f : Field) → i < length fs → f ≡ get_or fs i f → fields_view (drop i fs) ≡ with_field (field_of f) (fields_view (drop (i + 1) fs))
field_next fs i f h e = rw (drop_more fs i f h, ← e) refl

-- Stretches.

first : (f : OneField) (fs : Fields) (s : Stretch) (ss : List Stretch) → ((rest : Fields) × IsStretch (with_field f fs) s rest) → AreStretches fs ss → AreStretches (with_field f fs) (s ∷ ss)
first (a_component name g presence default slot) fs s ss p more = (p, more)
first (an_inserted name g slot) fs s ss p more = (p, more)

-- one more in front of those behind
pub stretch_first : (fs : List Field) (i : ℕ) (s : Stretch) (ss : List Stretch) → i < length fs → ((rest : Fields) × IsStretch (fields_view (drop i fs)) s rest) → AreStretches (fields_view (drop (suc i) fs)) ss → AreStretches (fields_view (drop i fs)) (s ∷ ss)
stretch_first [] i s ss h p more = absurd (omega (arith, h))
stretch_first (x ∷ xs) zero s ss h p more = first (field_of x) (fields_view xs) s ss p more
stretch_first (x ∷ xs) (suc i) s ss h p more = stretch_first xs i s ss (omega (arith, h)) p more

-- the fields from one on
pub fields_behind : (fs : List Field) (i : ℕ) → take (length fs - i) (drop i fs) ≡ drop i fs
fields_behind fs i = ap (λ n. take n (drop i fs)) (sym (length-drop i fs)) ∙ take-length (drop i fs)

-- behind the last field
pub stretches_whole : (fs : List Field) (i : ℕ) (ss : List Stretch) → ((more : List Stretch) → AreStretches (fields_view (drop i fs)) more → AreStretches (fields_view fs) (ss ++ more)) → AreStretches (fields_view fs) ss
stretches_whole fs i ss kept = subst (λ (x : List Stretch). AreStretches (fields_view fs) x) (append-nil ss) (kept [] tt)

-- nothing begins
pub nothing_begins : (fs : Fields) (s : Stretch) → s.pieces ≡ [] → s.width ≡ 0 → (rest : Fields) × IsStretch fs s rest
nothing_begins fs s none zero_bits = (
  fs,
  record {
    width = zero_bits ∙ ap total (sym none);
    few = (let e = zero_bits in omega (arith, e));
    run = subst (λ (ps : List Piece). IsRun fs ps fs) (sym none) refl;
  },
)

-- the stretch that begins with a field, where one is said
pub stretch_at : (fs : List Field) (ss : List Stretch) (i : ℕ) (s : Stretch) → AreStretches (fields_view fs) ss → i < length fs → i < length ss → s ≡ get_or ss i s → (rest : Fields) × IsStretch (fields_view (drop i fs)) s rest
stretch_at fs [] i s all h within e = absurd (omega (arith, within))
stretch_at [] (t ∷ ss) i s all h within e = absurd (omega (arith, h))
stretch_at (x ∷ xs) (t ∷ ss) zero s all h within e = subst (λ (y : Stretch). (rest : Fields) × IsStretch (fields_view (x ∷ xs)) y rest) (sym e) (head (field_of x) all)
  where
    head : (f : OneField) → AreStretches (with_field f (fields_view xs)) (t ∷ ss) → (rest : Fields) × IsStretch (with_field f (fields_view xs)) t rest
    head (a_component name g presence default slot) h = h.0
    head (an_inserted name g slot) h = h.0
stretch_at (x ∷ xs) (t ∷ ss) (suc i) s all h within e = stretch_at xs ss i s (tail (field_of x) all) (omega (arith, h)) (omega (arith, within)) e
  where
    tail : (f : OneField) → AreStretches (with_field f (fields_view xs)) (t ∷ ss) → AreStretches (fields_view xs) ss
    tail (a_component name g presence default slot) h = h.1
    tail (an_inserted name g slot) h = h.1
