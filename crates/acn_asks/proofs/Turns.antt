-- Moments that are heard one after another, turn by turn of a loop.
use Rattle.std.proofs.Common.{◌≡◌, ℕ, zero, suc, ◌+◌, ◌<◌, ◌≤◌, List, [], ◌∷◌, ◌++◌, Option, Some, length, take, drop, get_or, sym, ap, ◌∙◌, subst, arith}
use Rattle.std.specs.Prelude.{map, option_map}
use Rattle.acn_grammar.specs.Faults.{ask_of}
use Rattle.std.specs.List.{AllByRecursion}
use Rattle.std.proofs.Math.Seq.{drop-cons}
use Rattle.std.proofs.lemmas.List.{take_all, take_more, map-append, take-append-drop}
use Rattle.std.proofs.lemmas.Option.{slice_get-get_or}
use Rattle.acn_grammar.specs.Asks as asks
use Rattle.acn_grammar.specs.Grammar.{Grammar}
use Rattle.acn_grammar.specs.Refused.{FirstUnmet}
use Rattle.acn_asks.specs.Judged.{Judged}
use Rattle.acn_asks.specs.Moments.{moment_of, IsOf, AreOf, StopsAt, HaltsAt, halted, unfit_of}
use Rattle.acn_asks.specs.declared.asked.Asked.{Asked}
use Rattle.acn_asks.specs.declared.asked.Unmet.{Unmet}
use Rattle.acn_asks.specs.declared.asked.Unmet.TheVariants.{Conflict, NoMemory}
use Rattle.acn_asks.specs.declared.moments.Moment.{Moment}

one_of : {A : Type 0} (P : A → Type 0) (xs : List A) (i : ℕ) (d : A) → AllByRecursion P xs → i < length xs → P (get_or xs i d)
one_of P [] i d h k = absurd (omega arith)
one_of P (x ∷ xs) zero d h k = h.0
one_of P (x ∷ xs) (suc i) d h k = one_of P xs i d h.1 (omega arith)

abbrev JudgedTo : List Moment → ℕ → List (List ℕ × Asked) → Type 0
JudgedTo ms i heard = (root : Grammar) (slot_at : List ℕ → Option ℕ) → AreOf root slot_at ms → Judged root slot_at (map moment_of (take i ms)) heard

taken : (ms : List Moment) (i : ℕ) (x d : Moment) → i < length ms → x ≡ get_or ms i d → map moment_of (take (i + 1) ms) ≡ map moment_of (take i ms) ++ moment_of x ∷ []
taken ms i x d h is = ap (map moment_of) (take_more ms i d h) ∙ (map-append moment_of (take i ms) (get_or ms i d ∷ []) ∙ ap (λ y. map moment_of (take i ms) ++ moment_of y ∷ []) (sym is))

cut : (ms : List Moment) (i : ℕ) (x d : Moment) → i < length ms → x ≡ get_or ms i d → map moment_of ms ≡ map moment_of (take i ms) ++ moment_of x ∷ map moment_of (drop (suc i) ms)
cut ms i x d h is =
    ap (map moment_of) (sym (take-append-drop i ms)) ∙ (map-append moment_of (take i ms) (drop i ms) ∙ (ap (λ l. map moment_of (take i ms) ++ map moment_of l) (drop-cons ms i d h)
    ∙ ap (λ y. map moment_of (take i ms) ++ moment_of y ∷ map moment_of (drop (suc i) ms)) (sym is)))

pub heard_turn : (ms : List Moment) (i : ℕ) (x d : Moment) (old new : List (List ℕ × Asked)) → i < length ms → x ≡ get_or ms i d → JudgedTo ms i old
    → ((root : Grammar) (slot_at : List ℕ → Option ℕ) (before : List asks.Moment) → IsOf root slot_at x → Judged root slot_at before old → Judged root slot_at (before ++ moment_of x ∷ []) new)
    → JudgedTo ms (i + 1) new
heard_turn ms i x d old new h is j step root slot_at are =
    let one = subst (λ y. IsOf root slot_at y) (sym is) (one_of (IsOf root slot_at) ms i d are h) in
    subst (λ l. Judged root slot_at l new) (sym (taken ms i x d h is)) (step root slot_at (map moment_of (take i ms)) one (j root slot_at are))

pub heard_stop : (ms : List Moment) (i : ℕ) (x d : Moment) (old : List (List ℕ × Asked)) (u : Unmet) → i < length ms → x ≡ get_or ms i d → JudgedTo ms i old → StopsAt x old u → HaltsAt ms (halted i u)
heard_stop ms i x d old (Conflict earlier) h is j stop = (
  x,
  slice_get-get_or ms i d h ∙ ap Some (sym is),
  λ root slot_at are.
      let one = subst (λ y. IsOf root slot_at y) (sym is) (one_of (IsOf root slot_at) ms i d are h) in
      subst (λ l. FirstUnmet root l (unfit_of x (option_map ask_of earlier))) (sym (cut ms i x d h is)) (stop root slot_at (map moment_of (take i ms)) (map moment_of (drop (suc i) ms)) one (j root slot_at are)),
)
heard_stop ms i x d old NoMemory h is j stop = tt

pub heard_all : (ms : List Moment) (i : ℕ) (heard : List (List ℕ × Asked)) → length ms ≤ i → JudgedTo ms i heard → (root : Grammar) (slot_at : List ℕ → Option ℕ) → AreOf root slot_at ms → Judged root slot_at (map moment_of ms) heard
heard_all ms i heard h j root slot_at are = subst (λ l. Judged root slot_at (map moment_of l) heard) (take_all i ms h) (j root slot_at are)
