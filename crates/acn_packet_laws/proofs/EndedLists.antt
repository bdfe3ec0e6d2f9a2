-- Lists that are ended by a pattern that no element begins with.
use Rattle.std.proofs.Common.{◌≡◌, ℕ, Bool, List, [], ◌++◌, length, take, refl, sym, ap, ◌∙◌, append_assoc}
use Rattle.acn_grammar.specs.Grammar.{Data, Elements, no_elements, element}
use Rattle.acn_grammar.specs.Spell.{Part, ◌then◌, Exactly, RunPart}
use Rattle.acn_grammar.proofs.Prefix.{Law, then_law}
use Rattle.std.proofs.Math.Seq.{take-append_seam}

-- nothing that is spelled begins with the pattern
abbrev pub Apart : List Bool → (Data → Part) → Type 0
Apart p each = (d : Data) (at : ℕ) (bs r : List Bool) → each d at bs → take (length p) (bs ++ r) ≡ p → ⊥

pub whole_with : (a front back r : List Bool) → a ≡ front ++ back → a ++ r ≡ front ++ (back ++ r)
whole_with a front back r e = ap (λ x. x ++ r) e ∙ append_assoc front back r

-- the first of the elements, and what is behind it
pub first_of : {P Q : Part} {p : List Bool} (at : ℕ) (bs : List Bool) → ((P then Q) then Exactly p) at bs → (P then (Q then Exactly p)) at bs
first_of at bs t = record {
  front = t.first.front;
  back = t.first.back ++ t.back;
  whole = t.whole ∙ (ap (λ x. x ++ t.back) t.first.whole ∙ append_assoc t.first.front t.first.back t.back);
  first = t.first.first;
  second = record { front = t.first.back; back = t.back; whole = refl; first = t.first.second; second = t.second };
}

-- no elements: the pattern alone
pub alone : (p : List Bool) (at : ℕ) (bs : List Bool) → (Exactly [] then Exactly p) at bs → bs ≡ p
alone p at bs t = t.whole ∙ (ap (λ x. x ++ t.back) t.first ∙ t.second)

begins : {P Q : Part} (p : List Bool) (at : ℕ) (bs r s : List Bool) → (t : (P then Q) at bs) → bs ++ r ≡ p ++ s → take (length p) (t.front ++ (t.back ++ r)) ≡ p
begins p at bs r s t e = ap (take (length p)) (sym (whole_with bs t.front t.back r t.whole) ∙ e) ∙ take-append_seam p s

module _ (p : List Bool) (each other : Data → Part) where
  pub ended_law : ((d d' : Data) → Law (each d) (other d') (d ≡ d')) → Apart p each → Apart p other → (es fs : Elements) → Law (RunPart each es then Exactly p) (RunPart other fs then Exactly p) (es ≡ fs)
  ended_law law x y no_elements no_elements at a b r s t u e = (alone p at a t ∙ sym (alone p at b u), refl)
  ended_law law x y no_elements (element d fs) at a b r s t u e =
      let w = first_of at b u in
      absurd (y d at w.front (w.back ++ s) w.first (begins p at b s r w (sym e ∙ ap (λ z. z ++ r) (alone p at a t))))
  ended_law law x y (element d es) no_elements at a b r s t u e =
      let w = first_of at a t in
      absurd (x d at w.front (w.back ++ r) w.first (begins p at a r s w (e ∙ ap (λ z. z ++ s) (alone p at b u))))
  ended_law law x y (element d es) (element d' fs) at a b r s t u e =
      let one = then_law (d ≡ d') (es ≡ fs) (law d d') (λ _. ended_law law x y es fs) at a b r s (first_of at a t) (first_of at b u) e in
      let first = one.1.0 in
      let rest = one.1.1 in
      (one.0, cc)
