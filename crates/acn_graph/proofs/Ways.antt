-- Ways through a graph.
use Rattle.std.proofs.Common.{◌≡◌, ℕ, zero, suc, ◌+◌, ◌<◌, ◌≤◌, true, List, [], ◌∷◌, ◌++◌, length, get_or, reverse, sym, subst, arith}
use Rattle.std.proofs.lemmas.List.{reverse-append}
use Rattle.acn_graph.specs.Graph.{Graph, Among, onward, Leads, once, more, are_below, never_rise}
use Rattle.acn_graph.specs.Search.{IsTrail}
use Rattle.acn_graph.proofs.Lists.{none_in_nothing, each_below, both_true}

-- what leads anywhere is a node
pub is_node : (g : Graph) (n : ℕ) {t : ℕ} → Among t (onward g n) → n < length g
is_node [] n i = absurd (none_in_nothing i)
is_node (row ∷ g) zero i = omega arith
is_node (row ∷ g) (suc n) i = let h = is_node g n i in omega arith

pub starts_at_a_node : {g : Graph} {p q : ℕ} {way : List ℕ} → Leads g p q way → p < length g
starts_at_a_node {g} (once {p} i) = is_node g p i
starts_at_a_node {g} (more {p} i rest) = is_node g p i

-- ---- numbers that never rise along a step

pub no_rise : (numbers : List ℕ) (n : ℕ) (g : Graph) → never_rise numbers n g ≡ true → (k : ℕ) {t : ℕ} → Among t (onward g k) → get_or numbers t 0 ≤ get_or numbers (n + k) 0
no_rise numbers n [] e k i = absurd (none_in_nothing i)
no_rise numbers n (row ∷ g) e zero {t} i =
    let h = each_below numbers (get_or numbers n 0 + 1) (both_true (are_below numbers (get_or numbers n 0 + 1) row) (never_rise numbers (n + 1) g) e).0 i in
    let low : get_or numbers t 0 ≤ get_or numbers n 0 = omega (arith, h) in
    let same : n ≡ n + zero = omega arith in
    subst (λ (m : ℕ). get_or numbers t 0 ≤ get_or numbers m 0) same low
no_rise numbers n (row ∷ g) e (suc k) {t} i =
    let h = no_rise numbers (n + 1) g (both_true (are_below numbers (get_or numbers n 0 + 1) row) (never_rise numbers (n + 1) g) e).1 k i in
    let same : (n + 1) + k ≡ n + suc k = omega arith in
    subst (λ (m : ℕ). get_or numbers t 0 ≤ get_or numbers m 0) same h

module _ (g : Graph) (number : ℕ → ℕ) (level : (k t : ℕ) → Among t (onward g k) → number t ≤ number k) where
  not_above : {p q : ℕ} {way : List ℕ} → Leads g p q way → number q ≤ number p
  not_above (once {p} {q} i) = level p q i
  not_above (more {p} {q} i rest) = let a = level p q i in let b = not_above rest in omega arith

  -- from lower numbers no way leads back
  lower : {p q : ℕ} {way : List ℕ} → ((t : ℕ) → Among t (onward g p) → number t < number p) → Leads g p q way → number q < number p
  lower down (once {p} {q} i) = down q i
  lower down (more {p} {q} i rest) = let a = down q i in let b = not_above rest in omega arith

pub no_way_back : (numbers : List ℕ) (g : Graph) (p : ℕ) → never_rise numbers 0 g ≡ true → are_below numbers (get_or numbers p 0) (onward g p) ≡ true → (way : List ℕ) → Leads g p p way → ⊥
no_way_back numbers g p e down way h =
    let level : (k t : ℕ) → Among t (onward g k) → get_or numbers t 0 ≤ get_or numbers k 0 = λ k t i. let same : 0 + k ≡ k = omega arith in subst (λ (m : ℕ). get_or numbers t 0 ≤ get_or numbers m 0) same (no_rise numbers 0 g e k i) in
    let a = lower g (λ t. get_or numbers t 0) level (λ t i. each_below numbers (get_or numbers p 0) down i) h in
    absurd (omega (arith, a))

-- ---- a way, written from its end

pub one_back : (g : Graph) (order parents way : List ℕ) (first place : ℕ) → IsTrail g order parents → 0 < place → place < length order
    → Leads g (get_or order place 0) first (reverse way)
    → Leads g (get_or order (get_or parents place 0) 0) first (reverse (way ++ get_or order (get_or parents place 0) 0 ∷ []))
one_back g order parents way first place trail positive within h =
    subst (λ (w : List ℕ). Leads g (get_or order (get_or parents place 0) 0) first w) (sym (reverse-append way (get_or order (get_or parents place 0) 0 ∷ []))) (more (trail.from place positive within) h)
