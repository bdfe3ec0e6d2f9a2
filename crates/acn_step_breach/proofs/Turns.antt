-- The first of some, one part behind another.
use Rattle.std.proofs.Common.{◌≡◌, ℕ, suc, ◌+◌, ◌<◌, ◌≤◌, List, [], ◌∷◌, ◌++◌, length, drop, get_or, Option, Some, None, refl, sym, ap, ◌∙◌, add-one, rules}
use Rattle.std.proofs.lemmas.List.{drop_more, drop_all}
use Rattle.acn_grammar.specs.Grammar.{Grammar, Data, element_count, list_of}
use Rattle.acn_grammar.specs.Meets.{Unfit, Why, Meets, breach, breaches, at_path, size_breach, first_of, run_breaches}
use Rattle.acn_grammar.specs.Shaped.{Shaped}
use Rattle.acn_grammar.specs.View.{data_of, elements_view}
use Rattle.acn_grammar.specs.declared.node.Sizing.{Sizing}
use Rattle.acn_grammar.specs.declared.value.Value.{Value, List as List_value, the_lemmas as value_lemmas}
use Rattle.acn_step_breach.specs.Found.{first, why_of}
use Rattle.acn_step_breach.specs.declared.leaves.Breach.{Breach}

pub first_here : (u : Unfit) (xs ys : List Unfit) → Some u ≡ first_of xs → Some u ≡ first_of (xs ++ ys)
first_here u [] ys h = cc
first_here u (x ∷ xs) ys h = h

pub first_later : (xs ys : List Unfit) → None ≡ first_of xs → first_of (xs ++ ys) ≡ first_of ys
first_later [] ys h = refl
first_later (x ∷ xs) ys h = cc

-- where there is no first one there is none
pub none_there : (xs : List Unfit) → None ≡ first_of xs → xs ≡ []
none_there [] h = refl
none_there (x ∷ xs) h = cc

why_here : (path : List ℕ) (b : Breach) (whys : List Why) (ys : List Unfit) → Some (why_of b) ≡ first whys → Some (record { path = path; why = why_of b }) ≡ first_of (at_path path whys ++ ys)
why_here path b [] ys h = cc
why_here path b (w ∷ ws) ys h = cc

why_later : (path : List ℕ) (whys : List Why) (ys : List Unfit) → None ≡ first whys → first_of (at_path path whys ++ ys) ≡ first_of ys
why_later path [] ys h = refl
why_later path (w ∷ ws) ys h = cc

-- Elements.

elements_length : (vs : List Value) → element_count (elements_view vs) ≡ length vs
elements_length [] = refl
elements_length (v ∷ vs) = ap suc (elements_length vs)

pub size_here : (path : List ℕ) (b : Breach) (s : Sizing) (vs : List Value) (rest : List Unfit) → Some (why_of b) ≡ first (size_breach s (length vs)) → Some (record { path = path; why = why_of b }) ≡ first_of (at_path path (size_breach s (element_count (elements_view vs))) ++ rest)
size_here path b s vs rest h = rw (elements_length vs) (why_here path b (size_breach s (length vs)) rest h)

pub size_later : (path : List ℕ) (s : Sizing) (vs : List Value) (rest : List Unfit) → None ≡ first (size_breach s (length vs)) → first_of (at_path path (size_breach s (element_count (elements_view vs))) ++ rest) ≡ first_of rest
size_later path s vs rest h = rw (elements_length vs) (why_later path (size_breach s (length vs)) rest h)

pub view_list : (vs : List Value) → data_of (List_value vs) ≡ list_of (elements_view vs)
view_list vs = search (rules, value_lemmas)

-- what is broken at each element, by its number
abbrev pub Each : List ℕ → Grammar → ℕ → Data → List Unfit
Each path g = λ k d. breaches (path ++ k ∷ []) g d

pub run_end : (each : ℕ → Data → List Unfit) (vs : List Value) (k i : ℕ) → length vs ≤ i → run_breaches each k (elements_view (drop i vs)) ≡ []
run_end each vs k i h = ap (λ xs. run_breaches each k (elements_view xs)) (drop_all i vs h)

run_turn : (each : ℕ → Data → List Unfit) (vs : List Value) (k i : ℕ) (v : Value) → i < length vs → v ≡ get_or vs i v → run_breaches each k (elements_view (drop i vs)) ≡ each k (data_of v) ++ run_breaches each (k + 1) (elements_view (drop (i + 1) vs))
run_turn each vs k i v h e = rw (drop_more vs i v h, ← e, add-one k)

module _ (path here : List ℕ) (g : Grammar) (vs : List Value) (number i : ℕ) (v : Value) (less : i < length vs) (at : v ≡ get_or vs i v) (same : here ≡ path) (is : number ≡ i) where
  there : (o : Option Unfit) → o ≡ first_of (breaches (here ++ number ∷ []) g (data_of v)) → o ≡ first_of (breaches (path ++ i ∷ []) g (data_of v))
  there o a = a ∙ (ap (λ x. first_of (breaches (x ++ number ∷ []) g (data_of v))) same ∙ ap (λ x. first_of (breaches (path ++ x ∷ []) g (data_of v))) is)

  pub element_here : (u : Unfit) → Some u ≡ first_of (breaches (here ++ number ∷ []) g (data_of v)) → Some u ≡ first_of (run_breaches (Each path g) i (elements_view (drop i vs)))
  element_here u a = first_here u _ _ (there (Some u) a) ∙ ap first_of (sym (run_turn (Each path g) vs i i v less at))

  pub element_later : None ≡ first_of (breaches (here ++ number ∷ []) g (data_of v)) → first_of (run_breaches (Each path g) (i + 1) (elements_view (drop (i + 1) vs))) ≡ first_of (run_breaches (Each path g) i (elements_view (drop i vs)))
  element_later a = sym (ap first_of (run_turn (Each path g) vs i i v less at) ∙ first_later _ _ (there None a))

-- a value that has the form and breaks nothing meets the constraints
pub meets_all : (g : Grammar) (d : Data) → None ≡ breach g d → Shaped g d → Meets g d
meets_all g d e s = record { shaped = s; none = none_there (breaches [] g d) e }
