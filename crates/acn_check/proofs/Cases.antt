-- Alternatives as lists, and the bodies that have them.
use Rattle.std.proofs.Common.{◌≡◌, ℕ, ◌+◌, ◌<◌, ◌≤◌, List, ◌∷◌, length, drop, get_or, Option, None, Err, sym, ap, ◌∙◌, subst, add-one, rules, arith}
use Rattle.std.proofs.lemmas.List.{drop_more}
use Rattle.acn_grammar.specs.Check.{CheckFault}
use Rattle.acn_grammar.specs.Slots.{first_of_two}
use Rattle.acn_grammar.specs.View.{form_of, alternatives_view}
use Rattle.acn_grammar.specs.declared.check_fault.CheckFault as program
use Rattle.acn_grammar.specs.declared.node.Alternative.{Alternative}
use Rattle.acn_grammar.specs.declared.node.Body.{Body, Choice as Choice_body, the_lemmas as node_lemmas}
use Rattle.acn_grammar.specs.declared.node.Test.{Test}
use Rattle.acn_grammar.specs.declared.node.Choice.{Choice, out-Choice}
use Rattle.acn_grammar.specs.Grammar.{choice}
use Rattle.acn_well_formed.proofs.AlternativeRows.{alternatives_counted}
use Rattle.acn_check.specs.First.{Det, Told, against, pairs}
use Rattle.acn_check.specs.Program.{cases_of, few_in}
use Rattle.acn_check.proofs.Telling.{told_first}

choice_form : (c : Choice) → form_of (Choice_body c) ≡ choice (alternatives_view (out-Choice c).alternatives) (out-Choice c).rule
choice_form c = search (rules, node_lemmas)

-- a CHOICE with few alternatives has few in its list
pub few_cases : (body : Body) (c : Choice) → body ≡ Choice_body c → few_in (form_of body) → length (out-Choice c).alternatives ≤ 65536
few_cases body c e few =
    let f : few_in (choice (alternatives_view (out-Choice c).alternatives) (out-Choice c).rule) = subst few_in (choice_form c) (subst (λ b. few_in (form_of b)) e few) in
    let n = alternatives_counted (out-Choice c).alternatives in
    omega (arith, n, f)

-- the first alternative with its conditions
first_case : (x : Alternative) (rest : List Alternative) → cases_of (x ∷ rest) ≡ (x.name, x.tests) ∷ cases_of rest
first_case x rest = search (rules, node_lemmas)

module _ (ds : List Det) (path : List ℕ) (as' : List Alternative) (whole : Option CheckFault) where
  split : (i : ℕ) (x : Alternative) → i < length as' → x ≡ get_or as' i x → pairs ds path i (cases_of (drop i as')) ≡ whole
      → first_of_two (against ds path i x.tests (i + 1) (cases_of (drop (i + 1) as'))) (pairs ds path (i + 1) (cases_of (drop (i + 1) as'))) ≡ whole
  split i x l is e =
      let s : drop i as' ≡ x ∷ drop (i + 1) as' = drop_more as' i x l ∙ ap (λ y. y ∷ drop (i + 1) as') (sym is) in
      ap (λ n. first_of_two (against ds path i x.tests n (cases_of (drop (i + 1) as'))) (pairs ds path n (cases_of (drop (i + 1) as')))) (add-one i) ∙ (sym (ap (λ l'. pairs ds path i (cases_of l')) s ∙ ap (pairs ds path i) (first_case x (drop (i + 1) as'))) ∙ e)

  -- the alternative overlaps with one behind it
  pub pairs_in : (i : ℕ) (x : Alternative) (ts : List Test) (others : List Alternative) (e : program.CheckFault) → i < length as' → x ≡ get_or as' i x → ts ≡ x.tests → others ≡ drop (i + 1) as' → pairs ds path i (cases_of (drop i as')) ≡ whole
      → Told (against ds path i ts (i + 1) (cases_of others)) (Err e) → Told whole (Err e)
  pairs_in i x ts others e l is tt' o eq t =
      subst (λ w. Told w (Err e)) (split i x l is eq) (told_first (against ds path i x.tests (i + 1) (cases_of (drop (i + 1) as'))) (pairs ds path (i + 1) (cases_of (drop (i + 1) as'))) e (subst (λ l'. Told (against ds path i x.tests (i + 1) (cases_of l')) (Err e)) o (subst (λ ts'. Told (against ds path i ts' (i + 1) (cases_of others)) (Err e)) tt' t)))

  -- it overlaps with none
  pub pairs_on : (i : ℕ) (x : Alternative) (ts : List Test) (others : List Alternative) → i < length as' → x ≡ get_or as' i x → ts ≡ x.tests → others ≡ drop (i + 1) as' → pairs ds path i (cases_of (drop i as')) ≡ whole
      → against ds path i ts (i + 1) (cases_of others) ≡ None → pairs ds path (i + 1) (cases_of (drop (i + 1) as')) ≡ whole
  pairs_on i x ts others l is tt' o eq n =
      sym (ap (λ a. first_of_two a (pairs ds path (i + 1) (cases_of (drop (i + 1) as')))) (sym (ap (λ ts'. against ds path i ts' (i + 1) (cases_of others)) tt' ∙ ap (λ l'. against ds path i x.tests (i + 1) (cases_of l')) o) ∙ n)) ∙ split i x l is eq
