-- One level of the tree that steps say.
use Rattle.std.proofs.Common.{◌≡◌, ℕ, zero, suc, ◌+◌, ◌-◌, ◌<◌, ◌≤◌, List, [], ◌∷◌, drop, Option, refl, sym, ap, ◌∙◌, arith}
use Rattle.std.proofs.lemmas.List.{drop_all}
use Rattle.acn_grammar.specs.Grammar.{Grammar, node, no_fields, no_alternatives}
use Rattle.acn_plan.specs.Back.{first_node, put_field, put_case, fields_in, cases_in, marks, node_at, form_at, fields_at, cases_at, items_in, item_at, case_items, numbers_in, case_places, StepAt}
use Rattle.acn_plan.specs.declared.step.Step.{Step}

-- Parts of lists.

drop_drop : (n m : ℕ) (xs : List Step) → drop m (drop n xs) ≡ drop (n + m) xs
drop_drop zero m xs = ap (λ (k : ℕ). drop k xs) (omega arith)
drop_drop (suc n) m [] = drop_all m [] (omega arith) ∙ sym (drop_all (suc n + m) [] (omega arith))
drop_drop (suc n) m (x ∷ xs) = (let e : suc (n + m) ≡ suc n + m = omega arith in drop_drop n m xs ∙ ap (λ (k : ℕ). drop k (x ∷ xs)) e)

empty_step : (xs ss : List Step) (s : Step) → xs ≡ [] → xs ≡ s ∷ ss → ⊥
empty_step xs ss s e h = cc

-- an empty list has no step
pub no_step : (i : ℕ) (s : Step) → StepAt [] i s → ⊥
no_step i s h = empty_step (drop i []) (drop (i + 1) []) s (drop_all i [] (omega arith)) h

-- Fields behind some that are passed over.

pub fields_pass : (pass left n : ℕ) (ss : List Step) → fields_in pass left n (marks n ss) ≡ fields_in 0 (left - pass) (n + pass) (marks (n + pass) (drop pass ss))
fields_pass zero left n ss = (let e : left - 0 ≡ left = omega arith in let f : n + 0 ≡ n = omega arith in rw (e, f) refl)
fields_pass (suc pass) zero n ss = (let e : 0 - suc pass ≡ 0 = omega arith in rw e refl)
fields_pass (suc pass) (suc left) n [] = none (suc left - suc pass) (n + suc pass) (drop (suc pass) []) (drop_all (suc pass) [] (omega arith))
  where
    none : (l m : ℕ) (ss : List Step) → ss ≡ [] → no_fields ≡ fields_in 0 l m (marks m ss)
    none zero m ss e = refl
    none (suc l) m ss e = rw e refl
fields_pass (suc pass) (suc left) n (s ∷ ss) =
    (let e : suc left - suc pass ≡ left - pass = omega arith in
    let f : n + suc pass ≡ (n + 1) + pass = omega arith in
    rw (e, f) (fields_pass pass left (n + 1) ss))

pub cases_pass : (pass left n : ℕ) (ss : List Step) → cases_in pass left n (marks n ss) ≡ cases_in 0 (left - pass) (n + pass) (marks (n + pass) (drop pass ss))
cases_pass zero left n ss = (let e : left - 0 ≡ left = omega arith in let f : n + 0 ≡ n = omega arith in rw (e, f) refl)
cases_pass (suc pass) zero n ss = (let e : 0 - suc pass ≡ 0 = omega arith in rw e refl)
cases_pass (suc pass) (suc left) n [] = none (suc left - suc pass) (n + suc pass) (drop (suc pass) []) (drop_all (suc pass) [] (omega arith))
  where
    none : (l m : ℕ) (ss : List Step) → ss ≡ [] → no_alternatives ≡ cases_in 0 l m (marks m ss)
    none zero m ss e = refl
    none (suc l) m ss e = rw e refl
cases_pass (suc pass) (suc left) n (s ∷ ss) =
    (let e : suc left - suc pass ≡ left - pass = omega arith in
    let f : n + suc pass ≡ (n + 1) + pass = omega arith in
    rw (e, f) (cases_pass pass left (n + 1) ss))

pub items_pass : (pass left n : ℕ) (ss : List Step) → items_in pass left n ss ≡ items_in 0 (left - pass) (n + pass) (drop pass ss)
items_pass zero left n ss = (let e : left - 0 ≡ left = omega arith in let f : n + 0 ≡ n = omega arith in rw (e, f) refl)
items_pass (suc pass) zero n ss = (let e : 0 - suc pass ≡ 0 = omega arith in rw e refl)
items_pass (suc pass) (suc left) n [] = none (suc left - suc pass) (n + suc pass) (drop (suc pass) []) (drop_all (suc pass) [] (omega arith))
  where
    none : (l m : ℕ) (ss : List Step) → ss ≡ [] → [] ≡ items_in 0 l m ss
    none zero m ss e = refl
    none (suc l) m ss e = rw e refl
items_pass (suc pass) (suc left) n (s ∷ ss) =
    (let e : suc left - suc pass ≡ left - pass = omega arith in
    let f : n + suc pass ≡ (n + 1) + pass = omega arith in
    rw (e, f) (items_pass pass left (n + 1) ss))

pub numbers_pass : (pass left n : ℕ) (ss : List Step) → numbers_in pass left n ss ≡ numbers_in 0 (left - pass) (n + pass) (drop pass ss)
numbers_pass zero left n ss = (let e : left - 0 ≡ left = omega arith in let f : n + 0 ≡ n = omega arith in rw (e, f) refl)
numbers_pass (suc pass) zero n ss = (let e : 0 - suc pass ≡ 0 = omega arith in rw e refl)
numbers_pass (suc pass) (suc left) n [] = none (suc left - suc pass) (n + suc pass) (drop (suc pass) []) (drop_all (suc pass) [] (omega arith))
  where
    none : (l m : ℕ) (ss : List Step) → ss ≡ [] → [] ≡ numbers_in 0 l m ss
    none zero m ss e = refl
    none (suc l) m ss e = rw e refl
numbers_pass (suc pass) (suc left) n (s ∷ ss) =
    (let e : suc left - suc pass ≡ left - pass = omega arith in
    let f : n + suc pass ≡ (n + 1) + pass = omega arith in
    rw (e, f) (numbers_pass pass left (n + 1) ss))

-- the fields of a list of steps that isn't at its end
pub fields_first : (k end : ℕ) (s : Step) (ss : List Step) → k < end → k < s.next
    → fields_in 0 (end - k) k (marks k (s ∷ ss)) ≡ put_field s.place (first_node (marks k (s ∷ ss))) (fields_in 0 (end - s.next) s.next (marks s.next (drop (s.next - (k + 1)) ss)))
fields_first k end s ss less up =
    (let e : end - k ≡ suc (end - (k + 1)) = omega (arith, less) in
    let f : (end - (k + 1)) - (s.next - (k + 1)) ≡ end - s.next = omega (arith, up) in
    let h : (k + 1) + (s.next - (k + 1)) ≡ s.next = omega (arith, up) in
    let p = fields_pass (s.next - (k + 1)) (end - (k + 1)) (k + 1) ss in
    ap (λ (l : ℕ). fields_in 0 l k (marks k (s ∷ ss))) e
    ∙ ap (put_field s.place (first_node (marks k (s ∷ ss)))) (p ∙ (ap (λ (l : ℕ). fields_in 0 l ((k + 1) + (s.next - (k + 1))) (marks ((k + 1) + (s.next - (k + 1))) (drop (s.next - (k + 1)) ss))) f ∙ ap (λ (m : ℕ). fields_in 0 (end - s.next) m (marks m (drop (s.next - (k + 1)) ss))) h)))

pub cases_first : (k end : ℕ) (s : Step) (ss : List Step) → k < end → k < s.next
    → cases_in 0 (end - k) k (marks k (s ∷ ss)) ≡ put_case s.place (first_node (marks k (s ∷ ss))) (cases_in 0 (end - s.next) s.next (marks s.next (drop (s.next - (k + 1)) ss)))
cases_first k end s ss less up =
    (let e : end - k ≡ suc (end - (k + 1)) = omega (arith, less) in
    let f : (end - (k + 1)) - (s.next - (k + 1)) ≡ end - s.next = omega (arith, up) in
    let h : (k + 1) + (s.next - (k + 1)) ≡ s.next = omega (arith, up) in
    let p = cases_pass (s.next - (k + 1)) (end - (k + 1)) (k + 1) ss in
    ap (λ (l : ℕ). cases_in 0 l k (marks k (s ∷ ss))) e
    ∙ ap (put_case s.place (first_node (marks k (s ∷ ss)))) (p ∙ (ap (λ (l : ℕ). cases_in 0 l ((k + 1) + (s.next - (k + 1))) (marks ((k + 1) + (s.next - (k + 1))) (drop (s.next - (k + 1)) ss))) f ∙ ap (λ (m : ℕ). cases_in 0 (end - s.next) m (marks m (drop (s.next - (k + 1)) ss))) h)))

pub items_first : (k end : ℕ) (s : Step) (ss : List Step) → k < end → k < s.next
    → items_in 0 (end - k) k (s ∷ ss) ≡ item_at s.place ∷ items_in 0 (end - s.next) s.next (drop (s.next - (k + 1)) ss)
items_first k end s ss less up =
    (let e : end - k ≡ suc (end - (k + 1)) = omega (arith, less) in
    let f : (end - (k + 1)) - (s.next - (k + 1)) ≡ end - s.next = omega (arith, up) in
    let h : (k + 1) + (s.next - (k + 1)) ≡ s.next = omega (arith, up) in
    let p = items_pass (s.next - (k + 1)) (end - (k + 1)) (k + 1) ss in
    ap (λ (l : ℕ). items_in 0 l k (s ∷ ss)) e
    ∙ ap (λ (x : List (Option ℕ)). item_at s.place ∷ x) (p ∙ (ap (λ (l : ℕ). items_in 0 l ((k + 1) + (s.next - (k + 1))) (drop (s.next - (k + 1)) ss)) f ∙ ap (λ (m : ℕ). items_in 0 (end - s.next) m (drop (s.next - (k + 1)) ss)) h)))

pub numbers_first : (k end : ℕ) (s : Step) (ss : List Step) → k < end → k < s.next
    → numbers_in 0 (end - k) k (s ∷ ss) ≡ k ∷ numbers_in 0 (end - s.next) s.next (drop (s.next - (k + 1)) ss)
numbers_first k end s ss less up =
    (let e : end - k ≡ suc (end - (k + 1)) = omega (arith, less) in
    let f : (end - (k + 1)) - (s.next - (k + 1)) ≡ end - s.next = omega (arith, up) in
    let h : (k + 1) + (s.next - (k + 1)) ≡ s.next = omega (arith, up) in
    let p = numbers_pass (s.next - (k + 1)) (end - (k + 1)) (k + 1) ss in
    ap (λ (l : ℕ). numbers_in 0 l k (s ∷ ss)) e
    ∙ ap (λ (x : List ℕ). k ∷ x) (p ∙ (ap (λ (l : ℕ). numbers_in 0 l ((k + 1) + (s.next - (k + 1))) (drop (s.next - (k + 1)) ss)) f ∙ ap (λ (m : ℕ). numbers_in 0 (end - s.next) m (drop (s.next - (k + 1)) ss)) h)))

-- One level, by numbers.

pub node_is : (steps : List Step) (i : ℕ) (s : Step) → StepAt steps i s → node_at steps i ≡ node s.align (form_at steps i s)
node_is steps i s h = ap (λ (ss : List Step). first_node (marks i ss)) h

pub fields_more : (steps : List Step) (k end : ℕ) (s : Step) → StepAt steps k s → k < end → k < s.next → fields_at steps k end ≡ put_field s.place (node_at steps k) (fields_at steps s.next end)
fields_more steps k end s h less up =
    (let q = drop_drop (k + 1) (s.next - (k + 1)) steps in
    let e : (k + 1) + (s.next - (k + 1)) ≡ s.next = omega (arith, up) in
    ap (λ (ss : List Step). fields_in 0 (end - k) k (marks k ss)) h
    ∙ (fields_first k end s (drop (k + 1) steps) less up
    ∙ (ap (λ (ss : List Step). put_field s.place (first_node (marks k (s ∷ drop (k + 1) steps))) (fields_in 0 (end - s.next) s.next (marks s.next ss))) (q ∙ ap (λ (m : ℕ). drop m steps) e)
    ∙ ap (λ (g : Grammar). put_field s.place g (fields_at steps s.next end)) (sym (ap (λ (ss : List Step). first_node (marks k ss)) h)))))

pub fields_none : (steps : List Step) (k end : ℕ) → end ≤ k → fields_at steps k end ≡ no_fields
fields_none steps k end le = (let e : end - k ≡ 0 = omega (arith, le) in ap (λ (l : ℕ). fields_in 0 l k (marks k (drop k steps))) e)

pub cases_more : (steps : List Step) (k end : ℕ) (s : Step) → StepAt steps k s → k < end → k < s.next → cases_at steps k end ≡ put_case s.place (node_at steps k) (cases_at steps s.next end)
cases_more steps k end s h less up =
    (let q = drop_drop (k + 1) (s.next - (k + 1)) steps in
    let e : (k + 1) + (s.next - (k + 1)) ≡ s.next = omega (arith, up) in
    ap (λ (ss : List Step). cases_in 0 (end - k) k (marks k ss)) h
    ∙ (cases_first k end s (drop (k + 1) steps) less up
    ∙ (ap (λ (ss : List Step). put_case s.place (first_node (marks k (s ∷ drop (k + 1) steps))) (cases_in 0 (end - s.next) s.next (marks s.next ss))) (q ∙ ap (λ (m : ℕ). drop m steps) e)
    ∙ ap (λ (g : Grammar). put_case s.place g (cases_at steps s.next end)) (sym (ap (λ (ss : List Step). first_node (marks k ss)) h)))))

pub cases_none : (steps : List Step) (k end : ℕ) → end ≤ k → cases_at steps k end ≡ no_alternatives
cases_none steps k end le = (let e : end - k ≡ 0 = omega (arith, le) in ap (λ (l : ℕ). cases_in 0 l k (marks k (drop k steps))) e)

pub items_more : (steps : List Step) (k end : ℕ) (s : Step) → StepAt steps k s → k < end → k < s.next → case_items steps k end ≡ item_at s.place ∷ case_items steps s.next end
items_more steps k end s h less up =
    (let q = drop_drop (k + 1) (s.next - (k + 1)) steps in
    let e : (k + 1) + (s.next - (k + 1)) ≡ s.next = omega (arith, up) in
    ap (λ (ss : List Step). items_in 0 (end - k) k ss) h
    ∙ (items_first k end s (drop (k + 1) steps) less up
    ∙ ap (λ (ss : List Step). item_at s.place ∷ items_in 0 (end - s.next) s.next ss) (q ∙ ap (λ (m : ℕ). drop m steps) e)))

pub items_none : (steps : List Step) (k end : ℕ) → end ≤ k → case_items steps k end ≡ []
items_none steps k end le = (let e : end - k ≡ 0 = omega (arith, le) in ap (λ (l : ℕ). items_in 0 l k (drop k steps)) e)

pub places_more : (steps : List Step) (k end : ℕ) (s : Step) → StepAt steps k s → k < end → k < s.next → case_places steps k end ≡ k ∷ case_places steps s.next end
places_more steps k end s h less up =
    (let q = drop_drop (k + 1) (s.next - (k + 1)) steps in
    let e : (k + 1) + (s.next - (k + 1)) ≡ s.next = omega (arith, up) in
    ap (λ (ss : List Step). numbers_in 0 (end - k) k ss) h
    ∙ (numbers_first k end s (drop (k + 1) steps) less up
    ∙ ap (λ (ss : List Step). k ∷ numbers_in 0 (end - s.next) s.next ss) (q ∙ ap (λ (m : ℕ). drop m steps) e)))

pub places_none : (steps : List Step) (k end : ℕ) → end ≤ k → case_places steps k end ≡ []
places_none steps k end le = (let e : end - k ≡ 0 = omega (arith, le) in ap (λ (l : ℕ). numbers_in 0 l k (drop k steps)) e)
