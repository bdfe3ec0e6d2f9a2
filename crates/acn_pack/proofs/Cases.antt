-- The alternative of an index: its events, and the item that says that it is there.
use Rattle.std.proofs.Common.{◌≡◌, ℕ, zero, suc, ◌+◌, ◌<◌, ◌≤◌, ℤ, Bool, true, false, List, [], ◌∷◌, ◌++◌, map, get_or, length, Option, Some, None, refl, sym, ap, ◌∙◌, subst, arith}
use Rattle.std.specs.Prelude.{slice_get, Contains}
use Rattle.acn_grammar.specs.Asks.{index_of, same_name}
use Rattle.acn_grammar.specs.Grammar.{Grammar, Alternatives, Data, choice, no_alternatives, alternative}
use Rattle.acn_grammar.specs.Scoped.{names_of}
use Rattle.acn_grammar.specs.Slots.{items_of}
use Rattle.acn_grammar.specs.View.{OneAlternative}
use Rattle.acn_grammar.specs.Walk.{conditions_of}
use Rattle.acn_grammar.specs.declared.node.ChoiceRule.{ChoiceRule}
use Rattle.acn_grammar.specs.declared.node.ChoiceRule.TheVariants.{Index, Tests, Item}
use Rattle.acn_grammar.specs.declared.node.Test.{Test}
use Rattle.acn_grammar.proofs.Characters.{same_name-is, same_name-refl}
use Rattle.acn_events.specs.Events.{case_events, events, rule_events}
use Rattle.acn_plan.specs.Back.{cases_at, item_at, put_case}
use Rattle.acn_plan.specs.Steps.{item_named}
use Rattle.acn_plan.specs.declared.step.Place.{Place}
use Rattle.acn_plan.specs.declared.step.Place.TheVariants as places
use Rattle.acn_plan.specs.declared.step.Step.{Step}
use Rattle.acn_plan.proofs.Marks.{cases_none}
use Rattle.acn_pack.specs.Parts.{nth_case, name_in, tests_in, item_events, case_tests, IsItemed}
use Rattle.acn_pack.specs.Sounds.{IsSound, FormIsSound, CasesAreSound}

-- Events.

pub rule_parts : (root : Grammar) (path : List ℕ) (i : ℕ) (rule : ChoiceRule) (name : List ℕ) (tests : List Test) → rule_events root path i rule name tests ≡ item_events root path rule name ++ case_tests (path ++ i ∷ []) rule tests
rule_parts root path i (Item s) name tests = refl
rule_parts root path i (Index width) name tests = refl
rule_parts root path i Tests name tests = refl

some_one : (a b : OneAlternative) → ◌≡◌ {A = Option OneAlternative} (Some a) (Some b) → a ≡ b
some_one a b e = cc

module _ (root : Grammar) (rule : ChoiceRule) (path : List ℕ) where
  pub nth_events : (cases : Alternatives) (i j : ℕ) (a : OneAlternative) (d : Data) → nth_case cases j ≡ Some a → case_events root cases rule path i j d ≡ rule_events root path i rule a.name a.tests ++ events root a.grammar (path ++ i ∷ []) d
  nth_events no_alternatives i j a d e = cc
  nth_events (alternative name g tests more) i zero a d e =
      let b : OneAlternative = record { name = name; grammar = g; tests = tests } in
      ap (λ (x : OneAlternative). rule_events root path i rule x.name x.tests ++ events root x.grammar (path ++ i ∷ []) d) (some_one b a e)
  nth_events (alternative name g tests more) i (suc j) a d e = nth_events more i j a d e

  pub no_events : (cases : Alternatives) (i j : ℕ) (d : Data) → nth_case cases j ≡ None → case_events root cases rule path i j d ≡ []
  no_events no_alternatives i j d e = refl
  no_events (alternative name g tests more) i zero d e = cc
  no_events (alternative name g tests more) i (suc j) d e = no_events more i j d e

-- Soundness.

pub cases_sound : (root : Grammar) (k : ℕ) (cases : Alternatives) (rule : ChoiceRule) → FormIsSound root k (choice cases rule) → CasesAreSound root (suc k) cases
cases_sound root k cases rule s = record { around = s.around; known = s.known; are = s.is.3 }

pub nth_sound : (root : Grammar) (k : ℕ) (cases : Alternatives) (j : ℕ) (a : OneAlternative) → CasesAreSound root k cases → nth_case cases j ≡ Some a → IsSound root k a.grammar
nth_sound root k no_alternatives j a s e = cc
nth_sound root k (alternative name g tests more) zero a s e =
    let b : OneAlternative = record { name = name; grammar = g; tests = tests } in
    subst (λ (x : OneAlternative). IsSound root k x.grammar) (some_one b a e) (record { around = s.around; known = s.known; is = s.are.1 })
nth_sound root k (alternative name g tests more) (suc j) a s e = nth_sound root k more j a (record { around = s.around; known = s.known; are = s.are.2 }) e

-- The alternative that a place says.

pub case_first : (p : Place) (g : Grammar) (more : Alternatives) → nth_case (put_case p g more) 0 ≡ Some (record { name = name_in p; grammar = g; tests = tests_in p })
case_first (places.Alternative name tests item) g more = refl
case_first places.Root g more = refl
case_first (places.Component name presence default slot) g more = refl
case_first (places.Inserted name slot) g more = refl
case_first places.Element g more = refl
case_first places.Content g more = refl

pub case_later : (p : Place) (g : Grammar) (more : Alternatives) (i : ℕ) → nth_case (put_case p g more) (suc i) ≡ nth_case more i
case_later (places.Alternative name tests item) g more i = refl
case_later places.Root g more i = refl
case_later (places.Component name presence default slot) g more i = refl
case_later (places.Inserted name slot) g more i = refl
case_later places.Element g more i = refl
case_later places.Content g more i = refl

-- where no step is left there is none
pub none_left : (steps : List Step) (k end j : ℕ) → end ≤ k → nth_case (cases_at steps k end) j ≡ None
none_left steps k end j h = ap (λ (x : Alternatives). nth_case x j) (cases_none steps k end h)

-- Items.

turned : (a b : List ℕ) → same_name a b ≡ true → same_name b a ≡ true
turned a b h = (let e = same_name-is a b h in subst (λ (x : List ℕ). same_name x a ≡ true) e (same_name-refl a))

not_turned : (a b : List ℕ) → same_name a b ≡ false → same_name b a ≡ false
not_turned a b h = by (same_name b a) refl
  where
    by : (c : Bool) → same_name b a ≡ c → c ≡ false
    by true e = (let t = turned b a e in cc)
    by false e = refl

-- where a name is among the first parts from some item on
abbrev Among : (name : List ℕ) → (j : ℕ) → List (List ℕ × ℤ) → Type 0
Among name j items = (j < length (map (λ (e : List ℕ × ℤ). e.0) items)) × (get_or (map (λ (e : List ℕ × ℤ). e.0) items) j name ≡ name)

abbrev IsFound : (name : List ℕ) → (k : ℕ) → List (List ℕ × ℤ) → Type 0
IsFound name k items = item_named name k items ≡ Some (k + index_of (same_name name) items)

later : (name : List ℕ) (k : ℕ) (x : List ℕ × ℤ) (items : List (List ℕ × ℤ)) (j : ℕ) → same_name x.0 name ≡ false → Among name j (x ∷ items) → ((j : ℕ) → Among name j items → IsFound name k items) → IsFound name k items
later name k x items zero away a f = (let t : same_name x.0 name ≡ true = ap (λ (n : List ℕ). same_name n name) a.1 ∙ same_name-refl name in cc)
later name k x items (suc j) away a f = (let l = a.0 in f j (omega (arith, l), a.1))

found : (name : List ℕ) (k : ℕ) (items : List (List ℕ × ℤ)) (j : ℕ) → Among name j items → IsFound name k items
found name k [] j a = (let l = a.0 in absurd (omega (arith, l)))
found name k (x ∷ items) j a = by (same_name x.0 name) refl (λ i b. found name (k + 1) items i b)
  where
    by : (b : Bool) → same_name x.0 name ≡ b → ((i : ℕ) → Among name i items → IsFound name (k + 1) items) → IsFound name k (x ∷ items)
    by true h f = (let t = turned x.0 name h in let z : k ≡ k + 0 = omega arith in rw (h, t) (ap Some z))
    by false h f =
        (let t = not_turned x.0 name h in
        let r = later name (k + 1) x items j h a f in
        let z : (k + 1) + index_of (same_name name) items ≡ k + suc (index_of (same_name name) items) = omega arith in
        rw (h, t) (r ∙ ap Some z))

pub item_found : (name : List ℕ) (items : List (List ℕ × ℤ)) → Contains (map (λ (e : List ℕ × ℤ). e.0) items) name → item_named name 0 items ≡ Some (index_of (same_name name) items)
item_found name items c = (let z : 0 + index_of (same_name name) items ≡ index_of (same_name name) items = omega arith in found name 0 items c.0 (c.1, c.2) ∙ ap Some z)

nth_name : (cases : Alternatives) (j : ℕ) (a : OneAlternative) → nth_case cases j ≡ Some a → Contains (map (λ (c : List ℕ × List Test). c.0) (conditions_of cases)) a.name
nth_name no_alternatives j a e = cc
nth_name (alternative name g tests more) zero a e =
    let b : OneAlternative = record { name = name; grammar = g; tests = tests } in
    (zero, omega arith, ap (λ (x : OneAlternative). x.name) (some_one b a e))
nth_name (alternative name g tests more) (suc j) a e = (let r = nth_name more j a e in (suc r.0, (let l = r.1 in omega (arith, l)), r.2))

nth_item : (f : List ℕ → Option ℕ) (cases : Alternatives) (j : ℕ) (a : OneAlternative) → nth_case cases j ≡ Some a → slice_get (map f (names_of cases)) j ≡ Some (f a.name)
nth_item f no_alternatives j a e = cc
nth_item f (alternative name g tests more) zero a e =
    let b : OneAlternative = record { name = name; grammar = g; tests = tests } in ap (λ (x : OneAlternative). Some (f x.name)) (some_one b a e)
nth_item f (alternative name g tests more) (suc j) a e = nth_item f more j a e

some_item : (a b : Option ℕ) → ◌≡◌ {A = Option (Option ℕ)} (Some a) (Some b) → a ≡ b
some_item a b e = cc

-- the place of an alternative has the item of its name
pub is_itemed : (root : Grammar) (k : ℕ) (cases : Alternatives) (rule : ChoiceRule) (items : List (Option ℕ)) (j : ℕ) (a : OneAlternative) (p : Place)
    → FormIsSound root k (choice cases rule) → ((s : ℕ) → rule ≡ Item s → items ≡ map (λ name. item_named name 0 (items_of root s)) (names_of cases))
    → nth_case cases j ≡ Some a → a.name ≡ name_in p → slice_get items j ≡ Some (item_at p) → IsItemed root rule p
is_itemed root k cases (Index width) items j a p s are e n h = tt
is_itemed root k cases Tests items j a p s are e n h = tt
is_itemed root k cases (Item t) items j a p s are e n h =
    let there = nth_item (λ name. item_named name 0 (items_of root t)) cases j a e in
    let same : Some (item_at p) ≡ Some (item_named a.name 0 (items_of root t)) = sym h ∙ (ap (λ (x : List (Option ℕ)). slice_get x j) (are t refl) ∙ there) in
    let one = some_item (item_at p) (item_named a.name 0 (items_of root t)) same in
    one ∙ (item_found a.name (items_of root t) (s.is.2.1 a.name (nth_name cases j a e)) ∙ ap (λ (x : List ℕ). Some (index_of (same_name x) (items_of root t))) n)

pub some_number : (a b : ℕ) → ◌≡◌ {A = Option ℕ} (Some a) (Some b) → a ≡ b
some_number a b e = cc

pub no_number : (a : ℕ) → ◌≡◌ {A = Option ℕ} None (Some a) → ⊥
no_number a e = cc
