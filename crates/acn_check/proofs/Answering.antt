-- The answers of the passes, put together.
use Rattle.std.proofs.Common.{◌≡◌, ℕ, suc, ◌-◌, ◌^◌, ◌<◌, min, Bool, true, false, List, [], ◌∷◌, length, Option, Some, None, Result, Ok, Err, refl, sym, ap, ◌∙◌, subst, arith, nat_lt}
use Rattle.std.specs.Prelude.{option_map, slice_get, MatchOption, IfErr}
use Rattle.std.specs.List.{flat_map}
use Rattle.std.proofs.lemmas.Bool.Decides.{nat_tests}
use Rattle.acn_grammar.specs.Check.{CheckFault, forward, det_kind, det_width, overlap, absent_unclear, unused, no_item, mixed_choice, too_long, too_many_open, too_many_conditions, too_many_values, terminator_ambiguous, NodeAt, equals_on}
use Rattle.acn_grammar.specs.Faults.{check_fault_of}
use Rattle.acn_grammar.specs.Grammar.{Grammar}
use Rattle.acn_grammar.specs.Slots.{first_of_two}
use Rattle.acn_grammar.specs.Tree.{IsTree}
use Rattle.acn_grammar.specs.Walk.{Stand, nodes_of, slot_here}
use Rattle.acn_grammar.specs.declared.check_fault.CheckFault as program
use Rattle.acn_grammar.specs.declared.check_fault.CheckFault.TheVariants as fault
use Rattle.acn_check.specs.Facts.{Facts, seen}
use Rattle.acn_check.specs.First.{Det, Tally, Told, dets, tallied, no_tallies, uses_of, first_of, given, only_if, long, much_open, many_conditions, many_values, ambiguous_at}
use Rattle.acn_check.specs.Order.{unreadable, dubious, beyond, many_equals, capped, lines_of, tallies_of, first_fault}
use Rattle.acn_check.specs.Program.{IsTold}
use Rattle.acn_check.proofs.Assembly.{get_mapped}
use Rattle.acn_check.proofs.DetLaw.{field_entry}
use Rattle.acn_check.proofs.TallyLaw.{tallied_law}
use Rattle.acn_check.proofs.Telling.{told_first, told_next}

-- Counts that end at the greatest number of 32 bits.

mapped_first : {A : Type 0} (f g : ℕ → A → Option CheckFault) (c : CheckFault → CheckFault) (xs : List A) (k : ℕ) → ((j m : ℕ) (x : A) → slice_get xs j ≡ Some x → f m x ≡ option_map c (g m x)) → first_of f k xs ≡ option_map c (first_of g k xs)
mapped_first f g c [] k same = refl
mapped_first f g c (x ∷ xs) k same = ap (λ o. first_of_two o (first_of f (suc k) xs)) (same 0 k x refl) ∙ by (g k x) (mapped_first f g c xs (suc k) (λ j m y e. same (suc j) m y e))
  where
    by : (o : Option CheckFault) → first_of f (suc k) xs ≡ option_map c (first_of g (suc k) xs) → first_of_two (option_map c o) (first_of f (suc k) xs) ≡ option_map c (first_of_two o (first_of g (suc k) xs))
    by (Some y) rest = refl
    by None rest = rest

more_than : (n : ℕ) → nat_lt 64 (min n (2 ^ 32 - 1)) ≡ nat_lt 64 n
more_than n = grind (arith, nat_tests)

capped_if : (b : Bool) (path : List ℕ) (n : ℕ) → only_if b (too_many_conditions path (min n (2 ^ 32 - 1))) ≡ option_map capped (only_if b (too_many_conditions path n))
capped_if true path n = refl
capped_if false path n = refl

module _ (root : Grammar) (tree : IsTree root) where
  abbrev ts : List Tally
  ts = tallies_of (lines_of root)

  one_capped : (j m : ℕ) (at : Stand) → NodeAt root j at → many_conditions ts m (seen at) ≡ option_map capped (many_equals root m (seen at))
  one_capped j m at is = by (slot_here at.role) refl
    where
      by : (o : Option ℕ) → slot_here at.role ≡ o → given o (λ s. given (slice_get ts s) (λ t. only_if (nat_lt 64 t.equals) (too_many_conditions at.path t.equals))) ≡ option_map capped (given o (λ s. only_if (nat_lt 64 (equals_on root s)) (too_many_conditions at.path (equals_on root s))))
      by None e = refl
      by (Some s) e =
          let d = field_entry root tree j s at is e in
          let t = tallied_law root s d.det d.is_here in
          ap (λ o. given o (λ (x : Tally). only_if (nat_lt 64 x.equals) (too_many_conditions at.path x.equals))) t.is_here
          ∙ (ap (λ n. only_if (nat_lt 64 n) (too_many_conditions at.path n)) t.equals
          ∙ (ap (λ b. only_if b (too_many_conditions at.path (min (equals_on root s) (2 ^ 32 - 1)))) (more_than (equals_on root s)) ∙ capped_if (nat_lt 64 (equals_on root s)) at.path (equals_on root s)))

  conditions_capped : first_of (many_conditions ts) 0 (lines_of root) ≡ option_map capped (first_of (many_equals root) 0 (lines_of root))
  conditions_capped = mapped_first (many_conditions ts) (many_equals root) capped (lines_of root) 0 (λ j m x e.
      let g = get_mapped seen (nodes_of root) j x e in
      subst (λ y. many_conditions ts m y ≡ option_map capped (many_equals root m y)) g.2 (one_capped j m g.0 g.1))

abbrev Below : CheckFault → Type 0
Below (too_many_conditions path n) = n < 2 ^ 32 - 1
Below _ = Unit {0}

told_below : (e : program.CheckFault) (g : CheckFault) → IsTold e → check_fault_of e ≡ Some g → Below g
told_below (fault.Forward user det) g t e = (let same : forward user det ≡ g = cc in subst Below same tt)
told_below (fault.DetKind user det) g t e = (let same : det_kind user det ≡ g = cc in subst Below same tt)
told_below (fault.DetWidth det) g t e = (let same : det_width det ≡ g = cc in subst Below same tt)
told_below (fault.Overlap at i j values) g t e = (let same : overlap at i j values ≡ g = cc in subst Below same tt)
told_below (fault.AbsentUnclear at) g t e = (let same : absent_unclear at ≡ g = cc in subst Below same tt)
told_below (fault.Unused det) g t e = (let same : unused det ≡ g = cc in subst Below same tt)
told_below (fault.NoItem at i) g t e = (let same : no_item at i ≡ g = cc in subst Below same tt)
told_below (fault.MixedChoice at) g t e = (let same : mixed_choice at ≡ g = cc in subst Below same tt)
told_below (fault.TooLong n) g t e = (let same : too_long n ≡ g = cc in subst Below same tt)
told_below (fault.TooManyOpen at n) g t e = (let same : too_many_open at n ≡ g = cc in subst Below same tt)
told_below (fault.TooManyConditions det n) g t e = (let same : too_many_conditions det n ≡ g = cc in subst Below same t)
told_below (fault.TooManyValues n) g t e = (let same : too_many_values n ≡ g = cc in subst Below same tt)
told_below (fault.TerminatorAmbiguous at) g t e = (let same : terminator_ambiguous at ≡ g = cc in subst Below same tt)
told_below fault.NoMemory g t e = cc

-- a fault whose count is below the end is the one that was counted
uncapped : (f g : CheckFault) → capped f ≡ g → Below g → f ≡ g
uncapped (too_many_conditions path n) g e b =
    let less : min n (2 ^ 32 - 1) < 2 ^ 32 - 1 = subst Below (sym e) b in
    let same : n ≡ min n (2 ^ 32 - 1) = omega arith in
    ap (too_many_conditions path) same ∙ e
uncapped (forward user det) g e b = e
uncapped (det_kind user det) g e b = e
uncapped (det_width det) g e b = e
uncapped (overlap path i j values) g e b = e
uncapped (absent_unclear path) g e b = e
uncapped (unused det) g e b = e
uncapped (no_item path i) g e b = e
uncapped (mixed_choice path) g e b = e
uncapped (too_long n) g e b = e
uncapped (too_many_open path n) g e b = e
uncapped (too_many_values n) g e b = e
uncapped (terminator_ambiguous path) g e b = e

exact_fault : (f : CheckFault) (c : Option CheckFault) → ((g : CheckFault) → c ≡ Some g → Below g) → MatchOption c (Unit {0}) (λ g. Some (capped f) ≡ Some g) → MatchOption c (Unit {0}) (λ g. Some f ≡ Some g)
exact_fault f None b h = tt
exact_fault f (Some g) b h = (let same : capped f ≡ g = cc in ap Some (uncapped f g same (b g refl)))

exact : (a b o d : Option CheckFault) (r : Result (Unit {0}) program.CheckFault) → Told (first_of_two a (first_of_two b (first_of_two (option_map capped o) d))) r → IfErr r IsTold → Told (first_of_two a (first_of_two b (first_of_two o d))) r
exact (Some f) b o d r t i = t
exact None (Some f) o d r t i = t
exact None None None d r t i = t
exact None None (Some f) d (Ok done) t i = cc
exact None None (Some f) d (Err e) t i = exact_fault f (check_fault_of e) (λ g h. told_below e g i h) t

-- The chain.

abbrev Answer : Type 0
Answer = Result (Unit {0}) program.CheckFault

module _ (root : Grammar) (l : List Facts) (l_is : l ≡ lines_of root) (ds : List Det) (ds_is : ds ≡ dets 0 l) where
  abbrev ds' : List Det
  ds' = dets 0 (lines_of root)

  first_four : unreadable ds l ≡ unreadable ds' (lines_of root)
  first_four = ap (λ x. unreadable x l) (ds_is ∙ ap (dets 0) l_is) ∙ ap (unreadable ds') l_is

  pub told_unreadable : (e : program.CheckFault) → Told (unreadable ds l) (Err e) → Told (first_fault root) (Err e)
  unfolding first_fault
  told_unreadable e t =
      told_first (unreadable ds' (lines_of root)) (first_of_two (dubious ds' (tallies_of (lines_of root)) (lines_of root)) (beyond root (lines_of root) (first_of (many_equals root) 0 (lines_of root)))) e (subst (λ o. Told o (Err e)) first_four t)

  module _ (ts : List Tally) (n : ℕ) (n_is : n ≡ length ds) (ts_is : ts ≡ tallied (no_tallies n) (flat_map uses_of l)) where
    ts_are : ts ≡ tallies_of (lines_of root)
    ts_are = ts_is ∙ (ap (λ k. tallied (no_tallies k) (flat_map uses_of l)) (n_is ∙ ap length ds_is) ∙ ap tallies_of l_is)

    second_four : dubious ds ts l ≡ dubious ds' (tallies_of (lines_of root)) (lines_of root)
    second_four = ap (λ x. dubious x ts l) (ds_is ∙ ap (dets 0) l_is) ∙ (ap (λ x. dubious ds' x l) ts_are ∙ ap (dubious ds' (tallies_of (lines_of root))) l_is)

    pub told_dubious : (e : program.CheckFault) → unreadable ds l ≡ None → Told (dubious ds ts l) (Err e) → Told (first_fault root) (Err e)
    unfolding first_fault
    told_dubious e none t =
        told_next (unreadable ds' (lines_of root)) (first_of_two (dubious ds' (tallies_of (lines_of root)) (lines_of root)) (beyond root (lines_of root) (first_of (many_equals root) 0 (lines_of root)))) e (sym first_four ∙ none)
        (told_first (dubious ds' (tallies_of (lines_of root)) (lines_of root)) (beyond root (lines_of root) (first_of (many_equals root) 0 (lines_of root))) e (subst (λ o. Told o (Err e)) second_four t))

    pub told_beyond : IsTree root → (r : Answer) → unreadable ds l ≡ None → dubious ds ts l ≡ None → Told (beyond root l (first_of (many_conditions ts) 0 l)) r → IfErr r IsTold → Told (first_fault root) r
    unfolding first_fault
    told_beyond tree r none clear t i =
        let same : beyond root l (first_of (many_conditions ts) 0 l) ≡ beyond root (lines_of root) (option_map capped (first_of (many_equals root) 0 (lines_of root))) =
        ap (λ x. beyond root x (first_of (many_conditions ts) 0 x)) l_is ∙ (ap (λ x. beyond root (lines_of root) (first_of (many_conditions x) 0 (lines_of root))) ts_are ∙ ap (beyond root (lines_of root)) (conditions_capped root tree)) in
        let e = exact (long root) (first_of much_open 0 (lines_of root)) (first_of (many_equals root) 0 (lines_of root)) (first_of_two (many_values root) (first_of ambiguous_at 0 (lines_of root))) r (subst (λ o. Told o r) same t) i in
        subst (λ o. Told o r) (sym (ap (λ o. first_of_two o (first_of_two (dubious ds' (tallies_of (lines_of root)) (lines_of root)) (beyond root (lines_of root) (first_of (many_equals root) 0 (lines_of root))))) (sym first_four ∙ none)
        ∙ ap (λ o. first_of_two o (beyond root (lines_of root) (first_of (many_equals root) 0 (lines_of root)))) (sym second_four ∙ clear))) e
