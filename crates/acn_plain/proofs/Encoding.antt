-- What is written, and what is refused.
use Rattle.std.proofs.Common.{◌≡◌, ℕ, ℤ, ◌≤◌, ◌^◌, Bool, false, List, [], ◌∷◌, ◌++◌, length, map, Option, Some, None, Result, Ok, Err, IfOk, IfErr, refl, sym, ap, subst, ◌∙◌, arith, length-append}
use Rattle.std.specs.Prelude.{option_map}
use Rattle.std.specs.List.{AllByRecursion}
use Rattle.std.proofs.Math.Seq.{take-append_seam}
use Rattle.acn_asking.specs.Gathered.{with_numbers, with_domain}
use Rattle.acn_asks.specs.Moments as moments
use Rattle.acn_asks.specs.Moments.{moment_of, AreOf, IsOf, HaltsAt}
use Rattle.acn_asks.specs.declared.moments.Halt.{Halt}
use Rattle.acn_asks.specs.declared.moments.Halt.TheVariants as halt
use Rattle.acn_asks.specs.declared.moments.Moment.{Moment}
use Rattle.acn_asks.specs.declared.moments.Moment.TheVariants as moment
use Rattle.acn_gather_laws.specs.CanGather.{CanGather, SoundValuesCanBeGathered}
use Rattle.acn_grammar.specs.Asks as asks
use Rattle.acn_grammar.specs.Check.{NodeAt}
use Rattle.acn_grammar.specs.Code.{Any}
use Rattle.acn_grammar.specs.Faults.{ask_of, unfit_of}
use Rattle.acn_grammar.specs.Front.{Front, IsWritten}
use Rattle.acn_grammar.specs.Grammar.{Grammar, Data, node}
use Rattle.acn_grammar.specs.Interval.{span}
use Rattle.acn_grammar.specs.Length.{bit_length}
use Rattle.acn_grammar.specs.Meets as meets
use Rattle.acn_grammar.specs.Meets.{Meets, breach, breaches, first_of}
use Rattle.acn_grammar.specs.Refused.{FirstUnmet, Refused, RefusedAfter}
use Rattle.acn_grammar.specs.Shaped.{Shaped}
use Rattle.acn_grammar.specs.Slots.{domain_of}
use Rattle.acn_grammar.specs.Spell.{Spell}
use Rattle.acn_grammar.specs.Walk.{Stand}
use Rattle.acn_grammar.specs.declared.limits.TheConstants.{MOST_PACKET_BITS}
use Rattle.acn_packet_laws.specs.Laws.{IsAccepted, AcceptedIsSound, EachNodeIsSound, EachPathHasItsNumber, FrontsExcludeFailures, HasNumber, NamesItsSlot, NoFaultWithoutAFirst, OneFront, OneRefusal, RefusalsAreAtNodes, RefusedIsNotSpelled, TellsSlots, ValuesLieWithinBounds, WrittenIsRead}
use Rattle.acn_bounds.proofs.Lying.{short}
use Rattle.acn_reads.specs.Answers.{IsReadAgain}
use Rattle.acn_plain.specs.Encoded.{Refuses, OnlyRefusal, HasPaths, HasPathsAt, heard_till, unfit_in}
use Rattle.acn_plain.specs.declared.encode.PlainFault.{PlainFault}
use Rattle.acn_plain.specs.declared.encode.PlainFault.TheVariants.{Unfit, NoMemory}
use Rattle.acn_plain.proofs.Deep.{few_steps}

none : {A : Type 0} {P : Type 0} (a : A) → None ≡ Some a → P
none a e = absurd cc

some : {A : Type 0} (a b : A) → Some a ≡ Some b → a ≡ b
some a b e = cc

-- The value meets its constraints.

pub meets_all : (g : Grammar) (d : Data) → Shaped g d → None ≡ breach g d → Meets g d
meets_all g d shaped e = record { shaped = shaped; none = by (breaches [] g d) e }
  where
    by : (us : List meets.Unfit) → None ≡ first_of us → us ≡ []
    by [] q = refl
    by (u ∷ us) q = none u q

no_breach : (g : Grammar) (d : Data) → Meets g d → breach g d ≡ None
no_breach g d m = ap first_of m.none

-- Its moments can be gathered.
pub can_gather : (root : Grammar) (d : Data) → IsAccepted root → Meets root d → AcceptedIsSound → EachPathHasItsNumber → NoFaultWithoutAFirst → SoundValuesCanBeGathered → ValuesLieWithinBounds → CanGather root 0 [] root d
can_gather root d accepted m sound numbered first gathered within = gathered root 0 [] (λ s. false) root (sound root accepted) (λ s e. absurd cc) d m (near (numbered root [] root refl))
  where
    at : (k : ℕ) (here : Stand) → NodeAt root k here → node here.align here.form ≡ root → bit_length root 0 d ≤ 2 ^ 40
    at k here is e =
        let few : (span (node here.align here.form)).greatest ≤ MOST_PACKET_BITS = subst (λ g. (span g).greatest ≤ MOST_PACKET_BITS) (sym e) (short root accepted first) in
        let long = (within root k here d 0 accepted is few (subst (λ g. Meets g d) (sym e) m)).1 in
        subst (λ g. bit_length g 0 d ≤ 2 ^ 40) e (omega (arith, few, long))

    near : HasNumber root [] root → bit_length root 0 d ≤ 2 ^ 40
    near t = at t.number t.here t.stands t.node_is

-- The moments are of their slots.

module _ (root : Grammar) (slot_at : List ℕ → Option ℕ) where
  one_of : (m : Moment) (q : asks.Moment) → with_numbers m ≡ with_domain root q → NamesItsSlot slot_at q → IsOf root slot_at m
  one_of (moment.Asks path field slot set wanted) (asks.asks path' field' s a) e n = by (ap (λ (x : asks.Moment × List (ℤ × ℤ)). x.0) e) (ap (λ (x : asks.Moment × List (ℤ × ℤ)). x.1) e)
    where
      by : asks.asks path field slot (ask_of wanted) ≡ asks.asks path' field' s a → set.now ≡ domain_of root s → (set.now ≡ domain_of root slot) × (slot_at field ≡ Some slot)
      by x y =
          let slots : slot ≡ s = cc in
          let fields : field ≡ field' = cc in
          (y ∙ ap (domain_of root) (sym slots), ap slot_at fields ∙ (n ∙ ap Some (sym slots)))
  one_of (moment.Asks path field slot set wanted) (asks.counts path' n' sizing) e n = absurd (by (ap (λ (x : asks.Moment × List (ℤ × ℤ)). x.0) e))
    where
      by : asks.asks path field slot (ask_of wanted) ≡ asks.counts path' n' sizing → ⊥
      by x = cc
  one_of (moment.Counts path count sizing) q e n = tt

  pub are_of : (ms : List Moment) (qs : List asks.Moment) → map with_numbers ms ≡ map (with_domain root) qs → AllByRecursion (NamesItsSlot slot_at) qs → AreOf root slot_at ms
  are_of [] qs e n = tt
  are_of (m ∷ ms) [] e n = absurd cc
  are_of (m ∷ ms) (q ∷ qs) e n =
      let head : with_numbers m ≡ with_domain root q = cc in
      let tail : map with_numbers ms ≡ map (with_domain root) qs = cc in
      (one_of m q head n.0, are_of ms qs tail n.1)

pub of_slots : (root : Grammar) (d : Data) (slot_at : List ℕ → Option ℕ) → TellsSlots root slot_at → (ms : List Moment) → map with_numbers ms ≡ map (with_domain root) (asks.moments root root [] [] d) → AreOf root slot_at ms
of_slots root d slot_at tells ms numbers = are_of root slot_at ms (asks.moments root root [] [] d) numbers (tells.asked d)

-- Where hearing them ended.

module _ (root : Grammar) (d : Data) (accepted : IsAccepted root) (m : Meets root d) (sound : EachNodeIsSound) (numbered : EachPathHasItsNumber) (at_nodes : RefusalsAreAtNodes) where
  refused_by : (u : meets.Unfit) → FirstUnmet root (asks.moments root root [] [] d) u → Refused root d u
  refused_by u f = subst (λ o. RefusedAfter root o d u) (sym (no_breach root d m)) f

  has_paths : (x : Moment) (earlier : Option asks.Ask) → Refused root d (moments.unfit_of x earlier) → HasPaths x
  has_paths (moment.Asks path field slot set wanted) earlier r =
      let l = at_nodes root d _ r in
      (few_steps root accepted sound numbered path l.0, few_steps root accepted sound numbered field l.1)
  has_paths (moment.Counts path count sizing) earlier r = few_steps root accepted sound numbered path (at_nodes root d _ r).0

  module _ (slot_at : List ℕ → Option ℕ) (tells : TellsSlots root slot_at) (ms : List Moment) (said : map moment_of ms ≡ asks.moments root root [] [] d) (numbers : map with_numbers ms ≡ map (with_domain root) (asks.moments root root [] [] d)) where
    refused_at : (at : ℕ) (earlier : _) (h : HaltsAt ms (halt.Unmet at earlier)) → Refused root d (moments.unfit_of h.0 (option_map ask_of earlier))
    refused_at at earlier h = refused_by _ (subst (λ qs. FirstUnmet root qs (moments.unfit_of h.0 (option_map ask_of earlier))) said (h.2 root slot_at (of_slots root d slot_at tells ms numbers)))

    pub paths_at : (x : Halt) → HaltsAt ms x → HasPathsAt ms x
    paths_at (halt.Unmet at earlier) h = (h.0, h.1, has_paths h.0 (option_map ask_of earlier) (refused_at at earlier h))
    paths_at halt.NoMemory h = tt

    pub refuses : (x : Halt) (fault : PlainFault) → HaltsAt ms x → unfit_in fault ≡ heard_till ms x → Refuses root d fault
    refuses x NoMemory h e = tt
    refuses halt.NoMemory (Unfit unfit) h e = none (unfit_of unfit) (sym e)
    refuses (halt.Unmet at earlier) (Unfit unfit) h e =
        let found : Some (unfit_of unfit) ≡ Some (moments.unfit_of h.0 (option_map ask_of earlier)) = e ∙ ap (option_map (λ m. moments.unfit_of m (option_map ask_of earlier))) h.1 in
        subst (Refused root d) (sym (some _ _ found)) (refused_at at earlier h)

-- A breach of a constraint.
pub breached : (root : Grammar) (d : Data) (u : meets.Unfit) → Some u ≡ breach root d → Refused root d u
breached root d u e = subst (λ o. RefusedAfter root o d u) e refl

-- What follows from what is written, and from what is refused.

pub read_again : WrittenIsRead → OneFront → FrontsExcludeFailures → (root : Grammar) (d : Data) (bs : List Bool) → IsAccepted root → IsWritten root d bs → IsReadAgain root d bs
read_again read one exclude root d bs accepted w more =
    let front : Front root (bs ++ more) d (length bs) = record {
      within = (let l = length-append bs more in omega (arith, l));
      spelled = subst (λ xs. Spell root Any root [] d 0 xs) (sym (take-append_seam bs more)) (read root d bs accepted.formed w);
    } in
    (front, (λ e m f. one root (bs ++ more) e d m (length bs) accepted f front, λ fault reach r. exclude root (bs ++ more) d (length bs) fault reach accepted front r))

pub only_refusal : OneRefusal → RefusedIsNotSpelled → (root : Grammar) (d : Data) (fault : PlainFault) → IsAccepted root → Refuses root d fault → OnlyRefusal root d fault
only_refusal one never root d (Unfit unfit) accepted r = (λ other o. one root d other (unfit_of unfit) o r, λ mode bs s. never root mode d (unfit_of unfit) bs accepted r s)
only_refusal one never root d NoMemory accepted r = tt

-- The same of each answer.

pub all_ok : {A E : Type 0} (r : Result A E) {P Q : A → Type 0} → ((x : A) → P x → Q x) → IfOk r P → IfOk r Q
all_ok (Ok x) f p = f x p
all_ok (Err e) f p = tt

pub all_err : {A E : Type 0} (r : Result A E) {P Q : E → Type 0} → ((e : E) → P e → Q e) → IfErr r P → IfErr r Q
all_err (Ok x) f p = tt
all_err (Err e) f p = f e p
