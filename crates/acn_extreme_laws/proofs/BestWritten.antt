-- Best values are written, and no packet is shorter, or longer, than they are.
use Rattle.std.proofs.Common.{◌≡◌, ℕ, zero, suc, ◌≤◌, ◌<◌, Bool, true, false, ◌&&◌, ◌||◌, List, [], ◌∷◌, length, Option, Some, None, refl, sym, ap, ◌∙◌, arith, inl, inr, ◌⊎◌, subst, nat_eq}
use Rattle.std.proofs.lemmas.Bool.{and_parts, eqb-true}
use Rattle.std.specs.Prelude.{slice_get, filter, cond}
use Rattle.std.specs.List.{AllByRecursion, list_all, cons_option}
use Rattle.acn_grammar.specs.AsksOn.{Meetable, form_asks_on}
use Rattle.acn_grammar.specs.Check.{NodeAt, too_long}
use Rattle.acn_grammar.specs.Code.{Mode, Written}
use Rattle.acn_grammar.specs.Front.{IsWritten}
use Rattle.acn_grammar.specs.Grammar.{Grammar, Form, Fields, Data, node, seq}
use Rattle.acn_grammar.specs.Interval.{span}
use Rattle.acn_grammar.specs.Meets.{Unfit}
use Rattle.acn_grammar.specs.PartAt.{occurrence, part_at}
use Rattle.acn_grammar.specs.Refused.{Refused}
use Rattle.acn_grammar.specs.Slots.{domain_of}
use Rattle.acn_grammar.specs.Sound.{Sound}
use Rattle.acn_grammar.specs.Spell.{Spell}
use Rattle.acn_grammar.specs.Tree.{IsTree, holds, same_numbers, slots_of, is_home, near, home_fine, all_true, stand_rules}
use Rattle.acn_grammar.specs.Walk.{Stand, root_node, nodes_of, inside, slot_here}
use Rattle.acn_grammar.specs.declared.bounds.Bounds.{Bounds}
use Rattle.acn_grammar.specs.declared.limits.TheConstants.{MOST_PACKET_BITS}
use Rattle.acn_grammar.proofs.Characters.{same_name-is}
use Rattle.acn_grammar.proofs.FirstPlaces.{less_or_not}
use Rattle.acn_grammar.proofs.TreeRules.{stand_fine}
use Rattle.acn_packet_laws.specs.Laws.{IsAccepted, AcceptedIsSound, EachNodeIsSound, UsesFitTheirSlots, ValuesLieWithinBounds, EachNumberHasACode, LengthsAreTold, BoundsHold, NoFaultWithoutAFirst, PartsAreOfNodes, ValuesAreOfNodes, EachPathHasItsNumber, EachValueIsWrittenOrRefused}
use Rattle.acn_extreme_laws.specs.Best.{Way, Agree, best}
use Rattle.acn_extreme_laws.specs.Laws.{BestIsWritten, BestIsExtreme, NoBestIsRefused, HasField, MeetableIsWritten, SpellingsLieWithinReach, Reaches, BestReaches}
use Rattle.acn_extreme_laws.specs.Reach.{reach, from_to}
use Rattle.acn_extreme_laws.specs.Single.{Single}
use Rattle.acn_extreme_laws.specs.declared.side.Side.{Side}
use Rattle.acn_extreme_laws.specs.declared.side.Side.TheVariants.{Shortest, Longest}
use Rattle.acn_extreme_laws.proofs.BestLength.{node_ends}
use Rattle.acn_extreme_laws.proofs.BestMeets.{best_meets}
use Rattle.acn_extreme_laws.proofs.BestSettled.{node_settled, node_counted, node_part}
use Rattle.acn_extreme_laws.proofs.Chosen.{IsBest, node_made}
use Rattle.acn_extreme_laws.proofs.OneUse.{one_use_is_meetable}
use Rattle.acn_extreme_laws.proofs.Ready.{Ready, Numbered, node_ready}
use Rattle.acn_extreme_laws.proofs.Tuples.{first_two, last_three}
use Rattle.acn_extreme_laws.proofs.Weights.{all_parts, all_from, all_at, inward, single_is_one_use}

-- A slot at home in a SEQUENCE has a field.

pub all_of : {A : Type 0} (p : A → Bool) (xs : List A) (k : ℕ) (x : A) → list_all p xs ≡ true → slice_get xs k ≡ Some x → p x ≡ true
all_of p [] k x h e = cc
all_of p (y ∷ xs) zero x h e = (let is : y ≡ x = cc in subst (λ z. p z ≡ true) is (and_parts (p y) (list_all p xs) h).0)
all_of p (y ∷ xs) (suc k) x h e = all_of p xs k x (and_parts (p y) (list_all p xs) h).1 e

filter_holds : (p : ℕ → Bool) (xs : List ℕ) (s : ℕ) → holds (filter p xs) s ≡ true → holds xs s ≡ true
filter_holds p [] s h = cc
filter_holds p (x ∷ xs) s h = by (p x) h (filter_holds p xs s)
  where
    by : (b : Bool) → holds (cond b (x ∷ filter p xs) (filter p xs)) s ≡ true → (holds (filter p xs) s ≡ true → holds xs s ≡ true) → (nat_eq x s || holds xs s) ≡ true
    by true k again = part (nat_eq x s) (holds (filter p xs) s) k again
      where
        part : (a b : Bool) → (a || b) ≡ true → (b ≡ true → holds xs s ≡ true) → (a || holds xs s) ≡ true
        part true b q f = refl
        part false b q f = f q
    by false k again = whole (nat_eq x s) (again k)
      where
        whole : (a : Bool) → holds xs s ≡ true → (a || holds xs s) ≡ true
        whole true q = refl
        whole false q = q

field_exists : (l : List Stand) (s : ℕ) → holds (slots_of l) s ≡ true → (k : ℕ) × (at : Stand) × (slice_get l k ≡ Some at) × (slot_here at.role ≡ Some s)
field_exists [] s h = cc
field_exists (at ∷ l) s h = by (slot_here at.role) refl h (field_exists l s)
  where
    later : ((k : ℕ) × (x : Stand) × (slice_get l k ≡ Some x) × (slot_here x.role ≡ Some s)) → (k : ℕ) × (x : Stand) × (slice_get (at ∷ l) k ≡ Some x) × (slot_here x.role ≡ Some s)
    later r = (suc r.0, r.1, r.2, r.3)

    by : (o : Option ℕ) → slot_here at.role ≡ o → holds (cons_option o (slots_of l)) s ≡ true → (holds (slots_of l) s ≡ true → (k : ℕ) × (x : Stand) × (slice_get l k ≡ Some x) × (slot_here x.role ≡ Some s))
        → (k : ℕ) × (x : Stand) × (slice_get (at ∷ l) k ≡ Some x) × (slot_here x.role ≡ Some s)
    by None e q again = later (again q)
    by (Some t) e q again = part (nat_eq t s) refl q
      where
        part : (b : Bool) → nat_eq t s ≡ b → (b || holds (slots_of l) s) ≡ true → (k : ℕ) × (x : Stand) × (slice_get (at ∷ l) k ≡ Some x) × (slot_here x.role ≡ Some s)
        part true is q = (0, at, refl, e ∙ ap Some (eqb-true t s is))
        part false is q = later (again q)

pub tree_rules : (root : Grammar) → IsTree root → list_all (λ at. all_true (stand_rules (nodes_of root) at)) (nodes_of root) ≡ true
tree_rules root h = (and_parts _ (list_all (λ at. all_true (stand_rules (nodes_of root) at)) (nodes_of root)) (and_parts _ (_ && list_all (λ at. all_true (stand_rules (nodes_of root) at)) (nodes_of root)) h).1).1

has_field : (root : Grammar) → IsTree root → (k s : ℕ) (at : Stand) (fields : Fields) (home : List ℕ) → NodeAt root k at → at.form ≡ seq fields home → holds home s ≡ true → HasField root s
has_field root tree k s at fields home stands is h =
    let all = nodes_of root in
    let rules = stand_fine all at (all_of (λ x. all_true (stand_rules all x)) all k at (tree_rules root tree) stands) in
    let fine : home_fine all at (seq fields home) ≡ true = ap (home_fine all at) (sym is) ∙ rules.home in
    let same = same_name-is home (filter (λ t. is_home all t at) (slots_of all)) (and_parts (same_numbers home (filter (λ t. is_home all t at) (slots_of all))) (list_all (holds (near fields)) home) fine).0 in
    let r = field_exists all s (filter_holds (λ t. is_home all t at) (slots_of all) s (ap (λ z. holds z s) (sym same) ∙ h)) in
    (r.0, r.1, r.2, r.3)

abbrev align_in : Grammar → ℕ
align_in (node a f) = a

abbrev form_in : Grammar → Form
form_in (node a f) = f

module _ (root : Grammar) (accepted : IsAccepted root) (single : Single root) (sound : AcceptedIsSound) (fit : UsesFitTheirSlots) (values : ValuesLieWithinBounds) (side : Side) where
  all_numbered : AllByRecursion (Numbered root accepted single fit values) (nodes_of root)
  all_numbered = all_from (Numbered root accepted single fit values) (nodes_of root) (λ k at e. (k, e))

  root_ready : Ready root root
  root_ready = node_ready root accepted single fit values root 0 [] (λ s. false) (sound root accepted) root_node [] [] all_numbered

  -- what an occurrence of a SEQUENCE asks of a slot at home there
  occurrence_met : EachNodeIsSound → (w : Way Data) → IsBest root side root 0 w.1 w.0 → PartsAreOfNodes → ValuesAreOfNodes → EachPathHasItsNumber
      → (path home : List ℕ) (align s : ℕ) (fields : Fields) (part : Data) → part_at root w.1 path ≡ Some (occurrence (node align (seq fields home)) part) → holds home s ≡ true → Meetable (domain_of root s) (form_asks_on root s (seq fields home) part)
  occurrence_met nodes_sound w made parts values_of numbers path home align s fields part e h =
      let g = node align (seq fields home) in
      let b = node_part root side root 0 w.1 w.0 made path (occurrence g part) e in
      let at = values_of root path g (parts root w.1 path g part e) in
      let n = numbers root at.0 g at.1 in
      let snd = nodes_sound root n.number n.here accepted n.stands in
      let form_is = ap form_in n.node_is in
      let s' = subst (λ (z : Grammar). Sound root (length (n.here).path) (n.here).around snd.known z) n.node_is snd.sound in
      let x = (first_two (last_three s')).permits s h in
      let inner = all_at (λ at. AllByRecursion (Numbered root accepted single fit values) (inside at)) (nodes_of root) n.number n.here
      (inward (AllByRecursion (Numbered root accepted single fit values)) (λ x xs t. t.1) (all_parts (Numbered root accepted single fit values)) root_node [] [] root all_numbered) n.stands in
      let ready = subst (Ready root) n.node_is (node_ready root accepted single fit values (node (n.here).align (n.here).form) (length (n.here).path) (n.here).around snd.known snd.sound (n.here).role (n.here).path (n.here).around ((n.number, n.stands), inner)) in
      let stands = subst (λ (f : Form). NodeAt root n.number (record { path = (n.here).path; around = (n.here).around; role = (n.here).role; align = (n.here).align; form = f })) form_is n.stands in
      let few = single_is_one_use root n.number s (n.here).align (n.here).path (n.here).around home (n.here).role fields single stands h (has_field root accepted.formed n.number s n.here fields home n.stands form_is h) in
      one_use_is_meetable root s g part x.0 few (node_settled root accepted.formed s x.0 x.1 side g (length (n.here).path) (n.here).around snd.known s' ready b.0 part b.1 b.2) x.1

-- each packet is within the limit
pub short : NoFaultWithoutAFirst → BoundsHold → (root : Grammar) (mode : Mode) (d : Data) (bs : List Bool) → IsAccepted root → Spell root mode root [] d 0 bs → length bs ≤ MOST_PACKET_BITS
short no_fault bounds root mode d bs accepted spelled = (let b = bounds root mode d bs accepted.formed few spelled in let l = b.1 in let f = few in omega arith)
  where
    few : (span root).greatest ≤ MOST_PACKET_BITS
    few = within (span root).greatest refl
      where
        less : (m n : ℕ) → (m < n) ⊎ (n ≤ m)
        less m n = less_or_not m n

        within : (n : ℕ) → n ≡ (span root).greatest → n ≤ MOST_PACKET_BITS
        within n e = by (less MOST_PACKET_BITS n)
          where
            by : (MOST_PACKET_BITS < n) ⊎ (n ≤ MOST_PACKET_BITS) → n ≤ MOST_PACKET_BITS
            by (inr l) = l
            by (inl l) = absurd (no_fault root accepted.sound (too_long n) (record { node = 0; use_here = 0; holds = record { at_root = refl; bits_are = e; many = l } }))

pub best_is_written : AcceptedIsSound → EachNodeIsSound → UsesFitTheirSlots → ValuesLieWithinBounds → EachNumberHasACode → LengthsAreTold → BoundsHold → NoFaultWithoutAFirst → PartsAreOfNodes → ValuesAreOfNodes → EachPathHasItsNumber → MeetableIsWritten → (short : (root : Grammar) (mode : Mode) (d : Data) (bs : List Bool) → IsAccepted root → Spell root mode root [] d 0 bs → length bs ≤ MOST_PACKET_BITS) → BestIsWritten
best_is_written sound nodes_sound fit values codes lengths bounds no_fault parts values_of numbers written short root side accepted single w q =
    let s = sound root accepted in
    let ready = root_ready root accepted single sound fit values side in
    let made = node_made root side root 0 [] (λ s. false) s 0 w q in
    let meets = best_meets root side root 0 [] (λ s. false) s ready 0 w.1 w.0 made in
    let bits = written root w.1 accepted meets (node_counted root side root 0 [] (λ s. false) s ready 0 w.1 w.0 made [] []) (occurrence_met root accepted single sound fit values side nodes_sound w made parts values_of numbers) in
    let long = lengths root Written w.1 bits.0 accepted bits.1 in
    let few = short root Written w.1 bits.0 accepted bits.1 in
    let end = node_ends root side codes root 0 [] (λ s. false) s 0 0 refl w.1 w.0 made in
    (bits.0, bits.1, omega arith)

pub best_is_extreme : AcceptedIsSound → EachNumberHasACode → BestReaches → SpellingsLieWithinReach → (short : (root : Grammar) (mode : Mode) (d : Data) (bs : List Bool) → IsAccepted root → Spell root mode root [] d 0 bs → length bs ≤ MOST_PACKET_BITS) → BestIsExtreme
best_is_extreme sound codes reaches within short root mode d bs accepted spelled =
    let r = within root mode d bs accepted spelled in
    let few = short root mode d bs accepted spelled in
    (λ w q. low (reach root root (from_to 0 0)) (best root Shortest root 0) w q r (reaches root Shortest accepted), λ w q. high few (reach root root (from_to 0 0)) (best root Longest root 0) w q r (reaches root Longest accepted))
  where
    some_is : (x y : Way Data) → Some x ≡ Some y → x ≡ y
    some_is x y e = cc

    low : (o : Option Bounds) (v : Option (Way Data)) (w : Way Data) → v ≡ Some w → Reaches o (length bs) → Agree Shortest o v → w.0 ≤ length bs
    low None v w q r a = absurd r
    low (Some b) None w q r a = absurd a
    low (Some b) (Some v) w q r a = (let is = ap (λ (z : Way Data). z.0) (some_is v w q) in let l = r.0 in omega arith)

    high : length bs ≤ MOST_PACKET_BITS → (o : Option Bounds) (v : Option (Way Data)) (w : Way Data) → v ≡ Some w → Reaches o (length bs) → Agree Longest o v → length bs ≤ w.0
    high few None v w q r a = absurd r
    high few (Some b) None w q r a = absurd a
    high few (Some b) (Some v) w q r a = (let is = ap (λ (z : Way Data). z.0) (some_is v w q) in let l = r.1 in omega arith)

pub no_best_is_refused : BestReaches → SpellingsLieWithinReach → EachValueIsWrittenOrRefused → NoBestIsRefused
no_best_is_refused reaches within each root side accepted none d shaped = by (each root d accepted shaped)
  where
    no_reach : (o : Option Bounds) (v : Option (Way Data)) → v ≡ None → Agree side o v → (n : ℕ) → Reaches o n → ⊥
    no_reach None v q a n r = r
    no_reach (Some b) None q a n r = a
    no_reach (Some b) (Some w) q a n r = absurd (differ w q)
      where
        differ : (w : Way Data) → Some w ≡ None → ⊥
        differ w e = cc

    by : ((bs : List Bool) × IsWritten root d bs) ⊎ ((u : Unfit) × Refused root d u) → (u : Unfit) × Refused root d u
    by (inr r) = r
    by (inl w) = absurd (no_reach (reach root root (from_to 0 0)) (best root side root 0) none (reaches root side accepted) (length w.0) (within root Written d w.0 accepted w.1))
