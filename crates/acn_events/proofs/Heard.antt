-- What the events of a value ask is what its moments say, and each ask is of a slot whose field is told.
use Rattle.std.proofs.Common.{◌≡◌, ℕ, zero, suc, ◌≤◌, ℤ, pos, Bool, true, false, ◌||◌, List, [], ◌∷◌, ◌++◌, length, Option, Some, None, nat_eq, refl, sym, ap, ◌∙◌, subst, arith, append_assoc, append-nil, length-append, map, inl, inr}
use Rattle.std.specs.Prelude.{◌⊎◌, if◌then◌else◌, unwrap_or}
use Rattle.std.specs.List.{AllByRecursion}
use Rattle.std.proofs.lemmas.Bool.{eqb-true, false_from_ne_true, or_parts}
use Rattle.std.proofs.lemmas.Bool.Decides.{nat_tests}
use Rattle.std.proofs.lemmas.Grind.{flat_map-append}
use Rattle.acn_num.specs.Bits.{bits as bits_of, octets as octets_for}
use Rattle.acn_grammar.specs.Asks.{Ask, Equal, Avoid, Moment, asks, counts, FieldPaths, field_of, field_path, with_fields, asked, test_asks, presence_asks, size_asks, own_asks, rule_asks, run_moments, moments, form_moments, fields_moments, alternative_moments, same_name}
use Rattle.acn_grammar.specs.AsksOn.{form_asks_on}
use Rattle.acn_grammar.specs.Grammar.{Grammar, Form, Fields, Alternatives, Data, Places, Elements, node, num, octets, bits, text, seq, list, choice, contained, no_fields, component, inserted, no_alternatives, alternative, octet_string, bit_string, characters, record_of, list_of, alt, no_places, empty, filled, no_elements, element, element_count}
use Rattle.acn_grammar.specs.Length.{bit_length, number_of, presence_bits}
use Rattle.acn_grammar.specs.PartAt.{Occurrence, occurrence, part_at, field_part, alternative_part, element_part}
use Rattle.acn_grammar.specs.Refused.{asks_of, of_field}
use Rattle.acn_grammar.specs.Scoped.{Known, after, choose_known, with_own, with_slot, tests_at, TestIn, TestsIn, RuleIn}
use Rattle.acn_grammar.specs.Sound.{Sound, FormSound, FieldsSound, AlternativesSound, PresenceSound, SaysSlot, OwnSound}
use Rattle.acn_grammar.specs.Tree.{IsTree, holds}
use Rattle.acn_grammar.specs.declared.node.ChoiceRule.{ChoiceRule}
use Rattle.acn_grammar.specs.declared.node.ChoiceRule.TheVariants.{Index, Tests, Item}
use Rattle.acn_grammar.specs.declared.node.NumLeaf.{NumLeaf}
use Rattle.acn_grammar.specs.declared.node.Presence.{Presence}
use Rattle.acn_grammar.specs.declared.node.Presence.TheVariants.{Always, Bit, When}
use Rattle.acn_grammar.specs.declared.node.SizeRule.{SizeRule}
use Rattle.acn_grammar.specs.declared.node.SizeRule.TheVariants.{Prefix, Slot, Ended}
use Rattle.acn_grammar.specs.declared.node.Sizing.{Sizing}
use Rattle.acn_grammar.specs.declared.node.Test.{Test}
use Rattle.acn_grammar.specs.declared.node.Test.TheVariants.{Flag, Equals}
use Rattle.acn_grammar.specs.declared.node.TextLeaf.{TextLeaf}
use Rattle.acn_packet_laws.specs.Laws.{EachOccurrenceAsks, KnownBehind, TellsSlots}
use Rattle.acn_packet_laws.proofs.AskHomes.{tree_homes}
use Rattle.acn_packet_laws.proofs.Occurrences.{field_in, field_out, homes_at, start, told}
use Rattle.acn_grammar.proofs.Characters.{same_name-is}
use Rattle.acn_events.specs.Event.{Event, aligns, copies, begins, puts, sizes, codes, texts, opens, notes, wants, fills, enters, closes}
use Rattle.acn_events.specs.Events.{test_event, presence_events, size_wants, end_events, set_in, own_events, inserted_events, index_events, run_events, rule_events, events, form_events, field_events, case_events}
use Rattle.acn_events.proofs.Right.{CaseKnown, case_known}
use Rattle.acn_events.proofs.Small.{truth, if_yes, if_no, eq_here}

-- Where the fields of slots are that are open.
abbrev pub Told : Type 0
Told = ℕ → Option (List ℕ)

abbrev pub told_in : List (ℕ × List ℕ) → Option (List ℕ) → (s : ℕ) → Option (List ℕ)
told_in [] other s = other
told_in (h ∷ homes) other s = if nat_eq h.0 s then Some h.1 else told_in homes other s

abbrev pub told_after : Event → Told → Told
told_after (begins homes bs) t = λ s. told_in homes (t s) s
told_after (fills u) t = λ s. if nat_eq u s then None else t s
told_after _ t = t

abbrev pub field_here : Told → ℕ → List ℕ
field_here t s = unwrap_or (t s) []

-- the moments of an event
abbrev pub closing_asks : Told → (path : List ℕ) → ℕ → SizeRule → List Moment
closing_asks t path n (Slot s) = asks path (field_here t s) s (Equal (pos n)) ∷ []
closing_asks t path n _ = []

abbrev pub moments_of : Told → Event → List Moment
moments_of t (notes path s set x) = asks path (field_here t s) s (Equal x) ∷ []
moments_of t (wants path s a) = asks path (field_here t s) s a ∷ []
moments_of t (closes path sizing n) = counts path n sizing ∷ closing_asks t path n sizing.rule
moments_of t _ = []

abbrev pub all_moments : Told → List Event → List Moment
all_moments t [] = []
all_moments t (e ∷ es) = moments_of t e ++ all_moments (told_after e t) es

-- what was asked behind an event
abbrev pub before_after : Told → Event → List Moment → List Moment
before_after t (notes path s set x) before = before ++ moments_of t (notes path s set x)
before_after t (wants path s a) before = before ++ moments_of t (wants path s a)
before_after t (closes path sizing n) before = before ++ moments_of t (closes path sizing n)
before_after t _ before = before

abbrev pub before_behind : List Event → Told → List Moment → List Moment
before_behind [] t before = before
before_behind (e ∷ es) t before = before_behind es (told_after e t) (before_after t e before)

abbrev pub told_behind : List Event → Told → Told
told_behind [] t = t
told_behind (e ∷ es) t = told_behind es (told_after e t)

module _ (slot_at : List ℕ → Option ℕ) where
  -- the field of a slot is told
  abbrev pub IsTold : Told → ℕ → Type 0
  IsTold t s = (f : List ℕ) × (t s ≡ Some f)

  abbrev pub RuleTold : Told → SizeRule → Type 0
  RuleTold t (Slot s) = IsTold t s
  RuleTold t _ = Unit {0}

  -- Nothing was asked of the fields of slots that are at home from here on, and each tells its slot.
  abbrev pub IsHeard : Told → (before : List Moment) → Event → Type 0
  IsHeard t before (begins homes bs) = AllByRecursion (λ (h : ℕ × List ℕ). (slot_at h.1 ≡ Some h.0) × (asks_of h.1 before ≡ [])) homes
  IsHeard t before (notes path s set x) = IsTold t s
  IsHeard t before (wants path s a) = IsTold t s
  IsHeard t before (closes path sizing n) = RuleTold t sizing.rule
  IsHeard t before _ = Unit {0}

  abbrev pub AllHeard : Told → (before : List Moment) → List Event → Type 0
  AllHeard t before [] = Unit {0}
  AllHeard t before (e ∷ es) = IsHeard t before e × AllHeard (told_after e t) (before_after t e before) es

told_then : (a b : List Event) (t : Told) → told_behind (a ++ b) t ≡ told_behind b (told_behind a t)
told_then [] b t = refl
told_then (e ∷ a) b t = told_then a b (told_after e t)

pub moments_then : (a b : List Event) (t : Told) → all_moments t (a ++ b) ≡ all_moments t a ++ all_moments (told_behind a t) b
moments_then [] b t = refl
moments_then (e ∷ a) b t = ap (λ z. moments_of t e ++ z) (moments_then a b (told_after e t)) ∙ sym (append_assoc (moments_of t e) (all_moments (told_after e t) a) (all_moments (told_behind a (told_after e t)) b))

pub before_one : (e : Event) (t : Told) (before : List Moment) → before_after t e before ≡ before ++ moments_of t e
before_one (aligns a) t before = sym (append-nil before)
before_one (copies bs) t before = sym (append-nil before)
before_one (begins homes bs) t before = sym (append-nil before)
before_one (puts width n) t before = sym (append-nil before)
before_one (sizes sizing n) t before = sym (append-nil before)
before_one (codes leaf x) t before = sym (append-nil before)
before_one (texts leaf cs) t before = sym (append-nil before)
before_one (opens s leaf) t before = sym (append-nil before)
before_one (notes path s set x) t before = refl
before_one (wants path s a) t before = refl
before_one (fills s) t before = sym (append-nil before)
before_one (enters rule) t before = sym (append-nil before)
before_one (closes path sizing n) t before = refl

pub before_all : (es : List Event) (t : Told) (before : List Moment) → before_behind es t before ≡ before ++ all_moments t es
before_all [] t before = sym (append-nil before)
before_all (e ∷ es) t before = before_all es (told_after e t) (before_after t e before) ∙ (ap (λ z. z ++ all_moments (told_after e t) es) (before_one e t before) ∙ append_assoc before (moments_of t e) (all_moments (told_after e t) es))

pub heard_then : (slot_at : List ℕ → Option ℕ) (a b : List Event) (t : Told) (before : List Moment) → AllHeard slot_at t before a → AllHeard slot_at (told_behind a t) (before_behind a t before) b → AllHeard slot_at t before (a ++ b)
heard_then slot_at [] b t before f g = g
heard_then slot_at (e ∷ a) b t before f g = (f.0, heard_then slot_at a b (told_after e t) (before_after t e before) f.1 g)

-- the slots that are known are at home round the place
abbrev Near : Known → List ℕ → Type 0
Near ks around = (s : ℕ) → ks s ≡ true → holds around s ≡ true

tests_in : (ks : Known) (around : List ℕ) (ts : List Test) → Near ks around → TestsIn ks ts → TestsIn (holds around) ts
tests_in ks around [] w h = tt
tests_in ks around (Flag s ∷ ts) w h = (w s h.0, tests_in ks around ts w h.1)
tests_in ks around (Equals s k ∷ ts) w h = (w s h.0, tests_in ks around ts w h.1)

or_second : (a b : Bool) → b ≡ true → (a || b) ≡ true
or_second true b e = refl
or_second false b e = e

or_rest : (a b : Bool) → a ≡ false → (a || b) ≡ true → b ≡ true
or_rest true b e h = cc
or_rest false b e h = h

pub more_near : (home around : List ℕ) (s : ℕ) → holds around s ≡ true → holds (home ++ around) s ≡ true
more_near [] around s h = h
more_near (t ∷ home) around s h = or_second (nat_eq t s) (holds (home ++ around) s) (more_near home around s h)

pub home_near : (home around : List ℕ) (s : ℕ) → holds home s ≡ true → holds (home ++ around) s ≡ true
home_near [] around s h = cc
home_near (t ∷ home) around s h = go (nat_eq t s) h (home_near home around s)
  where
    go : (b : Bool) → (b || holds home s) ≡ true → (holds home s ≡ true → holds (home ++ around) s ≡ true) → (b || holds (home ++ around) s) ≡ true
    go true k f = refl
    go false k f = f k

pub rest_near : (home around : List ℕ) (s : ℕ) → holds home s ≡ false → holds (home ++ around) s ≡ holds around s
rest_near [] around s h = refl
rest_near (t ∷ home) around s h = go (nat_eq t s) h (rest_near home around s)
  where
    go : (b : Bool) → (b || holds home s) ≡ false → (holds home s ≡ false → holds (home ++ around) s ≡ holds around s) → (b || holds (home ++ around) s) ≡ holds around s
    go true k f = cc
    go false k f = f k

near_slot : (around : List ℕ) (ks : Known) (t : ℕ) → holds around t ≡ true → Near ks around → Near (with_slot t ks) around
near_slot around ks t home w s h = by (nat_eq t s) refl h
  where
    by : (b : Bool) → nat_eq t s ≡ b → (b || ks s) ≡ true → holds around s ≡ true
    by true e g = subst (λ (z : ℕ). holds around z ≡ true) (eqb-true t s e) home
    by false e g = w s g

told_home : (v : ℕ → List ℕ) (home : List ℕ) (other : Option (List ℕ)) (s : ℕ) → holds home s ≡ true → told_in (map (λ t. (t, v t)) home) other s ≡ Some (v s)
told_home v [] other s h = cc
told_home v (t ∷ home) other s h = truth {F = told_in (map (λ u. (u, v u)) (t ∷ home)) other s ≡ Some (v s)} (nat_eq t s)
    (λ e. if_yes (nat_eq t s) (Some (v t)) (told_in (map (λ u. (u, v u)) home) other s) e ∙ ap (λ z. Some (v z)) (eqb-true t s e))
    (λ e. if_no (nat_eq t s) (Some (v t)) (told_in (map (λ u. (u, v u)) home) other s) e ∙ told_home v home other s (or_rest (nat_eq t s) (holds home s) e h))

told_out : (v : ℕ → List ℕ) (home : List ℕ) (other : Option (List ℕ)) (s : ℕ) → holds home s ≡ false → told_in (map (λ t. (t, v t)) home) other s ≡ other
told_out v [] other s h = refl
told_out v (t ∷ home) other s h =
    let n = or_parts (nat_eq t s) (holds home s) h in
    if_no (nat_eq t s) (Some (v t)) (told_in (map (λ u. (u, v u)) home) other s) n.0 ∙ told_out v home other s n.1

filled_told : (home : List ℕ) (t : Told) (s : ℕ) → holds home s ≡ false → told_behind (map fills home) t s ≡ t s
filled_told [] t s h = refl
filled_told (u ∷ home) t s h =
    let n = or_parts (nat_eq u s) (holds home s) h in
    filled_told home (told_after (fills u) t) s n.1 ∙ if_no (nat_eq u s) None (t s) n.0

fills_heard : (slot_at : List ℕ → Option ℕ) (home : List ℕ) (t : Told) (before : List Moment) → AllHeard slot_at t before (map fills home) × (all_moments t (map fills home) ≡ [])
fills_heard slot_at [] t before = (tt, refl)
fills_heard slot_at (u ∷ home) t before = let r = fills_heard slot_at home (told_after (fills u) t) before in ((tt, r.0), r.1)

off_path : (path : List ℕ) (m : ℕ) (q : List ℕ) → path ++ m ∷ q ≡ [] → ⊥
off_path [] m q e = cc
off_path (x ∷ path) m q e = cc

-- What comes before an occurrence asks nothing of its fields, since all that is asked of one is asked inside.
fresh : (field : List ℕ) (before inside later all : List Moment) (part : List Ask) → all ≡ before ++ (inside ++ later) → asks_of field all ≡ part → asks_of field inside ≡ part → asks_of field before ≡ []
fresh field before inside later all part e w i =
    let split : asks_of field all ≡ asks_of field before ++ (asks_of field inside ++ asks_of field later) =
    ap (asks_of field) e ∙ (flat_map-append (of_field field) before (inside ++ later) ∙ ap (λ z. asks_of field before ++ z) (flat_map-append (of_field field) inside later)) in
    let l1 = ap length (sym split ∙ w) in
    let l2 = length-append (asks_of field before) (asks_of field inside ++ asks_of field later) in
    let l3 = length-append (asks_of field inside) (asks_of field later) in
    let l4 = ap length i in
    empty (asks_of field before) (omega (arith, l1, l2, l3, l4))
  where
    empty : (xs : List Ask) → length xs ≡ 0 → xs ≡ []
    empty [] h = refl
    empty (x ∷ xs) h = absurd (omega (arith, h))

differs : (m k : ℕ) → suc k ≤ m → nat_eq m k ≡ false
differs m k h = grind (arith, nat_tests)

module _ (root : Grammar) (slot_at : List ℕ → Option ℕ) (whole : Data) (tree : IsTree root) (occurs : EachOccurrenceAsks) (tells : TellsSlots root slot_at) (behind : KnownBehind) where
  -- the events ask what the moments say, and leave the fields of the slots round them as they were told
  pub record Listens (around : List ℕ) (es : List Event) (t : Told) (before ms : List Moment) : Type 0 where
    pub heard : AllHeard slot_at t before es
    pub says : all_moments t es ≡ ms
    pub same : (s : ℕ) → holds around s ≡ true → told_behind es t s ≡ t s

  -- what is told of the slots that are at home round a place
  pub record Tells (around : List ℕ) (paths : FieldPaths) (t : Told) : Type 0 where
    pub told : (s : ℕ) → holds around s ≡ true → t s ≡ Some (field_of paths s)
    pub slots : (s : ℕ) → holds around s ≡ true → slot_at (field_of paths s) ≡ Some s
    pub none : (s : ℕ) → holds around s ≡ false → field_of paths s ≡ []

  tells_same : (around : List ℕ) (paths : FieldPaths) (t u : Told) → ((s : ℕ) → holds around s ≡ true → u s ≡ t s) → Tells around paths t → Tells around paths u
  tells_same around paths t u e h = record { told = λ s a. e s a ∙ h.told s a; slots = h.slots; none = h.none }

  -- the moments stand in those of the whole walk
  abbrev Fits : (before ms : List Moment) → Type 0
  Fits before ms = (later : List Moment) × (moments root root [] [] whole ≡ before ++ (ms ++ later))

  fits_front : (before a b : List Moment) → Fits before (a ++ b) → Fits before a
  fits_front before a b f = (b ++ f.0, f.1 ∙ ap (λ z. before ++ z) (append_assoc a b f.0))

  fits_back : (before a b : List Moment) → Fits before (a ++ b) → Fits (before ++ a) b
  fits_back before a b f = (f.0, f.1 ∙ (ap (λ z. before ++ z) (append_assoc a b f.0) ∙ sym (append_assoc before a (b ++ f.0))))

  fits_is : (before a b : List Moment) → a ≡ b → Fits before a → Fits before b
  fits_is before a b e f = (f.0, f.1 ∙ ap (λ z. before ++ (z ++ f.0)) e)

  abbrev Part : List ℕ → (List ℕ → Option Occurrence) → Type 0
  Part p find = (r : List ℕ) (o : Occurrence) → find r ≡ Some o → part_at root whole (p ++ r) ≡ Some o

  deeper : (p : List ℕ) (k : ℕ) (find : List ℕ → Option Occurrence) → ((r : List ℕ) (o : Occurrence) → find r ≡ Some o → part_at root whole (p ++ k ∷ r) ≡ Some o) → Part (p ++ k ∷ []) find
  deeper p k find h r o e = ap (part_at root whole) (append_assoc p (k ∷ []) r) ∙ h r o e

  part_here : (p : List ℕ) (g : Grammar) (d : Data) → Part p (part_at g d) → part_at g d [] ≡ Some (occurrence g d) → part_at root whole p ≡ Some (occurrence g d)
  part_here p g d s e = ap (part_at root whole) (sym (append-nil p)) ∙ s [] (occurrence g d) e

  module _ (around : List ℕ) where
    none_listen : (t : Told) (before : List Moment) → Listens around [] t before []
    none_listen t before = record { heard = tt; says = refl; same = λ s h. refl }

    listen_then : (a b : List Event) (t : Told) (before ma mb : List Moment) → Listens around a t before ma → ((u : Told) → ((s : ℕ) → holds around s ≡ true → u s ≡ t s) → Listens around b u (before ++ ma) mb) → Listens around (a ++ b) t before (ma ++ mb)
    listen_then a b t before ma mb f g =
        let r = g (told_behind a t) f.same in
        let e = before_all a t before ∙ ap (λ z. before ++ z) f.says in
        record {
          heard = heard_then slot_at a b t before f.heard (subst (λ (z : List Moment). AllHeard slot_at (told_behind a t) z b) (sym e) r.heard);
          says = moments_then a b t ∙ (ap (λ z. z ++ all_moments (told_behind a t) b) f.says ∙ ap (λ z. ma ++ z) r.says);
          same = λ s h. ap (λ (z : Told). z s) (told_then a b t) ∙ (r.same s h ∙ f.same s h);
        }

    listen_is : (es : List Event) (t : Told) (before ms ms' : List Moment) → ms ≡ ms' → Listens around es t before ms → Listens around es t before ms'
    listen_is es t before ms ms' e l = record { heard = l.heard; says = l.says ∙ e; same = l.same }

    listen_from : (es : List Event) (t : Told) (before before' ms : List Moment) → before ≡ before' → Listens around es t before ms → Listens around es t before' ms
    listen_from es t before before' ms e l = record { heard = subst (λ (z : List Moment). AllHeard slot_at t z es) e l.heard; says = l.says; same = l.same }

    -- events that ask nothing
    quiet_aligns : (a : ℕ) (es : List Event) (t : Told) (before ms : List Moment) → Listens around es t before ms → Listens around (aligns a ∷ es) t before ms
    quiet_aligns a es t before ms l = record { heard = (tt, l.heard); says = l.says; same = l.same }

    quiet_copies : (bs : List Bool) (es : List Event) (t : Told) (before ms : List Moment) → Listens around es t before ms → Listens around (copies bs ∷ es) t before ms
    quiet_copies bs es t before ms l = record { heard = (tt, l.heard); says = l.says; same = l.same }

    quiet_puts : (width n : ℕ) (es : List Event) (t : Told) (before ms : List Moment) → Listens around es t before ms → Listens around (puts width n ∷ es) t before ms
    quiet_puts width n es t before ms l = record { heard = (tt, l.heard); says = l.says; same = l.same }

    quiet_sizes : (sizing : Sizing) (n : ℕ) (es : List Event) (t : Told) (before ms : List Moment) → Listens around es t before ms → Listens around (sizes sizing n ∷ es) t before ms
    quiet_sizes sizing n es t before ms l = record { heard = (tt, l.heard); says = l.says; same = l.same }

    quiet_codes : (leaf : NumLeaf) (x : ℤ) (es : List Event) (t : Told) (before ms : List Moment) → Listens around es t before ms → Listens around (codes leaf x ∷ es) t before ms
    quiet_codes leaf x es t before ms l = record { heard = (tt, l.heard); says = l.says; same = l.same }

    quiet_texts : (leaf : TextLeaf) (cs : List ℕ) (es : List Event) (t : Told) (before ms : List Moment) → Listens around es t before ms → Listens around (texts leaf cs ∷ es) t before ms
    quiet_texts leaf cs es t before ms l = record { heard = (tt, l.heard); says = l.says; same = l.same }

    quiet_opens : (s : ℕ) (leaf : NumLeaf) (es : List Event) (t : Told) (before ms : List Moment) → Listens around es t before ms → Listens around (opens s leaf ∷ es) t before ms
    quiet_opens s leaf es t before ms l = record { heard = (tt, l.heard); says = l.says; same = l.same }

    quiet_enters : (rule : SizeRule) (es : List Event) (t : Told) (before ms : List Moment) → Listens around es t before ms → Listens around (enters rule ∷ es) t before ms
    quiet_enters rule es t before ms l = record { heard = (tt, l.heard); says = l.says; same = l.same }

    -- one ask
    want_listens : (paths : FieldPaths) (t : Told) → Tells around paths t → (path : List ℕ) (s : ℕ) (a : Ask) (before : List Moment) → holds around s ≡ true → Listens around (wants path s a ∷ []) t before (asked paths path s a ∷ [])
    want_listens paths t h path s a before near = record { heard = ((field_of paths s, h.told s near), tt); says = ap (λ (o : Option (List ℕ)). asks path (unwrap_or o []) s a ∷ []) (h.told s near); same = λ u k. refl }

    note_listens : (paths : FieldPaths) (t : Told) → Tells around paths t → (path : List ℕ) (s : ℕ) (set : List (ℤ × ℤ)) (x : ℤ) (before : List Moment) → holds around s ≡ true → Listens around (notes path s set x ∷ []) t before (asked paths path s (Equal x) ∷ [])
    note_listens paths t h path s set x before near = record { heard = ((field_of paths s, h.told s near), tt); says = ap (λ (o : Option (List ℕ)). asks path (unwrap_or o []) s (Equal x) ∷ []) (h.told s near); same = λ u k. refl }

    size_listens : (paths : FieldPaths) (t : Told) → Tells around paths t → (path : List ℕ) (n : ℕ) (rule : SizeRule) (before : List Moment) → RuleIn (holds around) rule → Listens around (size_wants path n rule) t before (size_asks paths path n rule)
    size_listens paths t h path n (Slot s) before near = want_listens paths t h path s (Equal (pos n)) before near
    size_listens paths t h path n (Prefix low width) before near = none_listen t before
    size_listens paths t h path n (Ended p) before near = none_listen t before

    test_listens : (paths : FieldPaths) (t : Told) → Tells around paths t → (path : List ℕ) (there : Bool) (c : Test) (before : List Moment) → TestIn (holds around) c → Listens around (test_event path there c ∷ []) t before (test_asks paths path there c ∷ [])
    test_listens paths t h path true (Flag s) before near = want_listens paths t h path s (Equal (pos 1)) before near
    test_listens paths t h path false (Flag s) before near = want_listens paths t h path s (Equal (pos 0)) before near
    test_listens paths t h path true (Equals s k) before near = want_listens paths t h path s (Equal k) before near
    test_listens paths t h path false (Equals s k) before near = want_listens paths t h path s (Avoid k) before near

    tests_listen : (paths : FieldPaths) (t : Told) → Tells around paths t → (path : List ℕ) (there : Bool) (ts : List Test) (before : List Moment) → TestsIn (holds around) ts → Listens around (map (test_event path there) ts) t before (map (test_asks paths path there) ts)
    tests_listen paths t h path there [] before near = none_listen t before
    tests_listen paths t h path there (c ∷ ts) before near =
        listen_then (test_event path there c ∷ []) (map (test_event path there) ts) t before (test_asks paths path there c ∷ []) (map (test_asks paths path there) ts) (test_listens paths t h path there c before near.0)
        (λ u e. tests_listen paths u (tells_same around paths t u e h) path there ts (before ++ test_asks paths path there c ∷ []) near.1)

    presence_listens : (paths : FieldPaths) (t : Told) → Tells around paths t → (path : List ℕ) (there : Bool) (presence : Presence) (ks : Known) (before : List Moment) → Near ks around → PresenceSound ks presence → Listens around (presence_events path there presence) t before (presence_asks paths path there presence)
    presence_listens paths t h path there Always ks before near s = none_listen t before
    presence_listens paths t h path there Bit ks before near s = none_listen t before
    presence_listens paths t h path there (When ts) ks before near s = tests_listen paths t h path there ts before (tests_in ks around ts near s.1)

    rule_listens : (paths : FieldPaths) (t : Told) → Tells around paths t → (path : List ℕ) (i : ℕ) (rule : ChoiceRule) (name : List ℕ) (ts : List Test) (ks : Known) (before : List Moment) → Near ks around → CaseKnown root ks rule ts → Listens around (rule_events root path i rule name ts) t before (rule_asks root paths path i rule name ts)
    rule_listens paths t h path i (Index width) name ts ks before near s = tests_listen paths t h (path ++ i ∷ []) true ts before (subst (λ (z : List Test). TestsIn (holds around) z) (sym s) tt)
    rule_listens paths t h path i Tests name ts ks before near s = tests_listen paths t h (path ++ i ∷ []) true ts before (tests_in ks around ts near s)
    rule_listens paths t h path i (Item s) name ts ks before near e = want_listens paths t h path s _ before (near s e)

    end_listens : (rule : SizeRule) (t : Told) (before : List Moment) → Listens around (end_events rule) t before []
    end_listens (Ended p) t before = quiet_copies p [] t before [] (none_listen t before)
    end_listens (Slot s) t before = none_listen t before
    end_listens (Prefix low width) t before = none_listen t before

    index_listens : (rule : ChoiceRule) (i : ℕ) (t : Told) (before : List Moment) → Listens around (index_events rule i) t before []
    index_listens (Index width) i t before = quiet_puts width i [] t before [] (none_listen t before)
    index_listens Tests i t before = none_listen t before
    index_listens (Item s) i t before = none_listen t before

    inserted_listens : (own : Option ℕ) (g : Grammar) (t : Told) (before : List Moment) → Listens around (inserted_events own g) t before []
    inserted_listens (Some s) (node align (num leaf)) t before = quiet_aligns align (opens s leaf ∷ []) t before [] (quiet_opens s leaf [] t before [] (none_listen t before))
    inserted_listens None (node align (num leaf)) t before = quiet_aligns align (codes leaf (pos 0) ∷ []) t before [] (quiet_codes leaf (pos 0) [] t before [] (none_listen t before))
    inserted_listens (Some s) (node align _) t before = none_listen t before
    inserted_listens None (node align _) t before = none_listen t before

    closing_listens : (paths : FieldPaths) (t : Told) → Tells around paths t → (path : List ℕ) (sizing : Sizing) (n : ℕ) (before : List Moment) → RuleIn (holds around) sizing.rule
        → Listens around (closes path sizing n ∷ []) t before (counts path n sizing ∷ size_asks paths path n sizing.rule)
    closing_listens paths t h path sizing n before near = record { heard = (is_told sizing.rule near, tt); says = ap (λ z. counts path n sizing ∷ z) (append-nil (closing_asks t path n sizing.rule) ∙ asks_are sizing.rule near); same = λ u k. refl }
      where
        is_told : (rule : SizeRule) → RuleIn (holds around) rule → RuleTold slot_at t rule
        is_told (Slot s) r = (field_of paths s, h.told s r)
        is_told (Prefix low width) r = tt
        is_told (Ended p) r = tt

        asks_are : (rule : SizeRule) → RuleIn (holds around) rule → closing_asks t path n rule ≡ size_asks paths path n rule
        asks_are (Slot s) r = ap (λ (o : Option (List ℕ)). asks path (unwrap_or o []) s (Equal (pos n)) ∷ []) (h.told s r)
        asks_are (Prefix low width) r = refl
        asks_are (Ended p) r = refl

    rule_near : (ks : Known) (rule : SizeRule) → Near ks around → RuleIn ks rule → RuleIn (holds around) rule
    rule_near ks (Slot s) w h = w s h
    rule_near ks (Prefix low width) w h = tt
    rule_near ks (Ended p) w h = tt

    string_listens : (sizing : Sizing) (path : List ℕ) (n : ℕ) (bs : List Bool) (ks : Known) → RuleIn ks sizing.rule → Near ks around → (paths : FieldPaths) (t : Told) → Tells around paths t → (before : List Moment)
        → Listens around (sizes sizing n ∷ (size_wants path n sizing.rule ++ copies bs ∷ [])) t before (size_asks paths path n sizing.rule)
    string_listens sizing path n bs ks r w paths t h before =
        let ask = size_asks paths path n sizing.rule in
        quiet_sizes sizing n (size_wants path n sizing.rule ++ copies bs ∷ []) t before ask
        (listen_is (size_wants path n sizing.rule ++ copies bs ∷ []) t before (ask ++ []) ask (append-nil ask)
        (listen_then (size_wants path n sizing.rule) (copies bs ∷ []) t before ask [] (size_listens paths t h path n sizing.rule before (rule_near ks sizing.rule w r))
        (λ u same. quiet_copies bs [] u (before ++ ask) [] (none_listen u (before ++ ask)))))

    near_after : (g : Grammar) (k : ℕ) (ks : Known) → Sound root k around ks g → Near ks around → Near (after ks g) around
    near_after g k ks sound w s h = by (behind root k around ks g sound s h)
      where
        by : (ks s ≡ true) ⊎ (holds around s ≡ true) → holds around s ≡ true
        by (inl e) = w s e
        by (inr e) = e

    says_home : (ks : Known) (s : ℕ) (g : Grammar) → SaysSlot root around ks s g → holds around s ≡ true
    says_home ks s (node align (num leaf)) h = h.0
    says_home ks s (node align _) h = absurd h

    near_component : (presence : Presence) (own : Option ℕ) (g : Grammar) (k : ℕ) (ks : Known) → Sound root k around ks g → OwnSound root around ks own presence g → Near ks around → Near (choose_known presence ks (with_own own (after ks g))) around
    near_component Bit own g k ks sound o w = w
    near_component (When ts) own g k ks sound o w = w
    near_component Always None g k ks sound o w = near_after g k ks sound w
    near_component Always (Some t) g k ks sound o w = near_slot around (after ks g) t (says_home ks t g o.1) (near_after g k ks sound w)

    own_listens : (paths : FieldPaths) (t : Told) → Tells around paths t → (path : List ℕ) (own : Option ℕ) (presence : Presence) (g : Grammar) (d : Data) (ks : Known) (before : List Moment) → OwnSound root around ks own presence g → Listens around (own_events path own g d) t before (own_asks paths path own d)
    own_listens paths t h path None presence g d ks before o = none_listen t before
    own_listens paths t h path (Some s) presence g d ks before o = note_listens paths t h path s (set_in g) (number_of d) before (says_home ks s g o.1)

  -- SEQUENCEs.

  steps_differ : (f g : List ℕ) (s t : ℕ) → slot_at f ≡ Some s → slot_at g ≡ Some t → nat_eq s t ≡ false → same_name f g ≡ false
  steps_differ f g s t a b n = false_from_ne_true (same_name f g) (λ q. (let e = sym a ∙ (ap slot_at (same_name-is f g q) ∙ b) in let h = one e in let y = eq_here s in let z = ap (λ x. nat_eq s x) h in cc))
    where
      one : {x y : ℕ} → Some x ≡ Some y → x ≡ y
      one e = cc

  home_heard : (align : ℕ) (fields : Fields) (home around : List ℕ) (paths : FieldPaths) (t : Told) → Tells around paths t → ((s : ℕ) → holds around s ≡ true → holds home s ≡ false) → (path : List ℕ) (d : Data) → part_at root whole path ≡ Some (occurrence (node align (seq fields home)) d)
      → (before : List Moment) → Fits before (form_moments root (seq fields home) paths path d) → (s : ℕ) → holds home s ≡ true → (slot_at (field_path path fields s) ≡ Some s) × (asks_of (field_path path fields s) before ≡ [])
  home_heard align fields home around paths t h apart path d at before fits s mine =
      let f = field_path path fields s in
      let slot = tells.at_home whole d path home align s fields at mine in
      let homes = homes_at root (tree_homes root tree) whole path (node align (seq fields home)) d at in
      let where0 = told fields s (homes.0 s mine).0 in
      let is = ap (λ z. path ++ z) where0.is in
      let inside = start root f s align fields home d mine where0 paths (deaf f slot where0.m where0.q is) path is homes d in
      let all = occurs root whole d path home align s fields tree at mine in
      (slot, fresh f before (form_moments root (seq fields home) paths path d) fits.0 (moments root root [] [] whole) (form_asks_on root s (seq fields home) d) fits.1 all inside)
    where
      deaf : (f : List ℕ) → slot_at f ≡ Some s → (m : ℕ) (q : List ℕ) → f ≡ path ++ m ∷ q → (u : ℕ) → same_name f (field_of paths u) ≡ false
      deaf f slot m q is u = truth {F = same_name f (field_of paths u) ≡ false} (holds around u)
          (λ a. steps_differ f (field_of paths u) s u slot (h.slots u a) (apart_slots u a))
          (λ a. false_from_ne_true (same_name f (field_of paths u)) (λ y. off_path path m q (sym is ∙ (same_name-is f (field_of paths u) y ∙ h.none u a))))
        where
          apart_slots : (u : ℕ) → holds around u ≡ true → nat_eq s u ≡ false
          apart_slots u a = false_from_ne_true (nat_eq s u) (λ y. (let e = ap (holds home) (eqb-true s u y) in let n = apart u a in cc))

  homes_heard : (align : ℕ) (fields : Fields) (path : List ℕ) (before : List Moment) (home : List ℕ) → ((s : ℕ) → holds home s ≡ true → (slot_at (field_path path fields s) ≡ Some s) × (asks_of (field_path path fields s) before ≡ []))
      → AllByRecursion (λ (h : ℕ × List ℕ). (slot_at h.1 ≡ Some h.0) × (asks_of h.1 before ≡ [])) (map (λ s. (s, field_path path fields s)) home)
  homes_heard align _ path before [] h = tt
  homes_heard align fields path before (s ∷ home) h = (h s (first s (holds home s)), homes_heard align fields path before home (λ u e. h u (or_second (nat_eq s u) (holds home u) e)))
    where
      first : (s : ℕ) (b : Bool) → (nat_eq s s || b) ≡ true
      first s b = let e = eq_here s in cc

  home_tells : (align : ℕ) (fields : Fields) (home around : List ℕ) (paths : FieldPaths) (t : Told) → Tells around paths t → (path : List ℕ) → ((s : ℕ) → holds home s ≡ true → slot_at (field_path path fields s) ≡ Some s)
      → Tells (home ++ around) (with_fields path fields home paths) (λ s. told_in (map (λ u. (u, field_path path fields u)) home) (t s) s)
  home_tells align fields home around paths t h path slots =
      let v = field_path path fields in
      record {
        told = λ s a. truth {F = told_in (map (λ u. (u, v u)) home) (t s) s ≡ Some (field_of (with_fields path fields home paths) s)} (holds home s)
            (λ y. told_home v home (t s) s y ∙ ap Some (sym (field_in v home paths s y)))
            (λ y. told_out v home (t s) s y ∙ (h.told s (sym (rest_near home around s y) ∙ a) ∙ ap Some (sym (field_out v home paths s y))));
        slots = λ s a. truth {F = slot_at (field_of (with_fields path fields home paths) s) ≡ Some s} (holds home s)
            (λ y. ap slot_at (field_in v home paths s y) ∙ slots s y)
            (λ y. ap slot_at (field_out v home paths s y) ∙ h.slots s (sym (rest_near home around s y) ∙ a));
        none = λ s a. truth {F = field_of (with_fields path fields home paths) s ≡ []} (holds home s)
            (λ y. (let n = home_near home around s y in cc))
            (λ y. field_out v home paths s y ∙ h.none s (sym (rest_near home around s y) ∙ a));
      }

  run_listens : (around : List ℕ) (paths : FieldPaths) (p : List ℕ) (g : Grammar)
      → ((j : ℕ) (d : Data) (u : Told) (before : List Moment) → Tells around paths u → Part (p ++ j ∷ []) (part_at g d) → Fits before (moments root g paths (p ++ j ∷ []) d) → Listens around (events root g (p ++ j ∷ []) d) u before (moments root g paths (p ++ j ∷ []) d))
      → (k : ℕ) (es : Elements) (t : Told) (before : List Moment) → Tells around paths t → ((m : ℕ) (r : List ℕ) (o : Occurrence) → k ≤ m → element_part (λ d. part_at g d r) k es m ≡ Some o → part_at root whole (p ++ m ∷ r) ≡ Some o)
      → Fits before (run_moments (λ j d. moments root g paths (p ++ j ∷ []) d) k es) → Listens around (run_events (λ j d. events root g (p ++ j ∷ []) d) k es) t before (run_moments (λ j d. moments root g paths (p ++ j ∷ []) d) k es)
  run_listens around paths p g one k no_elements t before h s f = none_listen around t before
  run_listens around paths p g one k (element d es) t before h s f =
      let a = moments root g paths (p ++ k ∷ []) d in
      let b = run_moments (λ j d. moments root g paths (p ++ j ∷ []) d) (suc k) es in
      listen_then around (events root g (p ++ k ∷ []) d) (run_events (λ j d. events root g (p ++ j ∷ []) d) (suc k) es) t before a b
      (one k d t before h (deeper p k (part_at g d) (λ r o e. s k r o (omega arith) (if_yes (nat_eq k k) (part_at g d r) (element_part (λ d'. part_at g d' r) (suc k) es k) (eq_here k) ∙ e))) (fits_front before a b f))
      (λ u same. run_listens around paths p g one (suc k) es u (before ++ a) (tells_same around paths t u same h) (λ j r o l e. s j r o (omega arith) (if_no (nat_eq j k) (part_at g d r) (element_part (λ d'. part_at g d' r) (suc k) es j) (differs j k l) ∙ e)) (fits_back before a b f))

  regroup : (a b c e : List Moment) → a ++ (b ++ (c ++ e)) ≡ a ++ b ++ c ++ e
  regroup a b c e = sym (append_assoc (a ++ b) c e ∙ append_assoc a b (c ++ e))

  mutual
    pub node_listens : (g : Grammar) (k : ℕ) (around : List ℕ) (ks : Known) → Sound root k around ks g → Near ks around → (paths : FieldPaths) (t : Told) → Tells around paths t → (p : List ℕ) (d : Data) → Part p (part_at g d) → (before : List Moment) → Fits before (moments root g paths p d)
        → Listens around (events root g p d) t before (moments root g paths p d)
    node_listens (node align form) k around ks s w paths t h p d at before f =
        quiet_aligns around align (form_events root form p d) t before (form_moments root form paths p d) (form_listens form align k around ks s.2 w paths t h p d at before f)

    form_listens : (form : Form) (align k : ℕ) (around : List ℕ) (ks : Known) → FormSound root k around ks form → Near ks around → (paths : FieldPaths) (t : Told) → Tells around paths t → (p : List ℕ) (d : Data) → Part p (part_at (node align form) d) → (before : List Moment) → Fits before (form_moments root form paths p d)
        → Listens around (form_events root form p d) t before (form_moments root form paths p d)
    form_listens (num leaf) align k around ks s w paths t h p d at before f = quiet_codes around leaf (number_of d) [] t before [] (none_listen around t before)
    form_listens (octets sizing) align k around ks s w paths t h p (octet_string os) at before f = string_listens around sizing p (length os) (bits_of os) ks s.1 w paths t h before
    form_listens (bits sizing) align k around ks s w paths t h p (bit_string bs) at before f = string_listens around sizing p (length bs) bs ks s.1 w paths t h before
    form_listens (text leaf) align k around ks s w paths t h p (characters cs) at before f =
        let ask = size_asks paths p (length cs) leaf.sized.rule in
        listen_is around (size_wants p (length cs) leaf.sized.rule ++ texts leaf cs ∷ []) t before (ask ++ []) ask (append-nil ask)
        (listen_then around (size_wants p (length cs) leaf.sized.rule) (texts leaf cs ∷ []) t before ask [] (size_listens around paths t h p (length cs) leaf.sized.rule before (rule_near around ks leaf.sized.rule w s.1))
        (λ u same. quiet_texts around leaf cs [] u (before ++ ask) [] (none_listen around u (before ++ ask))))
    form_listens (seq fields home) align k around ks s w paths t h p (record_of ps) at before f =
        let heard = home_heard align fields home around paths t h s.0.not_around p (record_of ps) (part_here p (node align (seq fields home)) (record_of ps) at refl) before f in
        let e = begins (map (λ u. (u, field_path p fields u)) home) (presence_bits fields ps) in
        let u = told_after e t in
        let inner = home_tells align fields home around paths t h p (λ q m. (heard q m).0) in
        let x = field_events root fields p 0 ps in
        let r = fields_listen fields (suc k) (home ++ around) ks s.1 (λ q m. more_near home around q (w q m)) (with_fields p fields home paths) u inner p 0 ps (λ j q o l i. at (j ∷ q) o i) before f in
        let y = map fills home in
        let z = fills_heard slot_at home (told_behind x u) (before_behind x u before) in
        record {
          heard = (homes_heard align fields p before home heard, heard_then slot_at x y u before r.heard z.0);
          says = moments_then x y u ∙ (ap (λ q. q ++ all_moments (told_behind x u) y) r.says ∙ (ap (λ q. fields_moments root fields (with_fields p fields home paths) p 0 ps ++ q) z.1 ∙ append-nil (fields_moments root fields (with_fields p fields home paths) p 0 ps)));
          same = λ q m. ap (λ (v : Told). v q) (told_then x y u) ∙ (filled_told home (told_behind x u) q (s.0.not_around q m) ∙ (r.same q (more_near home around q m) ∙ told_out (field_path p fields) home (t q) q (s.0.not_around q m)));
        }
    form_listens (list sizing g) align k around ks s w paths t h p (list_of es) at before f =
        let n = element_count es in
        let ask = size_asks paths p n sizing.rule in
        let x = run_events (λ j d. events root g (p ++ j ∷ []) d) 0 es in
        let ms = run_moments (λ j d. moments root g paths (p ++ j ∷ []) d) 0 es in
        quiet_sizes around sizing n (size_wants p n sizing.rule ++ (x ++ end_events sizing.rule)) t before (ask ++ ms)
        (listen_then around (size_wants p n sizing.rule) (x ++ end_events sizing.rule) t before ask ms (size_listens around paths t h p n sizing.rule before (rule_near around ks sizing.rule w s.1))
        (λ u same.
        listen_is around (x ++ end_events sizing.rule) u (before ++ ask) (ms ++ []) ms (append-nil ms)
        (listen_then around x (end_events sizing.rule) u (before ++ ask) ms []
        (run_listens around paths p g (λ j d v b c q o. node_listens g (suc k) around ks s.4 w paths v c (p ++ j ∷ []) d q b o) 0 es u (before ++ ask) (tells_same around paths t u same h) (λ j r o l e. at (j ∷ r) o e) (fits_back before ask ms f))
        (λ v same'. end_listens around sizing.rule v (before ++ ask ++ ms)))))
    form_listens (choice cases rule) align k around ks s w paths t h p (alt i d) at before f =
        let ms = alternative_moments root cases rule paths p i i d in
        listen_then around (index_events rule i) (case_events root cases rule p i i d) t before [] ms (index_listens around rule i t before)
        (λ u same.
        listen_from around (case_events root cases rule p i i d) u before (before ++ []) ms (sym (append-nil before))
        (case_listens cases rule (suc k) around ks s.3 w (case_known root cases rule ks s.0 s.2) paths u (tells_same around paths t u same h) p i i d (deeper p i (alternative_part cases i d) (λ r o e. at (i ∷ r) o (if_yes (nat_eq i i) (alternative_part cases i d r) None (eq_here i) ∙ e))) before f))
    form_listens (contained sizing g) align k around ks s w paths t h p d at before f =
        let n = octets_for (bit_length g 0 d) in
        let a = moments root g paths (p ++ 0 ∷ []) d in
        let b = counts p n sizing ∷ size_asks paths p n sizing.rule in
        let x = events root g (p ++ 0 ∷ []) d in
        quiet_enters around sizing.rule (x ++ aligns 8 ∷ closes p sizing n ∷ []) t before (a ++ b)
        (listen_then around x (aligns 8 ∷ closes p sizing n ∷ []) t before a b
        (node_listens g (suc k) around ks s.3 w paths t h (p ++ 0 ∷ []) d (deeper p 0 (part_at g d) (λ r o e. at (0 ∷ r) o e)) before (fits_front before a b f))
        (λ u same. quiet_aligns around 8 (closes p sizing n ∷ []) u (before ++ a) b (closing_listens around paths u (tells_same around paths t u same h) p sizing n (before ++ a) (rule_near around ks sizing.rule w s.1))))
    form_listens (octets sizing) align k around ks s w paths t h p _ at before f = none_listen around t before
    form_listens (bits sizing) align k around ks s w paths t h p _ at before f = none_listen around t before
    form_listens (text leaf) align k around ks s w paths t h p _ at before f = none_listen around t before
    form_listens (seq _ home) align k around ks s w paths t h p _ at before f = none_listen around t before
    form_listens (list sizing g) align k around ks s w paths t h p _ at before f = none_listen around t before
    form_listens (choice cases rule) align k around ks s w paths t h p _ at before f = none_listen around t before

    fields_listen : (fs : Fields) (k : ℕ) (around : List ℕ) (ks : Known) → FieldsSound root k around ks fs → Near ks around → (paths : FieldPaths) (t : Told) → Tells around paths t → (p : List ℕ) (n : ℕ) (ps : Places)
        → ((m : ℕ) (r : List ℕ) (o : Occurrence) → n ≤ m → field_part fs n ps m r ≡ Some o → part_at root whole (p ++ m ∷ r) ≡ Some o) → (before : List Moment) → Fits before (fields_moments root fs paths p n ps) → Listens around (field_events root fs p n ps) t before (fields_moments root fs paths p n ps)
    fields_listen (component name g presence default own fs) k around ks s w paths t h p n (filled d ps) at before f =
        let q = p ++ n ∷ [] in
        let a = own_asks paths q own d in
        let b = presence_asks paths q true presence in
        let c = moments root g paths q d in
        let e = fields_moments root fs paths p (suc n) ps in
        let x = events root g q d in
        let y = field_events root fs p (suc n) ps in
        let ks2 = choose_known presence ks (with_own own (after ks g)) in
        let f1 = fits_is before (a ++ b ++ c ++ e) (a ++ (b ++ (c ++ e))) (sym (regroup a b c e)) f in
        let f2 = fits_back before a (b ++ (c ++ e)) f1 in
        let f3 = fits_back (before ++ a) b (c ++ e) f2 in
        listen_is around (own_events q own g d ++ (presence_events q true presence ++ (x ++ y))) t before (a ++ (b ++ (c ++ e))) (a ++ b ++ c ++ e) (regroup a b c e)
        (listen_then around (own_events q own g d) (presence_events q true presence ++ (x ++ y)) t before a (b ++ (c ++ e)) (own_listens around paths t h q own presence g d ks before s.1)
        (λ t1 e1.
        let h1 = tells_same around paths t t1 e1 h in
        listen_then around (presence_events q true presence) (x ++ y) t1 (before ++ a) b (c ++ e) (presence_listens around paths t1 h1 q true presence ks (before ++ a) w s.0)
        (λ t2 e2.
        let h2 = tells_same around paths t1 t2 e2 h1 in
        listen_then around x y t2 (before ++ a ++ b) c e
        (node_listens g k around ks s.3 w paths t2 h2 q d (deeper p n (part_at g d) (λ r o i. at n r o (omega arith) (if_yes (nat_eq n n) (part_at g d r) (field_part fs (suc n) ps n r) (eq_here n) ∙ i))) (before ++ a ++ b) (fits_front (before ++ a ++ b) c e f3))
        (λ t3 e3.
        fields_listen fs k around ks2 s.4 (near_component around presence own g k ks s.3 s.1 w) paths t3 (tells_same around paths t2 t3 e3 h2) p (suc n) ps
        (λ j r o l i. at j r o (omega arith) (if_no (nat_eq j n) (part_at g d r) (field_part fs (suc n) ps j r) (differs j n l) ∙ i)) (before ++ a ++ b ++ c) (fits_back (before ++ a ++ b) c e f3)))))
    fields_listen (component name g presence default own fs) k around ks s w paths t h p n (empty ps) at before f =
        let q = p ++ n ∷ [] in
        let b = presence_asks paths q false presence in
        let e = fields_moments root fs paths p (suc n) ps in
        let ks2 = choose_known presence ks (with_own own (after ks g)) in
        listen_then around (presence_events q false presence) (field_events root fs p (suc n) ps) t before b e (presence_listens around paths t h q false presence ks before w s.0)
        (λ u same.
        fields_listen fs k around ks2 s.4 (near_component around presence own g k ks s.3 s.1 w) paths u (tells_same around paths t u same h) p (suc n) ps
        (λ j r o l i. at j r o (omega arith) (if_no (nat_eq j n) None (field_part fs (suc n) ps j r) (differs j n l) ∙ i)) (before ++ b) (fits_back before b e f))
    fields_listen (inserted name g (Some v) fs) k around ks s w paths t h p n ps at before f =
        let e = fields_moments root fs paths p (suc n) ps in
        listen_then around (inserted_events (Some v) g) (field_events root fs p (suc n) ps) t before [] e (inserted_listens around (Some v) g t before)
        (λ u same.
        listen_from around (field_events root fs p (suc n) ps) u before (before ++ []) e (sym (append-nil before))
        (fields_listen fs k around (with_slot v ks) s.3 (near_slot around ks v (says_home around ks v g s.0) w) paths u (tells_same around paths t u same h) p (suc n) ps
        (λ j r o l i. at j r o (omega arith) (if_no (nat_eq j n) None (field_part fs (suc n) ps j r) (differs j n l) ∙ i)) before f))
    fields_listen (inserted name g None fs) k around ks s w paths t h p n ps at before f =
        let e = fields_moments root fs paths p (suc n) ps in
        listen_then around (inserted_events None g) (field_events root fs p (suc n) ps) t before [] e (inserted_listens around None g t before)
        (λ u same.
        listen_from around (field_events root fs p (suc n) ps) u before (before ++ []) e (sym (append-nil before))
        (fields_listen fs k around ks s.2 w paths u (tells_same around paths t u same h) p (suc n) ps
        (λ j r o l i. at j r o (omega arith) (if_no (nat_eq j n) None (field_part fs (suc n) ps j r) (differs j n l) ∙ i)) before f))
    fields_listen no_fields k around ks s w paths t h p n ps at before f = none_listen around t before
    fields_listen (component name g presence default own fs) k around ks s w paths t h p n no_places at before f = none_listen around t before

    case_listens : (cases : Alternatives) (rule : ChoiceRule) (k : ℕ) (around : List ℕ) (ks : Known) → AlternativesSound root k around ks cases → Near ks around → ((i : ℕ) → CaseKnown root ks rule (tests_at cases i)) → (paths : FieldPaths) (t : Told) → Tells around paths t
        → (p : List ℕ) (i j : ℕ) (d : Data) → Part (p ++ i ∷ []) (alternative_part cases j d) → (before : List Moment) → Fits before (alternative_moments root cases rule paths p i j d) → Listens around (case_events root cases rule p i j d) t before (alternative_moments root cases rule paths p i j d)
    case_listens no_alternatives rule k around ks s w known paths t h p i j d at before f = none_listen around t before
    case_listens (alternative name g tests more) rule k around ks s w known paths t h p i zero d at before f =
        let a = rule_asks root paths p i rule name tests in
        let b = moments root g paths (p ++ i ∷ []) d in
        listen_then around (rule_events root p i rule name tests) (events root g (p ++ i ∷ []) d) t before a b (rule_listens around paths t h p i rule name tests ks before w (known 0))
        (λ u same. node_listens g k around ks s.1 w paths u (tells_same around paths t u same h) (p ++ i ∷ []) d at (before ++ a) (fits_back before a b f))
    case_listens (alternative name g tests more) rule k around ks s w known paths t h p i (suc j) d at before f = case_listens more rule k around ks s.2 w (λ m. known (suc m)) paths t h p i j d at before f
