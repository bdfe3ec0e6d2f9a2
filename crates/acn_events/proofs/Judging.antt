-- Moments that can be met, and the first that can't, part by part; and what the events of a value say of its moments as they run.
use Rattle.std.proofs.Common.{◌≡◌, ℕ, ◌+◌, ◌≤◌, ℤ, pos, Bool, true, false, List, [], ◌∷◌, ◌++◌, Option, Some, None, nat_eq, refl, sym, ap, ◌∙◌, subst, arith, append_assoc, append-nil, inl, inr}
use Rattle.std.specs.Prelude.{◌⊎◌, ◌&&◌, if◌then◌else◌, unwrap_or}
use Rattle.std.specs.List.{AllByRecursion, list_all}
use Rattle.std.proofs.lemmas.Bool.{eqb-true, false_from_ne_true}
use Rattle.std.proofs.lemmas.Grind.{flat_map-append}
use Rattle.acn_num.specs.Ranges.{has}
use Rattle.acn_asks.specs.Kept.{Contradicted}
use Rattle.acn_bits.specs.Overwrite.{Gap}
use Rattle.acn_fill.specs.Table.{Table, Keeps, OneMore, begun}
use Rattle.acn_grammar.specs.Asks.{Ask, Equal, Moment, asks, counts, same_name}
use Rattle.acn_grammar.specs.AsksOn.{on}
use Rattle.acn_grammar.specs.Grammar.{Grammar}
use Rattle.acn_grammar.specs.Meets.{Unfit, Why, conflict, content_size, text_breach}
use Rattle.acn_grammar.specs.Refused.{CanBeMet, Says, FirstUnmet, of_field, asks_of}
use Rattle.acn_grammar.specs.Slots.{domain_of}
use Rattle.acn_grammar.specs.declared.node.SizeRule.{SizeRule}
use Rattle.acn_grammar.specs.declared.node.SizeRule.TheVariants.{Prefix, Slot, Ended}
use Rattle.acn_grammar.specs.declared.node.Sizing.{Sizing}
use Rattle.acn_grammar.proofs.Characters.{same_name-is, same_name-refl}
use Rattle.acn_packet_laws.specs.Laws.{WidthsAreLengths}
use Rattle.acn_events.specs.Event.{Event, State, Halt, aligns, copies, begins, puts, sizes, codes, texts, opens, notes, wants, fills, enters, closes, breaks, unmet, miscounts, full, lost, octets_in}
use Rattle.acn_events.specs.Marks.{Mark, marked, ends, reach, size_of, Right, AllRight, CanBeClosed}
use Rattle.acn_events.specs.Steps.{Class, Step, Run, Halts, Breaks, Unmeets, Miscounts, Stops, ClosesInVain, AsksInVain, Closes, gap_of}
use Rattle.acn_events.proofs.Coming.{comes, moved_by, reach_grows}
use Rattle.acn_events.proofs.Heard.{Told, told_in, told_after, field_here, closing_asks, moments_of, all_moments, before_after, before_one, RuleTold, IsHeard, AllHeard}
use Rattle.acn_events.proofs.Keeping.{Kept, kept_keeps, kept_none, kept_one, kept_noted, kept_opened, kept_ended, none_kept}
use Rattle.acn_events.proofs.Right.{domain_is}
use Rattle.acn_events.proofs.Small.{truth, if_yes, if_no, eq_here}
use Rattle.acn_events.proofs.Standing.{Stands, keeps_least, octets_are, stands_on}

-- A list that is cut in two places.

record Cut (A : Type 0) (a b early late : List A) (m : A) : Type 0 where
  mid : List A
  front : early ≡ a ++ mid
  back : b ≡ mid ++ m ∷ late

abbrev In_front : (A : Type 0) → (a early : List A) → (m : A) → Type 0
In_front A a early m = (rest : List A) × (a ≡ early ++ m ∷ rest)

cut : {A : Type 0} (a b early late : List A) (m : A) → a ++ b ≡ early ++ m ∷ late → In_front A a early m ⊎ Cut A a b early late m
cut {A} [] b early late m e = inr (record { mid = early; front = refl; back = e })
cut {A} (x ∷ a) b [] late m e = inl (a, (let h : x ≡ m = cc in ap (λ z. z ∷ a) h))
cut {A} (x ∷ a) b (y ∷ early) late m e =
    let h : x ≡ y = cc in
    let t : a ++ b ≡ early ++ m ∷ late = cc in
    next h (cut a b early late m t)
  where
    next : x ≡ y → In_front A a early m ⊎ Cut A a b early late m → In_front A (x ∷ a) (y ∷ early) m ⊎ Cut A (x ∷ a) b (y ∷ early) late m
    next h (inl p) = inl (p.0, (let q = p.1 in cc))
    next h (inr c) = inr (record { mid = c.mid; front = (let q = c.front in cc); back = c.back })

module _ (root : Grammar) where
  -- each of these can be met, after those before
  abbrev pub AreMet : (before ms : List Moment) → Type 0
  AreMet before ms = (early late : List Moment) (m : Moment) → ms ≡ early ++ m ∷ late → CanBeMet root (before ++ early) m

  -- one of these is the first that can't
  pub record StopsIn (before ms : List Moment) (u : Unfit) : Type 0 where
    pub early : List Moment
    pub here : Moment
    pub late : List Moment
    pub whole : ms ≡ early ++ here ∷ late
    pub met : AreMet before early
    pub unmet : CanBeMet root (before ++ early) here → ⊥
    pub says : Says (before ++ early) here u

  pub met_none : (before : List Moment) → AreMet before []
  met_none before [] late m e = cc
  met_none before (x ∷ early) late m e = cc

  pub met_then : (before a b : List Moment) → AreMet before a → AreMet (before ++ a) b → AreMet before (a ++ b)
  met_then before a b f g early late m e = by (cut a b early late m e)
    where
      by : In_front Moment a early m ⊎ Cut Moment a b early late m → CanBeMet root (before ++ early) m
      by (inl p) = f early p.0 m p.1
      by (inr c) = subst (λ (z : List Moment). CanBeMet root z m) (append_assoc before a c.mid ∙ ap (λ z. before ++ z) (sym c.front)) (g c.mid late m c.back)

  pub met_one : (before : List Moment) (m : Moment) → CanBeMet root before m → AreMet before (m ∷ [])
  met_one before m h [] late x e = let p : m ≡ x = cc in subst (λ (z : List Moment). CanBeMet root z x) (sym (append-nil before)) (subst (λ (z : Moment). CanBeMet root before z) p h)
  met_one before m h (y ∷ []) late x e = cc
  met_one before m h (y ∷ z ∷ early) late x e = cc

  pub stops_front : (before a b : List Moment) (u : Unfit) → StopsIn before a u → StopsIn before (a ++ b) u
  stops_front before a b u s = record { early = s.early; here = s.here; late = s.late ++ b; whole = ap (λ z. z ++ b) s.whole ∙ append_assoc s.early (s.here ∷ s.late) b; met = s.met; unmet = s.unmet; says = s.says }

  pub stops_then : (before a b : List Moment) (u : Unfit) → AreMet before a → StopsIn (before ++ a) b u → StopsIn before (a ++ b) u
  stops_then before a b u f s =
      let same : before ++ (a ++ s.early) ≡ (before ++ a) ++ s.early = sym (append_assoc before a s.early) in
      record {
        early = a ++ s.early;
        here = s.here;
        late = s.late;
        whole = ap (λ z. a ++ z) s.whole ∙ sym (append_assoc a s.early (s.here ∷ s.late));
        met = met_then before a s.early f s.met;
        unmet = λ h. s.unmet (subst (λ (z : List Moment). CanBeMet root z s.here) same h);
        says = subst (λ (z : List Moment). Says z s.here u) (sym same) s.says;
      }

  pub stops_one : (before : List Moment) (m : Moment) (u : Unfit) → (CanBeMet root before m → ⊥) → Says before m u → StopsIn before (m ∷ []) u
  stops_one before m u h s = record {
    early = [];
    here = m;
    late = [];
    whole = refl;
    met = met_none before;
    unmet = λ k. h (subst (λ (z : List Moment). CanBeMet root z m) (append-nil before) k);
    says = subst (λ (z : List Moment). Says z m u) (sym (append-nil before)) s;
  }

  -- the whole walk
  pub stops_whole : (ms : List Moment) (u : Unfit) → StopsIn [] ms u → FirstUnmet root ms u
  stops_whole ms u s = record { before = s.early; here = s.here; after = s.late; whole = s.whole; met = s.met; unmet = s.unmet; says = s.says }

  pub met_is_not_unmet : (ms : List Moment) (u : Unfit) → AreMet [] ms → FirstUnmet root ms u → ⊥
  met_is_not_unmet ms u f s = s.unmet (f s.before s.after s.here s.whole)

  ask_met : (path field : List ℕ) (s : ℕ) (a : Ask) (before : List Moment) (new : Table) → Keeps (domain_of root s) (asks_of field before ++ a ∷ []) new s → CanBeMet root before (asks path field s a)
  ask_met path field s a before new k = let x = keeps_least (domain_of root s) (asks_of field before ++ a ∷ []) new s k in (x.0, x.1.answers)

  ask_stops : (path field : List ℕ) (s : ℕ) (a : Ask) (before : List Moment) (earlier : Option Ask) → Contradicted (domain_of root s) (asks_of field before) a earlier
      → StopsIn before (asks path field s a ∷ []) (record { path = path; why = conflict field earlier a })
  ask_stops path field s a before earlier c = stops_one before (asks path field s a) (record { path = path; why = conflict field earlier a }) c.never (earlier, c.because, refl)

-- Tests of constraints.

abbrev pub is_none : {A : Type 0} → List A → Bool
is_none [] = true
is_none (x ∷ xs) = false

abbrev pub tested : Event → Bool
tested (sizes sizing n) = has sizing.sizes (pos n)
tested (codes leaf x) = has leaf.set x
tested (texts leaf cs) = is_none (text_breach leaf cs)
tested (notes path s set x) = has set x
tested _ = true

none_is : (whys : List Why) → whys ≡ [] → is_none whys ≡ true
none_is [] e = refl
none_is (w ∷ whys) e = cc

some_is : (whys : List Why) → (whys ≡ [] → ⊥) → is_none whys ≡ false
some_is [] h = absurd (h refl)
some_is (w ∷ whys) h = refl

step_tested : (e : Event) (m n : State) → Step e m n → tested e ≡ true
step_tested (sizes sizing k) m n s = s.does.0
step_tested (codes leaf x) m n s = s.does.1.permitted
step_tested (texts leaf cs) m n s = none_is (text_breach leaf cs) s.does.0
step_tested (notes path t set x) m n s = s.does.permitted
step_tested (aligns a) m n s = refl
step_tested (copies bs) m n s = refl
step_tested (begins homes bs) m n s = refl
step_tested (puts width k) m n s = refl
step_tested (opens t leaf) m n s = refl
step_tested (wants path t a) m n s = refl
step_tested (fills t) m n s = refl
step_tested (enters rule) m n s = refl
step_tested (closes path sizing k) m n s = refl

both : (a b : Bool) → a ≡ true → b ≡ true → (a && b) ≡ true
both a b x y = cc

pub run_tested : (es : List Event) (m n : State) → Run es m n → list_all tested es ≡ true
run_tested [] m n r = refl
run_tested (e ∷ es) m n r = both (tested e) (list_all tested es) (step_tested e m r.0 r.1) (run_tested es r.0 n r.2)

module _ (root : Grammar) (size : ℕ) (slot_at : List ℕ → Option ℕ) where
  -- what was asked of each field that is told is kept, and the field tells its slot
  abbrev pub Hearing : Told → (before : List Moment) → Table → Type 0
  Hearing t before table = (s : ℕ) (f : List ℕ) → t s ≡ Some f → (slot_at f ≡ Some s) × Kept (domain_of root s) (asks_of f before) table s

  asks_more : (g : List ℕ) (before ms : List Moment) → asks_of g (before ++ ms) ≡ asks_of g before ++ asks_of g ms
  asks_more g before ms = flat_map-append (of_field g) before ms

  -- an ask is heard of its slot's field alone
  heard_on : (t : Told) (before : List Moment) (table : Table) → Hearing t before table → (path : List ℕ) (s : ℕ) (a : Ask) (f : List ℕ) → t s ≡ Some f → (u : ℕ) (g : List ℕ) → t u ≡ Some g → asks_of g (asks path (field_here t s) s a ∷ []) ≡ on u s a
  heard_on t before table h path s a f e u g d =
      append-nil (of_field g (asks path (field_here t s) s a)) ∙ ap (λ b. if b then a ∷ [] else []) (same_here (nat_eq s u) refl)
    where
      field_is : field_here t s ≡ f
      field_is = ap (λ (o : Option (List ℕ)). unwrap_or o []) e

      one : {x y : ℕ} → Some x ≡ Some y → x ≡ y
      one i = cc

      two : {x y : List ℕ} → Some x ≡ Some y → x ≡ y
      two i = cc

      same_here : (b : Bool) → nat_eq s u ≡ b → same_name g (field_here t s) ≡ nat_eq s u
      same_here true y =
          let i : g ≡ field_here t s = two (sym d ∙ (ap t (sym (eqb-true s u y)) ∙ e)) ∙ sym field_is in
          ap (same_name g) (sym i) ∙ (same_name-refl g ∙ sym y)
      same_here false n =
          false_from_ne_true (same_name g (field_here t s)) (λ y. (let i = ap slot_at (same_name-is g (field_here t s) y ∙ field_is) in let j = one (sym (h u g d).0 ∙ (i ∙ (h s f e).0)) in let k = ap (λ z. nat_eq z u) (sym j) ∙ eq_here u in cc)) ∙ sym n

  -- where a slot is asked
  asked_hears : (t : Told) (before ms : List Moment) (s : ℕ) (a : Ask) (old new : Table) → ((u : ℕ) (g : List ℕ) → t u ≡ Some g → asks_of g ms ≡ on u s a) → ((u : ℕ) (wanted : List Ask) → Kept (domain_of root u) wanted old u → Kept (domain_of root u) (wanted ++ on u s a) new u)
      → Hearing t before old → Hearing t (before ++ ms) new
  asked_hears t before ms s a old new heard kept h u g d =
      ((h u g d).0, subst (λ (z : List Ask). Kept (domain_of root u) z new u) (sym (asks_more g before ms ∙ ap (λ z. asks_of g before ++ z) (heard u g d))) (kept u (asks_of g before) (h u g d).1))

  -- where none is
  none_hears : (t : Told) (before ms : List Moment) (table : Table) → ((g : List ℕ) → asks_of g ms ≡ []) → Hearing t before table → Hearing t (before ++ ms) table
  none_hears t before ms table none h u g d =
      ((h u g d).0, subst (λ (z : List Ask). Kept (domain_of root u) z table u) (sym (asks_more g before ms ∙ (ap (λ z. asks_of g before ++ z) (none g) ∙ append-nil (asks_of g before)))) (h u g d).1)

  quiet_hears : (t : Told) (before : List Moment) (old new : Table) → new ≡ old → Hearing t before old → Hearing t before new
  quiet_hears t before old new e h = subst (λ (z : Table). Hearing t before z) (sym e) h

  told_new : (homes : List (ℕ × List ℕ)) (before : List Moment) (p : Mark) (t : Told) (table : Table) → AllByRecursion (λ (h : ℕ × List ℕ). (slot_at h.1 ≡ Some h.0) × (asks_of h.1 before ≡ [])) homes → AllByRecursion (λ (h : ℕ × List ℕ). p.known h.0 ≡ false) homes → ((s : ℕ) → begun table s ≡ p.known s) → Hearing t before table
      → (s : ℕ) (f : List ℕ) → told_in homes (t s) s ≡ Some f → (slot_at f ≡ Some s) × Kept (domain_of root s) (asks_of f before) table s
  told_new [] before p t table heard fresh known h s f e = h s f e
  told_new (o ∷ homes) before p t table heard fresh known h s f e = truth {F = (slot_at f ≡ Some s) × Kept (domain_of root s) (asks_of f before) table s} (nat_eq o.0 s)
      (λ y.
      let i : o.1 ≡ f = two (sym (if_yes (nat_eq o.0 s) (Some o.1) (told_in homes (t s) s) y) ∙ e) in
      let same = eqb-true o.0 s y in
      let none = known s ∙ (ap p.known (sym same) ∙ fresh.0) in (
        ap slot_at (sym i) ∙ (heard.0.0 ∙ ap Some same),
        subst (λ (z : List Ask). Kept (domain_of root s) z table s) (sym (ap (λ z. asks_of z before) (sym i) ∙ heard.0.1)) (none_kept (domain_of root s) s table none),
      ))
      (λ n. told_new homes before p t table heard.1 fresh.1 known h s f (sym (if_no (nat_eq o.0 s) (Some o.1) (told_in homes (t s) s) n) ∙ e))
    where
      two : {x y : List ℕ} → Some x ≡ Some y → x ≡ y
      two i = cc

  counts_none : (path : List ℕ) (n : ℕ) (sizing : Sizing) (ms : List Moment) (g : List ℕ) → asks_of g (counts path n sizing ∷ ms) ≡ asks_of g ms
  counts_none path n sizing ms g = refl

  -- how contents are ended: by an ask, or not
  closing_hears : (t : Told) (before : List Moment) (path : List ℕ) (sizing : Sizing) (k : ℕ) (rule : SizeRule) (m n : State) → RuleTold slot_at t rule → ((s : ℕ) → rule ≡ Slot s → begun m.table s ≡ true) → octets_in m ≡ k → Closes rule (octets_in m) (gap_of m.contents) m n → Hearing t before m.table
      → Hearing t (before ++ counts path k sizing ∷ closing_asks t path k rule) n.table
  closing_hears t before path sizing k (Slot s) m n told begun' count d h =
      let more : OneMore s (Equal (pos k)) m.table n.table = subst (λ z. OneMore s (Equal (pos z)) m.table n.table) count d.0 in
      asked_hears t before (counts path k sizing ∷ asks path (field_here t s) s (Equal (pos k)) ∷ []) s (Equal (pos k)) m.table n.table (λ u g e. heard_on t before m.table h path s (Equal (pos k)) told.0 told.1 u g e)
      (λ u wanted w. kept_one (domain_of root) s (Equal (pos k)) m.table n.table (begun' s refl) more u wanted w) h
  closing_hears t before path sizing k (Prefix low width) m n told begun' count d h = quiet_hears t (before ++ counts path k sizing ∷ []) m.table n.table (table_same (gap_of m.contents) d) (none_hears t before (counts path k sizing ∷ []) m.table (λ g. refl) h)
    where
      table_same : (o : Option Gap) → Closes (Prefix low width) (octets_in m) o m n → n.table ≡ m.table
      table_same None e = absurd e
      table_same (Some g) e = ap (λ (z : State). z.table) e
  closing_hears t before path sizing k (Ended p) m n told begun' count d h = absurd d

  slot_begun : (p : Mark) (m : State) (path : List ℕ) (sizing : Sizing) (k : ℕ) → Right root (closes path sizing k) p → Stands root size p m → (s : ℕ) → sizing.rule ≡ Slot s → begun m.table s ≡ true
  slot_begun p m path sizing k r h s e = h.known s ∙ by sizing.rule e r.closes
    where
      by : (rule : SizeRule) → rule ≡ Slot s → CanBeClosed rule p.known k (has sizing.sizes (pos k)) → p.known s ≡ true
      by (Prefix low width) e c = cc
      by (Slot t) e c = ap p.known (slot_is t e) ∙ c
        where
          slot_is : (t : ℕ) → Slot t ≡ Slot s → s ≡ t
          slot_is t e = cc
      by (Ended q) e c = cc

  pub hears_on : (e : Event) (p : Mark) (t : Told) (before : List Moment) (m n : State) → IsHeard slot_at t before e → Right root e p → Step e m n → Stands root size p m → Hearing t before m.table → Hearing (told_after e t) (before_after t e before) n.table
  hears_on (aligns a) p t before m n i r s a' h = quiet_hears t before m.table n.table (ap (λ (z : State). z.table) s.does) h
  hears_on (copies bs) p t before m n i r s a' h = quiet_hears t before m.table n.table (ap (λ (z : State). z.table) s.does) h
  hears_on (puts width k) p t before m n i r s a' h = quiet_hears t before m.table n.table (ap (λ (z : State). z.table) s.does) h
  hears_on (sizes sizing k) p t before m n i r s a' h = quiet_hears t before m.table n.table (ap (λ (z : State). z.table) s.does.1) h
  hears_on (codes leaf x) p t before m n i r s a' h = quiet_hears t before m.table n.table (ap (λ (z : State). z.table) s.does.2) h
  hears_on (texts leaf cs) p t before m n i r s a' h = quiet_hears t before m.table n.table (ap (λ (z : State). z.table) s.does.1.2) h
  hears_on (enters (Prefix low width)) p t before m n i r s a' h = quiet_hears t before m.table n.table (ap (λ (z : State). z.table) s.does) h
  hears_on (enters (Slot u)) p t before m n i r s a' h = quiet_hears t before m.table n.table (ap (λ (z : State). z.table) s.does) h
  hears_on (enters (Ended e)) p t before m n i r s a' h = quiet_hears t before m.table n.table (ap (λ (z : State). z.table) s.does) h
  hears_on (begins homes bs) p t before m n i r s a' h =
      quiet_hears (λ u. told_in homes (t u) u) before m.table n.table (ap (λ (z : State). z.table) s.does) (told_new homes before p t m.table i r a'.known h)
  hears_on (opens u leaf) p t before m n i r s a' h =
      λ v f e. ((h v f e).0, kept_opened (domain_of root) u m.table n.table (a'.known u ∙ r.fresh) (subst (λ (z : List (ℤ × ℤ)). Keeps z [] n.table u) (sym (domain_is root u leaf r.of_slot)) s.does.keeps) s.does.begun_so.others v (asks_of f before) (h v f e).1)
  hears_on (notes path u set x) p t before m n i r s a' h =
      asked_hears t before (asks path (field_here t u) u (Equal x) ∷ []) u (Equal x) m.table n.table (λ v g e. heard_on t before m.table h path u (Equal x) i.0 i.1 v g e)
      (λ v wanted w. kept_noted (domain_of root) u (Equal x) m.table n.table (a'.known u ∙ r.0) (subst (λ (z : List (ℤ × ℤ)). Keeps z (Equal x ∷ []) n.table u) (sym r.1) s.does.keeps) s.does.begun_so.others v wanted w) h
  hears_on (wants path u a) p t before m n i r s a' h =
      asked_hears t before (asks path (field_here t u) u a ∷ []) u a m.table n.table (λ v g e. heard_on t before m.table h path u a i.0 i.1 v g e)
      (λ v wanted w. kept_one (domain_of root) u a m.table n.table s.can s.does.more v wanted w) h
  hears_on (fills u) p t before m n i r s a' h =
      λ v f e. truth {F = (slot_at f ≡ Some v) × Kept (domain_of root v) (asks_of f before) n.table v} (nat_eq u v)
      (λ y. (let never = sym (if_yes (nat_eq u v) None (t v) y) ∙ e in cc))
      (λ y.
      let d = sym (if_no (nat_eq u v) None (t v) y) ∙ e in
      ((h v f d).0, subst (λ (z : List Ask). Kept (domain_of root v) z n.table v) (ap (λ b. if b then [] else asks_of f before) y) (kept_ended (domain_of root) u m.table n.table s.does.0 v (asks_of f before) (h v f d).1)))
  hears_on (closes path sizing k) p t before m n i r s a' h = closing_hears t before path sizing k sizing.rule m n i (slot_begun p m path sizing k r a') (octets_are root size p m k a' r.octets) s.does.1 h

  -- What comes to pass is met.

  asked_met : (t : Told) (before : List Moment) (path : List ℕ) (s : ℕ) (a : Ask) (f : List ℕ) (old new : Table) → t s ≡ Some f → begun old s ≡ true → OneMore s a old new → Hearing t before old → AreMet root before (asks path (field_here t s) s a ∷ [])
  asked_met t before path s a f old new e b more h =
      let is : field_here t s ≡ f = ap (λ (o : Option (List ℕ)). unwrap_or o []) e in
      subst (λ (z : List ℕ). AreMet root before (asks path z s a ∷ [])) (sym is)
      (met_one root before (asks path f s a) (ask_met root path f s a before new (more.kept (domain_of root s) (asks_of f before) (kept_keeps (domain_of root s) (asks_of f before) s old b (h s f e).1))))

  closing_met : (t : Told) (before : List Moment) (path : List ℕ) (sizing : Sizing) (k : ℕ) (rule : SizeRule) (m n : State) → RuleTold slot_at t rule → ((s : ℕ) → rule ≡ Slot s → begun m.table s ≡ true) → octets_in m ≡ k → Closes rule (octets_in m) (gap_of m.contents) m n → Hearing t before m.table
      → AreMet root (before ++ counts path k sizing ∷ []) (closing_asks t path k rule)
  closing_met t before path sizing k (Slot s) m n told begun' count d h =
      let more : OneMore s (Equal (pos k)) m.table n.table = subst (λ z. OneMore s (Equal (pos z)) m.table n.table) count d.0 in
      asked_met t (before ++ counts path k sizing ∷ []) path s (Equal (pos k)) told.0 m.table n.table told.1 (begun' s refl) more (none_hears t before (counts path k sizing ∷ []) m.table (λ g. refl) h)
  closing_met t before path sizing k (Prefix low width) m n told begun' count d h = met_none root (before ++ counts path k sizing ∷ [])
  closing_met t before path sizing k (Ended p) m n told begun' count d h = absurd d

  count_met : (before : List Moment) (path : List ℕ) (sizing : Sizing) (k : ℕ) → has sizing.sizes (pos k) ≡ true → AreMet root before (counts path k sizing ∷ [])
  count_met before path sizing k h = met_one root before (counts path k sizing) h

  pub met_on : (e : Event) (p : Mark) (t : Told) (before : List Moment) (m n : State) → IsHeard slot_at t before e → Right root e p → Step e m n → Stands root size p m → Hearing t before m.table → AreMet root before (moments_of t e)
  met_on (notes path u set x) p t before m n i r s a' h =
      let is : field_here t u ≡ i.0 = ap (λ (o : Option (List ℕ)). unwrap_or o []) i.1 in
      let keeps : Keeps (domain_of root u) (Equal x ∷ []) n.table u = subst (λ (z : List (ℤ × ℤ)). Keeps z (Equal x ∷ []) n.table u) (sym r.1) s.does.keeps in
      let none = kept_none (domain_of root u) (asks_of i.0 before) u m.table (a'.known u ∙ r.0) (h u i.0 i.1).1 in
      subst (λ (z : List ℕ). AreMet root before (asks path z u (Equal x) ∷ [])) (sym is)
      (met_one root before (asks path i.0 u (Equal x)) (ask_met root path i.0 u (Equal x) before n.table (subst (λ (z : List Ask). Keeps (domain_of root u) (z ++ Equal x ∷ []) n.table u) (sym none) keeps)))
  met_on (wants path u a) p t before m n i r s a' h = asked_met t before path u a i.0 m.table n.table i.1 s.can s.does.more h
  met_on (closes path sizing k) p t before m n i r s a' h =
      let count = octets_are root size p m k a' r.octets in
      met_then root before (counts path k sizing ∷ []) (closing_asks t path k sizing.rule) (count_met before path sizing k (subst (λ z. has sizing.sizes (pos z) ≡ true) count s.does.0))
      (closing_met t before path sizing k sizing.rule m n i (slot_begun p m path sizing k r a') count s.does.1 h)
  met_on (aligns a) p t before m n i r s a' h = met_none root before
  met_on (copies bs) p t before m n i r s a' h = met_none root before
  met_on (begins homes bs) p t before m n i r s a' h = met_none root before
  met_on (puts width k) p t before m n i r s a' h = met_none root before
  met_on (sizes sizing k) p t before m n i r s a' h = met_none root before
  met_on (codes leaf x) p t before m n i r s a' h = met_none root before
  met_on (texts leaf cs) p t before m n i r s a' h = met_none root before
  met_on (opens u leaf) p t before m n i r s a' h = met_none root before
  met_on (fills u) p t before m n i r s a' h = met_none root before
  met_on (enters rule) p t before m n i r s a' h = met_none root before

  pub all_met : (es : List Event) (p : Mark) (t : Told) (before : List Moment) (m n : State) → AllHeard slot_at t before es → AllRight root es p → Run es m n → Stands root size p m → Hearing t before m.table → AreMet root before (all_moments t es)
  all_met [] p t before m n i r s a h = met_none root before
  all_met (e ∷ es) p t before m n i r s a h =
      met_then root before (moments_of t e) (all_moments (told_after e t) es) (met_on e p t before m s.0 i.0 r.0 s.1 a h)
      (subst (λ (z : List Moment). AreMet root z (all_moments (told_after e t) es)) (before_one e t before)
      (all_met es (marked e p) (told_after e t) (before_after t e before) s.0 n i.1 r.1 s.2 (stands_on root size e p m s.0 r.0 s.1 a) (hears_on e p t before m s.0 i.0 r.0 s.1 a h)))

  -- A stop is the first moment that can't be met, or a constraint that isn't met.

  abbrev pub Means : (c : Class) → List Event → Told → (before : List Moment) → Halt → Type 0
  Means c es t before breaks = list_all tested es ≡ false
  Means c es t before (unmet path s earlier wanted) = (field : List ℕ) × (slot_at field ≡ Some s) × StopsIn root before (all_moments t es) (record { path = path; why = conflict field earlier wanted })
  Means c es t before (miscounts path k) = StopsIn root before (all_moments t es) (record { path = path; why = content_size k })
  Means c es t before full = Unit {0}
  Means c es t before lost = ⊥

  vain_stops : (t : Told) (before : List Moment) (path : List ℕ) (s : ℕ) (a : Ask) (f : List ℕ) (m : State) (earlier : Option Ask) → t s ≡ Some f → AsksInVain s a m earlier → Hearing t before m.table
      → (field : List ℕ) × (slot_at field ≡ Some s) × StopsIn root before (asks path (field_here t s) s a ∷ []) (record { path = path; why = conflict field earlier a })
  vain_stops t before path s a f m earlier e v h =
      let is : field_here t s ≡ f = ap (λ (o : Option (List ℕ)). unwrap_or o []) e in (
        f,
        (h s f e).0,
        subst (λ (z : List ℕ). StopsIn root before (asks path z s a ∷ []) (record { path = path; why = conflict f earlier a })) (sym is)
            (ask_stops root path f s a before earlier (v.refuses (domain_of root s) (asks_of f before) (kept_keeps (domain_of root s) (asks_of f before) s m.table v.is_begun (h s f e).1))),
      )

  front_means : (t : Told) (before a b : List Moment) (path : List ℕ) (s : ℕ) (earlier : Option Ask) (wanted : Ask) → (field : List ℕ) × (slot_at field ≡ Some s) × StopsIn root before a (record { path = path; why = conflict field earlier wanted })
      → (field : List ℕ) × (slot_at field ≡ Some s) × StopsIn root before (a ++ b) (record { path = path; why = conflict field earlier wanted })
  front_means t before a b path s earlier wanted v = (v.0, v.1, stops_front root before a b (record { path = path; why = conflict v.0 earlier wanted }) v.2)

  closing_stops : (t : Told) (before : List Moment) (path : List ℕ) (sizing : Sizing) (k : ℕ) (rule : SizeRule) (m : State) (allowed : Bool) (u : ℕ) (earlier : Option Ask) (wanted : Ask) → RuleTold slot_at t rule → octets_in m ≡ k → allowed ≡ has sizing.sizes (pos (octets_in m)) → ClosesInVain rule (octets_in m) allowed m u earlier wanted → Hearing t before m.table
      → (field : List ℕ) × (slot_at field ≡ Some u) × StopsIn root before (counts path k sizing ∷ closing_asks t path k rule) (record { path = path; why = conflict field earlier wanted })
  closing_stops t before path sizing k (Slot s) m allowed u earlier wanted told count is v h =
      let vain : AsksInVain s (Equal (pos k)) m earlier = subst (λ z. AsksInVain s (Equal (pos z)) m earlier) count v.3 in
      let one = vain_stops t (before ++ counts path k sizing ∷ []) path s (Equal (pos k)) told.0 m earlier told.1 vain (none_hears t before (counts path k sizing ∷ []) m.table (λ g. refl) h) in
      let ok : has sizing.sizes (pos k) ≡ true = subst (λ z. has sizing.sizes (pos z) ≡ true) count (sym is ∙ v.2) in
      let same : wanted ≡ Equal (pos k) = v.1 ∙ ap (λ z. Equal (pos z)) count in (
        one.0,
        one.1 ∙ ap Some (sym v.0),
        subst (λ (z : Ask). StopsIn root before (counts path k sizing ∷ asks path (field_here t s) s (Equal (pos k)) ∷ []) (record { path = path; why = conflict one.0 earlier z })) (sym same)
            (stops_then root before (counts path k sizing ∷ []) (asks path (field_here t s) s (Equal (pos k)) ∷ []) (record { path = path; why = conflict one.0 earlier (Equal (pos k)) }) (count_met before path sizing k ok) one.2),
      )
  closing_stops t before path sizing k (Prefix low width) m allowed u earlier wanted told count is v h = absurd v
  closing_stops t before path sizing k (Ended p) m allowed u earlier wanted told count is v h = absurd v

  first_false : (a b : Bool) → a ≡ false → (a && b) ≡ false
  first_false a b e = cc

  second_false : (a b : Bool) → b ≡ false → (a && b) ≡ false
  second_false true b e = e
  second_false false b e = refl

  -- an event that halts

  break_means : (c : Class) (e : Event) (es : List Event) (t : Told) (before : List Moment) → Breaks e → Means c (e ∷ es) t before breaks
  break_means c (sizes sizing n) es t before v = first_false (has sizing.sizes (pos n)) (list_all tested es) v
  break_means c (codes leaf x) es t before v = first_false (has leaf.set x) (list_all tested es) v
  break_means c (texts leaf cs) es t before v = first_false (is_none (text_breach leaf cs)) (list_all tested es) (some_is (text_breach leaf cs) v)
  break_means c (notes path s set x) es t before v = first_false (has set x) (list_all tested es) v
  break_means c _ es t before v = absurd v

  ask_means : (c : Class) (e : Event) (es : List Event) (p : Mark) (t : Told) (before : List Moment) (m : State) (at : List ℕ) (u : ℕ) (earlier : Option Ask) (wanted : Ask) → IsHeard slot_at t before e → Right root e p → Stands root size p m → Hearing t before m.table → Unmeets e m at u earlier wanted
      → Means c (e ∷ es) t before (unmet at u earlier wanted)
  ask_means c (wants path s b) es p t before m at u earlier wanted i r a k v =
      subst (λ (z : List ℕ). Means c (wants path s b ∷ es) t before (unmet z u earlier wanted)) (sym v.0)
      (subst (λ (z : ℕ). Means c (wants path s b ∷ es) t before (unmet path z earlier wanted)) (sym v.1)
      (subst (λ (z : Ask). Means c (wants path s b ∷ es) t before (unmet path s earlier z)) (sym v.2)
      (front_means t before (asks path (field_here t s) s b ∷ []) (all_moments t es) path s earlier b (vain_stops t before path s b i.0 m earlier i.1 v.3 k))))
  ask_means c (closes path sizing n) es p t before m at u earlier wanted i r a k v =
      subst (λ (z : List ℕ). Means c (closes path sizing n ∷ es) t before (unmet z u earlier wanted)) (sym v.0)
      (front_means t before (counts path n sizing ∷ closing_asks t path n sizing.rule) (all_moments t es) path u earlier wanted
      (closing_stops t before path sizing n sizing.rule m (has sizing.sizes (pos (octets_in m))) u earlier wanted i (octets_are root size p m n a r.octets) refl v.1 k))
  ask_means c _ es p t before m at u earlier wanted i r a k v = absurd v

  count_means : (c : Class) (e : Event) (es : List Event) (p : Mark) (t : Told) (before : List Moment) (m : State) (at : List ℕ) (j : ℕ) → Right root e p → Stands root size p m → Miscounts e m at j → Means c (e ∷ es) t before (miscounts at j)
  count_means c (closes path sizing n) es p t before m at j r a v =
      let count : j ≡ n = v.1 ∙ octets_are root size p m n a r.octets in
      let bad : has sizing.sizes (pos n) ≡ false = subst (λ z. has sizing.sizes (pos z) ≡ false) count v.2 in
      subst (λ (z : List ℕ). Means c (closes path sizing n ∷ es) t before (miscounts z j)) (sym v.0)
      (subst (λ z. Means c (closes path sizing n ∷ es) t before (miscounts path z)) (sym count)
      (stops_front root before (counts path n sizing ∷ []) (closing_asks t path n sizing.rule ++ all_moments t es) (record { path = path; why = content_size n })
      (stops_one root before (counts path n sizing) (record { path = path; why = content_size n }) (λ h. never (has sizing.sizes (pos n)) h bad) refl)))
    where
      never : (b : Bool) → b ≡ true → b ≡ false → ⊥
      never b x y = cc
  count_means c _ es p t before m at j r a v = absurd v

  halt_means : WidthsAreLengths → (c : Class) (e : Event) (es : List Event) (p : Mark) (t : Told) (before : List Moment) (m : State) (h : Halt) → IsHeard slot_at t before e → Right root e p → reach p + size_of e p.at ≤ size → Stands root size p m → Hearing t before m.table → Halts c e m h → Means c (e ∷ es) t before h
  halt_means widths c e es p t before m breaks i r l a k v = break_means c e es t before v
  halt_means widths c e es p t before m (unmet at u earlier wanted) i r l a k v = ask_means c e es p t before m at u earlier wanted i r a k v
  halt_means widths c e es p t before m (miscounts at j) i r l a k v = count_means c e es p t before m at j r a v
  halt_means widths c e es p t before m full i r l a k v = tt
  halt_means widths c e es p t before m lost i r l a k v = v (comes root size widths e p m r l a)

  later_means : (c : Class) (e : Event) (es : List Event) (t : Told) (before : List Moment) (h : Halt) → AreMet root before (moments_of t e) → Means c es (told_after e t) (before_after t e before) h → Means c (e ∷ es) t before h
  later_means c e es t before breaks f v = second_false (tested e) (list_all tested es) v
  later_means c e es t before (unmet path s earlier wanted) f v =
      (v.0, v.1, stops_then root before (moments_of t e) (all_moments (told_after e t) es) (record { path = path; why = conflict v.0 earlier wanted }) f (subst (λ (z : List Moment). StopsIn root z (all_moments (told_after e t) es) (record { path = path; why = conflict v.0 earlier wanted })) (before_one e t before) v.2))
  later_means c e es t before (miscounts path k) f v =
      stops_then root before (moments_of t e) (all_moments (told_after e t) es) (record { path = path; why = content_size k }) f (subst (λ (z : List Moment). StopsIn root z (all_moments (told_after e t) es) (record { path = path; why = content_size k })) (before_one e t before) v)
  later_means c e es t before full f v = tt
  later_means c e es t before lost f v = v

  pub stop_means : WidthsAreLengths → (c : Class) (es : List Event) (p : Mark) (t : Told) (before : List Moment) (m n : State) (h : Halt) → AllHeard slot_at t before es → AllRight root es p → reach (ends es p) ≤ size → Stands root size p m → Hearing t before m.table → Stops c es m n h → Means c es t before h
  stop_means widths c [] p t before m n h i r l a k s = absurd s
  stop_means widths c (e ∷ es) p t before m n h i r l a k (inl s) =
      let one = moved_by e p root r.0 in
      let rest = reach_grows root es (marked e p) r.1 in
      halt_means widths c e es p t before m h i.0 r.0 (omega (arith, one, rest, l)) a k s.1
  stop_means widths c (e ∷ es) p t before m n h i r l a k (inr s) =
      later_means c e es t before h (met_on e p t before m s.0 i.0 r.0 s.1 a k)
      (stop_means widths c es (marked e p) (told_after e t) (before_after t e before) s.0 n h i.1 r.1 l (stands_on root size e p m s.0 r.0 s.1 a) (hears_on e p t before m s.0 i.0 r.0 s.1 a k) s.2)
