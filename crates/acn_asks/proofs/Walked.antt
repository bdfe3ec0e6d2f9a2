-- One more moment: whether it can be met, and what is heard then.
use Rattle.std.proofs.Common.{◌≡◌, ℕ, ℤ, pos, true≢false, Bool, true, false, List, [], ◌∷◌, ◌++◌, Option, Some, None, refl, sym, ap, ◌∙◌, subst, inl, inr, append_assoc, if◌then◌else◌}
use Rattle.std.specs.Prelude.{◌⊎◌, option_map}
use Rattle.std.proofs.lemmas.List.{append-nil}
use Rattle.acn_grammar.specs.Asks.{Ask, Moment, asks, counts, same_name}
use Rattle.acn_grammar.specs.AsksOn.{Meetable}
use Rattle.acn_grammar.specs.Faults.{ask_of}
use Rattle.acn_grammar.specs.Grammar.{Grammar}
use Rattle.acn_grammar.specs.Refused.{CanBeMet, FirstUnmet, of_field, asks_of}
use Rattle.acn_grammar.specs.Slots.{domain_of}
use Rattle.acn_grammar.proofs.Characters.{same_name-is, same_name-refl}
use Rattle.acn_grammar.specs.Meets.{content_size}
use Rattle.acn_grammar.specs.declared.node.Sizing.{Sizing}
use Rattle.acn_num.specs.Ranges.{has}
use Rattle.acn_asks.specs.Heard.{Hears, IsKept, Declines, kept_of}
use Rattle.acn_asks.specs.Judged.{Judged, FirstConflict, JudgesOneMore}
use Rattle.acn_asks.specs.declared.asked.Asked.{Asked}
use Rattle.acn_asks.specs.declared.asked.Unmet.{Unmet}
use Rattle.acn_asks.specs.declared.asked.Unmet.TheVariants.{Conflict, NoMemory}
use Rattle.acn_asks.proofs.Fields.{turned}

-- what was asked of a field, with one moment more
asks_joined : (field : List ℕ) (ms ns : List Moment) → asks_of field (ms ++ ns) ≡ asks_of field ms ++ asks_of field ns
asks_joined field [] ns = refl
asks_joined field (m ∷ ms) ns = ap (λ l. of_field field m ++ l) (asks_joined field ms ns) ∙ sym (append_assoc (of_field field m) (asks_of field ms) (asks_of field ns))

if_true : {A : Type 0} (b : Bool) (x y : A) → b ≡ true → (if b then x else y) ≡ x
if_true b x y h = ap (λ c. if c then x else y) h

if_false : {A : Type 0} (b : Bool) (x y : A) → b ≡ false → (if b then x else y) ≡ y
if_false b x y h = ap (λ c. if c then x else y) h

asks_here : (field path : List ℕ) (s : ℕ) (w : Ask) (before : List Moment) → asks_of field (before ++ asks path field s w ∷ []) ≡ asks_of field before ++ w ∷ []
asks_here field path s w before =
    asks_joined field before (asks path field s w ∷ []) ∙ ap (λ l. asks_of field before ++ (l ++ [])) (if_true (same_name field field) (w ∷ []) [] (same_name-refl field))

asks_there : (field other path : List ℕ) (s : ℕ) (w : Ask) (before : List Moment) → same_name other field ≡ false → asks_of other (before ++ asks path field s w ∷ []) ≡ asks_of other before
asks_there field other path s w before h =
    asks_joined other before (asks path field s w ∷ []) ∙ (ap (λ l. asks_of other before ++ (l ++ [])) (if_false (same_name other field) (w ∷ []) [] h) ∙ append-nil (asks_of other before))

-- Moments with one more behind them.

abbrev Met : Grammar → List Moment → Type 0
Met root ms = (early late : List Moment) (m : Moment) → ms ≡ early ++ m ∷ late → CanBeMet root early m

-- a moment of a list with one more behind it is that one, behind all others, or one of the others
split_last : (ms : List Moment) (x m : Moment) (early late : List Moment) → ms ++ x ∷ [] ≡ early ++ m ∷ late → ((m ≡ x) × (early ≡ ms)) ⊎ ((rest : List Moment) × (ms ≡ early ++ m ∷ rest))
split_last [] x m [] late e = inl (cc, refl)
split_last [] x m (y ∷ []) late e = absurd (nothing late e)
  where
    nothing : (late : List Moment) → x ∷ [] ≡ y ∷ m ∷ late → ⊥
    nothing late e = cc
split_last [] x m (y ∷ z ∷ early) late e = absurd (nothing late e)
  where
    nothing : (late : List Moment) → x ∷ [] ≡ y ∷ z ∷ (early ++ m ∷ late) → ⊥
    nothing late e = cc
split_last (a ∷ ms) x m [] late e = inr (ms, cc)
split_last (a ∷ ms) x m (y ∷ early) late e = later a y ms x m early (split_last ms x m early late cc) cc
  where
    later : (a y : Moment) (ms : List Moment) (x m : Moment) (early : List Moment) → ((m ≡ x) × (early ≡ ms)) ⊎ ((rest : List Moment) × (ms ≡ early ++ m ∷ rest)) → a ≡ y
        → ((m ≡ x) × (y ∷ early ≡ a ∷ ms)) ⊎ ((rest : List Moment) × (a ∷ ms ≡ (y ∷ early) ++ m ∷ rest))
    later a y ms x m early (inl h) same = inl (h.0, cc)
    later a y ms x m early (inr h) same = inr (h.0, let e = h.1 in cc)

met_more : (root : Grammar) (ms : List Moment) (x : Moment) → Met root ms → CanBeMet root ms x → Met root (ms ++ x ∷ [])
met_more root ms x met can early late m e = by (split_last ms x m early late e)
  where
    by : ((m ≡ x) × (early ≡ ms)) ⊎ ((rest : List Moment) × (ms ≡ early ++ m ∷ rest)) → CanBeMet root early m
    by (inl h) = subst (λ l. CanBeMet root l m) (sym h.1) (subst (λ n. CanBeMet root ms n) (sym h.0) can)
    by (inr h) = met early h.0 m h.1

-- what is kept can be met
meetable : (set : List (ℤ × ℤ)) (wanted : List Ask) (w : Ask) (o : Option Asked) → IsKept set (wanted ++ w ∷ []) o → Meetable set (wanted ++ w ∷ [])
meetable set wanted w None h = absurd (some wanted h)
  where
    some : (wanted : List Ask) → wanted ++ w ∷ [] ≡ [] → ⊥
    some [] e = cc
    some (a ∷ wanted) e = cc
meetable set wanted w (Some k) h = (k.least, h.answer.answers)

pub judged_more : (set : List (ℤ × ℤ)) (old new : List (List ℕ × Asked)) (field : List ℕ) (w : Ask)
    → ((before : List Ask) → Hears set before old field → Hears set (before ++ w ∷ []) new field)
    → ((other : List ℕ) → same_name field other ≡ false → kept_of other new ≡ kept_of other old)
    → JudgesOneMore set old new field w
judged_more set old new field w kept others root slot_at path s before is at j =
    let m = asks path field s w in
    let heard : Hears set (asks_of field before) old field = subst (λ d. Hears d (asks_of field before) old field) (sym is) (j.hears field s at) in
    let now = kept (asks_of field before) heard in
    record {
      met = met_more root before m j.met (subst (λ d. Meetable d (asks_of field before ++ w ∷ [])) is (meetable set (asks_of field before) w (kept_of field new) now));
      hears = λ other t at'. by other t at' (same_name field other) refl now;
    }
  where
    same_slot : (x y : ℕ) → Some x ≡ Some y → x ≡ y
    same_slot x y e = cc

    by : (other : List ℕ) (t : ℕ) → slot_at other ≡ Some t → (b : Bool) → same_name field other ≡ b → Hears set (asks_of field before ++ w ∷ []) new field
        → Hears (domain_of root t) (asks_of other (before ++ asks path field s w ∷ [])) new other
    by other t at' true e now =
        let same = same_name-is field other e in
        let slots = same_slot s t (sym at ∙ (ap slot_at same ∙ at')) in
        let here = subst (λ l. Hears set l new field) (sym (asks_here field path s w before)) now in
        let domain = is ∙ ap (domain_of root) slots in
        let there = subst (λ d. Hears d (asks_of field (before ++ asks path field s w ∷ [])) new field) domain here in
        subst (λ f. Hears (domain_of root t) (asks_of f (before ++ asks path field s w ∷ [])) new f) same there
    by other t at' false e now =
        let apart = asks_there field other path s w before (turned field other (same_name other field) e refl) in
        let was = j.hears other t at' in
        let kept' = subst (λ o. IsKept (domain_of root t) (asks_of other before) o) (sym (others other e)) was in
        subst (λ l. IsKept (domain_of root t) l (kept_of other new)) (sym apart) kept'

pub first_conflict : (set : List (ℤ × ℤ)) (old : List (List ℕ × Asked)) (field : List ℕ) (w : Ask) (u : Unmet) → Declines set old field w u → FirstConflict set old field w u
first_conflict set old field w (Conflict earlier) h = λ root slot_at path s before more is at j.
    let heard : Hears set (asks_of field before) old field = subst (λ d. Hears d (asks_of field before) old field) (sym is) (j.hears field s at) in
    let no = h (asks_of field before) heard in
    record {
      before = before;
      here = asks path field s w;
      after = more;
      whole = refl;
      met = j.met;
      unmet = λ m. no.never (subst (λ d. Meetable d (asks_of field before ++ w ∷ [])) (sym is) m);
      says = (option_map ask_of earlier, no.because, refl);
    }
first_conflict set old field w NoMemory h = tt

pub judged_none : (root : Grammar) (slot_at : List ℕ → Option ℕ) (heard : List (List ℕ × Asked)) → heard ≡ [] → Judged root slot_at [] heard
judged_none root slot_at heard e = record {
  met = λ early late m h. absurd (nothing early late m h);
  hears = λ field s at. subst (λ l. Hears (domain_of root s) [] l field) (sym e) refl;
}
  where
    nothing : (early late : List Moment) (m : Moment) → [] ≡ early ++ m ∷ late → ⊥
    nothing [] late m e = cc
    nothing (x ∷ early) late m e = cc

-- Contents that show their count.

asks_counted : (field path : List ℕ) (n : ℕ) (sizing : Sizing) (before : List Moment) → asks_of field (before ++ counts path n sizing ∷ []) ≡ asks_of field before
asks_counted field path n sizing before = asks_joined field before (counts path n sizing ∷ []) ∙ append-nil (asks_of field before)

pub judged_count : (root : Grammar) (slot_at : List ℕ → Option ℕ) (path : List ℕ) (n : ℕ) (sizing : Sizing) (before : List Moment) (heard : List (List ℕ × Asked)) → has sizing.sizes (pos n) ≡ true
    → Judged root slot_at before heard → Judged root slot_at (before ++ counts path n sizing ∷ []) heard
judged_count root slot_at path n sizing before heard h j = record {
  met = met_more root before (counts path n sizing) j.met h;
  hears = λ field s at. subst (λ l. Hears (domain_of root s) l heard field) (sym (asks_counted field path n sizing before)) (j.hears field s at);
}

pub first_count : (root : Grammar) (slot_at : List ℕ → Option ℕ) (path : List ℕ) (n : ℕ) (sizing : Sizing) (before more : List Moment) (heard : List (List ℕ × Asked)) → has sizing.sizes (pos n) ≡ false
    → Judged root slot_at before heard → FirstUnmet root (before ++ counts path n sizing ∷ more) (record { path = path; why = content_size n })
first_count root slot_at path n sizing before more heard h j = record {
  before = before;
  here = counts path n sizing;
  after = more;
  whole = refl;
  met = j.met;
  unmet = λ m. true≢false (sym m ∙ h);
  says = refl;
}
