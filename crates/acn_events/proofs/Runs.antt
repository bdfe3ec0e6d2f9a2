-- What it means for the whole value that its events run, or that they stop.
use Rattle.std.proofs.Common.{◌≡◌, ℕ, Bool, true, false, List, [], ◌∷◌, ◌++◌, length, Option, Some, None, refl, sym, ap, ◌∙◌, subst, arith, append-nil, inl, inr}
use Rattle.std.specs.Prelude.{◌⊎◌}
use Rattle.std.specs.List.{AllByRecursion, list_all}
use Rattle.acn_grammar.specs.Asks.{Ask, Moment, asks, counts, moments}
use Rattle.acn_grammar.specs.Front.{IsWritten}
use Rattle.acn_grammar.specs.Grammar.{Grammar, Data}
use Rattle.acn_grammar.specs.Meets.{Unfit, breaches, first_of, conflict, content_size}
use Rattle.acn_grammar.specs.Refused.{FirstUnmet, RefusedAfter, Refused, Says}
use Rattle.acn_packet_laws.specs.Laws.{AcceptedIsSound, EachOccurrenceAsks, EachValueIsWrittenOrRefused, FieldsTellTheirSlots, IsAccepted, KnownBehind, NamesItsSlot, TellsSlots, WidthsAreLengths}
use Rattle.acn_events.specs.Event.{Halt, breaks, unmet, miscounts, full, lost}
use Rattle.acn_events.specs.Events.{events}
use Rattle.acn_events.specs.Laws.{EventsAreInOrder, first_state, empty_table, RunsAreWritable, IsRefused, StopsAreRefusals}
use Rattle.acn_events.specs.Located.{field_at}
use Rattle.acn_events.specs.Marks.{first_mark, depth_of, ends}
use Rattle.acn_events.proofs.Heard.{Told, Listens, all_moments, node_listens}
use Rattle.acn_events.proofs.Judging.{Hearing, Means, AreMet, StopsIn, all_met, is_none, met_is_not_unmet, run_tested, stop_means, stops_whole, tested}
use Rattle.acn_events.proofs.Located.{IsLocated, all_located}
use Rattle.acn_events.proofs.Standing.{first_stands}
use Rattle.acn_events.proofs.Tested.{node_pass}

abbrev pub first_told : Told
first_told s = None

first_hearing : (root : Grammar) (size : ℕ) (slot_at : List ℕ → Option ℕ) → Hearing root size slot_at first_told [] empty_table
first_hearing root size slot_at s f e = cc

pub whole_listens : AcceptedIsSound → (root : Grammar) (slot_at : List ℕ → Option ℕ) (d : Data) (a : IsAccepted root) → (tells : TellsSlots root slot_at) → (behind : KnownBehind) (occurs : EachOccurrenceAsks)
    → Listens root slot_at d a.formed occurs tells behind [] (events root root [] d) first_told [] (moments root root [] [] d)
whole_listens sound root slot_at d a tells behind occurs =
    node_listens root slot_at d a.formed occurs tells behind root 0 [] (λ t. false) (sound root a) (λ s e. never e) [] first_told
    (record { told = λ s e. never e; slots = λ s e. never e; none = λ s e. refl }) [] d (λ r q e. e) [] ([], sym (append-nil (moments root root [] [] d)))
  where
    never : {A : Type 0} → false ≡ true → A
    never e = cc

abbrev record_of_unfit : (path field : List ℕ) → (earlier : Option Ask) → (wanted : Ask) → Unfit
record_of_unfit path field earlier wanted = record { path = path; why = conflict field earlier wanted }

conflict_field : (f g : List ℕ) (e c : Option Ask) (a b : Ask) → conflict f e a ≡ conflict g c b → f ≡ g
conflict_field f g e c a b i = cc

no_conflict : (f : List ℕ) (e : Option Ask) (a : Ask) (n : ℕ) → conflict f e a ≡ content_size n → ⊥
no_conflict f e a n i = cc

none_left : (us : List Unfit) → is_none us ≡ true → us ≡ []
none_left [] e = refl
none_left (u ∷ us) e = cc

not_refused : (root : Grammar) (d : Data) (u : Unfit) → breaches [] root d ≡ [] → AreMet root [] (moments root root [] [] d) → Refused root d u → ⊥
not_refused root d u none met r = met_is_not_unmet root (moments root root [] [] d) u met (subst (λ (z : List Unfit). RefusedAfter root (first_of z) d u) none r)

pub runs_writable : AcceptedIsSound → KnownBehind → EachOccurrenceAsks → FieldsTellTheirSlots → EachValueIsWrittenOrRefused → EventsAreInOrder → RunsAreWritable
runs_writable sound behind occurs tell written order root d buf m accepted shaped run =
    let t = tell root accepted in
    let l = whole_listens sound root t.0 d accepted t.1 behind occurs in
    let r = (order root d accepted shaped).right in
    let met = all_met root (length buf) t.0 (events root root [] d) first_mark first_told [] (first_state buf) m l.heard r run (first_stands root buf) (first_hearing root (length buf) t.0) in
    let all : AreMet root [] (moments root root [] [] d) = subst (λ (z : List Moment). AreMet root [] z) l.says met in
    let none = none_left (breaches [] root d) (sym (node_pass root root 0 [] (λ s. false) (sound root accepted) [] d) ∙ run_tested (events root root [] d) (first_state buf) m run) in
    by none all (written root d accepted shaped)
  where
    by : breaches [] root d ≡ [] → AreMet root [] (moments root root [] [] d) → ((bs : List Bool) × IsWritten root d bs) ⊎ ((u : Unfit) × Refused root d u) → (bs : List Bool) × IsWritten root d bs
    by none all (inl w) = w
    by none all (inr u) = absurd (not_refused root d u.0 none all u.1)

refused_for : (root : Grammar) (d : Data) (u : Unfit) (ms : List Moment) → breaches [] root d ≡ [] → ms ≡ moments root root [] [] d → StopsIn root [] ms u → Refused root d u
refused_for root d u ms none e s = subst (λ (z : List Unfit). RefusedAfter root (first_of z) d u) (sym none) (subst (λ (z : List Moment). FirstUnmet root z u) e (stops_whole root ms u s))

-- The field of the slot that is asked where the walk stops is found along the path.

pick : {A : Type 0} (P : A → Type 0) (xs early late : List A) (x : A) → xs ≡ early ++ x ∷ late → AllByRecursion P xs → P x
pick P [] [] late x e a = cc
pick P [] (y ∷ early) late x e a = cc
pick P (z ∷ xs) [] late x e a = let h : z ≡ x = cc in subst P h a.0
pick P (z ∷ xs) (y ∷ early) late x e a = let h : xs ≡ early ++ x ∷ late = cc in pick P xs early late x h a.1

stop_located : (root : Grammar) (slot_at : List ℕ → Option ℕ) (d : Data) (path field : List ℕ) (s : ℕ) (earlier : Option Ask) (wanted : Ask) → slot_at field ≡ Some s → AllByRecursion (NamesItsSlot slot_at) (moments root root [] [] d)
    → StopsIn root [] (moments root root [] [] d) (record { path = path; why = conflict field earlier wanted }) → field ≡ field_at root path s
stop_located root slot_at d path field s earlier wanted slot names stop =
    by stop.here (pick (NamesItsSlot slot_at) (moments root root [] [] d) stop.early stop.late stop.here stop.whole names) (pick (IsLocated root) (moments root root [] [] d) stop.early stop.late stop.here stop.whole (all_located root d)) stop.says
  where
    one : {x y : ℕ} → Some x ≡ Some y → x ≡ y
    one e = cc

    field_is : (p q f g : List ℕ) (e c : Option Ask) (a b : Ask) → record_of_unfit p f e a ≡ record_of_unfit q g c b → (p ≡ q) × (f ≡ g)
    field_is p q f g e c a b i = (ap (λ (u : Unfit). u.path) i, conflict_field f g e c a b (ap (λ (u : Unfit). u.why) i))

    by : (m : Moment) → NamesItsSlot slot_at m → IsLocated root m → Says ([] ++ stop.early) m (record { path = path; why = conflict field earlier wanted }) → field ≡ field_at root path s
    by (asks p f u a) named found says =
        let i = field_is path p field f earlier says.0 wanted a says.2 in
        let same : u ≡ s = one (sym named ∙ (ap slot_at (sym i.1) ∙ slot)) in
        i.1 ∙ (found ∙ (ap (λ z. field_at root z u) (sym i.0) ∙ ap (field_at root path) same))
    by (counts p n sizing) named found says = absurd (no_conflict field earlier wanted n (ap (λ (u : Unfit). u.why) says))

pub stops_refused : AcceptedIsSound → KnownBehind → EachOccurrenceAsks → FieldsTellTheirSlots → WidthsAreLengths → EventsAreInOrder → StopsAreRefusals
stops_refused sound behind occurs tell widths order c root d buf n h accepted meets room stop =
    let t = tell root accepted in
    let l = whole_listens sound root t.0 d accepted t.1 behind occurs in
    let o = order root d accepted meets.shaped in
    let q = ends (events root root [] d) first_mark in
    let at = o.at_end in
    let outer = ap depth_of o.outermost in
    let pass : list_all tested (events root root [] d) ≡ true = node_pass root root 0 [] (λ s. false) (sound root accepted) [] d ∙ ap is_none meets.none in
    by h pass l.says (stop_means root (length buf) t.0 widths c (events root root [] d) first_mark first_told [] (first_state buf) n h l.heard o.right (omega (arith, room, at, outer)) (first_stands root buf) (first_hearing root (length buf) t.0) stop)
  where
    by : (h : Halt) → list_all tested (events root root [] d) ≡ true → all_moments first_told (events root root [] d) ≡ moments root root [] [] d → Means root (length buf) (tell root accepted).0 c (events root root [] d) first_told [] h → IsRefused root d h
    by breaks pass e v = cc
    by (unmet path s earlier wanted) pass e v =
        let t = tell root accepted in
        let here = subst (λ (z : List Moment). StopsIn root [] z (record { path = path; why = conflict v.0 earlier wanted })) e v.2 in
        let field = stop_located root t.0 d path v.0 s earlier wanted v.1 (t.1.asked d) here in
        subst (λ (z : List ℕ). Refused root d (record { path = path; why = conflict z earlier wanted })) field
        (refused_for root d (record { path = path; why = conflict v.0 earlier wanted }) (all_moments first_told (events root root [] d)) meets.none e v.2)
    by (miscounts path k) pass e v = refused_for root d (record { path = path; why = content_size k }) (all_moments first_told (events root root [] d)) meets.none e v
    by full pass e v = tt
    by lost pass e v = v
