-- Places that are filled turn by turn.
use Rattle.std.proofs.Common.{◌≡◌, ℕ, zero, suc, ◌+◌, ◌<◌, ◌≤◌, Bool, true, false, List, [], ◌∷◌, ◌++◌, length, get_or, set, take, drop, Option, Some, None, option_map, refl, sym, ap, subst, ◌∙◌, arith}
use Rattle.std.proofs.lemmas.Bool.{and_parts}
use Rattle.std.proofs.lemmas.List.{take_more, take_all}
use Rattle.serde_json.specs.Data.{Members, no_members}
use Rattle.serde_json.specs.Written.{compact_text, comma_if, members_text}
use Rattle.acn_grammar.specs.Grammar.{Fields, Data, Places, no_fields, component, inserted, no_places, empty, filled}
use Rattle.acn_grammar.specs.Shaped.{may_be_absent, fields_fit}
use Rattle.acn_grammar.specs.View.{OneField, a_component, an_inserted, data_of, places_view}
use Rattle.acn_grammar.specs.declared.value.Value.{Value}
use Rattle.acn_json.specs.RoundTrip.{PlacesCanBeSaid}
use Rattle.acn_lines.specs.Filled.{IsFieldRead, IsPlaceRead, IsMet, AreFilled, IsTurnRead}
use Rattle.acn_lines.specs.Order.{field_at, place_at, place_of, member_at, in_order, field_json, HasKey, Elsewhere, AreApart}
use Rattle.acn_lines.specs.Taken.{component_count, no_values, is_whole}
use Rattle.acn_lines.specs.declared.turns.Turn.{Turn}
use Rattle.acn_lines.proofs.GoingOn.{member-text}
use Rattle.acn_lines.proofs.Parts.{no-turn}

-- Values of components.

pub whole-fits : (fs : Fields) (ps : Places) → AreFilled fs ps → is_whole fs ps ≡ true → (fields_fit fs ps ≡ true) × PlacesCanBeSaid ps
whole-fits no_fields no_places f w = (refl, tt)
whole-fits no_fields (empty ps) f w = absurd f
whole-fits no_fields (filled d ps) f w = absurd f
whole-fits (component name g presence default own fs) no_places f w = absurd f
whole-fits (component name g presence default own fs) (empty ps) f w =
    let p = and_parts (may_be_absent presence) (is_whole fs ps) w in
    let r = whole-fits fs ps f p.1 in
    (rw (p.0, r.0) refl, r.1)
whole-fits (component name g presence default own fs) (filled d ps) f w =
    let r = whole-fits fs ps f.2 w in
    (rw (f.0, r.0) refl, (f.1, r.1))
whole-fits (inserted name g slot fs) ps f w = whole-fits fs ps f w

-- Places.

pub keyed-within : (fs : Fields) (k : ℕ) (key : List ℕ) → HasKey (field_at fs k) key → place_of fs k < component_count fs
keyed-within no_fields k key h = absurd h
keyed-within (component name g presence default own fs) zero key h = omega arith
keyed-within (component name g presence default own fs) (suc k) key h = (let rest = keyed-within fs k key h in omega arith)
keyed-within (inserted name g slot fs) zero key h = absurd h
keyed-within (inserted name g slot fs) (suc k) key h = keyed-within fs k key h

same_place : (ps : List (Option Value)) (k : ℕ) (v : Value) → k < length ps → place_at (places_view (set ps k (Some v))) k ≡ Some (data_of v)
same_place [] k v h = absurd (omega arith)
same_place (p ∷ ps) zero v h = refl
same_place (None ∷ ps) (suc k) v h = same_place ps k v (omega arith)
same_place (Some w ∷ ps) (suc k) v h = same_place ps k v (omega arith)

no_place : (ps : List (Option Value)) (k : ℕ) → place_at (places_view (set ps k None)) k ≡ None
no_place [] k = refl
no_place (p ∷ ps) zero = refl
no_place (None ∷ ps) (suc k) = no_place ps k
no_place (Some w ∷ ps) (suc k) = no_place ps k

first_place : (p : Option Value) (ps qs : List (Option Value)) → place_at (places_view (p ∷ ps)) zero ≡ place_at (places_view (p ∷ qs)) zero
first_place None ps qs = refl
first_place (Some w) ps qs = refl

next_place : (p : Option Value) (ps : List (Option Value)) (k : ℕ) → place_at (places_view (p ∷ ps)) (suc k) ≡ place_at (places_view ps) k
next_place None ps k = refl
next_place (Some w) ps k = refl

other_place : (ps : List (Option Value)) (k j : ℕ) (p : Option Value) → (j ≡ k → ⊥) → place_at (places_view (set ps k p)) j ≡ place_at (places_view ps) j
other_place [] k j p n = refl
other_place (q ∷ ps) zero zero p n = absurd (n refl)
other_place (q ∷ ps) zero (suc j) p n = next_place p ps j ∙ sym (next_place q ps j)
other_place (q ∷ ps) (suc k) zero p n = first_place q (set ps k p) ps
other_place (q ∷ ps) (suc k) (suc j) p n = next_place q (set ps k p) j ∙ (other_place ps k j p (λ e. n (ap suc e)) ∙ sym (next_place q ps j))

pub none_there : (fs : Fields) (k : ℕ) → place_at (no_values fs) k ≡ None
none_there no_fields k = refl
none_there (component name g presence default own fs) zero = refl
none_there (component name g presence default own fs) (suc k) = none_there fs k
none_there (inserted name g slot fs) k = none_there fs k

-- Turns apart.

elsewhere_at : (ts : List Turn) (i place : ℕ) (t : Turn) → Elsewhere place ts → i < length ts → t ≡ get_or ts i t → t.place ≡ place → ⊥
elsewhere_at [] i place t h n e = absurd (omega arith)
elsewhere_at (x ∷ ts) zero place t h n e = λ same. h.0 (sym (ap (λ y. y.place) e) ∙ same)
elsewhere_at (x ∷ ts) (suc i) place t h n e = elsewhere_at ts i place t h.1 (omega arith) e

pub apart-at : (ts : List Turn) (i : ℕ) (t : Turn) → AreApart ts → i < length ts → t ≡ get_or ts i t → Elsewhere t.place (take i ts) × Elsewhere t.place (drop (suc i) ts)
apart-at [] i t h n e = absurd (omega arith)
apart-at (x ∷ ts) zero t h n e = (tt, subst (λ y. Elsewhere y.place ts) (sym e) h.0)
apart-at (x ∷ ts) (suc i) t h n e =
    let r = apart-at ts i t h.1 (omega arith) e in
    ((λ same. elsewhere_at ts i x.place t h.0 (omega arith) e (sym same), r.0), r.1)

-- Places of turns gone by.

abbrev pub AreMet : Fields → List Turn → Places → Type 0
AreMet fs [] ps = Unit {0}
AreMet fs (t ∷ ts) ps = IsMet (field_at fs t.field) (place_at ps t.place) × AreMet fs ts ps

still_met : (fs : Fields) (ts : List Turn) (place : ℕ) (ps qs : Places) → Elsewhere place ts → ((k : ℕ) → (k ≡ place → ⊥) → place_at qs k ≡ place_at ps k) → AreMet fs ts ps → AreMet fs ts qs
still_met fs [] place ps qs h others m = tt
still_met fs (t ∷ ts) place ps qs h others m = (subst (IsMet (field_at fs t.field)) (sym (others t.place h.0)) m.0, still_met fs ts place ps qs h.1 others m.1)

one_met : (fs : Fields) (done : List Turn) (t : Turn) (ps : Places) → AreMet fs done ps → IsMet (field_at fs t.field) (place_at ps t.place) → AreMet fs (done ++ t ∷ []) ps
one_met fs [] t ps m h = (h, tt)
one_met fs (x ∷ done) t ps m h = (m.0, one_met fs done t ps m.1 h)

pub met-more : (fs : Fields) (ts : List Turn) (i : ℕ) (t : Turn) (later more : Bool) (ps qs : Places) (old new : List ℕ) → AreApart ts → i < length ts → t ≡ get_or ts i t → IsTurnRead fs t later more ps qs old new → AreMet fs (take i ts) ps → AreMet fs (take (i + 1) ts) qs
met-more fs ts i t later more ps qs old new apart n e r m =
    let longer = take_more ts i t n ∙ ap (λ x. take i ts ++ x ∷ []) (sym e) in
    subst (λ done. AreMet fs done qs) (sym longer) (one_met fs (take i ts) t qs (still_met fs (take i ts) t.place ps qs (apart-at ts i t apart n e).0 r.others m) r.met)

-- The members of turns gone by, in front of others.

abbrev pub before : Fields → List Turn → Places → Members → Members
before fs [] ps ms = ms
before fs (t ∷ ts) ps ms = member_at (field_at fs t.field) (place_at ps t.place) (before fs ts ps ms)

before_end : (fs : Fields) (ts : List Turn) (ps : Places) → before fs ts ps no_members ≡ in_order fs ts ps
before_end fs [] ps = refl
before_end fs (t ∷ ts) ps = ap (member_at (field_at fs t.field) (place_at ps t.place)) (before_end fs ts ps)

before_append : (fs : Fields) (a b : List Turn) (ps : Places) (ms : Members) → before fs (a ++ b) ps ms ≡ before fs a ps (before fs b ps ms)
before_append fs [] b ps ms = refl
before_append fs (t ∷ a) b ps ms = ap (member_at (field_at fs t.field) (place_at ps t.place)) (before_append fs a b ps ms)

before_same : (fs : Fields) (ts : List Turn) (place : ℕ) (ps qs : Places) (ms : Members) → Elsewhere place ts → ((k : ℕ) → (k ≡ place → ⊥) → place_at qs k ≡ place_at ps k) → before fs ts qs ms ≡ before fs ts ps ms
before_same fs [] place ps qs ms h others = refl
before_same fs (t ∷ ts) place ps qs ms h others =
    let o = field_at fs t.field in
    ap (λ p. member_at o p (before fs ts qs ms)) (others t.place h.0) ∙ ap (member_at o (place_at ps t.place)) (before_same fs ts place ps qs ms h.1 others)

-- what was read of the members so far
abbrev pub SoFar : Fields → List Turn → Places → Bool → (first rest : List ℕ) → Type 0
SoFar fs done ps later first rest = (ms : Members) (end : List ℕ) → rest ≡ members_text later ms ++ end → first ≡ members_text false (before fs done ps ms) ++ end

pub turn-more : (fs : Fields) (ts : List Turn) (i : ℕ) (t : Turn) (later more : Bool) (ps qs : Places) (first old new : List ℕ) → AreApart ts → i < length ts → t ≡ get_or ts i t → IsTurnRead fs t later more ps qs old new
    → SoFar fs (take i ts) ps later first old → SoFar fs (take (i + 1) ts) qs more first new
turn-more fs ts i t later more ps qs first old new apart n e r so_far = λ ms end h.
    let here = member_at (field_at fs t.field) (place_at qs t.place) ms in
    let longer = take_more ts i t n ∙ ap (λ x. take i ts ++ x ∷ []) (sym e) in
    let members = ap (λ done. before fs done qs ms) longer ∙ (before_append fs (take i ts) (t ∷ []) qs ms ∙ before_same fs (take i ts) t.place ps qs here (apart-at ts i t apart n e).0 r.others) in
    so_far here end (r.text ms end h) ∙ ap (λ m. members_text false m ++ end) (sym members)

pub turns-end : (fs : Fields) (ts : List Turn) (i : ℕ) (ps : Places) (later : Bool) (first rest new : List ℕ) → length ts ≤ i → SoFar fs (take i ts) ps later first rest → rest ≡ 125 ∷ new → first ≡ members_text false (in_order fs ts ps) ++ new
turns-end fs ts i ps later first rest new past so_far closed =
    so_far no_members new closed ∙ ap (λ m. members_text false m ++ new) (ap (λ done. before fs done ps no_members) (take_all i ts past) ∙ before_end fs ts ps)

-- One turn.

pub turn-passed : (fs : Fields) (t : Turn) (later : Bool) (ps qs : List (Option Value)) (old new : List ℕ) → IsMet (field_at fs t.field) None → qs ≡ set ps t.place None → new ≡ old → IsTurnRead fs t later later (places_view ps) (places_view qs) old new
turn-passed fs t later ps qs old new met put same =
    let here = place_at (places_view qs) t.place in
    let none : here ≡ None = ap (λ l. place_at (places_view l) t.place) put ∙ no_place ps t.place in
    record {
      text = λ ms end e. sym same ∙ (e ∙ ap (λ text. text ++ end) (no-turn (field_at fs t.field) here later ms [] (sym none)));
      others = λ k n. ap (λ l. place_at (places_view l) k) put ∙ other_place ps t.place k None n;
      met = subst (IsMet (field_at fs t.field)) (sym none) met;
    }

field_text : (x : OneField) (d : Data) (old new : List ℕ) → IsFieldRead x d old new → old ≡ compact_text (field_json x d) ++ new
field_text (a_component name g presence default own) d old new h = h.text
field_text (an_inserted name g slot) d old new h = absurd h

field_met : (x : OneField) (d : Data) (old new : List ℕ) → IsFieldRead x d old new → IsMet (Some x) (Some d)
field_met (a_component name g presence default own) d old new h = (h.fits, h.said)
field_met (an_inserted name g slot) d old new h = absurd h

turn_read : (fs : Fields) (t : Turn) (x : OneField) (v : Value) (later : Bool) (ps qs : List (Option Value)) (old inner new : List ℕ) → field_at fs t.field ≡ Some x → HasKey (field_at fs t.field) t.key → t.place < length ps → qs ≡ set ps t.place (Some v)
    → old ≡ comma_if later ++ (t.key ++ inner) → IsFieldRead x (data_of v) inner new → IsTurnRead fs t later true (places_view ps) (places_view qs) old new
turn_read fs t x v later ps qs old inner new at keyed within put keys read =
    let o = field_at fs t.field in
    let there : Some (data_of v) ≡ place_at (places_view qs) t.place = sym (same_place ps t.place v within) ∙ ap (λ l. place_at (places_view l) t.place) (sym put) in
    record {
      text = λ ms end e. member-text o (place_at (places_view qs) t.place) x (data_of v) t.key later ms old (t.key ++ inner) inner new end at there keyed keys refl (field_text x (data_of v) inner new read) e;
      others = λ k n. ap (λ l. place_at (places_view l) k) put ∙ other_place ps t.place k (Some v) n;
      met = subst (IsMet o) there (subst (λ y. IsMet y (Some (data_of v))) (sym at) (field_met x (data_of v) inner new read));
    }

-- what was read stands in the place `p`
pub turn-placed : (fs : Fields) (t : Turn) (x : OneField) (p : Option Value) (later : Bool) (ps qs : List (Option Value)) (old inner new : List ℕ) → field_at fs t.field ≡ Some x → HasKey (field_at fs t.field) t.key → t.place < length ps → qs ≡ set ps t.place p
    → old ≡ comma_if later ++ (t.key ++ inner) → IsPlaceRead x (option_map data_of p) inner new → IsTurnRead fs t later true (places_view ps) (places_view qs) old new
turn-placed fs t x None later ps qs old inner new at keyed within put keys read = absurd read
turn-placed fs t x (Some v) later ps qs old inner new at keyed within put keys read = turn_read fs t x v later ps qs old inner new at keyed within put keys read
