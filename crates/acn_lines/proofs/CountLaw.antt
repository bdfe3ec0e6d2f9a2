-- There are as many turns as components.
use Rattle.std.proofs.Common.{◌≡◌, ◌⊎◌, ℕ, zero, suc, ◌+◌, ◌<◌, ◌≤◌, List, [], ◌∷◌, length, Option, Some, None, Ordering, Less, Equal, Greater, nat_cmp, refl, sym, ap, ◌∙◌, arith, inl, inr}
use Rattle.std.specs.Ordering.{match_ordering}
use Rattle.std.specs.Cmp.Lexicographic.{slice_cmp}
use Rattle.serde_json.specs.Data.{Members, no_members, member, put}
use Rattle.serde_json.specs.Data as json
use Rattle.acn_grammar.specs.Grammar.{Fields, Data, Places, no_fields, component, inserted, no_places, filled, characters}
use Rattle.acn_grammar.specs.View.{OneField, a_component, an_inserted}
use Rattle.acn_json.specs.Lines.{json_of, fields_json}
use Rattle.acn_lines.specs.Order.{field_at, place_at, place_of, member_at, in_order, HasKey, AreKeyed, ArePlaced, Elsewhere, AreTurns}
use Rattle.acn_lines.specs.Taken.{component_count}
use Rattle.acn_lines.specs.declared.turns.Turn.{Turn}
use Rattle.acn_lines.proofs.FillingLaw.{keyed-within}
use Rattle.acn_lines.proofs.MetLaw.{same_or_not, has_turn}

-- No more turns: each gives a member to the record in which every component is there.

abbrev member_count : Members → ℕ
member_count no_members = 0
member_count (member k d ms) = suc (member_count ms)

abbrev all_there : Fields → Data → Places
all_there no_fields d = no_places
all_there (component name g presence default own fs) d = filled d (all_there fs d)
all_there (inserted name g slot fs) d = all_there fs d

there_at : (fs : Fields) (k : ℕ) (d : Data) → k < component_count fs → place_at (all_there fs d) k ≡ Some d
there_at no_fields k d h = absurd (omega arith)
there_at (component name g presence default own fs) zero d h = refl
there_at (component name g presence default own fs) (suc k) d h = there_at fs k d (omega arith)
there_at (inserted name g slot fs) k d h = there_at fs k d h

one_counted : (o : Option OneField) (key : List ℕ) (p : Option Data) (d : Data) (ms : Members) → HasKey o key → p ≡ Some d → member_count (member_at o p ms) ≡ suc (member_count ms)
one_counted None key p d ms h e = absurd h
one_counted (Some (an_inserted name g slot)) key p d ms h e = absurd h
one_counted (Some (a_component name g presence default own)) key p d ms h e = ap (λ q. member_count (member_at (Some (a_component name g presence default own)) q ms)) e

all_counted : (fs : Fields) (ts : List Turn) (d : Data) → AreKeyed fs ts → ArePlaced fs ts → member_count (in_order fs ts (all_there fs d)) ≡ length ts
all_counted fs [] d keyed placed = refl
all_counted fs (t ∷ ts) d keyed placed =
    let there = ap (place_at (all_there fs d)) placed.0 ∙ there_at fs (place_of fs t.field) d (keyed-within fs t.field t.key keyed.0) in
    one_counted (field_at fs t.field) t.key (place_at (all_there fs d) t.place) d (in_order fs ts (all_there fs d)) keyed.0 there ∙ ap suc (all_counted fs ts d keyed.1 placed.1)

put_count : (k : List ℕ) (j : json.Data) (ms : Members) → member_count (put k j ms) ≤ suc (member_count ms)
put_count k j no_members = omega arith
put_count k j (member l e ms) = go (slice_cmp nat_cmp k l) (put_count k j ms)
  where
    go : (o : Ordering) → member_count (put k j ms) ≤ suc (member_count ms) → member_count (match_ordering o (member k j (member l e ms)) (member l j ms) (member l e (put k j ms))) ≤ suc (suc (member_count ms))
    go Less h = omega arith
    go Equal h = omega arith
    go Greater h = omega (arith, h)

no_more_members : (fs : Fields) (ms : Members) (d : Data) → member_count (fields_json ms fs (all_there fs d)) ≤ member_count ms + component_count fs
no_more_members no_fields ms d = omega arith
no_more_members (component name g presence default own fs) ms d =
    let one = put_count name (json_of g d) ms in
    let rest = no_more_members fs (put name (json_of g d) ms) d in
    omega (arith, one, rest)
no_more_members (inserted name g slot fs) ms d = no_more_members fs ms d

-- No fewer turns: each component has its own.

abbrev Without : List Turn → ℕ → Type 0
Without ts k = (rest : List Turn) × (length ts ≡ suc (length rest)) × ((j : ℕ) → (j ≡ k → ⊥) → Elsewhere j rest → Elsewhere j ts)

without : (ts : List Turn) (k : ℕ) → (Elsewhere k ts → ⊥) → Without ts k
without [] k h = absurd (h tt)
without (t ∷ ts) k h = go (same_or_not t.place k) (without ts k)
  where
    go : (t.place ≡ k) ⊎ (t.place ≡ k → ⊥) → ((Elsewhere k ts → ⊥) → Without ts k) → Without (t ∷ ts) k
    go (inl e) more = (ts, refl, λ j n w. ((λ s. n (sym s ∙ e)), w))
    go (inr n) more =
        let r = more (λ w. h (n, w)) in
        (t ∷ r.0, ap suc r.1, λ j m w. (w.0, r.2 j m w.1))

no_fewer : (n : ℕ) (ts : List Turn) → ((k : ℕ) → k < n → Elsewhere k ts → ⊥) → n ≤ length ts
no_fewer zero ts h = omega arith
no_fewer (suc n) ts h =
    let r = without ts n (h n (omega arith)) in
    let rest = no_fewer n r.0 (λ k lt w. h k (omega (arith, lt)) (r.2 k (λ e. omega (arith, e, lt)) w)) in
    omega (arith, r.1, rest)

pub turns-count : (fs : Fields) (ts : List Turn) → AreTurns fs ts → length ts ≡ component_count fs
turns-count fs ts turns =
    let d = characters [] in
    let same = sym (all_counted fs ts d turns.0 turns.2) ∙ ap member_count (turns.1 (all_there fs d)) in
    let more = no_more_members fs no_members d in
    let fewer = no_fewer (component_count fs) ts (λ k h. has_turn fs ts k turns h) in
    omega (arith, same, more, fewer)
