-- Where the place of each turn is met, each place is: every component has a turn.
use Rattle.std.proofs.Common.{◌≡◌, ◌⊎◌, ℕ, zero, suc, ◌<◌, ◌≤◌, true, List, [], ◌∷◌, length, take, Option, Some, None, refl, sym, ap, subst, ◌∙◌, arith, inl, inr}
use Rattle.std.proofs.lemmas.List.{take_all}
use Rattle.serde_json.specs.Data.{Members, no_members, member}
use Rattle.serde_json.specs.Data.{put}
use Rattle.acn_grammar.specs.Grammar.{Fields, Data, Places, no_fields, component, inserted, characters}
use Rattle.acn_grammar.specs.Shaped.{may_be_absent}
use Rattle.acn_grammar.specs.View.{OneField, a_component, an_inserted, places_view}
use Rattle.acn_grammar.specs.declared.value.Value.{Value}
use Rattle.acn_json.specs.Lines.{json_of, fields_json}
use Rattle.acn_lines.specs.Filled.{IsMet, AreFilled}
use Rattle.acn_lines.specs.Order.{field_at, place_at, place_of, member_at, in_order, HasKey, AreKeyed, ArePlaced, Elsewhere, AreTurns}
use Rattle.acn_lines.specs.Taken.{component_count, no_values, is_whole}
use Rattle.acn_lines.specs.declared.turns.Turn.{Turn}
use Rattle.acn_lines.proofs.FillingLaw.{AreMet, none_there}
use Rattle.acn_lines.proofs.MembersLaw.{fill}

-- A component by the number of its place.

abbrev component_at : Fields → (k : ℕ) → Option OneField
component_at no_fields k = None
component_at (component name g presence default own fs) zero = Some (a_component name g presence default own)
component_at (component name g presence default own fs) (suc k) = component_at fs k
component_at (inserted name g slot fs) k = component_at fs k

component_here : (fs : Fields) (k : ℕ) (key : List ℕ) → HasKey (field_at fs k) key → component_at fs (place_of fs k) ≡ field_at fs k
component_here no_fields k key h = absurd h
component_here (component name g presence default own fs) zero key h = refl
component_here (component name g presence default own fs) (suc k) key h = component_here fs k key h
component_here (inserted name g slot fs) zero key h = absurd h
component_here (inserted name g slot fs) (suc k) key h = component_here fs k key h

-- Every component has a turn: a record in which it alone is there has a member.

one_there : (fs : Fields) (k j : ℕ) (d : Data) → (j ≡ k → ⊥) → place_at (fill k d (no_values fs)) j ≡ None
one_there no_fields k j d n = refl
one_there (component name g presence default own fs) zero zero d n = absurd (n refl)
one_there (component name g presence default own fs) zero (suc j) d n = none_there fs j
one_there (component name g presence default own fs) (suc k) zero d n = refl
one_there (component name g presence default own fs) (suc k) (suc j) d n = one_there fs k j d (λ e. n (ap suc e))
one_there (inserted name g slot fs) k j d n = one_there fs k j d n

no_member : (o : Option OneField) (p : Option Data) (ms : Members) → p ≡ None → member_at o p ms ≡ ms
no_member None p ms e = refl
no_member (Some (an_inserted name g slot)) p ms e = refl
no_member (Some (a_component name g presence default own)) p ms e = ap (λ q. member_at (Some (a_component name g presence default own)) q ms) e

none_in_order : (fs : Fields) (ts : List Turn) (k : ℕ) (d : Data) → Elsewhere k ts → in_order fs ts (fill k d (no_values fs)) ≡ no_members
none_in_order fs [] k d h = refl
none_in_order fs (t ∷ ts) k d h = no_member (field_at fs t.field) (place_at (fill k d (no_values fs)) t.place) (in_order fs ts (fill k d (no_values fs))) (one_there fs k t.place d h.0) ∙ none_in_order fs ts k d h.1

no_more : (fs : Fields) (ms : Members) → fields_json ms fs (no_values fs) ≡ ms
no_more no_fields ms = refl
no_more (component name g presence default own fs) ms = no_more fs ms
no_more (inserted name g slot fs) ms = no_more fs ms

abbrev HasMember : Members → Type 0
HasMember no_members = ⊥
HasMember (member k d ms) = Unit {0}

one_member : (fs : Fields) (k : ℕ) (d : Data) → k < component_count fs → HasMember (fields_json no_members fs (fill k d (no_values fs)))
one_member no_fields k d h = absurd (omega arith)
one_member (component name g presence default own fs) zero d h = subst HasMember (sym (no_more fs (put name (json_of g d) no_members))) tt
one_member (component name g presence default own fs) (suc k) d h = one_member fs k d (omega arith)
one_member (inserted name g slot fs) k d h = one_member fs k d h

pub has_turn : (fs : Fields) (ts : List Turn) (k : ℕ) → AreTurns fs ts → k < component_count fs → Elsewhere k ts → ⊥
has_turn fs ts k turns h e =
    let d = characters [] in
    subst HasMember (sym (turns.1 (fill k d (no_values fs))) ∙ none_in_order fs ts k d e) (one_member fs k d h)

-- The place of a component.

pub same_or_not : (a b : ℕ) → (a ≡ b) ⊎ (a ≡ b → ⊥)
same_or_not zero zero = inl refl
same_or_not zero (suc b) = inr (λ e. omega (arith, e))
same_or_not (suc a) zero = inr (λ e. omega (arith, e))
same_or_not (suc a) (suc b) = go (same_or_not a b)
  where
    go : (a ≡ b) ⊎ (a ≡ b → ⊥) → (suc a ≡ suc b) ⊎ (suc a ≡ suc b → ⊥)
    go (inl e) = inl (ap suc e)
    go (inr n) = inr (λ e. n (omega (arith, e)))

met_here : (fs : Fields) (t : Turn) (ps : Places) (k : ℕ) → HasKey (field_at fs t.field) t.key → t.place ≡ place_of fs t.field → IsMet (field_at fs t.field) (place_at ps t.place) → t.place ≡ k → IsMet (component_at fs k) (place_at ps k)
met_here fs t ps k keyed placed m e =
    let is = ap (component_at fs) placed ∙ component_here fs t.field t.key keyed in
    subst (λ (j : ℕ). IsMet (component_at fs j) (place_at ps j)) e (subst (λ o. IsMet o (place_at ps t.place)) (sym is) m)

met_or_elsewhere : (fs : Fields) (ts : List Turn) (ps : Places) (k : ℕ) → AreKeyed fs ts → ArePlaced fs ts → AreMet fs ts ps → IsMet (component_at fs k) (place_at ps k) ⊎ Elsewhere k ts
met_or_elsewhere fs [] ps k keyed placed m = inr tt
met_or_elsewhere fs (t ∷ ts) ps k keyed placed m = go (same_or_not t.place k) (met_or_elsewhere fs ts ps k keyed.1 placed.1 m.1)
  where
    go : (t.place ≡ k) ⊎ (t.place ≡ k → ⊥) → IsMet (component_at fs k) (place_at ps k) ⊎ Elsewhere k ts → IsMet (component_at fs k) (place_at ps k) ⊎ Elsewhere k (t ∷ ts)
    go (inl e) rest = inl (met_here fs t ps k keyed.0 placed.0 m.0 e)
    go (inr n) (inl h) = inl h
    go (inr n) (inr h) = inr (n, h)

each_met : (fs : Fields) (ts : List Turn) (ps : Places) (k : ℕ) → AreTurns fs ts → AreMet fs ts ps → k < component_count fs → IsMet (component_at fs k) (place_at ps k)
each_met fs ts ps k turns m h = go (met_or_elsewhere fs ts ps k turns.0 turns.2 m)
  where
    go : IsMet (component_at fs k) (place_at ps k) ⊎ Elsewhere k ts → IsMet (component_at fs k) (place_at ps k)
    go (inl here) = here
    go (inr e) = absurd (has_turn fs ts k turns h e)

-- All places.

filled_and_whole : (fs : Fields) (vs : List (Option Value)) → length vs ≡ component_count fs → ((k : ℕ) → k < component_count fs → IsMet (component_at fs k) (place_at (places_view vs) k)) → AreFilled fs (places_view vs) × (is_whole fs (places_view vs) ≡ true)
filled_and_whole no_fields [] n h = (tt, refl)
filled_and_whole no_fields (v ∷ vs) n h = absurd (omega (arith, n))
filled_and_whole (component name g presence default own fs) [] n h = absurd (omega (arith, n))
filled_and_whole (component name g presence default own fs) (None ∷ vs) n h =
    let r = filled_and_whole fs vs (omega (arith, n)) (λ k m. h (suc k) (omega (arith, m))) in
    let lacks : may_be_absent presence ≡ true = h zero (omega arith) in
    (r.0, rw (lacks, r.1) refl)
filled_and_whole (component name g presence default own fs) (Some v ∷ vs) n h =
    let r = filled_and_whole fs vs (omega (arith, n)) (λ k m. h (suc k) (omega (arith, m))) in
    let here = h zero (omega arith) in
    ((here.0, here.1, r.0), r.1)
filled_and_whole (inserted name g slot fs) vs n h = filled_and_whole fs vs n h

-- the place of each turn is met behind the last one, so all places are filled, and none is wanting
pub turns-met : (fs : Fields) (ts : List Turn) (i : ℕ) (vs : List (Option Value)) → AreTurns fs ts → length ts ≤ i → length vs ≡ component_count fs → AreMet fs (take i ts) (places_view vs) → AreFilled fs (places_view vs) × (is_whole fs (places_view vs) ≡ true)
turns-met fs ts i vs turns past n m =
    let all = subst (λ done. AreMet fs done (places_view vs)) (take_all i ts past) m in
    filled_and_whole fs vs n (λ k h. each_met fs ts (places_view vs) k turns all h)
