-- A member that is taken in the walk: what its turn and its field say.
use Rattle.std.proofs.Common.{◌≡◌, ℕ, zero, suc, ◌<◌, List, ◌∷◌, length, get_or, set, Option, Some, refl, sym, ap, subst, ◌∙◌}
use Rattle.json.specs.Token.{Token}
use Rattle.acn_grammar.specs.Grammar.{Grammar, Fields, Places, no_fields, component, inserted}
use Rattle.acn_grammar.specs.View.{OneField, a_component, field_of, fields_view, grammar_of, data_of, places_view}
use Rattle.acn_grammar.specs.declared.node.Field.{Field, Component}
use Rattle.acn_grammar.specs.declared.node.Node.{Node}
use Rattle.acn_grammar.specs.declared.node.Presence.{Presence}
use Rattle.acn_grammar.specs.declared.value.Value.{Value}
use Rattle.acn_grammar.proofs.Views.{view_component}
use Rattle.acn_lines.specs.Names.{Differ, NamesDiffer, FieldsNamesDiffer}
use Rattle.acn_lines.specs.Order.{field_at, place_of, IsNodeOrder, IsFieldOrder}
use Rattle.acn_lines.specs.Taken.{IsTaken, MembersTaken, component_count}
use Rattle.acn_lines.specs.declared.order.Order.{Order}
use Rattle.acn_lines.proofs.MembersLaw.{IsNamed, fill, fill-view, place-within, members_more}
use Rattle.acn_lines.proofs.Parts.{field-here}

-- the field of a number is this component
pub component-at : (fs : List Field) (k : ℕ) (f : Field) (own : List ℕ) (n : Node) (presence : Presence) (default : Option (List ℕ)) (slot : Option ℕ) → k < length fs → f ≡ get_or fs k f → f ≡ Component own n presence default slot
    → field_at (fields_view fs) k ≡ Some (a_component own (grammar_of n) presence default slot)
component-at fs k f own n presence default slot h e is = field-here fs k f h e ∙ ap Some (ap field_of is ∙ view_component own n presence default slot)

pub order-inside : (f : Field) (own : List ℕ) (n : Node) (presence : Presence) (default : Option (List ℕ)) (slot : Option ℕ) (o : Order) → f ≡ Component own n presence default slot → IsFieldOrder (field_of f) o → IsNodeOrder (grammar_of n) o
order-inside f own n presence default slot o is h = subst (λ x. IsFieldOrder x o) (ap field_of is ∙ view_component own n presence default slot) h

abbrev NamesAt : Option OneField → Type 0
NamesAt (Some (a_component own g presence default slot)) = NamesDiffer g
NamesAt _ = Unit {0}

names_at : (fs : Fields) (k : ℕ) → FieldsNamesDiffer fs → NamesAt (field_at fs k)
names_at no_fields k h = tt
names_at (component own g presence default slot fs) zero h = h.0
names_at (component own g presence default slot fs) (suc k) h = names_at fs k h.1
names_at (inserted own g slot fs) zero h = tt
names_at (inserted own g slot fs) (suc k) h = names_at fs k h

pub names-inside : (fs : Fields) (k : ℕ) (own : List ℕ) (g : Grammar) (presence : Presence) (default : Option (List ℕ)) (slot : Option ℕ) → field_at fs k ≡ Some (a_component own g presence default slot) → FieldsNamesDiffer fs → NamesDiffer g
names-inside fs k own g presence default slot is h = subst NamesAt is (names_at fs k h)

pub place-there : (fs : Fields) (k : ℕ) (own : List ℕ) (g : Grammar) (presence : Presence) (default : Option (List ℕ)) (slot : Option ℕ) → field_at fs k ≡ Some (a_component own g presence default slot) → place_of fs k < component_count fs
place-there fs k own g presence default slot is = place-within fs k own (subst (λ o. IsNamed o own) (sym is) refl)

pub member-taken : (fs : Fields) (k place : ℕ) (own name : List ℕ) (g : Grammar) (presence : Presence) (default : Option (List ℕ)) (slot : Option ℕ) (v : Value) (ps after : List (Option Value)) (next rest : List Token)
    → field_at fs k ≡ Some (a_component own g presence default slot) → own ≡ name → place ≡ place_of fs k → Differ fs → IsTaken g (data_of v) next rest → after ≡ set ps place (Some v)
    → (qs : Places) (new : List Token) → MembersTaken fs (places_view after) rest qs new → MembersTaken fs (places_view ps) (Token.key name ∷ next) qs new
member-taken fs k place own name g presence default slot v ps after next rest is named placed differ taken put qs new more =
    let filled = ap places_view put ∙ (fill-view ps place v ∙ ap (λ i. fill i (data_of v) (places_view ps)) placed) in
    subst (λ x. MembersTaken fs (places_view ps) (Token.key x ∷ next) qs new) named
    (members_more fs k own g presence default slot (data_of v) (places_view ps) qs next rest new differ is taken (subst (λ x. MembersTaken fs x rest qs new) filled more))
