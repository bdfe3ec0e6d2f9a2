-- The texts of components, by their places.
use Rattle.std.proofs.Common.{◌≡◌, ℕ, ℤ, zero, suc, ◌<◌, ◌≤◌, Bool, true, List, [], ◌∷◌, ◌++◌, length, get_or, Option, Some, None, refl, sym, ap, subst, ◌∙◌, arith}
use Rattle.serde_json.specs.Data.{Members}
use Rattle.serde_json.specs.Written.{comma_if, compact_text, members_text}
use Rattle.acn_grammar.specs.Grammar.{Fields, Data, no_fields, component, inserted, no_places}
use Rattle.acn_grammar.specs.View.{OneField, a_component, an_inserted, field_of, fields_view, with_field}
use Rattle.acn_grammar.specs.declared.node.Field.{Field}
use Rattle.acn_json.specs.Lines.{json_of}
use Rattle.acn_json.proofs.Texts.{members-turn}
use Rattle.acn_lines.specs.Order.{field_at, field_json, place_at, place_of, member_at, HasKey}
use Rattle.acn_reads.specs.Decoded.{placed}
use Rattle.acn_transcode.specs.Puts.{cut_out, IsFieldNumber, IsLaid, AreLaid}
use Rattle.acn_transcode.specs.declared.draft.Part.{Part}
use Rattle.acn_transcode.specs.declared.draft.Part.TheVariants.{Away, Text, Number}
use Rattle.acn_transcode.specs.declared.draft.Span.{Span}

-- where the text of a field's component stands
abbrev pub Found : List ℕ → Option OneField → Part → Option Data → Type 0
Found text (Some (a_component name g presence default own)) s d = IsLaid text s g d
Found text _ s d = ⊥

first_place : (d : Option Data) (ds : List (Option Data)) → place_at (placed (d ∷ ds) no_places) zero ≡ d
first_place None ds = refl
first_place (Some x) ds = refl

later_place : (d : Option Data) (ds : List (Option Data)) (k : ℕ) → place_at (placed (d ∷ ds) no_places) (suc k) ≡ place_at (placed ds no_places) k
later_place None ds k = refl
later_place (Some x) ds k = refl

found : (text : List ℕ) (fs : Fields) (parts : List Part) (ds : List (Option Data)) (k : ℕ) (key : List ℕ) (s : Part) → AreLaid text fs parts ds → HasKey (field_at fs k) key → place_of fs k < length parts → s ≡ get_or parts (place_of fs k) s → Found text (field_at fs k) s (place_at (placed ds no_places) (place_of fs k))
found text no_fields parts ds k key s h has n e = absurd has
found text (component name g presence default own fs) [] ds k key s h has n e = absurd h
found text (component name g presence default own fs) (x ∷ parts) [] k key s h has n e = absurd h
found text (component name g presence default own fs) (x ∷ parts) (d ∷ ds) zero key s h has n e =
    subst (λ o. IsLaid text s g o) (sym (first_place d ds)) (subst (λ o. IsLaid text o g d) (sym e) h.0)
found text (component name g presence default own fs) (x ∷ parts) (d ∷ ds) (suc k) key s h has n e =
    subst (λ o. Found text (field_at fs k) s o) (sym (later_place d ds (place_of fs k))) (found text fs parts ds k key s h.1 has (omega arith) e)
found text (inserted name g slot fs) parts ds zero key s h has n e = absurd has
found text (inserted name g slot fs) parts ds (suc k) key s h has n e = found text fs parts ds k key s h has n e

pub found_at : (text : List ℕ) (fs : Fields) (parts : List Part) (ds : List (Option Data)) (k place : ℕ) (key : List ℕ) (s : Part) → AreLaid text fs parts ds → HasKey (field_at fs k) key → place ≡ place_of fs k → place < length parts → s ≡ get_or parts place s → Found text (field_at fs k) s (place_at (placed ds no_places) place)
found_at text fs parts ds k place key s h has is n e =
    subst (λ p. Found text (field_at fs k) s (place_at (placed ds no_places) p)) (sym is)
    (found text fs parts ds k key s h has (subst (λ p. p < length parts) is n) (subst (λ p. s ≡ get_or parts p s) is e))

pub span_fits : (text : List ℕ) (o : Option OneField) (span : Span) (d : Option Data) → Found text o (Text span) d → (span.from ≤ span.to) × (span.to ≤ length text)
span_fits text None span d h = absurd h
span_fits text (Some (an_inserted name g slot)) span d h = absurd h
span_fits text (Some (a_component name g presence default own)) span None h = absurd h
span_fits text (Some (a_component name g presence default own)) span (Some d) h = (h.0, h.1)

-- the text of the member of a turn
pub member_put : (text : List ℕ) (o : Option OneField) (span : Span) (d : Option Data) (key : List ℕ) (later : Bool) (ms : Members) (out new : List ℕ) → Found text o (Text span) d → HasKey o key → new ≡ out ++ comma_if later ++ key ++ cut_out text span → new ++ members_text true ms ≡ out ++ members_text later (member_at o d ms)
member_put text None span d key later ms out new h has e = absurd h
member_put text (Some (an_inserted name g slot)) span d key later ms out new h has e = absurd h
member_put text (Some (a_component name g presence default own)) span None key later ms out new h has e = absurd h
member_put text (Some (a_component name g presence default own)) span (Some d) key later ms out new h has e =
    let mid = out ++ comma_if later in
    members-turn later name (json_of g d) ms out mid (mid ++ key) new _ refl (ap (λ t. mid ++ t) has) (e ∙ ap (λ t. mid ++ key ++ t) h.2) refl

-- where no component is there, nothing is put
pub no_member : (text : List ℕ) (o : Option OneField) (d : Option Data) (later : Bool) (ms : Members) (out : List ℕ) → Found text o Away d → out ++ members_text later ms ≡ out ++ members_text later (member_at o d ms)
no_member text None d later ms out h = absurd h
no_member text (Some (an_inserted name g slot)) d later ms out h = absurd h
no_member text (Some (a_component name g presence default own)) None later ms out h = refl
no_member text (Some (a_component name g presence default own)) (Some d) later ms out h = absurd h

-- Numbers, which are put in the turn of their field.

first_field : (f : OneField) (fs : Fields) → field_at (with_field f fs) zero ≡ Some f
first_field (a_component name g presence default own) fs = refl
first_field (an_inserted name g slot) fs = refl

later_field : (f : OneField) (fs : Fields) (k : ℕ) → field_at (with_field f fs) (suc k) ≡ field_at fs k
later_field (a_component name g presence default own) fs k = refl
later_field (an_inserted name g slot) fs k = refl

pub field_here : (fs : List Field) (k : ℕ) (f : Field) → k < length fs → f ≡ get_or fs k f → field_at (fields_view fs) k ≡ Some (field_of f)
field_here [] k f h e = absurd (omega (arith, h))
field_here (x ∷ xs) zero f h e = first_field (field_of x) (fields_view xs) ∙ ap (λ (y : Field). Some (field_of y)) (sym e)
field_here (x ∷ xs) (suc k) f h e = later_field (field_of x) (fields_view xs) k ∙ field_here xs k f (omega (arith, h)) e

-- the value of which a number is kept
pub number_there : (text : List ℕ) (o : Option OneField) (f : OneField) (x : ℤ) (d : Option Data) → o ≡ Some f → Found text o (Number x) d → (v : Data) × (d ≡ Some v) × IsFieldNumber f x v
number_there text o f x d e h = of f d (subst (λ (p : Option OneField). Found text p (Number x) d) e h)
  where
    of : (f : OneField) (d : Option Data) → Found text (Some f) (Number x) d → (v : Data) × (d ≡ Some v) × IsFieldNumber f x v
    of (a_component name g presence default own) None h = absurd h
    of (a_component name g presence default own) (Some v) h = (v, refl, h)
    of (an_inserted name g slot) d h = absurd h

-- the member of a turn, whose value was put
pub value_put : (o : Option OneField) (f : OneField) (d : Option Data) (v : Data) (key : List ℕ) (later : Bool) (ms : Members) (out new : List ℕ) → o ≡ Some f → d ≡ Some v → HasKey o key → new ≡ out ++ comma_if later ++ key ++ compact_text (field_json f v) → new ++ members_text true ms ≡ out ++ members_text later (member_at o d ms)
value_put o f d v key later ms out new is there has e =
    subst (λ (p : Option OneField). new ++ members_text true ms ≡ out ++ members_text later (member_at p d ms)) (sym is)
    (subst (λ (x : Option Data). new ++ members_text true ms ≡ out ++ members_text later (member_at (Some f) x ms)) (sym there) (of f (subst (λ (p : Option OneField). HasKey p key) is has) e))
  where
    of : (f : OneField) → HasKey (Some f) key → new ≡ out ++ comma_if later ++ key ++ compact_text (field_json f v) → new ++ members_text true ms ≡ out ++ members_text later (member_at (Some f) (Some v) ms)
    of (a_component name g presence default own) has e =
        let mid = out ++ comma_if later in
        members-turn later name (json_of g v) ms out mid (mid ++ key) new _ refl (ap (λ t. mid ++ t) has) e refl
    of (an_inserted name g slot) has e = absurd has
