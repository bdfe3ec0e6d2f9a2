-- The line of a value is the same under each grammar that accepts it.
use Rattle.std.proofs.Common.{◌≡◌, ℕ, zero, suc, ◌≤◌, Bool, true, false, List, [], ◌∷◌, ◌++◌, length, Option, None, refl, ap, ◌∙◌, arith}
use Rattle.std.proofs.lemmas.Bool.{and_parts}
use Rattle.serde_json.specs.Data.{Items, no_items, item, Members, no_members, member, put}
use Rattle.serde_json.specs.Data as json
use Rattle.serde_json.specs.Written.{compact_text}
use Rattle.acn_grammar.specs.Fails.{count_of}
use Rattle.acn_grammar.specs.Grammar.{Grammar, Form, Fields, Alternatives, Data, Places, Elements, node, num, octets, bits, text, seq, list, choice, contained, no_fields, component, inserted, no_alternatives, alternative, octet_string, bit_string, characters, record_of, list_of, alt, no_places, empty, filled, no_elements, element}
use Rattle.acn_grammar.specs.Shaped.{fits, form_fits, fields_fit, alternative_fits, each_element, may_be_absent}
use Rattle.acn_grammar.specs.Walk.{conditions_of}
use Rattle.acn_compare.specs.Accepts.{Answering, answering, places, form_places, field_places, case_places, placed, heads, Together, Agree, AllAgree}
use Rattle.acn_compare.specs.declared.answer.Reason.{Reason}
use Rattle.acn_compare.specs.declared.answer.Reason.TheVariants as because
use Rattle.acn_compare.specs.Laws.{LinesAreAlike}
use Rattle.acn_json.specs.Lines.{num_json, each_json, json_of, form_json, fields_json, alternative_json}
use Rattle.acn_compare.proofs.Reading.{all_parts}

each_alike : (one other : Data → json.Data) (p : Data → Bool) → ((d : Data) → p d ≡ true → one d ≡ other d) → (es : Elements) → each_element p es ≡ true → each_json one es ≡ each_json other es
each_alike one other p h no_elements f = refl
each_alike one other p h (element d es) f =
    let two = and_parts (p d) (each_element p es) f in
    ap (λ z. item z (each_json one es)) (h d two.0) ∙ ap (λ z. item (other d) z) (each_alike one other p h es two.1)

module _ (by : Answering) where
  mutual
    node_alike : (path : List ℕ) (own own' : Option ℕ) (g h : Grammar) → AllAgree by (places path own own' g h) → (d : Data) → fits g d ≡ true → json_of g d ≡ json_of h d
    node_alike path own own' (node a f) (node b f') c d s = form_alike path f f' a b c.0 c.1 d s

    form_alike : (path : List ℕ) (f f' : Form) (a b : ℕ) → ((q : Reason) → Agree by q (node a f) (node b f')) → AllAgree by (form_places path f f') → (d : Data) → form_fits f d ≡ true → form_json f d ≡ form_json f' d
    form_alike path (num l) (num m) a b q c d s = ap (λ kind. num_json kind l.items.items d) (q because.Kind) ∙ ap (λ items. num_json m.kind items d) (q because.Names)
    form_alike path (octets z) (octets y) a b q c (octet_string os) s = refl
    form_alike path (bits z) (bits y) a b q c (bit_string bs) s = refl
    form_alike path (text l) (text m) a b q c (characters cs) s = refl
    form_alike path (seq fs home) (seq gs home') a b q c (record_of ps) s = ap json.object (fields_alike path 0 fs gs (q because.Fields).0 (q because.Fields).1 (q because.Names) c no_members ps s)
    form_alike path (list z g) (list y h) a b q c (list_of es) s = ap json.array (each_alike (json_of g) (json_of h) (fits g) (λ d t. node_alike (path ++ 0 ∷ []) None None g h c d t) es s)
    form_alike path (choice cs p) (choice ds p') a b q c (alt i d) s = ap json.object (case_alike path 0 cs ds (q because.Alternatives).1 (q because.Names) c i d s)
    form_alike path (contained z g) (contained y h) a b q c d s = node_alike (path ++ 0 ∷ []) None None g h c d s
    form_alike path (octets z) (octets y) a b q c _ s = cc
    form_alike path (bits z) (bits y) a b q c _ s = cc
    form_alike path (text l) (text m) a b q c _ s = cc
    form_alike path (seq fs home) (seq gs home') a b q c _ s = cc
    form_alike path (list z g) (list y h) a b q c _ s = cc
    form_alike path (choice cs p) (choice ds p') a b q c _ s = cc
    form_alike path (num l) _ a b q c d s = absurd (q because.Kind)
    form_alike path (octets z) _ a b q c d s = absurd (q because.Kind)
    form_alike path (bits z) _ a b q c d s = absurd (q because.Kind)
    form_alike path (text l) _ a b q c d s = absurd (q because.Kind)
    form_alike path (seq fs home) _ a b q c d s = absurd (q because.Kind)
    form_alike path (list z g) _ a b q c d s = absurd (q because.Kind)
    form_alike path (choice cs p) _ a b q c d s = absurd (q because.Kind)
    form_alike path (contained z g) _ a b q c d s = absurd (q because.Kind)

    fields_alike : (path : List ℕ) (k : ℕ) (fs gs : Fields) → length (heads fs) ≡ length (heads gs) → Together (λ h k. h.inserted ≡ k.inserted) (heads fs) (heads gs) → Together (λ h k. h.inserted ≡ false → k.inserted ≡ false → h.name ≡ k.name) (heads fs) (heads gs) → AllAgree by (field_places path k fs gs)
        → (found : Members) (ps : Places) → fields_fit fs ps ≡ true → fields_json found fs ps ≡ fields_json found gs ps
    fields_alike path k no_fields no_fields l i n c found ps s = refl
    fields_alike path k no_fields (component m h p def own gs) l i n c found ps s = absurd (omega arith)
    fields_alike path k no_fields (inserted m h own gs) l i n c found ps s = absurd (omega arith)
    fields_alike path k (component m g p def own fs) no_fields l i n c found ps s = absurd (omega arith)
    fields_alike path k (inserted m g own fs) no_fields l i n c found ps s = absurd (omega arith)
    fields_alike path k (component m g p def own fs) (inserted m' h own' gs) l i n c found ps s = cc
    fields_alike path k (inserted m g own fs) (component m' h p' def' own' gs) l i n c found ps s = cc
    fields_alike path k (inserted m g own fs) (inserted m' h own' gs) l i n c found ps s =
        fields_alike path (suc k) fs gs (omega arith) i.1 n.1 (all_parts _ (places (path ++ k ∷ []) own own' g h) (field_places path (suc k) fs gs) c).1 found ps s
    fields_alike path k (component m g p def own fs) (component m' h p' def' own' gs) l i n c found (filled d ps) s =
        let cs = all_parts _ (places (path ++ k ∷ []) own own' g h) (field_places path (suc k) fs gs) c in
        let two = and_parts (fits g d) (fields_fit fs ps) s in
        ap (λ z. fields_json (put z (json_of g d) found) fs ps) (n.0 refl refl)
        ∙ ap (λ z. fields_json (put m' z found) fs ps) (node_alike (path ++ k ∷ []) own own' g h cs.0 d two.0)
        ∙ fields_alike path (suc k) fs gs (omega arith) i.1 n.1 cs.1 (put m' (json_of h d) found) ps two.1
    fields_alike path k (component m g p def own fs) (component m' h p' def' own' gs) l i n c found (empty ps) s =
        let two = and_parts (may_be_absent p) (fields_fit fs ps) s in
        fields_alike path (suc k) fs gs (omega arith) i.1 n.1 (all_parts _ (places (path ++ k ∷ []) own own' g h) (field_places path (suc k) fs gs) c).1 found ps two.1
    fields_alike path k (component m g p def own fs) (component m' h p' def' own' gs) l i n c found no_places s = cc

    case_alike : (path : List ℕ) (k : ℕ) (cs ds : Alternatives) → count_of cs ≤ count_of ds → Together (λ c d. c.0 ≡ d.0) (conditions_of cs) (conditions_of ds) → AllAgree by (case_places path k cs ds) → (i : ℕ) (d : Data) → alternative_fits cs i d ≡ true → alternative_json cs i d ≡ alternative_json ds i d
    case_alike path k no_alternatives ds l n c i d s = cc
    case_alike path k (alternative m g ts cs) no_alternatives l n c i d s = absurd (omega arith)
    case_alike path k (alternative m g ts cs) (alternative m' h us ds) l n c zero d s =
        ap (λ z. member z (json_of g d) no_members) n.0 ∙ ap (λ z. member m' z no_members) (node_alike (path ++ k ∷ []) None None g h (all_parts _ (places (path ++ k ∷ []) None None g h) (case_places path (suc k) cs ds) c).0 d s)
    case_alike path k (alternative m g ts cs) (alternative m' h us ds) l n c (suc i) d s =
        case_alike path (suc k) cs ds (omega arith) n.1 (all_parts _ (places (path ++ k ∷ []) None None g h) (case_places path (suc k) cs ds) c).1 i d s

pub lines_are_alike : LinesAreAlike
lines_are_alike old new d c s = ap compact_text (node_alike (answering (placed old new)) [] None None old new c d s)
