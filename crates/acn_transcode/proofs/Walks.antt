-- Texts that are put one behind the other, and what a walk knows where it puts them.
use Rattle.std.proofs.Common.{◌≡◌, ℕ, zero, suc, ◌+◌, ◌-◌, ◌≤◌, Bool, true, false, List, [], ◌∷◌, ◌++◌, ℤ, length, take, drop, slice_get, Result, Ok, Err, OnOk, if◌then◌else◌, nat_lt, rules, Option, Some, None, refl, sym, ap, subst, ◌∙◌, arith, append_assoc, append-nil, length-append}
use Rattle.std.proofs.lemmas.Bool.Decides.{nat_tests}
use Rattle.std.specs.Result.{is_ok, is_err}
use Rattle.json.specs.Print.{quoted}
use Rattle.serde_json.specs.Data.{Members, no_members, member}
use Rattle.serde_json.specs.Written.{compact_text, comma_if, items_text, members_text}
use Rattle.acn_bits.specs.Reading.{Reading, passed, window_of}
use Rattle.acn_grammar.specs.Env.{Env}
use Rattle.acn_grammar.specs.Fails.{Here, presence_count}
use Rattle.acn_grammar.specs.Grammar.{Grammar, Form, Fields, Data, Elements, node, num, seq, record_of, no_fields, no_places, empty, filled, component, inserted, no_elements, element}
use Rattle.acn_grammar.specs.View.{elements_of, places_of, grammar_of, form_of, alternatives_view, fields_view}
use Rattle.acn_grammar.specs.declared.node.Alternative.{Alternative}
use Rattle.acn_grammar.specs.declared.node.Body.TheVariants.{Num}
use Rattle.acn_grammar.specs.declared.node.Body.{the_lemmas as node_lemmas}
use Rattle.acn_grammar.specs.declared.node.Field.{Field}
use Rattle.acn_grammar.specs.declared.node.NumLeaf.{NumLeaf}
use Rattle.acn_grammar.specs.declared.node.Presence.{Presence}
use Rattle.acn_json.specs.Lines.{json_of, form_json, each_json, alternative_json}
use Rattle.acn_lines.specs.Order.{AreTurns, in_order}
use Rattle.acn_lines.specs.declared.turns.Turn.{Turn as KeyTurn}
use Rattle.acn_reads.specs.Decoded.{in_front, placed, FormRead, FormStands, Turn}
use Rattle.acn_reads.proofs.Homes.{left_of}
use Rattle.acn_reads.proofs.Runs.{in_front_all}
use Rattle.acn_reads.proofs.Seqs.{seq_ready}
use Rattle.acn_reads.proofs.Turns.{seq_read}
use Rattle.std.specs.Prelude.{filter, not}
use Rattle.acn_grammar.specs.Tree.{holds}
use Rattle.acn_transcode.specs.Puts.{Puts, Lays, Shows, IsNumber, IsLaid, AreLaid, PutsItems, some_before}
use Rattle.acn_transcode.specs.declared.draft.Draft.{Draft}
use Rattle.acn_transcode.specs.declared.draft.Part.{Part}
use Rattle.acn_transcode.specs.declared.draft.Part.TheVariants.{Away, Text, Number}
use Rattle.acn_transcode.specs.declared.draft.Span.{Span}

-- no field yet
pub none_laid : (all : Fields) (draft : Draft) → Lays all all [] draft draft
none_laid all draft = record { aside = refl; text = []; added = sym (append-nil _); parts = []; noted = sym (append-nil _); laid = λ more later ds h. h }

-- some fields, and some more
pub more_laid : (all mid rest : Fields) (done more : List (Option Data)) (old between new : Draft) → Lays all mid done old between → Lays mid rest more between new → Lays all rest (done ++ more) old new
more_laid all mid rest done more old between new p q = record {
  aside = q.aside ∙ p.aside;
  text = p.text ++ q.text;
  added = q.added ∙ (ap (λ t. t ++ q.text) p.added ∙ append_assoc old.text.items p.text q.text);
  parts = p.parts ++ q.parts;
  noted = q.noted ∙ (ap (λ s. s ++ q.parts) p.noted ∙ append_assoc old.parts.items p.parts q.parts);
  laid = λ behind later ds h.
      let texts : new.text.items ++ behind ≡ between.text.items ++ (q.text ++ behind) = ap (λ t. t ++ behind) q.added ∙ append_assoc between.text.items q.text behind in
      let inner = subst (λ t. AreLaid t mid (q.parts ++ later) (more ++ ds)) texts (q.laid behind later ds h) in
      let outer = subst (λ t. AreLaid t all (p.parts ++ (q.parts ++ later)) (done ++ (more ++ ds))) (sym texts) (p.laid (q.text ++ behind) (q.parts ++ later) (more ++ ds) inner) in
      subst (λ s. AreLaid (new.text.items ++ behind) all s ((done ++ more) ++ ds)) (sym (append_assoc p.parts q.parts later))
      (subst (λ x. AreLaid (new.text.items ++ behind) all (p.parts ++ (q.parts ++ later)) x) (sym (append_assoc done more ds)) outer);
}

take_front : {A : Type 0} (a b : List A) → take (length a) (a ++ b) ≡ a
take_front [] b = refl
take_front (x ∷ a) b = ap (λ t. x ∷ t) (take_front a b)

drop_front : {A : Type 0} (a b : List A) → drop (length a) (a ++ b) ≡ b
drop_front [] b = refl
drop_front (x ∷ a) b = drop_front a b

length_behind : {A : Type 0} (a b : List A) → length (a ++ b) - length a ≡ length b
length_behind a b = (let l = length-append a b in omega (arith, l))

-- what stands behind a text, in front of others
behind_text : {A : Type 0} (a b c : List A) → take (length (a ++ b) - length a) (drop (length a) ((a ++ b) ++ c)) ≡ b
behind_text a b c =
    ap (λ n. take n (drop (length a) ((a ++ b) ++ c))) (length_behind a b)
    ∙ (ap (λ t. take (length b) t) (ap (λ t. drop (length a) t) (append_assoc a b c) ∙ drop_front a (b ++ c)) ∙ take_front b c)

-- the text of a component
pub text_shown : (g : Grammar) (d : Data) (span : Span) (old new : Draft) → Puts (compact_text (json_of g d)) old new → span.from ≡ length old.text.items → span.to ≡ length new.text.items → Shows g (Text span) d old new
text_shown g d span old new p from to =
    let word = compact_text (json_of g d) in
    let long = length-append old.text.items word in
    let count = ap length p.added in
    let ends : span.to ≡ length (old.text.items ++ word) = to ∙ count in
    record {
      aside = p.aside;
      parts = p.parts;
      text = word;
      added = p.added;
      tells = λ more. (
        (let e = ends in omega (arith, from, e, long)),
        (let l = length-append new.text.items more in let e = ends in let w = ap length p.added in omega (arith, l, e, w)),
        subst (λ t. take (span.to - span.from) (drop span.from (t ++ more)) ≡ word) (sym p.added)
            (subst (λ n. take (n - span.from) (drop span.from ((old.text.items ++ word) ++ more)) ≡ word) (sym ends)
            (subst (λ n. take (length (old.text.items ++ word) - n) (drop n ((old.text.items ++ word) ++ more)) ≡ word) (sym from) (behind_text old.text.items word more))),
      );
    }

-- the number of one that is a number leaf
pub number_shown : (align : ℕ) (leaf : NumLeaf) (x : ℤ) (d : Data) (old new : Draft) → IsNumber (node align (num leaf)) x d → new.text.items ≡ old.text.items → new.aside.items ≡ old.aside.items → new.parts.items ≡ old.parts.items → Shows (node align (num leaf)) (Number x) d old new
number_shown align leaf x d old new is text aside parts = record { aside = aside; parts = parts; text = []; added = text ∙ sym (append-nil _); tells = λ more. is }

-- the texts of the same fields
pub fields_laid : (items fields : List Field) (ds : List (Option Data)) (old new : Draft) → items ≡ fields → Lays (fields_view fields) no_fields ds old new → Lays (fields_view items) no_fields ds old new
fields_laid items fields ds old new e p = subst (λ (x : List Field). Lays (fields_view x) no_fields ds old new) (sym e) p

-- and where the draft has other numbers of slots
pub laid_of : (items fields : List Field) (ds : List (Option Data)) (old mid new : Draft) → items ≡ fields → new.text.items ≡ mid.text.items → new.aside.items ≡ mid.aside.items → new.parts.items ≡ mid.parts.items → Lays (fields_view items) no_fields ds old mid → Lays (fields_view fields) no_fields ds old new
laid_of items fields ds old mid new e texts asides parts p = fields_laid fields items ds old new (sym e) (record {
  aside = asides ∙ p.aside;
  text = p.text;
  added = texts ∙ p.added;
  parts = p.parts;
  noted = parts ∙ p.noted;
  laid = λ more later xs h.
      subst (λ t. AreLaid (t ++ more) (fields_view items) (p.parts ++ later) (ds ++ xs)) (sym texts) (p.laid more later xs (subst (λ t. AreLaid (t ++ more) no_fields later xs) texts h));
})

-- a component that is there
pub there_laid : (name : List ℕ) (g : Grammar) (presence : Presence) (default : Option (List ℕ)) (own : Option ℕ) (fs : Fields) (d : Data) (part : Part) (old mid new : Draft)
    → Shows g part d old mid → new.text.items ≡ mid.text.items → new.aside.items ≡ mid.aside.items → new.parts.items ≡ mid.parts.items ++ part ∷ []
    → Lays (component name g presence default own fs) fs (Some d ∷ []) old new
there_laid name g presence default own fs d part old mid new p texts asides parts = record {
  aside = asides ∙ p.aside;
  text = p.text;
  added = texts ∙ p.added;
  parts = part ∷ [];
  noted = parts ∙ ap (λ s. s ++ part ∷ []) p.parts;
  laid = λ more later ds h. (subst (λ t. IsLaid (t ++ more) part g (Some d)) (sym texts) (p.tells more), h);
}

-- one that is away
pub away_laid : (name : List ℕ) (g : Grammar) (presence : Presence) (default : Option (List ℕ)) (own : Option ℕ) (fs : Fields) (old new : Draft) → new.text.items ≡ old.text.items → new.aside.items ≡ old.aside.items → new.parts.items ≡ old.parts.items ++ Away ∷ []
    → Lays (component name g presence default own fs) fs (None ∷ []) old new
away_laid name g presence default own fs old new texts asides parts = record {
  aside = asides;
  text = [];
  added = texts ∙ sym (append-nil _);
  parts = Away ∷ [];
  noted = parts;
  laid = λ more later ds h. (tt, h);
}

-- a field without a text
pub passed_laid : (name : List ℕ) (g : Grammar) (slot : Option ℕ) (fs : Fields) (old new : Draft) → Puts [] old new → Lays (inserted name g slot fs) fs [] old new
passed_laid name g slot fs old new p = record { aside = p.aside; text = []; added = p.added; parts = []; noted = p.parts ∙ sym (append-nil _); laid = λ more later ds h. h }

-- Elements.

pub no_items_put : (g : Grammar) (draft : Draft) → PutsItems g [] draft draft
no_items_put g draft = record { goes = λ es. refl; aside = refl; parts = refl }

in_front_more : (a b : List Data) (es : Elements) → in_front (a ++ b) es ≡ in_front a (in_front b es)
in_front_more [] b es = refl
in_front_more (d ∷ a) b es = ap (element d) (in_front_more a b es)

some_behind : {A : Type 0} (xs : List A) (x : A) → some_before (xs ++ x ∷ []) ≡ true
some_behind [] x = refl
some_behind (y ∷ xs) x = refl

pub item_put : (g : Grammar) (ds : List Data) (d : Data) (later : Bool) (old mid comma new : Draft) → PutsItems g ds old mid → later ≡ some_before ds → comma.text.items ≡ mid.text.items ++ comma_if later → comma.aside.items ≡ mid.aside.items → comma.parts.items ≡ mid.parts.items
    → Puts (compact_text (json_of g d)) comma new → PutsItems g (ds ++ d ∷ []) old new
item_put g ds d later old mid comma new p is texts asides parts q = record {
  goes = λ es.
      let rest = items_text true (each_json (json_of g) es) in
      let word = compact_text (json_of g d) in
      let front : new.text.items ≡ (mid.text.items ++ comma_if (some_before ds)) ++ word = q.added ∙ ap (λ t. t ++ word) (texts ∙ ap (λ b. mid.text.items ++ comma_if b) is) in
      ap (λ b. new.text.items ++ items_text b (each_json (json_of g) es)) (some_behind ds d)
      ∙ (ap (λ t. t ++ rest) front
      ∙ (append_assoc (mid.text.items ++ comma_if (some_before ds)) word rest
      ∙ (append_assoc mid.text.items (comma_if (some_before ds)) (word ++ rest)
      ∙ (p.goes (element d es)
      ∙ ap (λ x. old.text.items ++ items_text false (each_json (json_of g) x)) (sym (in_front_more ds (d ∷ []) es))))));
  aside = q.aside ∙ (asides ∙ p.aside);
  parts = q.parts ∙ (parts ∙ p.parts);
}

-- an array, with its brackets
pub array_put : (g : Grammar) (ds : List Data) (old opened mid new : Draft) → opened.text.items ≡ old.text.items ++ 91 ∷ [] → opened.aside.items ≡ old.aside.items → opened.parts.items ≡ old.parts.items → PutsItems g ds opened mid
    → new.text.items ≡ mid.text.items ++ 93 ∷ [] → new.aside.items ≡ mid.aside.items → new.parts.items ≡ mid.parts.items → Puts (91 ∷ items_text false (each_json (json_of g) (elements_of ds))) old new
array_put g ds old opened mid new begun a s p ended b t = record {
  added = ended
      ∙ (p.goes no_elements
      ∙ (ap (λ x. opened.text.items ++ items_text false (each_json (json_of g) x)) (in_front_all ds)
      ∙ (ap (λ x. x ++ items_text false (each_json (json_of g) (elements_of ds))) begun ∙ append_assoc old.text.items (91 ∷ []) (items_text false (each_json (json_of g) (elements_of ds))))));
  aside = b ∙ (p.aside ∙ a);
  parts = t ∙ (p.parts ∙ s);
}

-- Answers.

pub when_ok : {A E P : Type 0} (r : Result A E) → is_ok r ≡ true → OnOk r P → P
when_ok (Ok x) h p = p
when_ok (Err e) h p = absurd cc

pub no_err : {A E P : Type 0} (r : Result A E) → is_err r ≡ false → OnOk r P → P
no_err (Ok x) h p = p
no_err (Err e) h p = absurd cc

pub if_true : {A : Type 0} (b : Bool) (x y z : A) → b ≡ true → x ≡ (if b then y else z) → x ≡ y
if_true b x y z h e = e ∙ ap (λ b. if b then y else z) h

pub later_is : (ds : List Data) (i : ℕ) → length ds ≡ i → nat_lt 0 i ≡ some_before ds
later_is ds i h = ap (λ n. nat_lt 0 n) (sym h) ∙ by ds
  where
    by : (xs : List Data) → nat_lt 0 (length xs) ≡ some_before xs
    by [] = refl
    by (x ∷ xs) = grind (arith, nat_tests)

pub one_longer : (ds : List Data) (d : Data) (i : ℕ) → length ds ≡ i → length (ds ++ d ∷ []) ≡ i + 1
one_longer ds d i h = length-append ds (d ∷ []) ∙ ap (λ n. n + 1) h

-- Forms.

pub view_num : (leaf : NumLeaf) → form_of (Num leaf) ≡ num leaf
view_num leaf = search (rules, node_lemmas)

-- a form was read, and the text of its value put
abbrev pub FormPut : (root : Grammar) → Form → (before later : Env) → (a b : Reading) → (old new : Draft) → Type 0
FormPut root form before later a b old new = (d : Data) × FormRead root form d before later a b × Puts (compact_text (form_json form d)) old new

pub seen_form : (root : Grammar) (seen_as form : Form) (before later : Env) (a b : Reading) (old new : Draft) → seen_as ≡ form → FormPut root form before later a b old new → FormPut root seen_as before later a b old new
seen_form root seen_as form before later a b old new e p = subst (λ (x : Form). FormPut root x before later a b old new) (sym e) p

-- Alternatives.

one_object : (a : List ℕ) (x : ℕ) (q : List ℕ) (y : ℕ) (w : List ℕ) (z : ℕ) → (((a ++ x ∷ []) ++ (q ++ y ∷ [])) ++ w) ++ z ∷ [] ≡ a ++ x ∷ (q ++ y ∷ (w ++ z ∷ []))
one_object a x q y w z =
    append_assoc ((a ++ x ∷ []) ++ (q ++ y ∷ [])) w (z ∷ [])
    ∙ (append_assoc (a ++ x ∷ []) (q ++ y ∷ []) (w ++ z ∷ [])
    ∙ (append_assoc a (x ∷ []) ((q ++ y ∷ []) ++ (w ++ z ∷ [])) ∙ ap (λ t. a ++ x ∷ t) (append_assoc q (y ∷ []) (w ++ z ∷ []))))

alternative_at : (as' : List Alternative) (i : ℕ) (a : Alternative) (d : Data) → slice_get as' i ≡ Some a → alternative_json (alternatives_view as') i d ≡ member a.name (json_of (grammar_of a.node) d) no_members
alternative_at [] i a d h = absurd cc
alternative_at (x ∷ xs) zero a d h = subst (λ (y : Alternative). alternative_json (alternatives_view (x ∷ xs)) 0 d ≡ member y.name (json_of (grammar_of y.node) d) no_members) (same h) (search (rules, node_lemmas))
  where
    same : ◌≡◌ {A = Option Alternative} (Some x) (Some a) → x ≡ a
    same e = cc
alternative_at (x ∷ xs) (suc i) a d h = alternative_at xs i a d h

-- the object of an alternative
pub alternative_put : (as' : List Alternative) (i : ℕ) (a : Alternative) (d : Data) (old opened keyed said new : List ℕ) → slice_get as' i ≡ Some a → opened ≡ old ++ 123 ∷ [] → keyed ≡ opened ++ (quoted a.name ++ 58 ∷ []) → said ≡ keyed ++ compact_text (json_of (grammar_of a.node) d) → new ≡ said ++ 125 ∷ []
    → new ≡ old ++ 123 ∷ members_text false (alternative_json (alternatives_view as') i d)
alternative_put as' i a d old opened keyed said new at o k w n =
    let word = compact_text (json_of (grammar_of a.node) d) in
    n
    ∙ (ap (λ t. t ++ 125 ∷ []) (w ∙ ap (λ t. t ++ word) (k ∙ ap (λ t. t ++ (quoted a.name ++ 58 ∷ [])) o))
    ∙ (one_object old 123 (quoted a.name) 58 word 125
    ∙ ap (λ (ms : Members). old ++ 123 ∷ members_text false ms) (sym (alternative_at as' i a d at))))

-- A SEQUENCE.

placed_all : (ds : List (Option Data)) → placed ds no_places ≡ places_of ds
placed_all [] = refl
placed_all (None ∷ ds) = ap empty (placed_all ds)
placed_all (Some d ∷ ds) = ap (filled d) (placed_all ds)

pub seq_put_read : (root : Grammar) (k k' : ℕ) (form : Form) (fields items : List Field) (home hs : List ℕ) (ds : List (Option Data)) (t t' left : Env) (a m b w : Reading) (n : ℕ) (flags' : List Bool)
    → form ≡ seq (fields_view fields) home → items ≡ fields → hs ≡ home → left ≡ filter (λ e. not (holds hs e.0)) t' → n ≡ presence_count (fields_view fields) → n ≤ length a.rest → w ≡ window_of n a → m ≡ passed n a
    → ((around : List ℕ) × FormStands root k form t around) → ((here : Here) → Turn root here m.origin 0 k' (fields_view items) no_fields ds t t' w.rest flags' m b) → FormRead root form (record_of (places_of ds)) t left a b
seq_put_read root k k' form fields items home hs ds t t' left a m b w n flags' v items_are hs_are left_is count room w_is moved r p =
    let here : Here = record { path = []; place = 0; inside = false } in
    let q = seq_ready root form fields home k t v r in
    let all : left ≡ left_of home t' = left_is ∙ ap (λ (h : List ℕ). filter (λ e. not (holds h e.0)) t') hs_are in
    subst (λ (x : Form). FormRead root x (record_of (places_of ds)) t left a b) (sym v) (subst (λ (x : Env). FormRead root (seq (fields_view fields) home) (record_of (places_of ds)) t x a b) (sym all)
    (seq_read root here m.origin 0 k' (fields_view fields) home q.0 k ds t t' a m b w.rest flags' q.1 (subst (λ (x : ℕ). x ≤ length a.rest) count room) (moved ∙ ap (λ (x : ℕ). passed x a) count) (ap (λ (r : Reading). r.rest) w_is ∙ ap (λ (x : ℕ). take x a.rest) count)
    (subst (λ (x : List Field). Turn root here m.origin 0 k' (fields_view x) no_fields ds t t' w.rest flags' m b) items_are (p here))))

behind_all : {A : Type 0} (a b : List A) → take (length (a ++ b) - length a) (drop (length a) (a ++ b)) ≡ b
behind_all a b = subst (λ x. take (length (a ++ b) - length a) (drop (length a) x) ≡ b) (append-nil (a ++ b)) (behind_text a b [])

-- the texts of all components, by the parts that were noted
whole_laid : (all : Fields) (ds : List (Option Data)) (old new : Draft) → (p : Lays all no_fields ds old new) → AreLaid new.text.items all p.parts ds
whole_laid all ds old new p =
    let whole = p.laid [] [] [] tt in
    let texts = subst (λ t. AreLaid t all (p.parts ++ []) (ds ++ [])) (append-nil new.text.items) whole in
    let parts = subst (λ s. AreLaid new.text.items all s (ds ++ [])) (append-nil p.parts) texts in
    subst (λ x. AreLaid new.text.items all p.parts x) (append-nil ds) parts

-- where the texts of all components stand
pub all_laid : (all : Fields) (ds : List (Option Data)) (old new : Draft) (first : ℕ) → Lays all no_fields ds old new → first ≡ length old.parts.items → AreLaid new.text.items all (take (length new.parts.items - first) (drop first new.parts.items)) ds
all_laid all ds old new first p from =
    let noted : take (length new.parts.items - first) (drop first new.parts.items) ≡ p.parts =
    ap (λ n. take (length new.parts.items - n) (drop n new.parts.items)) from
    ∙ (ap (λ s. take (length s - length old.parts.items) (drop (length old.parts.items) s)) p.noted ∙ behind_all old.parts.items p.parts) in
    subst (λ s. AreLaid new.text.items all s ds) (sym noted) (whole_laid all ds old new p)

-- where nothing was noted before
pub alone_laid : (all : Fields) (ds : List (Option Data)) (old new : Draft) → Lays all no_fields ds old new → old.parts.items ≡ [] → AreLaid new.text.items all new.parts.items ds
alone_laid all ds old new p none = subst (λ s. AreLaid new.text.items all s ds) (sym (p.noted ∙ ap (λ s. s ++ p.parts) none)) (whole_laid all ds old new p)

-- what was put aside is taken away
pub front_left : {A : Type 0} (old more grown new : List A) (mark : ℕ) → mark ≡ length old → grown ≡ old ++ more → new ≡ take mark grown → new ≡ old
front_left old more grown new mark m g n = n ∙ (ap (λ k. take k grown) m ∙ (ap (λ x. take (length old) x) g ∙ take_front old more))

-- the object of turns
pub object_put : (fs : Fields) (home : List ℕ) (turns : List KeyTurn) (ds : List (Option Data)) (form : Form) (old new : List ℕ) → form ≡ seq fs home → AreTurns fs turns → new ≡ old ++ 123 ∷ members_text false (in_order fs turns (placed ds no_places)) → new ≡ old ++ compact_text (form_json form (record_of (places_of ds)))
object_put fs home turns ds form old new v t e =
    e
    ∙ (ap (λ ps. old ++ 123 ∷ members_text false (in_order fs turns ps)) (placed_all ds)
    ∙ (ap (λ (ms : Members). old ++ 123 ∷ members_text false ms) (t.1 (places_of ds)) ∙ ap (λ (x : Form). old ++ compact_text (form_json x (record_of (places_of ds)))) (sym v)))
