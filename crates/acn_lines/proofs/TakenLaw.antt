-- Values, elements and alternatives from the tokens that were taken.
use Rattle.std.proofs.Common.{◌≡◌, ℕ, zero, suc, ◌+◌, ◌<◌, ◌≤◌, Bool, true, false, cond, List, [], ◌∷◌, ◌++◌, length, get_or, Option, Some, None, option_map, option_and_then, Ok, IsUtf8, refl, sym, ap, subst, ◌∙◌, arith, rules, append_assoc, length-append}
use Rattle.std.proofs.lemmas.Str.{is_utf8-from_IsUtf8}
use Rattle.json.specs.Token.{Token}
use Rattle.json.specs.Lex.{tokens}
use Rattle.json.specs.Json as tree
use Rattle.json.specs.Tree.{json_tokens, items_tokens, depth, items_depth}
use Rattle.json.proofs.Printed.Trees.{value-json_tokens}
use Rattle.serde_json.specs.Data as json
use Rattle.serde_json.specs.Read.{read, of_json, of_items, of_members, max_depth}
use Rattle.acn_grammar.specs.Asks.{same_name}
use Rattle.acn_grammar.specs.Grammar.{Grammar, Form, Alternatives, Data, Elements, node, list, choice, contained, no_alternatives, alternative, list_of, alt, no_elements, element}
use Rattle.acn_grammar.specs.Shaped.{fits}
use Rattle.acn_grammar.specs.Tree.{IsTree}
use Rattle.acn_grammar.specs.View.{alternatives_view, grammar_of}
use Rattle.acn_grammar.specs.declared.node.Alternative.{Alternative}
use Rattle.acn_grammar.specs.declared.node.Body.{the_lemmas as node_lemmas}
use Rattle.acn_grammar.specs.declared.node.ChoiceRule.{ChoiceRule}
use Rattle.acn_grammar.specs.declared.node.Sizing.{Sizing}
use Rattle.acn_json.specs.Few.{CanRead, AlternativesCanRead}
use Rattle.acn_json.specs.Reads.{after, made, or_shape, or_not_json, json_in, line_gives, each_from, value_from, form_from, alternative_from}
use Rattle.acn_json.proofs.CanReadLaw.{can_read}
use Rattle.acn_json.proofs.ShapedLaw.{gives-fits}
use Rattle.acn_lines.specs.Taken.{token_data, LeafTaken, IsTaken, AreTaken, alternative_number}

-- Leaves.

-- the JSON of one token
abbrev IsAlone : Token → json.Data → Type 0
IsAlone t d = (j : tree.Json) × ((rest : List Token) → t ∷ rest ≡ json_tokens j ++ rest) × (of_json j ≡ Some d) × (depth j ≡ 0)

alone : (t : Token) (d : json.Data) → token_data t ≡ Some d → IsAlone t d
alone (Token.string s) d h = (tree.string s, λ rest. refl, h, refl)
alone (Token.number s) d h = (tree.number s, λ rest. refl, h, refl)
alone (Token.boolean b) d h = (tree.boolean b, λ rest. refl, h, refl)
alone Token.null d h = (tree.null, λ rest. refl, h, refl)
alone Token.begin_object d h = cc
alone Token.end_object d h = cc
alone Token.begin_array d h = cc
alone Token.end_array d h = cc
alone (Token.key s) d h = cc
alone Token.bad d h = cc

pub leaf_taken : (form : Form) (from : json.Data → Option Data) (align : ℕ) (v : Data) (old new : List Token) → ((path : List ℕ) (j : json.Data) → form_from path form j ≡ or_shape path (from j)) → LeafTaken from v old new → IsTaken (node align form) v old new
leaf_taken form from align v old new same h =
    let j = alone h.token h.said h.is in
    record {
      text = j.0;
      said = h.said;
      tokens = h.tokens ∙ j.1 new;
      is = j.2;
      shallow = λ k n r room. (let flat = j.3 in omega arith);
      gives = λ path. same path h.said ∙ ap (or_shape path) h.gives;
    }

-- Tokens are used up.

some_token : (j : tree.Json) → 0 < length (json_tokens j)
some_token tree.null = omega arith
some_token (tree.boolean b) = omega arith
some_token (tree.number s) = omega arith
some_token (tree.string s) = omega arith
some_token (tree.array js) = omega arith
some_token (tree.object ms) = omega arith

pub taken_shorter : (g : Grammar) (v : Data) (old new : List Token) → IsTaken g v old new → length new < length old
taken_shorter g v old new h =
    let some = some_token h.text in
    let whole = ap length h.tokens in
    let both = length-append (json_tokens h.text) new in
    omega arith

-- A content.

pub content_taken : (sizing : Sizing) (g : Grammar) (align : ℕ) (v : Data) (old new : List Token) → IsTaken g v old new → IsTaken (node align (contained sizing g)) v old new
content_taken sizing g align v old new h = record {
  text = h.text;
  said = h.said;
  tokens = h.tokens;
  is = h.is;
  shallow = λ k n r room. h.shallow (k + 1) n r.1 (omega arith);
  gives = λ path. h.gives (path ++ 0 ∷ []);
}

-- Elements.

pub elements_end : (g : Grammar) (new : List Token) → AreTaken g no_elements (Token.end_array ∷ new) new
elements_end g new = record {
  texts = tree.no_items;
  said = json.no_items;
  tokens = refl;
  is = refl;
  shallow = λ k n r room. omega arith;
  gives = λ path at. refl;
}

pub elements_more : (g : Grammar) (v : Data) (vs : Elements) (old mid new : List Token) → IsTaken g v old mid → AreTaken g vs mid new → AreTaken g (element v vs) old new
elements_more g v vs old mid new h more = record {
  texts = tree.item h.text more.texts;
  said = json.item h.said more.said;
  tokens = h.tokens ∙ (ap (λ ts. json_tokens h.text ++ ts) more.tokens ∙ sym (append_assoc (json_tokens h.text) (items_tokens more.texts) new));
  is = ap (option_and_then (λ d. option_map (json.item d) (of_items more.texts))) h.is ∙ ap (option_map (json.item h.said)) more.is;
  shallow = λ k n r room. (let a = h.shallow k n r room in let b = more.shallow k n r room in omega arith);
  gives = λ path at. ap (λ r. after r (λ x. made (element x) (each_from (λ k j. value_from (path ++ k ∷ []) g j) (at + 1) more.said))) (h.gives (path ++ at ∷ [])) ∙ ap (made (element v)) (more.gives path (at + 1));
}

deeper : (k n d : ℕ) → k ≤ 64 → 65 ≤ k + n → ((m : ℕ) → 65 ≤ k + 1 + m → d ≤ m) → suc d ≤ n
deeper k zero d few room h = absurd (omega arith)
deeper k (suc n) d few room h = (let a = h n (omega arith) in omega arith)

pub list_taken : (g : Grammar) (vs : Elements) (old mid new : List Token) (align : ℕ) (sizing : Sizing) → old ≡ Token.begin_array ∷ mid → AreTaken g vs mid new → IsTaken (node align (list sizing g)) (list_of vs) old new
list_taken g vs old mid new align sizing opened h = record {
  text = tree.array h.texts;
  said = json.array h.said;
  tokens = opened ∙ ap (λ ts. Token.begin_array ∷ ts) h.tokens;
  is = ap (option_map json.array) h.is;
  shallow = λ k n r room. deeper k n (items_depth h.texts) r.0 room (λ m more. h.shallow (k + 1) m r.1 more);
  gives = λ path. ap (made list_of) (h.gives path 0);
}

-- Alternatives.

abbrev pub grammar_at : Alternatives → ℕ → Option Grammar
grammar_at no_alternatives i = None
grammar_at (alternative name g tests more) zero = Some g
grammar_at (alternative name g tests more) (suc i) = grammar_at more i

pub view_alternative : (x : Alternative) (xs : List Alternative) → alternatives_view (x ∷ xs) ≡ alternative x.name (grammar_of x.node) x.tests (alternatives_view xs)
view_alternative x xs = search (rules, node_lemmas)

pub alternative_is : (as' : List Alternative) (i : ℕ) (a : Alternative) → i < length as' → a ≡ get_or as' i a → grammar_at (alternatives_view as') i ≡ Some (grammar_of a.node)
alternative_is [] i a h e = absurd (omega arith)
alternative_is (x ∷ xs) zero a h e = subst (λ y. grammar_at (alternatives_view (x ∷ xs)) zero ≡ Some (grammar_of y.node)) (sym e) (ap (λ c. grammar_at c zero) (view_alternative x xs))
alternative_is (x ∷ xs) (suc i) a h e = alternative_is xs i a (omega arith) e

-- the alternative of a number, the alternatives being numbered from k
abbrev Leads : List ℕ → ℕ → Alternatives → Option ℕ → Type 0
Leads name k cases None = Unit {0}
Leads name k cases (Some n) = (i : ℕ) × (n ≡ k + i) × ((g : Grammar) → grammar_at cases i ≡ Some g → (path : List ℕ) (d : json.Data) → alternative_from path k cases name d ≡ made (alt n) (value_from (path ++ n ∷ []) g d))

same_some : (g h : Grammar) → Some g ≡ Some h → h ≡ g
same_some g h e = cc

leads : (name : List ℕ) (k : ℕ) (cases : Alternatives) → Leads name k cases (alternative_number name k cases)
leads name k no_alternatives = tt
leads name k (alternative own g tests more) = go (same_name own name) refl (alternative_number name (k + 1) more) (leads name (k + 1) more)
  where
    go : (b : Bool) → same_name own name ≡ b → (o : Option ℕ) → Leads name (k + 1) more o → Leads name k (alternative own g tests more) (cond b (Some k) o)
    go true e o h = (0, omega arith, λ f is path d. rw (e, same_some g f is) refl)
    go false e None h = tt
    go false e (Some n) h = (suc h.0, (let m = h.1 in omega arith), λ f is path d. rw e (h.2 f is path d))

can_alternative : (k : ℕ) (cases : Alternatives) (i : ℕ) (g : Grammar) → AlternativesCanRead k cases → grammar_at cases i ≡ Some g → CanRead k g
can_alternative k no_alternatives i g r e = cc
can_alternative k (alternative name f tests more) zero g r e = subst (CanRead k) (sym (same_some f g e)) r.0
can_alternative k (alternative name f tests more) (suc i) g r e = can_alternative k more i g r.1 e

pub alternative_taken : (cases : Alternatives) (i : ℕ) (name : List ℕ) (g : Grammar) (v : Data) (old inside rest new : List Token) (align : ℕ) (rule : ChoiceRule) → Some i ≡ alternative_number name 0 cases → grammar_at cases i ≡ Some g
    → old ≡ Token.begin_object ∷ Token.key name ∷ inside → IsTaken g v inside rest → rest ≡ Token.end_object ∷ new → IsTaken (node align (choice cases rule)) (alt i v) old new
alternative_taken cases i name g v old inside rest new align rule number is opened h closed = record {
  text = tree.object (tree.member name h.text tree.no_members);
  said = json.object (json.member name h.said json.no_members);
  tokens = opened ∙ ap (λ ts. Token.begin_object ∷ Token.key name ∷ ts) (h.tokens ∙ (ap (λ ts. json_tokens h.text ++ ts) closed ∙ sym (append_assoc (json_tokens h.text) (Token.end_object ∷ []) new)));
  is = ap (λ o. option_map json.object (option_and_then (λ d. of_members tree.no_members (json.put name d json.no_members)) o)) h.is;
  shallow = λ k n r room. deeper k n _ r.0 room (λ m more. (let a = h.shallow (k + 1) m (can_alternative (k + 1) cases i g r.1.1 is) more in omega arith));
  gives = λ path. (let l = subst (Leads name 0 cases) (sym number) (leads name 0 cases) in let at : l.0 ≡ i = (let e = l.1 in omega arith) in l.2 g (ap (grammar_at cases) at ∙ is) path h.said ∙ ap (made (alt i)) (h.gives (path ++ i ∷ [])));
}

-- a number that was found is one of an alternative
pub number_within : (name : List ℕ) (k i : ℕ) (as' : List Alternative) → Some i ≡ alternative_number name k (alternatives_view as') → i < k + length as'
number_within name k i [] e = cc
number_within name k i (x ∷ xs) e = go (same_name x.name name) (e ∙ ap (alternative_number name k) (view_alternative x xs)) (λ h. (let m = number_within name (k + 1) i xs h in omega arith))
  where
    go : (b : Bool) → Some i ≡ cond b (Some k) (alternative_number name (k + 1) (alternatives_view xs)) → (Some i ≡ alternative_number name (k + 1) (alternatives_view xs) → i < k + suc (length xs)) → i < k + suc (length xs)
    go true h later = (let same : i ≡ k = cc in omega arith)
    go false h later = later h

-- The whole line.

json-is : (line : List ℕ) (j : json.Data) → IsUtf8 line → read line ≡ Some j → json_in line ≡ Some j
json-is line j u h = rw (is_utf8-from_IsUtf8 line u) h

abbrev whole : Option (tree.Json × List Token) → Option json.Data
whole o = option_and_then of_json (option_and_then (λ p. tree.if_last p.0 p.1) o)

pub line_taken : (g : Grammar) (v : Data) (line : List ℕ) → IsTree g → IsUtf8 line → IsTaken g v (tokens line) [] → Ok v ≡ line_gives g line
line_taken g v line t u h =
    let shallow = h.shallow 0 127 (can_read g t) (omega arith) in
    let is : read line ≡ Some h.said = ap whole (ap (tree.value max_depth) h.tokens ∙ value-json_tokens h.text max_depth [] shallow) ∙ h.is in
    sym (ap (λ o. after (or_not_json o) (value_from [] g)) (json-is line h.said u is) ∙ h.gives [])

pub line_fits : (g : Grammar) (v : Data) (line : List ℕ) → Ok v ≡ line_gives g line → fits g v ≡ true
line_fits g v line h = go (json_in line) h
  where
    go : (o : Option json.Data) → Ok v ≡ after (or_not_json o) (value_from [] g) → fits g v ≡ true
    go None h = cc
    go (Some d) h = gives-fits g [] d v h
