-- A value that is spelled meets the constraints: nothing in it is a breach.
use Rattle.std.proofs.Common.{◌≡◌, ℕ, zero, suc, ℤ, pos, Bool, true, false, not, List, [], ◌∷◌, ◌++◌, length, Option, Some, None, refl, sym, ap, ◌∙◌, arith}
use Rattle.std.proofs.lemmas.Bool.{false_from_ne_true}
use Rattle.std.specs.Prelude.{take, drop, nat_lt}
use Rattle.std.specs.List.{AllByRecursion, position, position_or_len}
use Rattle.std.proofs.lemmas.Bool.Decides.{nat_tests}
use Rattle.acn_num.specs.Ranges.{In, has}
use Rattle.acn_grammar.specs.Asks.{same_name}
use Rattle.acn_grammar.specs.Code.{Mode}
use Rattle.acn_grammar.specs.Env.{Env}
use Rattle.acn_grammar.specs.Grammar.{Grammar, Form, Fields, Alternatives, Data, Places, Elements, node, num, octets, bits, text, seq, list, choice, contained, no_fields, component, inserted, no_alternatives, alternative, octet_string, bit_string, characters, record_of, list_of, alt, no_places, empty, filled, no_elements, element, element_count}
use Rattle.acn_grammar.specs.Length.{ending, number_of}
use Rattle.acn_grammar.specs.Meets.{Why, Unfit, out_of_range, size_out_of_range, bad_character, terminator_inside, unless, where_found, size_breach, first_end, end_breach, text_breach, at_path, run_breaches, breaches, form_breaches, field_breaches, alternative_breaches}
use Rattle.acn_grammar.specs.Spell.{Part, Spell, FormPart, FieldsPart, RunPart, ListPart, CharactersPart, EndedPart, EndsFirst, octet_numbers, AlternativePart}
use Rattle.acn_grammar.specs.declared.node.ChoiceRule.{ChoiceRule}
use Rattle.acn_grammar.specs.declared.node.Sizing.{Sizing}
use Rattle.acn_grammar.specs.declared.node.TextLeaf.{TextLeaf}
use Rattle.acn_grammar.proofs.SpellLength.{NumberOf-number_of}
use Rattle.acn_grammar.proofs.Characters.{same_name-is}
use Rattle.acn_grammar.proofs.FirstPlaces.{none_from}

no_position : (p : ℕ → Bool) (xs : List ℕ) → AllByRecursion (λ x. p x ≡ false) xs → position_or_len p xs ≡ length xs
no_position p [] h = refl
no_position p (x ∷ xs) h = let rest = no_position p xs h.1 in rw h.0 (omega (arith, rest))

none_at : (p : ℕ → Bool) (xs : List ℕ) → AllByRecursion (λ x. p x ≡ false) xs → position p xs ≡ None
none_at p xs h =
    let n = no_position p xs h in
    let t : nat_lt (position_or_len p xs) (length xs) ≡ false = grind (arith, nat_tests) in
    rw t refl

nothing : (a b : List Why) → a ≡ [] → b ≡ [] → a ++ b ≡ []
nothing a b p q = rw (p, q) refl

none_of : (a b : List Unfit) → a ≡ [] → b ≡ [] → a ++ b ≡ []
none_of a b p q = rw (p, q) refl

no_why : (path : List ℕ) (ws : List Why) → ws ≡ [] → at_path path ws ≡ []
no_why path ws e = rw e refl

fits : (b : Bool) (why : Why) → b ≡ true → unless b why ≡ []
fits b why h = rw h refl

sized : (sizing : Sizing) (n : ℕ) → In sizing.sizes (pos n) → size_breach sizing n ≡ []
sized sizing n h = fits (has sizing.sizes (pos n)) (size_out_of_range n) h

all_characters : (leaf : TextLeaf) (cs : List ℕ) (at : ℕ) (bs : List Bool) → CharactersPart leaf cs at bs → AllByRecursion (λ c. not (has leaf.alphabet (pos c)) ≡ false) cs
all_characters leaf [] at bs t = tt
all_characters leaf (c ∷ cs) at bs t = (ap not t.first.given, all_characters leaf cs _ t.back t.second)

characters_fit : (leaf : TextLeaf) (cs : List ℕ) (at : ℕ) (bs : List Bool) → CharactersPart leaf cs at bs → where_found (position (λ c. not (has leaf.alphabet (pos c))) cs) bad_character ≡ []
characters_fit leaf cs at bs t = ap (λ o. where_found o bad_character) (none_at (λ c. not (has leaf.alphabet (pos c))) cs (all_characters leaf cs at bs t))

ends_fit : (end cs : List ℕ) → EndsFirst end cs → where_found (first_end end cs) terminator_inside ≡ []
ends_fit end cs h = ap (λ o. where_found o terminator_inside) (none_from (λ i. same_name (take (length end) (drop i (cs ++ end))) end) 0 (length cs) (λ i l k. false_from_ne_true (same_name (take (length end) (drop i (cs ++ end))) end) (λ q. let far = h i (same_name-is (take (length end) (drop i (cs ++ end))) end q) in omega arith)))

text_fits : (o : Option (List Bool)) (leaf : TextLeaf) (env : Env) (cs : List ℕ) (at : ℕ) (bs : List Bool) → EndedPart o leaf env cs at bs
    → size_breach leaf.sized (length cs) ++ where_found (position (λ c. not (has leaf.alphabet (pos c))) cs) bad_character ++ end_breach o cs ≡ []
text_fits None leaf env cs at bs t =
    nothing (size_breach leaf.sized (length cs) ++ where_found (position (λ c. not (has leaf.alphabet (pos c))) cs) bad_character) []
    (nothing (size_breach leaf.sized (length cs)) (where_found (position (λ c. not (has leaf.alphabet (pos c))) cs) bad_character) (sized leaf.sized (length cs) t.first.given) (characters_fit leaf cs _ t.back t.second)) refl
text_fits (Some end) leaf env cs at bs t =
    nothing (size_breach leaf.sized (length cs) ++ where_found (position (λ c. not (has leaf.alphabet (pos c))) cs) bad_character) (end_breach (Some end) cs)
    (nothing (size_breach leaf.sized (length cs)) (where_found (position (λ c. not (has leaf.alphabet (pos c))) cs) bad_character) (sized leaf.sized (length cs) t.given.0) (characters_fit leaf cs at t.spelled.front t.spelled.first))
    (ends_fit (octet_numbers end) cs t.given.1)

run_fits : (each : Data → Part) (b : ℕ → Data → List Unfit) → ((k : ℕ) (d : Data) (at : ℕ) (bs : List Bool) → each d at bs → b k d ≡ []) → (k : ℕ) (es : Elements) (at : ℕ) (bs : List Bool) → RunPart each es at bs → run_breaches b k es ≡ []
run_fits each b h k no_elements at bs t = refl
run_fits each b h k (element d es) at bs t = none_of (b k d) (run_breaches b (suc k) es) (h k d at t.front t.first) (run_fits each b h (suc k) es _ t.back t.second)

list_fits : (o : Option (List Bool)) (sizing : Sizing) (env : Env) (each : Data → Part) (b : ℕ → Data → List Unfit) → ((k : ℕ) (d : Data) (at : ℕ) (bs : List Bool) → each d at bs → b k d ≡ []) → (path : List ℕ) (es : Elements) (at : ℕ) (bs : List Bool) → ListPart o sizing env each es at bs
    → at_path path (size_breach sizing (element_count es)) ++ run_breaches b 0 es ≡ []
list_fits None sizing env each b h path es at bs t =
    none_of (at_path path (size_breach sizing (element_count es))) (run_breaches b 0 es) (no_why path (size_breach sizing (element_count es)) (sized sizing (element_count es) t.first.given)) (run_fits each b h 0 es _ t.back t.second)
list_fits (Some p) sizing env each b h path es at bs t =
    none_of (at_path path (size_breach sizing (element_count es))) (run_breaches b 0 es) (no_why path (size_breach sizing (element_count es)) (sized sizing (element_count es) t.given)) (run_fits each b h 0 es at t.spelled.front t.spelled.first)

number_fits : (set : List (ℤ × ℤ)) (x y : ℤ) → x ≡ y → In set x → unless (has set y) (out_of_range y) ≡ []
number_fits set x y e h = fits (has set y) (out_of_range y) (ap (has set) (sym e) ∙ h)

module _ (root : Grammar) (mode : Mode) where
  mutual
    pub unbreached : (g : Grammar) (path : List ℕ) (env : Env) (d : Data) (at : ℕ) (bs : List Bool) → Spell root mode g env d at bs → breaches path g d ≡ []
    unbreached (node align form) path env d at bs t = form_fits form path env d _ t.back t.second

    form_fits : (form : Form) (path : List ℕ) (env : Env) (d : Data) (at : ℕ) (bs : List Bool) → FormPart root mode form env d at bs → form_breaches path form d ≡ []
    form_fits (num leaf) path env d at bs t = no_why path _ (number_fits leaf.set t.0 (number_of d) (NumberOf-number_of leaf.kind d t.0 t.1) t.2.permitted)
    form_fits (octets sizing) path env (octet_string os) at bs t = no_why path _ (sized sizing (length os) t.first.given)
    form_fits (bits sizing) path env (bit_string cs) at bs t = no_why path _ (sized sizing (length cs) t.first.given)
    form_fits (text leaf) path env (characters cs) at bs t = no_why path (text_breach leaf cs) (text_fits leaf.ended leaf env cs at bs t)
    form_fits (seq fields home) path env (record_of ps) at bs t = fields_fit fields path 0 _ ps _ t.spelled.back t.spelled.second
    form_fits (list sizing g) path env (list_of es) at bs t =
        list_fits (ending sizing.rule) sizing env (Spell root mode g env) (λ k d. breaches (path ++ k ∷ []) g d) (λ k d at' bs' u. unbreached g (path ++ k ∷ []) env d at' bs' u) path es at bs t
    form_fits (choice cases rule) path env (alt i d) at bs t = case_fits cases rule path i env i d _ t.back t.second
    form_fits (contained sizing g) path env d at bs t = unbreached g (path ++ 0 ∷ []) env d 0 t.spelled.second.inside.front t.spelled.second.inside.first
    form_fits _ path env d at bs t = absurd t.0

    fields_fit : (fs : Fields) (path : List ℕ) (k : ℕ) (env : Env) (ps : Places) (at : ℕ) (bs : List Bool) → FieldsPart root mode fs env ps at bs → field_breaches path k fs ps ≡ []
    fields_fit no_fields path k env no_places at bs t = refl
    fields_fit (component name g presence default own fs) path k env (filled d ps) at bs t =
        none_of (breaches (path ++ k ∷ []) g d) (field_breaches path (suc k) fs ps) (unbreached g (path ++ k ∷ []) env d at t.front t.first.spelled) (fields_fit fs path (suc k) env ps _ t.back t.second)
    fields_fit (component name g presence default own fs) path k env (empty ps) at bs t = fields_fit fs path (suc k) env ps at bs t.spelled
    fields_fit (inserted name g (Some s) fs) path k env ps at bs t = fields_fit fs path (suc k) env ps _ t.back t.second
    fields_fit (inserted name g None fs) path k env ps at bs t = fields_fit fs path (suc k) env ps _ t.back t.second
    fields_fit _ path k env ps at bs t = absurd t.0

    case_fits : (cases : Alternatives) (rule : ChoiceRule) (path : List ℕ) (i : ℕ) (env : Env) (j : ℕ) (d : Data) (at : ℕ) (bs : List Bool) → AlternativePart root mode cases rule env j d at bs → alternative_breaches path i cases j d ≡ []
    case_fits (alternative name g tests more) rule path i env zero d at bs t = unbreached g (path ++ i ∷ []) env d at bs t.spelled
    case_fits (alternative name g tests more) rule path i env (suc j) d at bs t = case_fits more rule path i env j d at bs t
    case_fits no_alternatives rule path i env j d at bs t = absurd t.0
