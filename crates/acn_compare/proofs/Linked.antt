-- Slots that answer to each other have fields at one place each, so they are linked.
use Rattle.std.proofs.Common.{◌≡◌, ℕ, zero, suc, ◌+◌, ◌<◌, ◌≤◌, ℤ, Bool, true, false, ◌&&◌, ◌||◌, List, [], ◌∷◌, ◌++◌, length, Option, Some, None, refl, sym, ap, ◌∙◌, arith, subst, nat_eq}
use Rattle.std.proofs.lemmas.Bool.{and_parts, eqb-true}
use Rattle.std.specs.Prelude.{if◌then◌else◌, unwrap_or, option_map, nat_le}
use Rattle.std.specs.List.{range_with_len, list_all, cons_option}
use Rattle.acn_num.specs.Ranges.{In}
use Rattle.acn_grammar.specs.Asks.{same_name}
use Rattle.acn_grammar.specs.Grammar.{Grammar, Form, Fields, Alternatives, node, num, octets, seq, list, choice, contained, component, inserted, alternative}
use Rattle.acn_grammar.specs.Slots.{domain_of, items_of, slot_leaf}
use Rattle.acn_grammar.specs.Scoped.{Known, with_own, with_slot, after, choose_known}
use Rattle.acn_grammar.specs.Sound.{Sound, FormSound, FieldsSound, AlternativesSound, SaysSlot, OwnSound}
use Rattle.acn_grammar.specs.Tree.{IsTree, slots_of, stand_rules, all_true}
use Rattle.acn_grammar.specs.Walk.{Stand, Role, root_node, an_element, a_content, an_inserted, component_role, alternative_role, nodes, form_nodes, field_nodes, alternative_nodes, nodes_of, slot_here}
use Rattle.acn_grammar.specs.declared.limits.TheConstants.{MOST_NODES}
use Rattle.acn_grammar.specs.declared.node.ChoiceRule.{ChoiceRule}
use Rattle.acn_grammar.specs.declared.node.NumLeaf.{NumLeaf}
use Rattle.acn_grammar.specs.declared.node.Presence.{Presence}
use Rattle.acn_grammar.specs.declared.node.Sizing.{Sizing}
use Rattle.acn_grammar.specs.declared.node.SizeRule.TheVariants.{Prefix}
use Rattle.acn_compare.specs.Accepts.{Answering, answers, answering, slot_pair, Place, places, form_places, field_places, case_places, placed, Agree, AllAgree, Accepts}
use Rattle.acn_compare.specs.declared.answer.Reason.{Reason}
use Rattle.acn_compare.specs.declared.answer.Reason.TheVariants as because
use Rattle.acn_compare.proofs.Renamed.{AreLinked}
use Rattle.acn_compare.proofs.Reading.{all_parts, answers_append, answering_append}

-- How often a number stands in a list.

abbrev times : ℕ → List ℕ → ℕ
times s [] = 0
times s (t ∷ ts) = (if nat_eq t s then 1 else 0) + times s ts

times-append : (s : ℕ) (xs ys : List ℕ) → times s (xs ++ ys) ≡ times s xs + times s ys
times-append s [] ys = omega arith
times-append s (x ∷ xs) ys = (let r = times-append s xs ys in omega arith)

none : (n : ℕ) → 0 ≤ n
none n = omega arith

no_sizes : Sizing
no_sizes = record { sizes = []; rule = Prefix 0 0 }

cons-append : (o : Option ℕ) (xs ys : List ℕ) → cons_option o (xs ++ ys) ≡ cons_option o xs ++ ys
cons-append None xs ys = refl
cons-append (Some x) xs ys = refl

slots-append : (a b : List Stand) → slots_of (a ++ b) ≡ slots_of a ++ slots_of b
slots-append [] b = refl
slots-append (at ∷ a) b = ap (cons_option (slot_here at.role)) (slots-append a b) ∙ cons-append (slot_here at.role) (slots_of a) (slots_of b)

slots_split : (s : ℕ) (a b : List Stand) → times s (slots_of (a ++ b)) ≡ times s (slots_of a) + times s (slots_of b)
slots_split s a b = ap (times s) (slots-append a b) ∙ times-append s (slots_of a) (slots_of b)

times-cons : (s : ℕ) (o : Option ℕ) (xs : List ℕ) → times s (cons_option o xs) ≡ times s (cons_option o []) + times s xs
times-cons s None xs = omega arith
times-cons s (Some t) xs = omega arith

times-slots : (s : ℕ) (at : Stand) (rest : List Stand) → times s (slots_of (at ∷ rest)) ≡ times s (slots_of (record { path = []; around = []; role = at.role; align = 1; form = octets no_sizes } ∷ [])) + times s (slots_of rest)
times-slots s at rest = times-cons s (slot_here at.role) (slots_of rest)

joined : (s : ℕ) {a b c x y z : ℕ} → a ≡ b + c → x ≡ y + z → b ≤ y → c ≤ z → a ≤ x
joined s e f p q = omega arith

-- the older slots that answer, as a list
abbrev olds : Answering → List ℕ
olds [] = []
olds (a ∷ as') = a.0 ∷ olds as'

olds-append : (as' bs : Answering) → olds (as' ++ bs) ≡ olds as' ++ olds bs
olds-append [] bs = refl
olds-append (a ∷ as') bs = ap (λ z. a.0 ∷ z) (olds-append as' bs)

olds_split : (s : ℕ) (xs ys : List Place) → times s (olds (answering (xs ++ ys))) ≡ times s (olds (answering xs)) + times s (olds (answering ys))
olds_split s xs ys = ap (λ z. times s (olds z)) (answering_append xs ys) ∙ ap (times s) (olds-append (answering xs) (answering ys)) ∙ times-append s (olds (answering xs)) (olds (answering ys))

olds_pair : (s : ℕ) (own own' : Option ℕ) (role : Role) → slot_here role ≡ own → times s (olds (slot_pair own own')) ≤ times s (slots_of (record { path = []; around = []; role = role; align = 1; form = octets no_sizes } ∷ []))
olds_pair s None own' role e = omega arith
olds_pair s (Some t) None role e = omega arith
olds_pair s (Some t) (Some u) role e = rw e (omega arith)

mutual
  olds_node : (s : ℕ) (role : Role) (path path' around : List ℕ) (own own' : Option ℕ) (g h : Grammar) → slot_here role ≡ own → times s (olds (answering (places path own own' g h))) ≤ times s (slots_of (nodes role path' around g))
  olds_node s role path path' around own own' (node a f) (node b f') e =
      let p = olds_pair s own own' role e in
      let q = olds_form s path path' around f f' in
      let m = ap (times s) (olds-append (slot_pair own own') (answering (form_places path f f'))) ∙ times-append s (olds (slot_pair own own')) (olds (answering (form_places path f f'))) in
      let n = times-slots s (record { path = path'; around = around; role = role; align = a; form = f }) (form_nodes path' around f) in
      omega (arith, p, q, m, n)

  olds_form : (s : ℕ) (path path' around : List ℕ) (f f' : Form) → times s (olds (answering (form_places path f f'))) ≤ times s (slots_of (form_nodes path' around f))
  olds_form s path path' around (seq fs home) (seq gs home') = olds_fields s path path' (home ++ around) 0 0 fs gs
  olds_form s path path' around (list z g) (list y h) = olds_node s an_element (path ++ 0 ∷ []) (path' ++ 0 ∷ []) around None None g h refl
  olds_form s path path' around (choice cs p) (choice ds q) = olds_cases s path path' around 0 0 p cs ds
  olds_form s path path' around (contained z g) (contained y h) = olds_node s a_content (path ++ 0 ∷ []) (path' ++ 0 ∷ []) around None None g h refl
  olds_form s path path' around f f' = none _

  olds_fields : (s : ℕ) (path path' around : List ℕ) (k m : ℕ) (fs gs : Fields) → times s (olds (answering (field_places path k fs gs))) ≤ times s (slots_of (field_nodes path' around m fs))
  olds_fields s path path' around k m (component n g p def own fs) (component n' h p' def' own' gs) =
      joined s (olds_split s (places (path ++ k ∷ []) own own' g h) (field_places path (suc k) fs gs)) (slots_split s (nodes (component_role n p def own) (path' ++ m ∷ []) around g) (field_nodes path' around (suc m) fs))
      (olds_node s (component_role n p def own) (path ++ k ∷ []) (path' ++ m ∷ []) around own own' g h refl) (olds_fields s path path' around (suc k) (suc m) fs gs)
  olds_fields s path path' around k m (inserted n g own fs) (inserted n' h own' gs) =
      joined s (olds_split s (places (path ++ k ∷ []) own own' g h) (field_places path (suc k) fs gs)) (slots_split s (nodes (an_inserted n own) (path' ++ m ∷ []) around g) (field_nodes path' around (suc m) fs))
      (olds_node s (an_inserted n own) (path ++ k ∷ []) (path' ++ m ∷ []) around own own' g h refl) (olds_fields s path path' around (suc k) (suc m) fs gs)
  olds_fields s path path' around k m fs gs = none _

  olds_cases : (s : ℕ) (path path' around : List ℕ) (k m : ℕ) (rule : ChoiceRule) (cs ds : Alternatives) → times s (olds (answering (case_places path k cs ds))) ≤ times s (slots_of (alternative_nodes rule path' around m cs))
  olds_cases s path path' around k m rule (alternative n g ts cs) (alternative n' h us ds) =
      joined s (olds_split s (places (path ++ k ∷ []) None None g h) (case_places path (suc k) cs ds)) (slots_split s (nodes (alternative_role n ts rule) (path' ++ m ∷ []) around g) (alternative_nodes rule path' around (suc m) cs))
      (olds_node s (alternative_role n ts rule) (path ++ k ∷ []) (path' ++ m ∷ []) around None None g h refl) (olds_cases s path path' around (suc k) (suc m) rule cs ds)
  olds_cases s path path' around k m rule cs ds = none _

-- the newer slots that answer, as a list
abbrev news : Answering → List ℕ
news [] = []
news (a ∷ as') = a.1 ∷ news as'

news-append : (as' bs : Answering) → news (as' ++ bs) ≡ news as' ++ news bs
news-append [] bs = refl
news-append (a ∷ as') bs = ap (λ z. a.1 ∷ z) (news-append as' bs)

news_split : (s : ℕ) (xs ys : List Place) → times s (news (answering (xs ++ ys))) ≡ times s (news (answering xs)) + times s (news (answering ys))
news_split s xs ys = ap (λ z. times s (news z)) (answering_append xs ys) ∙ ap (times s) (news-append (answering xs) (answering ys)) ∙ times-append s (news (answering xs)) (news (answering ys))

news_pair : (s : ℕ) (own own' : Option ℕ) (role : Role) → slot_here role ≡ own' → times s (news (slot_pair own own')) ≤ times s (slots_of (record { path = []; around = []; role = role; align = 1; form = octets no_sizes } ∷ []))
news_pair s None own' role e = omega arith
news_pair s (Some t) None role e = omega arith
news_pair s (Some t) (Some u) role e = rw e (omega arith)

mutual
  news_node : (s : ℕ) (role : Role) (path path' around : List ℕ) (own own' : Option ℕ) (g h : Grammar) → slot_here role ≡ own' → times s (news (answering (places path own own' g h))) ≤ times s (slots_of (nodes role path' around h))
  news_node s role path path' around own own' (node a f) (node b f') e =
      let p = news_pair s own own' role e in
      let q = news_form s path path' around f f' in
      let m = ap (times s) (news-append (slot_pair own own') (answering (form_places path f f'))) ∙ times-append s (news (slot_pair own own')) (news (answering (form_places path f f'))) in
      let n = times-slots s (record { path = path'; around = around; role = role; align = b; form = f' }) (form_nodes path' around f') in
      omega (arith, p, q, m, n)

  news_form : (s : ℕ) (path path' around : List ℕ) (f f' : Form) → times s (news (answering (form_places path f f'))) ≤ times s (slots_of (form_nodes path' around f'))
  news_form s path path' around (seq fs home) (seq gs home') = news_fields s path path' (home' ++ around) 0 0 fs gs
  news_form s path path' around (list z g) (list y h) = news_node s an_element (path ++ 0 ∷ []) (path' ++ 0 ∷ []) around None None g h refl
  news_form s path path' around (choice cs p) (choice ds q) = news_cases s path path' around 0 0 q cs ds
  news_form s path path' around (contained z g) (contained y h) = news_node s a_content (path ++ 0 ∷ []) (path' ++ 0 ∷ []) around None None g h refl
  news_form s path path' around f f' = none _

  news_fields : (s : ℕ) (path path' around : List ℕ) (k m : ℕ) (fs gs : Fields) → times s (news (answering (field_places path k fs gs))) ≤ times s (slots_of (field_nodes path' around m gs))
  news_fields s path path' around k m (component n g p def own fs) (component n' h p' def' own' gs) =
      joined s (news_split s (places (path ++ k ∷ []) own own' g h) (field_places path (suc k) fs gs)) (slots_split s (nodes (component_role n' p' def' own') (path' ++ m ∷ []) around h) (field_nodes path' around (suc m) gs))
      (news_node s (component_role n' p' def' own') (path ++ k ∷ []) (path' ++ m ∷ []) around own own' g h refl) (news_fields s path path' around (suc k) (suc m) fs gs)
  news_fields s path path' around k m (inserted n g own fs) (inserted n' h own' gs) =
      joined s (news_split s (places (path ++ k ∷ []) own own' g h) (field_places path (suc k) fs gs)) (slots_split s (nodes (an_inserted n' own') (path' ++ m ∷ []) around h) (field_nodes path' around (suc m) gs))
      (news_node s (an_inserted n' own') (path ++ k ∷ []) (path' ++ m ∷ []) around own own' g h refl) (news_fields s path path' around (suc k) (suc m) fs gs)
  news_fields s path path' around k m fs gs = none _

  news_cases : (s : ℕ) (path path' around : List ℕ) (k m : ℕ) (rule : ChoiceRule) (cs ds : Alternatives) → times s (news (answering (case_places path k cs ds))) ≤ times s (slots_of (alternative_nodes rule path' around m ds))
  news_cases s path path' around k m rule (alternative n g ts cs) (alternative n' h us ds) =
      joined s (news_split s (places (path ++ k ∷ []) None None g h) (case_places path (suc k) cs ds)) (slots_split s (nodes (alternative_role n' us rule) (path' ++ m ∷ []) around h) (alternative_nodes rule path' around (suc m) ds))
      (news_node s (alternative_role n' us rule) (path ++ k ∷ []) (path' ++ m ∷ []) around None None g h refl) (news_cases s path path' around (suc k) (suc m) rule cs ds)
  news_cases s path path' around k m rule cs ds = none _

-- Slots of a tree are numbered, so each has one field.

times_above : (s : ℕ) (xs : List ℕ) (a n : ℕ) → same_name xs (range_with_len a n) ≡ true → (times s xs ≤ 1) × (s < a → times s xs ≡ 0)
times_above s [] a n e = (omega arith, λ l. refl)
times_above s (x ∷ xs) a zero e = cc
times_above s (x ∷ xs) a (suc n) e =
    let f = and_parts (nat_eq x a) (same_name xs (range_with_len (a + 1) n)) e in
    by (nat_eq x s) refl (eqb-true x a f.0) (times_above s xs (a + 1) n f.1)
  where
    by : (t : Bool) → nat_eq x s ≡ t → x ≡ a → (times s xs ≤ 1) × (s < a + 1 → times s xs ≡ 0) → (times s (x ∷ xs) ≤ 1) × (s < a → times s (x ∷ xs) ≡ 0)
    by true e is r =
        let same = eqb-true x s e in
        let z = r.1 (omega arith) in
        rw e (omega arith, λ l. absurd (omega arith))
    by false e is r = rw e (omega (arith, r.0), λ l. (let z = r.1 (omega arith) in omega arith))

once : (root : Grammar) → IsTree root → (s : ℕ) → times s (slots_of (nodes_of root)) ≤ 1
once root tree s =
    let all = nodes_of root in
    let a = and_parts (nat_le (length all) MOST_NODES) (same_name (slots_of all) (range_with_len 0 (length (slots_of all))) && list_all (λ at. all_true (stand_rules all at)) all) tree in
    let b = and_parts (same_name (slots_of all) (range_with_len 0 (length (slots_of all)))) (list_all (λ at. all_true (stand_rules all at)) all) a.1 in
    (times_above s (slots_of all) 0 (length (slots_of all)) b.0).0

-- one number that answers

or_else : {F : Type 0} (a b : Bool) → (a || b) ≡ true → (a ≡ true → F) → (b ≡ true → F) → F
or_else {F} true b h f g = f refl
or_else {F} false b h f g = g h

self_one : (s : ℕ) (ts : List ℕ) → 1 ≤ times s (s ∷ ts)
self_one s ts = (let e : nat_eq s s ≡ true = grind arith in rw e (omega arith))

olds_have : (by : Answering) (s t : ℕ) → answers by s t ≡ true → 1 ≤ times s (olds by)
olds_have [] s t h = cc
olds_have (a ∷ as') s t h = or_else {F = 1 ≤ times s (olds (a ∷ as'))} (nat_eq a.0 s && nat_eq a.1 t) (answers as' s t) h
    (λ q. let f = and_parts (nat_eq a.0 s) (nat_eq a.1 t) q in rw f.0 (omega arith))
    (λ q. let r = olds_have as' s t q in omega arith)

news_have : (by : Answering) (s t : ℕ) → answers by s t ≡ true → 1 ≤ times t (news by)
news_have [] s t h = cc
news_have (a ∷ as') s t h = or_else {F = 1 ≤ times t (news (a ∷ as'))} (nat_eq a.0 s && nat_eq a.1 t) (answers as' s t) h
    (λ q. let f = and_parts (nat_eq a.0 s) (nat_eq a.1 t) q in rw f.1 (omega arith))
    (λ q. let r = news_have as' s t q in omega arith)

olds_tail : (a : ℕ × ℕ) (by : Answering) (s : ℕ) → times s (olds (a ∷ by)) ≤ 1 → times s (olds by) ≤ 1
olds_tail a by s h = omega arith

news_tail : (a : ℕ × ℕ) (by : Answering) (s : ℕ) → times s (news (a ∷ by)) ≤ 1 → times s (news by) ≤ 1
news_tail a by s h = omega arith

one_new : (by : Answering) (s t t' : ℕ) → times s (olds by) ≤ 1 → answers by s t ≡ true → answers by s t' ≡ true → t ≡ t'
one_new [] s t t' few h k = cc
one_new (a ∷ as') s t t' few h k =
    let inner = one_new as' s t t' (olds_tail a as' s few) in
    or_else {F = t ≡ t'} (nat_eq a.0 s && nat_eq a.1 t) (answers as' s t) h
    (λ q. or_else {F = t ≡ t'} (nat_eq a.0 s && nat_eq a.1 t') (answers as' s t') k
    (λ r. sym (eqb-true a.1 t (and_parts (nat_eq a.0 s) (nat_eq a.1 t) q).1) ∙ eqb-true a.1 t' (and_parts (nat_eq a.0 s) (nat_eq a.1 t') r).1)
    (λ r. absurd (twice_old s a as' few (and_parts (nat_eq a.0 s) (nat_eq a.1 t) q).0 (olds_have as' s t' r))))
    (λ q. or_else {F = t ≡ t'} (nat_eq a.0 s && nat_eq a.1 t') (answers as' s t') k
    (λ r. absurd (twice_old s a as' few (and_parts (nat_eq a.0 s) (nat_eq a.1 t') r).0 (olds_have as' s t q)))
    (λ r. inner q r))
  where
    twice_old : (s : ℕ) (a : ℕ × ℕ) (as' : Answering) → times s (olds (a ∷ as')) ≤ 1 → nat_eq a.0 s ≡ true → 1 ≤ times s (olds as') → ⊥
    twice_old s a as' few e some = (let m : times s (olds (a ∷ as')) ≡ 1 + times s (olds as') = rw e refl in omega arith)

one_old : (by : Answering) (s s' t : ℕ) → times t (news by) ≤ 1 → answers by s t ≡ true → answers by s' t ≡ true → s ≡ s'
one_old [] s s' t few h k = cc
one_old (a ∷ as') s s' t few h k =
    let inner = one_old as' s s' t (news_tail a as' t few) in
    or_else {F = s ≡ s'} (nat_eq a.0 s && nat_eq a.1 t) (answers as' s t) h
    (λ q. or_else {F = s ≡ s'} (nat_eq a.0 s' && nat_eq a.1 t) (answers as' s' t) k
    (λ r. sym (eqb-true a.0 s (and_parts (nat_eq a.0 s) (nat_eq a.1 t) q).0) ∙ eqb-true a.0 s' (and_parts (nat_eq a.0 s') (nat_eq a.1 t) r).0)
    (λ r. absurd (twice_new t a as' few (and_parts (nat_eq a.0 s) (nat_eq a.1 t) q).1 (news_have as' s' t r))))
    (λ q. or_else {F = s ≡ s'} (nat_eq a.0 s' && nat_eq a.1 t) (answers as' s' t) k
    (λ r. absurd (twice_new t a as' few (and_parts (nat_eq a.0 s') (nat_eq a.1 t) r).1 (news_have as' s t q)))
    (λ r. inner q r))
  where
    twice_new : (t : ℕ) (a : ℕ × ℕ) (as' : Answering) → times t (news (a ∷ as')) ≤ 1 → nat_eq a.1 t ≡ true → 1 ≤ times t (news as') → ⊥
    twice_new t a as' few e some = (let m : times t (news (a ∷ as')) ≡ 1 + times t (news as') = rw e refl in omega arith)

-- What stands at the place of the fields.

last_two : {A B : Type 0} → A × B → B
last_two p = p.1

first_two : {A B : Type 0} → A × B → A
first_two p = p.0

second_three : {A B C : Type 0} → A × B × C → B
second_three p = p.1

last_three : {A B C : Type 0} → A × B × C → C
last_three p = p.2

first_four : {A B C D : Type 0} → A × B × C × D → A
first_four p = p.0

third_four : {A B C D : Type 0} → A × B × C × D → C
third_four p = p.2

last_four : {A B C D : Type 0} → A × B × C × D → D
last_four p = p.3

second_five : {A B C D E : Type 0} → A × B × C × D × E → B
second_five p = p.1

fourth_five : {A B C D E : Type 0} → A × B × C × D × E → D
fourth_five p = p.3

last_five : {A B C D E : Type 0} → A × B × C × D × E → E
last_five p = p.4

domain_is : (root : Grammar) (s : ℕ) (leaf : NumLeaf) → slot_leaf root s ≡ Some leaf → domain_of root s ≡ leaf.set
domain_is root s leaf e = ap (λ o. unwrap_or (option_map (λ l. l.set) o) []) e

items_are : (root : Grammar) (s : ℕ) (leaf : NumLeaf) → slot_leaf root s ≡ Some leaf → items_of root s ≡ leaf.items.items
items_are root s leaf e = ap (λ o. unwrap_or (option_map (λ l. l.items.items) o) []) e

-- the field says the slot's number
abbrev Said : Grammar → (around : List ℕ) → Known → Option ℕ → Grammar → Type 0
Said root around ks None g = Unit {0}
Said root around ks (Some s) g = SaysSlot root around ks s g

own_said : (root : Grammar) (around : List ℕ) (ks : Known) (own : Option ℕ) (presence : Presence) (g : Grammar) → OwnSound root around ks own presence g → Said root around ks own g
own_said root around ks None presence g h = tt
own_said root around ks (Some s) presence g h = last_two h

split : (xs ys : List Place) (s t : ℕ) → answers (answering (xs ++ ys)) s t ≡ true → (answers (answering xs) s t || answers (answering ys) s t) ≡ true
split xs ys s t h = sym (ap (λ z. answers z s t) (answering_append xs ys) ∙ answers_append (answering xs) (answering ys) s t) ∙ h

module _ (old new : Grammar) (by : Answering) where
  pub record LinkedAt (s t : ℕ) : Type 0 where
    pub domains : (x : ℤ) → In (domain_of old s) x → In (domain_of new t) x
    pub items : items_of old s ≡ items_of new t

  link_leaf : (around : List ℕ) (ks : Known) (around' : List ℕ) (ks' : Known) → (s t : ℕ) (a b : ℕ) (f f' : Form) → SaysSlot old around ks s (node a f) → SaysSlot new around' ks' t (node b f') → ((r : Reason) → Agree by r (node a f) (node b f')) → LinkedAt s t
  link_leaf around ks around' ks' s t a b (num l) (num m) p q c = record {
    domains = λ x h. subst (λ set. In set x) (sym (domain_is new t m (last_three q))) ((c because.Values).0 x (subst (λ set. In set x) (domain_is old s l (last_three p)) h));
    items = items_are old s l (last_three p) ∙ c because.Names ∙ sym (items_are new t m (last_three q));
  }
  link_leaf around ks around' ks' s t a b (num l) _ p q c = absurd (c because.Kind)
  link_leaf around ks around' ks' s t a b _ f' p q c = absurd p

  link_pair : (around : List ℕ) (ks : Known) (around' : List ℕ) (ks' : Known) → (own own' : Option ℕ) (a b : ℕ) (f f' : Form) → Said old around ks own (node a f) → Said new around' ks' own' (node b f') → ((r : Reason) → Agree by r (node a f) (node b f')) → (s t : ℕ) → answers (slot_pair own own') s t ≡ true → LinkedAt s t
  link_pair around ks around' ks' None own' a b f f' p q c s t h = cc
  link_pair around ks around' ks' (Some u) None a b f f' p q c s t h = cc
  link_pair around ks around' ks' (Some u) (Some v) a b f f' p q c s t h = or_else {F = LinkedAt s t} (nat_eq u s && nat_eq v t) false h
      (λ e. let both = and_parts (nat_eq u s) (nat_eq v t) e in
      subst (λ z. LinkedAt z t) (eqb-true u s both.0) (subst (λ z. LinkedAt u z) (eqb-true v t both.1) (link_leaf around ks around' ks' u v a b f f' p q c)))
      (λ e. cc)

  mutual
    link_node : (path : List ℕ) (own own' : Option ℕ) (g h : Grammar) (k k' : ℕ) (around around' : List ℕ) (ks ks' : Known) → Said old around ks own g → Said new around' ks' own' h → Sound old k around ks g → Sound new k' around' ks' h
        → AllAgree by (places path own own' g h) → (s t : ℕ) → answers (answering (places path own own' g h)) s t ≡ true → LinkedAt s t
    link_node path own own' (node a f) (node b f') k k' around around' ks ks' p q so sn c s t h =
        or_else {F = LinkedAt s t} (answers (slot_pair own own') s t) (answers (answering (form_places path f f')) s t) (sym (answers_append (slot_pair own own') (answering (form_places path f f')) s t) ∙ h)
        (λ e. link_pair around ks around' ks' own own' a b f f' p q c.0 s t e)
        (λ e. link_form path f f' k k' around around' ks ks' (last_three so) (last_three sn) c.1 s t e)

    link_form : (path : List ℕ) (f f' : Form) (k k' : ℕ) (around around' : List ℕ) (ks ks' : Known) → FormSound old k around ks f → FormSound new k' around' ks' f' → AllAgree by (form_places path f f') → (s t : ℕ) → answers (answering (form_places path f f')) s t ≡ true → LinkedAt s t
    link_form path (seq fs home) (seq gs home') k k' around around' ks ks' so sn c s t h = link_fields path 0 fs gs (suc k) (suc k') (home ++ around) (home' ++ around') ks ks' (last_two so) (last_two sn) c s t h
    link_form path (list z g) (list y h') k k' around around' ks ks' so sn c s t h = link_node (path ++ 0 ∷ []) None None g h' (suc k) (suc k') around around' ks ks' tt tt (last_five so) (last_five sn) c s t h
    link_form path (choice cs p) (choice ds q) k k' around around' ks ks' so sn c s t h = link_cases path 0 cs ds (suc k) (suc k') around around' ks ks' (last_four so) (last_four sn) c s t h
    link_form path (contained z g) (contained y h') k k' around around' ks ks' so sn c s t h = link_node (path ++ 0 ∷ []) None None g h' (suc k) (suc k') around around' ks ks' tt tt (last_four so) (last_four sn) c s t h
    link_form path f f' k k' around around' ks ks' so sn c s t h = cc

    link_fields : (path : List ℕ) (i : ℕ) (fs gs : Fields) (k k' : ℕ) (around around' : List ℕ) (ks ks' : Known) → FieldsSound old k around ks fs → FieldsSound new k' around' ks' gs → AllAgree by (field_places path i fs gs) → (s t : ℕ) → answers (answering (field_places path i fs gs)) s t ≡ true → LinkedAt s t
    link_fields path i (component n g p def own fs) (component n' h' p' def' own' gs) k k' around around' ks ks' so sn c s t h =
        let two = all_parts _ (places (path ++ i ∷ []) own own' g h') (field_places path (suc i) fs gs) c in
        or_else {F = LinkedAt s t} (answers (answering (places (path ++ i ∷ []) own own' g h')) s t) (answers (answering (field_places path (suc i) fs gs)) s t)
        (split (places (path ++ i ∷ []) own own' g h') (field_places path (suc i) fs gs) s t h)
        (λ e. link_node (path ++ i ∷ []) own own' g h' k k' around around' ks ks' (own_said old around ks own p g (second_five so)) (own_said new around' ks' own' p' h' (second_five sn)) (fourth_five so) (fourth_five sn) two.0 s t e)
        (λ e. link_fields path (suc i) fs gs k k' around around' (choose_known p ks (with_own own (after ks g))) (choose_known p' ks' (with_own own' (after ks' h'))) (last_five so) (last_five sn) two.1 s t e)
    link_fields path i (inserted n g (Some u) fs) (inserted n' h' (Some v) gs) k k' around around' ks ks' so sn c s t h =
        let two = all_parts _ (places (path ++ i ∷ []) (Some u) (Some v) g h') (field_places path (suc i) fs gs) c in
        or_else {F = LinkedAt s t} (answers (answering (places (path ++ i ∷ []) (Some u) (Some v) g h')) s t) (answers (answering (field_places path (suc i) fs gs)) s t)
        (split (places (path ++ i ∷ []) (Some u) (Some v) g h') (field_places path (suc i) fs gs) s t h)
        (λ e. link_node (path ++ i ∷ []) (Some u) (Some v) g h' k k' around around' ks ks' (first_four so) (first_four sn) (third_four so) (third_four sn) two.0 s t e)
        (λ e. link_fields path (suc i) fs gs k k' around around' (with_slot u ks) (with_slot v ks') (last_four so) (last_four sn) two.1 s t e)
    link_fields path i (inserted n g None fs) (inserted n' h' None gs) k k' around around' ks ks' so sn c s t h =
        let two = all_parts _ (places (path ++ i ∷ []) None None g h') (field_places path (suc i) fs gs) c in
        or_else {F = LinkedAt s t} (answers (answering (places (path ++ i ∷ []) None None g h')) s t) (answers (answering (field_places path (suc i) fs gs)) s t)
        (split (places (path ++ i ∷ []) None None g h') (field_places path (suc i) fs gs) s t h)
        (λ e. link_node (path ++ i ∷ []) None None g h' k k' around around' ks ks' tt tt (second_three so) (second_three sn) two.0 s t e)
        (λ e. link_fields path (suc i) fs gs k k' around around' ks ks' (last_three so) (last_three sn) two.1 s t e)
    link_fields path i (inserted n g (Some u) fs) (inserted n' h' None gs) k k' around around' ks ks' so sn c s t h =
        let two = all_parts _ (places (path ++ i ∷ []) (Some u) None g h') (field_places path (suc i) fs gs) c in
        or_else {F = LinkedAt s t} (answers (answering (places (path ++ i ∷ []) (Some u) None g h')) s t) (answers (answering (field_places path (suc i) fs gs)) s t)
        (split (places (path ++ i ∷ []) (Some u) None g h') (field_places path (suc i) fs gs) s t h)
        (λ e. link_node (path ++ i ∷ []) (Some u) None g h' k k' around around' ks ks' (first_four so) tt (third_four so) (second_three sn) two.0 s t e)
        (λ e. link_fields path (suc i) fs gs k k' around around' (with_slot u ks) ks' (last_four so) (last_three sn) two.1 s t e)
    link_fields path i (inserted n g None fs) (inserted n' h' (Some v) gs) k k' around around' ks ks' so sn c s t h =
        let two = all_parts _ (places (path ++ i ∷ []) None (Some v) g h') (field_places path (suc i) fs gs) c in
        or_else {F = LinkedAt s t} (answers (answering (places (path ++ i ∷ []) None (Some v) g h')) s t) (answers (answering (field_places path (suc i) fs gs)) s t)
        (split (places (path ++ i ∷ []) None (Some v) g h') (field_places path (suc i) fs gs) s t h)
        (λ e. link_node (path ++ i ∷ []) None (Some v) g h' k k' around around' ks ks' tt (first_four sn) (second_three so) (third_four sn) two.0 s t e)
        (λ e. link_fields path (suc i) fs gs k k' around around' ks (with_slot v ks') (last_three so) (last_four sn) two.1 s t e)
    link_fields path i fs gs k k' around around' ks ks' so sn c s t h = cc

    link_cases : (path : List ℕ) (i : ℕ) (cs ds : Alternatives) (k k' : ℕ) (around around' : List ℕ) (ks ks' : Known) → AlternativesSound old k around ks cs → AlternativesSound new k' around' ks' ds → AllAgree by (case_places path i cs ds) → (s t : ℕ) → answers (answering (case_places path i cs ds)) s t ≡ true → LinkedAt s t
    link_cases path i (alternative n g ts cs) (alternative n' h' us ds) k k' around around' ks ks' so sn c s t h =
        let two = all_parts _ (places (path ++ i ∷ []) None None g h') (case_places path (suc i) cs ds) c in
        or_else {F = LinkedAt s t} (answers (answering (places (path ++ i ∷ []) None None g h')) s t) (answers (answering (case_places path (suc i) cs ds)) s t)
        (split (places (path ++ i ∷ []) None None g h') (case_places path (suc i) cs ds) s t h)
        (λ e. link_node (path ++ i ∷ []) None None g h' k k' around around' ks ks' tt tt (second_three so) (second_three sn) two.0 s t e)
        (λ e. link_cases path (suc i) cs ds k k' around around' ks ks' (last_three so) (last_three sn) two.1 s t e)
    link_cases path i cs ds k k' around around' ks ks' so sn c s t h = cc

pub one_answer : (old new : Grammar) → IsTree old → (s t t' : ℕ) → answers (answering (placed old new)) s t ≡ true → answers (answering (placed old new)) s t' ≡ true → t ≡ t'
one_answer old new to s t t' h k = (let few = olds_node s root_node [] [] [] None None old new refl in let n = once old to s in one_new (answering (placed old new)) s t t' (omega arith) h k)

pub linked : (old new : Grammar) → IsTree old → IsTree new → Sound old 0 [] (λ s. false) old → Sound new 0 [] (λ s. false) new → Accepts old new → AreLinked old new (answering (placed old new))
linked old new to tn so sn c = record {
  one = one_answer old new to;
  other = λ s s' t h k. (let few = news_node t root_node [] [] [] None None old new refl in let n = once new tn t in one_old (answering (placed old new)) s s' t (omega arith) h k);
  domains = λ s t h. (link_node old new (answering (placed old new)) [] None None old new 0 0 [] [] (λ s. false) (λ s. false) tt tt so sn c s t h).domains;
  items = λ s t h. (link_node old new (answering (placed old new)) [] None None old new 0 0 [] [] (λ s. false) (λ s. false) tt tt so sn c s t h).items;
}
