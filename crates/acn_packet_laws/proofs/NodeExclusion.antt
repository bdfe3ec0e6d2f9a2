-- A front and a failure of one node exclude each other, and two failures are one, from the same of leaves and ended texts.
use Rattle.std.proofs.Common.{◌≡◌, ℕ, zero, suc, ◌+◌, ◌*◌, ◌<◌, ◌≤◌, ℤ, pos, Bool, true, false, List, [], ◌∷◌, ◌++◌, length, take, drop, Option, Some, None, refl, sym, ap, ◌∙◌, arith, subst, length-append, IsTrue}
use Rattle.std.specs.Prelude.{slice_get}
use Rattle.acn_num.specs.Bits.{number, bits as bits_of}
use Rattle.acn_grammar.specs.Code.{Any, Code}
use Rattle.acn_grammar.specs.Env.{Env, at_slot, AllHold, MayBeThere, MayBeAway}
use Rattle.acn_grammar.specs.Fails.{Fault, Failing, Here, Short, CharactersFail, TextFails, presence_count, IsThere, flags_behind, count_of, RunFails, ListFails, After, NoneChosen, Fails, FormFails, FieldsFail, AlternativeFails, seen, ContentFails, NumberFails, PaddedFails, characters_cut, characters_not_permitted, index_cut, index_too_great, fails_at_index, fails_at_alternative, padding_cut, fails_behind_padding, presence_cut, fails_behind_presence, fails_at_component, fails_behind_component, fails_behind_absent, fails_at_inserted, fails_behind_inserted, window_cut, content_fails, content_overlong}
use Rattle.acn_grammar.specs.Grammar.{Grammar, Form, Fields, Alternatives, Data, Places, node, num, octets, bits, text, seq, list, choice, contained, no_fields, component, inserted, no_alternatives, alternative, null, octet_string, bit_string, characters, record_of, list_of, alt, no_places, empty, filled, element_count, Elements}
use Rattle.acn_grammar.specs.LeafFails.{Reason, LeafFails, content_size}
use Rattle.acn_grammar.specs.Leaves.{num_fine, text_fine}
use Rattle.acn_grammar.specs.Length.{padding, presence_bits, bit_before, index_width, ending}
use Rattle.acn_grammar.specs.Scoped.{Known, with_slot, Agree, TestsIn, PresenceIn, RuleIn, choose_known, with_own, EndTold, after, tests_at, names_of, Permitted, Scoped, FormScoped, FieldsScoped, AlternativesScoped}
use Rattle.acn_grammar.specs.Shaped.{are_octets}
use Rattle.acn_grammar.specs.Slots.{items_of}
use Rattle.acn_grammar.specs.Interval.{size_of}
use Rattle.acn_num.specs.Ranges.{greatest}
use Rattle.acn_grammar.specs.Spell.{Part, ◌then◌, Where, Exactly, Carries, ListPart, Padding, Fill, Window, CharactersPart, EndedPart, RunPart, Spell, FormPart, FieldsPart, AlternativePart, SlotField, Chosen, with_home}
use Rattle.acn_grammar.specs.declared.node.ChoiceRule.{ChoiceRule}
use Rattle.acn_grammar.specs.declared.node.ChoiceRule.TheVariants.{Index, Tests, Item}
use Rattle.acn_grammar.specs.declared.node.NumLeaf.{NumLeaf}
use Rattle.acn_grammar.specs.declared.node.Presence.{Presence}
use Rattle.acn_grammar.specs.declared.node.Presence.TheVariants.{Always, Bit, When}
use Rattle.acn_grammar.specs.declared.node.Sizing.{Sizing}
use Rattle.acn_grammar.specs.declared.node.TextLeaf.{TextLeaf}
use Rattle.acn_packet_laws.proofs.EndedListFails.{ended_excl, ended_same}
use Rattle.acn_packet_laws.proofs.Leads.{not_begun}
use Rattle.acn_packet_laws.proofs.Exclusion.{Excl, Same, whole_of, take_n, drop_n, excl_first, excl_given, excl_behind, same_behind, clash_behind, excl_short, same_short, sized_excl, sized_same, run_excl, run_same}
use Rattle.acn_grammar.proofs.Prefix.{Law, same_front, padding_law}
use Rattle.acn_packet_laws.proofs.PrefixNodes.{spell_law, slot_law, own_law, agree_inside, permitted_home, after_there, after_away, all_hold_too, agree_back, chosen_at, item_at, same_item_name, names_one}
use Rattle.acn_grammar.proofs.SpellLength.{Padding-length, bits-length}
use Rattle.acn_grammar.proofs.Characters.{characters_long}

abbrev pub LeafExcl : Type 0
LeafExcl = (leaf : NumLeaf) → IsTrue (num_fine leaf) → (x : ℤ) (bs r : List Bool) (reason : Reason) (reach : ℕ) → Code Any leaf x bs → LeafFails leaf (bs ++ r) reason reach → ⊥

abbrev pub LeafSame : Type 0
LeafSame = (leaf : NumLeaf) → IsTrue (num_fine leaf) → (rest : List Bool) (r r' : Reason) (m n : ℕ) → LeafFails leaf rest r m → LeafFails leaf rest r' n → (r ≡ r') × (m ≡ n)

abbrev pub TextExcl : Type 0
TextExcl = (here : Here) (leaf : TextLeaf) (end : List Bool) → leaf.ended ≡ Some end → IsTrue (text_fine leaf) → (env env' : Env) (cs : List ℕ) → Excl (EndedPart (Some end) leaf env cs) (TextFails here (Some end) leaf env')

abbrev pub TextSame : Type 0
TextSame = (here : Here) (leaf : TextLeaf) (end : List Bool) (env env' : Env) → Same (TextFails here (Some end) leaf env) (TextFails here (Some end) leaf env')

-- what stands before a node
padding_long : (align at : ℕ) (a : List Bool) → Padding Any align at a → padding align at ≤ length a
padding_long align at a p = let l = Padding-length Any align at a p in omega arith

characters_excl : (here : Here) (leaf : TextLeaf) (cs : List ℕ) (n : ℕ) → length cs ≡ n → Excl (CharactersPart leaf cs) (CharactersFail here leaf n)
characters_excl here leaf cs n e at a r fault reach p (characters_cut f) =
    let l = characters_long leaf cs at a p in
    let w = length-append a r in
    let s = f.0 in
    let same : leaf.width * length cs ≡ leaf.width * n = ap (λ k. leaf.width * k) e in
    absurd (omega arith)
characters_excl here leaf cs n e at a r fault reach p (characters_not_permitted f) =
    let l : length a ≡ leaf.width * n = characters_long leaf cs at a p ∙ ap (λ k. leaf.width * k) e in
    f.1 cs at (subst (λ (x : List Bool). CharactersPart leaf cs at x) (sym (take_n (leaf.width * n) a r l)) p)

characters_same : (here : Here) (leaf : TextLeaf) (n : ℕ) → Same (CharactersFail here leaf n) (CharactersFail here leaf n)
characters_same here leaf n at rest f g m k (characters_cut p) (characters_cut q) = (p.1 ∙ sym q.1, p.2 ∙ sym q.2)
characters_same here leaf n at rest f g m k (characters_cut p) (characters_not_permitted q) = let a = p.0 in let b = q.0 in absurd (omega arith)
characters_same here leaf n at rest f g m k (characters_not_permitted p) (characters_cut q) = let a = p.0 in let b = q.0 in absurd (omega arith)
characters_same here leaf n at rest f g m k (characters_not_permitted p) (characters_not_permitted q) = (p.2 ∙ sym q.2, p.3 ∙ sym q.3)

-- Presence.

flags_rest : (presence : Presence) (b : Bool) (flags rest : List Bool) → flags ≡ bit_before presence b rest → flags_behind presence flags ≡ rest
flags_rest Always b flags rest e = e
flags_rest Bit b flags rest e = ap (flags_behind Bit) e
flags_rest (When ts) b flags rest e = e

is_there : (ks : Known) (env env' : Env) → Agree ks env env' → (presence : Presence) → PresenceIn ks presence → (flags rest : List Bool) → flags ≡ bit_before presence true rest → MayBeThere env presence → IsThere env' presence flags
is_there ks env env' same Always known flags rest e there = tt
is_there ks env env' same Bit known flags rest e there = subst (λ (x : List Bool). IsThere env' Bit x) (sym e) tt
is_there ks env env' same (When ts) known flags rest e there = all_hold_too ks env' env (agree_back ks env env' same) ts known there

not_there : (ks : Known) (env env' : Env) → Agree ks env env' → (presence : Presence) → PresenceIn ks presence → (flags rest : List Bool) → flags ≡ bit_before presence false rest → MayBeAway env presence → IsThere env' presence flags → ⊥
not_there ks env env' same Always known flags rest e away there = away
not_there ks env env' same Bit known flags rest e away there = subst (λ (x : List Bool). IsThere env' Bit x) e there
not_there ks env env' same (When ts) known flags rest e away there = away (all_hold_too ks env env' same ts known there)

there_too : (ks : Known) (env env' : Env) → Agree ks env env' → (presence : Presence) → PresenceIn ks presence → (flags : List Bool) → IsThere env presence flags → IsThere env' presence flags
there_too ks env env' same Always known flags there = tt
there_too ks env env' same Bit known flags there = there
there_too ks env env' same (When ts) known flags there = all_hold_too ks env' env (agree_back ks env env' same) ts known there

after_missing : (presence : Presence) (ks more : Known) (env env' : Env) (flags : List Bool) → (IsThere env presence flags → ⊥) → Agree ks env env' → Agree (choose_known presence ks more) env env'
after_missing Always ks more env env' flags none same = absurd (none tt)
after_missing Bit ks more env env' flags none same = same
after_missing (When ts) ks more env env' flags none same = same

one_more : (presence : Presence) (b : Bool) (fs : List Bool) (n m : ℕ) → length fs ≡ n → (name : List ℕ) (g : Grammar) (default : Option (List ℕ)) (own : Option ℕ) (rest : Fields) → presence_count rest ≡ n → length (bit_before presence b fs) ≡ presence_count (component name g presence default own rest)
one_more Always b fs n m e name g default own rest c = e ∙ sym c
one_more Bit b fs n m e name g default own rest c = ap suc (e ∙ sym c)
one_more (When ts) b fs n m e name g default own rest c = e ∙ sym c

count_flags : (root : Grammar) (fs : Fields) (env : Env) (ps : Places) (at : ℕ) (bs : List Bool) → FieldsPart root Any fs env ps at bs → length (presence_bits fs ps) ≡ presence_count fs
count_flags root no_fields env no_places at bs t = refl
count_flags root (component name g presence default own fs) env (filled d ps) at bs t = one_more presence true (presence_bits fs ps) (presence_count fs) 0 (count_flags root fs env ps _ _ t.second) name g default own fs refl
count_flags root (component name g presence default own fs) env (empty ps) at bs t = one_more presence false (presence_bits fs ps) (presence_count fs) 0 (count_flags root fs env ps at bs t.spelled) name g default own fs refl
count_flags root (inserted name g (Some s) fs) env ps at bs t = count_flags root fs env ps _ _ t.second
count_flags root (inserted name g None fs) env ps at bs t = count_flags root fs env ps _ _ t.second
count_flags root _ env ps at bs t = absurd t.0

-- Behind as many bits.

after_excl : (n : ℕ) {P P2 : Part} (F : Failing) → ((at : ℕ) (a : List Bool) → P at a → length a ≡ n) → Excl P2 F → Excl (P then P2) (After n F)
after_excl n {P} {P2} F long h at a r fault reach t f =
    let l = long at t.front t.first in
    let rest : drop n (a ++ r) ≡ t.back ++ r = ap (drop n) (whole_of a t.front t.back r t.whole) ∙ drop_n n t.front (t.back ++ r) l in
    h (at + n) t.back r fault f.more (subst (λ (k : ℕ). P2 (at + k) t.back) l t.second) (subst (λ (x : List Bool). F (at + n) x fault f.more) rest f.fails)

after_same : (n : ℕ) (F G : Failing) → Same F G → Same (After n F) (After n G)
after_same n F G h at rest f g m k p q =
    let one = h (at + n) (drop n rest) f g p.more q.more p.fails q.fails in
    let more = one.1 in
    let a = p.reaches in
    let b = q.reaches in
    (one.0, omega arith)

-- Windows.

abbrev WindowFails : Grammar → Here → Grammar → Env → (origin n : ℕ) → Failing
WindowFails root here g env origin n = ContentFails here (Spell root Any g env) (λ place. Fails root g env true (origin + place) (here.path ++ 0 ∷ [])) n

window_excl : (root : Grammar) (here : Here) (g : Grammar) (env env' : Env) (d : Data) (origin at n m : ℕ) → n ≡ m
    → Excl (Spell root Any g env d) (Fails root g env' true (origin + at) (here.path ++ 0 ∷ [])) → ((d' : Data) → Law (Spell root Any g env d) (Spell root Any g env' d') (d ≡ d'))
    → (a r : List Bool) (fault : Fault) (reach : ℕ) → Window (Spell root Any g env d) (Fill Any) n at a → WindowFails root here g env' origin m at (a ++ r) fault reach → ⊥
window_excl root here g env env' d origin at n m same excl law a r fault reach w f = by f
  where
    front : take (8 * m) (a ++ r) ≡ w.inside.front ++ w.inside.back
    front = take_n (8 * m) a r (w.size ∙ ap (λ k. 8 * k) same) ∙ w.inside.whole

    by : WindowFails root here g env' origin m at (a ++ r) fault reach → ⊥
    by (window_cut f) = let s = w.size in let l = length-append a r in let t = f.0 in absurd (omega arith)
    by (content_fails f) =
        let x = f.1 in
        excl 0 w.inside.front w.inside.back fault x.0 w.inside.first (subst (λ (z : List Bool). Fails root g env' true (origin + at) (here.path ++ 0 ∷ []) 0 z fault x.0) front x.1)
    by (content_overlong f) =
        let x = f.1 in
        let o = x.1 in
        let one = law x.0 0 w.inside.front o.used w.inside.back o.left w.inside.first o.spelled (sym front ∙ o.whole) in
        let rest = (same_front w.inside.front o.used w.inside.back o.left (ap length one.0) (sym front ∙ o.whole)).1 in
        let long : length w.inside.back ≡ length o.left = ap length rest in
        let few = w.inside.second.few in
        let byte = o.byte in
        absurd (omega arith)

window_same : (root : Grammar) (here : Here) (g : Grammar) (env env' : Env) (origin n : ℕ)
    → ((path : List ℕ) (o : ℕ) → Same (Fails root g env true o path) (Fails root g env' true o path)) → ((d : Data) (path : List ℕ) (o : ℕ) → Excl (Spell root Any g env d) (Fails root g env' true o path)) → ((d : Data) (path : List ℕ) (o : ℕ) → Excl (Spell root Any g env' d) (Fails root g env true o path))
    → ((d d' : Data) → Law (Spell root Any g env d) (Spell root Any g env' d') (d ≡ d')) → Same (WindowFails root here g env origin n) (WindowFails root here g env' origin n)
window_same root here g env env' origin n same x y law at rest f g' m k (window_cut p) (window_cut q) = (p.1 ∙ sym q.1, p.2 ∙ sym q.2)
window_same root here g env env' origin n same x y law at rest f g' m k (window_cut p) (content_fails q) = let a = p.0 in let b = q.0 in absurd (omega arith)
window_same root here g env env' origin n same x y law at rest f g' m k (window_cut p) (content_overlong q) = let a = p.0 in let b = q.0 in absurd (omega arith)
window_same root here g env env' origin n same x y law at rest f g' m k (content_fails p) (window_cut q) = let a = p.0 in let b = q.0 in absurd (omega arith)
window_same root here g env env' origin n same x y law at rest f g' m k (content_overlong p) (window_cut q) = let a = p.0 in let b = q.0 in absurd (omega arith)
window_same root here g env env' origin n same x y law at rest f g' m k (content_fails p) (content_fails q) =
    let u = p.1 in
    let v = q.1 in
    ((same (here.path ++ 0 ∷ []) (origin + at) 0 (take (8 * n) rest) f g' u.0 v.0 u.1 v.1).0, p.2 ∙ sym q.2)
window_same root here g env env' origin n same x y law at rest f g' m k (content_fails p) (content_overlong q) =
    let u = p.1 in
    let v = q.1 in
    absurd (y v.0 (here.path ++ 0 ∷ []) (origin + at) 0 v.1.used v.1.left f u.0 v.1.spelled (subst (λ (z : List Bool). Fails root g env true (origin + at) (here.path ++ 0 ∷ []) 0 z f u.0) v.1.whole u.1))
window_same root here g env env' origin n same x y law at rest f g' m k (content_overlong p) (content_fails q) =
    let u = p.1 in
    let v = q.1 in
    absurd (x u.0 (here.path ++ 0 ∷ []) (origin + at) 0 u.1.used u.1.left g' v.0 u.1.spelled (subst (λ (z : List Bool). Fails root g env' true (origin + at) (here.path ++ 0 ∷ []) 0 z g' v.0) u.1.whole v.1))
window_same root here g env env' origin n same x y law at rest f g' m k (content_overlong p) (content_overlong q) =
    let u = p.1 in
    let v = q.1 in
    let one = law u.0 v.0 0 u.1.used v.1.used u.1.left v.1.left u.1.spelled v.1.spelled (sym u.1.whole ∙ v.1.whole) in
    (u.1.says ∙ (ap (λ l. record { path = here.path; reason = seen here.inside (content_size n l); at = here.place }) (ap length one.0) ∙ sym v.1.says), p.2 ∙ sym q.2)

-- Which alternative.

module _ (root : Grammar) where
  -- what is chosen by one env is chosen by the other
  abbrev Transfers : Alternatives → ChoiceRule → Env → Env → Type 0
  Transfers no_alternatives rule env env' = Unit {0}
  Transfers (alternative name g tests more) rule env env' = (Chosen root rule env name tests → Chosen root rule env' name tests) × Transfers more rule env env'

  transfers_index : (cases : Alternatives) (width : ℕ) (env env' : Env) → Transfers cases (Index width) env env'
  transfers_index no_alternatives width env env' = tt
  transfers_index (alternative name g tests more) width env env' = ((λ c. tt), transfers_index more width env env')

  transfers_tests : (cases : Alternatives) (ks : Known) (env env' : Env) → Agree ks env env' → ((i : ℕ) → TestsIn ks (tests_at cases i)) → Transfers cases Tests env env'
  transfers_tests no_alternatives ks env env' same known = tt
  transfers_tests (alternative name g tests more) ks env env' same known = ((λ c. all_hold_too ks env' env (agree_back ks env env' same) tests (known 0) c), transfers_tests more ks env env' same (λ i. known (suc i)))

  transfers_item : (cases : Alternatives) (s : ℕ) (env env' : Env) → at_slot env s ≡ at_slot env' s → Transfers cases (Item s) env env'
  transfers_item no_alternatives s env env' same = tt
  transfers_item (alternative name g tests more) s env env' same = ((λ c. (c.0, c.1, sym same ∙ c.2, c.3)), transfers_item more s env env' same)

  none_spelled : (cases : Alternatives) (rule : ChoiceRule) (env env' : Env) → Transfers cases rule env env' → NoneChosen root cases rule env' → (i : ℕ) (d : Data) (at : ℕ) (bs : List Bool) → AlternativePart root Any cases rule env i d at bs → ⊥
  none_spelled no_alternatives rule env env' t n i d at bs p = absurd p.0
  none_spelled (alternative name g tests more) rule env env' t n zero d at bs p = n.0 (t.0 p.given)
  none_spelled (alternative name g tests more) rule env env' t n (suc i) d at bs p = none_spelled more rule env env' t.1 n.1 i d at bs p

  none_fails : (cases : Alternatives) (rule : ChoiceRule) (env env' : Env) → Transfers cases rule env env' → NoneChosen root cases rule env' → (here : Here) (origin i j at : ℕ) (rest : List Bool) (fault : Fault) (reach : ℕ) → AlternativeFails root cases rule env here origin i j at rest fault reach → ⊥
  none_fails no_alternatives rule env env' t n here origin i j at rest fault reach p = absurd p
  none_fails (alternative name g tests more) rule env env' t n here origin i zero at rest fault reach p = n.0 (t.0 p.0)
  none_fails (alternative name g tests more) rule env env' t n here origin i (suc j) at rest fault reach p = none_fails more rule env env' t.1 n.1 here origin i j at rest fault reach p

  below_spelled : (cases : Alternatives) (rule : ChoiceRule) (env : Env) (i : ℕ) (d : Data) (at : ℕ) (bs : List Bool) → AlternativePart root Any cases rule env i d at bs → i < count_of cases
  below_spelled no_alternatives rule env i d at bs p = absurd p.0
  below_spelled (alternative name g tests more) rule env zero d at bs p = omega arith
  below_spelled (alternative name g tests more) rule env (suc i) d at bs p = omega (arith, below_spelled more rule env i d at bs p)

  below_fails : (cases : Alternatives) (rule : ChoiceRule) (env : Env) (here : Here) (origin i j at : ℕ) (rest : List Bool) (fault : Fault) (reach : ℕ) → AlternativeFails root cases rule env here origin i j at rest fault reach → j < count_of cases
  below_fails no_alternatives rule env here origin i j at rest fault reach p = absurd p
  below_fails (alternative name g tests more) rule env here origin i zero at rest fault reach p = omega arith
  below_fails (alternative name g tests more) rule env here origin i (suc j) at rest fault reach p = omega (arith, below_fails more rule env here origin i j at rest fault reach p)

  -- the conditions, or the name, of the alternative that fails
  fails_tests : (cases : Alternatives) (env : Env) (here : Here) (origin i j at : ℕ) (rest : List Bool) (fault : Fault) (reach : ℕ) → AlternativeFails root cases Tests env here origin i j at rest fault reach → AllHold env (tests_at cases j)
  fails_tests no_alternatives env here origin i j at rest fault reach p = absurd p
  fails_tests (alternative name g tests more) env here origin i zero at rest fault reach p = p.0
  fails_tests (alternative name g tests more) env here origin i (suc j) at rest fault reach p = fails_tests more env here origin i j at rest fault reach p

  fails_item : (cases : Alternatives) (s : ℕ) (env : Env) (here : Here) (origin i j at : ℕ) (rest : List Bool) (fault : Fault) (reach : ℕ) → AlternativeFails root cases (Item s) env here origin i j at rest fault reach
      → (name : List ℕ) × (k : ℕ) × (x : ℤ) × (slice_get (names_of cases) j ≡ Some name) × (at_slot env s ≡ Some (pos k)) × (slice_get (items_of root s) k ≡ Some (name, x))
  fails_item no_alternatives s env here origin i j at rest fault reach p = absurd p
  fails_item (alternative name g tests more) s env here origin i zero at rest fault reach p = (name, p.0.0, p.0.1, refl, p.0.2, p.0.3)
  fails_item (alternative name g tests more) s env here origin i (suc j) at rest fault reach p = fails_item more s env here origin i j at rest fault reach p

module _ (root : Grammar) (leaf_excl : LeafExcl) (leaf_same : LeafSame) (text_excl : TextExcl) (text_same : TextSame) where
  text_part_excl : (leaf : TextLeaf) (e : Option (List Bool)) → leaf.ended ≡ e → IsTrue (text_fine leaf) → (ks : Known) → RuleIn ks leaf.sized.rule → (env env' : Env) → Agree ks env env' → (here : Here) (cs : List ℕ) → Excl (EndedPart e leaf env cs) (TextFails here e leaf env')
  text_part_excl leaf None is fine ks known env env' same here cs = sized_excl root here leaf.sized ks known env env' same (length cs) (CharactersPart leaf cs) (CharactersFail here leaf) (λ m e. characters_excl here leaf cs m e)
  text_part_excl leaf (Some end) is fine ks known env env' same here cs = text_excl here leaf end is fine env env' cs

  text_part_same : (leaf : TextLeaf) (e : Option (List Bool)) → (ks : Known) → RuleIn ks leaf.sized.rule → (env env' : Env) → Agree ks env env' → (here : Here) → Same (TextFails here e leaf env) (TextFails here e leaf env')
  text_part_same leaf None ks known env env' same here =
      sized_same root here leaf.sized ks known env env' same (CharactersFail here leaf) (CharactersFail here leaf) (λ m n e. subst (λ (k : ℕ). Same (CharactersFail here leaf m) (CharactersFail here leaf k)) e (characters_same here leaf m))
  text_part_same leaf (Some end) ks known env env' same here = text_same here leaf end env env'

  leaf_part : (align : ℕ) (leaf : NumLeaf) → IsTrue (num_fine leaf) → (here : Here) (x : ℤ) → Excl (λ at bs. Code Any leaf x bs) (λ at rest fault reach. NumberFails here leaf rest fault reach)
  leaf_part align leaf fine here x at a r fault reach c f = leaf_excl leaf fine x a r f.reason reach c f.fails

  -- before a node
  padded_excl : (align : ℕ) (P : Part) (origin : ℕ) (path : List ℕ) (inside : Bool) (at : ℕ) (F : Failing) → Excl P F → (a r : List Bool) (fault : Fault) (reach : ℕ) → (Padding Any align then P) at a
      → PaddedFails (record { path = path; place = origin + at; inside = inside }) align F at (a ++ r) fault reach → ⊥
  padded_excl align P origin path inside at F h a r fault reach t (padding_cut f) =
      let l = padding_long align at t.front t.first in
      let s = f.0 in
      let w = ap length t.whole in
      let x = length-append t.front t.back in
      let y = length-append a r in
      absurd (omega arith)
  padded_excl align P origin path inside at F h a r fault reach t (fails_behind_padding f) = excl_behind (padding_law Any align) (λ _. h) at a r fault reach t f

  slot_excl : (align : ℕ) (leaf : NumLeaf) → IsTrue (num_fine leaf) → (env : Env) (s : ℕ) (inside : Bool) (origin : ℕ) (path : List ℕ) (at : ℕ) (a r : List Bool) (fault : Fault) (reach : ℕ) (env' : Env) → SlotField root Any (node align (num leaf)) env s at a → Fails root (node align (num leaf)) env' inside origin path at (a ++ r) fault reach → ⊥
  slot_excl align leaf fine env s inside origin path at a r fault reach env' t f =
      let here : Here = record { path = path; place = origin + at; inside = inside } in
      padded_excl align (λ at' cs. Code Any leaf t.0 cs) origin path inside at (FormFails root (num leaf) env' here origin) (leaf_part align leaf fine here t.0) a r fault reach t.2 f

  element_law : (g : Grammar) (ks : Known) → Scoped root ks g → (env env' : Env) → Permitted root env → Agree ks env env' → (d d' : Data) → Law (Spell root Any g env d) (Spell root Any g env' d') (d ≡ d')
  element_law g ks fine env env' ok same d d' at a b r s p q e = let h = spell_law root g ks fine env env' ok same d d' at a b r s p q e in (h.0, h.1.0)

  list_excl : (end : Option (List Bool)) (sizing : Sizing) (g : Grammar) (ks : Known) → RuleIn ks sizing.rule → EndTold end sizing.sizes g → Scoped root ks g → (env env' : Env) → Agree ks env env' → (here : Here) (fails : ℕ → Failing)
      → ((d : Data) (k : ℕ) → Excl (Spell root Any g env d) (fails k)) → ((d d' : Data) → Law (Spell root Any g env d) (Spell root Any g env' d') (d ≡ d'))
      → (es : Elements) → Excl (ListPart end sizing env (Spell root Any g env) es) (ListFails end here sizing env' (Spell root Any g env') fails)
  list_excl None sizing g ks known told fine env env' same here fails excl law es at a r fault reach t f =
      sized_excl root here sizing ks known env env' same (element_count es) (RunPart (Spell root Any g env) es) (λ n. RunFails (Spell root Any g env') fails n 0)
      (λ m e. run_excl (Spell root Any g env) (Spell root Any g env') fails excl law es m 0 e) at a r fault reach t f
  list_excl (Some end) sizing g ks known told fine env env' same here fails excl law es at a r fault reach t f =
      ended_excl here end sizing told.fine (Spell root Any g env) (Spell root Any g env') fails excl law
      (λ d at' bs u z. not_begun root end g ks fine told.told env d at' bs u z) (λ d at' bs u z. not_begun root end g ks fine told.told env' d at' bs u z) es t.given at a r fault reach t.spelled f

  list_same : (end : Option (List Bool)) (sizing : Sizing) (g : Grammar) (ks : Known) → RuleIn ks sizing.rule → EndTold end sizing.sizes g → Scoped root ks g → (env env' : Env) → Agree ks env env' → (here : Here) (fails fails' : ℕ → Failing)
      → ((k : ℕ) → Same (fails k) (fails' k)) → ((d : Data) (k : ℕ) → Excl (Spell root Any g env d) (fails' k)) → ((d : Data) (k : ℕ) → Excl (Spell root Any g env' d) (fails k)) → ((d d' : Data) → Law (Spell root Any g env d) (Spell root Any g env' d') (d ≡ d'))
      → Same (ListFails end here sizing env (Spell root Any g env) fails) (ListFails end here sizing env' (Spell root Any g env') fails')
  list_same None sizing g ks known told fine env env' same here fails fails' h x y law =
      sized_same root here sizing ks known env env' same (λ n. RunFails (Spell root Any g env) fails n 0) (λ n. RunFails (Spell root Any g env') fails' n 0)
      (λ i j e. subst (λ (l : ℕ). Same (RunFails (Spell root Any g env) fails i 0) (RunFails (Spell root Any g env') fails' l 0)) e
      (run_same (Spell root Any g env) (Spell root Any g env') fails fails' h x y law i 0))
  list_same (Some end) sizing g ks known told fine env env' same here fails fails' h x y law =
      ended_same here end sizing (Spell root Any g env) (Spell root Any g env') fails fails' h x y law
      (λ d at' bs u z. not_begun root end g ks fine told.told env d at' bs u z) (λ d at' bs u z. not_begun root end g ks fine told.told env' d at' bs u z) (size_of (greatest sizing.sizes)) 0

  mutual
    pub node_excl : (g : Grammar) (ks : Known) → Scoped root ks g → (env env' : Env) → Permitted root env → Agree ks env env' → (inside : Bool) (origin : ℕ) (path : List ℕ) (d : Data) → Excl (Spell root Any g env d) (Fails root g env' inside origin path)
    node_excl (node align form) ks fine env env' ok same inside origin path d at a r fault reach t f =
        let here : Here = record { path = path; place = origin + at; inside = inside } in
        padded_excl align (FormPart root Any form env d) origin path inside at (FormFails root form env' here origin) (form_excl form ks fine env env' ok same here origin d) a r fault reach t f

    form_excl : (form : Form) (ks : Known) → FormScoped root ks form → (env env' : Env) → Permitted root env → Agree ks env env' → (here : Here) (origin : ℕ) (d : Data) → Excl (FormPart root Any form env d) (FormFails root form env' here origin)
    form_excl (num leaf) ks fine env env' ok same here origin d at a r fault reach t f = leaf_excl leaf fine t.0 a r f.reason reach t.2 f.fails
    form_excl (octets sizing) ks fine env env' ok same here origin (octet_string os) at a r fault reach t f =
        sized_excl root here sizing ks fine env env' same (length os) (Where (IsTrue (are_octets os)) (Exactly (bits_of os))) (λ n. Short here (8 * n))
        (λ m e. excl_given (Short here (8 * m)) (excl_short here (8 * m) (λ at' a' p. let l = ap length p ∙ bits-length os in omega arith))) at a r fault reach t f
    form_excl (octets sizing) ks fine env env' ok same here origin _ at a r fault reach t f = absurd t.0
    form_excl (bits sizing) ks fine env env' ok same here origin (bit_string bs) at a r fault reach t f =
        sized_excl root here sizing ks fine env env' same (length bs) (Exactly bs) (λ n. Short here (1 * n)) (λ m e. excl_short here (1 * m) (λ at' a' p. let l = ap length p in omega arith)) at a r fault reach t f
    form_excl (bits sizing) ks fine env env' ok same here origin _ at a r fault reach t f = absurd t.0
    form_excl (text leaf) ks fine env env' ok same here origin (characters cs) at a r fault reach t f = text_part_excl leaf leaf.ended refl fine.1 ks fine.0 env env' same here cs at a r fault reach t f
    form_excl (text leaf) ks fine env env' ok same here origin _ at a r fault reach t f = absurd t.0
    form_excl (seq fields home) ks fine env env' ok same here origin (record_of ps) at a r fault reach t (presence_cut f) =
        let c = count_flags root fields (with_home home t.numbers env) ps (at + length t.spelled.front) t.spelled.back t.spelled.second in
        let l = ap length t.spelled.first in
        let w = ap length t.spelled.whole in
        let x = length-append t.spelled.front t.spelled.back in
        let y = length-append a r in
        let s = f.0 in
        absurd (omega arith)
    form_excl (seq fields home) ks fine env env' ok same here origin (record_of ps) at a r fault reach t (fails_behind_presence f) =
        let c = count_flags root fields (with_home home t.numbers env) ps (at + length t.spelled.front) t.spelled.back t.spelled.second in
        let flags : take (presence_count fields) (a ++ r) ≡ presence_bits fields ps =
        ap (take (presence_count fields)) (whole_of a t.spelled.front t.spelled.back r t.spelled.whole) ∙ (take_n (presence_count fields) t.spelled.front (t.spelled.back ++ r) (ap length t.spelled.first ∙ c) ∙ t.spelled.first) in
        after_excl (presence_count fields) {P = Exactly (presence_bits fields ps)} {P2 = FieldsPart root Any fields (with_home home t.numbers env) ps} (FieldsFail root fields (with_home home f.numbers env') (take (presence_count fields) (a ++ r)) here origin 0)
        (λ at' a' p. ap length p ∙ c)
        (fields_excl fields ks fine.1 (with_home home t.numbers env) (with_home home f.numbers env') (permitted_home root home t.numbers env t.fine.permitted ok) (agree_inside ks home t.numbers f.numbers env env' fine.0 same) here origin 0 ps (take (presence_count fields) (a ++ r)) flags)
        at a r fault reach t.spelled f.behind
    form_excl (seq _ home) ks fine env env' ok same here origin _ at a r fault reach t f = absurd t.0
    form_excl (list sizing g) ks fine env env' ok same here origin (list_of es) at a r fault reach t f =
        list_excl (ending sizing.rule) sizing g ks fine.0 fine.2 fine.1 env env' same here (λ k. Fails root g env' here.inside origin (here.path ++ k ∷ []))
        (λ d k. node_excl g ks fine.1 env env' ok same here.inside origin (here.path ++ k ∷ []) d) (λ d d'. element_law g ks fine.1 env env' ok same d d') es at a r fault reach t f
    form_excl (list sizing g) ks fine env env' ok same here origin _ at a r fault reach t f = absurd t.0
    form_excl (contained sizing g) ks fine env env' ok same here origin d at a r fault reach t f =
        sized_excl root here sizing ks fine.0 env env' same t.some (Window (Spell root Any g env d) (Fill Any) t.some) (WindowFails root here g env' origin)
        (λ m e at' a' r' fault' reach' w x. window_excl root here g env env' d origin at' t.some m e (node_excl g ks fine.1 env env' ok same true (origin + at') (here.path ++ 0 ∷ []) d) (λ d'. element_law g ks fine.1 env env' ok same d d') a' r' fault' reach' w x) at a r fault reach t.spelled f
    form_excl (choice cases (Index width)) ks fine env env' ok same here origin (alt i d) at a r fault reach t (fails_at_index (index_cut f)) =
        let l = t.first.width in
        let w = ap length t.whole in
        let x = length-append t.front t.back in
        let y = length-append a r in
        let s = f.0 in
        absurd (omega arith)
    form_excl (choice cases (Index width)) ks fine env env' ok same here origin (alt i d) at a r fault reach t (fails_at_index (index_too_great f)) =
        let is : number (take width (a ++ r)) ≡ i = ap number (ap (take width) (whole_of a t.front t.back r t.whole) ∙ take_n width t.front (t.back ++ r) t.first.width) ∙ t.first.value in
        let below = below_spelled root cases (Index width) env i d (at + length t.front) t.back t.second in
        let many = f.1 in
        absurd (omega arith)
    form_excl (choice cases (Index width)) ks fine env env' ok same here origin (alt i d) at a r fault reach t (fails_at_alternative f) =
        let is : number (take width (a ++ r)) ≡ i = ap number (ap (take width) (whole_of a t.front t.back r t.whole) ∙ take_n width t.front (t.back ++ r) t.first.width) ∙ t.first.value in
        let same_index : i ≡ f.index = sym is ∙ f.stands in
        after_excl width {P2 = AlternativePart root Any cases (Index width) env i d} (AlternativeFails root cases (Index width) env' here origin f.index f.index) (λ at' a' p. p.width)
        (subst (λ (j : ℕ). Excl (AlternativePart root Any cases (Index width) env i d) (AlternativeFails root cases (Index width) env' here origin j j)) same_index (alternative_excl cases ks fine (Index width) env env' ok same here origin i i d)) at a r fault reach t f.behind
    form_excl (choice cases Tests) ks fine env env' ok same here origin (alt i d) at a r fault reach t (fails_at_index f) =
        none_spelled root cases Tests env env' (transfers_tests root cases ks env env' same fine.1) f.none i d (at + length t.front) t.back t.second
    form_excl (choice cases Tests) ks fine env env' ok same here origin (alt i d) at a r fault reach t (fails_at_alternative f) =
        let mine = chosen_at root cases env i d (at + length t.front) t.back t.second in
        let fails = f.behind.fails in
        let other = fails_tests root cases env' here origin f.index f.index (at + 0) (drop 0 (a ++ r)) fault f.behind.more fails in
        let below = below_fails root cases Tests env' here origin f.index f.index (at + 0) (drop 0 (a ++ r)) fault f.behind.more fails in
        let same_index : i ≡ f.index = fine.2 env ok i f.index mine.0 below mine.1 (all_hold_too ks env env' same (tests_at cases f.index) (fine.1 f.index) other) in
        after_excl 0 {P2 = AlternativePart root Any cases Tests env i d} (AlternativeFails root cases Tests env' here origin f.index f.index) (λ at' a' p. ap length p)
        (subst (λ (j : ℕ). Excl (AlternativePart root Any cases Tests env i d) (AlternativeFails root cases Tests env' here origin j j)) same_index (alternative_excl cases ks fine.0 Tests env env' ok same here origin i i d)) at a r fault reach t f.behind
    form_excl (choice cases (Item s)) ks fine env env' ok same here origin (alt i d) at a r fault reach t (fails_at_index f) =
        none_spelled root cases (Item s) env env' (transfers_item root cases s env env' (same s fine.1)) f.none i d (at + length t.front) t.back t.second
    form_excl (choice cases (Item s)) ks fine env env' ok same here origin (alt i d) at a r fault reach t (fails_at_alternative f) =
        let mine = item_at root cases s env i d (at + length t.front) t.back t.second in
        let other = fails_item root cases s env' here origin f.index f.index (at + 0) (drop 0 (a ++ r)) fault f.behind.more f.behind.fails in
        let name = same_item_name root (items_of root s) mine.1 other.1 mine.0 other.0 mine.2 other.2 (at_slot env s) (at_slot env' s) (same s fine.1) mine.4 other.4 mine.5 other.5 in
        let same_index : i ≡ f.index = names_one (names_of cases) i f.index mine.0 fine.2 mine.3 (other.3 ∙ ap Some (sym name)) in
        after_excl 0 {P2 = AlternativePart root Any cases (Item s) env i d} (AlternativeFails root cases (Item s) env' here origin f.index f.index) (λ at' a' p. ap length p)
        (subst (λ (j : ℕ). Excl (AlternativePart root Any cases (Item s) env i d) (AlternativeFails root cases (Item s) env' here origin j j)) same_index (alternative_excl cases ks fine.0 (Item s) env env' ok same here origin i i d)) at a r fault reach t f.behind
    form_excl (choice cases (Index width)) ks fine env env' ok same here origin _ at a r fault reach t f = absurd t.0
    form_excl (choice cases Tests) ks fine env env' ok same here origin _ at a r fault reach t f = absurd t.0
    form_excl (choice cases (Item s)) ks fine env env' ok same here origin _ at a r fault reach t f = absurd t.0

    fields_excl : (fs : Fields) (ks : Known) → FieldsScoped root ks fs → (env env' : Env) → Permitted root env → Agree ks env env' → (here : Here) (origin k : ℕ) (ps : Places) (flags : List Bool) → flags ≡ presence_bits fs ps → Excl (FieldsPart root Any fs env ps) (FieldsFail root fs env' flags here origin k)
    fields_excl no_fields ks fine env env' ok same here origin k ps flags e at a r fault reach t f = absurd f
    fields_excl (component name g presence default own fs) ks fine env env' ok same here origin k (filled d ps) flags e at a r fault reach t (fails_at_component f) =
        excl_first {P = Where (MayBeThere env presence × Carries env own d) (Spell root Any g env d)} {P2 = FieldsPart root Any fs env ps} (Fails root g env' here.inside origin (here.path ++ k ∷ []))
        (excl_given (Fails root g env' here.inside origin (here.path ++ k ∷ [])) (node_excl g ks fine.1 env env' ok same here.inside origin (here.path ++ k ∷ []) d)) at a r fault reach t f.1
    fields_excl (component name g presence default own fs) ks fine env env' ok same here origin k (filled d ps) flags e at a r fault reach t (fails_behind_component f) =
        excl_behind (own_law root own (after ks g) env env' d f.1.0 (λ x. x.1) (λ x. x) (spell_law root g ks fine.1 env env' ok same d f.1.0))
        (λ h. fields_excl fs (choose_known presence ks (with_own own (after ks g))) fine.2 env env' ok (after_there root presence ks (with_own own (after ks g)) env env' same h.1) here origin (suc k) ps (flags_behind presence flags) (flags_rest presence true flags (presence_bits fs ps) e)) at a r fault reach t f.1.1
    fields_excl (component name g presence default own fs) ks fine env env' ok same here origin k (filled d ps) flags e at a r fault reach t (fails_behind_absent f) = f.0 (is_there ks env env' same presence fine.0 flags (presence_bits fs ps) e t.first.given.0)
    fields_excl (component name g presence default own fs) ks fine env env' ok same here origin k (empty ps) flags e at a r fault reach t (fails_at_component f) = not_there ks env env' same presence fine.0 flags (presence_bits fs ps) e t.given f.0
    fields_excl (component name g presence default own fs) ks fine env env' ok same here origin k (empty ps) flags e at a r fault reach t (fails_behind_component f) = not_there ks env env' same presence fine.0 flags (presence_bits fs ps) e t.given f.0
    fields_excl (component name g presence default own fs) ks fine env env' ok same here origin k (empty ps) flags e at a r fault reach t (fails_behind_absent f) =
        fields_excl fs (choose_known presence ks (with_own own (after ks g))) fine.2 env env' ok (after_away root presence ks (with_own own (after ks g)) env env' t.given same) here origin (suc k) ps (flags_behind presence flags) (flags_rest presence false flags (presence_bits fs ps) e) at a r fault reach t.spelled f.1
    fields_excl (component name g presence default own fs) ks fine env env' ok same here origin k no_places flags e at a r fault reach t f = absurd t.0
    fields_excl (inserted name (node align (num leaf)) (Some s) fs) ks fine env env' ok same here origin k ps flags e at a r fault reach t (fails_at_inserted f) =
        slot_excl align leaf fine.0 env s here.inside origin (here.path ++ k ∷ []) at t.front (t.back ++ r) fault reach env' t.first (subst (λ (x : List Bool). Fails root (node align (num leaf)) env' here.inside origin (here.path ++ k ∷ []) at x fault reach) (whole_of a t.front t.back r t.whole) f)
    fields_excl (inserted name (node align (num leaf)) (Some s) fs) ks fine env env' ok same here origin k ps flags e at a r fault reach t (fails_behind_inserted f) =
        excl_behind (slot_law root (node align (num leaf)) fine.0 ks env env' s same) (λ more. fields_excl fs (with_slot s ks) fine.1 env env' ok more here origin (suc k) ps flags e) at a r fault reach t f
    fields_excl (inserted name (node align _) (Some s) fs) ks fine env env' ok same here origin k ps flags e at a r fault reach t f = absurd fine.0
    fields_excl (inserted name g None fs) ks fine env env' ok same here origin k ps flags e at a r fault reach t (fails_at_inserted f) =
        excl_first {P = Spell root Any g env null} {P2 = FieldsPart root Any fs env ps} (Fails root g env' here.inside origin (here.path ++ k ∷ [])) (node_excl g ks fine.0 env env' ok same here.inside origin (here.path ++ k ∷ []) null) at a r fault reach t f
    fields_excl (inserted name g None fs) ks fine env env' ok same here origin k ps flags e at a r fault reach t (fails_behind_inserted f) =
        excl_behind (spell_law root g ks fine.0 env env' ok same null null) (λ h. fields_excl fs ks fine.1 env env' ok same here origin (suc k) ps flags e) at a r fault reach t f

    alternative_excl : (cases : Alternatives) (ks : Known) → AlternativesScoped root ks cases → (rule : ChoiceRule) (env env' : Env) → Permitted root env → Agree ks env env' → (here : Here) (origin i j : ℕ) (d : Data) → Excl (AlternativePart root Any cases rule env j d) (AlternativeFails root cases rule env' here origin i j)
    alternative_excl no_alternatives ks fine rule env env' ok same here origin i j d at a r fault reach t f = absurd f
    alternative_excl (alternative name g tests more) ks fine rule env env' ok same here origin i zero d at a r fault reach t f = node_excl g ks fine.0 env env' ok same here.inside origin (here.path ++ i ∷ []) d at a r fault reach t.spelled f.1
    alternative_excl (alternative name g tests more) ks fine rule env env' ok same here origin i (suc j) d at a r fault reach t f = alternative_excl more ks fine.1 rule env env' ok same here origin i j d at a r fault reach t f

  -- Two failures.

  padded_same : (align : ℕ) (origin : ℕ) (path : List ℕ) (inside : Bool) (at : ℕ) (F G : Failing) → Same F G → (rest : List Bool) (f g : Fault) (m n : ℕ)
      → PaddedFails (record { path = path; place = origin + at; inside = inside }) align F at rest f m → PaddedFails (record { path = path; place = origin + at; inside = inside }) align G at rest g n → (f ≡ g) × (m ≡ n)
  padded_same align origin path inside at F G h rest f g m n (padding_cut p) (padding_cut q) = (p.1 ∙ sym q.1, p.2 ∙ sym q.2)
  padded_same align origin path inside at F G h rest f g m n (padding_cut p) (fails_behind_padding q) = let l = padding_long align at q.front q.spelled in let s = p.0 in let w = ap length q.whole in let x = length-append q.front q.back in absurd (omega arith)
  padded_same align origin path inside at F G h rest f g m n (fails_behind_padding p) (padding_cut q) = let l = padding_long align at p.front p.spelled in let s = q.0 in let w = ap length p.whole in let x = length-append p.front p.back in absurd (omega arith)
  padded_same align origin path inside at F G h rest f g m n (fails_behind_padding p) (fails_behind_padding q) = same_behind (padding_law Any align) (λ _. h) at rest f g m n p q

  slot_same : (align : ℕ) (leaf : NumLeaf) → IsTrue (num_fine leaf) → (env env' : Env) (inside : Bool) (origin : ℕ) (path : List ℕ) → Same (Fails root (node align (num leaf)) env inside origin path) (Fails root (node align (num leaf)) env' inside origin path)
  slot_same align leaf fine env env' inside origin path at rest f g m n p q =
      let here : Here = record { path = path; place = origin + at; inside = inside } in
      padded_same align origin path inside at (FormFails root (num leaf) env here origin) (FormFails root (num leaf) env' here origin)
      (λ at' rest' f' g' m' n' p' q'. let one = leaf_same leaf fine rest' p'.reason q'.reason m' n' p'.fails q'.fails in (p'.says ∙ (ap (λ r. record { path = path; reason = seen inside r; at = origin + at }) one.0 ∙ sym q'.says), one.1)) rest f g m n p q

  chosen_same : (cases : Alternatives) (rule : ChoiceRule) (env env' : Env) (here : Here) (origin i j : ℕ) → i ≡ j → Same (AlternativeFails root cases rule env here origin i i) (AlternativeFails root cases rule env' here origin i i)
      → Same (After (index_width rule) (AlternativeFails root cases rule env here origin i i)) (After (index_width rule) (AlternativeFails root cases rule env' here origin j j))
  chosen_same cases rule env env' here origin i j e h =
      after_same (index_width rule) (AlternativeFails root cases rule env here origin i i) (AlternativeFails root cases rule env' here origin j j)
      (subst (λ (l : ℕ). Same (AlternativeFails root cases rule env here origin i i) (AlternativeFails root cases rule env' here origin l l)) e h)

  mutual
    pub node_same : (g : Grammar) (ks : Known) → Scoped root ks g → (env env' : Env) → Permitted root env → Permitted root env' → Agree ks env env' → (inside : Bool) (origin : ℕ) (path : List ℕ) → Same (Fails root g env inside origin path) (Fails root g env' inside origin path)
    node_same (node align form) ks fine env env' ok ok' same inside origin path at rest f g m n p q =
        let here : Here = record { path = path; place = origin + at; inside = inside } in
        padded_same align origin path inside at (FormFails root form env here origin) (FormFails root form env' here origin) (form_same form ks fine env env' ok ok' same here origin) rest f g m n p q

    form_same : (form : Form) (ks : Known) → FormScoped root ks form → (env env' : Env) → Permitted root env → Permitted root env' → Agree ks env env' → (here : Here) (origin : ℕ) → Same (FormFails root form env here origin) (FormFails root form env' here origin)
    form_same (num leaf) ks fine env env' ok ok' same here origin at rest f g m n p q =
        let one = leaf_same leaf fine rest p.reason q.reason m n p.fails q.fails in
        (p.says ∙ (ap (λ r. record { path = here.path; reason = seen here.inside r; at = here.place }) one.0 ∙ sym q.says), one.1)
    form_same (octets sizing) ks fine env env' ok ok' same here origin at rest f g m n p q =
        sized_same root here sizing ks fine env env' same (λ n. Short here (8 * n)) (λ n. Short here (8 * n)) (λ i j e. subst (λ (k : ℕ). Same (Short here (8 * i)) (Short here (8 * k))) e (same_short here (8 * i))) at rest f g m n p q
    form_same (bits sizing) ks fine env env' ok ok' same here origin at rest f g m n p q =
        sized_same root here sizing ks fine env env' same (λ n. Short here (1 * n)) (λ n. Short here (1 * n)) (λ i j e. subst (λ (k : ℕ). Same (Short here (1 * i)) (Short here (1 * k))) e (same_short here (1 * i))) at rest f g m n p q
    form_same (text leaf) ks fine env env' ok ok' same here origin at rest f g m n p q = text_part_same leaf leaf.ended ks fine.0 env env' same here at rest f g m n p q
    form_same (seq _ home) ks fine env env' ok ok' same here origin at rest f g m n (presence_cut p) (presence_cut q) = (p.1 ∙ sym q.1, p.2 ∙ sym q.2)
    form_same (seq _ home) ks fine env env' ok ok' same here origin at rest f g m n (presence_cut p) (fails_behind_presence q) = let a = p.0 in let b = q.behind.there in absurd (omega arith)
    form_same (seq _ home) ks fine env env' ok ok' same here origin at rest f g m n (fails_behind_presence p) (presence_cut q) = let a = p.behind.there in let b = q.0 in absurd (omega arith)
    form_same (seq fields home) ks fine env env' ok ok' same here origin at rest f g m n (fails_behind_presence p) (fails_behind_presence q) =
        after_same (presence_count fields) (FieldsFail root fields (with_home home p.numbers env) (take (presence_count fields) rest) here origin 0) (FieldsFail root fields (with_home home q.numbers env') (take (presence_count fields) rest) here origin 0)
        (fields_same fields ks fine.1 (with_home home p.numbers env) (with_home home q.numbers env') (permitted_home root home p.numbers env p.permitted ok) (permitted_home root home q.numbers env' q.permitted ok') (agree_inside ks home p.numbers q.numbers env env' fine.0 same) here origin 0 (take (presence_count fields) rest)) at rest f g m n p.behind q.behind
    form_same (list sizing g') ks fine env env' ok ok' same here origin at rest f g m n p q =
        list_same (ending sizing.rule) sizing g' ks fine.0 fine.2 fine.1 env env' same here (λ k. Fails root g' env here.inside origin (here.path ++ k ∷ [])) (λ k. Fails root g' env' here.inside origin (here.path ++ k ∷ []))
        (λ k. node_same g' ks fine.1 env env' ok ok' same here.inside origin (here.path ++ k ∷ [])) (λ d k. node_excl g' ks fine.1 env env' ok same here.inside origin (here.path ++ k ∷ []) d) (λ d k. node_excl g' ks fine.1 env' env ok' (agree_back ks env env' same) here.inside origin (here.path ++ k ∷ []) d)
        (λ d d'. element_law g' ks fine.1 env env' ok same d d') at rest f g m n p q
    form_same (contained sizing g') ks fine env env' ok ok' same here origin at rest f g m n p q =
        sized_same root here sizing ks fine.0 env env' same (WindowFails root here g' env origin) (WindowFails root here g' env' origin)
        (λ i j e. subst (λ (l : ℕ). Same (WindowFails root here g' env origin i) (WindowFails root here g' env' origin l)) e
        (window_same root here g' env env' origin i (λ path o. node_same g' ks fine.1 env env' ok ok' same true o path) (λ d path o. node_excl g' ks fine.1 env env' ok same true o path d) (λ d path o. node_excl g' ks fine.1 env' env ok' (agree_back ks env env' same) true o path d) (λ d d'. element_law g' ks fine.1 env env' ok same d d'))) at rest f g m n p q
    form_same (choice cases (Index width)) ks fine env env' ok ok' same here origin at rest f g m n (fails_at_index (index_cut p)) (fails_at_index (index_cut q)) = (p.1 ∙ sym q.1, p.2 ∙ sym q.2)
    form_same (choice cases (Index width)) ks fine env env' ok ok' same here origin at rest f g m n (fails_at_index (index_cut p)) (fails_at_index (index_too_great q)) = let a = p.0 in let b = q.0 in absurd (omega arith)
    form_same (choice cases (Index width)) ks fine env env' ok ok' same here origin at rest f g m n (fails_at_index (index_too_great p)) (fails_at_index (index_cut q)) = let a = p.0 in let b = q.0 in absurd (omega arith)
    form_same (choice cases (Index width)) ks fine env env' ok ok' same here origin at rest f g m n (fails_at_index (index_too_great p)) (fails_at_index (index_too_great q)) = (p.2 ∙ sym q.2, p.3 ∙ sym q.3)
    form_same (choice cases (Index width)) ks fine env env' ok ok' same here origin at rest f g m n (fails_at_index (index_cut p)) (fails_at_alternative q) = let a = p.0 in let b = q.behind.there in absurd (omega arith)
    form_same (choice cases (Index width)) ks fine env env' ok ok' same here origin at rest f g m n (fails_at_alternative p) (fails_at_index (index_cut q)) = let a = p.behind.there in let b = q.0 in absurd (omega arith)
    form_same (choice cases (Index width)) ks fine env env' ok ok' same here origin at rest f g m n (fails_at_index (index_too_great p)) (fails_at_alternative q) =
        let below = below_fails root cases (Index width) env' here origin q.index q.index (at + width) (drop width rest) g q.behind.more q.behind.fails in let is = q.stands in let many = p.1 in absurd (omega arith)
    form_same (choice cases (Index width)) ks fine env env' ok ok' same here origin at rest f g m n (fails_at_alternative p) (fails_at_index (index_too_great q)) =
        let below = below_fails root cases (Index width) env here origin p.index p.index (at + width) (drop width rest) f p.behind.more p.behind.fails in let is = p.stands in let many = q.1 in absurd (omega arith)
    form_same (choice cases (Index width)) ks fine env env' ok ok' same here origin at rest f g m n (fails_at_alternative p) (fails_at_alternative q) =
        chosen_same cases (Index width) env env' here origin p.index q.index (sym p.stands ∙ q.stands) (alternative_same cases ks fine (Index width) env env' ok ok' same here origin p.index p.index) at rest f g m n p.behind q.behind
    form_same (choice cases Tests) ks fine env env' ok ok' same here origin at rest f g m n (fails_at_index p) (fails_at_index q) = (p.says ∙ sym q.says, p.reaches ∙ sym q.reaches)
    form_same (choice cases Tests) ks fine env env' ok ok' same here origin at rest f g m n (fails_at_index p) (fails_at_alternative q) =
        absurd (none_fails root cases Tests env' env (transfers_tests root cases ks env' env (agree_back ks env env' same) fine.1) p.none here origin q.index q.index (at + 0) (drop 0 rest) g q.behind.more q.behind.fails)
    form_same (choice cases Tests) ks fine env env' ok ok' same here origin at rest f g m n (fails_at_alternative p) (fails_at_index q) =
        absurd (none_fails root cases Tests env env' (transfers_tests root cases ks env env' same fine.1) q.none here origin p.index p.index (at + 0) (drop 0 rest) f p.behind.more p.behind.fails)
    form_same (choice cases Tests) ks fine env env' ok ok' same here origin at rest f g m n (fails_at_alternative p) (fails_at_alternative q) =
        let mine = fails_tests root cases env here origin p.index p.index (at + 0) (drop 0 rest) f p.behind.more p.behind.fails in
        let other = fails_tests root cases env' here origin q.index q.index (at + 0) (drop 0 rest) g q.behind.more q.behind.fails in
        let below = below_fails root cases Tests env here origin p.index p.index (at + 0) (drop 0 rest) f p.behind.more p.behind.fails in
        let below' = below_fails root cases Tests env' here origin q.index q.index (at + 0) (drop 0 rest) g q.behind.more q.behind.fails in
        chosen_same cases Tests env env' here origin p.index q.index (fine.2 env ok p.index q.index below below' mine (all_hold_too ks env env' same (tests_at cases q.index) (fine.1 q.index) other)) (alternative_same cases ks fine.0 Tests env env' ok ok' same here origin p.index p.index) at rest f g m n p.behind q.behind
    form_same (choice cases (Item s)) ks fine env env' ok ok' same here origin at rest f g m n (fails_at_index p) (fails_at_index q) = (p.says ∙ sym q.says, p.reaches ∙ sym q.reaches)
    form_same (choice cases (Item s)) ks fine env env' ok ok' same here origin at rest f g m n (fails_at_index p) (fails_at_alternative q) =
        absurd (none_fails root cases (Item s) env' env (transfers_item root cases s env' env (sym (same s fine.1))) p.none here origin q.index q.index (at + 0) (drop 0 rest) g q.behind.more q.behind.fails)
    form_same (choice cases (Item s)) ks fine env env' ok ok' same here origin at rest f g m n (fails_at_alternative p) (fails_at_index q) =
        absurd (none_fails root cases (Item s) env env' (transfers_item root cases s env env' (same s fine.1)) q.none here origin p.index p.index (at + 0) (drop 0 rest) f p.behind.more p.behind.fails)
    form_same (choice cases (Item s)) ks fine env env' ok ok' same here origin at rest f g m n (fails_at_alternative p) (fails_at_alternative q) =
        let mine = fails_item root cases s env here origin p.index p.index (at + 0) (drop 0 rest) f p.behind.more p.behind.fails in
        let other = fails_item root cases s env' here origin q.index q.index (at + 0) (drop 0 rest) g q.behind.more q.behind.fails in
        let name = same_item_name root (items_of root s) mine.1 other.1 mine.0 other.0 mine.2 other.2 (at_slot env s) (at_slot env' s) (same s fine.1) mine.4 other.4 mine.5 other.5 in
        chosen_same cases (Item s) env env' here origin p.index q.index (names_one (names_of cases) p.index q.index mine.0 fine.2 mine.3 (other.3 ∙ ap Some (sym name))) (alternative_same cases ks fine.0 (Item s) env env' ok ok' same here origin p.index p.index) at rest f g m n p.behind q.behind

    alternative_same : (cases : Alternatives) (ks : Known) → AlternativesScoped root ks cases → (rule : ChoiceRule) (env env' : Env) → Permitted root env → Permitted root env' → Agree ks env env' → (here : Here) (origin i j : ℕ) → Same (AlternativeFails root cases rule env here origin i j) (AlternativeFails root cases rule env' here origin i j)
    alternative_same no_alternatives ks fine rule env env' ok ok' same here origin i j at rest f g m n p q = absurd p
    alternative_same (alternative name g' tests more) ks fine rule env env' ok ok' same here origin i zero at rest f g m n p q = node_same g' ks fine.0 env env' ok ok' same here.inside origin (here.path ++ i ∷ []) at rest f g m n p.1 q.1
    alternative_same (alternative name g' tests more) ks fine rule env env' ok ok' same here origin i (suc j) at rest f g m n p q = alternative_same more ks fine.1 rule env env' ok ok' same here origin i j at rest f g m n p q

    fields_same : (fs : Fields) (ks : Known) → FieldsScoped root ks fs → (env env' : Env) → Permitted root env → Permitted root env' → Agree ks env env' → (here : Here) (origin k : ℕ) (flags : List Bool) → Same (FieldsFail root fs env flags here origin k) (FieldsFail root fs env' flags here origin k)
    fields_same no_fields ks fine env env' ok ok' same here origin k flags at rest f g m n p q = absurd p
    fields_same (component name g' presence default own fs) ks fine env env' ok ok' same here origin k flags at rest f g m n (fails_at_component p) (fails_at_component q) = node_same g' ks fine.1 env env' ok ok' same here.inside origin (here.path ++ k ∷ []) at rest f g m n p.1 q.1
    fields_same (component name g' presence default own fs) ks fine env env' ok ok' same here origin k flags at rest f g m n (fails_at_component p) (fails_behind_component q) =
        absurd (clash_behind (Fails root g' env here.inside origin (here.path ++ k ∷ [])) (excl_given (Fails root g' env here.inside origin (here.path ++ k ∷ [])) (node_excl g' ks fine.1 env' env ok' (agree_back ks env env' same) here.inside origin (here.path ++ k ∷ []) q.1.0)) at rest f g m n p.1 q.1.1)
    fields_same (component name g' presence default own fs) ks fine env env' ok ok' same here origin k flags at rest f g m n (fails_behind_component p) (fails_at_component q) =
        absurd (clash_behind (Fails root g' env' here.inside origin (here.path ++ k ∷ [])) (excl_given (Fails root g' env' here.inside origin (here.path ++ k ∷ [])) (node_excl g' ks fine.1 env env' ok same here.inside origin (here.path ++ k ∷ []) p.1.0)) at rest g f n m q.1 p.1.1)
    fields_same (component name g' presence default own fs) ks fine env env' ok ok' same here origin k flags at rest f g m n (fails_behind_component p) (fails_behind_component q) =
        same_behind (own_law root own (after ks g') env env' p.1.0 q.1.0 (λ x. x) (λ x. x) (spell_law root g' ks fine.1 env env' ok same p.1.0 q.1.0)) (λ h. fields_same fs (choose_known presence ks (with_own own (after ks g'))) fine.2 env env' ok ok' (after_there root presence ks (with_own own (after ks g')) env env' same h.1) here origin (suc k) (flags_behind presence flags)) at rest f g m n p.1.1 q.1.1
    fields_same (component name g' presence default own fs) ks fine env env' ok ok' same here origin k flags at rest f g m n (fails_at_component p) (fails_behind_absent q) = absurd (q.0 (there_too ks env env' same presence fine.0 flags p.0))
    fields_same (component name g' presence default own fs) ks fine env env' ok ok' same here origin k flags at rest f g m n (fails_behind_component p) (fails_behind_absent q) = absurd (q.0 (there_too ks env env' same presence fine.0 flags p.0))
    fields_same (component name g' presence default own fs) ks fine env env' ok ok' same here origin k flags at rest f g m n (fails_behind_absent p) (fails_at_component q) = absurd (p.0 (there_too ks env' env (agree_back ks env env' same) presence fine.0 flags q.0))
    fields_same (component name g' presence default own fs) ks fine env env' ok ok' same here origin k flags at rest f g m n (fails_behind_absent p) (fails_behind_component q) = absurd (p.0 (there_too ks env' env (agree_back ks env env' same) presence fine.0 flags q.0))
    fields_same (component name g' presence default own fs) ks fine env env' ok ok' same here origin k flags at rest f g m n (fails_behind_absent p) (fails_behind_absent q) =
        fields_same fs (choose_known presence ks (with_own own (after ks g'))) fine.2 env env' ok ok' (after_missing presence ks (with_own own (after ks g')) env env' flags p.0 same) here origin (suc k) (flags_behind presence flags) at rest f g m n p.1 q.1
    fields_same (inserted name (node align (num leaf)) (Some s) fs) ks fine env env' ok ok' same here origin k flags at rest f g m n (fails_at_inserted p) (fails_at_inserted q) = slot_same align leaf fine.0 env env' here.inside origin (here.path ++ k ∷ []) at rest f g m n p q
    fields_same (inserted name (node align (num leaf)) (Some s) fs) ks fine env env' ok ok' same here origin k flags at rest f g m n (fails_at_inserted p) (fails_behind_inserted q) =
        absurd (slot_excl align leaf fine.0 env' s here.inside origin (here.path ++ k ∷ []) at q.front q.back f m env q.spelled (subst (λ (x : List Bool). Fails root (node align (num leaf)) env here.inside origin (here.path ++ k ∷ []) at x f m) q.whole p))
    fields_same (inserted name (node align (num leaf)) (Some s) fs) ks fine env env' ok ok' same here origin k flags at rest f g m n (fails_behind_inserted p) (fails_at_inserted q) =
        absurd (slot_excl align leaf fine.0 env s here.inside origin (here.path ++ k ∷ []) at p.front p.back g n env' p.spelled (subst (λ (x : List Bool). Fails root (node align (num leaf)) env' here.inside origin (here.path ++ k ∷ []) at x g n) p.whole q))
    fields_same (inserted name (node align (num leaf)) (Some s) fs) ks fine env env' ok ok' same here origin k flags at rest f g m n (fails_behind_inserted p) (fails_behind_inserted q) =
        same_behind (slot_law root (node align (num leaf)) fine.0 ks env env' s same) (λ more. fields_same fs (with_slot s ks) fine.1 env env' ok ok' more here origin (suc k) flags) at rest f g m n p q
    fields_same (inserted name (node align _) (Some s) fs) ks fine env env' ok ok' same here origin k flags at rest f g m n p q = absurd fine.0
    fields_same (inserted name g' None fs) ks fine env env' ok ok' same here origin k flags at rest f g m n (fails_at_inserted p) (fails_at_inserted q) = node_same g' ks fine.0 env env' ok ok' same here.inside origin (here.path ++ k ∷ []) at rest f g m n p q
    fields_same (inserted name g' None fs) ks fine env env' ok ok' same here origin k flags at rest f g m n (fails_at_inserted p) (fails_behind_inserted q) =
        absurd (clash_behind (Fails root g' env here.inside origin (here.path ++ k ∷ [])) (node_excl g' ks fine.0 env' env ok' (agree_back ks env env' same) here.inside origin (here.path ++ k ∷ []) null) at rest f g m n p q)
    fields_same (inserted name g' None fs) ks fine env env' ok ok' same here origin k flags at rest f g m n (fails_behind_inserted p) (fails_at_inserted q) =
        absurd (clash_behind (Fails root g' env' here.inside origin (here.path ++ k ∷ [])) (node_excl g' ks fine.0 env env' ok same here.inside origin (here.path ++ k ∷ []) null) at rest g f n m q p)
    fields_same (inserted name g' None fs) ks fine env env' ok ok' same here origin k flags at rest f g m n (fails_behind_inserted p) (fails_behind_inserted q) =
        same_behind (spell_law root g' ks fine.0 env env' ok same null null) (λ h. fields_same fs ks fine.1 env env' ok ok' same here origin (suc k) flags) at rest f g m n p q
