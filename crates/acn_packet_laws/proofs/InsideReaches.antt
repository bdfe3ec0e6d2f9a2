-- A failure other than the want of bits rests on bits that are there.
use Rattle.std.proofs.Common.{◌≡◌, ℕ, zero, suc, ◌+◌, ◌*◌, ◌≤◌, Bool, true, false, List, [], ◌∷◌, ◌++◌, length, take, drop, Option, Some, None, refl, ap, ◌∙◌, arith, length-append}
use Rattle.std.proofs.lemmas.List.{length-take, length-drop}
use Rattle.acn_num.specs.Ranges.{greatest}
use Rattle.acn_grammar.specs.Asks.{same_name}
use Rattle.acn_grammar.specs.Check.{lead, LeadAmbiguous}
use Rattle.acn_grammar.specs.Code.{Any}
use Rattle.acn_grammar.specs.Env.{Env}
use Rattle.acn_grammar.specs.Fails.{Fault, Failing, Behind, Short, After, RuleFails, Sized, PartsFail, CharactersFail, input_ended, end_too_late, length_not_permitted, character_not_permitted, FoundFails, TextFails, found_end, RunFails, EndFails, NoEnd, EndedFails, ListFails, Fails, FormFails, FieldsFail, AlternativeFails, IndexFails, flags_behind, presence_count, SizedFails, ContentFails, prefix_cut, prefix_not_permitted, fails_at_size, fails_behind_size, characters_cut, characters_not_permitted, fails_at_element, fails_behind_element, pattern_cut, pattern_differs, full_not_permitted, full_not_ended, end_not_permitted, next_element_fails, fails_behind_next, index_cut, index_too_great, fails_at_index, fails_at_alternative, padding_cut, fails_behind_padding, presence_cut, fails_behind_presence, fails_at_component, fails_behind_component, fails_behind_absent, fails_at_inserted, fails_behind_inserted, window_cut, content_fails, content_overlong}
use Rattle.acn_grammar.specs.Grammar.{Grammar, Form, Fields, Alternatives, Data, node, num, octets, bits, text, seq, list, choice, contained, no_fields, component, inserted, no_alternatives, alternative, null}
use Rattle.acn_grammar.specs.Interval.{size_of}
use Rattle.acn_grammar.specs.LeafFails.{short, octet_values}
use Rattle.acn_grammar.specs.Leaves.{end_fine}
use Rattle.acn_grammar.specs.Length.{index_width, ending}
use Rattle.acn_grammar.specs.Scoped.{Known, Scoped, FormScoped, FieldsScoped, AlternativesScoped, EndTold, after, choose_known, with_own, with_slot}
use Rattle.acn_grammar.specs.Spell.{Part, Where, Padding, SizePart, Carries, Spell, SlotField, octet_numbers, with_home}
use Rattle.acn_grammar.specs.declared.node.ChoiceRule.{ChoiceRule}
use Rattle.acn_grammar.specs.declared.node.ChoiceRule.TheVariants.{Index, Tests, Item}
use Rattle.acn_grammar.specs.declared.node.NumLeaf.{NumLeaf}
use Rattle.acn_grammar.specs.declared.node.Sizing.{Sizing}
use Rattle.acn_grammar.specs.declared.node.SizeRule.{SizeRule}
use Rattle.acn_grammar.specs.declared.node.SizeRule.TheVariants.{Prefix, Slot, Ended}
use Rattle.acn_grammar.specs.declared.node.TextLeaf.{TextLeaf}
use Rattle.acn_packet_laws.specs.Laws.{ReachesLieInside}
use Rattle.acn_packet_laws.proofs.LeadFails.{node_far, field_scoped}
use Rattle.acn_packet_laws.proofs.LeafReaches.{leaf_steady}
use Rattle.acn_packet_laws.proofs.NodeLaws.{accepted_scoped}
use Rattle.acn_packet_laws.proofs.Reaches.{out}
use Rattle.acn_packet_laws.proofs.Tuples.{first_three, first_two, last_three, last_two, second_three}
use Rattle.acn_grammar.proofs.Octets.{octets_few, octets_whole}
use Rattle.acn_grammar.proofs.Characters.{same_name-is}
use Rattle.acn_grammar.proofs.FirstPlaces.{find_back}
use Rattle.acn_grammar.proofs.TextRules.{text_rules, end_rules}

abbrev Inside : Failing → Type 0
Inside F = (at : ℕ) (rest : List Bool) (fault : Fault) (reach : ℕ) → F at rest fault reach → (fault.reason ≡ short → ⊥) → reach ≤ length rest

behind_inside : (P : Part) (F : Failing) → Inside F → Inside (Behind P F)
behind_inside P F h at rest fault reach t r =
    let more = h (at + length t.front) t.back fault t.more t.fails r in
    omega (arith, t.reaches, ap length t.whole, length-append t.front t.back)

short_inside : (path : List ℕ) (place n : ℕ) → Inside (Short (out path place) n)
short_inside path place n at rest fault reach t r = absurd (r (ap (λ f. f.reason) t.1))

rule_inside : (path : List ℕ) (place : ℕ) (sizing : Sizing) (rule : SizeRule) (env : Env) → Inside (RuleFails (out path place) sizing rule env)
rule_inside path place sizing (Prefix low width) env at rest fault reach (prefix_cut t) r = absurd (r (ap (λ f. f.reason) t.1))
rule_inside path place sizing (Prefix low width) env at rest fault reach (prefix_not_permitted t) r = let a = t.0 in let b = t.3 in omega arith
rule_inside path place sizing (Slot s) env at rest fault reach t r = let b = t.reaches in omega arith
rule_inside path place sizing (Ended end) env at rest fault reach t r = absurd t

sized_inside : (sizing : Sizing) (env : Env) (F : ℕ → Failing) → ((n : ℕ) → Inside (F n)) → Inside (Sized sizing env F)
sized_inside sizing env F h at rest fault reach t r = behind_inside (SizePart sizing env t.n) (F t.n) (h t.n) at rest fault reach t.behind r

size_inside : (path : List ℕ) (place : ℕ) (sizing : Sizing) (env : Env) (F : ℕ → Failing) → ((n : ℕ) → Inside (F n)) → Inside (SizedFails (out path place) sizing env F)
size_inside path place sizing env F h at rest fault reach (fails_at_size t) r = rule_inside path place sizing sizing.rule env at rest fault reach t r
size_inside path place sizing env F h at rest fault reach (fails_behind_size t) r = sized_inside sizing env F h at rest fault reach t r

after_inside : (n : ℕ) (F : List Bool → Failing) → ((flags : List Bool) → Inside (F flags)) → Inside (λ at rest fault reach. After n (F (take n rest)) at rest fault reach)
after_inside n F h at rest fault reach t r =
    let more = h (take n rest) (at + n) (drop n rest) fault t.more t.fails r in
    let is = t.reaches in
    let low = t.there in
    let l = length-drop n rest in
    omega arith

run_inside : (each : Data → Part) (fails : ℕ → Failing) → ((k : ℕ) → Inside (fails k)) → (n k : ℕ) → Inside (RunFails each fails n k)
run_inside each fails h zero k at rest fault reach t r = absurd t
run_inside each fails h (suc n) k at rest fault reach (fails_at_element t) r = h k at rest fault reach t r
run_inside each fails h (suc n) k at rest fault reach (fails_behind_element t) r = behind_inside (each t.0) (RunFails each fails n (suc k)) (run_inside each fails h n (suc k)) at rest fault reach t.1 r

-- A list that is ended by a pattern: each element that fails has as many bits before it as the pattern.

abbrev Far : ℕ → Failing → Type 0
Far n F = (at : ℕ) (rest : List Bool) (fault : Fault) (reach : ℕ) → F at rest fault reach → (fault.reason ≡ short → ⊥) → n ≤ length rest

stands_far : (p rest : List Bool) → take (length p) rest ≡ p → length p ≤ length rest
stands_far p rest e = omega (arith, length-take (length p) rest, ap length e)

end_inside : (path : List ℕ) (place : ℕ) (p : List Bool) (sizing : Sizing) (k : ℕ) → Inside (EndFails (out path place) p sizing k)
end_inside path place p sizing k at rest fault reach t r = let a = stands_far p rest t.stands in let b = t.reaches in omega arith

no_end_inside : (path : List ℕ) (place : ℕ) (p : List Bool) → Inside (NoEnd (out path place) p)
no_end_inside path place p at rest fault reach (pattern_cut t) r = absurd (r (ap (λ f. f.reason) t.1))
no_end_inside path place p at rest fault reach (pattern_differs t) r = let a = t.0 in let b = t.3 in omega arith

ended_inside : (path : List ℕ) (place : ℕ) (p : List Bool) (sizing : Sizing) (each : Data → Part) (fails : ℕ → Failing) → ((k : ℕ) → Inside (fails k)) → ((k : ℕ) → Far (length p) (fails k)) → (n k : ℕ) → Inside (EndedFails (out path place) p sizing each fails n k)
ended_inside path place p sizing each fails h far zero k at rest fault reach (full_not_permitted t) r = end_inside path place p sizing k at rest fault reach t r
ended_inside path place p sizing each fails h far zero k at rest fault reach (full_not_ended t) r = no_end_inside path place p at rest fault reach t r
ended_inside path place p sizing each fails h far (suc n) k at rest fault reach (end_not_permitted t) r = end_inside path place p sizing k at rest fault reach t r
ended_inside path place p sizing each fails h far (suc n) k at rest fault reach (next_element_fails t) r =
    let a = h k at rest fault t.inner t.fails r in
    let b = far k at rest fault t.inner t.fails r in
    let is = t.reaches in
    omega arith
ended_inside path place p sizing each fails h far (suc n) k at rest fault reach (fails_behind_next t) r =
    behind_inside (each t.0) (EndedFails (out path place) p sizing each fails n (suc k)) (ended_inside path place p sizing each fails h far n (suc k)) at rest fault reach t.1 r

-- Texts.

characters_inside : (path : List ℕ) (place : ℕ) (leaf : TextLeaf) (n : ℕ) → Inside (CharactersFail (out path place) leaf n)
characters_inside path place leaf n at rest fault reach (characters_cut t) r = absurd (r (ap (λ f. f.reason) t.1))
characters_inside path place leaf n at rest fault reach (characters_not_permitted t) r = let a = t.0 in let b = t.3 in omega arith

found_inside : (path : List ℕ) (place : ℕ) (leaf : TextLeaf) (end : List Bool) → length end ≡ 8 * length (octet_numbers end) → (most : ℕ) (rest : List Bool) (found : Option ℕ) → found_end (octet_numbers end) (take most (octet_values rest)) ≡ found → (fault : Fault) (reach : ℕ)
    → FoundFails (out path place) leaf (length end) most (length (octet_values rest)) rest found fault reach → (fault.reason ≡ short → ⊥) → reach ≤ length rest
found_inside path place leaf end whole most rest None is fault reach (input_ended t) r = absurd (r (ap (λ f. f.reason) t.1))
found_inside path place leaf end whole most rest None is fault reach (end_too_late t) r = let a = t.0 in let b = t.2 in let l = octets_few rest in omega arith
found_inside path place leaf end whole most rest (Some i) is fault reach t r =
    let front = take most (octet_values rest) in
    let f = find_back (λ j. same_name (take (length (octet_numbers end)) (drop j (take most (octet_values rest)))) (octet_numbers end)) 0 (length (take most (octet_values rest))) i is in
    let stands = ap length (same_name-is (take (length (octet_numbers end)) (drop i (take most (octet_values rest)))) (octet_numbers end) f.passes) in
    let here = length-take (length (octet_numbers end)) (drop i (take most (octet_values rest))) in
    let behind = length-drop i (take most (octet_values rest)) in
    let kept = length-take most (octet_values rest) in
    let l = octets_few rest in
    let b = f.inside in
    let n = reach_is t in
    omega arith
  where
    reach_is : FoundFails (out path place) leaf (length end) most (length (octet_values rest)) rest (Some i) fault reach → reach ≡ 8 * i + length end
    reach_is (length_not_permitted t) = t.2
    reach_is (character_not_permitted t) = t.3

text_by : (end : Option (List Bool)) (leaf : TextLeaf) → end_fine end leaf ≡ true → (path : List ℕ) (place : ℕ) (env : Env) → Inside (TextFails (out path place) end leaf env)
text_by None leaf f path place env at rest fault reach t r =
    size_inside path place leaf.sized env (CharactersFail (out path place) leaf) (characters_inside path place leaf) at rest fault reach t r
text_by (Some end) leaf f path place env at rest fault reach t r =
    let q = end_rules leaf end f in
    found_inside path place leaf end (octets_whole end (omega (arith, q.octets))) (size_of (greatest leaf.sized.sizes) + length (octet_numbers end)) rest _ refl fault reach t r

-- Nodes.

module _ (root : Grammar) where
  parts_inside : (path : List ℕ) (place each : ℕ) (sizing : Sizing) (env : Env) → Inside (PartsFail (out path place) each sizing env)
  parts_inside path place each sizing env = size_inside path place sizing env (λ n. Short (out path place) (each * n)) (λ n. short_inside path place (each * n))

  index_inside : (path : List ℕ) (place : ℕ) (rule : ChoiceRule) (cases : Alternatives) (env : Env) → Inside (IndexFails root (out path place) rule cases env)
  index_inside path place (Index width) cases env at rest fault reach (index_cut t) r = absurd (r (ap (λ f. f.reason) t.1))
  index_inside path place (Index width) cases env at rest fault reach (index_too_great t) r = let a = t.0 in let b = t.3 in omega arith
  index_inside path place Tests cases env at rest fault reach t r = let b = t.reaches in omega arith
  index_inside path place (Item s) cases env at rest fault reach t r = let b = t.reaches in omega arith

  content_inside : (path : List ℕ) (place n : ℕ) (content : Data → Part) (inside : ℕ → Failing) → Inside (ContentFails (out path place) content inside n)
  content_inside path place n content inside at rest fault reach (window_cut t) r = absurd (r (ap (λ f. f.reason) t.1))
  content_inside path place n content inside at rest fault reach (content_fails t) r = let a = t.0 in let b = t.2 in omega arith
  content_inside path place n content inside at rest fault reach (content_overlong t) r = let a = t.0 in let b = t.2 in omega arith

  -- an element of a list that is ended by a pattern
  element_far : (p : List Bool) (g : Grammar) (ks : Known) → Scoped root ks g → (LeadAmbiguous p (lead (length p) g) → ⊥) → (env : Env) (origin : ℕ) (path : List ℕ) → Far (length p) (Fails root g env false origin path)
  element_far p g ks sc told env origin path at rest fault reach t r = by (lead (length p) g) refl told
    where
      by : (o : Option NumLeaf) → lead (length p) g ≡ o → (LeadAmbiguous p o → ⊥) → length p ≤ length rest
      by None is h = absurd (h tt)
      by (Some leaf) is h = node_far root (length p) leaf g ks sc is env origin path at rest fault reach t r

  list_inside : (end : Option (List Bool)) (path : List ℕ) (place origin : ℕ) (sizing : Sizing) (env : Env) (g : Grammar) (ks : Known) → Scoped root ks g → EndTold end sizing.sizes g → ((k : ℕ) → Inside (Fails root g env false origin (path ++ k ∷ [])))
      → Inside (ListFails end (out path place) sizing env (Spell root Any g env) (λ k. Fails root g env false origin (path ++ k ∷ [])))
  list_inside None path place origin sizing env g ks sc told h =
      size_inside path place sizing env (λ n. RunFails (Spell root Any g env) (λ k. Fails root g env false origin (path ++ k ∷ [])) n 0) (λ n. run_inside (Spell root Any g env) (λ k. Fails root g env false origin (path ++ k ∷ [])) h n 0)
  list_inside (Some p) path place origin sizing env g ks sc told h =
      ended_inside path place p sizing (Spell root Any g env) (λ k. Fails root g env false origin (path ++ k ∷ [])) h (λ k. element_far p g ks sc told.told env origin (path ++ k ∷ [])) (size_of (greatest sizing.sizes)) 0

  cases_scoped : (cases : Alternatives) (rule : ChoiceRule) (ks : Known) → FormScoped root ks (choice cases rule) → AlternativesScoped root ks cases
  cases_scoped cases (Index width) ks h = h
  cases_scoped cases Tests ks h = first_three h
  cases_scoped cases (Item s) ks h = first_three h

  mutual
    node_inside : (g : Grammar) (ks : Known) → Scoped root ks g → (env : Env) (origin : ℕ) (path : List ℕ) → Inside (Fails root g env false origin path)
    node_inside (node align form) ks sc env origin path at rest fault reach (padding_cut t) r = absurd (r (ap (λ f. f.reason) t.1))
    node_inside (node align form) ks sc env origin path at rest fault reach (fails_behind_padding t) r =
        behind_inside (Padding Any align) (FormFails root form env (out path (origin + at)) origin) (form_inside form ks sc env path (origin + at) origin) at rest fault reach t r

    form_inside : (form : Form) (ks : Known) → FormScoped root ks form → (env : Env) (path : List ℕ) (place origin : ℕ) → Inside (FormFails root form env (out path place) origin)
    form_inside (num leaf) ks sc env path place origin at rest fault reach t r = (leaf_steady leaf rest t.reason reach t.fails (λ h. r (ap (λ f. f.reason) t.says ∙ h))).0
    form_inside (octets sizing) ks sc env path place origin at rest fault reach t r = parts_inside path place 8 sizing env at rest fault reach t r
    form_inside (bits sizing) ks sc env path place origin at rest fault reach t r = parts_inside path place 1 sizing env at rest fault reach t r
    form_inside (text leaf) ks sc env path place origin at rest fault reach t r = text_by leaf.ended leaf (text_rules leaf (last_two sc)).end path place env at rest fault reach t r
    form_inside (seq _ home) ks sc env path place origin at rest fault reach (presence_cut t) r = absurd (r (ap (λ f. f.reason) t.1))
    form_inside (seq fields home) ks sc env path place origin at rest fault reach (fails_behind_presence t) r =
        after_inside (presence_count fields) (λ flags. FieldsFail root fields (with_home home t.numbers env) flags (out path place) origin 0) (λ flags. fields_inside fields ks (last_two sc) (with_home home t.numbers env) flags path place origin 0) at rest fault reach t.behind r
    form_inside (list sizing g) ks sc env path place origin at rest fault reach t r =
        list_inside (ending sizing.rule) path place origin sizing env g ks (second_three sc) (last_three sc) (λ k. node_inside g ks (second_three sc) env origin (path ++ k ∷ [])) at rest fault reach t r
    form_inside (choice cases rule) ks sc env path place origin at rest fault reach (fails_at_index t) r = index_inside path place rule cases env at rest fault reach t r
    form_inside (choice cases rule) ks sc env path place origin at rest fault reach (fails_at_alternative t) r =
        after_inside (index_width rule) (λ _. AlternativeFails root cases rule env (out path place) origin t.index t.index) (λ _. case_inside cases ks (cases_scoped cases rule ks sc) rule env path place origin t.index t.index) at rest fault reach t.behind r
    form_inside (contained sizing g) ks sc env path place origin at rest fault reach t r =
        let inside = λ (place' : ℕ). Fails root g env true (origin + place') (path ++ 0 ∷ []) in
        size_inside path place sizing env (ContentFails (out path place) (Spell root Any g env) inside) (λ n. content_inside path place n (Spell root Any g env) inside) at rest fault reach t r

    fields_inside : (fs : Fields) (ks : Known) → FieldsScoped root ks fs → (env : Env) (flags : List Bool) (path : List ℕ) (place origin k : ℕ) → Inside (FieldsFail root fs env flags (out path place) origin k)
    fields_inside no_fields ks sc env flags path place origin k at rest fault reach t r = absurd t
    fields_inside (component name g presence default own fs) ks sc env flags path place origin k at rest fault reach (fails_at_component t) r = node_inside g ks (second_three sc) env origin (path ++ k ∷ []) at rest fault reach t.1 r
    fields_inside (component name g presence default own fs) ks sc env flags path place origin k at rest fault reach (fails_behind_component t) r =
        behind_inside (Where (Carries env own t.1.0) (Spell root Any g env t.1.0)) (FieldsFail root fs env (flags_behind presence flags) (out path place) origin (suc k))
        (fields_inside fs (choose_known presence ks (with_own own (after ks g))) (last_three sc) env (flags_behind presence flags) path place origin (suc k)) at rest fault reach t.1.1 r
    fields_inside (component name g presence default own fs) ks sc env flags path place origin k at rest fault reach (fails_behind_absent t) r =
        fields_inside fs (choose_known presence ks (with_own own (after ks g))) (last_three sc) env (flags_behind presence flags) path place origin (suc k) at rest fault reach t.1 r
    fields_inside (inserted name g (Some s) fs) ks sc env flags path place origin k at rest fault reach (fails_at_inserted t) r = node_inside g ks (field_scoped root ks g (first_two sc)) env origin (path ++ k ∷ []) at rest fault reach t r
    fields_inside (inserted name g (Some s) fs) ks sc env flags path place origin k at rest fault reach (fails_behind_inserted t) r =
        behind_inside (SlotField root Any g env s) (FieldsFail root fs env flags (out path place) origin (suc k)) (fields_inside fs (with_slot s ks) (last_two sc) env flags path place origin (suc k)) at rest fault reach t r
    fields_inside (inserted name g None fs) ks sc env flags path place origin k at rest fault reach (fails_at_inserted t) r = node_inside g ks (first_two sc) env origin (path ++ k ∷ []) at rest fault reach t r
    fields_inside (inserted name g None fs) ks sc env flags path place origin k at rest fault reach (fails_behind_inserted t) r =
        behind_inside (Spell root Any g env null) (FieldsFail root fs env flags (out path place) origin (suc k)) (fields_inside fs ks (last_two sc) env flags path place origin (suc k)) at rest fault reach t r

    case_inside : (cases : Alternatives) (ks : Known) → AlternativesScoped root ks cases → (rule : ChoiceRule) (env : Env) (path : List ℕ) (place origin i j : ℕ) → Inside (AlternativeFails root cases rule env (out path place) origin i j)
    case_inside no_alternatives ks sc rule env path place origin i j at rest fault reach t r = absurd t
    case_inside (alternative name g tests more) ks sc rule env path place origin i zero at rest fault reach t r = node_inside g ks (first_two sc) env origin (path ++ i ∷ []) at rest fault reach t.1 r
    case_inside (alternative name g tests more) ks sc rule env path place origin i (suc j) at rest fault reach t r = case_inside more ks (last_two sc) rule env path place origin i j at rest fault reach t r

pub reaches_lie_inside : ReachesLieInside
reaches_lie_inside root input fault reach a t r = node_inside root root (λ s. false) (accepted_scoped root a) [] 0 [] 0 input fault reach t r
