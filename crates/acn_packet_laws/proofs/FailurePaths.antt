-- The path of a failure leads to a node.
use Rattle.std.proofs.Common.{ℕ, zero, suc, ◌+◌, ◌*◌, Bool, true, false, List, [], ◌∷◌, ◌++◌, length, take, drop, Option, Some, None, refl, sym, subst}
use Rattle.acn_num.specs.Ranges.{greatest}
use Rattle.acn_grammar.specs.Code.{Any}
use Rattle.acn_grammar.specs.Env.{Env}
use Rattle.acn_grammar.specs.Fails.{Fault, Failing, Behind, Here, Says, Short, After, RuleFails, Sized, PartsFail, CharactersFail, input_ended, end_too_late, length_not_permitted, character_not_permitted, FoundFails, TextFails, found_end, RunFails, EndFails, NoEnd, EndedFails, ListFails, Fails, FormFails, FieldsFail, AlternativeFails, IndexFails, presence_count, flags_behind, SizedFails, ContentFails, prefix_cut, prefix_not_permitted, fails_at_size, fails_behind_size, characters_cut, characters_not_permitted, fails_at_element, fails_behind_element, pattern_cut, pattern_differs, full_not_permitted, full_not_ended, end_not_permitted, next_element_fails, fails_behind_next, index_cut, index_too_great, fails_at_index, fails_at_alternative, padding_cut, fails_behind_padding, presence_cut, fails_behind_presence, fails_at_component, fails_behind_component, fails_behind_absent, fails_at_inserted, fails_behind_inserted, window_cut, content_fails, content_overlong}
use Rattle.acn_grammar.specs.Grammar.{Grammar, Form, Fields, Alternatives, Data, node, num, octets, bits, text, seq, list, choice, contained, no_fields, component, inserted, no_alternatives, alternative, null}
use Rattle.acn_grammar.specs.Interval.{size_of}
use Rattle.acn_grammar.specs.LeafFails.{Reason, short, octet_values}
use Rattle.acn_grammar.specs.Length.{index_width, ending}
use Rattle.acn_grammar.specs.Paths.{part_node}
use Rattle.acn_grammar.specs.Spell.{Part, Where, Padding, SizePart, Carries, Spell, SlotField, octet_numbers, with_home}
use Rattle.acn_grammar.specs.declared.node.ChoiceRule.{ChoiceRule}
use Rattle.acn_grammar.specs.declared.node.ChoiceRule.TheVariants.{Index, Tests, Item}
use Rattle.acn_grammar.specs.declared.node.Sizing.{Sizing}
use Rattle.acn_grammar.specs.declared.node.SizeRule.{SizeRule}
use Rattle.acn_grammar.specs.declared.node.SizeRule.TheVariants.{Prefix, Slot, Ended}
use Rattle.acn_grammar.specs.declared.node.TextLeaf.{TextLeaf}
use Rattle.acn_packet_laws.specs.Laws.{LeadsToANode, FailuresAreAtNodes}
use Rattle.acn_packet_laws.proofs.OnPaths.{On, is_some, FieldsOn, all_fields, first_component, behind_component, first_inserted, behind_inserted, CaseOn, one_further}

module _ (root : Grammar) where
  abbrev Leads : List ℕ → Type 0
  Leads path = LeadsToANode root path

  abbrev Named : Failing → Type 0
  Named F = (at : ℕ) (rest : List Bool) (fault : Fault) (reach : ℕ) → F at rest fault reach → Leads fault.path

  says_named : (here : Here) (r : Reason) (fault : Fault) → Leads here.path → Says here r fault → Leads fault.path
  says_named here r fault l e = subst (λ (f : Fault). Leads f.path) (sym e) l

  behind_named : (P : Part) (F : Failing) → Named F → Named (Behind P F)
  behind_named P F h at rest fault reach t = h (at + length t.front) t.back fault t.more t.fails

  short_named : (here : Here) (n : ℕ) → Leads here.path → Named (Short here n)
  short_named here n l at rest fault reach t = says_named here short fault l t.1

  rule_named : (here : Here) (sizing : Sizing) (rule : SizeRule) (env : Env) → Leads here.path → Named (RuleFails here sizing rule env)
  rule_named here sizing (Prefix low width) env l at rest fault reach (prefix_cut t) = says_named here _ fault l t.1
  rule_named here sizing (Prefix low width) env l at rest fault reach (prefix_not_permitted t) = says_named here _ fault l t.2
  rule_named here sizing (Slot s) env l at rest fault reach t = says_named here _ fault l t.says
  rule_named here sizing (Ended p) env l at rest fault reach t = absurd t

  sized_named : (sizing : Sizing) (env : Env) (F : ℕ → Failing) → ((n : ℕ) → Named (F n)) → Named (Sized sizing env F)
  sized_named sizing env F h at rest fault reach t = behind_named (SizePart sizing env t.n) (F t.n) (h t.n) at rest fault reach t.behind

  size_named : (here : Here) (sizing : Sizing) (env : Env) (F : ℕ → Failing) → Leads here.path → ((n : ℕ) → Named (F n)) → Named (SizedFails here sizing env F)
  size_named here sizing env F l h at rest fault reach (fails_at_size t) = rule_named here sizing sizing.rule env l at rest fault reach t
  size_named here sizing env F l h at rest fault reach (fails_behind_size t) = sized_named sizing env F h at rest fault reach t

  after_named : (n : ℕ) (F : List Bool → Failing) → ((flags : List Bool) → Named (F flags)) → Named (λ at rest fault reach. After n (F (take n rest)) at rest fault reach)
  after_named n F h at rest fault reach t = h (take n rest) (at + n) (drop n rest) fault t.more t.fails

  -- Lists.

  run_named : (each : Data → Part) (fails : ℕ → Failing) → ((k : ℕ) → Named (fails k)) → (n k : ℕ) → Named (RunFails each fails n k)
  run_named each fails h zero k at rest fault reach t = absurd t
  run_named each fails h (suc n) k at rest fault reach (fails_at_element t) = h k at rest fault reach t
  run_named each fails h (suc n) k at rest fault reach (fails_behind_element t) = behind_named (each t.0) (RunFails each fails n (suc k)) (run_named each fails h n (suc k)) at rest fault reach t.1

  end_named : (here : Here) (p : List Bool) (sizing : Sizing) (k : ℕ) → Leads here.path → Named (EndFails here p sizing k)
  end_named here p sizing k l at rest fault reach t = says_named here _ fault l t.says

  no_end_named : (here : Here) (p : List Bool) → Leads here.path → Named (NoEnd here p)
  no_end_named here p l at rest fault reach (pattern_cut t) = says_named here _ fault l t.1
  no_end_named here p l at rest fault reach (pattern_differs t) = says_named here _ fault l t.2

  ended_named : (here : Here) (p : List Bool) (sizing : Sizing) (each : Data → Part) (fails : ℕ → Failing) → Leads here.path → ((k : ℕ) → Named (fails k)) → (n k : ℕ) → Named (EndedFails here p sizing each fails n k)
  ended_named here p sizing each fails l h zero k at rest fault reach (full_not_permitted t) = end_named here p sizing k l at rest fault reach t
  ended_named here p sizing each fails l h zero k at rest fault reach (full_not_ended t) = no_end_named here p l at rest fault reach t
  ended_named here p sizing each fails l h (suc n) k at rest fault reach (end_not_permitted t) = end_named here p sizing k l at rest fault reach t
  ended_named here p sizing each fails l h (suc n) k at rest fault reach (next_element_fails t) = h k at rest fault t.inner t.fails
  ended_named here p sizing each fails l h (suc n) k at rest fault reach (fails_behind_next t) =
      behind_named (each t.0) (EndedFails here p sizing each fails n (suc k)) (ended_named here p sizing each fails l h n (suc k)) at rest fault reach t.1

  list_named : (end : Option (List Bool)) (here : Here) (sizing : Sizing) (env : Env) (each : Data → Part) (fails : ℕ → Failing) → Leads here.path → ((k : ℕ) → Named (fails k)) → Named (ListFails end here sizing env each fails)
  list_named None here sizing env each fails l h =
      size_named here sizing env (λ n. RunFails each fails n 0) l (λ n. run_named each fails h n 0)
  list_named (Some p) here sizing env each fails l h = ended_named here p sizing each fails l h (size_of (greatest sizing.sizes)) 0

  -- Leaves.

  parts_named : (here : Here) (each : ℕ) (sizing : Sizing) (env : Env) → Leads here.path → Named (PartsFail here each sizing env)
  parts_named here each sizing env l = size_named here sizing env (λ n. Short here (each * n)) l (λ n. short_named here (each * n) l)

  characters_named : (here : Here) (leaf : TextLeaf) (n : ℕ) → Leads here.path → Named (CharactersFail here leaf n)
  characters_named here leaf n l at rest fault reach (characters_cut t) = says_named here _ fault l t.1
  characters_named here leaf n l at rest fault reach (characters_not_permitted t) = says_named here _ fault l t.2

  found_named : (here : Here) (leaf : TextLeaf) (end most available : ℕ) (rest : List Bool) (found : Option ℕ) (fault : Fault) (reach : ℕ) → Leads here.path → FoundFails here leaf end most available rest found fault reach → Leads fault.path
  found_named here leaf end most available rest None fault reach l (input_ended t) = says_named here _ fault l t.1
  found_named here leaf end most available rest None fault reach l (end_too_late t) = says_named here _ fault l t.1
  found_named here leaf end most available rest (Some i) fault reach l (length_not_permitted t) = says_named here _ fault l t.1
  found_named here leaf end most available rest (Some i) fault reach l (character_not_permitted t) = says_named here _ fault l t.2

  text_named : (end : Option (List Bool)) (here : Here) (leaf : TextLeaf) (env : Env) → Leads here.path → Named (TextFails here end leaf env)
  text_named None here leaf env l at rest fault reach t =
      size_named here leaf.sized env (CharactersFail here leaf) l (λ n. characters_named here leaf n l) at rest fault reach t
  text_named (Some end) here leaf env l at rest fault reach t =
      let most = size_of (greatest leaf.sized.sizes) + length (octet_numbers end) in
      found_named here leaf (length end) most (length (octet_values rest)) rest (found_end (octet_numbers end) (take most (octet_values rest))) fault reach l t

  -- Nodes.

  index_named : (here : Here) (rule : ChoiceRule) (cases : Alternatives) (env : Env) → Leads here.path → Named (IndexFails root here rule cases env)
  index_named here (Index width) cases env l at rest fault reach (index_cut t) = says_named here _ fault l t.1
  index_named here (Index width) cases env l at rest fault reach (index_too_great t) = says_named here _ fault l t.2
  index_named here Tests cases env l at rest fault reach t = says_named here _ fault l t.says
  index_named here (Item s) cases env l at rest fault reach t = says_named here _ fault l t.says

  content_named : (here : Here) (content : Data → Part) (inside : ℕ → Failing) (n : ℕ) → Leads here.path → ((place : ℕ) → Named (inside place)) → Named (ContentFails here content inside n)
  content_named here content inside n l h at rest fault reach (window_cut t) = says_named here _ fault l t.1
  content_named here content inside n l h at rest fault reach (content_fails t) = h at 0 (take (8 * n) rest) fault t.1.0 t.1.1
  content_named here content inside n l h at rest fault reach (content_overlong t) = says_named here _ fault l t.1.1.says

  mutual
    node_named : (g : Grammar) (env : Env) (inside : Bool) (origin : ℕ) (path : List ℕ) → On part_node root path g → Named (Fails root g env inside origin path)
    node_named (node align form) env inside origin path on at rest fault reach (padding_cut t) =
        says_named (record { path = path; place = origin + at; inside = inside }) short fault (is_some part_node root path (node align form) on) t.1
    node_named (node align form) env inside origin path on at rest fault reach (fails_behind_padding t) =
        let here : Here = record { path = path; place = origin + at; inside = inside } in
        behind_named (Padding Any align) (FormFails root form env here origin) (form_named form align env here origin on) at rest fault reach t

    form_named : (form : Form) (align : ℕ) (env : Env) (here : Here) (origin : ℕ) → On part_node root here.path (node align form) → Named (FormFails root form env here origin)
    form_named (num leaf) align env here origin on at rest fault reach t = says_named here t.reason fault (is_some part_node root here.path (node align (num leaf)) on) t.says
    form_named (octets sizing) align env here origin on at rest fault reach t = parts_named here 8 sizing env (is_some part_node root here.path (node align (octets sizing)) on) at rest fault reach t
    form_named (bits sizing) align env here origin on at rest fault reach t = parts_named here 1 sizing env (is_some part_node root here.path (node align (bits sizing)) on) at rest fault reach t
    form_named (text leaf) align env here origin on at rest fault reach t = text_named leaf.ended here leaf env (is_some part_node root here.path (node align (text leaf)) on) at rest fault reach t
    form_named (seq _ home) align env here origin on at rest fault reach (presence_cut t) = says_named here short fault (is_some part_node root here.path (node align (seq _ home)) on) t.1
    form_named (seq fields home) align env here origin on at rest fault reach (fails_behind_presence t) =
        after_named (presence_count fields) (λ flags. FieldsFail root fields (with_home home t.numbers env) flags here origin 0)
        (λ flags. fields_named fields (with_home home t.numbers env) flags here origin 0 (is_some part_node root here.path (node align (seq fields home)) on) (all_fields part_node root here.path align fields home (λ m. refl) on)) at rest fault reach t.behind
    form_named (list sizing g) align env here origin on at rest fault reach t =
        list_named (ending sizing.rule) here sizing env (Spell root Any g env) (λ k. Fails root g env here.inside origin (here.path ++ k ∷ [])) (is_some part_node root here.path (node align (list sizing g)) on)
        (λ k. node_named g env here.inside origin (here.path ++ k ∷ []) (one_further part_node here.path k root (node align (list sizing g)) g on refl)) at rest fault reach t
    form_named (choice cases rule) align env here origin on at rest fault reach (fails_at_index t) = index_named here rule cases env (is_some part_node root here.path (node align (choice cases rule)) on) at rest fault reach t
    form_named (choice cases rule) align env here origin on at rest fault reach (fails_at_alternative t) =
        after_named (index_width rule) (λ _. AlternativeFails root cases rule env here origin t.index t.index)
        (λ _. case_named cases rule env here origin t.index t.index (λ h is. one_further part_node here.path t.index root (node align (choice cases rule)) h on is)) at rest fault reach t.behind
    form_named (contained sizing g) align env here origin on at rest fault reach t =
        let l = is_some part_node root here.path (node align (contained sizing g)) on in
        let inside = λ (place : ℕ). Fails root g env true (origin + place) (here.path ++ 0 ∷ []) in
        size_named here sizing env (ContentFails here (Spell root Any g env) inside) l
        (λ n. content_named here (Spell root Any g env) inside n l
        (λ place. node_named g env true (origin + place) (here.path ++ 0 ∷ []) (one_further part_node here.path 0 root (node align (contained sizing g)) g on refl))) at rest fault reach t

    fields_named : (fs : Fields) (env : Env) (flags : List Bool) (here : Here) (origin k : ℕ) → Leads here.path → FieldsOn part_node root here.path fs k → Named (FieldsFail root fs env flags here origin k)
    fields_named no_fields env flags here origin k l on at rest fault reach t = absurd t
    fields_named (component name g presence default own fs) env flags here origin k l on at rest fault reach (fails_at_component t) =
        node_named g env here.inside origin (here.path ++ k ∷ []) (first_component part_node root here.path name g presence default own fs k on) at rest fault reach t.1
    fields_named (component name g presence default own fs) env flags here origin k l on at rest fault reach (fails_behind_component t) =
        behind_named (Where (Carries env own t.1.0) (Spell root Any g env t.1.0)) (FieldsFail root fs env (flags_behind presence flags) here origin (suc k))
        (fields_named fs env (flags_behind presence flags) here origin (suc k) l (behind_component part_node root here.path name g presence default own fs k on)) at rest fault reach t.1.1
    fields_named (component name g presence default own fs) env flags here origin k l on at rest fault reach (fails_behind_absent t) =
        fields_named fs env (flags_behind presence flags) here origin (suc k) l (behind_component part_node root here.path name g presence default own fs k on) at rest fault reach t.1
    fields_named (inserted name g (Some s) fs) env flags here origin k l on at rest fault reach (fails_at_inserted t) =
        node_named g env here.inside origin (here.path ++ k ∷ []) (first_inserted part_node root here.path name g (Some s) fs k on) at rest fault reach t
    fields_named (inserted name g (Some s) fs) env flags here origin k l on at rest fault reach (fails_behind_inserted t) =
        behind_named (SlotField root Any g env s) (FieldsFail root fs env flags here origin (suc k)) (fields_named fs env flags here origin (suc k) l (behind_inserted part_node root here.path name g (Some s) fs k on)) at rest fault reach t
    fields_named (inserted name g None fs) env flags here origin k l on at rest fault reach (fails_at_inserted t) =
        node_named g env here.inside origin (here.path ++ k ∷ []) (first_inserted part_node root here.path name g None fs k on) at rest fault reach t
    fields_named (inserted name g None fs) env flags here origin k l on at rest fault reach (fails_behind_inserted t) =
        behind_named (Spell root Any g env null) (FieldsFail root fs env flags here origin (suc k)) (fields_named fs env flags here origin (suc k) l (behind_inserted part_node root here.path name g None fs k on)) at rest fault reach t

    case_named : (cases : Alternatives) (rule : ChoiceRule) (env : Env) (here : Here) (origin i j : ℕ) → CaseOn part_node root here.path cases i j → Named (AlternativeFails root cases rule env here origin i j)
    case_named no_alternatives rule env here origin i j on at rest fault reach t = absurd t
    case_named (alternative name g tests more) rule env here origin i zero on at rest fault reach t = node_named g env here.inside origin (here.path ++ i ∷ []) (on g refl) at rest fault reach t.1
    case_named (alternative name g tests more) rule env here origin i (suc j) on at rest fault reach t = case_named more rule env here origin i j on at rest fault reach t

pub failures_are_at_nodes : FailuresAreAtNodes
failures_are_at_nodes root input fault reach t = node_named root root [] false 0 [] refl 0 input fault reach t
