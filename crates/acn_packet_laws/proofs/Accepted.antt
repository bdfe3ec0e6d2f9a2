-- A tree without a fault is scoped: the prefix law holds of each node in it.
use Rattle.std.proofs.Common.{◌≡◌, ℕ, zero, suc, Bool, false, List, [], ◌∷◌, ◌++◌, length, map, Option, Some, None, refl, sym, subst, ap, ◌∙◌, nat_eq, ◌&&◌}
use Rattle.std.proofs.lemmas.Bool.{or_left, and_parts}
use Rattle.std.specs.Prelude.{slice_get, nat_lt}
use Rattle.std.specs.List.{list_any}
use Rattle.acn_grammar.specs.Asks.{same_name}
use Rattle.acn_grammar.specs.Check.{CheckFault, terminator_ambiguous, EndAmbiguous, Undecodable}
use Rattle.acn_grammar.specs.Grammar.{Grammar, Fields, Alternatives, node, num, octets, bits, text, seq, list, choice, contained, no_fields, component, inserted, no_alternatives, alternative}
use Rattle.acn_grammar.specs.Leaves.{all_differ, sizes_fine, list_rule_fine}
use Rattle.acn_grammar.specs.Length.{ending}
use Rattle.acn_grammar.specs.declared.node.Sizing.{Sizing}
use Rattle.acn_grammar.specs.Scoped.{Known, with_slot, TestsIn, choose_known, with_own, EndTold, after, tests_at, Scoped, FieldsScoped, AlternativesScoped}
use Rattle.acn_grammar.specs.Tree.{IsTree, has_tests, choice_rule_fine}
use Rattle.acn_grammar.specs.Walk.{Stand, Role, component_role, an_inserted, alternative_role, an_element, a_content, root_node, nodes, nodes_of, form_nodes, field_nodes, alternative_nodes, conditions_of}
use Rattle.acn_grammar.specs.declared.node.ChoiceRule.{ChoiceRule}
use Rattle.acn_grammar.specs.declared.node.ChoiceRule.TheVariants.{Index, Tests, Item}
use Rattle.acn_packet_laws.proofs.Overlaps.{no_overlap}
use Rattle.acn_packet_laws.proofs.Placed.{here_at, place_fine, to_fields, to_one, to_cases, first_component, next_component, first_inserted, next_inserted, first_case, next_case, any_left, field_is, root_place}
use Rattle.acn_packet_laws.proofs.Scoping.{At, FieldsAt, CasesAt, numbers, rules, Knows, own_known, form_known, step_in, fields_in, knows_left, knows_right, component_behind, inserted_behind, inserted_is, only_slot, not_home, tests_in, presence_in, rule_in, names_are, get_here}
use Rattle.acn_grammar.proofs.SlotLists.{same_eq}

module _ (root : Grammar) (tree : IsTree root) (sound : (f : CheckFault) → Undecodable root f → ⊥) where
  -- each alternative's conditions name known slots
  pub tests_known : (cases : Alternatives) (pre : List Stand) (rule : ChoiceRule) (path around : List ℕ) (k : ℕ) (post : List Stand) → CasesAt root tree sound pre rule path around k cases post → (ks : Known) → Knows ks pre around (alternative_nodes rule path around k cases) → (i : ℕ) → TestsIn ks (tests_at cases i)
  tests_known no_alternatives pre rule path around k post p ks knows i = tt
  tests_known (alternative name g tests more) pre rule path around k post p ks knows zero =
      tests_in ks tests (own_known root tree sound pre (alternative_role name tests rule) (path ++ k ∷ []) around g (alternative_nodes rule path around (suc k) more ++ post) (first_case (nodes_of root) (numbers root tree sound) (rules root tree sound) pre rule path around k name g tests more post p) ks
      (knows_left root tree sound ks pre around (nodes (alternative_role name tests rule) (path ++ k ∷ []) around g) (alternative_nodes rule path around (suc k) more) knows))
  tests_known (alternative name g tests more) pre rule path around k post p ks knows (suc i) =
      tests_known more (pre ++ nodes (alternative_role name tests rule) (path ++ k ∷ []) around g) rule path around (suc k) post (next_case (nodes_of root) (numbers root tree sound) (rules root tree sound) pre rule path around k name g tests more post p) ks
      (knows_right root tree sound ks pre around (nodes (alternative_role name tests rule) (path ++ k ∷ []) around g) (alternative_nodes rule path around (suc k) more)
      (λ s o h. p.none s o (any_left (field_is s) (nodes (alternative_role name tests rule) (path ++ k ∷ []) around g) (alternative_nodes rule path around (suc k) more) h)) knows) i

  -- no element begins with the pattern that ends its list
  pub end_told : (pre : List Stand) (role : Role) (path around : List ℕ) (align : ℕ) (sizing : Sizing) (g : Grammar) (post : List Stand) → At root tree sound pre role path around (node align (list sizing g)) post
      → (end : Option (List Bool)) → ending sizing.rule ≡ end → EndTold end sizing.sizes g
  end_told pre role path around align sizing g post p None e = tt
  end_told pre role path around align sizing g post p (Some end) e =
      let here = here_at role path around align (list sizing g) in
      let fine = (place_fine (nodes_of root) (numbers root tree sound) (rules root tree sound) pre role path around align (list sizing g) post p).form in
      record {
        fine = (and_parts (sizes_fine sizing.sizes) (list_rule_fine (ending sizing.rule) sizing) fine).0;
        told = λ ambiguous. sound (terminator_ambiguous path) (record {
          node = length pre;
          use_here = 0;
          holds = record {
            at = here;
            is_at = ap (λ l. slice_get l (length pre)) p.whole ∙ get_here pre here (form_nodes path around (list sizing g) ++ post);
            path_is = refl;
            ambiguous = subst (λ (o : Option (List Bool)). EndAmbiguous o g) (sym e) ambiguous;
          };
        });
      }

  mutual
    pub scoped : (g : Grammar) (pre : List Stand) (role : Role) (path around : List ℕ) (post : List Stand) → At root tree sound pre role path around g post → (ks : Known) → Knows ks pre around (nodes role path around g) → Scoped root ks g
    scoped (node align (num leaf)) pre role path around post p ks knows = (place_fine (nodes_of root) (numbers root tree sound) (rules root tree sound) pre role path around align (num leaf) post p).form
    scoped (node align (octets sizing)) pre role path around post p ks knows = rule_in ks sizing.rule (form_known root tree sound pre role path around align (octets sizing) post p ks knows)
    scoped (node align (bits sizing)) pre role path around post p ks knows = rule_in ks sizing.rule (form_known root tree sound pre role path around align (bits sizing) post p ks knows)
    scoped (node align (text leaf)) pre role path around post p ks knows =
        (rule_in ks leaf.sized.rule (form_known root tree sound pre role path around align (text leaf) post p ks knows), (place_fine (nodes_of root) (numbers root tree sound) (rules root tree sound) pre role path around align (text leaf) post p).form)
    scoped (node align (seq fields home)) pre role path around post p ks knows = (
      (λ s h. not_home root tree sound pre role path around align fields home post p s (knows.fresh s h)),
      scoped_fields fields (pre ++ here_at role path around align (seq fields home) ∷ []) path (home ++ around) 0 post (to_fields (nodes_of root) (numbers root tree sound) (rules root tree sound) pre role path around align fields home post p) ks (fields_in root tree sound pre role path around align fields home post p ks knows),
    )
    scoped (node align (list sizing g)) pre role path around post p ks knows = (
      rule_in ks sizing.rule (form_known root tree sound pre role path around align (list sizing g) post p ks knows),
      scoped g (pre ++ here_at role path around align (list sizing g) ∷ []) an_element (path ++ 0 ∷ []) around post (to_one (nodes_of root) (numbers root tree sound) (rules root tree sound) pre role path around align (list sizing g) post an_element (path ++ 0 ∷ []) g refl refl p) ks (step_in root tree sound pre role path around align (list sizing g) post p refl ks knows),
      end_told pre role path around align sizing g post p (ending sizing.rule) refl,
    )
    scoped (node align (contained sizing g)) pre role path around post p ks knows = (
      rule_in ks sizing.rule (form_known root tree sound pre role path around align (contained sizing g) post p ks knows),
      scoped g (pre ++ here_at role path around align (contained sizing g) ∷ []) a_content (path ++ 0 ∷ []) around post (to_one (nodes_of root) (numbers root tree sound) (rules root tree sound) pre role path around align (contained sizing g) post a_content (path ++ 0 ∷ []) g refl refl p) ks (step_in root tree sound pre role path around align (contained sizing g) post p refl ks knows),
    )
    scoped (node align (choice cases (Index width))) pre role path around post p ks knows =
        scoped_cases cases (pre ++ here_at role path around align (choice cases (Index width)) ∷ []) (Index width) path around 0 post (to_cases (nodes_of root) (numbers root tree sound) (rules root tree sound) pre role path around align cases (Index width) post p) ks (step_in root tree sound pre role path around align (choice cases (Index width)) post p refl ks knows)
    scoped (node align (choice cases Tests)) pre role path around post p ks knows =
        let here = here_at role path around align (choice cases Tests) in
        let inner = to_cases (nodes_of root) (numbers root tree sound) (rules root tree sound) pre role path around align cases Tests post p in
        let more = step_in root tree sound pre role path around align (choice cases Tests) post p refl ks knows in
        let fine = (place_fine (nodes_of root) (numbers root tree sound) (rules root tree sound) pre role path around align (choice cases Tests) post p).form in
        let f = and_parts (nat_lt 0 (length (conditions_of cases))) (all_differ same_name (map (λ c. c.0) (conditions_of cases)) && choice_rule_fine (conditions_of cases) Tests) fine in
        let g = and_parts (all_differ same_name (map (λ c. c.0) (conditions_of cases))) (list_any has_tests (conditions_of cases)) f.1 in (
          scoped_cases cases (pre ++ here ∷ []) Tests path around 0 post inner ks more,
          tests_known cases (pre ++ here ∷ []) Tests path around 0 post inner ks more,
          no_overlap root sound (length pre) here cases (ap (λ l. slice_get l (length pre)) p.whole ∙ get_here pre here (form_nodes path around (choice cases Tests) ++ post)) (refl, refl) g.1,
        )
    scoped (node align (choice cases (Item s))) pre role path around post p ks knows =
        let here = here_at role path around align (choice cases (Item s)) in
        let fine = (place_fine (nodes_of root) (numbers root tree sound) (rules root tree sound) pre role path around align (choice cases (Item s)) post p).form in
        let f = and_parts (nat_lt 0 (length (conditions_of cases))) (all_differ same_name (map (λ c. c.0) (conditions_of cases)) && choice_rule_fine (conditions_of cases) (Item s)) fine in
        let g = and_parts (all_differ same_name (map (λ c. c.0) (conditions_of cases))) (choice_rule_fine (conditions_of cases) (Item s)) f.1 in (
          scoped_cases cases (pre ++ here ∷ []) (Item s) path around 0 post (to_cases (nodes_of root) (numbers root tree sound) (rules root tree sound) pre role path around align cases (Item s) post p) ks (step_in root tree sound pre role path around align (choice cases (Item s)) post p refl ks knows),
          form_known root tree sound pre role path around align (choice cases (Item s)) post p ks knows s (or_left (nat_eq s s) false (same_eq s)),
          ap (all_differ same_name) (names_are cases) ∙ g.0,
        )

    scoped_fields : (fs : Fields) (pre : List Stand) (path around : List ℕ) (k : ℕ) (post : List Stand) → FieldsAt root tree sound pre path around k fs post → (ks : Known) → Knows ks pre around (field_nodes path around k fs) → FieldsScoped root ks fs
    scoped_fields no_fields pre path around k post p ks knows = tt
    scoped_fields (component name g presence default own fs) pre path around k post p ks knows =
        let a = nodes (component_role name presence default own) (path ++ k ∷ []) around g in
        let b = field_nodes path around (suc k) fs in
        let first = first_component (nodes_of root) (numbers root tree sound) (rules root tree sound) pre path around k name g presence default own fs post p in
        let knows' = knows_left root tree sound ks pre around a b knows in (
          presence_in ks presence (own_known root tree sound pre (component_role name presence default own) (path ++ k ∷ []) around g (b ++ post) first ks knows'),
          scoped g pre (component_role name presence default own) (path ++ k ∷ []) around (b ++ post) first ks knows',
          scoped_fields fs (pre ++ a) path around (suc k) post (next_component (nodes_of root) (numbers root tree sound) (rules root tree sound) pre path around k name g presence default own fs post p) (choose_known presence ks (with_own own (after ks g))) (component_behind root tree sound pre path around k name g presence default own fs post p ks knows),
        )
    scoped_fields (inserted name g (Some t) fs) pre path around k post p ks knows = (
      inserted_is root tree sound pre path around k name g (Some t) fs post p,
      scoped_fields fs (pre ++ nodes (an_inserted name (Some t)) (path ++ k ∷ []) around g) path around (suc k) post (next_inserted (nodes_of root) (numbers root tree sound) (rules root tree sound) pre path around k name g (Some t) fs post p) (with_slot t ks) (inserted_behind root tree sound pre path around k name g t fs post p ks knows),
    )
    scoped_fields (inserted name g None fs) pre path around k post p ks knows =
        let a = nodes (an_inserted name None) (path ++ k ∷ []) around g in
        let b = field_nodes path around (suc k) fs in (
          scoped g pre (an_inserted name None) (path ++ k ∷ []) around (b ++ post) (first_inserted (nodes_of root) (numbers root tree sound) (rules root tree sound) pre path around k name g None fs post p) ks (knows_left root tree sound ks pre around a b knows),
          scoped_fields fs (pre ++ a) path around (suc k) post (next_inserted (nodes_of root) (numbers root tree sound) (rules root tree sound) pre path around k name g None fs post p) ks
              (knows_right root tree sound ks pre around a b (λ s o h. let none = only_slot root tree sound g (inserted_is root tree sound pre path around k name g None fs post p) name (path ++ k ∷ []) around None s h in cc) knows),
        )

    scoped_cases : (cases : Alternatives) (pre : List Stand) (rule : ChoiceRule) (path around : List ℕ) (k : ℕ) (post : List Stand) → CasesAt root tree sound pre rule path around k cases post → (ks : Known) → Knows ks pre around (alternative_nodes rule path around k cases) → AlternativesScoped root ks cases
    scoped_cases no_alternatives pre rule path around k post p ks knows = tt
    scoped_cases (alternative name g tests more) pre rule path around k post p ks knows =
        let a = nodes (alternative_role name tests rule) (path ++ k ∷ []) around g in
        let b = alternative_nodes rule path around (suc k) more in (
          scoped g pre (alternative_role name tests rule) (path ++ k ∷ []) around (b ++ post) (first_case (nodes_of root) (numbers root tree sound) (rules root tree sound) pre rule path around k name g tests more post p) ks (knows_left root tree sound ks pre around a b knows),
          scoped_cases more (pre ++ a) rule path around (suc k) post (next_case (nodes_of root) (numbers root tree sound) (rules root tree sound) pre rule path around k name g tests more post p) ks
              (knows_right root tree sound ks pre around a b (λ s o h. p.none s o (any_left (field_is s) a b h)) knows),
        )

  pub root_scoped : Scoped root (λ s. false) root
  root_scoped = scoped root [] root_node [] [] [] (root_place root (numbers root tree sound) (rules root tree sound)) (λ s. false) (record { known = λ s o h m. cc; fresh = λ s h. cc })
