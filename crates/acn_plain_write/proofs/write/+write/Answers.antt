use Rattle.std.proofs.Common.{◌+◌, ◌++◌, ◌∷◌, [], ◌∙◌, ap, sym, subst, refl, arith, rules, drop, List, ℕ, suc, add-one}
use Rattle.std.specs.Prelude.{option_map, Option}
use Rattle.acn_grammar.specs.Code.{Written}
use Rattle.acn_grammar.specs.Env.{Env}
use Rattle.acn_grammar.specs.Grammar.{Grammar, Fields, octets, bits, text, seq, choice}
use Rattle.acn_grammar.specs.Spell.{FieldsPart, RunPart, Spell}
use Rattle.acn_grammar.specs.View.{alternatives_view, data_of, elements_view, fields_view, form_of, grammar_of, places_view}
use Rattle.acn_grammar.specs.declared.node.Alternative.{the_lemmas as alternative_lemmas}
use Rattle.acn_grammar.specs.declared.node.Choice.{out-Choice}
use Rattle.acn_grammar.specs.declared.node.Node.{the_lemmas}
use Rattle.acn_grammar.specs.declared.value.Value.{Value}
use Rattle.acn_grammar.proofs.Views.{view_node, view_seq, view_seq_form}
use Rattle.acn_plain_write.specs.Adds.{Adds, Leads, PlacePart}
use Rattle.acn_plain_write.specs.Ready.{FieldsReady, Ready, RunReady}
use Rattle.acn_plain_write.proofs.Adding.{joined, leads_all, leads_on, leads_start, no_bits}
use Rattle.acn_plain_write.proofs.Walk.{on_ok, below, view_octets, view_bits, view_text, view_list, view_contained, view_choice, view_octets_value, view_bits_value, view_text_value, view_list_value, view_alt_value, room, seq_adds, few_fields, component_ready, component_onward, no_place, inserted_ready, inserted_onward, fields_from, fields_end, count_elements, run_step, run_leads, run_end, list_added, case_ready, case_adds, no_case, choice_adds, contained_adds, octets_body, bits_body, text_body, seq_body_ready, seq_body, list_body_ready, choice_body, contained_body}
use Rattle.acn_plain_write.proofs.write.+write.Goals as goal

-- Nodes.

pub write_node-returns-clause-added : goal.write_node-returns-clause-added
write_node-returns-clause-added t c =
    on_ok c.write_body.result (λ a. subst (λ (g : Grammar). Adds (Spell (grammar_of c.args.root.now) Written g c.args.slots.now (data_of c.args.v.now)) c.args.base c.args.bits.now c.write_body.new.bits) (sym (view_node c.args.node.now))
    (joined c.args.base c.args.bits.now c.put_padding.new.bits c.write_body.new.bits c.in_ok-put_padding.ensures a)) c.write_body.ensures.added

pub write_child-push-requires : goal.write_child-push-requires
write_child-push-requires t c = room (grammar_of c.args.root.now) c.args.heard.now (grammar_of c.args.node.now) c.args.slots.now c.args.path.now c.args.step (data_of c.args.v.now) c.requires

pub write_child-write_node-requires : goal.write_child-write_node-requires
write_child-write_node-requires t c = (
  search (rules, the_lemmas),
  subst (λ (p : List ℕ). Ready (grammar_of c.args.root.now) c.args.heard.now (grammar_of c.args.node.now) c.args.slots.now p (data_of c.args.v.now)) (sym c.push.ensures) c.requires,
)

pub write_place-returns-in-None-clause-added : goal.write_place-returns-in-None-clause-added
write_place-returns-in-None-clause-added t c =
    subst (λ (o : Option Value). Adds (PlacePart (λ d. Spell (grammar_of c.args.root.now) Written (grammar_of c.args.node.now) c.args.slots.now d) (option_map data_of o)) c.args.base c.args.bits.now c.args.bits.now) (sym c.in-None.is)
    (no_bits c.args.base c.args.bits.now c.args.bits.now refl (λ at. refl))

-- SEQUENCEs.

pub write_seq-numbers_at_home-requires : goal.write_seq-numbers_at_home-requires
write_seq-numbers_at_home-requires t c = let r = c.requires in (grammar_of c.args.root.now, places_view c.args.places.now, r.0, r.1)

pub write_seq-write_fields-requires : goal.write_seq-write_fields-requires
write_seq-write_fields-requires t c =
    let r = c.requires in
    let is = c.items.ensures ∙ c.in_ok-numbers.ensures (grammar_of c.args.root.now) (places_view c.args.places.now) r.0 r.1 in (
      search (rules, the_lemmas),
      (
        few_fields (grammar_of c.args.root.now) c.args.heard.now c.args.fields.now c.args.home.now c.args.path.now (places_view c.args.places.now) r.0 r.1,
        subst (λ (n : Env). FieldsReady (grammar_of c.args.root.now) c.args.heard.now (fields_view c.args.fields.now) n c.args.path.now 0 (places_view c.args.places.now)) (sym is) r.2,
      ),
    )

pub write_seq-returns-clause-added : goal.write_seq-returns-clause-added
write_seq-returns-clause-added t c =
    let r = c.requires in
    let is = c.items.ensures ∙ c.in_ok-numbers.ensures (grammar_of c.args.root.now) (places_view c.args.places.now) r.0 r.1 in
    on_ok c.write_fields.result (λ a. seq_adds (grammar_of c.args.root.now) c.args.heard.now (fields_view c.args.fields.now) c.args.home.now c.args.slots.now c.items.result.now c.args.path.now (places_view c.args.places.now) r.0 c.args.base c.args.bits.now c.put_presence_bits.new.bits c.write_fields.new.bits r.1 is c.in_ok-put_presence_bits.ensures a) c.write_fields.ensures.added

pub write_fields-loop-field-init : goal.write_fields-loop-field-init
write_fields-loop-field-init t c = record {
  path = refl;
  step = refl;
  within = omega arith;
  ready = c.requires.ready;
  leads = leads_start (FieldsPart (grammar_of c.args.root.now) Written (fields_view c.args.fields.now) c.args.slots.now (places_view c.args.places.now)) c.args.base c.args.bits.now;
}

pub write_fields-write_field-requires : goal.write_fields-write_field-requires
write_fields-write_field-requires t c =
    let l = c.loop-field in
    let from = fields_from (grammar_of c.args.root.now) c.args.fields.now l.field-index c.field-item.result c.loop-field-test.true c.field-item.is in (
      search (rules, the_lemmas),
      (
        l.invariant.within,
        (
          fields_view (drop (l.field-index + 1) c.args.fields.now),
          subst (λ (fs : Fields). FieldsReady (grammar_of c.args.root.now) c.args.heard.now fs c.args.slots.now l.path l.step (places_view (drop l.at c.args.places.now))) from
              (subst (λ (p : List ℕ). FieldsReady (grammar_of c.args.root.now) c.args.heard.now (fields_view (drop l.field-index c.args.fields.now)) c.args.slots.now p l.step (places_view (drop l.at c.args.places.now))) (sym l.invariant.path) l.invariant.ready),
        ),
      ),
    )

pub write_fields-loop-field-preserved : goal.write_fields-loop-field-preserved
write_fields-loop-field-preserved t c =
    let l = c.loop-field in
    let rest = fields_view (drop (l.field-index + 1) c.args.fields.now) in
    let from = fields_from (grammar_of c.args.root.now) c.args.fields.now l.field-index c.field-item.result c.loop-field-test.true c.field-item.is in
    let ready = subst (λ (fs : Fields). FieldsReady (grammar_of c.args.root.now) c.args.heard.now fs c.args.slots.now l.path l.step (places_view (drop l.at c.args.places.now))) from
    (subst (λ (p : List ℕ). FieldsReady (grammar_of c.args.root.now) c.args.heard.now (fields_view (drop l.field-index c.args.fields.now)) c.args.slots.now p l.step (places_view (drop l.at c.args.places.now))) (sym l.invariant.path) l.invariant.ready) in
    let on = c.in_ok-at.ensures.added rest ready in
    let whole = subst (λ (fs : Fields). Leads (FieldsPart (grammar_of c.args.root.now) Written fs c.args.slots.now (places_view (drop l.at c.args.places.now))) (FieldsPart (grammar_of c.args.root.now) Written (fields_view c.args.fields.now) c.args.slots.now (places_view c.args.places.now)) c.args.base c.args.bits.now l.bits) from l.invariant.leads in
    record {
      path = c.in_ok-at.ensures.path ∙ l.invariant.path;
      step = ap (λ (n : ℕ). n + 1) l.invariant.step;
      within = on.within;
      ready = subst (λ (n : ℕ). FieldsReady (grammar_of c.args.root.now) c.args.heard.now (fields_view (drop (l.field-index + 1) c.args.fields.now)) c.args.slots.now c.args.path.now n (places_view (drop c.in_ok-at.at c.args.places.now))) (sym (add-one l.step))
          (subst (λ (p : List ℕ). FieldsReady (grammar_of c.args.root.now) c.args.heard.now (fields_view (drop (l.field-index + 1) c.args.fields.now)) c.args.slots.now p (suc l.step) (places_view (drop c.in_ok-at.at c.args.places.now))) l.invariant.path on.later);
      leads = leads_on c.args.base c.args.bits.now l.bits c.write_field.new.bits whole on.leads;
    }

pub write_fields-returns-clause-added : goal.write_fields-returns-clause-added
write_fields-returns-clause-added t c =
    let l = c.loop-field in
    let over = c.loop-field-test.false in
    leads_all c.args.base c.args.bits.now l.bits l.invariant.leads (fields_end (grammar_of c.args.root.now) c.args.heard.now c.args.fields.now l.field-index c.args.slots.now c.args.path.now l.step (places_view (drop l.at c.args.places.now)) (omega (arith, over)) l.invariant.ready)

pub write_field-write_place-requires : goal.write_field-write_place-requires
write_field-write_place-requires t c =
    let m = c.in-Component in
    let there = c.in-Some.ensures.lookup in
    let r = c.requires.ready in (
      search (rules, the_lemmas),
      component_ready (grammar_of c.args.root.now) c.args.heard.now c.args.slots.now c.args.path.now c.args.step c.args.field.now m.name m.node m.presence m.default m.slot r.0 c.args.places.now c.args.at c.in-Some.place.now m.is (below _ _ there.0) there.1 r.1,
    )

pub write_field-returns-in_ok-write_place-in-Some-clause-added : goal.write_field-returns-in_ok-write_place-in-Some-clause-added
write_field-returns-in_ok-write_place-in-Some-clause-added t c fs r =
    let m = c.in-Component in
    let there = c.in-Some.ensures.lookup in
    component_onward (grammar_of c.args.root.now) c.args.heard.now c.args.slots.now c.args.path.now c.args.step c.args.field.now m.name m.node m.presence m.default m.slot fs c.args.places.now c.args.at c.in-Some.place.now c.args.base c.args.bits.now c.write_place.new.bits m.is (below _ _ there.0) there.1 r c.in_ok-write_place-in-Some.ensures.added

pub write_field-returns-in-None-clause-added : goal.write_field-returns-in-None-clause-added
write_field-returns-in-None-clause-added t c fs r =
    let m = c.in-Component in
    absurd (no_place (grammar_of c.args.root.now) c.args.heard.now c.args.slots.now c.args.path.now c.args.step c.args.field.now m.name m.node m.presence m.default m.slot fs c.args.places.now c.args.at m.is (c.in-None.ensures {u = tt}).lookup.3 r)

pub write_field-write_inserted-requires : goal.write_field-write_inserted-requires
write_field-write_inserted-requires t c =
    let m = c.in-Inserted in
    let r = c.requires.ready in
    inserted_ready (grammar_of c.args.root.now) c.args.heard.now c.args.slots.now c.args.path.now c.args.step c.args.field.now m.name m.node m.slot r.0 (places_view (drop c.args.at c.args.places.now)) m.is r.1

pub write_field-returns-in_ok-write_inserted-in-Inserted-clause-added : goal.write_field-returns-in_ok-write_inserted-in-Inserted-clause-added
write_field-returns-in_ok-write_inserted-in-Inserted-clause-added t c fs r =
    let m = c.in-Inserted in
    inserted_onward (grammar_of c.args.root.now) c.args.heard.now c.args.slots.now c.args.path.now c.args.step c.args.field.now m.name m.node m.slot fs c.args.places.now c.args.at c.args.base c.args.bits.now c.write_inserted.new.bits m.is c.requires.within r (c.in_ok-write_inserted-in-Inserted.ensures (grammar_of c.args.root.now))

-- Lists.

pub write_list-write_run-requires : goal.write_list-write_run-requires
write_list-write_run-requires t c =
    let r = c.requires in
    let few = r.0 in
    let n = count_elements (grammar_of c.args.root.now) c.args.elements.now in (search (rules, the_lemmas), (omega (arith, few, n), r.2))

pub write_list-returns-clause-added : goal.write_list-returns-clause-added
write_list-returns-clause-added t c =
    let r = c.requires in
    on_ok c.put_end.result (λ e. list_added (grammar_of c.args.root.now) c.args.sizing.now c.args.slots.now (Spell (grammar_of c.args.root.now) Written (grammar_of c.args.element.now) c.args.slots.now) c.args.elements.now c.args.base c.args.bits.now c.put_size.new.bits c.write_run.new.bits c.put_end.new.bits r.1 c.in_ok-put_size.ensures c.in_ok-write_run.ensures.added e) c.put_end.ensures

pub write_run-loop-v-init : goal.write_run-loop-v-init
write_run-loop-v-init t c = record {
  path = refl;
  step = refl;
  ready = c.requires.ready;
  leads = leads_start (RunPart (Spell (grammar_of c.args.root.now) Written (grammar_of c.args.element.now) c.args.slots.now) (elements_view c.args.elements.now)) c.args.base c.args.bits.now;
}

pub write_run-write_child-requires : goal.write_run-write_child-requires
write_run-write_child-requires t c =
    let l = c.loop-v in (
      search (rules, the_lemmas),
      subst (λ (p : List ℕ). Ready (grammar_of c.args.root.now) c.args.heard.now (grammar_of c.args.element.now) c.args.slots.now (p ++ l.step ∷ []) (data_of c.v-item.result)) (sym l.invariant.path)
          (run_step (grammar_of c.args.root.now) (λ k d. Ready (grammar_of c.args.root.now) c.args.heard.now (grammar_of c.args.element.now) c.args.slots.now (c.args.path.now ++ k ∷ []) d) c.args.elements.now l.v-index l.step c.v-item.result c.loop-v-test.true c.v-item.is l.invariant.ready).0,
    )

pub write_run-loop-v-preserved : goal.write_run-loop-v-preserved
write_run-loop-v-preserved t c =
    let l = c.loop-v in
    record {
      path = c.in_ok-write_child.ensures.path ∙ l.invariant.path;
      step = ap (λ (n : ℕ). n + 1) l.invariant.step;
      ready = subst (λ (n : ℕ). RunReady (λ k d. Ready (grammar_of c.args.root.now) c.args.heard.now (grammar_of c.args.element.now) c.args.slots.now (c.args.path.now ++ k ∷ []) d) n (elements_view (drop (l.v-index + 1) c.args.elements.now))) (sym (add-one l.step))
          (run_step (grammar_of c.args.root.now) (λ k d. Ready (grammar_of c.args.root.now) c.args.heard.now (grammar_of c.args.element.now) c.args.slots.now (c.args.path.now ++ k ∷ []) d) c.args.elements.now l.v-index l.step c.v-item.result c.loop-v-test.true c.v-item.is l.invariant.ready).1;
      leads = leads_on c.args.base c.args.bits.now l.bits c.write_child.new.bits l.invariant.leads
          (run_leads (grammar_of c.args.root.now) (Spell (grammar_of c.args.root.now) Written (grammar_of c.args.element.now) c.args.slots.now) c.args.elements.now l.v-index c.v-item.result c.args.base l.bits c.write_child.new.bits c.loop-v-test.true c.v-item.is c.in_ok-write_child.ensures.added);
    }

pub write_run-returns-clause-added : goal.write_run-returns-clause-added
write_run-returns-clause-added t c =
    let l = c.loop-v in
    let over = c.loop-v-test.false in
    leads_all c.args.base c.args.bits.now l.bits l.invariant.leads (run_end (grammar_of c.args.root.now) (Spell (grammar_of c.args.root.now) Written (grammar_of c.args.element.now) c.args.slots.now) c.args.elements.now l.v-index (omega (arith, over)))

-- CHOICEs.

pub write_choice-write_child-requires : goal.write_choice-write_child-requires
write_choice-write_child-requires t c =
    let there = c.in-Some.ensures.lookup in (
      search (rules, the_lemmas, alternative_lemmas),
      case_ready (grammar_of c.args.root.now) c.args.heard.now c.args.alternatives.now c.args.rule c.args.slots.now c.args.path.now c.args.i c.args.i c.in-Some.alternative.now (data_of c.args.v.now) (below _ _ there.0) there.1 c.requires.1,
    )

pub write_choice-returns-in-Some-clause-added : goal.write_choice-returns-in-Some-clause-added
write_choice-returns-in-Some-clause-added t c =
    let there = c.in-Some.ensures.lookup in
    on_ok c.write_child.result (λ a. choice_adds (grammar_of c.args.root.now) (alternatives_view c.args.alternatives.now) c.args.rule c.args.slots.now c.args.i (data_of c.args.v.now) c.args.base c.args.bits.now c.put_index.new.bits c.write_child.new.bits c.requires.0 c.in_ok-put_index.ensures
    (case_adds (grammar_of c.args.root.now) c.args.heard.now c.args.alternatives.now c.args.rule c.args.slots.now c.args.path.now c.args.i c.args.i c.in-Some.alternative.now (data_of c.args.v.now) c.args.base c.put_index.new.bits c.write_child.new.bits (below _ _ there.0) there.1 c.requires.1 a)) c.write_child.ensures.added

pub write_choice-returns-in-None-clause-added : goal.write_choice-returns-in-None-clause-added
write_choice-returns-in-None-clause-added t c =
    absurd (no_case (grammar_of c.args.root.now) c.args.heard.now c.args.alternatives.now c.args.rule c.args.slots.now c.args.path.now c.args.i c.args.i (data_of c.args.v.now) (c.in-None.ensures {u = tt}).lookup.3 c.requires.1)

-- Contents.

pub write_contained-returns-clause-added : goal.write_contained-returns-clause-added
write_contained-returns-clause-added t c =
    let r = c.requires in
    on_ok c.put_fill.result (λ b. contained_adds (grammar_of c.args.root.now) c.args.sizing.now (grammar_of c.args.content.now) c.args.slots.now (data_of c.args.v.now) c.args.base c.len-start.result c.args.bits.now c.put_content_size.new.bits c.write_child.new.bits c.put_fill.new.bits r.1 r.3 c.in_ok-put_content_size.ensures c.len-start.ensures c.in_ok-write_child.ensures.added b) c.put_fill.ensures

-- Bodies.

pub write_body-returns-in-Octets-v-clause-added : goal.write_body-returns-in-Octets-v-clause-added
write_body-returns-in-Octets-v-clause-added t c =
    on_ok c.write_octets.result (λ e. octets_body (grammar_of c.args.root.now) c.args.heard.now (form_of c.args.body.now) c.args.slots.now c.args.path.now (data_of c.args.v.now) c.in-Octets.sizing c.in-Octets-v.octets c.items.result.now c.args.base c.args.bits.now c.write_octets.new.bits
    (ap form_of c.in-Octets.is ∙ view_octets c.in-Octets.sizing) (ap data_of c.in-Octets-v.is ∙ view_octets_value c.in-Octets-v.octets) c.items.ensures c.requires e) c.write_octets.ensures

pub write_body-returns-in-Bits-v-clause-added : goal.write_body-returns-in-Bits-v-clause-added
write_body-returns-in-Bits-v-clause-added t c =
    on_ok c.write_bits.result (λ e. bits_body (grammar_of c.args.root.now) c.args.heard.now (form_of c.args.body.now) c.args.slots.now c.args.path.now (data_of c.args.v.now) c.in-Bits.sizing c.in-Bits-v.string c.items-in-Bits-v.result.now c.args.base c.args.bits.now c.write_bits.new.bits
    (ap form_of c.in-Bits.is ∙ view_bits c.in-Bits.sizing) (ap data_of c.in-Bits-v.is ∙ view_bits_value c.in-Bits-v.string) c.items-in-Bits-v.ensures c.requires e) c.write_bits.ensures

pub write_body-returns-in-Text-v-clause-added : goal.write_body-returns-in-Text-v-clause-added
write_body-returns-in-Text-v-clause-added t c =
    on_ok c.write_text.result (λ e. text_body (grammar_of c.args.root.now) c.args.heard.now (form_of c.args.body.now) c.args.slots.now c.args.path.now (data_of c.args.v.now) c.in-Text.leaf c.in-Text-v.text c.items-in-Text-v.result.now c.args.base c.args.bits.now c.write_text.new.bits
    (ap form_of c.in-Text.is ∙ view_text c.in-Text.leaf) (ap data_of c.in-Text-v.is ∙ view_text_value c.in-Text-v.text) c.items-in-Text-v.ensures c.requires e) c.write_text.ensures

pub write_body-write_seq-requires : goal.write_body-write_seq-requires
write_body-write_seq-requires t c = (
  search (rules, the_lemmas),
  seq_body_ready (grammar_of c.args.root.now) c.args.heard.now (form_of c.args.body.now) c.args.slots.now c.args.path.now (data_of c.args.v.now) c.in-Seq.seq.fields c.items-in-Seq-v.result.now c.in-Seq.seq.home c.items-in-Seq-v-2.result.now c.in-Seq-v.places c.items-in-Seq-v-3.result.now
      (ap form_of c.in-Seq.is ∙ view_seq_form c.in-Seq.seq) (ap data_of c.in-Seq-v.is ∙ view_seq c.in-Seq-v.places) c.items-in-Seq-v.ensures c.items-in-Seq-v-2.ensures c.items-in-Seq-v-3.ensures c.requires,
)

pub write_body-returns-in-Seq-v-clause-added : goal.write_body-returns-in-Seq-v-clause-added
write_body-returns-in-Seq-v-clause-added t c =
    on_ok c.write_seq.result (λ a. seq_body (grammar_of c.args.root.now) c.args.heard.now (form_of c.args.body.now) c.args.slots.now c.args.path.now (data_of c.args.v.now) c.in-Seq.seq.fields c.items-in-Seq-v.result.now c.in-Seq.seq.home c.items-in-Seq-v-2.result.now c.in-Seq-v.places c.items-in-Seq-v-3.result.now c.args.base c.args.bits.now c.write_seq.new.bits
    (ap form_of c.in-Seq.is ∙ view_seq_form c.in-Seq.seq) (ap data_of c.in-Seq-v.is ∙ view_seq c.in-Seq-v.places) c.items-in-Seq-v.ensures c.items-in-Seq-v-2.ensures c.items-in-Seq-v-3.ensures a) c.write_seq.ensures.added

pub write_body-write_list-requires : goal.write_body-write_list-requires
write_body-write_list-requires t c = (
  search (rules, the_lemmas),
  list_body_ready (grammar_of c.args.root.now) c.args.heard.now (form_of c.args.body.now) c.args.slots.now c.args.path.now (data_of c.args.v.now) c.in-List.sizing c.in-List.element c.get.result.now c.in-List-v.elements c.items-in-List-v.result.now
      (ap form_of c.in-List.is ∙ view_list c.in-List.sizing c.in-List.element) (ap data_of c.in-List-v.is ∙ view_list_value c.in-List-v.elements) c.get.ensures c.items-in-List-v.ensures c.requires,
)

pub write_body-returns-in-Alt-clause-added : goal.write_body-returns-in-Alt-clause-added
write_body-returns-in-Alt-clause-added t c =
    on_ok c.write_choice.result (λ a. choice_body (grammar_of c.args.root.now) c.args.heard.now (form_of c.args.body.now) c.args.slots.now c.args.path.now (data_of c.args.v.now) (out-Choice c.in-Choice.choice).alternatives c.items-in-Alt.result.now (out-Choice c.in-Choice.choice).rule c.in-Alt.i c.in-Alt.inside c.get-in-Alt.result.now c.args.base c.args.bits.now c.write_choice.new.bits
    (ap form_of c.in-Choice.is ∙ view_choice c.in-Choice.choice) (ap data_of c.in-Alt.is ∙ view_alt_value c.in-Alt.i c.in-Alt.inside) c.items-in-Alt.ensures c.get-in-Alt.ensures a) c.write_choice.ensures.added

pub write_body-returns-in-Contained-clause-added : goal.write_body-returns-in-Contained-clause-added
write_body-returns-in-Contained-clause-added t c =
    on_ok c.write_contained.result (λ a. contained_body (grammar_of c.args.root.now) c.args.heard.now (form_of c.args.body.now) c.args.slots.now c.args.path.now (data_of c.args.v.now) c.in-Contained.sizing c.in-Contained.content c.get-in-Contained.result.now c.args.base c.args.bits.now c.write_contained.new.bits
    (ap form_of c.in-Contained.is ∙ view_contained c.in-Contained.sizing c.in-Contained.content) c.get-in-Contained.ensures a) c.write_contained.ensures.added
