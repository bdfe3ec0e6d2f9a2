use Rattle.std.proofs.Common.{◌+◌, ◌++◌, ◌∷◌, [], ◌∙◌, ap, sym, subst, refl, arith, rules, drop, List, ℕ, suc, length}
use Rattle.std.specs.Prelude.{option_map, Option}
use Rattle.acn_grammar.specs.Asks as asks
use Rattle.acn_grammar.specs.Asks.{FieldPaths}
use Rattle.acn_grammar.specs.Grammar.{Fields}
use Rattle.acn_grammar.specs.View.{data_of, fields_view, form_of, grammar_of, places_view}
use Rattle.acn_grammar.specs.declared.node.Alternative.{the_lemmas as alternative_lemmas}
use Rattle.acn_grammar.specs.declared.node.Node.{the_lemmas}
use Rattle.acn_grammar.specs.declared.value.Value.{Value}
use Rattle.acn_grammar.proofs.Views.{view_seq, view_seq_form}
use Rattle.acn_asking.specs.Gathered.{paths_of, slots_of, Gathers, LeavesIn}
use Rattle.acn_asking.proofs.Opens.{on_ok}
use Rattle.acn_asking.proofs.Steps.{none}
use Rattle.acn_gather_laws.specs.CanGather.{CanGather, CanGatherFields}
use Rattle.acn_moments.specs.PlaceMoments.{place_moments}
use Rattle.acn_moments.proofs.Gathering.{alternative_at, alternative_past, below, bits_said, can_case, component_said, contents_said, count_elements, element_can, element_turn, elements_over, few_fields, fields_from, fields_next, fields_over, home_slots, list_can, list_form_said, list_said, no_place, octets_said, seq_said, text_said, view_bits, view_bits_value, view_list, view_list_value, view_octets, view_octets_value, view_text, view_text_value}
use Rattle.acn_moments.proofs.walk.+gather.Goals as goal

-- Nodes.

-- SEQUENCEs.

pub gather_sequence-gather_fields-requires : goal.gather_sequence-gather_fields-requires
gather_sequence-gather_fields-requires t c =
    let root = grammar_of c.args.root.now in
    let r = c.requires.can in
    let fields = fields_view c.args.fields.now in
    let is = ap paths_of c.items.ensures ∙ c.in_ok-slots.ensures.paths in (
      search (rules, the_lemmas),
      (
        few_fields root c.args.fields.now c.args.home.now r.0,
        (
          subst (λ os. LeavesIn root os) (sym c.items.ensures) (c.in_ok-slots.ensures.leaves root r.0 c.requires.leaves),
          subst (λ (around : List ℕ). CanGatherFields root (suc (length c.args.path.now)) around fields (places_view c.args.places.now)) (sym (home_slots root c.args.path.now fields c.args.home.now (paths_of c.args.slots.now) c.items.result.now is)) r.1,
        ),
      ),
    )

-- Fields.

pub gather_fields-gather_field-requires : goal.gather_fields-gather_field-requires
gather_fields-gather_field-requires t c =
    let root = grammar_of c.args.root.now in
    let l = c.loop-field in
    let from = fields_from root c.args.fields.now l.field-index c.field-item.result c.loop-field-test.true c.field-item.is in (
      search (rules, the_lemmas),
      (
        l.invariant.within,
        (
          c.requires.leaves,
          (
            fields_view (drop (l.field-index + 1) c.args.fields.now),
            subst (λ (fs : Fields). CanGatherFields root (suc (length l.path)) (slots_of c.args.slots.now) fs (places_view (drop l.at c.args.places.now))) from
                (subst (λ (p : List ℕ). CanGatherFields root (suc (length p)) (slots_of c.args.slots.now) (fields_view (drop l.field-index c.args.fields.now)) (places_view (drop l.at c.args.places.now))) (sym l.invariant.path) l.invariant.can),
          ),
        ),
      ),
    )

pub gather_fields-loop-field-preserved : goal.gather_fields-loop-field-preserved
gather_fields-loop-field-preserved t c =
    let root = grammar_of c.args.root.now in
    let l = c.loop-field in
    let rest = fields_view (drop (l.field-index + 1) c.args.fields.now) in
    let from = fields_from root c.args.fields.now l.field-index c.field-item.result c.loop-field-test.true c.field-item.is in
    let can = subst (λ (fs : Fields). CanGatherFields root (suc (length l.path)) (slots_of c.args.slots.now) fs (places_view (drop l.at c.args.places.now))) from
    (subst (λ (p : List ℕ). CanGatherFields root (suc (length p)) (slots_of c.args.slots.now) (fields_view (drop l.field-index c.args.fields.now)) (places_view (drop l.at c.args.places.now))) (sym l.invariant.path) l.invariant.can) in
    let on = c.in_ok-at.ensures.said rest can in
    record {
      path = c.in_ok-at.ensures.path ∙ l.invariant.path;
      step = ap (λ (n : ℕ). n + 1) l.invariant.step;
      within = on.within;
      can = subst (λ (p : List ℕ). CanGatherFields root (suc (length p)) (slots_of c.args.slots.now) rest (places_view (drop c.in_ok-at.at c.args.places.now))) l.invariant.path on.later;
      same = fields_next root c.args.fields.now l.field-index (paths_of c.args.slots.now) l.path c.args.path.now l.step (places_view (drop l.at c.args.places.now)) (places_view (drop c.in_ok-at.at c.args.places.now)) c.field-item.result _ l.gathered c.gather_field.new.gathered l.invariant.path from on.same l.invariant.same;
    }

pub gather_fields-returns-clause-said : goal.gather_fields-returns-clause-said
gather_fields-returns-clause-said t c =
    let l = c.loop-field in
    let over = c.loop-field-test.false in
    fields_over (grammar_of c.args.root.now) (paths_of c.args.slots.now) c.args.path.now c.args.fields.now (places_view (drop l.at c.args.places.now)) l.step l.field-index _ c.args.gathered.now l.gathered (omega (arith, over)) l.invariant.same

pub gather_field-returns-in-None-clause-said : goal.gather_field-returns-in-None-clause-said
gather_field-returns-in-None-clause-said t c fs r =
    no_place (grammar_of c.args.root.now) (slots_of c.args.slots.now) (paths_of c.args.slots.now) c.args.path.now c.args.step _ fs c.args.places.now c.args.at c.args.gathered.now c.requires.within (c.in-None.ensures {u = tt}).lookup.3

pub gather_place-returns-in-None-clause-said : goal.gather_place-returns-in-None-clause-said
gather_place-returns-in-None-clause-said t c =
    on_ok c.ask_absent.result c.ask_absent.ensures.said (λ a. subst (λ (o : Option Value). Gathers (grammar_of c.args.root.now) (place_moments (grammar_of c.args.root.now) (grammar_of c.args.node.now) c.args.presence.now c.args.own (paths_of c.args.slots.now) (c.args.path.now ++ c.args.step ∷ []) (option_map data_of o)) c.args.gathered.now c.ask_absent.new.gathered) (sym c.in-None.is) (a (grammar_of c.args.root.now) c.requires.leaves))

pub gather_component-returns-clause-said : goal.gather_component-returns-clause-said
gather_component-returns-clause-said t c =
    component_said (grammar_of c.args.root.now) c.args.presence.now c.args.own (paths_of c.args.slots.now) c.push.new.self (c.args.path.now ++ c.args.step ∷ []) (grammar_of c.args.node.now) (data_of c.args.v.now) c.args.gathered.now c.ask_there.new.gathered c.gather.new.gathered c.push.ensures
    (c.in_ok-ask_there.ensures (grammar_of c.args.root.now) c.requires.leaves) c.in_ok-gather.ensures.said

-- Lists.

pub gather_list-gather_elements-requires : goal.gather_list-gather_elements-requires
gather_list-gather_elements-requires t c =
    let few = c.requires.can.1 in
    let n = count_elements (grammar_of c.args.root.now) c.args.elements.now in
    (search (rules, the_lemmas), (omega (arith, few, n), (c.requires.leaves, c.requires.can.2)))

pub gather_list-returns-clause-said : goal.gather_list-returns-clause-said
gather_list-returns-clause-said t c =
    on_ok c.gather_elements.result c.gather_elements.ensures.said (λ a. list_said (grammar_of c.args.root.now) c.args.sizing.now c.args.element.now c.args.elements.now (paths_of c.args.slots.now) c.args.path.now c.args.path.now c.args.gathered.now c.ask_size.new.moments c.gather_elements.new.gathered refl (c.in_ok-ask_size.ensures (grammar_of c.args.root.now) c.requires.leaves) a)

pub gather_elements-gather_inside-requires : goal.gather_elements-gather_inside-requires
gather_elements-gather_inside-requires t c =
    let root = grammar_of c.args.root.now in
    let l = c.loop-v in (
      search (rules, the_lemmas),
      (
        c.requires.leaves,
        subst (λ (p : List ℕ). CanGather root (suc (length p)) (slots_of c.args.slots.now) (grammar_of c.args.element.now) (data_of c.v-item.result)) (sym l.invariant.path)
            (element_can root (CanGather root (suc (length c.args.path.now)) (slots_of c.args.slots.now) (grammar_of c.args.element.now)) c.args.elements.now l.v-index c.v-item.result c.loop-v-test.true c.v-item.is l.invariant.can).0,
      ),
    )

pub gather_elements-loop-v-preserved : goal.gather_elements-loop-v-preserved
gather_elements-loop-v-preserved t c =
    let root = grammar_of c.args.root.now in
    let l = c.loop-v in
    record {
      path = c.in_ok-gather_inside.ensures.path ∙ l.invariant.path;
      step = ap (λ (n : ℕ). n + 1) l.invariant.step;
      can = (element_can root (CanGather root (suc (length c.args.path.now)) (slots_of c.args.slots.now) (grammar_of c.args.element.now)) c.args.elements.now l.v-index c.v-item.result c.loop-v-test.true c.v-item.is l.invariant.can).1;
      same = element_turn root (λ k d. asks.moments root (grammar_of c.args.element.now) (paths_of c.args.slots.now) (c.args.path.now ++ k ∷ []) d) c.args.elements.now l.step l.v-index c.v-item.result _ l.gathered c.gather_inside.new.gathered c.loop-v-test.true c.v-item.is
          (subst (λ (p : List ℕ). Gathers root (asks.moments root (grammar_of c.args.element.now) (paths_of c.args.slots.now) (p ++ l.step ∷ []) (data_of c.v-item.result)) l.gathered c.gather_inside.new.gathered) l.invariant.path c.in_ok-gather_inside.ensures.said) l.invariant.same;
    }

pub gather_elements-returns-clause-said : goal.gather_elements-returns-clause-said
gather_elements-returns-clause-said t c =
    let l = c.loop-v in
    let over = c.loop-v-test.false in
    elements_over (grammar_of c.args.root.now) (λ k d. asks.moments (grammar_of c.args.root.now) (grammar_of c.args.element.now) (paths_of c.args.slots.now) (c.args.path.now ++ k ∷ []) d) c.args.elements.now l.step l.v-index _ c.args.gathered.now l.gathered (omega (arith, over)) l.invariant.same

-- CHOICEs.

pub gather_choice-gather_alternative-requires : goal.gather_choice-gather_alternative-requires
gather_choice-gather_alternative-requires t c =
    let there = c.in-Some.ensures.lookup in
    let can = can_case (grammar_of c.args.root.now) (suc (length c.args.path.now)) (slots_of c.args.slots.now) c.args.rule.now c.args.alternatives.now c.args.i c.in-Some.alternative.now (data_of c.args.v.now) (below _ _ there.0) there.1 c.requires.can in
    (search (rules, the_lemmas, alternative_lemmas), (c.requires.leaves, (can.0, can.1)))

pub gather_choice-returns-in-Some-clause-said : goal.gather_choice-returns-in-Some-clause-said
gather_choice-returns-in-Some-clause-said t c =
    let root = grammar_of c.args.root.now in
    let there = c.in-Some.ensures.lookup in
    on_ok c.gather_alternative.result c.gather_alternative.ensures.said (λ a. subst (λ ms. Gathers root ms c.args.gathered.now c.gather_alternative.new.gathered)
    (sym (alternative_at root (paths_of c.args.slots.now) c.args.path.now c.args.rule.now c.args.i c.args.alternatives.now c.args.i c.in-Some.alternative.now (data_of c.args.v.now) (below _ _ there.0) there.1)) a)

pub gather_choice-returns-in-None-clause-said : goal.gather_choice-returns-in-None-clause-said
gather_choice-returns-in-None-clause-said t c =
    none (grammar_of c.args.root.now) _ c.args.gathered.now (alternative_past (grammar_of c.args.root.now) (paths_of c.args.slots.now) c.args.path.now c.args.rule.now c.args.i c.args.alternatives.now c.args.i (data_of c.args.v.now) (c.in-None.ensures {u = tt}).lookup.3)

-- Contents.

pub gather_contents-returns-clause-said : goal.gather_contents-returns-clause-said
gather_contents-returns-clause-said t c =
    let root = grammar_of c.args.root.now in
    on_ok c.ask_contents.result c.ask_contents.ensures (λ a. contents_said root c.args.sizing.now (grammar_of c.args.content.now) (paths_of c.args.slots.now) c.args.path.now c.gather_inside.new.path (data_of c.args.v.now) c.args.gathered.now c.gather_inside.new.gathered c.ask_contents.new.gathered c.in_ok-gather_inside.ensures.path c.in_ok-gather_inside.ensures.said (a root c.requires.leaves))

-- Bodies.

pub gather_form-returns-in-Octets-v-clause-said : goal.gather_form-returns-in-Octets-v-clause-said
gather_form-returns-in-Octets-v-clause-said t c =
    let root = grammar_of c.args.root.now in
    on_ok c.ask_size.result c.ask_size.ensures (λ a. octets_said root (paths_of c.args.slots.now) c.args.path.now (form_of c.args.body.now) (data_of c.args.v.now) c.args.gathered.now c.ask_size.new.moments c.in-Octets.sizing c.in-Octets-v.octets c.items.result.now
    (ap form_of c.in-Octets.is ∙ view_octets c.in-Octets.sizing) (ap data_of c.in-Octets-v.is ∙ view_octets_value c.in-Octets-v.octets) c.items.ensures (a root c.requires.leaves))

pub gather_form-returns-in-Bits-v-clause-said : goal.gather_form-returns-in-Bits-v-clause-said
gather_form-returns-in-Bits-v-clause-said t c =
    let root = grammar_of c.args.root.now in
    on_ok c.ask_size-in-Bits-v.result c.ask_size-in-Bits-v.ensures (λ a. bits_said root (paths_of c.args.slots.now) c.args.path.now (form_of c.args.body.now) (data_of c.args.v.now) c.args.gathered.now c.ask_size-in-Bits-v.new.moments c.in-Bits.sizing c.in-Bits-v.string c.items-in-Bits-v.result.now
    (ap form_of c.in-Bits.is ∙ view_bits c.in-Bits.sizing) (ap data_of c.in-Bits-v.is ∙ view_bits_value c.in-Bits-v.string) c.items-in-Bits-v.ensures (a root c.requires.leaves))

pub gather_form-returns-in-Text-v-clause-said : goal.gather_form-returns-in-Text-v-clause-said
gather_form-returns-in-Text-v-clause-said t c =
    let root = grammar_of c.args.root.now in
    on_ok c.ask_size-in-Text-v.result c.ask_size-in-Text-v.ensures (λ a. text_said root (paths_of c.args.slots.now) c.args.path.now (form_of c.args.body.now) (data_of c.args.v.now) c.args.gathered.now c.ask_size-in-Text-v.new.moments c.in-Text.leaf c.in-Text-v.text c.items-in-Text-v.result.now
    (ap form_of c.in-Text.is ∙ view_text c.in-Text.leaf) (ap data_of c.in-Text-v.is ∙ view_text_value c.in-Text-v.text) c.items-in-Text-v.ensures (a root c.requires.leaves))

pub gather_form-returns-in-Seq-v-clause-said : goal.gather_form-returns-in-Seq-v-clause-said
gather_form-returns-in-Seq-v-clause-said t c =
    on_ok c.gather_sequence.result c.gather_sequence.ensures.said (λ a. seq_said (grammar_of c.args.root.now) (paths_of c.args.slots.now) c.args.path.now (form_of c.args.body.now) (data_of c.args.v.now) c.args.gathered.now c.gather_sequence.new.gathered c.in-Seq.seq.fields c.items-in-Seq-v.result.now c.in-Seq.seq.home c.items-in-Seq-v-2.result.now c.in-Seq-v.places c.items-in-Seq-v-3.result.now
    (ap form_of c.in-Seq.is ∙ view_seq_form c.in-Seq.seq) (ap data_of c.in-Seq-v.is ∙ view_seq c.in-Seq-v.places) c.items-in-Seq-v.ensures c.items-in-Seq-v-2.ensures c.items-in-Seq-v-3.ensures a)

pub gather_form-gather_list-requires : goal.gather_form-gather_list-requires
gather_form-gather_list-requires t c = (
  search (rules, the_lemmas),
  (
    c.requires.leaves,
    list_can (grammar_of c.args.root.now) (length c.args.path.now) (slots_of c.args.slots.now) (form_of c.args.body.now) (data_of c.args.v.now) c.in-List.sizing c.in-List.element c.get.result.now c.in-List-v.elements c.items-in-List-v.result.now
        (ap form_of c.in-List.is ∙ view_list c.in-List.sizing c.in-List.element) (ap data_of c.in-List-v.is ∙ view_list_value c.in-List-v.elements) c.get.ensures c.items-in-List-v.ensures c.requires.can,
  ),
)

pub gather_form-returns-in-List-v-clause-said : goal.gather_form-returns-in-List-v-clause-said
gather_form-returns-in-List-v-clause-said t c =
    on_ok c.gather_list.result c.gather_list.ensures.said (λ a. list_form_said (grammar_of c.args.root.now) (paths_of c.args.slots.now) c.args.path.now (form_of c.args.body.now) (data_of c.args.v.now) c.args.gathered.now c.gather_list.new.gathered c.in-List.sizing c.in-List.element c.get.result.now c.in-List-v.elements c.items-in-List-v.result.now
    (ap form_of c.in-List.is ∙ view_list c.in-List.sizing c.in-List.element) (ap data_of c.in-List-v.is ∙ view_list_value c.in-List-v.elements) c.get.ensures c.items-in-List-v.ensures a)
