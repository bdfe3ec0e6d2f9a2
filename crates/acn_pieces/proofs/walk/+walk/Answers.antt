use Rattle.std.proofs.Common.{◌≡◌, ℕ, suc, ◌+◌, List, length, drop, ap, sym, subst, ◌∙◌, arith, rules, refl}
use Rattle.acn_grammar.specs.Grammar.{Grammar}
use Rattle.acn_grammar.specs.View.{grammar_of, form_of, data_of, fields_view, places_view, elements_view, alternatives_view}
use Rattle.acn_grammar.specs.declared.node.Alternative.{the_lemmas as alternative_lemmas}
use Rattle.acn_grammar.specs.declared.node.Node.{the_lemmas}
use Rattle.acn_pieces.specs.declared.piece.PieceKind.TheVariants.{Pad, Presence, Index}
use Rattle.acn_pieces.specs.CanWalk.{CanWalk, CanWalkCase, CanWalkFields}
use Rattle.acn_pieces.specs.Walking.{Near, behind_elements}
use Rattle.acn_pieces.proofs.Bodies.{list_found, list_given, sequence_found, sequence_given}
use Rattle.acn_pieces.proofs.Views.{view_list, view_list_form, view_seq, view_seq_form}
use Rattle.acn_pieces.proofs.Calls.{on_ok, path_same, node_done, node_can, node_near, sequence_done, sequence_near, choice_done, choice_near}
use Rattle.acn_pieces.proofs.Steps.{below, can_case, case_at, case_past, length_at, element_can, element_near, element_turn, elements_over, near_left, path_left}
use Rattle.acn_pieces.proofs.walk.+walk.Goals as goal

-- Nodes.

pub walk_node-walk_body-requires : goal.walk_node-walk_body-requires
walk_node-walk_body-requires t c =
    let e = c.in_ok-put_part.ensures in
    let is = c.padding_at-pad.ensures in (
      search (rules, the_lemmas),
      (
        node_can c.args.node.now (data_of c.args.v.now) c.padding_at-pad.result c.args.walk.now c.put_part.new.walk is e c.requires.can,
        node_near c.args.node.now (data_of c.args.v.now) c.padding_at-pad.result c.args.walk.now c.put_part.new.walk is e c.requires.near,
      ),
    )

pub walk_node-returns : goal.walk_node-returns
walk_node-returns t c =
    node_done c.args.node.now (data_of c.args.v.now) c.padding_at-pad.result c.args.walk.now c.put_part.new.walk c.padding_at-pad.ensures c.in_ok-put_part.ensures c.walk_body.new.walk c.in_ok-walk_body.ensures

-- Bodies.

pub walk_body-walk_sequence-requires : goal.walk_body-walk_sequence-requires
walk_body-walk_sequence-requires t c = (
  search (rules, the_lemmas),
  sequence_given (form_of c.args.body.now) (data_of c.args.v.now) c.args.walk.now c.in-Seq.seq.fields c.items-in-Seq-v.result.now c.in-Seq.seq.home c.in-Seq-v.places c.items-in-Seq-v-2.result.now (ap form_of c.in-Seq.is ∙ view_seq_form c.in-Seq.seq) (ap data_of c.in-Seq-v.is ∙ view_seq c.in-Seq-v.places) c.items-in-Seq-v.ensures
      c.items-in-Seq-v-2.ensures c.requires.can c.requires.near,
)

pub walk_body-returns-in-Seq-v : goal.walk_body-returns-in-Seq-v
walk_body-returns-in-Seq-v t c =
    on_ok c.walk_sequence.result c.walk_sequence.ensures (λ e. sequence_found (form_of c.args.body.now) (data_of c.args.v.now) c.args.walk.now c.in-Seq.seq.fields c.items-in-Seq-v.result.now c.in-Seq.seq.home c.in-Seq-v.places c.items-in-Seq-v-2.result.now (ap form_of c.in-Seq.is ∙ view_seq_form c.in-Seq.seq)
    (ap data_of c.in-Seq-v.is ∙ view_seq c.in-Seq-v.places) c.items-in-Seq-v.ensures c.items-in-Seq-v-2.ensures c.walk_sequence.new.walk e)

pub walk_body-walk_list-requires : goal.walk_body-walk_list-requires
walk_body-walk_list-requires t c = (
  search (rules, the_lemmas),
  list_given (form_of c.args.body.now) (data_of c.args.v.now) c.args.walk.now c.in-List.sizing c.in-List.element c.get.result.now c.in-List-v.elements c.items-in-List-v.result.now (ap form_of c.in-List.is ∙ view_list_form c.in-List.sizing c.in-List.element) (ap data_of c.in-List-v.is ∙ view_list c.in-List-v.elements) c.get.ensures
      c.items-in-List-v.ensures c.requires.can c.requires.near,
)

pub walk_body-returns-in-List-v : goal.walk_body-returns-in-List-v
walk_body-returns-in-List-v t c =
    on_ok c.walk_list.result c.walk_list.ensures (λ e. list_found (form_of c.args.body.now) (data_of c.args.v.now) c.args.walk.now c.in-List.sizing c.in-List.element c.get.result.now c.in-List-v.elements c.items-in-List-v.result.now (ap form_of c.in-List.is ∙ view_list_form c.in-List.sizing c.in-List.element)
    (ap data_of c.in-List-v.is ∙ view_list c.in-List-v.elements) c.get.ensures c.items-in-List-v.ensures c.walk_list.new.walk e)

-- SEQUENCEs.

pub walk_sequence-walk_fields-requires : goal.walk_sequence-walk_fields-requires
walk_sequence-walk_fields-requires t c =
    let fs = fields_view c.args.fields.now in
    let ps = places_view c.args.places.now in
    let e = c.in_ok-put_part.ensures in
    let is = c.presence_count-front.ensures in (
      search (rules, the_lemmas),
      (
        c.requires.few,
        (
          subst (λ (p : List ℕ). CanWalkFields (suc (length p)) fs ps) (sym (path_same Presence c.presence_count-front.result c.args.walk.now c.put_part.new.walk e)) c.requires.can,
          sequence_near fs ps c.presence_count-front.result c.args.walk.now c.put_part.new.walk is e c.requires.near,
        ),
      ),
    )

pub walk_sequence-returns : goal.walk_sequence-returns
walk_sequence-returns t c =
    sequence_done (fields_view c.args.fields.now) (places_view c.args.places.now) c.presence_count-front.result c.args.walk.now c.put_part.new.walk c.presence_count-front.ensures c.in_ok-put_part.ensures c.walk_fields.new.walk c.in_ok-walk_fields.ensures

-- CHOICEs.

pub walk_choice-walk_case-requires : goal.walk_choice-walk_case-requires
walk_choice-walk_case-requires t c =
    let cases = alternatives_view c.args.alternatives.now in
    let e = c.in_ok-put_part.ensures in (
      search (rules, the_lemmas),
      (
        subst (λ (p : List ℕ). CanWalkCase (suc (length p)) cases c.args.i (data_of c.args.v.now)) (sym (path_same Index c.index_bits-front.result c.args.walk.now c.put_part.new.walk e)) c.requires.can,
        choice_near cases c.args.rule.now c.args.i (data_of c.args.v.now) c.index_bits-front.result c.args.walk.now c.put_part.new.walk c.index_bits-front.ensures e c.requires.near,
      ),
    )

pub walk_choice-returns : goal.walk_choice-returns
walk_choice-returns t c =
    choice_done (alternatives_view c.args.alternatives.now) c.args.rule.now c.args.i (data_of c.args.v.now) c.index_bits-front.result c.args.walk.now c.put_part.new.walk c.index_bits-front.ensures c.in_ok-put_part.ensures c.walk_case.new.walk c.in_ok-walk_case.ensures

pub walk_case-walk_inside-requires : goal.walk_case-walk_inside-requires
walk_case-walk_inside-requires t c =
    let there = c.in-Some.ensures.lookup in
    let w = c.args.walk.now in
    let d = data_of c.args.v.now in (
      search (rules, the_lemmas, alternative_lemmas),
      (
        can_case (suc (length w.path)) c.args.alternatives.now c.args.i c.in-Some.alternative.now d (below _ _ there.0) there.1 c.requires.can,
        subst (λ (n : ℕ). Near n w) (length_at c.args.alternatives.now c.args.i w.at c.in-Some.alternative.now d (below _ _ there.0) there.1) c.requires.near,
      ),
    )

pub walk_case-returns-in-Some : goal.walk_case-returns-in-Some
walk_case-returns-in-Some t c =
    let there = c.in-Some.ensures.lookup in
    on_ok c.walk_inside.result c.walk_inside.ensures (λ e. e ∙ sym (case_at c.args.alternatives.now c.args.i c.args.i c.in-Some.alternative.now (data_of c.args.v.now) c.args.walk.now (below _ _ there.0) there.1))

pub walk_case-returns-in-None : goal.walk_case-returns-in-None
walk_case-returns-in-None t c = sym (case_past c.args.alternatives.now c.args.i c.args.i (data_of c.args.v.now) c.args.walk.now (c.in-None.ensures {u = tt}).lookup.3)

-- Elements.

pub walk_elements-walk_inside-requires : goal.walk_elements-walk_inside-requires
walk_elements-walk_inside-requires t c =
    let l = c.loop-v in
    let g = grammar_of c.args.element.now in
    let here = path_left _ _ _ _ l.walk c.args.walk.now l.invariant.same in (
      search (rules, the_lemmas),
      (
        subst (λ (p : List ℕ). CanWalk (suc (length p)) g (data_of c.v-item.result)) (sym here)
            (element_can (CanWalk (suc (length c.args.walk.now.path)) g) c.args.elements.now l.v-index c.v-item.result c.loop-v-test.true c.v-item.is l.invariant.can).0,
        element_near g c.args.elements.now l.v-index c.v-item.result l.walk c.loop-v-test.true c.v-item.is (near_left _ _ _ _ l.walk c.args.walk.now l.invariant.same c.requires.near),
      ),
    )

pub walk_elements-loop-v-preserved : goal.walk_elements-loop-v-preserved
walk_elements-loop-v-preserved t c =
    let l = c.loop-v in
    let g = grammar_of c.args.element.now in
    record {
      step = ap (λ (n : ℕ). n + 1) l.invariant.step;
      can = (element_can (CanWalk (suc (length c.args.walk.now.path)) g) c.args.elements.now l.v-index c.v-item.result c.loop-v-test.true c.v-item.is l.invariant.can).1;
      same = ap (behind_elements g (l.step + 1) (elements_view (drop (l.v-index + 1) c.args.elements.now))) c.in_ok-walk_inside.ensures ∙ (element_turn g c.args.elements.now l.v-index l.step c.v-item.result l.walk c.loop-v-test.true c.v-item.is ∙ l.invariant.same);
    }

pub walk_elements-returns : goal.walk_elements-returns
walk_elements-returns t c =
    let l = c.loop-v in
    let over = c.loop-v-test.false in
    sym (elements_over (grammar_of c.args.element.now) c.args.elements.now l.v-index l.step l.walk (omega (arith, over))) ∙ l.invariant.same
