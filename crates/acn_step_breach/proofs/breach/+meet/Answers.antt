use Rattle.std.proofs.Common.{ℕ, List, suc, ◌+◌, length, sym, ap, subst, ◌∙◌, arith}
use Rattle.std.proofs.lemmas.Grind.{common_steps}
use Rattle.acn_grammar.specs.Grammar.{num, octets, bits, text, seq, list, choice, contained}
use Rattle.acn_grammar.specs.Meets.{first_of}
use Rattle.acn_grammar.specs.View.{data_of}
use Rattle.acn_plan.specs.Back.{node_at, form_at, fields_at, cases_at}
use Rattle.acn_plan.specs.declared.step.Act.TheVariants as acts
use Rattle.acn_plan.proofs.Mades.{made_nested}
use Rattle.acn_plan.proofs.Marks.{node_is}
use Rattle.acn_tree.specs.Room.{HasRoom}
use Rattle.acn_step_breach.proofs.CaseTurns.{case_breaks, no_case_breaks}
use Rattle.acn_step_breach.proofs.FieldTurns.{place_here, place_later, places_end}
use Rattle.acn_step_breach.proofs.Inners.{case_room}
use Rattle.acn_step_breach.proofs.Levels.{form_by, body_room, room_depth, child_room, seq_room, list_room, choice_room, content_room, form_breaks, node_breaks, child_inside}
use Rattle.acn_step_breach.proofs.Turns.{size_here, size_later, view_list, element_here, element_later, run_end}
use Rattle.acn_step_breach.proofs.breach.+meet.Goals as goal

pub node_meets-body_meets-requires : goal.node_meets-body_meets-requires
node_meets-body_meets-requires t c =
    (omega arith, (c.requires.made, (c.requires.there, (c.step_at-step.ensures, body_room c.args.steps.now c.args.this c.step_at-step.result.now (length c.args.path.now) c.step_at-step.ensures c.requires.room))))

pub node_meets-returns-clause-answer : goal.node_meets-returns-clause-answer
node_meets-returns-clause-answer t c =
    node_breaks _ (node_at c.args.steps.now c.args.this) c.step_at-step.result.now.align (form_at c.args.steps.now c.args.this c.step_at-step.result.now) c.args.path.now (data_of c.args.v.now) (node_is c.args.steps.now c.args.this c.step_at-step.result.now c.step_at-step.ensures) c.body_meets.ensures.answer

pub body_meets-returns-in-Num-clause-answer : goal.body_meets-returns-in-Num-clause-answer
body_meets-returns-in-Num-clause-answer t c =
    form_breaks _ (form_at c.args.steps.now c.args.this c.args.step.now) (num c.in-Num.leaf) c.args.path.now (data_of c.args.v.now) (form_by c.args.steps.now c.args.this c.args.step.now (acts.Num c.in-Num.leaf) c.in-Num.is) (c.number_meets.ensures c.args.path.now)

pub body_meets-returns-in-Octets-clause-answer : goal.body_meets-returns-in-Octets-clause-answer
body_meets-returns-in-Octets-clause-answer t c =
    form_breaks _ (form_at c.args.steps.now c.args.this c.args.step.now) (octets c.in-Octets.sizing) c.args.path.now (data_of c.args.v.now) (form_by c.args.steps.now c.args.this c.args.step.now (acts.Octets c.in-Octets.sizing) c.in-Octets.is) (c.octets_meet.ensures c.args.path.now)

pub body_meets-returns-in-Bits-clause-answer : goal.body_meets-returns-in-Bits-clause-answer
body_meets-returns-in-Bits-clause-answer t c =
    form_breaks _ (form_at c.args.steps.now c.args.this c.args.step.now) (bits c.in-Bits.sizing) c.args.path.now (data_of c.args.v.now) (form_by c.args.steps.now c.args.this c.args.step.now (acts.Bits c.in-Bits.sizing) c.in-Bits.is) (c.bits_meet.ensures c.args.path.now)

pub body_meets-returns-in-Text-clause-answer : goal.body_meets-returns-in-Text-clause-answer
body_meets-returns-in-Text-clause-answer t c =
    form_breaks _ (form_at c.args.steps.now c.args.this c.args.step.now) (text c.in-Text.leaf) c.args.path.now (data_of c.args.v.now) (form_by c.args.steps.now c.args.this c.args.step.now (acts.Text c.in-Text.leaf) c.in-Text.is) (c.text_meets.ensures c.args.path.now)

pub body_meets-seq_meets-requires : goal.body_meets-seq_meets-requires
body_meets-seq_meets-requires t c =
    let u = c.requires.there in
    (omega (arith, u), (c.requires.made, ((made_nested c.args.steps.now c.requires.made c.args.this c.args.step.now c.requires.is).within, seq_room (form_at c.args.steps.now c.args.this c.args.step.now) (fields_at c.args.steps.now (c.args.this + 1) c.args.step.now.next) c.in-Seq.field-0 (length c.args.path.now) (form_by c.args.steps.now c.args.this c.args.step.now (acts.Seq c.in-Seq.field-0) c.in-Seq.is) c.requires.room)))

pub body_meets-returns-in-Seq-clause-answer : goal.body_meets-returns-in-Seq-clause-answer
body_meets-returns-in-Seq-clause-answer t c =
    form_breaks _ (form_at c.args.steps.now c.args.this c.args.step.now) (seq (fields_at c.args.steps.now (c.args.this + 1) c.args.step.now.next) c.in-Seq.field-0) c.args.path.now (data_of c.args.v.now) (form_by c.args.steps.now c.args.this c.args.step.now (acts.Seq c.in-Seq.field-0) c.in-Seq.is) (c.seq_meets.ensures.answer c.in-Seq.field-0)

pub body_meets-list_meets-requires : goal.body_meets-list_meets-requires
body_meets-list_meets-requires t c =
    let u = c.requires.there in
    let n = child_inside c.args.steps.now c.args.this c.args.step.now (acts.List c.in-List.sizing) (made_nested c.args.steps.now c.requires.made) c.requires.is c.in-List.is (λ x. x) in
    let r = list_room (form_at c.args.steps.now c.args.this c.args.step.now) c.in-List.sizing (node_at c.args.steps.now (c.args.this + 1)) (length c.args.path.now) (form_by c.args.steps.now c.args.this c.args.step.now (acts.List c.in-List.sizing) c.in-List.is) c.requires.room in
    (omega (arith, u), (c.requires.made, (n, (r.0, r.1))))

pub body_meets-returns-in-List-clause-answer : goal.body_meets-returns-in-List-clause-answer
body_meets-returns-in-List-clause-answer t c =
    form_breaks _ (form_at c.args.steps.now c.args.this c.args.step.now) (list c.in-List.sizing (node_at c.args.steps.now (c.args.this + 1))) c.args.path.now (data_of c.args.v.now) (form_by c.args.steps.now c.args.this c.args.step.now (acts.List c.in-List.sizing) c.in-List.is) c.list_meets.ensures.answer

pub body_meets-choice_meets-requires : goal.body_meets-choice_meets-requires
body_meets-choice_meets-requires t c =
    let u = c.requires.there in
    (omega (arith, u), (c.requires.made, ((made_nested c.args.steps.now c.requires.made c.args.this c.args.step.now c.requires.is).within, choice_room (form_at c.args.steps.now c.args.this c.args.step.now) (cases_at c.args.steps.now (c.args.this + 1) c.args.step.now.next) c.in-Choice.field-0.rule (length c.args.path.now) (form_by c.args.steps.now c.args.this c.args.step.now (acts.Choice c.in-Choice.field-0) c.in-Choice.is) c.requires.room)))

pub body_meets-returns-in-Choice-clause-answer : goal.body_meets-returns-in-Choice-clause-answer
body_meets-returns-in-Choice-clause-answer t c =
    form_breaks _ (form_at c.args.steps.now c.args.this c.args.step.now) (choice (cases_at c.args.steps.now (c.args.this + 1) c.args.step.now.next) c.in-Choice.field-0.rule) c.args.path.now (data_of c.args.v.now) (form_by c.args.steps.now c.args.this c.args.step.now (acts.Choice c.in-Choice.field-0) c.in-Choice.is) (c.choice_meets.ensures.answer c.in-Choice.field-0.rule)

pub body_meets-child_meets-requires : goal.body_meets-child_meets-requires
body_meets-child_meets-requires t c =
    let u = c.requires.there in
    let n = child_inside c.args.steps.now c.args.this c.args.step.now (acts.Contained c.in-Contained.field-0) (made_nested c.args.steps.now c.requires.made) c.requires.is c.in-Contained.is (λ x. x) in
    (omega (arith, u), (c.requires.made, (n, content_room (form_at c.args.steps.now c.args.this c.args.step.now) c.in-Contained.field-0 (node_at c.args.steps.now (c.args.this + 1)) (length c.args.path.now) (form_by c.args.steps.now c.args.this c.args.step.now (acts.Contained c.in-Contained.field-0) c.in-Contained.is) c.requires.room)))

pub body_meets-returns-in-Contained-clause-answer : goal.body_meets-returns-in-Contained-clause-answer
body_meets-returns-in-Contained-clause-answer t c =
    form_breaks _ (form_at c.args.steps.now c.args.this c.args.step.now) (contained c.in-Contained.field-0 (node_at c.args.steps.now (c.args.this + 1))) c.args.path.now (data_of c.args.v.now) (form_by c.args.steps.now c.args.this c.args.step.now (acts.Contained c.in-Contained.field-0) c.in-Contained.is) c.child_meets.ensures.answer

pub child_meets-push-requires : goal.child_meets-push-requires
child_meets-push-requires t c = (let d = room_depth (node_at c.args.steps.now c.args.this) (suc (length c.args.path.now)) c.requires.room in omega (arith, d))

pub child_meets-node_meets-requires : goal.child_meets-node_meets-requires
child_meets-node_meets-requires t c =
    (omega arith, (c.requires.made, (c.requires.there, child_room (node_at c.args.steps.now c.args.this) c.args.path.now c.push.new.self c.args.number c.push.ensures c.requires.room)))

pub fields_meet-place_meets-requires : goal.fields_meet-place_meets-requires
fields_meet-place_meets-requires t c =
    let l = c.loop-place in
    let spot = c.in-Some.ensures.some in
    let from = l.invariant.from in
    let a = spot.from in
    let b = spot.inside in
    let w = c.requires.within in
    (omega (arith, from, a, b, w), (c.requires.made, (omega (arith, b, w), subst (λ (p : List ℕ). HasRoom (suc (length p)) (node_at c.args.steps.now c.in-Some.spot.this)) (sym l.invariant.path) (spot.room (suc (length c.args.path.now)) l.invariant.room).0)))

pub fields_meet-returns-in_err-place_meets-in-Some-clause-answer : goal.fields_meet-returns-in_err-place_meets-in-Some-clause-answer
fields_meet-returns-in_err-place_meets-in-Some-clause-answer t c =
    let l = c.loop-place in
    let there = place_here c.args.steps.now l.this c.args.end l.number c.in-Some.spot c.in-Some.ensures.some c.args.path.now l.path l.invariant.path c.args.places.now l.place-index c.place-item.result c.loop-place-test.true c.place-item.is _ c.in_err-place_meets-in-Some.ensures.answer ∙ l.invariant.same in
    grind (arith, common_steps)

pub fields_meet-loop-place-preserved : goal.fields_meet-loop-place-preserved
fields_meet-loop-place-preserved t c =
    let l = c.loop-place in
    let spot = c.in-Some.ensures.some in
    let from = l.invariant.from in
    let a = spot.from in
    let b = spot.behind in
    let f = spot.few in
    record {
      from = omega (arith, from, a, b);
      few = omega (arith, f, b);
      path = c.in_ok-place_meets-in-Some.ensures.back ∙ l.invariant.path;
      room = (spot.room (suc (length c.args.path.now)) l.invariant.room).1;
      same = place_later c.args.steps.now l.this c.args.end l.number c.in-Some.spot c.in-Some.ensures.some c.args.path.now l.path l.invariant.path c.args.places.now l.place-index c.place-item.result c.loop-place-test.true c.place-item.is c.in_ok-place_meets-in-Some.ensures.answer ∙ l.invariant.same;
    }

pub fields_meet-returns-in-None-clause-answer : goal.fields_meet-returns-in-None-clause-answer
fields_meet-returns-in-None-clause-answer t c =
    let l = c.loop-place in
    sym (ap first_of (c.in-None.ensures.none c.args.path.now _)) ∙ l.invariant.same

pub fields_meet-returns-clause-answer : goal.fields_meet-returns-clause-answer
fields_meet-returns-clause-answer t c =
    let l = c.loop-place in
    let o = c.loop-place-test.false in
    sym (ap first_of (places_end (fields_at c.args.steps.now l.this c.args.end) c.args.path.now l.number c.args.places.now l.place-index (omega (arith, o)))) ∙ l.invariant.same

pub list_meets-returns-in-List-clause-answer : goal.list_meets-returns-in-List-clause-answer
list_meets-returns-in-List-clause-answer t c =
    let e = ap data_of c.in-List.is ∙ view_list c.in-List.elements in
    grind (arith, common_steps)

pub elements_meet-returns-in_err-size_meets-clause-answer : goal.elements_meet-returns-in_err-size_meets-clause-answer
elements_meet-returns-in_err-size_meets-clause-answer t c =
    let there = size_here c.args.path.now c.in_err-size_meets.field-0.0 c.args.sizing.now c.args.elements.now in
    grind (arith, common_steps) ∙ there _ c.in_err-size_meets.ensures

pub elements_meet-returns-clause-answer : goal.elements_meet-returns-clause-answer
elements_meet-returns-clause-answer t c = c.run_meets.ensures.answer ∙ sym (size_later c.args.path.now c.args.sizing.now c.args.elements.now _ c.in_ok-size_meets.ensures)

pub run_meets-returns-in_err-child_meets-clause-answer : goal.run_meets-returns-in_err-child_meets-clause-answer
run_meets-returns-in_err-child_meets-clause-answer t c =
    let l = c.loop-v in
    let there = element_here c.args.path.now l.path (node_at c.args.steps.now c.args.this) c.args.elements.now l.number l.v-index c.v-item.result c.loop-v-test.true c.v-item.is l.invariant.path l.invariant.number _ c.in_err-child_meets.ensures.answer ∙ l.invariant.same in
    grind (arith, common_steps)

pub run_meets-loop-v-preserved : goal.run_meets-loop-v-preserved
run_meets-loop-v-preserved t c =
    let l = c.loop-v in
    let n = l.invariant.number in
    record {
      number = omega (arith, n);
      path = c.in_ok-child_meets.ensures.back ∙ l.invariant.path;
      same = element_later c.args.path.now l.path (node_at c.args.steps.now c.args.this) c.args.elements.now l.number l.v-index c.v-item.result c.loop-v-test.true c.v-item.is l.invariant.path l.invariant.number c.in_ok-child_meets.ensures.answer ∙ l.invariant.same;
    }

pub run_meets-returns-clause-answer : goal.run_meets-returns-clause-answer
run_meets-returns-clause-answer t c =
    let l = c.loop-v in
    let o = c.loop-v-test.false in
    sym (ap first_of (run_end _ c.args.elements.now l.v-index l.v-index (omega (arith, o)))) ∙ l.invariant.same

pub case_meets-child_meets-requires : goal.case_meets-child_meets-requires
case_meets-child_meets-requires t c =
    let a = c.in-Some.ensures.inside.0 in
    let b = c.in-Some.ensures.inside.1 in
    let w = c.requires.within in
    (omega (arith, a, b, w), (c.requires.made, (omega (arith, b, w), case_room (cases_at c.args.steps.now c.args.first c.args.end) c.args.index (suc (length c.args.path.now)) (node_at c.args.steps.now c.in-Some.this) c.requires.room c.in-Some.ensures.case)))

pub case_meets-returns-in-Some-clause-answer : goal.case_meets-returns-in-Some-clause-answer
case_meets-returns-in-Some-clause-answer t c =
    c.child_meets.ensures.answer ∙ sym (ap first_of (case_breaks c.args.path.now c.args.index (cases_at c.args.steps.now c.args.first c.args.end) c.args.index (node_at c.args.steps.now c.in-Some.this) (data_of c.args.v.now) c.in-Some.ensures.case))

pub case_meets-returns-in-None-clause-answer : goal.case_meets-returns-in-None-clause-answer
case_meets-returns-in-None-clause-answer t c =
    sym (ap first_of (no_case_breaks c.args.path.now c.args.index (cases_at c.args.steps.now c.args.first c.args.end) c.args.index (data_of c.args.v.now) c.in-None.ensures.case))
