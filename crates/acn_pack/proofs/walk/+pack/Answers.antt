use Rattle.std.proofs.Common.{rules, true, ◌≡◌, ℕ, suc, ◌+◌, ◌≤◌, ◌∷◌, [], ◌++◌, drop, length, map, List, Option, Some, None, refl, sym, ap, ◌∙◌, subst, arith}
use Rattle.std.specs.Prelude.{option_map, IfSome}
use Rattle.std.proofs.lemmas.Bool.{and_parts}
use Rattle.acn_grammar.specs.Asks.{field_path}
use Rattle.acn_grammar.specs.Grammar.{Grammar, Fields, node, num, text, seq, list, choice, contained, record_of, list_of, alt}
use Rattle.acn_grammar.specs.Leaves.{sizes_fine, list_rule_fine}
use Rattle.acn_grammar.specs.Length.{ending, presence_bits}
use Rattle.acn_grammar.specs.View.{data_of, elements_view, places_view, with_field}
use Rattle.acn_grammar.specs.declared.value.Value.{Value}
use Rattle.acn_grammar.proofs.TextRules.{size_few}
use Rattle.acn_events.specs.Event.{Event, aligns, begins, fills, sizes}
use Rattle.acn_events.specs.Events.{events, form_events, field_events, index_events, case_events, run_events, size_wants, end_events, inserted_events, own_events, presence_events}
use Rattle.acn_plan.specs.declared.step.Step.{Step}
use Rattle.acn_plan.specs.Back.{StepAt, root_of, marks, node_at, form_at, fields_at, cases_at, case_items, field_by}
use Rattle.acn_plan.specs.declared.step.Act.TheVariants as acts
use Rattle.acn_plan.proofs.Mades.{made_nested, made_itemed}
use Rattle.acn_plan.proofs.Marks.{fields_more, fields_none, node_is}
use Rattle.acn_writer.specs.Halts.{halt_of}
use Rattle.acn_pack.specs.Packs.{Ran, Stopped, Packs}
use Rattle.acn_pack.specs.Parts.{place_events, item_events, case_tests, left_of, name_in, tests_in, IsItemed}
use Rattle.acn_pack.specs.Words.{Stands, left_from}
use Rattle.acn_pack.specs.Sounds.{IsSound, FormIsSound, FieldsAreSound}
use Rattle.acn_pack.proofs.Cases.{nth_events, no_events, cases_sound, nth_sound, is_itemed}
use Rattle.acn_pack.proofs.Chosen.{chosen_case, no_chosen}
use Rattle.acn_pack.proofs.Contents.{enter_fails, node_fails, align_fails, closed}
use Rattle.acn_pack.proofs.Gathered.{stays_on}
use Rattle.acn_pack.proofs.Levels.{child_inside, form_by, inside, node_of_number, same_step, step_there}
use Rattle.acn_pack.proofs.Fields.{below, no_element}
use Rattle.acn_pack.proofs.Paths.{back}
use Rattle.acn_pack.proofs.Sounding.{depth_is, body_sound, form_as, leaf_is_fine, num_is_fine, text_is_fine, list_is_fine, element_sound, content_sound, fields_sound, deeper, head_sound, rest_sound, own_is_number, no_own, string_is_fine}
use Rattle.acn_pack.proofs.Walking.{node_begins, body_as, component_on, component_stops, component_ends, inserted_on, inserted_stops, field_on, field_ends, field_stops, element_events, element_on, element_stops, list_begins, case_whole, case_begins}
use Rattle.acn_pack.proofs.Ways.{begin, then_on, then_one, then_some, left_as, packs_as, ended, nothing, last, failed, failed_to, failed_one, failed_some, ran_on, stopped_as, stop_some, stop_on}
use Rattle.acn_pack.proofs.walk.+pack.Goals as goal

pub pack_step-returns-in_err-align-clause-packs : goal.pack_step-returns-in_err-align-clause-packs
pack_step-returns-in_err-align-clause-packs g t c =
    let root = root_of c.args.steps.now in
    let s = c.at-step.result.now in
    let p = c.args.trace.now.path in
    let d = data_of c.args.v.now in
    failed_one (events root (node_at c.args.steps.now c.args.this) p d) (form_events root (form_at c.args.steps.now c.args.this s) p d) (λ path. aligns s.align) p c.args.w.now c.args.w.now c.align.new.self c.align.new.why c.in_err-align.field-0.0 c.from_residual.result c.from_residual.ensures.1
    (node_begins root c.args.steps.now c.args.this s p d c.args.w.now c.at-step.ensures) c.in_err-align.ensures.halted

pub pack_step-pack_body-requires : goal.pack_step-pack_body-requires
pack_step-pack_body-requires g t c κs within =
    (omega arith, (within, (search rules, (search rules, (search rules, (search rules, (c.requires.made, (c.requires.there, (c.at-step.ensures, body_sound (root_of c.args.steps.now) (length c.args.trace.now.path) c.args.steps.now c.args.this c.at-step.result.now c.at-step.ensures c.requires.sound)))))))))

pub pack_step-returns-clause-packs : goal.pack_step-returns-clause-packs
pack_step-returns-clause-packs g t c =
    let root = root_of c.args.steps.now in
    let s = c.at-step.result.now in
    let p = c.args.trace.now.path in
    let d = data_of c.args.v.now in
    let whole = events root (node_at c.args.steps.now c.args.this) p d in
    let rest = form_events root (form_at c.args.steps.now c.args.this s) p d in
    last whole rest c.args.w.now c.align.new.self c.pack_body.new.w c.pack_body.new.trace.path c.pack_body.new.trace.why c.pack_body.result
    (then_one whole rest (λ path. aligns s.align) p c.args.w.now c.args.w.now c.align.new.self (node_begins root c.args.steps.now c.args.this s p d c.args.w.now c.at-step.ensures) c.in_ok-align.ensures.ran) c.pack_body.ensures.packs

-- Bodies.

pub pack_body-put_number-requires : goal.pack_body-put_number-requires
pack_body-put_number-requires g t c =
    let root = root_of c.args.steps.now in
    let k = length c.args.trace.now.path in
    (search rules, num_is_fine root k c.in-Num.leaf (form_as root k (form_at c.args.steps.now c.args.this c.args.step.now) (num c.in-Num.leaf) (form_by c.args.steps.now c.args.this c.args.step.now (acts.Num c.in-Num.leaf) c.in-Num.is) c.requires.sound))

pub pack_body-returns-in-Num-clause-packs : goal.pack_body-returns-in-Num-clause-packs
pack_body-returns-in-Num-clause-packs g t c =
    let root = root_of c.args.steps.now in
    let p = c.args.trace.now.path in
    body_as root c.args.steps.now c.args.this c.args.step.now (acts.Num c.in-Num.leaf) p p (data_of c.args.v.now) c.args.w.now c.put_number.new.w c.put_number.new.why c.put_number.result c.in-Num.is (c.put_number.ensures p)

pub pack_body-returns-in-Octets-clause-packs : goal.pack_body-returns-in-Octets-clause-packs
pack_body-returns-in-Octets-clause-packs g t c =
    let root = root_of c.args.steps.now in
    let p = c.args.trace.now.path in
    body_as root c.args.steps.now c.args.this c.args.step.now (acts.Octets c.in-Octets.sizing) p p (data_of c.args.v.now) c.args.w.now c.put_octets.new.w c.put_octets.new.why c.put_octets.result c.in-Octets.is (c.put_octets.ensures root p)

pub pack_body-returns-in-Bits-clause-packs : goal.pack_body-returns-in-Bits-clause-packs
pack_body-returns-in-Bits-clause-packs g t c =
    let root = root_of c.args.steps.now in
    let p = c.args.trace.now.path in
    body_as root c.args.steps.now c.args.this c.args.step.now (acts.Bits c.in-Bits.sizing) p p (data_of c.args.v.now) c.args.w.now c.put_bits.new.w c.put_bits.new.why c.put_bits.result c.in-Bits.is (c.put_bits.ensures root p)

pub pack_body-put_text-requires : goal.pack_body-put_text-requires
pack_body-put_text-requires g t c =
    let root = root_of c.args.steps.now in
    let k = length c.args.trace.now.path in
    (search rules, text_is_fine root k c.in-Text.leaf (form_as root k (form_at c.args.steps.now c.args.this c.args.step.now) (text c.in-Text.leaf) (form_by c.args.steps.now c.args.this c.args.step.now (acts.Text c.in-Text.leaf) c.in-Text.is) c.requires.sound))

pub pack_body-returns-in-Text-clause-packs : goal.pack_body-returns-in-Text-clause-packs
pack_body-returns-in-Text-clause-packs g t c =
    let root = root_of c.args.steps.now in
    let p = c.args.trace.now.path in
    body_as root c.args.steps.now c.args.this c.args.step.now (acts.Text c.in-Text.leaf) p p (data_of c.args.v.now) c.args.w.now c.put_text.new.w c.put_text.new.why c.put_text.result c.in-Text.is (c.put_text.ensures root p)

pub pack_body-pack_seq-requires : goal.pack_body-pack_seq-requires
pack_body-pack_seq-requires g t c κs within =
    let root = root_of c.args.steps.now in
    let k = length c.args.trace.now.path in
    let s = c.args.step.now in
    let e = form_by c.args.steps.now c.args.this s (acts.Seq c.in-Seq.home) c.in-Seq.is ∙ ap (seq (fields_at c.args.steps.now (c.args.this + 1) s.next)) (sym c.items.ensures) in
    (omega (arith, c.requires.there), (within, (search rules, (search rules, (search rules, (search rules, (c.requires.made, ((made_nested c.args.steps.now c.requires.made c.args.this s c.requires.is).within, form_as root k (form_at c.args.steps.now c.args.this s) (seq (fields_at c.args.steps.now (c.args.this + 1) s.next) c.items.result.now) e c.requires.sound))))))))

pub pack_body-returns-in-Seq-clause-packs : goal.pack_body-returns-in-Seq-clause-packs
pack_body-returns-in-Seq-clause-packs g t c =
    let root = root_of c.args.steps.now in
    let p = c.args.trace.now.path in
    let d = data_of c.args.v.now in
    let s = c.args.step.now in
    let e = form_by c.args.steps.now c.args.this s (acts.Seq c.in-Seq.home) c.in-Seq.is ∙ ap (seq (fields_at c.args.steps.now (c.args.this + 1) s.next)) (sym c.items.ensures) in
    packs_as (form_events root (seq (fields_at c.args.steps.now (c.args.this + 1) s.next) c.items.result.now) p d) (form_events root (form_at c.args.steps.now c.args.this s) p d) c.args.w.now c.pack_seq.new.w c.pack_seq.new.trace.path c.pack_seq.new.trace.why c.pack_seq.result (ap (λ f. form_events root f p d) (sym e)) c.pack_seq.ensures.packs

pub pack_body-pack_list-requires : goal.pack_body-pack_list-requires
pack_body-pack_list-requires g t c κs within =
    let root = root_of c.args.steps.now in
    let k = length c.args.trace.now.path in
    let s = c.args.step.now in
    let inside = child_inside c.args.steps.now c.args.this s (acts.List c.in-List.sizing) (made_nested c.args.steps.now c.requires.made) c.requires.is c.in-List.is (λ x. x) in
    (omega (arith, c.requires.there), (within, (search rules, (search rules, (search rules, (search rules, (c.requires.made, (inside, form_as root k (form_at c.args.steps.now c.args.this s) (list c.in-List.sizing (node_at c.args.steps.now (c.args.this + 1))) (form_by c.args.steps.now c.args.this s (acts.List c.in-List.sizing) c.in-List.is) c.requires.sound))))))))

pub pack_body-returns-in-List-clause-packs : goal.pack_body-returns-in-List-clause-packs
pack_body-returns-in-List-clause-packs g t c =
    body_as (root_of c.args.steps.now) c.args.steps.now c.args.this c.args.step.now (acts.List c.in-List.sizing) c.args.trace.now.path c.pack_list.new.trace.path (data_of c.args.v.now) c.args.w.now c.pack_list.new.w c.pack_list.new.trace.why c.pack_list.result c.in-List.is c.pack_list.ensures.packs

pub pack_body-pack_choice-requires : goal.pack_body-pack_choice-requires
pack_body-pack_choice-requires g t c κs within =
    let root = root_of c.args.steps.now in
    let k = length c.args.trace.now.path in
    let s = c.args.step.now in
    let same : (other : Step) → StepAt c.args.steps.now c.args.this other → s ≡ other = λ other h. same_step c.args.steps.now c.args.this s other c.requires.is h in
    (omega (arith, c.requires.there), (within, (search rules, (search rules, (search rules, (search rules, (c.requires.made, (c.requires.there, ((λ other h. subst (λ x. x.act ≡ acts.Choice c.in-Choice.cases) (same other h) c.in-Choice.is), (λ other h. subst (λ x. FormIsSound root k (form_at c.args.steps.now c.args.this x)) (same other h) c.requires.sound))))))))))

pub pack_body-returns-in-Choice-clause-packs : goal.pack_body-returns-in-Choice-clause-packs
pack_body-returns-in-Choice-clause-packs g t c = c.pack_choice.ensures.packs c.args.step.now c.requires.is

pub pack_body-pack_contained-requires : goal.pack_body-pack_contained-requires
pack_body-pack_contained-requires g t c κs within =
    let root = root_of c.args.steps.now in
    let k = length c.args.trace.now.path in
    let s = c.args.step.now in
    let inside = child_inside c.args.steps.now c.args.this s (acts.Contained c.in-Contained.sizing) (made_nested c.args.steps.now c.requires.made) c.requires.is c.in-Contained.is (λ x. x) in
    (omega (arith, c.requires.there), (within, (search rules, (search rules, (search rules, (search rules, (c.requires.made, (inside, form_as root k (form_at c.args.steps.now c.args.this s) (contained c.in-Contained.sizing (node_at c.args.steps.now (c.args.this + 1))) (form_by c.args.steps.now c.args.this s (acts.Contained c.in-Contained.sizing) c.in-Contained.is) c.requires.sound))))))))

pub pack_body-returns-in-Contained-clause-packs : goal.pack_body-returns-in-Contained-clause-packs
pack_body-returns-in-Contained-clause-packs g t c =
    body_as (root_of c.args.steps.now) c.args.steps.now c.args.this c.args.step.now (acts.Contained c.in-Contained.sizing) c.args.trace.now.path c.pack_contained.new.trace.path (data_of c.args.v.now) c.args.w.now c.pack_contained.new.w c.pack_contained.new.trace.why c.pack_contained.result c.in-Contained.is c.pack_contained.ensures.packs

-- A node inside another.

pub pack_child-push-requires : goal.pack_child-push-requires
pack_child-push-requires g t c =
    let deep = depth_is (root_of c.args.steps.now) (suc (length c.args.trace.now.path)) (node_at c.args.steps.now c.args.this) c.requires.sound in omega (arith, deep)

pub pack_child-pack_step-requires : goal.pack_child-pack_step-requires
pack_child-pack_step-requires g t c κs within =
    (omega arith, (within, (search rules, (search rules, (search rules, (search rules, (c.requires.made, (c.requires.there, deeper (root_of c.args.steps.now) (length c.args.trace.now.path) c.args.trace.now.path c.push.new.self c.args.k (node_at c.args.steps.now c.args.this) refl c.push.ensures c.requires.sound))))))))

pub pack_child-returns-in_err-pack_step-clause-packs : goal.pack_child-returns-in_err-pack_step-clause-packs
pack_child-returns-in_err-pack_step-clause-packs g t c =
    let root = root_of c.args.steps.now in
    let n = node_at c.args.steps.now c.args.this in
    let d = data_of c.args.v.now in
    failed (events root n (c.args.trace.now.path ++ c.args.k ∷ []) d) c.args.w.now c.pack_step.new.w c.pack_step.new.trace.path c.pack_step.new.trace.why c.in_err-pack_step.field-0.0 c.from_residual.result c.from_residual.ensures.1
    (stopped_as (events root n c.push.new.self d) (events root n (c.args.trace.now.path ++ c.args.k ∷ []) d) c.args.w.now c.pack_step.new.w _ (ap (λ (q : List ℕ). events root n q d) c.push.ensures) c.in_err-pack_step.ensures.packs)

pub pack_child-returns-clause-packs : goal.pack_child-returns-clause-packs
pack_child-returns-clause-packs g t c =
    let root = root_of c.args.steps.now in
    let n = node_at c.args.steps.now c.args.this in
    let d = data_of c.args.v.now in
    subst (λ (q : List ℕ). Ran (events root n q d) c.args.w.now c.pack_step.new.w) c.push.ensures c.in_ok-pack_step.ensures.packs

-- SEQUENCEs.

pub pack_seq-returns-in-Some-clause-packs : goal.pack_seq-returns-in-Some-clause-packs
pack_seq-returns-in-Some-clause-packs g t c =
    let root = root_of c.args.steps.now in
    let form = seq (fields_at c.args.steps.now c.args.first c.args.end) c.args.home.now in
    packs_as (form_events root form c.args.trace.now.path (record_of (places_view c.in-Some.places.now))) (form_events root form c.args.trace.now.path (data_of c.args.v.now)) c.args.w.now c.pack_places.new.w c.pack_places.new.trace.path c.pack_places.new.trace.why c.pack_places.result (ap (form_events root form c.args.trace.now.path) (sym c.in-Some.ensures.some)) c.pack_places.ensures.packs

pub pack_seq-returns-in-None-clause-packs : goal.pack_seq-returns-in-None-clause-packs
pack_seq-returns-in-None-clause-packs g t c =
    let root = root_of c.args.steps.now in
    let fields = fields_at c.args.steps.now c.args.first c.args.end in
    nothing (form_events root (seq fields c.args.home.now) c.args.trace.now.path (data_of c.args.v.now)) c.args.w.now (c.in-None.ensures.none root fields c.args.home.now c.args.trace.now.path)

pub pack_places-pack_fields-requires : goal.pack_places-pack_fields-requires
pack_places-pack_fields-requires g t c κs within =
    (omega arith, (within, (search rules, (search rules, (search rules, (search rules, (c.requires.made, (c.requires.within, fields_sound (root_of c.args.steps.now) (length c.args.trace.now.path) (fields_at c.args.steps.now c.args.first c.args.end) c.args.home.now c.requires.sound))))))))

pub pack_places-returns-in_err-put_flags-clause-packs : goal.pack_places-returns-in_err-put_flags-clause-packs
pack_places-returns-in_err-put_flags-clause-packs g t c =
    let root = root_of c.args.steps.now in
    let p = c.args.trace.now.path in
    let fields = fields_at c.args.steps.now c.args.first c.args.end in
    let ps = places_view c.args.places.now in
    let homes = map (λ s. (s, field_path p fields s)) c.args.home.now in
    let whole = form_events root (seq fields c.args.home.now) p (record_of ps) in
    failed_some whole (begins homes (presence_bits fields ps) ∷ []) (field_events root fields p 0 ps ++ map fills c.args.home.now) p c.args.w.now c.args.w.now c.put_flags.new.w c.put_flags.new.why c.in_err-put_flags.field-0.0 c.from_residual.result c.from_residual.ensures.1 (begin whole c.args.w.now) (c.in_err-put_flags.ensures homes p)

pub pack_places-returns-in_err-pack_fields-clause-packs : goal.pack_places-returns-in_err-pack_fields-clause-packs
pack_places-returns-in_err-pack_fields-clause-packs g t c =
    let root = root_of c.args.steps.now in
    let p = c.args.trace.now.path in
    let fields = fields_at c.args.steps.now c.args.first c.args.end in
    let ps = places_view c.args.places.now in
    let homes = map (λ s. (s, field_path p fields s)) c.args.home.now in
    let whole = form_events root (seq fields c.args.home.now) p (record_of ps) in
    let inside = field_events root fields p 0 ps in
    failed_some whole inside (map fills c.args.home.now) c.pack_fields.new.trace.path c.args.w.now c.put_flags.new.w c.pack_fields.new.w c.pack_fields.new.trace.why c.in_err-pack_fields.field-0.0 c.from_residual-in_err-pack_fields.result c.from_residual-in_err-pack_fields.ensures.1
    (then_some whole (begins homes (presence_bits fields ps) ∷ []) (inside ++ map fills c.args.home.now) c.args.w.now c.args.w.now c.put_flags.new.w (begin whole c.args.w.now) (c.in_ok-put_flags.ensures homes p)) c.in_err-pack_fields.ensures.packs

pub pack_places-returns-clause-packs : goal.pack_places-returns-clause-packs
pack_places-returns-clause-packs g t c =
    let root = root_of c.args.steps.now in
    let p = c.args.trace.now.path in
    let fields = fields_at c.args.steps.now c.args.first c.args.end in
    let ps = places_view c.args.places.now in
    let homes = map (λ s. (s, field_path p fields s)) c.args.home.now in
    let whole = form_events root (seq fields c.args.home.now) p (record_of ps) in
    let inside = field_events root fields p 0 ps in
    let home = map fills c.args.home.now in
    last whole home c.args.w.now c.pack_fields.new.w c.fill_home.new.w c.pack_fields.new.trace.path c.fill_home.new.why c.fill_home.result
    (then_some whole inside home c.args.w.now c.put_flags.new.w c.pack_fields.new.w (then_some whole (begins homes (presence_bits fields ps) ∷ []) (inside ++ home) c.args.w.now c.args.w.now c.put_flags.new.w (begin whole c.args.w.now) (c.in_ok-put_flags.ensures homes p)) c.in_ok-pack_fields.ensures.packs)
    (c.fill_home.ensures c.pack_fields.new.trace.path)

-- Fields.

pub pack_fields-loop-spot-init : goal.pack_fields-loop-spot-init
pack_fields-loop-spot-init g t c = record {
  from = omega arith;
  few = omega arith;
  within = omega arith;
  path = refl;
  sound = c.requires.sound;
  done = begin (field_events (root_of c.args.steps.now) (fields_at c.args.steps.now c.args.first c.args.end) c.args.trace.now.path 0 (places_view c.args.places.now)) c.args.w.now;
}

pub pack_fields-at-step-requires : goal.pack_fields-at-step-requires
pack_fields-at-step-requires g t c = let a = c.loop-spot-test.true in let b = c.requires.within in omega (arith, a, b)

pub pack_fields-pack_field-requires : goal.pack_fields-pack_field-requires
pack_fields-pack_field-requires g t c κs within =
    let l = c.loop-spot in
    let root = root_of c.args.steps.now in
    let s = c.at-step.result.now in
    let more = fields_more c.args.steps.now l.spot.step c.args.end s c.at-step.ensures c.loop-spot-test.true (made_nested c.args.steps.now c.requires.made l.spot.step s c.at-step.ensures).behind in
    let a = c.loop-spot-test.true in
    let b = c.requires.within in
    let e = l.invariant.from in
    let sound = subst (λ (fs : Fields). FieldsAreSound root (suc (length c.args.trace.now.path)) fs) more l.invariant.sound in
    (omega (arith, a, b, e), (within, (search rules, (search rules, (search rules, (search rules, (c.requires.made, (omega (arith, a, b), (l.invariant.within, (fields_at c.args.steps.now s.next c.args.end, s, c.at-step.ensures, subst (λ (q : List ℕ). FieldsAreSound root (suc (length q)) (with_field (field_by s.place (node_at c.args.steps.now l.spot.step)) (fields_at c.args.steps.now s.next c.args.end))) (sym l.invariant.path) sound))))))))))

pub pack_fields-put_run-requires : goal.pack_fields-put_run-requires
pack_fields-put_run-requires g t c =
    let l = c.loop-spot in
    let stands : Stands c.run_at-run.result.now c.args.steps.now l.spot.step c.args.end = record { is = c.run_at-run.ensures.run; within = c.run_at-run.ensures.few; depth = suc (length c.args.trace.now.path); sound = l.invariant.sound } in
    (search rules, ((c.args.steps.now, l.spot.step, c.args.end, stands), l.invariant.within))

pub pack_fields-loop-spot-preserved-in-Some : goal.pack_fields-loop-spot-preserved-in-Some
pack_fields-loop-spot-preserved-in-Some g t c =
    let l = c.loop-spot in
    let steps = c.args.steps.now in
    let end = c.args.end in
    let path = c.args.trace.now.path in
    let run = c.run_at-run.result.now in
    let whole = field_events (root_of steps) (fields_at steps c.args.first end) path 0 (places_view c.args.places.now) in
    let before = left_from steps l.spot.step end path l.spot.k c.args.places.now l.spot.next in
    let behind = left_from steps (l.spot.step + length run) end path (l.spot.k + length run) c.args.places.now c.in-Some.next in
    let stands : Stands run steps l.spot.step end = record { is = c.run_at-run.ensures.run; within = c.run_at-run.ensures.few; depth = suc (length path); sound = l.invariant.sound } in
    record {
      from = omega (arith, l.invariant.from);
      few = omega (arith, l.invariant.few);
      within = c.in-Some.ensures.some.within;
      path = l.invariant.path;
      sound = c.in-Some.ensures.some.sound steps l.spot.step end stands (suc (length path)) l.invariant.sound;
      done = then_on whole before behind c.args.w.now l.w c.put_run.new.w l.invariant.done (c.in-Some.ensures.some.puts steps l.spot.step end stands path l.spot.k);
    }

pub pack_fields-loop-spot-preserved : goal.pack_fields-loop-spot-preserved
pack_fields-loop-spot-preserved g t c =
    let l = c.loop-spot in
    let root = root_of c.args.steps.now in
    let s = c.at-step.result.now in
    let up = (made_nested c.args.steps.now c.requires.made l.spot.step s c.at-step.ensures).behind in
    let more = fields_more c.args.steps.now l.spot.step c.args.end s c.at-step.ensures c.loop-spot-test.true up in
    let fs = fields_at c.args.steps.now s.next c.args.end in
    let one = field_by s.place (node_at c.args.steps.now l.spot.step) in
    let whole = field_events root (fields_at c.args.steps.now c.args.first c.args.end) c.args.trace.now.path 0 (places_view c.args.places.now) in
    let done = stays_on whole (left_from c.args.steps.now l.spot.step c.args.end c.args.trace.now.path l.spot.k c.args.places.now l.spot.next) c.args.w.now l.w c.put_run.new.w l.invariant.done c.in-None.ensures.none in
    record {
      from = omega (arith, up, l.invariant.from);
      few = omega (arith, up, l.invariant.few);
      within = subst (λ (o : Option ℕ). IfSome o (λ n. n ≤ length c.args.places.now)) c.in-Ok-Some.field-0-is c.in-Ok-Some.ensures.within;
      path = c.in-Ok-Some.ensures.path ∙ l.invariant.path;
      sound = rest_sound root (suc (length c.args.trace.now.path)) s.place (node_at c.args.steps.now l.spot.step) fs (subst (λ (x : Fields). FieldsAreSound root (suc (length c.args.trace.now.path)) x) more l.invariant.sound);
      done = field_on root whole (fields_at c.args.steps.now l.spot.step c.args.end) one fs c.args.trace.now.path l.trace.path l.spot.k l.spot.next c.args.places.now c.args.w.now c.put_run.new.w c.pack_field.new.w more l.invariant.path done c.in-Ok-Some.next (left_as _ _ _ c.put_run.new.w c.pack_field.new.w (ap (left_of root fs l.trace.path (suc l.spot.k) c.args.places.now) c.in-Ok-Some.field-0-is) (c.in-Ok-Some.ensures.packs fs s c.at-step.ensures));
    }

pub pack_fields-returns-in-Ok-None-clause-packs : goal.pack_fields-returns-in-Ok-None-clause-packs
pack_fields-returns-in-Ok-None-clause-packs g t c =
    let l = c.loop-spot in
    let root = root_of c.args.steps.now in
    let s = c.at-step.result.now in
    let up = (made_nested c.args.steps.now c.requires.made l.spot.step s c.at-step.ensures).behind in
    let more = fields_more c.args.steps.now l.spot.step c.args.end s c.at-step.ensures c.loop-spot-test.true up in
    let fs = fields_at c.args.steps.now s.next c.args.end in
    let one = field_by s.place (node_at c.args.steps.now l.spot.step) in
    let whole = field_events root (fields_at c.args.steps.now c.args.first c.args.end) c.args.trace.now.path 0 (places_view c.args.places.now) in
    let done = stays_on whole (left_from c.args.steps.now l.spot.step c.args.end c.args.trace.now.path l.spot.k c.args.places.now l.spot.next) c.args.w.now l.w c.put_run.new.w l.invariant.done c.in-None.ensures.none in
    field_ends root whole (fields_at c.args.steps.now l.spot.step c.args.end) one fs c.args.trace.now.path l.trace.path l.spot.k l.spot.next c.args.places.now c.args.w.now c.put_run.new.w c.pack_field.new.w more l.invariant.path done (left_as _ _ _ c.put_run.new.w c.pack_field.new.w (ap (left_of root fs l.trace.path (suc l.spot.k) c.args.places.now) c.in-Ok-None.field-0-is) (c.in-Ok-None.ensures.packs fs s c.at-step.ensures))

pub pack_fields-returns-in-Err-clause-packs : goal.pack_fields-returns-in-Err-clause-packs
pack_fields-returns-in-Err-clause-packs g t c =
    let l = c.loop-spot in
    let root = root_of c.args.steps.now in
    let s = c.at-step.result.now in
    let up = (made_nested c.args.steps.now c.requires.made l.spot.step s c.at-step.ensures).behind in
    let more = fields_more c.args.steps.now l.spot.step c.args.end s c.at-step.ensures c.loop-spot-test.true up in
    let fs = fields_at c.args.steps.now s.next c.args.end in
    let one = field_by s.place (node_at c.args.steps.now l.spot.step) in
    let whole = field_events root (fields_at c.args.steps.now c.args.first c.args.end) c.args.trace.now.path 0 (places_view c.args.places.now) in
    let done = stays_on whole (left_from c.args.steps.now l.spot.step c.args.end c.args.trace.now.path l.spot.k c.args.places.now l.spot.next) c.args.w.now l.w c.put_run.new.w l.invariant.done c.in-None.ensures.none in
    field_stops root whole (fields_at c.args.steps.now l.spot.step c.args.end) one fs c.args.trace.now.path l.trace.path l.spot.k l.spot.next c.args.places.now c.args.w.now c.put_run.new.w c.pack_field.new.w more l.invariant.path done _ (c.in-Err.ensures.packs fs s c.at-step.ensures)

pub pack_fields-returns-clause-packs : goal.pack_fields-returns-clause-packs
pack_fields-returns-clause-packs g t c =
    let l = c.loop-spot in
    let root = root_of c.args.steps.now in
    let whole = field_events root (fields_at c.args.steps.now c.args.first c.args.end) c.args.trace.now.path 0 (places_view c.args.places.now) in
    let none = fields_none c.args.steps.now l.spot.step c.args.end (let o = c.loop-spot-test.false in omega (arith, o)) in
    ended whole c.args.w.now l.w (left_as whole (field_events root (fields_at c.args.steps.now l.spot.step c.args.end) c.args.trace.now.path l.spot.k (places_view (drop l.spot.next c.args.places.now))) [] c.args.w.now l.w (ap (λ (fs : Fields). field_events root fs c.args.trace.now.path l.spot.k (places_view (drop l.spot.next c.args.places.now))) none) l.invariant.done)

pub pack_fields-returns-clause-path : goal.pack_fields-returns-clause-path
pack_fields-returns-clause-path g t c = c.loop-spot.invariant.path

pub pack_fields-loop-spot-smaller : goal.pack_fields-loop-spot-smaller
pack_fields-loop-spot-smaller g t c =
    let up = (made_nested c.args.steps.now c.requires.made c.loop-spot.spot.step c.at-step.result.now c.at-step.ensures).behind in let a = c.loop-spot-test.true in omega (arith, up, a)

-- One field.

pub pack_field-pack_component-requires : goal.pack_field-pack_component-requires
pack_field-pack_component-requires g t c κs within =
    let root = root_of c.args.steps.now in
    let k = suc (length c.args.trace.now.path) in
    let r = c.requires.sound in
    let n = node_at c.args.steps.now c.args.this in
    let m = c.in-Some.ensures.some in
    let at' = same_step c.args.steps.now c.args.this r.1 c.at-step.result.now r.2 c.at-step.ensures in
    let field = ap (λ x. field_by x.place n) at' ∙ m.2 n in
    (omega arith, (within, (search rules, (search rules, (search rules, (search rules, (c.requires.made, (c.requires.there, (head_sound root k r.1.place n r.0 r.3, own_is_number root k m.0 n c.in-Some.component.presence.now m.1 c.in-Some.component.slot r.0 (subst (λ f. FieldsAreSound root k (with_field f r.0)) field r.3))))))))))

pub pack_field-returns-in_err-pack_component-in-Some-get-clause-packs : goal.pack_field-returns-in_err-pack_component-in-Some-get-clause-packs
pack_field-returns-in_err-pack_component-in-Some-get-clause-packs g t c fs s h =
    let n = node_at c.args.steps.now c.args.this in
    let m = c.in-Some.ensures.some in
    let field = ap (λ x. field_by x.place n) (same_step c.args.steps.now c.args.this s c.at-step.result.now h c.at-step.ensures) ∙ m.2 n in
    let there = c.in-Some-get.ensures.lookup in
    failed_to (field_events (root_of c.args.steps.now) (with_field (field_by s.place n) fs) c.args.trace.now.path c.args.k (places_view (drop c.args.next c.args.places.now))) (left_of (root_of c.args.steps.now) fs c.args.trace.now.path (suc c.args.k) c.args.places.now) c.args.w.now c.pack_component.new.w c.pack_component.new.trace.path c.pack_component.new.trace.why c.in_err-pack_component-in-Some-get.field-0.0 c.from_residual.result c.from_residual.ensures.1
    (component_stops (root_of c.args.steps.now) (field_by s.place n) m.0 n c.in-Some.component.presence.now m.1 c.in-Some.component.slot fs c.args.trace.now.path c.args.k c.args.next c.in-Some-get.place.now c.args.places.now c.args.w.now c.pack_component.new.w _ field (below _ _ there.0) there.1 c.in_err-pack_component-in-Some-get.ensures.packs)

pub pack_field-returns-in_ok-pack_component-in-Some-get-clause-packs : goal.pack_field-returns-in_ok-pack_component-in-Some-get-clause-packs
pack_field-returns-in_ok-pack_component-in-Some-get-clause-packs g t c fs s h =
    let n = node_at c.args.steps.now c.args.this in
    let m = c.in-Some.ensures.some in
    let field = ap (λ x. field_by x.place n) (same_step c.args.steps.now c.args.this s c.at-step.result.now h c.at-step.ensures) ∙ m.2 n in
    let there = c.in-Some-get.ensures.lookup in
    component_on (root_of c.args.steps.now) (field_by s.place n) m.0 n c.in-Some.component.presence.now m.1 c.in-Some.component.slot fs c.args.trace.now.path c.args.k c.args.next c.in-Some-get.place.now c.args.places.now c.args.w.now c.pack_component.new.w field (below _ _ there.0) there.1 c.in_ok-pack_component-in-Some-get.ensures.packs

pub pack_field-returns-in-None-get-clause-packs : goal.pack_field-returns-in-None-get-clause-packs
pack_field-returns-in-None-get-clause-packs g t c fs s h =
    let n = node_at c.args.steps.now c.args.this in
    let m = c.in-Some.ensures.some in
    let field = ap (λ x. field_by x.place n) (same_step c.args.steps.now c.args.this s c.at-step.result.now h c.at-step.ensures) ∙ m.2 n in
    component_ends (root_of c.args.steps.now) (field_by s.place n) m.0 n c.in-Some.component.presence.now m.1 c.in-Some.component.slot fs c.args.trace.now.path c.args.k c.args.next c.args.places.now c.args.w.now field (c.in-None-get.ensures {u = tt}).lookup.3

pub pack_field-put_inserted-requires : goal.pack_field-put_inserted-requires
pack_field-put_inserted-requires g t c =
    let r = c.requires.sound in
    let n = node_at c.args.steps.now c.args.this in
    (search rules, (c.requires.there, (root_of c.args.steps.now, suc (length c.args.trace.now.path), head_sound (root_of c.args.steps.now) (suc (length c.args.trace.now.path)) r.1.place n r.0 r.3)))

pub pack_field-returns-in_err-put_inserted-in-None-clause-packs : goal.pack_field-returns-in_err-put_inserted-in-None-clause-packs
pack_field-returns-in_err-put_inserted-in-None-clause-packs g t c fs s h =
    let n = node_at c.args.steps.now c.args.this in
    let m = c.in-None.ensures.none n in
    let same = same_step c.args.steps.now c.args.this s c.at-step.result.now h c.at-step.ensures in
    let slot = c.inserted_slot-slot.ensures n n m.0 m.1 m.2 in
    let field = ap (λ x. field_by x.place n) same ∙ m.2 in
    failed_to (field_events (root_of c.args.steps.now) (with_field (field_by s.place n) fs) c.args.trace.now.path c.args.k (places_view (drop c.args.next c.args.places.now))) (left_of (root_of c.args.steps.now) fs c.args.trace.now.path (suc c.args.k) c.args.places.now) c.args.w.now c.put_inserted.new.w c.args.trace.now.path c.put_inserted.new.why c.in_err-put_inserted-in-None.field-0.0 c.from_residual-in_err-put_inserted-in-None.result c.from_residual-in_err-put_inserted-in-None.ensures.1
    (inserted_stops (root_of c.args.steps.now) (field_by s.place n) m.0 n m.1 fs c.args.trace.now.path c.args.k c.args.next c.args.places.now c.args.w.now c.put_inserted.new.w (halt_of c.args.trace.now.path c.put_inserted.new.why) field (subst (λ (x : Option ℕ). Stopped (inserted_events x n) c.args.w.now c.put_inserted.new.w (halt_of c.args.trace.now.path c.put_inserted.new.why)) slot (c.in_err-put_inserted-in-None.ensures c.args.trace.now.path)))

pub pack_field-returns-in_ok-put_inserted-in-None-clause-packs : goal.pack_field-returns-in_ok-put_inserted-in-None-clause-packs
pack_field-returns-in_ok-put_inserted-in-None-clause-packs g t c fs s h =
    let n = node_at c.args.steps.now c.args.this in
    let m = c.in-None.ensures.none n in
    let same = same_step c.args.steps.now c.args.this s c.at-step.result.now h c.at-step.ensures in
    let slot = c.inserted_slot-slot.ensures n n m.0 m.1 m.2 in
    let field = ap (λ x. field_by x.place n) same ∙ m.2 in
    inserted_on (root_of c.args.steps.now) (field_by s.place n) m.0 n m.1 fs c.args.trace.now.path c.args.k c.args.next c.args.places.now c.args.w.now c.put_inserted.new.w field (subst (λ (x : Option ℕ). Ran (inserted_events x n) c.args.w.now c.put_inserted.new.w) slot (c.in_ok-put_inserted-in-None.ensures c.args.trace.now.path))

-- Components.

pub pack_component-put_absent-requires : goal.pack_component-put_absent-requires
pack_component-put_absent-requires g t c =
    let deep = depth_is (root_of c.args.steps.now) (suc (length c.args.trace.now.path)) (node_at c.args.steps.now c.args.this) c.requires.sound in (c.requires-raw.1.1.1.1.1.0, omega (arith, deep))

pub pack_component-returns-in-Some-clause-packs : goal.pack_component-returns-in-Some-clause-packs
pack_component-returns-in-Some-clause-packs g t c =
    let q = c.args.trace.now.path ++ c.args.k ∷ [] in
    let es : Option Value → List Event = λ o. place_events (root_of c.args.steps.now) (node_at c.args.steps.now c.args.this) c.args.component.presence.now c.args.component.slot q (option_map data_of o) in
    packs_as (es (Some c.in-Some.v)) (es c.args.place.now) c.args.w.now c.pack_there.new.w c.pack_there.new.trace.path c.pack_there.new.trace.why c.pack_there.result (ap es (sym c.in-Some.is)) c.pack_there.ensures.packs

pub pack_component-returns-in-None-clause-packs : goal.pack_component-returns-in-None-clause-packs
pack_component-returns-in-None-clause-packs g t c =
    let q = c.args.trace.now.path ++ c.args.k ∷ [] in
    let es : Option Value → List Event = λ o. place_events (root_of c.args.steps.now) (node_at c.args.steps.now c.args.this) c.args.component.presence.now c.args.component.slot q (option_map data_of o) in
    packs_as (es None) (es c.args.place.now) c.args.w.now c.put_absent.new.w c.put_absent.new.trace.path c.put_absent.new.trace.why c.put_absent.result (ap es (sym c.in-None.is)) c.put_absent.ensures.packs

pub pack_there-put_numbered-requires : goal.pack_there-put_numbered-requires
pack_there-put_numbered-requires g t c =
    let root = root_of c.args.steps.now in
    let k = suc (length c.args.trace.now.path) in
    let n = node_at c.args.steps.now c.args.this in
    let s = c.at-step.result.now in
    let leaf = c.in-Some.leaf.now in
    let deep = depth_is root k n c.requires.sound in
    (c.requires-raw.1.1.1.1.1.0, (leaf_is_fine root k n s.align leaf (node_of_number c.args.steps.now c.args.this s leaf c.at-step.ensures c.in-Some.ensures.some) c.requires.sound, omega (arith, deep)))

pub pack_there-returns-in-Some-clause-packs : goal.pack_there-returns-in-Some-clause-packs
pack_there-returns-in-Some-clause-packs g t c =
    let root = root_of c.args.steps.now in
    let s = c.at-step.result.now in
    let leaf = c.in-Some.leaf.now in
    let is = node_of_number c.args.steps.now c.args.this s leaf c.at-step.ensures c.in-Some.ensures.some in
    let es = λ (y : Grammar). place_events root y c.args.component.presence.now c.args.component.slot (c.args.trace.now.path ++ c.args.k ∷ []) (Some (data_of c.args.v.now)) in
    packs_as (es (node s.align (num leaf))) (es (node_at c.args.steps.now c.args.this)) c.args.w.now c.put_numbered.new.w c.put_numbered.new.trace.path c.put_numbered.new.trace.why c.put_numbered.result (ap es (sym is)) (c.put_numbered.ensures.packs root)

pub pack_there-pack_other-requires : goal.pack_there-pack_other-requires
pack_there-pack_other-requires g t c κs within = (omega arith, (within, (search rules, (search rules, (search rules, (search rules, (c.requires.made, (c.requires.there, c.requires.sound))))))))

pub pack_there-returns-in-None-clause-packs : goal.pack_there-returns-in-None-clause-packs
pack_there-returns-in-None-clause-packs g t c =
    let q = c.args.trace.now.path ++ c.args.k ∷ [] in
    let n = node_at c.args.steps.now c.args.this in
    let d = data_of c.args.v.now in
    let rest = presence_events q true c.args.component.presence.now ++ events (root_of c.args.steps.now) n q d in
    let none = no_own c.args.component.slot c.args.steps.now c.args.this c.at-step.result.now q d c.at-step.ensures c.requires.own c.in-None.ensures.none in
    packs_as rest (own_events q c.args.component.slot n d ++ rest) c.args.w.now c.pack_other.new.w c.pack_other.new.trace.path c.pack_other.new.trace.why c.pack_other.result (ap (λ (es : List Event). es ++ rest) (sym none)) c.pack_other.ensures.packs

pub pack_other-put_string-requires : goal.pack_other-put_string-requires
pack_other-put_string-requires g t c =
    let root = root_of c.args.steps.now in
    let k = suc (length c.args.trace.now.path) in
    let n = node_at c.args.steps.now c.args.this in
    let s = c.at-step.result.now in
    let deep = depth_is root k n c.requires.sound in
    let says = sym c.is_string.ensures ∙ c.if-is_string.true in
    (c.requires-raw.1.1.1.1.1.0, (string_is_fine root k s.act s.next (c.args.this + 1) _ says (body_sound root k c.args.steps.now c.args.this s c.at-step.ensures c.requires.sound), omega (arith, deep)))

pub pack_other-returns-then-is_string-clause-packs : goal.pack_other-returns-then-is_string-clause-packs
pack_other-returns-then-is_string-clause-packs g t c =
    let root = root_of c.args.steps.now in
    let q = c.args.trace.now.path ++ c.args.k ∷ [] in
    let s = c.at-step.result.now in
    let d = data_of c.args.v.now in
    let es = λ (y : Grammar). presence_events q true c.args.presence.now ++ events root y q d in
    let is = node_is c.args.steps.now c.args.this s c.at-step.ensures in
    packs_as (es (node s.align (form_at c.args.steps.now c.args.this s))) (es (node_at c.args.steps.now c.args.this)) c.args.w.now c.put_string.new.w c.put_string.new.trace.path c.put_string.new.trace.why c.put_string.result (ap es (sym is)) (c.put_string.ensures.packs root s.next (c.args.this + 1) (marks (c.args.this + 1) (drop (c.args.this + 1) c.args.steps.now)))

pub pack_other-pack_inside-requires : goal.pack_other-pack_inside-requires
pack_other-pack_inside-requires g t c κs within = (omega arith, (within, (search rules, (search rules, (search rules, (search rules, (c.requires.made, (c.requires.there, c.requires.sound))))))))

pub pack_inside-push-requires : goal.pack_inside-push-requires
pack_inside-push-requires g t c =
    let deep = depth_is (root_of c.args.steps.now) (suc (length c.args.trace.now.path)) (node_at c.args.steps.now c.args.this) c.requires.sound in omega (arith, deep)

pub pack_inside-pack_step-requires : goal.pack_inside-pack_step-requires
pack_inside-pack_step-requires g t c κs within =
    (omega arith, (within, (search rules, (search rules, (search rules, (search rules, (c.requires.made, (c.requires.there, deeper (root_of c.args.steps.now) (length c.args.trace.now.path) c.args.trace.now.path c.push.new.self c.args.k (node_at c.args.steps.now c.args.this) refl c.push.ensures c.requires.sound))))))))

pub pack_inside-returns-in_err-ask_presence-clause-packs : goal.pack_inside-returns-in_err-ask_presence-clause-packs
pack_inside-returns-in_err-ask_presence-clause-packs g t c =
    let root = root_of c.args.steps.now in
    let n = node_at c.args.steps.now c.args.this in
    let d = data_of c.args.v.now in
    let q = c.push.new.self in
    let es = λ (x : List ℕ). presence_events x true c.args.presence.now ++ events root n x d in
    packs_as (es q) (es (c.args.trace.now.path ++ c.args.k ∷ [])) c.args.w.now c.ask_presence.new.w q c.ask_presence.new.why c.from_residual.result (ap es c.push.ensures)
    (failed_some (es q) (presence_events q true c.args.presence.now) (events root n q d) q c.args.w.now c.args.w.now c.ask_presence.new.w c.ask_presence.new.why c.in_err-ask_presence.field-0.0 c.from_residual.result c.from_residual.ensures.1 (begin (es q) c.args.w.now) (c.in_err-ask_presence.ensures q))

pub pack_inside-returns-in_err-pack_step-clause-packs : goal.pack_inside-returns-in_err-pack_step-clause-packs
pack_inside-returns-in_err-pack_step-clause-packs g t c =
    let root = root_of c.args.steps.now in
    let n = node_at c.args.steps.now c.args.this in
    let d = data_of c.args.v.now in
    let q = c.push.new.self in
    let es = λ (x : List ℕ). presence_events x true c.args.presence.now ++ events root n x d in
    let path = c.pack_step.new.trace.path in
    let why = c.pack_step.new.trace.why in
    let asked = then_some (es q) (presence_events q true c.args.presence.now) (events root n q d) c.args.w.now c.args.w.now c.ask_presence.new.w (begin (es q) c.args.w.now) (c.in_ok-ask_presence.ensures q) in
    packs_as (es q) (es (c.args.trace.now.path ++ c.args.k ∷ [])) c.args.w.now c.pack_step.new.w path why c.from_residual-in_err-pack_step.result (ap es c.push.ensures)
    (failed (es q) c.args.w.now c.pack_step.new.w path why c.in_err-pack_step.field-0.0 c.from_residual-in_err-pack_step.result c.from_residual-in_err-pack_step.ensures.1
    (stop_on (es q) (events root n q d) c.args.w.now c.ask_presence.new.w c.pack_step.new.w (halt_of path why) asked c.in_err-pack_step.ensures.packs))

pub pack_inside-returns-clause-packs : goal.pack_inside-returns-clause-packs
pack_inside-returns-clause-packs g t c =
    let root = root_of c.args.steps.now in
    let n = node_at c.args.steps.now c.args.this in
    let d = data_of c.args.v.now in
    let q = c.push.new.self in
    let es = λ (x : List ℕ). presence_events x true c.args.presence.now ++ events root n x d in
    let asked = then_some (es q) (presence_events q true c.args.presence.now) (events root n q d) c.args.w.now c.args.w.now c.ask_presence.new.w (begin (es q) c.args.w.now) (c.in_ok-ask_presence.ensures q) in
    subst (λ (x : List ℕ). Ran (es x) c.args.w.now c.pack_step.new.w) c.push.ensures (ran_on (es q) (events root n q d) c.args.w.now c.ask_presence.new.w c.pack_step.new.w asked c.in_ok-pack_step.ensures.packs)

pub pack_inside-returns-clause-path : goal.pack_inside-returns-clause-path
pack_inside-returns-clause-path g t c =
    back c.args.trace.now.path c.pack_step.new.trace.path c.pop.new.self c.args.k c.pop.result (c.in_ok-pack_step.ensures.path ∙ c.push.ensures) c.pop.ensures

-- Lists.

pub pack_list-returns-in-Some-clause-packs : goal.pack_list-returns-in-Some-clause-packs
pack_list-returns-in-Some-clause-packs g t c =
    let root = root_of c.args.steps.now in
    let form = list c.args.sizing.now (node_at c.args.steps.now c.args.this) in
    packs_as (form_events root form c.args.trace.now.path (list_of (elements_view c.in-Some.elements.now))) (form_events root form c.args.trace.now.path (data_of c.args.v.now)) c.args.w.now c.pack_elements.new.w c.pack_elements.new.trace.path c.pack_elements.new.trace.why c.pack_elements.result (ap (form_events root form c.args.trace.now.path) (sym c.in-Some.ensures.some)) c.pack_elements.ensures.packs

pub pack_list-returns-in-None-clause-packs : goal.pack_list-returns-in-None-clause-packs
pack_list-returns-in-None-clause-packs g t c =
    let n = node_at c.args.steps.now c.args.this in
    nothing (form_events (root_of c.args.steps.now) (list c.args.sizing.now n) c.args.trace.now.path (data_of c.args.v.now)) c.args.w.now (c.in-None.ensures.none (root_of c.args.steps.now) c.args.sizing.now n c.args.trace.now.path)

pub pack_elements-pack_run-requires : goal.pack_elements-pack_run-requires
pack_elements-pack_run-requires g t c κs within =
    let root = root_of c.args.steps.now in
    let s = c.args.sizing.now in
    let n = node_at c.args.steps.now c.args.this in
    let fine = list_is_fine root (length c.args.trace.now.path) s n c.requires.sound in
    let permitted = (c.in_ok-size.ensures.ran.step []).does.0 in
    let few = size_few s.sizes (length c.args.elements.now) (and_parts (sizes_fine s.sizes) (list_rule_fine (ending s.rule) s) fine).0 permitted in
    (omega arith, (within, (search rules, (search rules, (search rules, (search rules, (c.requires.made, (c.requires.there, (few, element_sound root (length c.args.trace.now.path) s n c.requires.sound)))))))))

pub pack_elements-returns-in_err-size-clause-packs : goal.pack_elements-returns-in_err-size-clause-packs
pack_elements-returns-in_err-size-clause-packs g t c =
    let root = root_of c.args.steps.now in
    let s = c.args.sizing.now in
    let n = node_at c.args.steps.now c.args.this in
    let p = c.args.trace.now.path in
    let vs = c.args.elements.now in
    failed_one (form_events root (list s n) p (list_of (elements_view vs))) (size_wants p (length vs) s.rule ++ (run_events (element_events root n p) 0 (elements_view vs) ++ end_events s.rule)) (λ path. sizes s (length vs)) p c.args.w.now c.args.w.now c.size.new.self c.size.new.why c.in_err-size.field-0.0 c.from_residual.result c.from_residual.ensures.1
    (list_begins root s n p vs c.args.w.now) c.in_err-size.ensures.halted

pub pack_elements-returns-in_err-ask_size-clause-packs : goal.pack_elements-returns-in_err-ask_size-clause-packs
pack_elements-returns-in_err-ask_size-clause-packs g t c =
    let root = root_of c.args.steps.now in
    let s = c.args.sizing.now in
    let n = node_at c.args.steps.now c.args.this in
    let p = c.args.trace.now.path in
    let vs = c.args.elements.now in
    let whole = form_events root (list s n) p (list_of (elements_view vs)) in
    let asked = size_wants p (length vs) s.rule in
    let rest = run_events (element_events root n p) 0 (elements_view vs) ++ end_events s.rule in
    failed_some whole asked rest p c.args.w.now c.size.new.self c.ask_size.new.w c.ask_size.new.why c.in_err-ask_size.field-0.0 c.from_residual-in_err-ask_size.result c.from_residual-in_err-ask_size.ensures.1
    (then_one whole (asked ++ rest) (λ path. sizes s (length vs)) p c.args.w.now c.args.w.now c.size.new.self (list_begins root s n p vs c.args.w.now) c.in_ok-size.ensures.ran) (c.in_err-ask_size.ensures p)

pub pack_elements-returns-in_err-pack_run-clause-packs : goal.pack_elements-returns-in_err-pack_run-clause-packs
pack_elements-returns-in_err-pack_run-clause-packs g t c =
    let root = root_of c.args.steps.now in
    let s = c.args.sizing.now in
    let n = node_at c.args.steps.now c.args.this in
    let p = c.args.trace.now.path in
    let vs = c.args.elements.now in
    let whole = form_events root (list s n) p (list_of (elements_view vs)) in
    let asked = size_wants p (length vs) s.rule in
    let run = run_events (element_events root n p) 0 (elements_view vs) in
    let end = end_events s.rule in
    let sized = then_one whole (asked ++ (run ++ end)) (λ path. sizes s (length vs)) p c.args.w.now c.args.w.now c.size.new.self (list_begins root s n p vs c.args.w.now) c.in_ok-size.ensures.ran in
    failed_some whole run end c.pack_run.new.trace.path c.args.w.now c.ask_size.new.w c.pack_run.new.w c.pack_run.new.trace.why c.in_err-pack_run.field-0.0 c.from_residual-in_err-pack_run.result c.from_residual-in_err-pack_run.ensures.1
    (then_some whole asked (run ++ end) c.args.w.now c.size.new.self c.ask_size.new.w sized (c.in_ok-ask_size.ensures p)) c.in_err-pack_run.ensures.packs

pub pack_elements-returns-clause-packs : goal.pack_elements-returns-clause-packs
pack_elements-returns-clause-packs g t c =
    let root = root_of c.args.steps.now in
    let s = c.args.sizing.now in
    let n = node_at c.args.steps.now c.args.this in
    let p = c.args.trace.now.path in
    let vs = c.args.elements.now in
    let whole = form_events root (list s n) p (list_of (elements_view vs)) in
    let asked = size_wants p (length vs) s.rule in
    let run = run_events (element_events root n p) 0 (elements_view vs) in
    let end = end_events s.rule in
    let sized = then_one whole (asked ++ (run ++ end)) (λ path. sizes s (length vs)) p c.args.w.now c.args.w.now c.size.new.self (list_begins root s n p vs c.args.w.now) c.in_ok-size.ensures.ran in
    let told = then_some whole asked (run ++ end) c.args.w.now c.size.new.self c.ask_size.new.w sized (c.in_ok-ask_size.ensures p) in
    last whole end c.args.w.now c.pack_run.new.w c.put_end.new.w c.pack_run.new.trace.path c.put_end.new.why c.put_end.result (then_some whole run end c.args.w.now c.ask_size.new.w c.pack_run.new.w told c.in_ok-pack_run.ensures.packs) (c.put_end.ensures c.pack_run.new.trace.path)

pub pack_run-loop-v-init : goal.pack_run-loop-v-init
pack_run-loop-v-init g t c = record {
  number = refl;
  path = refl;
  done = begin (run_events (element_events (root_of c.args.steps.now) (node_at c.args.steps.now c.args.this) c.args.trace.now.path) 0 (elements_view c.args.elements.now)) c.args.w.now;
}

pub pack_run-pack_child-requires : goal.pack_run-pack_child-requires
pack_run-pack_child-requires g t c κs within =
    let l = c.loop-v in
    let root = root_of c.args.steps.now in
    (omega arith, (within, (search rules, (search rules, (search rules, (search rules, (c.requires.made, (c.requires.there, subst (λ (q : List ℕ). IsSound root (suc (length q)) (node_at c.args.steps.now c.args.this)) (sym l.invariant.path) c.requires.sound))))))))

pub pack_run-loop-v-preserved : goal.pack_run-loop-v-preserved
pack_run-loop-v-preserved g t c =
    let l = c.loop-v in
    let root = root_of c.args.steps.now in
    let n = node_at c.args.steps.now c.args.this in
    record {
      number = ap (λ (k : ℕ). k + 1) l.invariant.number;
      path = c.in-Ok.ensures.path ∙ l.invariant.path;
      done = element_on root n c.args.trace.now.path l.trace.path l.k l.v-index c.v-item.result c.args.elements.now c.args.w.now l.w c.pack_child.new.w c.loop-v-test.true c.v-item.is l.invariant.path l.invariant.done c.in-Ok.ensures.packs;
    }

pub pack_run-returns-in-Err-clause-packs : goal.pack_run-returns-in-Err-clause-packs
pack_run-returns-in-Err-clause-packs g t c =
    let l = c.loop-v in
    let root = root_of c.args.steps.now in
    let n = node_at c.args.steps.now c.args.this in
    element_stops root n c.args.trace.now.path l.trace.path l.k l.v-index c.v-item.result c.args.elements.now c.args.w.now l.w c.pack_child.new.w c.loop-v-test.true c.v-item.is l.invariant.path l.invariant.done _ c.in-Err.ensures.packs

pub pack_run-returns-clause-packs : goal.pack_run-returns-clause-packs
pack_run-returns-clause-packs g t c =
    let l = c.loop-v in
    let each = element_events (root_of c.args.steps.now) (node_at c.args.steps.now c.args.this) c.args.trace.now.path in
    let vs = c.args.elements.now in
    let over = c.loop-v-test.false in
    ended (run_events each 0 (elements_view vs)) c.args.w.now l.w (left_as (run_events each 0 (elements_view vs)) (run_events each l.k (elements_view (drop l.v-index vs))) [] c.args.w.now l.w (no_element each l.k l.v-index vs (omega (arith, over))) l.invariant.done)

pub pack_run-returns-clause-path : goal.pack_run-returns-clause-path
pack_run-returns-clause-path g t c = c.loop-v.invariant.path

pub pack_run-overflow_add-k : goal.pack_run-overflow_add-k
pack_run-overflow_add-k g t c =
    let l = c.loop-v in
    let n = l.invariant.number in let a = c.loop-v-test.true in let f = c.requires.few in omega (arith, n, a, f)

-- CHOICEs.

pub pack_choice-pack_chosen-requires : goal.pack_choice-pack_chosen-requires
pack_choice-pack_chosen-requires g t c κs within = (omega arith, (within, (search rules, (search rules, (search rules, (search rules, (c.requires.made, (c.requires.there, (c.requires.is, c.requires.sound)))))))))

pub pack_choice-returns-in-Some-clause-packs : goal.pack_choice-returns-in-Some-clause-packs
pack_choice-returns-in-Some-clause-packs g t c s h =
    let form = form_at c.args.steps.now c.args.this s in
    let root = root_of c.args.steps.now in
    packs_as (form_events root form c.args.trace.now.path (alt c.in-Some.i (data_of c.in-Some.inside.now))) (form_events root form c.args.trace.now.path (data_of c.args.v.now)) c.args.w.now c.pack_chosen.new.w c.pack_chosen.new.trace.path c.pack_chosen.new.trace.why c.pack_chosen.result (ap (form_events root form c.args.trace.now.path) (sym c.in-Some.ensures.some)) (c.pack_chosen.ensures.packs s h)

pub pack_choice-returns-in-None-clause-packs : goal.pack_choice-returns-in-None-clause-packs
pack_choice-returns-in-None-clause-packs g t c s h =
    let root = root_of c.args.steps.now in
    let cases = cases_at c.args.steps.now (c.args.this + 1) s.next in
    nothing (form_events root (form_at c.args.steps.now c.args.this s) c.args.trace.now.path (data_of c.args.v.now)) c.args.w.now
    (ap (λ f. form_events root f c.args.trace.now.path (data_of c.args.v.now)) (form_by c.args.steps.now c.args.this s (acts.Choice c.args.cases.now) (c.requires.is s h)) ∙ c.in-None.ensures.none root cases c.args.cases.now.rule c.args.trace.now.path)

pub pack_chosen-pack_case-requires : goal.pack_chosen-pack_case-requires
pack_chosen-pack_case-requires g t c κs within =
    let root = root_of c.args.steps.now in
    let k = length c.args.trace.now.path in
    let st = step_there c.args.steps.now c.args.this c.requires.there in
    let s = st.0 in
    let cases = cases_at c.args.steps.now (c.args.this + 1) s.next in
    let act = c.requires.is s st.1 in
    let sound = form_as root k (form_at c.args.steps.now c.args.this s) (choice cases c.args.cases.now.rule) (form_by c.args.steps.now c.args.this s (acts.Choice c.args.cases.now) act) (c.requires.sound s st.1) in
    let here = chosen_case c.args.steps.now c.requires.made c.args.this s c.args.cases.now c.items.result.now st.1 act c.items.ensures c.in-Some.ensures.there in
    let itemed : (other : Step) → StepAt c.args.steps.now c.in-Some.case other → IsItemed root c.args.cases.now.rule other.place = λ other h. subst (λ x. IsItemed root c.args.cases.now.rule x.place) (same_step c.args.steps.now c.in-Some.case here.step other here.at h)
    (is_itemed root k cases c.args.cases.now.rule (case_items c.args.steps.now (c.args.this + 1) s.next) c.args.i _ here.step.place sound (λ slot e. made_itemed c.args.steps.now c.requires.made c.args.this s c.args.cases.now slot st.1 act e) here.is refl here.item) in
    (omega (arith, here.from, c.requires.there), (within, (search rules, (search rules, (search rules, (search rules, (c.requires.made, (inside c.args.steps.now c.in-Some.case here.step here.at, (nth_sound root (suc k) cases c.args.i _ (cases_sound root k cases c.args.cases.now.rule sound) here.is, itemed)))))))))

pub pack_chosen-returns-in_err-put_index-clause-packs : goal.pack_chosen-returns-in_err-put_index-clause-packs
pack_chosen-returns-in_err-put_index-clause-packs g t c s h =
    let root = root_of c.args.steps.now in
    let p = c.args.trace.now.path in
    let d = data_of c.args.v.now in
    let rule = c.args.cases.now.rule in
    let cases = cases_at c.args.steps.now (c.args.this + 1) s.next in
    let form = form_by c.args.steps.now c.args.this s (acts.Choice c.args.cases.now) (c.requires.is s h) in
    let whole = form_events root (choice cases c.args.cases.now.rule) p (alt c.args.i d) in
    packs_as whole (form_events root (form_at c.args.steps.now c.args.this s) p (alt c.args.i d)) c.args.w.now c.put_index.new.w p c.put_index.new.why c.from_residual.result (ap (λ f. form_events root f p (alt c.args.i d)) (sym form))
    (failed_some whole (index_events rule c.args.i) (case_events root cases rule p c.args.i c.args.i d) p c.args.w.now c.args.w.now c.put_index.new.w c.put_index.new.why c.in_err-put_index.field-0.0 c.from_residual.result c.from_residual.ensures.1 (begin whole c.args.w.now) (c.in_err-put_index.ensures p))

pub pack_chosen-returns-in-Some-clause-packs : goal.pack_chosen-returns-in-Some-clause-packs
pack_chosen-returns-in-Some-clause-packs g t c s h =
    let root = root_of c.args.steps.now in
    let p = c.args.trace.now.path in
    let d = data_of c.args.v.now in
    let rule = c.args.cases.now.rule in
    let cases = cases_at c.args.steps.now (c.args.this + 1) s.next in
    let form = form_by c.args.steps.now c.args.this s (acts.Choice c.args.cases.now) (c.requires.is s h) in
    let whole = form_events root (choice cases c.args.cases.now.rule) p (alt c.args.i d) in
    let here = chosen_case c.args.steps.now c.requires.made c.args.this s c.args.cases.now c.items.result.now h (c.requires.is s h) c.items.ensures c.in-Some.ensures.there in
    let one = nth_events root rule p cases c.args.i c.args.i _ d here.is in
    packs_as whole (form_events root (form_at c.args.steps.now c.args.this s) p (alt c.args.i d)) c.args.w.now c.pack_case.new.w c.pack_case.new.trace.path c.pack_case.new.trace.why c.pack_case.result (ap (λ f. form_events root f p (alt c.args.i d)) (sym form))
    (last whole (case_events root cases rule p c.args.i c.args.i d) c.args.w.now c.put_index.new.w c.pack_case.new.w c.pack_case.new.trace.path c.pack_case.new.trace.why c.pack_case.result
    (then_some whole (index_events rule c.args.i) (case_events root cases rule p c.args.i c.args.i d) c.args.w.now c.args.w.now c.put_index.new.w (begin whole c.args.w.now) (c.in_ok-put_index.ensures p))
    (packs_as _ (case_events root cases rule p c.args.i c.args.i d) c.put_index.new.w c.pack_case.new.w c.pack_case.new.trace.path c.pack_case.new.trace.why c.pack_case.result (sym one) (c.pack_case.ensures.packs here.step here.at)))

pub pack_chosen-returns-in-None-clause-packs : goal.pack_chosen-returns-in-None-clause-packs
pack_chosen-returns-in-None-clause-packs g t c s h =
    let root = root_of c.args.steps.now in
    let p = c.args.trace.now.path in
    let d = data_of c.args.v.now in
    let rule = c.args.cases.now.rule in
    let cases = cases_at c.args.steps.now (c.args.this + 1) s.next in
    let form = form_by c.args.steps.now c.args.this s (acts.Choice c.args.cases.now) (c.requires.is s h) in
    let whole = form_events root (choice cases c.args.cases.now.rule) p (alt c.args.i d) in
    let rest = case_events root cases rule p c.args.i c.args.i d in
    let none = no_chosen c.args.steps.now c.requires.made c.args.this s c.args.cases.now c.items.result.now h (c.requires.is s h) c.items.ensures c.args.i c.in-None.ensures.none in
    subst (λ (es : List Event). Ran es c.args.w.now c.put_index.new.w) (ap (λ f. form_events root f p (alt c.args.i d)) (sym form))
    (ended whole c.args.w.now c.put_index.new.w (left_as whole rest [] c.args.w.now c.put_index.new.w (no_events root rule p cases c.args.i c.args.i d none) (then_some whole (index_events rule c.args.i) rest c.args.w.now c.args.w.now c.put_index.new.w (begin whole c.args.w.now) (c.in_ok-put_index.ensures p))))

pub pack_case-push-requires : goal.pack_case-push-requires
pack_case-push-requires g t c =
    let deep = depth_is (root_of c.args.steps.now) (suc (length c.args.trace.now.path)) (node_at c.args.steps.now c.args.this) c.requires.sound in omega (arith, deep)

pub pack_case-ask_item-requires : goal.pack_case-ask_item-requires
pack_case-ask_item-requires g t c = (search rules, (root_of c.args.steps.now, c.requires.item c.at-step.result.now c.at-step.ensures))

pub pack_case-pack_step-requires : goal.pack_case-pack_step-requires
pack_case-pack_step-requires g t c κs within =
    (omega arith, (within, (search rules, (search rules, (search rules, (c.requires-raw.1.1.1.1.1.0, (c.requires.made, (c.requires.there, deeper (root_of c.args.steps.now) (length c.args.trace.now.path) c.args.trace.now.path c.push.new.self c.args.i (node_at c.args.steps.now c.args.this) refl c.push.ensures c.requires.sound))))))))

pub pack_case-returns-in_err-ask_item-clause-packs : goal.pack_case-returns-in_err-ask_item-clause-packs
pack_case-returns-in_err-ask_item-clause-packs g t c s h =
    let root = root_of c.args.steps.now in
    let p = c.args.trace.now.path in
    let place = c.at-step.result.now.place in
    let same = same_step c.args.steps.now c.args.this c.at-step.result.now s c.at-step.ensures h in
    failed (case_whole root c.args.rule p c.args.i (node_at c.args.steps.now c.args.this) (data_of c.args.v.now) s.place) c.args.w.now c.ask_item.new.w p c.ask_item.new.why c.in_err-ask_item.field-0.0 c.from_residual.result c.from_residual.ensures.1
    (subst (λ x. Stopped (case_whole root c.args.rule p c.args.i (node_at c.args.steps.now c.args.this) (data_of c.args.v.now) x.place) c.args.w.now c.ask_item.new.w (halt_of p c.ask_item.new.why)) same
    (stop_some _ (item_events root p c.args.rule (name_in place)) _ c.args.w.now c.args.w.now c.ask_item.new.w (halt_of p c.ask_item.new.why) (case_begins root c.args.rule p c.args.i (node_at c.args.steps.now c.args.this) (data_of c.args.v.now) place c.args.w.now) (c.in_err-ask_item.ensures root p (c.requires.item c.at-step.result.now c.at-step.ensures))))

pub pack_case-returns-in_err-ask_case-clause-packs : goal.pack_case-returns-in_err-ask_case-clause-packs
pack_case-returns-in_err-ask_case-clause-packs g t c s h =
    let root = root_of c.args.steps.now in
    let p = c.args.trace.now.path in
    let q = p ++ c.args.i ∷ [] in
    let n = node_at c.args.steps.now c.args.this in
    let d = data_of c.args.v.now in
    let place = c.at-step.result.now.place in
    let same = same_step c.args.steps.now c.args.this c.at-step.result.now s c.at-step.ensures h in
    let item = then_some (case_whole root c.args.rule p c.args.i n d place) (item_events root p c.args.rule (name_in place)) (case_tests q c.args.rule (tests_in place) ++ events root n q d) c.args.w.now c.args.w.now c.ask_item.new.w (case_begins root c.args.rule p c.args.i n d place c.args.w.now) (c.in_ok-ask_item.ensures root p (c.requires.item c.at-step.result.now c.at-step.ensures)) in
    failed (case_whole root c.args.rule p c.args.i n d s.place) c.args.w.now c.ask_case.new.w c.push.new.self c.ask_case.new.why c.in_err-ask_case.field-0.0 c.from_residual-in_err-ask_case.result c.from_residual-in_err-ask_case.ensures.1
    (subst (λ x. Stopped (case_whole root c.args.rule p c.args.i n d x.place) c.args.w.now c.ask_case.new.w (halt_of c.push.new.self c.ask_case.new.why)) same
    (stop_some (case_whole root c.args.rule p c.args.i n d place) (case_tests q c.args.rule (tests_in place)) (events root n q d) c.args.w.now c.ask_item.new.w c.ask_case.new.w (halt_of c.push.new.self c.ask_case.new.why) item
    (subst (λ (x : List ℕ). Stopped (case_tests x c.args.rule (tests_in place)) c.ask_item.new.w c.ask_case.new.w (halt_of c.push.new.self c.ask_case.new.why)) c.push.ensures (c.in_err-ask_case.ensures c.push.new.self))))

pub pack_case-returns-in_err-pack_step-clause-packs : goal.pack_case-returns-in_err-pack_step-clause-packs
pack_case-returns-in_err-pack_step-clause-packs g t c s h =
    let root = root_of c.args.steps.now in
    let p = c.args.trace.now.path in
    let q = p ++ c.args.i ∷ [] in
    let n = node_at c.args.steps.now c.args.this in
    let d = data_of c.args.v.now in
    let place = c.at-step.result.now.place in
    let same = same_step c.args.steps.now c.args.this c.at-step.result.now s c.at-step.ensures h in
    let whole = case_whole root c.args.rule p c.args.i n d place in
    let item = then_some whole (item_events root p c.args.rule (name_in place)) (case_tests q c.args.rule (tests_in place) ++ events root n q d) c.args.w.now c.args.w.now c.ask_item.new.w (case_begins root c.args.rule p c.args.i n d place c.args.w.now) (c.in_ok-ask_item.ensures root p (c.requires.item c.at-step.result.now c.at-step.ensures)) in
    let tests = then_some whole (case_tests q c.args.rule (tests_in place)) (events root n q d) c.args.w.now c.ask_item.new.w c.ask_case.new.w item (subst (λ (x : List ℕ). Ran (case_tests x c.args.rule (tests_in place)) c.ask_item.new.w c.ask_case.new.w) c.push.ensures (c.in_ok-ask_case.ensures c.push.new.self)) in
    failed (case_whole root c.args.rule p c.args.i n d s.place) c.args.w.now c.pack_step.new.w c.pack_step.new.trace.path c.pack_step.new.trace.why c.in_err-pack_step.field-0.0 c.from_residual-in_err-pack_step.result c.from_residual-in_err-pack_step.ensures.1
    (subst (λ x. Stopped (case_whole root c.args.rule p c.args.i n d x.place) c.args.w.now c.pack_step.new.w (halt_of c.pack_step.new.trace.path c.pack_step.new.trace.why)) same
    (stop_on whole (events root n q d) c.args.w.now c.ask_case.new.w c.pack_step.new.w (halt_of c.pack_step.new.trace.path c.pack_step.new.trace.why) tests (subst (λ (x : List ℕ). Stopped (events root n x d) c.ask_case.new.w c.pack_step.new.w (halt_of c.pack_step.new.trace.path c.pack_step.new.trace.why)) c.push.ensures c.in_err-pack_step.ensures.packs)))

pub pack_case-returns-clause-packs : goal.pack_case-returns-clause-packs
pack_case-returns-clause-packs g t c s h =
    let root = root_of c.args.steps.now in
    let p = c.args.trace.now.path in
    let q = p ++ c.args.i ∷ [] in
    let n = node_at c.args.steps.now c.args.this in
    let d = data_of c.args.v.now in
    let place = c.at-step.result.now.place in
    let same = same_step c.args.steps.now c.args.this c.at-step.result.now s c.at-step.ensures h in
    let whole = case_whole root c.args.rule p c.args.i n d place in
    let item = then_some whole (item_events root p c.args.rule (name_in place)) (case_tests q c.args.rule (tests_in place) ++ events root n q d) c.args.w.now c.args.w.now c.ask_item.new.w (case_begins root c.args.rule p c.args.i n d place c.args.w.now) (c.in_ok-ask_item.ensures root p (c.requires.item c.at-step.result.now c.at-step.ensures)) in
    let tests = then_some whole (case_tests q c.args.rule (tests_in place)) (events root n q d) c.args.w.now c.ask_item.new.w c.ask_case.new.w item (subst (λ (x : List ℕ). Ran (case_tests x c.args.rule (tests_in place)) c.ask_item.new.w c.ask_case.new.w) c.push.ensures (c.in_ok-ask_case.ensures c.push.new.self)) in
    subst (λ x. Ran (case_whole root c.args.rule p c.args.i n d x.place) c.args.w.now c.pack_step.new.w) same
    (ran_on whole (events root n q d) c.args.w.now c.ask_case.new.w c.pack_step.new.w tests (subst (λ (x : List ℕ). Ran (events root n x d) c.ask_case.new.w c.pack_step.new.w) c.push.ensures c.in_ok-pack_step.ensures.packs))

pub pack_case-returns-clause-path : goal.pack_case-returns-clause-path
pack_case-returns-clause-path g t c =
    back c.args.trace.now.path c.pack_step.new.trace.path c.pop.new.self c.args.i c.pop.result (c.in_ok-pack_step.ensures.path ∙ c.push.ensures) c.pop.ensures

-- Contents.

pub pack_contained-pack_child-requires : goal.pack_contained-pack_child-requires
pack_contained-pack_child-requires g t c κs within =
    (omega arith, (within, (search rules, (search rules, (search rules, (search rules, (c.requires.made, (c.requires.there, content_sound (root_of c.args.steps.now) (length c.args.trace.now.path) c.args.sizing.now (node_at c.args.steps.now c.args.this) c.requires.sound))))))))

pub pack_contained-returns-in_err-enter-clause-packs : goal.pack_contained-returns-in_err-enter-clause-packs
pack_contained-returns-in_err-enter-clause-packs g t c =
    enter_fails (root_of c.args.steps.now) (node_at c.args.steps.now c.args.this) c.args.trace.now.path c.args.sizing.now (data_of c.args.v.now) c.args.w.now c.enter.new.self c.enter.new.why c.in_err-enter.field-0.0 c.from_residual.result c.from_residual.ensures.1 c.in_err-enter.ensures.halted

pub pack_contained-returns-in_err-pack_child-clause-packs : goal.pack_contained-returns-in_err-pack_child-clause-packs
pack_contained-returns-in_err-pack_child-clause-packs g t c =
    node_fails (root_of c.args.steps.now) (node_at c.args.steps.now c.args.this) c.args.trace.now.path c.args.sizing.now (data_of c.args.v.now) c.args.w.now c.enter.new.self c.in_ok-enter.ensures.ran c.pack_child.new.w
    c.pack_child.new.trace.path c.pack_child.new.trace.why c.in_err-pack_child.field-0.0 c.from_residual-in_err-pack_child.result c.from_residual-in_err-pack_child.ensures.1 c.in_err-pack_child.ensures.packs

pub pack_contained-returns-in_err-align-clause-packs : goal.pack_contained-returns-in_err-align-clause-packs
pack_contained-returns-in_err-align-clause-packs g t c =
    align_fails (root_of c.args.steps.now) (node_at c.args.steps.now c.args.this) c.args.trace.now.path c.args.sizing.now (data_of c.args.v.now) c.args.w.now c.enter.new.self c.in_ok-enter.ensures.ran c.pack_child.new.w c.in_ok-pack_child.ensures.packs c.align.new.self
    c.pack_child.new.trace.path c.align.new.why c.in_err-align.field-0.0 c.from_residual-in_err-align.result c.from_residual-in_err-align.ensures.1 c.in_err-align.ensures.halted

pub pack_contained-returns-clause-packs : goal.pack_contained-returns-clause-packs
pack_contained-returns-clause-packs g t c =
    subst (λ (q : List ℕ). Packs (form_events (root_of c.args.steps.now) (contained c.args.sizing.now (node_at c.args.steps.now c.args.this)) c.args.trace.now.path (data_of c.args.v.now)) c.args.w.now c.close.new.self q c.close.new.why c.close.result) (sym c.in_ok-pack_child.ensures.path)
    (closed (root_of c.args.steps.now) (node_at c.args.steps.now c.args.this) c.args.trace.now.path c.args.sizing.now (data_of c.args.v.now) c.args.w.now c.enter.new.self c.in_ok-enter.ensures.ran c.pack_child.new.w c.in_ok-pack_child.ensures.packs c.align.new.self
    c.close.new.self c.close.new.why c.close.result c.in_ok-align.ensures.ran c.close.ensures.ran c.close.ensures.halted)

-- The search doesn't get so far down in what is required of the writer's size.
pub pack_contained-close-requires : goal.pack_contained-close-requires
pack_contained-close-requires g t c = c.requires-raw.1.1.1.1.1.0

pub pack_elements-put_end-requires : goal.pack_elements-put_end-requires
pack_elements-put_end-requires g t c = c.requires-raw.1.1.1.1.1.0
