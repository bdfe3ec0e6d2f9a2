use Rattle.std.proofs.Common.{◌≡◌, ℕ, true, false, suc, ◌+◌, ◌≤◌, ◌∷◌, [], ◌++◌, length, None, Some, refl, sym, ap, ◌∙◌, subst, List, arith, length-append}
use Rattle.std.proofs.Common.{inl, inr, Option, append-nil}
use Rattle.acn_grammar.specs.Fails.{presence_count}
use Rattle.acn_grammar.specs.Env.{Env}
use Rattle.acn_reads.specs.Choices.{RuleKnown, Picked, NoCase}
use Rattle.acn_reads.proofs.ChoiceReads.{choice_known, index_fits, case_sound, case_named, choice_read, choice_fails, choice_none}
use Rattle.acn_reads.specs.Steps.{Named}
use Rattle.acn_grammar.specs.Grammar.{Grammar, Form, Fields, Data, list, choice, contained, num, octets, bits, text, seq, component, record_of, list_of, alt}
use Rattle.acn_grammar.specs.Length.{number_of}
use Rattle.acn_grammar.specs.declared.limits.TheConstants.{MOST_OPEN_SLOTS}
use Rattle.acn_grammar.specs.ItemsNamed.{ItemsNamed, FormItemsNamed, FieldsItemsNamed}
use Rattle.acn_grammar.specs.LeafFails.{content_size}
use Rattle.acn_grammar.specs.View.{OneField, with_field, elements_of, places_of}
use Rattle.acn_plan.specs.Back.{root_of, node_at, form_at, fields_at, cases_at, field_by}
use Rattle.acn_plan.specs.declared.step.Act.TheVariants as acts
use Rattle.acn_plan.proofs.Mades.{made_nested, made_itemed, made_listed}
use Rattle.acn_plan.proofs.Marks.{node_is, fields_more, fields_none}
use Rattle.acn_reads.specs.Decoded.{FormRead, FormStops, NodeRead, NodeStops, NodeStands, FieldsStand, FieldsStop, Turn}
use Rattle.acn_reads.specs.Present.{there_now}
use Rattle.acn_reads.specs.Steps.{noted_by}
use Rattle.acn_reads.proofs.Loops.{next_turn, next_stops}
use Rattle.acn_reads.proofs.EndReads.{end_stops_to, none_stops_to, next_fails_to, ended_turn, ended_list, ended_fails}
use Rattle.acn_reads.proofs.Nodes.{node_room, node_align, leaf_fine, inner_node, ok_map, on_ok_map, node_read, node_fails_at, node_short_at, num_read, num_fails}
use Rattle.acn_reads.proofs.Runs.{contained_rule, contained_inner, contained_read, contained_overlong, contained_fails, contained_short, contained_unsized, list_sizing, list_rule, list_inner, list_read, list_fails, list_unsized, no_run, run_stands, run_stops_at, run_next}
use Rattle.acn_reads.proofs.SlotTurns.{component_read}
use Rattle.acn_reads.proofs.StringReads.{octets_rule, bits_rule, text_rule}
use Rattle.acn_reads.proofs.Turns.{bit_is, there_told, away_turn, component_stops, no_turn, depth_is}
use Rattle.acn_unpack.proofs.Chosen.{cases_counted}
use Rattle.acn_unpack.proofs.Levels.{form_by, node_of_number, body_ready, body_named, form_ready, child_inside}
use Rattle.acn_unpack.proofs.Seqs.{flags_are, fields_ready, seq_read_at, seq_fails_at, seq_short_at, field_named, component_ready, inserted_ready, next_field_ready}
use Rattle.acn_unpack.proofs.Halting.{halts_map, stops_map, fault_map}
use Rattle.acn_unpack.proofs.Numbers.{own_free, own_stands, no_slot}
use Rattle.acn_unpack.proofs.Strings.{string_read, string_fails}
use Rattle.acn_unpack.proofs.read.+read.Goals as goal

pub read_component-is_there-requires : goal.read_component-is_there-requires
read_component-is_there-requires types t c =
    let r = c.requires.ready in bit_is (root_of c.args.steps.now) c.args.presence.now [] (node_at c.args.steps.now c.args.this) None c.args.slot r.1 c.args.flags.now.rest r.3

pub read_component-returns-in-Err-clause-fails : goal.read_component-returns-in-Err-clause-fails
read_component-returns-in-Err-clause-fails types t c =
    let r = c.requires.ready in
    let yes' : there_now c.args.presence.now (types.T.SlotTable.env c.args.slots.now) c.args.flags.now.rest ≡ true = ap (λ x. there_now c.args.presence.now x c.args.flags.now.rest) (sym c.items.ensures) ∙ (sym c.is_there.ensures.there ∙ c.if-is_there.true) in
    halts_map c.in-Err.stop _ _ _ _ (λ x. x) (λ q at s place name default fs. component_stops (root_of c.args.steps.now) (record { path = c.args.path.now; place = place; inside = c.args.inside }) c.args.cur.now.origin c.args.k name (node_at c.args.steps.now c.args.this) c.args.presence.now default c.args.slot fs (types.T.SlotTable.env c.args.slots.now) c.args.flags.now.rest c.args.cur.now c.read_present.new.path q at
    refl (λ env f. (there_told (root_of c.args.steps.now) r.2.known (types.T.SlotTable.env c.args.slots.now) env c.args.presence.now c.args.flags.now.rest r.2.noted.has r.2.is.0 f).0 yes')
    s) c.in-Err.ensures.fails

pub read_child-push-requires : goal.read_child-push-requires
read_child-push-requires types t c =
    let r = c.requires.ready in node_room (root_of c.args.steps.now) (node_at c.args.steps.now c.args.this) (length c.args.path.now) r.0 r.1.known r.1.is

pub read_child-returns-in-Err-clause-fails : goal.read_child-returns-in-Err-clause-fails
read_child-returns-in-Err-clause-fails types t c =
    halts_map c.in-Err.stop _ _ _ _ (λ x. x) (λ q at s. subst (λ (p : List ℕ). NodeStops (root_of c.args.steps.now) (node_at c.args.steps.now c.args.this) c.args.inside p (types.T.SlotTable.env c.args.slots.now) c.args.cur.now c.read_node.new.path q at) c.push.ensures s) c.in-Err.ensures.fails

pub read_contained-read_size-requires : goal.read_contained-read_size-requires
read_contained-read_size-requires types t c =
    record { fine = c.requires.ready.1.is.0; read = contained_rule (root_of c.args.steps.now) c.args.sizing.now (node_at c.args.steps.now c.args.this) (length c.args.path.now) (types.T.SlotTable.env c.args.slots.now) c.items.result.now c.items.ensures c.requires.ready c.requires.fine }

pub read_contained-returns-then-left-lt8-clause-read : goal.read_contained-returns-then-left-lt8-clause-read
read_contained-returns-then-left-lt8-clause-read types t c =
    let few = c.if-left-lt8.true in
    let left = c.left.ensures in
    (c.in-Ok-read_child.ensures.read.0, c.in-Ok-read_child.ensures.read.1, contained_read (root_of c.args.steps.now) c.args.sizing.now (node_at c.args.steps.now c.args.this) c.in-Ok.n c.in-Ok-read_child.ensures.read.0 (types.T.SlotTable.env c.args.slots.now) (types.T.SlotTable.env c.read_child.new.slots) c.items.result.now c.args.cur.now c.read_size.new.cur c.window.new.self c.in-Ok-window.window c.read_child.new.cur c.items.ensures c.in-Ok.ensures.read c.in-Ok-window.ensures.within c.in-Ok-window.ensures.window c.in-Ok-window.ensures.moved c.in-Ok-read_child.ensures.read.2 (omega (arith, few, left)))

pub read_contained-returns-else-left-lt8-clause-fails : goal.read_contained-returns-else-left-lt8-clause-fails
read_contained-returns-else-left-lt8-clause-fails types t c =
    let many = c.if-left-lt8.false in
    let left = c.left.ensures in
    subst (λ (p : List ℕ). FormStops (root_of c.args.steps.now) (contained c.args.sizing.now (node_at c.args.steps.now c.args.this)) (record { path = c.args.path.now; place = c.args.from; inside = c.args.inside }) c.args.cur.now.origin (types.T.SlotTable.env c.args.slots.now) c.args.cur.now p (content_size c.in-Ok.n c.at.result) c.args.from) (sym c.in-Ok-read_child.ensures.path)
    (contained_overlong (root_of c.args.steps.now) (record { path = c.args.path.now; place = c.args.from; inside = c.args.inside }) c.args.sizing.now (node_at c.args.steps.now c.args.this) c.in-Ok.n c.at.result c.in-Ok-read_child.ensures.read.0 (types.T.SlotTable.env c.args.slots.now) (types.T.SlotTable.env c.read_child.new.slots) c.items.result.now c.args.cur.now c.read_size.new.cur c.in-Ok-window.window c.read_child.new.cur c.items.ensures c.in-Ok.ensures.read c.requires.fine c.in-Ok-window.ensures.within c.in-Ok-window.ensures.window c.in-Ok-read_child.ensures.read.2 (omega (arith, many, left)) c.at.ensures)

pub read_contained-returns-in-Err-read_child-clause-fails : goal.read_contained-returns-in-Err-read_child-clause-fails
read_contained-returns-in-Err-read_child-clause-fails types t c =
    halts_map c.in-Err-read_child.stop _ _ _ _ (λ x. x) (λ q at s. contained_fails (root_of c.args.steps.now) (record { path = c.args.path.now; place = c.args.from; inside = c.args.inside }) c.args.sizing.now (node_at c.args.steps.now c.args.this) c.in-Ok.n (types.T.SlotTable.env c.args.slots.now) c.items.result.now c.args.cur.now c.read_size.new.cur c.in-Ok-window.window _ q at c.items.ensures c.in-Ok.ensures.read c.in-Ok-window.ensures.within c.in-Ok-window.ensures.window s) c.in-Err-read_child.ensures.fails

pub read_contained-returns-in-Err-window-clause-fails : goal.read_contained-returns-in-Err-window-clause-fails
read_contained-returns-in-Err-window-clause-fails types t c =
    contained_short (root_of c.args.steps.now) (record { path = c.args.path.now; place = c.args.from; inside = c.args.inside }) c.args.sizing.now (node_at c.args.steps.now c.args.this) c.in-Ok.n (types.T.SlotTable.env c.args.slots.now) c.items.result.now c.args.cur.now c.read_size.new.cur _ c.items.ensures c.in-Ok.ensures.read c.requires.fine c.named.ensures c.in-Err-window.ensures.short

pub read_contained-returns-in-Err-clause-fails : goal.read_contained-returns-in-Err-clause-fails
read_contained-returns-in-Err-clause-fails types t c =
    fault_map c.in-Err.stop _ _ _ c.in-Err.ensures.fault (λ q at s. contained_unsized (root_of c.args.steps.now) (record { path = c.args.path.now; place = c.args.from; inside = c.args.inside }) c.args.sizing.now (node_at c.args.steps.now c.args.this) (types.T.SlotTable.env c.args.slots.now) c.items.result.now c.args.cur.now q at c.items.ensures c.requires.fine s) c.in-Err.ensures.fails

pub read_list-read_size-requires : goal.read_list-read_size-requires
read_list-read_size-requires types t c =
    let none = c.is_ended.ensures.sized c.if-is_ended.false in
    record { fine = list_sizing (root_of c.args.steps.now) c.args.sizing.now (node_at c.args.steps.now c.args.this) (length c.args.path.now) (types.T.SlotTable.env c.args.slots.now) none c.requires.ready; read = list_rule (root_of c.args.steps.now) c.args.sizing.now (node_at c.args.steps.now c.args.this) (length c.args.path.now) (types.T.SlotTable.env c.args.slots.now) c.items.result.now c.items.ensures c.requires.ready c.requires.fine }

pub read_list-returns-in-Ok-read_run-clause-read : goal.read_list-returns-in-Ok-read_run-clause-read
read_list-returns-in-Ok-read_run-clause-read types t c =
    let none = c.is_ended.ensures.sized c.if-is_ended.false in
    let r = c.in-Ok-read_run.ensures.read in
    (list_of (elements_of r.0), c.list.ensures r.0 r.1, list_read (root_of c.args.steps.now) (record { path = c.args.path.now; place = c.args.from; inside = c.args.inside }) c.read_size.new.cur.origin c.args.sizing.now (node_at c.args.steps.now c.args.this) c.in-Ok.n r.0 (types.T.SlotTable.env c.args.slots.now) (types.T.SlotTable.env c.read_run.new.slots) c.items.result.now c.args.cur.now c.read_size.new.cur c.read_run.new.cur none c.items.ensures c.in-Ok.ensures.read r.2 (r.3 c.args.from))

pub read_list-returns-in-Err-read_run-clause-fails : goal.read_list-returns-in-Err-read_run-clause-fails
read_list-returns-in-Err-read_run-clause-fails types t c =
    let none = c.is_ended.ensures.sized c.if-is_ended.false in
    halts_map c.in-Err-read_run.stop _ _ _ _ (λ x. x) (λ q at s. list_fails (root_of c.args.steps.now) (record { path = c.args.path.now; place = c.args.from; inside = c.args.inside }) c.read_size.new.cur.origin c.args.sizing.now (node_at c.args.steps.now c.args.this) c.in-Ok.n (types.T.SlotTable.env c.args.slots.now) c.items.result.now c.args.cur.now c.read_size.new.cur _ q at none c.items.ensures c.in-Ok.ensures.read (s c.args.from)) c.in-Err-read_run.ensures.fails

pub read_list-returns-in-Err-clause-fails : goal.read_list-returns-in-Err-clause-fails
read_list-returns-in-Err-clause-fails types t c =
    let none = c.is_ended.ensures.sized c.if-is_ended.false in
    fault_map c.in-Err.stop _ _ _ c.in-Err.ensures.fault (λ q at s. list_unsized (root_of c.args.steps.now) (record { path = c.args.path.now; place = c.args.from; inside = c.args.inside }) c.args.sizing.now (node_at c.args.steps.now c.args.this) (types.T.SlotTable.env c.args.slots.now) c.items.result.now c.args.cur.now q at none c.items.ensures c.requires.fine s) c.in-Err.ensures.fails

pub read_run-loop-i-init : goal.read_run-loop-i-init
read_run-loop-i-init types t c =
    record {
      path = refl;
      read = ([], c.no_elements-elements.ensures, refl, λ place. no_run (root_of c.args.steps.now) (record { path = c.args.path.now; place = place; inside = c.args.inside }) c.args.cur.now.origin (node_at c.args.steps.now c.args.this) 0 (types.T.SlotTable.env c.args.slots.now) c.args.cur.now c.requires.fine);
    }

pub read_run-returns-in-Err-clause-fails : goal.read_run-returns-in-Err-clause-fails
read_run-returns-in-Err-clause-fails types t c =
    let l = c.loop-i in
    halts_map c.in-Err.stop _ _ _ _ (λ x. x) (λ q at s place. run_stops_at (root_of c.args.steps.now) place c.args.inside c.args.path.now l.path c.args.cur.now.origin (node_at c.args.steps.now c.args.this) c.args.n l.i l.invariant.read.0 (types.T.SlotTable.env c.args.slots.now) (types.T.SlotTable.env l.slots) c.args.cur.now l.cur _ q at (l.invariant.read.3 place).window l.invariant.read.2 c.loop-i-test.true l.invariant.path (l.invariant.read.3 place) s) c.in-Err.ensures.fails

pub read_run-returns-clause-read : goal.read_run-returns-clause-read
read_run-returns-clause-read types t c =
    let l = c.loop-i in
    let over = c.loop-i-test.false in
    let within = l.auto.i-end in
    let s = l.invariant.read in
    (s.0, s.1, s.2 ∙ omega (arith, over, within), s.3)

pub read_run-returns-clause-path : goal.read_run-returns-clause-path
read_run-returns-clause-path types t c =
    c.loop-i.invariant.path

pub read_run-loop-i-preserved : goal.read_run-loop-i-preserved
read_run-loop-i-preserved types t c =
    let l = c.loop-i in
    let s = l.invariant.read in
    let k = c.in-Ok.ensures.read in
    record {
      path = c.in-Ok.ensures.path ∙ l.invariant.path;
      read = (
        s.0 ++ k.0 ∷ [],
        c.in-Ok-add_element.ensures.says s.0 k.0 s.1 k.1,
        length-append s.0 (k.0 ∷ []) ∙ ap (λ (n : ℕ). n + 1) s.2,
        λ place. run_next (root_of c.args.steps.now) place c.args.inside c.args.path.now l.path c.args.cur.now.origin (node_at c.args.steps.now c.args.this) s.0 k.0 (s.0 ++ k.0 ∷ []) (types.T.SlotTable.env c.args.slots.now) (types.T.SlotTable.env l.slots) (types.T.SlotTable.env c.read_child.new.slots) c.args.cur.now l.cur c.read_child.new.cur refl (s.3 place) k.2,
      );
    }

pub read_elements-loop-i-init : goal.read_elements-loop-i-init
read_elements-loop-i-init types t c =
    record {
      path = refl;
      read = ([], c.no_elements-elements.ensures, refl, λ place. no_run (root_of c.args.steps.now) (record { path = c.args.path.now; place = place; inside = c.args.inside }) c.args.cur.now.origin (node_at c.args.steps.now c.args.this) 0 (types.T.SlotTable.env c.args.slots.now) c.args.cur.now c.requires.fine);
    }

pub read_elements-loop-i-preserved : goal.read_elements-loop-i-preserved
read_elements-loop-i-preserved types t c =
    let l = c.loop-i in
    let s = l.invariant.read in
    let k = c.in-Ok-read_child.ensures.read in
    record {
      path = c.in-Ok-read_child.ensures.path ∙ l.invariant.path;
      read = (
        s.0 ++ k.0 ∷ [],
        c.in-Ok-add_element.ensures.says s.0 k.0 s.1 k.1,
        length-append s.0 (k.0 ∷ []) ∙ ap (λ (n : ℕ). n + 1) s.2,
        λ place. run_next (root_of c.args.steps.now) place c.args.inside c.args.path.now l.path c.args.cur.now.origin (node_at c.args.steps.now c.args.this) s.0 k.0 (s.0 ++ k.0 ∷ []) (types.T.SlotTable.env c.args.slots.now) (types.T.SlotTable.env l.slots) (types.T.SlotTable.env c.read_child.new.slots) c.args.cur.now l.cur c.read_child.new.cur refl (s.3 place) k.2,
      );
    }

pub read_ended-returns-in-Ok-clause-read : goal.read_ended-returns-in-Ok-clause-read
read_ended-returns-in-Ok-clause-read types t c =
    let r = c.in-Ok.ensures.read in
    (list_of (elements_of r.0), c.list.ensures r.0 r.1, ended_list (root_of c.args.steps.now) c.args.inside c.args.path.now c.args.sizing.now (node_at c.args.steps.now c.args.this) c.pattern_of.result.now r.0 (types.T.SlotTable.env c.args.slots.now) (types.T.SlotTable.env c.read_elements.new.slots) c.args.cur.now c.read_elements.new.cur c.pattern_of.ensures r.2)

pub read_ended-returns-in-Err-clause-fails : goal.read_ended-returns-in-Err-clause-fails
read_ended-returns-in-Err-clause-fails types t c =
    halts_map c.in-Err.stop _ _ _ _ (λ x. x) (λ q at s. ended_fails (root_of c.args.steps.now) (record { path = c.args.path.now; place = c.args.from; inside = c.args.inside }) c.args.sizing.now (node_at c.args.steps.now c.args.this) c.pattern_of.result.now (types.T.SlotTable.env c.args.slots.now) c.args.cur.now _ q at c.pattern_of.ensures s) c.in-Err.ensures.fails

pub read_elements-returns-in-Err-clause-fails : goal.read_elements-returns-in-Err-clause-fails
read_elements-returns-in-Err-clause-fails types t c =
    let l = c.loop-i in
    let less = c.loop-i-test.true in
    fault_map c.in-Err.stop _ _ _ c.in-Err.ensures.fault (λ q at s. end_stops_to (root_of c.args.steps.now) c.args.from c.args.inside c.args.path.now l.path c.args.cur.now.origin (node_at c.args.steps.now c.args.this) c.args.end.now c.args.sizing.now c.most_of-most.result _ l.i l.invariant.read.0 (types.T.SlotTable.env c.args.slots.now) (types.T.SlotTable.env l.slots) c.args.cur.now l.cur q at c.most_of-most.ensures.most l.invariant.path l.invariant.read.2 (omega (arith, less)) (l.invariant.read.3 c.args.from) s) c.in-Err.ensures.fails

pub read_elements-returns-in-Err-read_child-clause-fails : goal.read_elements-returns-in-Err-read_child-clause-fails
read_elements-returns-in-Err-read_child-clause-fails types t c =
    let l = c.loop-i in
    halts_map c.in-Err-read_child.stop _ _ _ _ (λ x. x) (λ q at s. next_fails_to (root_of c.args.steps.now) c.args.from c.args.inside c.args.path.now l.path c.args.cur.now.origin (node_at c.args.steps.now c.args.this) c.args.end.now c.args.sizing.now c.most_of-most.result _ l.i l.invariant.read.0 (types.T.SlotTable.env c.args.slots.now) (types.T.SlotTable.env l.slots) c.args.cur.now l.cur _ q at c.most_of-most.ensures.most (l.invariant.read.3 c.args.from).window l.invariant.read.2 c.loop-i-test.true l.invariant.path (c.stands.ensures.away c.if-stands.false) (l.invariant.read.3 c.args.from) s) c.in-Err-read_child.ensures.fails

pub read_elements-returns-in-Err-pass_end-clause-fails : goal.read_elements-returns-in-Err-pass_end-clause-fails
read_elements-returns-in-Err-pass_end-clause-fails types t c =
    let l = c.loop-i in
    let over = c.loop-i-test.false in
    let within = l.auto.i-end in
    let count : length l.invariant.read.0 ≡ c.most_of-most.result = (l.invariant.read.2 ∙ omega (arith, over, within)) in
    fault_map c.in-Err-pass_end.stop _ _ _ c.in-Err-pass_end.ensures.fault (λ q at s. end_stops_to (root_of c.args.steps.now) c.args.from c.args.inside c.args.path.now l.path c.args.cur.now.origin (node_at c.args.steps.now c.args.this) c.args.end.now c.args.sizing.now c.most_of-most.result _ c.most_of-most.result l.invariant.read.0 (types.T.SlotTable.env c.args.slots.now) (types.T.SlotTable.env l.slots) c.args.cur.now l.cur q at c.most_of-most.ensures.most l.invariant.path count (omega arith) (l.invariant.read.3 c.args.from) s) c.in-Err-pass_end.ensures.fails

pub read_elements-returns-else-stands-2-clause-fails : goal.read_elements-returns-else-stands-2-clause-fails
read_elements-returns-else-stands-2-clause-fails types t c =
    let l = c.loop-i in
    let over = c.loop-i-test.false in
    let within = l.auto.i-end in
    let count : length l.invariant.read.0 ≡ c.most_of-most.result = (l.invariant.read.2 ∙ omega (arith, over, within)) in
    fault_map c.no_end.result _ _ _ c.no_end.ensures.fault (λ q at s. none_stops_to (root_of c.args.steps.now) c.args.from c.args.inside c.args.path.now l.path c.args.cur.now.origin (node_at c.args.steps.now c.args.this) c.args.end.now c.args.sizing.now c.most_of-most.result _ l.invariant.read.0 (types.T.SlotTable.env c.args.slots.now) (types.T.SlotTable.env l.slots) c.args.cur.now l.cur q at c.most_of-most.ensures.most l.invariant.path count (l.invariant.read.3 c.args.from) s) c.no_end.ensures.fails

pub read_component-read_present-requires : goal.read_component-read_present-requires
read_component-read_present-requires types t c κs within =
    let r = c.requires.ready in
    (omega arith, (within.0, (within.1.0, (within.1.1.0, (within.1.1.1.0, (within.1.1.1.1, (c.requires.made, (c.requires.there, (c.requires.is, ((r.0, own_stands (root_of c.args.steps.now) (node_at c.args.steps.now c.args.this) c.args.presence.now c.args.slot r.1 (suc (length c.args.path.now)) r.0 (types.T.SlotTable.env c.args.slots.now) r.2 r.4), (c.requires.named, c.requires.fine)))))))))))

pub read_node-at-step-requires : goal.read_node-at-step-requires
read_node-at-step-requires types t c =
    c.requires.there

pub read_node-pad-requires : goal.read_node-pad-requires
read_node-pad-requires types t c =
    let r = c.requires.ready in node_align (root_of c.args.steps.now) (node_at c.args.steps.now c.args.this) c.at-step.result.now.align (form_at c.args.steps.now c.args.this c.at-step.result.now) (length c.args.path.now) r.0 r.1.known (node_is c.args.steps.now c.args.this c.at-step.result.now c.at-step.ensures) r.1.is

pub read_node-read_body-requires : goal.read_node-read_body-requires
read_node-read_body-requires types t c κs within =
    (omega arith, (within.0, (within.1.0, (within.1.1.0, (within.1.1.1.0, (within.1.1.1.1, (c.requires.made, (c.requires.there, (c.at-step.ensures, (body_ready (root_of c.args.steps.now) c.args.steps.now c.args.this c.at-step.result.now (length c.args.path.now) (types.T.SlotTable.env c.args.slots.now) c.at-step.ensures c.requires.ready, (body_named c.args.steps.now c.args.this c.at-step.result.now c.at-step.ensures c.requires.named, c.requires.fine)))))))))))

pub read_node-returns-in-Ok-clause-read : goal.read_node-returns-in-Ok-clause-read
read_node-returns-in-Ok-clause-read types t c =
    ok_map c.read_body.result _ _ (λ v f. (
      f.0,
      f.1,
      subst (λ (g : Grammar). NodeRead (root_of c.args.steps.now) g f.0 (types.T.SlotTable.env c.args.slots.now) (types.T.SlotTable.env c.read_body.new.slots) c.args.cur.now c.read_body.new.cur) (sym (node_is c.args.steps.now c.args.this c.at-step.result.now c.at-step.ensures))
          (node_read (root_of c.args.steps.now) c.at-step.result.now.align (form_at c.args.steps.now c.args.this c.at-step.result.now) f.0 (types.T.SlotTable.env c.args.slots.now) (types.T.SlotTable.env c.read_body.new.slots) c.args.cur.now c.pad.new.cur c.read_body.new.cur c.in-Ok.ensures.passed f.2),
    )) c.read_body.ensures.read

pub read_node-returns-in-Ok-clause-fails : goal.read_node-returns-in-Ok-clause-fails
read_node-returns-in-Ok-clause-fails types t c =
    stops_map c.read_body.result _ _ _ _ (λ x. x) (λ q at s. node_fails_at (root_of c.args.steps.now) (node_at c.args.steps.now c.args.this) c.at-step.result.now.align (form_at c.args.steps.now c.args.this c.at-step.result.now) c.args.inside c.args.path.now _ (types.T.SlotTable.env c.args.slots.now) c.args.cur.now c.pad.new.cur c.reach-from.result q at (node_is c.args.steps.now c.args.this c.at-step.result.now c.at-step.ensures) c.reach-from.ensures c.in-Ok.ensures.passed s) c.read_body.ensures.fails

pub read_node-returns-in-Err-clause-fails : goal.read_node-returns-in-Err-clause-fails
read_node-returns-in-Err-clause-fails types t c =
    node_short_at (root_of c.args.steps.now) (node_at c.args.steps.now c.args.this) c.at-step.result.now.align (form_at c.args.steps.now c.args.this c.at-step.result.now) c.args.inside c.args.path.now (types.T.SlotTable.env c.args.slots.now) c.args.cur.now _ c.reach-from.result (node_is c.args.steps.now c.args.this c.at-step.result.now c.at-step.ensures) c.reach-from.ensures c.named.ensures c.requires.fine c.in-Err.ensures.short

pub read_child-read_node-requires : goal.read_child-read_node-requires
read_child-read_node-requires types t c κs within =
    let r = c.requires.ready in
    (omega arith, (within.0, (within.1.0, (within.1.1.0, (within.1.1.1.0, (within.1.1.1.1, (c.requires.made, (c.requires.there, ((r.0, subst (λ (n : ℕ). NodeStands (root_of c.args.steps.now) n (node_at c.args.steps.now c.args.this) (types.T.SlotTable.env c.args.slots.now) r.0) (depth_is c.args.path.now c.push.new.self c.args.k c.push.ensures) (record { known = r.1.known; noted = r.1.noted; is = r.1.is })), (c.requires.named, c.requires.fine))))))))))

pub read_contained-read_child-requires : goal.read_contained-read_child-requires
read_contained-read_child-requires types t c κs within =
    (omega arith, (within.0, (within.1.0, (within.1.1.0, (within.1.1.1.0, (within.1.1.1.1, (c.requires.made, (c.requires.there, (inner_node (root_of c.args.steps.now) (node_at c.args.steps.now c.args.this) (suc (length c.args.path.now)) (types.T.SlotTable.env c.args.slots.now) (contained_inner (root_of c.args.steps.now) c.args.sizing.now (node_at c.args.steps.now c.args.this) (length c.args.path.now) (types.T.SlotTable.env c.args.slots.now) c.requires.ready), (c.requires.named, c.requires.fine))))))))))

pub read_list-read_run-requires : goal.read_list-read_run-requires
read_list-read_run-requires types t c κs within =
    (omega arith, (within.0, (within.1.0, (within.1.1.0, (within.1.1.1.0, (within.1.1.1.1, (c.requires.made, (c.requires.there, (c.in-Ok.ensures.few, (list_inner (root_of c.args.steps.now) c.args.sizing.now (node_at c.args.steps.now c.args.this) (length c.args.path.now) (types.T.SlotTable.env c.args.slots.now) c.requires.ready, (c.requires.named, c.requires.fine)))))))))))

pub read_run-read_child-requires : goal.read_run-read_child-requires
read_run-read_child-requires types t c κs within =
    let l = c.loop-i in
    let p = l.invariant.read.3 0 in (
      omega arith,
      (
        within.0,
        (
          within.1.0,
          (
            within.1.1.0,
            (
              within.1.1.1.0,
              (
                within.1.1.1.1,
                (
                  c.requires.made,
                  (
                    c.requires.there,
                    (
                      subst (λ (path : List ℕ). (around : List ℕ) × NodeStands (root_of c.args.steps.now) (suc (length path)) (node_at c.args.steps.now c.args.this) (types.T.SlotTable.env l.slots) around) (sym l.invariant.path)
                          (inner_node (root_of c.args.steps.now) (node_at c.args.steps.now c.args.this) (suc (length c.args.path.now)) (types.T.SlotTable.env l.slots) (run_stands (root_of c.args.steps.now) (record { path = c.args.path.now; place = 0; inside = c.args.inside }) c.args.cur.now.origin (node_at c.args.steps.now c.args.this) 0 (suc (length c.args.path.now)) l.invariant.read.0 (types.T.SlotTable.env c.args.slots.now) (types.T.SlotTable.env l.slots) c.args.cur.now l.cur p c.requires.ready)),
                      (c.requires.named, p.fine),
                    ),
                  ),
                ),
              ),
            ),
          ),
        ),
      ),
    )

pub read_body-read_list-requires : goal.read_body-read_list-requires
read_body-read_list-requires types t c κs within =
    let u = c.requires.there in
    let n = child_inside c.args.steps.now c.args.this c.args.step.now (acts.List c.in-List.sizing) (made_nested c.args.steps.now c.requires.made) c.requires.is c.in-List.is (λ x. x) in
    (omega (arith, u), (within.0, (within.1.0, (within.1.1.0, (within.1.1.1.0, (within.1.1.1.1, (c.requires.made, (n, (form_ready (root_of c.args.steps.now) (form_at c.args.steps.now c.args.this c.args.step.now) (list c.in-List.sizing (node_at c.args.steps.now (c.args.this + 1))) (length c.args.path.now) (types.T.SlotTable.env c.args.slots.now) (form_by c.args.steps.now c.args.this c.args.step.now (acts.List c.in-List.sizing) c.in-List.is) c.requires.ready, (subst FormItemsNamed (form_by c.args.steps.now c.args.this c.args.step.now (acts.List c.in-List.sizing) c.in-List.is) c.requires.named, c.requires.fine))))))))))

pub read_body-returns-in-List-clause-read : goal.read_body-returns-in-List-clause-read
read_body-returns-in-List-clause-read types t c =
    ok_map c.read_list.result _ _ (λ v f. (f.0, f.1, subst (λ (x : Form). FormRead (root_of c.args.steps.now) x f.0 (types.T.SlotTable.env c.args.slots.now) (types.T.SlotTable.env c.read_list.new.slots) c.args.cur.now c.read_list.new.cur) (sym (form_by c.args.steps.now c.args.this c.args.step.now (acts.List c.in-List.sizing) c.in-List.is)) f.2)) c.read_list.ensures.read

pub read_body-returns-in-List-clause-fails : goal.read_body-returns-in-List-clause-fails
read_body-returns-in-List-clause-fails types t c =
    stops_map c.read_list.result _ _ _ _ (λ x. x) (λ q at s. subst (λ (x : Form). FormStops (root_of c.args.steps.now) x (record { path = c.args.path.now; place = c.args.from; inside = c.args.inside }) c.args.cur.now.origin (types.T.SlotTable.env c.args.slots.now) c.args.cur.now c.read_list.new.path q at) (sym (form_by c.args.steps.now c.args.this c.args.step.now (acts.List c.in-List.sizing) c.in-List.is)) s) c.read_list.ensures.fails

pub read_body-read_contained-requires : goal.read_body-read_contained-requires
read_body-read_contained-requires types t c κs within =
    let u = c.requires.there in
    let n = child_inside c.args.steps.now c.args.this c.args.step.now (acts.Contained c.in-Contained.sizing) (made_nested c.args.steps.now c.requires.made) c.requires.is c.in-Contained.is (λ x. x) in
    (omega (arith, u), (within.0, (within.1.0, (within.1.1.0, (within.1.1.1.0, (within.1.1.1.1, (c.requires.made, (n, (form_ready (root_of c.args.steps.now) (form_at c.args.steps.now c.args.this c.args.step.now) (contained c.in-Contained.sizing (node_at c.args.steps.now (c.args.this + 1))) (length c.args.path.now) (types.T.SlotTable.env c.args.slots.now) (form_by c.args.steps.now c.args.this c.args.step.now (acts.Contained c.in-Contained.sizing) c.in-Contained.is) c.requires.ready, (subst FormItemsNamed (form_by c.args.steps.now c.args.this c.args.step.now (acts.Contained c.in-Contained.sizing) c.in-Contained.is) c.requires.named, c.requires.fine))))))))))

pub read_body-returns-in-Contained-clause-read : goal.read_body-returns-in-Contained-clause-read
read_body-returns-in-Contained-clause-read types t c =
    ok_map c.read_contained.result _ _ (λ v f. (f.0, f.1, subst (λ (x : Form). FormRead (root_of c.args.steps.now) x f.0 (types.T.SlotTable.env c.args.slots.now) (types.T.SlotTable.env c.read_contained.new.slots) c.args.cur.now c.read_contained.new.cur) (sym (form_by c.args.steps.now c.args.this c.args.step.now (acts.Contained c.in-Contained.sizing) c.in-Contained.is)) f.2)) c.read_contained.ensures.read

pub read_body-returns-in-Contained-clause-fails : goal.read_body-returns-in-Contained-clause-fails
read_body-returns-in-Contained-clause-fails types t c =
    stops_map c.read_contained.result _ _ _ _ (λ x. x) (λ q at s. subst (λ (x : Form). FormStops (root_of c.args.steps.now) x (record { path = c.args.path.now; place = c.args.from; inside = c.args.inside }) c.args.cur.now.origin (types.T.SlotTable.env c.args.slots.now) c.args.cur.now c.read_contained.new.path q at) (sym (form_by c.args.steps.now c.args.this c.args.step.now (acts.Contained c.in-Contained.sizing) c.in-Contained.is)) s) c.read_contained.ensures.fails

pub read_body-read_seq-requires : goal.read_body-read_seq-requires
read_body-read_seq-requires types t c κs within =
    let u = c.requires.there in
    (omega (arith, u), (within.0, (within.1.0, (within.1.1.0, (within.1.1.1.0, (within.1.1.1.1, (c.requires.made, ((made_nested c.args.steps.now c.requires.made c.args.this c.args.step.now c.requires.is).within, (form_ready (root_of c.args.steps.now) (form_at c.args.steps.now c.args.this c.args.step.now) (seq (fields_at c.args.steps.now (c.args.this + 1) c.args.step.now.next) c.items.result.now) (length c.args.path.now) (types.T.SlotTable.env c.args.slots.now) ((form_by c.args.steps.now c.args.this c.args.step.now (acts.Seq c.in-Seq.home) c.in-Seq.is) ∙ ap (seq (fields_at c.args.steps.now (c.args.this + 1) c.args.step.now.next)) (sym c.items.ensures)) c.requires.ready, (subst FormItemsNamed ((form_by c.args.steps.now c.args.this c.args.step.now (acts.Seq c.in-Seq.home) c.in-Seq.is) ∙ ap (seq (fields_at c.args.steps.now (c.args.this + 1) c.args.step.now.next)) (sym c.items.ensures)) c.requires.named, c.requires.fine))))))))))

pub read_body-returns-in-Seq-clause-read : goal.read_body-returns-in-Seq-clause-read
read_body-returns-in-Seq-clause-read types t c =
    ok_map c.read_seq.result _ _ (λ v f. (f.0, f.1, subst (λ (x : Form). FormRead (root_of c.args.steps.now) x f.0 (types.T.SlotTable.env c.args.slots.now) (types.T.SlotTable.env c.read_seq.new.slots) c.args.cur.now c.read_seq.new.cur) (sym ((form_by c.args.steps.now c.args.this c.args.step.now (acts.Seq c.in-Seq.home) c.in-Seq.is) ∙ ap (seq (fields_at c.args.steps.now (c.args.this + 1) c.args.step.now.next)) (sym c.items.ensures))) f.2)) c.read_seq.ensures.read

pub read_body-returns-in-Seq-clause-fails : goal.read_body-returns-in-Seq-clause-fails
read_body-returns-in-Seq-clause-fails types t c =
    stops_map c.read_seq.result _ _ _ _ (λ x. x) (λ q at s. subst (λ (x : Form). FormStops (root_of c.args.steps.now) x (record { path = c.args.path.now; place = c.args.from; inside = c.args.inside }) c.args.cur.now.origin (types.T.SlotTable.env c.args.slots.now) c.args.cur.now c.read_seq.new.path q at) (sym ((form_by c.args.steps.now c.args.this c.args.step.now (acts.Seq c.in-Seq.home) c.in-Seq.is) ∙ ap (seq (fields_at c.args.steps.now (c.args.this + 1) c.args.step.now.next)) (sym c.items.ensures))) s) c.read_seq.ensures.fails

pub read_body-read_leaf-requires : goal.read_body-read_leaf-requires
read_body-read_leaf-requires types t c =
    let r = form_ready (root_of c.args.steps.now) (form_at c.args.steps.now c.args.this c.args.step.now) (num c.in-Num.leaf) (length c.args.path.now) (types.T.SlotTable.env c.args.slots.now) (form_by c.args.steps.now c.args.this c.args.step.now (acts.Num c.in-Num.leaf) c.in-Num.is) c.requires.ready in
    record { fine = r.1.is; named = subst FormItemsNamed (form_by c.args.steps.now c.args.this c.args.step.now (acts.Num c.in-Num.leaf) c.in-Num.is) c.requires.named }

pub read_body-returns-in-Num-clause-read : goal.read_body-returns-in-Num-clause-read
read_body-returns-in-Num-clause-read types t c =
    ok_map c.read_leaf.result _ _ (λ v f. (f.0, f.1, subst (λ (x : Form). FormRead (root_of c.args.steps.now) x f.0 (types.T.SlotTable.env c.args.slots.now) (types.T.SlotTable.env c.args.slots.now) c.args.cur.now c.read_leaf.new.cur) (sym (form_by c.args.steps.now c.args.this c.args.step.now (acts.Num c.in-Num.leaf) c.in-Num.is)) (num_read (root_of c.args.steps.now) c.in-Num.leaf f.0 (types.T.SlotTable.env c.args.slots.now) c.args.cur.now c.read_leaf.new.cur c.requires.fine f.2))) c.read_leaf.ensures.read

pub read_body-returns-in-Num-clause-fails : goal.read_body-returns-in-Num-clause-fails
read_body-returns-in-Num-clause-fails types t c =
    stops_map c.read_leaf.result _ _ _ _ (λ x. absurd x) (λ q at s. subst (λ (x : Form). FormStops (root_of c.args.steps.now) x (record { path = c.args.path.now; place = c.args.from; inside = c.args.inside }) c.args.cur.now.origin (types.T.SlotTable.env c.args.slots.now) c.args.cur.now c.args.path.now q at) (sym (form_by c.args.steps.now c.args.this c.args.step.now (acts.Num c.in-Num.leaf) c.in-Num.is)) (num_fails (root_of c.args.steps.now) c.in-Num.leaf (record { path = c.args.path.now; place = c.args.from; inside = c.args.inside }) c.args.cur.now.origin (types.T.SlotTable.env c.args.slots.now) c.args.cur.now q at c.requires.fine s)) c.read_leaf.ensures.fails

pub read_seq-read_fields-requires : goal.read_seq-read_fields-requires
read_seq-read_fields-requires types t c κs within =
    (omega arith, (within.0, (within.1.0, (within.1.1.0, (within.1.1.1.0, (within.1.1.1.1, (c.requires.made, (c.requires.within, (flags_are (fields_at c.args.steps.now c.args.first c.args.end) c.counts_of-counts.result.bits c.args.cur.now c.in-Ok.window c.counts_of-counts.ensures c.in-Ok.ensures.within c.in-Ok.ensures.window, (fields_ready (root_of c.args.steps.now) (fields_at c.args.steps.now c.args.first c.args.end) c.args.home.now (length c.args.path.now) (types.T.SlotTable.env c.args.slots.now) c.requires.ready, (c.requires.named, (c.requires.fine, c.in-Ok-no_places.ensures.says))))))))))))

pub read_seq-returns-in-Err-read_fields-clause-fails : goal.read_seq-returns-in-Err-read_fields-clause-fails
read_seq-returns-in-Err-read_fields-clause-fails types t c =
    halts_map c.in-Err-read_fields.stop _ _ _ _ (λ x. x) (λ q at s. seq_fails_at (root_of c.args.steps.now) (record { path = c.args.path.now; place = c.args.from; inside = c.args.inside }) (length c.args.path.now) (fields_at c.args.steps.now c.args.first c.args.end) c.args.home.now (types.T.SlotTable.env c.args.slots.now) c.args.cur.now c.window.new.self c.in-Ok.window c.counts_of-counts.result.bits _ q at
    c.counts_of-counts.ensures c.in-Ok.ensures.within c.in-Ok.ensures.window c.in-Ok.ensures.moved c.requires.ready (s c.args.from)) c.in-Err-read_fields.ensures.fails

pub read_seq-returns-in-Err-clause-fails : goal.read_seq-returns-in-Err-clause-fails
read_seq-returns-in-Err-clause-fails types t c =
    seq_short_at (root_of c.args.steps.now) (record { path = c.args.path.now; place = c.args.from; inside = c.args.inside }) (fields_at c.args.steps.now c.args.first c.args.end) c.args.home.now (types.T.SlotTable.env c.args.slots.now) c.args.cur.now c.counts_of-counts.result.bits _ c.counts_of-counts.ensures c.named.ensures c.requires.fine c.in-Err.ensures.short

pub read_fields-loop-this-init : goal.read_fields-loop-this-init
read_fields-loop-this-init types t c =
    record {
      from = omega arith;
      few = omega arith;
      path = refl;
      named = c.requires.named;
      read = ([], c.requires.none, λ place. no_turn (root_of c.args.steps.now) (record { path = c.args.path.now; place = place; inside = c.args.inside }) c.args.cur.now.origin 0 (fields_at c.args.steps.now c.args.first c.args.end) (types.T.SlotTable.env c.args.slots.now) c.args.flags.now.rest c.args.cur.now c.requires.fine);
    }

pub read_fields-at-step-requires : goal.read_fields-at-step-requires
read_fields-at-step-requires types t c =
    let l = c.loop-this in
    let a = c.loop-this-test.true in let b = c.requires.within in omega (arith, a, b)

pub read_fields-read_field-requires : goal.read_fields-read_field-requires
read_fields-read_field-requires types t c κs within =
    let l = c.loop-this in
    let from = fields_more c.args.steps.now l.this c.args.end c.at-step.result.now c.at-step.ensures c.loop-this-test.true (made_nested c.args.steps.now c.requires.made l.this c.at-step.result.now c.at-step.ensures).behind in
    let p = l.invariant.read.2 0 in
    let a = c.loop-this-test.true in
    let b = c.requires.within in
    let e = l.invariant.from in
    let r = c.requires.ready in
    let q = next_field_ready (root_of c.args.steps.now) (record { path = c.args.path.now; place = 0; inside = c.args.inside }) c.args.cur.now.origin l.k (suc (length c.args.path.now)) (fields_at c.args.steps.now c.args.first c.args.end) (fields_at c.args.steps.now l.this c.args.end) (fields_at c.args.steps.now c.at-step.result.now.next c.args.end) (field_by c.at-step.result.now.place (node_at c.args.steps.now l.this)) l.invariant.read.0 (types.T.SlotTable.env c.args.slots.now) (types.T.SlotTable.env l.slots) c.args.flags.now.rest l.flags.rest c.args.cur.now l.cur from p c.requires.bits r in (
      omega (arith, a, b, e),
      (
        within.0,
        (
          within.1.0,
          (
            within.1.1.0,
            (
              within.1.1.1.0,
              (
                within.1.1.1.1,
                (
                  c.requires.made,
                  (
                    omega (arith, a, b),
                    (
                      c.at-step.ensures,
                      (
                        subst (λ (path : List ℕ). (around : List ℕ) × (fs : Fields) × FieldsStand (root_of c.args.steps.now) (suc (length path)) (with_field (field_by c.at-step.result.now.place (node_at c.args.steps.now l.this)) fs) (types.T.SlotTable.env l.slots) around × (presence_count (with_field (field_by c.at-step.result.now.place (node_at c.args.steps.now l.this)) fs) ≡ length l.flags.rest) × (length around ≤ MOST_OPEN_SLOTS)) (sym l.invariant.path) q,
                        ((field_named c.at-step.result.now.place (node_at c.args.steps.now l.this) (fields_at c.args.steps.now c.at-step.result.now.next c.args.end) (subst FieldsItemsNamed from l.invariant.named)).0, p.fine),
                      ),
                    ),
                  ),
                ),
              ),
            ),
          ),
        ),
      ),
    )

pub read_fields-returns-in-Err-clause-fails : goal.read_fields-returns-in-Err-clause-fails
read_fields-returns-in-Err-clause-fails types t c =
    let l = c.loop-this in
    let from = fields_more c.args.steps.now l.this c.args.end c.at-step.result.now c.at-step.ensures c.loop-this-test.true (made_nested c.args.steps.now c.requires.made l.this c.at-step.result.now c.at-step.ensures).behind in
    halts_map c.in-Err.stop _ _ _ _ (λ x. x) (λ q at s place. next_stops (root_of c.args.steps.now) place c.args.inside c.args.path.now l.path _ l.k (fields_at c.args.steps.now c.args.first c.args.end) (fields_at c.args.steps.now l.this c.args.end) (fields_at c.args.steps.now c.at-step.result.now.next c.args.end) (field_by c.at-step.result.now.place (node_at c.args.steps.now l.this)) l.invariant.read.0 (types.T.SlotTable.env c.args.slots.now) (types.T.SlotTable.env l.slots) c.args.flags.now.rest l.flags.rest c.args.cur.now l.cur q at from l.invariant.path (l.invariant.read.2 place) s) c.in-Err.ensures.fails

pub read_fields-loop-this-preserved : goal.read_fields-loop-this-preserved
read_fields-loop-this-preserved types t c =
    let l = c.loop-this in
    let from = fields_more c.args.steps.now l.this c.args.end c.at-step.result.now c.at-step.ensures c.loop-this-test.true (made_nested c.args.steps.now c.requires.made l.this c.at-step.result.now c.at-step.ensures).behind in
    let d = c.in-Ok.ensures.read in
    let up = (made_nested c.args.steps.now c.requires.made l.this c.at-step.result.now c.at-step.ensures).behind in
    let e = l.invariant.from in
    let f = l.invariant.few in
    record {
      from = omega (arith, up, e);
      few = omega (arith, up, f);
      path = c.in-Ok.ensures.path ∙ l.invariant.path;
      named = (field_named c.at-step.result.now.place (node_at c.args.steps.now l.this) (fields_at c.args.steps.now c.at-step.result.now.next c.args.end) (subst FieldsItemsNamed from l.invariant.named)).1;
      read = (
        l.invariant.read.0 ++ d.0,
        d.1 l.invariant.read.0 l.invariant.read.1,
        λ place. next_turn (root_of c.args.steps.now) place c.args.inside c.args.path.now l.path c.args.cur.now.origin l.k (fields_at c.args.steps.now c.args.first c.args.end) (fields_at c.args.steps.now l.this c.args.end) (fields_at c.args.steps.now c.at-step.result.now.next c.args.end) (field_by c.at-step.result.now.place (node_at c.args.steps.now l.this)) l.invariant.read.0 d.0 (types.T.SlotTable.env c.args.slots.now) (types.T.SlotTable.env l.slots) (types.T.SlotTable.env c.read_field.new.slots) c.args.flags.now.rest l.flags.rest c.read_field.new.flags.rest c.args.cur.now l.cur c.read_field.new.cur from l.invariant.path (l.invariant.read.2 place) d.2,
      );
    }

pub read_fields-loop-this-smaller : goal.read_fields-loop-this-smaller
read_fields-loop-this-smaller types t c =
    let l = c.loop-this in
    let up = (made_nested c.args.steps.now c.requires.made l.this c.at-step.result.now c.at-step.ensures).behind in let a = c.loop-this-test.true in omega (arith, up, a)

pub read_fields-overflow_add-k : goal.read_fields-overflow_add-k
read_fields-overflow_add-k types t c =
    let l = c.loop-this in
    let f = l.invariant.few in let a = c.loop-this-test.true in let b = c.requires.within in let e = c.requires.made.few in omega (arith, f, a, b, e)

pub read_fields-returns-clause-read : goal.read_fields-returns-clause-read
read_fields-returns-clause-read types t c =
    let l = c.loop-this in
    let none = fields_none c.args.steps.now l.this c.args.end (let o = c.loop-this-test.false in omega (arith, o)) in
    let s = l.invariant.read in
    (s.0, s.1, l.k, λ place. subst (λ (x : Fields). Turn (root_of c.args.steps.now) (record { path = c.args.path.now; place = place; inside = c.args.inside }) c.args.cur.now.origin 0 l.k (fields_at c.args.steps.now c.args.first c.args.end) x s.0 (types.T.SlotTable.env c.args.slots.now) (types.T.SlotTable.env l.slots) c.args.flags.now.rest l.flags.rest c.args.cur.now l.cur) none (s.2 place))

pub read_fields-returns-clause-path : goal.read_fields-returns-clause-path
read_fields-returns-clause-path types t c =
    c.loop-this.invariant.path

pub read_field-read_component-requires : goal.read_field-read_component-requires
read_field-read_component-requires types t c κs within =
    let m = c.in-Component in
    let r = c.requires.ready in
    (omega arith, (within.0, (within.1.0, (within.1.1.0, (within.1.1.1.0, (within.1.1.1.1, (c.requires.made, (c.requires.there, (c.requires.is, (component_ready (root_of c.args.steps.now) c.args.step.now.place m.name (node_at c.args.steps.now c.args.this) m.presence m.default m.slot (suc (length c.args.path.now)) (types.T.SlotTable.env c.args.slots.now) (length c.args.flags.now.rest) m.is r, (c.requires.named, c.requires.fine)))))))))))

pub read_field-read_inserted-requires : goal.read_field-read_inserted-requires
read_field-read_inserted-requires types t c =
    let m = c.in-Inserted in
    let r = c.requires.ready in
    record { is = c.requires.is; ready = inserted_ready (root_of c.args.steps.now) c.args.step.now.place m.name (node_at c.args.steps.now c.args.this) m.slot (suc (length c.args.path.now)) (types.T.SlotTable.env c.args.slots.now) (length c.args.flags.now.rest) (ap (λ p. field_by p (node_at c.args.steps.now c.args.this)) m.is) r; named = c.requires.named; fine = c.requires.fine }

pub read_field-returns-in-Inserted-clause-read : goal.read_field-returns-in-Inserted-clause-read
read_field-returns-in-Inserted-clause-read types t c =
    let m = c.in-Inserted in
    on_ok_map c.read_inserted.result (λ p. ([], (λ before said. subst (λ (ds : List (Option Data)). types.K.Keep.places_say c.args.places.now ds) (sym (append-nil before)) said), λ place fs. subst (λ (f : OneField). Turn (root_of c.args.steps.now) (record { path = c.args.path.now; place = place; inside = c.args.inside }) c.args.cur.now.origin c.args.k (suc c.args.k) (with_field f fs) fs [] (types.T.SlotTable.env c.args.slots.now) (types.T.SlotTable.env c.read_inserted.new.slots) c.args.flags.now.rest c.args.flags.now.rest c.args.cur.now c.read_inserted.new.cur) (sym (ap (λ p. field_by p (node_at c.args.steps.now c.args.this)) m.is)) (p place m.name fs c.args.flags.now.rest))) c.read_inserted.ensures.read

pub read_field-returns-in-Inserted-clause-fails : goal.read_field-returns-in-Inserted-clause-fails
read_field-returns-in-Inserted-clause-fails types t c =
    let m = c.in-Inserted in
    stops_map c.read_inserted.result _ _ _ _ (λ x. inr x) (λ q at s place fs. subst (λ (f : OneField). FieldsStop (root_of c.args.steps.now) (with_field f fs) c.args.flags.now.rest (record { path = c.args.path.now; place = place; inside = c.args.inside }) c.args.cur.now.origin c.args.k (types.T.SlotTable.env c.args.slots.now) c.args.cur.now c.read_inserted.new.path q at) (sym (ap (λ p. field_by p (node_at c.args.steps.now c.args.this)) m.is)) (s place m.name fs c.args.flags.now.rest)) c.read_inserted.ensures.fails

pub read_field-read_inserted-requires-in-Root : goal.read_field-read_inserted-requires-in-Root
read_field-read_inserted-requires-in-Root types t c =
    let m = c.in-Root in
    let r = c.requires.ready in
    record { is = c.requires.is; ready = inserted_ready (root_of c.args.steps.now) c.args.step.now.place [] (node_at c.args.steps.now c.args.this) None (suc (length c.args.path.now)) (types.T.SlotTable.env c.args.slots.now) (length c.args.flags.now.rest) (ap (λ p. field_by p (node_at c.args.steps.now c.args.this)) m.is) r; named = c.requires.named; fine = c.requires.fine }

pub read_field-returns-in-Root-clause-read : goal.read_field-returns-in-Root-clause-read
read_field-returns-in-Root-clause-read types t c =
    let m = c.in-Root in
    on_ok_map c.read_inserted-in-Root.result (λ p. ([], (λ before said. subst (λ (ds : List (Option Data)). types.K.Keep.places_say c.args.places.now ds) (sym (append-nil before)) said), λ place fs. subst (λ (f : OneField). Turn (root_of c.args.steps.now) (record { path = c.args.path.now; place = place; inside = c.args.inside }) c.args.cur.now.origin c.args.k (suc c.args.k) (with_field f fs) fs [] (types.T.SlotTable.env c.args.slots.now) (types.T.SlotTable.env c.read_inserted-in-Root.new.slots) c.args.flags.now.rest c.args.flags.now.rest c.args.cur.now c.read_inserted-in-Root.new.cur) (sym (ap (λ p. field_by p (node_at c.args.steps.now c.args.this)) m.is)) (p place [] fs c.args.flags.now.rest))) c.read_inserted-in-Root.ensures.read

pub read_field-returns-in-Root-clause-fails : goal.read_field-returns-in-Root-clause-fails
read_field-returns-in-Root-clause-fails types t c =
    let m = c.in-Root in
    stops_map c.read_inserted-in-Root.result _ _ _ _ (λ x. inr x) (λ q at s place fs. subst (λ (f : OneField). FieldsStop (root_of c.args.steps.now) (with_field f fs) c.args.flags.now.rest (record { path = c.args.path.now; place = place; inside = c.args.inside }) c.args.cur.now.origin c.args.k (types.T.SlotTable.env c.args.slots.now) c.args.cur.now c.read_inserted-in-Root.new.path q at) (sym (ap (λ p. field_by p (node_at c.args.steps.now c.args.this)) m.is)) (s place [] fs c.args.flags.now.rest)) c.read_inserted-in-Root.ensures.fails

pub read_field-read_inserted-requires-in-Alternative : goal.read_field-read_inserted-requires-in-Alternative
read_field-read_inserted-requires-in-Alternative types t c =
    let m = c.in-Alternative in
    let r = c.requires.ready in
    record { is = c.requires.is; ready = inserted_ready (root_of c.args.steps.now) c.args.step.now.place [] (node_at c.args.steps.now c.args.this) None (suc (length c.args.path.now)) (types.T.SlotTable.env c.args.slots.now) (length c.args.flags.now.rest) (ap (λ p. field_by p (node_at c.args.steps.now c.args.this)) m.is) r; named = c.requires.named; fine = c.requires.fine }

pub read_field-returns-in-Alternative-clause-read : goal.read_field-returns-in-Alternative-clause-read
read_field-returns-in-Alternative-clause-read types t c =
    let m = c.in-Alternative in
    on_ok_map c.read_inserted-in-Alternative.result (λ p. ([], (λ before said. subst (λ (ds : List (Option Data)). types.K.Keep.places_say c.args.places.now ds) (sym (append-nil before)) said), λ place fs. subst (λ (f : OneField). Turn (root_of c.args.steps.now) (record { path = c.args.path.now; place = place; inside = c.args.inside }) c.args.cur.now.origin c.args.k (suc c.args.k) (with_field f fs) fs [] (types.T.SlotTable.env c.args.slots.now) (types.T.SlotTable.env c.read_inserted-in-Alternative.new.slots) c.args.flags.now.rest c.args.flags.now.rest c.args.cur.now c.read_inserted-in-Alternative.new.cur) (sym (ap (λ p. field_by p (node_at c.args.steps.now c.args.this)) m.is)) (p place [] fs c.args.flags.now.rest))) c.read_inserted-in-Alternative.ensures.read

pub read_field-returns-in-Alternative-clause-fails : goal.read_field-returns-in-Alternative-clause-fails
read_field-returns-in-Alternative-clause-fails types t c =
    let m = c.in-Alternative in
    stops_map c.read_inserted-in-Alternative.result _ _ _ _ (λ x. inr x) (λ q at s place fs. subst (λ (f : OneField). FieldsStop (root_of c.args.steps.now) (with_field f fs) c.args.flags.now.rest (record { path = c.args.path.now; place = place; inside = c.args.inside }) c.args.cur.now.origin c.args.k (types.T.SlotTable.env c.args.slots.now) c.args.cur.now c.read_inserted-in-Alternative.new.path q at) (sym (ap (λ p. field_by p (node_at c.args.steps.now c.args.this)) m.is)) (s place [] fs c.args.flags.now.rest)) c.read_inserted-in-Alternative.ensures.fails

pub read_field-read_inserted-requires-in-Element : goal.read_field-read_inserted-requires-in-Element
read_field-read_inserted-requires-in-Element types t c =
    let m = c.in-Element in
    let r = c.requires.ready in
    record { is = c.requires.is; ready = inserted_ready (root_of c.args.steps.now) c.args.step.now.place [] (node_at c.args.steps.now c.args.this) None (suc (length c.args.path.now)) (types.T.SlotTable.env c.args.slots.now) (length c.args.flags.now.rest) (ap (λ p. field_by p (node_at c.args.steps.now c.args.this)) m.is) r; named = c.requires.named; fine = c.requires.fine }

pub read_field-returns-in-Element-clause-read : goal.read_field-returns-in-Element-clause-read
read_field-returns-in-Element-clause-read types t c =
    let m = c.in-Element in
    on_ok_map c.read_inserted-in-Element.result (λ p. ([], (λ before said. subst (λ (ds : List (Option Data)). types.K.Keep.places_say c.args.places.now ds) (sym (append-nil before)) said), λ place fs. subst (λ (f : OneField). Turn (root_of c.args.steps.now) (record { path = c.args.path.now; place = place; inside = c.args.inside }) c.args.cur.now.origin c.args.k (suc c.args.k) (with_field f fs) fs [] (types.T.SlotTable.env c.args.slots.now) (types.T.SlotTable.env c.read_inserted-in-Element.new.slots) c.args.flags.now.rest c.args.flags.now.rest c.args.cur.now c.read_inserted-in-Element.new.cur) (sym (ap (λ p. field_by p (node_at c.args.steps.now c.args.this)) m.is)) (p place [] fs c.args.flags.now.rest))) c.read_inserted-in-Element.ensures.read

pub read_field-returns-in-Element-clause-fails : goal.read_field-returns-in-Element-clause-fails
read_field-returns-in-Element-clause-fails types t c =
    let m = c.in-Element in
    stops_map c.read_inserted-in-Element.result _ _ _ _ (λ x. inr x) (λ q at s place fs. subst (λ (f : OneField). FieldsStop (root_of c.args.steps.now) (with_field f fs) c.args.flags.now.rest (record { path = c.args.path.now; place = place; inside = c.args.inside }) c.args.cur.now.origin c.args.k (types.T.SlotTable.env c.args.slots.now) c.args.cur.now c.read_inserted-in-Element.new.path q at) (sym (ap (λ p. field_by p (node_at c.args.steps.now c.args.this)) m.is)) (s place [] fs c.args.flags.now.rest)) c.read_inserted-in-Element.ensures.fails

pub read_field-read_inserted-requires-in-Content : goal.read_field-read_inserted-requires-in-Content
read_field-read_inserted-requires-in-Content types t c =
    let m = c.in-Content in
    let r = c.requires.ready in
    record { is = c.requires.is; ready = inserted_ready (root_of c.args.steps.now) c.args.step.now.place [] (node_at c.args.steps.now c.args.this) None (suc (length c.args.path.now)) (types.T.SlotTable.env c.args.slots.now) (length c.args.flags.now.rest) (ap (λ p. field_by p (node_at c.args.steps.now c.args.this)) m.is) r; named = c.requires.named; fine = c.requires.fine }

pub read_field-returns-in-Content-clause-read : goal.read_field-returns-in-Content-clause-read
read_field-returns-in-Content-clause-read types t c =
    let m = c.in-Content in
    on_ok_map c.read_inserted-in-Content.result (λ p. ([], (λ before said. subst (λ (ds : List (Option Data)). types.K.Keep.places_say c.args.places.now ds) (sym (append-nil before)) said), λ place fs. subst (λ (f : OneField). Turn (root_of c.args.steps.now) (record { path = c.args.path.now; place = place; inside = c.args.inside }) c.args.cur.now.origin c.args.k (suc c.args.k) (with_field f fs) fs [] (types.T.SlotTable.env c.args.slots.now) (types.T.SlotTable.env c.read_inserted-in-Content.new.slots) c.args.flags.now.rest c.args.flags.now.rest c.args.cur.now c.read_inserted-in-Content.new.cur) (sym (ap (λ p. field_by p (node_at c.args.steps.now c.args.this)) m.is)) (p place [] fs c.args.flags.now.rest))) c.read_inserted-in-Content.ensures.read

pub read_field-returns-in-Content-clause-fails : goal.read_field-returns-in-Content-clause-fails
read_field-returns-in-Content-clause-fails types t c =
    let m = c.in-Content in
    stops_map c.read_inserted-in-Content.result _ _ _ _ (λ x. inr x) (λ q at s place fs. subst (λ (f : OneField). FieldsStop (root_of c.args.steps.now) (with_field f fs) c.args.flags.now.rest (record { path = c.args.path.now; place = place; inside = c.args.inside }) c.args.cur.now.origin c.args.k (types.T.SlotTable.env c.args.slots.now) c.args.cur.now c.read_inserted-in-Content.new.path q at) (sym (ap (λ p. field_by p (node_at c.args.steps.now c.args.this)) m.is)) (s place [] fs c.args.flags.now.rest)) c.read_inserted-in-Content.ensures.fails

pub read_choice-pick-requires : goal.read_choice-pick-requires
read_choice-pick-requires types t c =
    let r = c.requires.ready in
    record {
      made = c.requires.made;
      within = c.requires.within;
      row = c.requires.row;
      few = r.1.is.1;
      items = c.requires.items;
      known = subst (RuleKnown c.args.cases.now.rule (cases_at c.args.steps.now c.args.first c.args.end)) (sym c.items.ensures) (choice_known (root_of c.args.steps.now) (cases_at c.args.steps.now c.args.first c.args.end) c.args.cases.now.rule (length c.args.path.now) (types.T.SlotTable.env c.args.slots.now) r.0 c.requires.fine r.1);
      fits = index_fits (cases_at c.args.steps.now c.args.first c.args.end) c.args.cases.now.rule r.1.is.0 r.1.is.1;
    }

pub read_choice-case_of-this-requires : goal.read_choice-case_of-this-requires
read_choice-case_of-this-requires types t c =
    let counted = ap length (c.items-in-Ok.ensures ∙ c.requires.row) ∙ cases_counted c.args.steps.now (made_nested c.args.steps.now c.requires.made) c.args.end c.requires.within c.args.first in
    let there = c.in-Ok.ensures.picked.there in
    omega (arith, there, counted)

pub read_choice-read_child-requires : goal.read_choice-read_child-requires
read_choice-read_child-requires types t c κs within =
    let r = c.requires.ready in
    let w = c.case_of-this.ensures c.args.steps.now c.args.first c.args.end c.requires.made c.requires.within (c.items-in-Ok.ensures ∙ c.requires.row) in
    let a = w.from in
    let b = w.inside in
    (omega (arith, a, b), (within.0, (within.1.0, (within.1.1.0, (within.1.1.1.0, (within.1.1.1.1, (c.requires.made, (w.inside, ((r.0, record { known = r.1.known; noted = r.1.noted; is = (case_sound (root_of c.args.steps.now) (suc (length c.args.path.now)) r.0 r.1.known (cases_at c.args.steps.now c.args.first c.args.end) c.in-Ok.i (node_at c.args.steps.now c.case_of-this.result) w.is r.1.is.3).1 }), (case_named (cases_at c.args.steps.now c.args.first c.args.end) c.in-Ok.i (node_at c.args.steps.now c.case_of-this.result) w.is c.requires.named, c.requires.fine))))))))))

pub read_choice-returns-in-Err-read_child-clause-fails : goal.read_choice-returns-in-Err-read_child-clause-fails
read_choice-returns-in-Err-read_child-clause-fails types t c =
    halts_map c.in-Err-read_child.stop _ _ _ _ (λ x. x) (λ q at s. choice_fails (root_of c.args.steps.now) (record { path = c.args.path.now; place = c.args.from; inside = c.args.inside }) (cases_at c.args.steps.now c.args.first c.args.end) c.args.cases.now.rule c.in-Ok.i (node_at c.args.steps.now c.case_of-this.result) (types.T.SlotTable.env c.args.slots.now) c.args.cur.now c.pick.new.cur _ q at (c.case_of-this.ensures c.args.steps.now c.args.first c.args.end c.requires.made c.requires.within (c.items-in-Ok.ensures ∙ c.requires.row)).is (subst (λ (x : Env). Picked (root_of c.args.steps.now) (cases_at c.args.steps.now c.args.first c.args.end) c.args.cases.now.rule x c.args.cur.now c.pick.new.cur c.in-Ok.i) c.items.ensures c.in-Ok.ensures.picked) s) c.in-Err-read_child.ensures.fails

pub read_choice-returns-in-Err-clause-fails : goal.read_choice-returns-in-Err-clause-fails
read_choice-returns-in-Err-clause-fails types t c =
    halts_map c.in-Err.stop _ _ _ _ (λ x. absurd x) (λ q at s. choice_none (root_of c.args.steps.now) (record { path = c.args.path.now; place = c.args.from; inside = c.args.inside }) (cases_at c.args.steps.now c.args.first c.args.end) c.args.cases.now.rule (types.T.SlotTable.env c.args.slots.now) c.args.cur.now q at c.requires.fine (subst (λ (x : Env). Named c.args.inside c.args.from (NoCase (root_of c.args.steps.now) (cases_at c.args.steps.now c.args.first c.args.end) c.args.cases.now.rule x c.args.cur.now) q at) c.items.ensures s)) c.in-Err.ensures.fails

pub read_body-read_choice-requires : goal.read_body-read_choice-requires
read_body-read_choice-requires types t c κs within =
    let u = c.requires.there in
    (omega (arith, u), (within.0, (within.1.0, (within.1.1.0, (within.1.1.1.0, (within.1.1.1.1, (c.requires.made, ((made_nested c.args.steps.now c.requires.made c.args.this c.args.step.now c.requires.is).within, (made_listed c.args.steps.now c.requires.made c.args.this c.args.step.now c.in-Choice.cases c.requires.is c.in-Choice.is, ((λ s e. made_itemed c.args.steps.now c.requires.made c.args.this c.args.step.now c.in-Choice.cases s c.requires.is c.in-Choice.is e), (form_ready (root_of c.args.steps.now) (form_at c.args.steps.now c.args.this c.args.step.now) (choice (cases_at c.args.steps.now (c.args.this + 1) c.args.step.now.next) c.in-Choice.cases.rule) (length c.args.path.now) (types.T.SlotTable.env c.args.slots.now) (form_by c.args.steps.now c.args.this c.args.step.now (acts.Choice c.in-Choice.cases) c.in-Choice.is) c.requires.ready, (subst FormItemsNamed (form_by c.args.steps.now c.args.this c.args.step.now (acts.Choice c.in-Choice.cases) c.in-Choice.is) c.requires.named, c.requires.fine))))))))))))

pub read_body-returns-in-Choice-clause-read : goal.read_body-returns-in-Choice-clause-read
read_body-returns-in-Choice-clause-read types t c =
    ok_map c.read_choice.result _ _ (λ v f. (f.0, f.1, subst (λ (x : Form). FormRead (root_of c.args.steps.now) x f.0 (types.T.SlotTable.env c.args.slots.now) (types.T.SlotTable.env c.read_choice.new.slots) c.args.cur.now c.read_choice.new.cur) (sym (form_by c.args.steps.now c.args.this c.args.step.now (acts.Choice c.in-Choice.cases) c.in-Choice.is)) f.2)) c.read_choice.ensures.read

pub read_body-returns-in-Choice-clause-fails : goal.read_body-returns-in-Choice-clause-fails
read_body-returns-in-Choice-clause-fails types t c =
    stops_map c.read_choice.result _ _ _ _ (λ x. x) (λ q at s. subst (λ (x : Form). FormStops (root_of c.args.steps.now) x (record { path = c.args.path.now; place = c.args.from; inside = c.args.inside }) c.args.cur.now.origin (types.T.SlotTable.env c.args.slots.now) c.args.cur.now c.read_choice.new.path q at) (sym (form_by c.args.steps.now c.args.this c.args.step.now (acts.Choice c.in-Choice.cases) c.in-Choice.is)) s) c.read_choice.ensures.fails

pub read_ended-read_elements-requires : goal.read_ended-read_elements-requires
read_ended-read_elements-requires types t c κs within =
    (omega arith, (within.0, (within.1.0, (within.1.1.0, (within.1.1.1.0, (within.1.1.1.1, (c.requires.made, (c.requires.there, (list_inner (root_of c.args.steps.now) c.args.sizing.now (node_at c.args.steps.now c.args.this) (length c.args.path.now) (types.T.SlotTable.env c.args.slots.now) c.requires.ready, (c.requires.named, c.requires.fine))))))))))

pub read_elements-read_child-requires : goal.read_elements-read_child-requires
read_elements-read_child-requires types t c κs within =
    let l = c.loop-i in
    let p = l.invariant.read.3 0 in (
      omega arith,
      (
        within.0,
        (
          within.1.0,
          (
            within.1.1.0,
            (
              within.1.1.1.0,
              (
                within.1.1.1.1,
                (
                  c.requires.made,
                  (
                    c.requires.there,
                    (
                      subst (λ (path : List ℕ). (around : List ℕ) × NodeStands (root_of c.args.steps.now) (suc (length path)) (node_at c.args.steps.now c.args.this) (types.T.SlotTable.env l.slots) around) (sym l.invariant.path)
                          (inner_node (root_of c.args.steps.now) (node_at c.args.steps.now c.args.this) (suc (length c.args.path.now)) (types.T.SlotTable.env l.slots) (run_stands (root_of c.args.steps.now) (record { path = c.args.path.now; place = 0; inside = c.args.inside }) c.args.cur.now.origin (node_at c.args.steps.now c.args.this) 0 (suc (length c.args.path.now)) l.invariant.read.0 (types.T.SlotTable.env c.args.slots.now) (types.T.SlotTable.env l.slots) c.args.cur.now l.cur p c.requires.ready)),
                      (c.requires.named, p.fine),
                    ),
                  ),
                ),
              ),
            ),
          ),
        ),
      ),
    )

pub read_list-read_ended-requires : goal.read_list-read_ended-requires
read_list-read_ended-requires types t c κs within =
    (omega arith, (within.0, (within.1.0, (within.1.1.0, (within.1.1.1.0, (within.1.1.1.1, (c.requires.made, (c.requires.there, (c.is_ended.ensures.ended c.if-is_ended.true, (c.requires.ready, (c.requires.named, c.requires.fine)))))))))))

pub read_component-returns-in-Ok-add_component-clause-read : goal.read_component-returns-in-Ok-add_component-clause-read
read_component-returns-in-Ok-add_component-clause-read types t c =
    let r = c.requires.ready in
    let k = c.in-Ok.ensures.read in
    let yes' : there_now c.args.presence.now (types.T.SlotTable.env c.args.slots.now) c.args.flags.now.rest ≡ true = ap (λ x. there_now c.args.presence.now x c.args.flags.now.rest) (sym c.items.ensures) ∙ (sym c.is_there.ensures.there ∙ c.if-is_there.true) in (
      Some k.0,
      (λ before said. c.in-Ok-add_component.ensures.says before k.0 said k.1),
      λ place name default fs. subst (λ (x : Env). Turn (root_of c.args.steps.now) (record { path = c.args.path.now; place = place; inside = c.args.inside }) c.args.cur.now.origin c.args.k (suc c.args.k) (component name (node_at c.args.steps.now c.args.this) c.args.presence.now default c.args.slot fs) fs (Some k.0 ∷ []) (types.T.SlotTable.env c.args.slots.now) x c.args.flags.now.rest c.is_there.new.flags.rest c.args.cur.now c.read_present.new.cur) (sym k.3)
          (component_read (root_of c.args.steps.now) (record { path = c.args.path.now; place = place; inside = c.args.inside }) c.args.cur.now.origin c.args.k name (node_at c.args.steps.now c.args.this) c.args.presence.now default c.args.slot fs r.1 k.0 (types.T.SlotTable.env c.args.slots.now) k.2 c.args.flags.now.rest c.is_there.new.flags.rest c.args.cur.now c.read_present.new.cur (suc (length c.args.path.now)) r.0 r.2 c.requires.named
          c.is_there.ensures.flags (λ env f. (there_told (root_of c.args.steps.now) r.2.known (types.T.SlotTable.env c.args.slots.now) env c.args.presence.now c.args.flags.now.rest r.2.noted.has r.2.is.0 f).0 yes') k.4),
    )

pub read_component-returns-in-Err-add_component-clause-fails : goal.read_component-returns-in-Err-add_component-clause-fails
read_component-returns-in-Err-add_component-clause-fails types t c =
    inl c.in-Err-add_component.ensures.lack

pub read_component-returns-in-Err-add_absent-clause-fails : goal.read_component-returns-in-Err-add_absent-clause-fails
read_component-returns-in-Err-add_absent-clause-fails types t c =
    inl c.in-Err-add_absent.ensures.lack

pub read_component-returns-in-Ok-add_absent-clause-read : goal.read_component-returns-in-Ok-add_absent-clause-read
read_component-returns-in-Ok-add_absent-clause-read types t c =
    let r = c.requires.ready in
    let no' : there_now c.args.presence.now (types.T.SlotTable.env c.args.slots.now) c.args.flags.now.rest ≡ false = ap (λ x. there_now c.args.presence.now x c.args.flags.now.rest) (sym c.items.ensures) ∙ (sym c.is_there.ensures.there ∙ c.if-is_there.false) in (
      None,
      (λ before said. c.in-Ok-add_absent.ensures.says before said),
      λ place name default fs. away_turn (root_of c.args.steps.now) (record { path = c.args.path.now; place = place; inside = c.args.inside }) c.args.cur.now.origin c.args.k name (node_at c.args.steps.now c.args.this) c.args.presence.now default c.args.slot fs (types.T.SlotTable.env c.args.slots.now) c.args.flags.now.rest c.is_there.new.flags.rest c.args.cur.now
          c.is_there.ensures.flags (λ env f. (there_told (root_of c.args.steps.now) r.2.known (types.T.SlotTable.env c.args.slots.now) env c.args.presence.now c.args.flags.now.rest r.2.noted.has r.2.is.0 f).1 no') c.requires.fine,
    )

pub read_present-read_number-requires : goal.read_present-read_number-requires
read_present-read_number-requires types t c =
    let r = c.requires.ready in
    let st = r.1.stands in
    let e = node_of_number c.args.steps.now c.args.this c.args.step.now c.in-Some.leaf.now c.requires.is c.in-Some.ensures.some in
    record {
      room = node_room (root_of c.args.steps.now) (node_at c.args.steps.now c.args.this) (length c.args.path.now) r.0 st.known st.is;
      some = node_align (root_of c.args.steps.now) (node_at c.args.steps.now c.args.this) c.args.step.now.align (num c.in-Some.leaf.now) _ r.0 st.known e st.is;
      fine = leaf_fine (root_of c.args.steps.now) (node_at c.args.steps.now c.args.this) c.args.step.now.align c.in-Some.leaf.now _ r.0 st.known e st.is;
      named = subst ItemsNamed e c.requires.named;
      free = own_free (root_of c.args.steps.now) (node_at c.args.steps.now c.args.this) (suc (length c.args.path.now)) c.args.slot (types.T.SlotTable.env c.args.slots.now) r.0 r.1;
    }

pub read_present-returns-in-Some-clause-read : goal.read_present-returns-in-Some-clause-read
read_present-returns-in-Some-clause-read types t c =
    ok_map c.read_number.result _ _ (λ v f. (f.0, f.1, (types.T.SlotTable.env c.args.slots.now), f.2, subst (λ (g : Grammar). NodeRead (root_of c.args.steps.now) g f.0 (types.T.SlotTable.env c.args.slots.now) (types.T.SlotTable.env c.args.slots.now) c.args.cur.now c.read_number.new.cur) (sym (node_of_number c.args.steps.now c.args.this c.args.step.now c.in-Some.leaf.now c.requires.is c.in-Some.ensures.some)) (f.3 (root_of c.args.steps.now) (types.T.SlotTable.env c.args.slots.now) c.requires.fine))) c.read_number.ensures.read

pub read_present-returns-in-Some-clause-fails : goal.read_present-returns-in-Some-clause-fails
read_present-returns-in-Some-clause-fails types t c =
    stops_map c.read_number.result _ _ _ _ (λ x. x) (λ q at s. subst (λ (g : Grammar). NodeStops (root_of c.args.steps.now) g c.args.inside (c.args.path.now ++ c.args.k ∷ []) (types.T.SlotTable.env c.args.slots.now) c.args.cur.now c.read_number.new.path q at) (sym (node_of_number c.args.steps.now c.args.this c.args.step.now c.in-Some.leaf.now c.requires.is c.in-Some.ensures.some)) (s (root_of c.args.steps.now) (types.T.SlotTable.env c.args.slots.now) c.requires.fine)) c.read_number.ensures.fails

pub read_present-read_child-requires : goal.read_present-read_child-requires
read_present-read_child-requires types t c κs within =
    let r = c.requires.ready in
    (omega arith, (within.0, (within.1.0, (within.1.1.0, (within.1.1.1.0, (within.1.1.1.1, (c.requires.made, (c.requires.there, ((r.0, r.1.stands), (c.requires.named, c.requires.fine))))))))))

pub read_present-returns-in-None-clause-read : goal.read_present-returns-in-None-clause-read
read_present-returns-in-None-clause-read types t c =
    let r = c.requires.ready in
    let none = no_slot (root_of c.args.steps.now) c.args.steps.now c.args.this c.args.step.now (suc (length c.args.path.now)) c.args.slot (types.T.SlotTable.env c.args.slots.now) r.0 c.requires.is r.1 c.in-None.ensures.none in
    ok_map c.read_child.result _ _ (λ v f. (f.0, f.1, (types.T.SlotTable.env c.read_child.new.slots), sym (ap (λ (s : Option ℕ). noted_by s (number_of f.0) (types.T.SlotTable.env c.read_child.new.slots)) none), f.2)) c.read_child.ensures.read

pub read_body-octets-requires-clause-read : goal.read_body-octets-requires-clause-read
read_body-octets-requires-clause-read types t c =
    octets_rule (root_of c.args.steps.now) (form_at c.args.steps.now c.args.this c.args.step.now) c.in-Octets.sizing (length c.args.path.now) (types.T.SlotTable.env c.args.slots.now) c.items-in-Octets.result.now (form_by c.args.steps.now c.args.this c.args.step.now (acts.Octets c.in-Octets.sizing) c.in-Octets.is) c.items-in-Octets.ensures c.requires.ready c.requires.fine

pub read_body-returns-in-Octets-clause-read : goal.read_body-returns-in-Octets-clause-read
read_body-returns-in-Octets-clause-read types t c =
    string_read (root_of c.args.steps.now) types.K.Keep.says (octets c.in-Octets.sizing) (form_at c.args.steps.now c.args.this c.args.step.now) (types.T.SlotTable.env c.args.slots.now) c.items-in-Octets.result.now c.args.cur.now c.octets.new.cur c.octets.result (form_by c.args.steps.now c.args.this c.args.step.now (acts.Octets c.in-Octets.sizing) c.in-Octets.is) c.items-in-Octets.ensures (λ ks. refl) c.requires.fine c.octets.ensures.read

pub read_body-returns-in-Octets-clause-fails : goal.read_body-returns-in-Octets-clause-fails
read_body-returns-in-Octets-clause-fails types t c =
    string_fails (root_of c.args.steps.now) _ _ (octets c.in-Octets.sizing) (form_at c.args.steps.now c.args.this c.args.step.now) (record { path = c.args.path.now; place = c.args.from; inside = c.args.inside }) (types.T.SlotTable.env c.args.slots.now) c.items-in-Octets.result.now c.args.cur.now c.octets.result (λ x. inl x) (form_by c.args.steps.now c.args.this c.args.step.now (acts.Octets c.in-Octets.sizing) c.in-Octets.is) c.items-in-Octets.ensures c.requires.fine c.octets.ensures.fails

pub read_body-bits-requires-clause-read : goal.read_body-bits-requires-clause-read
read_body-bits-requires-clause-read types t c =
    bits_rule (root_of c.args.steps.now) (form_at c.args.steps.now c.args.this c.args.step.now) c.in-Bits.sizing (length c.args.path.now) (types.T.SlotTable.env c.args.slots.now) c.items-in-Bits.result.now (form_by c.args.steps.now c.args.this c.args.step.now (acts.Bits c.in-Bits.sizing) c.in-Bits.is) c.items-in-Bits.ensures c.requires.ready c.requires.fine

pub read_body-returns-in-Bits-clause-read : goal.read_body-returns-in-Bits-clause-read
read_body-returns-in-Bits-clause-read types t c =
    string_read (root_of c.args.steps.now) types.K.Keep.says (bits c.in-Bits.sizing) (form_at c.args.steps.now c.args.this c.args.step.now) (types.T.SlotTable.env c.args.slots.now) c.items-in-Bits.result.now c.args.cur.now c.bits.new.cur c.bits.result (form_by c.args.steps.now c.args.this c.args.step.now (acts.Bits c.in-Bits.sizing) c.in-Bits.is) c.items-in-Bits.ensures (λ ks. refl) c.requires.fine c.bits.ensures.read

pub read_body-returns-in-Bits-clause-fails : goal.read_body-returns-in-Bits-clause-fails
read_body-returns-in-Bits-clause-fails types t c =
    string_fails (root_of c.args.steps.now) _ _ (bits c.in-Bits.sizing) (form_at c.args.steps.now c.args.this c.args.step.now) (record { path = c.args.path.now; place = c.args.from; inside = c.args.inside }) (types.T.SlotTable.env c.args.slots.now) c.items-in-Bits.result.now c.args.cur.now c.bits.result (λ x. inl x) (form_by c.args.steps.now c.args.this c.args.step.now (acts.Bits c.in-Bits.sizing) c.in-Bits.is) c.items-in-Bits.ensures c.requires.fine c.bits.ensures.fails

pub read_body-text-requires-clause-read : goal.read_body-text-requires-clause-read
read_body-text-requires-clause-read types t c =
    text_rule (root_of c.args.steps.now) (form_at c.args.steps.now c.args.this c.args.step.now) c.in-Text.leaf (length c.args.path.now) (types.T.SlotTable.env c.args.slots.now) c.items-in-Text.result.now (form_by c.args.steps.now c.args.this c.args.step.now (acts.Text c.in-Text.leaf) c.in-Text.is) c.items-in-Text.ensures c.requires.ready c.requires.fine

pub read_body-returns-in-Text-clause-read : goal.read_body-returns-in-Text-clause-read
read_body-returns-in-Text-clause-read types t c =
    string_read (root_of c.args.steps.now) types.K.Keep.says (text c.in-Text.leaf) (form_at c.args.steps.now c.args.this c.args.step.now) (types.T.SlotTable.env c.args.slots.now) c.items-in-Text.result.now c.args.cur.now c.text.new.cur c.text.result (form_by c.args.steps.now c.args.this c.args.step.now (acts.Text c.in-Text.leaf) c.in-Text.is) c.items-in-Text.ensures (λ ks. refl) c.requires.fine c.text.ensures.read

pub read_body-returns-in-Text-clause-fails : goal.read_body-returns-in-Text-clause-fails
read_body-returns-in-Text-clause-fails types t c =
    string_fails (root_of c.args.steps.now) _ _ (text c.in-Text.leaf) (form_at c.args.steps.now c.args.this c.args.step.now) (record { path = c.args.path.now; place = c.args.from; inside = c.args.inside }) (types.T.SlotTable.env c.args.slots.now) c.items-in-Text.result.now c.args.cur.now c.text.result (λ x. inl x) (form_by c.args.steps.now c.args.this c.args.step.now (acts.Text c.in-Text.leaf) c.in-Text.is) c.items-in-Text.ensures c.requires.fine c.text.ensures.fails

pub read_run-returns-in-Err-add_element-clause-fails : goal.read_run-returns-in-Err-add_element-clause-fails
read_run-returns-in-Err-add_element-clause-fails types t c =
    inl c.in-Err-add_element.ensures.lack

pub read_elements-returns-in-Err-add_element-clause-fails : goal.read_elements-returns-in-Err-add_element-clause-fails
read_elements-returns-in-Err-add_element-clause-fails types t c =
    inl c.in-Err-add_element.ensures.lack

pub read_elements-returns-in-Ok-clause-read : goal.read_elements-returns-in-Ok-clause-read
read_elements-returns-in-Ok-clause-read types t c =
    let l = c.loop-i in
    let s = l.invariant.read in
    (s.0, s.1, ended_turn (root_of c.args.steps.now) c.args.inside c.args.path.now c.args.cur.now.origin (node_at c.args.steps.now c.args.this) c.args.end.now c.args.sizing.now l.i s.0 (types.T.SlotTable.env c.args.slots.now) (types.T.SlotTable.env l.slots) c.args.cur.now l.cur c.pass_end.new.cur s.2 c.in-Ok.ensures.permitted (c.stands.ensures.room c.if-stands.true) (c.stands.ensures.there c.if-stands.true) c.in-Ok.ensures.moved s.3)

pub read_elements-returns-in-Ok-pass_end-clause-read : goal.read_elements-returns-in-Ok-pass_end-clause-read
read_elements-returns-in-Ok-pass_end-clause-read types t c =
    let l = c.loop-i in
    let s = l.invariant.read in
    let over = c.loop-i-test.false in
    let within = l.auto.i-end in
    (s.0, s.1, ended_turn (root_of c.args.steps.now) c.args.inside c.args.path.now c.args.cur.now.origin (node_at c.args.steps.now c.args.this) c.args.end.now c.args.sizing.now c.most_of-most.result s.0 (types.T.SlotTable.env c.args.slots.now) (types.T.SlotTable.env l.slots) c.args.cur.now l.cur c.pass_end-then-stands-2.new.cur (s.2 ∙ omega (arith, over, within)) c.in-Ok-pass_end.ensures.permitted (c.stands-2.ensures.room c.if-stands-2.true) (c.stands-2.ensures.there c.if-stands-2.true) c.in-Ok-pass_end.ensures.moved s.3)

pub read_seq-returns-in-Ok-read_fields-clause-read : goal.read_seq-returns-in-Ok-read_fields-clause-read
read_seq-returns-in-Ok-read_fields-clause-read types t c =
    let r = c.in-Ok-read_fields.ensures.read in (
      record_of (places_of r.0),
      c.sequence.ensures r.0 r.1,
      seq_read_at (root_of c.args.steps.now) (record { path = c.args.path.now; place = c.args.from; inside = c.args.inside }) c.window.new.self.origin r.2 (length c.args.path.now) (fields_at c.args.steps.now c.args.first c.args.end) c.args.home.now r.0 (types.T.SlotTable.env c.args.slots.now) (types.T.SlotTable.env c.read_fields.new.slots) (types.T.SlotTable.env c.forget.new.self) c.args.cur.now c.window.new.self c.read_fields.new.cur c.in-Ok.window c.counts_of-counts.result.bits _
          c.forget.ensures c.counts_of-counts.ensures c.in-Ok.ensures.within c.in-Ok.ensures.window c.in-Ok.ensures.moved c.requires.ready (r.3 c.args.from),
    )

pub read_seq-returns-in-Err-no_places-clause-fails : goal.read_seq-returns-in-Err-no_places-clause-fails
read_seq-returns-in-Err-no_places-clause-fails types t c =
    inl c.in-Err-no_places.ensures.lack

pub read_field-returns-in-Component-clause-read : goal.read_field-returns-in-Component-clause-read
read_field-returns-in-Component-clause-read types t c =
    let m = c.in-Component in
    on_ok_map c.read_component.result (λ p. (p.0 ∷ [], p.1, λ place fs. subst (λ (f : OneField). Turn (root_of c.args.steps.now) (record { path = c.args.path.now; place = place; inside = c.args.inside }) c.args.cur.now.origin c.args.k (suc c.args.k) (with_field f fs) fs (p.0 ∷ []) (types.T.SlotTable.env c.args.slots.now) (types.T.SlotTable.env c.read_component.new.slots) c.args.flags.now.rest c.read_component.new.flags.rest c.args.cur.now c.read_component.new.cur) (sym (ap (λ p. field_by p (node_at c.args.steps.now c.args.this)) m.is)) (p.2 place m.name m.default fs))) c.read_component.ensures.read

pub read_field-returns-in-Component-clause-fails : goal.read_field-returns-in-Component-clause-fails
read_field-returns-in-Component-clause-fails types t c =
    let m = c.in-Component in
    stops_map c.read_component.result _ _ _ _ (λ x. x) (λ q at s place fs. subst (λ (f : OneField). FieldsStop (root_of c.args.steps.now) (with_field f fs) c.args.flags.now.rest (record { path = c.args.path.now; place = place; inside = c.args.inside }) c.args.cur.now.origin c.args.k (types.T.SlotTable.env c.args.slots.now) c.args.cur.now c.read_component.new.path q at) (sym (ap (λ p. field_by p (node_at c.args.steps.now c.args.this)) m.is)) (s place m.name m.default fs)) c.read_component.ensures.fails

pub read_choice-returns-in-Ok-alternative-clause-read : goal.read_choice-returns-in-Ok-alternative-clause-read
read_choice-returns-in-Ok-alternative-clause-read types t c =
    let k = c.in-Ok-read_child.ensures.read in
    (alt c.in-Ok.i k.0, c.in-Ok-alternative.ensures.says k.0 k.1, choice_read (root_of c.args.steps.now) (cases_at c.args.steps.now c.args.first c.args.end) c.args.cases.now.rule c.in-Ok.i (node_at c.args.steps.now c.case_of-this.result) k.0 (types.T.SlotTable.env c.args.slots.now) (types.T.SlotTable.env c.read_child.new.slots) c.args.cur.now c.pick.new.cur c.read_child.new.cur (c.case_of-this.ensures c.args.steps.now c.args.first c.args.end c.requires.made c.requires.within (c.items-in-Ok.ensures ∙ c.requires.row)).is (subst (λ (x : Env). Picked (root_of c.args.steps.now) (cases_at c.args.steps.now c.args.first c.args.end) c.args.cases.now.rule x c.args.cur.now c.pick.new.cur c.in-Ok.i) c.items.ensures c.in-Ok.ensures.picked) k.2)

pub read_choice-returns-in-Err-alternative-clause-fails : goal.read_choice-returns-in-Err-alternative-clause-fails
read_choice-returns-in-Err-alternative-clause-fails types t c =
    inl c.in-Err-alternative.ensures.lack
