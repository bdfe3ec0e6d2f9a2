use Rattle.std.proofs.lemmas.Int.{to_z-of_z}
use Rattle.std.specs.Int.{w128}
use Rattle.std.proofs.Common.{◌≡◌, ℕ, true, false, suc, ◌+◌, ◌∷◌, [], ◌++◌, length, None, refl, sym, ap, ◌∙◌, rules, subst, List}
use Rattle.acn_grammar.specs.Grammar.{Grammar, Fields}
use Rattle.acn_grammar.specs.View.{grammar_of, form_of, data_of, field_of, fields_view, with_field}
use Rattle.acn_grammar.specs.declared.node.Node.{the_lemmas}
use Rattle.acn_grammar.proofs.Views.{view_node, view_component, view_inserted}
use Rattle.acn_reads.proofs.Runs.{contained_rule, contained_inner, contained_read, contained_overlong, contained_fails, contained_short, contained_unsized, list_sizing, list_rule, list_inner, mapped_length, list_read, list_fails, list_unsized, view_list_value, no_run, run_stands, run_stops_at, run_next}
use Rattle.acn_reads.specs.Decoded.{FormRead, FormStops}
use Rattle.acn_grammar.specs.Grammar.{Data, list, contained}
use Rattle.acn_grammar.specs.LeafFails.{content_size}
use Rattle.std.proofs.Common.{length-append}
use Rattle.acn_reads.proofs.ChoiceReads.{body_is, body_choice, body_choice_fails, choice_few, choice_rule_known, choice_fits, choice_inner, choice_named, choice_none_at, choice_fails_at, choice_read_at, view_choice, count_cases, case_inner, view_named, case_at, alternative_read, alternative_fails}
use Rattle.acn_grammar.specs.declared.node.Choice.{out-Choice, size_is-Choice}
use Rattle.acn_grammar.specs.declared.node.Body.{size-Body}
use Rattle.acn_grammar.specs.declared.node.Alternative.{the_lemmas as alternative_lemmas}
use Rattle.acn_grammar.specs.declared.value.Value.{Alt as AltValue}
use Rattle.acn_grammar.specs.Grammar.{Form, choice}
use Rattle.acn_grammar.specs.View.{alternatives_view}
use Rattle.acn_reads.proofs.EndReads.{end_stops_to, none_stops_to, next_fails_to, ended_list, ended_fails}
use Rattle.acn_reads.proofs.SlotTurns.{component_read}
use Rattle.acn_grammar.specs.Grammar.{num, octets, bits, text}
use Rattle.acn_grammar.specs.ItemsNamed.{ItemsNamed}
use Rattle.acn_reads.proofs.StringReads.{octets_rule, bits_rule, text_rule, view_octets, view_bits, view_text, form_passed_at, form_fails_at}
use Rattle.acn_reads.specs.Steps.{noted_by}
use Rattle.acn_grammar.specs.Grammar.{component}
use Rattle.std.proofs.Common.{ℤ, Some}
use Rattle.acn_reads.proofs.Nodes.{on_ok_map}
use Rattle.acn_reads.specs.Decoded.{NodeRead, NodeStops}
use Rattle.acn_reads.specs.Present.{there_now}
use Rattle.acn_reads.proofs.Nodes.{node_room, node_align, leaf_fine, node_of_number, inner_node, tells_map, stop_map, ok_map, node_read, node_fails_at, node_short_at}
use Rattle.acn_reads.proofs.Turns.{bit_is, there_told, away_turn, component_stops, no_turn, depth_is}
use Rattle.std.proofs.Common.{map, drop, arith}
use Rattle.std.specs.Prelude.{option_map}
use Rattle.std.proofs.lemmas.List.{map-append}
use Rattle.acn_reads.specs.Decoded.{Turn}
use Rattle.acn_reads.specs.Decoded.{NodeStands, FieldsStand}
use Rattle.acn_reads.proofs.Loops.{fields_from, next_ready, next_turn, next_stops, all_turns, component_turn, inserted_turn, named_at}
use Rattle.acn_grammar.proofs.Views.{view_seq, view_seq_form}
use Rattle.acn_grammar.specs.Fails.{presence_count}
use Rattle.acn_reads.proofs.Seqs.{few_fields, fields_named, fields_ready, flags_are, seq_read_at, seq_fails_at, seq_short_at}
use Rattle.acn_plain_read.proofs.read.+read.Goals as goal

pub read_component-is_there-requires : goal.read_component-is_there-requires
read_component-is_there-requires t c = let r = c.requires.ready in bit_is (grammar_of c.args.root.now) c.args.presence.now [] (grammar_of c.args.node.now) None c.args.slot r.1 c.args.flags.now.rest r.3

pub read_component-read_present-requires : goal.read_component-read_present-requires
read_component-read_present-requires t c = let r = c.requires.ready in (search (rules, the_lemmas), ((r.0, record { known = r.2.known; noted = r.2.noted; is = r.2.is.3 }), (c.requires.named, c.requires.fine)))

pub read_component-returns-in_ok-note-in-Ok-clause-read : goal.read_component-returns-in_ok-note-in-Ok-clause-read
read_component-returns-in_ok-note-in-Ok-clause-read t c place name default fs =
    let r = c.requires.ready in
    let yes' : there_now c.args.presence.now c.args.slots.now c.args.flags.now.rest ≡ true = ap (λ x. there_now c.args.presence.now x c.args.flags.now.rest) (sym c.items.ensures) ∙ (sym c.is_there.ensures.there ∙ c.if-is_there.true) in
    subst (λ (x : List (ℕ × ℤ)). Turn (grammar_of c.args.root.now) (record { path = c.args.path.now; place = place; inside = c.args.inside }) c.args.cur.now.origin c.args.k (suc c.args.k) (component name (grammar_of c.args.node.now) c.args.presence.now default c.args.slot fs) fs (Some (data_of c.in-Ok.value) ∷ []) c.args.slots.now x c.args.flags.now.rest c.is_there.new.flags.rest c.args.cur.now c.read_present.new.cur)
    (sym (c.in_ok-note-in-Ok.ensures.noted ∙ ap (λ (x : ℤ). noted_by c.args.slot x c.read_present.new.slots) (to_z-of_z w128 c.number.result (record { sfits = search rules }) ∙ c.number.ensures)))
    (component_read (grammar_of c.args.root.now) (record { path = c.args.path.now; place = place; inside = c.args.inside }) c.args.cur.now.origin c.args.k name (grammar_of c.args.node.now) c.args.presence.now default c.args.slot fs r.1 (data_of c.in-Ok.value) c.args.slots.now c.read_present.new.slots c.args.flags.now.rest c.is_there.new.flags.rest c.args.cur.now c.read_present.new.cur (suc (length c.args.path.now)) r.0 r.2 c.requires.named
    c.is_there.ensures.flags (λ env f. (there_told (grammar_of c.args.root.now) r.2.known c.args.slots.now env c.args.presence.now c.args.flags.now.rest r.2.noted.has r.2.is.0 f).0 yes') c.in-Ok.ensures.read)

pub read_component-returns-in-Err-clause-fails : goal.read_component-returns-in-Err-clause-fails
read_component-returns-in-Err-clause-fails t c =
    let r = c.requires.ready in
    let yes' : there_now c.args.presence.now c.args.slots.now c.args.flags.now.rest ≡ true = ap (λ x. there_now c.args.presence.now x c.args.flags.now.rest) (sym c.items.ensures) ∙ (sym c.is_there.ensures.there ∙ c.if-is_there.true) in
    tells_map c.in-Err.stop _ _ (λ q at s place name default fs. component_stops (grammar_of c.args.root.now) (record { path = c.args.path.now; place = place; inside = c.args.inside }) c.args.cur.now.origin c.args.k name (grammar_of c.args.node.now) c.args.presence.now default c.args.slot fs c.args.slots.now c.args.flags.now.rest c.args.cur.now c.read_present.new.path q at
    refl (λ env f. (there_told (grammar_of c.args.root.now) r.2.known c.args.slots.now env c.args.presence.now c.args.flags.now.rest r.2.noted.has r.2.is.0 f).0 yes')
    s) c.in-Err.ensures.fails

pub read_present-read_number-requires : goal.read_present-read_number-requires
read_present-read_number-requires t c =
    let r = c.requires.ready in
    let e = node_of_number c.args.node.now c.in-Num.leaf c.in-Num.is in
    record {
      room = node_room (grammar_of c.args.root.now) (grammar_of c.args.node.now) (length c.args.path.now) r.0 r.1.known r.1.is;
      some = node_align (grammar_of c.args.root.now) (grammar_of c.args.node.now) c.args.node.now.align (num c.in-Num.leaf) _ r.0 r.1.known e r.1.is;
      fine = leaf_fine (grammar_of c.args.root.now) (grammar_of c.args.node.now) c.args.node.now.align c.in-Num.leaf _ r.0 r.1.known e r.1.is;
      named = subst ItemsNamed e c.requires.named;
    }

pub read_present-returns-in-Num-clause-read : goal.read_present-returns-in-Num-clause-read
read_present-returns-in-Num-clause-read t c =
    ok_map c.read_number.result _ _ (λ v f. subst (λ (g : Grammar). NodeRead (grammar_of c.args.root.now) g (data_of v) c.args.slots.now c.args.slots.now c.args.cur.now c.read_number.new.cur) (sym (node_of_number c.args.node.now c.in-Num.leaf c.in-Num.is)) (f (grammar_of c.args.root.now) c.args.slots.now c.requires.fine)) c.read_number.ensures.read

pub read_present-returns-in-Num-clause-fails : goal.read_present-returns-in-Num-clause-fails
read_present-returns-in-Num-clause-fails t c =
    stop_map c.read_number.result _ _ (λ q at s. subst (λ (g : Grammar). NodeStops (grammar_of c.args.root.now) g c.args.inside (c.args.path.now ++ c.args.k ∷ []) c.args.slots.now c.args.cur.now c.read_number.new.path q at) (sym (node_of_number c.args.node.now c.in-Num.leaf c.in-Num.is)) (s (grammar_of c.args.root.now) c.args.slots.now c.requires.fine)) c.read_number.ensures.fails

pub read_component-returns-else-is_there-clause-read : goal.read_component-returns-else-is_there-clause-read
read_component-returns-else-is_there-clause-read t c place name default fs =
    let r = c.requires.ready in
    let no' : there_now c.args.presence.now c.args.slots.now c.args.flags.now.rest ≡ false = ap (λ x. there_now c.args.presence.now x c.args.flags.now.rest) (sym c.items.ensures) ∙ (sym c.is_there.ensures.there ∙ c.if-is_there.false) in
    away_turn (grammar_of c.args.root.now) (record { path = c.args.path.now; place = place; inside = c.args.inside }) c.args.cur.now.origin c.args.k name (grammar_of c.args.node.now) c.args.presence.now default c.args.slot fs c.args.slots.now c.args.flags.now.rest c.is_there.new.flags.rest c.args.cur.now
    c.is_there.ensures.flags (λ env f. (there_told (grammar_of c.args.root.now) r.2.known c.args.slots.now env c.args.presence.now c.args.flags.now.rest r.2.noted.has r.2.is.0 f).1 no') c.requires.fine

pub read_node-returns-in-Ok-clause-read : goal.read_node-returns-in-Ok-clause-read
read_node-returns-in-Ok-clause-read t c =
    ok_map c.read_body.result _ _ (λ v f. subst (λ (g : Grammar). NodeRead (grammar_of c.args.root.now) g (data_of v) c.args.slots.now c.read_body.new.slots c.args.cur.now c.read_body.new.cur) (sym (view_node c.args.node.now))
    (node_read (grammar_of c.args.root.now) c.args.node.now.align (form_of c.args.node.now.body) (data_of v) c.args.slots.now c.read_body.new.slots c.args.cur.now c.pad.new.cur c.read_body.new.cur c.in-Ok.ensures.passed f)) c.read_body.ensures.read

pub read_node-returns-in-Ok-clause-fails : goal.read_node-returns-in-Ok-clause-fails
read_node-returns-in-Ok-clause-fails t c =
    stop_map c.read_body.result _ _ (λ q at s. node_fails_at (grammar_of c.args.root.now) (grammar_of c.args.node.now) c.args.node.now.align (form_of c.args.node.now.body) c.args.inside c.args.path.now _ c.args.slots.now c.args.cur.now c.pad.new.cur c.reach-from.result q at (view_node c.args.node.now) c.reach-from.ensures c.in-Ok.ensures.passed s) c.read_body.ensures.fails

pub read_node-returns-in-Err-clause-fails : goal.read_node-returns-in-Err-clause-fails
read_node-returns-in-Err-clause-fails t c =
    node_short_at (grammar_of c.args.root.now) (grammar_of c.args.node.now) c.args.node.now.align (form_of c.args.node.now.body) c.args.inside c.args.path.now c.args.slots.now c.args.cur.now _ c.reach-from.result (view_node c.args.node.now) c.reach-from.ensures c.named.ensures c.requires.fine c.in-Err.ensures.short

pub read_field-returns-in_ok-push-in-Ok-clause-read : goal.read_field-returns-in_ok-push-in-Ok-clause-read
read_field-returns-in_ok-push-in-Ok-clause-read t c =
    let m = c.in-Component in
    component_turn (grammar_of c.args.root.now) (field_of c.args.field.now) m.name (grammar_of m.node) m.presence m.default m.slot c.args.inside c.args.path.now c.args.cur.now.origin c.args.k (option_map data_of c.in-Ok.place ∷ []) (map (option_map data_of) c.args.places.now) (map (option_map data_of) c.push.new.self)
    c.args.slots.now c.read_component.new.slots c.args.flags.now.rest c.read_component.new.flags.rest c.args.cur.now c.read_component.new.cur
    (ap field_of m.is ∙ view_component m.name m.node m.presence m.default m.slot) (ap (map (option_map data_of)) c.in_ok-push-in-Ok.ensures.ok ∙ map-append (option_map data_of) c.args.places.now (c.in-Ok.place ∷ [])) c.in-Ok.ensures.read

pub read_fields-loop-field-init : goal.read_fields-loop-field-init
read_fields-loop-field-init t c = record {
  place = refl;
  path = refl;
  turn = λ place. rw c.in_ok-places.ensures (no_turn (grammar_of c.args.root.now) (record { path = c.args.path.now; place = place; inside = c.args.inside }) c.args.cur.now.origin 0 (fields_view c.args.fields.now) c.args.slots.now c.args.flags.now.rest c.args.cur.now c.requires.fine);
}

pub read_fields-read_field-requires : goal.read_fields-read_field-requires
read_fields-read_field-requires t c =
    let l = c.loop-field in
    let p = l.invariant.turn 0 in
    let from = fields_from c.args.fields.now l.field-index c.field-item.result c.loop-field-test.true c.field-item.is in (
      search (rules, the_lemmas),
      (
        subst (λ (path : List ℕ). (around : List ℕ) × (fs : Fields) × FieldsStand (grammar_of c.args.root.now) (suc (length path)) (with_field (field_of c.field-item.result) fs) l.slots around × (Rattle.acn_grammar.specs.Fails.presence_count (with_field (field_of c.field-item.result) fs) ≡ length l.flags.rest)) (sym l.invariant.path)
            (next_ready (grammar_of c.args.root.now) (record { path = c.args.path.now; place = 0; inside = c.args.inside }) c.args.cur.now.origin l.k (suc (length c.args.path.now)) (fields_view c.args.fields.now) (fields_view (drop l.field-index c.args.fields.now)) (fields_view (drop (l.field-index + 1) c.args.fields.now)) (field_of c.field-item.result) (map (option_map data_of) l.places) c.args.slots.now l.slots c.args.flags.now.rest l.flags.rest c.args.cur.now l.cur from p c.requires.bits c.requires.ready),
        (
          named_at c.args.fields.now l.field-index c.field-item.result c.loop-field-test.true c.field-item.is c.requires.named,
          p.fine,
        ),
      ),
    )

pub read_fields-returns-in-Err-clause-fails : goal.read_fields-returns-in-Err-clause-fails
read_fields-returns-in-Err-clause-fails t c =
    let l = c.loop-field in
    let from = fields_from c.args.fields.now l.field-index c.field-item.result c.loop-field-test.true c.field-item.is in
    tells_map c.in-Err.stop _ _ (λ q at s place. next_stops (grammar_of c.args.root.now) place c.args.inside c.args.path.now l.path _ l.k (fields_view c.args.fields.now) (fields_view (drop l.field-index c.args.fields.now)) (fields_view (drop (l.field-index + 1) c.args.fields.now)) (field_of c.field-item.result) (map (option_map data_of) l.places) c.args.slots.now l.slots c.args.flags.now.rest l.flags.rest c.args.cur.now l.cur q at from l.invariant.path (l.invariant.turn place) s) c.in-Err.ensures.fails

pub read_fields-loop-field-preserved : goal.read_fields-loop-field-preserved
read_fields-loop-field-preserved t c =
    let l = c.loop-field in
    let from = fields_from c.args.fields.now l.field-index c.field-item.result c.loop-field-test.true c.field-item.is in
    let d = c.in-Ok.ensures.read in
    record {
      place = ap (λ (n : ℕ). n + 1) l.invariant.place;
      path = c.in-Ok.ensures.path ∙ l.invariant.path;
      turn = λ place. rw d.1 (next_turn (grammar_of c.args.root.now) place c.args.inside c.args.path.now l.path c.args.cur.now.origin l.k (fields_view c.args.fields.now) (fields_view (drop l.field-index c.args.fields.now)) (fields_view (drop (l.field-index + 1) c.args.fields.now)) (field_of c.field-item.result) (map (option_map data_of) l.places) d.0 c.args.slots.now l.slots c.read_field.new.slots c.args.flags.now.rest l.flags.rest c.read_field.new.flags.rest c.args.cur.now l.cur c.read_field.new.cur from l.invariant.path (l.invariant.turn place) d.2);
    }

pub read_fields-returns-clause-read : goal.read_fields-returns-clause-read
read_fields-returns-clause-read t c place =
    let l = c.loop-field in
    all_turns (grammar_of c.args.root.now) (record { path = c.args.path.now; place = place; inside = c.args.inside }) c.args.cur.now.origin l.k l.field-index c.args.fields.now (map (option_map data_of) l.places) c.args.slots.now l.slots c.args.flags.now.rest l.flags.rest c.args.cur.now l.cur c.loop-field-test.false l.auto.field-index-end l.invariant.place (l.invariant.turn place)

pub read_seq-count_of-requires : goal.read_seq-count_of-requires
read_seq-count_of-requires t c = few_fields (grammar_of c.args.root.now) _ c.args.seq.now.fields c.items.result.now c.args.seq.now.home (length c.args.path.now) c.args.slots.now (view_seq_form c.args.seq.now) c.items.ensures c.requires.ready

pub read_seq-read_fields-requires : goal.read_seq-read_fields-requires
read_seq-read_fields-requires t c =
    let root = grammar_of c.args.root.now in
    let count : c.count_of.result ≡ presence_count (fields_view c.args.seq.now.fields) = c.count_of.ensures ∙ ap (λ x. presence_count (fields_view x)) c.items.ensures in (
      search (rules, the_lemmas),
      (
        few_fields (grammar_of c.args.root.now) _ c.args.seq.now.fields c.items-in-Ok.result.now c.args.seq.now.home (length c.args.path.now) c.args.slots.now (view_seq_form c.args.seq.now) c.items-in-Ok.ensures c.requires.ready,
        (
          flags_are (grammar_of c.args.root.now) c.args.seq.now.fields c.items-in-Ok.result.now c.count_of.result c.args.cur.now c.in-Ok.window c.items-in-Ok.ensures count c.in-Ok.ensures.within c.in-Ok.ensures.window,
          (
            fields_ready (grammar_of c.args.root.now) _ c.args.seq.now.fields c.items-in-Ok.result.now c.args.seq.now.home (length c.args.path.now) c.args.slots.now (view_seq_form c.args.seq.now) c.items-in-Ok.ensures c.requires.ready,
            (
              fields_named _ c.args.seq.now.fields c.items-in-Ok.result.now c.args.seq.now.home (view_seq_form c.args.seq.now) c.items-in-Ok.ensures c.requires.named,
              c.requires.fine,
            ),
          ),
        ),
      ),
    )

pub read_seq-returns-in_ok-forget-in-Ok-read_fields-clause-read : goal.read_seq-returns-in_ok-forget-in-Ok-read_fields-clause-read
read_seq-returns-in_ok-forget-in-Ok-read_fields-clause-read t c =
    let count : c.count_of.result ≡ presence_count (fields_view c.args.seq.now.fields) = c.count_of.ensures ∙ ap (λ x. presence_count (fields_view x)) c.items.ensures in
    seq_read_at (grammar_of c.args.root.now) (record { path = c.args.path.now; place = c.args.from; inside = c.args.inside }) c.window.new.self.origin (length c.items-in-Ok.result.now) (length c.args.path.now) _ c.args.seq.now.fields c.items-in-Ok.result.now c.args.seq.now.home c.items-in-Ok-read_fields.result.now c.in-Ok-read_fields.places _ c.args.slots.now c.read_fields.new.slots c.read_fields.new.slots c.forget.new.numbers c.args.cur.now c.window.new.self c.read_fields.new.cur c.in-Ok.window c.count_of.result _
    (view_seq_form c.args.seq.now) (view_seq c.in-Ok-read_fields.places) c.items-in-Ok.ensures c.items-in-Ok-read_fields.ensures refl c.in_ok-forget-in-Ok-read_fields.ensures.left count c.in-Ok.ensures.within c.in-Ok.ensures.window c.in-Ok.ensures.moved c.requires.ready (c.in-Ok-read_fields.ensures.read c.args.from)

pub read_seq-returns-in-Err-read_fields-clause-fails : goal.read_seq-returns-in-Err-read_fields-clause-fails
read_seq-returns-in-Err-read_fields-clause-fails t c =
    let count : c.count_of.result ≡ presence_count (fields_view c.args.seq.now.fields) = c.count_of.ensures ∙ ap (λ x. presence_count (fields_view x)) c.items.ensures in
    tells_map c.in-Err-read_fields.stop _ _ (λ q at s. seq_fails_at (grammar_of c.args.root.now) (record { path = c.args.path.now; place = c.args.from; inside = c.args.inside }) (length c.args.path.now) _ c.args.seq.now.fields c.items-in-Ok.result.now c.args.seq.now.home c.args.slots.now c.args.cur.now c.window.new.self c.in-Ok.window c.count_of.result _ q at
    (view_seq_form c.args.seq.now) c.items-in-Ok.ensures count c.in-Ok.ensures.within c.in-Ok.ensures.window c.in-Ok.ensures.moved c.requires.ready (s c.args.from)) c.in-Err-read_fields.ensures.fails

pub read_seq-returns-in-Err-clause-fails : goal.read_seq-returns-in-Err-clause-fails
read_seq-returns-in-Err-clause-fails t c =
    let count : c.count_of.result ≡ presence_count (fields_view c.args.seq.now.fields) = c.count_of.ensures ∙ ap (λ x. presence_count (fields_view x)) c.items.ensures in
    seq_short_at (grammar_of c.args.root.now) (record { path = c.args.path.now; place = c.args.from; inside = c.args.inside }) _ c.args.seq.now.fields c.args.seq.now.home c.args.slots.now c.args.cur.now c.count_of.result _ (view_seq_form c.args.seq.now) count c.named.ensures c.requires.fine c.in-Err.ensures.short

pub read_field-returns-in-Inserted-clause-read : goal.read_field-returns-in-Inserted-clause-read
read_field-returns-in-Inserted-clause-read t c =
    let m = c.in-Inserted in
    on_ok_map c.read_inserted.result (λ p. inserted_turn (grammar_of c.args.root.now) (field_of c.args.field.now) m.name (grammar_of m.node) m.slot c.args.inside c.args.path.now c.args.cur.now.origin c.args.k (map (option_map data_of) c.args.places.now) c.args.slots.now c.read_inserted.new.slots c.args.flags.now.rest c.args.cur.now c.read_inserted.new.cur
    (ap field_of m.is ∙ view_inserted m.name m.node m.slot) p) c.read_inserted.ensures.read

pub read_body-read_octets-requires-clause-read : goal.read_body-read_octets-requires-clause-read
read_body-read_octets-requires-clause-read t c = octets_rule (grammar_of c.args.root.now) (form_of c.args.body.now) c.in-Octets.sizing (length c.args.path.now) c.args.slots.now c.items.result.now (ap form_of c.in-Octets.is ∙ view_octets c.in-Octets.sizing) c.items.ensures c.requires.ready c.requires.fine

pub read_body-returns-in-Octets-clause-read : goal.read_body-returns-in-Octets-clause-read
read_body-returns-in-Octets-clause-read t c = form_passed_at (grammar_of c.args.root.now) (octets c.in-Octets.sizing) (form_of c.args.body.now) c.args.slots.now c.items.result.now c.args.cur.now c.read_octets.new.cur c.read_octets.result (ap form_of c.in-Octets.is ∙ view_octets c.in-Octets.sizing) c.items.ensures (λ ks. refl) c.requires.fine c.read_octets.ensures.read

pub read_body-returns-in-Octets-clause-fails : goal.read_body-returns-in-Octets-clause-fails
read_body-returns-in-Octets-clause-fails t c = form_fails_at (grammar_of c.args.root.now) (octets c.in-Octets.sizing) (form_of c.args.body.now) (record { path = c.args.path.now; place = c.args.from; inside = c.args.inside }) c.args.slots.now c.items.result.now c.args.cur.now c.read_octets.result (ap form_of c.in-Octets.is ∙ view_octets c.in-Octets.sizing) c.items.ensures c.requires.fine c.read_octets.ensures.fails

pub read_body-read_bits-requires-clause-read : goal.read_body-read_bits-requires-clause-read
read_body-read_bits-requires-clause-read t c = bits_rule (grammar_of c.args.root.now) (form_of c.args.body.now) c.in-Bits.sizing (length c.args.path.now) c.args.slots.now c.items-in-Bits.result.now (ap form_of c.in-Bits.is ∙ view_bits c.in-Bits.sizing) c.items-in-Bits.ensures c.requires.ready c.requires.fine

pub read_body-returns-in-Bits-clause-read : goal.read_body-returns-in-Bits-clause-read
read_body-returns-in-Bits-clause-read t c = form_passed_at (grammar_of c.args.root.now) (bits c.in-Bits.sizing) (form_of c.args.body.now) c.args.slots.now c.items-in-Bits.result.now c.args.cur.now c.read_bits.new.cur c.read_bits.result (ap form_of c.in-Bits.is ∙ view_bits c.in-Bits.sizing) c.items-in-Bits.ensures (λ ks. refl) c.requires.fine c.read_bits.ensures.read

pub read_body-returns-in-Bits-clause-fails : goal.read_body-returns-in-Bits-clause-fails
read_body-returns-in-Bits-clause-fails t c = form_fails_at (grammar_of c.args.root.now) (bits c.in-Bits.sizing) (form_of c.args.body.now) (record { path = c.args.path.now; place = c.args.from; inside = c.args.inside }) c.args.slots.now c.items-in-Bits.result.now c.args.cur.now c.read_bits.result (ap form_of c.in-Bits.is ∙ view_bits c.in-Bits.sizing) c.items-in-Bits.ensures c.requires.fine c.read_bits.ensures.fails

pub read_child-push-requires : goal.read_child-push-requires
read_child-push-requires t c = let r = c.requires.ready in node_room (grammar_of c.args.root.now) (grammar_of c.args.node.now) (length c.args.path.now) r.0 r.1.known r.1.is

pub read_child-read_node-requires : goal.read_child-read_node-requires
read_child-read_node-requires t c =
    let r = c.requires.ready in (
      search (rules, the_lemmas),
      (
        (r.0, subst (λ (n : ℕ). NodeStands (grammar_of c.args.root.now) n (grammar_of c.args.node.now) c.args.slots.now r.0) (depth_is c.args.path.now c.push.new.self c.args.k c.push.ensures) (record { known = r.1.known; noted = r.1.noted; is = r.1.is })),
        (
          c.requires.named,
          c.requires.fine,
        ),
      ),
    )

pub read_child-returns-in-Err-clause-fails : goal.read_child-returns-in-Err-clause-fails
read_child-returns-in-Err-clause-fails t c =
    tells_map c.in-Err.stop _ _ (λ q at s. subst (λ (p : List ℕ). NodeStops (grammar_of c.args.root.now) (grammar_of c.args.node.now) c.args.inside p c.args.slots.now c.args.cur.now c.read_node.new.path q at) c.push.ensures s) c.in-Err.ensures.fails

pub read_contained-read_size-requires : goal.read_contained-read_size-requires
read_contained-read_size-requires t c = record { fine = c.requires.ready.1.is.0; read = contained_rule (grammar_of c.args.root.now) c.args.sizing.now (grammar_of c.args.node.now) (length c.args.path.now) c.args.slots.now c.items.result.now c.items.ensures c.requires.ready c.requires.fine }

pub read_contained-read_child-requires : goal.read_contained-read_child-requires
read_contained-read_child-requires t c = (search (rules, the_lemmas), (inner_node (grammar_of c.args.root.now) (grammar_of c.args.node.now) (suc (length c.args.path.now)) c.args.slots.now (contained_inner (grammar_of c.args.root.now) c.args.sizing.now (grammar_of c.args.node.now) (length c.args.path.now) c.args.slots.now c.requires.ready), (c.requires.named, c.requires.fine)))

pub read_contained-returns-then-left-lt8-clause-read : goal.read_contained-returns-then-left-lt8-clause-read
read_contained-returns-then-left-lt8-clause-read t c =
    let few = c.if-left-lt8.true in
    let left = c.left.ensures in
    contained_read (grammar_of c.args.root.now) c.args.sizing.now (grammar_of c.args.node.now) c.in-Ok.n (data_of c.in-Ok-read_child.value) c.args.slots.now c.read_child.new.slots c.items.result.now c.args.cur.now c.read_size.new.cur c.window.new.self c.in-Ok-window.window c.read_child.new.cur c.items.ensures c.in-Ok.ensures.read c.in-Ok-window.ensures.within c.in-Ok-window.ensures.window c.in-Ok-window.ensures.moved c.in-Ok-read_child.ensures.read (omega (arith, few, left))

pub read_contained-returns-else-left-lt8-clause-fails : goal.read_contained-returns-else-left-lt8-clause-fails
read_contained-returns-else-left-lt8-clause-fails t c =
    let many = c.if-left-lt8.false in
    let left = c.left.ensures in
    subst (λ (p : List ℕ). FormStops (grammar_of c.args.root.now) (contained c.args.sizing.now (grammar_of c.args.node.now)) (record { path = c.args.path.now; place = c.args.from; inside = c.args.inside }) c.args.cur.now.origin c.args.slots.now c.args.cur.now p (content_size c.in-Ok.n c.at.result) c.args.from) (sym c.in-Ok-read_child.ensures.path)
    (contained_overlong (grammar_of c.args.root.now) (record { path = c.args.path.now; place = c.args.from; inside = c.args.inside }) c.args.sizing.now (grammar_of c.args.node.now) c.in-Ok.n c.at.result (data_of c.in-Ok-read_child.value) c.args.slots.now c.read_child.new.slots c.items.result.now c.args.cur.now c.read_size.new.cur c.in-Ok-window.window c.read_child.new.cur c.items.ensures c.in-Ok.ensures.read c.requires.fine c.in-Ok-window.ensures.within c.in-Ok-window.ensures.window c.in-Ok-read_child.ensures.read (omega (arith, many, left)) c.at.ensures)

pub read_contained-returns-in-Err-read_child-clause-fails : goal.read_contained-returns-in-Err-read_child-clause-fails
read_contained-returns-in-Err-read_child-clause-fails t c =
    tells_map c.in-Err-read_child.stop _ _ (λ q at s. contained_fails (grammar_of c.args.root.now) (record { path = c.args.path.now; place = c.args.from; inside = c.args.inside }) c.args.sizing.now (grammar_of c.args.node.now) c.in-Ok.n c.args.slots.now c.items.result.now c.args.cur.now c.read_size.new.cur c.in-Ok-window.window _ q at c.items.ensures c.in-Ok.ensures.read c.in-Ok-window.ensures.within c.in-Ok-window.ensures.window s) c.in-Err-read_child.ensures.fails

pub read_contained-returns-in-Err-window-clause-fails : goal.read_contained-returns-in-Err-window-clause-fails
read_contained-returns-in-Err-window-clause-fails t c =
    contained_short (grammar_of c.args.root.now) (record { path = c.args.path.now; place = c.args.from; inside = c.args.inside }) c.args.sizing.now (grammar_of c.args.node.now) c.in-Ok.n c.args.slots.now c.items.result.now c.args.cur.now c.read_size.new.cur _ c.items.ensures c.in-Ok.ensures.read c.requires.fine c.named.ensures c.in-Err-window.ensures.short

pub read_contained-returns-in-Err-clause-fails : goal.read_contained-returns-in-Err-clause-fails
read_contained-returns-in-Err-clause-fails t c =
    tells_map c.in-Err.stop _ _ (λ q at s. contained_unsized (grammar_of c.args.root.now) (record { path = c.args.path.now; place = c.args.from; inside = c.args.inside }) c.args.sizing.now (grammar_of c.args.node.now) c.args.slots.now c.items.result.now c.args.cur.now q at c.items.ensures c.requires.fine s) c.in-Err.ensures.fails

pub read_list-read_size-requires : goal.read_list-read_size-requires
read_list-read_size-requires t c =
    let none = c.is_ended.ensures.sized c.if-is_ended.false in
    record { fine = list_sizing (grammar_of c.args.root.now) c.args.sizing.now (grammar_of c.args.node.now) (length c.args.path.now) c.args.slots.now none c.requires.ready; read = list_rule (grammar_of c.args.root.now) c.args.sizing.now (grammar_of c.args.node.now) (length c.args.path.now) c.args.slots.now c.items.result.now c.items.ensures c.requires.ready c.requires.fine }

pub read_list-read_run-requires : goal.read_list-read_run-requires
read_list-read_run-requires t c = (search (rules, the_lemmas), (c.in-Ok.ensures.few, (list_inner (grammar_of c.args.root.now) c.args.sizing.now (grammar_of c.args.node.now) (length c.args.path.now) c.args.slots.now c.requires.ready, (c.requires.named, c.requires.fine))))

pub read_list-returns-in-Ok-read_run-clause-read : goal.read_list-returns-in-Ok-read_run-clause-read
read_list-returns-in-Ok-read_run-clause-read t c =
    let none = c.is_ended.ensures.sized c.if-is_ended.false in
    let r = c.in-Ok-read_run.ensures.read c.args.from in
    subst (λ (d : Data). FormRead (grammar_of c.args.root.now) (list c.args.sizing.now (grammar_of c.args.node.now)) d c.args.slots.now c.read_run.new.slots c.args.cur.now c.read_run.new.cur) (sym (view_list_value c.in-Ok-read_run.values))
    (list_read (grammar_of c.args.root.now) (record { path = c.args.path.now; place = c.args.from; inside = c.args.inside }) c.read_size.new.cur.origin c.args.sizing.now (grammar_of c.args.node.now) c.in-Ok.n (map data_of c.in-Ok-read_run.values) c.args.slots.now c.read_run.new.slots c.items.result.now c.args.cur.now c.read_size.new.cur c.read_run.new.cur none c.items.ensures c.in-Ok.ensures.read (mapped_length c.in-Ok-read_run.values ∙ r.0) r.1)

pub read_list-returns-in-Err-read_run-clause-fails : goal.read_list-returns-in-Err-read_run-clause-fails
read_list-returns-in-Err-read_run-clause-fails t c =
    let none = c.is_ended.ensures.sized c.if-is_ended.false in
    tells_map c.in-Err-read_run.stop _ _ (λ q at s. list_fails (grammar_of c.args.root.now) (record { path = c.args.path.now; place = c.args.from; inside = c.args.inside }) c.read_size.new.cur.origin c.args.sizing.now (grammar_of c.args.node.now) c.in-Ok.n c.args.slots.now c.items.result.now c.args.cur.now c.read_size.new.cur _ q at none c.items.ensures c.in-Ok.ensures.read (s c.args.from)) c.in-Err-read_run.ensures.fails

pub read_list-returns-in-Err-clause-fails : goal.read_list-returns-in-Err-clause-fails
read_list-returns-in-Err-clause-fails t c =
    let none = c.is_ended.ensures.sized c.if-is_ended.false in
    tells_map c.in-Err.stop _ _ (λ q at s. list_unsized (grammar_of c.args.root.now) (record { path = c.args.path.now; place = c.args.from; inside = c.args.inside }) c.args.sizing.now (grammar_of c.args.node.now) c.args.slots.now c.items.result.now c.args.cur.now q at none c.items.ensures c.requires.fine s) c.in-Err.ensures.fails

pub read_run-loop-i-init : goal.read_run-loop-i-init
read_run-loop-i-init t c = record {
  path = refl;
  count = ap length c.new-values.ensures;
  turn = λ place. rw c.new-values.ensures (no_run (grammar_of c.args.root.now) (record { path = c.args.path.now; place = place; inside = c.args.inside }) c.args.cur.now.origin (grammar_of c.args.node.now) 0 c.args.slots.now c.args.cur.now c.requires.fine);
}

pub read_run-read_child-requires : goal.read_run-read_child-requires
read_run-read_child-requires t c =
    let l = c.loop-i in
    let p = l.invariant.turn 0 in (
      search (rules, the_lemmas),
      (
        subst (λ (path : List ℕ). (around : List ℕ) × NodeStands (grammar_of c.args.root.now) (suc (length path)) (grammar_of c.args.node.now) l.slots around) (sym l.invariant.path)
            (inner_node (grammar_of c.args.root.now) (grammar_of c.args.node.now) (suc (length c.args.path.now)) l.slots (run_stands (grammar_of c.args.root.now) (record { path = c.args.path.now; place = 0; inside = c.args.inside }) c.args.cur.now.origin (grammar_of c.args.node.now) 0 (suc (length c.args.path.now)) (map data_of l.values) c.args.slots.now l.slots c.args.cur.now l.cur p c.requires.ready)),
        (c.requires.named, p.fine),
      ),
    )

pub read_run-returns-in-Err-clause-fails : goal.read_run-returns-in-Err-clause-fails
read_run-returns-in-Err-clause-fails t c =
    let l = c.loop-i in
    tells_map c.in-Err.stop _ _ (λ q at s place. run_stops_at (grammar_of c.args.root.now) place c.args.inside c.args.path.now l.path c.args.cur.now.origin (grammar_of c.args.node.now) c.args.n l.i (map data_of l.values) c.args.slots.now l.slots c.args.cur.now l.cur _ q at (l.invariant.turn place).window (mapped_length l.values ∙ l.invariant.count) c.loop-i-test.true l.invariant.path (l.invariant.turn place) s) c.in-Err.ensures.fails

pub read_run-returns-clause-read : goal.read_run-returns-clause-read
read_run-returns-clause-read t c place =
    let l = c.loop-i in
    let over = c.loop-i-test.false in
    let within = l.auto.i-end in
    (l.invariant.count ∙ omega (arith, over, within), l.invariant.turn place)

pub read_run-returns-clause-path : goal.read_run-returns-clause-path
read_run-returns-clause-path t c = c.loop-i.invariant.path

pub read_run-loop-i-preserved : goal.read_run-loop-i-preserved
read_run-loop-i-preserved t c =
    let l = c.loop-i in
    record {
      path = c.in-Ok.ensures.path ∙ l.invariant.path;
      count = ap length c.in_ok-push-in-Ok.ensures.ok ∙ (length-append l.values (c.in-Ok.value ∷ []) ∙ ap (λ (n : ℕ). n + 1) l.invariant.count);
      turn = λ place. run_next (grammar_of c.args.root.now) place c.args.inside c.args.path.now l.path c.args.cur.now.origin (grammar_of c.args.node.now) (map data_of l.values) (data_of c.in-Ok.value) (map data_of c.push.new.self) c.args.slots.now l.slots c.read_child.new.slots c.args.cur.now l.cur c.read_child.new.cur (ap (map data_of) c.in_ok-push-in-Ok.ensures.ok ∙ map-append data_of l.values (c.in-Ok.value ∷ [])) (l.invariant.turn place) c.in-Ok.ensures.read;
    }

pub read_choice-pick-requires : goal.read_choice-pick-requires
read_choice-pick-requires t c = record {
  few = choice_few (grammar_of c.args.root.now) c.args.alternatives.now c.args.alternatives.now c.args.rule (length c.args.path.now) c.args.slots.now refl c.requires.ready;
  known = choice_rule_known (grammar_of c.args.root.now) c.args.alternatives.now c.args.alternatives.now c.args.rule (length c.args.path.now) c.args.slots.now c.items.result.now refl c.items.ensures c.requires.fine c.requires.ready;
  fits = choice_fits (grammar_of c.args.root.now) c.args.alternatives.now c.args.rule (length c.args.path.now) c.args.slots.now c.requires.ready;
}

pub read_choice-read_alternative-requires : goal.read_choice-read_alternative-requires
read_choice-read_alternative-requires t c = (
  search (rules, the_lemmas),
  (
    let there = c.in-Ok.ensures.picked.there in let n = count_cases c.args.alternatives.now in omega (arith, there, n),
    (choice_inner (grammar_of c.args.root.now) c.args.alternatives.now c.args.alternatives.now c.args.rule (length c.args.path.now) c.args.slots.now refl c.requires.ready, (c.requires.named, c.requires.fine)),
  ),
)

pub read_choice-returns-in_ok-boxed-in-Ok-read_alternative-clause-read : goal.read_choice-returns-in_ok-boxed-in-Ok-read_alternative-clause-read
read_choice-returns-in_ok-boxed-in-Ok-read_alternative-clause-read t c =
    choice_read_at (grammar_of c.args.root.now) (choice (alternatives_view c.args.alternatives.now) c.args.rule) c.args.alternatives.now c.args.alternatives.now c.args.rule c.in-Ok.i _ c.in-Ok-read_alternative.value c.args.slots.now c.read_alternative.new.slots c.items.result.now c.args.cur.now c.pick.new.cur c.read_alternative.new.cur refl refl c.items.ensures (ap (AltValue c.in-Ok.i) c.in_ok-boxed-in-Ok-read_alternative.ensures) c.in-Ok.ensures.picked
    c.in-Ok-read_alternative.ensures.read

pub read_choice-returns-in-Err-read_alternative-clause-fails : goal.read_choice-returns-in-Err-read_alternative-clause-fails
read_choice-returns-in-Err-read_alternative-clause-fails t c =
    tells_map c.in-Err-read_alternative.stop _ _ (λ q at s. choice_fails_at (grammar_of c.args.root.now) (choice (alternatives_view c.args.alternatives.now) c.args.rule) (record { path = c.args.path.now; place = c.args.from; inside = c.args.inside }) c.args.alternatives.now c.args.alternatives.now c.args.rule c.in-Ok.i c.args.slots.now c.items.result.now c.args.cur.now c.pick.new.cur _ q at refl refl c.items.ensures c.in-Ok.ensures.picked s) c.in-Err-read_alternative.ensures.fails

pub read_choice-returns-in-Err-clause-fails : goal.read_choice-returns-in-Err-clause-fails
read_choice-returns-in-Err-clause-fails t c =
    tells_map c.in-Err.stop _ _ (λ q at s. choice_none_at (grammar_of c.args.root.now) (choice (alternatives_view c.args.alternatives.now) c.args.rule) (record { path = c.args.path.now; place = c.args.from; inside = c.args.inside }) c.args.alternatives.now c.args.alternatives.now c.args.rule c.args.slots.now c.items.result.now c.args.cur.now q at refl refl c.items.ensures c.requires.fine s) c.in-Err.ensures.fails

pub read_body-read_choice-requires : goal.read_body-read_choice-requires
read_body-read_choice-requires t c = (
  let a = size_is-Choice c.in-Choice.choice in let b = ap size-Body c.in-Choice.is in let items = c.items-in-Choice.ensures in search (rules, the_lemmas, a, b, items),
  (
    body_choice (grammar_of c.args.root.now) (form_of c.args.body.now) (out-Choice c.in-Choice.choice).alternatives c.items-in-Choice.result.now (out-Choice c.in-Choice.choice).rule (length c.args.path.now) c.args.slots.now (ap form_of c.in-Choice.is ∙ view_choice c.in-Choice.choice) c.items-in-Choice.ensures c.requires.ready,
    (
      choice_named (form_of c.args.body.now) (out-Choice c.in-Choice.choice).alternatives c.items-in-Choice.result.now (out-Choice c.in-Choice.choice).rule (ap form_of c.in-Choice.is ∙ view_choice c.in-Choice.choice) c.items-in-Choice.ensures c.requires.named,
      c.requires.fine,
    ),
  ),
)

pub read_body-returns-in-Choice-clause-read : goal.read_body-returns-in-Choice-clause-read
read_body-returns-in-Choice-clause-read t c =
    ok_map c.read_choice.result _ _ (λ v f. subst (λ (x : Form). FormRead (grammar_of c.args.root.now) x (data_of v) c.args.slots.now c.read_choice.new.slots c.args.cur.now c.read_choice.new.cur) (sym (body_is (form_of c.args.body.now) (out-Choice c.in-Choice.choice).alternatives c.items-in-Choice.result.now (out-Choice c.in-Choice.choice).rule (ap form_of c.in-Choice.is ∙ view_choice c.in-Choice.choice) c.items-in-Choice.ensures)) f) c.read_choice.ensures.read

pub read_body-returns-in-Choice-clause-fails : goal.read_body-returns-in-Choice-clause-fails
read_body-returns-in-Choice-clause-fails t c =
    body_choice_fails (grammar_of c.args.root.now) (form_of c.args.body.now) (out-Choice c.in-Choice.choice).alternatives c.items-in-Choice.result.now (out-Choice c.in-Choice.choice).rule (record { path = c.args.path.now; place = c.args.from; inside = c.args.inside }) c.args.cur.now.origin c.args.slots.now c.args.cur.now c.read_choice.new.path c.read_choice.result (ap form_of c.in-Choice.is ∙ view_choice c.in-Choice.choice) c.items-in-Choice.ensures c.read_choice.ensures.fails

pub read_alternative-read_child-requires : goal.read_alternative-read_child-requires
read_alternative-read_child-requires t c = (
  search (rules, the_lemmas, alternative_lemmas),
  (
    inner_node (grammar_of c.args.root.now) (grammar_of c.in-Some.alternative.now.node) (suc (length c.args.path.now)) c.args.slots.now (case_inner (grammar_of c.args.root.now) c.args.alternatives.now c.args.i c.in-Some.alternative.now (suc (length c.args.path.now)) c.args.slots.now (case_at c.args.alternatives.now c.args.i c.in-Some.alternative.now _ c.requires.there c.in-Some.ensures.lookup.1) c.requires.ready),
    (
      view_named c.args.alternatives.now c.args.i c.in-Some.alternative.now (case_at c.args.alternatives.now c.args.i c.in-Some.alternative.now _ c.requires.there c.in-Some.ensures.lookup.1) c.requires.named,
      c.requires.fine,
    ),
  ),
)

pub read_alternative-returns-clause-read : goal.read_alternative-returns-clause-read
read_alternative-returns-clause-read t c = alternative_read (grammar_of c.args.root.now) c.args.alternatives.now c.args.i c.in-Some.alternative.now c.args.slots.now c.read_child.new.slots c.args.cur.now c.read_child.new.cur c.read_child.result (case_at c.args.alternatives.now c.args.i c.in-Some.alternative.now _ c.requires.there c.in-Some.ensures.lookup.1) c.read_child.ensures.read

pub read_alternative-returns-clause-fails : goal.read_alternative-returns-clause-fails
read_alternative-returns-clause-fails t c = alternative_fails (grammar_of c.args.root.now) c.args.alternatives.now c.args.i c.in-Some.alternative.now c.args.inside (c.args.path.now ++ c.args.i ∷ []) c.read_child.new.path c.args.slots.now c.args.cur.now c.read_child.result (case_at c.args.alternatives.now c.args.i c.in-Some.alternative.now _ c.requires.there c.in-Some.ensures.lookup.1) c.read_child.ensures.fails

pub read_body-read_text-requires-clause-read : goal.read_body-read_text-requires-clause-read
read_body-read_text-requires-clause-read t c = text_rule (grammar_of c.args.root.now) (form_of c.args.body.now) c.in-Text.leaf (length c.args.path.now) c.args.slots.now c.items-in-Text.result.now (ap form_of c.in-Text.is ∙ view_text c.in-Text.leaf) c.items-in-Text.ensures c.requires.ready c.requires.fine

pub read_body-returns-in-Text-clause-read : goal.read_body-returns-in-Text-clause-read
read_body-returns-in-Text-clause-read t c = form_passed_at (grammar_of c.args.root.now) (text c.in-Text.leaf) (form_of c.args.body.now) c.args.slots.now c.items-in-Text.result.now c.args.cur.now c.read_text.new.cur c.read_text.result (ap form_of c.in-Text.is ∙ view_text c.in-Text.leaf) c.items-in-Text.ensures (λ ks. refl) c.requires.fine c.read_text.ensures.read

pub read_body-returns-in-Text-clause-fails : goal.read_body-returns-in-Text-clause-fails
read_body-returns-in-Text-clause-fails t c = form_fails_at (grammar_of c.args.root.now) (text c.in-Text.leaf) (form_of c.args.body.now) (record { path = c.args.path.now; place = c.args.from; inside = c.args.inside }) c.args.slots.now c.items-in-Text.result.now c.args.cur.now c.read_text.result (ap form_of c.in-Text.is ∙ view_text c.in-Text.leaf) c.items-in-Text.ensures c.requires.fine c.read_text.ensures.fails

pub read_elements-loop-i-init : goal.read_elements-loop-i-init
read_elements-loop-i-init t c = record {
  path = refl;
  count = ap length c.new-values.ensures;
  turn = λ place. rw c.new-values.ensures (no_run (grammar_of c.args.root.now) (record { path = c.args.path.now; place = place; inside = c.args.inside }) c.args.cur.now.origin (grammar_of c.args.node.now) 0 c.args.slots.now c.args.cur.now c.requires.fine);
}

pub read_elements-read_child-requires : goal.read_elements-read_child-requires
read_elements-read_child-requires t c =
    let l = c.loop-i in
    let p = l.invariant.turn 0 in (
      search (rules, the_lemmas),
      (
        subst (λ (path : List ℕ). (around : List ℕ) × NodeStands (grammar_of c.args.root.now) (suc (length path)) (grammar_of c.args.node.now) l.slots around) (sym l.invariant.path)
            (inner_node (grammar_of c.args.root.now) (grammar_of c.args.node.now) (suc (length c.args.path.now)) l.slots (run_stands (grammar_of c.args.root.now) (record { path = c.args.path.now; place = 0; inside = c.args.inside }) c.args.cur.now.origin (grammar_of c.args.node.now) 0 (suc (length c.args.path.now)) (map data_of l.values) c.args.slots.now l.slots c.args.cur.now l.cur p c.requires.ready)),
        (c.requires.named, p.fine),
      ),
    )

pub read_elements-loop-i-preserved : goal.read_elements-loop-i-preserved
read_elements-loop-i-preserved t c =
    let l = c.loop-i in
    record {
      path = c.in-Ok-read_child.ensures.path ∙ l.invariant.path;
      count = ap length c.in_ok-push-in-Ok-read_child.ensures.ok ∙ (length-append l.values (c.in-Ok-read_child.value ∷ []) ∙ ap (λ (n : ℕ). n + 1) l.invariant.count);
      turn = λ place. run_next (grammar_of c.args.root.now) place c.args.inside c.args.path.now l.path c.args.cur.now.origin (grammar_of c.args.node.now) (map data_of l.values) (data_of c.in-Ok-read_child.value) (map data_of c.push.new.self) c.args.slots.now l.slots c.read_child.new.slots c.args.cur.now l.cur c.read_child.new.cur (ap (map data_of) c.in_ok-push-in-Ok-read_child.ensures.ok ∙ map-append data_of l.values (c.in-Ok-read_child.value ∷ [])) (l.invariant.turn place) c.in-Ok-read_child.ensures.read;
    }

pub read_ended-read_elements-requires : goal.read_ended-read_elements-requires
read_ended-read_elements-requires t c = (search (rules, the_lemmas), (list_inner (grammar_of c.args.root.now) c.args.sizing.now (grammar_of c.args.node.now) (length c.args.path.now) c.args.slots.now c.requires.ready, (c.requires.named, c.requires.fine)))

pub read_ended-returns-in-Ok-clause-read : goal.read_ended-returns-in-Ok-clause-read
read_ended-returns-in-Ok-clause-read t c =
    subst (λ (d : Data). FormRead (grammar_of c.args.root.now) (list c.args.sizing.now (grammar_of c.args.node.now)) d c.args.slots.now c.read_elements.new.slots c.args.cur.now c.read_elements.new.cur) (sym (view_list_value c.in-Ok.values))
    (ended_list (grammar_of c.args.root.now) c.args.inside c.args.path.now c.args.sizing.now (grammar_of c.args.node.now) c.pattern_of.result.now (map data_of c.in-Ok.values) c.args.slots.now c.read_elements.new.slots c.args.cur.now c.read_elements.new.cur c.pattern_of.ensures c.in-Ok.ensures.read)

pub read_ended-returns-in-Err-clause-fails : goal.read_ended-returns-in-Err-clause-fails
read_ended-returns-in-Err-clause-fails t c =
    tells_map c.in-Err.stop _ _ (λ q at s. ended_fails (grammar_of c.args.root.now) (record { path = c.args.path.now; place = c.args.from; inside = c.args.inside }) c.args.sizing.now (grammar_of c.args.node.now) c.pattern_of.result.now c.args.slots.now c.args.cur.now _ q at c.pattern_of.ensures s) c.in-Err.ensures.fails

pub read_elements-returns-in-Err-clause-fails : goal.read_elements-returns-in-Err-clause-fails
read_elements-returns-in-Err-clause-fails t c =
    let l = c.loop-i in
    let less = c.loop-i-test.true in
    tells_map c.in-Err.stop _ _ (λ q at s. end_stops_to (grammar_of c.args.root.now) c.args.from c.args.inside c.args.path.now l.path c.args.cur.now.origin (grammar_of c.args.node.now) c.args.end.now c.args.sizing.now c.most_of-most.result _ l.i (map data_of l.values) c.args.slots.now l.slots c.args.cur.now l.cur q at c.most_of-most.ensures.most l.invariant.path (mapped_length l.values ∙ l.invariant.count) (omega (arith, less)) (l.invariant.turn c.args.from) s) c.in-Err.ensures.fails

pub read_elements-returns-in-Err-read_child-clause-fails : goal.read_elements-returns-in-Err-read_child-clause-fails
read_elements-returns-in-Err-read_child-clause-fails t c =
    let l = c.loop-i in
    tells_map c.in-Err-read_child.stop _ _ (λ q at s. next_fails_to (grammar_of c.args.root.now) c.args.from c.args.inside c.args.path.now l.path c.args.cur.now.origin (grammar_of c.args.node.now) c.args.end.now c.args.sizing.now c.most_of-most.result _ l.i (map data_of l.values) c.args.slots.now l.slots c.args.cur.now l.cur _ q at c.most_of-most.ensures.most (l.invariant.turn c.args.from).window (mapped_length l.values ∙ l.invariant.count) c.loop-i-test.true l.invariant.path (c.stands.ensures.away c.if-stands.false) (l.invariant.turn c.args.from) s) c.in-Err-read_child.ensures.fails

pub read_elements-returns-in-Err-pass_end-clause-fails : goal.read_elements-returns-in-Err-pass_end-clause-fails
read_elements-returns-in-Err-pass_end-clause-fails t c =
    let l = c.loop-i in
    let over = c.loop-i-test.false in
    let within = l.auto.i-end in
    let count : length (map data_of l.values) ≡ c.most_of-most.result = mapped_length l.values ∙ (l.invariant.count ∙ omega (arith, over, within)) in
    tells_map c.in-Err-pass_end.stop _ _ (λ q at s. end_stops_to (grammar_of c.args.root.now) c.args.from c.args.inside c.args.path.now l.path c.args.cur.now.origin (grammar_of c.args.node.now) c.args.end.now c.args.sizing.now c.most_of-most.result _ c.most_of-most.result (map data_of l.values) c.args.slots.now l.slots c.args.cur.now l.cur q at c.most_of-most.ensures.most l.invariant.path count (omega arith) (l.invariant.turn c.args.from) s) c.in-Err-pass_end.ensures.fails

pub read_elements-returns-else-stands-2-clause-fails : goal.read_elements-returns-else-stands-2-clause-fails
read_elements-returns-else-stands-2-clause-fails t c =
    let l = c.loop-i in
    let over = c.loop-i-test.false in
    let within = l.auto.i-end in
    let count : length (map data_of l.values) ≡ c.most_of-most.result = mapped_length l.values ∙ (l.invariant.count ∙ omega (arith, over, within)) in
    tells_map c.no_end.result _ _ (λ q at s. none_stops_to (grammar_of c.args.root.now) c.args.from c.args.inside c.args.path.now l.path c.args.cur.now.origin (grammar_of c.args.node.now) c.args.end.now c.args.sizing.now c.most_of-most.result _ (map data_of l.values) c.args.slots.now l.slots c.args.cur.now l.cur q at c.most_of-most.ensures.most l.invariant.path count (l.invariant.turn c.args.from) s) c.no_end.ensures.fails
