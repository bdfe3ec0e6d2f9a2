use Rattle.std.proofs.Common.{◌≡◌, ℕ, ℤ, zero, suc, ◌+◌, ◌≤◌, Bool, true, false, List, [], ◌∷◌, ◌++◌, length, take, drop, ◌-◌, get_or, Option, None, Some, refl, sym, ap, subst, ◌∙◌, arith, rules, slice_get, drop_of_length-le}
use Rattle.std.proofs.lemmas.Grind.{common_steps}
use Rattle.std.proofs.lemmas.Bool.{ltb-true}
use Rattle.std.specs.Result.{is_ok}
use Rattle.std.specs.Int.{w128}
use Rattle.std.proofs.lemmas.Int.{to_z-of_z}
use Rattle.serde_json.specs.Written.{compact_text, members_text}
use Rattle.acn_grammar.specs.Env.{Env}
use Rattle.acn_grammar.specs.Length.{number_of}
use Rattle.acn_grammar.specs.Grammar.{Grammar, Form, Fields, node, num, octets, bits, text, seq, choice, component, no_fields, no_places, record_of, list_of, alt, octet_string, bit_string, characters}
use Rattle.acn_grammar.specs.View.{OneField, grammar_of, form_of, field_of, fields_view, with_field, alternatives_view, places_of, elements_of}
use Rattle.acn_grammar.specs.declared.node.Alternative.{the_lemmas as alternative_lemmas}
use Rattle.acn_grammar.specs.declared.node.Body.TheVariants.{Choice as Choice_body, Seq as Seq_body}
use Rattle.acn_grammar.specs.declared.node.Choice.{out-Choice, size_is-Choice}
use Rattle.acn_grammar.specs.declared.node.Field.{Field}
use Rattle.acn_grammar.specs.declared.node.Node.{the_lemmas}
use Rattle.acn_grammar.proofs.Views.{view_node, view_component, view_inserted, view_seq_form}
use Rattle.acn_json.specs.Lines.{json_of}
use Rattle.acn_lines.specs.Order.{IsFormOrder, AreAlternativeOrders, AreFieldOrders, AreTurns, in_order}
use Rattle.acn_lines.specs.declared.order.Order.{Order, out-Order}
use Rattle.acn_lines.proofs.Parts.{orders-within, order-here, alternatives-within, alternative-here}
use Rattle.acn_reads.specs.Choices.{Picked}
use Rattle.acn_reads.specs.Decoded.{FormStands, NodeRead, FormRead, Turn, Passes, placed}
use Rattle.acn_reads.specs.Present.{there_now}
use Rattle.acn_reads.specs.Steps.{noted_by}
use Rattle.acn_reads.proofs.Small.{number_is}
use Rattle.acn_reads.proofs.ChoiceReads.{body_is, choice_few, choice_rule_known, choice_fits, choice_inner, choice_named, choice_read, case_there, case_at, case_inner, count_cases, same_case, view_choice, view_named}
use Rattle.acn_reads.proofs.EndReads.{ended_list}
use Rattle.acn_reads.proofs.Loops.{fields_from, next_ready, all_turns, named_at}
use Rattle.acn_reads.proofs.Nodes.{inner_node, node_of_number, node_read, num_read}
use Rattle.acn_reads.proofs.Runs.{contained_read, contained_rule, list_read, list_rule, no_run, one_more_run, run_stands}
use Rattle.acn_reads.proofs.Seqs.{fields_named, fields_ready, flags_are}
use Rattle.acn_reads.proofs.SlotTurns.{component_read}
use Rattle.acn_reads.proofs.StringReads.{bits_rule, form_passed, octets_rule, text_rule, view_bits, view_octets, view_text}
use Rattle.acn_reads.proofs.Turns.{away_turn, more_turns, no_turn, there_told}
use Rattle.acn_transcode.specs.Puts.{Puts, Lays, LaysFields, Shows, IsNumber, AreLaid}
use Rattle.acn_transcode.specs.declared.draft.Draft.{Draft}
use Rattle.acn_transcode.specs.declared.draft.Part.TheVariants.{Number}
use Rattle.acn_transcode.proofs.NumberTexts.{value_read}
use Rattle.acn_cut.specs.Stretches.{IsRun, IsStretch, AreStretches}
use Rattle.acn_cut.specs.declared.stretch.Stretch.{Stretch}
use Rattle.acn_cut.proofs.Runs.{stretch_at}
use Rattle.acn_grammar.specs.Fails.{Here}
use Rattle.acn_transcode.proofs.Stretches.{named_from, stretch_end}
use Rattle.acn_transcode.proofs.Walks.{all_laid, alternative_put, array_put, away_laid, fields_laid, front_left, if_true, item_put, laid_of, later_is, more_laid, no_err, no_items_put, none_laid, number_shown, object_put, one_longer, passed_laid, seen_form, seq_put_read, text_shown, there_laid, view_num, when_ok}
use Rattle.acn_transcode.proofs.walk.+put.Goals.{put_list-then-is_ended+else-not-put_elements, put_list-else-is_ended+in-Some+else-not-put_run}
use Rattle.acn_transcode.proofs.walk.+put.Goals as goal

pub lay_present-returns-in-Some : goal.lay_present-returns-in-Some
lay_present-returns-in-Some t c =
    let q = c.in-Some.ensures.read in
    let leaf = c.in-Num-default.leaf in
    let x = c.in-Some.x in
    let plain = to_z-of_z w128 x (record { sfits = search rules }) in
    let v = node_of_number c.args.node.now leaf c.in-Num-default.is-0 in
    let root = grammar_of c.args.root.now in
    let old = c.args.draft.now in
    let slots = old.slots.items in
    let new : Draft = record { text = old.text; aside = old.aside; parts = old.parts; slots = c.note_number.new.slots } in
    let is : IsNumber (node c.args.node.now.align (num leaf)) x q.0 = (search rules, search rules, q.2, q.1) in
    record {
      laid = (
        q.0,
        (slots, q.4 ∙ ap (λ y. noted_by c.args.slot y slots) (sym (number_is leaf.kind q.0 x q.1)), subst (λ (g : Grammar). NodeRead root g q.0 slots slots c.args.cur.now c.note_number.new.cur) (sym v) (node_read root c.args.node.now.align (num leaf) q.0 slots slots c.args.cur.now c.pad.new.cur c.note_number.new.cur c.in-Ok.ensures.passed (num_read root leaf q.0 slots c.pad.new.cur c.note_number.new.cur c.requires.fine (value_read leaf q.0 x c.pad.new.cur c.note_number.new.cur q.1 q.3)))),
        subst (λ (y : ℤ). Shows (grammar_of c.args.node.now) (Number y) q.0 old new) (sym plain) (subst (λ (g : Grammar). Shows g (Number x) q.0 old new) (sym v) (number_shown c.args.node.now.align leaf x q.0 old new is refl refl refl)),
      );
    }

pub lay_present-returns-else-not-put_node : goal.lay_present-returns-else-not-put_node
lay_present-returns-else-not-put_node t c =
    let q = c.put_node.ensures.put c.if-not-put_node.false in
    let from : c.len-from.result ≡ length c.args.draft.now.text.items = search rules in
    let to : c.len.result ≡ length c.put_node.new.draft.text.items = search rules in
    let noted : c.put_node.new.draft.slots.items ≡ noted_by c.args.slot (number_of q.0) c.put_node.new.draft.slots.items = search rules in
    record { laid = (q.0, (c.put_node.new.draft.slots.items, noted, q.1), text_shown (grammar_of c.args.node.now) q.0 (record { from = c.len-from.result; to = c.len.result }) c.args.draft.now c.put_node.new.draft q.2 from to) }

pub put_alternative-bounds-orders-i : goal.put_alternative-bounds-orders-i
put_alternative-bounds-orders-i t c = alternatives-within c.args.alternatives.now c.args.orders.now c.args.i c.requires.orders c.requires.there

pub put_alternative-put_node-requires : goal.put_alternative-put_node-requires
put_alternative-put_node-requires t c =
    let as' = c.args.alternatives.now in
    let a = c.in-Some.alternative.now in
    let r = c.requires.ready in
    let at = case_at as' c.args.i a _ c.requires.there c.in-Some.ensures.lookup.1 in
    let same : a ≡ get_or as' c.args.i a = grind (arith, common_steps) in
    let q = inner_node (grammar_of c.args.root.now) (grammar_of a.node) r.0 c.args.draft.now.slots.items (case_inner (grammar_of c.args.root.now) as' c.args.i a r.0 c.args.draft.now.slots.items at (r.1, r.2)) in
    (search (rules, the_lemmas, alternative_lemmas), ((r.0, q.0, q.1), (view_named as' c.args.i a at c.requires.named, (c.requires.fine, alternative-here as' c.args.orders.now c.args.i a c.index-orders-i.result c.requires.orders c.requires.there same c.index-orders-i.is))))

pub put_alternative-returns-else-not-put_node : goal.put_alternative-returns-else-not-put_node
put_alternative-returns-else-not-put_node t c =
    let as' = c.args.alternatives.now in
    let a = c.in-Some.alternative.now in
    let at = case_at as' c.args.i a _ c.requires.there c.in-Some.ensures.lookup.1 in
    let p = c.put_node.ensures.put c.if-not-put_node.false in
    record {
      put = λ sure.
          let opened = no_err c.put_octet.result (sym c.is_err.ensures.value ∙ c.if-is_err.false) c.put_octet.ensures.added in
          let keyed = no_err c.put_key.result (sym c.is_err-else-is_err.ensures.value ∙ c.if-is_err-2.false) c.put_key.ensures.added in
          let closed = when_ok c.put_octet-in-Some.result (sym c.is_ok.ensures.value ∙ sure) c.put_octet-in-Some.ensures.added in (
            p.0,
            λ g e. subst (λ (x : Grammar). NodeRead (grammar_of c.args.root.now) x p.0 c.args.draft.now.slots.items c.put_node.new.draft.slots.items c.args.cur.now c.put_node.new.cur) (same_case as' c.args.i a g at e) p.1,
            record {
              added = alternative_put as' c.args.i a p.0 c.args.draft.now.text.items c.put_octet.new.out.items c.put_key.new.out.items c.put_node.new.draft.text.items c.put_octet-in-Some.new.out.items at opened (keyed ∙ ap (λ (n : List ℕ). c.put_octet.new.out.items ++ (Rattle.json.specs.Print.quoted n ++ 58 ∷ [])) c.bytes.ensures) p.2.added closed;
              aside = p.2.aside;
              parts = p.2.parts;
            },
          );
    }

pub put_body-put_octets-requires-clause-read : goal.put_body-put_octets-requires-clause-read
put_body-put_octets-requires-clause-read t c = (let r = c.requires.ready in octets_rule (grammar_of c.args.root.now) (form_of c.args.body.now) c.in-Octets.sizing r.0 c.args.draft.now.slots.items c.deref.result.now (ap form_of c.in-Octets.is ∙ view_octets c.in-Octets.sizing) c.deref.ensures.value (r.1, r.2) c.requires.fine)

pub put_body-put_bits-requires-clause-read : goal.put_body-put_bits-requires-clause-read
put_body-put_bits-requires-clause-read t c = (let r = c.requires.ready in bits_rule (grammar_of c.args.root.now) (form_of c.args.body.now) c.in-Bits.sizing r.0 c.args.draft.now.slots.items c.deref-in-Bits.result.now (ap form_of c.in-Bits.is ∙ view_bits c.in-Bits.sizing) c.deref-in-Bits.ensures.value (r.1, r.2) c.requires.fine)

pub put_body-put_text-requires-clause-read : goal.put_body-put_text-requires-clause-read
put_body-put_text-requires-clause-read t c = (let r = c.requires.ready in text_rule (grammar_of c.args.root.now) (form_of c.args.body.now) c.in-Text.leaf r.0 c.args.draft.now.slots.items c.deref-in-Text.result.now (ap form_of c.in-Text.is ∙ view_text c.in-Text.leaf) c.deref-in-Text.ensures.value (r.1, r.2) c.requires.fine)

pub put_body-returns-in-Num : goal.put_body-returns-in-Num
put_body-returns-in-Num t c = record {
  put = λ sure.
      let p = c.put_leaf.ensures.put sure in
      seen_form (grammar_of c.args.root.now) (form_of c.args.body.now) (num c.in-Num.leaf) c.args.draft.now.slots.items c.put_leaf.new.draft.slots.items c.args.cur.now c.put_leaf.new.cur c.args.draft.now c.put_leaf.new.draft (ap form_of c.in-Num.is ∙ view_num c.in-Num.leaf) (
        p.0,
        subst (λ (x : Env). FormRead (grammar_of c.args.root.now) (num c.in-Num.leaf) p.0 c.args.draft.now.slots.items x c.args.cur.now c.put_leaf.new.cur) (sym p.3) (num_read (grammar_of c.args.root.now) c.in-Num.leaf p.0 c.args.draft.now.slots.items c.args.cur.now c.put_leaf.new.cur c.requires.fine p.1),
        p.2,
      );
}

pub put_body-returns-in-Octets : goal.put_body-returns-in-Octets
put_body-returns-in-Octets t c = record {
  put = λ sure.
      let p = c.put_octets.ensures.put sure in
      let form = octets c.in-Octets.sizing in
      seen_form (grammar_of c.args.root.now) (form_of c.args.body.now) form c.args.draft.now.slots.items c.args.draft.now.slots.items c.args.cur.now c.put_octets.new.cur c.args.draft.now _ (ap form_of c.in-Octets.is ∙ view_octets c.in-Octets.sizing) (
        octet_string p.0,
        form_passed (grammar_of c.args.root.now) form (octet_string p.0) c.args.draft.now.slots.items c.args.cur.now c.put_octets.new.cur (λ ks. refl) c.requires.fine (subst (λ (x : Env). Passes (λ env. Rattle.acn_grammar.specs.Spell.FormPart (grammar_of c.args.root.now) Rattle.acn_grammar.specs.Code.Any form env (octet_string p.0)) x c.args.cur.now c.put_octets.new.cur) c.deref.ensures.value (p.1 (grammar_of c.args.root.now))),
        record { added = p.2; aside = refl; parts = refl },
      );
}

pub put_body-returns-in-Bits : goal.put_body-returns-in-Bits
put_body-returns-in-Bits t c = record {
  put = λ sure.
      let p = c.put_bits.ensures.put sure in
      let form = bits c.in-Bits.sizing in
      seen_form (grammar_of c.args.root.now) (form_of c.args.body.now) form c.args.draft.now.slots.items c.args.draft.now.slots.items c.args.cur.now c.put_bits.new.cur c.args.draft.now _ (ap form_of c.in-Bits.is ∙ view_bits c.in-Bits.sizing) (
        bit_string p.0,
        form_passed (grammar_of c.args.root.now) form (bit_string p.0) c.args.draft.now.slots.items c.args.cur.now c.put_bits.new.cur (λ ks. refl) c.requires.fine (subst (λ (x : Env). Passes (λ env. Rattle.acn_grammar.specs.Spell.FormPart (grammar_of c.args.root.now) Rattle.acn_grammar.specs.Code.Any form env (bit_string p.0)) x c.args.cur.now c.put_bits.new.cur) c.deref-in-Bits.ensures.value (p.1 (grammar_of c.args.root.now))),
        record { added = p.2; aside = refl; parts = refl },
      );
}

pub put_body-returns-in-Text : goal.put_body-returns-in-Text
put_body-returns-in-Text t c = record {
  put = λ sure.
      let p = c.put_text.ensures.put sure in
      let form = text c.in-Text.leaf in
      seen_form (grammar_of c.args.root.now) (form_of c.args.body.now) form c.args.draft.now.slots.items c.args.draft.now.slots.items c.args.cur.now c.put_text.new.cur c.args.draft.now _ (ap form_of c.in-Text.is ∙ view_text c.in-Text.leaf) (
        characters p.0,
        form_passed (grammar_of c.args.root.now) form (characters p.0) c.args.draft.now.slots.items c.args.cur.now c.put_text.new.cur (λ ks. refl) c.requires.fine (subst (λ (x : Env). Passes (λ env. Rattle.acn_grammar.specs.Spell.FormPart (grammar_of c.args.root.now) Rattle.acn_grammar.specs.Code.Any form env (characters p.0)) x c.args.cur.now c.put_text.new.cur) c.deref-in-Text.ensures.value (p.1 (grammar_of c.args.root.now))),
        record { added = p.2; aside = c.put_text.ensures.aside sure; parts = refl },
      );
}

pub put_choice-pick-requires-clause-few : goal.put_choice-pick-requires-clause-few
put_choice-pick-requires-clause-few t c =
    let inside = out-Choice c.args.choice.now in
    let r = c.requires.ready in
    let stands = subst (λ (x : Form). FormStands (grammar_of c.args.root.now) r.0 x c.args.draft.now.slots.items r.1) (view_choice c.args.choice.now) r.2 in
    choice_few (grammar_of c.args.root.now) inside.alternatives c.items-alternatives.result.now inside.rule r.0 c.args.draft.now.slots.items c.items-alternatives.ensures (r.1, stands)

pub put_choice-pick-requires-clause-known : goal.put_choice-pick-requires-clause-known
put_choice-pick-requires-clause-known t c =
    let inside = out-Choice c.args.choice.now in
    let r = c.requires.ready in
    let stands = subst (λ (x : Form). FormStands (grammar_of c.args.root.now) r.0 x c.args.draft.now.slots.items r.1) (view_choice c.args.choice.now) r.2 in
    choice_rule_known (grammar_of c.args.root.now) inside.alternatives c.items-alternatives.result.now inside.rule r.0 c.args.draft.now.slots.items c.deref.result.now c.items-alternatives.ensures c.deref.ensures.value c.requires.fine (r.1, stands)

pub put_choice-pick-requires-clause-fits : goal.put_choice-pick-requires-clause-fits
put_choice-pick-requires-clause-fits t c =
    let inside = out-Choice c.args.choice.now in
    let r = c.requires.ready in
    let stands = subst (λ (x : Form). FormStands (grammar_of c.args.root.now) r.0 x c.args.draft.now.slots.items r.1) (view_choice c.args.choice.now) r.2 in
    choice_fits (grammar_of c.args.root.now) inside.alternatives inside.rule r.0 c.args.draft.now.slots.items (r.1, stands)

pub put_choice-put_alternative-requires : goal.put_choice-put_alternative-requires
put_choice-put_alternative-requires t c =
    let inside = out-Choice c.args.choice.now in
    let items = c.items-alternatives.result.now in
    let v = view_choice c.args.choice.now in
    let r = c.requires.ready in
    let stands = subst (λ (x : Form). FormStands (grammar_of c.args.root.now) r.0 x c.args.draft.now.slots.items r.1) v r.2 in
    let q = choice_inner (grammar_of c.args.root.now) inside.alternatives items inside.rule r.0 c.args.draft.now.slots.items c.items-alternatives.ensures (r.1, stands) in
    let orders = subst (λ (x : Form). IsFormOrder x c.args.order.now) (body_is _ inside.alternatives items inside.rule v c.items-alternatives.ensures) c.requires.order in (
      let a = rw (sym c.items-alternatives.ensures) at (size_is-Choice c.args.choice.now) in search (rules, the_lemmas, a),
      (
        (let there = c.in-Ok.ensures.picked.there in let n = count_cases items in omega (arith, there, n)),
        ((suc r.0, q.0, q.1), (choice_named _ inside.alternatives items inside.rule v c.items-alternatives.ensures c.requires.named, (c.requires.fine, subst (λ (x : List Order). AreAlternativeOrders (alternatives_view items) x) (sym c.items.ensures) orders))),
      ),
    )

pub put_choice-returns-in-Ok : goal.put_choice-returns-in-Ok
put_choice-returns-in-Ok t c = record {
  put = λ sure.
      let root = grammar_of c.args.root.now in
      let inside = out-Choice c.args.choice.now in
      let items = c.items-alternatives.result.now in
      let cases = alternatives_view items in
      let p = c.put_alternative.ensures.put sure in
      let picked = subst (λ (x : Env). Picked root cases inside.rule x c.args.cur.now c.pick.new.cur c.in-Ok.i) c.deref.ensures.value c.in-Ok.ensures.picked in
      let g = case_there cases c.in-Ok.i picked.there in
      seen_form root (form_of (Choice_body c.args.choice.now)) (choice cases inside.rule) c.args.draft.now.slots.items c.put_alternative.new.draft.slots.items c.args.cur.now c.put_alternative.new.cur c.args.draft.now c.put_alternative.new.draft (body_is _ inside.alternatives items inside.rule (view_choice c.args.choice.now) c.items-alternatives.ensures)
      (alt c.in-Ok.i p.0, choice_read root cases inside.rule c.in-Ok.i g.0 p.0 c.args.draft.now.slots.items c.put_alternative.new.draft.slots.items c.args.cur.now c.pick.new.cur c.put_alternative.new.cur g.1 picked (p.1 g.0 g.1), p.2);
}

pub put_component-returns-in-Some : goal.put_component-returns-in-Some
put_component-returns-in-Some t c = record {
  put = λ sure.
      let r = c.requires.ready in
      let root = grammar_of c.args.root.now in
      let q = c.in-Some.ensures.laid in
      let there : there_now c.args.presence.now c.args.draft.now.slots.items c.args.flags.now.rest ≡ true = ap (λ x. there_now c.args.presence.now x c.args.flags.now.rest) (sym c.deref.ensures.value) ∙ (sym c.is_here.ensures.there ∙ c.if-is_here.true) in
      let pushed = if_true (is_ok c.push.result) _ _ _ (sym c.is_ok.ensures.value ∙ sure) c.push.ensures.items in (
        Some q.0,
        λ here k name default fs. subst (λ (x : Env). Turn root here c.args.cur.now.origin k (suc k) (component name (grammar_of c.args.node.now) c.args.presence.now default c.args.slot fs) fs (Some q.0 ∷ []) c.args.draft.now.slots.items x c.args.flags.now.rest c.is_here.new.flags.rest c.args.cur.now c.lay_present.new.cur) (sym q.1.1)
            (component_read root here c.args.cur.now.origin k name (grammar_of c.args.node.now) c.args.presence.now default c.args.slot fs r.2 q.0 c.args.draft.now.slots.items q.1.0 c.args.flags.now.rest c.is_here.new.flags.rest c.args.cur.now c.lay_present.new.cur r.0 r.1 r.3 c.requires.named
            c.is_here.ensures.flags (λ env f. (there_told root r.3.known c.args.draft.now.slots.items env c.args.presence.now c.args.flags.now.rest r.3.noted.has r.3.is.0 f).0 there) q.1.2),
        λ name default fs. there_laid name (grammar_of c.args.node.now) c.args.presence.now default c.args.slot fs q.0 c.in-Some.part c.args.draft.now c.lay_present.new.draft _ q.2 refl refl pushed,
      );
}

pub put_component-returns-else-is_here : goal.put_component-returns-else-is_here
put_component-returns-else-is_here t c = record {
  put = λ sure.
      let r = c.requires.ready in
      let root = grammar_of c.args.root.now in
      let away : there_now c.args.presence.now c.args.draft.now.slots.items c.args.flags.now.rest ≡ false = ap (λ x. there_now c.args.presence.now x c.args.flags.now.rest) (sym c.deref.ensures.value) ∙ (sym c.is_here.ensures.there ∙ c.if-is_here.false) in
      let pushed = if_true (is_ok c.push-else-is_here.result) _ _ _ (sym c.is_ok-else-is_here.ensures.value ∙ sure) c.push-else-is_here.ensures.items in (
        None,
        λ here k name default fs. away_turn root here c.args.cur.now.origin k name (grammar_of c.args.node.now) c.args.presence.now default c.args.slot fs c.args.draft.now.slots.items c.args.flags.now.rest c.is_here.new.flags.rest c.args.cur.now
            c.is_here.ensures.flags (λ env f. (there_told root r.3.known c.args.draft.now.slots.items env c.args.presence.now c.args.flags.now.rest r.3.noted.has r.3.is.0 f).1 away) c.requires.fine,
        λ name default fs. away_laid name (grammar_of c.args.node.now) c.args.presence.now default c.args.slot fs c.args.draft.now _ refl refl pushed,
      );
}

pub put_contained-size-requires-clause-read : goal.put_contained-size-requires-clause-read
put_contained-size-requires-clause-read t c = (let r = c.requires.ready in contained_rule (grammar_of c.args.root.now) c.args.sizing.now (grammar_of c.args.node.now) r.0 c.args.draft.now.slots.items c.deref.result.now c.deref.ensures.value (r.1, r.2) c.requires.fine)

pub put_contained-returns-then-put_node : goal.put_contained-returns-then-put_node
put_contained-returns-then-put_node t c = record {
  put = λ sure.
      let p = c.put_node.ensures.put c.if-put_node.true in
      let few = ltb-true c.left.result 8 sure in
      let left = c.left.ensures in (
        p.0,
        contained_read (grammar_of c.args.root.now) c.args.sizing.now (grammar_of c.args.node.now) c.in-Some.n p.0 c.args.draft.now.slots.items c.put_node.new.draft.slots.items c.deref.result.now c.args.cur.now c.size.new.cur c.window.new.self c.in-Ok.window c.put_node.new.cur c.deref.ensures.value c.in-Some.ensures.read c.in-Ok.ensures.within c.in-Ok.ensures.window c.in-Ok.ensures.moved p.1 (omega (arith, few, left)),
        p.2,
      );
}

pub put_elements-loop-i-init : goal.put_elements-loop-i-init
put_elements-loop-i-init t c = record { put = ([], refl, λ here. no_run (grammar_of c.args.root.now) here c.args.cur.now.origin (grammar_of c.args.node.now) 0 c.args.draft.now.slots.items c.args.cur.now c.requires.fine, no_items_put (grammar_of c.args.node.now) c.args.draft.now) }

pub put_elements-returns-then-stands : goal.put_elements-returns-then-stands
put_elements-returns-then-stands t c = record {
  put = λ sure.
      let p = c.loop-i.invariant.put in
      let ok = sym c.is_ok.ensures.value ∙ sure in (
        p.0,
        record {
          between = c.loop-i.cur;
          run = λ place. p.2 (record { path = []; place = place; inside = false });
          permitted = subst (λ (n : ℕ). Rattle.acn_num.specs.Ranges.In c.args.sizing.now.sizes (Rattle.std.proofs.Common.pos n)) (sym p.1) (when_ok c.pass_end.result ok c.pass_end.ensures.permitted);
          room = c.stands.ensures.room c.if-stands.true;
          there = c.stands.ensures.there c.if-stands.true;
          moved = when_ok c.pass_end.result ok c.pass_end.ensures.moved;
        },
        p.3,
      );
}

pub put_elements-put_node-requires : goal.put_elements-put_node-requires
put_elements-put_node-requires t c =
    let r = c.requires.ready in
    let p = c.loop-i.invariant.put in
    let turn = p.2 (record { path = []; place = 0; inside = false }) in
    let q = inner_node (grammar_of c.args.root.now) (grammar_of c.args.node.now) r.0 c.loop-i.draft.slots.items (run_stands (grammar_of c.args.root.now) _ c.args.cur.now.origin (grammar_of c.args.node.now) 0 r.0 p.0 c.args.draft.now.slots.items c.loop-i.draft.slots.items c.args.cur.now c.loop-i.cur turn (r.1, r.2)) in
    (search (rules, the_lemmas), ((r.0, q.0, q.1), (c.requires.named, (turn.fine, c.requires.order))))

pub put_elements-loop-i-preserved : goal.put_elements-loop-i-preserved
put_elements-loop-i-preserved t c =
    let p = c.loop-i.invariant.put in
    let q = c.put_node.ensures.put c.if-not-put_node.false in
    let comma = no_err c.put_comma.result (sym c.is_err.ensures.value ∙ c.if-is_err.false) c.put_comma.ensures.added in
    record {
      put = (
        p.0 ++ q.0 ∷ [],
        one_longer p.0 q.0 c.loop-i.i p.1,
        λ here. one_more_run (grammar_of c.args.root.now) here c.args.cur.now.origin (grammar_of c.args.node.now) 0 p.0 q.0 c.args.draft.now.slots.items c.loop-i.draft.slots.items c.put_node.new.draft.slots.items c.args.cur.now c.loop-i.cur c.put_node.new.cur (p.2 here) q.1,
        item_put (grammar_of c.args.node.now) p.0 q.0 _ c.args.draft.now c.loop-i.draft _ c.put_node.new.draft p.3 (later_is p.0 c.loop-i.i p.1) comma refl refl q.2,
      );
    }

pub put_elements-returns-then-stands-2 : goal.put_elements-returns-then-stands-2
put_elements-returns-then-stands-2 t c = record {
  put = λ sure.
      let p = c.loop-i.invariant.put in
      let over = c.loop-i-test.false in
      let within = c.loop-i.auto.i-end in
      let count : c.most_of-most.result ≡ length p.0 = (let n = p.1 in omega (arith, over, within, n)) in
      let ok = sym c.is_ok-then-stands-2.ensures.value ∙ sure in (
        p.0,
        record {
          between = c.loop-i.cur;
          run = λ place. p.2 (record { path = []; place = place; inside = false });
          permitted = subst (λ (n : ℕ). Rattle.acn_num.specs.Ranges.In c.args.sizing.now.sizes (Rattle.std.proofs.Common.pos n)) count (when_ok c.pass_end-then-stands-2.result ok c.pass_end-then-stands-2.ensures.permitted);
          room = c.stands-2.ensures.room c.if-stands-2.true;
          there = c.stands-2.ensures.there c.if-stands-2.true;
          moved = when_ok c.pass_end-then-stands-2.result ok c.pass_end-then-stands-2.ensures.moved;
        },
        p.3,
      );
}

pub put_field-returns-in-Component : goal.put_field-returns-in-Component
put_field-returns-in-Component t c = record {
  put = λ sure.
      let m = c.in-Component in
      let p = c.put_component.ensures.put sure in
      let is = ap field_of m.is ∙ view_component m.name m.node m.presence m.default m.slot in (
        p.0 ∷ [],
        λ here k fs. subst (λ (x : OneField). Turn (grammar_of c.args.root.now) here c.args.cur.now.origin k (suc k) (with_field x fs) fs (p.0 ∷ []) c.args.draft.now.slots.items c.put_component.new.draft.slots.items c.args.flags.now.rest c.put_component.new.flags.rest c.args.cur.now c.put_component.new.cur) (sym is) (p.1 here k m.name m.default fs),
        λ fs. subst (λ (x : OneField). Lays (with_field x fs) fs (p.0 ∷ []) c.args.draft.now c.put_component.new.draft) (sym is) (p.2 m.name m.default fs),
      );
}

pub put_field-returns-in-Inserted : goal.put_field-returns-in-Inserted
put_field-returns-in-Inserted t c = record {
  put = λ sure.
      let m = c.in-Inserted in
      let is = ap field_of m.is ∙ view_inserted m.name m.node m.slot in (
        [],
        λ here k fs. subst (λ (x : OneField). Turn (grammar_of c.args.root.now) here c.args.cur.now.origin k (suc k) (with_field x fs) fs [] c.args.draft.now.slots.items c.pass_inserted.new.draft.slots.items c.args.flags.now.rest c.args.flags.now.rest c.args.cur.now c.pass_inserted.new.cur) (sym is) (c.pass_inserted.ensures.turn sure here k m.name fs c.args.flags.now.rest),
        λ fs. subst (λ (x : OneField). Lays (with_field x fs) fs [] c.args.draft.now c.pass_inserted.new.draft) (sym is) (passed_laid m.name (grammar_of m.node) m.slot fs c.args.draft.now c.pass_inserted.new.draft (c.pass_inserted.ensures.none sure)),
      );
}

pub put_each_field-loop-k-init : goal.put_each_field-loop-k-init
put_each_field-loop-k-init t c = record { put = ([], λ here. no_turn (grammar_of c.args.root.now) here c.args.cur.now.origin 0 (fields_view c.args.fields.now) c.args.draft.now.slots.items c.args.flags.now.rest c.args.cur.now c.requires.fine, none_laid (fields_view c.args.fields.now) c.args.draft.now) }

pub put_each_field-bounds-orders-k : goal.put_each_field-bounds-orders-k
put_each_field-bounds-orders-k t c = orders-within c.args.fields.now c.args.orders.now c.loop-k.k c.requires.orders c.loop-k-test.true

pub put_each_field-put_field-requires : goal.put_each_field-put_field-requires
put_each_field-put_field-requires t c =
    let l = c.loop-k in
    let r = c.requires.ready in
    let f = c.index-fields-k.result in
    let p = l.invariant.put in
    let turn = p.1 (record { path = []; place = 0; inside = false }) in
    let from = fields_from c.args.fields.now l.k f c.loop-k-test.true c.index-fields-k.is in
    let n = next_ready (grammar_of c.args.root.now) _ c.args.cur.now.origin l.k r.0 (fields_view c.args.fields.now) (fields_view (drop l.k c.args.fields.now)) (fields_view (drop (l.k + 1) c.args.fields.now)) (field_of f) p.0 c.args.draft.now.slots.items l.draft.slots.items c.args.flags.now.rest l.flags.rest c.args.cur.now l.cur from turn c.requires.bits (r.1, r.2) in (
      search (rules, the_lemmas),
      ((r.0, n.0, n.1, n.2, n.3), (named_at c.args.fields.now l.k f c.loop-k-test.true c.index-fields-k.is c.requires.named, (turn.fine, order-here c.args.fields.now c.args.orders.now l.k f c.index-orders-k.result c.requires.orders c.loop-k-test.true c.index-fields-k.is c.index-orders-k.is))),
    )

pub put_each_field-loop-k-preserved : goal.put_each_field-loop-k-preserved
put_each_field-loop-k-preserved t c =
    let l = c.loop-k in
    let root = grammar_of c.args.root.now in
    let all = fields_view c.args.fields.now in
    let rest = fields_view (drop l.k c.args.fields.now) in
    let next = fields_view (drop (l.k + 1) c.args.fields.now) in
    let p = l.invariant.put in
    let q = c.put_field.ensures.put c.if-not-put_field.false in
    let from = fields_from c.args.fields.now l.k c.index-fields-k.result c.loop-k-test.true c.index-fields-k.is in
    let one_up : suc l.k ≡ l.k + 1 = omega arith in
    record {
      put = (
        p.0 ++ q.0,
        λ here. subst (λ (n : ℕ). Turn root here c.args.cur.now.origin 0 n all next (p.0 ++ q.0) c.args.draft.now.slots.items c.put_field.new.draft.slots.items c.args.flags.now.rest c.put_field.new.flags.rest c.args.cur.now c.put_field.new.cur) one_up
            (more_turns root here c.args.cur.now.origin l.cur.origin 0 l.k (suc l.k) all rest next p.0 q.0 c.args.draft.now.slots.items l.draft.slots.items c.put_field.new.draft.slots.items c.args.flags.now.rest l.flags.rest c.put_field.new.flags.rest c.args.cur.now l.cur c.put_field.new.cur (p.1 here).window (p.1 here)
            (subst (λ (x : Fields). Turn root here l.cur.origin l.k (suc l.k) x next q.0 l.draft.slots.items c.put_field.new.draft.slots.items l.flags.rest c.put_field.new.flags.rest l.cur c.put_field.new.cur) (sym from) (q.1 here l.k next))),
        more_laid all rest next p.0 q.0 c.args.draft.now l.draft c.put_field.new.draft p.2 (subst (λ (x : Fields). Lays x next q.0 l.draft c.put_field.new.draft) (sym from) (q.2 next)),
      );
    }

pub put_each_field-returns : goal.put_each_field-returns
put_each_field-returns t c =
    let l = c.loop-k in
    let p = l.invariant.put in
    let over = c.loop-k-test.false in
    let past : drop l.k c.args.fields.now ≡ [] = drop_of_length-le c.args.fields.now (omega (arith, over)) in
    record {
      put = λ sure. (
        p.0,
        λ here. all_turns (grammar_of c.args.root.now) here c.args.cur.now.origin l.k l.k c.args.fields.now p.0 c.args.draft.now.slots.items l.draft.slots.items c.args.flags.now.rest l.flags.rest c.args.cur.now l.cur over l.auto.k-end refl (p.1 here),
        subst (λ (x : List Field). Lays (fields_view c.args.fields.now) (fields_view x) p.0 c.args.draft.now l.draft) past p.2,
      );
    }

pub put_stretches-loop-k-init : goal.put_stretches-loop-k-init
put_stretches-loop-k-init t c = record { within = omega arith; put = ([], λ here. no_turn (grammar_of c.args.root.now) here c.args.cur.now.origin 0 (fields_view c.args.fields.now) c.args.draft.now.slots.items c.args.flags.now.rest c.args.cur.now c.requires.fine, none_laid (fields_view c.args.fields.now) c.args.draft.now) }

pub put_stretches-bounds-orders-k : goal.put_stretches-bounds-orders-k
put_stretches-bounds-orders-k t c = orders-within c.args.fields.now c.args.orders.now c.loop-k.k c.requires.orders c.loop-k-test.true

pub put_stretches-lay_stretch-requires : goal.put_stretches-lay_stretch-requires
put_stretches-lay_stretch-requires t c =
    let s = stretch_at c.args.fields.now c.args.stretches.now c.loop-k.k c.index-stretches-k.result c.requires.stretches c.loop-k-test.true c.if-k-stretches.true c.index-stretches-k.is in
    (fields_view (drop c.loop-k.k c.args.fields.now), s.0, s.1)

pub put_stretches-loop-k-preserved-then-count-gt0 : goal.put_stretches-loop-k-preserved-then-count-gt0
put_stretches-loop-k-preserved-then-count-gt0 t c =
    let l = c.loop-k in
    let r = c.requires.ready in
    let fields = c.args.fields.now in
    let root = grammar_of c.args.root.now in
    let all = fields_view fields in
    let from = fields_view (drop l.k fields) in
    let stretch = c.index-stretches-k.result in
    let count = length c.items-count.result.now in
    let same : count ≡ length stretch.pieces = ap length c.items-count.ensures in
    let next = fields_view (drop (l.k + count) fields) in
    let here : Here = record { path = []; place = 0; inside = false } in
    let p = l.invariant.put in
    let turn = p.1 here in
    let stands = (turn.known r.0 r.1 r.2).stands in
    let s = stretch_at fields c.args.stretches.now l.k stretch c.requires.stretches c.loop-k-test.true c.if-k-stretches.true c.index-stretches-k.is in
    let end = stretch_end fields l.k count stretch.pieces s.0 l.invariant.within same s.1.run in
    let run = subst (λ (x : Fields). IsRun from stretch.pieces x) end.1 s.1.run in
    let laid = subst (λ (n : ℕ). LaysFields from next n l.draft c.lay_stretch.new.draft l.cur c.lay_stretch.new.cur) (sym same) (c.lay_stretch.ensures c.if-not-lay_stretch.false from next run) in
    let q = laid root (r.0, r.1, stands) (named_from fields l.k c.requires.named) turn.fine in
    record {
      within = end.0;
      put = (
        p.0 ++ q.0,
        λ here. more_turns root here c.args.cur.now.origin l.cur.origin 0 l.k (l.k + count) all from next p.0 q.0 c.args.draft.now.slots.items l.draft.slots.items c.lay_stretch.new.draft.slots.items c.args.flags.now.rest l.flags.rest l.flags.rest c.args.cur.now l.cur c.lay_stretch.new.cur (p.1 here).window (p.1 here) (q.1 here l.k l.flags.rest),
        more_laid all from next p.0 q.0 c.args.draft.now l.draft c.lay_stretch.new.draft p.2 q.2,
      );
    }

pub put_stretches-put_field-requires : goal.put_stretches-put_field-requires
put_stretches-put_field-requires t c =
    let l = c.loop-k in
    let r = c.requires.ready in
    let f = c.index-fields-k.result in
    let p = l.invariant.put in
    let turn = p.1 (record { path = []; place = 0; inside = false }) in
    let from = fields_from c.args.fields.now l.k f c.loop-k-test.true c.index-fields-k.is in
    let n = next_ready (grammar_of c.args.root.now) _ c.args.cur.now.origin l.k r.0 (fields_view c.args.fields.now) (fields_view (drop l.k c.args.fields.now)) (fields_view (drop (l.k + 1) c.args.fields.now)) (field_of f) p.0 c.args.draft.now.slots.items l.draft.slots.items c.args.flags.now.rest l.flags.rest c.args.cur.now l.cur from turn c.requires.bits (r.1, r.2) in (
      search (rules, the_lemmas),
      ((r.0, n.0, n.1, n.2, n.3), (named_at c.args.fields.now l.k f c.loop-k-test.true c.index-fields-k.is c.requires.named, (turn.fine, order-here c.args.fields.now c.args.orders.now l.k f c.index-orders-k.result c.requires.orders c.loop-k-test.true c.index-fields-k.is c.index-orders-k.is))),
    )

pub put_stretches-loop-k-preserved : goal.put_stretches-loop-k-preserved
put_stretches-loop-k-preserved t c =
    let l = c.loop-k in
    let root = grammar_of c.args.root.now in
    let all = fields_view c.args.fields.now in
    let rest = fields_view (drop l.k c.args.fields.now) in
    let next = fields_view (drop (l.k + 1) c.args.fields.now) in
    let p = l.invariant.put in
    let q = c.put_field.ensures.put c.if-not-put_field.false in
    let from = fields_from c.args.fields.now l.k c.index-fields-k.result c.loop-k-test.true c.index-fields-k.is in
    let one_up : suc l.k ≡ l.k + 1 = omega arith in
    let within = c.loop-k-test.true in
    record {
      within = omega (arith, within);
      put = (
        p.0 ++ q.0,
        λ here. subst (λ (n : ℕ). Turn root here c.args.cur.now.origin 0 n all next (p.0 ++ q.0) c.args.draft.now.slots.items c.put_field.new.draft.slots.items c.args.flags.now.rest c.put_field.new.flags.rest c.args.cur.now c.put_field.new.cur) one_up
            (more_turns root here c.args.cur.now.origin l.cur.origin 0 l.k (suc l.k) all rest next p.0 q.0 c.args.draft.now.slots.items l.draft.slots.items c.put_field.new.draft.slots.items c.args.flags.now.rest l.flags.rest c.put_field.new.flags.rest c.args.cur.now l.cur c.put_field.new.cur (p.1 here).window (p.1 here)
            (subst (λ (x : Fields). Turn root here l.cur.origin l.k (suc l.k) x next q.0 l.draft.slots.items c.put_field.new.draft.slots.items l.flags.rest c.put_field.new.flags.rest l.cur c.put_field.new.cur) (sym from) (q.1 here l.k next))),
        more_laid all rest next p.0 q.0 c.args.draft.now l.draft c.put_field.new.draft p.2 (subst (λ (x : Fields). Lays x next q.0 l.draft c.put_field.new.draft) (sym from) (q.2 next)),
      );
    }

pub put_stretches-returns : goal.put_stretches-returns
put_stretches-returns t c =
    let l = c.loop-k in
    let p = l.invariant.put in
    let over = c.loop-k-test.false in
    let past : drop l.k c.args.fields.now ≡ [] = drop_of_length-le c.args.fields.now (omega (arith, over)) in
    record {
      put = λ sure. (
        p.0,
        λ here. all_turns (grammar_of c.args.root.now) here c.args.cur.now.origin l.k l.k c.args.fields.now p.0 c.args.draft.now.slots.items l.draft.slots.items c.args.flags.now.rest l.flags.rest c.args.cur.now l.cur over l.invariant.within refl (p.1 here),
        subst (λ (x : List Field). Lays (fields_view c.args.fields.now) (fields_view x) p.0 c.args.draft.now l.draft) past p.2,
      );
    }

pub put_list-size-requires-clause-read : goal.put_list-size-requires-clause-read
put_list-size-requires-clause-read t c = (let r = c.requires.ready in list_rule (grammar_of c.args.root.now) c.args.sizing.now (grammar_of c.args.node.now) r.0 c.args.draft.now.slots.items c.deref.result.now c.deref.ensures.value (r.1, r.2) c.requires.fine)

pub put_list-returns : goal.put_list-returns
put_list-returns t c = record {
  put = λ sure.
      let root = grammar_of c.args.root.now in
      let g = grammar_of c.args.node.now in
      let opened = no_err c.put_octet.result (sym c.is_err.ensures.value ∙ c.if-is_err.false) c.put_octet.ensures.added in
      let closed = when_ok c.put_octet-2.result (sym c.is_ok.ensures.value ∙ sure) c.put_octet-2.ensures.added in
      elim c.if-is_ended.branch [
        | put_list-then-is_ended+else-not-put_elements w ↦
            let p = w.put_elements.ensures.put w.if-not-put_elements.false in
            rw (w.cur-is, w.draft-is) (
              list_of (elements_of p.0),
              ended_list root false [] c.args.sizing.now g w.pattern_of.result.now p.0 c.args.draft.now.slots.items w.put_elements.new.draft.slots.items c.args.cur.now w.put_elements.new.cur w.pattern_of.ensures p.1,
              array_put g p.0 c.args.draft.now _ w.put_elements.new.draft _ opened refl refl p.2 (rw (sym w.draft-is) closed) refl refl,
            )
        | put_list-else-is_ended+in-Some+else-not-put_run w ↦
            let p = w.put_run.ensures.put w.if-not-put_run.false in
            let none = c.is_ended.ensures.sized w.if-is_ended.false in
            rw (w.cur-is, w.draft-is) (
              list_of (elements_of p.0),
              list_read root (record { path = []; place = 0; inside = false }) w.size.new.cur.origin c.args.sizing.now g w.in-Some.n p.0 c.args.draft.now.slots.items w.put_run.new.draft.slots.items w.deref.result.now c.args.cur.now w.size.new.cur w.put_run.new.cur none w.deref.ensures.value w.in-Some.ensures.read p.1 (p.2 _),
              array_put g p.0 c.args.draft.now _ w.put_run.new.draft _ opened refl refl p.3 (rw (sym w.draft-is) closed) refl refl,
            )
      ];
}

pub put_node-returns-in-Ok : goal.put_node-returns-in-Ok
put_node-returns-in-Ok t c = record {
  put = λ sure.
      let p = c.put_body.ensures.put sure in
      let v = view_node c.args.node.now in (
        p.0,
        subst (λ (g : Grammar). NodeRead (grammar_of c.args.root.now) g p.0 c.args.draft.now.slots.items c.put_body.new.draft.slots.items c.args.cur.now c.put_body.new.cur) (sym v) (node_read (grammar_of c.args.root.now) c.args.node.now.align (form_of c.args.node.now.body) p.0 c.args.draft.now.slots.items c.put_body.new.draft.slots.items c.args.cur.now c.pad.new.cur c.put_body.new.cur c.in-Ok.ensures.passed p.1),
        subst (λ (g : Grammar). Puts (compact_text (json_of g p.0)) c.args.draft.now c.put_body.new.draft) (sym v) p.2,
      );
}

pub put_run-loop-i-init : goal.put_run-loop-i-init
put_run-loop-i-init t c = record { put = ([], refl, λ here. no_run (grammar_of c.args.root.now) here c.args.cur.now.origin (grammar_of c.args.node.now) 0 c.args.draft.now.slots.items c.args.cur.now c.requires.fine, no_items_put (grammar_of c.args.node.now) c.args.draft.now) }

pub put_run-put_node-requires : goal.put_run-put_node-requires
put_run-put_node-requires t c =
    let r = c.requires.ready in
    let p = c.loop-i.invariant.put in
    let turn = p.2 (record { path = []; place = 0; inside = false }) in
    let q = inner_node (grammar_of c.args.root.now) (grammar_of c.args.node.now) r.0 c.loop-i.draft.slots.items (run_stands (grammar_of c.args.root.now) _ c.args.cur.now.origin (grammar_of c.args.node.now) 0 r.0 p.0 c.args.draft.now.slots.items c.loop-i.draft.slots.items c.args.cur.now c.loop-i.cur turn (r.1, r.2)) in
    (search (rules, the_lemmas), ((r.0, q.0, q.1), (c.requires.named, (turn.fine, c.requires.order))))

pub put_run-loop-i-preserved : goal.put_run-loop-i-preserved
put_run-loop-i-preserved t c =
    let p = c.loop-i.invariant.put in
    let q = c.put_node.ensures.put c.if-not-put_node.false in
    let comma = no_err c.put_comma.result (sym c.is_err.ensures.value ∙ c.if-is_err.false) c.put_comma.ensures.added in
    record {
      put = (
        p.0 ++ q.0 ∷ [],
        one_longer p.0 q.0 c.loop-i.i p.1,
        λ here. one_more_run (grammar_of c.args.root.now) here c.args.cur.now.origin (grammar_of c.args.node.now) 0 p.0 q.0 c.args.draft.now.slots.items c.loop-i.draft.slots.items c.put_node.new.draft.slots.items c.args.cur.now c.loop-i.cur c.put_node.new.cur (p.2 here) q.1,
        item_put (grammar_of c.args.node.now) p.0 q.0 _ c.args.draft.now c.loop-i.draft _ c.put_node.new.draft p.3 (later_is p.0 c.loop-i.i p.1) comma refl refl q.2,
      );
    }

pub put_run-returns : goal.put_run-returns
put_run-returns t c =
    let p = c.loop-i.invariant.put in
    let over = c.loop-i-test.false in
    let within = c.loop-i.auto.i-end in
    let count : length p.0 ≡ c.args.n = (let n = p.1 in omega (arith, over, within, n)) in
    record { put = λ sure. (p.0, count, p.2, p.3) }

pub lay_sequence-whole_of-requires : goal.lay_sequence-whole_of-requires
lay_sequence-whole_of-requires t c =
    let o = subst (λ (x : Form). IsFormOrder x c.args.order.now) (view_seq_form c.args.seq.now) c.requires.order in
    subst (λ (x : List Stretch). AreStretches (fields_view c.items-2.result.now) x) (sym c.items.ensures) (subst (λ (x : List Field). AreStretches (fields_view x) (out-Order c.args.order.now).stretches) (sym c.items-2.ensures) o.3)

pub lay_sequence-lay_whole-requires : goal.lay_sequence-lay_whole-requires
lay_sequence-lay_whole-requires t c = record {
  ready = c.requires.ready;
  named = c.requires.named;
  fine = c.requires.fine;
  order = c.requires.order;
  stretch = subst (λ (x : List Field). IsStretch (fields_view x) c.in-Some.stretch.now no_fields) c.items-2.ensures c.in-Some.ensures;
}

pub lay_parts-put_fields-requires : goal.lay_parts-put_fields-requires
lay_parts-put_fields-requires t c =
    let root = grammar_of c.args.root.now in
    let v = view_seq_form c.args.seq.now in
    let r = c.requires.ready in
    let q = fields_ready root _ c.args.seq.now.fields c.items-fields.result.now c.args.seq.now.home r.0 c.args.draft.now.slots.items v c.items-fields.ensures (r.1, r.2) in
    let o = subst (λ (x : Form). IsFormOrder x c.args.order.now) v c.requires.order in
    let orders = subst (λ (x : List Order). AreFieldOrders (fields_view c.items-fields.result.now) x) (sym c.items.ensures) (subst (λ (x : List Field). AreFieldOrders (fields_view x) (out-Order c.args.order.now).inside) (sym c.items-fields.ensures) o.1) in
    let stretches = subst (λ (x : List Stretch). AreStretches (fields_view c.items-fields.result.now) x) (sym c.items-2.ensures) (subst (λ (x : List Field). AreStretches (fields_view x) (out-Order c.args.order.now).stretches) (sym c.items-fields.ensures) o.3) in (
      search (rules, the_lemmas),
      (
        flags_are root c.args.seq.now.fields c.items-fields.result.now (out-Order c.args.order.now).flags c.args.cur.now c.in-Ok.window c.items-fields.ensures o.2 c.in-Ok.ensures.within c.in-Ok.ensures.window,
        ((suc r.0, q.0, q.1), (fields_named _ c.args.seq.now.fields c.items-fields.result.now c.args.seq.now.home v c.items-fields.ensures c.requires.named, (c.requires.fine, (orders, stretches)))),
      ),
    )

pub lay_parts-returns : goal.lay_parts-returns
lay_parts-returns t c = record {
  laid = λ sure.
      let root = grammar_of c.args.root.now in
      let fields = c.items-fields.result.now in
      let form = form_of (Seq_body c.args.seq.now) in
      let v = view_seq_form c.args.seq.now in
      let r = c.requires.ready in
      let p = c.put_fields.ensures.put c.if-not-put_fields.false in
      let o = subst (λ (x : Form). IsFormOrder x c.args.order.now) v c.requires.order in (
        p.0,
        seq_put_read root r.0 _ form c.args.seq.now.fields fields c.args.seq.now.home c.items-3.result.now p.0 c.args.draft.now.slots.items c.put_fields.new.draft.slots.items c.forget.new.slots.items c.args.cur.now c.window.new.self c.put_fields.new.cur c.in-Ok.window (out-Order c.args.order.now).flags _
            v c.items-fields.ensures c.items-3.ensures c.forget.ensures o.2 c.in-Ok.ensures.within c.in-Ok.ensures.window c.in-Ok.ensures.moved (r.1, r.2) p.1,
        laid_of fields c.args.seq.now.fields p.0 c.args.draft.now c.put_fields.new.draft _ c.items-fields.ensures refl refl refl p.2,
      );
}

pub put_sequence-put_members-requires : goal.put_sequence-put_members-requires
put_sequence-put_members-requires t c =
    let fields = c.items-2.result.now in
    let p = c.lay_sequence.ensures.laid c.if-not-lay_sequence.false in
    let lays = fields_laid fields c.args.seq.now.fields p.0 _ _ c.items-2.ensures p.2 in
    let o = subst (λ (x : Form). IsFormOrder x c.args.order.now) (view_seq_form c.args.seq.now) c.requires.order in
    let turns = subst (λ ts. AreTurns (fields_view fields) ts) (sym c.items.ensures) (subst (λ (x : List Field). AreTurns (fields_view x) (out-Order c.args.order.now).turns) (sym c.items-2.ensures) o.0) in
    let texts = c.deref-2.ensures.value ∙ ap (λ v. v.items) c.swap-2.ensures.y_after in
    let first = c.len-first.result in
    let before : first ≡ length c.args.draft.now.parts.items = search rules in
    record {
      short = turns.4;
      laid = (
        p.0,
        subst (λ x. AreLaid x (fields_view fields) (take (length c.deref.result.now - first) (drop first c.deref.result.now)) p.0) (sym texts)
            (subst (λ x. AreLaid c.lay_sequence.new.draft.text.items (fields_view fields) (take (length x - first) (drop first x)) p.0) (sym c.deref.ensures.value) (all_laid (fields_view fields) p.0 _ c.lay_sequence.new.draft first lays before)),
        turns.0,
        turns.2,
      );
    }

pub put_sequence-returns : goal.put_sequence-returns
put_sequence-returns t c = record {
  put = λ sure.
      let fields = c.items-2.result.now in
      let form = form_of (Seq_body c.args.seq.now) in
      let v = view_seq_form c.args.seq.now in
      let p = c.lay_sequence.ensures.laid c.if-not-lay_sequence.false in
      let lays = fields_laid fields c.args.seq.now.fields p.0 _ _ c.items-2.ensures p.2 in
      let o = subst (λ (x : Form). IsFormOrder x c.args.order.now) v c.requires.order in
      let turns = subst (λ ts. AreTurns (fields_view fields) ts) (sym c.items.ensures) (subst (λ (x : List Field). AreTurns (fields_view x) (out-Order c.args.order.now).turns) (sym c.items-2.ensures) o.0) in
      let first = c.len-first.result in
      let before : first ≡ length c.args.draft.now.parts.items = search rules in
      let mark : c.len-mark.result ≡ length c.args.draft.now.aside.items = search rules in
      let texts = c.deref-2.ensures.value ∙ ap (λ v. v.items) c.swap-2.ensures.y_after in
      let laid = subst (λ x. AreLaid x (fields_view fields) (take (length c.deref.result.now - first) (drop first c.deref.result.now)) p.0) (sym texts)
      (subst (λ x. AreLaid c.lay_sequence.new.draft.text.items (fields_view fields) (take (length x - first) (drop first x)) p.0) (sym c.deref.ensures.value) (all_laid (fields_view fields) p.0 _ c.lay_sequence.new.draft first lays before)) in
      let base = ap (λ v. v.items) c.swap-2.ensures.x_after ∙ (p.2.aside ∙ ap (λ v. v.items) c.swap.ensures.y_after) in
      let said = c.put_members.ensures.put c.if-not-put_members.false p.0 laid turns.0 turns.2 in (
        record_of (places_of p.0),
        p.1,
        record {
          added = object_put (fields_view fields) c.args.seq.now.home c.items.result.now p.0 form c.args.draft.now.text.items c.put_members.new.text.items (v ∙ ap (λ (x : List Field). seq (fields_view x) c.args.seq.now.home) (sym c.items-2.ensures)) turns (said ∙ ap (λ x. x ++ 123 ∷ members_text false (in_order (fields_view fields) c.items.result.now (placed p.0 no_places))) base);
          aside = front_left c.args.draft.now.aside.items p.2.text c.swap-2.new.y.items c.truncate.new.self.items c.len-mark.result mark (ap (λ v. v.items) c.swap-2.ensures.y_after ∙ (p.2.added ∙ ap (λ v. v.items ++ p.2.text) c.swap.ensures.x_after)) c.truncate.ensures.items;
          parts = front_left c.args.draft.now.parts.items p.2.parts c.lay_sequence.new.draft.parts.items c.truncate-2.new.self.items first before p.2.noted c.truncate-2.ensures.items;
        },
      );
}
