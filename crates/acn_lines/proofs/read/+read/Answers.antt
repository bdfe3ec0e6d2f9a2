use Rattle.std.proofs.Common.{◌<◌, ◌++◌, ◌∷◌, [], length, length-set, take, set, None, refl, sym, ap, subst, ◌∙◌, arith, rules}
use Rattle.std.proofs.lemmas.Grind.{common_steps}
use Rattle.std.proofs.lemmas.List.{take_more_set}
use Rattle.acn_grammar.specs.View.{grammar_of, data_of, field_of, fields_view, places_view}
use Rattle.acn_grammar.specs.declared.node.Body.{the_lemmas as node_lemmas}
use Rattle.acn_grammar.proofs.Views.{view_component}
use Rattle.serde_json.specs.Written.{comma_if}
use Rattle.acn_lines.specs.Filled.{IsFieldRead, IsMet}
use Rattle.acn_lines.specs.Order.{IsNodeOrder, AreTurns}
use Rattle.acn_printed.specs.Read.{IsRead}
use Rattle.acn_lines.proofs.FillingLaw.{keyed-within, met-more, turn-more, turns-end, turn-passed, turn-placed}
use Rattle.acn_lines.proofs.MembersLaw.{keyed_at, placed_at}
use Rattle.acn_lines.proofs.MetLaw.{turns-met}
use Rattle.acn_lines.proofs.Parts.{field-here, field-within, orders-within, order-here, alternatives-within, alternative-here}
use Rattle.acn_lines.proofs.ReadLaw.{octets_read, bits_read, text_read, seq_read, list_read, choice_read, record_read, elements_begin, elements_more, elements_end, alternative_read}
use Rattle.acn_lines.proofs.read.+read.Goals as goal

-- The node.

pub read_node-returns-in-Octets : goal.read_node-returns-in-Octets
read_node-returns-in-Octets t c = λ h. octets_read c.args.node.now _ _ _ _ c.in-Octets.is (λ align sizing. c.read_octet_string.ensures align sizing h)

pub read_node-returns-in-Bits : goal.read_node-returns-in-Bits
read_node-returns-in-Bits t c = λ h. bits_read c.args.node.now _ _ _ _ c.in-Bits.is (λ align sizing. c.read_bit_string.ensures align sizing h)

pub read_node-returns-in-Text : goal.read_node-returns-in-Text
read_node-returns-in-Text t c = λ h. text_read c.args.node.now _ _ _ _ c.in-Text.is (λ align leaf. c.read_text.ensures align leaf h)

pub read_node-returns-in-Seq : goal.read_node-returns-in-Seq
read_node-returns-in-Seq t c = λ h. seq_read c.args.node.now c.in-Seq.seq c.items-in-Seq.result.now _ _ _ c.in-Seq.is c.items-in-Seq.ensures (c.read_record.ensures h)

pub read_node-returns-in-List : goal.read_node-returns-in-List
read_node-returns-in-List t c = λ h. list_read c.args.node.now _ _ _ _ _ _ c.in-List.is c.get.ensures (c.read_list.ensures h)

pub read_node-returns-in-Choice : goal.read_node-returns-in-Choice
read_node-returns-in-Choice t c = λ h. choice_read c.args.node.now c.in-Choice.choice _ _ _ _ c.in-Choice.is c.items-in-Choice.ensures (c.read_alternative.ensures h)

-- Records.

pub read_record-record-requires : goal.read_record-record-requires
read_record-record-requires t c = subst (λ ts. AreTurns (fields_view c.args.fields.now) ts) (sym c.items-turns.ensures) c.requires.turns

pub read_record-returns : goal.read_record-returns
read_record-returns t c = λ h align home.
    let fs = fields_view c.args.fields.now in
    record_read fs c.items-turns.result.now c.read_members-read.new.places.items c.from_vec.result align home _ _ _
    (subst (λ ts. AreTurns fs ts) (sym c.items-turns.ensures) c.requires.turns)
    (c.pass.ensures.passed c.if-not-pass.false)
    (c.read_members-read.ensures.text h)
    (c.read_members-read.ensures.filled h)
    (c.read_members-read.ensures.whole h)
    c.from_vec.ensures

-- Members.

pub read_members-loop-turn-init : goal.read_members-loop-turn-init
read_members-loop-turn-init t c = record {
  count = c.requires.count;
  met = tt;
  text = λ ms end e. e;
}

pub read_members-read_turn-requires : goal.read_members-read_turn-requires
read_members-read_turn-requires t c =
    let l = c.loop-turn in
    let fs = fields_view c.args.fields.now in
    let ts = c.args.turns.now in (
      search (rules, node_lemmas),
      (
        keyed_at fs ts l.turn-index c.turn-item.result c.requires.turns.0 c.loop-turn-test.true c.turn-item.is,
        (
          placed_at fs ts l.turn-index c.turn-item.result c.requires.turns.2 c.loop-turn-test.true c.turn-item.is,
          (c.requires.inside, l.invariant.count),
        ),
      ),
    )

pub read_members-loop-turn-preserved : goal.read_members-loop-turn-preserved
read_members-loop-turn-preserved t c =
    let l = c.loop-turn in
    let fs = fields_view c.args.fields.now in
    let ts = c.args.turns.now in
    let read = c.in-Some.ensures.read in
    record {
      count = c.in-Some.ensures.count ∙ l.invariant.count;
      met = met-more fs ts l.turn-index c.turn-item.result _ _ _ _ _ _ c.requires.turns.3 c.loop-turn-test.true c.turn-item.is read l.invariant.met;
      text = turn-more fs ts l.turn-index c.turn-item.result _ _ _ _ _ _ _ c.requires.turns.3 c.loop-turn-test.true c.turn-item.is read l.invariant.text;
    }

pub read_members-returns-clause-text : goal.read_members-returns-clause-text
read_members-returns-clause-text t c = λ h.
    let l = c.loop-turn in
    turns-end (fields_view c.args.fields.now) c.args.turns.now l.turn-index (places_view l.places.items) l.later _ _ _ c.loop-turn-test.false l.invariant.text (c.pass.ensures.passed h)

pub read_members-returns-clause-filled : goal.read_members-returns-clause-filled
read_members-returns-clause-filled t c = λ h.
    let l = c.loop-turn in
    (turns-met (fields_view c.args.fields.now) c.args.turns.now l.turn-index l.places.items c.requires.turns c.loop-turn-test.false l.invariant.count l.invariant.met).0

pub read_members-returns-clause-whole : goal.read_members-returns-clause-whole
read_members-returns-clause-whole t c = λ h.
    let l = c.loop-turn in
    (turns-met (fields_view c.args.fields.now) c.args.turns.now l.turn-index l.places.items c.requires.turns c.loop-turn-test.false l.invariant.count l.invariant.met).1

-- One member.

pub read_turn-offset_bounds-fields-turn : goal.read_turn-offset_bounds-fields-turn
read_turn-offset_bounds-fields-turn t c = grind (arith, common_steps, field-within c.args.fields.now c.args.turn.now.field c.args.turn.now.key c.requires.keyed)

pub read_turn-bounds-fields-turn : goal.read_turn-bounds-fields-turn
read_turn-bounds-fields-turn t c = field-within c.args.fields.now c.args.turn.now.field c.args.turn.now.key c.requires.keyed

pub read_turn-offset_bounds-inside-turn : goal.read_turn-offset_bounds-inside-turn
read_turn-offset_bounds-inside-turn t c =
    let within = field-within c.args.fields.now c.args.turn.now.field c.args.turn.now.key c.requires.keyed in
    grind (arith, common_steps, orders-within c.args.fields.now c.args.inside.now c.args.turn.now.field c.requires.inside within)

pub read_turn-bounds-inside-turn : goal.read_turn-bounds-inside-turn
read_turn-bounds-inside-turn t c =
    let within = field-within c.args.fields.now c.args.turn.now.field c.args.turn.now.key c.requires.keyed in
    orders-within c.args.fields.now c.args.inside.now c.args.turn.now.field c.requires.inside within

pub read_turn-index_mut-place-requires : goal.read_turn-index_mut-place-requires
read_turn-index_mut-place-requires t c =
    let there = keyed-within (fields_view c.args.fields.now) c.args.turn.now.field c.args.turn.now.key c.requires.keyed in
    let placed = c.requires.placed in
    let count = c.requires.count in
    grind (arith, common_steps)

pub read_turn-read_place-requires : goal.read_turn-read_place-requires
read_turn-read_place-requires t c =
    let within = field-within c.args.fields.now c.args.turn.now.field c.args.turn.now.key c.requires.keyed in
    (search (rules, node_lemmas), order-here c.args.fields.now c.args.inside.now c.args.turn.now.field c.index-fields-turn.result c.index-inside-turn.result c.requires.inside within c.index-fields-turn.is c.index-inside-turn.is)

pub read_turn-returns-then-not-pass_key-clause-read : goal.read_turn-returns-then-not-pass_key-clause-read
read_turn-returns-then-not-pass_key-clause-read t c =
    let fs = c.args.fields.now in
    let turn = c.args.turn.now in
    let within = field-within fs turn.field turn.key c.requires.keyed in
    let here = field-here fs turn.field c.index-fields-turn.result within c.index-fields-turn.is in
    turn-passed (fields_view fs) turn c.args.later c.args.places.now.items _ _ _ (subst (λ o. IsMet o None) (sym here) (c.may_lack.ensures c.if-not-may_lack.false)) (ap (λ p. set c.args.places.now.items turn.place p) c.empty.ensures) (c.pass_key.ensures.stays c.if-not-pass_key.true)

pub read_turn-returns-then-read_place-clause-read : goal.read_turn-returns-then-read_place-clause-read
read_turn-returns-then-read_place-clause-read t c =
    let fs = c.args.fields.now in
    let turn = c.args.turn.now in
    let within = field-within fs turn.field turn.key c.requires.keyed in
    let there = keyed-within (fields_view fs) turn.field turn.key c.requires.keyed in
    let placed = c.requires.placed in
    let count = c.requires.count in
    let room : turn.place < length c.args.places.now.items = omega (arith, there, placed, count) in
    let keys = c.pass_key.ensures.passed c.if-not-pass_key.false ∙ ap (λ k. comma_if c.args.later ++ (k ++ c.pass_key.new.self.text.now)) c.items.ensures in
    turn-placed (fields_view fs) turn (field_of c.index-fields-turn.result) c.read_place.new.place c.args.later c.args.places.now.items _ _ _ _
    (field-here fs turn.field c.index-fields-turn.result within c.index-fields-turn.is) c.requires.keyed room refl keys (c.read_place.ensures c.if-read_place.true)

-- The value of a component.

pub read_field-returns-then-is_integer : goal.read_field-returns-then-is_integer
read_field-returns-then-is_integer t c = λ h. c.is_integer.ensures c.if-is_integer.true (data_of c.read_integer.new.value) c.args.rest.now.text.now c.read_integer.new.rest.text.now (λ items. c.read_integer.ensures items h)

pub read_field-returns-in-Octets : goal.read_field-returns-in-Octets
read_field-returns-in-Octets t c = λ h.
    let f = c.in-Component in
    let is = ap field_of f.is ∙ view_component f.name f.node f.presence f.default f.slot in
    subst (λ x. IsFieldRead x (data_of c.read_octet_string.new.value) c.args.rest.now.text.now c.read_octet_string.new.rest.text.now) (sym is) (octets_read f.node _ _ _ _ c.in-Octets.is (λ align sizing. c.read_octet_string.ensures align sizing h))

pub read_field-returns-in-Text : goal.read_field-returns-in-Text
read_field-returns-in-Text t c = λ h.
    let f = c.in-Component in
    let is = ap field_of f.is ∙ view_component f.name f.node f.presence f.default f.slot in
    subst (λ x. IsFieldRead x (data_of c.read_text.new.value) c.args.rest.now.text.now c.read_text.new.rest.text.now) (sym is) (text_read f.node _ _ _ _ c.in-Text.is (λ align leaf. c.read_text.ensures align leaf h))

-- Lists.

pub read_elements-loop-at-init : goal.read_elements-loop-at-init
read_elements-loop-at-init t c = record {
  within = omega arith;
  so_far = elements_begin (grammar_of c.args.element.now) _ _ refl;
}

pub read_elements-loop-at-preserved : goal.read_elements-loop-at-preserved
read_elements-loop-at-preserved t c =
    let l = c.loop-at in
    let v = c.read_node.new.value in
    let made = c.make_place.new.elements.items in
    let there = c.make_place.ensures.within c.if-not-make_place.false in
    let put = take_more_set made l.at v there ∙ ap (λ vs. vs ++ v ∷ []) c.make_place.ensures.same in
    let comma = sym (c.pass.ensures.stays c.if-pass.false) ∙ c.pass-in-loop-at.ensures.passed c.if-not-pass.false in
    record {
      within = omega (arith, there, length-set made l.at v);
      so_far = elements_more (grammar_of c.args.element.now) (take l.at l.elements.items) _ v _ _ _ _ put (c.read_node.ensures c.if-not-read_node.false) comma l.invariant.so_far;
    }

pub read_elements-returns-then-pass : goal.read_elements-returns-then-pass
read_elements-returns-then-pass t c = λ h.
    let l = c.loop-at in
    let v = c.read_node.new.value in
    let made = c.make_place.new.elements.items in
    let there = c.make_place.ensures.within c.if-not-make_place.false in
    let put = c.cut.ensures ∙ (take_more_set made l.at v there ∙ ap (λ vs. vs ++ v ∷ []) c.make_place.ensures.same) in
    elements_end (grammar_of c.args.element.now) (take l.at l.elements.items) _ v _ _ _ _ put (c.read_node.ensures c.if-not-read_node.false) (c.pass.ensures.passed c.if-pass.true) l.invariant.so_far

-- Alternatives.

pub read_alternative-bounds-alternatives-at : goal.read_alternative-bounds-alternatives-at
read_alternative-bounds-alternatives-at t c = c.in-Some.ensures.within

pub read_alternative-offset_bounds-alternatives-at : goal.read_alternative-offset_bounds-alternatives-at
read_alternative-offset_bounds-alternatives-at t c = grind (arith, common_steps, c.in-Some.ensures.within)

pub read_alternative-bounds-inside-at : goal.read_alternative-bounds-inside-at
read_alternative-bounds-inside-at t c =
    alternatives-within c.args.alternatives.now c.args.inside.now c.in-Some.at c.requires c.in-Some.ensures.within

pub read_alternative-offset_bounds-inside-at : goal.read_alternative-offset_bounds-inside-at
read_alternative-offset_bounds-inside-at t c =
    grind (arith, common_steps, alternatives-within c.args.alternatives.now c.args.inside.now c.in-Some.at c.requires c.in-Some.ensures.within)

pub read_alternative-read_node-requires : goal.read_alternative-read_node-requires
read_alternative-read_node-requires t c =
    let as' = c.args.alternatives.now in
    let a = c.index-alternatives-at.result in (
      search (rules, node_lemmas),
      subst (λ y. IsNodeOrder (grammar_of y.node) c.index-inside-at.result) c.index-alternatives-at.is (alternative-here as' c.args.inside.now c.in-Some.at a c.index-inside-at.result c.requires c.in-Some.ensures.within c.index-alternatives-at.is c.index-inside-at.is),
    )

pub read_alternative-returns-in-Some-alternative_of : goal.read_alternative-returns-in-Some-alternative_of
read_alternative-returns-in-Some-alternative_of t c = λ h.
    let as' = c.args.alternatives.now in
    let a = c.index-alternatives-at.result in
    let d = data_of c.read_node.new.value in
    let read = subst (λ y. IsRead (grammar_of y.node) d c.pass_alternative.new.rest.text.now c.read_node.new.rest.text.now) (sym c.index-alternatives-at.is) (c.read_node.ensures c.if-not-read_node.false) in
    alternative_read as' c.in-Some.at a c.in-Some-alternative_of.read d _ _ _ _
    c.in-Some-alternative_of.ensures c.in-Some.ensures.within c.index-alternatives-at.is c.in-Some.ensures.text read (c.pass.ensures.passed c.if-not-pass.false)
