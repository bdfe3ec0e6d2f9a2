use Rattle.std.proofs.Common.{◌≡◌, ◌++◌, ◌∷◌, [], Some, length, refl, sym, ap, subst, ◌∙◌, arith, rules, append_assoc, append-nil}
use Rattle.std.proofs.lemmas.Grind.{common_steps}
use Rattle.json.specs.Token.{Token}
use Rattle.acn_grammar.specs.Grammar.{no_elements, node, seq, list, record_of}
use Rattle.acn_grammar.specs.View.{grammar_of, data_of, fields_view, places_view, elements_view, alternatives_view}
use Rattle.acn_grammar.specs.declared.node.Body.{the_lemmas as node_lemmas}
use Rattle.acn_grammar.proofs.Views.{view_seq}
use Rattle.acn_grammar.proofs.Characters.{same_name-is}
use Rattle.acn_lines.specs.Names.{NamesDiffer}
use Rattle.acn_lines.specs.Order.{IsNodeOrder}
use Rattle.acn_lines.specs.Taken.{IsTaken, AreTaken, MembersTaken}
use Rattle.acn_lines.proofs.LeafLaw.{view_list}
use Rattle.acn_lines.proofs.MemberTurns.{component-at, order-inside, names-inside, place-there, member-taken}
use Rattle.acn_lines.proofs.MembersLaw.{keyed_at, placed_at, members_end, record_taken}
use Rattle.acn_lines.proofs.NodesLaw.{num_node, octets_node, bits_node, text_node, seq_node, choice_node, contained_node, choice_made}
use Rattle.acn_lines.proofs.Parts.{field-within, orders-within, order-here, alternatives-within, alternative-here, alternative-names}
use Rattle.acn_lines.proofs.TakenLaw.{taken_shorter, elements_end, elements_more, list_taken, alternative_is, number_within}
use Rattle.acn_lines.proofs.take.+take.Goals as goal

-- The node.

pub take_node-returns-in-Num : goal.take_node-returns-in-Num
take_node-returns-in-Num t c = num_node c.args.node.now c.in-Num.leaf _ _ _ c.in-Num.is c.take_number.ensures

pub take_node-returns-in-Octets : goal.take_node-returns-in-Octets
take_node-returns-in-Octets t c = octets_node c.args.node.now _ _ _ _ c.in-Octets.is c.take_octets.ensures

pub take_node-returns-in-Bits : goal.take_node-returns-in-Bits
take_node-returns-in-Bits t c = bits_node c.args.node.now _ _ _ _ c.in-Bits.is c.take_bits.ensures

pub take_node-returns-in-Text : goal.take_node-returns-in-Text
take_node-returns-in-Text t c = text_node c.args.node.now _ _ _ _ c.in-Text.is c.take_characters.ensures

pub take_node-returns-in-Seq : goal.take_node-returns-in-Seq
take_node-returns-in-Seq t c = seq_node c.args.node.now c.in-Seq.seq c.items.result.now _ _ _ c.in-Seq.is c.items.ensures c.take_record.ensures

pub take_node-returns-in-Choice : goal.take_node-returns-in-Choice
take_node-returns-in-Choice t c = choice_node c.args.node.now c.in-Choice.choice _ _ _ _ c.in-Choice.is c.items-in-Choice.ensures c.take_alternative.ensures

pub take_node-returns-in-Contained : goal.take_node-returns-in-Contained
take_node-returns-in-Contained t c = contained_node c.args.node.now _ _ _ _ _ _ c.in-Contained.is c.get-in-Contained.ensures c.take_node.ensures

-- Records.

pub take_record-returns-then-is_whole : goal.take_record-returns-then-is_whole
take_record-returns-then-is_whole t c = λ align home.
    let fs = fields_view c.args.fields.now in
    let row = c.from_vec.result in
    let is : row ≡ c.take_members.new.places.items = c.from_vec.ensures in
    subst (λ d. IsTaken (node align (seq fs home)) d c.args.reader.now c.take_members.new.reader) (sym (view_seq row ∙ ap (λ ps. record_of (places_view ps)) is))
    (record_taken fs (places_view c.in-Ok.places.items) (places_view c.take_members.new.places.items) _ _ _ align home c.in-Ok.ensures.empty c.in_ok-open_object.ensures c.in_ok-take_members.ensures (sym (rw c.deref.ensures.value at c.is_whole.ensures) ∙ c.if-is_whole.true))

-- Members.

pub take_members-take_member-requires : goal.take_members-take_member-requires
take_members-take_member-requires t c =
    let fs = fields_view c.args.fields.now in
    let ts = c.args.turns.now in (
      search (rules, node_lemmas),
      (
        keyed_at fs ts c.in_ok-at.at c.index-turns-at.result c.requires.keyed c.in_ok-at.ensures c.index-turns-at.is,
        (
          placed_at fs ts c.in_ok-at.at c.index-turns-at.result c.requires.placed c.in_ok-at.ensures c.index-turns-at.is,
          (c.requires.inside, (c.requires.differ, (c.requires.names, c.members.invariant.count))),
        ),
      ),
    )

pub take_members-returns : goal.take_members-returns
take_members-returns t c =
    let l = c.members in
    let fs = fields_view c.args.fields.now in
    let last : l.reader ≡ Token.end_object ∷ c.take_key.new.reader = grind (arith, common_steps) in
    l.invariant.so_far _ _ (subst (λ ts. MembersTaken fs (places_view l.places.items) ts (places_view l.places.items) c.take_key.new.reader) (sym last) (members_end fs (places_view l.places.items) c.take_key.new.reader))

-- One member.

pub take_member-offset_bounds-fields-turn : goal.take_member-offset_bounds-fields-turn
take_member-offset_bounds-fields-turn t c = grind (arith, common_steps, field-within c.args.fields.now c.args.turn.now.field c.args.turn.now.key c.requires.1.1.0)

pub take_member-bounds-fields-turn : goal.take_member-bounds-fields-turn
take_member-bounds-fields-turn t c = field-within c.args.fields.now c.args.turn.now.field c.args.turn.now.key c.requires.1.1.0

pub take_member-offset_bounds-inside-turn : goal.take_member-offset_bounds-inside-turn
take_member-offset_bounds-inside-turn t c =
    let within = field-within c.args.fields.now c.args.turn.now.field c.args.turn.now.key c.requires.1.1.0 in
    grind (arith, common_steps, orders-within c.args.fields.now c.args.inside.now c.args.turn.now.field c.requires.1.1.1.1.0 within)

pub take_member-bounds-inside-turn : goal.take_member-bounds-inside-turn
take_member-bounds-inside-turn t c =
    let within = field-within c.args.fields.now c.args.turn.now.field c.args.turn.now.key c.requires.1.1.0 in
    orders-within c.args.fields.now c.args.inside.now c.args.turn.now.field c.requires.1.1.1.1.0 within

pub take_member-take_node-requires : goal.take_member-take_node-requires
take_member-take_node-requires t c =
    let fs = c.args.fields.now in
    let k = c.args.turn.now.field in
    let a = c.in-Component in
    let within = field-within fs k c.args.turn.now.key c.requires.1.1.0 in
    let at = component-at fs k c.index-fields-turn.result a.own a.node _ _ _ within c.index-fields-turn.is a.is in (
      search (rules, node_lemmas),
      (
        order-inside c.index-fields-turn.result a.own a.node _ _ _ c.index-inside-turn.result a.is (order-here fs c.args.inside.now k c.index-fields-turn.result c.index-inside-turn.result c.requires.1.1.1.1.0 within c.index-fields-turn.is c.index-inside-turn.is),
        names-inside (fields_view fs) k a.own (grammar_of a.node) _ _ _ at c.requires.1.1.1.1.1.1.0,
      ),
    )

pub take_member-index_mut-requires : goal.take_member-index_mut-requires
take_member-index_mut-requires t c =
    let fs = c.args.fields.now in
    let k = c.args.turn.now.field in
    let a = c.in-Component in
    let within = field-within fs k c.args.turn.now.key c.requires.1.1.0 in
    let at = component-at fs k c.index-fields-turn.result a.own a.node _ _ _ within c.index-fields-turn.is a.is in
    let there = place-there (fields_view fs) k a.own (grammar_of a.node) _ _ _ at in
    let placed = c.requires.1.1.1.0 in
    let count = c.requires.1.1.1.1.1.1.1 in
    grind (arith, common_steps)

pub take_member-returns-in_ok-value-in-Component-clause-shorter :
    goal.take_member-returns-in_ok-value-in-Component-clause-shorter
take_member-returns-in_ok-value-in-Component-clause-shorter t c = taken_shorter _ _ _ _ c.in_ok-value-in-Component.ensures

pub take_member-returns-in_ok-value-in-Component-clause-member :
    goal.take_member-returns-in_ok-value-in-Component-clause-member
take_member-returns-in_ok-value-in-Component-clause-member t c =
    let fs = c.args.fields.now in
    let k = c.args.turn.now.field in
    let a = c.in-Component in
    let within = field-within fs k c.args.turn.now.key c.requires.1.1.0 in
    let at = component-at fs k c.index-fields-turn.result a.own a.node _ _ _ within c.index-fields-turn.is a.is in
    let named = sym c.bytes.ensures ∙ (same_name-is _ _ (sym c.if-not-is_same.ensures) ∙ c.as_bytes.ensures.value) in
    member-taken (fields_view fs) k c.args.turn.now.place a.own c.args.name.now (grammar_of a.node) _ _ _ c.in_ok-value-in-Component.value c.args.places.now.items _ c.args.reader.now c.take_node.new.reader at named c.requires.1.1.1.0 c.requires.1.1.1.1.1.0 (c.in_ok-value-in-Component.ensures {u = tt}) refl

-- Lists.

pub take_list-returns : goal.take_list-returns
take_list-returns t c = λ align sizing.
    let g = grammar_of c.args.element.now in
    let vs = c.in_ok-elements.elements in
    subst (λ d. IsTaken (node align (list sizing g)) d c.args.reader.now c.take_elements.new.reader) (sym (view_list vs)) (list_taken g (elements_view vs) _ _ _ align sizing c.in_ok-open_array.ensures c.in_ok-elements.ensures)

pub take_elements-elements-smaller : goal.take_elements-elements-smaller
take_elements-elements-smaller t c =
    let same : c.close_array.new.reader ≡ c.elements.reader = grind (arith, common_steps) in
    let long = ap length same in
    let short = taken_shorter _ _ _ _ c.in_ok-value.ensures in
    omega arith

pub take_elements-elements-preserved : goal.take_elements-elements-preserved
take_elements-elements-preserved t c = λ vs new h.
    let l = c.elements in
    let g = grammar_of c.args.element.now in
    let v = c.in_ok-value.value in
    let same : c.close_array.new.reader ≡ l.reader = grind (arith, common_steps) in
    let taken = subst (λ ts. IsTaken g (data_of v) ts c.take_node.new.reader) same c.in_ok-value.ensures in
    let put : c.push.new.self ≡ l.elements ++ v ∷ [] = grind (arith, common_steps) in
    subst (λ xs. AreTaken g (elements_view xs) c.args.reader.now new) (sym (ap (λ xs. xs ++ vs) put ∙ append_assoc l.elements (v ∷ []) vs))
    (l.invariant (v ∷ vs) new (elements_more g (data_of v) (elements_view vs) l.reader c.take_node.new.reader new taken h))

pub take_elements-returns : goal.take_elements-returns
take_elements-returns t c =
    let l = c.elements in
    let g = grammar_of c.args.element.now in
    let last : l.reader ≡ Token.end_array ∷ c.close_array.new.reader = grind (arith, common_steps) in
    subst (λ xs. AreTaken g (elements_view xs) c.args.reader.now c.close_array.new.reader) (append-nil l.elements)
    (l.invariant [] _ (subst (λ ts. AreTaken g no_elements ts c.close_array.new.reader) (sym last) (elements_end g c.close_array.new.reader)))

-- Alternatives.

pub take_alternative-bounds-alternatives-at : goal.take_alternative-bounds-alternatives-at
take_alternative-bounds-alternatives-at t c = (let w = number_within _ 0 c.in_ok-at.at c.args.alternatives.now c.in_ok-at.ensures in omega arith)

pub take_alternative-offset_bounds-alternatives-at : goal.take_alternative-offset_bounds-alternatives-at
take_alternative-offset_bounds-alternatives-at t c = grind (arith, common_steps, number_within _ 0 c.in_ok-at.at c.args.alternatives.now c.in_ok-at.ensures)

pub take_alternative-bounds-inside-at : goal.take_alternative-bounds-inside-at
take_alternative-bounds-inside-at t c =
    let w = number_within _ 0 c.in_ok-at.at c.args.alternatives.now c.in_ok-at.ensures in
    alternatives-within c.args.alternatives.now c.args.inside.now c.in_ok-at.at c.requires.inside (omega arith)

pub take_alternative-offset_bounds-inside-at : goal.take_alternative-offset_bounds-inside-at
take_alternative-offset_bounds-inside-at t c =
    let w = number_within _ 0 c.in_ok-at.at c.args.alternatives.now c.in_ok-at.ensures in
    grind (arith, common_steps, alternatives-within c.args.alternatives.now c.args.inside.now c.in_ok-at.at c.requires.inside (omega arith))

pub take_alternative-take_node-requires : goal.take_alternative-take_node-requires
take_alternative-take_node-requires t c =
    let as' = c.args.alternatives.now in
    let w = number_within _ 0 c.in_ok-at.at as' c.in_ok-at.ensures in
    let a = c.index-alternatives-at.result in (
      search (rules, node_lemmas),
      (
        subst (λ y. IsNodeOrder (grammar_of y.node) c.index-inside-at.result) c.index-alternatives-at.is (alternative-here as' c.args.inside.now c.in_ok-at.at a c.index-inside-at.result c.requires.inside (omega arith) c.index-alternatives-at.is c.index-inside-at.is),
        subst (λ y. NamesDiffer (grammar_of y.node)) c.index-alternatives-at.is (alternative-names as' c.in_ok-at.at a c.requires.names (omega arith) c.index-alternatives-at.is),
      ),
    )

pub take_alternative-returns-in-None : goal.take_alternative-returns-in-None
take_alternative-returns-in-None t c =
    let as' = c.args.alternatives.now in
    let w = number_within _ 0 c.in_ok-at.at as' c.in_ok-at.ensures in
    let a = c.index-alternatives-at.result in
    let at = alternative_is as' c.in_ok-at.at a (omega arith) c.index-alternatives-at.is ∙ ap (λ y. Some (grammar_of y.node)) c.index-alternatives-at.is in
    let first : c.open_object.new.reader ≡ Token.key c.in_ok-name.name.now ∷ c.take_key.new.reader = grind (arith, common_steps) in
    let last : c.take_node.new.reader ≡ Token.end_object ∷ c.take_key-2.new.reader = grind (arith, common_steps) in
    choice_made (alternatives_view as') c.in_ok-at.at c.in_ok-name.name.now _ (data_of c.in_ok-value.value) _ _ _ _ _ c.alternative_of.ensures (rw c.as_bytes.ensures.value at (c.in_ok-at.ensures {u = tt})) at
    (c.in_ok-open_object.ensures {u = tt} ∙ ap (λ ts. Token.begin_object ∷ ts) first) (c.in_ok-value.ensures {u = tt}) last
