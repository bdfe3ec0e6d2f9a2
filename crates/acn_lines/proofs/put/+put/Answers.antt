use Rattle.std.proofs.Common.{◌≡◌, ℕ, ◌<◌, List, ◌++◌, length, get_or, ap, Result, Ok, Err, OnErr, append_assoc, ◌∙◌, arith, rules}
use Rattle.std.proofs.lemmas.Grind.{common_steps}
use Rattle.acn_grammar.specs.View.{field_of, fields_view, places_view, data_of}
use Rattle.acn_grammar.specs.declared.node.Body.{the_lemmas as node_lemmas}
use Rattle.acn_grammar.proofs.Views.{view_seq, view_node, view_seq_form}
use Rattle.acn_json.specs.Kept.{Kept}
use Rattle.acn_lines.specs.Order.{field_at, place_at}
use Rattle.acn_lines.proofs.Alternatives.{alternative-at, alternative-past}
use Rattle.acn_lines.proofs.Parts.{field-here, field-within, orders-within, order-here, alternatives-within, alternative-here, turn-text}
use Rattle.acn_lines.proofs.put.+put.Goals as goal

kept_behind : {old mid new : List ℕ} (text : List ℕ) → mid ≡ old ++ text → Kept mid new → Kept old new
kept_behind {old} text added kept = record {
  behind = text ++ kept.behind;
  same = kept.same ∙ (ap (λ t. t ++ kept.behind) added ∙ append_assoc old text kept.behind);
}

kept_twice : {old mid new : List ℕ} → Kept old mid → Kept mid new → Kept old new
kept_twice first second = kept_behind first.behind first.same second

on_any_err : {T E K : Type 0} (r : Result T E) → K → OnErr r K
on_any_err (Ok x) k = tt
on_any_err (Err e) k = k

pub put_alternative-bounds-inside-at : goal.put_alternative-bounds-inside-at
put_alternative-bounds-inside-at t c =
    let within : c.args.at < length c.args.alternatives.now = grind (arith, common_steps) in
    alternatives-within c.args.alternatives.now c.args.inside.now c.args.at c.requires within

pub put_alternative-put_node-requires : goal.put_alternative-put_node-requires
put_alternative-put_node-requires t c =
    let as' = c.args.alternatives.now in
    let a = c.in-Some.alternative.now in
    let within : c.args.at < length as' = grind (arith, common_steps) in
    let same : a ≡ get_or as' c.args.at a = grind (arith, common_steps) in
    (search (rules, node_lemmas), alternative-here as' c.args.inside.now c.args.at a c.index-inside-at.result c.requires within same c.index-inside-at.is)

pub put_alternative-returns-in_ok-put_node-in-Some-clause-added :
    goal.put_alternative-returns-in_ok-put_node-in-Some-clause-added
put_alternative-returns-in_ok-put_node-in-Some-clause-added t c =
    grind (arith, common_steps, alternative-at c.args.alternatives.now c.args.at c.in-Some.alternative.now (data_of c.args.value.now))

pub put_alternative-returns-in-None-clause-added : goal.put_alternative-returns-in-None-clause-added
put_alternative-returns-in-None-clause-added t c = grind (arith, common_steps, alternative-past c.args.alternatives.now c.args.at (data_of c.args.value.now))

pub put_array-returns-in_err-put_comma-clause-kept :
    goal.put_array-returns-in_err-put_comma-clause-kept
put_array-returns-in_err-put_comma-clause-kept t c =
    on_any_err _ (kept_behind _ c.in_ok-put_octet.ensures.added (kept_twice c.loop-value.invariant.kept c.in_err-put_comma.ensures.kept))

pub put_array-returns-in_err-put_node-clause-kept :
    goal.put_array-returns-in_err-put_node-clause-kept
put_array-returns-in_err-put_node-clause-kept t c =
    on_any_err _
    (kept_behind _ c.in_ok-put_octet.ensures.added (kept_twice c.loop-value.invariant.kept (kept_behind _ c.in_ok-put_comma.ensures.added c.in_err-put_node.ensures.kept)))

pub put_node-returns-in-Seq-value-clause-added : goal.put_node-returns-in-Seq-value-clause-added
put_node-returns-in-Seq-value-clause-added t c = grind (arith, common_steps, view_seq, view_node, view_seq_form)

pub put_turn-offset_bounds-fields-turn : goal.put_turn-offset_bounds-fields-turn
put_turn-offset_bounds-fields-turn t c = grind (arith, common_steps, field-within c.args.fields.now c.args.turn.now.field c.args.turn.now.key c.requires.keyed)

pub put_turn-bounds-fields-turn : goal.put_turn-bounds-fields-turn
put_turn-bounds-fields-turn t c = field-within c.args.fields.now c.args.turn.now.field c.args.turn.now.key c.requires.keyed

pub put_turn-offset_bounds-inside-turn : goal.put_turn-offset_bounds-inside-turn
put_turn-offset_bounds-inside-turn t c =
    let within = field-within c.args.fields.now c.args.turn.now.field c.args.turn.now.key c.requires.keyed in
    grind (arith, common_steps, orders-within c.args.fields.now c.args.inside.now c.args.turn.now.field c.requires.inside within)

pub put_turn-bounds-inside-turn : goal.put_turn-bounds-inside-turn
put_turn-bounds-inside-turn t c =
    let within = field-within c.args.fields.now c.args.turn.now.field c.args.turn.now.key c.requires.keyed in
    orders-within c.args.fields.now c.args.inside.now c.args.turn.now.field c.requires.inside within

pub put_turn-put_field-requires : goal.put_turn-put_field-requires
put_turn-put_field-requires t c =
    let within = field-within c.args.fields.now c.args.turn.now.field c.args.turn.now.key c.requires.keyed in
    (search (rules, node_lemmas), order-here c.args.fields.now c.args.inside.now c.args.turn.now.field c.index-fields-turn.result c.index-inside-turn.result c.requires.inside within c.index-fields-turn.is c.index-inside-turn.is)

pub put_turn-returns-in_ok-put_field-in-Some-clause-added : goal.put_turn-returns-in_ok-put_field-in-Some-clause-added
put_turn-returns-in_ok-put_field-in-Some-clause-added t c =
    let fs = c.args.fields.now in
    let turn = c.args.turn.now in
    let within = field-within fs turn.field turn.key c.requires.keyed in
    λ ms. turn-text (field_at (fields_view fs) turn.field) (place_at (places_view c.args.places.now) turn.place) (field_of c.index-fields-turn.result) (data_of c.in-Some.value.now) turn.key c.args.later ms c.args.line.now.items c.put_comma.new.out.items c.put.new.out.items c.put_field.new.line.items
    (field-here fs turn.field c.index-fields-turn.result within c.index-fields-turn.is) c.in-Some.ensures c.requires.keyed c.in_ok-put_comma-in-Some.ensures.added
    (c.in_ok-put-in-Some.ensures.added ∙ ap (λ t. c.put_comma.new.out.items ++ t) c.items.ensures) c.in_ok-put_field-in-Some.ensures.added
