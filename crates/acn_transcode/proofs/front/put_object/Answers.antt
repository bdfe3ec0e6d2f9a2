use Rattle.std.proofs.Common.{List, sym, ap, subst, ◌∙◌}
use Rattle.acn_grammar.specs.Grammar.{Form, seq, record_of}
use Rattle.acn_grammar.specs.View.{form_of, fields_view, places_of}
use Rattle.acn_grammar.specs.declared.node.Body.TheVariants.{Seq as Seq_body}
use Rattle.acn_grammar.specs.declared.node.Field.{Field}
use Rattle.acn_grammar.proofs.Views.{view_seq_form}
use Rattle.acn_lines.specs.Order.{IsFormOrder, AreTurns}
use Rattle.acn_lines.specs.declared.order.Order.{out-Order}
use Rattle.acn_transcode.specs.Puts.{AreLaid}
use Rattle.acn_transcode.proofs.Walks.{alone_laid, fields_laid, object_put}
use Rattle.acn_transcode.proofs.front.put_object.Goals as goal

pub put_members-requires : goal.put_members-requires
put_members-requires c =
    let fields = c.items-2.result.now in
    let p = c.lay_sequence.ensures.laid c.if-not-lay_sequence.false in
    let lays = fields_laid fields c.args.seq.now.fields p.0 _ _ c.items-2.ensures p.2 in
    let v = view_seq_form c.args.seq.now in
    let o = subst (λ (x : Form). IsFormOrder x c.args.order.now) v c.requires.order in
    let turns = subst (λ ts. AreTurns (fields_view fields) ts) (sym c.items.ensures) (subst (λ (x : List Field). AreTurns (fields_view x) (out-Order c.args.order.now).turns) (sym c.items-2.ensures) o.0) in
    let alone = alone_laid (fields_view fields) p.0 c.args.draft.now c.lay_sequence.new.draft lays c.requires.none in
    let laid = subst (λ x. AreLaid x (fields_view fields) c.deref.result.now p.0) (sym c.deref-2.ensures.value) (subst (λ s. AreLaid c.lay_sequence.new.draft.text.items (fields_view fields) s p.0) (sym c.deref.ensures.value) alone) in
    record { short = turns.4; laid = (p.0, laid, turns.0, turns.2) }

pub returns-clause-put : goal.returns-clause-put
returns-clause-put c sure =
    let fields = c.items-2.result.now in
    let p = c.lay_sequence.ensures.laid c.if-not-lay_sequence.false in
    let lays = fields_laid fields c.args.seq.now.fields p.0 _ _ c.items-2.ensures p.2 in
    let v = view_seq_form c.args.seq.now in
    let o = subst (λ (x : Form). IsFormOrder x c.args.order.now) v c.requires.order in
    let turns = subst (λ ts. AreTurns (fields_view fields) ts) (sym c.items.ensures) (subst (λ (x : List Field). AreTurns (fields_view x) (out-Order c.args.order.now).turns) (sym c.items-2.ensures) o.0) in
    let alone = alone_laid (fields_view fields) p.0 c.args.draft.now c.lay_sequence.new.draft lays c.requires.none in
    let laid = subst (λ x. AreLaid x (fields_view fields) c.deref.result.now p.0) (sym c.deref-2.ensures.value) (subst (λ s. AreLaid c.lay_sequence.new.draft.text.items (fields_view fields) s p.0) (sym c.deref.ensures.value) alone) in
    let said = c.put_members.ensures.put sure p.0 laid turns.0 turns.2 in
    let form = form_of (Seq_body c.args.seq.now) in (
      record_of (places_of p.0),
      p.1,
      object_put (fields_view fields) c.args.seq.now.home c.items.result.now p.0 form c.args.text.now.items c.put_members.new.text.items (v ∙ ap (λ (x : List Field). seq (fields_view x) c.args.seq.now.home) (sym c.items-2.ensures)) turns said,
    )
