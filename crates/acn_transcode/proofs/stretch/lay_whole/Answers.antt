use Rattle.std.proofs.Common.{suc, ◌+◌, length, refl, subst}
use Rattle.acn_grammar.specs.Grammar.{Form, no_fields}
use Rattle.acn_grammar.specs.View.{grammar_of, form_of, fields_view}
use Rattle.acn_grammar.specs.declared.node.Body.TheVariants.{Seq as Seq_body}
use Rattle.acn_grammar.proofs.Views.{view_seq_form}
use Rattle.acn_lines.specs.Order.{IsFormOrder}
use Rattle.acn_lines.specs.declared.order.Order.{out-Order}
use Rattle.acn_reads.proofs.Seqs.{fields_named, fields_ready}
use Rattle.acn_transcode.proofs.Walks.{laid_of, seq_put_read}
use Rattle.acn_transcode.proofs.stretch.lay_whole.Goals as goal

pub returns : goal.returns
returns c = record {
  laid = λ sure.
      let root = grammar_of c.args.root.now in
      let fields = c.args.seq.now.fields in
      let home = c.args.seq.now.home in
      let form = form_of (Seq_body c.args.seq.now) in
      let v = view_seq_form c.args.seq.now in
      let r = c.requires.ready in
      let o = subst (λ (x : Form). IsFormOrder x c.args.order.now) v c.requires.order in
      let old = c.args.draft.now in
      let mid = c.lay_stretch.new.draft in
      let q = fields_ready root _ fields fields home r.0 old.slots.items v refl (r.1, r.2) in
      let named = fields_named _ fields fields home v refl c.requires.named in
      let laid = c.lay_stretch.ensures c.if-not-lay_stretch.false (fields_view fields) no_fields c.requires.stretch.run in
      let p = laid root (suc r.0, q.0, q.1) named c.requires.fine in (
        p.0,
        seq_put_read root r.0 (0 + length c.args.stretch.now.pieces) form fields fields home c.items.result.now p.0 old.slots.items mid.slots.items c.forget.new.slots.items c.args.cur.now c.window.new.self c.lay_stretch.new.cur c.in-Ok._flags (out-Order c.args.order.now).flags _
            v refl c.items.ensures c.forget.ensures o.2 c.in-Ok.ensures.within c.in-Ok.ensures.window c.in-Ok.ensures.moved (r.1, r.2) (λ here. p.1 here 0 c.in-Ok._flags.rest),
        laid_of fields fields p.0 old mid _ refl refl refl refl p.2,
      );
}
