use Rattle.std.proofs.Common.{◌≡◌, ◌++◌, sym, subst}
use Rattle.serde_json.specs.Written.{compact_text}
use Rattle.acn_grammar.specs.Grammar.{Grammar}
use Rattle.acn_grammar.specs.View.{grammar_of, form_of}
use Rattle.acn_grammar.proofs.Views.{view_node}
use Rattle.acn_json.specs.Lines.{json_of}
use Rattle.acn_reads.specs.Decoded.{NodeRead}
use Rattle.acn_reads.proofs.Nodes.{node_read}
use Rattle.acn_transcode.proofs.front.put_packet.Goals as goal

pub returns-in-Ok-clause-put : goal.returns-in-Ok-clause-put
returns-in-Ok-clause-put c sure =
    let root = grammar_of c.args.root.now in
    let p = c.put_form.ensures.put sure in
    let v = view_node c.args.root.now in (
      p.0,
      subst (λ (g : Grammar). NodeRead root g p.0 c.args.draft.now.slots.items c.put_form.new.draft.slots.items c.args.cur.now c.put_form.new.cur) (sym v) (node_read root c.args.root.now.align (form_of c.args.root.now.body) p.0 c.args.draft.now.slots.items c.put_form.new.draft.slots.items c.args.cur.now c.pad.new.cur c.put_form.new.cur c.in-Ok.ensures.passed p.1),
      subst (λ (g : Grammar). c.put_form.new.text.items ≡ c.args.text.now.items ++ compact_text (json_of g p.0)) (sym v) p.2,
    )
