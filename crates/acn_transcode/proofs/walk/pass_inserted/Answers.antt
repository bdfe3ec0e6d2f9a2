use Rattle.std.proofs.lemmas.Int.{to_z-of_z}
use Rattle.std.specs.Int.{w128}
use Rattle.std.proofs.Common.{ℤ, suc, [], sym, ap, ◌∙◌, subst, rules}
use Rattle.acn_grammar.specs.Env.{Env}
use Rattle.acn_grammar.specs.Grammar.{Grammar, inserted}
use Rattle.acn_grammar.specs.ItemsNamed.{ItemsNamed}
use Rattle.acn_grammar.specs.View.{grammar_of}
use Rattle.acn_reads.specs.Decoded.{FieldsStand, Turn}
use Rattle.acn_reads.specs.Steps.{noted_by}
use Rattle.acn_reads.proofs.Nodes.{node_of_number}
use Rattle.acn_reads.proofs.SlotTurns.{code_read, inserted_read}
use Rattle.acn_transcode.proofs.walk.pass_inserted.Goals as goal

pub returns-in-Some-clause-turn : goal.returns-in-Some-clause-turn
returns-in-Some-clause-turn c sure here k name fs flags =
    let root = grammar_of c.args.root.now in
    let leaf = c.in-Num.leaf in
    let slots = c.args.draft.now.slots.items in
    let r = c.requires.ready in
    let v = node_of_number c.args.node.now leaf c.in-Num.is in
    let code = code_read c.args.node.now.align leaf c.in-Some.x c.args.cur.now c.pad.new.cur c.number.new.cur c.in-Ok.ensures.passed c.in-Some.ensures.read in
    let turn = inserted_read root here c.args.cur.now.origin k name c.args.node.now.align leaf c.args.slot c.in-Some.x fs r.2 slots flags c.args.cur.now c.number.new.cur r.0 r.1 (subst (λ (g : Grammar). FieldsStand root r.0 (inserted [] g c.args.slot r.2) slots r.1) v r.3) (subst ItemsNamed v c.requires.named) c.requires.fine code in
    subst (λ (x : Env). Turn root here c.args.cur.now.origin k (suc k) (inserted name (grammar_of c.args.node.now) c.args.slot fs) fs [] slots x flags flags c.args.cur.now c.number.new.cur) (sym (c.note.ensures sure ∙ ap (λ (z : ℤ). noted_by c.args.slot z slots) (to_z-of_z w128 c.in-Some.x (record { sfits = search rules }))))
    (subst (λ (g : Grammar). Turn root here c.args.cur.now.origin k (suc k) (inserted name g c.args.slot fs) fs [] slots (noted_by c.args.slot c.in-Some.x slots) flags flags c.args.cur.now c.number.new.cur) (sym v) turn)
