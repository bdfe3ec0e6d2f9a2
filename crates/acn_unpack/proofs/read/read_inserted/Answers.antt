use Rattle.std.proofs.lemmas.Int.{to_z-of_z}
use Rattle.std.specs.Int.{w128}
use Rattle.std.proofs.Common.{rules, ℕ, suc, ℤ, List, [], length, sym, ap, ◌∙◌, subst, refl}
use Rattle.acn_grammar.specs.Grammar.{Grammar, num, inserted}
use Rattle.acn_grammar.specs.ItemsNamed.{ItemsNamed}
use Rattle.acn_plan.specs.Back.{root_of, node_at}
use Rattle.acn_reads.specs.Decoded.{FieldsStand, NodeStops, Turn}
use Rattle.acn_reads.specs.Steps.{noted_by}
use Rattle.acn_reads.proofs.Nodes.{node_room, node_align, leaf_fine}
use Rattle.acn_reads.proofs.SlotTurns.{inserted_read, inserted_fails, inserted_leaf, inserted_sound}
use Rattle.acn_unpack.proofs.Halting.{fault_map, full_halts}
use Rattle.acn_unpack.proofs.Numbers.{inserted_free}
use Rattle.acn_unpack.proofs.read.read_inserted.Goals as goal

pub push-requires : goal.push-requires
push-requires types c = let r = c.requires.ready in let s = inserted_sound (root_of c.args.steps.now) (node_at c.args.steps.now c.args.this) c.args.slot r.1 _ _ r.0 r.2 in node_room (root_of c.args.steps.now) (node_at c.args.steps.now c.args.this) (length c.args.path.now) r.0 s.0 s.1

pub act_leaf-requires : goal.act_leaf-requires
act_leaf-requires types c = let r = c.requires.ready in record { is = c.requires.is; number = inserted_leaf (root_of c.args.steps.now) (node_at c.args.steps.now c.args.this) c.args.slot r.1 _ _ r.0 r.2 }

pub read_code-requires : goal.read_code-requires
read_code-requires types c =
    let r = c.requires.ready in
    let s = inserted_sound (root_of c.args.steps.now) (node_at c.args.steps.now c.args.this) c.args.slot r.1 _ _ r.0 r.2 in
    record { some = node_align (root_of c.args.steps.now) (node_at c.args.steps.now c.args.this) c.args.step.now.align (num c.act_leaf.result.now) _ r.0 s.0 c.act_leaf.ensures s.1; fine = leaf_fine (root_of c.args.steps.now) (node_at c.args.steps.now c.args.this) c.args.step.now.align c.act_leaf.result.now _ r.0 s.0 c.act_leaf.ensures s.1 }

pub returns-in-Ok-note-clause-read : goal.returns-in-Ok-note-clause-read
returns-in-Ok-note-clause-read types c place name fs flags =
    let r = c.requires.ready in
    let e = c.act_leaf.ensures in
    let root = root_of c.args.steps.now in
    let turn = inserted_read (root_of c.args.steps.now) (record { path = c.args.path.now; place = place; inside = c.args.inside }) c.args.cur.now.origin c.args.k name c.args.step.now.align c.act_leaf.result.now c.args.slot c.in-Ok.x fs r.1 (types.T.SlotTable.env c.args.slots.now) flags c.args.cur.now c.read_code.new.cur (suc (length c.args.path.now)) r.0
    (subst (λ (g : Grammar). FieldsStand (root_of c.args.steps.now) (suc (length c.args.path.now)) (inserted [] g c.args.slot r.1) (types.T.SlotTable.env c.args.slots.now) r.0) e r.2) (subst ItemsNamed e c.requires.named) c.requires.fine c.in-Ok.ensures.read in
    subst (λ (t : List (ℕ × ℤ)). Turn (root_of c.args.steps.now) (record { path = c.args.path.now; place = place; inside = c.args.inside }) c.args.cur.now.origin c.args.k (suc c.args.k) (inserted name (node_at c.args.steps.now c.args.this) c.args.slot fs) fs [] (types.T.SlotTable.env c.args.slots.now) t flags flags c.args.cur.now c.read_code.new.cur) (sym (c.in-Ok-note.ensures.noted ∙ ap (λ (z : ℤ). noted_by c.args.slot z (types.T.SlotTable.env c.args.slots.now)) (to_z-of_z w128 c.in-Ok.x (record { sfits = search rules }))))
    (subst (λ (g : Grammar). Turn (root_of c.args.steps.now) (record { path = c.args.path.now; place = place; inside = c.args.inside }) c.args.cur.now.origin c.args.k (suc c.args.k) (inserted name g c.args.slot fs) fs [] (types.T.SlotTable.env c.args.slots.now) (noted_by c.args.slot c.in-Ok.x (types.T.SlotTable.env c.args.slots.now)) flags flags c.args.cur.now c.read_code.new.cur) (sym e) turn)

pub returns-in-Err-clause-fails : goal.returns-in-Err-clause-fails
returns-in-Err-clause-fails types c =
    fault_map c.in-Err.stop _ _ _ c.in-Err.ensures.fault (λ q at s place name fs flags. inserted_fails (root_of c.args.steps.now) (record { path = c.args.path.now; place = place; inside = c.args.inside }) c.args.cur.now.origin c.args.k name (node_at c.args.steps.now c.args.this) c.args.slot fs (types.T.SlotTable.env c.args.slots.now) flags c.args.cur.now c.push.new.self q at refl
    (subst (λ (p : List ℕ). NodeStops (root_of c.args.steps.now) (node_at c.args.steps.now c.args.this) c.args.inside p (types.T.SlotTable.env c.args.slots.now) c.args.cur.now c.push.new.self q at) c.push.ensures
    (subst (λ (g : Grammar). NodeStops (root_of c.args.steps.now) g c.args.inside c.push.new.self (types.T.SlotTable.env c.args.slots.now) c.args.cur.now c.push.new.self q at) (sym c.act_leaf.ensures) (s (root_of c.args.steps.now) c.push.new.self (types.T.SlotTable.env c.args.slots.now) c.requires.fine)))) c.in-Err.ensures.fails

pub note-requires : goal.note-requires
note-requires types c = (let r = c.requires.ready in record { free = inserted_free (root_of c.args.steps.now) (node_at c.args.steps.now c.args.this) c.args.slot r.1 (suc (length c.args.path.now)) r.0 (types.T.SlotTable.env c.args.slots.now) r.2 r.3 })

pub returns-in-Err-note-clause-fails : goal.returns-in-Err-note-clause-fails
returns-in-Err-note-clause-fails types c = full_halts c.in-Err-note.stop types.T.SlotTable.places _ c.in-Err-note.ensures.lack
