use Rattle.std.proofs.lemmas.Int.{to_z-of_z}
use Rattle.std.specs.Int.{w128}
use Rattle.std.proofs.Common.{rules, ℕ, suc, ℤ, List, [], length, sym, ap, ◌∙◌, subst, refl}
use Rattle.acn_grammar.specs.Grammar.{Grammar, num, inserted}
use Rattle.acn_grammar.specs.ItemsNamed.{ItemsNamed}
use Rattle.acn_grammar.specs.View.{grammar_of}
use Rattle.acn_reads.specs.Decoded.{FieldsStand, NodeStops, Turn}
use Rattle.acn_reads.specs.Steps.{noted_by}
use Rattle.acn_reads.proofs.Nodes.{tells_map, node_room, node_align, leaf_fine}
use Rattle.acn_reads.proofs.SlotTurns.{inserted_read, inserted_fails, inserted_leaf, inserted_sound}
use Rattle.acn_plain_read.proofs.slot.read_inserted.Goals as goal

pub push-requires : goal.push-requires
push-requires c = let r = c.requires.ready in let s = inserted_sound (grammar_of c.args.root.now) (grammar_of c.args.node.now) c.args.slot r.1 _ _ r.0 r.2 in node_room (grammar_of c.args.root.now) (grammar_of c.args.node.now) (length c.args.path.now) r.0 s.0 s.1

pub leaf_of-requires : goal.leaf_of-requires
leaf_of-requires c = let r = c.requires.ready in inserted_leaf (grammar_of c.args.root.now) (grammar_of c.args.node.now) c.args.slot r.1 _ _ r.0 r.2

pub read_code-requires : goal.read_code-requires
read_code-requires c =
    let r = c.requires.ready in
    let s = inserted_sound (grammar_of c.args.root.now) (grammar_of c.args.node.now) c.args.slot r.1 _ _ r.0 r.2 in
    record { some = node_align (grammar_of c.args.root.now) (grammar_of c.args.node.now) c.args.node.now.align (num c.leaf_of.result.now) _ r.0 s.0 c.leaf_of.ensures s.1; fine = leaf_fine (grammar_of c.args.root.now) (grammar_of c.args.node.now) c.args.node.now.align c.leaf_of.result.now _ r.0 s.0 c.leaf_of.ensures s.1 }

pub returns-in_ok-note-in-Ok-clause-read : goal.returns-in_ok-note-in-Ok-clause-read
returns-in_ok-note-in-Ok-clause-read c place name fs flags =
    let r = c.requires.ready in
    let e = c.leaf_of.ensures in
    let root = grammar_of c.args.root.now in
    let turn = inserted_read (grammar_of c.args.root.now) (record { path = c.args.path.now; place = place; inside = c.args.inside }) c.args.cur.now.origin c.args.k name c.args.node.now.align c.leaf_of.result.now c.args.slot c.in-Ok.x fs r.1 c.args.slots.now flags c.args.cur.now c.read_code.new.cur (suc (length c.args.path.now)) r.0
    (subst (λ (g : Grammar). FieldsStand (grammar_of c.args.root.now) (suc (length c.args.path.now)) (inserted [] g c.args.slot r.1) c.args.slots.now r.0) e r.2) (subst ItemsNamed e c.requires.named) c.requires.fine c.in-Ok.ensures.read in
    subst (λ (t : List (ℕ × ℤ)). Turn (grammar_of c.args.root.now) (record { path = c.args.path.now; place = place; inside = c.args.inside }) c.args.cur.now.origin c.args.k (suc c.args.k) (inserted name (grammar_of c.args.node.now) c.args.slot fs) fs [] c.args.slots.now t flags flags c.args.cur.now c.read_code.new.cur) (sym (c.in_ok-note-in-Ok.ensures.noted ∙ ap (λ (z : ℤ). noted_by c.args.slot z c.args.slots.now) (to_z-of_z w128 c.in-Ok.x (record { sfits = search rules }))))
    (subst (λ (g : Grammar). Turn (grammar_of c.args.root.now) (record { path = c.args.path.now; place = place; inside = c.args.inside }) c.args.cur.now.origin c.args.k (suc c.args.k) (inserted name g c.args.slot fs) fs [] c.args.slots.now (noted_by c.args.slot c.in-Ok.x c.args.slots.now) flags flags c.args.cur.now c.read_code.new.cur) (sym e) turn)

pub returns-in-Err-clause-fails : goal.returns-in-Err-clause-fails
returns-in-Err-clause-fails c =
    tells_map c.in-Err.stop _ _ (λ q at s place name fs flags. inserted_fails (grammar_of c.args.root.now) (record { path = c.args.path.now; place = place; inside = c.args.inside }) c.args.cur.now.origin c.args.k name (grammar_of c.args.node.now) c.args.slot fs c.args.slots.now flags c.args.cur.now c.push.new.self q at refl
    (subst (λ (p : List ℕ). NodeStops (grammar_of c.args.root.now) (grammar_of c.args.node.now) c.args.inside p c.args.slots.now c.args.cur.now c.push.new.self q at) c.push.ensures
    (subst (λ (g : Grammar). NodeStops (grammar_of c.args.root.now) g c.args.inside c.push.new.self c.args.slots.now c.args.cur.now c.push.new.self q at) (sym c.leaf_of.ensures) (s (grammar_of c.args.root.now) c.push.new.self c.args.slots.now c.requires.fine)))) c.in-Err.ensures.fails
