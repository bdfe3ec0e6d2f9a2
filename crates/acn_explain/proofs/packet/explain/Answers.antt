use Rattle.std.proofs.Common.{◌≡◌, ◌≤◌, ◌^◌, ◌∙◌, take, ap, sym, subst}
use Rattle.acn_num.specs.Bits.{bits}
use Rattle.acn_grammar.specs.Length.{bit_length}
use Rattle.acn_grammar.specs.View.{grammar_of, data_of}
use Rattle.acn_grammar.specs.declared.node.Node.{Node}
use Rattle.acn_packet_laws.specs.Laws.{IsAccepted}
use Rattle.acn_pieces.specs.CanWalk.{CanWalk}
use Rattle.acn_pieces.specs.Pieces.{pieces_of}
use Rattle.acn_tree.specs.declared.tree.Tree.{Tree}
use Rattle.acn_explain.proofs.Measuring.{are_pieces, can_walk, front_near}
use Rattle.acn_explain.proofs.packet.explain.Goals as goal

pub list_pieces-requires-clause-can : goal.list_pieces-requires-clause-can
list_pieces-requires-clause-can c =
    let g = grammar_of c.args.checked.now.tree.root in
    let here = c.root-root.ensures.same ∙ ap (λ (t : Tree). t.root) c.tree.ensures.same in
    let accepted = subst (λ (t : Tree). IsAccepted (grammar_of t.root)) c.tree.ensures.same c.tree.ensures.accepted in
    let front = c.in_ok-value.ensures.front g (sym c.in_ok-plan.ensures.steps) in
    subst (λ (n : Node). CanWalk 0 (grammar_of n) (data_of c.in_ok-value.value)) (sym here)
    (can_walk c.accepted_is_sound.ensures c.spelled_values_meet.ensures c.sound_values_can_be_walked.ensures g accepted (data_of c.in_ok-value.value) (take c.in_ok-value._size (bits c.args.bytes.now)) front.spelled)

pub list_pieces-requires-clause-near : goal.list_pieces-requires-clause-near
list_pieces-requires-clause-near c =
    let g = grammar_of c.args.checked.now.tree.root in
    let here = c.root-root.ensures.same ∙ ap (λ (t : Tree). t.root) c.tree.ensures.same in
    let accepted = subst (λ (t : Tree). IsAccepted (grammar_of t.root)) c.tree.ensures.same c.tree.ensures.accepted in
    let front = c.in_ok-value.ensures.front g (sym c.in_ok-plan.ensures.steps) in
    subst (λ (n : Node). bit_length (grammar_of n) 0 (data_of c.in_ok-value.value) ≤ 2 ^ 40) (sym here)
    (front_near c.lengths_are_told.ensures g accepted c.args.bytes.now (data_of c.in_ok-value.value) c.in_ok-value._size c.requires.few front)

pub returns-clause-pieces : goal.returns-clause-pieces
returns-clause-pieces c =
    let g = grammar_of c.args.checked.now.tree.root in
    let here = c.root-root.ensures.same ∙ ap (λ (t : Tree). t.root) c.tree.ensures.same in
    let accepted = subst (λ (t : Tree). IsAccepted (grammar_of t.root)) c.tree.ensures.same c.tree.ensures.accepted in
    let steps = sym c.in_ok-plan.ensures.steps in
    are_pieces c.lengths_are_told.ensures c.pieces_are_joined.ensures c.joined_pieces_are_the_bits.ensures c.pieces_tell_their_parts.ensures g accepted (bits c.args.bytes.now) (data_of c.in_ok-value.value) c.in_ok-value._size c.into_vec.result.items (c.in_ok-value.ensures.front g steps) (c.in_ok-value.ensures.alone g steps)
    (c.into_vec.ensures ∙ (c.in_ok-found.ensures.pieces ∙ ap (λ (n : Node). pieces_of (grammar_of n) (data_of c.in_ok-value.value)) here))
