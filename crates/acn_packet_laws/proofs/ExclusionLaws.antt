-- What an accepted tree says of an input: a front or a failure, and never both.
use Rattle.std.proofs.Common.{sym, ap, ◌∙◌, List, [], Bool, false, length, take, drop, subst, arith}
use Rattle.std.proofs.lemmas.List.{take-append-drop, length-take}
use Rattle.acn_packet_laws.specs.Laws.{FrontsExcludeFailures, OneFailure, OneFront}
use Rattle.acn_grammar.specs.Fails.{Refusal}
use Rattle.acn_packet_laws.proofs.LeafLaws.{leaf_excl, leaf_same}
use Rattle.acn_packet_laws.proofs.NodeExclusion.{node_excl, node_same}
use Rattle.acn_packet_laws.proofs.NodeLaws.{accepted_scoped, packets_prefix_free}
use Rattle.acn_packet_laws.proofs.TextLaws.{text_excl, text_same}

pub fronts_exclude_failures : FrontsExcludeFailures
fronts_exclude_failures root input d n fault reach accepted front fails =
    node_excl root leaf_excl leaf_same text_excl text_same root (λ s. false) (accepted_scoped root accepted) [] [] tt (λ s k. cc) false 0 [] d 0 (take n input) (drop n input) fault reach front.spelled
    (subst (λ (z : List Bool). Refusal root z fault reach) (sym (take-append-drop n input)) fails)

pub one_failure : OneFailure
one_failure root input f g m n accepted p q = node_same root leaf_excl leaf_same text_excl text_same root (λ s. false) (accepted_scoped root accepted) [] [] tt tt (λ s k. cc) false 0 [] 0 input f g m n p q

pub one_front : OneFront
one_front root input d d' m n accepted p q =
    let h = packets_prefix_free root d d' (take m input) (take n input) (drop m input) (drop n input) accepted p.spelled q.spelled (take-append-drop m input ∙ sym (take-append-drop n input)) in
    let l = ap length h.0 in
    let a = p.within in
    let b = q.within in
    (h.1, omega (arith, length-take m input, length-take n input))
