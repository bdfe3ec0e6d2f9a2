use Rattle.std.proofs.Common.{◌∙◌, ap, Some}
use Rattle.acn_grammar.proofs.FineLeaves.{lawful}
use Rattle.acn_packet_laws.proofs.laws.numbers_are_prefix_free.Goals as goal

pub returns : goal.returns
returns c = λ leaf fine x z a b r s p q e.
    let l = lawful leaf fine in
    let h = l.codes p.image q.image 0 a b r s p.spelled q.spelled e in
    (h.0, l.images x z q.image p.permitted q.permitted (p.maps ∙ ap Some h.1) q.maps)
