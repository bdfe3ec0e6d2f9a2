use Rattle.std.proofs.Common.{rules, sym, ap, ◌∙◌, subst, length}
use Rattle.acn_events.specs.Steps.{put, Room}
use Rattle.acn_writer.specs.Answers.{state_of}
use Rattle.acn_pack.specs.Parts.{bits_in}
use Rattle.acn_pack.proofs.PresenceBits.{put_none}
use Rattle.acn_pack.proofs.flags.put_flag.Goals as goal

pub put_bit-requires : goal.put_bit-requires
put_bit-requires g c = (search rules, subst (λ o. Room (length (bits_in o)) (state_of c.args.w.now)) c.in-Some.is c.requires)

pub returns-in-Some-clause-put : goal.returns-in-Some-clause-put
returns-in-Some-clause-put g c = c.put_bit.ensures.put ∙ ap (λ o. put (bits_in o) (state_of c.args.w.now)) (sym c.in-Some.is)

pub returns-in-None-clause-put : goal.returns-in-None-clause-put
returns-in-None-clause-put g c = sym (put_none (state_of c.args.w.now)) ∙ ap (λ o. put (bits_in o) (state_of c.args.w.now)) (sym c.in-None.is)
