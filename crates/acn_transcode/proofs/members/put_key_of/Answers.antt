use Rattle.std.proofs.lemmas.Result.{on_ok_weaker}
use Rattle.acn_transcode.proofs.BothTexts.{short_there, key_said}
use Rattle.acn_transcode.proofs.members.put_key_of.Goals as goal

pub put_short_key-requires : goal.put_short_key-requires
put_short_key-requires c = record { few = (short_there c.args.turn.now c.in-Some.short c.in-Some.is c.requires.short).few }

pub returns-in-Some-clause-added : goal.returns-in-Some-clause-added
returns-in-Some-clause-added c =
    let has = short_there c.args.turn.now c.in-Some.short c.in-Some.is c.requires.short in
    on_ok_weaker c.put_short_key.result (λ e. key_said c.args.text.now.items _ c.args.turn.now.key _ e has.shown) c.put_short_key.ensures.added
