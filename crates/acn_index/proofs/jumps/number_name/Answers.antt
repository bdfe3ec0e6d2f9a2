use Rattle.std.proofs.Common.{length, ap}
use Rattle.acn_index.proofs.Numbered.{named_more}
use Rattle.acn_index.proofs.jumps.number_name.Goals as goal

pub returns-in_ok-push-in-None : goal.returns-in_ok-push-in-None
returns-in_ok-push-in-None c =
    named_more c.note.result c.args.all.now.numbers c.note.new.self c.args.name c.bytes.result.now c.bytes-in-None.result.now (length c.as_slice-number.result.now) c.args.all.now.names.items c.push.new.self.items
    c.bytes.ensures c.bytes-in-None.ensures (c.in-None.ensures {u = tt}).value (ap length c.as_slice-number.ensures.value) c.in_ok-push-in-None.ensures.items c.requires c.note.ensures.ok
