use Rattle.std.proofs.Common.{true}
use Rattle.serde_json.specs.Written.{comma_if, compact_text}
use Rattle.acn_json.specs.Lines.{num_json}
use Rattle.acn_transcode.proofs.Keeping.{kept_three, kept_either}
use Rattle.acn_transcode.proofs.members.put_numbered.Goals as goal

pub returns-in-Num-clause-kept : goal.returns-in-Num-clause-kept
returns-in-Num-clause-kept c =
    let leaf = c.in-Num.leaf in
    kept_either c.put_keyed.result _ _ (λ e. kept_three c.args.text.now.items (comma_if true) c.args.turn.now.key (compact_text (num_json leaf.kind leaf.items.items e.0)) c.put_keyed.new.text.items e.2) c.put_keyed.ensures.added c.put_keyed.ensures.kept
