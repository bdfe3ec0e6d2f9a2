use Rattle.std.proofs.Common.{◌≡◌, length, sym, ◌∙◌, rules, arith}
use Rattle.std.proofs.lemmas.Grind.{common_steps}
use Rattle.acn_transcode.proofs.Keeping.{kept_twice, when_err}
use Rattle.acn_transcode.proofs.EnclosedTexts.{none_enclosed, some_enclosed, kept_set}
use Rattle.acn_transcode.proofs.Walks.{when_ok}
use Rattle.acn_transcode.proofs.members.enclose.Goals as goal

pub returns-then-mark-len-clause-put : goal.returns-then-mark-len-clause-put
returns-then-mark-len-clause-put c sure old ms o e =
    let at : c.args.mark ≡ length c.args.text.now.items = search rules in
    none_enclosed old c.args.text.now.items c.put.new.out.items c.args.mark ms at o e (when_ok c.put.result (sym c.is_ok.ensures.value ∙ sure) c.put.ensures.added)

pub returns-clause-put : goal.returns-clause-put
returns-clause-put c sure old ms o e =
    let other : c.args.mark ≡ length c.args.text.now.items → ⊥ = λ at. grind (arith, common_steps) in
    some_enclosed old c.args.text.now.items c.put_octet.new.out.items c.args.mark ms other o e (when_ok c.put_octet.result (sym c.is_ok-2.ensures.value ∙ sure) c.put_octet.ensures.added)

pub returns-clause-kept : goal.returns-clause-kept
returns-clause-kept c failed old o kept =
    kept_twice _ _ _ (kept_set old c.args.text.now.items c.args.mark o kept) (when_err c.put_octet.result (sym c.is_ok-2.ensures.value ∙ failed) c.put_octet.ensures.kept)
