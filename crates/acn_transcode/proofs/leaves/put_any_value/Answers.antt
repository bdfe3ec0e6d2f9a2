use Rattle.std.proofs.Common.{◌++◌, true, false, sym, ap, ◌∙◌}
use Rattle.std.proofs.lemmas.Result.{on_ok_weaker}
use Rattle.json.specs.Print.{quoted}
use Rattle.acn_json.specs.Lines.{item_name}
use Rattle.acn_transcode.proofs.NumberTexts.{integer_said, truth_said, item_small, item_said, null_said}
use Rattle.acn_transcode.proofs.leaves.put_any_value.Goals as goal

pub returns-in-Integer-clause-added : goal.returns-in-Integer-clause-added
returns-in-Integer-clause-added c = on_ok_weaker c.put_number.result (λ e. integer_said c.args.leaf.now c.args.x.now _ _ c.in-Integer.is e) c.put_number.ensures.added

pub returns-then-is_one-clause-added : goal.returns-then-is_one-clause-added
returns-then-is_one-clause-added c = on_ok_weaker c.put.result (λ e. truth_said c.args.leaf.now c.args.x.now true _ _ c.requires.fine c.requires.permitted c.in-Boolean.is (sym c.is_one.ensures ∙ c.if-is_one.true) e) c.put.ensures.added

pub returns-else-is_one-clause-added : goal.returns-else-is_one-clause-added
returns-else-is_one-clause-added c = on_ok_weaker c.put-else-is_one.result (λ e. truth_said c.args.leaf.now c.args.x.now false _ _ c.requires.fine c.requires.permitted c.in-Boolean.is (sym c.is_one.ensures ∙ c.if-is_one.false) e) c.put-else-is_one.ensures.added

pub natural-requires-clause-least : goal.natural-requires-clause-least
natural-requires-clause-least c = (item_small c.args.leaf.now c.args.x.now c.requires.fine c.requires.named c.requires.permitted c.in-Enumerated.is).0

pub natural-requires-clause-small : goal.natural-requires-clause-small
natural-requires-clause-small c = (item_small c.args.leaf.now c.args.x.now c.requires.fine c.requires.named c.requires.permitted c.in-Enumerated.is).1

pub returns-in-Enumerated-clause-added : goal.returns-in-Enumerated-clause-added
returns-in-Enumerated-clause-added c =
    let items = c.args.leaf.now.items.items in
    let named = c.item_name.ensures ∙ (ap (λ its. item_name its c.natural.result) c.items.ensures ∙ ap (λ i. item_name items i) c.natural.ensures) in
    on_ok_weaker c.put_name.result (λ e. item_said c.args.leaf.now c.args.x.now _ _ c.requires.fine c.requires.named c.requires.permitted c.in-Enumerated.is (e ∙ ap (λ t. c.args.text.now.items ++ quoted t) named)) c.put_name.ensures.added

pub returns-in-Null-clause-added : goal.returns-in-Null-clause-added
returns-in-Null-clause-added c = on_ok_weaker c.put_null.result (λ e. null_said c.args.leaf.now c.args.x.now _ _ c.requires.fine c.requires.permitted c.in-Null.is e) c.put_null.ensures.added
