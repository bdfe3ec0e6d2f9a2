use Rattle.std.proofs.Common.{sym, subst}
use Rattle.acn_grammar.specs.View.{data_of}
use Rattle.acn_printed.specs.Read.{IsNumberRead}
use Rattle.acn_printed.proofs.numbers.read_number.Goals as goal

pub returns-in-Integer : goal.returns-in-Integer
returns-in-Integer c =
    let items = c.args.leaf.now.items.items in
    λ t. subst (λ k. IsNumberRead k items (data_of c.read_integer.new.value) c.args.rest.now.text.now c.read_integer.new.rest.text.now) (sym c.in-Integer.is) (c.read_integer.ensures items t)

pub returns-in-Boolean : goal.returns-in-Boolean
returns-in-Boolean c =
    let items = c.args.leaf.now.items.items in
    λ t. subst (λ k. IsNumberRead k items (data_of c.read_truth.new.value) c.args.rest.now.text.now c.read_truth.new.rest.text.now) (sym c.in-Boolean.is) (c.read_truth.ensures items t)

pub returns-in-Null : goal.returns-in-Null
returns-in-Null c =
    let items = c.args.leaf.now.items.items in
    λ t. subst (λ k. IsNumberRead k items (data_of c.read_null.new.value) c.args.rest.now.text.now c.read_null.new.rest.text.now) (sym c.in-Null.is) (c.read_null.ensures items t)
