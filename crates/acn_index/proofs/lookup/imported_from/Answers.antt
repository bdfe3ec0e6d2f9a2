use Rattle.std.proofs.Common.{ap, ◌∙◌}
use Rattle.std.specs.Prelude.{option_and_then, slice_get}
use Rattle.acn_asn_syntax.specs.Mirror.{AsnModule}
use Rattle.acn_asn_syntax.specs.declared.modules.Import.{Import}
use Rattle.acn_index.specs.Views.{index_view}
use Rattle.acn_index.specs.Lookup.{module_named, import_of, imported_from}
use Rattle.acn_index.proofs.Mapped.{option_regrouped}
use Rattle.acn_index.proofs.lookup.imported_from.Goals as goal

pub returns-in_err-import : goal.returns-in_err-import
unfolding imported_from
returns-in_err-import c =
    let owner_of = λ (i : Import). module_named (index_view c.args.index.now) i.«module» in
    rw c.from_residual.ensures (ap (option_and_then owner_of) (c.in_err-import.ensures {u = tt}) ∙ option_regrouped (λ (m : AsnModule). import_of m c.args.name.now) owner_of (slice_get (index_view c.args.index.now).modules c.args.k))

pub returns : goal.returns
unfolding imported_from
returns c =
    let owner_of = λ (i : Import). module_named (index_view c.args.index.now) i.«module» in
    c.module_named.ensures ∙ (ap (module_named (index_view c.args.index.now)) c.bytes.ensures ∙ (ap (option_and_then owner_of) (c.in_ok-import.ensures {u = tt}) ∙ option_regrouped (λ (m : AsnModule). import_of m c.args.name.now) owner_of (slice_get (index_view c.args.index.now).modules c.args.k)))
