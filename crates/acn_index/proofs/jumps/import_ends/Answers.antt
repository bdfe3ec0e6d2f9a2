use Rattle.std.proofs.Common.{List, sym, subst}
use Rattle.std.specs.Borrow.{Bor}
use Rattle.acn_num.specs.declared.name.Name.{Name}
use Rattle.acn_index.specs.Views.{index_view}
use Rattle.acn_index.specs.Steps.{AreNumbered, names_view}
use Rattle.acn_index.proofs.Numbered.{all_jumps}
use Rattle.acn_index.proofs.jumps.import_ends.Goals as goal

pub returns : goal.returns
returns c =
    let numbered = subst (λ (ns : List (Bor Name)). AreNumbered c.args.all.now.numbers (names_view ns)) (sym c.as_slice.ensures.value) c.requires in
    all_jumps (index_view c.args.index.now) c.args.all.now.numbers (names_view c.as_slice.result.now) c.ends_of.result numbered c.ends_of.ensures
