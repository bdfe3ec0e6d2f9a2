use Rattle.std.proofs.Common.{rules, FitsSigned, sym, ◌∙◌, subst}
use Rattle.std.proofs.lemmas.Int.{to_z-of_z}
use Rattle.std.specs.Int.{w128}
use Rattle.std.specs.Prelude.{pos}
use Rattle.acn_num.specs.Ranges.{AreRanges}
use Rattle.acn_single.proofs.Ordered.{least_within}
use Rattle.acn_single.proofs.characters.least_character.Goals as goal

pub character-requires-clause-small : goal.character-requires-clause-small
character-requires-clause-small c =
    let above = subst AreRanges c.ranges-ranges.ensures.same c.ranges-ranges.ensures.ordered in
    let fits : FitsSigned w128 c.in-Some.x = search rules in
    rw (to_z-of_z w128 c.in-Some.x fits) ((least_within _ c.args.alphabet.now (pos 0) (pos 127) _ above c.requires (sym c.least.ensures ∙ c.in-Some.is)).1)
