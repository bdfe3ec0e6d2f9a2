use Rattle.std.proofs.Common.{◌≡◌, ◌++◌, true, sym, subst, ap, ◌∙◌, arith}
use Rattle.std.proofs.lemmas.Grind.{common_steps}
use Rattle.std.specs.Prelude.{nat_lt}
use Rattle.std.specs.List.{list_all}
use Rattle.json.specs.Print.{quoted}
use Rattle.acn_grammar.specs.Shaped.{are_octets}
use Rattle.acn_printed.proofs.texts.characters_read.Goals as goal

pub returns-clause-text : goal.returns-clause-text
returns-clause-text c =
    let same : c.from_vec.result ≡ c.in_ok-text.text.now = grind (arith, common_steps) in
    c.in_ok-text.ensures.text ∙ ap (λ s. quoted s ++ c.plain_string.new.self.text.now) (sym same)

pub returns-clause-octets : goal.returns-clause-octets
returns-clause-octets c =
    let same : c.from_vec.result ≡ c.in_ok-text.text.now = grind (arith, common_steps) in
    subst (λ s. are_octets s ≡ true) (sym same) c.bytes_are_octets.ensures

pub returns-clause-said : goal.returns-clause-said
returns-clause-said c =
    let same : c.from_vec.result ≡ c.in_ok-text.text.now = grind (arith, common_steps) in
    subst (λ s. list_all (λ x. nat_lt x 128) s ≡ true) (sym same) c.in_ok-text.ensures.said
