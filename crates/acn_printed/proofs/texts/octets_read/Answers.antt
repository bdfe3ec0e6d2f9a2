use Rattle.std.proofs.Common.{◌≡◌, ◌++◌, ◌∷◌, true, sym, ap, subst, ◌∙◌, arith}
use Rattle.std.proofs.lemmas.Grind.{common_steps}
use Rattle.hex.specs.Hex.{encode_lower}
use Rattle.json.specs.Print.{escape, quoted}
use Rattle.acn_grammar.specs.Shaped.{are_octets}
use Rattle.acn_printed.proofs.Strings.{quoted-end}
use Rattle.acn_printed.proofs.texts.octets_read.Goals as goal

pub returns-clause-text : goal.returns-clause-text
returns-clause-text c =
    let octets = c.in_ok-octets.octets.items in
    let same : c.from_vec.result ≡ octets = grind (arith, common_steps) in
    let opened = c.pass.ensures.passed c.if-not-pass.false in
    let closed = c.pass-2.ensures.passed c.if-not-pass-2.false in
    quoted-end (encode_lower octets) _ _ (opened ∙ ap (λ t. 34 ∷ t) (c.in_ok-octets.ensures ∙ ap (λ t. escape (encode_lower octets) ++ t) closed))
    ∙ ap (λ os. quoted (encode_lower os) ++ c.pass-2.new.self.text.now) (sym same)

pub returns-clause-octets : goal.returns-clause-octets
returns-clause-octets c =
    let same : c.from_vec.result ≡ c.in_ok-octets.octets.items = grind (arith, common_steps) in
    let seen : c.as_slice.result.now ≡ c.in_ok-octets.octets.items = grind (arith, common_steps) in
    subst (λ os. are_octets os ≡ true) (seen ∙ sym same) c.bytes_are_octets.ensures
