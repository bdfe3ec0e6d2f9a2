use Rattle.std.proofs.Common.{◌≡◌, ◌∙◌, ◌++◌, ap, sym, subst, List, Bool, length}
use Rattle.acn_text.specs.Texts.{TextCode, given_size}
use Rattle.acn_text.specs.Steps.{text_bits}
use Rattle.acn_text.proofs.Spelled.{meets_text, text_spelled}
use Rattle.acn_text.proofs.lister.list_text.Goals as goal
use Rattle.acn_grammar.proofs.TextRules.{text_rules}

pub returns : goal.returns
returns c =
    let grown : c.add_text.new.list ≡ text_bits c.args.leaf.now.ended c.args.leaf.now c.args.text.now = c.in_ok-add_text.ensures ∙ ap (λ (t : List Bool). t ++ text_bits c.args.leaf.now.ended c.args.leaf.now c.args.text.now) c.new-list.ensures in
    subst (λ (t : List Bool). TextCode c.args.leaf.now (given_size c.args.leaf.now.sized.rule (length c.args.text.now)) c.args.text.now t) (sym grown) (text_spelled c.args.leaf.now (text_rules c.args.leaf.now c.requires.fine) c.args.text.now (meets_text c.args.leaf.now c.args.text.now c.requires.meets))
