use Rattle.std.proofs.Common.{rules, ◌≡◌, ℕ, ◌-◌, ◌++◌, List, length, take, drop, sym, ap, ◌∙◌, arith, length-append}
use Rattle.std.proofs.lemmas.List.{drop_at, take_all}
use Rattle.json.specs.Print.{quoted}
use Rattle.acn_reads.proofs.TextReads.{text_passed, text_sizes}
use Rattle.acn_string_lines.proofs.Outcomes.{when_ok}
use Rattle.acn_string_lines.proofs.strings.put_any_text.Goals as goal

behind : (items old cs : List ℕ) (mark : ℕ) → items ≡ old ++ cs → mark ≡ length old → take (length items - mark) (drop mark items) ≡ cs
behind items old cs mark e m =
    let l = ap length e ∙ length-append old cs in
    ap (take (length items - mark)) (ap (drop mark) e ∙ drop_at old cs mark (sym m)) ∙ take_all (length items - mark) cs (omega (arith, l, m))

pub given_size-requires-clause-fine : goal.given_size-requires-clause-fine
given_size-requires-clause-fine c = text_sizes c.args.leaf.now c.requires.fine

pub returns-else-not-put_characters-clause-put : goal.returns-else-not-put_characters-clause-put
returns-else-not-put_characters-clause-put c e =
    let p = c.put_characters.ensures c.if-not-put_characters.false in
    let mark : c.len-mark.result ≡ length c.args.aside.now.items = search rules in
    let added = when_ok c.put_quoted.result (sym c.is_ok-done.ensures.value ∙ e) c.put_quoted.ensures.added in
    (p.0, (λ root. text_passed root c.args.leaf.now c.in-Ok.given p.0 c.args.slots.now c.args.cur.now c.put_characters.new.cur c.in-Ok.ensures.says p.1), added ∙ ap (λ cs. c.args.text.now.items ++ quoted cs) (behind _ c.args.aside.now.items p.0 c.len-mark.result (c.deref.ensures.value ∙ p.2) mark))
