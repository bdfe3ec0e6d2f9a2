use Rattle.std.proofs.Common.{rules, ◌≡◌, ◌++◌, [], Bool, true, false, not, refl, sym, ap, ◌∙◌, append-nil, append_assoc}
use Rattle.acn_reads.proofs.TextReads.{folds_keep}
use Rattle.acn_string_lines.proofs.strings.put_characters.Goals as goal

kept_all : (lost : Bool) → not lost ≡ true → lost ≡ false
kept_all true e = absurd (cc)
kept_all false e = refl

pub returns-in-Ok : goal.returns-in-Ok
returns-in-Ok c e =
    let g = c.in-Ok.ensures.read in
    let kept = folds_keep _ (λ done q. (c.read_text-arg-2-1.given ≡ q.0.ghost_name) × (c.lost-1.given.0 ≡ q.1.ghost_name) × (q.1.now ≡ false → q.0.now.items ≡ c.args.aside.now.items ++ done)) (λ done p x q j k. search (rules, append_assoc)) _ _ _ [] (refl, refl, λ e. sym (append-nil c.args.aside.now.items)) g.gives in
    (g.text, g.read, ap (λ v. v.items) (c.aside-1.given.1 kept.0) ∙ kept.2 (sym (c.lost-2-1.given.1 kept.1) ∙ kept_all _ e))
