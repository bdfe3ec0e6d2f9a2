-- Strings that a line goes on with.
use Rattle.std.proofs.Common.{◌≡◌, ℕ, List, [], ◌∷◌, ◌++◌, sym, ap, ◌∙◌, append_assoc}
use Rattle.json.specs.Print.{escape, quoted}

-- the quote at the end
pub quoted-end : (s text end : List ℕ) → text ≡ 34 ∷ (escape s ++ 34 ∷ end) → text ≡ quoted s ++ end
quoted-end s text end h = h ∙ ap (λ t. 34 ∷ t) (sym (append_assoc (escape s) (34 ∷ []) end))
