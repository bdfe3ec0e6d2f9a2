-- Values that are kept.
use Rattle.std.proofs.Common.{◌≡◌, ◌∙◌, List, [], ◌∷◌, ◌++◌, map, sym, ap}
use Rattle.std.proofs.lemmas.List.{map-append}

pub one_more : {A B : Type 0} (f : A → B) (old new : List A) (x : A) (ds : List B) (d : B) → new ≡ old ++ x ∷ [] → ds ≡ map f old → d ≡ f x → ds ++ d ∷ [] ≡ map f new
one_more {A} {B} f old new x ds d e said says = ap (λ (y : List B). y ++ d ∷ []) said ∙ (ap (λ (y : B). map f old ++ y ∷ []) says ∙ (sym (map-append f old (x ∷ [])) ∙ ap (map f) (sym e)))
