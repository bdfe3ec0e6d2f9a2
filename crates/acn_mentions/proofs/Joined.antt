-- Lists that are written part by part.
use Rattle.std.proofs.Common.{◌≡◌, List, [], ◌∷◌, ◌++◌, sym, ◌∙◌, ap, append_assoc}
use Rattle.std.specs.Prelude.{Result, Ok, Err, OnOk}
use Rattle.std.proofs.lemmas.List.{append-nil}

pub joined : {A : Type 0} (a b c x y z : List A) → b ≡ a ++ x → c ≡ b ++ y → z ≡ x ++ y → c ≡ a ++ z
joined a b c x y z e f g = f ∙ (ap (λ l. l ++ y) e ∙ (append_assoc a x y ∙ ap (λ l. a ++ l) (sym g)))

pub nothing : {A : Type 0} (a z : List A) → z ≡ [] → a ≡ a ++ z
nothing a z e = sym (ap (λ l. a ++ l) e ∙ append-nil a)

pub the_same : {A T E : Type 0} (r : Result T E) (a c x z : List A) → OnOk r (c ≡ a ++ x) → z ≡ x → OnOk r (c ≡ a ++ z)
the_same (Ok v) a c x z h e = h ∙ ap (λ l. a ++ l) (sym e)
the_same (Err v) a c x z h e = h

pub one_more : {A : Type 0} (a c z : List A) (x : A) → c ≡ a ++ x ∷ [] → z ≡ x ∷ [] → c ≡ a ++ z
one_more a c z x h e = h ∙ ap (λ l. a ++ l) (sym e)
