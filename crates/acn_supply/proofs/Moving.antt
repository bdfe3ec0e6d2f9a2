-- What was taken of an input in several reads.
use Rattle.std.proofs.Common.{ℕ, List, [], ◌++◌, Option, None, Some, sym, ap, refl, ◌∙◌, append_assoc}
use Rattle.acn_outside.specs.Moves.{Takes}

pub takes_nothing : (i : Option (List ℕ)) → Takes i i []
takes_nothing None = refl
takes_nothing (Some rest) = refl

pub takes_more : (a b c : Option (List ℕ)) (x y : List ℕ) → Takes a b x → Takes b c y → Takes a c (x ++ y)
takes_more a b None x y p q = rw q at p
takes_more a b (Some rest) x y p q = (rw q at p) ∙ ap Some (sym (append_assoc x y rest))
