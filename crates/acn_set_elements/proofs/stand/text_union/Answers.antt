use Rattle.std.proofs.Common.{◌≡◌, ℕ, Bool, false, List, [], ◌∷◌, length, refl, sym, ◌∙◌}
use Rattle.std.specs.Prelude.{map, ◌&&◌}
use Rattle.std.specs.Bool.{◌==◌}
use Rattle.acn_asn_syntax.specs.Mirror as plain
use Rattle.acn_asn_syntax.specs.View.{seen_meet, meets_of}
use Rattle.acn_asn_syntax.specs.declared.sets.Meet.{Meet}
use Rattle.acn_index.specs.World.{World}
use Rattle.acn_set_elements.specs.Stands.{text_set, meet_built, meets_built, of_sizes}
use Rattle.acn_set_elements.proofs.stand.text_union.Goals as goal

several : (w : World) (k : ℕ) (m : plain.Meet) (more : List (Bool × Meet)) → false ≡ (length more == 0) → text_set w k (plain.union_of m (meets_of (map seen_meet more))) ≡ (meet_built w k of_sizes m && meets_built w k of_sizes (meets_of (map seen_meet more)))
several w k m [] h = absurd cc
several w k m (x ∷ xs) h = refl

pub returns-else-is_empty : goal.returns-else-is_empty
returns-else-is_empty c = c.union_sized.ensures ∙ sym (several _ _ _ _ (c.if-is_empty.ensures {u = tt}))
