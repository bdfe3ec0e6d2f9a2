-- Inserted fields fit in a sound world.
use Rattle.std.proofs.Common.{◌≡◌, true, List, [], ◌∷◌}
use Rattle.std.specs.List.{AllByRecursion}
use Rattle.acn_index.specs.World.{World}
use Rattle.acn_sites.specs.Sites.{Placed, base_of}
use Rattle.acn_survey.specs.Walk.{is_inserted}
use Rattle.acn_world.specs.Cycles.{fits_field}
use Rattle.acn_tree_laws.proofs.Kept.{IsFit}

pub inserted_fit : (w : World) (ps : List Placed) → AllByRecursion (λ (p : Placed). IsFit w p.site) ps → AllByRecursion (λ (p : Placed). is_inserted p.site.position ≡ true → fits_field (base_of p.site) ≡ true) ps
inserted_fit w [] h = tt
inserted_fit w (p ∷ ps) h = (h.0.0, inserted_fit w ps h.1)
