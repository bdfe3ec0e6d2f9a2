-- The forms of sites of which none has a reason.
use Rattle.std.proofs.Common.{◌≡◌, ℕ, suc, List, [], ◌∷◌, None}
use Rattle.std.specs.List.{AllByRecursion}
use Rattle.acn_index.specs.World.{World}
use Rattle.acn_leaf_laws.specs.Laws.{HasItems, FormsAreFine}
use Rattle.acn_leaf_laws.proofs.Options.{both_none, unmapped}
use Rattle.acn_sites.specs.Sites.{Placed, base_of}
use Rattle.acn_survey.specs.Reasons.{reason_at, fault_at, fault_from}
use Rattle.acn_item_laws.specs.Laws.{HasFineForm}

pub all_fine : (w : World) → FormsAreFine → (number : ℕ) (ps : List Placed) → fault_from w number ps ≡ None → AllByRecursion (λ (p : Placed). HasItems (base_of p.site)) ps → AllByRecursion (λ (p : Placed). HasFineForm w p.site) ps
unfolding fault_from
all_fine w forms number [] h k = tt
all_fine w forms number (p ∷ ps) h k =
    let o = both_none (fault_at w number p) (fault_from w (suc number) ps) h in
    (λ all made inside. forms w number all made p.site (unmapped _ (reason_at w number p.site) o.0) k.0 inside, all_fine w forms (suc number) ps o.1 k.1)
