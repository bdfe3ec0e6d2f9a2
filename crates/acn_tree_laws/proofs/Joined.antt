-- The made tree is well formed where inserted fields fit and names in one place differ: each leaf, list and content is fine as the form of its site.
use Rattle.std.proofs.Common.{◌≡◌, true, false, List, [], ◌∷◌, refl, ap, sym, ◌∙◌}
use Rattle.std.specs.List.{AllByRecursion, AllZip}
use Rattle.acn_grammar.specs.Grammar.{Grammar}
use Rattle.acn_grammar.specs.Tree.{form_fine, is_tree}
use Rattle.acn_grammar.specs.Walk.{Stand}
use Rattle.acn_homes.specs.Homes.{slots}
use Rattle.acn_index.specs.World.{World}
use Rattle.acn_index.specs.declared.sources.TypeId.{TypeId}
use Rattle.acn_item_laws.specs.Laws.{EnumerationsAreListed, HasFineForm, FormsOfSitesAreFine}
use Rattle.acn_leaf_laws.specs.Laws.{holds_nodes}
use Rattle.acn_made.specs.Made.{form_at, made}
use Rattle.acn_made.specs.Named.{Slots}
use Rattle.acn_made_laws.specs.Laws.{WithoutReason, NodesStandForSites, root_of_type, InsertedFieldsFit, NamesInsideDiffer, is_outer, MadeTreeIsFineWhereItsLeavesAre}
use Rattle.acn_made_laws.specs.Standing.{StandsFor}
use Rattle.acn_reasons.specs.Classes.{class_of}
use Rattle.acn_reasons.specs.declared.classes.Class.{Class}
use Rattle.acn_reasons.specs.declared.classes.Class.TheVariants as class
use Rattle.acn_sites.specs.Sites.{Site, Placed, sites_of}
use Rattle.acn_survey.specs.Walk.{inserted_fields, uses_of}
use Rattle.acn_world.specs.Faults.{IsSound}

-- a form whose rules don't speak of nodes inside is that of a site that holds none
holds_none : (w : World) (all : Slots) (m : Site → Grammar) (s : Site) (c : Class) → is_outer (form_at w all m s c) ≡ false → holds_nodes c ≡ false
holds_none w all m s class.Sequence h = cc
holds_none w all m s class.Choice h = cc
holds_none w all m s class.List h = refl
holds_none w all m s class.Octets h = refl
holds_none w all m s class.Bits h = refl
holds_none w all m s class.Text h = refl
holds_none w all m s class.Boolean h = refl
holds_none w all m s class.Null h = refl
holds_none w all m s class.Integer h = refl
holds_none w all m s class.Enumerated h = refl
holds_none w all m s class.Reference h = refl

node_fine : (w : World) (all : Slots) (at : Stand) (s : Site) → HasFineForm w s → StandsFor w all at s → is_outer at.form ≡ false → form_fine at.form ≡ true
node_fine w all at s fine stands inner =
    let f = stands.form in
    ap form_fine f.1 ∙ fine all (made f.0 w all) (holds_none w all (made f.0 w all) s (class_of s) (ap is_outer (sym f.1) ∙ inner))

nodes_fine : (w : World) (all : Slots) (ats : List Stand) (ps : List Placed) → AllByRecursion (λ (p : Placed). HasFineForm w p.site) ps → AllZip (λ (at : Stand) (p : Placed). StandsFor w all at p.site) ats ps
    → AllByRecursion (λ (at : Stand). is_outer at.form ≡ false → form_fine at.form ≡ true) ats
nodes_fine w all [] [] h k = tt
nodes_fine w all [] (p ∷ ps) h k = tt
nodes_fine w all (at ∷ ats) [] h k = absurd k
nodes_fine w all (at ∷ ats) (p ∷ ps) h k = (node_fine w all at p.site h.0 k.0, nodes_fine w all ats ps h.1 k.1)

module _ (forms : FormsOfSitesAreFine) (stand : NodesStandForSites) (fine : MadeTreeIsFineWhereItsLeavesAre) where
  pub tree_where_names_fit : (w : World) (of : TypeId) (s : Site) → IsSound w → EnumerationsAreListed w → WithoutReason w of s → InsertedFieldsFit w of → NamesInsideDiffer w of → is_tree (root_of_type w of s) ≡ true
  tree_where_names_fit w of s sound listed none fit differ =
      let all : Slots = slots (inserted_fields (sites_of w of)) (uses_of w (sites_of w of)) in
      fine w of s none fit differ (nodes_fine w all _ (sites_of w of) (forms w of sound listed none.1) (stand w of s none all))
