-- What is made of a type without a reason against it is well formed.
use Rattle.std.proofs.Common.{◌≡◌, true, Option, Some, None, refl, subst}
use Rattle.std.specs.Prelude.{option_map}
use Rattle.acn_grammar.specs.Grammar.{Grammar}
use Rattle.acn_grammar.specs.Tree.{is_tree}
use Rattle.acn_index.specs.World.{World}
use Rattle.acn_index.specs.declared.sources.TypeId.{TypeId}
use Rattle.acn_merge.specs.Merged.{reason_against, merged, root_made}
use Rattle.acn_made_laws.specs.Laws.{root_of_type}
use Rattle.acn_sites.specs.Sites.{Site, root_site, sites_of}
use Rattle.acn_tree_laws.specs.Laws.{IsOfSources, MadeTreesAreTrees}

pub well_formed : (w : World) (of : TypeId) (g : Grammar) → MadeTreesAreTrees → IsOfSources w → reason_against w of ≡ None → Some g ≡ merged w of → is_tree g ≡ true
well_formed w of g law sources none is = by (root_site w of) refl is
  where
    by : (o : Option Site) → root_site w of ≡ o → Some g ≡ option_map (root_made w (sites_of w of)) o → is_tree g ≡ true
    by None e i = absurd cc
    by (Some s) e i =
        let same : root_of_type w of s ≡ g = cc in
        subst (λ (h : Grammar). is_tree h ≡ true) same (law w of s sources (e, none))
