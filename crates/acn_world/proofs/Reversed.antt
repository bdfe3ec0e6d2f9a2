-- A chain from the base outward.
use Rattle.std.proofs.Common.{◌≡◌, ℕ, List, [], ◌∷◌, refl, ◌∙◌, ap}
use Rattle.std.specs.Prelude.{map, reverse, flat_map, filter_map}
use mathlib.Core.List.{reverse_aux}
use Rattle.acn_asn_syntax.specs.Mirror.{Constraint}
use Rattle.acn_index.specs.Lookup.{EntryAt}
use Rattle.acn_index.specs.World.{World}
use Rattle.acn_index.specs.Chains.{Link, ChainOf, last_link, link_constraints, link_entry, chain_of_links, chain_of}

map_onto : {A B : Type 0} (f : A → B) (xs done : List A) → map f (reverse_aux xs done) ≡ reverse_aux (map f xs) (map f done)
map_onto f [] done = refl
map_onto f (x ∷ xs) done = map_onto f xs (x ∷ done)

pub map_reverse : {A B : Type 0} (f : A → B) (xs : List A) → map f (reverse xs) ≡ reverse (map f xs)
map_reverse f xs = map_onto f xs []

made : Link → List (ℕ × Constraint) → List EntryAt → ChainOf
made l cs es = record { base = l.of; owner = l.owner; constraints = cs; entries = es }

pub gathered : (w : World) (first base : Link) (along back : List Link) (cs : List (ℕ × Constraint)) (es : List EntryAt) → chain_of_links w first along ≡ chain_of w first → back ≡ reverse along → base ≡ last_link first along
    → cs ≡ flat_map link_constraints back → es ≡ filter_map (link_entry w) back → record { base = base.of; owner = base.owner; constraints = cs; entries = es } ≡ chain_of w first
unfolding made
gathered w first base along back cs es a b l c e =
    ap (λ (z : Link). made z cs es) l ∙ (ap (λ (z : List (ℕ × Constraint)). made (last_link first along) z es) (c ∙ ap (flat_map link_constraints) b) ∙ (ap (made (last_link first along) (flat_map link_constraints (reverse along))) (e ∙ ap (filter_map (link_entry w)) b) ∙ a))
