-- The chain of an assigned type is that of its type in the text, with the assignment's own entry behind the others.
use Rattle.std.proofs.Common.{◌≡◌, ℕ, List, [], ◌∷◌, ◌++◌, Option, Some, None, refl, sym, ap, ◌∙◌}
use Rattle.std.specs.Prelude.{reverse, flat_map, filter_map, option_map, option_to_list}
use Rattle.std.specs.List.{cons_option}
use Rattle.std.proofs.lemmas.List.{append-nil, reverse-append}
use Rattle.std.proofs.lemmas.List.Elements.{filter_map-append}
use Rattle.std.proofs.lemmas.Grind.{flat_map-append}
use Rattle.acn_asn_syntax.specs.Mirror.{AsnType, Constraint}
use Rattle.acn_index.specs.World.{World, count, type_at}
use Rattle.acn_index.specs.Lookup.{EntryAt, placed_entry}
use Rattle.acn_index.specs.Chains.{Link, ChainOf, written, assigned_link, next_link, more_links, links_within, links, last_link, link_constraints, link_entry, chain_of_links, chain_of}
use Rattle.acn_world.specs.Laws.{with_entry}
use Rattle.acn_index.specs.declared.sources.TypeId.{TypeId}

module _ (w : World) (k : ℕ) (t : AsnType) (p : TypeId) where
  abbrev front : Link
  front = record { owner = k; of = t; assigned = Some p }

  abbrev bare : Link
  bare = written k t

  turned : (l : Link) (ls : List Link) → reverse (l ∷ ls) ≡ reverse ls ++ l ∷ []
  turned l ls = reverse-append (l ∷ []) ls

  constraints_with : (l : Link) (ls : List Link) → flat_map link_constraints (reverse (l ∷ ls)) ≡ flat_map link_constraints (reverse ls) ++ (link_constraints l ++ [])
  constraints_with l ls = ap (flat_map link_constraints) (turned l ls) ∙ flat_map-append link_constraints (reverse ls) (l ∷ [])

  same_constraints : (ls : List Link) → flat_map link_constraints (reverse (front ∷ ls)) ≡ flat_map link_constraints (reverse (bare ∷ ls))
  same_constraints ls = constraints_with front ls ∙ sym (constraints_with bare ls)

  listed : (o : Option EntryAt) → cons_option o [] ≡ option_to_list o
  listed None = refl
  listed (Some e) = refl

  entries_with : (l : Link) (ls : List Link) → filter_map (link_entry w) (reverse (l ∷ ls)) ≡ filter_map (link_entry w) (reverse ls) ++ option_to_list (link_entry w l)
  entries_with l ls =
      let es = filter_map (link_entry w) (reverse ls) in
      ap (filter_map (link_entry w)) (turned l ls) ∙ (filter_map-append (link_entry w) (reverse ls) (l ∷ []) ∙ ap (λ (z : List EntryAt). es ++ z) (listed (link_entry w l)))

  own_behind : (ls : List Link) → filter_map (link_entry w) (reverse (front ∷ ls)) ≡ filter_map (link_entry w) (reverse (bare ∷ ls)) ++ option_to_list (placed_entry w p)
  own_behind ls =
      let none = entries_with bare ls ∙ append-nil (filter_map (link_entry w) (reverse ls)) in
      entries_with front ls ∙ ap (λ (z : List EntryAt). z ++ option_to_list (placed_entry w p)) (sym none)

  made : AsnType → ℕ → List (ℕ × Constraint) → List EntryAt → ChainOf
  made b o cs es = record { base = b; owner = o; constraints = cs; entries = es }

  same_type : (ls : List Link) → (last_link front ls).of ≡ (last_link bare ls).of
  same_type [] = refl
  same_type (l ∷ ls) = refl

  same_owner : (ls : List Link) → (last_link front ls).owner ≡ (last_link bare ls).owner
  same_owner [] = refl
  same_owner (l ∷ ls) = refl

  by_links : (ls : List Link) → chain_of_links w front (front ∷ ls) ≡ with_entry (chain_of_links w bare (bare ∷ ls)) (placed_entry w p)
  unfolding made
  by_links ls =
      let cs = flat_map link_constraints (reverse (front ∷ ls)) in
      let es = filter_map (link_entry w) (reverse (front ∷ ls)) in
      let base = (last_link bare ls).of in
      let owner = (last_link bare ls).owner in
      ap (λ (z : AsnType). made z (last_link front ls).owner cs es) (same_type ls)
      ∙ (ap (λ (z : ℕ). made base z cs es) (same_owner ls)
      ∙ (ap (λ (z : List (ℕ × Constraint)). made base owner z es) (same_constraints ls)
      ∙ ap (made base owner (flat_map link_constraints (reverse (bare ∷ ls)))) (own_behind ls)))

  pub at_place : chain_of w front ≡ with_entry (chain_of w bare) (placed_entry w p)
  unfolding chain_of links links_within next_link
  at_place = by_links (more_links (links_within (count w) w) (next_link w front))

by_type : (w : World) (p : TypeId) (l : Link) (o : Option AsnType) → option_map (λ (t : AsnType). record { owner = p.module; of = t; assigned = Some p }) o ≡ Some l → chain_of w l ≡ with_entry (chain_of w (written l.owner l.of)) (placed_entry w p)
by_type w p l None e = absurd (cc e)
by_type w p l (Some t) e =
    let same : record { owner = p.module; of = t; assigned = Some p } ≡ l = cc e in
    rw (sym same) (at_place w p.module t p)

pub assigned_chain : (w : World) (p : TypeId) (l : Link) → assigned_link w p ≡ Some l → chain_of w l ≡ with_entry (chain_of w (written l.owner l.of)) (placed_entry w p)
assigned_chain w p l e = by_type w p l (type_at w p) e
