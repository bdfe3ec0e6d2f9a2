-- One step along the meets and the parts of a set.
use Rattle.std.proofs.Common.{◌≡◌, ℕ, ◌+◌, ◌<◌, Bool, true, false, List, ◌∷◌, length, get_or, drop, Option, sym, ap, ◌∙◌}
use Rattle.std.specs.Prelude.{ℤ, map, is_some}
use Rattle.std.specs.Option.{option_or}
use Rattle.std.proofs.lemmas.List.{drop_more}
use Rattle.acn_asn_syntax.specs.View.{seen_meet, seen_part, meet_view, part_view, meets_of, parts_of}
use Rattle.acn_asn_syntax.specs.declared.sets.Meet.{Meet}
use Rattle.acn_asn_syntax.specs.declared.sets.Part.{Part}
use Rattle.acn_asn_syntax.specs.declared.types.Named.{Named}
use Rattle.acn_index.specs.World.{World}
use Rattle.acn_constraint.specs.Constraints.{low_among, meet_values, meets_values, part_values, parts_values}
use Rattle.acn_constraint.proofs.Firsts.{low_append, option_or_some, option_or_none}

here : {X : Type 0} (xs : List X) (i : ℕ) (x : X) → i < length xs → x ≡ get_or xs i x → drop i xs ≡ x ∷ drop (i + 1) xs
here xs i x h e = drop_more xs i x h ∙ ap (λ y. y ∷ drop (i + 1) xs) (sym e)

pub meets_step : (w : World) (ns : List Named) (k : ℕ) (ms : List (Bool × Meet)) (i : ℕ) (x : Bool × Meet) → i < length ms → x ≡ get_or ms i x → low_among w ns k (meets_values (meets_of (map seen_meet (drop i ms)))) ≡ option_or (low_among w ns k (meet_values (meet_view x.1))) (low_among w ns k (meets_values (meets_of (map seen_meet (drop (i + 1) ms)))))
unfolding meets_values
meets_step w ns k ms i x h e =
    ap (λ (l : List (Bool × Meet)). low_among w ns k (meets_values (meets_of (map seen_meet l)))) (here ms i x h e)
    ∙ low_append w ns k (meet_values (meet_view x.1)) (meets_values (meets_of (map seen_meet (drop (i + 1) ms))))

pub parts_step : (w : World) (ns : List Named) (k : ℕ) (ps : List (Bool × Part)) (i : ℕ) (x : Bool × Part) → i < length ps → x ≡ get_or ps i x → low_among w ns k (parts_values (parts_of (map seen_part (drop i ps)))) ≡ option_or (low_among w ns k (part_values (part_view x.1))) (low_among w ns k (parts_values (parts_of (map seen_part (drop (i + 1) ps)))))
unfolding parts_values
parts_step w ns k ps i x h e =
    ap (λ (l : List (Bool × Part)). low_among w ns k (parts_values (parts_of (map seen_part l)))) (here ps i x h e)
    ∙ low_append w ns k (part_values (part_view x.1)) (parts_values (parts_of (map seen_part (drop (i + 1) ps))))

-- what is found is the first, or the rest has it
pub found : (f a p all : Option ℤ) → f ≡ a → is_some f ≡ true → option_or a p ≡ all → f ≡ all
found f a p all e some step = sym (option_or_some f p some) ∙ ap (λ (o : Option ℤ). option_or o p) e ∙ step

pub later : (f a p all : Option ℤ) → f ≡ a → is_some f ≡ false → option_or a p ≡ all → p ≡ all
later f a p all e none step = sym (option_or_none f p none) ∙ ap (λ (o : Option ℤ). option_or o p) e ∙ step
