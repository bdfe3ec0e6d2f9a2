-- Fields and alternatives, one behind another.
use Rattle.std.proofs.Common.{◌≡◌, ℕ, zero, suc, Some, refl, sym, subst}
use Rattle.acn_grammar.specs.Grammar.{Grammar, Fields, Alternatives, no_fields, component, inserted, no_alternatives, alternative}
use Rattle.acn_grammar.specs.Paths.{field_at, alternative_at}
use Rattle.acn_plan.specs.Back.{put_field, put_case}
use Rattle.acn_plan.specs.declared.step.Place.{Place}
use Rattle.acn_plan.specs.declared.step.Place.TheVariants as places
use Rattle.acn_tree.specs.Room.{HasRoom, FieldsHaveRoom, AlternativesHaveRoom}

pub field_first : (p : Place) (g : Grammar) (more : Fields) → field_at (put_field p g more) 0 ≡ Some g
field_first (places.Alternative name tests item) g more = refl
field_first places.Root g more = refl
field_first (places.Component name presence default slot) g more = refl
field_first (places.Inserted name slot) g more = refl
field_first places.Element g more = refl
field_first places.Content g more = refl

pub field_later : (p : Place) (g : Grammar) (more : Fields) (i : ℕ) → field_at (put_field p g more) (suc i) ≡ field_at more i
field_later (places.Alternative name tests item) g more i = refl
field_later places.Root g more i = refl
field_later (places.Component name presence default slot) g more i = refl
field_later (places.Inserted name slot) g more i = refl
field_later places.Element g more i = refl
field_later places.Content g more i = refl

pub case_first : (p : Place) (g : Grammar) (more : Alternatives) → alternative_at (put_case p g more) 0 ≡ Some g
case_first (places.Alternative name tests item) g more = refl
case_first places.Root g more = refl
case_first (places.Component name presence default slot) g more = refl
case_first (places.Inserted name slot) g more = refl
case_first places.Element g more = refl
case_first places.Content g more = refl

pub case_later : (p : Place) (g : Grammar) (more : Alternatives) (i : ℕ) → alternative_at (put_case p g more) (suc i) ≡ alternative_at more i
case_later (places.Alternative name tests item) g more i = refl
case_later places.Root g more i = refl
case_later (places.Component name presence default slot) g more i = refl
case_later (places.Inserted name slot) g more i = refl
case_later places.Element g more i = refl
case_later places.Content g more i = refl

-- Room inside.

pub some_is : (a b : Grammar) → Some a ≡ Some b → a ≡ b
some_is a b e = cc

pub field_room : (fs : Fields) (i k : ℕ) (g : Grammar) → FieldsHaveRoom k fs → Some g ≡ field_at fs i → HasRoom k g
field_room no_fields i k g r e = cc
field_room (component name h presence default own fs) zero k g r e = subst (HasRoom k) (sym (some_is g h e)) r.0
field_room (component name h presence default own fs) (suc i) k g r e = field_room fs i k g r.1 e
field_room (inserted name h slot fs) zero k g r e = subst (HasRoom k) (sym (some_is g h e)) r.0
field_room (inserted name h slot fs) (suc i) k g r e = field_room fs i k g r.1 e

pub case_room : (cases : Alternatives) (i k : ℕ) (g : Grammar) → AlternativesHaveRoom k cases → Some g ≡ alternative_at cases i → HasRoom k g
case_room no_alternatives i k g r e = cc
case_room (alternative name h tests more) zero k g r e = subst (HasRoom k) (sym (some_is g h e)) r.0
case_room (alternative name h tests more) (suc i) k g r e = case_room more i k g r.1 e
