-- A walk along a path that keeps the slot of the field it stands at, and how many names lead up to the first that may be absent.
use Rattle.std.proofs.Common.{◌≡◌, ℕ, suc, ◌+◌, Bool, true, false, List, [], ◌∷◌, Option, Some, None, refl, sym, ap, ◌∙◌, arith, option_map}
use Rattle.std.specs.Prelude.{option_and_then, if◌then◌else◌}
use Rattle.acn_num.specs.Names.{Name}
use Rattle.acn_index.specs.World.{World}
use Rattle.acn_slots.specs.declared.slots.Slot.{Slot}
use Rattle.acn_slots.specs.declared.slots.Lead.{Lead}
use Rattle.acn_slots.specs.declared.slots.Lead.TheVariants as lead
use Rattle.acn_slots.specs.Slots.{Frame, Step, step_in, follow, last_slot, up_to_absent, lead_to, lead_of, first_absent}

-- what is answered behind some names, from what is kept
abbrev next : (Option Slot → Option ℕ → Option Frame → Lead) → Option ℕ → ℕ → Option Step → Lead
next go through i None = lead.Nowhere
next go through i (Some s) = go s.slot (first_absent through i s.optional) s.inside

abbrev pub resume : World → Option Slot → Option ℕ → ℕ → Option Frame → List Name → Lead
resume w slot through i inside [] = lead_to slot through
resume w slot through i inside (name ∷ names) = next (λ slot through inside. resume w slot through (i + 1) inside names) through i (step_in w inside name)

abbrev or_later : Option ℕ → ℕ → Option ℕ → Option ℕ
or_later (Some through) i later = Some through
or_later None i None = None
or_later None i (Some k) = Some (i + k)

abbrev led_from : Option Slot → Option ℕ → ℕ → Option (List Step) → Lead
led_from slot through i None = lead.Nowhere
led_from slot through i (Some steps) = lead_to (last_slot slot steps) (or_later through i (up_to_absent steps))

later_is : (through : Option ℕ) (i : ℕ) (s : Step) (steps : List Step) → or_later (first_absent through i s.optional) (i + 1) (up_to_absent steps) ≡ or_later through i (up_to_absent (s ∷ steps))
later_is (Some through) i s steps = refl
later_is None i s steps = by s.optional (up_to_absent steps)
  where
    by : (b : Bool) (o : Option ℕ) → or_later (if b then Some (suc i) else None) (i + 1) o ≡ or_later None i (if b then Some 1 else option_map suc o)
    by true o = ap Some (omega arith)
    by false None = refl
    by false (Some k) = ap Some (omega arith)

none_later : (through : Option ℕ) (i : ℕ) → or_later through i None ≡ through
none_later None i = refl
none_later (Some through) i = refl

one_more : (slot : Option Slot) (through : Option ℕ) (i : ℕ) (s : Step) (o : Option (List Step)) → led_from s.slot (first_absent through i s.optional) (i + 1) o ≡ led_from slot through i (option_map (λ more. s ∷ more) o)
one_more slot through i s None = refl
one_more slot through i s (Some steps) = ap (lead_to (last_slot s.slot steps)) (later_is through i s steps)

module _ (w : World) where
  go_on : (go : Option Slot → Option ℕ → Option Frame → Lead) (i : ℕ) (names : List Name)
      → ((slot : Option Slot) (through : Option ℕ) (inside : Option Frame) → go slot through inside ≡ led_from slot through (i + 1) (follow w inside names))
      → (slot : Option Slot) (through : Option ℕ) (o : Option Step)
      → next go through i o ≡ led_from slot through i (option_and_then (λ (s : Step). option_map (λ more. s ∷ more) (follow w s.inside names)) o)
  go_on go i names h slot through None = refl
  go_on go i names h slot through (Some s) = h s.slot (first_absent through i s.optional) s.inside ∙ one_more slot through i s (follow w s.inside names)

  resumed : (slot : Option Slot) (through : Option ℕ) (i : ℕ) (inside : Option Frame) (names : List Name) → resume w slot through i inside names ≡ led_from slot through i (follow w inside names)
  resumed slot through i inside [] = ap (lead_to slot) (sym (none_later through i))
  resumed slot through i inside (name ∷ names) = go_on (λ slot through inside. resume w slot through (i + 1) inside names) i names (λ slot through inside. resumed slot through (i + 1) inside names) slot through (step_in w inside name)

  from_the_front : (o : Option (List Step)) → led_from None None 0 o ≡ lead_of o
  from_the_front None = refl
  from_the_front (Some steps) = ap (lead_to (last_slot None steps)) (by (up_to_absent steps))
    where
      by : (o : Option ℕ) → or_later None 0 o ≡ o
      by None = refl
      by (Some k) = ap Some (omega arith)

  pub resumed_is_led : (inside : Option Frame) (names : List Name) → resume w None None 0 inside names ≡ lead_of (follow w inside names)
  resumed_is_led inside names = resumed None None 0 inside names ∙ from_the_front (follow w inside names)
