-- Why a slot isn't asked.
use Rattle.std.proofs.Common.{◌≡◌, ℕ, ◌*◌, ◌≤◌, ℤ, true, List, Option, refl, sym, ◌∙◌, subst}
use Rattle.std.specs.Prelude.{option_map}
use Rattle.acn_fill.specs.Table.{Table, Keeps, Refuses, TooMany, begun}
use Rattle.acn_fill.specs.declared.spot.TheConstants.{MOST_AVOIDED}
use Rattle.acn_grammar.specs.Asks.{Ask, Avoid}
use Rattle.acn_grammar.specs.Faults.{ask_of}
use Rattle.acn_grammar.specs.declared.unfit.Ask.{Ask as AskData}
use Rattle.acn_events.specs.Event.{wants}
use Rattle.acn_events.specs.Steps.{Halts}
use Rattle.acn_writer.specs.Halts.{AsksHalt, class_of, halt_of}
use Rattle.acn_writer.specs.declared.halt.Halt.{Halt}
use Rattle.acn_writer.specs.declared.halt.Halt.TheVariants.{Full, Unmet}

-- the reason that is told
told_so : (slots avoided s : ℕ) (a : Ask) (t : Table) (why reason : Halt) → why ≡ reason → AsksHalt slots avoided s a t reason → AsksHalt slots avoided s a t why
told_so slots avoided s a t why reason told h = λ path m same. subst (λ (x : Halt). Halts (class_of slots avoided) (wants path s a) m (halt_of path x)) (sym told) (h path m same)

-- A table that is the same is told of.
module _ (slots avoided s : ℕ) (t u : Table) (why : Halt) (kept : u ≡ t) where
  pub asks_full : (k : ℤ) → why ≡ Full → (MOST_AVOIDED * slots ≤ avoided → (set : List (ℤ × ℤ)) (wanted : List Ask) → Keeps set wanted u s → TooMany wanted k) → AsksHalt slots avoided s (Avoid k) t why
  asks_full k told many =
      told_so slots avoided s (Avoid k) t why Full told (λ path m same. subst (λ (z : Table). MOST_AVOIDED * slots ≤ avoided → (set : List (ℤ × ℤ)) (wanted : List Ask) → Keeps set wanted z s → TooMany wanted k) (kept ∙ sym same) many)

  pub asks_unmet : (a : Ask) (earlier : Option AskData) (wanted : AskData) → why ≡ Unmet s earlier wanted → begun t s ≡ true → Refuses s a u (option_map ask_of earlier) → ask_of wanted ≡ a → AsksHalt slots avoided s a t why
  asks_unmet a earlier wanted told b refuses is =
      told_so slots avoided s a t why (Unmet s earlier wanted) told (λ path m same. (
        refl,
        refl,
        is,
        record { is_begun = subst (λ (z : Table). begun z s ≡ true) (sym same) b; refuses = subst (λ (z : Table). Refuses s a z (option_map ask_of earlier)) (kept ∙ sym same) refuses },
      ))
