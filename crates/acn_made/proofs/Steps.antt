-- A node with some steps left, and one with none.
use Rattle.std.proofs.Common.{◌≡◌, ℕ, zero, suc, ◌-◌, ◌<◌, ◌∙◌, refl, ap, sym, arith}
use Rattle.acn_grammar.specs.Grammar.{Grammar, node}
use Rattle.acn_index.specs.World.{World}
use Rattle.acn_reasons.specs.Classes.{class_of}
use Rattle.acn_sites.specs.Sites.{Site}
use Rattle.acn_made.specs.Made.{made, nothing, alignment_at, form_at}
use Rattle.acn_made.specs.Named.{Slots}

one_less : (n : ℕ) → n ≡ suc n - 1
one_less n = omega arith

pub too_far : (w : World) (all : Slots) (n : ℕ) (s : Site) (g : Grammar) → n ≡ 0 → g ≡ nothing s → g ≡ made n w all s
unfolding made
too_far w all zero s g h e = e
too_far w all (suc n) s g h e = absurd (omega (arith, h))

pub one_step : (w : World) (all : Slots) (n : ℕ) (s : Site) (g : Grammar) → 0 < n → g ≡ node (alignment_at s) (form_at w all (made (n - 1) w all) s (class_of s)) → g ≡ made n w all s
unfolding made
one_step w all zero s g h e = absurd (omega (arith, h))
one_step w all (suc n) s g h e = e ∙ ap (λ k. node (alignment_at s) (form_at w all (made k w all) s (class_of s))) (sym (one_less n))
