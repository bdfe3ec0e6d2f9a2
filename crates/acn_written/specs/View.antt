-- What the program's own types stand for.
use Rattle.std.specs.Prelude.{ℕ, ◌+◌, ℤ, List, [], ◌∷◌, Option, option_map, option_and_then, slice_get}
use Rattle.std.specs.Borrow.{Bor}
use Rattle.acn_num.specs.Names.{Name}
use Rattle.acn_constraint.specs.Views.{opened_of}
use Rattle.acn_written.specs.declared.numbers.Numbers.{Numbers}
use Rattle.acn_written.specs.Items.{Numbered}
use Rattle.acn_written.specs.Numbers as spec

abbrev pub numbered_view : Bor Name × ℤ → Numbered
numbered_view i = (i.0.now, i.1)

-- each name with its place in the list
abbrev pub placed : ℕ → List Numbered → List (Name × ℕ)
placed i [] = []
placed i (g ∷ gs) = (g.0, i) ∷ placed (i + 1) gs

-- the number at a place
abbrev pub number_there : List Numbered → Option ℕ → Option ℤ
number_there gs o = option_map (λ (g : Numbered). g.1) (option_and_then (slice_get gs) o)

abbrev pub numbers_view : Numbers → spec.Numbers
numbers_view n = record { coding = n.coding; set = opened_of n.set; left = n.left; lost = n.lost }
