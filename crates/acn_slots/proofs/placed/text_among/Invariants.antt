use Rattle.std.proofs.Common.{◌≡◌, ℕ, drop, find}
use Rattle.std.specs.Prelude.{map}
use Rattle.std.specs.List.{enumerate_from}
use Rattle.std.specs.Str.{bytes_eq}
use Rattle.acn_acn_syntax.specs.Mirror.{Field}
use Rattle.acn_acn_syntax.specs.View.{field_of}
use Rattle.acn_slots.specs.Slots.{name_in_text}
use Rattle.acn_slots.proofs.placed.text_among.Given as goal

abbrev pub invariant-loop-i : goal.invariant-loop-i
invariant-loop-i l = find (λ (f : ℕ × Field). bytes_eq (name_in_text f.1) l.name) (enumerate_from l.i (map field_of (drop l.i l.fields))) ≡ find (λ (f : ℕ × Field). bytes_eq (name_in_text f.1) l.name) (enumerate_from 0 (map field_of l.fields))
