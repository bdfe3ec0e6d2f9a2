-- The line of one node, and the lines of all.
use Rattle.std.proofs.Common.{◌≡◌, ℕ, Bool, List, [], ◌∷◌, ◌++◌, map, Result, Ok, Err, refl, ap, ◌∙◌}
use Rattle.std.proofs.lemmas.List.{map-append}
use Rattle.std.specs.Prelude.{OnOk}
use Rattle.acn_grammar.specs.Grammar.{Grammar, Form}
use Rattle.acn_extreme_laws.specs.Facts.{Tag, facts, facts_of, plain}
use Rattle.acn_single.specs.Lines.{Seen, seen, line_of}
use Rattle.acn_single.specs.declared.lines.Line.{Line}

abbrev the_seen : (path : List ℕ) → Tag → Form → (through uncounted alone : Bool) → Seen
the_seen path tag form through uncounted alone = record { path = path; tag = tag; form = form; through = through; uncounted = uncounted; alone = alone }

pub seen_is : (path path' : List ℕ) (tag : Tag) (form : Form) (a a' b b' c c' : Bool) → path ≡ path' → a ≡ a' → b ≡ b' → c ≡ c'
    → the_seen path tag form a b c ≡ the_seen path' tag form a' b' c'
seen_is path path' tag form a a' b b' c c' p q r s = rw (p, q, r, s) refl

pub put : {E : Type 0} (r : Result (Unit {0}) E) (old new : List Line) (line : Line) (s : Seen) → OnOk r (new ≡ old ++ line ∷ []) → line_of line ≡ s → OnOk r (map line_of new ≡ map line_of old ++ s ∷ [])
put (Ok u) old new line s h same = ap (map line_of) h ∙ (map-append line_of old (line ∷ []) ∙ ap (λ x. map line_of old ++ x ∷ []) same)
put (Err e) old new line s h same = tt

pub from_start : (root : Grammar) (old : List Line) (tag : Tag) (path : List ℕ) → old ≡ [] → tag ≡ plain → path ≡ [] → map line_of old ++ map (seen root) (facts tag path [] [] root) ≡ map (seen root) (facts_of root)
from_start root old tag path a b c = rw (a, b, c) refl
