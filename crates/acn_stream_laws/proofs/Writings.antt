-- Values of lines that aren't refused have writings.
use Rattle.std.proofs.Common.{◌≡◌, ◌⊎◌, ℕ, true, false, Bool, List, [], ◌∷◌, ◌++◌, Option, Some, None, Result, Ok, Err, inl, inr, subst, sym, ap, refl, ◌∙◌}
use Rattle.std.specs.List.{AllByRecursion}
use Rattle.acn_grammar.specs.Front.{IsWritten}
use Rattle.acn_grammar.specs.Grammar.{Grammar, Data}
use Rattle.acn_grammar.specs.Meets.{Unfit as UnfitWith}
use Rattle.acn_grammar.specs.Refused.{Refused}
use Rattle.acn_grammar.specs.Shaped.{Shaped}
use Rattle.acn_json.proofs.ShapedLaw.{gives-fits}
use Rattle.acn_json.specs.Reads.{LineFault, json_in, line_gives, made, or_not_json, after, value_from}
use Rattle.acn_packet_laws.specs.Laws.{IsAccepted, EachValueIsWrittenOrRefused}
use Rattle.acn_stream.specs.Encoding.{Give, is_blank, values_in}
use Rattle.acn_stream_laws.specs.Laws.{IsNotRefused}

-- something is written for the value
abbrev pub HasWriting : Grammar → Data → Type 0
HasWriting g d = (spelling : List Bool) × IsWritten g d spelling

module _ (P : Data → Type 0) where
  pub all_parts : (xs ys : List Data) → AllByRecursion P (xs ++ ys) → AllByRecursion P xs × AllByRecursion P ys
  all_parts [] ys h = (tt, h)
  all_parts (x ∷ xs) ys h = let more = all_parts xs ys h.1 in ((h.0, more.0), more.1)

  all_joined : (xs ys : List Data) → AllByRecursion P xs → AllByRecursion P ys → AllByRecursion P (xs ++ ys)
  all_joined [] ys h k = k
  all_joined (x ∷ xs) ys h k = (h.0, all_joined xs ys h.1 k)

module _ (g : Grammar) where
  one_shaped : (r : Result Data LineFault) → ((d : Data) → Ok d ≡ r → Shaped g d) → (values : List Data) → made (λ d. d ∷ []) r ≡ Ok values → AllByRecursion (Shaped g) values
  one_shaped (Ok d) all values e = let one : d ∷ [] ≡ values = cc in subst (AllByRecursion (Shaped g)) one (all d refl, tt)
  one_shaped (Err f) all values e = absurd cc

  of_line : (line : List ℕ) (d : Data) → Ok d ≡ line_gives g line → Shaped g d
  of_line line d e = by (json_in line) e
    where
      by : (j : _) → Ok d ≡ after (or_not_json j) (value_from [] g) → Shaped g d
      by (Some j) h = gives-fits g [] j d h
      by None h = absurd cc

  -- the values of a line have the form of the grammar
  are_shaped : (line : List ℕ) (values : List Data) → values_in g line ≡ Ok values → AllByRecursion (Shaped g) values
  are_shaped line values e = by_blank (is_blank line) refl
    where
      by_blank : (b : Bool) → is_blank line ≡ b → AllByRecursion (Shaped g) values
      by_blank true is = let none : values ≡ [] = cc in subst (AllByRecursion (Shaped g)) (sym none) tt
      by_blank false is = let gives : made (λ d. d ∷ []) (line_gives g line) ≡ Ok values = cc in one_shaped (line_gives g line) (of_line line) values gives

  all_shaped : (ls : List (List ℕ)) (values : List Data) → Give g ls values → AllByRecursion (Shaped g) values
  all_shaped [] values give = subst (AllByRecursion (Shaped g)) (sym give) tt
  all_shaped (line ∷ ls) values give =
      subst (AllByRecursion (Shaped g)) (sym give.parts) (all_joined (Shaped g) give.piece give.rest (are_shaped line give.piece give.first) (all_shaped ls give.rest give.second))

  module _ (accepted : IsAccepted g) (each : EachValueIsWrittenOrRefused) where
    by_answer : (d : Data) → ((bs : List Bool) × IsWritten g d bs) ⊎ ((u : UnfitWith) × Refused g d u) → IsNotRefused g d → HasWriting g d
    by_answer d (inl w) free = w
    by_answer d (inr r) free = absurd (free r.0 r.1)

    all_written : (values : List Data) → AllByRecursion (Shaped g) values → AllByRecursion (IsNotRefused g) values → AllByRecursion (HasWriting g) values
    all_written [] shaped free = tt
    all_written (d ∷ values) shaped free = (by_answer d (each g d accepted shaped.0) free.0, all_written values shaped.1 free.1)

    pub have_writings : (ls : List (List ℕ)) (values : List Data) → Give g ls values → AllByRecursion (IsNotRefused g) values → AllByRecursion (HasWriting g) values
    have_writings ls values give free = all_written values (all_shaped ls values give) free
