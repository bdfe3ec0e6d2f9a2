-- The first line that is refused is named.
use Rattle.std.proofs.Common.{◌≡◌, ℕ, ◌+◌, ◌<◌, ◌≤◌, List, [], ◌∷◌, ◌++◌, length, Option, None, Some, Result, Ok, Err, IsErrOf, subst, sym, ap, refl, ◌∙◌, arith, length-append, append_assoc}
use Rattle.std.proofs.lemmas.List.{append_cancel_left}
use Rattle.std.specs.List.{AllByRecursion}
use Rattle.acn_grammar.specs.Code.{Written}
use Rattle.acn_grammar.specs.Faults.{unfit_of}
use Rattle.acn_grammar.specs.Grammar.{Grammar, Data}
use Rattle.acn_grammar.specs.Interval.{span}
use Rattle.acn_grammar.specs.Meets.{Unfit as UnfitWith}
use Rattle.acn_grammar.specs.Refused.{Refused}
use Rattle.acn_grammar.specs.declared.unfit.Unfit.{Unfit as UnfitValue}
use Rattle.acn_json.specs.Reads.{LineFault}
use Rattle.acn_json.specs.declared.json_fault.JsonFault.{JsonFault}
use Rattle.acn_outside.specs.Moves.{Gains}
use Rattle.acn_packet_laws.specs.Laws.{IsAccepted, EachValueIsWrittenOrRefused, RefusedIsNotSpelled, OneRefusal}
use Rattle.acn_stream.specs.Encoding.{IsWrittenPacket, IsEndedLine, Packets, AreLines, Give, values_in, IsBad, IsUnfit, EndsLine, Writes, IsEncoded, IsAtFault, HasLongLine, line_fault_of, EncodeEnds}
use Rattle.acn_stream.specs.declared.stream_fault.StreamFault.{StreamFault}
use Rattle.acn_stream.specs.declared.stream_fault.StreamFault.TheVariants.{LineTooLong, InputTooLong, EmptyPacket, Packet, BadLine, Unfit, InputFault, OutputFault, NoMemory}
use Rattle.acn_supply.specs.Cutting.{IsOneLine}
use Rattle.acn_supply.specs.declared.lines.TheConstants.{MOST_LINE_BYTES}
use Rattle.acn_stream_laws.proofs.Gaining.{Left, left_of, all_given, not_past}
use Rattle.acn_stream_laws.proofs.LineCuts.{inside_line, same_line, line_parts}
use Rattle.acn_stream_laws.proofs.Lines.{Feeds, feeds}
use Rattle.acn_stream_laws.proofs.Writings.{HasWriting, all_parts, have_writings}
use Rattle.acn_stream_laws.specs.Laws.{LineRefusal, too_long, bad, unfit, GivesRefused, BeginsTooLong, BeginsWith, BeginsRefused, IsRefusedBehind, RefusesLine}

module _ (g : Grammar) (accepted : IsAccepted g) (each : EachValueIsWrittenOrRefused) (unspelled : RefusedIsNotSpelled) (single : OneRefusal) where
  -- the values of a line have writings
  record IsFine (line : List ℕ) : Type 0 where
    values : List Data
    gives : values_in g line ≡ Ok values
    writings : AllByRecursion (HasWriting g) values

  abbrev AreFine : List (List ℕ) → Type 0
  AreFine ls = AllByRecursion IsFine ls

  abbrev AreWritten : List Data → Type 0
  AreWritten values = AllByRecursion (HasWriting g) values

  fine : (ls : List (List ℕ)) (values : List Data) → Give g ls values → AreWritten values → AreFine ls
  fine [] values give h = tt
  fine (line ∷ ls) values give h =
      let both = all_parts (HasWriting g) give.piece give.rest (subst AreWritten give.parts h) in
      (record { values = give.piece; gives = give.first; writings = both.0 }, fine ls give.rest give.second both.1)

  -- what was written has a writing
  written : (values : List Data) (packets : List ℕ) → Packets g values packets → AreWritten values
  written [] packets h = tt
  written (d ∷ values) packets h = ((h.first.spelling, h.first.written), written values h.rest h.second)

  -- a line that is refused isn't fine
  not_bad : (line : List ℕ) (why : LineFault) → IsFine line → values_in g line ≡ Err why → ⊥
  not_bad line why h e = let both = sym h.gives ∙ e in cc

  not_unfit : (line : List ℕ) (why : UnfitWith) → IsFine line → GivesRefused g line why → ⊥
  not_unfit line why h r =
      let gives = sym h.gives ∙ r.gives in
      let same : h.values ≡ r.value ∷ [] = cc in
      let all : AreWritten (r.value ∷ []) = subst AreWritten same h.writings in
      unspelled g Written r.value why all.0.0 accepted r.refused all.0.1

  -- a fine line with its line feed doesn't stand in front of what begins with one that is refused
  not_fine : (line behind bytes : List ℕ) (why : LineRefusal) → IsOneLine line → length line ≤ MOST_LINE_BYTES → IsFine line → bytes ≡ line ++ 10 ∷ behind → BeginsRefused g why bytes → ⊥
  not_fine line behind bytes too_long one few h e r = omega (arith, few, r.many, inside_line r.front line r.back behind r.one (sym r.whole ∙ e))
  not_fine line behind bytes (bad why) one few h e r =
      not_bad line why h (subst (λ (l : List ℕ). values_in g l ≡ Err why) (same_line r.line line r.behind behind r.fits.one one (sym r.whole ∙ e)) r.is)
  not_fine line behind bytes (unfit why) one few h e r =
      not_unfit line why h (subst (λ (l : List ℕ). GivesRefused g l why) (same_line r.line line r.behind behind r.fits.one one (sym r.whole ∙ e)) r.is)

  first_fine : (line : List ℕ) (piece more : List ℕ) (bytes : List ℕ) (why : LineRefusal) → IsEndedLine line piece → IsFine line → bytes ≡ piece ++ more → BeginsRefused g why bytes → ⊥
  first_fine line piece more bytes why h f e r =
      not_fine line more bytes why h.fits.one h.fits.few f (e ∙ ap (λ (t : List ℕ). t ++ more) h.whole ∙ append_assoc line (10 ∷ []) more) r

  -- fine lines in front of one that is refused are the same ones
  same_place : (ls ks : List (List ℕ)) (p q r s : List ℕ) (why other : LineRefusal) → AreLines ls p → AreLines ks q → AreFine ls → AreFine ks → p ++ r ≡ q ++ s → BeginsRefused g why r → BeginsRefused g other s → (ls ≡ ks) × (r ≡ s)
  same_place [] [] p q r s why other h k f e same x y = (refl, sym (ap (λ (t : List ℕ). t ++ r) h) ∙ (same ∙ ap (λ (t : List ℕ). t ++ s) k))
  same_place [] (w ∷ ks) p q r s why other h k f e same x y =
      let cut : r ≡ k.piece ++ (k.rest ++ s) = sym (ap (λ (t : List ℕ). t ++ r) h) ∙ (same ∙ (ap (λ (t : List ℕ). t ++ s) k.parts ∙ append_assoc k.piece k.rest s)) in
      absurd (first_fine w k.piece (k.rest ++ s) r why k.first e.0 cut x)
  same_place (v ∷ ls) [] p q r s why other h k f e same x y =
      let cut : s ≡ h.piece ++ (h.rest ++ r) = sym (ap (λ (t : List ℕ). t ++ s) k) ∙ (sym same ∙ (ap (λ (t : List ℕ). t ++ r) h.parts ∙ append_assoc h.piece h.rest r)) in
      absurd (first_fine v h.piece (h.rest ++ r) s other h.first f.0 cut y)
  same_place (v ∷ ls) (w ∷ ks) p q r s why other h k f e same x y =
      let cut : h.piece ++ (h.rest ++ r) ≡ k.piece ++ (k.rest ++ s) =
      sym (append_assoc h.piece h.rest r) ∙ (sym (ap (λ (t : List ℕ). t ++ r) h.parts) ∙ (same ∙ (ap (λ (t : List ℕ). t ++ s) k.parts ∙ append_assoc k.piece k.rest s))) in
      let one = line_parts v w h.piece k.piece (h.rest ++ r) (k.rest ++ s) h.first k.first cut in
      let rests = append_cancel_left k.piece (h.rest ++ r) (k.rest ++ s) (ap (λ (t : List ℕ). t ++ (h.rest ++ r)) (sym one.1) ∙ cut) in
      let more = same_place ls ks h.rest k.rest r s why other h.second k.second f.1 e.1 rests x y in
      (cc (one.0, more.0), more.1)

  -- lines without one that is refused don't reach to where one is
  no_more : (ls ks : List (List ℕ)) (p r whole : List ℕ) (why : LineRefusal) → AreLines ls p → AreLines ks whole → AreFine ls → AreFine ks → whole ≡ p ++ r → BeginsRefused g why r → 0 < length r → ⊥
  no_more [] [] p r whole why h k f e same x some = omega (arith, some, ap length k, ap length same, length-append p r)
  no_more [] (w ∷ ks) p r whole why h k f e same x some =
      let cut : r ≡ k.piece ++ k.rest = sym (ap (λ (t : List ℕ). t ++ r) h) ∙ (sym same ∙ k.parts) in
      first_fine w k.piece k.rest r why k.first e.0 cut x
  no_more (v ∷ ls) [] p r whole why h k f e same x some = omega (arith, some, ap length k, ap length same, length-append p r)
  no_more (v ∷ ls) (w ∷ ks) p r whole why h k f e same x some =
      let cut : h.piece ++ (h.rest ++ r) ≡ k.piece ++ k.rest = sym (append_assoc h.piece h.rest r) ∙ (sym (ap (λ (t : List ℕ). t ++ r) h.parts) ∙ (sym same ∙ k.parts)) in
      let one = line_parts v w h.piece k.piece (h.rest ++ r) k.rest h.first k.first cut in
      let rests = append_cancel_left k.piece (h.rest ++ r) k.rest (ap (λ (t : List ℕ). t ++ (h.rest ++ r)) (sym one.1) ∙ cut) in
      no_more ls ks h.rest r k.rest why h.second k.second f.1 e.1 (sym rests) x some

  begins_some : (why : LineRefusal) (bytes : List ℕ) → BeginsRefused g why bytes → 0 < length bytes
  begins_some too_long bytes h = omega (arith, h.many, ap length h.whole, length-append h.front h.back)
  begins_some (bad why) bytes h = omega (arith, ap length h.whole, length-append h.line (10 ∷ h.behind))
  begins_some (unfit why) bytes h = omega (arith, ap length h.whole, length-append h.line (10 ∷ h.behind))

  -- Two refusals at one place are the same.

  not_long : (bytes : List ℕ) (holds : List ℕ → Type 0) → BeginsTooLong bytes → BeginsWith holds bytes → ⊥
  not_long bytes holds h k = omega (arith, h.many, k.fits.few, inside_line h.front k.line h.back k.behind h.one (sym h.whole ∙ k.whole))

  same_first : (bytes : List ℕ) (holds also : List ℕ → Type 0) (h : BeginsWith holds bytes) (k : BeginsWith also bytes) → h.line ≡ k.line
  same_first bytes holds also h k = same_line h.line k.line h.behind k.behind h.fits.one k.fits.one (sym h.whole ∙ k.whole)

  same_why : (bytes : List ℕ) (why other : LineRefusal) → BeginsRefused g why bytes → BeginsRefused g other bytes → why ≡ other
  same_why bytes too_long too_long h k = refl
  same_why bytes too_long (bad f) h k = absurd (not_long bytes (λ line. values_in g line ≡ Err f) h k)
  same_why bytes too_long (unfit u) h k = absurd (not_long bytes (λ line. GivesRefused g line u) h k)
  same_why bytes (bad f) too_long h k = absurd (not_long bytes (λ line. values_in g line ≡ Err f) k h)
  same_why bytes (bad f) (bad e) h k =
      let same = same_first bytes (λ line. values_in g line ≡ Err f) (λ line. values_in g line ≡ Err e) h k in
      let there : values_in g k.line ≡ Err f = subst (λ (l : List ℕ). values_in g l ≡ Err f) same h.is in
      let both = sym there ∙ k.is in
      let one : f ≡ e = cc in
      ap bad one
  same_why bytes (bad f) (unfit u) h k =
      let same = same_first bytes (λ line. values_in g line ≡ Err f) (λ line. GivesRefused g line u) h k in
      let there : values_in g k.line ≡ Err f = subst (λ (l : List ℕ). values_in g l ≡ Err f) same h.is in
      let both = sym there ∙ k.is.gives in
      absurd cc
  same_why bytes (unfit u) too_long h k = absurd (not_long bytes (λ line. GivesRefused g line u) k h)
  same_why bytes (unfit u) (bad f) h k =
      let same = same_first bytes (λ line. GivesRefused g line u) (λ line. values_in g line ≡ Err f) h k in
      let there : values_in g h.line ≡ Err f = subst (λ (l : List ℕ). values_in g l ≡ Err f) (sym same) k.is in
      let both = sym there ∙ h.is.gives in
      absurd cc
  same_why bytes (unfit u) (unfit w) h k =
      let same = same_first bytes (λ line. GivesRefused g line u) (λ line. GivesRefused g line w) h k in
      let there : GivesRefused g k.line u = subst (λ (l : List ℕ). GivesRefused g l u) same h.is in
      let both = sym there.gives ∙ k.is.gives in
      let one : there.value ≡ k.is.value = cc in
      ap unfit (single g k.is.value u w (subst (λ (d : Data). Refused g d u) one there.refused) k.is.refused)

  module _ (limit : ℕ) (ls : List (List ℕ)) (bytes : List ℕ) (why : LineRefusal) (i' o o' : Option (List ℕ)) (h : IsRefusedBehind g ls bytes why) where
    ours : AreFine ls
    ours = fine ls h.values h.give (have_writings g accepted each ls h.values h.give h.none_refused)

    theirs : (V : List ℕ → Type 0) (before : List (List ℕ)) (values : List Data) → Writes g limit (Some bytes) i' V before values → AreFine before
    theirs V before values w = fine before values w.give (written values w.packets w.are)

    not_done : (count : ℕ) → IsEncoded g limit (Some bytes) i' (Gains o o') count → ⊥
    not_done count e =
        let l = left_of bytes e.given i' e.taken in
        let whole : e.given ++ 10 ∷ [] ≡ h.front ++ h.rest = ap (λ (t : List ℕ). t ++ 10 ∷ []) (sym (all_given bytes e.given i' l e.used_up)) ∙ h.whole in
        no_more ls e.ls h.front h.rest (e.given ++ 10 ∷ []) why h.lines e.lines ours (theirs (Gains o o') e.ls e.values e.writes) whole h.refused (begins_some why h.rest h.refused)

    -- the line of another refusal is this one, and so is the reason
    named : (other : LineRefusal) (V : List ℕ → Type 0) (before : List (List ℕ)) (values : List Data) (front rest : List ℕ) → bytes ++ 10 ∷ [] ≡ front ++ rest → AreLines before front → Writes g limit (Some bytes) i' V before values → BeginsRefused g other rest → (ls ≡ before) × (why ≡ other)
    named other V before values front rest whole lines w r =
        let same = same_place ls before h.front front h.rest rest why other h.lines lines ours (theirs V before values w) (sym h.whole ∙ whole) h.refused r in
        (same.0, same_why rest why other (subst (BeginsRefused g why) same.1 h.refused) r)

    -- how the bytes stand where a line begins within those that were taken
    there : (given front line behind left : List ℕ) → bytes ≡ given ++ left → given ≡ front ++ (line ++ behind) → bytes ++ 10 ∷ [] ≡ front ++ (line ++ (behind ++ (left ++ 10 ∷ [])))
    there given front line behind left e k =
        ap (λ (t : List ℕ). t ++ 10 ∷ []) (e ∙ ap (λ (t : List ℕ). t ++ left) k) ∙ append_assoc (front ++ (line ++ behind)) left (10 ∷ []) ∙ append_assoc front (line ++ behind) (left ++ 10 ∷ [])
        ∙ ap (λ (t : List ℕ). front ++ t) (append_assoc line behind (left ++ 10 ∷ []))

    at_fault : (other : LineRefusal) (holds : List ℕ → Type 0) (number : ℕ) (e : IsAtFault g limit (Some bytes) i' (Gains o o') number holds) → ((rest : List ℕ) → BeginsWith holds rest → BeginsRefused g other rest) → (number ≡ length ls + 1) × (why ≡ other)
    at_fault other holds number e begins =
        let l = left_of bytes e.given i' e.taken in
        let f = feeds bytes e.given e.behind i' l e.ends in
        let whole = there e.given e.begin.front e.line e.behind l.left l.whole e.begin.whole in
        let rest = e.line ++ (e.behind ++ (l.left ++ 10 ∷ [])) in
        let starts : BeginsWith holds rest = record { line = e.line; behind = f.more; whole = ap (λ (t : List ℕ). e.line ++ t) f.is; fits = e.fits; is = e.fault } in
        let same = named other (Gains o o') e.ls e.values e.begin.front rest whole e.begin.lines e.writes (begins rest starts) in
        (sym e.counted ∙ ap (λ (ks : List (List ℕ)). length ks + 1) (sym same.0), same.1)

    long_line : (number : ℕ) → HasLongLine g limit (Some bytes) i' (Gains o o') number → (number ≡ length ls + 1) × (why ≡ too_long)
    long_line number e =
        let l = left_of bytes e.given i' e.taken in
        let whole = there e.given e.begin.front e.line e.behind l.left l.whole e.begin.whole in
        let rest = e.line ++ (e.behind ++ (l.left ++ 10 ∷ [])) in
        let starts : BeginsTooLong rest = record { front = e.line; back = e.behind ++ (l.left ++ 10 ∷ []); whole = refl; one = e.one; many = e.many } in
        let same = named too_long (Gains o o') e.ls e.values e.begin.front rest whole e.begin.lines e.writes starts in
        (sym e.counted ∙ ap (λ (ks : List (List ℕ)). length ks + 1) (sym same.0), same.1)

    bad_line : (number : ℕ) (fault : JsonFault) → (e : IsAtFault g limit (Some bytes) i' (Gains o o') number (λ line. IsBad g line fault)) → RefusesLine (length ls + 1) why (Err (BadLine number fault))
    bad_line number fault e =
        let kept = e.fault.kept in
        let with_kept : IsAtFault g limit (Some bytes) i' (Gains o o') number (λ line. values_in g line ≡ Err kept) =
        record { given = e.given; ls = e.ls; line = e.line; behind = e.behind; values = e.values; taken = e.taken; few = e.few; begin = e.begin; fits = e.fits; ends = e.ends; near = e.near; counted = e.counted; fault = e.fault.gives; writes = e.writes } in
        let same = at_fault (bad kept) (λ line. values_in g line ≡ Err kept) number with_kept (λ rest b. b) in
        (same.0, kept, e.fault.told, same.1)

    unfit_line : (number : ℕ) (fault : UnfitValue) → IsAtFault g limit (Some bytes) i' (Gains o o') number (λ line. IsUnfit g line fault) → RefusesLine (length ls + 1) why (Err (Unfit number fault))
    unfit_line number fault e =
        at_fault (unfit (unfit_of fault)) (λ line. IsUnfit g line fault) number e (
        λ rest b. record { line = b.line; behind = b.behind; whole = b.whole; fits = b.fits; is = record { value = b.is.value; gives = b.is.gives; refused = b.is.refused } }
        )

    pub names : 0 < (span g).least → length bytes ≤ limit → (result : Result ℕ StreamFault) → EncodeEnds g limit (Some bytes) i' o o' result → (IsErrOf result EmptyPacket → (span g).least ≡ 0) → RefusesLine (length ls + 1) why result
    names some few (Ok count) e none = not_done count e
    names some few (Err (LineTooLong n)) e none = long_line n e
    names some few (Err InputTooLong) e none = not_past bytes e.given e.byte limit i' e.taken e.full few
    names some few (Err EmptyPacket) e none = omega (arith, some, none refl)
    names some few (Err (Packet n fault)) e none = absurd e
    names some few (Err (BadLine n fault)) e none = bad_line n fault e
    names some few (Err (Unfit n fault)) e none = unfit_line n fault e
    names some few (Err InputFault) e none = tt
    names some few (Err OutputFault) e none = tt
    names some few (Err NoMemory) e none = tt
