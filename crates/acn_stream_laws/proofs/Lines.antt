-- Lines are encoded whole.
use Rattle.std.proofs.Common.{◌≡◌, ℕ, ◌+◌, ◌<◌, ◌≤◌, List, [], ◌∷◌, ◌++◌, length, Option, Some, Result, Ok, Err, IsErrOf, subst, sym, ap, refl, ◌∙◌, arith, length-append, append_assoc, append-nil}
use Rattle.std.specs.List.{AllByRecursion}
use Rattle.acn_grammar.specs.Code.{Written}
use Rattle.acn_grammar.specs.Grammar.{Grammar, Data}
use Rattle.acn_grammar.specs.Interval.{span}
use Rattle.acn_grammar.specs.declared.unfit.Unfit.{Unfit as UnfitValue}
use Rattle.acn_json.specs.declared.json_fault.JsonFault.{JsonFault}
use Rattle.acn_outside.specs.Moves.{Takes, Gains, IsUsedUp}
use Rattle.acn_outside.specs.Whole.{GainsFront}
use Rattle.acn_stream.specs.Encoding.{IsWrittenPacket, IsEndedLine, Packets, AreLines, Give, values_in, IsBad, IsUnfit, LinesBegin, EndsLine, Writes, IsEncoded, IsAtFault, HasLongLine, IsBrokenOff, CameWhole, with_feeds, with_last, CameSome, EncodeEnds}
use Rattle.acn_stream.specs.declared.stream_fault.StreamFault.{StreamFault}
use Rattle.acn_stream.specs.declared.stream_fault.StreamFault.TheVariants.{LineTooLong, InputTooLong, EmptyPacket, Packet, BadLine, Unfit, InputFault, OutputFault, NoMemory}
use Rattle.acn_supply.specs.Cutting.{IsOneLine}
use Rattle.acn_supply.specs.declared.lines.TheConstants.{MOST_LINE_BYTES}
use Rattle.acn_stream.proofs.Joining.{joined_on}
use Rattle.acn_stream_laws.proofs.Gaining.{Left, left_of, none_left, all_given, not_past, gains_front, front_more}
use Rattle.acn_stream_laws.proofs.LineCuts.{inside_line, same_line, one_cut, lines_on}
use Rattle.acn_stream_laws.proofs.Octets.{packets_there}
use Rattle.acn_stream_laws.proofs.Pieces.{GoesOn, Splits, splits, one_whole, all_behind}
use Rattle.acn_stream_laws.proofs.Writings.{HasWriting}
use Rattle.acn_stream_laws.specs.Laws.{WritesPackets}

-- what stands behind a line begins with its line feed
pub record Feeds (behind : List ℕ) : Type 0 where
  pub more : List ℕ
  pub is : behind ≡ 10 ∷ more

pub feeds : (bytes given behind : List ℕ) (i' : Option (List ℕ)) (l : Left bytes given i') → EndsLine i' behind → Feeds (behind ++ (l.left ++ 10 ∷ []))
feeds bytes given [] i' l e = record { more = []; is = ap (λ (t : List ℕ). t ++ 10 ∷ []) (none_left bytes given i' l e) }
feeds bytes given (b ∷ behind) i' l e = record { more = behind ++ (l.left ++ 10 ∷ []); is = ap (λ (x : ℕ). x ∷ (behind ++ (l.left ++ 10 ∷ []))) e }

-- a line that has its line feed in front of more lines is the first of them
record IsFirst (line : List ℕ) (ls : List (List ℕ)) : Type 0 where
  others : List (List ℕ)
  is : ls ≡ line ∷ others

first_line : (line behind : List ℕ) (ls : List (List ℕ)) (rest : List ℕ) → IsOneLine line → Feeds behind → AreLines ls rest → rest ≡ line ++ behind → IsFirst line ls
first_line line behind [] rest one f h e = absurd (omega (arith, ap length f.is, ap length h, ap length e, length-append line behind))
first_line line behind (l ∷ ls) rest one f h e =
    let cut : line ++ 10 ∷ f.more ≡ l ++ 10 ∷ h.rest = ap (λ (t : List ℕ). line ++ t) (sym f.is) ∙ sym e ∙ h.parts ∙ ap (λ (t : List ℕ). t ++ h.rest) h.first.whole ∙ append_assoc l (10 ∷ []) h.rest in
    record { others = ls; is = ap (λ (x : List ℕ). x ∷ ls) (sym (same_line line l f.more h.rest one h.first.fits.one cut)) }

-- bytes without a line feed that are more than a line may have begin no lines
not_long : (front more : List ℕ) (ls : List (List ℕ)) (rest : List ℕ) → IsOneLine front → length front ≡ MOST_LINE_BYTES + 1 → AreLines ls rest → rest ≡ front ++ more → ⊥
not_long front more [] rest one many h e = omega (arith, many, ap length h, ap length e, length-append front more)
not_long front more (l ∷ ls) rest one many h e =
    let cut : front ++ more ≡ l ++ 10 ∷ h.rest = sym e ∙ h.parts ∙ ap (λ (t : List ℕ). t ++ h.rest) h.first.whole ∙ append_assoc l (10 ∷ []) h.rest in
    omega (arith, many, inside_line front l more h.rest one cut, h.first.fits.few)

module _ (g : Grammar) where
  -- a line gives one list of values
  same_values : (line : List ℕ) (p q : List Data) → values_in g line ≡ Ok p → values_in g line ≡ Ok q → p ≡ q
  same_values line p q h k = let e = sym h ∙ k in cc

  -- the first ones of the lines
  record IsFront (before ls : List (List ℕ)) : Type 0 where
    others : List (List ℕ)
    whole : ls ≡ before ++ others

  -- the values of lines that go on
  values_on : (before others ls : List (List ℕ)) (front values : List Data) → ls ≡ before ++ others → Give g before front → Give g ls values → Splits (λ line vs. values_in g line ≡ Ok vs) others front values
  values_on before others ls front values e h k = splits (λ line vs. values_in g line ≡ Ok vs) same_values before others front values h (subst (λ (t : List (List ℕ)). Give g t values) e k)

  module _ (limit : ℕ) (ls : List (List ℕ)) (values : List Data) (bytes : List ℕ) (i' : Option (List ℕ)) (cut : AreLines ls (bytes ++ 10 ∷ [])) where
    -- the lines behind those that came with their line feeds
    others_of : (given : List ℕ) (before : List (List ℕ)) (rest : List ℕ) (l : Left bytes given i') → LinesBegin limit given before rest → GoesOn IsEndedLine before ls (rest ++ (l.left ++ 10 ∷ []))
    others_of given before rest l b =
        let parts : bytes ++ 10 ∷ [] ≡ b.front ++ (rest ++ (l.left ++ 10 ∷ [])) =
        ap (λ (t : List ℕ). t ++ 10 ∷ []) (l.whole ∙ ap (λ (t : List ℕ). t ++ l.left) b.whole) ∙ append_assoc (b.front ++ rest) l.left (10 ∷ []) ∙ append_assoc b.front rest (l.left ++ 10 ∷ []) in
        lines_on before ls b.front (rest ++ (l.left ++ 10 ∷ [])) b.lines (subst (AreLines ls) parts cut)

    all_lines : (given : List ℕ) (all : List (List ℕ)) → Takes (Some bytes) i' given → IsUsedUp i' → AreLines all (given ++ 10 ∷ []) → all ≡ ls
    all_lines given all t used h =
        let same = all_given bytes given i' (left_of bytes given i' t) used in
        one_cut ls all (bytes ++ 10 ∷ []) cut (subst (λ (b : List ℕ). AreLines all (b ++ 10 ∷ [])) (sym same) h)

    begun : (given : List ℕ) (before : List (List ℕ)) (rest : List ℕ) → Takes (Some bytes) i' given → LinesBegin limit given before rest → IsFront before ls
    begun given before rest t b = let on = others_of given before rest (left_of bytes given i' t) b in record { others = on.others; whole = on.whole }

    came_whole : (V : List ℕ → Type 0) (given : List ℕ) (before : List (List ℕ)) → Takes (Some bytes) i' given → CameWhole g limit (Some bytes) i' V given before → IsFront before ls
    came_whole V given before t (with_feeds rest b ahead) = begun given before rest t b
    came_whole V given before t (with_last h used few) = record { others = []; whole = sym (append-nil before ∙ all_lines given before t used h) }

    module _ (give : Give g ls values) (writings : AllByRecursion (HasWriting g) values) where
      -- the line that is at fault gives some of the values
      record Gives (line : List ℕ) : Type 0 where
        front : List Data
        piece : List Data
        back : List Data
        values_are : values ≡ front ++ (piece ++ back)
        gives : values_in g line ≡ Ok piece

      gives_some : (before others : List (List ℕ)) (line : List ℕ) (front : List Data) → ls ≡ before ++ line ∷ others → Give g before front → Gives line
      gives_some before others line front e h =
          let s = values_on before (line ∷ others) ls front values e h give in
          record { front = front; piece = s.behind.piece; back = s.behind.rest; values_are = s.parts ∙ ap (λ (t : List Data). front ++ t) s.behind.parts; gives = s.behind.first }

      at_fault : (V : List ℕ → Type 0) (number : ℕ) (fault : List ℕ → Type 0) (e : IsAtFault g limit (Some bytes) i' V number fault) → Gives e.line
      at_fault V number fault e =
          let l = left_of bytes e.given i' e.taken in
          let on = others_of e.given e.ls (e.line ++ e.behind) l e.begin in
          let first = first_line e.line (e.behind ++ (l.left ++ 10 ∷ [])) on.others ((e.line ++ e.behind) ++ (l.left ++ 10 ∷ [])) e.fits.one (feeds bytes e.given e.behind i' l e.ends) on.behind (append_assoc e.line e.behind (l.left ++ 10 ∷ [])) in
          gives_some e.ls first.others e.line e.values (on.whole ∙ ap (λ (t : List (List ℕ)). e.ls ++ t) first.is) e.writes.give

      not_bad : (line : List ℕ) (fault : JsonFault) → Gives line → IsBad g line fault → ⊥
      not_bad line fault h b = let e = sym h.gives ∙ b.gives in cc

      not_unfit : (line : List ℕ) (fault : UnfitValue) → Gives line → IsUnfit g line fault → ⊥
      not_unfit line fault h u =
          let same : h.piece ≡ u.value ∷ [] = same_values line h.piece (u.value ∷ []) h.gives u.gives in
          let all = all_behind (HasWriting g) h.front (u.value ∷ h.back) (subst (AllByRecursion (HasWriting g)) (h.values_are ∙ ap (λ (t : List Data). h.front ++ (t ++ h.back)) same) writings) in
          u.unspelled Written all.0.0 all.0.1

      not_too_long : (V : List ℕ → Type 0) (number : ℕ) → HasLongLine g limit (Some bytes) i' V number → ⊥
      not_too_long V number e =
          let l = left_of bytes e.given i' e.taken in
          let on = others_of e.given e.ls (e.line ++ e.behind) l e.begin in
          not_long e.line (e.behind ++ (l.left ++ 10 ∷ [])) on.others ((e.line ++ e.behind) ++ (l.left ++ 10 ∷ [])) e.one e.many on.behind (append_assoc e.line e.behind (l.left ++ 10 ∷ []))

      -- The packets of the values, of which these are a front.
      record Continues (front : List ℕ) : Type 0 where
        back : List ℕ
        are : Packets g values (front ++ back)

      continues : (before : List (List ℕ)) (some_values : List Data) (front : List ℕ) → IsFront before ls → Give g before some_values → Packets g some_values front → Continues front
      continues before some_values front f h k =
          let s = values_on before f.others ls some_values values f.whole h give in
          let more = packets_there g s.back (all_behind (HasWriting g) some_values s.back (subst (AllByRecursion (HasWriting g)) s.parts writings)) in
          record { back = more.0; are = subst (λ (ds : List Data). Packets g ds (front ++ more.0)) (sym s.parts) (joined_on (IsWrittenPacket g) some_values s.back front more.0 k more.1) }

      module _ (o o' : Option (List ℕ)) where
        done : (count : ℕ) → IsEncoded g limit (Some bytes) i' (Gains o o') count → WritesPackets g values o o' (Ok count)
        done count e =
            let same = all_lines e.given e.ls e.taken e.used_up e.lines in
            let values_same : values ≡ e.values = one_whole (λ line vs. values_in g line ≡ Ok vs) same_values ls e.values values (subst (λ (t : List (List ℕ)). Give g t e.values) same e.writes.give) give in
            record { packets = e.writes.packets; are = subst (λ (ds : List Data). Packets g ds e.writes.packets) (sym values_same) e.writes.are; ends = (sym e.counted ∙ ap length (sym values_same), e.writes.written) }

        -- the packets of some of the lines were written, or a front of them
        record Stopped : Type 0 where
          packets : List ℕ
          are : Packets g values packets
          front : GainsFront o o' packets

        module _ (V : List ℕ → Type 0) (written : (front back : List ℕ) → V front → GainsFront o o' (front ++ back)) where
          stopped : (before : List (List ℕ)) (some_values : List Data) → IsFront before ls → Writes g limit (Some bytes) i' V before some_values → Stopped
          stopped before some_values f w =
              let c = continues before some_values w.packets f w.give w.are in
              record { packets = w.packets ++ c.back; are = c.are; front = written w.packets c.back w.written }

          stopped_in : CameSome g limit (Some bytes) i' V → Stopped
          stopped_in e = stopped e.ls e.values (came_whole V e.given e.ls e.taken e.came) e.writes

          broken_off : IsBrokenOff g limit (Some bytes) i' V → Stopped
          broken_off e = stopped e.ls e.values (begun e.given e.ls e.rest e.taken e.begin) e.writes

        pub encoded : 0 < (span g).least → length bytes ≤ limit → (result : Result ℕ StreamFault) → EncodeEnds g limit (Some bytes) i' o o' result → (IsErrOf result EmptyPacket → (span g).least ≡ 0) → WritesPackets g values o o' result
        encoded some few (Ok count) e none = done count e
        encoded some few (Err (LineTooLong n)) e none = absurd (not_too_long (Gains o o') n e)
        encoded some few (Err InputTooLong) e none = absurd (not_past bytes e.given e.byte limit i' e.taken e.full few)
        encoded some few (Err EmptyPacket) e none = absurd (omega (arith, some, none refl))
        encoded some few (Err (Packet n fault)) e none = absurd e
        encoded some few (Err (BadLine n fault)) e none = absurd (not_bad e.line fault (at_fault (Gains o o') n (λ line. IsBad g line fault) e) e.fault)
        encoded some few (Err (Unfit n fault)) e none = absurd (not_unfit e.line fault (at_fault (Gains o o') n (λ line. IsUnfit g line fault) e) e.fault)
        encoded some few (Err InputFault) e none = let s = broken_off (Gains o o') (gains_front o o') e in record { packets = s.packets; are = s.are; ends = s.front }
        encoded some few (Err OutputFault) e none = let s = stopped_in (GainsFront o o') (front_more o o') e in record { packets = s.packets; are = s.are; ends = s.front }
        encoded some few (Err NoMemory) e none = let s = stopped_in (Gains o o') (gains_front o o') e in record { packets = s.packets; are = s.are; ends = s.front }
