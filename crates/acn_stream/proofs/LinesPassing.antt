-- How far encoding came, and how it ends.
use Rattle.std.proofs.Common.{◌≡◌, ℕ, ◌+◌, ◌<◌, ◌≤◌, List, [], ◌∷◌, ◌++◌, length, Option, None, Some, Result, Ok, Err, subst, sym, ap, refl, ◌∙◌, arith, length-append, append_assoc, append-nil}
use Rattle.acn_grammar.specs.Grammar.{Grammar, Data}
use Rattle.acn_outside.specs.Moves.{Takes, Gains}
use Rattle.acn_outside.specs.Whole.{GainsFront}
use Rattle.acn_outside.proofs.Joined.{gains_more}
use Rattle.acn_stream.specs.Encoding.{IsWrittenPacket, Packets, IsEndedLine, AreLines, values_in, IsBad, IsUnfit, LinesBegin, Writes, IsEncoded, IsAtFault, CameWhole, with_feeds, with_last, CameSome, Ends, EncodeEnds}
use Rattle.acn_stream.specs.Passing.{Fails, Adds, Encoded, Goes, HasRoom, unread, fault_at, fault_behind}
use Rattle.acn_stream.specs.declared.encode.Tally.{Tally}
use Rattle.acn_stream.specs.declared.lines.LineFault.{LineFault}
use Rattle.acn_stream.specs.declared.lines.LineFault.TheVariants.{Bad, Unfit, NoMemory}
use Rattle.acn_stream.specs.declared.stream_fault.StreamFault.{StreamFault}
use Rattle.acn_stream.specs.declared.stream_fault.StreamFault.TheVariants as stream
use Rattle.acn_supply.specs.Cutting.{Gets, IsEnded, IsJustAhead, IsLast, IsOneLine, ReadsLine}
use Rattle.acn_supply.specs.Reading.{Supplied}
use Rattle.acn_supply.specs.declared.lines.NoLine.{NoLine}
use Rattle.acn_supply.specs.declared.lines.NoLine.TheVariants as no_line
use Rattle.acn_supply.specs.declared.window.TheConstants.{MOST_IN_HAND}
use Rattle.acn_supply.proofs.Moving.{takes_nothing, takes_more}
use Rattle.acn_stream.proofs.Joining.{joined_on, joined_one, gains_nothing}

-- the values of each line
abbrev IsOf : Grammar → List ℕ → List Data → Type 0
IsOf g line vs = values_in g line ≡ Ok vs

-- bytes that were taken behind those so far
regrouped : (front hand given tail : List ℕ) → hand ++ given ≡ tail → (front ++ hand) ++ given ≡ front ++ tail
regrouped front hand given tail e = append_assoc front hand given ∙ ap (λ (t : List ℕ). front ++ t) e

fed : (line hand : List ℕ) → line ++ 10 ∷ hand ≡ (line ++ 10 ∷ []) ++ hand
fed line hand = sym (append_assoc line (10 ∷ []) hand)

-- behind a line stands no more than can be in hand
ahead_of : (line behind : List ℕ) → IsOneLine line → length behind ≤ MOST_IN_HAND → IsJustAhead (line ++ behind)
ahead_of line behind one near = record { front = line; behind = behind; whole = refl; one = one; near = near }

-- nothing stands behind it
alone : (line : List ℕ) → IsOneLine line → IsJustAhead line
alone line one = record { front = line; behind = []; whole = sym (append-nil line); one = one; near = omega arith }

module _ (g : Grammar) (limit : ℕ) (i i' : Option (List ℕ)) (before : Supplied) (tally : Tally) where
  -- what stands in front, with more behind it
  taken_on : (i'' : Option (List ℕ)) (after : Supplied) (text given tail : List ℕ) (e : Encoded g limit i i' before tally text) → Gets before after i' i'' given → before.hand ++ given ≡ tail → Takes i i'' (e.front ++ tail)
  taken_on i'' after text given tail e gets whole = subst (Takes i i'') (regrouped e.front before.hand given tail whole) (takes_more i i' i'' (e.front ++ before.hand) given e.taken gets.taken)

  -- how many bytes came
  count_on : (i'' : Option (List ℕ)) (after : Supplied) (text given tail : List ℕ) (e : Encoded g limit i i' before tally text) → Gets before after i' i'' given → before.hand ++ given ≡ tail → after.left + length (e.front ++ tail) ≡ limit
  count_on i'' after text given tail e gets whole =
      omega (arith, e.left, gets.counted, ap length (regrouped e.front before.hand given tail whole), length-append (e.front ++ before.hand) given)

  begin_on : (i'' : Option (List ℕ)) (after : Supplied) (text given tail : List ℕ) (e : Encoded g limit i i' before tally text) → Gets before after i' i'' given → before.hand ++ given ≡ tail → LinesBegin limit (e.front ++ tail) e.ls tail
  begin_on i'' after text given tail e gets whole = record { front = e.front; whole = refl; lines = e.lines; within = omega (arith, e.left, length-append e.front before.hand) }

  few_on : (i'' : Option (List ℕ)) (after : Supplied) (text given tail : List ℕ) (e : Encoded g limit i i' before tally text) → Gets before after i' i'' given → before.hand ++ given ≡ tail → length (e.front ++ tail) ≤ limit
  few_on i'' after text given tail e gets whole = omega (arith, count_on i'' after text given tail e gets whole)

  -- a line came with its line feed
  pub line_passed : (i'' : Option (List ℕ)) (after : Supplied) (text line old new : List ℕ) (count : ℕ) → Encoded g limit i i' before tally (text ++ old) → IsEnded before after i' i'' line → Adds g line old new count
      → Encoded g limit i i'' after (record { lines = tally.lines + 1; packets = tally.packets + count }) (text ++ new)
  line_passed i'' after text line old new count e r a =
      let piece = line ++ 10 ∷ [] in
      let whole : e.front ++ (line ++ 10 ∷ after.hand) ≡ (e.front ++ piece) ++ after.hand = ap (λ (t : List ℕ). e.front ++ t) (fed line after.hand) ∙ sym (append_assoc e.front piece after.hand) in
      let added : (text ++ old) ++ a.packets ≡ text ++ new = append_assoc text old a.packets ∙ ap (λ (t : List ℕ). text ++ t) (sym a.added) in
      record {
        ls = e.ls ++ line ∷ [];
        values = e.values ++ a.values;
        front = e.front ++ piece;
        taken = subst (Takes i i'') whole (taken_on i'' after (text ++ old) r.given (line ++ 10 ∷ after.hand) e r.gets r.cut);
        left = omega (arith, count_on i'' after (text ++ old) r.given (line ++ 10 ∷ after.hand) e r.gets r.cut, ap length whole);
        lines = joined_on IsEndedLine e.ls (line ∷ []) e.front piece e.lines (joined_one IsEndedLine line piece (record { fits = record { one = r.one; few = r.few }; whole = refl }));
        give = joined_on (IsOf g) e.ls (line ∷ []) e.values a.values e.give (joined_one (IsOf g) line a.values a.gives);
        are = subst (Packets g (e.values ++ a.values)) added (joined_on (IsWrittenPacket g) e.values a.values (text ++ old) a.packets e.are a.are);
        lines_are = omega (arith, e.lines_are, length-append e.ls (line ∷ []));
        packets_are = omega (arith, e.packets_are, a.counted, length-append e.values a.values);
        near = omega (arith, r.near);
      }

  -- the last one came
  pub line_last : (i'' : Option (List ℕ)) (after : Supplied) (text line old new : List ℕ) (count : ℕ) → Encoded g limit i i' before tally (text ++ old) → IsLast before after i' i'' line → Adds g line old new count
      → IsEncoded g limit i i'' (λ packets. packets ≡ text ++ new) (tally.packets + count)
  line_last i'' after text line old new count e r a =
      let piece = line ++ 10 ∷ [] in
      let added : (text ++ old) ++ a.packets ≡ text ++ new = append_assoc text old a.packets ∙ ap (λ (t : List ℕ). text ++ t) (sym a.added) in
      record {
        given = e.front ++ line;
        ls = e.ls ++ line ∷ [];
        values = e.values ++ a.values;
        taken = taken_on i'' after (text ++ old) r.given line e r.gets r.whole;
        used_up = r.used_up;
        lines = subst (AreLines (e.ls ++ line ∷ [])) (sym (append_assoc e.front line (10 ∷ [])))
            (joined_on IsEndedLine e.ls (line ∷ []) e.front piece e.lines (joined_one IsEndedLine line piece (record { fits = record { one = r.one; few = r.few }; whole = refl })));
        within = omega (arith, count_on i'' after (text ++ old) r.given line e r.gets r.whole);
        counted = omega (arith, e.packets_are, a.counted, length-append e.values a.values);
        writes = record {
          packets = (text ++ old) ++ a.packets;
          give = joined_on (IsOf g) e.ls (line ∷ []) e.values a.values e.give (joined_one (IsOf g) line a.values a.gives);
          are = joined_on (IsWrittenPacket g) e.values a.values (text ++ old) a.packets e.are a.are;
          written = added;
        };
      }

  -- a line is at fault
  at_fault_ended : (i'' : Option (List ℕ)) (after : Supplied) (text line new : List ℕ) (at_fault : List ℕ → Type 0) → Encoded g limit i i' before tally text → IsEnded before after i' i'' line → text ≡ new → at_fault line
      → IsAtFault g limit i i'' (λ packets. packets ≡ new) (tally.lines + 1) at_fault
  at_fault_ended i'' after text line new at_fault e r same f = record {
    given = e.front ++ (line ++ 10 ∷ after.hand);
    ls = e.ls;
    line = line;
    behind = 10 ∷ after.hand;
    values = e.values;
    taken = taken_on i'' after text r.given (line ++ 10 ∷ after.hand) e r.gets r.cut;
    begin = begin_on i'' after text r.given (line ++ 10 ∷ after.hand) e r.gets r.cut;
    few = few_on i'' after text r.given (line ++ 10 ∷ after.hand) e r.gets r.cut;
    fits = record { one = r.one; few = r.few };
    ends = refl;
    near = omega (arith, r.near);
    counted = ap (λ (k : ℕ). k + 1) e.lines_are;
    fault = f;
    writes = record { packets = text; give = e.give; are = e.are; written = same };
  }

  at_fault_last : (i'' : Option (List ℕ)) (after : Supplied) (text line new : List ℕ) (at_fault : List ℕ → Type 0) → Encoded g limit i i' before tally text → IsLast before after i' i'' line → text ≡ new → at_fault line
      → IsAtFault g limit i i'' (λ packets. packets ≡ new) (tally.lines + 1) at_fault
  at_fault_last i'' after text line new at_fault e r same f =
      let whole : before.hand ++ r.given ≡ line ++ [] = r.whole ∙ sym (append-nil line) in
      record {
        given = e.front ++ (line ++ []);
        ls = e.ls;
        line = line;
        behind = [];
        values = e.values;
        taken = taken_on i'' after text r.given (line ++ []) e r.gets whole;
        begin = begin_on i'' after text r.given (line ++ []) e r.gets whole;
        few = few_on i'' after text r.given (line ++ []) e r.gets whole;
        fits = record { one = r.one; few = r.few };
        ends = r.used_up;
        near = omega arith;
        counted = ap (λ (k : ℕ). k + 1) e.lines_are;
        fault = f;
        writes = record { packets = text; give = e.give; are = e.are; written = same };
      }

  -- memory ran out
  ran_out : (i'' : Option (List ℕ)) (after : Supplied) (text new given tail : List ℕ) → Encoded g limit i i' before tally text → Gets before after i' i'' given → before.hand ++ given ≡ tail → IsJustAhead tail → text ≡ new → CameSome g limit i i'' (λ packets. packets ≡ new)
  ran_out i'' after text new given tail e gets whole ahead same = record {
    given = e.front ++ tail;
    ls = e.ls;
    values = e.values;
    taken = taken_on i'' after text given tail e gets whole;
    few = omega (arith, few_on i'' after text given tail e gets whole);
    came = with_feeds tail (begin_on i'' after text given tail e gets whole) ahead;
    writes = record { packets = text; give = e.give; are = e.are; written = same };
  }

  pub failed_ended : (i'' : Option (List ℕ)) (after : Supplied) (text line old new : List ℕ) (fault : LineFault) → Encoded g limit i i' before tally (text ++ old) → IsEnded before after i' i'' line → new ≡ old → Fails g line fault
      → Ends g limit i i'' (λ packets. packets ≡ text ++ new) (Err (fault_at (tally.lines + 1) fault))
  failed_ended i'' after text line old new (Bad bad) e r same f = at_fault_ended i'' after (text ++ old) line (text ++ new) (λ l. IsBad g l bad) e r (ap (λ (t : List ℕ). text ++ t) (sym same)) f
  failed_ended i'' after text line old new (Unfit unfit) e r same f = at_fault_ended i'' after (text ++ old) line (text ++ new) (λ l. IsUnfit g l unfit) e r (ap (λ (t : List ℕ). text ++ t) (sym same)) f
  failed_ended i'' after text line old new NoMemory e r same f = ran_out i'' after (text ++ old) (text ++ new) r.given (line ++ 10 ∷ after.hand) e r.gets r.cut (ahead_of line (10 ∷ after.hand) r.one (omega (arith, r.near))) (ap (λ (t : List ℕ). text ++ t) (sym same))

  pub failed_last : (i'' : Option (List ℕ)) (after : Supplied) (text line old new : List ℕ) (fault : LineFault) → Encoded g limit i i' before tally (text ++ old) → IsLast before after i' i'' line → new ≡ old → Fails g line fault
      → Ends g limit i i'' (λ packets. packets ≡ text ++ new) (Err (fault_at (tally.lines + 1) fault))
  failed_last i'' after text line old new (Bad bad) e r same f = at_fault_last i'' after (text ++ old) line (text ++ new) (λ l. IsBad g l bad) e r (ap (λ (t : List ℕ). text ++ t) (sym same)) f
  failed_last i'' after text line old new (Unfit unfit) e r same f = at_fault_last i'' after (text ++ old) line (text ++ new) (λ l. IsUnfit g l unfit) e r (ap (λ (t : List ℕ). text ++ t) (sym same)) f
  failed_last i'' after text line old new NoMemory e r same f = ran_out i'' after (text ++ old) (text ++ new) r.given line e r.gets r.whole (alone line r.one) (ap (λ (t : List ℕ). text ++ t) (sym same))

  -- there is no line
  pub no_line_came : (i'' : Option (List ℕ)) (after : Supplied) (text bytes : List ℕ) (why : NoLine) → Encoded g limit i i' before tally text → ReadsLine before after i' i'' (Err why) bytes
      → Ends g limit i i'' (λ packets. packets ≡ text) (Err (fault_behind tally.lines why))
  no_line_came i'' after text bytes no_line.TooLong e r = record {
    given = e.front ++ (r.front ++ r.back);
    ls = e.ls;
    line = r.front;
    behind = r.back;
    values = e.values;
    taken = taken_on i'' after text r.given (r.front ++ r.back) e r.gets r.cut;
    begin = begin_on i'' after text r.given (r.front ++ r.back) e r.gets r.cut;
    few = few_on i'' after text r.given (r.front ++ r.back) e r.gets r.cut;
    one = r.one;
    many = r.many;
    near = r.near;
    counted = ap (λ (k : ℕ). k + 1) e.lines_are;
    writes = record { packets = text; give = e.give; are = e.are; written = refl };
  }
  no_line_came i'' after text bytes no_line.PastLimit e r =
      let whole : (e.front ++ before.hand) ++ (r.given ++ r.byte ∷ []) ≡ (e.front ++ (before.hand ++ r.given)) ++ r.byte ∷ [] = sym (append_assoc (e.front ++ before.hand) r.given (r.byte ∷ [])) ∙ ap (λ (t : List ℕ). t ++ r.byte ∷ []) (append_assoc e.front before.hand r.given) in
      let full : length (e.front ++ (before.hand ++ r.given)) ≡ limit = omega (arith, e.left, r.full, ap length (append_assoc e.front before.hand r.given), length-append (e.front ++ before.hand) r.given) in
      record {
        given = e.front ++ (before.hand ++ r.given);
        byte = r.byte;
        ls = e.ls;
        rest = before.hand ++ r.given;
        values = e.values;
        taken = subst (Takes i i'') whole (takes_more i i' i'' (e.front ++ before.hand) (r.given ++ r.byte ∷ []) e.taken r.taken);
        full = full;
        begin = record { front = e.front; whole = refl; lines = e.lines; within = omega (arith, e.left, length-append e.front before.hand) };
        inside = record { one = r.one; few = r.few };
        writes = record { packets = text; give = e.give; are = e.are; written = refl };
      }
  no_line_came i'' after text bytes no_line.Failed e r = record {
    given = e.front ++ (before.hand ++ r.given);
    ls = e.ls;
    rest = before.hand ++ r.given;
    values = e.values;
    taken = taken_on i'' after text r.given (before.hand ++ r.given) e r.gets refl;
    begin = begin_on i'' after text r.given (before.hand ++ r.given) e r.gets refl;
    few = few_on i'' after text r.given (before.hand ++ r.given) e r.gets refl;
    inside = record { one = r.one; few = r.few };
    writes = record { packets = text; give = e.give; are = e.are; written = refl };
  }
  no_line_came i'' after text bytes no_line.NoMemory e r = ran_out i'' after text text r.given (before.hand ++ r.given) e r.gets refl r.ahead refl

-- ---- what was written

module _ (g : Grammar) (limit : ℕ) (i i' : Option (List ℕ)) (W V : List ℕ → Type 0) (more : (packets : List ℕ) → W packets → V packets) where
  writes_so : (ls : List (List ℕ)) (values : List Data) → Writes g limit i i' W ls values → Writes g limit i i' V ls values
  writes_so ls values w = record { packets = w.packets; give = w.give; are = w.are; written = more w.packets w.written }

  some_so : CameSome g limit i i' W → CameSome g limit i i' V
  some_so w = record { given = w.given; ls = w.ls; values = w.values; taken = w.taken; few = w.few; came = came_so w.given w.ls w.came; writes = writes_so w.ls w.values w.writes }
    where
      came_so : (given : List ℕ) (ls : List (List ℕ)) → CameWhole g limit i i' W given ls → CameWhole g limit i i' V given ls
      came_so given ls (with_feeds rest b ahead) = with_feeds rest b ahead
      came_so given ls (with_last lines used within) = with_last lines used within

  at_fault_so : (number : ℕ) (at_fault : List ℕ → Type 0) → IsAtFault g limit i i' W number at_fault → IsAtFault g limit i i' V number at_fault
  at_fault_so number at_fault w = record {
    given = w.given;
    ls = w.ls;
    line = w.line;
    behind = w.behind;
    values = w.values;
    taken = w.taken;
    few = w.few;
    begin = w.begin;
    fits = w.fits;
    ends = w.ends;
    near = w.near;
    counted = w.counted;
    fault = w.fault;
    writes = writes_so w.ls w.values w.writes;
  }

  pub ends_so : (result : Result ℕ StreamFault) → Ends g limit i i' W result → Ends g limit i i' V result
  ends_so (Ok count) w = record { given = w.given; ls = w.ls; values = w.values; taken = w.taken; used_up = w.used_up; lines = w.lines; within = w.within; counted = w.counted; writes = writes_so w.ls w.values w.writes }
  ends_so (Err (stream.LineTooLong number)) w = record { given = w.given; ls = w.ls; line = w.line; behind = w.behind; values = w.values; taken = w.taken; few = w.few; begin = w.begin; one = w.one; many = w.many; near = w.near; counted = w.counted; writes = writes_so w.ls w.values w.writes }
  ends_so (Err stream.InputTooLong) w = record { given = w.given; byte = w.byte; ls = w.ls; rest = w.rest; values = w.values; taken = w.taken; full = w.full; begin = w.begin; inside = w.inside; writes = writes_so w.ls w.values w.writes }
  ends_so (Err stream.EmptyPacket) w = absurd w
  ends_so (Err (stream.Packet number fault)) w = absurd w
  ends_so (Err (stream.BadLine number fault)) w = at_fault_so number (λ line. IsBad g line fault) w
  ends_so (Err (stream.Unfit number fault)) w = at_fault_so number (λ line. IsUnfit g line fault) w
  ends_so (Err stream.InputFault) w = record { given = w.given; ls = w.ls; rest = w.rest; values = w.values; taken = w.taken; few = w.few; begin = w.begin; inside = w.inside; writes = writes_so w.ls w.values w.writes }
  ends_so (Err stream.OutputFault) w = absurd w
  ends_so (Err stream.NoMemory) w = some_so w

  -- the lines that came whole, whatever the end
  pub some_came : (result : Result ℕ StreamFault) → Ends g limit i i' W result → CameSome g limit i i' V
  some_came (Ok count) w = record { given = w.given; ls = w.ls; values = w.values; taken = w.taken; few = omega (arith, w.within); came = with_last w.lines w.used_up w.within; writes = writes_so w.ls w.values w.writes }
  some_came (Err (stream.LineTooLong number)) w = record { given = w.given; ls = w.ls; values = w.values; taken = w.taken; few = omega (arith, w.few); came = with_feeds (w.line ++ w.behind) w.begin (ahead_of w.line w.behind w.one w.near); writes = writes_so w.ls w.values w.writes }
  some_came (Err stream.InputTooLong) w = record {
    given = w.given ++ w.byte ∷ [];
    ls = w.ls;
    values = w.values;
    taken = w.taken;
    few = omega (arith, w.full, length-append w.given (w.byte ∷ []));
    came = with_feeds (w.rest ++ w.byte ∷ []) (record { front = w.begin.front; whole = ap (λ (t : List ℕ). t ++ w.byte ∷ []) w.begin.whole ∙ append_assoc w.begin.front w.rest (w.byte ∷ []); lines = w.begin.lines; within = w.begin.within }) (ahead_of w.rest (w.byte ∷ []) w.inside.one (omega arith));
    writes = writes_so w.ls w.values w.writes;
  }
  some_came (Err stream.EmptyPacket) w = absurd w
  some_came (Err (stream.Packet number fault)) w = absurd w
  some_came (Err (stream.BadLine number fault)) w = record { given = w.given; ls = w.ls; values = w.values; taken = w.taken; few = omega (arith, w.few); came = with_feeds (w.line ++ w.behind) w.begin (ahead_of w.line w.behind w.fits.one w.near); writes = writes_so w.ls w.values w.writes }
  some_came (Err (stream.Unfit number fault)) w = record { given = w.given; ls = w.ls; values = w.values; taken = w.taken; few = omega (arith, w.few); came = with_feeds (w.line ++ w.behind) w.begin (ahead_of w.line w.behind w.fits.one w.near); writes = writes_so w.ls w.values w.writes }
  some_came (Err stream.InputFault) w = record { given = w.given; ls = w.ls; values = w.values; taken = w.taken; few = omega (arith, w.few); came = with_feeds w.rest w.begin (alone w.rest w.inside.one); writes = writes_so w.ls w.values w.writes }
  some_came (Err stream.OutputFault) w = absurd w
  some_came (Err stream.NoMemory) w = some_so w

module _ (g : Grammar) (limit : ℕ) (i i' : Option (List ℕ)) where
  -- the lines that came whole, whether it goes on or has ended
  pub came : (V : List ℕ → Type 0) (s : Supplied) (tally : Tally) (text : List ℕ) → ((packets : List ℕ) → packets ≡ text → V packets) → (result : Option (Result ℕ StreamFault)) → Goes g limit i i' s tally text result → CameSome g limit i i' V
  came V s tally text all None e = record {
    given = e.front ++ s.hand;
    ls = e.ls;
    values = e.values;
    taken = e.taken;
    few = omega (arith, e.left);
    came = with_feeds s.hand (record { front = e.front; whole = refl; lines = e.lines; within = omega (arith, e.left, length-append e.front s.hand) }) (ahead_of [] s.hand refl e.near);
    writes = record { packets = text; give = e.give; are = e.are; written = all text refl };
  }
  came V s tally text all (Some result) e = some_came g limit i i' (λ packets. packets ≡ text) V all result e

  -- what was collected is nothing yet
  pub collected : (s : Supplied) (tally : Tally) (text old : List ℕ) → Encoded g limit i i' s tally text → old ≡ [] → Encoded g limit i i' s tally (text ++ old)
  collected s tally text old e none = subst (Encoded g limit i i' s tally) (sym (ap (λ (t : List ℕ). text ++ t) none ∙ append-nil text)) e

  pub no_output_fault : (W : List ℕ → Type 0) (result : Result ℕ StreamFault) → Ends g limit i i' W result → result ≡ Err stream.OutputFault → ⊥
  no_output_fault W result e h = subst (Ends g limit i i' W) h e

  pub no_empty_packet : (W : List ℕ → Type 0) (result : Result ℕ StreamFault) → Ends g limit i i' W result → result ≡ Err stream.EmptyPacket → ⊥
  no_empty_packet W result e h = subst (Ends g limit i i' W) h e

  -- with what the output gained
  pub all_ends : (o o' : Option (List ℕ)) (text : List ℕ) (result : Result ℕ StreamFault) → Gains o o' text → Ends g limit i i' (λ packets. packets ≡ text) result → EncodeEnds g limit i i' o o' result
  all_ends o o' text result gains e = by_end result (ends_so g limit i i' (λ packets. packets ≡ text) (Gains o o') (λ packets same. subst (Gains o o') (sym same) gains) result e)
    where
      by_end : (r : Result ℕ StreamFault) → Ends g limit i i' (Gains o o') r → EncodeEnds g limit i i' o o' r
      by_end (Ok count) w = w
      by_end (Err (stream.LineTooLong number)) w = w
      by_end (Err stream.InputTooLong) w = w
      by_end (Err stream.EmptyPacket) w = absurd w
      by_end (Err (stream.Packet number fault)) w = absurd w
      by_end (Err (stream.BadLine number fault)) w = w
      by_end (Err (stream.Unfit number fault)) w = w
      by_end (Err stream.InputFault) w = w
      by_end (Err stream.OutputFault) w = absurd w
      by_end (Err stream.NoMemory) w = w

  -- a front of what the output was to gain
  pub cut_short : (o o' o'' : Option (List ℕ)) (s : Supplied) (tally : Tally) (text new : List ℕ) (result : Option (Result ℕ StreamFault)) → Gains o o' text → GainsFront o' o'' new → Goes g limit i i' s tally (text ++ new) result → CameSome g limit i i' (GainsFront o o'')
  cut_short o o' o'' s tally text new result gains f e =
      let all : GainsFront o o'' (text ++ new) = (text ++ f.0, f.1, ap (λ (t : List ℕ). text ++ t) f.2 ∙ sym (append_assoc text f.0 f.1), gains_more o o' o'' text f.0 gains f.3) in
      came (GainsFront o o'') s tally (text ++ new) (λ packets same. subst (GainsFront o o'') (sym same) all) result e

-- nothing was read
pub never_encoded : (g : Grammar) (limit : ℕ) (i o : Option (List ℕ)) → CameSome g limit i i (Gains o o)
never_encoded g limit i o = record {
  given = [];
  ls = [];
  values = [];
  taken = takes_nothing i;
  few = omega arith;
  came = with_feeds [] (record { front = []; whole = refl; lines = refl; within = omega arith }) (alone [] refl);
  writes = record { packets = []; give = refl; are = refl; written = gains_nothing o };
}

-- nothing is in hand yet
pub nothing_passed : (g : Grammar) (i : Option (List ℕ)) (s : Supplied) → s.hand ≡ [] → Encoded g s.left i i s (record { lines = 0; packets = 0 }) []
nothing_passed g i s none = record {
  ls = [];
  values = [];
  front = [];
  taken = subst (Takes i i) (sym none) (takes_nothing i);
  left = omega (arith, ap length none);
  lines = refl;
  give = refl;
  are = refl;
  lines_are = refl;
  packets_are = refl;
  near = omega (arith, ap length none);
}

-- there is room behind a line
pub room_passed : (g : Grammar) (before after : Supplied) (i i' : Option (List ℕ)) (tally : Tally) (line old new : List ℕ) (count : ℕ) → HasRoom before tally → IsEnded before after i i' line → Adds g line old new count
    → HasRoom after (record { lines = tally.lines + 1; packets = tally.packets + count })
room_passed g before after i i' tally line old new count room r a = record {
  packets = omega (arith, room.packets, a.few);
  lines = omega (arith, room.lines, r.gets.counted, ap length r.cut, length-append before.hand r.given, length-append line (10 ∷ after.hand));
}

pub falls_passed : (before after : Supplied) (i i' : Option (List ℕ)) (line : List ℕ) → IsEnded before after i i' line → unread after < unread before
falls_passed before after i i' line r = omega (arith, r.gets.counted, ap length r.cut, length-append before.hand r.given, length-append line (10 ∷ after.hand))

-- where no line came for another reason than a failure, the fault is another
pub no_failure : {A : Type 0} → (lines : ℕ) (why : NoLine) (fault : StreamFault) (r : Result A NoLine) → r ≡ Err why → fault ≡ fault_behind lines why → (fault ≡ stream.InputFault → ⊥) → r ≡ Err no_line.Failed → ⊥
no_failure lines no_line.Failed fault r came is h e = h is
no_failure lines no_line.TooLong fault r came is h e = cc
no_failure lines no_line.PastLimit fault r came is h e = cc
no_failure lines no_line.NoMemory fault r came is h e = cc
