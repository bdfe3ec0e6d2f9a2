-- Numbers of neighbouring fields as one word.
use Rattle.std.proofs.Common.{◌≡◌, ℕ, zero, suc, ◌+◌, ◌*◌, ◌%◌, ◌^◌, ◌<◌, ◌≤◌, ℤ, pos, negsuc, nat_abs, FitsSigned, ◌+ℤ◌, ◌-ℤ◌, ◌≤ℤ◌, ◌<ℤ◌, Bool, true, false, List, [], ◌∷◌, ◌++◌, length, drop, get_or, replicate, refl, sym, ap, subst, ◌∙◌, arith, append_assoc, length-append, append-nil, take, IfSome, Option, Some, None}
use Rattle.std.specs.Prelude.{slice_get, slice_index_or, option_map, IsTrue}
use Rattle.std.proofs.lemmas.Nat.{pow-add, mul-add-lt}
use Rattle.std.proofs.Math.Nat.{mod-eq_of_lt, pow-le-pow_right}
use Rattle.std.proofs.lemmas.Int.{ints, int_wrap_fits, int_wrap-add_left, wrapping_sub_is}
use Rattle.std.specs.Int.{w128, int_wrap, int_wrapping_sub}
use Rattle.std.proofs.lemmas.List.{drop-drop, drop_more}
use Rattle.acn_num.specs.Bits.{low_bits, number, IsNumber}
use Rattle.acn_bits.specs.declared.word.TheConstants.{WORD_BITS}
use Rattle.acn_num.proofs.BitLists.{number-append, number_same, length-low_bits, number-low_bits}
use Rattle.acn_grammar.specs.Code.{Code, Written}
use Rattle.acn_grammar.specs.Grammar.{Grammar, Fields, node, num}
use Rattle.acn_grammar.specs.Leaves.{num_fine}
use Rattle.acn_grammar.specs.Length.{number_of, num_length, padding}
use Rattle.acn_grammar.specs.View.{a_component, an_inserted, with_field, data_of, places_view}
use Rattle.acn_grammar.specs.declared.node.NumLeaf.{NumLeaf}
use Rattle.acn_grammar.specs.declared.node.Presence.{Presence}
use Rattle.acn_grammar.specs.declared.node.Presence.TheVariants.{Always}
use Rattle.acn_grammar.specs.declared.value.Value.{Value}
use Rattle.acn_grammar.proofs.LeafLengths.{code-length}
use Rattle.acn_cut.specs.Cuts.{IsCut}
use Rattle.acn_cut.specs.Stretches.{total}
use Rattle.acn_cut.specs.declared.cut.Cut.{Cut}
use Rattle.acn_cut.specs.declared.stretch.Piece.{Piece}
use Rattle.acn_events.specs.Event.{Event, State, aligns, codes, position, puts}
use Rattle.acn_events.specs.Events.{field_events, inserted_events}
use Rattle.acn_events.specs.Steps.{Room, Run, Step as Moves, Stops, put}
use Rattle.acn_plan.specs.Back.{StepAt, node_at, fields_at, root_of, field_by}
use Rattle.acn_plan.specs.Runs.{ArePieces, IsCutOf, IsFree, IsPieceOf, IsRun}
use Rattle.acn_plan.specs.declared.step.Act.{Act}
use Rattle.acn_plan.specs.declared.step.Act.TheVariants as acts
use Rattle.acn_plan.specs.declared.step.Place.{Place}
use Rattle.acn_plan.specs.declared.step.Place.TheVariants as places
use Rattle.acn_plan.specs.declared.step.Step.{Step}
use Rattle.acn_plan.proofs.Marks.{fields_more}
use Rattle.acn_writer.specs.Answers.{Comes, state_of}
use Rattle.acn_writer.specs.Halts.{class_of}
use Rattle.acn_writer.specs.declared.writer.Writer.{Writer}
use Rattle.acn_pack.specs.Packs.{GoesOn}
use Rattle.acn_pack.specs.Parts.{place_events}
use Rattle.acn_pack.specs.Sounds.{FieldsAreSound}
use Rattle.acn_pack.specs.Words.{AreCodes, Codes, Gathers, IsNumberAt, IsWord, PutsRun, Stands, Stays, left_from}
use Rattle.acn_pack.specs.declared.word.Word.{Word}
use Rattle.acn_pack.proofs.Fields.{component_events, inserted_first}
use Rattle.acn_pack.proofs.Levels.{node_of_number}
use Rattle.acn_pack.proofs.PresenceBits.{put_none, put_more, room_first, room_more}
use Rattle.acn_pack.proofs.Sounding.{head_sound, leaf_is_fine, rest_sound}
use Rattle.acn_pack.proofs.Ways.{begin, left_as, then_some}

-- Bits.

pub join_below : (w v a c : ℕ) → a < 2 ^ w → c < 2 ^ v → a * 2 ^ v + c < 2 ^ (w + v)
join_below w v a c h k =
    let turned : w + v ≡ v + w = omega arith in
    subst (λ (n : ℕ). a * 2 ^ v + c < n) (sym (ap (λ (e : ℕ). 2 ^ e) turned ∙ pow-add 2 v w)) (mul-add-lt a (2 ^ v) c (2 ^ w) h k)

pub join_bits : (w v a c : ℕ) → a < 2 ^ w → c < 2 ^ v → low_bits (w + v) (a * 2 ^ v + c) ≡ low_bits w a ++ low_bits v c
join_bits w v a c h k =
    let front = low_bits w a in
    let back = low_bits v c in
    let long : length (low_bits (w + v) (a * 2 ^ v + c)) ≡ length (front ++ back) = length-low_bits (w + v) (a * 2 ^ v + c) ∙ sym (length-append front back ∙ rw (length-low_bits w a, length-low_bits v c) refl) in
    let whole : number (low_bits (w + v) (a * 2 ^ v + c)) ≡ a * 2 ^ v + c = number-low_bits (w + v) (a * 2 ^ v + c) ∙ mod-eq_of_lt (join_below w v a c h k) in
    let parts : number (front ++ back) ≡ a * 2 ^ v + c = number-append front back ∙ rw (number-low_bits w a, number-low_bits v c, length-low_bits v c, mod-eq_of_lt {n = a} {m = 2 ^ w} h, mod-eq_of_lt {n = c} {m = 2 ^ v} k) refl in
    number_same (low_bits (w + v) (a * 2 ^ v + c)) (front ++ back) long (whole ∙ sym parts)

-- Codes.

-- one number more
pub codes_more : (es : List Event) (bs cs : List Bool) (leaf : NumLeaf) (x : ℤ) → IsTrue (num_fine leaf) → AreCodes es bs → Code Written leaf x cs → AreCodes (es ++ aligns 1 ∷ codes leaf x ∷ []) (bs ++ cs)
codes_more [] bs cs leaf x fine none code = rw none (refl, (cs, [], sym (append-nil cs), fine, code, refl))
codes_more (aligns align ∷ es) bs cs leaf x fine are code = (are.0, codes_more es bs cs leaf x fine are.1 code)
codes_more (codes other y ∷ es) bs cs leaf x fine are code =
    (are.0, are.1 ++ cs, ap (λ (z : List Bool). z ++ cs) are.2 ∙ append_assoc are.0 are.1 cs, are.3, are.4, codes_more es are.1 cs leaf x fine are.5 code)
codes_more (_ ∷ es) bs cs leaf x fine are code = absurd are

no_padding : (at : ℕ) → padding 1 at ≡ 0
no_padding at = omega arith

-- numbers that align nothing are put by their codes
pub codes_run : (es : List Event) (bs : List Bool) (m : State) → AreCodes es bs → Room (length bs) m → Run es m (put bs m)
codes_run [] bs m none room = rw none (put_none m)
codes_run (aligns align ∷ es) bs m are room = (m, aligned align m are.0 (omega (arith, room)), codes_run es bs m are.1 room)
  where
    aligned : (align : ℕ) (m : State) → align ≡ 1 → m.place ≤ length m.buf → Moves (aligns align) m m
    aligned align m one within = rw one (record {
      can = (omega arith, (let z = no_padding (position m) in omega (arith, z, within)));
      does = sym (ap (λ (n : ℕ). put (replicate n false) m) (no_padding (position m)) ∙ put_none m);
    })
codes_run (codes leaf x ∷ es) bs m are room =
    let front = are.0 in
    let back = are.1 in
    let whole : Room (length (front ++ back)) m = subst (λ (z : List Bool). Room (length z) m) are.2 room in
    let first : Room (num_length leaf x) m = subst (λ (n : ℕ). Room n m) (code-length Written leaf are.3 x front are.4) (room_first front back m whole) in
    let rest = codes_run es back (put front m) are.5 (room_more front back m whole) in
    (put front m, record { can = first; does = (front, are.4, refl) }, subst (λ (n : State). Run es (put front m) n) (put_more front back m whole ∙ ap (λ (z : List Bool). put z m) (sym are.2)) rest)
codes_run (_ ∷ es) bs m are room = absurd are

-- Pieces.

-- the piece of a run at an index
pub piece_at : (n : ℕ) (ss : List Step) (ps : List Piece) (i : ℕ) (p : Piece) → ArePieces n ss ps → i < length ps → p ≡ get_or ps i p → (s : Step) × (drop i ss ≡ s ∷ drop (i + 1) ss) × IsPieceOf (n + i) s p
piece_at n ss [] i p are h e = absurd (omega (arith, h))
piece_at n [] (q ∷ ps) i p are h e = absurd are
piece_at n (s ∷ ss) (q ∷ ps) zero p are h e = (s, refl, (let z : n + 0 ≡ n = omega arith in rw (z, e) are.0))
piece_at n (s ∷ ss) (q ∷ ps) (suc i) p are h e =
    let more = piece_at (n + 1) ss ps i p are.1 (omega (arith, h)) e in
    let z : n + 1 + i ≡ n + suc i = omega arith in
    let e : suc (i + 1) ≡ suc i + 1 = omega arith in
    (more.0, more.1 ∙ ap (λ (k : ℕ). more.0 ∷ drop k (s ∷ ss)) e, subst (λ (k : ℕ). IsPieceOf k more.0 p) z more.2)

pub step_at : (steps : List Step) (step i : ℕ) (s : Step) → drop i (drop step steps) ≡ s ∷ drop (i + 1) (drop step steps) → StepAt steps (step + i) s
step_at steps step i s h =
    let next : step + (i + 1) ≡ step + i + 1 = omega arith in
    sym (drop-drop i step steps) ∙ (h ∙ (ap (λ (ss : List Step). s ∷ ss) (drop-drop (i + 1) step steps) ∙ ap (λ (n : ℕ). s ∷ drop n steps) next))

-- fewer at the front
pub pieces_front : (n : ℕ) (ss : List Step) (ps : List Piece) (k : ℕ) → ArePieces n ss ps → ArePieces n ss (take k ps)
pieces_front n ss ps zero are = tt
pieces_front n ss [] (suc k) are = tt
pieces_front n [] (p ∷ ps) (suc k) are = absurd are
pieces_front n (s ∷ ss) (p ∷ ps) (suc k) are = (are.0, pieces_front (n + 1) ss ps k are.1)

pub total_front : (ps : List Piece) (k : ℕ) → total (take k ps) ≤ total ps
total_front ps zero = omega arith
total_front [] (suc k) = omega arith
total_front (p ∷ ps) (suc k) = (let e = total_front ps k in omega (arith, e))

-- the leaf of a number
leaf_in : (a : Act) (cut : Cut) → IsCutOf a cut → (leaf : NumLeaf) × (a ≡ acts.Num leaf) × IsCut cut leaf
leaf_in (acts.Num leaf) cut is = (leaf, refl, is)
leaf_in (acts.Octets sizing) cut is = absurd is
leaf_in (acts.Bits sizing) cut is = absurd is
leaf_in (acts.Text leaf) cut is = absurd is
leaf_in (acts.Seq home) cut is = absurd is
leaf_in (acts.List sizing) cut is = absurd is
leaf_in (acts.Choice cases) cut is = absurd is
leaf_in (acts.Contained sizing) cut is = absurd is

-- the place of the component behind a field
abbrev pub behind_of : (is_component : Bool) → ℕ → ℕ
behind_of true next = next + 1
behind_of false next = next

place_there : (ps : List (Option Value)) (next : ℕ) (p : Option Value) → slice_get ps next ≡ Some p → (next < length ps) × (p ≡ get_or ps next p)
place_there [] next p e = absurd (cc e)
place_there (q ∷ ps) zero p e = (omega arith, (let same : q ≡ p = cc e in sym same))
place_there (q ∷ ps) (suc next) p e = (let more = place_there ps next p e in (omega (arith, more), more.1))

pub number_within : (is_component : Bool) (ps : List (Option Value)) (next : ℕ) (x : ℤ) → next ≤ length ps → IsNumberAt is_component ps next x → behind_of is_component next ≤ length ps
number_within true ps next x h n = (let there = place_there ps next (Some n.0) n.1 in omega (arith, there))
number_within false ps next x h n = h

module _ (root : Grammar) where
  place_codes : (g : Grammar) (presence : Presence) (own : Option ℕ) (leaf : NumLeaf) (path : List ℕ) (v : Value) (x : ℤ) → g ≡ node 1 (num leaf) → presence ≡ Always → own ≡ None → x ≡ number_of (data_of v)
      → place_events root g presence own path (option_map data_of (Some v)) ≡ aligns 1 ∷ codes leaf x ∷ []
  place_codes g presence own leaf path v x is always none number = rw (is, always, none, number) refl

  -- a field that is always there and whose number is no slot's
  field_codes : (place : Place) (is_component : Bool) (g : Grammar) (leaf : NumLeaf) (fs : Fields) (path : List ℕ) (k : ℕ) (ps : List (Option Value)) (next : ℕ) (x : ℤ) → g ≡ node 1 (num leaf) → IsFree place is_component → IsNumberAt is_component ps next x
      → field_events root (with_field (field_by place g) fs) path k (places_view (drop next ps)) ≡ (aligns 1 ∷ codes leaf x ∷ []) ++ field_events root fs path (suc k) (places_view (drop (behind_of is_component next) ps))
  field_codes (places.Component name presence default own) is_component g leaf fs path k ps next x is free n =
      let number = subst (λ (b : Bool). IsNumberAt b ps next x) free.2 n in
      let there = place_there ps next (Some number.0) number.1 in
      component_events root (a_component name g presence default own) name g presence default own fs path k next (Some number.0) ps refl there.0 there.1
      ∙ (ap (λ (es : List Event). es ++ field_events root fs path (suc k) (places_view (drop (next + 1) ps))) (place_codes g presence own leaf (path ++ k ∷ []) number.0 x is free.0 free.1 number.2)
      ∙ ap (λ (b : Bool). (aligns 1 ∷ codes leaf x ∷ []) ++ field_events root fs path (suc k) (places_view (drop (behind_of b next) ps))) (sym free.2))
  field_codes (places.Inserted name slot) is_component g leaf fs path k ps next x is free n =
      let zero_number = subst (λ (b : Bool). IsNumberAt b ps next x) free.1 n in
      inserted_first root (an_inserted name g slot) name g slot fs path k next ps refl
      ∙ (ap (λ (es : List Event). es ++ field_events root fs path (suc k) (places_view (drop next ps))) (inserted_codes g slot is free.0 zero_number)
      ∙ ap (λ (b : Bool). (aligns 1 ∷ codes leaf x ∷ []) ++ field_events root fs path (suc k) (places_view (drop (behind_of b next) ps))) (sym free.1))
    where
      inserted_codes : (g : Grammar) (slot : Option ℕ) → g ≡ node 1 (num leaf) → slot ≡ None → x ≡ pos 0 → inserted_events slot g ≡ aligns 1 ∷ codes leaf x ∷ []
      inserted_codes g slot is none number = rw (is, none, number) refl
  field_codes places.Root is_component g leaf fs path k ps next x is free n = absurd free
  field_codes (places.Alternative name tests item) is_component g leaf fs path k ps next x is free n = absurd free
  field_codes places.Element is_component g leaf fs path k ps next x is free n = absurd free
  field_codes places.Content is_component g leaf fs path k ps next x is free n = absurd free

-- One field more.
module _ (steps : List Step) (step count end : ℕ) (s : Step) (p : Piece) (at : StepAt steps (step + count) s) (within : step + count < end) (piece : IsPieceOf (step + count) s p) where
  behind : step + count + 1 ≡ step + (count + 1)
  behind = omega arith

  field_first : fields_at steps (step + count) end ≡ with_field (field_by s.place (node_at steps (step + count))) (fields_at steps (step + (count + 1)) end)
  field_first =
      let next = piece.next in
      fields_more steps (step + count) end s at within (omega (arith, next)) ∙ ap (λ (k : ℕ). with_field (field_by s.place (node_at steps (step + count))) (fields_at steps k end)) (piece.next ∙ behind)

  pub gathers_more : (depth : ℕ) (ps : List (Option Value)) (next last : ℕ) (bs cs : List Bool) (x : ℤ) → FieldsAreSound (root_of steps) depth (fields_at steps step end) → ((leaf : NumLeaf) → IsCut p.cut leaf → Code Written leaf x cs) → IsNumberAt p.is_component ps last x
      → Gathers steps step count end ps next last bs → Gathers steps step (count + 1) end ps next (behind_of p.is_component last) (bs ++ cs)
  gathers_more depth ps next last bs cs x sound code number g =
      let root = root_of steps in
      let l = leaf_in s.act p.cut piece.cut in
      let leaf = l.0 in
      let n = node_at steps (step + count) in
      let rest = fields_at steps (step + (count + 1)) end in
      let is : n ≡ node 1 (num leaf) = node_of_number steps (step + count) s leaf at l.1 ∙ ap (λ (a : ℕ). node a (num leaf)) piece.align in
      let here = subst (λ (fs : Fields). FieldsAreSound root depth fs) field_first (g.sound depth sound) in
      let fine = leaf_is_fine root depth n 1 leaf is (head_sound root depth s.place n rest here) in
      let two = aligns 1 ∷ codes leaf x ∷ [] in
      record {
        events = λ path k.
            let old = g.events path k in
            let more = ap (λ (fs : Fields). field_events root fs path (k + count) (places_view (drop last ps))) field_first ∙ field_codes root s.place p.is_component n leaf rest path (k + count) ps last x is piece.free number in
            let index : suc (k + count) ≡ k + (count + 1) = omega arith in
            let left = left_from steps (step + (count + 1)) end path (k + (count + 1)) ps (behind_of p.is_component last) in
            let tail = more ∙ ap (λ (i : ℕ). two ++ field_events root rest path i (places_view (drop (behind_of p.is_component last) ps))) index in
            (old.0 ++ two, old.1 ∙ (ap (λ (es : List Event). old.0 ++ es) tail ∙ sym (append_assoc old.0 two left)), codes_more old.0 bs cs leaf x fine old.2 (code leaf l.2));
        sound = λ d h. rest_sound root d s.place n rest (subst (λ (fs : Fields). FieldsAreSound root d fs) field_first (g.sound d h));
      }

-- The word.

abbrev pub none_yet : (next : ℕ) → Word
none_yet next = record { bits = 0; width = 0; next = next }

pub word_none : (run : List Piece) (ps : List (Option Value)) (next : ℕ) → next ≤ length ps → IsWord run 0 ps next (none_yet next)
word_none run ps next h = record {
  few = omega arith;
  fits = omega arith;
  within = h;
  gathers = λ steps step end stands.
      let same : step + 0 ≡ step = omega arith in
      record {
        events = λ path k.
            let still : k + 0 ≡ k = omega arith in
            ([], ap (λ (i : ℕ). left_from steps i end path k ps next) (sym same) ∙ ap (λ (i : ℕ). left_from steps (step + 0) end path i ps next) (sym still), refl);
        sound = λ depth sound. subst (λ (i : ℕ). FieldsAreSound (root_of steps) depth (fields_at steps i end)) (sym same) sound;
      };
}

module _ (run : List Piece) (count : ℕ) (ps : List (Option Value)) (next : ℕ) (old new : Word) (p : Piece) (x : ℤ) (code : ℕ) (there : count < length run) (is : p ≡ get_or run count p) (word : IsWord run count ps next old)
    (number : IsNumberAt p.is_component ps old.next x) (fits : code < 2 ^ p.cut.width) (spelled : (leaf : NumLeaf) → IsCut p.cut leaf → Code Written leaf x (low_bits p.cut.width code)) (few : old.width + p.cut.width ≤ WORD_BITS)
    (width : new.width ≡ old.width + p.cut.width) (bits : new.bits ≡ old.bits * 2 ^ p.cut.width + code) (beyond : new.next ≡ behind_of p.is_component old.next) where
  joined : low_bits new.width new.bits ≡ low_bits old.width old.bits ++ low_bits p.cut.width code
  joined = ap (λ (n : ℕ). low_bits n new.bits) width ∙ (ap (low_bits (old.width + p.cut.width)) bits ∙ join_bits old.width p.cut.width old.bits code word.fits fits)

  more : (steps : List Step) (step end : ℕ) → Stands run steps step end → Gathers steps step (count + 1) end ps next new.next (low_bits new.width new.bits)
  more steps step end stands =
      let here = piece_at step (drop step steps) run count p stands.is.are there is in
      let at : StepAt steps (step + count) here.0 = step_at steps step count here.0 here.1 in
      let h = stands.within in
      let g = gathers_more steps step count end here.0 p at (omega (arith, h, there)) here.2 stands.depth ps next old.next (low_bits old.width old.bits) (low_bits p.cut.width code) x stands.sound spelled number (word.gathers steps step end stands) in
      subst (λ (n : ℕ). Gathers steps step (count + 1) end ps next n (low_bits new.width new.bits)) (sym beyond) (subst (λ (bs : List Bool). Gathers steps step (count + 1) end ps next (behind_of p.is_component old.next) bs) (sym joined) g)

  pub word_more : IsWord run (count + 1) ps next new
  word_more =
      let w = word.within in
      record {
        few = omega (arith, width, few);
        fits = rw (width, bits) (join_below old.width p.cut.width old.bits code word.fits fits);
        within = subst (λ (n : ℕ). n ≤ length ps) (sym beyond) (number_within p.is_component ps old.next x word.within number);
        gathers = more;
      }

-- The word is put.
pub run_put : {N S A : ℕ} (run : List Piece) (ps : List (Option Value)) (next : ℕ) (word : Word) (old new : Writer N S A) → IsWord run (length run) ps next word → Comes (λ path. puts word.width word.bits) old new → PutsRun run ps next word.next old new
run_put run ps next word old new is came = record {
  within = is.within;
  puts = λ steps step end stands path k.
      let g = (is.gathers steps step end stands).events path k in
      let bs = low_bits word.width word.bits in
      let moves = came.step path in
      let room : Room (length bs) (state_of old) = subst (λ (n : ℕ). Room n (state_of old)) (sym (length-low_bits word.width word.bits)) moves.can.2 in
      let runs = subst (λ (n : State). Run g.0 (state_of old) n) (sym moves.does) (codes_run g.0 bs (state_of old) g.2 room) in
      let whole = left_from steps step end path k ps next in
      let rest = left_from steps (step + length run) end path (k + length run) ps word.next in
      then_some whole g.0 rest old old new (left_as whole whole (g.0 ++ rest) old old g.1 (begin whole old)) (record { runs = runs; same_buffer = came.same_buffer });
  sound = λ steps step end stands depth sound. (is.gathers steps step end stands).sound depth sound;
}

-- nothing was written
pub stays_on : {N S A : ℕ} (whole rest : List Event) (m n o : Writer N S A) → GoesOn whole rest m n → Stays n o → GoesOn whole rest m o
stays_on {S = S} {A = A} whole rest m n o g s = record {
  runs = λ end r. g.runs end (subst (λ (x : State). Run rest x end) s.same_state r);
  stops = λ end h r. g.stops end h (subst (λ (x : State). Stops (class_of S A) rest x end h) s.same_state r);
  same_buffer = s.same_buffer ∙ g.same_buffer;
}

-- the run at the front
pub front_run : (n : ℕ) (ss : List Step) (run front : List Piece) (k : ℕ) → front ≡ take k run → IsRun n ss run → IsRun n ss front
front_run n ss run front k e is = (let few = is.few in let t = total_front run k in subst (λ (ps : List Piece). IsRun n ss ps) (sym e) (record { are = pieces_front n ss run k is.are; few = omega (arith, few, t) }))

-- The code of a number.
pub code_is : (cut : Cut) (leaf : NumLeaf) (x : ℤ) (ahead : ℕ) → IsCut cut leaf → x ≡ cut.low +ℤ pos ahead → ahead ≤ cut.span → Code Written leaf x (low_bits cut.width (cut.first + ahead))
code_is cut leaf x ahead is e within =
    let fits = is.fits in
    let below : cut.first + ahead < 2 ^ cut.width = omega (arith, fits, within) in
    let bs = low_bits cut.width (cut.first + ahead) in
    let spells : IsNumber cut.width (cut.first + ahead) bs = record { width = length-low_bits cut.width (cut.first + ahead); value = number-low_bits cut.width (cut.first + ahead) ∙ mod-eq_of_lt {n = cut.first + ahead} {m = 2 ^ cut.width} below } in
    subst (λ (z : ℤ). Code Written leaf z bs) (sym e) (is.codes Written ahead bs within spells)

-- what a loop takes where no piece is
abbrev pub no_piece : Piece
no_piece = record { cut = record { low = pos 0; first = 0; span = 0; width = 0 }; is_component = false; slot = None }

-- an item of a loop over a run
pub item_there : (run : List Piece) (i : ℕ) (d : Piece) → i < length run → slice_index_or run i d ≡ get_or run i (slice_index_or run i d)
item_there [] i d h = absurd (omega (arith, h))
item_there (p ∷ ps) zero d h = refl
item_there (p ∷ ps) (suc i) d h = item_there ps i d (omega (arith, h))

-- what the pieces from one on have together
pub total_next : (run : List Piece) (i : ℕ) (p : Piece) → i < length run → p ≡ get_or run i p → total (drop i run) ≡ p.cut.width + total (drop (i + 1) run)
total_next run i p h is = ap total (drop_more run i p h) ∙ ap (λ (q : Piece). q.cut.width + total (drop (i + 1) run)) (sym is)

-- a set bit behind others is worth so much
pub unit_is : (n : ℕ) → n < 64 → 1 * 2 ^ n % 18446744073709551616 ≡ 2 ^ n
unit_is n few =
    let room = pow-le-pow_right {n = 2} (omega arith) {i = n} {j = 63} (omega arith) in
    omega (arith, room)

-- joined codes are below what a word holds
pub join_fits : (w v a c : ℕ) → w + v ≤ 64 → a < 2 ^ w → c < 2 ^ v → a * 2 ^ v + c < 2 ^ 64
join_fits w v a c few h k =
    let below = join_below w v a c h k in
    let room = pow-le-pow_right {n = 2} (omega arith) {i = w + v} {j = 64} few in
    omega (arith, below, room)

-- A run that stands somewhere: each piece is a cut, and narrow, and behind the codes so far there is room for its own.
module _ (run : List Piece) (i : ℕ) (d : Piece) (stands : (steps : List Step) × (step : ℕ) × (end : ℕ) × Stands run steps step end) (there : i < length run) where
  pub piece_in : ((slice_index_or run i d).cut.width < WORD_BITS) × ((leaf : NumLeaf) × IsCut (slice_index_or run i d).cut leaf)
  piece_in =
      let here = piece_at stands.1 (drop stands.1 stands.0) run i (slice_index_or run i d) stands.3.is.are there (item_there run i d there) in
      let l = leaf_in here.0.act (slice_index_or run i d).cut here.2.cut in
      (here.2.narrow, (l.0, l.2))

  pub room_left : (word : Word) → word.width + total (drop i run) ≡ total run → word.width + (slice_index_or run i d).cut.width ≤ 64
  room_left word e =
      let next = total_next run i (slice_index_or run i d) there (item_there run i d there) in
      let few = stands.3.is.few in
      omega (arith, e, next, few)

-- what fits 128 bits with a sign
fits_between : (z : ℤ) → negsuc 170141183460469231731687303715884105727 ≤ℤ z → z <ℤ pos 170141183460469231731687303715884105728 → FitsSigned w128 z
fits_between (pos n) a b = record { sfits = omega (arith, ints, b) }
fits_between (negsuc n) a b = record { sfits = omega (arith, ints, a) }

fits_above : (z : ℤ) → FitsSigned w128 z → negsuc 170141183460469231731687303715884105727 ≤ℤ z
fits_above (pos n) f = omega (arith, ints)
fits_above (negsuc n) f = (let h = f.sfits in omega (arith, ints, h))

-- so far is a number from another where what wraps says so
pub ahead_is : (x low d : ℤ) (span : ℕ) (f : FitsSigned w128 x) (g : FitsSigned w128 low) → d ≡ int_wrapping_sub w128 x low → pos 0 ≤ℤ d → d ≤ℤ pos span → (low +ℤ pos span) <ℤ pos (2 ^ 64) → x ≡ low +ℤ pos (nat_abs d)
ahead_is x low d span f g e above below small =
    let bound = fits_above low g in
    let fits = fits_between (d +ℤ low) (omega (arith, ints, bound, above)) (omega (arith, ints, below, small)) in
    let apart : x ≡ (x -ℤ low) +ℤ low = omega (arith, ints) in
    let whole : d +ℤ low ≡ low +ℤ pos (nat_abs d) = omega (arith, ints, above) in
    sym (int_wrap_fits w128 x f) ∙ (ap (int_wrap w128) apart ∙ (sym (int_wrap-add_left w128 (x -ℤ low) low) ∙ (ap (λ (z : ℤ). int_wrap w128 (z +ℤ low)) (sym (wrapping_sub_is w128 x low f g) ∙ sym e) ∙ (int_wrap_fits w128 (d +ℤ low) fits ∙ whole))))

pub span_is : (d : ℤ) (span : ℕ) → pos 0 ≤ℤ d → d ≤ℤ pos span → nat_abs d ≤ span
span_is d span above below = omega (arith, ints, above, below)

-- what stands in a word fits it
pub shifted_fits : (w v a c unit : ℕ) → w + v ≤ 64 → a < 2 ^ w → c < 2 ^ v → unit ≡ 2 ^ v → (a * unit < 2 ^ 64) × (a * unit + c < 2 ^ 64)
shifted_fits w v a c unit few h k e = (let f = join_fits w v a c few h k in rw e (omega (arith, f), f))

-- one turn of the loop over a run
pub one_further : (run : List Piece) (i : ℕ) (d : Piece) (ps : List (Option Value)) (next : ℕ) (old new : Word) (x : ℤ) (code : ℕ) → ((steps : List Step) × (step : ℕ) × (end : ℕ) × Stands run steps step end) → i < length run
    → old.width + total (drop i run) ≡ total run → IsWord run i ps next old → IsNumberAt (slice_index_or run i d).is_component ps old.next x → code < 2 ^ (slice_index_or run i d).cut.width
    → ((leaf : NumLeaf) → IsCut (slice_index_or run i d).cut leaf → Code Written leaf x (low_bits (slice_index_or run i d).cut.width code))
    → new.width ≡ old.width + (slice_index_or run i d).cut.width → new.bits ≡ old.bits * (1 * 2 ^ (slice_index_or run i d).cut.width % 18446744073709551616) + code → new.next ≡ behind_of (slice_index_or run i d).is_component old.next
    → (new.width + total (drop (i + 1) run) ≡ total run) × IsWord run (i + 1) ps next new
one_further run i d ps next old new x code stands there width word number fits spelled w b n =
    let p = slice_index_or run i d in
    let item = item_there run i d there in
    let total' = total_next run i p there item in
    let unit = unit_is p.cut.width (piece_in run i d stands there).0 in (
      (let a = width in omega (arith, a, w, total')),
      word_more run i ps next old new p x code there item word number fits spelled (room_left run i d stands there old width) w (b ∙ ap (λ (u : ℕ). old.bits * u + code) unit) n,
    )

-- the code of the number 0 where that is the least one
pub zero_is : (cut : Cut) (leaf : NumLeaf) → cut.low ≡ pos 0 → IsCut cut leaf → Code Written leaf (pos 0) (low_bits cut.width cut.first)
zero_is cut leaf low is =
    let none : cut.first + 0 ≡ cut.first = omega arith in
    let here : pos 0 ≡ cut.low +ℤ pos 0 = omega (arith, ints, low) in
    subst (λ (n : ℕ). Code Written leaf (pos 0) (low_bits cut.width n)) none (code_is cut leaf (pos 0) 0 is here (omega arith))

pub first_fits : (cut : Cut) (leaf : NumLeaf) → IsCut cut leaf → cut.first < 2 ^ cut.width
first_fits cut leaf is = (let fits = is.fits in omega (arith, fits))

-- the number whose code is answered
pub told : (cut : Cut) (o : Option ℕ) (is_component : Bool) (ps : List (Option Value)) (next : ℕ) (x y : ℤ) → y ≡ x → IsNumberAt is_component ps next x → IfSome o (λ code. Codes cut y code) → IfSome o (λ code. (z : ℤ) × IsNumberAt is_component ps next z × Codes cut z code)
told cut None is_component ps next x y e n h = tt
told cut (Some code) is_component ps next x y e n h = (x, n, subst (λ (z : ℤ). Codes cut z code) e h)
