-- Fields that are read out of one word.
use Rattle.std.proofs.Common.{◌≡◌, ℕ, zero, suc, ◌+◌, ℤ, Bool, true, false, List, [], ◌∷◌, ◌++◌, ◌-◌, ◌<◌, ◌≤◌, length, take, drop, get_or, if◌then◌else◌, Option, Some, refl, sym, ap, subst, ◌∙◌, arith, append-nil, drop-drop, drop_of_length-le}
use Rattle.std.proofs.Math.Seq.{take-length}
use Rattle.std.proofs.lemmas.List.{drop_more, length-drop, length-take-le, take_more}
use Rattle.std.proofs.lemmas.Bool.{and_parts}
use Rattle.acn_num.specs.Bits.{number}
use Rattle.acn_bits.specs.Reading.{Reading, Reads, passed}
use Rattle.acn_bits.specs.declared.word.TheConstants.{WORD_BITS}
use Rattle.acn_cut.specs.Cuts.{IsCut}
use Rattle.acn_cut.specs.Stretches.{AreStretches, IsPieceOf, IsRun, IsStretch, IsStrip, total}
use Rattle.acn_cut.specs.declared.stretch.Stretch.{Stretch}
use Rattle.acn_cut.specs.declared.stretch.Piece.{Piece}
use Rattle.acn_cut.specs.declared.strip.Strip.{Strip}
use Rattle.acn_cut.proofs.Runs.{run_split, run_rest, stretch_at}
use Rattle.acn_grammar.specs.Code.{Any, Code}
use Rattle.acn_grammar.specs.Env.{Env}
use Rattle.acn_grammar.specs.Fails.{Here}
use Rattle.acn_grammar.specs.Grammar.{Grammar, Fields, node, num, no_fields, component, inserted}
use Rattle.acn_grammar.specs.ItemsNamed.{FieldsItemsNamed, items_named, fields_items_named}
use Rattle.acn_grammar.specs.Length.{number_of}
use Rattle.acn_grammar.specs.View.{field_of, fields_view}
use Rattle.acn_grammar.specs.declared.node.Field.{Field}
use Rattle.acn_grammar.specs.declared.node.NumLeaf.{NumLeaf}
use Rattle.acn_grammar.specs.declared.node.Presence.{Presence}
use Rattle.acn_grammar.specs.declared.node.Presence.TheVariants.{Always}
use Rattle.acn_reads.specs.Decoded.{NodeRead, Turn}
use Rattle.acn_reads.specs.Steps.{noted_by}
use Rattle.acn_reads.proofs.Loops.{head_named}
use Rattle.acn_reads.proofs.Nodes.{node_read, num_read}
use Rattle.acn_reads.proofs.SlotTurns.{code_read, component_read, inserted_read}
use Rattle.acn_reads.proofs.Small.{number_is}
use Rattle.acn_reads.proofs.Turns.{more_turns, no_turn}
use Rattle.acn_transcode.specs.Puts.{IsKept, IsNumber, LaysFields}
use Rattle.acn_transcode.specs.declared.draft.Draft.{Draft}
use Rattle.acn_transcode.specs.declared.draft.Part.TheVariants.{Number}
use Rattle.acn_transcode.proofs.Gaps.{no_padding}
use Rattle.acn_transcode.proofs.NumberTexts.{value_read, value_there}
use Rattle.acn_transcode.proofs.Walks.{more_laid, none_laid, number_shown, passed_laid, there_laid}

-- no field yet
pub none_read : (fs rest : Fields) (d : Draft) (a : Reading) → fs ≡ rest → LaysFields fs rest 0 d d a a
none_read fs rest d a e = subst (λ (x : Fields). LaysFields fs x 0 d d a a) e (λ root ready named fine. (
  [],
  λ here k flags. subst (λ (n : ℕ). Turn root here a.origin k n fs fs [] d.slots.items d.slots.items flags flags a a) (none k) (no_turn root here a.origin k fs d.slots.items flags a fine),
  none_laid fs d,
))
  where
    none : (k : ℕ) → k ≡ k + 0
    none k = omega arith

-- the items behind
named_behind : (fs rest : Fields) (ps : List Piece) → IsRun fs ps rest → FieldsItemsNamed fs → FieldsItemsNamed rest
named_behind fs rest [] r named = subst FieldsItemsNamed r named
named_behind no_fields rest (p ∷ ps) r named = absurd r
named_behind (component name g presence default slot fs) rest (p ∷ ps) r named = named_behind fs rest ps r.2 (and_parts (items_named g) (fields_items_named fs) named).1
named_behind (inserted name g slot fs) rest (p ∷ ps) r named = named_behind fs rest ps r.1 (and_parts (items_named g) (fields_items_named fs) named).1

-- some fields, and some more
pub more_read : (fs mid rest : Fields) (ps : List Piece) (n m : ℕ) (old between new : Draft) (a b c : Reading) → IsRun fs ps mid → LaysFields fs mid n old between a b → LaysFields mid rest m between new b c → LaysFields fs rest (n + m) old new a c
more_read fs mid rest ps n m old between new a b c run p q root ready named fine =
    let here : Here = record { path = []; place = 0; inside = false } in
    let first = p root ready named fine in
    let turn = first.1 here 0 [] in
    let onward = turn.known ready.0 ready.1 ready.2 in
    let second = q root (ready.0, ready.1, onward.stands) (named_behind fs mid ps run named) turn.fine in (
      first.0 ++ second.0,
      λ here k flags.
          let one = first.1 here k flags in
          subst (λ (x : ℕ). Turn root here a.origin k x fs rest (first.0 ++ second.0) old.slots.items new.slots.items flags flags a c) (both k)
          (more_turns root here a.origin b.origin k (k + n) (k + n + m) fs mid rest first.0 second.0 old.slots.items between.slots.items new.slots.items flags flags flags a b c one.window one (second.1 here (k + n) flags)),
      more_laid fs mid rest first.0 second.0 old between new first.2 second.2,
    )
  where
    both : (k : ℕ) → k + n + m ≡ k + (n + m)
    both k = omega arith

-- A component.

kept_part : (p : Piece) (x : ℤ) (old new : Draft) → p.is_component ≡ true → IsKept p x old new → new.parts.items ≡ old.parts.items ++ Number x ∷ []
kept_part p x old new is kept = kept.parts ∙ ap (λ (b : Bool). old.parts.items ++ (if b then Number x ∷ [] else [])) is

one_up : (k : ℕ) → suc k ≡ k + 1
one_up k = omega arith

always_read : (name : List ℕ) (align : ℕ) (leaf : NumLeaf) (default : Option (List ℕ)) (slot : Option ℕ) (fs : Fields) (p : Piece) (x : ℤ) (old new : Draft) (a b : Reading)
    → align ≡ 1 → p.is_component ≡ true → p.slot ≡ slot → Reads (Code Any leaf x) a b → IsKept p x old new → LaysFields (component name (node align (num leaf)) Always default slot fs) fs 1 old new a b
always_read name align leaf default slot fs p x old new a b aligned is own read kept root ready named fine =
    let g = node align (num leaf) in
    let all = component name g Always default slot fs in
    let st = ready.2 in
    let leaf_fine = st.is.3.2 in
    let named_leaf = (and_parts (items_named g) (fields_items_named fs) named).0 in
    let permitted = read.holds.permitted in
    let v = value_there leaf x leaf_fine named_leaf permitted in
    let slots = old.slots.items in
    let code = num_read root leaf v.0 slots a b fine (value_read leaf v.0 x a b v.1 read) in
    let whole : NodeRead root g v.0 slots slots a b = node_read root align (num leaf) v.0 slots slots a a b (no_padding align a aligned) code in
    let noted : noted_by slot (number_of v.0) slots ≡ new.slots.items = ap (λ y. noted_by slot y slots) (number_is leaf.kind v.0 x v.1) ∙ (ap (λ s. noted_by s x slots) (sym own) ∙ sym kept.slots) in
    let number : IsNumber g x v.0 = (leaf_fine, named_leaf, permitted, v.1) in (
      Some v.0 ∷ [],
      λ here k flags.
          subst (λ (n : ℕ). Turn root here a.origin k n all fs (Some v.0 ∷ []) slots new.slots.items flags flags a b) (one_up k)
          (subst (λ (t : Env). Turn root here a.origin k (suc k) all fs (Some v.0 ∷ []) slots t flags flags a b) noted
          (component_read root here a.origin k name g Always default slot fs fs v.0 slots slots flags flags a b ready.0 ready.1 st named_leaf refl (λ env f. tt) whole)),
      there_laid name g Always default slot fs v.0 (Number x) old old new (number_shown align leaf x v.0 old old number refl refl refl) kept.text kept.aside (kept_part p x old new is kept),
    )

component_laid : (name : List ℕ) (g : Grammar) (presence : Presence) (default : Option (List ℕ)) (slot : Option ℕ) (fs : Fields) (p : Piece) (x : ℤ) (old new : Draft) (a b : Reading)
    → presence ≡ Always → IsPieceOf g true slot p → ((leaf : NumLeaf) → IsCut p.cut leaf → Reads (Code Any leaf x) a b) → IsKept p x old new → LaysFields (component name g presence default slot fs) fs 1 old new a b
component_laid name (node align (num leaf)) presence default slot fs p x old new a b always is read kept =
    subst (λ (y : Presence). LaysFields (component name (node align (num leaf)) y default slot fs) fs 1 old new a b) (sym always) (always_read name align leaf default slot fs p x old new a b is.0 is.3 is.4 (read leaf is.2) kept)
component_laid name (node align _) presence default slot fs p x old new a b always is read kept = absurd is

-- A field that is inserted.

nothing_kept : (p : Piece) (x : ℤ) (old new : Draft) → p.is_component ≡ false → IsKept p x old new → new.parts.items ≡ old.parts.items
nothing_kept p x old new is kept = kept.parts ∙ (ap (λ (b : Bool). old.parts.items ++ (if b then Number x ∷ [] else [])) is ∙ append-nil old.parts.items)

inserted_laid : (name : List ℕ) (g : Grammar) (slot : Option ℕ) (fs : Fields) (p : Piece) (x : ℤ) (old new : Draft) (a b : Reading)
    → IsPieceOf g false slot p → ((leaf : NumLeaf) → IsCut p.cut leaf → Reads (Code Any leaf x) a b) → IsKept p x old new → LaysFields (inserted name g slot fs) fs 1 old new a b
inserted_laid name (node align (num leaf)) slot fs p x old new a b is read kept root ready named fine =
    let g = node align (num leaf) in
    let all = inserted name g slot fs in
    let slots = old.slots.items in
    let named_leaf = (and_parts (items_named g) (fields_items_named fs) named).0 in
    let code = code_read align leaf x a a b (no_padding align a is.0) (read leaf is.2) in
    let noted : noted_by slot x slots ≡ new.slots.items = ap (λ s. noted_by s x slots) (sym is.4) ∙ sym kept.slots in (
      [],
      λ here k flags.
          subst (λ (n : ℕ). Turn root here a.origin k n all fs [] slots new.slots.items flags flags a b) (one_up k)
          (subst (λ (t : Env). Turn root here a.origin k (suc k) all fs [] slots t flags flags a b) noted
          (inserted_read root here a.origin k name align leaf slot x fs fs slots flags a b ready.0 ready.1 ready.2 named_leaf fine code)),
      passed_laid name g slot fs old new (record { added = kept.text ∙ sym (append-nil _); aside = kept.aside; parts = nothing_kept p x old new is.3 kept }),
    )
inserted_laid name (node align _) slot fs p x old new a b is read kept root ready named fine = absurd is

-- the field of one piece
pub piece_laid : (fs rest : Fields) (p : Piece) (x : ℤ) (old new : Draft) (a b : Reading) → IsRun fs (p ∷ []) rest → ((leaf : NumLeaf) → IsCut p.cut leaf → Reads (Code Any leaf x) a b) → IsKept p x old new → LaysFields fs rest 1 old new a b
piece_laid no_fields rest p x old new a b r read kept = absurd r
piece_laid (component name g presence default slot fs) rest p x old new a b r read kept =
    subst (λ (y : Fields). LaysFields (component name g presence default slot fs) y 1 old new a b) r.2 (component_laid name g presence default slot fs p x old new a b r.0 r.1 read kept)
piece_laid (inserted name g slot fs) rest p x old new a b r read kept =
    subst (λ (y : Fields). LaysFields (inserted name g slot fs) y 1 old new a b) r.1 (inserted_laid name g slot fs p x old new a b r.0 read kept)

-- of the same number
pub kept_same : (p : Piece) (x y : ℤ) (old new : Draft) → x ≡ y → IsKept p x old new → IsKept p y old new
kept_same p x y old new e kept = subst (λ (z : ℤ). IsKept p z old new) e kept

-- The pieces of a stretch.

any_default : {A : Type 0} (xs : List A) (i : ℕ) (d e : A) → i < length xs → get_or xs i d ≡ get_or xs i e
any_default [] i d e h = absurd (omega (arith, h))
any_default (x ∷ xs) zero d e h = refl
any_default (x ∷ xs) (suc i) d e h = any_default xs i d e (omega (arith, h))

-- the item of a number, by itself
pub item_there : {A : Type 0} (items xs : List A) (i : ℕ) (d : A) → items ≡ xs → i < length items → get_or items i d ≡ get_or xs i (get_or items i d)
item_there items xs i d same h = any_default items i d (get_or items i d) h ∙ ap (λ x. get_or x i (get_or items i d)) same

abbrev HasCut : Piece → Type 0
HasCut p = (0 < p.cut.width) × ((leaf : NumLeaf) × IsCut p.cut leaf)

cut_there : (g : Grammar) (is_component : Bool) (slot : Option ℕ) (p : Piece) → IsPieceOf g is_component slot p → HasCut p
cut_there (node align (num leaf)) is_component slot p h = (h.1, (leaf, h.2))
cut_there (node align _) is_component slot p h = absurd h

-- each has a cut
pub piece_there : (fs rest : Fields) (ps : List Piece) (i : ℕ) (p : Piece) → IsRun fs ps rest → i < length ps → p ≡ get_or ps i p → HasCut p
piece_there fs rest [] i p r h e = absurd (omega (arith, h))
piece_there no_fields rest (q ∷ ps) i p r h e = absurd r
piece_there (component name g presence default slot fs) rest (q ∷ ps) zero p r h e = subst HasCut (sym e) (cut_there g true slot q r.1)
piece_there (inserted name g slot fs) rest (q ∷ ps) zero p r h e = subst HasCut (sym e) (cut_there g false slot q r.0)
piece_there (component name g presence default slot fs) rest (q ∷ ps) (suc i) p r h e = piece_there fs rest ps i p r.2 (omega (arith, h)) e
piece_there (inserted name g slot fs) rest (q ∷ ps) (suc i) p r h e = piece_there fs rest ps i p r.1 (omega (arith, h)) e

-- the bits of a piece and of those behind it
pub total_from : (ps : List Piece) (i : ℕ) (p : Piece) → i < length ps → p ≡ get_or ps i p → total (drop i ps) ≡ p.cut.width + total (drop (i + 1) ps)
total_from ps i p h e = rw (drop_more ps i p h, ← e) refl

-- so many bits further, and then so many
pub passed_twice : (w n left : ℕ) (a : Reading) → w ≤ n → left ≡ n - w → passed n a ≡ passed left (passed w a)
passed_twice w n left a h e =
    let both : n ≡ w + left = omega (arith, h, e) in
    let place : a.at + n ≡ a.at + w + left = omega (arith, both) in
    let bits : drop n a.rest ≡ drop left (drop w a.rest) = ap (λ k. drop k a.rest) both ∙ sym (drop-drop left w a.rest) in
    subst (λ (xs : List Bool). passed n a ≡ record { rest = xs; at = a.at + w + left; origin = a.origin }) bits
    (subst (λ (k : ℕ). passed n a ≡ record { rest = drop n a.rest; at = k; origin = a.origin }) place refl)

passed_none : (a : Reading) → passed 0 a ≡ a
passed_none a = subst (λ (k : ℕ). record { rest = a.rest; at = a.at + 0; origin = a.origin } ≡ record { rest = a.rest; at = k; origin = a.origin }) none refl
  where
    none : a.at + 0 ≡ a.at
    none = omega arith

-- What is known on the way through a stretch, at its piece of a number: where the bits stand that are left.
pub record IsOnTheWay (ps : List Piece) (i : ℕ) (strip : Strip) (old new : Draft) (a b : Reading) : Type 0 where
  pub at : Reading
  pub next : IsStrip strip at
  pub behind : b ≡ passed strip.left at
  pub few : strip.left ≤ WORD_BITS
  pub left : strip.left ≡ total (drop i ps)
  pub laid : (fs mid : Fields) → IsRun fs (take i ps) mid → LaysFields fs mid i old new a at

-- at the first
pub begun : (ps : List Piece) (word width : ℕ) (d : Draft) (a b : Reading) → word ≡ number (take width a.rest) → width ≤ length a.rest → b ≡ passed width a → width ≤ WORD_BITS → width ≡ total ps → IsOnTheWay ps 0 (record { word = word; left = width }) d d a b
begun ps word width d a b is within moved few all = record {
  at = a;
  next = record { within = within; spells = record { width = length-take-le width a.rest within; value = sym is } };
  behind = moved;
  few = few;
  left = all;
  laid = λ fs mid r. none_read fs mid d a r;
}

-- and at the next
pub one_further : (ps : List Piece) (i : ℕ) (p : Piece) (x : ℤ) (strip strip' : Strip) (old mid new : Draft) (a b : Reading) → i < length ps → p ≡ get_or ps i p → IsOnTheWay ps i strip old mid a b → strip'.left ≡ strip.left - p.cut.width
    → ((leaf : NumLeaf) → IsCut p.cut leaf → (at : Reading) → IsStrip strip at → Reads (Code Any leaf x) at (passed p.cut.width at)) → ((at : Reading) → IsStrip strip at → IsStrip strip' (passed p.cut.width at)) → IsKept p x mid new → IsOnTheWay ps (i + 1) strip' old new a b
one_further ps i p x strip strip' old mid new a b h e way left read rest kept =
    let w = p.cut.width in
    let at = way.at in
    let sum = way.left ∙ total_from ps i p h e in
    let room : w ≤ strip.left = omega (arith, sum) in
    let few = way.few in
    record {
      at = passed w at;
      next = rest at way.next;
      behind = way.behind ∙ passed_twice w strip.left strip'.left at room left;
      few = omega (arith, few, left);
      left = omega (arith, left, sum);
      laid = λ fs end r.
          let s = run_split fs end (take i ps) p (subst (λ (x : List Piece). IsRun fs x end) (take_more ps i p h ∙ ap (λ q. take i ps ++ q ∷ []) (sym e)) r) in
          more_read fs s.0 end (take i ps) i 1 old mid new a at (passed w at) s.1 (way.laid fs s.0 s.1) (piece_laid s.0 end p x mid new at (passed w at) s.2 (λ leaf is. read leaf is at way.next) kept);
    }

-- at the end
pub whole_read : (ps : List Piece) (i : ℕ) (strip : Strip) (old new : Draft) (a b : Reading) (fs rest : Fields) → length ps ≤ i → i ≤ length ps → IsOnTheWay ps i strip old new a b → IsRun fs ps rest → LaysFields fs rest (length ps) old new a b
whole_read ps i strip old new a b fs rest past within way r =
    let none : strip.left ≡ 0 = way.left ∙ ap total (drop_of_length-le ps past) in
    let end : way.at ≡ b = sym (passed_none way.at) ∙ (ap (λ n. passed n way.at) (sym none) ∙ sym way.behind) in
    let count : i ≡ length ps = omega (arith, past, within) in
    let all : take i ps ≡ ps = ap (λ n. take n ps) count ∙ take-length ps in
    subst (λ (c : Reading). LaysFields fs rest (length ps) old new a c) end
    (subst (λ (n : ℕ). LaysFields fs rest n old new a way.at) count (way.laid fs rest (subst (λ (x : List Piece). IsRun fs x rest) (sym all) r)))

-- The fields behind.

pub named_from : (fs : List Field) (i : ℕ) → FieldsItemsNamed (fields_view fs) → FieldsItemsNamed (fields_view (drop i fs))
named_from fs zero h = h
named_from [] (suc i) h = h
named_from (x ∷ xs) (suc i) h = named_from xs i (head_named (field_of x) (fields_view xs) h).1

-- where a stretch ends
pub stretch_end : (fs : List Field) (k count : ℕ) (ps : List Piece) (rest : Fields) → k ≤ length fs → count ≡ length ps → IsRun (fields_view (drop k fs)) ps rest → (k + count ≤ length fs) × (rest ≡ fields_view (drop (k + count) fs))
stretch_end fs k count ps rest h same r =
    let e = run_rest (drop k fs) ps rest r in
    let few = e.0 in
    let long = length-drop k fs in (
      omega (arith, few, long, h, same),
      sym e.1 ∙ (ap fields_view (drop-drop (length ps) k fs) ∙ ap (λ n. fields_view (drop (k + n) fs)) (sym same)),
    )

-- the first stretch, where it has as many pieces as there are fields
pub whole_stretch : (fs : List Field) (ss : List Stretch) (s : Stretch) → AreStretches (fields_view fs) ss → 0 < length ss → s ≡ get_or ss 0 s → 0 < length s.pieces → length s.pieces ≡ length fs → IsStretch (fields_view fs) s no_fields
whole_stretch fs ss s all some is more same =
    let r = stretch_at fs ss 0 s all (omega (arith, more, same)) some is in
    let e = run_rest fs s.pieces r.0 r.1.run in
    let past : drop (length s.pieces) fs ≡ [] = drop_of_length-le fs (omega (arith, same)) in
    let none : r.0 ≡ no_fields = sym e.1 ∙ ap (λ (x : List Field). fields_view x) past in
    subst (λ (x : Fields). IsStretch (fields_view fs) s x) none r.1
