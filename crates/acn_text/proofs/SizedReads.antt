-- Texts behind their sizes.
use Rattle.std.proofs.Common.{◌≡◌, ℕ, zero, suc, ◌+◌, ◌-◌, ◌*◌, ◌^◌, ◌<◌, ◌≤◌, pos, Bool, List, [], ◌∷◌, ◌++◌, length, take, drop, Option, Some, None, refl, sym, ap, ◌∙◌, subst, arith, append_assoc, length-append, append-nil}
use Rattle.std.proofs.lemmas.List.{length-take-le}
use Rattle.std.proofs.Math.Seq.{take-add, take-append-add}
use Rattle.std.proofs.Math.Nat.{mul-le-mul_left}
use Rattle.acn_num.specs.Bits.{number}
use Rattle.acn_num.specs.Ranges.{In}
use Rattle.acn_bits.specs.Reading.{Reading, passed, Reads, Stays}
use Rattle.acn_grammar.specs.Env.{Env}
use Rattle.acn_grammar.specs.Fails.{Here, RuleFails, NoText, TextFails, prefix_cut, prefix_not_permitted, characters_cut, characters_not_permitted, fails_at_size, fails_behind_size}
use Rattle.acn_grammar.specs.LeafFails.{Reason, short, size_out_of_range, bad_character}
use Rattle.acn_grammar.specs.Spell.{RulePart, SizePart, CharactersPart, EndedPart, character_number}
use Rattle.acn_grammar.specs.declared.node.SizeRule.{SizeRule}
use Rattle.acn_grammar.specs.declared.node.SizeRule.TheVariants.{Prefix, Slot, Ended}
use Rattle.acn_grammar.specs.declared.node.Sizing.{Sizing}
use Rattle.acn_grammar.specs.declared.node.TextLeaf.{TextLeaf}
use Rattle.acn_grammar.proofs.Prefix.{same_front}
use Rattle.acn_text.specs.Texts.{SlotSays, SizeCode, TextCode, PassedText, NoTextAt, fault_here}
use Rattle.acn_text.specs.Steps.{SizeTaken, SizeMissing, NoSizeAt, IsCharacter, NoCharacter, PassedCharacters, NoCharactersAt}
use Rattle.acn_text.proofs.Places.{character_below, some_character}
use Rattle.acn_grammar.proofs.Characters.{characters_long}
use Rattle.acn_grammar.proofs.TextRules.{TextRules}
use Rattle.acn_bits.proofs.Readings.{reads_passed, reads_nothing, reads_join, reads_stay}

-- Sizes.

some_same : {a b : ℕ} → ◌≡◌ {A = Option ℕ} (Some a) (Some b) → a ≡ b
some_same e = cc

rule_read : (rule : SizeRule) (given : Option ℕ) (old new : Reading) (n : ℕ) → SizeTaken rule given old new n → Reads (λ bs. (env : Env) (at : ℕ) → SlotSays rule given env → RulePart rule env n at bs) old new
rule_read (Prefix low width) given old new n t =
    let is = t.1 in
    reads_passed (λ bs. (env : Env) (at : ℕ) → SlotSays (Prefix low width) given env → RulePart (Prefix low width) env n at bs) width old new t.0 t.2
    (λ env at s. record { given = omega (arith, is); spelled = record { width = length-take-le width old.rest t.0; value = omega (arith, is) } })
rule_read (Slot s) given old new n t =
    reads_nothing (λ bs. (env : Env) (at : ℕ) → SlotSays (Slot s) given env → RulePart (Slot s) env n at bs) old new t.1
    (λ env at h. (h.2 ∙ ap (λ k. Some (pos k)) (some_same (sym h.1 ∙ t.0)), refl))
rule_read (Ended p) given old new n t = absurd t

pub size_read : (sizing : Sizing) (given : Option ℕ) (old new : Reading) (n : ℕ) → In sizing.sizes (pos n) → SizeTaken sizing.rule given old new n → Reads (SizeCode sizing given n) old new
size_read sizing given old new n p t =
    let r = rule_read sizing.rule given old new n t in
    record { front = r.front; split = r.split; moved = r.moved; window = r.window; holds = λ env at s. record { given = p; spelled = r.holds env at s } }

pub size_stays : (sizing : Sizing) (given : Option ℕ) (old new : Reading) (n : ℕ) → SizeTaken sizing.rule given old new n → Stays old new
size_stays sizing given old new n t = reads_stay _ old new (rule_read sizing.rule given old new n t)

pub size_refused : (sizing : Sizing) (given : Option ℕ) (old new : Reading) (n : ℕ) → (In sizing.sizes (pos n) → ⊥) → SizeTaken sizing.rule given old new n → NoSizeAt sizing given old.rest (size_out_of_range n)
size_refused sizing given old new n out t =
    let r = by sizing.rule t in
    record { reach = r.0; fails = r.1 }
  where
    by : (rule : SizeRule) → SizeTaken rule given old new n → (reach : ℕ) × ((here : Here) (env : Env) (at : ℕ) → SlotSays rule given env → RuleFails here sizing rule env at old.rest (fault_here here (size_out_of_range n)) reach)
    by (Prefix low width) u = (width, λ here env at s. prefix_not_permitted (u.0, (λ p. out (subst (λ (k : ℕ). In sizing.sizes (pos k)) (sym u.1) p)), ap (λ k. fault_here here (size_out_of_range k)) u.1, refl))
    by (Slot s) u = (0, λ here env at h. record { number = pos n; stands = h.2 ∙ ap (λ k. Some (pos k)) (some_same (sym h.1 ∙ u.0)); refused = out; says = refl; reaches = refl })
    by (Ended p) u = absurd u

pub size_missing : (sizing : Sizing) (given : Option ℕ) (old : Reading) → SizeMissing sizing.rule old → NoSizeAt sizing given old.rest short
size_missing sizing given old t =
    let r = by sizing.rule t in
    record { reach = r.0; fails = r.1 }
  where
    by : (rule : SizeRule) → SizeMissing rule old → (reach : ℕ) × ((here : Here) (env : Env) (at : ℕ) → SlotSays rule given env → RuleFails here sizing rule env at old.rest (fault_here here short) reach)
    by (Prefix low width) u = (length old.rest, λ here env at s. prefix_cut (u, refl, refl))
    by (Slot s) u = absurd u
    by (Ended p) u = absurd u

-- Characters.

abbrev pub CharactersCode : TextLeaf → List ℕ → List Bool → Type 0
CharactersCode leaf cs bs = (at : ℕ) → CharactersPart leaf cs at bs

-- characters up to a place
pub record UptoCharacter (leaf : TextLeaf) (Gives : List ℕ → Type 0) (old now : Reading) (n i : ℕ) : Type 0 where
  pub text : List ℕ
  pub size : length text ≡ i
  pub gives : Gives text
  pub read : Reads (CharactersCode leaf text) old now
  pub room : leaf.width * n ≤ length old.rest

pub no_characters : (leaf : TextLeaf) (Gives : List ℕ → Type 0) (old : Reading) (n : ℕ) → Gives [] → leaf.width * n ≤ length old.rest → UptoCharacter leaf Gives old old n 0
no_characters leaf Gives old n g room = record { text = []; size = refl; gives = g; read = reads_nothing (CharactersCode leaf []) old old refl (λ at. refl); room = room }

left_over : (leaf : TextLeaf) (Gives : List ℕ → Type 0) (old now : Reading) (n i : ℕ) → UptoCharacter leaf Gives old now n i → length old.rest ≡ leaf.width * i + length now.rest
left_over leaf Gives old now n i u =
    let l = ap length u.read.split ∙ length-append u.read.front now.rest in
    let f : length u.read.front ≡ leaf.width * i = characters_long leaf u.text 0 u.read.front (u.read.holds 0) ∙ ap (λ k. leaf.width * k) u.size in
    omega (arith, l, f)

times_more : (w i n : ℕ) → i < n → w * i + w ≤ w * n
times_more w i n h = let m = mul-le-mul_left {m = i + 1} {n = n} w (omega arith) in let e : w * (i + 1) ≡ w * i + w = omega arith in omega (arith, m, e)

pub room_for_one : (leaf : TextLeaf) (Gives : List ℕ → Type 0) (old now : Reading) (n i : ℕ) → i < n → UptoCharacter leaf Gives old now n i → leaf.width ≤ length now.rest
room_for_one leaf Gives old now n i h u =
    let l = left_over leaf Gives old now n i u in
    let t = times_more leaf.width i n h in
    let r = u.room in
    omega (arith, l, t, r)

characters-append : (leaf : TextLeaf) (cs : List ℕ) (c at : ℕ) (a b : List Bool) → CharactersPart leaf cs at a → In leaf.alphabet (pos c) → length b ≡ leaf.width → number b ≡ character_number leaf c → CharactersPart leaf (cs ++ c ∷ []) at (a ++ b)
characters-append leaf [] c at a b t p l v = record { front = b; back = []; whole = ap (λ x. x ++ b) t ∙ sym (append-nil b); first = record { given = p; spelled = record { width = l; value = v } }; second = refl }
characters-append leaf (d ∷ cs) c at a b t p l v = record {
  front = t.front;
  back = t.back ++ b;
  whole = ap (λ x. x ++ b) t.whole ∙ append_assoc t.front t.back b;
  first = t.first;
  second = characters-append leaf cs c (at + length t.front) t.back b t.second p l v;
}

pub one_character : (leaf : TextLeaf) (Gives More : List ℕ → Type 0) (old now new : Reading) (n i c : ℕ) → i < n → UptoCharacter leaf Gives old now n i → IsCharacter leaf c (number (take leaf.width now.rest)) → new ≡ passed leaf.width now
    → ((cs : List ℕ) → Gives cs → More (cs ++ c ∷ [])) → UptoCharacter leaf More old new n (i + 1)
one_character leaf Gives More old now new n i c h u is moved more =
    let room = room_for_one leaf Gives old now n i h u in
    let one : Reads (λ bs. (length bs ≡ leaf.width) × (number bs ≡ character_number leaf c)) now new = reads_passed (λ bs. (length bs ≡ leaf.width) × (number bs ≡ character_number leaf c)) leaf.width now new room moved (length-take-le leaf.width now.rest room, sym is.1) in
    record {
      text = u.text ++ c ∷ [];
      size = length-append u.text (c ∷ []) ∙ ap (λ k. k + 1) u.size;
      gives = more u.text u.gives;
      read = reads_join (CharactersCode leaf u.text) (λ bs. (length bs ≡ leaf.width) × (number bs ≡ character_number leaf c)) (CharactersCode leaf (u.text ++ c ∷ [])) old now new (λ x y p q at. characters-append leaf u.text c at x y (p at) is.0 q.0 q.1) u.read one;
      room = u.room;
    }

-- a number that no character has can't be read
unreadable : (leaf : TextLeaf) (cs ds : List ℕ) (at at' : ℕ) (a bad more bs : List Bool) → 0 < leaf.width → length bad ≡ leaf.width → NoCharacter leaf (number bad) → CharactersPart leaf cs at a → CharactersPart leaf ds at' bs → bs ≡ a ++ (bad ++ more) → ⊥
unreadable leaf [] [] at at' a bad more bs some l no_one p q e = let n = ap length e in let x = length-append a (bad ++ more) in let y = length-append bad more in let z = ap length q in omega (arith, n, x, y, z, some, l)
unreadable leaf [] (d ∷ ds) at at' a bad more bs some l no_one p q e =
    let whole : q.front ++ q.back ≡ bad ++ more = sym q.whole ∙ (e ∙ ap (λ t. t ++ (bad ++ more)) p) in
    let s = same_front q.front bad q.back more (q.first.spelled.width ∙ sym l) whole in
    no_one d q.first.given (sym q.first.spelled.value ∙ ap number s.0)
unreadable leaf (c ∷ cs) [] at at' a bad more bs some l no_one p q e = let n = ap length e in let x = length-append a (bad ++ more) in let y = length-append bad more in let z = ap length q in omega (arith, n, x, y, z, some, l)
unreadable leaf (c ∷ cs) (d ∷ ds) at at' a bad more bs some l no_one p q e =
    let whole : q.front ++ q.back ≡ p.front ++ (p.back ++ (bad ++ more)) = sym q.whole ∙ (e ∙ (ap (λ t. t ++ (bad ++ more)) p.whole ∙ append_assoc p.front p.back (bad ++ more))) in
    let s = same_front q.front p.front q.back (p.back ++ (bad ++ more)) (q.first.spelled.width ∙ sym p.first.spelled.width) whole in
    unreadable leaf cs ds (at + length p.front) (at' + length q.front) p.back bad more q.back some l no_one p.second q.second s.1

pub bad_at : (leaf : TextLeaf) (Gives : List ℕ → Type 0) (old now : Reading) (n i : ℕ) → TextRules leaf → i < n → UptoCharacter leaf Gives old now n i → NoCharacter leaf (number (take leaf.width now.rest)) → NoCharactersAt leaf n old.rest bad_character
bad_at leaf Gives old now n i f h u none = record {
  reach = leaf.width * n;
  fails = λ here at. characters_not_permitted (u.room, no_text, refl, refl);
}
  where
    room : leaf.width ≤ length now.rest
    room = room_for_one leaf Gives old now n i h u

    wide : 0 < leaf.width
    wide = by leaf.width refl
      where
        by : (w : ℕ) → leaf.width ≡ w → 0 < leaf.width
        by zero e =
            let c = some_character leaf f in
            let b : character_number leaf c.0 < 2 ^ 0 = subst (λ (k : ℕ). character_number leaf c.0 < 2 ^ k) e (character_below leaf f c.0 c.1) in
            let z : character_number leaf c.0 ≡ 0 = omega (arith, b) in
            let v : number (take leaf.width now.rest) ≡ 0 = ap (λ (k : ℕ). number (take k now.rest)) e in
            absurd (none c.0 c.1 (z ∙ sym v))
        by (suc w) e = omega (arith, e)

    -- what is left of the characters
    rest_is : (k : ℕ) × (leaf.width * n ≡ length u.read.front + (leaf.width + k))
    rest_is =
        let g : length u.read.front ≡ leaf.width * i = characters_long leaf u.text 0 u.read.front (u.read.holds 0) ∙ ap (λ k. leaf.width * k) u.size in
        let t = times_more leaf.width i n h in
        (leaf.width * n - (leaf.width * i + leaf.width), omega (arith, g, t))

    cut : take (leaf.width * n) old.rest ≡ u.read.front ++ (take leaf.width now.rest ++ take rest_is.0 (drop leaf.width now.rest))
    cut = ap (λ k. take k old.rest) rest_is.1 ∙ (ap (take (length u.read.front + (leaf.width + rest_is.0))) u.read.split ∙ (take-append-add u.read.front now.rest (leaf.width + rest_is.0) ∙ ap (λ t. u.read.front ++ t) (take-add leaf.width rest_is.0 now.rest)))

    no_text : NoText leaf (take (leaf.width * n) old.rest)
    no_text cs at t = unreadable leaf u.text cs 0 at u.read.front (take leaf.width now.rest) (take rest_is.0 (drop leaf.width now.rest)) (take (leaf.width * n) old.rest) wide (length-take-le leaf.width now.rest room) none (u.read.holds 0) t cut

pub too_few : (leaf : TextLeaf) (rest : List Bool) (n : ℕ) → length rest < leaf.width * n → NoCharactersAt leaf n rest short
too_few leaf rest n h = record { reach = length rest; fails = λ here at. characters_cut (h, refl, refl) }

pub all_passed : (leaf : TextLeaf) (Gives : List ℕ → Type 0) (old now : Reading) (n i : ℕ) → i ≡ n → UptoCharacter leaf Gives old now n i → PassedCharacters leaf Gives old now n
all_passed leaf Gives old now n i e u = record { text = u.text; size = u.size ∙ e; gives = u.gives; read = u.read }

-- Whole texts.

pub size_wrong : (leaf : TextLeaf) (given : Option ℕ) (rest : List Bool) (r : Reason) → leaf.ended ≡ None → NoSizeAt leaf.sized given rest r → NoTextAt leaf given rest r
size_wrong leaf given rest r is s = record {
  reach = s.reach;
  fails = λ here env at says. subst (λ (o : Option (List Bool)). TextFails here o leaf env at rest (fault_here here r) s.reach) (sym is) (fails_at_size (s.fails here env at says));
}

pub characters_wrong : (leaf : TextLeaf) (given : Option ℕ) (old mid : Reading) (n : ℕ) (r : Reason) → leaf.ended ≡ None → Reads (SizeCode leaf.sized given n) old mid → NoCharactersAt leaf n mid.rest r → NoTextAt leaf given old.rest r
characters_wrong leaf given old mid n r is p c = record {
  reach = length p.front + c.reach;
  fails = λ here env at says. subst (λ (o : Option (List Bool)). TextFails here o leaf env at old.rest (fault_here here r) (length p.front + c.reach)) (sym is)
      (fails_behind_size (record { n = n; behind = record { front = p.front; back = mid.rest; whole = p.split; spelled = p.holds env at says; more = c.reach; fails = c.fails here (at + length p.front); reaches = refl } }));
}

pub text_read : (leaf : TextLeaf) (given : Option ℕ) (Gives : List ℕ → Type 0) (old mid new : Reading) (n : ℕ) → leaf.ended ≡ None → Reads (SizeCode leaf.sized given n) old mid → PassedCharacters leaf Gives mid new n → PassedText leaf given Gives old new n
text_read leaf given Gives old mid new n is p c = record {
  text = c.text;
  size = c.size;
  gives = c.gives;
  read = reads_join (SizeCode leaf.sized given n) (CharactersCode leaf c.text) (TextCode leaf given c.text) old mid new (λ x y s t env at says.
      subst (λ (o : Option (List Bool)). EndedPart o leaf env c.text at (x ++ y)) (sym is)
      (record { front = x; back = y; whole = refl; first = subst (λ (k : ℕ). SizePart leaf.sized env k at x) (sym c.size) (s env at says); second = t (at + length x) })) p c.read;
}
