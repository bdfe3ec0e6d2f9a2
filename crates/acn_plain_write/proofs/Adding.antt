-- Parts that are added one behind another.
use Rattle.std.proofs.Common.{◌≡◌, ℕ, zero, suc, ◌+◌, ◌-◌, ◌*◌, ◌/◌, ◌%◌, ◌<◌, Bool, false, List, [], ◌++◌, length, replicate, refl, sym, ap, ◌∙◌, subst, arith, append_assoc, append-nil, length-append, IsTrue}
use Rattle.std.proofs.lemmas.List.{length-replicate}
use Rattle.acn_num.specs.Bits.{bits as bits_of, octets as octets_for}
use Rattle.acn_grammar.specs.Code.{Written}
use Rattle.acn_grammar.specs.Env.{Env}
use Rattle.acn_grammar.specs.Grammar.{Grammar, Data, Elements, element_count}
use Rattle.acn_grammar.specs.Length.{bit_length, ending}
use Rattle.acn_grammar.specs.Shaped.{are_octets}
use Rattle.acn_grammar.specs.Spell.{Part, ◌then◌, Where, Exactly, Padding, Fill, Window, RulePart, SizePart, RunPart, ListPart, IndexPart, Spell}
use Rattle.acn_grammar.specs.declared.node.ChoiceRule.{ChoiceRule}
use Rattle.acn_grammar.specs.declared.node.ChoiceRule.TheVariants.{Index, Tests, Item}
use Rattle.acn_grammar.specs.declared.node.SizeRule.{SizeRule}
use Rattle.acn_grammar.specs.declared.node.SizeRule.TheVariants.{Prefix, Slot, Ended}
use Rattle.acn_grammar.specs.declared.node.Sizing.{Sizing}
use Rattle.acn_grammar.proofs.Counts.{number_bits}
use Rattle.acn_packet_laws.proofs.ReadParts.{pad_is}
use Rattle.acn_plain_write.specs.Adds.{Adds, Appends, Leads, size_bits, end_bits, index_bits}
use Rattle.acn_plain_write.specs.Ready.{RuleReady, SizeReady, CountReady, IndexReady}

-- the position behind what was added
further : (base at : ℕ) (old front mid : List Bool) → mid ≡ old ++ front → base + at ≡ length old → base + (at + length front) ≡ length mid
further base at old front mid e h = omega (arith, ap length e, length-append old front, h)

pub joined : {P Q : Part} (base : ℕ) (old mid new : List Bool) → Adds P base old mid → Adds Q base mid new → Adds (P then Q) base old new
joined {P} {Q} base old mid new a b = record {
  front = a.front ++ b.front;
  added = b.added ∙ (ap (λ t. t ++ b.front) a.added ∙ append_assoc old a.front b.front);
  spelled = λ at e. record { front = a.front; back = b.front; whole = refl; first = a.spelled at e; second = b.spelled (at + length a.front) (further base at old a.front mid a.added e) };
}

pub by_bits : {P : Part} (base : ℕ) (old new bs : List Bool) → new ≡ old ++ bs → ((at : ℕ) → P at bs) → Adds P base old new
by_bits {P} base old new bs e h = record { front = bs; added = e; spelled = λ at q. h at }

pub no_bits : {P : Part} (base : ℕ) (old new : List Bool) → new ≡ old → ((at : ℕ) → P at []) → Adds P base old new
no_bits {P} base old new e h = by_bits base old new [] (e ∙ sym (append-nil old)) h

pub under : {fact : Type 0} {P : Part} (base : ℕ) (old new : List Bool) → fact → Adds P base old new → Adds (Where fact P) base old new
under {fact} {P} base old new f a = record { front = a.front; added = a.added; spelled = λ at e. record { given = f; spelled = a.spelled at e } }

pub turned : {P Q : Part} (base : ℕ) (old new : List Bool) → ((at : ℕ) (bs : List Bool) → P at bs → Q at bs) → Adds P base old new → Adds Q base old new
turned {P} {Q} base old new f a = record { front = a.front; added = a.added; spelled = λ at e. f at a.front (a.spelled at e) }

pub appended : {Q : List Bool → Type 0} {P : Part} (base : ℕ) (old new : List Bool) → ((at : ℕ) (bs : List Bool) → Q bs → P at bs) → Appends Q old new → Adds P base old new
appended {Q} {P} base old new f a = by_bits base old new a.front a.added (λ at. f at a.front a.is)

-- what is added first, where bits are known
pub in_front : {P Q : Part} (base : ℕ) (old mid new bs : List Bool) → mid ≡ old ++ bs → ((at : ℕ) → P at bs) → Adds Q base mid new → Adds (P then Q) base old new
in_front {P} {Q} base old mid new bs e h a = joined base old mid new (by_bits base old mid bs e h) a

-- What leads on.

pub leads_start : (P : Part) (base : ℕ) (old : List Bool) → Leads P P base old old
leads_start P base old = record { front = []; added = sym (append-nil old); goes = λ at e bs p. subst (λ n. P n bs) (none at) p }
  where
    none : (at : ℕ) → at + 0 ≡ at
    none at = omega arith

pub leads_on : {P Q R : Part} (base : ℕ) (old mid new : List Bool) → Leads Q R base old mid → Leads P Q base mid new → Leads P R base old new
leads_on {P} {Q} {R} base old mid new a b = record {
  front = a.front ++ b.front;
  added = b.added ∙ (ap (λ t. t ++ b.front) a.added ∙ append_assoc old a.front b.front);
  goes = λ at e bs p. subst (R at) (sym (append_assoc a.front b.front bs)) (a.goes at e (b.front ++ bs) (b.goes (at + length a.front) (further base at old a.front mid a.added e) bs (subst (λ n. P n bs) (moved at a.front b.front) p)));
}
  where
    moved : (at : ℕ) (x y : List Bool) → at + length (x ++ y) ≡ at + length x + length y
    moved at x y = omega (arith, length-append x y)

pub leads_then : {P Q : Part} (base : ℕ) (old new : List Bool) → Adds P base old new → Leads Q (P then Q) base old new
leads_then {P} {Q} base old new a = record { front = a.front; added = a.added; goes = λ at e bs q. record { front = a.front; back = bs; whole = refl; first = a.spelled at e; second = q } }

pub leads_where : {fact : Type 0} {P : Part} (base : ℕ) (old new : List Bool) → fact → new ≡ old → Leads P (Where fact P) base old new
leads_where {fact} {P} base old new f e = record { front = []; added = e ∙ sym (append-nil old); goes = λ at q bs p. record { given = f; spelled = subst (λ n. P n bs) (none at) p } }
  where
    none : (at : ℕ) → at + 0 ≡ at
    none at = omega arith

pub leads_all : {P Q : Part} (base : ℕ) (old new : List Bool) → Leads P Q base old new → ((at : ℕ) → P at []) → Adds Q base old new
leads_all {P} {Q} base old new a h = record { front = a.front; added = a.added; spelled = λ at e. subst (Q at) (append-nil a.front) (a.goes at e [] (h (at + length a.front))) }

-- Padding.

zeros : (n : ℕ) → replicate n false ≡ replicate (length (replicate n false)) false
zeros n = ap (λ m. replicate m false) (sym (length-replicate n false))

-- so many zeros behind a position
padded : (align at count : ℕ) → 0 < align → count ≡ (align - at % align) % align → Padding Written align at (replicate count false)
padded align at count some e =
    let p = pad_is align at some in
    let l = length-replicate count false ∙ e in
    record { aligned = subst (λ m. (at + m) % align ≡ 0) (sym l) p.0; fewest = subst (λ m. m < align) (sym l) p.1; zeros = λ q. zeros count }

place : (base at len : ℕ) → base + at ≡ len → len - base ≡ at
place base at len e = omega (arith, e)

pub pads : (align base count : ℕ) (old new : List Bool) → 0 < align → count ≡ (align - (length old - base) % align) % align → new ≡ old ++ replicate count false → Adds (Padding Written align) base old new
pads align base count old new some e grown = record { front = replicate count false; added = grown; spelled = λ at q. padded align at count some (e ∙ ap (λ n. (align - n % align) % align) (place base at (length old) q)) }

pub fills : (base count : ℕ) (old new : List Bool) → count ≡ (8 - (length old - base) % 8) % 8 → new ≡ old ++ replicate count false → Adds (Fill Written) base old new
fills base count old new e grown = turned base old new (λ at bs p. record { aligned = p.aligned; few = p.fewest; zeros = p.zeros }) (pads 8 base count old new (omega arith) e grown)

-- Sizes.

ruled : (rule : SizeRule) (env : Env) (n : ℕ) → RuleReady rule env n → (at : ℕ) → RulePart rule env n at (size_bits rule n)
ruled (Prefix low width) env n r at = record { given = r.0; spelled = number_bits width (n - low) r.1 }
ruled (Slot s) env n r at = (r, refl)
ruled (Ended p) env n r at = absurd r

pub sized : (sizing : Sizing) (env : Env) (n : ℕ) → SizeReady sizing env n → (at : ℕ) → SizePart sizing env n at (size_bits sizing.rule n)
sized sizing env n s at = record { given = s.0; spelled = ruled sizing.rule env n s.1 at }

pub indexed : (root : Grammar) (rule : ChoiceRule) (i : ℕ) → IndexReady rule i → (at : ℕ) → IndexPart root rule i at (index_bits rule i)
indexed root (Index width) i r at = number_bits width i r
indexed root Tests i r at = refl
indexed root (Item s) i r at = refl

-- Strings.

pub octets_add : (sizing : Sizing) (env : Env) (os : List ℕ) (base : ℕ) (old new : List Bool) → SizeReady sizing env (length os) → IsTrue (are_octets os) → new ≡ old ++ (size_bits sizing.rule (length os) ++ bits_of os)
    → Adds (SizePart sizing env (length os) then Where (IsTrue (are_octets os)) (Exactly (bits_of os))) base old new
octets_add sizing env os base old new s f e =
    by_bits base old new (size_bits sizing.rule (length os) ++ bits_of os) e (λ at. record { front = size_bits sizing.rule (length os); back = bits_of os; whole = refl; first = sized sizing env (length os) s at; second = record { given = f; spelled = refl } })

pub bits_add : (sizing : Sizing) (env : Env) (xs : List Bool) (base : ℕ) (old new : List Bool) → SizeReady sizing env (length xs) → new ≡ old ++ (size_bits sizing.rule (length xs) ++ xs) → Adds (SizePart sizing env (length xs) then Exactly xs) base old new
bits_add sizing env xs base old new s e =
    by_bits base old new (size_bits sizing.rule (length xs) ++ xs) e (λ at. record { front = size_bits sizing.rule (length xs); back = xs; whole = refl; first = sized sizing env (length xs) s at; second = refl })

-- Lists.

list_by : (rule : SizeRule) (sizing : Sizing) → sizing.rule ≡ rule → (env : Env) (each : Data → Part) (es : Elements) (base : ℕ) (old a b new : List Bool) → CountReady (ending rule) sizing env (element_count es) → a ≡ old ++ size_bits rule (element_count es) → Adds (RunPart each es) base a b → new ≡ b ++ end_bits rule
    → Adds (ListPart (ending rule) sizing env each es) base old new
list_by (Prefix low width) sizing is env each es base old a b new c e run f =
    in_front base old a new (size_bits sizing.rule (element_count es)) (subst (λ (r : SizeRule). a ≡ old ++ size_bits r (element_count es)) (sym is) e) (sized sizing env (element_count es) c) (subst (Adds (RunPart each es) base a) (sym (append-nil b) ∙ sym f) run)
list_by (Slot s) sizing is env each es base old a b new c e run f =
    in_front base old a new (size_bits sizing.rule (element_count es)) (subst (λ (r : SizeRule). a ≡ old ++ size_bits r (element_count es)) (sym is) e) (sized sizing env (element_count es) c) (subst (Adds (RunPart each es) base a) (sym (append-nil b) ∙ sym f) run)
list_by (Ended p) sizing is env each es base old a b new c e run f =
    under base old new c (joined base old b new (subst (λ (t : List Bool). Adds (RunPart each es) base t b) (e ∙ append-nil old) run) (by_bits base b new p f (λ at. refl)))

pub list_adds : (sizing : Sizing) (env : Env) (each : Data → Part) (es : Elements) (base : ℕ) (old a b new : List Bool) → CountReady (ending sizing.rule) sizing env (element_count es) → a ≡ old ++ size_bits sizing.rule (element_count es) → Adds (RunPart each es) base a b → new ≡ b ++ end_bits sizing.rule
    → Adds (ListPart (ending sizing.rule) sizing env each es) base old new
list_adds sizing env each es base old a b new c e run f = list_by sizing.rule sizing refl env each es base old a b new c e run f

-- Contents.

-- contents that begin at their own base, and what fills their last octet
pub window_adds : (root : Grammar) (g : Grammar) (env : Env) (d : Data) (base : ℕ) (old mid new : List Bool) → ((bs : List Bool) → Spell root Written g env d 0 bs → length bs ≡ bit_length g 0 d) → Adds (Spell root Written g env d) (length old) old mid → Adds (Fill Written) (length old) mid new
    → Adds (Window (Spell root Written g env d) (Fill Written) (octets_for (bit_length g 0 d))) base old new
window_adds root g env d base old mid new told a b =
    let start : length old + 0 ≡ length old = omega arith in
    let inner = a.spelled 0 start in
    let fill = b.spelled (0 + length a.front) (further (length old) 0 old a.front mid a.added start) in
    record {
      front = a.front ++ b.front;
      added = b.added ∙ (ap (λ t. t ++ b.front) a.added ∙ append_assoc old a.front b.front);
      spelled = λ at e. record {
        size = length-append a.front b.front ∙ whole (length a.front) (length b.front) (bit_length g 0 d) fill.aligned fill.few (told a.front inner);
        inside = record { front = a.front; back = b.front; whole = refl; first = inner; second = fill };
      };
    }
  where
    whole : (used fill long : ℕ) → (0 + used + fill) % 8 ≡ 0 → fill < 8 → used ≡ long → used + fill ≡ 8 * octets_for long
    whole used fill long e h is = omega (arith, e, h, is)
