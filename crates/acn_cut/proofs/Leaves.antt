-- The cuts of number leaves.
use Rattle.std.proofs.Common.{◌≡◌, ℕ, ◌+◌, ◌^◌, ◌<◌, ◌≤◌, ℤ, pos, ◌+ℤ◌, ◌≤ℤ◌, Bool, true, List, [], ◌∷◌, length, arith, refl, Option, Some, None, IfSome}
use Rattle.std.proofs.Math.Nat.{pow-le-pow_right}
use Rattle.std.proofs.lemmas.Int.{ints}
use Rattle.acn_num.specs.Bits.{number, IsNumber}
use Rattle.acn_num.specs.Ranges.{In}
use Rattle.acn_num.proofs.BitLists.{number_below, number_same}
use Rattle.std.specs.Prelude.{◌-ℤ◌}
use Rattle.acn_grammar.specs.Code.{Mode, CodingCode, image_of, on_line}
use Rattle.acn_grammar.specs.declared.node.Table.{Table}
use Rattle.acn_grammar.specs.declared.node.NumLeaf.{NumLeaf}
use Rattle.acn_grammar.specs.declared.node.NumCoding.TheVariants.{Range, PosInt, Flag, Fixed}
use Rattle.acn_cut.specs.Cuts.{IsCut}
use Rattle.acn_cut.specs.Making.{CountsOnLine, CountsUp, IsBetween, IsPlain, IsUnder}
use Rattle.acn_cut.specs.declared.cut.Cut.{Cut}

inside : (low high x : ℤ) (set : List (ℤ × ℤ)) → set ≡ (low, high) ∷ [] → low ≤ℤ x → x ≤ℤ high → In set x
inside low high x set e a b = rw e (grind (arith, ints))

-- without a table a number is written itself
itself : (leaf : NumLeaf) (x : ℤ) → IsPlain leaf → leaf.table ≡ None → image_of leaf x ≡ Some x
itself leaf x p none = rw (p.values, none) refl

pub counts_itself : (table : Option Table) (low high : ℤ) → table ≡ None → CountsUp table low high low
counts_itself table low high none ahead below = rw none refl

-- on a line
pub counts_line : (table : Table) (line : ℤ × ℤ × ℤ) (low high image : ℤ) → table.lines ≡ line ∷ [] → CountsOnLine line low high image → CountsUp (Some table) low high image
counts_line table line low high image only on ahead below =
    let first = on.0 in
    let last = on.1 in
    let start = on.2 in
    let above : line.0 ≤ℤ (low +ℤ pos ahead) = omega (arith, ints) in
    let under : (low +ℤ pos ahead) ≤ℤ line.1 = omega (arith, ints) in
    let there : on_line line (low +ℤ pos ahead) ≡ true = grind (arith, ints) in
    let same : line.2 +ℤ ((low +ℤ pos ahead) -ℤ line.0) ≡ image +ℤ pos ahead = omega (arith, ints) in
    rw (only, there, same) refl

-- what a coding has to say of itself
abbrev Codes : NumLeaf → (from : ℤ) → (width : ℕ) → Type 0
Codes leaf from width = (mode : Mode) (k : ℕ) (bs : List Bool) → IsNumber width k bs → CodingCode mode leaf.coding leaf.little (from +ℤ pos k) bs

not_past : (low high : ℤ) (span ahead : ℕ) → high ≡ low +ℤ pos span → ahead ≤ span → (low +ℤ pos ahead) ≤ℤ high
not_past low high span ahead e h = rw e (omega (arith, ints))

code_behind : (from image : ℤ) (first ahead : ℕ) → image ≡ from +ℤ pos first → from +ℤ pos (first + ahead) ≡ image +ℤ pos ahead
code_behind from image first ahead e = rw e (omega (arith, ints))

cut_between : (leaf : NumLeaf) (cut : Cut) (low high image from : ℤ) (width : ℕ) → IsPlain leaf → CountsUp leaf.table low high image → leaf.set ≡ (low, high) ∷ [] → Codes leaf from width → IsBetween cut low high image from width → IsCut cut leaf
cut_between leaf cut low high image from width plain counts set codes b = record {
  width = rw b.same b.few;
  fits = rw b.same b.fits;
  greatest = rw b.least (rw b.span at b.greatest);
  codes = λ mode ahead bs within is.
      let span = b.span in
      let above : low ≤ℤ (low +ℤ pos ahead) = omega (arith, ints) in
      let below = not_past low high cut.span ahead span within in
      let same = code_behind from image cut.first ahead b.first in
      rw b.least (record {
        permitted = inside low high _ leaf.set set above below;
        image = image +ℤ pos ahead;
        maps = rw plain.values (counts ahead below);
        spelled = rw same at (codes mode (cut.first + ahead) bs (rw b.same at is));
      });
}

unsigned : (k n : ℕ) → n ≡ k → pos 0 +ℤ pos k ≡ pos n
unsigned k n e = rw e (grind (arith, ints))

pub range_cut : (leaf : NumLeaf) (o : Option Cut) (low high image from : ℤ) (width : ℕ) → IsPlain leaf → CountsUp leaf.table low high image → leaf.set ≡ (low, high) ∷ [] → leaf.coding ≡ Range from width
    → IfSome o (λ cut. IsBetween cut low high image from width) → IfSome o (λ cut. IsCut cut leaf)
range_cut leaf None low high image from width plain counts set e b = tt
range_cut leaf (Some cut) low high image from width plain counts set e b = cut_between leaf cut low high image from width plain counts set (λ mode k bs is. rw e (k, refl, is)) b

pub unsigned_cut : (leaf : NumLeaf) (o : Option Cut) (low high image : ℤ) (width : ℕ) → IsPlain leaf → CountsUp leaf.table low high image → leaf.set ≡ (low, high) ∷ [] → leaf.coding ≡ PosInt width
    → IfSome o (λ cut. IsBetween cut low high image (pos 0) width) → IfSome o (λ cut. IsCut cut leaf)
unsigned_cut leaf None low high image width plain counts set e b = tt
unsigned_cut leaf (Some cut) low high image width plain counts set e b = cut_between leaf cut low high image (pos 0) width plain counts set (λ mode k bs is. rw (e, plain.little) (is.width, unsigned k (number bs) is.value)) b

pub truth_cut : (leaf : NumLeaf) (o : Option Cut) (low high image : ℤ) (ones zeros : Option (List Bool)) → IsPlain leaf → CountsUp leaf.table low high image → leaf.set ≡ (low, high) ∷ [] → leaf.coding ≡ Flag ones zeros → ones ≡ None → zeros ≡ None
    → IfSome o (λ cut. IsBetween cut low high image (pos 0) 1) → IfSome o (λ cut. IsCut cut leaf)
truth_cut leaf None low high image ones zeros plain counts set e f g b = tt
truth_cut leaf (Some cut) low high image ones zeros plain counts set e f g b = cut_between leaf cut low high image (pos 0) 1 plain counts set (λ mode k bs is. rw (e, f, g) (k, unsigned k k refl, is)) b

-- only the pattern spells its number
pattern_alone : (pattern bs : List Bool) (n first span ahead : ℕ) → n ≡ length pattern → first ≡ number pattern → span ≡ 0 → ahead ≤ span → IsNumber n (first + ahead) bs → bs ≡ pattern
pattern_alone pattern bs n first span ahead w f s within is =
    let width = is.width in
    let value = is.value in
    number_same bs pattern (omega arith) (omega arith)

none_ahead : (low : ℤ) (span ahead : ℕ) → low ≡ pos 0 → span ≡ 0 → ahead ≤ span → low +ℤ pos ahead ≡ pos 0
none_ahead low span ahead l s within = omega (arith, ints)

pub under_cut : (leaf : NumLeaf) (cut : Cut) (low high : ℤ) (pattern : List Bool) → IsPlain leaf → leaf.table ≡ None → leaf.set ≡ (low, high) ∷ [] → leaf.coding ≡ Fixed pattern → low ≤ℤ pos 0 → pos 0 ≤ℤ high → IsUnder cut pattern → IsCut cut leaf
under_cut leaf cut low high pattern plain none set e below above u = record {
  width = rw u.same u.few;
  fits = small cut.first cut.span cut.width pattern u.first u.span u.same;
  greatest = rw (none_ahead cut.low cut.span cut.span u.least u.span (omega arith)) (omega (arith, ints));
  codes = λ mode ahead bs within is. rw (none_ahead cut.low cut.span ahead u.least u.span within) (record {
    permitted = inside low high (pos 0) leaf.set set below above;
    image = pos 0;
    maps = itself leaf (pos 0) plain none;
    spelled = rw e (refl, pattern_alone pattern bs cut.width cut.first cut.span ahead u.same u.first u.span within is);
  });
}
  where
    small : (first span width : ℕ) (pattern : List Bool) → first ≡ number pattern → span ≡ 0 → width ≡ length pattern → first + span < 2 ^ width
    small first span width pattern f s same =
        let below = number_below pattern in
        rw same (omega (arith, f, s, below))
