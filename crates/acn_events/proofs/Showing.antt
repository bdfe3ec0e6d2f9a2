-- What a buffer shows of the bits that will stand in it once all holes are filled.
use Rattle.std.proofs.Common.{◌≡◌, ℕ, zero, suc, ◌+◌, ◌<◌, ◌≤◌, Bool, true, false, ◌&&◌, ◌||◌, List, [], ◌∷◌, ◌++◌, length, take, drop, remove, Option, Some, None, refl, sym, ap, ◌∙◌, subst, arith, length-append}
use Rattle.std.proofs.lemmas.Bool.Decides.{nat_tests}
use Rattle.std.specs.Prelude.{nat_le, nat_lt, slice_get}
use Rattle.acn_bits.specs.Overwrite.{Gap, overwritten}

abbrev pub is_within : Gap → ℕ → Bool
is_within g i = nat_le g.place i && nat_lt i (g.place + g.width)

abbrev pub covered : List Gap → ℕ → Bool
covered [] i = false
covered (g ∷ gs) i = is_within g i || covered gs i

-- from a place on both are the same, but in the gaps
abbrev pub Agrees : (gaps : List Gap) → (at : ℕ) → (written shown : List Bool) → Type 0
Agrees gaps at [] bs = Unit {0}
Agrees gaps at (w ∷ ws) [] = ⊥
Agrees gaps at (w ∷ ws) (b ∷ bs) = (covered gaps at ≡ false → b ≡ w) × Agrees gaps (suc at) ws bs

-- the buffer shows what is written so far, but in the gaps; its next place stands behind
pub record Shows (gaps : List Gap) (written : List Bool) (buf : List Bool) (place : ℕ) : Type 0 where
  pub long : place ≡ length written
  pub agrees : Agrees gaps 0 written buf

-- bits that have the property are to stand in the gap
pub record Stood (P : List Bool → Type 0) (written : List Bool) (g : Gap) : Type 0 where
  pub within : g.place + g.width ≤ length written
  pub holds : P (take g.width (drop g.place written))

or_right_false : (a b : Bool) → (a || b) ≡ false → b ≡ false
or_right_false true b h = cc
or_right_false false b h = h

-- Fewer places have to be the same.
pub agrees_weak : (gs hs : List Gap) → ((i : ℕ) → covered hs i ≡ false → covered gs i ≡ false) → (at : ℕ) (ws bs : List Bool) → Agrees gs at ws bs → Agrees hs at ws bs
agrees_weak gs hs h at [] bs a = tt
agrees_weak gs hs h at (w ∷ ws) [] a = a
agrees_weak gs hs h at (w ∷ ws) (b ∷ bs) a = ((λ c. a.0 (h at c)), agrees_weak gs hs h (suc at) ws bs a.1)

pub agrees_long : (gs : List Gap) (at : ℕ) (ws bs : List Bool) → Agrees gs at ws bs → length ws ≤ length bs
agrees_long gs at [] bs a = omega arith
agrees_long gs at (w ∷ ws) [] a = absurd a
agrees_long gs at (w ∷ ws) (b ∷ bs) a = let r = agrees_long gs (suc at) ws bs a.1 in omega (arith, r)

agrees_self : (gs : List Gap) (at : ℕ) (ws rest : List Bool) → Agrees gs at ws (ws ++ rest)
agrees_self gs at [] rest = tt
agrees_self gs at (w ∷ ws) rest = ((λ c. refl), agrees_self gs (suc at) ws rest)

-- Bits that are put behind.
agrees_put : (gs : List Gap) (at : ℕ) (ws bs piece rest : List Bool) → Agrees gs at ws bs → Agrees gs at (ws ++ piece) (take (length ws) bs ++ (piece ++ rest))
agrees_put gs at [] bs piece rest a = agrees_self gs at piece rest
agrees_put gs at (w ∷ ws) [] piece rest a = absurd a
agrees_put gs at (w ∷ ws) (b ∷ bs) piece rest a = (a.0, agrees_put gs (suc at) ws bs piece rest a.1)

pub shows_put : (gs : List Gap) (ws buf piece : List Bool) (place : ℕ) (buf' : List Bool) (place' : ℕ) → buf' ≡ overwritten buf place piece → place' ≡ place + length piece → Shows gs ws buf place → Shows gs (ws ++ piece) buf' place'
shows_put gs ws buf piece place buf' place' e p s = record {
  long = p ∙ (ap (λ n. n + length piece) s.long ∙ sym (length-append ws piece));
  agrees = subst (λ (z : List Bool). Agrees gs 0 (ws ++ piece) z) (sym (e ∙ ap (λ n. take n buf ++ (piece ++ drop (place + length piece) buf)) s.long))
      (agrees_put gs 0 ws buf piece (drop (place + length piece) buf) s.agrees);
}

-- A hole.

within_hole : (p w i : ℕ) → p ≤ i → i < p + w → (nat_le p i && nat_lt i (p + w)) ≡ true
within_hole p w i a b = both (nat_le p i) (nat_lt i (p + w)) (grind (arith, nat_tests)) (grind (arith, nat_tests))
  where
    both : (x y : Bool) → x ≡ true → y ≡ true → (x && y) ≡ true
    both x y h k = cc

or_true : (a b : Bool) → a ≡ true → (a || b) ≡ false → ⊥
or_true a b h k = cc

agrees_inside : (g : Gap) (gs : List Gap) (at : ℕ) (piece zeros rest : List Bool) → length zeros ≡ length piece → g.place ≤ at → at + length piece ≤ g.place + g.width → Agrees (g ∷ gs) at piece (zeros ++ rest)
agrees_inside g gs at [] zeros rest l a b = tt
agrees_inside g gs at (w ∷ piece) [] rest l a b = cc
agrees_inside g gs at (w ∷ piece) (z ∷ zeros) rest l a b = (
  (λ c. absurd (or_true (is_within g at) (covered gs at) (within_hole g.place g.width at a (omega (arith, b))) c)),
  agrees_inside g gs (suc at) piece zeros rest (omega (arith, l)) (omega (arith, a)) (omega (arith, b)),
)

agrees_hole : (g : Gap) (gs : List Gap) (at : ℕ) (ws bs piece zeros rest : List Bool) → length zeros ≡ length piece → g.place ≡ at + length ws → g.width ≡ length piece → Agrees gs at ws bs → Agrees (g ∷ gs) at (ws ++ piece) (take (length ws) bs ++ (zeros ++ rest))
agrees_hole g gs at [] bs piece zeros rest l p w a = agrees_inside g gs at piece zeros rest l (omega (arith, p)) (omega (arith, p, w))
agrees_hole g gs at (x ∷ ws) [] piece zeros rest l p w a = absurd a
agrees_hole g gs at (x ∷ ws) (b ∷ bs) piece zeros rest l p w a = ((λ c. a.0 (or_right_false (is_within g at) (covered gs at) c)), agrees_hole g gs (suc at) ws bs piece zeros rest l (omega (arith, p)) w a.1)

from_zero : (m n : ℕ) → m ≡ n → m ≡ 0 + n
from_zero m n e = omega (arith, e)

zero_front : (n : ℕ) → n ≡ 0 + n
zero_front n = omega arith

pub shows_hole : (g : Gap) (gs : List Gap) (ws buf piece zeros : List Bool) (place : ℕ) (buf' : List Bool) (place' : ℕ) → length zeros ≡ length piece → g.place ≡ place → g.width ≡ length piece → buf' ≡ overwritten buf place zeros → place' ≡ place + length piece
    → Shows gs ws buf place → Shows (g ∷ gs) (ws ++ piece) buf' place'
shows_hole g gs ws buf piece zeros place buf' place' l p w e q s = record {
  long = q ∙ (ap (λ n. n + length piece) s.long ∙ sym (length-append ws piece));
  agrees = subst (λ (z : List Bool). Agrees (g ∷ gs) 0 (ws ++ piece) z) (sym (e ∙ ap (λ n. take n buf ++ (zeros ++ drop (place + length zeros) buf)) s.long))
      (agrees_hole g gs 0 ws buf piece zeros (drop (place + length zeros) buf) l (from_zero g.place (length ws) (p ∙ s.long)) w s.agrees);
}

-- A hole that is filled.

outside_hole : (p w i : ℕ) (b : Bool) → i < p → ((nat_le p i && nat_lt i (p + w)) || b) ≡ b
outside_hole p w i b h = off (nat_le p i) (nat_lt i (p + w)) (grind (arith, nat_tests))
  where
    off : (x y : Bool) → x ≡ false → ((x && y) || b) ≡ b
    off x y k = cc

behind_hole : (p w i : ℕ) (b : Bool) → p + w ≤ i → ((nat_le p i && nat_lt i (p + w)) || b) ≡ b
behind_hole p w i b h = off (nat_le p i) (nat_lt i (p + w)) (grind (arith, nat_tests))
  where
    off : (x y : Bool) → y ≡ false → ((x && y) || b) ≡ b
    off true y k = cc
    off false y k = refl

-- one gap and others
abbrev pub Parts : Gap → List Gap → List Gap → Type 0
Parts g gs hs = (i : ℕ) → covered gs i ≡ (is_within g i || covered hs i)

agrees_behind : (g : Gap) (gs hs : List Gap) → Parts g gs hs → (at : ℕ) (ws bs : List Bool) → g.place + g.width ≤ at → Agrees gs at ws bs → Agrees hs at ws bs
agrees_behind g gs hs only at [] bs l a = tt
agrees_behind g gs hs only at (w ∷ ws) [] l a = a
agrees_behind g gs hs only at (w ∷ ws) (b ∷ bs) l a = ((λ c. a.0 (only at ∙ (behind_hole g.place g.width at (covered hs at) l ∙ c))), agrees_behind g gs hs only (suc at) ws bs (omega (arith, l)) a.1)

agrees_code : (g : Gap) (gs hs : List Gap) → Parts g gs hs → (at : ℕ) (cs ws bs : List Bool) → cs ≡ take (length cs) ws → length cs ≤ length bs → g.place + g.width ≡ at + length cs → Agrees gs at ws bs → Agrees hs at ws (cs ++ drop (length cs) bs)
agrees_code g gs hs only at [] ws bs e l p a = agrees_behind g gs hs only at ws bs (omega (arith, p)) a
agrees_code g gs hs only at (c ∷ cs) [] bs e l p a = cc
agrees_code g gs hs only at (c ∷ cs) (w ∷ ws) [] e l p a = absurd a
agrees_code g gs hs only at (c ∷ cs) (w ∷ ws) (b ∷ bs) e l p a =
    let h : c ≡ w = cc in
    let t : cs ≡ take (length cs) ws = cc in
    ((λ q. h), agrees_code g gs hs only (suc at) cs ws bs t (omega (arith, l)) (omega (arith, p)) a.1)

front_suc : (q n : ℕ) → suc (q + n) ≡ suc q + n
front_suc q n = omega arith

agrees_fill : (g : Gap) (gs hs : List Gap) → Parts g gs hs → (q at : ℕ) (cs ws bs : List Bool) → g.place ≡ at + q → g.width ≡ length cs → cs ≡ take (length cs) (drop q ws) → Agrees gs at ws bs → q + length cs ≤ length bs → Agrees hs at ws (take q bs ++ (cs ++ drop (q + length cs) bs))
agrees_fill g gs hs only zero at cs ws bs p w e a l = subst (λ n. Agrees hs at ws (cs ++ drop n bs)) (zero_front (length cs)) (agrees_code g gs hs only at cs ws bs e (omega (arith, l)) (omega (arith, p, w)) a)
agrees_fill g gs hs only (suc q) at cs [] bs p w e a l = tt
agrees_fill g gs hs only (suc q) at cs (x ∷ ws) [] p w e a l = absurd a
agrees_fill g gs hs only (suc q) at cs (x ∷ ws) (b ∷ bs) p w e a l = (
  (λ c. a.0 (only at ∙ (outside_hole g.place g.width at (covered hs at) (omega (arith, p)) ∙ c))),
  subst (λ n. Agrees hs (suc at) ws (take q bs ++ (cs ++ drop n (b ∷ bs)))) (front_suc q (length cs)) (agrees_fill g gs hs only q (suc at) cs ws bs (omega (arith, p)) w e a.1 (omega (arith, l))),
)

pub shows_fill : (g : Gap) (gs hs : List Gap) → Parts g gs hs → (ws buf cs : List Bool) (place : ℕ) (buf' : List Bool) (place' : ℕ) → g.width ≡ length cs → cs ≡ take (length cs) (drop g.place ws) → g.place + length cs ≤ length ws
    → buf' ≡ overwritten buf g.place cs → place' ≡ place → Shows gs ws buf place → Shows hs ws buf' place'
shows_fill g gs hs only ws buf cs place buf' place' w e l b p s =
    let long = agrees_long gs 0 ws buf s.agrees in
    record {
      long = p ∙ s.long;
      agrees = subst (λ (z : List Bool). Agrees hs 0 ws z) (sym b) (agrees_fill g gs hs only g.place 0 cs ws buf (zero_front g.place) w e s.agrees (omega (arith, long, l)));
    }

-- where no hole is left, the buffer begins with what is written
agrees_none : (at : ℕ) (ws bs : List Bool) → Agrees [] at ws bs → take (length ws) bs ≡ ws
agrees_none at [] bs a = refl
agrees_none at (w ∷ ws) [] a = absurd a
agrees_none at (w ∷ ws) (b ∷ bs) a = let h : b ≡ w = a.0 refl in let t = agrees_none (suc at) ws bs a.1 in cc

pub shows_all : (ws buf : List Bool) (place : ℕ) → Shows [] ws buf place → take place buf ≡ ws
shows_all ws buf place s = ap (λ n. take n buf) s.long ∙ agrees_none 0 ws buf s.agrees

-- What is to stand in a gap still is, where more is written.

take_front : (w : ℕ) (xs ys : List Bool) → w ≤ length xs → take w (xs ++ ys) ≡ take w xs
take_front zero xs ys h = refl
take_front (suc w) [] ys h = absurd (omega arith)
take_front (suc w) (x ∷ xs) ys h = ap (λ z. x ∷ z) (take_front w xs ys (omega arith))

drop_front : (p : ℕ) (xs ys : List Bool) → p ≤ length xs → drop p (xs ++ ys) ≡ drop p xs ++ ys
drop_front zero xs ys h = refl
drop_front (suc p) [] ys h = absurd (omega arith)
drop_front (suc p) (x ∷ xs) ys h = drop_front p xs ys (omega arith)

length_drop : (p : ℕ) (xs : List Bool) → p ≤ length xs → p + length (drop p xs) ≡ length xs
length_drop zero xs h = omega arith
length_drop (suc p) [] h = absurd (omega arith)
length_drop (suc p) (x ∷ xs) h = let r = length_drop p xs (omega arith) in omega (arith, r)

pub stood_more : {P : List Bool → Type 0} (ws more : List Bool) (g : Gap) → Stood P ws g → Stood P (ws ++ more) g
stood_more {P} ws more g s =
    let l = length-append ws more in
    let d = length_drop g.place ws (omega (arith, s.within)) in
    record {
      within = omega (arith, s.within, l);
      holds = subst P (sym (ap (take g.width) (drop_front g.place ws more (omega (arith, s.within))) ∙ take_front g.width (drop g.place ws) more (omega (arith, s.within, d)))) s.holds;
    }

-- and the bits that are left for it are such a gap
pub stood_new : {P : List Bool → Type 0} (ws cs : List Bool) (g : Gap) → g.place ≡ length ws → g.width ≡ length cs → P cs → Stood P (ws ++ cs) g
stood_new {P} ws cs g p w c = record {
  within = (let l = length-append ws cs in omega (arith, l, p, w));
  holds = subst P (sym (ap (λ n. take n (drop g.place (ws ++ cs))) w ∙ (ap (λ n. take (length cs) (drop n (ws ++ cs))) p ∙ (ap (take (length cs)) (drop_all_front ws cs) ∙ take_all cs)))) c;
}
  where
    drop_all_front : (xs ys : List Bool) → drop (length xs) (xs ++ ys) ≡ ys
    drop_all_front [] ys = refl
    drop_all_front (x ∷ xs) ys = drop_all_front xs ys

    take_all : (xs : List Bool) → take (length xs) xs ≡ xs
    take_all [] = refl
    take_all (x ∷ xs) = ap (λ z. x ∷ z) (take_all xs)

abbrev pub open_gaps : List (Option Gap) → List Gap
open_gaps [] = []
open_gaps (None ∷ gs) = open_gaps gs
open_gaps (Some g ∷ gs) = g ∷ open_gaps gs

-- Gaps of a list.

or_swap : (a g m : Bool) → (a || (g || m)) ≡ (g || (a || m))
or_swap true true m = refl
or_swap true false m = refl
or_swap false g m = refl

pub parts_local : (g : Gap) (gs more : List Gap) → Parts g (gs ++ g ∷ more) (gs ++ more)
parts_local g [] more i = refl
parts_local g (x ∷ gs) more i = ap (λ z. is_within x i || z) (parts_local g gs more i) ∙ or_swap (is_within x i) (is_within g i) (covered (gs ++ more) i)

pub parts_push : (g : Gap) (gaps : List (Option Gap)) (more : List Gap) → Parts g (open_gaps (gaps ++ Some g ∷ []) ++ more) (open_gaps gaps ++ more)
parts_push g [] more i = refl
parts_push g (None ∷ gaps) more i = parts_push g gaps more i
parts_push g (Some x ∷ gaps) more i = ap (λ z. is_within x i || z) (parts_push g gaps more i) ∙ or_swap (is_within x i) (is_within g i) (covered (open_gaps gaps ++ more) i)

pub parts_remove : (g : Gap) (gaps : List (Option Gap)) (more : List Gap) (k : ℕ) → slice_get gaps k ≡ Some (Some g) → Parts g (open_gaps gaps ++ more) (open_gaps (remove gaps k) ++ more)
parts_remove g [] more k e i = cc
parts_remove g (None ∷ gaps) more zero e i = cc
parts_remove g (Some x ∷ gaps) more zero e i = let h : x ≡ g = cc in ap (λ (z : Gap). is_within z i || covered (open_gaps gaps ++ more) i) h
parts_remove g (None ∷ gaps) more (suc k) e i = parts_remove g gaps more k e i
parts_remove g (Some x ∷ gaps) more (suc k) e i = ap (λ z. is_within x i || z) (parts_remove g gaps more k e i) ∙ or_swap (is_within x i) (is_within g i) (covered (open_gaps (remove gaps k) ++ more) i)

pub open_none : (gaps : List (Option Gap)) → open_gaps (gaps ++ None ∷ []) ≡ open_gaps gaps
open_none [] = refl
open_none (None ∷ gaps) = open_none gaps
open_none (Some x ∷ gaps) = ap (λ z. x ∷ z) (open_none gaps)

-- with one gap more
pub shows_gap : (g : Gap) (gs hs : List Gap) → Parts g gs hs → (ws buf piece zeros : List Bool) (place : ℕ) (buf' : List Bool) (place' : ℕ) → length zeros ≡ length piece → g.place ≡ place → g.width ≡ length piece → buf' ≡ overwritten buf place zeros
    → place' ≡ place + length piece → Shows hs ws buf place → Shows gs (ws ++ piece) buf' place'
shows_gap g gs hs parts ws buf piece zeros place buf' place' l p w e q s =
    let h = shows_hole g hs ws buf piece zeros place buf' place' l p w e q s in
    record { long = h.long; agrees = agrees_weak (g ∷ hs) gs (λ i c. sym (parts i) ∙ c) 0 (ws ++ piece) buf' h.agrees }

length_take : (w : ℕ) (xs : List Bool) → w ≤ length xs → length (take w xs) ≡ w
length_take zero xs h = refl
length_take (suc w) [] h = absurd (omega arith)
length_take (suc w) (x ∷ xs) h = ap suc (length_take w xs (omega arith))

pub fits_gap : (p w : ℕ) (ws cs : List Bool) → p + w ≤ length ws → take w (drop p ws) ≡ cs → (w ≡ length cs) × (cs ≡ take (length cs) (drop p ws)) × (p + length cs ≤ length ws)
fits_gap p w ws cs l e =
    let d = length_drop p ws (omega (arith, l)) in
    let a : length (take w (drop p ws)) ≡ w = length_take w (drop p ws) (omega (arith, l, d)) in
    let b : w ≡ length cs = sym a ∙ ap length e in
    (b, sym e ∙ ap (λ n. take n (drop p ws)) b, omega (arith, l, b))

-- a place without a hole is taken away
pub open_removed : (gaps : List (Option Gap)) (k : ℕ) → slice_get gaps k ≡ Some None → open_gaps (remove gaps k) ≡ open_gaps gaps
open_removed [] k e = cc
open_removed (None ∷ gaps) zero e = refl
open_removed (Some x ∷ gaps) zero e = cc
open_removed (None ∷ gaps) (suc k) e = open_removed gaps k e
open_removed (Some x ∷ gaps) (suc k) e = ap (λ z. x ∷ z) (open_removed gaps k e)
