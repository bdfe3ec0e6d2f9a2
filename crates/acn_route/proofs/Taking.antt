-- Packets at the front of what is in hand.
use Rattle.std.proofs.Common.{◌≡◌, ℕ, ◌+◌, ◌<◌, ◌≤◌, List, [], ◌∷◌, ◌++◌, length, take, drop, sym, ap, refl, ◌∙◌, arith, length-append, length-take, take-append-drop, append_assoc, append-nil}
use Rattle.std.specs.List.{concat}
use Rattle.acn_route.specs.Adding.{Adds}
use Rattle.acn_route.specs.Counting.{total}
use Rattle.acn_route.specs.Listed.{Listed, tree_for}
use Rattle.acn_route.specs.Routing.{Line, IsLine, LineBy, packets_of, text_of, with_line, counts_of}
use Rattle.acn_route.specs.Space.{IsSpacePacket, apid_of}
use Rattle.acn_route.specs.Steps.{TakesOne, TakesMany}
use Rattle.acn_route.specs.declared.count.LineKind.{LineKind}
use Rattle.acn_route.specs.declared.count.RouteCount.{RouteCount}
use Rattle.acn_supply.specs.Reading.{Supplied}
use Rattle.acn_route.proofs.Counts.{one_behind, one_more, each_on, packets_on, bytes_on, text_on}

pub takes_one : (routes : List Listed) (before after : Supplied) (old new : List ℕ) (kind : LineKind) (n : ℕ) → n ≤ length before.hand → 0 < n → IsSpacePacket (take n before.hand)
    → Adds (LineBy (tree_for routes (apid_of (take n before.hand))) (take n before.hand) kind) old new → after ≡ record { hand = drop n before.hand; left = before.left } → TakesOne routes before after old new kind
takes_one routes before after old new kind n within some packet a same = record {
  line = record { packet = take n before.hand; kind = kind; text = a.0 };
  is = a.2;
  packet = packet;
  some = simp length-take (omega (arith, within, some));
  said = refl;
  cut = sym (take-append-drop n before.hand) ∙ ap (λ (s : Supplied). take n before.hand ++ s.hand) (sym same);
  left = ap (λ (s : Supplied). s.left) same;
  added = a.1;
}

pub takes_none : (routes : List Listed) (s : Supplied) (old : List ℕ) (c : RouteCount) → TakesMany routes s s old old c c
takes_none routes s old c = record {
  lines = [];
  each = tt;
  packets = tt;
  few = omega arith;
  cut = refl;
  left = refl;
  added = sym (append-nil old);
  all = λ earlier e. e ∙ ap counts_of (sym (append-nil earlier));
  most = omega arith;
}

pub takes_more : (routes : List Listed) (before mid after : Supplied) (old text new : List ℕ) (c n n' : RouteCount) (kind : LineKind)
    → TakesMany routes before mid old text c n → TakesOne routes mid after text new kind → n' ≡ with_line kind n → TakesMany routes before after old new c n'
takes_more routes before mid after old text new c n n' kind m one e =
    let last = one.line ∷ [] in
    let bytes : concat (packets_of (m.lines ++ last)) ≡ concat (packets_of m.lines) ++ one.line.packet = bytes_on m.lines last ∙ ap (λ (t : List ℕ). concat (packets_of m.lines) ++ t) (append-nil one.line.packet) in
    let said : text_of (m.lines ++ last) ≡ text_of m.lines ++ one.line.text = text_on m.lines last ∙ ap (λ (t : List ℕ). text_of m.lines ++ t) (append-nil one.line.text) in
    record {
      lines = m.lines ++ last;
      each = each_on (IsLine routes) m.lines last m.each (one.is, tt);
      packets = packets_on m.lines last m.packets (one.packet, tt);
      few = omega (arith, m.few, one.some, ap length one.cut, length-append one.line.packet after.hand, length-append m.lines last);
      cut = m.cut ∙ ap (λ (t : List ℕ). concat (packets_of m.lines) ++ t) one.cut ∙ sym (append_assoc (concat (packets_of m.lines)) one.line.packet after.hand) ∙ ap (λ (t : List ℕ). t ++ after.hand) (sym bytes);
      left = one.left ∙ m.left;
      added = one.added ∙ ap (λ (t : List ℕ). t ++ one.line.text) m.added ∙ append_assoc old (text_of m.lines) one.line.text ∙ ap (λ (t : List ℕ). old ++ t) (sym said);
      all = λ earlier same. e ∙ ap (with_line kind) (m.all earlier same) ∙ ap (λ (k : LineKind). with_line k (counts_of (earlier ++ m.lines))) (sym one.said)
          ∙ sym (one_behind (earlier ++ m.lines) one.line) ∙ ap counts_of (append_assoc earlier m.lines last);
      most = omega (arith, ap total e, one_more kind n, m.most, length-append m.lines last);
    }

-- where nothing changed
pub takes_kept : (routes : List Listed) (before mid after : Supplied) (old text new : List ℕ) (c n : RouteCount) → TakesMany routes before mid old text c n → after ≡ mid → new ≡ text → TakesMany routes before after old new c n
takes_kept routes before mid after old text new c n m same kept = record {
  lines = m.lines;
  each = m.each;
  packets = m.packets;
  few = omega (arith, m.few, ap (λ (s : Supplied). length s.hand) same);
  cut = m.cut ∙ ap (λ (s : Supplied). concat (packets_of m.lines) ++ s.hand) (sym same);
  left = ap (λ (s : Supplied). s.left) same ∙ m.left;
  added = kept ∙ m.added;
  all = m.all;
  most = m.most;
}

-- what is in hand gets shorter
pub shorter : (routes : List Listed) (before after : Supplied) (old new : List ℕ) (kind : LineKind) → TakesOne routes before after old new kind → length after.hand < length before.hand
shorter routes before after old new kind one = omega (arith, one.some, ap length one.cut, length-append one.line.packet after.hand)
