use Rattle.std.proofs.Common.{◌≡◌, ◌-◌, ◌+◌, List, ℕ, ◌++◌, length, take, drop, ap, ◌∙◌, arith, rules, length-take, length-drop}
use Rattle.std.proofs.lemmas.List.{take_at}
use Rattle.acn_supply.proofs.Windows.{read_on}
use Rattle.acn_supply.proofs.window.Window.refill.Goals as goal

pub returns-clause-added : goal.returns-clause-added
returns-clause-added g c =
    let start = c.self.inside.start in
    let end = c.self.inside.end in
    let n = c.in_ok-count.count in
    let new = c.read_into.new.room in
    let size = c.self.inside.room.len in
    let long : length c.shift.new.room ≡ size = search rules in
    let shifted : c.as_mut_slice-2.result.now ≡ c.shift.new.room = c.as_mut_slice-2.ensures.value ∙ take_at c.shift.new.room _ size long in
    let longer : length new ≡ size = c.in_ok-count.ensures.long ∙ ap length shifted ∙ long in
    let kept : take (end - start) new ≡ take (end - start) c.shift.new.room = c.in_ok-count.ensures.kept ∙ ap (take (end - start)) shifted in
    let was : take (end - start) c.shift.new.room ≡ c.args.self.now = c.shift.ensures.moved ∙ ap (λ (t : List ℕ). drop start (take end t)) c.as_mut_slice.ensures.value ∙ c.self.view_is in
    let given = take n (drop (end - start) new) in (
      given,
      simp (length-take, length-drop) (omega (arith, longer, c.in_ok-count.ensures.most)),
      ap (take (end - start + n)) (take_at new _ size longer) ∙ read_on c.shift.new.room new (end - start) n kept ∙ ap (λ (t : List ℕ). t ++ given) was,
      c.in_ok-count.ensures.moved,
    )
