use Rattle.std.proofs.Common.{rules, ◌≡◌, ◌∷◌, ◌<◌, ℕ, length, None, false, refl, sym, ap, ◌∙◌, subst}
use Rattle.acn_writer.proofs.FrameLists.{frame, frames_push, tied_push, frames_long, holes_long}
use Rattle.acn_writer.proofs.contents.Contents.enter_bare.Goals as goal

pub push-requires : goal.push-requires
push-requires g c =
    let long : length c.self.inside.openings.items ≡ length c.args.self.now = sym (frames_long c.self.inside.openings.items c.self.inside.holes c.self.invariant) ∙ ap length c.self.view_is in
    (search rules, subst (λ (k : ℕ). k < g.row.S) (sym long) c.requires)

pub skip-requires : goal.skip-requires
skip-requires g c =
    let long : length c.self.inside.holes ≡ length c.args.self.now = holes_long c.self.inside.openings.items c.self.inside.holes c.self.invariant ∙ (sym (frames_long c.self.inside.openings.items c.self.inside.holes c.self.invariant) ∙ ap length c.self.view_is) in
    (search rules, subst (λ (k : ℕ). k < g.row.S) (sym long) c.requires)

pub invariant_of-self : goal.invariant_of-self
invariant_of-self g c = tied_push c.self.inside.openings.items c.push.new.self.items (record { base = c.args.base; sized = false }) c.self.inside.holes c.skip.new.self (None) c.push.ensures.items c.skip.ensures refl c.self.invariant

pub returns : goal.returns
returns g c =
    frames_push c.self.inside.openings.items c.push.new.self.items (record { base = c.args.base; sized = false }) c.self.inside.holes c.skip.new.self (None) c.push.ensures.items c.skip.ensures c.self.invariant
    ∙ ap (λ z. frame c.args.base (None) ∷ z) c.self.view_is
