use Rattle.std.proofs.Common.{ap, sym, subst, ◌∙◌}
use Rattle.acn_json.specs.Spots.{members_at, put_there, AreWithin}
use Rattle.acn_json.proofs.Objects.{members-insert, within-insert}
use Rattle.acn_json.proofs.spots.note.Goals as goal

pub returns-in_ok-insert-in-Some-clause-members : goal.returns-in_ok-insert-in-Some-clause-members
returns-in_ok-insert-in-Some-clause-members c = λ value.
    ap (members_at value) c.in_ok-insert-in-Some.ensures.entries
    ∙ (members-insert value c.args.known.now.entries c.args.name c.args.spot
    ∙ ap (λ p. put_there p c.args.name.now (value c.args.spot) (members_at value c.args.known.now.entries)) (sym c.in-Some.is))

pub returns-in_ok-insert-in-Some-clause-within : goal.returns-in_ok-insert-in-Some-clause-within
returns-in_ok-insert-in-Some-clause-within c = λ m n f p h. subst (AreWithin m n) (sym c.in_ok-insert-in-Some.ensures.entries) (within-insert m n c.args.known.now.entries c.args.name c.args.spot f p h)
