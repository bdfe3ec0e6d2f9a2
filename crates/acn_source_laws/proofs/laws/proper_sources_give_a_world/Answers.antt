use Rattle.acn_source_laws.proofs.Kept.{stands_kept}
use Rattle.acn_source_laws.proofs.Listed.{items_listed, alternatives_listed}
use Rattle.acn_source_laws.proofs.laws.proper_sources_give_a_world.Goals as goal

pub returns : goal.returns
returns c = λ s proper sound. record {
  sound = sound;
  items = λ k t items stands e. items_listed t items (stands_kept s proper k t stands) e;
  alternatives = λ k t more stands e. alternatives_listed t more (stands_kept s proper k t stands) e;
}
