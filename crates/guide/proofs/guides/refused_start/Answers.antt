-- A start that is refused keeps its answer.
use Rattle.guidance.specs.Guides.{refused_start}
use Rattle.guide.specs.GuideHeld.{started_of, guide_of, guide_at}
use borrow.Author.Rules.{rules}
use Rattle.guide.proofs.guides.refused_start.Goals as goal

pub returns : goal.returns
unfolding started_of refused_start guide_of guide_at
returns c = search rules
