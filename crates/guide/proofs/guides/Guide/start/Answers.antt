-- The number tells whether the request was refused or walked.
use Rattle.guide.proofs.GuideStartLaws.{verified_short, start_verified, start_unverified, start_refused, own_copy, own_unverified, own_refused}
use Rattle.guide.proofs.guides.Guide.start.Goals as goal

pub begun-requires : goal.begun-requires
begun-requires c = search verified_short

pub returns-then-number-eq-VERIFIED-clause-given : goal.returns-then-number-eq-VERIFIED-clause-given
returns-then-number-eq-VERIFIED-clause-given c = search start_verified

pub returns-then-number-eq-VERIFIED-clause-copied : goal.returns-then-number-eq-VERIFIED-clause-copied
returns-then-number-eq-VERIFIED-clause-copied c = search own_copy

pub returns-then-number-le-BUDGET_SPENT-clause-given : goal.returns-then-number-le-BUDGET_SPENT-clause-given
returns-then-number-le-BUDGET_SPENT-clause-given c = search start_unverified

pub returns-then-number-le-BUDGET_SPENT-clause-copied : goal.returns-then-number-le-BUDGET_SPENT-clause-copied
returns-then-number-le-BUDGET_SPENT-clause-copied c = search own_unverified

pub returns-clause-given : goal.returns-clause-given
returns-clause-given c = search start_refused

pub returns-clause-copied : goal.returns-clause-copied
returns-clause-copied c = search own_refused
