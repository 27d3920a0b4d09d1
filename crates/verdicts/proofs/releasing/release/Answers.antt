-- A fault before the plans is refused; else the file was opened.
use borrow.Author.Rules.{rules}
use Rattle.verdicts.proofs.ReleasingLaws.{blank_is, opens_here, release_fault}
use Rattle.verdicts.proofs.releasing.release.Goals as goal

pub release_opened-requires : goal.release_opened-requires
release_opened-requires c = search (opens_here, blank_is, c.shared_slice_known-1.given)

pub returns-in-Err : goal.returns-in-Err
returns-in-Err c = search (rules, release_fault)
