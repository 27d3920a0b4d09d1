-- Three cases, by the input that the answer names: each part has its bytes and its start.
use Rattle.glintstring.proofs.ShowingLaws.{shown_request, shown_derivation, shown_neither, block_request, block_derivation, block_neither, start_request, start_derivation, start_neither}
use Rattle.glintstring.proofs.showing.show.Goals as goal

pub returns-then-input-eq-THE_REQUEST-clause-bytes : goal.returns-then-input-eq-THE_REQUEST-clause-bytes
returns-then-input-eq-THE_REQUEST-clause-bytes c = search shown_request

pub returns-then-input-eq-THE_REQUEST-clause-block : goal.returns-then-input-eq-THE_REQUEST-clause-block
returns-then-input-eq-THE_REQUEST-clause-block c = search block_request

pub returns-then-input-eq-THE_REQUEST-clause-start : goal.returns-then-input-eq-THE_REQUEST-clause-start
returns-then-input-eq-THE_REQUEST-clause-start c = search start_request

pub returns-then-input-eq-THE_DERIVATION-clause-bytes : goal.returns-then-input-eq-THE_DERIVATION-clause-bytes
returns-then-input-eq-THE_DERIVATION-clause-bytes c = search shown_derivation

pub returns-then-input-eq-THE_DERIVATION-clause-block : goal.returns-then-input-eq-THE_DERIVATION-clause-block
returns-then-input-eq-THE_DERIVATION-clause-block c = search block_derivation

pub returns-then-input-eq-THE_DERIVATION-clause-start : goal.returns-then-input-eq-THE_DERIVATION-clause-start
returns-then-input-eq-THE_DERIVATION-clause-start c = search start_derivation

pub returns-clause-bytes : goal.returns-clause-bytes
returns-clause-bytes c = search shown_neither

pub returns-clause-block : goal.returns-clause-block
returns-clause-block c = search block_neither

pub returns-clause-start : goal.returns-clause-start
returns-clause-start c = search start_neither
