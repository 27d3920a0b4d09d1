-- Opens every definition that a guide answers by: a proof that computes an answer says `unfolding guide_open`.
use Rattle.meaning.proofs.Compute.{all_open}
use Rattle.guidance.specs.Guides.{refused_start, start_walked, start_got, start, ahead_in, ahead, sensed_from, sensed, literal_read, literals_read, against, state_done, stays, met, take_over, next}

unfoldable pub guide_open : Type 0
unfolding all_open refused_start start_walked start_got start ahead_in ahead sensed_from sensed literal_read literals_read against state_done stays met take_over next
guide_open = Unit {0}
