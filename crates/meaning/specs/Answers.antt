-- The numbers that each call answers (FORMAT section 4, 11.1, 17.38, 21.22, 22.17, 23.22, 24.24, 26.32).
use Rattle.std.specs.Prelude.{ℕ, List, [], ◌∷◌}
use Rattle.meaning.specs.declared.Layout.{Layout}
use Rattle.meaning.specs.declared.Layout.TheVariants.{Plain, Closing}
use Rattle.meaning.specs.Limits

-- The refusals of a request, and all that the walk call answers.
unfoldable pub refusals : List ℕ
refusals =
    Limits.too_long ∷ Limits.ends_too_soon ∷ Limits.count_outside ∷ Limits.too_large ∷ Limits.not_above ∷ Limits.complement_beside ∷
    Limits.contradictory_effects ∷ Limits.effect_and_knowledge ∷ Limits.not_exclusive ∷ Limits.nested_too_deep ∷ Limits.bytes_after ∷ Limits.too_many_items ∷ []

unfoldable pub answers : List ℕ
answers = Limits.verified ∷ Limits.goal_missed ∷ Limits.not_executable ∷ Limits.budget_spent ∷ Limits.state_length ∷ refusals

-- All that the guarded call answers.
unfoldable pub guarded_answers : List ℕ
guarded_answers = Limits.guard_broken ∷ answers

-- All that the call by cases answers.
unfoldable pub cases_answers : List ℕ
cases_answers = Limits.too_many_cases ∷ answers

-- The refusals of a values request, and all that the values call answers.
unfoldable pub values_refusals : List ℕ
values_refusals = Limits.says_is_not ∷ refusals

unfoldable pub values_answers : List ℕ
values_answers = Limits.says_is_not ∷ answers

-- All that the index call answers, and all that the indexed call answers.
unfoldable pub index_answers : List ℕ
index_answers = Limits.verified ∷ Limits.room_short ∷ refusals

unfoldable pub indexed_answers : List ℕ
indexed_answers = Limits.index_differs ∷ answers

-- All that the derive call answers.
unfoldable pub derive_answers : List ℕ
derive_answers =
    Limits.verified ∷ Limits.goal_missed ∷ Limits.not_executable ∷ Limits.budget_spent ∷ Limits.whether_asked ∷ Limits.sensing_too_wide ∷
    Limits.too_many_lines ∷ Limits.room_short ∷ refusals

-- The release call's own refusals but 9, all its own answers, and what a plan's row may say.
unfoldable pub release_refusals : List ℕ
release_refusals =
    Limits.too_long ∷ Limits.ends_too_soon ∷ Limits.count_outside ∷ Limits.too_large ∷ Limits.not_above ∷ Limits.complement_beside ∷
    Limits.contradictory_effects ∷ Limits.effect_and_knowledge ∷ Limits.bytes_after ∷ []

unfoldable pub release_answers : List ℕ
release_answers = Limits.verified ∷ Limits.state_length ∷ release_refusals

unfoldable pub row_answers : List ℕ
row_answers =
    Limits.verified ∷ Limits.goal_missed ∷ Limits.not_executable ∷ Limits.budget_spent ∷ Limits.ends_too_soon ∷ Limits.count_outside ∷ Limits.too_large ∷
    Limits.not_above ∷ Limits.complement_beside ∷ Limits.not_exclusive ∷ Limits.nested_too_deep ∷ Limits.too_many_items ∷ Limits.not_reached ∷ []

-- The refusals of a derivation, and all that the derivation call and the whether call answer.
unfoldable pub end_fault : Layout → ℕ
end_fault Plain = Limits.not_the_question
end_fault Closing = Limits.closing_not_right

unfoldable pub faults : Layout → List ℕ
faults layout = Limits.no_such_rule ∷ Limits.not_earlier ∷ Limits.citations_not_taken ∷ Limits.does_not_follow ∷ end_fault layout ∷ refusals

unfoldable pub check_answers : Layout → List ℕ
check_answers Plain = Limits.verified ∷ Limits.whether_asked ∷ faults Plain
check_answers Closing = Limits.verified ∷ faults Closing
