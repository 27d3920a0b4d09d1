-- Every limit, answer, input and mark, named once (FORMAT sections 3 and 4).
use Rattle.std.specs.Prelude.{ℕ, ◌+◌, ◌*◌}

-- What the inputs may hold. The definitions take the limits as a parameter.
pub record Limits : Type 0 where
  pub fluents : ℕ
  pub actions : ℕ
  pub listed : ℕ
  pub body : ℕ
  pub branches : ℕ
  pub nested : ℕ
  pub items : ℕ
  pub request : ℕ
  pub derivation : ℕ
  pub state : ℕ
  pub lines : ℕ
  pub citations : ℕ

-- The limits of the format (FORMAT 3.2 to 3.15).
abbrev pub format : Limits
format = record {
  fluents = 128;
  actions = 128;
  listed = 128;
  body = 16;
  branches = 8;
  nested = 8;
  items = 1024;
  request = 16384;
  derivation = 32768;
  state = 128;
  lines = 1024;
  citations = 64;
}

-- The limits that the format had before (FORMAT 3.18). Only what is said of answers that stay speaks of them.
abbrev pub former : Limits
former = record {
  fluents = 64;
  actions = 64;
  listed = 64;
  body = format.body;
  branches = format.branches;
  nested = format.nested;
  items = format.items;
  request = format.request;
  derivation = format.derivation;
  state = 64;
  lines = format.lines;
  citations = format.citations;
}

-- The plans that a release may hold. It is no field of the record: only the release call speaks of it.
abbrev pub most_plans : ℕ
most_plans = 64

-- The guards that a guarded request may have; only the guarded call speaks of it (FORMAT 21.2).
abbrev pub most_guards : ℕ
most_guards = 64

-- The unknown fluents that the bodies of an action may have where it is reasoned by cases; only the call by cases speaks of it (FORMAT 22.9).
abbrev pub most_open : ℕ
most_open = 12

-- The unknown fluents that a sensing action may have in a derivation: rule 3 cites a line for each reading, and a line has at most 64 citations; only the derive call speaks of it
-- (FORMAT 24.4).
abbrev pub most_forked : ℕ
most_forked = 6

-- The bytes that an index may have: two counts for each action, and two bytes for each line of sections 3 and 4, of which there are at most 255 each (FORMAT 23.5).
abbrev pub most_index : ℕ
most_index = 2 * format.actions + 4 * 255

-- The values that a fluent may have; only the values call speaks of it (FORMAT 26.2).
abbrev pub fewest_values : ℕ
fewest_values = 2

abbrev pub most_values : ℕ
most_values = 16

-- The format's literals are below twice its fluents (FORMAT 2.2, 2.3).
abbrev pub all_literals : ℕ
all_literals = 2 * format.fluents

-- The byte that opens a branching (FORMAT 2.24).
abbrev pub branching_byte : ℕ
branching_byte = 255

-- Answers (FORMAT 4.3 to 4.25, 17.35, 17.36, 21.10, 22.9, 23.8, 23.15, 24.16 to 24.18).
abbrev pub verified : ℕ
verified = 0

abbrev pub goal_missed : ℕ
goal_missed = 1

abbrev pub not_executable : ℕ
not_executable = 2

abbrev pub budget_spent : ℕ
budget_spent = 3

abbrev pub state_length : ℕ
state_length = 9

abbrev pub too_long : ℕ
too_long = 10

abbrev pub ends_too_soon : ℕ
ends_too_soon = 11

abbrev pub count_outside : ℕ
count_outside = 12

abbrev pub too_large : ℕ
too_large = 13

abbrev pub not_above : ℕ
not_above = 14

abbrev pub complement_beside : ℕ
complement_beside = 15

abbrev pub contradictory_effects : ℕ
contradictory_effects = 16

abbrev pub effect_and_knowledge : ℕ
effect_and_knowledge = 17

abbrev pub not_exclusive : ℕ
not_exclusive = 18

abbrev pub nested_too_deep : ℕ
nested_too_deep = 19

abbrev pub bytes_after : ℕ
bytes_after = 20

abbrev pub too_many_items : ℕ
too_many_items = 21

abbrev pub not_reached : ℕ
not_reached = 22

abbrev pub whether_asked : ℕ
whether_asked = 30

abbrev pub no_such_rule : ℕ
no_such_rule = 31

abbrev pub not_earlier : ℕ
not_earlier = 32

abbrev pub citations_not_taken : ℕ
citations_not_taken = 33

abbrev pub does_not_follow : ℕ
does_not_follow = 34

abbrev pub not_the_question : ℕ
not_the_question = 35

abbrev pub closing_not_right : ℕ
closing_not_right = 36

abbrev pub sensing_too_wide : ℕ
sensing_too_wide = 37

abbrev pub too_many_lines : ℕ
too_many_lines = 38

abbrev pub room_short : ℕ
room_short = 39

abbrev pub guard_broken : ℕ
guard_broken = 43

abbrev pub too_many_cases : ℕ
too_many_cases = 44

abbrev pub index_differs : ℕ
index_differs = 45

abbrev pub says_is_not : ℕ
says_is_not = 46

-- The rules of a derivation (FORMAT 10.12 to 10.17, 17.21 to 17.25).
abbrev pub empty_rule : ℕ
empty_rule = 1

abbrev pub action_rule : ℕ
action_rule = 2

abbrev pub sensing_rule : ℕ
sensing_rule = 3

abbrev pub branching_rule : ℕ
branching_rule = 4

abbrev pub composition_rule : ℕ
composition_rule = 5

abbrev pub consequence_rule : ℕ
consequence_rule = 6

abbrev pub look_rule : ℕ
look_rule = 7

abbrev pub literal_rule : ℕ
literal_rule = 8

abbrev pub sensing_whether_rule : ℕ
sensing_whether_rule = 10

abbrev pub composition_whether_rule : ℕ
composition_whether_rule = 11

abbrev pub branching_whether_rule : ℕ
branching_whether_rule = 12

-- The input that a place is in (FORMAT 4.26, 23.16).
abbrev pub neither_input : ℕ
neither_input = 0

abbrev pub the_request : ℕ
the_request = 1

abbrev pub the_derivation : ℕ
the_derivation = 2

abbrev pub the_index : ℕ
the_index = 3

-- Marks of a partial state (FORMAT 4.47, 7.1).
abbrev pub unknown_mark : ℕ
unknown_mark = 0

abbrev pub true_mark : ℕ
true_mark = 1

abbrev pub false_mark : ℕ
false_mark = 2
