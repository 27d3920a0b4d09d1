-- Where a line stands does not matter to any rule, to 18 or to the question: plans are compared wherever they stand, and a rule looks at lines
-- only so. Assumes nothing.
use Prim.Native.Nat.{ℕ, zero, suc}
use mathlib.Core.Path.{◌≡◌, refl, sym, ◌∙◌, ap, ap₂}
use mathlib.Core.Bool.{Bool}
use mathlib.Core.List.{List, [], ◌∷◌, map}
use lib.ListN.{length-map, get_or, get_or-map}
use Rattle.meaning.specs.Limits.{Limits}
use Rattle.meaning.specs.Requests.{Table, Sequence, done, item, Item, act, branching, Branches, none, branch, Request, unplaced, unplaced_item, unplaced_branches}
use Rattle.meaning.specs.Refusals.{Found, nowhere, at, overlap_in}
use Rattle.meaning.specs.States.{State, state_of}
use Rattle.meaning.specs.Derivations.{Conclusion, Line, overlap_in_lines, same_plan, same_item, same_branches, join, says, of_one, of_two, rule_1, takes_branch, branches_first, rule_4, rule_5, rule_6, rule_8, each_reads, acts, one_action, rule_2, reads, senses_first, rule_3, one_look, rule_7, given_by, for_lists, follows, cited_by, asks_for, names}
use Rattle.meaning.proofs.RefusalLaws.{at≢nowhere, unplaced_found, unplaced_or_else, unplaced_18}

-- PLANS are compared and joined without their places.
mutual
  unfolding same_plan

  pub same_placeless : (p q : Sequence ℕ) → same_plan (unplaced p) (unplaced q) ≡ same_plan p q
  same_placeless done done = refl
  same_placeless done (item j q) = refl
  same_placeless (item i p) done = refl
  same_placeless (item i p) (item j q) = rw (same_placeless_item i j, same_placeless p q)

  same_placeless_item : (i j : Item ℕ) → same_item (unplaced_item i) (unplaced_item j) ≡ same_item i j
  same_placeless_item (act p a) (act q b) = refl
  same_placeless_item (act p a) (branching q cs) = refl
  same_placeless_item (branching p bs) (act q b) = refl
  same_placeless_item (branching p bs) (branching q cs) = same_placeless_branches bs cs

  same_placeless_branches : (bs cs : Branches ℕ) → same_branches (unplaced_branches bs) (unplaced_branches cs) ≡ same_branches bs cs
  same_placeless_branches none none = refl
  same_placeless_branches none (branch d q cs) = refl
  same_placeless_branches (branch c p bs) none = refl
  same_placeless_branches (branch c p bs) (branch d q cs) = rw (same_placeless p q, same_placeless_branches bs cs)

pub join_placeless : (p q : Sequence ℕ) → join (unplaced p) (unplaced q) ≡ unplaced (join p q)
unfolding join
join_placeless done q = refl
join_placeless (item i p) q = ap (λ (r : Sequence ℕ). item (unplaced_item i) r) (join_placeless p q)

-- LINES, with every place taken as 0.
abbrev pub unplaced_line : Line → Line
unplaced_line l = record { place = 0; X = l.X; c = unplaced l.c; Y = l.Y; rule = l.rule; cites = l.cites }

abbrev pub unplaced_lines : List Line → List Line
unplaced_lines = map unplaced_line

says_placeless : (l : Line) (X : List ℕ) (c : Sequence ℕ) (Y : Conclusion) → says (unplaced_line l) X (unplaced c) Y ≡ says l X c Y
unfolding says
says_placeless l X c Y = rw (same_placeless l.c c)

-- THE RULES.
one_placeless : (f g : Line → Bool) → ((x : Line) → f (unplaced_line x) ≡ g x) → (ls : List Line) → of_one f (unplaced_lines ls) ≡ of_one g ls
unfolding of_one
one_placeless f g same [] = refl
one_placeless f g same (x ∷ []) = same x
one_placeless f g same (x ∷ (y ∷ ys)) = refl

two_placeless : (f g : Line → Line → Bool) → ((x y : Line) → f (unplaced_line x) (unplaced_line y) ≡ g x y) → (ls : List Line) → of_two f (unplaced_lines ls) ≡ of_two g ls
unfolding of_two
two_placeless f g same [] = refl
two_placeless f g same (x ∷ []) = refl
two_placeless f g same (x ∷ (y ∷ [])) = same x y
two_placeless f g same (x ∷ (y ∷ (z ∷ zs))) = refl

rule_1_placeless : (l : Line) → rule_1 (unplaced_line l) ≡ rule_1 l
unfolding rule_1
rule_1_placeless l = rw (same_placeless l.c done)

branch_placeless : (X : List ℕ) (bs : Branches ℕ) (rest : Sequence ℕ) (Y : Conclusion) (x : Line) → takes_branch X (unplaced_branches bs) (unplaced rest) Y (unplaced_line x) ≡ takes_branch X bs rest Y x
unfolding takes_branch
branch_placeless X none rest Y x = refl
branch_placeless X (branch c b bs) rest Y x = rw (join_placeless b rest, says_placeless x X (join b rest) Y, branch_placeless X bs rest Y x)

pub branches_placeless : (x l : Line) (c : Sequence ℕ) → branches_first (unplaced_line x) (unplaced_line l) (unplaced c) ≡ branches_first x l c
unfolding branches_first
branches_placeless x l done = refl
branches_placeless x l (item (act p a) rest) = refl
branches_placeless x l (item (branching p bs) rest) = branch_placeless l.X bs rest l.Y x

rule_4_placeless : (x l : Line) → rule_4 (unplaced_line x) (unplaced_line l) ≡ rule_4 x l
unfolding rule_4
rule_4_placeless x l = branches_placeless x l l.c

rule_5_placeless : (x y l : Line) → rule_5 (unplaced_line x) (unplaced_line y) (unplaced_line l) ≡ rule_5 x y l
unfolding rule_5
rule_5_placeless x y l = rw (join_placeless x.c y.c, same_placeless (join x.c y.c) l.c)

rule_6_placeless : (x l : Line) → rule_6 (unplaced_line x) (unplaced_line l) ≡ rule_6 x l
unfolding rule_6
rule_6_placeless x l = rw (same_placeless x.c l.c)

rule_8_placeless : (x l : Line) → rule_8 (unplaced_line x) (unplaced_line l) ≡ rule_8 x l
unfolding rule_8
rule_8_placeless x l = rw (same_placeless x.c l.c)

each_placeless : (rest : Sequence ℕ) (Y : Conclusion) (ss : List State) (ls : List Line) → each_reads (unplaced rest) Y ss (unplaced_lines ls) ≡ each_reads rest Y ss ls
unfolding each_reads
each_placeless rest Y [] [] = refl
each_placeless rest Y [] (l ∷ ls) = refl
each_placeless rest Y (s ∷ ss) [] = refl
each_placeless rest Y (s ∷ ss) (l ∷ ls) = rw (says_placeless l _ rest Y, each_placeless rest Y ss ls)

module _ (lim : Limits) (t : Table) where
  pub acts_placeless : (l : Line) (c : Sequence ℕ) → one_action lim t (unplaced_line l) (unplaced c) ≡ one_action lim t l c
  unfolding one_action acts
  acts_placeless l done = refl
  acts_placeless l (item (act p a) done) = refl
  acts_placeless l (item (act p a) (item i rest)) = refl
  acts_placeless l (item (branching p bs) rest) = refl

  reads_placeless : (cited : List Line) (l : Line) (a : ℕ) (rest : Sequence ℕ) (s : State) → reads lim t (unplaced_lines cited) (unplaced_line l) a (unplaced rest) s ≡ reads lim t cited l a rest s
  unfolding reads
  reads_placeless cited l a rest s = rw (length-map cited unplaced_line, each_placeless rest l.Y _ cited)

  pub senses_placeless : (cited : List Line) (l : Line) (c : Sequence ℕ) → senses_first lim t (unplaced_lines cited) (unplaced_line l) (unplaced c) ≡ senses_first lim t cited l c
  unfolding senses_first
  senses_placeless cited l done = refl
  senses_placeless cited l (item (act p a) rest) = reads_placeless cited l a rest (state_of lim l.X)
  senses_placeless cited l (item (branching p bs) rest) = refl

  pub look_placeless : (l : Line) (c : Sequence ℕ) → one_look lim t (unplaced_line l) (unplaced c) ≡ one_look lim t l c
  unfolding one_look
  look_placeless l done = refl
  look_placeless l (item (act p a) done) = refl
  look_placeless l (item (act p a) (item i rest)) = refl
  look_placeless l (item (branching p bs) rest) = refl

  given_placeless : (rule : ℕ) (cited : List Line) (l : Line) → given_by lim t rule (unplaced_lines cited) (unplaced_line l) ≡ given_by lim t rule cited l
  unfolding given_by rule_2 rule_3 rule_7
  given_placeless rule cited l =
      rw (
        rule_1_placeless l,
        acts_placeless l l.c,
        senses_placeless cited l l.c,
        one_placeless (λ x. rule_4 x (unplaced_line l)) (λ x. rule_4 x l) (λ x. rule_4_placeless x l) cited,
        two_placeless (λ x y. rule_5 x y (unplaced_line l)) (λ x y. rule_5 x y l) (λ x y. rule_5_placeless x y l) cited,
        one_placeless (λ x. rule_6 x (unplaced_line l)) (λ x. rule_6 x l) (λ x. rule_6_placeless x l) cited,
        look_placeless l l.c,
        one_placeless (λ x. rule_8 x (unplaced_line l)) (λ x. rule_8 x l) (λ x. rule_8_placeless x l) cited,
      )

-- The lines that a line cites, by their numbers.
cited_placeless : (lines : List Line) (l : Line) → cited_by (unplaced_lines lines) (unplaced_line l) ≡ unplaced_lines (cited_by lines l)
unfolding cited_by
cited_placeless lines l = go l.cites
  where
    go : (ks : List ℕ) → map (λ (k : ℕ). get_or (unplaced_lines lines) k (unplaced_line l)) ks ≡ unplaced_lines (map (λ (k : ℕ). get_or lines k l) ks)
    go [] = refl
    go (k ∷ ks) = ap₂ {C = List Line} (λ x xs. x ∷ xs) (get_or-map unplaced_line lines k l) (go ks)

pub follows_placeless : (lim : Limits) (t : Table) (lines : List Line) (l : Line) → follows lim t (cited_by (unplaced_lines lines) (unplaced_line l)) (unplaced_line l) ≡ follows lim t (cited_by lines l) l
unfolding follows
follows_placeless lim t lines l = rw (cited_placeless lines l, given_placeless lim t (for_lists l.rule) (cited_by lines l) l)

-- 18.
overlap_placeless : (ls : List Line) → unplaced_found (overlap_in_lines ls) ≡ overlap_in_lines (unplaced_lines ls)
unfolding overlap_in_lines
overlap_placeless [] = refl
overlap_placeless (l ∷ ls) = unplaced_or_else (overlap_in l.c) _ ∙ rw (unplaced_18 l.c, overlap_placeless ls)

pub nowhere_placeless : (ls ks : List Line) → unplaced_lines ls ≡ unplaced_lines ks → overlap_in_lines ls ≡ nowhere → overlap_in_lines ks ≡ nowhere
nowhere_placeless ls ks same clear =
    let neither : unplaced_found (overlap_in_lines ks) ≡ nowhere = overlap_placeless ks ∙ ap overlap_in_lines (sym same) ∙ sym (overlap_placeless ls) ∙ ap unplaced_found clear in
    go (overlap_in_lines ks) neither
  where
    go : (f : Found) → unplaced_found f ≡ nowhere → f ≡ nowhere
    go nowhere e = refl
    go (at p) e = absurd (at≢nowhere e)

-- THE QUESTION, of the request with its plan's places left out too.
abbrev unplaced_plan : Request → Request
unplaced_plan r = record { table = r.table; plan = unplaced r.plan; goals = r.goals; whether = r.whether; whether_place = r.whether_place }

names_placeless : (r : Request) (ls : List Line) (k : ℕ) (Y : Conclusion) → names (unplaced_plan r) (unplaced_lines ls) k Y ≡ names r ls k Y
unfolding names asks_for
names_placeless r [] k Y = refl
names_placeless r (l ∷ ls) zero Y = says_placeless l r.table.facts r.plan Y
names_placeless r (l ∷ ls) (suc k) Y = names_placeless r ls k Y

pub named_placeless : (r : Request) (ls js : List Line) → unplaced_lines ls ≡ unplaced_lines js → (k : ℕ) (Y : Conclusion) → names r ls k Y ≡ names r js k Y
named_placeless r ls js same k Y = sym (names_placeless r ls k Y) ∙ ap (λ (xs : List Line). names (unplaced_plan r) xs k Y) same ∙ names_placeless r js k Y
