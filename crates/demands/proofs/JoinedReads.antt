-- Joined plans as they are read: the items of the first where they were, and behind them those of the second, so many bytes further on. The items of each
-- plan are read alike wherever they stand and whatever follows them, also after items of another plan. Assumes nothing.
use Prim.Native.Nat.{ℕ, ◌+◌, ◌*◌, ◌≤◌, ◌<◌}
use native.Mathlib.Omega.{arith}
use mathlib.Core.Path.{◌≡◌, refl, sym, ◌∙◌, ap, ap₂, subst}
use mathlib.Core.List.{List, [], ◌∷◌, ◌++◌, append_assoc}
use lib.ListN.{length, length-append, length-drop, get_or, drop, get_or-append}
use Rattle.meaning.specs.Limits.{Limits}
use Rattle.meaning.specs.Requests.{Sequence, done, item, unplaced}
use Rattle.meaning.specs.declared.Form.TheVariants.{Flags}
use Rattle.meaning.specs.Reading.{Got, got, byte_at, two_bytes_at, Met, item_at, items_at, sequence_at, branching_at, plan_at}
use Rattle.meaning.specs.Layouts.{number_written}
use Rattle.meaning.specs.Derivations.{join}
use Rattle.demands.specs.Reuse.{items_said, join_plans}
use Rattle.meaning.proofs.SettledLaws.{got_same, next_got}
use Rattle.meaning.proofs.RangeLaws.{after_got, got_place, byte_got}
use Rattle.meaning.proofs.KeptReads.{kept_of, items_kept, item_kept, branching_kept}
use Rattle.demands.proofs.ShiftedReads.{moved_plan, moved_item, moved_part, shifted_got, items_shifted, item_shifted, branching_shifted}
use Rattle.demands.proofs.PartReads.{behind_length, behind_byte}
use Rattle.demands.proofs.PartsAlike.{unplaced_moved}
use Rattle.demands.proofs.LaterItems.{Sooner, plan_items_sooner, TwoStretches, two_stretches}
use Rattle.demands.proofs.JoinLaws.{items_joined, behind_count}

pub moved_joined : (on : ℕ) (p q : Sequence ℕ) → moved_plan on (join p q) ≡ join (moved_plan on p) (moved_plan on q)
unfolding join
moved_joined on done q = refl
moved_joined on (item i p) q = ap {B = Sequence ℕ} (λ r. item (moved_item on i) r) (moved_joined on p q)

module _ (lim : Limits) (n m : ℕ) where
  -- As many items of a plan, from a place of the input on.
  abbrev items_of : List ℕ → (left p met : ℕ) → Got (Met (Sequence ℕ))
  items_of s left p met = items_at lim Flags n m s (item_at lim Flags n m s (branching_at lim Flags n m s lim.nested)) left p met

  -- They are read alike so many bytes further on,
  items_behind : (pre w : List ℕ) (left p q met : ℕ) → p ≡ q + length pre → (x : Met (Sequence ℕ)) (e : ℕ) → items_of (pre ++ w) left p met ≡ got x e
      → (y : Met (Sequence ℕ)) × (f : ℕ) × (items_of w left q met ≡ got y f) × (x ≡ moved_part (moved_plan (length pre)) y) × (e ≡ f + length pre)
  items_behind pre w left p q met far x e read =
      let on = length pre in
      let long = behind_length pre w in
      let same = behind_byte pre w in
      let s = pre ++ w in
      shifted_got s w on 0 long same (moved_part (moved_plan on)) _ _
      (items_shifted s w on 0 long same lim n m _ _ (item_shifted s w on 0 long same lim n m _ _ (branching_shifted s w on 0 long same lim n m lim.nested)) left p q met far (omega arith)) x e read

  -- and whatever follows them,
  items_before : (a y z : List ℕ) (left met : ℕ) (x : Met (Sequence ℕ)) → items_of (a ++ y) left 0 met ≡ got x (length a) → items_of (a ++ z) left 0 met ≡ got x (length a)
  items_before a y z left met x read =
      let s = a ++ y in
      let u = a ++ z in
      let far = length a in
      let long = length-append a z in
      let room : far ≤ length u = omega (arith, long) in
      let same : (p : ℕ) → p < far → get_or u p 0 ≡ get_or s p 0 = λ p less. get_or-append a z 0 p less ∙ sym (get_or-append a y 0 p less) in
      (kept_of s u far room same 0 (items_of s left 0 met) (items_of u left 0 met)
      (items_kept s u far room same lim n m _ _ (item_kept s u far room same lim n m _ _ (branching_kept s u far room same lim n m lim.nested)) left 0 met) x far read).2 (omega arith)

  -- and they go on from where they begin.
  items_onward : (s : List ℕ) (left p met : ℕ) (x : Met (Sequence ℕ)) (e : ℕ) → items_of s left p met ≡ got x e → p ≤ e
  items_onward s left p met x e read =
      (kept_of s s 0 (omega arith) (λ i less. refl) p (items_of s left p met) (items_of s left p met)
      (items_kept s s 0 (omega arith) (λ i less. refl) lim n m _ _ (item_kept s s 0 (omega arith) (λ i less. refl) lim n m _ _ (branching_kept s s 0 (omega arith) (λ i less. refl) lim n m lim.nested)) left p met) x e read).0

  -- A PLAN is its count and its items.
  two_bytes_is : (s : List ℕ) (p k q : ℕ) → two_bytes_at s p ≡ got k q → (k ≡ get_or s p 0 * 256 + get_or s (p + 1) 0) × (q ≡ p + 2)
  unfolding two_bytes_at
  two_bytes_is s p k q read =
      after_got (byte_at s p) _ read λ high i eh rest.
      after_got (byte_at s i) _ rest λ low j el last.
      let one = byte_got s p high i eh in
      let two = byte_got s i low j el in
      let second : get_or s (p + 1) 0 ≡ low = ap (λ (o : ℕ). get_or s o 0) one.2 ∙ two.1 in
      (sym (got_same last) ∙ ap₂ (λ (h l : ℕ). h * 256 + l) (sym one.1) (sym second), sym (got_place last) ∙ omega (arith, one.2, two.2))

  abbrev PlanItems : (a rest : List ℕ) (start : ℕ) (x : Met (Sequence ℕ)) (e : ℕ) → Type 0
  PlanItems a rest start x e =
      (y : Met (Sequence ℕ)) × (f : ℕ) × (items_of (drop 2 a ++ rest) (items_said a) 0 0 ≡ got y f) × (x ≡ moved_part (moved_plan (start + 2)) y) × (e ≡ f + (start + 2))

  plan_items : (pre a rest : List ℕ) → 2 ≤ length a → (x : Met (Sequence ℕ)) (e : ℕ) → plan_at lim Flags n m (pre ++ (a ++ rest)) (length pre) ≡ got x e → PlanItems a rest (length pre) x e
  unfolding plan_at sequence_at items_said
  plan_items pre [] rest long x e read = absurd (omega (arith, long))
  plan_items pre (h ∷ []) rest long x e read = absurd (omega (arith, long))
  plan_items pre (h ∷ (l ∷ items)) rest long x e read =
      let w = items ++ rest in
      let s = pre ++ (h ∷ (l ∷ w)) in
      let head = pre ++ (h ∷ l ∷ []) in
      let split : s ≡ head ++ w = sym (append_assoc pre (h ∷ l ∷ []) w) in
      let sized : length head ≡ length pre + 2 = length-append pre (h ∷ l ∷ []) in
      let a = next_got (two_bytes_at s (length pre)) _ read in
      let is = two_bytes_is s (length pre) a.0 a.1 a.2 in
      let first : get_or s (length pre) 0 ≡ h = ap (λ (k : ℕ). get_or s k 0) (omega arith) ∙ behind_byte pre (h ∷ (l ∷ w)) 0 (omega arith) in
      let second : get_or s (length pre + 1) 0 ≡ l = ap (λ (k : ℕ). get_or s k 0) (omega arith) ∙ behind_byte pre (h ∷ (l ∷ w)) 1 (omega arith) in
      let many : a.0 ≡ h * 256 + l = is.0 ∙ ap₂ (λ (b c : ℕ). b * 256 + c) first second in
      let there : items_of (head ++ w) (h * 256 + l) (length head) 0 ≡ got x e =
      ap (λ (u : List ℕ). items_of u (h * 256 + l) (length head) 0) (sym split)
      ∙ ap₂ (λ (k q : ℕ). items_of s k q 0) (sym many) (sized ∙ sym is.1) ∙ a.3 in
      let base = items_behind head w (h * 256 + l) (length head) 0 0 (omega arith) x e there in
      (base.0, base.1, base.2, base.3 ∙ ap (λ (k : ℕ). moved_part (moved_plan k) base.0) sized, base.4 ∙ ap (λ (k : ℕ). base.1 + k) sized)

  -- A plan that was read has its two count bytes.
  pub plan_long : (s : List ℕ) (p : ℕ) (x : Met (Sequence ℕ)) (e : ℕ) → plan_at lim Flags n m s p ≡ got x e → p + 2 ≤ e
  unfolding plan_at sequence_at
  plan_long s p x e read =
      let a = next_got (two_bytes_at s p) _ read in
      let is = two_bytes_is s p a.0 a.1 a.2 in
      let on = items_onward s a.0 a.1 0 x e a.3 in
      omega (arith, is.1, on)

  -- TWO PLANS JOINED.
  module _ (pre a rest before b behind : List ℕ) (x y z : Met (Sequence ℕ)) (e : ℕ)
      (first : plan_at lim Flags n m (pre ++ (a ++ rest)) (length pre) ≡ got x (length pre + length a))
      (second : plan_at lim Flags n m (before ++ (b ++ behind)) (length before) ≡ got y (length before + length b))
      (both : plan_at lim Flags n m (pre ++ (join_plans a b ++ behind)) (length pre) ≡ got z e) where
    abbrev one_items : List ℕ
    one_items = drop 2 a

    abbrev two_items : List ℕ
    two_items = drop 2 b

    abbrev on : ℕ
    on = length pre + 2

    one : PlanItems a rest (length pre) x (length pre + length a)
    one = plan_items pre a rest (omega (arith, plan_long _ _ x _ first)) x _ first

    two : PlanItems b behind (length before) y (length before + length b)
    two = plan_items before b behind (omega (arith, plan_long _ _ y _ second)) y _ second

    one_end : one.1 ≡ length one_items
    one_end = omega (arith, plan_long _ _ x _ first, one.4, length-drop 2 a)

    two_end : two.1 ≡ length two_items
    two_end = omega (arith, plan_long _ _ y _ second, two.4, length-drop 2 b)

    joined_length : length (join_plans a b) ≡ 2 + (length one_items + length two_items)
    unfolding join_plans number_written
    joined_length = let all = length-append one_items two_items in omega (arith, all)

    three : PlanItems (join_plans a b) behind (length pre) z e
    three = plan_items pre (join_plans a b) behind (omega (arith, joined_length)) z e both

    abbrev after_one : List ℕ
    after_one = two_items ++ behind

    stretches : TwoStretches lim n m (one_items ++ after_one) (item_at lim Flags n m (one_items ++ after_one) (branching_at lim Flags n m (one_items ++ after_one) lim.nested)) (items_said a) (items_said b) 0 0 three.0 three.1
    stretches =
        two_stretches lim n m (one_items ++ after_one) _ (items_said a) (items_said b) 0 0 three.0 three.1
        (ap₂ (λ (s : List ℕ) (k : ℕ). items_of s k 0 0) (sym (ap (λ (s : List ℕ). s ++ behind) (behind_count a b) ∙ append_assoc one_items two_items behind)) (sym (items_joined a b)) ∙ three.2)

    -- The first stretch is the first plan's.
    first_same : got stretches.first stretches.middle ≡ got one.0 (length one_items)
    first_same =
        sym stretches.first_read
        ∙ items_before one_items rest after_one (items_said a) 0 one.0 (one.2 ∙ ap (λ (k : ℕ). got one.0 k) one_end)

    -- The second is the second plan's, so many bytes further on.
    second_behind : (y' : Met (Sequence ℕ)) × (f : ℕ) × (items_of after_one (items_said b) 0 stretches.first.items ≡ got y' f) × (stretches.second ≡ moved_part (moved_plan (length one_items)) y') × (three.1 ≡ f + length one_items)
    second_behind =
        items_behind one_items after_one (items_said b) (length one_items) 0 stretches.first.items (omega arith) stretches.second three.1
        (ap (λ (k : ℕ). items_of (one_items ++ after_one) (items_said b) k stretches.first.items) (sym (got_place first_same)) ∙ stretches.second_read)

    second_same : (two.0.value ≡ second_behind.0.value) × (second_behind.1 ≡ length two_items)
    second_same =
        let more = stretches.first.items in
        let none : 0 + more ≡ more = omega arith in
        let sooner = plan_items_sooner more lim n m after_one lim.nested (items_said b) 0 0 in
        let w = subst (λ (h : Got (Met (Sequence ℕ))). Sooner more (items_of after_one (items_said b) 0 0) h) (ap (λ (k : ℕ). items_of after_one (items_said b) 0 k) none ∙ second_behind.2) sooner in
        let same = sym two.2 ∙ w.1 in
        (ap (λ (v : Met (Sequence ℕ)). v.value) (got_same same), sym (got_place same) ∙ two_end)

    pub plans_joined : (q : Sequence ℕ) × (z.value ≡ join x.value q) × (unplaced q ≡ unplaced y.value) × (e ≡ length pre + length (join_plans a b))
    plans_joined =
        let v = second_behind.0.value in
        let q = moved_plan on (moved_plan (length one_items) v) in (
          q,
          ap (λ (u : Met (Sequence ℕ)). u.value) three.3
              ∙ ap (moved_plan on) stretches.value ∙ moved_joined on stretches.first.value stretches.second.value
              ∙ ap₂ {C = Sequence ℕ} (λ c d. join c d)
              (ap (λ (u : Met (Sequence ℕ)). moved_plan on u.value) (got_same first_same) ∙ sym (ap (λ (u : Met (Sequence ℕ)). u.value) one.3))
              (ap (λ (u : Met (Sequence ℕ)). moved_plan on u.value) second_behind.3),
          unplaced_moved on (moved_plan (length one_items) v) ∙ unplaced_moved (length one_items) v ∙ ap unplaced (sym second_same.0)
              ∙ sym (unplaced_moved (length before + 2) two.0.value) ∙ sym (ap (λ (u : Met (Sequence ℕ)). unplaced u.value) two.3),
          omega (arith, three.4, second_behind.4, second_same.1, joined_length),
        )
