-- Each item of a plan that was read stands at its first byte: an action at its own number, which is not 255, and a branching at 255. By the one
-- induction over the readers of a plan. Assumes nothing.
use Prim.Native.Nat.{ℕ, ◌<◌}
use mathlib.Core.Path.{◌≡◌, refl, sym, ◌∙◌, subst}
use mathlib.Core.List.{List}
use mathlib.Core.Logic.{inl, inr, ⊎_elim}
use lib.ListN.{length, get_or}
use borrow.Author.Tests.{leb-false, eqb-true, eqb-false}
use Rattle.meaning.specs.Limits
use Rattle.meaning.specs.Limits.{Limits}
use Rattle.meaning.specs.Requests.{Sequence, done, item, Item, act, branching, Branches, none, branch, Request}
use Rattle.meaning.specs.Reading.{Flags, got, Met, literals, fluents, list_at, plan_at, table_at, request_at, read_request}
use Rattle.meaning.specs.Reported.{ItemIn, ItemOf, ItemUnder, item_place}
use Rattle.meaning.proofs.SettledLaws.{got_same}
use Rattle.meaning.proofs.RangeLaws.{not_refused, after_got, byte_got}
use Rattle.meaning.proofs.PlanReads.{Said, PassedOn, plan_on}
use Rattle.meaning.proofs.KeptEnds.{OnPlaces, OnPlacesItem, OnPlacesBelow}

-- An item's first byte is there, of a request with m actions.
abbrev pub FirstByte : List ℕ → (m : ℕ) → Item ℕ → Type 0
FirstByte s m (act p a) = (get_or s p 0 ≡ a) × (a < m) × (a ≡ Limits.branching_byte → ⊥)
FirstByte s m (branching p bs) = get_or s p 0 ≡ Limits.branching_byte

pub record StandsThere (s : List ℕ) (m : ℕ) (i : Item ℕ) : Type 0 where
  pub there : item_place i < length s
  pub byte : FirstByte s m i

module _ (lim : Limits) (n m : ℕ) (s : List ℕ) where
  abbrev EachThere : (Item ℕ → Type 0) → Type 0
  EachThere Items = (i : Item ℕ) → Items i → StandsThere s m i

  abbrev bytes_there : Said
  bytes_there = record {
    item = λ deep p met x e. EachThere (ItemOf x.value);
    items = λ deep left p met x e. EachThere (ItemIn x.value);
    sequence = λ deep p met x e. EachThere (ItemIn x.value);
    branches = λ deep left p met x e. EachThere (ItemUnder x.value);
  }

  there_passed : PassedOn lim n m s bytes_there
  unfolding item_place
  there_passed = record {
    an_action = λ deep p met x q read _ other within i is.
        let one = byte_got s p x q read in
        subst (StandsThere s m) (sym is) (record { there = one.0; byte = (one.1, leb-false m x within, eqb-false _ _ other) });
    a_branching = λ deep p met x q c r bs e read _ opens _ all i.
        let one = byte_got s p x q read in
        ⊎_elim (λ is. subst (StandsThere s m) (sym is) (record { there = one.0; byte = one.1 ∙ eqb-true _ _ opens })) (all i);
    no_item = λ deep p met i h. absurd h;
    an_item = λ deep left p met i q rest e one more j. ⊎_elim (one j) (more j);
    a_sequence = λ deep p met c q b e _ all. all;
    no_branch = λ deep p met i h. absurd h;
    a_branch = λ deep left p met c q b r rest e _ _ one more j. ⊎_elim (one j) (more j);
  }

  -- A PLAN that was read.
  pub plan_there : (p : ℕ) (x : Met (Sequence ℕ)) (e : ℕ) → plan_at lim Flags n m s p ≡ got x e → EachThere (ItemIn x.value)
  plan_there p x e = (plan_on lim n m s bytes_there there_passed p).holds x e

-- A REQUEST that was read.
pub items_there : (lim : Limits) (b : List ℕ) (r : Request) (e : ℕ) → read_request lim Flags b ≡ got r e → (i : Item ℕ) → ItemIn r.plan i → StandsThere b r.table.actions i
unfolding read_request request_at
items_there lim b r e reads =
    after_got (table_at lim Flags b 0) _ (not_refused _ _ _ _ reads).1 λ t p₁ _ e₁.
    after_got (request_at lim Flags b t p₁) _ e₁ λ q p₂ eq e₂.
    after_got (plan_at lim Flags t.fluents t.actions b p₁) _ eq λ plan p₃ read e₃.
    after_got (list_at literals t.fluents lim.listed b p₃) _ e₃ λ goals p₄ _ e₄.
    after_got (list_at fluents t.fluents lim.listed b p₄) _ e₄ λ whether p₅ _ same.
    subst (λ (x : Request). (i : Item ℕ) → ItemIn x.plan i → StandsThere b x.table.actions i) (got_same same ∙ got_same (not_refused _ _ _ _ e₂).1)
    (plan_there lim t.fluents t.actions b p₁ plan p₃ read)

-- WHAT IS SO OF EACH ITEM'S PLACE is so on the places of the plan.
module _ (Place : ℕ → Type 0) where
  mutual
    unfolding item_place

    pub places_on : (b : Sequence ℕ) → ((i : Item ℕ) → ItemIn b i → Place (item_place i)) → OnPlaces Place b
    places_on done each = tt
    places_on (item i rest) each = (places_on_item i (λ j h. each j (inl h)), places_on rest (λ j h. each j (inr h)))

    places_on_item : (i : Item ℕ) → ((j : Item ℕ) → ItemOf i j → Place (item_place j)) → OnPlacesItem Place i
    places_on_item (act p a) each = each (act p a) refl
    places_on_item (branching p bs) each = (each (branching p bs) (inl refl), places_on_below bs (λ j h. each j (inr h)))

    places_on_below : (bs : Branches ℕ) → ((j : Item ℕ) → ItemUnder bs j → Place (item_place j)) → OnPlacesBelow Place bs
    places_on_below none each = tt
    places_on_below (branch c b bs) each = (places_on b (λ j h. each j (inl h)), places_on_below bs (λ j h. each j (inr h)))
