-- What the walks of `lines` and `read_lines` share.
--     Spots        `derivations::Places`, as a type
--     learns       P ∗ ⌜φ⌝ ∗ ⌜χ⌝ ∗ ⌜ψ⌝ as a hypothesis: all three are learned
--     shows-all    P is left of a goal P ∗ ⌜φ⌝ ∗ ⌜χ⌝ ∗ ⌜ψ⌝ whose facts are shown
-- The two laws are for a contract with three `requires`: their facts are learned at entry, and shown at a call. They take `Logic`; the type assumes nothing.
use mathlib.Core.List.{[], ◌∷◌}
use Rattle.derivation.specs.DerivationRead.{places_slots}
use seplogic.Ra.Ura.{Ura}
use base.Logic.{SProp, ent, sep}
use types.Logic.{Logic}
use contract.Monad.{fact}
use types.Kit.{raw, ◌⊛◌, ◌$◌, ◌∵◌, !, qed, by, move, split, suffices, frame, done}
use denote.Array.{Array}
use denote.Builtin.{u16}
use denote.RattleType.{RattleType}
use denote.Steps.{heard}
use denote.Triple.Walked.{says}

abbrev pub Spots : RattleType
Spots = Array u16 places_slots

module _ {M : Type 1} {𝓤 : Ura M} (𝓛 : Logic 𝓤) (P : SProp 𝓤) (φ χ ψ : Type 0) where
  pub learns : {Q : SProp 𝓤} → (φ → χ → ψ → ent 𝓤 P Q) → ent 𝓤 (sep 𝓤 P (sep 𝓤 (fact 𝓤 φ) (sep 𝓤 (fact 𝓤 χ) (fact 𝓤 ψ)))) Q
  learns h = qed 𝓛 (raw P ∷ (raw (fact 𝓤 φ) ⊛ raw (fact 𝓤 χ) ⊛ raw (fact 𝓤 ψ)) ∷ []) ∵ move ! (1 ∷ []) $ split ! $ heard ! φ (λ x. split ! $ heard ! χ (λ y. heard ! ψ (λ z. by ! (h x y z))))

  in_turn : ent 𝓤 (sep 𝓤 (sep 𝓤 (sep 𝓤 P (fact 𝓤 φ)) (fact 𝓤 χ)) (fact 𝓤 ψ)) (sep 𝓤 P (sep 𝓤 (fact 𝓤 φ) (sep 𝓤 (fact 𝓤 χ) (fact 𝓤 ψ))))
  in_turn = qed 𝓛 ((((raw P ⊛ raw (fact 𝓤 φ)) ⊛ raw (fact 𝓤 χ)) ⊛ raw (fact 𝓤 ψ)) ∷ []) ∵ split ! $ split ! $ split ! $ frame ! $ frame ! $ frame ! $ done !

  pub shows_all : φ → χ → ψ → ent 𝓤 P (sep 𝓤 P (sep 𝓤 (fact 𝓤 φ) (sep 𝓤 (fact 𝓤 χ) (fact 𝓤 ψ))))
  shows_all x y z = qed 𝓛 (raw P ∷ []) ∵ suffices ! _ in_turn $ says ! z $ says ! y $ says ! x $ done !
