-- How a word is read, set of pairs by set of pairs.
use Rattle.std.specs.Prelude.{◌≡◌, ℕ, List, [], ◌∷◌, ◌++◌, map, filter, reverse, nat_eq}
use Rattle.std.specs.Global.{Vec}
use Rattle.nwa_base.specs.declared.letters.Kind.TheVariants as kinds
use Rattle.nwa_base.specs.declared.letters.Letter.{Letter}
use Rattle.nwa_base.specs.declared.reading.Step.{Step}
use Rattle.nwa_base.specs.declared.reading.Step.TheVariants as steps
use Rattle.nwa_base.specs.Automata.{Automaton}
use Rattle.nwa_base.specs.Pairs.{IsInsideOf, IsCallOf, IsBackOf}

-- each of the ends, with the key
abbrev pub keyed : ℕ → List ℕ → List (ℕ × ℕ)
keyed key to = map (λ e. (key, e)) to

-- for each pair of a set its ends, with its key
abbrev pub expanded : (ℕ × ℕ → ℕ) → (ℕ × ℕ → List ℕ) → List (ℕ × ℕ) → List (ℕ × ℕ)
expanded key to [] = []
expanded key to (x ∷ s) = keyed (key x) (to x) ++ expanded key to s

-- the second parts of the pairs with this first part
abbrev pub seconds : ℕ → List (ℕ × ℕ) → List ℕ
seconds p s = map (λ x. x.1) (filter (λ x. nat_eq x.0 p) s)

-- the sets before the open calls, innermost first; the last that was saved is the innermost
abbrev pub sets_of : List (Vec (ℕ × ℕ)) → List (List (ℕ × ℕ))
sets_of saved = reverse (map (λ s. s.items) saved)

-- The letter a turned the sets into the next ones, innermost first, and the step keeps the sets that are then no longer
-- among them.
abbrev pub IsStep : Automaton → Letter → Step → List (List (ℕ × ℕ)) → List (List (ℕ × ℕ)) → Type 0
IsStep m a step [] next = ⊥
IsStep m a step (s ∷ sets) [] = ⊥
IsStep m a (steps.Inside before) (s ∷ sets) (t ∷ next) =
    (a.kind ≡ kinds.Inside) × (before.items ≡ s) × (sets ≡ next) × IsInsideOf m a s t
IsStep m a steps.Call (s ∷ sets) (t ∷ next) = (a.kind ≡ kinds.Call) × (s ∷ sets ≡ next) × IsCallOf m a s t
IsStep m a (steps.Back outer before) (s ∷ sets) (t ∷ next) =
    (a.kind ≡ kinds.Back) × (before.items ≡ s) × (sets ≡ outer.items ∷ next) × IsBackOf m a outer.items s t
