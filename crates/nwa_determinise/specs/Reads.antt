-- Where a word leads that is read set by set, each set by its number.
use Rattle.std.specs.Prelude.{◌≡◌, ◌<◌, ℕ, List, [], ◌∷◌, length}
use Rattle.nwa_base.specs.declared.letters.Kind.{Kind}
use Rattle.nwa_base.specs.declared.letters.Kind.TheVariants.{Inside, Call, Back}
use Rattle.nwa_base.specs.declared.letters.Letter.{Letter}
use Rattle.nwa_base.specs.Pairs.{IsInsideOf, IsCallOf, IsBackOf}
use Rattle.nwa_determinise.specs.Kept.{Kept, set_at}

-- A letter of this kind leads from the set s to the set t, as the calls of `Det` answer. `before` are the sets before the
-- open calls, innermost first, and `after` those after the letter. A return needs one.
abbrev pub LeadsTo : Kept → Kind → Letter → List ℕ → ℕ → List ℕ → ℕ → Type 0
LeadsTo d Inside a before s after t =
    (s < length d.sets) × (t < length d.sets) × IsInsideOf d.nwa a (set_at d s) (set_at d t) × (after ≡ before)
LeadsTo d Call a before s after t =
    (s < length d.sets) × (t < length d.sets) × IsCallOf d.nwa a (set_at d s) (set_at d t) × (after ≡ s ∷ before)
LeadsTo d Back a [] s after t = ⊥
LeadsTo d Back a (b ∷ before) s after t =
    (b < length d.sets) × (s < length d.sets) × (t < length d.sets) × IsBackOf d.nwa a (set_at d b) (set_at d s) (set_at d t) × (after ≡ before)

-- the word leads from the set s to the set t, letter by letter
abbrev pub Reads : Kept → List ℕ → ℕ → List Letter → List ℕ → ℕ → Type 0
Reads d before s [] after t = (before ≡ after) × (s ≡ t)
Reads d before s (a ∷ w) after t =
    (mid : List ℕ) × (r : ℕ) × LeadsTo d a.kind a before s mid r × Reads d mid r w after t

-- from the start state paired with itself, the word leads to the set t
pub record ReadsFromStart (d : Kept) (w : List Letter) (t : ℕ) : Type 0 where
  pub first : ℕ
  pub start : set_at d first ≡ (d.nwa.start, d.nwa.start) ∷ []
  pub calls : List ℕ
  pub reads : Reads d [] first w calls t
