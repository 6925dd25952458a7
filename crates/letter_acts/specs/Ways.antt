-- Ways through nested words, for any notion of step: from the front with a stack, and by positions.
use Rattle.std.specs.Prelude.{◌≡◌, ℕ, List, [], ◌∷◌, Some, slice_get}
use Rattle.nwa_base.specs.declared.letters.Kind.{Kind}
use Rattle.nwa_base.specs.declared.letters.Kind.TheVariants.{Inside, Call, Back}
use Rattle.nwa_base.specs.declared.letters.Letter.{Letter}
use Rattle.nwa_base.specs.Words.{match_back}

-- what the letters allow between the members of X: from one to the next, and for a return from the one at the exit and
-- the one before the call to the next
pub record Steps (X : Type 0) : Type 1 where
  pub inside : Letter → X → X → Type 0
  pub call : Letter → X → X → Type 0
  pub back : Letter → X → X → X → Type 0

-- both kinds of step at once
abbrev pub both : {X Y : Type 0} → Steps X → Steps Y → Steps (X × Y)
both s t = record {
  inside = λ a x y. s.inside a x.0 y.0 × t.inside a x.1 y.1;
  call = λ a x y. s.call a x.0 y.0 × t.call a x.1 y.1;
  back = λ a x b y. s.back a x.0 b.0 y.0 × t.back a x.1 b.1 y.1;
}

-- A letter of this kind leads from x to y, and the rest holds of the stack after it. `before` are the members before the
-- calls that are open at x, innermost first. A return needs one.
abbrev pub Leads : {X : Type 0} → Steps X → Kind → Letter → List X → X → X → (List X → Type 0) → Type 0
Leads steps Inside a before x y rest = steps.inside a x y × rest before
Leads steps Call a before x y rest = steps.call a x y × rest (x ∷ before)
Leads steps Back a [] x y rest = ⊥
Leads steps Back a (b ∷ before) x y rest = steps.back a x b y × rest before

-- some way through the word leads from x to y, and turns the stack of the members before the open calls from `before` into `after`
abbrev pub Goes : {X : Type 0} → Steps X → List X → X → List Letter → List X → X → Type 0
Goes steps before x [] after y = (before ≡ after) × (x ≡ y)
Goes {X} steps before x (a ∷ w) after y = (z : X) × Leads steps a.kind a before x z (λ stack. Goes steps stack z w after y)

-- a letter of this kind leads from x to y; a return reads the run at the place of its match. `front` are the letters before, last first.
abbrev pub LeadsAt : {X : Type 0} → Steps X → List X → Kind → List Letter → Letter → X → X → Type 0
LeadsAt steps run Inside front a x y = steps.inside a x y
LeadsAt steps run Call front a x y = steps.call a x y
LeadsAt {X} steps run Back front a x y =
    (place : ℕ) × (b : X) × (match_back front 0 ≡ Some place) × (slice_get run place ≡ Some b) × steps.back a x b y

-- from the first of these on, the last of the run, each letter leads to the next
abbrev pub GoesOn : {X : Type 0} → Steps X → List X → List Letter → List Letter → List X → Type 0
GoesOn steps run front w [] = ⊥
GoesOn steps run front [] (x ∷ []) = Unit {0}
GoesOn steps run front [] (x ∷ y ∷ more) = ⊥
GoesOn steps run front (a ∷ w) (x ∷ []) = ⊥
GoesOn steps run front (a ∷ w) (x ∷ y ∷ more) = LeadsAt steps run a.kind front a x y × GoesOn steps run (a ∷ front) w (y ∷ more)

-- the run has a member for each position of the word, and each letter leads from its position to the next
abbrev pub GoesAlong : {X : Type 0} → Steps X → List Letter → List X → Type 0
GoesAlong steps w run = GoesOn steps run [] w run

-- from x, with this stack, the word leads through the members of the list, one for each letter
abbrev pub GoesThrough : {X : Type 0} → Steps X → List X → X → List Letter → List X → Type 0
GoesThrough steps before x [] [] = Unit {0}
GoesThrough steps before x [] (y ∷ more) = ⊥
GoesThrough steps before x (a ∷ w) [] = ⊥
GoesThrough steps before x (a ∷ w) (y ∷ more) = Leads steps a.kind a before x y (λ stack. GoesThrough steps stack y w more)
