-- The test for equal letters.
use Rattle.std.proofs.Common.{◌≡◌, ◌∙◌, ℕ, Bool, true, false, ◌&&◌, eqb, refl, sym, ap}
use Rattle.std.proofs.lemmas.Bool.{false≢true, eqb-true}
use denote.Enum.Bare.{sameb}
use Rattle.nwa_base.specs.contracts.letters.Kind.{the_type}
use Rattle.nwa_base.specs.declared.letters.Kind.{Kind}
use Rattle.nwa_base.specs.declared.letters.Kind.TheVariants.{Inside, Call, Back}
use Rattle.nwa_base.specs.declared.letters.Letter.{Letter}
use Rattle.nwa_base.specs.Letters.{same_kind, same_letter}

-- the derived test of kinds is `same_kind`
pub sameb-same_kind : (a b : Kind) → sameb the_type a b ≡ same_kind a b
sameb-same_kind Inside Inside = refl
sameb-same_kind Inside Call = refl
sameb-same_kind Inside Back = refl
sameb-same_kind Call Inside = refl
sameb-same_kind Call Call = refl
sameb-same_kind Call Back = refl
sameb-same_kind Back Inside = refl
sameb-same_kind Back Call = refl
sameb-same_kind Back Back = refl

pub same_kind-true : (a b : Kind) → same_kind a b ≡ true → a ≡ b
same_kind-true Inside Inside h = refl
same_kind-true Inside Call h = absurd (false≢true h)
same_kind-true Inside Back h = absurd (false≢true h)
same_kind-true Call Inside h = absurd (false≢true h)
same_kind-true Call Call h = refl
same_kind-true Call Back h = absurd (false≢true h)
same_kind-true Back Inside h = absurd (false≢true h)
same_kind-true Back Call h = absurd (false≢true h)
same_kind-true Back Back h = refl

pub same_kind-refl : (a : Kind) → same_kind a a ≡ true
same_kind-refl Inside = refl
same_kind-refl Call = refl
same_kind-refl Back = refl

-- both tests pass where their conjunction does
pub and_left : (p q : Bool) → p && q ≡ true → p ≡ true
and_left true q h = refl
and_left false q h = absurd (false≢true h)

pub and_right : (p q : Bool) → p && q ≡ true → q ≡ true
and_right true q h = h
and_right false q h = absurd (false≢true h)

pub and_both : (p q : Bool) → p ≡ true → q ≡ true → p && q ≡ true
and_both p q h k = ap (λ x. x && q) h ∙ k

pub eqb-refl : (n : ℕ) → eqb n n ≡ true
eqb-refl n = Rattle.std.proofs.Common.eq-eqb n n refl

pub same_letter-true : (a b : Letter) → same_letter a b ≡ true → a ≡ b
same_letter-true a b h =
    let i : a.id ≡ b.id = eqb-true _ _ (and_left _ _ h) in
    let r = and_right _ _ h in
    let k : a.kind ≡ b.kind = same_kind-true _ _ (and_left _ _ r) in
    let c : a.call ≡ b.call = eqb-true _ _ (and_right _ _ r) in
    λ j. record { id = i j; kind = k j; call = c j }

pub same_letter-refl : (a : Letter) → same_letter a a ≡ true
same_letter-refl a = and_both _ _ (eqb-refl a.id) (and_both _ _ (same_kind-refl a.kind) (eqb-refl a.call))
