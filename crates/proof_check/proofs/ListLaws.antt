-- Lists read by index and by member.
use Rattle.std.proofs.Common.{◌≡◌, ℕ, zero, suc, List, [], ◌∷◌, Some, inl, inr, ap}
use Rattle.std.specs.Prelude.{slice_get}
use Rattle.nwa_base.specs.Members.{Member}

pub member_at : {X : Type 0} (xs : List X) (i : ℕ) (x : X) → slice_get xs i ≡ Some x → Member xs x
member_at [] i x e = absurd (cc)
member_at (y ∷ ys) zero x e = inl (cc)
member_at (y ∷ ys) (suc i) x e = inr (member_at ys i x e)

pub place_of : {X : Type 0} (xs : List X) (x : X) → Member xs x → (i : ℕ) × (slice_get xs i ≡ Some x)
place_of [] x h = absurd h
place_of (y ∷ ys) x (inl e) = (zero, ap Some e)
place_of (y ∷ ys) x (inr h) = let r = place_of ys x h in (suc r.0, r.1)
