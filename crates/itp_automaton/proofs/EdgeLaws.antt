-- Edges that are added one by one.
use Rattle.std.proofs.Common.{◌≡◌, ℕ, zero, suc, ◌<◌, List, [], ◌∷◌, length, Option, None, Some, refl, arith}
use Rattle.std.specs.Prelude.{slice_get}
use Rattle.nwa_base.specs.declared.letters.Kind.TheVariants as kinds
use Rattle.letter_acts.specs.Acts.{PlainAct, inside_act, call_act, back_act, Alphabet, kind_of}
use Rattle.triple_rows.specs.declared.triples.Scoped.{Scoped}
use Rattle.triple_rows.specs.declared.triples.Triple.TheVariants as triples
use Rattle.triple_rows.specs.Triples.{InsideAgrees, CallAgrees, BackAgrees, Agrees}

-- a place of a list is below its length
pub place_below : {X : Type 0} (xs : List X) (n : ℕ) (x : X) → slice_get xs n ≡ Some x → n < length xs
place_below [] n x e = absurd cc
place_below (y ∷ xs) zero x e = omega arith
place_below (y ∷ xs) (suc n) x e = let h = place_below xs n x e in omega arith

-- ---- acts of letters

-- some act stands there, and it is one of this kind
pub inside_act_of : (al : Alphabet) (letter : ℕ) (before after : Scoped) → Agrees al (triples.Inside before letter after) →
    (act : PlainAct) × (slice_get al.acts letter ≡ Some act) × (kind_of act ≡ kinds.Inside)
inside_act_of al letter before after h = by_act (slice_get al.acts letter) h
  where
    by_act : (o : Option PlainAct) → InsideAgrees al o before after → (act : PlainAct) × (o ≡ Some act) × (kind_of act ≡ kinds.Inside)
    by_act None k = absurd k
    by_act (Some (inside_act p written helpers rows)) k = (inside_act p written helpers rows, refl, refl)
    by_act (Some (call_act caller callee helpers rows)) k = absurd k
    by_act (Some (back_act c targets)) k = absurd k

pub call_act_of : (al : Alphabet) (letter : ℕ) (before after : Scoped) → Agrees al (triples.Call before letter after) →
    (act : PlainAct) × (slice_get al.acts letter ≡ Some act) × (kind_of act ≡ kinds.Call)
call_act_of al letter before after h = by_act (slice_get al.acts letter) h
  where
    by_act : (o : Option PlainAct) → CallAgrees al o before after → (act : PlainAct) × (o ≡ Some act) × (kind_of act ≡ kinds.Call)
    by_act None k = absurd k
    by_act (Some (inside_act p written helpers rows)) k = absurd k
    by_act (Some (call_act caller callee helpers rows)) k = (call_act caller callee helpers rows, refl, refl)
    by_act (Some (back_act c targets)) k = absurd k

pub back_act_of : (al : Alphabet) (letter : ℕ) (exit before after : Scoped) → Agrees al (triples.Back exit before letter after) →
    (act : PlainAct) × (slice_get al.acts letter ≡ Some act) × (kind_of act ≡ kinds.Back)
back_act_of al letter exit before after h = by_act (slice_get al.acts letter) h
  where
    by_act : (o : Option PlainAct) → BackAgrees al o exit before after → (act : PlainAct) × (o ≡ Some act) × (kind_of act ≡ kinds.Back)
    by_act None k = absurd k
    by_act (Some (inside_act p written helpers rows)) k = absurd k
    by_act (Some (call_act caller callee helpers rows)) k = absurd k
    by_act (Some (back_act c targets)) k = (back_act c targets, refl, refl)
