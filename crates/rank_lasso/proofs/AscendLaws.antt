-- Terms that ascend.
use Rattle.std.proofs.Common.{◌≡◌, ℕ, ◌+◌, Bool, true, ◌&&◌, nat_le, nat_lt, List, [], ◌∷◌, refl, sym, ap, ◌∙◌, arith}
use Rattle.std.specs.Prelude.{ℤ}
use Rattle.std.proofs.lemmas.Bool.{leb-true, le-leb}
use Rattle.std.proofs.lemmas.Bool.Decides.{nat_tests}
use Rattle.lin_rows.specs.Rows.{AscendsFrom}
use Rattle.proof_form.proofs.RunLaws.{both_hold}
use Rattle.proof_names.specs.Predicates.{terms_ascend}

-- the columns ascend, from this one on
abbrev pub ascend_from : ℕ → List (ℕ × ℤ) → Bool
ascend_from least [] = true
ascend_from least (t ∷ ts) = nat_le least t.0 && ascend_from (t.0 + 1) ts

next_test : (a b : ℕ) → nat_le (a + 1) b ≡ nat_lt a b
next_test a b = grind (arith, nat_tests)

first_ascends : (least : ℕ) (t : ℕ × ℤ) (ts : List (ℕ × ℤ)) → ascend_from least (t ∷ ts) ≡ nat_le least t.0 && terms_ascend (t ∷ ts)
first_ascends least t [] = refl
first_ascends least t (u ∷ us) =
    ap (λ b. nat_le least t.0 && b) (first_ascends (t.0 + 1) u us ∙ ap (λ b. b && terms_ascend (u ∷ us)) (next_test t.0 u.0))

-- none is looked at yet
pub begins : (ts : List (ℕ × ℤ)) → terms_ascend ts ≡ ascend_from 0 ts
begins [] = refl
begins (t ∷ ts) = sym (first_ascends 0 t ts ∙ ap (λ b. b && terms_ascend (t ∷ ts)) (le-leb 0 t.0 (omega arith)))

-- what the test says
from_test : (least : ℕ) (ts : List (ℕ × ℤ)) → ascend_from least ts ≡ true → AscendsFrom least ts
from_test least [] h = tt
from_test least (t ∷ ts) h = let k = both_hold (nat_le least t.0) (ascend_from (t.0 + 1) ts) h in (leb-true least t.0 k.0, from_test (t.0 + 1) ts k.1)

pub ascending : (ts : List (ℕ × ℤ)) → terms_ascend ts ≡ true → AscendsFrom 0 ts
ascending ts h = from_test 0 ts (sym (begins ts) ∙ h)

-- and back
to_test : (least : ℕ) (ts : List (ℕ × ℤ)) → AscendsFrom least ts → ascend_from least ts ≡ true
to_test least [] h = refl
to_test least (t ∷ ts) h = rw (le-leb least t.0 h.0, to_test (t.0 + 1) ts h.1) refl

pub ascending_test : (ts : List (ℕ × ℤ)) → AscendsFrom 0 ts → terms_ascend ts ≡ true
ascending_test ts h = begins ts ∙ to_test 0 ts h
