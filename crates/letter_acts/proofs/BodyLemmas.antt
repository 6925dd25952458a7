-- The loop over the entries and exits of procedures.
use Rattle.std.proofs.Common.{◌≡◌, ◌↔◌, ℕ, suc, ◌+◌, ◌<◌, ◌≤◌, true, List, [], ◌∷◌, Option, length, drop, get_or, refl, sym, ap, subst, arith}
use Rattle.std.proofs.lemmas.List.{drop_more, drop_all}
use Rattle.letter_acts.specs.Invariant.{HasBody, HaveBodies}
use Rattle.letter_acts.proofs.LoopLemmas.{so}

-- there are as many exits as entries
pub lengths_agree : (procs : List ℕ) (p : ℕ) (entries exits : List (Option ℕ)) → HaveBodies procs p entries exits → length entries ≡ length exits
lengths_agree procs p [] [] h = refl
lengths_agree procs p [] (x ∷ xs) h = absurd h
lengths_agree procs p (e ∷ es) [] h = absurd h
lengths_agree procs p (e ∷ es) (x ∷ xs) h = let k = lengths_agree procs (suc p) es xs h.1 in ap suc k

pub body_step : (procs : List ℕ) (Q : Type 0) (entries exits : List (Option ℕ)) (p : ℕ) (d : Option ℕ) → length entries ≡ length exits → p < length entries →
    HasBody procs p (get_or entries p d) (get_or exits p d) →
    (HaveBodies procs p (drop p entries) (drop p exits) ↔ Q) → HaveBodies procs (p + 1) (drop (p + 1) entries) (drop (p + 1) exits) ↔ Q
body_step procs Q entries exits p d same l b h =
    let l' : p < length exits = omega arith in
    let whole = rw (drop_more entries p d l, drop_more exits p d l') at h in
    let next : p + 1 ≡ suc p = omega arith in
    let Left : ℕ → Type 0 = λ n. HaveBodies procs n (drop (p + 1) entries) (drop (p + 1) exits) in
    (λ k. whole.0 (b, subst Left next k), λ q. subst Left (sym next) (whole.1 q).1)

pub bodies_end : (procs : List ℕ) (Q : Type 0) (entries exits : List (Option ℕ)) (p : ℕ) → length entries ≡ length exits → length entries ≤ p →
    (HaveBodies procs p (drop p entries) (drop p exits) ↔ Q) → (true ≡ true) ↔ Q
bodies_end procs Q entries exits p same l h =
    let l' : length exits ≤ p = omega arith in
    let whole = rw (drop_all p entries l, drop_all p exits l') at h in
    so Q (whole.0 tt)
