-- The conditions of the specifications of a procedure, one after another.
use Rattle.std.proofs.Common.{◌≡◌, ℕ, zero, suc, ◌+◌, ◌-◌, ◌<◌, ◌≤◌, Bool, true, false, cond, not, List, [], ◌∷◌, ◌++◌, length, take, refl, ap, sym, ◌∙◌, arith}
use Rattle.typed_tree.specs.TypedTree.{TypedInvariant, TypedSpecification, Requires, Ensures}
use Rattle.typed_tree.specs.TypingRules.Counts.{one_if, plain_invariants, plain_requires, free_requires, plain_ensures, all_ensures}
use Rattle.boogie_run.specs.BoogiePoints.Actions.{plain_conditions, free_conditions, ensured_conditions}

either : (b : Bool) (x : TypedInvariant) (xs : List TypedInvariant) → cond b xs (x ∷ xs) ≡ cond b [] (x ∷ []) ++ xs
either true x xs = refl
either false x xs = refl

other : (b : Bool) (x : TypedInvariant) (xs : List TypedInvariant) → cond b (x ∷ xs) xs ≡ cond b (x ∷ []) [] ++ xs
other true x xs = refl
other false x xs = refl

pub plain_step : (s : TypedSpecification) (ss : List TypedSpecification) → plain_conditions (s ∷ ss) ≡ plain_conditions (s ∷ []) ++ plain_conditions ss
plain_step (Requires i) ss = either i.free i (plain_conditions ss)
plain_step (Ensures i) ss = refl

pub free_step : (s : TypedSpecification) (ss : List TypedSpecification) → free_conditions (s ∷ ss) ≡ free_conditions (s ∷ []) ++ free_conditions ss
free_step (Requires i) ss = other i.free i (free_conditions ss)
free_step (Ensures i) ss = refl

pub ensured_step : (s : TypedSpecification) (ss : List TypedSpecification) → ensured_conditions (s ∷ ss) ≡ ensured_conditions (s ∷ []) ++ ensured_conditions ss
ensured_step (Requires i) ss = refl
ensured_step (Ensures i) ss = refl

plain_length : (b : Bool) (x : TypedInvariant) (xs : List TypedInvariant) (n : ℕ) → length xs ≡ n → length (cond b xs (x ∷ xs)) ≡ one_if (not b) + n
plain_length true x xs n e = omega arith
plain_length false x xs n e = omega arith

free_length : (b : Bool) (x : TypedInvariant) (xs : List TypedInvariant) (n : ℕ) → length xs ≡ n → length (cond b (x ∷ xs) xs) ≡ one_if b + n
free_length true x xs n e = omega arith
free_length false x xs n e = omega arith

pub plain_requires_counted : (ss : List TypedSpecification) → length (plain_conditions ss) ≡ plain_requires ss
plain_requires_counted [] = refl
plain_requires_counted (Requires i ∷ ss) = plain_length i.free i (plain_conditions ss) (plain_requires ss) (plain_requires_counted ss)
plain_requires_counted (Ensures i ∷ ss) = plain_requires_counted ss

pub free_requires_counted : (ss : List TypedSpecification) → length (free_conditions ss) ≡ free_requires ss
free_requires_counted [] = refl
free_requires_counted (Requires i ∷ ss) = free_length i.free i (free_conditions ss) (free_requires ss) (free_requires_counted ss)
free_requires_counted (Ensures i ∷ ss) = free_requires_counted ss

pub plain_ensures_counted : (ss : List TypedSpecification) → plain_invariants (ensured_conditions ss) ≡ plain_ensures ss
plain_ensures_counted [] = refl
plain_ensures_counted (Requires i ∷ ss) = plain_ensures_counted ss
plain_ensures_counted (Ensures i ∷ ss) = ap (λ n. one_if (not i.free) + n) (plain_ensures_counted ss)

pub taken_less : (k : ℕ) (is : List TypedInvariant) → plain_invariants (take k is) ≤ plain_invariants is
taken_less zero is = omega arith
taken_less (suc k) [] = omega arith
taken_less (suc k) (i ∷ is) = omega (arith, taken_less k is)

pub taken_step : (n : ℕ) (s : TypedSpecification) (ss : List TypedSpecification) → 0 < n →
    plain_invariants (take n (ensured_conditions (s ∷ ss))) ≡ plain_ensures (s ∷ []) + plain_invariants (take (n - all_ensures (s ∷ [])) (ensured_conditions ss))
taken_step n (Requires i) ss h =
    let e : n - 0 ≡ n = omega arith in
    let f : (m : ℕ) → m ≡ 0 + m = λ m. omega arith in
    ap (λ k. plain_invariants (take k (ensured_conditions ss))) (sym e) ∙ f (plain_invariants (take (n - 0) (ensured_conditions ss)))
taken_step zero (Ensures i) ss h = absurd (omega arith)
taken_step (suc n) (Ensures i) ss h =
    let e : suc n - (1 + 0) ≡ n = omega arith in
    let f : (m : ℕ) → one_if (not i.free) + m ≡ (one_if (not i.free) + 0) + m = λ m. omega arith in
    ap (λ k. one_if (not i.free) + plain_invariants (take k (ensured_conditions ss))) (sym e) ∙ f (plain_invariants (take (suc n - (1 + 0)) (ensured_conditions ss)))

pub ensures_step : (s : TypedSpecification) (ss : List TypedSpecification) → plain_ensures (s ∷ ss) ≡ plain_ensures (s ∷ []) + plain_ensures ss
ensures_step (Requires i) ss = omega arith
ensures_step (Ensures i) ss = omega arith

pub one_ensures : (s : TypedSpecification) → all_ensures (s ∷ []) ≤ 1
one_ensures (Requires i) = omega arith
one_ensures (Ensures i) = omega arith

-- one more of the specifications whose ensures are counted
pub before_step : (all ss : List TypedSpecification) (s : TypedSpecification) (count left m n total whole : ℕ) → all ≡ s ∷ ss → 0 < left →
    m ≡ all_ensures (s ∷ []) → n ≡ plain_ensures (s ∷ []) → count + plain_ensures all ≤ total → count + plain_invariants (take left (ensured_conditions all)) ≡ whole →
    ((count + n) + plain_ensures ss ≤ total) × ((count + n) + plain_invariants (take (left - m) (ensured_conditions ss)) ≡ whole)
before_step all ss s count left m n total whole e h f g w k =
    let all_of : plain_ensures all ≡ plain_ensures (s ∷ []) + plain_ensures ss = ap plain_ensures e ∙ ensures_step s ss in
    let taken_of : plain_invariants (take left (ensured_conditions all)) ≡ plain_ensures (s ∷ []) + plain_invariants (take (left - all_ensures (s ∷ [])) (ensured_conditions ss)) =
    ap (λ (xs : List TypedSpecification). plain_invariants (take left (ensured_conditions xs))) e ∙ taken_step left s ss h in
    let same : plain_invariants (take (left - m) (ensured_conditions ss)) ≡ plain_invariants (take (left - all_ensures (s ∷ [])) (ensured_conditions ss)) =
    ap (λ (l : ℕ). plain_invariants (take (left - l) (ensured_conditions ss))) f in
    (omega arith, omega arith)

pub ruleset taken = (taken_step, ensures_step, one_ensures)
