-- One call letter for each place: from the first call edge of the place to all edges, and back.
use Rattle.std.proofs.Common.{◌≡◌, ◌↔◌, ◌⊎◌, ◌∙◌, ℕ, Bool, true, false, cond, List, [], ◌∷◌, refl, sym, ap, subst, inl, inr, eq-eqb, arith}
use Rattle.std.proofs.lemmas.Bool.{eqb-true}
use Rattle.std.specs.Prelude.{filter, nat_eq, ◌==◌, length}
use Rattle.std.specs.List.{AllByRecursion}
use Rattle.nwa_base.specs.declared.letters.Letter.{Letter}
use Rattle.nwa_base.specs.Members.{Member}
use Rattle.nwa_base.specs.Edges.{leaving}
use Rattle.nwa_base.specs.Automata.{Automaton}
use Rattle.letter_acts.specs.Invariant.{HasOneCall}
use Rattle.letter_acts.specs.Checks.{FirstIsBy, AgreesWithCall, ReturnsAgree, BackAgrees}
use Rattle.letter_acts.proofs.ListLemmas.{all_member, all_from_members}

kept : {X : Type 0} (z x : X) (xs : List X) (b : Bool) → Member xs x → Member (cond b (z ∷ xs) xs) x
kept z x xs true m = inr m
kept z x xs false m = m

filtered : {X : Type 0} (p : X → Bool) (xs : List X) (x : X) → p x ≡ true → Member xs x → Member (filter p xs) x
filtered p [] x t m = m
filtered p (z ∷ zs) x t (inl e) = subst (λ (b : Bool). Member (cond b (z ∷ filter p zs) (filter p zs)) x) (sym (ap p e ∙ t)) (inl e)
filtered p (z ∷ zs) x t (inr m) = kept z x (filter p zs) (p z) (filtered p zs x t m)

gave : {X : Type 0} (p : X → Bool) (z x : X) (xs : List X) (b : Bool) → p z ≡ b → Member (cond b (z ∷ xs) xs) x → ((z ≡ x) × (p x ≡ true)) ⊎ Member xs x
gave p z x xs true e (inl k) = inl (k, ap p (sym k) ∙ e)
gave p z x xs true e (inr m) = inr m
gave p z x xs false e m = inr m

from_filter : {X : Type 0} (p : X → Bool) (xs : List X) (x : X) → Member (filter p xs) x → Member xs x × (p x ≡ true)
from_filter p [] x m = absurd m
from_filter p (z ∷ zs) x m =
    elim (gave p z x (filter p zs) (p z) refl m) [
      | inl k ↦ (inl k.0, k.1)
      | inr k ↦ let r = from_filter p zs x k in (inr r.0, r.1)
    ]

leaves : (q e : ℕ) (a : Letter) (edges : List (ℕ × Letter × ℕ)) → Member edges (q, a, e) → Member (leaving q edges) (q, a, e)
leaves q e a edges m = filtered (λ b. nat_eq b.0 q) edges (q, a, e) (eq-eqb q q refl) m

-- the first edge is by both, where there is one
by_first : (edges : List (ℕ × Letter × ℕ)) (z : ℕ × Letter × ℕ) (c d : ℕ) → Member edges z → FirstIsBy c edges → FirstIsBy d edges → c ≡ d
by_first [] z c d m h k = absurd m
by_first (e ∷ es) z c d m h k = sym h ∙ k

first_from_all : (edges : List (ℕ × Letter × ℕ)) (c : ℕ) → ((z : ℕ × Letter × ℕ) → Member edges z → z.1.id ≡ c) → FirstIsBy c edges
first_from_all [] c h = tt
first_from_all (e ∷ es) c h = h e (inl refl)

agree_from_all : (m : Automaton) (q c : ℕ) → ((e : ℕ) (a : Letter) → Member m.calls (q, a, e) → a.id ≡ c) → AgreesWithCall m q c
agree_from_all m q c h =
    first_from_all (leaving q m.calls) c (λ z k.
    let r = from_filter (λ b. nat_eq b.0 q) m.calls z k in
    h z.2 z.1 (subst (λ (p : ℕ). Member m.calls (p, z.1, z.2)) (eqb-true z.0 q r.1) r.0))

returns_first : (backs : List (ℕ × ℕ × Letter × ℕ)) (q c : ℕ) (edges : List (ℕ × Letter × ℕ)) (z : ℕ × Letter × ℕ) → Member edges z → ReturnsAgree backs q c edges → FirstIsBy c edges
returns_first backs q c [] z m h = absurd m
returns_first backs q c (e ∷ es) z m h = h

returns_both : (backs : List (ℕ × ℕ × Letter × ℕ)) (q c d : ℕ) (edges : List (ℕ × Letter × ℕ)) (s : ℕ × ℕ × Letter × ℕ) → Member backs s → s.1 ≡ q → s.2.call ≡ d →
    ReturnsAgree backs q c edges → ReturnsAgree backs q d edges → c ≡ d
returns_both backs q c d [] s m e k g h = sym (all_member _ backs s m g e) ∙ k
returns_both backs q c d (z ∷ zs) s m e k g h = sym g ∙ h

returns_from_all : (backs : List (ℕ × ℕ × Letter × ℕ)) (q c : ℕ) (edges : List (ℕ × Letter × ℕ)) →
    FirstIsBy c edges → AllByRecursion (λ b. b.1 ≡ q → b.2.call ≡ c) backs → ReturnsAgree backs q c edges
returns_from_all backs q c [] f a = a
returns_from_all backs q c (z ∷ zs) f a = f

pub one_call : (m : Automaton) → AllByRecursion (λ e. AgreesWithCall m e.0 e.1.id) m.calls → AllByRecursion (BackAgrees m) m.backs → HasOneCall m
one_call m called returned = record {
  calls = λ q e f a b h k. by_first (leaving q m.calls) (q, a, e) a.id b.id (leaves q e a m.calls h) (all_member _ m.calls (q, a, e) h called) (all_member _ m.calls (q, b, f) k called);
  both = λ q x e f a r h k.
      by_first (leaving q m.calls) (q, a, e) a.id r.call (leaves q e a m.calls h) (all_member _ m.calls (q, a, e) h called)
      (returns_first m.backs q r.call (leaving q m.calls) (q, a, e) (leaves q e a m.calls h) (all_member (BackAgrees m) m.backs (x, q, r, f) k returned));
  backs = λ q x y e f r s h k.
      returns_both m.backs q r.call s.call (leaving q m.calls) (y, q, s, f) k refl refl
      (all_member (BackAgrees m) m.backs (x, q, r, e) h returned)
      (all_member (BackAgrees m) m.backs (y, q, s, f) k returned);
}

pub calls_from_one : (m : Automaton) → HasOneCall m → AllByRecursion (λ e. AgreesWithCall m e.0 e.1.id) m.calls
calls_from_one m h = all_from_members (λ e. AgreesWithCall m e.0 e.1.id) m.calls (λ z k. agree_from_all m z.0 z.1.id (λ e a j. h.calls z.0 e z.2 a z.1 j k))

pub backs_from_one : (m : Automaton) → HasOneCall m → AllByRecursion (BackAgrees m) m.backs
backs_from_one m h =
    all_from_members (BackAgrees m) m.backs (λ z k.
    returns_from_all m.backs z.1 z.2.call (leaving z.1 m.calls)
    (agree_from_all m z.1 z.2.call (λ e a j. h.both z.1 z.0 e z.3 a z.2 j k))
    (all_from_members (λ b. b.1 ≡ z.1 → b.2.call ≡ z.2.call) m.backs (λ b j e.
    h.backs z.1 b.0 z.0 b.3 z.3 b.2 z.2 (subst (λ (p : ℕ). Member m.backs (b.0, p, b.2, b.3)) e j) k)))

empty_list : {X : Type 0} (xs : List X) → (length xs == 0) ≡ true → xs ≡ []
empty_list [] e = refl
empty_list (x ∷ xs) e = absurd (no_length x xs (eqb-true (length (x ∷ xs)) 0 e))
  where
    no_length : {X : Type 0} (x : X) (xs : List X) → length (x ∷ xs) ≡ 0 → ⊥
    no_length x xs e = omega (arith, e)

-- where no call edge leaves the place, the other returns are read
pub no_calls_leave : (m : Automaton) (b : ℕ × ℕ × Letter × ℕ) (edges : List (ℕ × Letter × ℕ)) (backs : List (ℕ × ℕ × Letter × ℕ)) (Q : Type 0) → edges ≡ leaving b.1 m.calls →
    (length edges == 0) ≡ true → backs ≡ m.backs → (Q ↔ AllByRecursion (λ c. c.1 ≡ b.1 → c.2.call ≡ b.2.call) backs) → Q ↔ BackAgrees m b
no_calls_leave m b edges backs Q e none f h =
    let empty : [] ≡ leaving b.1 m.calls = sym (empty_list edges none) ∙ e in
    let all : Q ↔ AllByRecursion (λ c. c.1 ≡ b.1 → c.2.call ≡ b.2.call) m.backs = subst (λ (bs : List (ℕ × ℕ × Letter × ℕ)). Q ↔ AllByRecursion (λ c. c.1 ≡ b.1 → c.2.call ≡ b.2.call) bs) f h in
    subst (λ (es : List (ℕ × Letter × ℕ)). Q ↔ ReturnsAgree m.backs b.1 b.2.call es) empty all
