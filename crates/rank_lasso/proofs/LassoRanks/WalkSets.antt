-- Walks of sets of pairs along inside letters, and what they say of lassos.
use Rattle.std.proofs.Common.{◌≡◌, ◌↔◌, Bool, true, false, not, ◌∙◌, ◌⊎◌, ℕ, zero, suc, ◌+◌, ◌<◌, ◌≤◌, List, [], ◌∷◌, length, nat_eq, drop, get_or, inl, inr, refl, sym, ap, subst, arith, add-one, drop-cons}
use Rattle.std.specs.Prelude.{map}
use Rattle.std.specs.List.{AllByRecursion}
use Rattle.std.proofs.lemmas.Bool.{cases_eq, eqb-true, false≢true}
use Rattle.nwa_base.specs.Members.{Member}
use Rattle.nwa_base.specs.Automata.{Automaton}
use Rattle.nwa_base.specs.Pairs.{IsInsideOf}
use Rattle.letter_acts.specs.Invariant.{Graph}
use Rattle.rank_lasso.specs.declared.lasso_ranks.lassos.LassoFault.TheVariants.{BadStep}
use Rattle.rank_lasso.specs.LassoTurns.Turns.{inside_letter}
use Rattle.rank_lasso.specs.LassoRanks.Lassos.{PlainLasso, LeadsBy, AreOfEntry, IsLassoOf, IsNoLassoBy}
use Rattle.rank_lasso.specs.LassoRanks.Ties.Walks.{IsWalkOf, ComesBack}

-- what is left of the letters leads on from the set as all letters do from the first set
pub record WalksOn (m : Automaton) (ns : List ℕ) (first now : List (ℕ × ℕ)) (rest : List ℕ) : Type 0 where
  pub sound : (k q e : ℕ) → Member now (k, q) → LeadsBy m q rest e → (r : ℕ) × Member first (k, r) × LeadsBy m r ns e
  pub complete : (k q e : ℕ) → Member first (k, q) → LeadsBy m q ns e → (r : ℕ) × Member now (k, r) × LeadsBy m r rest e

pub walk_starts : (m : Automaton) (ns : List ℕ) (first now : List (ℕ × ℕ)) → now ≡ first → WalksOn m ns first now ns
walk_starts m ns first now e = subst (λ (s : List (ℕ × ℕ)). WalksOn m ns first s ns) (sym e) (record {
  sound = λ k q e h l. (q, h, l);
  complete = λ k q e h l. (q, h, l);
})

walk_on : (m : Automaton) (ns : List ℕ) (first now next : List (ℕ × ℕ)) (n : ℕ) (rest : List ℕ) → WalksOn m ns first now (n ∷ rest) → IsInsideOf m (inside_letter n) now next →
    WalksOn m ns first next rest
walk_on m ns first now next n rest h s = record {
  sound = λ k q e i l. (let b = s.sound k q i in h.sound k b.0 e b.1 (q, (b.2, l)));
  complete = λ k q e i l. (let b = h.complete k q e i l in (b.2.0, s.complete k b.0 b.2.0 b.1 b.2.1.0, b.2.1.1));
}

pub walk_goes : (m : Automaton) (ns : List ℕ) (first now next : List (ℕ × ℕ)) (i n d : ℕ) → i < length ns → n ≡ get_or ns i d → IsInsideOf m (inside_letter n) now next →
    WalksOn m ns first now (drop i ns) → WalksOn m ns first next (drop (i + 1) ns)
walk_goes m ns first now next i n d l e s h =
    let split : drop i ns ≡ n ∷ drop (i + 1) ns = rw (add-one, drop-cons ns i d, e) refl in
    walk_on m ns first now next n (drop (i + 1) ns) (subst (WalksOn m ns first now) split h) s

dropped : (i : ℕ) (ns : List ℕ) → length ns ≤ i → drop i ns ≡ []
dropped zero [] l = refl
dropped (suc i) [] l = refl
dropped zero (n ∷ ns) l = absurd (omega (arith, l))
dropped (suc i) (n ∷ ns) l = dropped i ns (omega (arith, l))

pub walk_ends : (m : Automaton) (ns : List ℕ) (first now : List (ℕ × ℕ)) (i : ℕ) → length ns ≤ i → WalksOn m ns first now (drop i ns) → IsWalkOf m ns first now
walk_ends m ns first now i l h =
    let k : WalksOn m ns first now [] = subst (WalksOn m ns first now) (dropped i ns l) h in
    record {
      sound = λ k' e s. k.sound k' e e s (refl, refl);
      complete = λ k' q e s j. (let r = k.complete k' q e s j in subst (λ (x : ℕ). Member now (k', x)) r.2.1 r.1);
    }

-- ---- back to where it began

heads_from : (ends : List (ℕ × ℕ)) (e q : ℕ) → Member {X = ℕ × ℕ} (map (λ p. (p.1, p.1)) ends) (e, q) → (k : ℕ) × Member ends (k, q) × (e ≡ q)
heads_from [] e q h = absurd h
heads_from (p ∷ ends) e q h = elim h [
  | inl i ↦
      let a : p.1 ≡ e = ap (λ (x : ℕ × ℕ). x.0) i in
      let b : p.1 ≡ q = ap (λ (x : ℕ × ℕ). x.1) i in
      (p.0, inl (ap (λ (z : ℕ). (p.0, z)) b), sym a ∙ b)
  | inr j ↦ let r = heads_from ends e q j in (r.0, inr r.1, r.2)
]

heads_to : (ends : List (ℕ × ℕ)) (k q : ℕ) → Member ends (k, q) → Member {X = ℕ × ℕ} (map (λ p. (p.1, p.1)) ends) (q, q)
heads_to [] k q h = absurd h
heads_to (p ∷ ends) k q h = elim h [
  | inl i ↦ inl (let b : p.1 ≡ q = ap (λ (x : ℕ × ℕ). x.1) i in ap (λ (z : ℕ). (z, z)) b)
  | inr j ↦ inr (heads_to ends k q j)
]

pub back_from : (m : Automaton) (ns : List ℕ) (ends heads round : List (ℕ × ℕ)) → heads ≡ map (λ p. (p.1, p.1)) ends → IsWalkOf m ns heads round →
    (x y : ℕ) → Member round (x, y) → x ≡ y → ComesBack m ns ends
back_from m ns ends heads round e w x y h s =
    let a = w.sound x y h in
    let b = heads_from ends x a.0 (subst (λ (v : List (ℕ × ℕ)). Member v (x, a.0)) e a.1) in
    (b.0, a.0, b.1, subst (LeadsBy m a.0 ns) (sym s ∙ b.2) a.2)

pub back_to : (m : Automaton) (ns : List ℕ) (ends heads round : List (ℕ × ℕ)) → heads ≡ map (λ p. (p.1, p.1)) ends → IsWalkOf m ns heads round →
    ComesBack m ns ends → (x : ℕ) × Member round (x, x)
back_to m ns ends heads round e w b =
    (b.1, w.complete b.1 b.1 b.1 (subst (λ (v : List (ℕ × ℕ)). Member v (b.1, b.1)) (sym e) (heads_to ends b.0 b.1 b.2)) b.3)

-- some pair ends where it began, or none does
some_or_none : (pairs : List (ℕ × ℕ)) → ((x : ℕ) × Member pairs (x, x)) ⊎ AllByRecursion (λ p. p.0 ≡ p.1 → ⊥) pairs
some_or_none [] = inr tt
some_or_none (p ∷ pairs) = elim (cases_eq p.0 p.1) [
  | inl e ↦ inl (p.1, inl (ap (λ (z : ℕ). (z, p.1)) e))
  | inr n ↦ elim (some_or_none pairs) [ inl m ↦ inl (m.0, inr m.1) | inr k ↦ inr (n, k) ]
]

none_of : (pairs : List (ℕ × ℕ)) (x : ℕ) → Member pairs (x, x) → AllByRecursion (λ p. p.0 ≡ p.1 → ⊥) pairs → ⊥
none_of [] x h k = h
none_of (p ∷ pairs) x h k = elim h [
  | inl e ↦ k.0 (ap (λ (z : ℕ × ℕ). z.0) e ∙ sym (ap (λ (z : ℕ × ℕ). z.1) e))
  | inr m ↦ none_of pairs x m k.1
]

-- the letters lead from the second place of some pair back to it exactly where not all ways from there end elsewhere
pub comes_back_where : (m : Automaton) (ns : List ℕ) (ends heads round : List (ℕ × ℕ)) (r : Bool) → heads ≡ map (λ p. (p.1, p.1)) ends → IsWalkOf m ns heads round →
    (r ≡ true) ↔ AllByRecursion (λ p. p.0 ≡ p.1 → ⊥) round → (not r ≡ true) ↔ ComesBack m ns ends
comes_back_where m ns ends heads round true e w h = (
  λ z. absurd (false≢true z),
  λ b. absurd (let k = back_to m ns ends heads round e w b in none_of round k.0 k.1 (h.0 refl)),
)
comes_back_where m ns ends heads round false e w h = (
  λ z. elim (some_or_none round) [
    | inl k ↦ back_from m ns ends heads round e w k.0 k.0 k.1 refl
    | inr k ↦ absurd (false≢true (h.1 k))
  ],
  λ b. refl,
)

pub counts_none : (v : List (ℕ × ℕ)) → (nat_eq (length v) 0 ≡ true) ↔ (v ≡ [])
counts_none [] = (λ h. refl, λ h. refl)
counts_none (x ∷ v) = (λ h. absurd (let e = eqb-true (length (x ∷ v)) 0 h in omega (arith, e)), λ h. absurd (cc))

-- ---- lassos

abbrev at_start : List (ℕ × ℕ)
at_start = (0, 0) ∷ []

only_start : (k q : ℕ) → Member at_start (k, q) → (k ≡ 0) × (q ≡ 0)
only_start k q h = elim h [
  | inl i ↦ (sym (ap (λ (x : ℕ × ℕ). x.0) i), sym (ap (λ (x : ℕ × ℕ). x.1) i))
  | inr j ↦ absurd j
]

from_start : (m : Automaton) (ns : List ℕ) (ends : List (ℕ × ℕ)) (k e : ℕ) → IsWalkOf m ns at_start ends → Member ends (k, e) → LeadsBy m 0 ns e
from_start m ns ends k e w h =
    let a = w.sound k e h in
    let b = only_start k a.0 a.1 in
    subst (λ (q : ℕ). LeadsBy m q ns e) b.1 a.2

pub found_lasso : (g : Graph) (l : PlainLasso) (ends : List (ℕ × ℕ)) → AreOfEntry g l.stem → AreOfEntry g l.loop → IsWalkOf g.automaton l.stem at_start ends →
    ComesBack g.automaton l.loop ends → IsLassoOf g l
found_lasso g l ends a b w c = record {
  stem = a;
  loop = b;
  place = c.1;
  enters = from_start g.automaton l.stem ends c.0 c.1 w c.2;
  returns = c.3;
}

pub no_stem : (g : Graph) (l : PlainLasso) (ends : List (ℕ × ℕ)) → AreOfEntry g l.stem → AreOfEntry g l.loop → IsWalkOf g.automaton l.stem at_start ends → ends ≡ [] →
    IsNoLassoBy g l (BadStep 2)
no_stem g l ends a b w e = (a, b, inl (refl, λ place h. subst (λ (v : List (ℕ × ℕ)). Member v (0, place)) e (w.complete 0 0 place (inl refl) h)))

pub no_loop : (g : Graph) (l : PlainLasso) (ends : List (ℕ × ℕ)) → AreOfEntry g l.stem → AreOfEntry g l.loop → IsWalkOf g.automaton l.stem at_start ends → (ends ≡ [] → ⊥) →
    (ComesBack g.automaton l.loop ends → ⊥) → IsNoLassoBy g l (BadStep 3)
no_loop g l ends a b w n c = (a, b, inr (refl, (some ends refl, λ place h r. c (0, place, w.complete 0 0 place (inl refl) h, r))))
  where
    some : (v : List (ℕ × ℕ)) → ends ≡ v → (place : ℕ) × LeadsBy g.automaton 0 l.stem place
    some [] e = absurd (n e)
    some (p ∷ v) e = (p.1, from_start g.automaton l.stem ends p.0 p.1 w (subst (λ (x : List (ℕ × ℕ)). Member x (p.0, p.1)) (sym e) (inl refl)))
