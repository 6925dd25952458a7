-- Images of automata, and what stays of them.
use Rattle.std.proofs.Common.{◌≡◌, ◌≢◌, ◌∙◌, ◌<◌, ℕ, List, [], ◌∷◌, Option, Some, Result, Ok, Err, IfOk, refl, sym, subst, inl, inr, arith}
use Rattle.std.specs.declared.alloc.AllocError.{AllocError}
use Rattle.nwa_base.specs.Automata.{Automaton, IsAutomaton}
use Rattle.nwa_reduce.specs.Ways.{Leads, IsWay, IsUseful}
use Rattle.nwa_reduce.specs.Lean.{IsTrim, IsReduced}
use Rattle.nwa_reduce.specs.Images.{IsImage}
use Rattle.nwa_reduce.specs.Ties.Naming.{named, IsNaming, IsMerging}
use Rattle.nwa_reduce.specs.Ties.Folding.{IsTotal, IsFolding}
use Rattle.nwa_reduce.proofs.ListLemmas.{same_some}
use Rattle.nwa_reduce.proofs.ImageLemmas.{image_accepts}
use Rattle.nwa_reduce.proofs.FoldLemmas.{folding_accepts}
use Rattle.nwa_reduce.proofs.TrimLemmas.{all_member, leads_within}

pub image_reduces : (m n : Automaton) (names : List (Option ℕ)) (count : ℕ) → IsNaming m names count → IsImage m (named names) n → n.states ≡ count → IsReduced m n
image_reduces m n names count v i e = record {
  words = λ w. let r = image_accepts m n (named names) i v.safe w in (r.1, r.0);
  states = let f = v.few in omega arith;
}

pub images_reduce : (m : Automaton) (names : List (Option ℕ)) (count : ℕ) (r : Result Automaton AllocError) → IsNaming m names count →
    IfOk r (λ n. IsImage m (named names) n × (n.states ≡ count)) → IfOk r (IsReduced m)
images_reduce m names count (Ok n) v h = image_reduces m n names count v h.0 h.1
images_reduce m names count (Err e) v h = tt

pub reduced_on : (m n k : Automaton) → IsReduced m n → IsReduced n k → IsReduced m k
reduced_on m n k g h = record {
  words = λ w. (λ a. (g.words w).0 ((h.words w).0 a), λ a. (h.words w).1 ((g.words w).1 a));
  states = let a = g.states in let b = h.states in omega arith;
}

pub reduced_none : (m : Automaton) → IsReduced m m
reduced_none m = record { words = λ w. (λ a. a, λ a. a); states = omega arith }

-- names of merged states are total
pub merging_total : (m : Automaton) (names : List (Option ℕ)) (count : ℕ) → IsMerging m names count → IsTotal m names count
merging_total m names count v = record { few = v.naming.few; within = v.naming.within; total = v.total; onto = v.onto }

-- an edge leads between the names of its states
leads_image : (m n : Automaton) (names : List (Option ℕ)) (count : ℕ) → IsAutomaton m → IsTotal m names count → IsImage m (named names) n →
    (q e x y : ℕ) → Leads m q e → named names q ≡ Some x → named names e ≡ Some y → Leads n x y
leads_image m n names count a v i q e x y (inl h) f g = inl (h.0, (i.insides (x, h.0, y)).1 ((q, h.0, e), h.1, (f, refl, g)))
leads_image m n names count a v i q e x y (inr (inl h)) f g = inr (inl (h.0, (i.calls (x, h.0, y)).1 ((q, h.0, e), h.1, (f, refl, g))))
leads_image m n names count a v i q e x y (inr (inr h)) f g =
    let p = v.total h.0 (all_member _ m.backs (q, h.0, h.1, e) a.backs h.2).before in
    inr (inr (p.0, h.1, (i.backs (x, p.0, h.1, y)).1 ((q, h.0, h.1, e), h.2, (f, p.1, refl, g))))

way_image : (m n : Automaton) (names : List (Option ℕ)) (count : ℕ) → IsAutomaton m → IsTotal m names count → IsImage m (named names) n →
    (q : ℕ) (way : List ℕ) (e x : ℕ) → IsWay (Leads m) q way e → named names q ≡ Some x →
    (y : ℕ) × (way' : List ℕ) × (named names e ≡ Some y) × IsWay (Leads n) x way' y
way_image m n names count a v i q [] e x h f = (x, [], subst (λ (z : ℕ). named names z ≡ Some x) h f, refl)
way_image m n names count a v i q (r ∷ way) e x h f =
    let g = v.total r (leads_within m q r a h.0) in
    let k = way_image m n names count a v i r way e g.0 h.1 g.1 in
    (k.0, g.0 ∷ k.1, k.2, (leads_image m n names count a v i q r x g.0 h.0 f g.1, k.3))

one_name : (names : List (Option ℕ)) (q x y : ℕ) → named names q ≡ Some x → named names q ≡ Some y → x ≡ y
one_name names q x y f g = same_some x y (sym f ∙ g)

useful_image : (m n : Automaton) (names : List (Option ℕ)) (count : ℕ) → IsAutomaton m → IsTotal m names count → IsImage m (named names) n →
    (q x : ℕ) → IsUseful m q → named names q ≡ Some x → IsUseful n x
useful_image m n names count a v i q x u f =
    let r = way_image m n names count a v i m.start u.reached.states q n.start u.reached.way i.start in
    let k = way_image m n names count a v i q u.ends.states u.ends.end x u.ends.way f in
    record {
      reached = record { states = r.1; way = subst (λ (z : ℕ). IsWay (Leads n) n.start r.1 z) (one_name names q r.0 x r.2 f) r.3 };
      ends = record { states = k.1; end = k.0; way = k.3; final = (i.finals k.0).1 (u.ends.end, u.ends.final, k.2) };
    }

-- states that become one stay useful
pub image_trim : (m n : Automaton) (names : List (Option ℕ)) (count : ℕ) → IsAutomaton m → IsTotal m names count → IsImage m (named names) n →
    n.states ≡ count → IsTrim m → IsTrim n
image_trim m n names count a v i e t x l ne =
    let q = v.onto x (omega arith) in
    useful_image m n names count a v i q.0 x
    (t q.0 q.1 (λ s. ne (one_name names q.0 x n.start q.2 (subst (λ (z : ℕ). named names z ≡ Some n.start) (sym s) i.start)))) q.2

pub fewer : (m n : Automaton) (names : List (Option ℕ)) (count : ℕ) → IsNaming m names count → n.states ≡ count → count ≢ m.states → n.states < m.states
fewer m n names count v e d = let f = v.few in omega arith

-- a folding accepts the same words, and has no more states
pub folding_reduces : (m n : Automaton) (names : List (Option ℕ)) (count : ℕ) → IsAutomaton m → IsTotal m names count → IsImage m (named names) n →
    n.states ≡ count → IsFolding m (named names) n → IsReduced m n
folding_reduces m n names count a v i e f = record {
  words = λ w. let r = folding_accepts m n (named names) a i v.total f w in (r.1, r.0);
  states = let g = v.few in omega arith;
}
