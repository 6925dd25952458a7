-- Sets that are kept under numbers.
use Rattle.std.proofs.Common.{◌≡◌, ◌<◌, ◌≤◌, ◌∙◌, ℕ, zero, suc, List, [], ◌∷◌, ◌++◌, length, refl, sym, ap, subst, Bool, true, false, cond, ◌&&◌, eqb, eq-eqb, Some, slice_get, slice_index_or, arith, append_assoc, append-nil}
use Rattle.nwa_base.specs.declared.letters.Kind.{Kind}
use Rattle.nwa_base.specs.declared.letters.Kind.TheVariants.{Inside, Call, Back}
use Rattle.nwa_base.specs.declared.letters.Letter.{Letter}
use Rattle.nwa_base.specs.Automata.{Automaton}
use Rattle.nwa_base.specs.Pairs.{IsInsideOf, IsCallOf, IsBackOf}
use Rattle.std.specs.Global.{Vec}
use Rattle.std.proofs.lemmas.Slice.Eq.{slice_eq-Decides}
use lib.Pointwise.{pointwise}
use Rattle.std.proofs.lemmas.List.{map-append}
use Rattle.nwa_base.proofs.LetterLemmas.{and_both}
use Rattle.nwa_base.proofs.MemberLemmas.{same_pair}
use Rattle.nwa_determinise.specs.Kept.{Kept, set_at, Grows, lists_of}
use Rattle.nwa_determinise.specs.Reads.{LeadsTo, Reads, ReadsFromStart}

front_at : {X : Type 0} (xs ys : List X) (n : ℕ) (d : X) → n < length xs → slice_index_or (xs ++ ys) n d ≡ slice_index_or xs n d
front_at [] ys n d l = absurd (omega arith)
front_at (x ∷ xs) ys zero d l = refl
front_at (x ∷ xs) ys (suc n) d l = front_at xs ys n d (omega arith)

length_grows : {X : Type 0} (xs ys : List X) (n : ℕ) → n < length xs → n < length (xs ++ ys)
length_grows [] ys n l = absurd (omega arith)
length_grows (x ∷ xs) ys zero l = omega arith
length_grows (x ∷ xs) ys (suc n) l = let i = length_grows xs ys n (omega arith) in omega arith

-- a set stays
pub set_stays : (d e : Kept) (n : ℕ) → Grows d e → n < length d.sets → set_at e n ≡ set_at d n
set_stays d e n g l = ap (λ (s : List (List (ℕ × ℕ))). slice_index_or s n []) g.sets ∙ front_at d.sets g.more n [] l

pub number_stays : (d e : Kept) (n : ℕ) → Grows d e → n < length d.sets → n < length e.sets
number_stays d e n g l = subst (λ (s : List (List (ℕ × ℕ))). n < length s) (sym g.sets) (length_grows d.sets g.more n l)

pub grows_none : (d : Kept) → Grows d d
grows_none d = record { nwa = refl; more = []; sets = sym (append-nil d.sets) }

pub grows_on : (d e f : Kept) → Grows d e → Grows e f → Grows d f
grows_on d e f g h = record {
  nwa = h.nwa ∙ g.nwa;
  more = g.more ++ h.more;
  sets = h.sets ∙ ap (λ (s : List (List (ℕ × ℕ))). s ++ h.more) g.sets ∙ append_assoc d.sets g.more h.more;
}

pub inside_stays : (d e : Kept) (a : Letter) (s t : ℕ) → Grows d e → s < length d.sets → t < length d.sets →
    IsInsideOf d.nwa a (set_at d s) (set_at d t) → IsInsideOf e.nwa a (set_at e s) (set_at e t)
inside_stays d e a s t g i j h =
    subst (λ (m : Automaton). IsInsideOf m a (set_at e s) (set_at e t)) (sym g.nwa)
    (subst (λ (x : List (ℕ × ℕ)). IsInsideOf d.nwa a x (set_at e t)) (sym (set_stays d e s g i))
    (subst (λ (x : List (ℕ × ℕ)). IsInsideOf d.nwa a (set_at d s) x) (sym (set_stays d e t g j)) h))

pub call_stays : (d e : Kept) (a : Letter) (s t : ℕ) → Grows d e → s < length d.sets → t < length d.sets →
    IsCallOf d.nwa a (set_at d s) (set_at d t) → IsCallOf e.nwa a (set_at e s) (set_at e t)
call_stays d e a s t g i j h =
    subst (λ (m : Automaton). IsCallOf m a (set_at e s) (set_at e t)) (sym g.nwa)
    (subst (λ (x : List (ℕ × ℕ)). IsCallOf d.nwa a x (set_at e t)) (sym (set_stays d e s g i))
    (subst (λ (x : List (ℕ × ℕ)). IsCallOf d.nwa a (set_at d s) x) (sym (set_stays d e t g j)) h))

pub back_stays : (d e : Kept) (a : Letter) (b s t : ℕ) → Grows d e → b < length d.sets → s < length d.sets → t < length d.sets →
    IsBackOf d.nwa a (set_at d b) (set_at d s) (set_at d t) → IsBackOf e.nwa a (set_at e b) (set_at e s) (set_at e t)
back_stays d e a b s t g k i j h =
    subst (λ (m : Automaton). IsBackOf m a (set_at e b) (set_at e s) (set_at e t)) (sym g.nwa)
    (subst (λ (x : List (ℕ × ℕ)). IsBackOf d.nwa a x (set_at e s) (set_at e t)) (sym (set_stays d e b g k))
    (subst (λ (x : List (ℕ × ℕ)). IsBackOf d.nwa a (set_at d b) x (set_at e t)) (sym (set_stays d e s g i))
    (subst (λ (x : List (ℕ × ℕ)). IsBackOf d.nwa a (set_at d b) (set_at d s) x) (sym (set_stays d e t g j)) h)))

-- what a letter leads to stays so
pub leads_stays : (d e : Kept) (kind : Kind) (a : Letter) (before after : List ℕ) (s t : ℕ) → Grows d e →
    LeadsTo d kind a before s after t → LeadsTo e kind a before s after t
leads_stays d e Inside a before after s t g h =
    (number_stays d e s g h.0, number_stays d e t g h.1, inside_stays d e a s t g h.0 h.1 h.2, h.3)
leads_stays d e Call a before after s t g h =
    (number_stays d e s g h.0, number_stays d e t g h.1, call_stays d e a s t g h.0 h.1 h.2, h.3)
leads_stays d e Back a [] after s t g h = absurd h
leads_stays d e Back a (b ∷ before) after s t g h = (
  number_stays d e b g h.0,
  number_stays d e s g h.1,
  number_stays d e t g h.2,
  back_stays d e a b s t g h.0 h.1 h.2 h.3,
  h.4,
)

reads_stays : (d e : Kept) (w : List Letter) (before after : List ℕ) (s t : ℕ) → Grows d e → Reads d before s w after t → Reads e before s w after t
reads_stays d e [] before after s t g h = h
reads_stays d e (a ∷ w) before after s t g h =
    (h.0, h.1, leads_stays d e a.kind a before h.0 s h.1 g h.2, reads_stays d e w h.0 after h.1 t g h.3)

within_kept : (sets : List (List (ℕ × ℕ))) (n : ℕ) (x : ℕ × ℕ) → slice_index_or sets n [] ≡ x ∷ [] → n < length sets
within_kept [] n x e = cc
within_kept (s ∷ sets) zero x e = omega arith
within_kept (s ∷ sets) (suc n) x e = let i = within_kept sets n x e in omega arith

-- what was read stays read
pub from_start_stays : (d e : Kept) (w : List Letter) (t : ℕ) → Grows d e → ReadsFromStart d w t → ReadsFromStart e w t
from_start_stays d e w t g h = record {
  first = h.first;
  start =
      set_stays d e h.first g (within_kept d.sets h.first (d.nwa.start, d.nwa.start) h.start) ∙ h.start ∙
      ap (λ (m : Automaton). (m.start, m.start) ∷ []) (sym g.nwa);
  calls = h.calls;
  reads = reads_stays d e w [] h.calls h.first t g h.reads;
}

-- a set is kept
pub kept_more : (m : Automaton) (old new : List (Vec (ℕ × ℕ))) (set : Vec (ℕ × ℕ)) (b : Bool) → new ≡ cond b old (old ++ set ∷ []) →
    Grows (record { nwa = m; sets = lists_of old }) (record { nwa = m; sets = lists_of new })
kept_more m old new set true e = record { nwa = refl; more = []; sets = ap lists_of e ∙ sym (append-nil (lists_of old)) }
kept_more m old new set false e = record { nwa = refl; more = set.items ∷ []; sets = ap lists_of e ∙ map-append (λ (s : Vec (ℕ × ℕ)). s.items) old (set ∷ []) }

-- the test of sets
pub same_items : (xs ys : List (ℕ × ℕ)) → pointwise (λ (a b : ℕ × ℕ). eqb a.0 b.0 && eqb a.1 b.1) xs ys ≡ true → xs ≡ ys
same_items xs ys e =
    (slice_eq-Decides {E = λ (a b : ℕ × ℕ). eqb a.0 b.0 && eqb a.1 b.1}
    (λ a b. (
      λ h. same_pair a b h,
      λ h. and_both _ _ (eq-eqb a.0 b.0 (ap (λ (z : ℕ × ℕ). z.0) h)) (eq-eqb a.1 b.1 (ap (λ (z : ℕ × ℕ). z.1) h)),
    ))
    xs ys _ refl).0 e

pub kept_at : (sets : List (Vec (ℕ × ℕ))) (n : ℕ) (k : Vec (ℕ × ℕ)) → slice_get sets n ≡ Some k → slice_index_or (lists_of sets) n [] ≡ k.items
kept_at [] n k e = cc
kept_at (s ∷ sets) zero k e = let f : Some s ≡ Some k = e in let g : s ≡ k = cc in ap (λ (x : Vec (ℕ × ℕ)). x.items) g
kept_at (s ∷ sets) (suc n) k e = kept_at sets n k e

longer : (xs ys : List (List (ℕ × ℕ))) → length xs ≤ length (xs ++ ys)
longer [] ys = omega arith
longer (x ∷ xs) ys = let i = longer xs ys in omega arith

-- no fewer sets are kept
pub kept_longer : (d e : Kept) → Grows d e → length d.sets ≤ length e.sets
kept_longer d e g = subst (λ (s : List (List (ℕ × ℕ))). length d.sets ≤ length s) (sym g.sets) (longer d.sets g.more)
