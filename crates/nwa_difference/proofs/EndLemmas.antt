-- The states to which letters lead.
use Rattle.std.proofs.Common.{◌≡◌, ◌∙◌, ◌<◌, ℕ, List, length, sym, ap, subst, inl, inr, slice_index_or}
use Rattle.nwa_base.specs.declared.letters.Letter.{Letter}
use Rattle.nwa_base.specs.Automata.{Automaton}
use Rattle.nwa_base.specs.Pairs.{IsInsideOf, IsCallOf, IsBackOf}
use Rattle.nwa_determinise.specs.Kept.{Kept, set_at, Grows}
use Rattle.nwa_difference.specs.Covering.{HasCover, IsCovered, EndsInCover}
use Rattle.nwa_difference.specs.Ties.Making.{Made, first_at, number_at, set_of, IsMade, Extends, Nowhere, NoReturn, IsInsideEnd, IsCallEnd, IsBackEnd, HasInside, HasCall, HasBack}
use Rattle.nwa_difference.proofs.CoverLemmas.{cover_covers}
use Rattle.nwa_difference.proofs.GrowingLemmas.{set_of_stays, extends_on, sets_extend, sets_made}

-- the set of a state of the product
abbrev IsNumber : Made → ℕ → ℕ × ℕ → Type 0
IsNumber p x r = r ≡ slice_index_or p.states x (0, 0)

pub in_range : (p : Made) (x : ℕ) (r : ℕ × ℕ) → IsMade p → x < length p.states → IsNumber p x r → r.1 < length p.sets.sets
in_range p x r v l e = subst (λ (z : ℕ × ℕ). z.1 < length p.sets.sets) (sym e) (v.numbers x l)

set_there : (p c : Made) (x : ℕ) (r : ℕ × ℕ) → IsMade p → Extends p c Nowhere NoReturn → x < length p.states → IsNumber p x r → set_at p.sets r.1 ≡ set_of c x
set_there p c x r v g l e =
    ap (λ (z : ℕ × ℕ). set_at p.sets z.1) e ∙ sym (set_of_stays p c Nowhere NoReturn x v g l)

set_new : (c : Made) (sets : Kept) (t y : ℕ) → c.sets ≡ sets → number_at c y ≡ t → set_at sets t ≡ set_of c y
set_new c sets t y f h = sym (ap (λ (n : ℕ). set_at c.sets n) h ∙ ap (λ (k : Kept). set_at k t) f)

pub both_extend : (p c : Made) (sets : Kept) → IsMade p → Grows p.sets sets → Extends (record p { sets = sets }) c Nowhere NoReturn → Extends p c Nowhere NoReturn
both_extend p c sets v g h = extends_on p (record p { sets = sets }) c Nowhere NoReturn (sets_extend p sets v g) h

pub inside_end_is : (p c : Made) (sets : Kept) (x : ℕ) (r : ℕ × ℕ) (l : Letter) (e t y : ℕ) → IsMade p → Grows p.sets sets →
    Extends (record p { sets = sets }) c Nowhere NoReturn → x < length p.states → IsNumber p x r → IsInsideOf p.sets.nwa l (set_at p.sets r.1) (set_at sets t) →
    c.sets ≡ sets → (y < length c.states) × (first_at c y ≡ e) × (number_at c y ≡ t) → IsInsideEnd c x l e y
inside_end_is p c sets x r l e t y v k h i n s f a =
    let g = both_extend p c sets v k h in
    record {
      within = a.0;
      first = a.1;
      set =
          subst (λ (m : Automaton). IsInsideOf m l (set_of c x) (set_of c y)) (sym g.sets.nwa)
          (subst (λ (z : List (ℕ × ℕ)). IsInsideOf p.sets.nwa l z (set_of c y)) (set_there p c x r v g i n)
          (subst (λ (z : List (ℕ × ℕ)). IsInsideOf p.sets.nwa l (set_at p.sets r.1) z) (set_new c sets t y f a.2) s));
    }

pub call_end_is : (p c : Made) (sets : Kept) (x : ℕ) (r : ℕ × ℕ) (l : Letter) (e t y : ℕ) → IsMade p → Grows p.sets sets →
    Extends (record p { sets = sets }) c Nowhere NoReturn → x < length p.states → IsNumber p x r → IsCallOf p.sets.nwa l (set_at p.sets r.1) (set_at sets t) →
    c.sets ≡ sets → (y < length c.states) × (first_at c y ≡ e) × (number_at c y ≡ t) → IsCallEnd c x l e y
call_end_is p c sets x r l e t y v k h i n s f a =
    let g = both_extend p c sets v k h in
    record {
      within = a.0;
      first = a.1;
      set =
          subst (λ (m : Automaton). IsCallOf m l (set_of c x) (set_of c y)) (sym g.sets.nwa)
          (subst (λ (z : List (ℕ × ℕ)). IsCallOf p.sets.nwa l z (set_of c y)) (set_there p c x r v g i n)
          (subst (λ (z : List (ℕ × ℕ)). IsCallOf p.sets.nwa l (set_at p.sets r.1) z) (set_new c sets t y f a.2) s));
    }

pub back_end_is : (p c : Made) (sets : Kept) (x w : ℕ) (r o : ℕ × ℕ) (l : Letter) (e t y : ℕ) → IsMade p → Grows p.sets sets →
    Extends (record p { sets = sets }) c Nowhere NoReturn → x < length p.states → w < length p.states → IsNumber p x r → IsNumber p w o →
    IsBackOf p.sets.nwa l (set_at p.sets o.1) (set_at p.sets r.1) (set_at sets t) → c.sets ≡ sets →
    (y < length c.states) × (first_at c y ≡ e) × (number_at c y ≡ t) → IsBackEnd c x w l e y
back_end_is p c sets x w r o l e t y v k h i j n q s f a =
    let g = both_extend p c sets v k h in
    record {
      within = a.0;
      first = a.1;
      set =
          subst (λ (m : Automaton). IsBackOf m l (set_of c w) (set_of c x) (set_of c y)) (sym g.sets.nwa)
          (subst (λ (z : List (ℕ × ℕ)). IsBackOf p.sets.nwa l z (set_of c x) (set_of c y)) (set_there p c w o v g j q)
          (subst (λ (z : List (ℕ × ℕ)). IsBackOf p.sets.nwa l (set_at p.sets o.1) z (set_of c y)) (set_there p c x r v g i n)
          (subst (λ (z : List (ℕ × ℕ)). IsBackOf p.sets.nwa l (set_at p.sets o.1) (set_at p.sets r.1) z) (set_new c sets t y f a.2) s)));
    }

-- a set that has the cover of a state covers it
has_covered : (p : Made) (sets : Kept) (e t : ℕ) → IsMade p → Grows p.sets sets → EndsInCover p.covers e (set_at sets t) →
    IsCovered p.first sets.nwa e (set_at sets t)
has_covered p sets e t v k h = record {
  key = h.1;
  state = h.0;
  member = h.3;
  covers = cover_covers p.first sets.nwa (HasCover p.first sets.nwa p.covers) (sets_made p sets v k).covers e h.0 (inl h.2);
}

-- the ends that are covered
pub inside_end_covered : (p : Made) (sets : Kept) (x : ℕ) (r : ℕ × ℕ) (l : Letter) (e t : ℕ) → IsMade p → Grows p.sets sets → x < length p.states →
    IsNumber p x r → IsInsideOf p.sets.nwa l (set_at p.sets r.1) (set_at sets t) → EndsInCover p.covers e (set_at sets t) →
    HasInside (record p { sets = sets }) x l e
inside_end_covered p sets x r l e t v k i n s h =
    let c : Made = record p { sets = sets } in
    let g = sets_extend p sets v k in
    inr (
      i,
      record {
        set = set_at sets t;
        of =
            subst (λ (m : Automaton). IsInsideOf m l (set_of c x) (set_at sets t)) (sym g.sets.nwa)
            (subst (λ (z : List (ℕ × ℕ)). IsInsideOf p.sets.nwa l z (set_at sets t)) (set_there p c x r v g i n) s);
        covered = has_covered p sets e t v k h;
      },
    )

pub call_end_covered : (p : Made) (sets : Kept) (x : ℕ) (r : ℕ × ℕ) (l : Letter) (e t : ℕ) → IsMade p → Grows p.sets sets → x < length p.states →
    IsNumber p x r → IsCallOf p.sets.nwa l (set_at p.sets r.1) (set_at sets t) → EndsInCover p.covers e (set_at sets t) →
    HasCall (record p { sets = sets }) x l e
call_end_covered p sets x r l e t v k i n s h =
    let c : Made = record p { sets = sets } in
    let g = sets_extend p sets v k in
    inr (
      i,
      record {
        set = set_at sets t;
        of =
            subst (λ (m : Automaton). IsCallOf m l (set_of c x) (set_at sets t)) (sym g.sets.nwa)
            (subst (λ (z : List (ℕ × ℕ)). IsCallOf p.sets.nwa l z (set_at sets t)) (set_there p c x r v g i n) s);
        covered = has_covered p sets e t v k h;
      },
    )

pub back_end_covered : (p : Made) (sets : Kept) (x w : ℕ) (r o : ℕ × ℕ) (l : Letter) (e t : ℕ) → IsMade p → Grows p.sets sets → x < length p.states →
    w < length p.states → IsNumber p x r → IsNumber p w o → IsBackOf p.sets.nwa l (set_at p.sets o.1) (set_at p.sets r.1) (set_at sets t) →
    EndsInCover p.covers e (set_at sets t) → HasBack (record p { sets = sets }) x w l e
back_end_covered p sets x w r o l e t v k i j n q s h =
    let c : Made = record p { sets = sets } in
    let g = sets_extend p sets v k in
    inr (
      i,
      j,
      record {
        set = set_at sets t;
        of =
            subst (λ (m : Automaton). IsBackOf m l (set_of c w) (set_of c x) (set_at sets t)) (sym g.sets.nwa)
            (subst (λ (z : List (ℕ × ℕ)). IsBackOf p.sets.nwa l z (set_of c x) (set_at sets t)) (set_there p c w o v g j q)
            (subst (λ (z : List (ℕ × ℕ)). IsBackOf p.sets.nwa l (set_at p.sets o.1) z (set_at sets t)) (set_there p c x r v g i n) s));
        covered = has_covered p sets e t v k h;
      },
    )
