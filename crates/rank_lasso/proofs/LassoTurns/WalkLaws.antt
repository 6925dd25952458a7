-- States that obey two lists of inside letters, one behind the other, are those that obey the first and then the second.
use Rattle.std.proofs.Common.{◌≡◌, ◌∙◌, ℕ, ◌<◌, ℤ, List, [], ◌∷◌, ◌++◌, length, Option, None, Some, refl, sym, ap, subst}
use Rattle.letter_acts.specs.Frames.{IsState}
use Rattle.letter_acts.specs.Acts.{PlainAct, inside_act, call_act, back_act, Alphabet, frame_of, act_of}
use Rattle.letter_acts.specs.Meaning.{Situation, ActInside}
use Rattle.letter_acts.specs.Ways.{GoesThrough}
use Rattle.letter_acts.specs.Feasible.{IsSituation, meaning}
use Rattle.letter_acts.proofs.WayLemmas.{along_by_stack}
use Rattle.rank_lasso.specs.LassoTurns.Turns.{inside_letter, inside_letters, last_or, LeadsAlong}

-- some states, the last of which is y, obey the letters from x
pub record Through (al : Alphabet) (ns : List ℕ) (x y : Situation) : Type 0 where
  pub more : List Situation
  pub goes : GoesThrough (meaning al) [] x (inside_letters ns) more
  pub last : last_or x more ≡ y

-- ---- an inside letter stays in its procedure

record Stays (al : Alphabet) (s t : Situation) : Type 0 where
  proc : t.proc ≡ s.proc
  state : IsSituation al t

inside_stays : (al : Alphabet) (o : Option PlainAct) (s t : Situation) → ActInside al o s t → Stays al s t
inside_stays al None s t h = absurd h
inside_stays al (Some (inside_act p written helpers rows)) s t h = record {
  proc = h.1.0 ∙ sym h.0.0;
  state = (subst (λ (q : ℕ). q < length al.frames) (sym h.1.0) h.1.1, subst (λ (q : ℕ). IsState (frame_of al q) t.values) (sym h.1.0) h.2.after);
}
inside_stays al (Some (call_act caller callee helpers rows)) s t h = absurd h
inside_stays al (Some (back_act c targets)) s t h = absurd h

goes_stays : (al : Alphabet) (ns : List ℕ) (x : Situation) (more : List Situation) → IsSituation al x → GoesThrough (meaning al) [] x (inside_letters ns) more →
    Stays al x (last_or x more)
goes_stays al [] x [] b h = record { proc = refl; state = b }
goes_stays al [] x (y ∷ more) b h = absurd h
goes_stays al (n ∷ ns) x [] b h = absurd h
goes_stays al (n ∷ ns) x (y ∷ more) b h =
    let one = inside_stays al (act_of al (inside_letter n)) x y h.0 in
    let rest = goes_stays al ns y more one.state h.1 in
    record { proc = rest.proc ∙ one.proc; state = rest.state }

-- ---- joined and split

goes_joined : (al : Alphabet) (ms ns : List ℕ) (x : Situation) (front back : List Situation) → GoesThrough (meaning al) [] x (inside_letters ms) front →
    GoesThrough (meaning al) [] (last_or x front) (inside_letters ns) back → Through al (ms ++ ns) x (last_or (last_or x front) back)
goes_joined al [] ns x [] back h g = record { more = back; goes = g; last = refl }
goes_joined al [] ns x (y ∷ front) back h g = absurd h
goes_joined al (m ∷ ms) ns x [] back h g = absurd h
goes_joined al (m ∷ ms) ns x (y ∷ front) back h g =
    let rest = goes_joined al ms ns y front back h.1 g in
    record { more = y ∷ rest.more; goes = (h.0, rest.goes); last = rest.last }

pub record Halves (al : Alphabet) (ms ns : List ℕ) (x y : Situation) : Type 0 where
  pub middle : Situation
  pub first : Through al ms x middle
  pub second : Through al ns middle y

goes_split : (al : Alphabet) (ms ns : List ℕ) (x : Situation) (more : List Situation) → GoesThrough (meaning al) [] x (inside_letters (ms ++ ns)) more →
    Halves al ms ns x (last_or x more)
goes_split al [] ns x more h = record {
  middle = x;
  first = record { more = []; goes = tt; last = refl };
  second = record { more = more; goes = h; last = refl };
}
goes_split al (m ∷ ms) ns x [] h = absurd h
goes_split al (m ∷ ms) ns x (y ∷ more) h =
    let rest = goes_split al ms ns y more h.1 in
    record {
      middle = rest.middle;
      first = record { more = y ∷ rest.first.more; goes = (h.0, rest.first.goes); last = rest.first.last };
      second = rest.second;
    }

-- ---- states

abbrev at : ℕ → List ℤ → Situation
at p s = record { proc = p; values = s }

-- a state in the procedure is known by its values
at_values : (p : ℕ) (y : Situation) → y.proc ≡ p → y ≡ at p y.values
at_values p y e = ap (λ (q : ℕ). at q y.values) e

pub leads_joined : (al : Alphabet) (p : ℕ) (ms ns : List ℕ) (s v u : List ℤ) → LeadsAlong al p ms s v → LeadsAlong al p ns v u → LeadsAlong al p (ms ++ ns) s u
leads_joined al p ms ns s v u a b =
    let through = (along_by_stack (meaning al) (inside_letters ms) (at p s) a.more).0 a.obey.along in
    let kept = goes_stays al ms (at p s) a.more a.obey.begins through in
    let middle : last_or (at p s) a.more ≡ at p v = at_values p (last_or (at p s) a.more) kept.proc ∙ ap (at p) a.ends in
    let next = (along_by_stack (meaning al) (inside_letters ns) (at p v) b.more).0 b.obey.along in
    let all = goes_joined al ms ns (at p s) a.more b.more through
    (subst (λ (z : Situation). GoesThrough (meaning al) [] z (inside_letters ns) b.more) (sym middle) next) in
    let ends : last_or (at p s) all.more ≡ last_or (at p v) b.more = all.last ∙ ap (λ (z : Situation). last_or z b.more) middle in
    record {
      more = all.more;
      obey = record { begins = a.obey.begins; along = (along_by_stack (meaning al) (inside_letters (ms ++ ns)) (at p s) all.more).1 all.goes };
      ends = ap (λ (z : Situation). z.values) ends ∙ b.ends;
    }

-- a state between the two lists
pub record LeadsBetween (al : Alphabet) (p : ℕ) (ms ns : List ℕ) (s u : List ℤ) : Type 0 where
  pub middle : List ℤ
  pub first : LeadsAlong al p ms s middle
  pub second : LeadsAlong al p ns middle u

pub leads_split : (al : Alphabet) (p : ℕ) (ms ns : List ℕ) (s u : List ℤ) → LeadsAlong al p (ms ++ ns) s u → LeadsBetween al p ms ns s u
leads_split al p ms ns s u h =
    let through = (along_by_stack (meaning al) (inside_letters (ms ++ ns)) (at p s) h.more).0 h.obey.along in
    let k = goes_split al ms ns (at p s) h.more through in
    let kept = goes_stays al ms (at p s) k.first.more h.obey.begins k.first.goes in
    let middle : k.middle ≡ at p k.middle.values =
    at_values p k.middle (ap (λ (z : Situation). z.proc) (sym k.first.last) ∙ kept.proc) in
    let state : IsSituation al k.middle = subst (IsSituation al) k.first.last kept.state in
    record {
      middle = k.middle.values;
      first = record {
        more = k.first.more;
        obey = record { begins = h.obey.begins; along = (along_by_stack (meaning al) (inside_letters ms) (at p s) k.first.more).1 k.first.goes };
        ends = ap (λ (z : Situation). z.values) k.first.last;
      };
      second = record {
        more = k.second.more;
        obey = record {
          begins = subst (IsSituation al) middle state;
          along = (along_by_stack (meaning al) (inside_letters ns) (at p k.middle.values) k.second.more).1
              (subst (λ (z : Situation). GoesThrough (meaning al) [] z (inside_letters ns) k.second.more) middle k.second.goes);
        };
        ends = ap (λ (z : Situation). (last_or z k.second.more).values) (sym middle) ∙ ap (λ (z : Situation). z.values) k.second.last ∙ h.ends;
      };
    }
