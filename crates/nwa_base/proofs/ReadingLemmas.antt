-- Words read letter by letter.
use Rattle.std.proofs.Common.{◌≡◌, ◌↔◌, ◌∙◌, ℕ, Bool, true, Option, None, Some, ◌<◌, ◌≤◌, ◌+◌, List, [], ◌∷◌, ◌++◌, length, get_or, drop, reverse, map, sym, ap, subst, inl, inr, add-one}
use Rattle.std.specs.Prelude.{MatchOption, is_some}
use Rattle.std.proofs.lemmas.Bool.{false≢true}
use Rattle.std.specs.Global.{Vec}
use Rattle.std.proofs.lemmas.List.{reverse-append, map-append, drop_all}
use Rattle.std.proofs.Math.Seq.{drop-cons}
use Rattle.nwa_base.specs.declared.letters.Letter.{Letter}
use Rattle.nwa_base.specs.declared.reading.Step.{Step}
use Rattle.nwa_base.specs.declared.reading.Step.TheVariants as steps
use Rattle.nwa_base.specs.Members.{Member}
use Rattle.nwa_base.specs.Automata.{Automaton}
use Rattle.nwa_base.specs.Acceptance.{Accepts}
use Rattle.nwa_base.specs.Pairs.{SomeAccepts, IsSupported, HasFinal, LettersOn}
use Rattle.nwa_base.specs.Ties.Reading.{sets_of, IsStep}
use Rattle.nwa_base.proofs.MemberLemmas.{member_at}
use Rattle.nwa_base.proofs.Steps.{inside_on, call_on, back_on, at_start, at_end}
use Rattle.nwa_base.proofs.RunLemmas.{accepted_by_run}
use Rattle.nwa_base.specs.Runs.{IsAcceptingRun}

-- one more set is saved
pub sets_of-push : (saved : List (Vec (ℕ × ℕ))) (s : Vec (ℕ × ℕ)) → sets_of (saved ++ s ∷ []) ≡ s.items ∷ sets_of saved
sets_of-push saved s =
    ap reverse (map-append (λ (v : Vec (ℕ × ℕ)). v.items) saved (s ∷ [])) ∙
    reverse-append (map (λ (v : Vec (ℕ × ℕ)). v.items) saved) (s.items ∷ [])

-- a step reads its letter
pub step_on : (m : Automaton) (a : Letter) (step : Step) (sets next : List (List (ℕ × ℕ))) → IsStep m a step sets next → LettersOn m a sets next
step_on m a step [] next h = absurd h
step_on m a step (s ∷ sets) [] h = absurd h
step_on m a (steps.Inside before) (s ∷ sets) (t ∷ next) h =
    subst (λ (l : List (List (ℕ × ℕ))). LettersOn m a (s ∷ sets) (t ∷ l)) h.2 (inside_on m a s t sets h.0 h.3)
step_on m a steps.Call (s ∷ sets) (t ∷ next) h =
    subst (λ (l : List (List (ℕ × ℕ))). LettersOn m a (s ∷ sets) (t ∷ l)) h.1 (call_on m a s t sets h.0 h.2)
step_on m a (steps.Back outer before) (s ∷ sets) (t ∷ next) h =
    subst (λ (l : List (List (ℕ × ℕ))). LettersOn m a (s ∷ l) (t ∷ next)) (sym h.2) (back_on m a outer.items s t next h.0 h.3)

-- what the loop over the letters keeps: from the sets on the rest is accepted exactly where the word is
pub record IsReading (m : Automaton) (w : List Letter) (i : ℕ) (sets : List (List (ℕ × ℕ))) : Type 0 where
  pub same : SomeAccepts m sets (drop i w) ↔ Accepts m w
  pub supported : IsSupported m.start sets

pub reading_goes : (m : Automaton) (w : List Letter) (i : ℕ) (a d : Letter) (step : Step) (sets next : List (List (ℕ × ℕ))) →
    i < length w → a ≡ get_or w i d → IsReading m w i sets → IsStep m a step sets next → IsReading m w (i + 1) next
reading_goes m w i a d step sets next l e v h =
    let on = step_on m a step sets next h in
    let front : drop i w ≡ a ∷ drop (i + 1) w = rw (add-one, e) (drop-cons w i d l) in
    let old = subst (λ (r : List Letter). SomeAccepts m sets r ↔ Accepts m w) front v.same in
    record {
      same = (λ g. old.0 ((on.same (drop (i + 1) w)).1 g), λ g. (on.same (drop (i + 1) w)).0 (old.1 g));
      supported = on.supported v.supported;
    }

pub reading_stops : (m : Automaton) (w : List Letter) (i : ℕ) (a d : Letter) (sets : List (List (ℕ × ℕ))) →
    i < length w → a ≡ get_or w i d → IsReading m w i sets → ((r : List Letter) → SomeAccepts m sets (a ∷ r) → ⊥) → Accepts m w → ⊥
reading_stops m w i a d sets l e v h g =
    let front : drop i w ≡ a ∷ drop (i + 1) w = rw (add-one, e) (drop-cons w i d l) in
    h (drop (i + 1) w) (subst (SomeAccepts m sets) front (v.same.1 g))

-- a pair that ends in a final state
pub final_here : (m : Automaton) (s : List (ℕ × ℕ)) (i : ℕ) (d : ℕ × ℕ) → i < length s → Member m.finals (get_or s i d).1 → HasFinal m s
final_here m s i d l h = ((get_or s i d).0, (get_or s i d).1, member_at s i d l, h)

final_rest : (m : Automaton) (x : ℕ × ℕ) (rest : List (ℕ × ℕ)) (k q : ℕ) → (Member m.finals x.1 → ⊥) →
    Member (x ∷ rest) (k, q) → Member m.finals q → HasFinal m rest
final_rest m x rest k q n (inl e) f = absurd (n (subst (Member m.finals) (sym (ap (λ (y : ℕ × ℕ). y.1) e)) f))
final_rest m x rest k q n (inr h) f = (k, q, h, f)

pub final_later : (m : Automaton) (s : List (ℕ × ℕ)) (i : ℕ) (d : ℕ × ℕ) → i < length s → (Member m.finals (get_or s i d).1 → ⊥) →
    HasFinal m (drop i s) ↔ HasFinal m s → HasFinal m (drop (i + 1) s) ↔ HasFinal m s
final_later m s i d l n v =
    let front : drop i s ≡ get_or s i d ∷ drop (i + 1) s = rw add-one (drop-cons s i d l) in
    let old = subst (λ (r : List (ℕ × ℕ)). HasFinal m r ↔ HasFinal m s) front v in
    (λ h. old.0 (h.0, h.1, inr h.2, h.3), λ h. let r = old.1 h in final_rest m (get_or s i d) (drop (i + 1) s) r.0 r.1 n r.2 r.3)

only_start : (start k q : ℕ) → Member {X = ℕ × ℕ} ((start, start) ∷ []) (k, q) → k ≡ start
only_start start k q (inl e) = sym (ap (λ (y : ℕ × ℕ). y.0) e)
only_start start k q (inr h) = absurd h

-- before the first letter there is one pair
pub reading_start : (m : Automaton) (w : List Letter) (s : List (ℕ × ℕ)) (saved : List (Vec (ℕ × ℕ))) →
    s ≡ (m.start, m.start) ∷ [] → saved ≡ [] → IsReading m w 0 (s ∷ sets_of saved)
reading_start m w s saved e f =
    subst (λ (v : List (Vec (ℕ × ℕ))). IsReading m w 0 (s ∷ sets_of v)) (sym f)
    (subst (λ (r : List (ℕ × ℕ)). IsReading m w 0 (r ∷ [])) (sym e)
    (record { same = at_start m w; supported = λ k q h. only_start m.start k q h }))

pub reading_ends : (m : Automaton) (w : List Letter) (i : ℕ) (s : List (ℕ × ℕ)) (sets : List (List (ℕ × ℕ))) →
    IsReading m w i (s ∷ sets) → length w ≤ i → HasFinal m s ↔ Accepts m w
reading_ends m w i s sets v l =
    let old = subst (λ (r : List Letter). SomeAccepts m (s ∷ sets) r ↔ Accepts m w) (drop_all i w l) v.same in
    let last = at_end m s sets v.supported in
    (λ h. old.0 (last.1 h), λ h. last.0 (old.1 h))

-- what is true exactly where the word is accepted is so exactly where a run accepts it
pub by_run : (m : Automaton) (w : List Letter) (P : Type 0) → P ↔ Accepts m w → P ↔ ((run : List ℕ) × IsAcceptingRun m w run)
by_run m w P h = let law = accepted_by_run m w in (λ p. law.0 (h.0 p), λ r. h.1 (law.1 r))

pub has_from_found : (m : Automaton) (s : List (ℕ × ℕ)) (o : Option (ℕ × ℕ)) (b : Bool) →
    MatchOption o (HasFinal m s → ⊥) (λ x. Member s x × Member m.finals x.1) → b ≡ is_some o → (b ≡ true) ↔ HasFinal m s
has_from_found m s None b h e = (λ g. absurd (false≢true (sym e ∙ g)), λ g. absurd (h g))
has_from_found m s (Some x) b h e = (λ g. (x.0, x.1, h.0, h.1), λ g. e)
