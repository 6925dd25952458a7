-- Ways through words: cut in two, by their last letter, by themselves, and in automata with the same edges.
use Rattle.std.proofs.Common.{◌≡◌, ◌↔◌, ◌<◌, ◌-◌, ℕ, zero, suc, Bool, true, List, [], ◌∷◌, ◌++◌, length, Option, IsTrue, refl, sym, ap, subst, arith}
use Rattle.std.specs.Prelude.{slice_index, IsSome}
use Rattle.std.proofs.lemmas.Bool.{false≢true}
use Rattle.nwa_base.specs.declared.letters.Kind.{Kind}
use Rattle.nwa_base.specs.declared.letters.Kind.TheVariants.{Inside, Call, Back}
use Rattle.nwa_base.specs.declared.letters.Letter.{Letter}
use Rattle.nwa_base.specs.Members.{SameMembers}
use Rattle.nwa_base.specs.Words.{goes_on, are_matched, counted, match_back, HasMatches}
use Rattle.nwa_base.specs.Automata.{Automaton, SameEdges}
use Rattle.nwa_base.specs.Acceptance.{Follows, AcceptsFrom, Accepts, Moves}
use Rattle.nwa_base.specs.Runs.{EndsFinal, IsAcceptingRun}
use Rattle.nwa_base.proofs.RunLemmas.{RunOn, follows_stack, follows_with, run_accepted, steps_run}

-- two ways, one after the other
pub moves_join : (m : Automaton) (u v : List Letter) (before mid after : List ℕ) (q r e : ℕ) →
    Moves m before q u mid r → Moves m mid r v after e → Moves m before q (u ++ v) after e
moves_join m [] v before mid after q r e h g =
    subst (λ (s : List ℕ). Moves m s q v after e) (sym h.0) (subst (λ (n : ℕ). Moves m mid n v after e) (sym h.1) g)
moves_join m (a ∷ u) v before mid after q r e h g =
    let f = follows_stack m a.kind a before q h.0 (λ stack. Moves m stack h.0 u mid r) h.1 in
    (h.0, follows_with m a.kind a before q h.0 f.0 (λ stack. Moves m stack h.0 (u ++ v) after e) f.1 (moves_join m u v f.0 mid after h.0 r e f.2 g))

pub moves_split : (m : Automaton) (u v : List Letter) (before after : List ℕ) (q e : ℕ) → Moves m before q (u ++ v) after e →
    (mid : List ℕ) × (r : ℕ) × Moves m before q u mid r × Moves m mid r v after e
moves_split m [] v before after q e h = (before, q, (refl, refl), h)
moves_split m (a ∷ u) v before after q e h =
    let f = follows_stack m a.kind a before q h.0 (λ stack. Moves m stack h.0 (u ++ v) after e) h.1 in
    let r = moves_split m u v f.0 after h.0 e f.2 in
    (r.0, r.1, (h.0, follows_with m a.kind a before q h.0 f.0 (λ stack. Moves m stack h.0 u r.0 r.1) f.1 r.2), r.3)

pub moves_cut : (m : Automaton) (u v : List Letter) (before after : List ℕ) (q e : ℕ) →
    Moves m before q (u ++ v) after e ↔ ((mid : List ℕ) × (r : ℕ) × Moves m before q u mid r × Moves m mid r v after e)
moves_cut m u v before after q e = (moves_split m u v before after q e, λ h. moves_join m u v before h.0 after q h.1 e h.2 h.3)

-- a way, and then an accepted rest
pub accepts_join : (m : Automaton) (u v : List Letter) (before mid : List ℕ) (q r : ℕ) →
    Moves m before q u mid r → AcceptsFrom m mid r v → AcceptsFrom m before q (u ++ v)
accepts_join m [] v before mid q r h g =
    subst (λ (s : List ℕ). AcceptsFrom m s q v) (sym h.0) (subst (λ (n : ℕ). AcceptsFrom m mid n v) (sym h.1) g)
accepts_join m (a ∷ u) v before mid q r h g =
    let f = follows_stack m a.kind a before q h.0 (λ stack. Moves m stack h.0 u mid r) h.1 in
    (h.0, follows_with m a.kind a before q h.0 f.0 (λ stack. AcceptsFrom m stack h.0 (u ++ v)) f.1 (accepts_join m u v f.0 mid h.0 r f.2 g))

pub accepts_split : (m : Automaton) (u v : List Letter) (before : List ℕ) (q : ℕ) → AcceptsFrom m before q (u ++ v) →
    (mid : List ℕ) × (r : ℕ) × Moves m before q u mid r × AcceptsFrom m mid r v
accepts_split m [] v before q h = (before, q, (refl, refl), h)
accepts_split m (a ∷ u) v before q h =
    let f = follows_stack m a.kind a before q h.0 (λ stack. AcceptsFrom m stack h.0 (u ++ v)) h.1 in
    let r = accepts_split m u v f.0 h.0 f.2 in
    (r.0, r.1, (h.0, follows_with m a.kind a before q h.0 f.0 (λ stack. Moves m stack h.0 u r.0 r.1) f.1 r.2), r.3)

pub accepts_cut : (m : Automaton) (u v : List Letter) (before : List ℕ) (q : ℕ) →
    AcceptsFrom m before q (u ++ v) ↔ ((mid : List ℕ) × (r : ℕ) × Moves m before q u mid r × AcceptsFrom m mid r v)
accepts_cut m u v before q = (accepts_split m u v before q, λ h. accepts_join m u v before h.0 q h.1 h.2 h.3)

-- a way by one letter
one_letter : (m : Automaton) (a : Letter) (before after : List ℕ) (q e : ℕ) →
    Moves m before q (a ∷ []) after e → Follows m a.kind a before q e (λ stack. stack ≡ after)
one_letter m a before after q e h =
    let f = follows_stack m a.kind a before q h.0 (λ stack. (stack ≡ after) × (h.0 ≡ e)) h.1 in
    subst (λ (n : ℕ). Follows m a.kind a before q n (λ stack. stack ≡ after)) f.2.1
    (follows_with m a.kind a before q h.0 f.0 (λ stack. stack ≡ after) f.1 f.2.0)

pub moves_last : (m : Automaton) (w : List Letter) (a : Letter) (before after : List ℕ) (q e : ℕ) →
    Moves m before q (w ++ a ∷ []) after e ↔
    ((mid : List ℕ) × (r : ℕ) × Moves m before q w mid r × Follows m a.kind a mid r e (λ stack. stack ≡ after))
moves_last m w a before after q e = (
  λ h. let r = moves_split m w (a ∷ []) before after q e h in (r.0, r.1, r.2, one_letter m a r.0 after r.1 e r.3),
  λ h.
      let f = follows_stack m a.kind a h.0 h.1 e (λ stack. stack ≡ after) h.3 in
      moves_join m w (a ∷ []) before h.0 after q h.1 e h.2
      (e, follows_with m a.kind a h.0 h.1 e f.0 (λ stack. (stack ≡ after) × (e ≡ e)) f.1 (f.2, refl)),
)

-- the states before the calls around an edge stay
follows_below : (m : Automaton) (kind : Kind) (a : Letter) (before below : List ℕ) (q e : ℕ) (stack : List ℕ) →
    Follows m kind a before q e (λ s. s ≡ stack) → Follows m kind a (before ++ below) q e (λ s. s ≡ stack ++ below)
follows_below m Inside a before below q e stack h = (h.0, ap (λ (s : List ℕ). s ++ below) h.1)
follows_below m Call a before below q e stack h = (h.0, ap (λ (s : List ℕ). s ++ below) h.1)
follows_below m Back a [] below q e stack h = absurd h
follows_below m Back a (p ∷ before) below q e stack h = (h.0, ap (λ (s : List ℕ). s ++ below) h.1)

follows_above : (m : Automaton) (kind : Kind) (a : Letter) (own below : List ℕ) (q e : ℕ) (stack : List ℕ) (rest : ℕ → Bool) →
    goes_on kind (length own) rest ≡ true → Follows m kind a (own ++ below) q e (λ s. s ≡ stack) →
    (own' : List ℕ) × (stack ≡ own' ++ below) × Follows m kind a own q e (λ s. s ≡ own') × (rest (length own') ≡ true)
follows_above m Inside a own below q e stack rest g h = (own, sym h.1, (h.0, refl), g)
follows_above m Call a own below q e stack rest g h = (q ∷ own, sym h.1, (h.0, refl), g)
follows_above m Back a [] below q e stack rest g h = absurd (false≢true g)
follows_above m Back a (p ∷ own) below q e stack rest g h = (own, sym h.1, (h.0, refl), g)

-- more open calls around a way
pub moves_below : (m : Automaton) (w : List Letter) (before after below : List ℕ) (q e : ℕ) →
    Moves m before q w after e → Moves m (before ++ below) q w (after ++ below) e
moves_below m [] before after below q e h = (ap (λ (s : List ℕ). s ++ below) h.0, h.1)
moves_below m (a ∷ w) before after below q e h =
    let f = follows_stack m a.kind a before q h.0 (λ stack. Moves m stack h.0 w after e) h.1 in (
      h.0,
      follows_with m a.kind a (before ++ below) q h.0 (f.0 ++ below) (λ stack. Moves m stack h.0 w (after ++ below) e)
          (follows_below m a.kind a before below q h.0 f.0 f.1) (moves_below m w f.0 after below h.0 e f.2),
    )

pub moves_above : (m : Automaton) (w : List Letter) (own below after : List ℕ) (q e : ℕ) →
    are_matched (length own) w ≡ true → Moves m (own ++ below) q w after e →
    (own' : List ℕ) × (after ≡ own' ++ below) × Moves m own q w own' e
moves_above m [] own below after q e g h = (own, sym h.0, (refl, h.1))
moves_above m (a ∷ w) own below after q e g h =
    let f = follows_stack m a.kind a (own ++ below) q h.0 (λ stack. Moves m stack h.0 w after e) h.1 in
    let k = follows_above m a.kind a own below q h.0 f.0 (λ n. are_matched n w) g f.1 in
    let r = moves_above m w k.0 below after h.0 e k.3 (subst (λ (s : List ℕ). Moves m s h.0 w after e) k.1 f.2) in
    (r.0, r.1, (h.0, follows_with m a.kind a own q h.0 k.0 (λ stack. Moves m stack h.0 w r.0 e) k.2 r.2))

pub moves_matched : (m : Automaton) (w : List Letter) (before after : List ℕ) (q e : ℕ) → IsTrue (are_matched 0 w) →
    Moves m before q w after e ↔ ((own : List ℕ) × (after ≡ own ++ before) × Moves m [] q w own e)
moves_matched m w before after q e g = (
  moves_above m w [] before after q e g,
  λ h. subst (λ (s : List ℕ). Moves m before q w s e) (sym h.1) (moves_below m w [] h.0 before q e h.2),
)

-- edges that another automaton has too
follows_there : (m n : Automaton) → SameEdges m n → (kind : Kind) (a : Letter) (before : List ℕ) (q e : ℕ) (P : List ℕ → Type 0) →
    Follows m kind a before q e P → Follows n kind a before q e P
follows_there m n s Inside a before q e P h = (s.insides.there (q, a, e) h.0, h.1)
follows_there m n s Call a before q e P h = (s.calls.there (q, a, e) h.0, h.1)
follows_there m n s Back a [] q e P h = absurd h
follows_there m n s Back a (p ∷ before) q e P h = (s.backs.there (q, p, a, e) h.0, h.1)

accepts_there : (m n : Automaton) → SameEdges m n → (w : List Letter) (before : List ℕ) (q : ℕ) → AcceptsFrom m before q w → AcceptsFrom n before q w
accepts_there m n s [] before q h = s.finals.there q h
accepts_there m n s (a ∷ w) before q h =
    let f = follows_stack m a.kind a before q h.0 (λ stack. AcceptsFrom m stack h.0 w) h.1 in (
      h.0,
      follows_with n a.kind a before q h.0 f.0 (λ stack. AcceptsFrom n stack h.0 w)
          (follows_there m n s a.kind a before q h.0 (λ stack. stack ≡ f.0) f.1) (accepts_there m n s w f.0 h.0 f.2),
    )

turned : {X : Type 0} (xs ys : List X) → SameMembers xs ys → SameMembers ys xs
turned xs ys s = record { there = s.back; back = s.there }

same_back : (m n : Automaton) → SameEdges m n → SameEdges n m
same_back m n s = record {
  start = sym s.start;
  finals = turned m.finals n.finals s.finals;
  insides = turned m.insides n.insides s.insides;
  calls = turned m.calls n.calls s.calls;
  backs = turned m.backs n.backs s.backs;
}

pub same_edges_accept : (m n : Automaton) (w : List Letter) → SameEdges m n → Accepts m w ↔ Accepts n w
same_edges_accept m n w s = (
  λ h. subst (λ (q : ℕ). AcceptsFrom n [] q w) s.start (accepts_there m n s w [] m.start h),
  λ h. subst (λ (q : ℕ). AcceptsFrom m [] q w) (sym s.start) (accepts_there n m (same_back m n s) w [] n.start h),
)

-- a run that is cut
run_cut_from : (m : Automaton) (u v : List Letter) (before : List ℕ) (q : ℕ) (more : List ℕ) →
    RunOn m before q (u ++ v) more → EndsFinal m (q ∷ more) →
    (mid : List ℕ) × Moves m before q u mid (slice_index (q ∷ more) (length u)) × AcceptsFrom m mid (slice_index (q ∷ more) (length u)) v
run_cut_from m [] v before q more h g = (before, (refl, refl), run_accepted m v before q more h g)
run_cut_from m (a ∷ u) v before q [] h g = absurd h
run_cut_from m (a ∷ u) v before q (e ∷ more) h g =
    let f = follows_stack m a.kind a before q e (λ stack. RunOn m stack e (u ++ v) more) h in
    let r = run_cut_from m u v f.0 e more f.2 g in
    (r.0, (e, follows_with m a.kind a before q e f.0 (λ stack. Moves m stack e u r.0 (slice_index (e ∷ more) (length u))) f.1 r.1), r.2)

pub run_cut : (m : Automaton) (u v : List Letter) (run : List ℕ) → IsAcceptingRun m (u ++ v) run →
    (before : List ℕ) × Moves m [] m.start u before (slice_index run (length u)) × AcceptsFrom m before (slice_index run (length u)) v
run_cut m u v [] h = absurd h.is_run.start
run_cut m u v (q ∷ more) h =
    let r = run_cut_from m u v [] q more (steps_run m (q ∷ more) (u ++ v) [] [] q more refl refl h.is_run.steps) h.ends in
    (r.0, subst (λ (n : ℕ). Moves m [] n u r.0 (slice_index (q ∷ more) (length u))) h.is_run.start r.1, r.2)

-- how many calls are open after one letter more
abbrev pub opened_by : Kind → ℕ → ℕ
opened_by Inside n = n
opened_by Call n = suc n
opened_by Back n = n - 1

-- how many calls are open after letters, last first
abbrev pub opened : List Letter → ℕ
opened [] = 0
opened (a ∷ front) = opened_by a.kind (opened front)

counted_some : (kind : Kind) (place skip n : ℕ) (rest : ℕ → Option ℕ) → ((k : ℕ) → IsSome (rest k) ↔ (k < n)) →
    IsSome (counted kind place skip rest) ↔ (skip < opened_by kind n)
counted_some Inside place skip n rest h = h skip
counted_some Call place zero n rest h = (λ g. omega arith, λ g. refl)
counted_some Call place (suc skip) n rest h = (λ g. let k : skip < n = (h skip).0 g in omega arith, λ g. (h skip).1 (omega arith))
counted_some Back place skip n rest h = (λ g. let k : suc skip < n = (h (suc skip)).0 g in omega arith, λ g. (h (suc skip)).1 (omega arith))

-- counting finds a call exactly where one is open
matched_some : (front : List Letter) (skip : ℕ) → IsSome (match_back front skip) ↔ (skip < opened front)
matched_some [] skip = (λ h. absurd (false≢true h), λ h. absurd (omega arith))
matched_some (a ∷ front) skip = counted_some a.kind (length front) skip (opened front) (match_back front) (matched_some front)

letter_matched : (kind : Kind) (n : ℕ) (found : Type 0) (rest : ℕ → Bool) (R : Type 0) → found ↔ (0 < n) → (rest (opened_by kind n) ≡ true) ↔ R →
    (goes_on kind n rest ≡ true) ↔ ((kind ≡ Back → found) × R)
letter_matched Inside n found rest R f r = (λ h. (λ e. cc, r.0 h), λ h. r.1 h.1)
letter_matched Call n found rest R f r = (λ h. (λ e. cc, r.0 h), λ h. r.1 h.1)
letter_matched Back zero found rest R f r = (λ h. absurd (false≢true h), λ h. absurd (let k : 0 < 0 = f.0 (h.0 refl) in omega arith))
letter_matched Back (suc n) found rest R f r =
    let e : suc n - 1 ≡ n = omega arith in
    let s = subst (λ (k : ℕ). (rest k ≡ true) ↔ R) e r in
    (λ h. (λ i. f.1 (omega arith), s.0 h), λ h. s.1 h.1)

counted_matched : (w front : List Letter) → (are_matched (opened front) w ≡ true) ↔ HasMatches front w
counted_matched [] front = (λ h. tt, λ h. refl)
counted_matched (a ∷ w) front =
    letter_matched a.kind (opened front) (IsSome (match_back front 0)) (λ n. are_matched n w) (HasMatches (a ∷ front) w)
    (matched_some front 0) (counted_matched w (a ∷ front))

pub matched_by_counting : (w : List Letter) → IsTrue (are_matched 0 w) ↔ HasMatches [] w
matched_by_counting w = counted_matched w []
