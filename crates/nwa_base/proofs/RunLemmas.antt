-- Runs as lists of states, against acceptance from the front.
use Rattle.std.proofs.Common.{◌≡◌, ◌↔◌, ◌∙◌, ℕ, zero, suc, List, [], ◌∷◌, ◌++◌, length, reverse, Option, None, Some, refl, sym, ap, subst, append_assoc, arith}
use Rattle.std.specs.Prelude.{slice_index}
use Rattle.std.specs.Option.{option_map}
use Rattle.std.proofs.lemmas.List.{reverse-append, length-reverse}
use Rattle.std.proofs.Math.Seq.{get_or-append_seam}
use Rattle.nwa_base.specs.declared.letters.Kind.{Kind}
use Rattle.nwa_base.specs.declared.letters.Kind.TheVariants.{Inside, Call, Back}
use Rattle.nwa_base.specs.declared.letters.Letter.{Letter}
use Rattle.nwa_base.specs.Members.{Member}
use Rattle.nwa_base.specs.Words.{counted, match_back}
use Rattle.nwa_base.specs.Automata.{Automaton}
use Rattle.nwa_base.specs.Acceptance.{Follows, AcceptsFrom, Accepts}
use Rattle.nwa_base.specs.Runs.{StepsTo, StepsOn, EndsFinal, IsAcceptingRun}

-- an edge leads to one stack of states before the open calls
pub follows_stack : (m : Automaton) (kind : Kind) (a : Letter) (before : List ℕ) (q e : ℕ) (P : List ℕ → Type 0) →
    Follows m kind a before q e P → (stack : List ℕ) × Follows m kind a before q e (λ s. s ≡ stack) × P stack
follows_stack m Inside a before q e P h = (before, (h.0, refl), h.1)
follows_stack m Call a before q e P h = (q ∷ before, (h.0, refl), h.1)
follows_stack m Back a [] q e P h = absurd h
follows_stack m Back a (p ∷ before) q e P h = (before, (h.0, refl), h.1)

pub follows_with : (m : Automaton) (kind : Kind) (a : Letter) (before : List ℕ) (q e : ℕ) (stack : List ℕ) (P : List ℕ → Type 0) →
    Follows m kind a before q e (λ s. s ≡ stack) → P stack → Follows m kind a before q e P
follows_with m Inside a before q e stack P h g = (h.0, subst P (sym h.1) g)
follows_with m Call a before q e stack P h g = (h.0, subst P (sym h.1) g)
follows_with m Back a [] q e stack P h g = absurd h
follows_with m Back a (p ∷ before) q e stack P h g = (h.0, subst P (sym h.1) g)

-- the states after q on a way through the word, with the states before the open calls
abbrev pub RunOn : Automaton → List ℕ → ℕ → List Letter → List ℕ → Type 0
RunOn m before q [] [] = Unit {0}
RunOn m before q [] (e ∷ more) = ⊥
RunOn m before q (a ∷ w) [] = ⊥
RunOn m before q (a ∷ w) (e ∷ more) = Follows m a.kind a before q e (λ stack. RunOn m stack e w more)

pub accepted_run : (m : Automaton) (w : List Letter) (before : List ℕ) (q : ℕ) → AcceptsFrom m before q w →
    (more : List ℕ) × RunOn m before q w more × EndsFinal m (q ∷ more)
accepted_run m [] before q h = ([], tt, h)
accepted_run m (a ∷ w) before q h =
    let e : ℕ = h.0 in
    let f = follows_stack m a.kind a before q e (λ stack. AcceptsFrom m stack e w) h.1 in
    let r = accepted_run m w f.0 e f.2 in
    (e ∷ r.0, follows_with m a.kind a before q e f.0 (λ stack. RunOn m stack e w r.0) f.1 r.1, r.2)

pub run_accepted : (m : Automaton) (w : List Letter) (before : List ℕ) (q : ℕ) (more : List ℕ) →
    RunOn m before q w more → EndsFinal m (q ∷ more) → AcceptsFrom m before q w
run_accepted m [] before q [] h g = g
run_accepted m [] before q (e ∷ more) h g = absurd h
run_accepted m (a ∷ w) before q [] h g = absurd h
run_accepted m (a ∷ w) before q (e ∷ more) h g =
    let f = follows_stack m a.kind a before q e (λ stack. RunOn m stack e w more) h in
    (e, follows_with m a.kind a before q e f.0 (λ stack. AcceptsFrom m stack e w) f.1 (run_accepted m w f.0 e more f.2 g))

-- the states before the open calls, after one letter more
abbrev pub pushed : Kind → ℕ → List ℕ → List ℕ
pushed Inside q s = s
pushed Call q s = q ∷ s
pushed Back q [] = []
pushed Back q (p ∷ s) = s

-- the states before the calls that are open after these letters and states, both last first
abbrev pub stack_of : List Letter → List ℕ → List ℕ
stack_of [] past = []
stack_of (a ∷ front) [] = []
stack_of (a ∷ front) (q ∷ past) = pushed a.kind q (stack_of front past)

-- the state before the call that matches, found by counting
abbrev pub found : List Letter → List ℕ → ℕ → Option ℕ
found [] past skip = None
found (a ∷ front) [] skip = None
found (a ∷ front) (q ∷ past) skip = counted a.kind q skip (λ n. found front past n)

abbrev pub nth : List ℕ → ℕ → Option ℕ
nth [] n = None
nth (x ∷ xs) zero = Some x
nth (x ∷ xs) (suc n) = nth xs n

found_step : (kind : Kind) (q skip : ℕ) (s : List ℕ) (f : ℕ → Option ℕ) → ((n : ℕ) → f n ≡ nth s n) →
    counted kind q skip f ≡ nth (pushed kind q s) skip
found_step Inside q skip s f h = h skip
found_step Call q zero s f h = refl
found_step Call q (suc n) s f h = h n
found_step Back q skip [] f h = h (suc skip)
found_step Back q skip (p ∷ s) f h = h (suc skip)

-- counting finds the states before the open calls in turn
found_nth : (front : List Letter) (past : List ℕ) (skip : ℕ) → found front past skip ≡ nth (stack_of front past) skip
found_nth [] past skip = refl
found_nth (a ∷ front) [] skip = refl
found_nth (a ∷ front) (q ∷ past) skip = found_step a.kind q skip (stack_of front past) (found front past) (λ n. found_nth front past n)

counted_map : (kind : Kind) (f : ℕ → ℕ) (place q skip : ℕ) (states places : ℕ → Option ℕ) → f place ≡ q →
    ((n : ℕ) → states n ≡ option_map f (places n)) → counted kind q skip states ≡ option_map f (counted kind place skip places)
counted_map Inside f place q skip states places e h = h skip
counted_map Call f place q zero states places e h = ap (λ n. Some n) (sym e)
counted_map Call f place q (suc n) states places e h = h n
counted_map Back f place q skip states places e h = h (suc skip)

seam : (run past rest : List ℕ) (q : ℕ) → run ≡ reverse (q ∷ past) ++ rest → run ≡ reverse past ++ q ∷ rest
seam run past rest q e =
    e ∙ ap (λ (l : List ℕ). l ++ rest) (reverse-append (q ∷ []) past) ∙ append_assoc (reverse past) (q ∷ []) rest

unseam : (run past rest : List ℕ) (q : ℕ) → run ≡ reverse past ++ q ∷ rest → run ≡ reverse (q ∷ past) ++ rest
unseam run past rest q e =
    e ∙ sym (ap (λ (l : List ℕ). l ++ rest) (reverse-append (q ∷ []) past) ∙ append_assoc (reverse past) (q ∷ []) rest)

at_seam : (run past rest : List ℕ) (q n : ℕ) → run ≡ reverse past ++ q ∷ rest → n ≡ length past → slice_index run n ≡ q
at_seam run past rest q n e l =
    ap (λ (r : List ℕ). slice_index r n) e ∙ ap (slice_index (reverse past ++ q ∷ rest)) (l ∙ sym (length-reverse past)) ∙
    get_or-append_seam (reverse past) q rest 0

-- the state that counting finds is the run's state at the place that counting finds
placed : (run : List ℕ) (front : List Letter) (past rest : List ℕ) (skip : ℕ) → length front ≡ length past → run ≡ reverse past ++ rest →
    found front past skip ≡ option_map (slice_index run) (match_back front skip)
placed run [] past rest skip l e = refl
placed run (a ∷ front) [] rest skip l e = absurd (omega arith)
placed run (a ∷ front) (q ∷ past) rest skip l e =
    let same : length front ≡ length past = omega arith in
    let next = seam run past rest q e in
    counted_map a.kind (slice_index run) (length front) q skip (found front past) (match_back front)
    (at_seam run past rest q (length front) next same) (λ n. placed run front past (q ∷ rest) n same next)

follows_pushed : (m : Automaton) (kind : Kind) (a : Letter) (before : List ℕ) (q e : ℕ) (stack : List ℕ) →
    Follows m kind a before q e (λ s. s ≡ stack) → pushed kind q before ≡ stack
follows_pushed m Inside a before q e stack h = h.1
follows_pushed m Call a before q e stack h = h.1
follows_pushed m Back a [] q e stack h = absurd h
follows_pushed m Back a (p ∷ before) q e stack h = h.1

mapped_some : (f : ℕ → ℕ) (o : Option ℕ) (p : ℕ) → Some p ≡ option_map f o → (place : ℕ) × (o ≡ Some place) × (p ≡ f place)
mapped_some f None p h = cc
mapped_some f (Some place) p h = (place, refl, cc)

followed_steps : (m : Automaton) (run : List ℕ) (kind : Kind) (front : List Letter) (a : Letter) (before : List ℕ) (q e : ℕ) (stack : List ℕ) →
    nth before 0 ≡ option_map (slice_index run) (match_back front 0) → Follows m kind a before q e (λ s. s ≡ stack) → StepsTo m run kind front q a e
followed_steps m run Inside front a before q e stack n h = h.0
followed_steps m run Call front a before q e stack n h = h.0
followed_steps m run Back front a [] q e stack n h = absurd h
followed_steps m run Back front a (p ∷ before) q e stack n h =
    let r = mapped_some (slice_index run) (match_back front 0) p n in
    (r.0, r.1, subst (λ (x : ℕ). Member m.backs (q, x, a, e)) r.2 h.0)

stepped_follows : (m : Automaton) (run : List ℕ) (kind : Kind) (front : List Letter) (a : Letter) (before : List ℕ) (q e : ℕ) →
    nth before 0 ≡ option_map (slice_index run) (match_back front 0) → StepsTo m run kind front q a e →
    Follows m kind a before q e (λ s. s ≡ pushed kind q before)
stepped_follows m run Inside front a before q e n h = (h, refl)
stepped_follows m run Call front a before q e n h = (h, refl)
stepped_follows m run Back front a [] q e n h = let k = n ∙ ap (option_map (slice_index run)) h.1 in absurd (cc)
stepped_follows m run Back front a (p ∷ before) q e n h =
    let k : Some p ≡ Some (slice_index run h.0) = n ∙ ap (option_map (slice_index run)) h.1 in
    let i : p ≡ slice_index run h.0 = cc in
    (subst (λ (x : ℕ). Member m.backs (q, x, a, e)) (sym i) h.2, refl)

-- the first of the states before the open calls is the run's state at the place of the match
matched : (run : List ℕ) (front : List Letter) (past rest : List ℕ) → length front ≡ length past → run ≡ reverse past ++ rest →
    nth (stack_of front past) 0 ≡ option_map (slice_index run) (match_back front 0)
matched run front past rest l e = sym (found_nth front past 0) ∙ placed run front past rest 0 l e

pub run_steps : (m : Automaton) (run : List ℕ) (w front : List Letter) (past : List ℕ) (q : ℕ) (more : List ℕ) →
    length front ≡ length past → run ≡ reverse past ++ q ∷ more → RunOn m (stack_of front past) q w more → StepsOn m run front w (q ∷ more)
run_steps m run [] front past q [] l e h = tt
run_steps m run [] front past q (r ∷ more) l e h = absurd h
run_steps m run (a ∷ w) front past q [] l e h = absurd h
run_steps m run (a ∷ w) front past q (r ∷ more) l e h =
    let f = follows_stack m a.kind a (stack_of front past) q r (λ stack. RunOn m stack r w more) h in
    let same : length (a ∷ front) ≡ length (q ∷ past) = omega arith in (
      followed_steps m run a.kind front a (stack_of front past) q r f.0 (matched run front past (q ∷ r ∷ more) l e) f.1,
      run_steps m run w (a ∷ front) (q ∷ past) r more same (unseam run past (r ∷ more) q e)
          (subst (λ (s : List ℕ). RunOn m s r w more) (sym (follows_pushed m a.kind a (stack_of front past) q r f.0 f.1)) f.2),
    )

pub steps_run : (m : Automaton) (run : List ℕ) (w front : List Letter) (past : List ℕ) (q : ℕ) (more : List ℕ) →
    length front ≡ length past → run ≡ reverse past ++ q ∷ more → StepsOn m run front w (q ∷ more) → RunOn m (stack_of front past) q w more
steps_run m run [] front past q [] l e h = tt
steps_run m run [] front past q (r ∷ more) l e h = absurd h
steps_run m run (a ∷ w) front past q [] l e h = absurd h
steps_run m run (a ∷ w) front past q (r ∷ more) l e h =
    let same : length (a ∷ front) ≡ length (q ∷ past) = omega arith in
    let f = stepped_follows m run a.kind front a (stack_of front past) q r (matched run front past (q ∷ r ∷ more) l e) h.0 in
    follows_with m a.kind a (stack_of front past) q r (pushed a.kind q (stack_of front past)) (λ stack. RunOn m stack r w more) f
    (steps_run m run w (a ∷ front) (q ∷ past) r more same (unseam run past (r ∷ more) q e) h.1)

-- a way through the word from the start, as a run
pub accepting_run : (m : Automaton) (w : List Letter) (more : List ℕ) → RunOn m [] m.start w more → EndsFinal m (m.start ∷ more) →
    IsAcceptingRun m w (m.start ∷ more)
accepting_run m w more h g = record {
  is_run = record { start = refl; steps = run_steps m (m.start ∷ more) w [] [] m.start more refl refl h };
  ends = g;
}

pub run_accepts : (m : Automaton) (w : List Letter) (run : List ℕ) → IsAcceptingRun m w run → Accepts m w
run_accepts m w [] h = absurd h.is_run.start
run_accepts m w (q ∷ more) h =
    subst (λ (n : ℕ). AcceptsFrom m [] n w) h.is_run.start
    (run_accepted m w [] q more (steps_run m (q ∷ more) w [] [] q more refl refl h.is_run.steps) h.ends)

-- a word is accepted exactly where some run over it ends in a final state
pub accepted_by_run : (m : Automaton) (w : List Letter) → Accepts m w ↔ ((run : List ℕ) × IsAcceptingRun m w run)
accepted_by_run m w = (
  λ h. let r = accepted_run m w [] m.start h in (m.start ∷ r.0, accepting_run m w r.0 r.1 r.2),
  λ h. run_accepts m w h.0 h.1,
)
