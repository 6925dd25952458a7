-- The triples that are tried by a letter, by the numbers of their predicates among those that are found.
use Rattle.std.specs.Prelude.{◌≡◌, ℕ, zero, suc, Bool, false, ◌&&◌, nat_eq, List, [], ◌∷◌, ◌++◌, map, filter, Option, None, Some, slice_get, if◌then◌else◌}
use Rattle.std.specs.List.{AllByRecursion, flat_map, filter_map}
use Rattle.nwa_base.specs.Members.{Member, SameMembers}
use Rattle.letter_acts.specs.Acts.{PlainAct, inside_act, call_act, back_act}
use Rattle.letter_acts.specs.Invariant.{Graph, alphabet_of}
use Rattle.triple_rows.specs.declared.triples.Scoped.{Scoped}
use Rattle.triple_rows.specs.declared.triples.Triple.{Triple}
use Rattle.triple_rows.specs.Triples.{Agrees}
use Rattle.proof_form.specs.Annotations.{Content}
use Rattle.proof_names.specs.declared.outlines.Listed.{Listed}
use Rattle.proof_names.specs.declared.outlines.Listed.TheVariants.{Inside, Call, Back}
use Rattle.proof_names.specs.Naming.{scoped_at, triple_at}
use Rattle.itp_automaton.specs.Settling.{letter_in}
use Rattle.proof_reuse.specs.Candidates.{IsCandidate}
use Rattle.proof_reuse.specs.Ties.Numbers.{AreFound, inside_pair, call_pair, back_three}

-- what is taken from an annotation: predicates that are found, and lines by their numbers
pub record Taken : Type 0 where
  pub preds : List Scoped
  pub insides : List (ℕ × ℕ)
  pub calls : List (ℕ × ℕ)
  pub backs : List (ℕ × ℕ × ℕ)

-- It is taken from this annotation.
pub record IsTakenFrom (g : Graph) (old : Content) (t : Taken) : Type 0 where
  pub numbers : List (Option ℕ)
  pub found : AreFound g old.preds t.preds numbers
  pub insides : SameMembers t.insides (filter_map (inside_pair numbers) old.triples)
  pub calls : SameMembers t.calls (filter_map (call_pair numbers) old.triples)
  pub backs : SameMembers t.backs (filter_map (back_three numbers) old.triples)

-- ---- by a letter

abbrev pub is_of : ℕ → Option Scoped → Bool
is_of p None = false
is_of p (Some s) = nat_eq s.proc p

-- the number is that of true, of false, or of a predicate of the procedure
abbrev pub is_in : List Scoped → ℕ → ℕ → Bool
is_in preds p k = is_of p (scoped_at (slice_get preds) p k)

-- the numbers of the predicates of a procedure, from number k on
abbrev pub numbers_from : ℕ → ℕ → List Scoped → List ℕ
numbers_from p k [] = []
numbers_from p k (s ∷ ss) = if nat_eq s.proc p then k ∷ numbers_from p (suc k) ss else numbers_from p (suc k) ss

abbrev pub numbers_in : List Scoped → ℕ → List ℕ
numbers_in preds p = numbers_from p 2 preds

-- a source, and where it is true also those of the list
abbrev pub sources : List ℕ → ℕ → List ℕ
sources here zero = 0 ∷ here
sources here (suc k) = suc k ∷ []

abbrev pub pair_sources : List ℕ → (ℕ × ℕ) → List (ℕ × ℕ)
pair_sources here c = map (λ s. (s, c.1)) (sources here c.0)

abbrev pub pair_fits : List Scoped → ℕ → ℕ → (ℕ × ℕ) → Bool
pair_fits preds p q c = is_in preds p c.0 && is_in preds q c.1

-- sources in procedure p with targets in q: true to true, false to false, and what the pairs give
abbrev pub pair_choices : List Scoped → List (ℕ × ℕ) → ℕ → ℕ → List (ℕ × ℕ)
pair_choices preds pairs p q = (0, 0) ∷ ((1, 1) ∷ flat_map (pair_sources (numbers_in preds p)) (filter (pair_fits preds p q) pairs))

-- each predicate of a procedure with true
abbrev pub begun_pairs : List Scoped → ℕ → List (ℕ × ℕ)
begun_pairs preds p = map (λ k. (k, 0)) (numbers_in preds p)

-- the same of a call, which may also begin with true whatever is known before it
abbrev pub call_pair_choices : List Scoped → List (ℕ × ℕ) → ℕ → ℕ → List (ℕ × ℕ)
call_pair_choices preds pairs p q = pair_choices preds pairs p q ++ begun_pairs preds p

abbrev pub three_sources : List ℕ → List ℕ → (ℕ × ℕ × ℕ) → List (ℕ × ℕ × ℕ)
three_sources exits befores c = flat_map (λ x. map (λ b. (x, b, c.2)) (sources befores c.1)) (sources exits c.0)

abbrev pub three_fits : List Scoped → ℕ → ℕ → (ℕ × ℕ × ℕ) → Bool
three_fits preds callee caller c = is_in preds callee c.0 && (is_in preds caller c.1 && is_in preds caller c.2)

-- the same of a return
abbrev pub three_choices : List Scoped → List (ℕ × ℕ × ℕ) → ℕ → ℕ → List (ℕ × ℕ × ℕ)
three_choices preds threes callee caller =
    (0, 0, 0) ∷ ((1, 0, 1) ∷ ((0, 1, 1) ∷
    flat_map (three_sources (numbers_in preds callee) (numbers_in preds caller)) (filter (three_fits preds callee caller) threes)))

abbrev pub inside_listed : ℕ → (ℕ × ℕ) → Listed
inside_listed l c = Inside c.0 l c.1

abbrev pub call_listed : ℕ → (ℕ × ℕ) → Listed
call_listed l c = Call c.0 l c.1

abbrev pub back_listed : ℕ → (ℕ × ℕ × ℕ) → Listed
back_listed l c = Back c.0 c.1 l c.2

-- by a return from a call with this act
abbrev pub return_choices : Taken → ℕ → Option PlainAct → List Listed
return_choices t l None = []
return_choices t l (Some (inside_act p written helpers rows)) = []
return_choices t l (Some (call_act caller callee helpers rows)) = map (back_listed l) (three_choices t.preds t.backs callee caller)
return_choices t l (Some (back_act c targets)) = []

-- by a letter with this act
abbrev pub act_choices : List PlainAct → Taken → ℕ → Option PlainAct → List Listed
act_choices acts t l None = []
act_choices acts t l (Some (inside_act p written helpers rows)) = map (inside_listed l) (pair_choices t.preds t.insides p p)
act_choices acts t l (Some (call_act caller callee helpers rows)) = map (call_listed l) (call_pair_choices t.preds t.calls caller callee)
act_choices acts t l (Some (back_act c targets)) = return_choices t l (slice_get acts c)

-- the choices by a letter
abbrev pub choices_by : Graph → Taken → ℕ → List Listed
choices_by g t l = act_choices g.acts t l (slice_get g.acts l)

-- the triple is the one with these numbers, and agrees with its letter
pub record IsPicked (g : Graph) (preds : List Scoped) (listed : Listed) (t : Triple) : Type 0 where
  pub is : triple_at g.acts (slice_get preds) listed ≡ Some t
  pub agrees : Agrees (alphabet_of g) t

-- the triples are those of the numbers that agree with their letters
pub record ArePicked (g : Graph) (preds : List Scoped) (listed : List Listed) (triples : List Triple) : Type 0 where
  pub each : AllByRecursion (λ t. (x : Listed) × Member listed x × IsPicked g preds x t) triples
  pub all : (x : Listed) (t : Triple) → Member listed x → IsPicked g preds x t → Member triples t

-- the triples are the candidates by this letter
pub record AreCandidatesBy (g : Graph) (old : Content) (letter : ℕ) (triples : List Triple) : Type 0 where
  pub each : AllByRecursion (IsCandidate g old) triples
  pub all : (t : Triple) → IsCandidate g old t → letter_in t ≡ letter → Member triples t
