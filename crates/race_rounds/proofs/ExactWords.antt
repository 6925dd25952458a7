-- The words of an automaton without its edges by coarse letters.
use Rattle.std.proofs.Common.{◌≡◌, ◌∙◌, ℕ, Bool, true, false, List, [], ◌∷◌, Result, Ok, Err, refl, sym, ap, subst}
use Rattle.std.specs.Prelude.{not, IfOk}
use Rattle.nwa_base.specs.declared.letters.Kind.{Kind}
use Rattle.nwa_base.specs.declared.letters.Kind.TheVariants.{Inside, Call, Back}
use Rattle.nwa_base.specs.declared.letters.Letter.{Letter}
use Rattle.nwa_base.specs.Automata.{Automaton}
use Rattle.nwa_base.specs.Acceptance.{AcceptsFrom, Accepts, Follows}
use Rattle.nwa_base.proofs.MemberLemmas.{member_filter, filter_member}
use Rattle.letter_acts.specs.Invariant.{Graph, mark_at}
use Rattle.lowered_graph.specs.Laws.{IsExactWord}
use Rattle.nwa_emptiness.specs.declared.finding.Found.{Found}
use Rattle.nwa_emptiness.specs.declared.finding.Found.TheVariants as founds
use Rattle.nwa_emptiness.specs.Found.{IsFound}
use Rattle.race_rounds.specs.Ties.Exact.{exact_part, IsExactFound}

is_not : (b : Bool) → not b ≡ true → b ≡ false
is_not true e = sym e
is_not false e = refl

is_then : (b : Bool) → b ≡ false → not b ≡ true
is_then b e = ap not e

-- a step of the smaller automaton is one of the automaton, by a letter that is not coarse
step : (g : Graph) (m : Automaton) (k : Kind) (a : Letter) (before : List ℕ) (q e : ℕ) (more less : List ℕ → Type 0) →
    ((stack : List ℕ) → less stack → more stack) → Follows (exact_part g m) k a before q e less → Follows m k a before q e more × (mark_at g a.id ≡ false)
step g m Inside a before q e more less f h = let k = filter_member (λ (x : ℕ × Letter × ℕ). not (mark_at g x.1.id)) m.insides (q, a, e) h.0 in ((k.0, f before h.1), is_not (mark_at g a.id) k.1)
step g m Call a before q e more less f h = let k = filter_member (λ (x : ℕ × Letter × ℕ). not (mark_at g x.1.id)) m.calls (q, a, e) h.0 in ((k.0, f (q ∷ before) h.1), is_not (mark_at g a.id) k.1)
step g m Back a [] q e more less f h = absurd h
step g m Back a (p ∷ before) q e more less f h =
    let k = filter_member (λ (x : ℕ × ℕ × Letter × ℕ). not (mark_at g x.2.id)) m.backs (q, p, a, e) h.0 in ((k.0, f before h.1), is_not (mark_at g a.id) k.1)

-- and the other way
step_back : (g : Graph) (m : Automaton) (k : Kind) (a : Letter) (before : List ℕ) (q e : ℕ) (more less : List ℕ → Type 0) →
    ((stack : List ℕ) → more stack → less stack) → mark_at g a.id ≡ false → Follows m k a before q e more → Follows (exact_part g m) k a before q e less
step_back g m Inside a before q e more less f i h = (member_filter (λ (x : ℕ × Letter × ℕ). not (mark_at g x.1.id)) m.insides (q, a, e) h.0 (is_then (mark_at g a.id) i), f before h.1)
step_back g m Call a before q e more less f i h = (member_filter (λ (x : ℕ × Letter × ℕ). not (mark_at g x.1.id)) m.calls (q, a, e) h.0 (is_then (mark_at g a.id) i), f (q ∷ before) h.1)
step_back g m Back a [] q e more less f i h = absurd h
step_back g m Back a (p ∷ before) q e more less f i h =
    (member_filter (λ (x : ℕ × ℕ × Letter × ℕ). not (mark_at g x.2.id)) m.backs (q, p, a, e) h.0 (is_then (mark_at g a.id) i), f before h.1)

accepts_from : (g : Graph) (m : Automaton) (w : List Letter) (before : List ℕ) (q : ℕ) → AcceptsFrom (exact_part g m) before q w → AcceptsFrom m before q w
accepts_from g m [] before q h = h
accepts_from g m (a ∷ w) before q h =
    (h.0, (step g m a.kind a before q h.0 (λ stack. AcceptsFrom m stack h.0 w) (λ stack. AcceptsFrom (exact_part g m) stack h.0 w) (λ stack. accepts_from g m w stack h.0) h.1).0)

first : (g : Graph) (m : Automaton) (k : Kind) (a : Letter) (before : List ℕ) (q e : ℕ) (rest : List ℕ → Type 0) →
    Follows (exact_part g m) k a before q e rest → (stack : List ℕ) × rest stack
first g m Inside a before q e rest h = (before, h.1)
first g m Call a before q e rest h = (q ∷ before, h.1)
first g m Back a [] q e rest h = absurd h
first g m Back a (p ∷ before) q e rest h = (before, h.1)

exact_from : (g : Graph) (m : Automaton) (w : List Letter) (before : List ℕ) (q : ℕ) → AcceptsFrom (exact_part g m) before q w → IsExactWord g w
exact_from g m [] before q h = tt
exact_from g m (a ∷ w) before q h =
    let rest = first g m a.kind a before q h.0 (λ stack. AcceptsFrom (exact_part g m) stack h.0 w) h.1 in (
      (step g m a.kind a before q h.0 (λ stack. AcceptsFrom (exact_part g m) stack h.0 w) (λ stack. AcceptsFrom (exact_part g m) stack h.0 w) (λ stack r. r) h.1).1,
      exact_from g m w rest.0 h.0 rest.1,
    )

exact_accepts : (g : Graph) (m : Automaton) (w : List Letter) (before : List ℕ) (q : ℕ) → IsExactWord g w → AcceptsFrom m before q w → AcceptsFrom (exact_part g m) before q w
exact_accepts g m [] before q i h = h
exact_accepts g m (a ∷ w) before q i h = (
  h.0,
  step_back g m a.kind a before q h.0 (λ stack. AcceptsFrom m stack h.0 w) (λ stack. AcceptsFrom (exact_part g m) stack h.0 w)
      (λ stack. exact_accepts g m w stack h.0 i.1) i.0 h.1,
)

-- what is found in the smaller automaton
found_exact : (g : Graph) (m : Automaton) (f : Found) → IsFound (exact_part g m) f → IsExactFound g m f
found_exact g m (founds.Word w) h = (accepts_from g m w [] m.start h, exact_from g m w [] m.start h)
found_exact g m founds.Empty h = λ w a i. h w (exact_accepts g m w [] m.start i a)

-- what the search answers
pub search_answers : {E : Type 0} (g : Graph) (m n : Automaton) (r : Result Found E) → n ≡ exact_part g m → IfOk r (IsFound n) → IfOk r (IsExactFound g m)
search_answers g m n (Ok f) e h = found_exact g m f (subst (λ (x : Automaton). IsFound x f) e h)
search_answers g m n (Err x) e h = tt
